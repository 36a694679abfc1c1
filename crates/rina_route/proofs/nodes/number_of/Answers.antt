-- A search finds an address that is there.
use Rattle.rina_route.proofs.Numbers.{found}
use Rattle.rina_route.proofs.nodes.number_of.Goals as goal

pub unreachable-requires : goal.unreachable-requires
unreachable-requires c = found c.args.nodes.now c.args.addr c.in-Err.field-0 c.requires.rise c.requires.there c.in-Err.ensures.position
