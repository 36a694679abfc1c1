use Rattle.rina_flood.proofs.Static.{network_starts}
use Rattle.rina_flood.proofs.Stating.{others_tell_none, static_tells}
use Rattle.rina_flood.proofs.laws.members_start_as_a_network.Goals as goal

pub returns-clause-starts : goal.returns-clause-starts
returns-clause-starts c = network_starts

pub returns-clause-tells : goal.returns-clause-tells
returns-clause-tells c = static_tells c.newest_of_all_takes.ensures.greatest

pub returns-clause-tells_none : goal.returns-clause-tells_none
returns-clause-tells_none c = others_tell_none
