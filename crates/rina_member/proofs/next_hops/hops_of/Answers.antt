-- Each link as over it PDUs may leave.
use Rattle.std.proofs.Common.{rules}
use Rattle.std.proofs.lemmas.Iterator.{YieldsList-from_slice, items_from_collect}
use Rattle.std.proofs.lemmas.Iterator.Consumers.{YieldsList-from_filter_map}
use Rattle.rina_member.specs.Knowing.{hop_of}
use Rattle.rina_member.proofs.next_hops.hops_of.Goals as goal

pub returns : goal.returns
returns c = items_from_collect _ c.collect.ensures.ran (YieldsList-from_filter_map _ hop_of (YieldsList-from_slice c.args.links.now cc) c.filter_map.ensures.closure (λ x r q k. search rules))
