-- Over those so far PDUs may leave alike.
use Rattle.std.proofs.Common.{◌≡◌, take}
use Rattle.rina_member.specs.Knowing.{hops_of}
use Rattle.rina_dif.proofs.kept_routes.all_lead_alike.Given as goal

abbrev pub invariant-loop-at : goal.invariant-loop-at
invariant-loop-at l = hops_of (take l.at l.links) ≡ hops_of (take l.at l.others)
