use Rattle.rina_data.proofs.Downed.{LostBelow}
use Rattle.rina_data.proofs.loss.lost_link.Given as goal

abbrev pub invariant-loop-place : goal.invariant-loop-place
invariant-loop-place g l = LostBelow l.links (g.F.Facility.seen l.below) l.place l.first
