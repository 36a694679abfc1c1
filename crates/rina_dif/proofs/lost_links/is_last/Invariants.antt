use Rattle.rina_dif.proofs.Lastly.{NoneSo}
use Rattle.rina_dif.proofs.lost_links.is_last.Given as goal

abbrev pub invariant-loop-place : goal.invariant-loop-place
invariant-loop-place l = NoneSo l.links l.lost l.place
