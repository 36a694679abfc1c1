use Rattle.rina_dif.proofs.DeletesIn.{NoneUpBefore}
use Rattle.rina_dif.proofs.dif.Dif.up_end.Given as goal

-- no place before this one has the end
abbrev pub invariant-loop-place : goal.invariant-loop-place
invariant-loop-place l = NoneUpBefore l.place l.self l.own l.far l.scep l.dcep
