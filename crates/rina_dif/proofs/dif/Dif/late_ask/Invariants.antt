use Rattle.rina_dif.proofs.LateAsks.{NoneLateBefore}
use Rattle.rina_dif.proofs.dif.Dif.late_ask.Given as goal

abbrev pub invariant-loop-which : goal.invariant-loop-which
invariant-loop-which l = NoneLateBefore l.which l.self l.node
