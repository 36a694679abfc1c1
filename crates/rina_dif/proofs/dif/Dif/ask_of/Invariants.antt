use Rattle.rina_dif.proofs.AnswersIn.{NoAskBefore}
use Rattle.rina_dif.proofs.dif.Dif.ask_of.Given as goal

abbrev pub invariant-loop-which : goal.invariant-loop-which
invariant-loop-which l = NoAskBefore l.which l.self l.at l.invoke
