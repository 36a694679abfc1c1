use Rattle.rina_dif.proofs.AnswerLooks.{NoneIsFar}
use Rattle.rina_dif.proofs.dif.Dif.far_end_of.Given as goal

-- no place before this one has the end
abbrev pub invariant-loop-place : goal.invariant-loop-place
invariant-loop-place l = NoneIsFar l.place l.self l.flow l.own l.cep
