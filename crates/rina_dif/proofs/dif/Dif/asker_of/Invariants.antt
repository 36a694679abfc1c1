use Rattle.rina_dif.proofs.FarLooks.{NoneAsks}
use Rattle.rina_dif.proofs.dif.Dif.asker_of.Given as goal

-- no place before this one has the end
abbrev pub invariant-loop-place : goal.invariant-loop-place
invariant-loop-place l = NoneAsks l.place l.self l.own l.from l.ask
