use Rattle.rina_dif.proofs.Clocked.{FoundAmong}
use Rattle.rina_dif.proofs.dif.Dif.first_among.Given as goal

abbrev pub invariant-loop-place : goal.invariant-loop-place
invariant-loop-place l = FoundAmong l.item l.self l.node l.places l.place l.first
