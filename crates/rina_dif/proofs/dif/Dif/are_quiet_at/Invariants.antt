-- So far no item is due.
use Rattle.rina_dif.proofs.Clocked.{QuietAmong}
use Rattle.rina_dif.proofs.dif.Dif.are_quiet_at.Given as goal

abbrev pub invariant-loop-place : goal.invariant-loop-place
invariant-loop-place l = QuietAmong l.self l.node l.places l.place
