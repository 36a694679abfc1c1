-- So far no item is due.
use Rattle.rina_dif.proofs.LinkFirst.{QuietAmong}
use Rattle.rina_dif.proofs.dif.Dif.are_links_quiet_at.Given as goal

abbrev pub invariant-loop-n : goal.invariant-loop-n
invariant-loop-n l = QuietAmong l.self l.places l.n
