-- So far each is without links.
use Rattle.rina_dif.proofs.Bare.{AreBareSo}
use Rattle.rina_dif.proofs.start.all_bare.Given as goal

abbrev pub invariant-loop-member : goal.invariant-loop-member
invariant-loop-member l = AreBareSo l.settings l._member-index l.processes
