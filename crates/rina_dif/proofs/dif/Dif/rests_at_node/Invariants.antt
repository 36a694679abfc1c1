-- So far these ids were found.
use Rattle.rina_dif.specs.IdRests.{AreRests}
use Rattle.rina_dif.proofs.dif.Dif.rests_at_node.Given as goal

abbrev pub invariant-loop-at : goal.invariant-loop-at
invariant-loop-at l = AreRests l.self l.node l.at l.rests.items
