-- So far these write-offs were told.
use Rattle.std.proofs.Common.{◌≡◌, ◌++◌, take}
use Rattle.std.specs.List.{flat_map}
use Rattle.rina_account.specs.declared.ledger.Off.{Off}
use Rattle.rina_notes.specs.Look.{noted}
use Rattle.rina_notes.specs.StepTold.{off_told}
use Rattle.rina_words.proofs.ledger.tell_offs.Given as goal

abbrev pub invariant-offs : goal.invariant-offs
invariant-offs l = l.trace ≡ l.fn.trace ++ flat_map (λ (x : Off). noted l.line.number l.tick (off_told l.line.plan.now l.rank x)) (take l.off-index l.offs)
