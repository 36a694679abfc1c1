use Rattle.std.proofs.Common.{◌≡◌, ◌++◌, take}
use Rattle.std.specs.List.{flat_map}
use Rattle.rina_words.specs.Step.{end_notes}
use Rattle.rina_words.proofs.journal.tell_ends.Given as goal

-- the ends so far were told
abbrev pub invariant-ends : goal.invariant-ends
invariant-ends l = l.trace ≡ l.fn.trace ++ flat_map (end_notes l.line.plan.now l.rank l.line.number l.tick) (take l.end-index l.ends)
