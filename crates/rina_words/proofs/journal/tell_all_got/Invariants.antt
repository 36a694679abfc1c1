use Rattle.std.proofs.Common.{◌≡◌, ◌++◌, map, take}
use Rattle.rina_words.specs.Step.{entry_note}
use Rattle.rina_words.proofs.journal.tell_all_got.Given as goal

-- the entries so far were told
abbrev pub invariant-entries : goal.invariant-entries
invariant-entries l = l.trace ≡ l.fn.trace ++ map (entry_note l.line l.tick) (take l.entry-index l.entries)
