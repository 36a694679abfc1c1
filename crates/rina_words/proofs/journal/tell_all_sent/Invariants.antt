use Rattle.std.proofs.Common.{◌≡◌, ◌++◌, map, take}
use Rattle.rina_words.specs.Step.{sent_note}
use Rattle.rina_words.proofs.journal.tell_all_sent.Given as goal

-- the entries so far were told
abbrev pub invariant-entries : goal.invariant-entries
invariant-entries l = l.trace ≡ l.fn.trace ++ map (sent_note l.line l.tick) (take l.entry-index l.entries)
