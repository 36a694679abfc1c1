use Rattle.std.proofs.Common.{◌≤◌, All, length, string_bytes}
use Rattle.rina_io.proofs.words.read_words.Given as goal

-- no word has more than 256 bytes so far
abbrev pub invariant-places : goal.invariant-places
invariant-places g l = All (λ w. length (string_bytes w) ≤ 256) l.words.items
