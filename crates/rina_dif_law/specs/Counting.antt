-- Counting pieces by their numbers.
use Rattle.std.specs.Prelude.{◌≡◌, ℕ, zero, suc, ◌+◌, ◌==◌, if◌then◌else◌, List, [], ◌∷◌, ◌++◌}
use Rattle.std.specs.List.Sorted.{IsStrictlyIncreasing}
use Rattle.rina_account.specs.declared.ledger.Off.{Off}
use Rattle.rina_law.specs.Direction.{Direction}
use Rattle.rina_law.specs.Pieces.{Joiner, Sdu}
use Rattle.rina_law.specs.Receiver.{numbers}

-- how often a number stands in a list
abbrev pub times : ℕ → List ℕ → ℕ
times n [] = 0
times n (k ∷ ks) = (if n == k then 1 else 0) + times n ks

-- so many numbers, one after the other, from this one on
abbrev pub numbers_from : ℕ → ℕ → List ℕ
numbers_from n zero = []
numbers_from n (suc count) = n ∷ numbers_from (n + 1) count

-- the numbers of the pieces that wait in a joiner
abbrev pub joiner_numbers : Joiner → List ℕ
joiner_numbers j = numbers_from j.from j.count

-- the numbers of the pieces that the receiver of a direction holds: those in its joiner, and those beside it
abbrev pub held_numbers : Direction → List ℕ
held_numbers line = joiner_numbers line.inbox.joiner ++ numbers line.line.receiver.held

-- the numbers of the pieces of SDUs that became whole
abbrev pub whole_numbers : List Sdu → List ℕ
whole_numbers [] = []
whole_numbers (sdu ∷ sdus) = numbers_from sdu.first sdu.pieces ++ whole_numbers sdus

-- the numbers of the PDUs that are written off in these lines
abbrev pub off_numbers : List Off → List ℕ
off_numbers [] = []
off_numbers (off ∷ offs) = off.key.seq ∷ off_numbers offs

-- these lines stand in the order of the numbers of their PDUs, which rise
abbrev pub InOrder : List Off → Type 0
InOrder offs = IsStrictlyIncreasing (off_numbers offs)

-- these lines write off each piece that the receiver of a direction holds, once
abbrev pub AllOff : Direction → List Off → Type 0
AllOff line offs = (n : ℕ) → times n (off_numbers offs) ≡ times n (held_numbers line)
