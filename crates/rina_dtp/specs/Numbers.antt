-- The numbers of a sender, and the sender of the connection machine that they stand for.
use Rattle.std.specs.Prelude.{◌≡◌, ℕ, ◌+◌, ◌*◌, ◌<◌, ◌≤◌, Bool, ◌&&◌, ◌||◌, nat_le, ◌==◌, if◌then◌else◌, List, length, Option, Some, None, Result, Ok, Err}
use Rattle.rina_dtp.specs.declared.numbers.Numbers.{Numbers}
use Rattle.rina_dtp.specs.declared.numbers.NumbersSpent.{NumbersSpent}
use Rattle.rina_law.specs.Constants.{Constants, delta}
use Rattle.rina_law.specs.Line.{HasRoom}
use Rattle.rina_law.specs.Pieces.{Part, join}
use Rattle.rina_law.specs.Sender as law
use Rattle.rina_law.specs.Sender.{Sender, Refusal, refusal, started, is_idle, sender_with_all, sender_again}

-- these are the numbers of a sender of the machine: how many its run has, and when it last made a piece
pub record Counts (tx : Sender) (n : Numbers) : Type 0 where
  pub next : length tx.run ≡ n.next
  pub last_out : tx.last_out ≡ n.last_out

-- What is kept

pub record HasNumbers (max next last_out : ℕ) (n : Numbers) : Type 0 where
  pub max_is : n.max ≡ max
  pub next_is : n.next ≡ next
  pub last_out_is : n.last_out ≡ last_out

-- nothing was sent, or nothing is unacknowledged and `3 * delta` have gone by
unfoldable pub is_absent : ℕ → Bool → ℕ → Numbers → Bool
is_absent now idle delta n = (n.next == 0) || (idle && nat_le (n.last_out + 3 * delta) now)

-- the number that is taken next: 0 where the sender is absent
abbrev pub next_from : Bool → Numbers → ℕ
next_from absent n = if absent then 0 else n.next

-- what taking so many numbers answers and leaves, where the next one is `first`
abbrev pub IsTaken : (now count until first : ℕ) → Numbers → Result ℕ NumbersSpent → Numbers → Type 0
IsTaken now count until first old (Ok n) new = (n ≡ first) × (first + count ≤ old.max + 1) × HasNumbers old.max (first + count) now new
IsTaken now count until first old (Err e) new = (e.until ≡ until) × (old.max + 1 < first + count) × HasNumbers old.max old.next old.last_out new

-- What the machine says

-- the refusal that the numbers give
abbrev pub refusal_of : Result ℕ NumbersSpent → Option Refusal
refusal_of (Ok n) = None
refusal_of (Err e) = Some (law.NumbersSpent e.until)

-- the numbers after an answer: those of the sender with all the parts, which begin at the number that was answered, or
-- the same as before
abbrev pub Continues : Constants → ℕ → List Part → Sender → Numbers → Result ℕ NumbersSpent → Numbers → Type 0
Continues c now parts tx old (Ok n) new = (n ≡ length tx.run) × (new.max ≡ old.max) × Counts (sender_with_all c now parts tx) new
Continues c now parts tx old (Err e) new = HasNumbers old.max old.next old.last_out new

-- the parts of an SDU that is not too long and for which the window has room are refused exactly where the numbers
-- refuse them
pub record IsOffer (c : Constants) (now : ℕ) (parts : List Part) (tx : Sender) (old : Numbers) (result : Result ℕ NumbersSpent) (new : Numbers) : Type 0 where
  pub refused : length (join parts) ≤ c.cube.largest → HasRoom c tx (length parts) → refusal c tx parts ≡ refusal_of result
  pub after : Continues c now parts tx old result new

-- numbers are taken for the parts of an SDU, by whatever sender of the machine has these numbers
abbrev pub TakesNumbers : (now count : ℕ) → Bool → ℕ → Numbers → Result ℕ NumbersSpent → Numbers → Type 0
TakesNumbers now count idle d old result new = (c : Constants) (tx : Sender) (parts : List Part) → c.max ≡ old.max → delta c ≡ d → is_idle c.cube.kind tx ≡ idle → length parts ≡ count → Counts tx old →
    IsOffer c now parts (started (law.is_absent c now tx) c tx) old result new

-- a number is made again
abbrev pub NotesAgain : ℕ → Numbers → Numbers → Type 0
NotesAgain now old new = (new.max ≡ old.max) × ((tx : Sender) (n : ℕ) → Counts tx old → Counts (sender_again n now tx) new)

-- the next number is the length of the run, where the sender has state
abbrev pub IsNextNumber : ℕ → Bool → ℕ → Numbers → Option ℕ → Type 0
IsNextNumber now idle d n result = (c : Constants) (tx : Sender) → delta c ≡ d → is_idle c.cube.kind tx ≡ idle → Counts tx n → result ≡ (if law.is_absent c now tx then None else Some (length tx.run))
