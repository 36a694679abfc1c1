-- What a joiner holds, and what it makes of a piece.
use Rattle.std.specs.Prelude.{◌≡◌, ◌≤◌, ℕ, ◌+◌, ◌-◌, ◌^◌, ◌%◌, ◌==◌, Bool, true, false, List, [], ◌++◌, length, Option, Some, None, if◌then◌else◌}
use Rattle.rina_delim.specs.declared.joiner.Run.{Run}
use Rattle.rina_delim.specs.declared.joiner.Joined.{Joined}
use Rattle.rina_delim.specs.declared.joiner.Joined.TheVariants.{More, Whole, Broken}

pub record Piece : Type 0 where
  pub seq : ℕ
  pub first : Bool
  pub last : Bool
  pub body : List ℕ

abbrev pub piece : ℕ → Bool → Bool → List ℕ → Piece
piece seq first last body = record { seq = seq; first = first; last = last; body = body }

-- the largest SDU, the pieces that wait for the rest of theirs, and the bytes since the last first piece
pub record Joining : Type 0 where
  pub largest : ℕ
  pub held : Option Run
  pub bytes : List ℕ

-- nothing is held
abbrev pub empty : ℕ → Joining
empty largest = record { largest = largest; held = None; bytes = [] }

-- the number after one, and the number before one
abbrev pub after : ℕ → ℕ
after n = (n + 1) % 2 ^ 32

abbrev pub before : ℕ → ℕ
before n = (n + (2 ^ 32 - 1)) % 2 ^ 32

-- what is missing between the pieces that are held and one that is not first
unfoldable pub missing_after : Option Run → ℕ → Option ℕ
missing_after None seq = Some (before seq)
missing_after (Some run) seq = if seq == after run.last then None else Some (after run.last)

-- what is missing before a piece: nothing is before a first one
abbrev pub missing_before : Joining → Piece → Option ℕ
missing_before j p = if p.first then None else missing_after j.held p.seq

abbrev pub answer_for : Option ℕ → Bool → Joined
answer_for (Some n) last = Broken n
answer_for None true = Whole
answer_for None false = More

-- the answer to a piece
unfoldable pub answer : Joining → Piece → Joined
answer j p = answer_for (missing_before j p) p.last

-- the number of the first piece that is held, where a piece of number seq is held too
abbrev pub from_of : Option Run → ℕ → ℕ
from_of None seq = seq
from_of (Some run) seq = run.from

-- what is held after a piece that may end its SDU, where the one of number from began it
abbrev pub held_after : ℕ → ℕ → Bool → Option Run
held_after from seq last = if last then None else Some (record { from = from; last = seq })

abbrev pub joined_for : Option ℕ → Joining → Piece → Joining
joined_for (Some n) j p = empty j.largest
joined_for None j p = record {
  largest = j.largest;
  held = held_after (if p.first then p.seq else from_of j.held p.seq) p.seq p.last;
  bytes = if p.first then p.body else j.bytes ++ p.body;
}

-- what is held after a piece
unfoldable pub joined : Joining → Piece → Joining
joined j p = joined_for (missing_before j p) j p

-- there is room for a piece of len bytes: a broken one needs none
pub record HasRoom (j : Joining) (seq : ℕ) (first : Bool) (len : ℕ) : Type 0 where
  pub begins : first ≡ true → len ≤ j.largest
  pub follows : first ≡ false → missing_after j.held seq ≡ None → length j.bytes + len ≤ j.largest

abbrev pub IsRoomFor : Joining → Piece → Type 0
IsRoomFor j p = HasRoom j p.seq p.first (length p.body)
