-- The pieces that a reliable receiver holds until the gap before them is filled.
use Rattle.std.specs.Prelude.{◌≡◌, ℕ, ◌+◌, ◌%◌, ◌^◌, ◌<◌, ◌≤◌, Bool, true, false, ◌==◌, ◌&&◌, List, [], length, slice_index_or, slice_set}
use Rattle.rina_law.specs.Lists.{has}
use Rattle.rina_law.specs.Pieces.{Part}
use Rattle.rina_law.specs.Receiver.{Piece, numbers, part_in}

-- a place with room for a body of so many bytes, and the piece in it, where it is used
pub record Place : Type 0 where
  pub room : ℕ
  pub used : Bool
  pub number : ℕ
  pub first : Bool
  pub last : Bool
  pub body : List ℕ

-- the next number, the greatest length of a piece, and the places: a number has its own, modulo how many there are
pub record Shelved : Type 0 where
  pub next : ℕ
  pub piece : ℕ
  pub places : List Place

abbrev pub no_place : Place
no_place = record { room = 0; used = false; number = 0; first = false; last = false; body = [] }

abbrev pub place_at : List Place → ℕ → Place
place_at places n = slice_index_or places (n % length places) no_place

-- whether the piece of a number is held
abbrev pub holds : List Place → ℕ → Bool
holds places n = (place_at places n).used && ((place_at places n).number == n)

-- its part of an SDU
abbrev pub part_at : List Place → ℕ → Part
part_at places n = record { begins = (place_at places n).first; ends = (place_at places n).last; body = (place_at places n).body }

-- the places with a piece more
abbrev pub with_piece : ℕ → Bool → Bool → List ℕ → List Place → List Place
with_piece n first last body places = slice_set places (n % length places) (record { room = (place_at places n).room; used = true; number = n; first = first; last = last; body = body })

-- and without the piece of a number
abbrev pub without : ℕ → List Place → List Place
without n places = slice_set places (n % length places) (record (place_at places n) { used = false })

-- a place has room for a piece
abbrev pub HasRoomOf : ℕ → Place → Type 0
HasRoomOf piece p = piece ≤ p.room

abbrev pub IsUnused : Place → Type 0
IsUnused p = p.used ≡ false

-- a place has a piece
abbrev pub is_used : Place → Bool
is_used p = p.used

-- these are the pieces of a list, and lie in the window behind the next number
pub record Holds (held : List Piece) (s : Shelved) : Type 0 where
  pub same : (k : ℕ) → has k (numbers held) ≡ holds s.places k
  pub parts : (k : ℕ) → holds s.places k ≡ true → part_in k held ≡ part_at s.places k
  pub within : (k : ℕ) → holds s.places k ≡ true → (s.next < k) × (k < s.next + length s.places) × (k < 2 ^ 32)
