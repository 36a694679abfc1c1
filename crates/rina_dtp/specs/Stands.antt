-- The receiver of the connection machine that a receiver stands for, and the machine's row for a piece that comes.
use Rattle.std.specs.Prelude.{◌≡◌, ℕ, ◌+◌, ◌*◌, ◌^◌, ◌<◌, ◌≤◌, Bool, true, List, false, nat_lt, [], length, Option, Some, None}
use Rattle.rina_base.specs.declared.pdu.Pdu.{Pdu}
use Rattle.rina_cube.specs.Cubes.{IsCube}
use Rattle.rina_cube.specs.declared.Kind.TheVariants as kinds
use Rattle.rina_delim.specs.declared.joiner.Run.{Run}
use Rattle.rina_delim.specs.Joining.{Joining}
use Rattle.rina_dtp.specs.declared.accepted.Accepted.{Accepted}
use Rattle.rina_dtp.specs.declared.accepted.Accepted.TheVariants.{Datagram, Loose, Reliable}
use Rattle.rina_dtp.specs.declared.source.Source.{Source}
use Rattle.rina_dtp.specs.declared.verdict.Verdict.{Verdict}
use Rattle.rina_dtp.specs.Accepted.{kind_of}
use Rattle.rina_dtp.specs.Joins.{IsForward, bytes_of}
use Rattle.rina_dtp.specs.Lost.{joiner_for, lost_after, told}
use Rattle.rina_dtp.specs.Receiving.{Receiving, drops, broken_with}
use Rattle.rina_dtp.specs.Ring.{Recalls}
use Rattle.rina_dtp.specs.Shelf.{Holds}
use Rattle.rina_dtp.specs.Source.{source_of}
use Rattle.rina_law.specs.Constants.{Constants, delta}
use Rattle.rina_law.specs.Lists.{highest}
use Rattle.rina_law.specs.Pdus.{piece_in}
use Rattle.rina_law.specs.Pieces.{Joiner, Joined}
use Rattle.rina_law.specs.Receiver as law
use Rattle.rina_law.specs.Receiver.{Piece, Receiver, is_present, next_of, receiver_after, joined_after, AllHaveRoom}

-- a reliable receiver has a place for each number of the window, and room for a piece in each
abbrev pub HasPlacesFor : Constants → Accepted → Type 0
HasPlacesFor c (Reliable s) = (length s.places ≡ c.cube.window) × (s.piece ≡ c.piece)
HasPlacesFor c _ = Unit {0}

-- a receiver for a cube, and for pieces of so many bytes
pub record IsOf (c : Constants) (r : Receiving) : Type 0 where
  pub cube : IsCube c.cube
  pub kind : c.cube.kind ≡ kind_of r.accepted
  pub window : r.window ≡ c.cube.window
  pub rest : r.rest ≡ 2 * delta c
  pub largest : r.join.joining.largest ≡ c.cube.largest
  pub places : HasPlacesFor c r.accepted

-- the pieces that wait are those of the machine's joiner
abbrev pub IsRun : Joiner → Option Run → Type 0
IsRun j None = j.count ≡ 0
IsRun j (Some run) = (0 < j.count) × (j.from ≡ run.from) × (j.from + j.count ≡ run.last + 1) × (run.last < 2 ^ 32)

pub record IsJoiner (j : Joiner) (k : Joining) : Type 0 where
  pub run : IsRun j k.held
  pub bytes : 0 < j.count → j.bytes ≡ k.bytes

-- what is kept tells as much of the numbers as the machine needs
abbrev pub Knows : Accepted → Receiver → Type 0
Knows (Datagram r) m = Recalls m.accepted r
Knows (Loose highest_one) m = highest m.accepted ≡ highest_one
Knows (Reliable s) m = (next_of m ≡ s.next) × Holds m.held s

-- the number after the greatest one that was accepted
abbrev pub reach_of : Accepted → ℕ
reach_of (Datagram r) = r.top + 1
reach_of (Loose highest_one) = highest_one + 1
reach_of (Reliable s) = s.next

-- the machine's receiver and joiner, at a tick, are those for which a receiver stands that is not closed. Of a state that
-- has ended nothing more is told than that it was made, and when its last piece came
pub record Stands (c : Constants) (now : ℕ) (m : Receiver) (j : Joiner) (r : Receiving) : Type 0 where
  pub of : IsOf c r
  pub not_closed : r.closed ≡ false
  pub made : m.made ≡ r.made
  pub last_in : m.last_in ≡ r.last_in
  pub known : is_present c now m ≡ true → Knows r.accepted m
  pub joiner : is_present c now m ≡ true → IsJoiner j r.join.joining
  pub reach : is_present c now m ≡ true → 0 < j.count → j.from + j.count ≤ reach_of r.accepted

-- A piece that comes

-- all SDUs that earlier pieces completed were fetched
pub record IsFetched (now : ℕ) (r : Receiving) : Type 0 where
  pub whole : r.join.whole ≡ []
  pub dropped : drops now r ≡ []

-- a piece of a sender that keeps to the cube: it is no longer than a piece may be; on a reliable flow it lies in the
-- window; and all that is given to the joiner finds room there
pub record IsWelcome (c : Constants) (present : Bool) (m : Receiver) (j : Joiner) (v : law.Verdict) (p : Piece) : Type 0 where
  pub body : length p.part.body ≤ c.piece
  pub window : c.cube.kind ≡ kinds.Reliable → present ≡ true → p.number < next_of m + c.cube.window
  pub room : AllHaveRoom c.cube.largest v c.cube.kind present p m.held j

-- the machine's verdict
abbrev pub verdict_of : Constants → ℕ → ℕ → Receiver → Piece → law.Verdict
verdict_of c now unpassed m p = law.verdict c.cube.kind (is_present c now m) m p (nat_lt unpassed c.cube.window)

-- what the machine's row makes of a piece: the joiner after it, with the SDUs that became whole
abbrev pub joined_by : Constants → Bool → Receiver → Joiner → law.Verdict → Piece → Joined
joined_by c present m j v p = joined_after v c.cube.kind present p m.held j

-- the source of what is kept is that of the last piece that was accepted or held
abbrev pub source_after : law.Verdict → Source → Source → Source
source_after law.Accepted source earlier = source
source_after law.Held source earlier = source
source_after v source earlier = earlier

-- the answer, the receiver and the joiner after it, the SDUs that wait to be fetched, and the pieces that are given up;
-- none is left of those that were given up before
pub record Came (c : Constants) (now : ℕ) (present : Bool) (m : Receiver) (j : Joiner) (v : law.Verdict) (pdu : Pdu) (old : Receiving) (result : Verdict) (new : Receiving) : Type 0 where
  pub told_is : result ≡ told v c.cube.window pdu m (joiner_for present j) (joined_by c present m j v (piece_in pdu)).whole
  pub stands : Stands c now (receiver_after v c.cube.kind present now (piece_in pdu) m) (joined_by c present m j v (piece_in pdu)).joiner new
  pub whole : new.join.whole ≡ (joined_by c present m j v (piece_in pdu)).whole
  pub source : new.source ≡ source_after v (source_of pdu) old.source
  pub going : new.going ≡ None
  pub dropped : drops now new ≡ broken_with (source_of pdu) (lost_after v c.cube.kind present (piece_in pdu) m.held j)

-- the row, at every receiver and joiner of the machine for which this one stands
abbrev pub IsRow : ℕ → Pdu → ℕ → Receiving → Verdict → Receiving → Type 0
IsRow now pdu unpassed old result new = (c : Constants) (m : Receiver) (j : Joiner) → Stands c now m j old → IsFetched now old → IsWelcome c (is_present c now m) m j (verdict_of c now unpassed m (piece_in pdu)) (piece_in pdu) →
    Came c now (is_present c now m) m j (verdict_of c now unpassed m (piece_in pdu)) pdu old result new

-- the bytes of the SDUs that a piece would make whole, also while a state that has ended still holds pieces
abbrev pub IsAhead : ℕ → Pdu → ℕ → Receiving → List (List ℕ) → Type 0
IsAhead now pdu unpassed r bodies = (c : Constants) (m : Receiver) (j : Joiner) → Stands c now m j r → IsForward r.join.joining.held → IsWelcome c (is_present c now m) m j (verdict_of c now unpassed m (piece_in pdu)) (piece_in pdu) →
    bodies ≡ bytes_of (joined_by c (is_present c now m) m j (verdict_of c now unpassed m (piece_in pdu)) (piece_in pdu)).whole
