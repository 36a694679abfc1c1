-- The sender of the connection machine, and what each row makes of it, by kind.
use Rattle.std.specs.Prelude.{ℕ, zero, suc, ◌+◌, ◌-◌, ◌*◌, max, Bool, true, false, ◌&&◌, ◌||◌, nat_lt, nat_le, ◌==◌, if◌then◌else◌, List, [], ◌∷◌, ◌++◌, length, get_or, Option, Some, None}
use Rattle.rina_cube.specs.declared.Kind.{Kind}
use Rattle.rina_cube.specs.declared.Kind.TheVariants.{Reliable}
use Rattle.rina_cube.specs.Cubes.{is_reliable}
use Rattle.rina_law.specs.Bounds.{Bounds, bounds_of}
use Rattle.rina_law.specs.Constants.{Constants}
use Rattle.rina_law.specs.Pieces.{Part, join}
use Rattle.rina_law.specs.Receiver.{Piece}

-- a member of the run: the ticks at which its piece was made first and last, its data run flag, and its part of an SDU.
-- Its number is its place in the run
pub record Member : Type 0 where
  pub first : ℕ
  pub last : ℕ
  pub drf : Bool
  pub part : Part

-- the present run, how many of its first numbers are acknowledged, the greatest number that may be sent, and the
-- tick at which a piece was last made, be it in an earlier run
pub record Sender : Type 0 where
  pub run : List Member
  pub acked : ℕ
  pub right : ℕ
  pub last_out : ℕ

-- an acknowledgement: every number up to `ack` was accepted, and numbers up to `right` may be sent
pub record Ack : Type 0 where
  pub ack : ℕ
  pub right : ℕ

abbrev pub no_member : Member
no_member = record { first = 0; last = 0; drf = false; part = record { begins = false; ends = false; body = [] } }

-- the member with a number of the run
abbrev pub member : List Member → ℕ → Member
member run n = get_or run n no_member

-- A run that begins

abbrev pub is_empty : List Member → Bool
is_empty [] = true
is_empty (m ∷ ms) = false

-- nothing is unacknowledged; on a flow that is not reliable nothing ever is
abbrev pub is_idle : Kind → Sender → Bool
is_idle Reliable tx = nat_le (length tx.run) tx.acked
is_idle _ tx = true

-- a sender has no state where nothing was sent, or where it is idle and its bound has gone by since it last made a
-- piece
abbrev pub is_absent_by : Bounds → Constants → ℕ → Sender → Bool
is_absent_by b c now tx = is_empty tx.run || (is_idle c.cube.kind tx && nat_le (tx.last_out + b.begins) now)

-- by delta-t, `3 * delta` ticks
abbrev pub is_absent : Constants → ℕ → Sender → Bool
is_absent c now tx = is_absent_by (bounds_of c) c now tx

-- then it begins again at number 0, with a fresh window
abbrev pub fresh : Constants → Sender → Sender
fresh c tx = record { run = []; acked = 0; right = c.cube.window - 1; last_out = tx.last_out }

abbrev pub started : Bool → Constants → Sender → Sender
started true c tx = fresh c tx
started false c tx = tx

-- An SDU that is offered

pub data Refusal : Type 0 where
  TooLong : (len greatest : ℕ) → Refusal
  WindowShut : (need room : ℕ) → Refusal
  NumbersSpent : (until : ℕ) → Refusal

-- how many numbers may still be sent first, on a reliable flow
abbrev pub room_of : Sender → ℕ
room_of tx = tx.right + 1 - length tx.run

-- the first refusal that applies to the parts of an SDU, by a sender that has begun
abbrev pub refusal_by : Bounds → Constants → Sender → List Part → Option Refusal
refusal_by b c tx parts =
    if nat_lt c.cube.largest (length (join parts)) then Some (TooLong (length (join parts)) c.cube.largest)
    else (if is_reliable c.cube.kind && nat_lt (room_of tx) (length parts) then Some (WindowShut (length parts) (room_of tx))
    else (if nat_lt (c.max + 1) (length tx.run + length parts) then Some (NumbersSpent (tx.last_out + b.begins)) else None))

abbrev pub refusal : Constants → Sender → List Part → Option Refusal
refusal c tx parts = refusal_by (bounds_of c) c tx parts

-- the data run flag says that no earlier number of the run is unacknowledged; without acknowledgements number 0
-- alone has it
abbrev pub drf_for : Kind → Sender → Bool
drf_for Reliable tx = nat_le (length tx.run) tx.acked
drf_for _ tx = length tx.run == 0

abbrev pub member_for : Constants → ℕ → Part → Sender → Member
member_for c now part tx = record { first = now; last = now; drf = drf_for c.cube.kind tx; part = part }

-- the piece that is made of the next part
abbrev pub piece_for : Constants → Part → Sender → Piece
piece_for c part tx = record { number = length tx.run; drf = drf_for c.cube.kind tx; part = part }

abbrev pub sender_with : Constants → ℕ → Part → Sender → Sender
sender_with c now part tx = record tx { run = tx.run ++ member_for c now part tx ∷ []; last_out = now }

-- the sender after all parts of an SDU
abbrev pub sender_with_all : Constants → ℕ → List Part → Sender → Sender
sender_with_all c now [] tx = tx
sender_with_all c now (part ∷ parts) tx = sender_with_all c now parts (sender_with c now part tx)

-- and the pieces that are made of them
abbrev pub pieces_for : Constants → ℕ → List Part → Sender → List Piece
pieces_for c now [] tx = []
pieces_for c now (part ∷ parts) tx = piece_for c part tx ∷ pieces_for c now parts (sender_with c now part tx)

-- A number that is sent again, or given up

-- from the number n on, the least one that is unacknowledged, was made `retry` ticks ago or more, and was first made
-- at most its bound ago
abbrev pub due_from_by : Bounds → Constants → ℕ → ℕ → ℕ → List Member → Option ℕ
due_from_by b c now acked n [] = None
due_from_by b c now acked n (m ∷ ms) =
    if nat_le acked n && (nat_le (m.last + c.cube.retry) now && nat_le now (m.first + b.again)) then Some n else due_from_by b c now acked (n + 1) ms

-- by delta-t, `r` ticks
abbrev pub due_from : Constants → ℕ → ℕ → ℕ → List Member → Option ℕ
due_from c now acked n ms = due_from_by (bounds_of c) c now acked n ms

-- from the number n on, the least one that is unacknowledged and was first made `r + a + 2 * mpl` ticks ago or more:
-- an acknowledgement that was made as soon as it was due has come by then, or is lost
abbrev pub late_from : Constants → ℕ → ℕ → ℕ → List Member → Option ℕ
late_from c now acked n [] = None
late_from c now acked n (m ∷ ms) =
    if nat_le acked n && nat_le (m.first + c.cube.r + c.cube.a + 2 * c.cube.mpl) now then Some n else late_from c now acked (n + 1) ms

abbrev pub if_reliable : Kind → Option ℕ → Option ℕ
if_reliable Reliable n = n
if_reliable _ n = None

-- the number that is sent again now
abbrev pub again_due_by : Bounds → Constants → ℕ → Sender → Option ℕ
again_due_by b c now tx = if_reliable c.cube.kind (due_from_by b c now tx.acked 0 tx.run)

abbrev pub again_due : Constants → ℕ → Sender → Option ℕ
again_due c now tx = again_due_by (bounds_of c) c now tx

-- the number that is given up now
abbrev pub given_up : Constants → ℕ → Sender → Option ℕ
given_up c now tx = if_reliable c.cube.kind (late_from c now tx.acked 0 tx.run)

abbrev pub resent : ℕ → ℕ → List Member → List Member
resent n now [] = []
resent zero now (m ∷ ms) = record m { last = now } ∷ ms
resent (suc n) now (m ∷ ms) = m ∷ resent n now ms

abbrev pub sender_again : ℕ → ℕ → Sender → Sender
sender_again n now tx = record tx { run = resent n now tx.run; last_out = now }

-- the same piece as when it was first made
abbrev pub piece_again : ℕ → Sender → Piece
piece_again n tx = record { number = n; drf = (member tx.run n).drf; part = (member tx.run n).part }

-- An acknowledgement that comes

abbrev pub sender_told : Ack → Sender → Sender
sender_told k tx = record tx { acked = max tx.acked (k.ack + 1); right = max tx.right k.right }
