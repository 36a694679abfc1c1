-- What is lawful of a direction at its clock: of its pieces, its acknowledgements and its state.
use Rattle.std.specs.Prelude.{◌≡◌, ℕ, ◌+◌, ◌-◌, ◌*◌, ◌<◌, ◌≤◌, ◌⊎◌, ◌↔◌, true, false, List, [], length, slice_get, Some}
use Rattle.rina_cube.specs.declared.Kind.{Kind}
use Rattle.rina_cube.specs.declared.Kind.TheVariants.{Datagram, Loose, Reliable}
use Rattle.rina_law.specs.declared.entry.Entry.{Entry}
use Rattle.rina_law.specs.Constants.{Constants, delta}
use Rattle.rina_law.specs.Direction.{place_of, Direction, has_room}
use Rattle.rina_law.specs.DirectionHolds.{part_at, reached}
use Rattle.rina_law.specs.Line.{InFlight, Line, arrival_verdict}
use Rattle.rina_law.specs.Lists.{In}
use Rattle.rina_law.specs.Pieces.{Part, IsCut, join}
use Rattle.rina_law.specs.Receiver.{Piece, is_present, next_of, AllHaveRoom}
use Rattle.rina_law.specs.Sender.{Ack, is_idle, is_absent}

-- a PDU in flight that is not dead
abbrev pub IsAlive : {P : Type 0} → Line → List (InFlight P) → InFlight P → Type 0
IsAlive line list p = In p list × (line.clock ≤ p.death)

-- how many numbers of the present run were accepted; on a reliable flow these are the numbers below it
abbrev pub accepted_count : Direction → ℕ
accepted_count d = length d.line.done

-- The pieces in flight

-- a piece is one of those into which an entry was cut: the one at its distance from the entry's number
pub record IsPieceOf (c : Constants) (e : Entry) (p : Piece) : Type 0 where
  pub cep : e.num.cep ≡ c.cep
  pub parts : List Part
  pub cut : IsCut c.piece true parts
  pub joins : join parts ≡ e.bytes
  pub from : e.num.seq ≤ p.number
  pub is : slice_get parts (p.number - e.num.seq) ≡ Some p.part

-- it is of an entry of the present run, and dies at most `r + mpl` after that was sent
pub record IsSentPiece (c : Constants) (d : Direction) (p : InFlight Piece) : Type 0 where
  pub place : ℕ
  pub source : Entry
  pub stands : slice_get d.sent place ≡ Some source
  pub present : d.base ≤ place
  pub is_piece : IsPieceOf c source p.pdu
  pub in_time : p.death ≤ source.tick + c.cube.r + c.cube.mpl

-- The receiver's last tick

abbrev pub IsLastInTime : Constants → Direction → Type 0
IsLastInTime c d = is_present c d.line.clock d.line.receiver ≡ true → d.line.receiver.last_in ≤ d.line.sender.last_out + c.cube.mpl

-- Acknowledgements

-- one in flight names accepted numbers alone, opens no more than the window above them, and dies before an idle
-- sender begins again; both its numbers fit
pub record IsMadeAck (c : Constants) (d : Direction) (k : InFlight Ack) : Type 0 where
  pub reliable : c.cube.kind ≡ Reliable
  pub accepted : (n : ℕ) → n ≤ k.pdu.ack → In n d.line.done
  pub edge : k.pdu.right + 1 ≤ accepted_count d + c.cube.window
  pub ack_fits : k.pdu.ack ≤ c.max
  pub right_fits : k.pdu.right ≤ c.max
  pub in_time : k.death ≤ d.line.sender.last_out + 2 * c.cube.mpl + delta c

-- and what the sender was told names accepted numbers alone, and opens no more than that window
pub record IsToldRight (c : Constants) (d : Direction) : Type 0 where
  pub accepted : (n : ℕ) → n < d.line.sender.acked → In n d.line.done
  pub edge : d.line.sender.right + 1 ≤ accepted_count d + c.cube.window

-- Old pieces

abbrev pub DiesBeforeState : Constants → Direction → InFlight Piece → Type 0
DiesBeforeState c d p = p.death < d.line.receiver.last_in + 2 * delta c

-- a copy that could be taken for a new number dies before the state that tells it from one. On a reliable flow a
-- piece with the data run flag has all numbers below its own accepted, so that new state that it makes misses
-- nothing
abbrev pub OldDies : Kind → Constants → Direction → InFlight Piece → Type 0
OldDies Datagram c d p = In p.pdu.number d.line.done → DiesBeforeState c d p
OldDies Loose c d p = (k : ℕ) → In k d.line.done → p.pdu.number ≤ k → DiesBeforeState c d p
OldDies Reliable c d p = p.pdu.drf ≡ true → ((k : ℕ) → k < p.pdu.number → In k d.line.done) × (In p.pdu.number d.line.done → DiesBeforeState c d p)

-- Without gaps

-- on a reliable flow: the accepted numbers of the run are those below their count, which is the state's next number,
-- and what was got is made of the whole SDUs among them, after those of earlier runs
pub record IsWithoutGap (c : Constants) (d : Direction) : Type 0 where
  pub below : (n : ℕ) → In n d.line.done ↔ n < accepted_count d
  pub next : is_present c d.line.clock d.line.receiver ≡ true → next_of d.line.receiver ≡ accepted_count d
  pub whole : length d.inbox.got ≡ reached d.line.sender.run d.base (accepted_count d)

-- All of these

pub record IsLawful (c : Constants) (d : Direction) : Type 0 where
  pub pieces : (p : InFlight Piece) → IsAlive d.line d.line.pieces p → IsSentPiece c d p
  pub last_in : IsLastInTime c d
  pub acks : (k : InFlight Ack) → IsAlive d.line d.line.acks k → IsMadeAck c d k
  pub told : c.cube.kind ≡ Reliable → IsToldRight c d
  pub old : (p : InFlight Piece) → IsAlive d.line d.line.pieces p → OldDies c.cube.kind c d p
  pub gapless : c.cube.kind ≡ Reliable → IsWithoutGap c d

-- What a receiver may rely on when a piece arrives

-- it is no longer than a piece may be and its number fits; on a reliable flow it lies within the window above the
-- accepted numbers, so that what is held needs no more room than a window; and whatever the arrival gives to the
-- joiner fits there
pub record IsWelcome (c : Constants) (d : Direction) (p : Piece) : Type 0 where
  pub body : length p.part.body ≤ c.piece
  pub number : p.number ≤ c.max
  pub window : c.cube.kind ≡ Reliable → p.number < accepted_count d + c.cube.window
  pub held : c.cube.kind ≡ Reliable → is_present c d.line.clock d.line.receiver ≡ true → p.number < next_of d.line.receiver + c.cube.window
  pub joiner : AllHaveRoom c.cube.largest (arrival_verdict c d.line p (has_room c d)) c.cube.kind (is_present c d.line.clock d.line.receiver) p d.line.receiver.held d.inbox.joiner

-- What an acknowledgement means at the sender

-- a number that is acknowledged was accepted, and where it is the last one of its SDU, that SDU was delivered
pub record IsDelivered (d : Direction) (n : ℕ) : Type 0 where
  pub accepted : In n d.line.done
  pub got : (part_at d.line.sender.run n).ends ≡ true → place_of d.line.sender.run d.base n < length d.inbox.got

-- and where nothing is unacknowledged, all that was sent was delivered
pub record IsAcknowledged (c : Constants) (d : Direction) : Type 0 where
  pub each : (n : ℕ) → n < d.line.sender.acked → IsDelivered d n
  pub all : is_idle c.cube.kind d.line.sender ≡ true → length d.inbox.got ≡ length d.sent

-- When there is no state

-- the receiver has state exactly from the piece that made it until `2 * delta` after the last one that counted; the
-- sender has none exactly where nothing was sent, or nothing is unacknowledged and `3 * delta` have gone by since it
-- last made a piece; and then the receiver has none either, and nothing of the run is alive
pub record IsAbsentByClock (c : Constants) (d : Direction) : Type 0 where
  pub receiver : is_present c d.line.clock d.line.receiver ≡ true ↔ (d.line.receiver.made ≡ true) × (d.line.clock < d.line.receiver.last_in + 2 * delta c)
  pub sender : is_absent c d.line.clock d.line.sender ≡ true ↔ (d.line.sender.run ≡ []) ⊎ ((is_idle c.cube.kind d.line.sender ≡ true) × (d.line.sender.last_out + 3 * delta c ≤ d.line.clock))
  pub both : is_absent c d.line.clock d.line.sender ≡ true → is_present c d.line.clock d.line.receiver ≡ false
  pub pieces : is_absent c d.line.clock d.line.sender ≡ true → (p : InFlight Piece) → IsAlive d.line d.line.pieces p → ⊥
  pub acks : is_absent c d.line.clock d.line.sender ≡ true → (k : InFlight Ack) → IsAlive d.line d.line.acks k → ⊥

-- What giving up means

-- the number is one of a piece of an entry that was sent `r + a + 2 * mpl` ticks ago or more, and it is unacknowledged
pub record IsGivenUp (c : Constants) (d : Direction) (n : ℕ) : Type 0 where
  pub reliable : c.cube.kind ≡ Reliable
  pub unacked : d.line.sender.acked ≤ n
  pub place : ℕ
  pub source : Entry
  pub stands : slice_get d.sent place ≡ Some source
  pub from : source.num.seq ≤ n
  pub late : source.tick + c.cube.r + c.cube.a + 2 * c.cube.mpl ≤ d.line.clock
