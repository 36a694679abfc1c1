-- What every row of a line keeps. It is more than is promised, so that each row can keep it.
use Rattle.std.specs.Prelude.{◌≡◌, ℕ, zero, suc, ◌+◌, ◌*◌, ◌<◌, ◌≤◌, ◌⊎◌, true, false, List, [], ◌∷◌, length}
use Rattle.rina_cube.specs.declared.Kind.{Kind}
use Rattle.rina_cube.specs.declared.Kind.TheVariants.{Datagram, Loose, Reliable}
use Rattle.rina_law.specs.Constants.{Constants, delta}
use Rattle.rina_law.specs.Line.{InFlight, Line}
use Rattle.rina_law.specs.Lists.{In, highest}
use Rattle.rina_law.specs.Receiver.{Piece, Receiver, is_present, next_of, numbers}
use Rattle.rina_law.specs.Sender.{Sender, Ack, member}

-- no member of the run is younger than the sender's last piece, and first ticks do not fall along the run
pub record SenderHolds (now : ℕ) (tx : Sender) : Type 0 where
  pub out : tx.last_out ≤ now
  pub firsts : (n : ℕ) → n < length tx.run → (member tx.run n).first ≤ tx.last_out
  pub rising : (i k : ℕ) → i ≤ k → k < length tx.run → (member tx.run i).first ≤ (member tx.run k).first

-- a piece in flight is that of a member of the run. It dies at most `r + mpl` after it was first made, since none is
-- made later than `r` after that, and at most `mpl` after the sender last made any
pub record IsOfRun (c : Constants) (tx : Sender) (p : InFlight Piece) : Type 0 where
  pub within : p.pdu.number < length tx.run
  pub drf : p.pdu.drf ≡ (member tx.run p.pdu.number).drf
  pub part : p.pdu.part ≡ (member tx.run p.pdu.number).part
  pub in_time : p.death ≤ (member tx.run p.pdu.number).first + c.cube.r + c.cube.mpl
  pub out : p.death ≤ tx.last_out + c.cube.mpl

-- of a PDU that is in flight and not dead
abbrev pub PiecesHold : Constants → ℕ → Sender → List (InFlight Piece) → Type 0
PiecesHold c now tx pieces = (p : InFlight Piece) → In p pieces → now ≤ p.death → IsOfRun c tx p

-- what counted last came at most `mpl` after the sender last made a piece; no state stands where the run is empty
pub record ReceiverHolds (c : Constants) (now : ℕ) (tx : Sender) (rx : Receiver) : Type 0 where
  pub past : rx.last_in ≤ now
  pub out : rx.made ≡ true → rx.last_in ≤ tx.last_out + c.cube.mpl
  pub empty : length tx.run ≡ 0 → is_present c now rx ≡ false

-- the state tells that the number is old, so that a copy of it is not accepted. On a reliable flow the next number
-- alone tells
abbrev pub Knows : Kind → Receiver → ℕ → Type 0
Knows Datagram rx n = In n rx.accepted
Knows Loose rx n = n ≤ highest rx.accepted
Knows Reliable rx n = Unit {0}

-- of a number that was accepted in this run: the state knows it, or all its copies are dead for good
pub record IsDone (c : Constants) (now : ℕ) (tx : Sender) (rx : Receiver) (n : ℕ) : Type 0 where
  pub within : n < length tx.run
  pub first : (member tx.run n).first ≤ rx.last_in
  pub made : rx.made ≡ true
  pub known : Knows c.cube.kind rx n ⊎ ((member tx.run n).first + c.cube.r + c.cube.mpl < now)

abbrev pub DoneHolds : Constants → ℕ → Sender → Receiver → List ℕ → Type 0
DoneHolds c now tx rx done = (n : ℕ) → In n done → IsDone c now tx rx n

abbrev pub HasNoRepeat : List ℕ → Type 0
HasNoRepeat [] = Unit {0}
HasNoRepeat (n ∷ ns) = (In n ns → ⊥) × HasNoRepeat ns

abbrev pub IsFalling : List ℕ → Type 0
IsFalling [] = Unit {0}
IsFalling (n ∷ ns) = ((k : ℕ) → In k ns → k < n) × IsFalling ns

-- n - 1 down to 0
abbrev pub below : ℕ → List ℕ
below zero = []
below (suc n) = n ∷ below n

-- the numbers accepted in this run, the newest first: each once, rising in time, or all from 0 on
abbrev pub IsShaped : Kind → List ℕ → Type 0
IsShaped Datagram done = HasNoRepeat done
IsShaped Loose done = IsFalling done
IsShaped Reliable done = done ≡ below (length done)

-- on a reliable flow: the state's next number is how many were accepted; what it holds is of the run; a piece with
-- the data run flag has all numbers below it accepted, and so has whatever is acknowledged; the window is never
-- passed
pub record IsGapless (c : Constants) (now : ℕ) (tx : Sender) (rx : Receiver) (done : List ℕ) : Type 0 where
  pub next : is_present c now rx ≡ true → next_of rx ≡ length done
  pub some : is_present c now rx ≡ true → 1 ≤ next_of rx
  pub held : is_present c now rx ≡ true → (h : ℕ) → In h (numbers rx.held) → (h < length tx.run) × ((member tx.run h).first ≤ rx.last_in)
  pub drf : (n : ℕ) → n < length tx.run → (member tx.run n).drf ≡ true → n ≤ length done
  pub acked : tx.acked ≤ length done
  pub right : tx.right + 1 ≤ length done + c.cube.window
  pub window : length tx.run ≤ tx.right + 1

-- an acknowledgement in flight is of a reliable flow, names accepted numbers alone, and dies before an idle sender
-- begins again
pub record IsAckOf (c : Constants) (tx : Sender) (done : List ℕ) (k : InFlight Ack) : Type 0 where
  pub reliable : c.cube.kind ≡ Reliable
  pub ack : k.pdu.ack < length done
  pub edge : k.pdu.right + 1 ≤ length done + c.cube.window
  pub fits : k.pdu.right ≤ c.max
  pub out : k.death ≤ tx.last_out + 2 * c.cube.mpl + delta c

abbrev pub AcksHold : Constants → ℕ → Sender → List ℕ → List (InFlight Ack) → Type 0
AcksHold c now tx done acks = (k : InFlight Ack) → In k acks → now ≤ k.death → IsAckOf c tx done k

pub record LineHolds (c : Constants) (line : Line) : Type 0 where
  pub sender : SenderHolds line.clock line.sender
  pub pieces : PiecesHold c line.clock line.sender line.pieces
  pub receiver : ReceiverHolds c line.clock line.sender line.receiver
  pub done : DoneHolds c line.clock line.sender line.receiver line.done
  pub shape : IsShaped c.cube.kind line.done
  pub gapless : c.cube.kind ≡ Reliable → IsGapless c line.clock line.sender line.receiver line.done
  pub acks : AcksHold c line.clock line.sender line.done line.acks
