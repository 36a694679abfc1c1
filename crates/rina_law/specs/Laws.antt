-- The laws of one direction of a connection: delta-t suffices.
use Rattle.std.specs.Prelude.{◌≡◌, ℕ, ◌+◌, ◌*◌, ◌≤◌, false, List, length, Some}
use Rattle.rina_cube.specs.declared.Kind.TheVariants.{Reliable}
use Rattle.rina_cube.specs.Cubes.{IsCube, promise_of}
use Rattle.rina_law.specs.Constants.{Constants, delta}
use Rattle.rina_law.specs.Direction.{Direction, start, offer_refusal, Row, happens, May, IsRun, after}
use Rattle.rina_law.specs.DirectionHolds.{DirectionHolds}
use Rattle.rina_law.specs.Journal.{Keeps}
use Rattle.rina_law.specs.Lawful.{IsAlive, IsLawful, IsWelcome, IsAcknowledged, IsAbsentByClock, IsGivenUp}
use Rattle.rina_law.specs.Line.{InFlight, IsCovered}
use Rattle.rina_law.specs.Pieces.{Part}
use Rattle.rina_law.specs.Receiver.{Piece}
use Rattle.rina_law.specs.Sender.{Ack, NumbersSpent, is_absent, given_up}

-- a direction of a cube that rows, whatever they are and in whatever order, made of one that starts
pub record IsReached (c : Constants) (d : Direction) : Type 0 where
  pub cube : IsCube c.cube
  pub rows : List Row
  pub run : IsRun c (start c) rows
  pub is : d ≡ after c (start c) rows

-- The journals: what was got was sent, within the promise, and by kind once, in order, or as a prefix
abbrev pub JournalsAreKept : Type 0
JournalsAreKept = (c : Constants) (d : Direction) → IsReached c d → Keeps c.cube.kind (promise_of c.cube) d.sent d.inbox.got

abbrev pub LineIsLawful : Type 0
LineIsLawful = (c : Constants) (d : Direction) → IsReached c d → IsLawful c d

-- whatever piece is in flight may be given to the receiver
abbrev pub ArrivalsAreWelcome : Type 0
ArrivalsAreWelcome = (c : Constants) (d : Direction) (p : InFlight Piece) → IsReached c d → IsAlive d.line d.line.pieces p → IsWelcome c d p.pdu

abbrev pub AcksMeanDelivery : Type 0
AcksMeanDelivery = (c : Constants) (d : Direction) → IsReached c d → c.cube.kind ≡ Reliable → IsAcknowledged c d

abbrev pub StateEndsByClock : Type 0
StateEndsByClock = (c : Constants) (d : Direction) → IsReached c d → IsAbsentByClock c d

-- an SDU of no more pieces than there are numbers is refused for want of numbers only while the sender has state,
-- and until that ends
abbrev pub SpentNeedsState : Type 0
SpentNeedsState = (c : Constants) (d : Direction) (parts : List Part) (until : ℕ) → length parts ≤ c.max + 1 → offer_refusal c d parts ≡ Some (NumbersSpent until) →
    (is_absent c d.line.clock d.line.sender ≡ false) × (until ≡ d.line.sender.last_out + 3 * delta c)

abbrev pub GivenUpIsLate : Type 0
GivenUpIsLate = (c : Constants) (d : Direction) (n : ℕ) → IsReached c d → given_up c d.line.clock d.line.sender ≡ Some n → IsGivenUp c d n

-- How the layers above keep a direction: what holds of it holds at the start and after each row

abbrev pub StartHolds : Type 0
StartHolds = (c : Constants) → IsCube c.cube → DirectionHolds c (start c)

abbrev pub RowsHold : Type 0
RowsHold = (c : Constants) (d : Direction) (row : Row) → IsCube c.cube → DirectionHolds c d → May c d row → DirectionHolds c (happens c d row)

-- The cloud: it holds where each PDU that is in flight now was in flight before with a death at least as great, the
-- clock stays or rises, and nothing else changes
abbrev pub CloudHolds : Type 0
CloudHolds = (c : Constants) (d : Direction) (clock : ℕ) (pieces : List (InFlight Piece)) (acks : List (InFlight Ack)) → DirectionHolds c d → d.line.clock ≤ clock → IsCovered d.line.pieces pieces → IsCovered d.line.acks acks →
    DirectionHolds c (record d { line = record d.line { clock = clock; pieces = pieces; acks = acks } })
