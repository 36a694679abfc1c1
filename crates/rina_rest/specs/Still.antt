-- What is left of a direction once its sender's end has ended and the id of that end has rested.
use Rattle.std.specs.Prelude.{◌≡◌, ℕ, ◌+◌, ◌*◌, ◌<◌, ◌≤◌, false, List, [], ◌∷◌, Option, Some, None, slice_get}
use Rattle.rina_cube.specs.Cubes.{IsCube}
use Rattle.rina_law.specs.Constants.{Constants, delta}
use Rattle.rina_law.specs.Direction.{Direction, start, Row, Time, Offer, Again, Cloud, IsRun, after}
use Rattle.rina_law.specs.DirectionHolds.{DirectionHolds}
use Rattle.rina_law.specs.Lawful.{IsAlive}
use Rattle.rina_law.specs.Line.{InFlight}
use Rattle.rina_law.specs.Receiver.{Piece, no_state, is_present}
use Rattle.rina_law.specs.Sender.{Ack}
use Rattle.rina_rest.specs.Flows.{Endpoint, Side, Flow, end_at, IsFree, both_ended}

-- the ticks for which an id of a connection rests
abbrev pub rest_of : Constants → ℕ
rest_of c = 3 * delta c

-- no piece and no acknowledgement of a direction is in flight, and its receiver has no state
pub record IsStill (c : Constants) (d : Direction) : Type 0 where
  pub pieces : (p : InFlight Piece) → IsAlive d.line d.line.pieces p → ⊥
  pub acks : (k : InFlight Ack) → IsAlive d.line d.line.acks k → ⊥
  pub receiver : is_present c d.line.clock d.line.receiver ≡ false

-- the sender's end ended at a tick: it made no piece later
abbrev pub HasEnded : Direction → ℕ → Type 0
HasEnded d at = d.line.sender.last_out ≤ at

-- a row in which the sender's end makes no piece
abbrev pub MakesNone : Row → Type 0
MakesNone (Offer parts) = ⊥
MakesNone Again = ⊥
MakesNone _ = Unit {0}

abbrev pub AllMakeNone : List Row → Type 0
AllMakeNone [] = Unit {0}
AllMakeNone (row ∷ rows) = MakesNone row × AllMakeNone rows

-- Whatever the other end does

-- a direction whose sender's end ended `3 * delta` ago is still
abbrev pub EndedIsStill : Type 0
EndedIsStill = (c : Constants) (d : Direction) (at : ℕ) → IsCube c.cube → DirectionHolds c d → HasEnded d at → at + rest_of c ≤ d.line.clock → IsStill c d

-- the same of rows from the tick at which that end ended on, in which it makes no piece
abbrev pub RestIsStill : Type 0
RestIsStill = (c : Constants) (d : Direction) (rows : List Row) → IsCube c.cube → DirectionHolds c d → IsRun c d rows → AllMakeNone rows → d.line.clock + rest_of c ≤ (after c d rows).line.clock → IsStill c (after c d rows)

-- a direction is still at every tick whose sender's end was never made, or never sent
abbrev pub UnusedIsStill : Type 0
UnusedIsStill = (c : Constants) (d : Direction) → IsCube c.cube → DirectionHolds c d → d.line.sender.run ≡ [] → IsStill c d

-- Where an id is drawn again, the direction whose sender had it is still. Ids rest for so many ticks, by the cube
abbrev pub DrawnIsStill : (Constants → ℕ) → Type 0
DrawnIsStill rest = (c : Constants) (d : Direction) (flows : List Flow) (i : ℕ) (f : Flow) (side : Side) (e : Endpoint) → IsCube c.cube → DirectionHolds c d → slice_get flows i ≡ Some f → end_at side f ≡ Some e → f.rest ≡ rest c →
    ((t : ℕ) → e.ended ≡ Some t → HasEnded d t) → IsFree d.line.clock flows e.addr e.cep → IsStill c d

-- When it dies

-- what is in flight dies before a tick
pub record DiesBy (c : Constants) (until : ℕ) (d : Direction) : Type 0 where
  pub pieces : (p : InFlight Piece) → IsAlive d.line d.line.pieces p → p.death < until
  pub acks : (k : InFlight Ack) → IsAlive d.line d.line.acks k → k.death < until

-- before the rest of the sender's id is over
abbrev pub EndedDies : Type 0
EndedDies = (c : Constants) (d : Direction) (at : ℕ) → IsCube c.cube → DirectionHolds c d → HasEnded d at → DiesBy c (at + rest_of c) d

-- if that end ends now
abbrev pub StandingDies : Type 0
StandingDies = (c : Constants) (d : Direction) → IsCube c.cube → DirectionHolds c d → DiesBy c (d.line.clock + rest_of c) d

-- so before both ids have rested, where `sender` and `other` tell when the two ends ended
abbrev pub DiesInUse : Type 0
DiesInUse = (c : Constants) (d : Direction) (sender other : Option ℕ) → IsCube c.cube → DirectionHolds c d → ((t : ℕ) → sender ≡ Some t → HasEnded d t) →
    DiesBy c (both_ended d.line.clock sender other + rest_of c) d × DiesBy c (both_ended d.line.clock other sender + rest_of c) d

-- of a part of a cloud
pub record CloudDiesBy (now until : ℕ) (pieces : ℕ → Piece → Type 0) (acks : ℕ → Ack → Type 0) : Type 0 where
  pub pieces_die : (death : ℕ) (p : Piece) → pieces death p → now ≤ death → death < until
  pub acks_die : (death : ℕ) (k : Ack) → acks death k → now ≤ death → death < until

-- Receiving ends that were never made

-- nothing was taken
pub record IsUntaken (c : Constants) (d : Direction) : Type 0 where
  pub receiver : d.line.receiver ≡ no_state
  pub inbox : d.inbox ≡ (start c).inbox
  pub passed : d.passed ≡ 0
  pub mark : d.mark ≡ None

-- a row of the sender, of time, or of losses and repeats: nothing else happens while the receiving end is not made
abbrev pub IsBySender : Row → Type 0
IsBySender (Time ticks) = Unit {0}
IsBySender (Offer parts) = Unit {0}
IsBySender Again = Unit {0}
IsBySender (Cloud pieces acks) = Unit {0}
IsBySender _ = ⊥

abbrev pub AllBySender : List Row → Type 0
AllBySender [] = Unit {0}
AllBySender (row ∷ rows) = IsBySender row × AllBySender rows

abbrev pub UntakenStays : Type 0
UntakenStays = (c : Constants) (d : Direction) (rows : List Row) → IsUntaken c d → AllBySender rows → IsUntaken c (after c d rows)
