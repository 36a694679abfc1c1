-- When a DIF is lawful: each direction of each of its flows is, and so is all that is under way of it.
use Rattle.std.specs.Prelude.{◌≡◌, ℕ, ◌≤◌, ◌⊎◌, List, slice_get, Some}
use Rattle.rina_base.specs.declared.pdu.Pdu.{Pdu}
use Rattle.rina_cube.specs.declared.Cube.{Cube}
use Rattle.rina_iface.specs.declared.ends.End.{End}
use Rattle.rina_iface.specs.declared.state.PortState.TheVariants.{Allocated}
use Rattle.rina_iface.specs.Journal.{At, IsPartner}
use Rattle.rina_iface.specs.Seen.{Seen}
use Rattle.rina_law.specs.Backed.{IsIn}
use Rattle.rina_law.specs.Direction.{Direction}
use Rattle.rina_law.specs.Lawful.{IsAbsentByClock, IsLawful}
use Rattle.rina_law.specs.Receiver.{Piece}
use Rattle.rina_law.specs.Sender.{Ack}
use Rattle.rina_data.specs.Configs.{Config, cube_by}
use Rattle.rina_dif_law.specs.Cloud.{Cloud, Everywhere}
use Rattle.rina_dif_law.specs.Dif.{DifSeen, constants}
use Rattle.rina_dif_law.specs.Ids.{AcksOf, Ids, PiecesOf, flipped}
use Rattle.rina_dif_law.specs.Places.{Place, ids_from}
use Rattle.rina_dif_law.specs.Standing.{AreEntered, IsConn, IsOfFlow, IsStanding}
use Rattle.rina_rest.specs.Flows.{Endpoint, Flow, IsInUse}
use Rattle.rina_rest.specs.Ledger.{LedgerHolds}
use Rattle.rina_rest.specs.Naming.{Naming}

-- the direction of a flow from the end a with ids c to the end b is lawful: it has their journals, and while the connection is
-- used, of each of its PDUs that waits or flies and is not dead it holds one like it that dies no earlier
pub record IsLawfulFlow (g : Config) (now : ℕ) (cloud : ℕ → Pdu → Type 0) (used : Type 0) (a b : End) (c : Ids) (line : Direction) : Type 0 where
  pub cube : Cube
  pub is_cube : cube_by c.qos g.cubes ≡ Some cube
  pub clock : line.line.clock ≡ now
  pub sent : line.sent ≡ a.sent
  pub got : line.inbox.got ≡ b.got
  pub pieces : (death : ℕ) (p : Piece) → used → PiecesOf cloud c death p → now ≤ death → IsIn line.line.pieces death p
  pub acks : (death : ℕ) (k : Ack) → used → AcksOf cloud c death k → now ≤ death → IsIn line.line.acks death k
  pub lawful : IsLawful (constants g cube c) line

-- two addresses and two CEP-ids, by one end, are those of another, in this order
pub record HaveSameNames (c f : Ids) : Type 0 where
  pub own : c.own ≡ f.own
  pub far : c.far ≡ f.far
  pub scep : c.scep ≡ f.scep
  pub dcep : c.dcep ≡ f.dcep

-- in either order
abbrev pub IsSameFour : Ids → Ids → Type 0
IsSameFour c f = HaveSameNames c f ⊎ HaveSameNames (flipped c) f

-- the end at a place is one of a connection in use, by these ids: at least one of its two CEP-ids is in use or at rest
pub record IsEndInUse (now : ℕ) (flows : List Flow) (places : List Place) (i : ℕ) (e : End) (ids : Ids) : Type 0 where
  pub place : Place
  pub is_place : slice_get places i ≡ Some place
  pub flow : Flow
  pub stands : slice_get flows place.flow ≡ Some flow
  pub used : IsInUse now flow
  pub ids_are : ids ≡ ids_from place.side flow used.far e.cube

-- the flows of a DIF have a ledger, in which each end has its place. The direction at the place of each end that has a partner
-- is lawful, by its flow in the ledger: for as long as that is in use. No two connections in use have the same two addresses and
-- the same two CEP-ids, but for the two ends of one flow; and each end that is allocated is one of a connection in use. The state of
-- a sender, and that of its receiver, ends by the clock, at exactly the ticks of delta-t
pub record AreLawful (d : DifSeen) (lines : List Direction) (below : Seen) : Type 0 where
  pub flows : List Flow
  pub places : List Place
  pub entered : AreEntered d.ends d.conns flows places
  pub ledger : LedgerHolds d.clock flows (Naming (IsOfFlow d.config) (Cloud Everywhere d.config d.processes below))
  pub each : (i k : ℕ) (a b : End) (x : Place) (flow : Flow) (far : Endpoint) (line : Direction) → At d.ends i a → At d.ends k b → IsPartner a b → slice_get places i ≡ Some x → slice_get flows x.flow ≡ Some flow → flow.far ≡ Some far → slice_get lines i ≡ Some line
      → IsLawfulFlow d.config d.clock (Cloud Everywhere d.config d.processes below) (IsInUse d.clock flow) a b (ids_from x.side flow far a.cube) line
  pub used : (i : ℕ) (e : End) (ids : Ids) → IsConn d.ends d.conns i e ids → e.state ≡ Allocated → IsEndInUse d.clock flows places i e ids
  pub apart : (i k : ℕ) (a b : End) (c f : Ids) → At d.ends i a → At d.ends k b → IsEndInUse d.clock flows places i a c → IsEndInUse d.clock flows places k b f → IsSameFour c f → a.flow ≡ b.flow
  pub by_clock : (i k : ℕ) (a b : End) (x : Place) (flow : Flow) (far : Endpoint) (line : Direction) (cube : Cube) → At d.ends i a → At d.ends k b → IsPartner a b → slice_get places i ≡ Some x → slice_get flows x.flow ≡ Some flow → flow.far ≡ Some far → slice_get lines i ≡ Some line
      → cube_by a.cube d.config.cubes ≡ Some cube → IsAbsentByClock (constants d.config cube (ids_from x.side flow far a.cube)) line

-- a DIF that stands on the rank below is lawful
abbrev pub StandingIsLawful : Type 0
StandingIsLawful = (d : DifSeen) (lines : List Direction) (below : Seen) → IsStanding d lines below → AreLawful d lines below
