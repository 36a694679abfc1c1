-- When a DIF stands on the rank below.
use Rattle.std.specs.Prelude.{◌≡◌, ◌≢◌, ℕ, ◌+◌, ◌*◌, ◌^◌, ◌<◌, ◌≤◌, ◌⊎◌, false, List, [], length, slice_get, Some}
use Rattle.rina_base.specs.declared.number.Port.{Port}
use Rattle.rina_base.specs.declared.pdu.Pdu.{Pdu}
use Rattle.rina_base.specs.declared.pdu.PduKind.TheVariants.{Piece, Ack}
use Rattle.rina_cube.specs.declared.Cube.{Cube}
use Rattle.rina_cube.specs.Cubes.{IsCube, delta_of}
use Rattle.rina_iface.specs.declared.ends.End.{End}
use Rattle.rina_iface.specs.declared.state.PortState.TheVariants.{Allocated}
use Rattle.rina_iface.specs.declared.state.Role.TheVariants as roles
use Rattle.rina_iface.specs.Journal.{At, HasPartner, HasPorts, IsNamed, IsPartner, IsWhole}
use Rattle.rina_iface.specs.Seen.{Seen, end_of, largest_at}
use Rattle.rina_law.specs.declared.entry.Entry.{Entry}
use Rattle.rina_law.specs.Constants.{Constants}
use Rattle.rina_law.specs.Direction.{Direction}
use Rattle.rina_pci.specs.Life.{protected}
use Rattle.rina_pci.specs.Spelling.{AreWidths, pci_size, spelling}
use Rattle.rina_queue.specs.declared.queue.Queued.{Queued}
use Rattle.rina_rest.specs.Flows.{Asker, Endpoint, Far, Flow, IsInUse, Side, end_at}
use Rattle.rina_rest.specs.Ledger.{LedgerHolds}
use Rattle.rina_rest.specs.Naming.{Naming}
use Rattle.rina_rest.specs.Still.{IsUntaken}
use Rattle.rina_rest.specs.While.{IsBackedIf, IsDirectionFrom}
use Rattle.rina_ids.specs.Members.{CepIds}
use Rattle.rina_dif_law.specs.CepIds.{AreHeld}
use Rattle.rina_dif_law.specs.Cloud.{Cloud, Everywhere, IsMine, Waits}
use Rattle.rina_data.specs.declared.link.Link.{Link}
use Rattle.rina_data.specs.Configs.{Config, Member, cube_by}
use Rattle.rina_data.specs.Process.{Process}
use Rattle.rina_dif_law.specs.Dif.{DifSeen, fac_of, constants}
use Rattle.rina_dif_law.specs.Ids.{Ids, PiecesOf, AcksOf}
use Rattle.rina_dif_law.specs.Places.{IsEntered, Place, ids_from}
use Rattle.rina_data.specs.Fitting.{IsFit}

-- What never changes

-- the numbers of the cubes are within their limits, and a PDU has room for a byte of an SDU and for an
-- acknowledgement, and its length fits its field
pub record IsConfig (g : Config) : Type 0 where
  pub widths : AreWidths g.widths
  pub cubes : (i : ℕ) (cube : Cube) → slice_get g.cubes i ≡ Some cube → IsCube cube
  pub long : g.pdu < 2 ^ (8 * g.widths.len)
  pub piece : 4 + pci_size Piece g.widths < g.pdu
  pub ack : 4 + pci_size Ack g.widths ≤ g.pdu

-- The PDUs

-- one that waits: it came into this system at a tick of the past
pub record IsItem (g : Config) (now : ℕ) (item : Queued) : Type 0 where
  pub fit : IsFit g item.pdu
  pub past : item.since ≤ now
  pub left : item.left < 2 ^ 32

-- an SDU below is a PDU behind the lifetime that it has left
pub record IsSpelled (g : Config) (bytes : List ℕ) : Type 0 where
  pub pdu : Pdu
  pub left : ℕ
  pub fit : IsFit g pdu
  pub bound : left < 2 ^ 32
  pub is : bytes ≡ protected left (spelling g.widths pdu)

-- The flows below

-- the end of this port is that of an IPC process of this name
pub record IsLinked (below : Seen) (name : List ℕ) (port : Port) : Type 0 where
  pub end : End
  pub here : end_of below port ≡ Some end
  pub app : end.app ≡ name

-- an IPC process has this link
pub record HasLink (processes : List Process) (i : ℕ) (link : Link) : Type 0 where
  pub process : Process
  pub is_process : slice_get processes i ≡ Some process
  pub place : ℕ
  pub stands : slice_get process.links place ≡ Some link

-- a flow below runs between two members, and takes whole PDUs
pub record IsInside (g : Config) (below : Seen) (port : Port) (end : End) : Type 0 where
  pub app : IsMine g.members end.app
  pub peer : IsMine g.members end.peer
  pub largest : ℕ
  pub is_largest : largest_at below port ≡ Some largest
  pub whole : g.pdu ≤ largest

-- The own flows

-- the journal: a flow has one asker and one far end, partners are named after each other, an allocated end and one
-- that got something has a partner
pub record IsJournal (now : ℕ) (ends : List End) : Type 0 where
  pub distinct : (i k : ℕ) (a b : End) → At ends i a → At ends k b → a.flow ≡ b.flow → a.role ≡ b.role → i ≡ k
  pub far : (i : ℕ) (e : End) → At ends i e → e.role ≡ roles.Far → HasPartner ends e
  pub named : (i k : ℕ) (e other : End) → At ends i e → At ends k other → IsPartner e other → IsNamed e other
  pub allocated : (i : ℕ) (e : End) → At ends i e → e.state ≡ Allocated → HasPartner ends e
  pub met : (i j : ℕ) (e : End) (x : Entry) → At ends i e → slice_get e.got j ≡ Some x → HasPartner ends e
  pub whole : (i : ℕ) (e : End) → At ends i e → IsWhole now e

-- at this place stand this end and the ids of its connection
pub record IsConn (ends : List End) (conns : List Ids) (i : ℕ) (e : End) (ids : Ids) : Type 0 where
  pub end : At ends i e
  pub ids_are : slice_get conns i ≡ Some ids

-- the ids of an end fit their fields, and name its cube
pub record AreIds (g : Config) (e : End) (ids : Ids) : Type 0 where
  pub own : ids.own < 2 ^ (8 * g.widths.addr)
  pub far : ids.far < 2 ^ (8 * g.widths.addr)
  pub scep : ids.scep < 2 ^ (8 * g.widths.cep)
  pub dcep : ids.dcep < 2 ^ (8 * g.widths.cep)
  pub qos : ids.qos ≡ e.cube

-- each end of the journal has a place of its own in the ledger of flows, and each end of the ledger stands in the journal.
-- Ends of one flow, and no others, have one flow name
pub record AreEntered (ends : List End) (conns : List Ids) (flows : List Flow) (places : List Place) : Type 0 where
  pub places_alike : length places ≡ length ends
  pub each : (i : ℕ) (e : End) (ids : Ids) (at : Place) → IsConn ends conns i e ids → slice_get places i ≡ Some at → IsEntered flows at e ids
  pub once : (i k : ℕ) (x y : Place) → slice_get places i ≡ Some x → slice_get places k ≡ Some y → x.flow ≡ y.flow → x.side ≡ y.side → i ≡ k
  pub named : (i k : ℕ) (a b : End) (x y : Place) → At ends i a → At ends k b → slice_get places i ≡ Some x → slice_get places k ≡ Some y → x.flow ≡ y.flow → a.flow ≡ b.flow
  pub apart : (i k : ℕ) (a b : End) (x y : Place) → At ends i a → At ends k b → slice_get places i ≡ Some x → slice_get places k ≡ Some y → a.flow ≡ b.flow → x.flow ≡ y.flow
  pub all : (n : ℕ) (side : Side) (flow : Flow) (point : Endpoint) → slice_get flows n ≡ Some flow → end_at side flow ≡ Some point → (i : ℕ) × (slice_get places i ≡ Some (record { flow = n; side = side }))

-- a direction from the end a with ids c to the end b. A direction of the laws stands behind its part of the cloud, while the
-- connection is used, and has the journals of both ends
pub record IsDirection (g : Config) (now : ℕ) (cloud : ℕ → Pdu → Type 0) (used : Type 0) (a b : End) (c : Ids) (line : Direction) : Type 0 where
  pub cube : Cube
  pub is_cube : cube_by c.qos g.cubes ≡ Some cube
  pub backed : IsBackedIf used (constants g cube c) now (PiecesOf cloud c) (AcksOf cloud c) line
  pub sent : line.sent ≡ a.sent
  pub got : line.inbox.got ≡ b.got
  pub passed : line.passed ≡ b.taken

-- until the asker was told it has sent nothing, and has taken nothing of what the far end sent
abbrev pub IsUntold : Constants → Side → Flow → Direction → Type 0
IsUntold c Asker flow line = flow.told ≡ false → line.line.sender.run ≡ []
IsUntold c Far flow line = flow.told ≡ false → IsUntaken c line

-- the direction of a flow from its end a at a side, with ids c, to the end b. It stands behind its part of the cloud while the connection
-- is in use: until both ids have rested
pub record IsFlow (g : Config) (now : ℕ) (cloud : ℕ → Pdu → Type 0) (flow : Flow) (far : Endpoint) (side : Side) (a b : End) (c : Ids) (line : Direction) : Type 0 where
  pub direction : IsDirection g now cloud (IsInUse now flow) a b c line
  pub from : IsDirectionFrom (constants g direction.cube c) side flow far line
  pub untold : IsUntold (constants g direction.cube c) side flow line

-- a PDU is of a flow: its CEP-id is not the 0 of management, or a cube of these flows has its QoS-id
abbrev pub IsOfFlow : Config → Pdu → Type 0
IsOfFlow g pdu = (pdu.scep ≢ 0) ⊎ ((cube : Cube) × (cube_by pdu.qos g.cubes ≡ Some cube))

-- for so many ticks rest the CEP-ids of a flow of the cube with this id
abbrev pub RestsBy : Config → ℕ → ℕ → Type 0
RestsBy g qos rest = (cube : Cube) → cube_by qos g.cubes ≡ Some cube → rest ≡ 3 * delta_of cube

-- the own flows have a ledger, in which each end has its place. No two ends that stand have one address and one CEP-id, nor
-- has one that stands those of one that rests: the ids of a flow rest for `3 * delta` of its cube, and the members hold their
-- ids so. Each PDU that may still come is of a connection in use. `lines` has at the place of each end the direction in which it
-- sends
pub record IsOwn (g : Config) (now : ℕ) (cloud : ℕ → Pdu → Type 0) (held : List CepIds) (ends : List End) (conns : List Ids) (lines : List Direction) : Type 0 where
  pub alike : length conns ≡ length ends
  pub lines_alike : length lines ≡ length ends
  pub flows : List Flow
  pub places : List Place
  pub entered : AreEntered ends conns flows places
  pub ledger : LedgerHolds now flows (Naming (IsOfFlow g) cloud)
  pub rests : (i : ℕ) (e : End) (x : Place) (flow : Flow) → At ends i e → slice_get places i ≡ Some x → slice_get flows x.flow ≡ Some flow → RestsBy g e.cube flow.rest
  pub kept : AreHeld g now flows held
  pub ids : (i : ℕ) (e : End) (c : Ids) → IsConn ends conns i e c → AreIds g e c
  pub flows_are : (i k : ℕ) (a b : End) (x : Place) (flow : Flow) (far : Endpoint) (line : Direction) → At ends i a → At ends k b → IsPartner a b → slice_get places i ≡ Some x → slice_get flows x.flow ≡ Some flow → flow.far ≡ Some far → slice_get lines i ≡ Some line → IsFlow g now cloud flow far x.side a b (ids_from x.side flow far a.cube) line

-- A DIF stands on the rank below

pub record IsStanding (d : DifSeen) (lines : List Direction) (below : Seen) : Type 0 where
  pub config : IsConfig d.config
  pub clock : d.clock ≡ below.now
  pub aligned : length d.processes ≡ length d.config.members
  pub linked : (i : ℕ) (member : Member) (link : Link) → slice_get d.config.members i ≡ Some member → HasLink d.processes i link → IsLinked below member.name link.port
  pub inside : (port : Port) (end : End) → end_of below port ≡ Some end → IsMine d.config.members end.app ⊎ IsMine d.config.members end.peer → IsInside d.config below port end
  pub spelled : (port : Port) (end : End) (j : ℕ) (x : Entry) → end_of below port ≡ Some end → IsMine d.config.members end.app → slice_get end.sent j ≡ Some x → IsSpelled d.config x.bytes
  pub items : (i n : ℕ) (item : Queued) → Waits d.processes i n item → IsItem d.config d.clock item
  pub journal : IsJournal d.clock d.ends
  pub ports : HasPorts d.config.fac (fac_of d)
  pub own : IsOwn d.config d.clock (Cloud Everywhere d.config d.processes below) d.ids d.ends d.conns lines
