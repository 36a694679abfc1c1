-- A DIF without links.
use Rattle.std.specs.Prelude.{◌≡◌, ℕ, ◌⊎◌, List, [], ◌∷◌, length, map, slice_get, Some}
use Rattle.rina_base.specs.declared.number.Port.{Port}
use Rattle.rina_iface.specs.declared.ends.End.{End}
use Rattle.rina_iface.specs.Seen.{Seen, end_of}
use Rattle.rina_cube.specs.declared.Cube.{Cube}
use Rattle.rina_ids.specs.Members.{AreUndrawn}
use Rattle.rina_pci.specs.Spelling.{AreWidths}
use Rattle.rina_queue.specs.Queues.{AreIds}
use Rattle.rina_data.specs.declared.process.IpcProcess.{IpcProcess}
use Rattle.rina_data.specs.declared.settings.Settings.{Settings}
use Rattle.rina_dif_law.specs.Cloud.{IsMine}
use Rattle.rina_data.specs.Configs.{Config}
use Rattle.rina_dif.specs.declared.dif.Dif.{Dif}

-- no end of the rank below has a member as its application or its peer
abbrev pub IsFree : Config → Seen → Type 0
IsFree g below = (port : Port) (end : End) → end_of below port ≡ Some end → IsMine g.members end.app ⊎ IsMine g.members end.peer → ⊥

-- the ids of the queues of a link: that of management, and those of the cubes
abbrev pub queue_ids : List Cube → List ℕ
queue_ids cubes = 0 ∷ map (λ (c : Cube). c.id) cubes

-- an IPC process without links and next hops, whose queues will be those that its DIF says
pub record IsBare (settings : Settings) (p : IpcProcess) : Type 0 where
  pub links : p.links ≡ []
  pub routes : p.routes ≡ []
  pub queues : p.queues.queues.items ≡ []
  pub room : p.queues.cap ≡ settings.cap
  pub ids : AreIds (queue_ids settings.cubes) p.queues.cubes
  pub ledger : p.ledger ≡ []

-- one for each member
pub record AreBare (settings : Settings) (processes : List IpcProcess) : Type 0 where
  pub aligned : length processes ≡ length settings.members
  pub each : (i : ℕ) (p : IpcProcess) → slice_get processes i ≡ Some p → IsBare settings p

-- a DIF without links, their management connections, flows, asks for them and names, where no member ever drew a CEP-id
pub record IsBareDif (d : Dif) : Type 0 where
  pub processes : AreBare d.settings d.processes
  pub ends : d.flows.journal.ends ≡ []
  pub ids : AreWidths d.settings.widths → AreUndrawn d.settings.widths.cep (length d.settings.members) d.ids
  pub conns : d.flows.conns ≡ []
  pub waiting : d.waiting.items ≡ []
  pub asks : d.asks.items ≡ []
  pub names : d.names ≡ []
  pub channels : d.connections.channels ≡ []
  pub link_ends : d.connections.flows.journal.ends ≡ []
  pub link_conns : d.connections.flows.conns ≡ []
