-- How an IPC process takes its end of a flow below as one link more while the DIF runs, and what must be known of it.
use Rattle.std.specs.Prelude.{◌≡◌, ℕ, ◌<◌, true, List, [], ◌∷◌, ◌++◌, slice_get, slice_set, Some}
use Rattle.rina_base.specs.declared.number.Port.{Port}
use Rattle.rina_channel.specs.declared.channel.Attachment.{Attachment}
use Rattle.rina_channel.specs.Channels.{HasLive}
use Rattle.rina_data.specs.declared.link.Link.{Link}
use Rattle.rina_data.specs.declared.process.IpcProcess.{IpcProcess}
use Rattle.rina_data.specs.Configs.{Member, config_of}
use Rattle.rina_data.specs.Process.{Process}
use Rattle.rina_dif_law.specs.Accounted.{IsAccounted}
use Rattle.rina_dif_law.specs.Carried.{IsCarrying}
use Rattle.rina_dif_law.specs.Cloud.{Waits}
use Rattle.rina_dif_law.specs.Caused.{AreCaused}
use Rattle.rina_dif_law.specs.Numbered.{IsNumbered}
use Rattle.rina_dif_law.specs.Standing.{IsLinked, IsStanding}
use Rattle.rina_dif_law.specs.Written.{AreWrittenOff}
use Rattle.rina_flows.specs.Calls.{AreTied}
use Rattle.rina_iface.specs.Seen.{Seen}
use Rattle.rina_law.specs.Direction.{Direction}
use Rattle.rina_member.specs.Knowing.{IsFreeNumber}
use Rattle.rina_queue.specs.declared.queue.Queued.{Queued}
use Rattle.rina_queue.specs.Queues.{added}
use Rattle.rina_dif.specs.declared.dif.Dif.{Dif}
use Rattle.rina_dif.specs.Holding.{AreHoused}
use Rattle.rina_dif.specs.Shown.{seen_of}

-- What changes of the IPC process

-- the link is there, of this number, on this port below
abbrev pub link_of : Attachment → Link
link_of link = record { port = link.port; number = link.number; live = true }

-- an IPC process has one link more, and its queues. Those that an earlier link of its number had stay
pub record TakesLink (link : Attachment) (p p' : IpcProcess) : Type 0 where
  pub links : p'.links ≡ p.links ++ link_of link ∷ []
  pub routes : p'.routes ≡ p.routes
  pub queues : p'.queues.queues.items ≡ added p.queues.cap link.number p.queues.cubes p.queues.queues.items
  pub cap : p'.queues.cap ≡ p.queues.cap
  pub cubes : p'.queues.cubes ≡ p.queues.cubes
  pub ledger : p'.ledger ≡ p.ledger

-- What must be known of it

-- no live link has the number, which is one of the first 16, and the port is that of an end of the rank below whose application is the member of this place.
-- That no PDU waits for such a number, a DIF knows, and that the flow of such an end runs inside it and takes whole PDUs
pub record CanTakeLink (d : Dif) (below : Seen) (i : ℕ) (p : IpcProcess) (link : Attachment) : Type 0 where
  pub is_process : slice_get d.processes i ≡ Some p
  pub free : IsFreeNumber p.links link.number
  pub low : link.number < 16
  pub linked : (member : Member) → slice_get (config_of d.settings).members i ≡ Some member → IsLinked below member.name link.port

-- PDUs wait for live links alone, so that none waits for the number that a new link gets
abbrev pub WaitOnLive : List Process → Type 0
WaitOnLive processes = (i n : ℕ) (item : Queued) → Waits processes i n item → (port : Port) × HasLive processes i n port

-- What holds then

-- what holds of a DIF at every moment, but for what its members' managements know, its enrolled members, its management connections and its flooding
pub record HoldsOfFlows (d : Dif) (lines : List Direction) (below : Seen) : Type 0 where
  pub tied : AreTied (config_of d.settings) d.clock d.flows lines
  pub standing : IsStanding (seen_of d) lines below
  pub carrying : IsCarrying (seen_of d) lines below
  pub numbered : IsNumbered (seen_of d) below
  pub accounted : IsAccounted (seen_of d) lines below
  pub caused : AreCaused (seen_of d) below
  pub written_off : AreWrittenOff (seen_of d)
  pub housed : AreHoused (config_of d.settings) d.processes

-- the DIF with this IPC process in the place of another
abbrev pub with_ipc : Dif → ℕ → IpcProcess → Dif
with_ipc d i p' = record d { processes = slice_set d.processes i p' }
