-- What it means to send an SDU on a flow of a DIF.
use Rattle.std.specs.Prelude.{◌≡◌, ℕ, ◌+◌, ◌≤◌, List, ◌++◌, length, map, slice_get, slice_set, Option, Some, None, IsSome, Result, Err}
use Rattle.rina_base.specs.declared.number.Num.{Num}
use Rattle.rina_base.specs.declared.pdu.Pdu.{Pdu}
use Rattle.rina_conn.specs.declared.conn.Conn.{Conn}
use Rattle.rina_conn.specs.declared.made.OfferError.{OfferError}
use Rattle.rina_conn.specs.declared.made.OfferError.TheVariants as offer
use Rattle.rina_conn.specs.Sending.{TellsRoom}
use Rattle.rina_iface.specs.declared.ends.End.{End}
use Rattle.rina_iface.specs.declared.error.SendError.{SendError}
use Rattle.rina_iface.specs.declared.error.SendError.TheVariants.{Memory, NotAllocated, NumbersSpent, TooLong, WindowShut}
use Rattle.rina_iface.specs.declared.state.PortState.TheVariants.{Allocated}
use Rattle.rina_iface.specs.Seen.{Seen}
use Rattle.rina_law.specs.Direction.{Direction}
use Rattle.rina_law.specs.Pieces.{Part}
use Rattle.rina_queue.specs.declared.queue.Queue.{Queue}
use Rattle.rina_queue.specs.declared.queue.Queued.{Queued}
use Rattle.rina_queue.specs.Queues.{Changes, queue_place, waiting, with_items}
use Rattle.rina_data.specs.declared.process.IpcProcess.{IpcProcess}
use Rattle.rina_data.specs.Deciding.{queue_settings}
use Rattle.rina_data.specs.Configs.{config_of}
use Rattle.rina_data.specs.Process.{next_hop}
use Rattle.rina_dif_law.specs.Ids.{Ids}
use Rattle.rina_dif_law.specs.Sending.{Offers, home, refused_at}
use Rattle.rina_flows.specs.Calls.{AreParts, AreTied, TellsNeed}
use Rattle.rina_flows.specs.Tied.{IsAt, ids_of}
use Rattle.rina_dif.specs.declared.dif.Dif.{Dif}
use Rattle.rina_dif.specs.declared.send.FirstHop.{FirstHop}
use Rattle.rina_dif.specs.Holding.{Holds}
use Rattle.rina_dif.specs.Shown.{seen_of}

-- the refusal of a sender, as the DIF tells it
abbrev pub send_error : OfferError → SendError
send_error offer.Memory = Memory
send_error (offer.TooLong len max) = TooLong len max
send_error (offer.WindowShut need room) = WindowShut need room
send_error (offer.NumbersSpent until) = NumbersSpent until

-- PDUs that are made at a tick, as they wait
abbrev pub queued : ℕ → ℕ → List Pdu → List Queued
queued left since pdus = map (λ (pdu : Pdu). record { pdu = pdu; left = left; since = since }) pdus

-- the queue of a cube and link has room for so many PDUs more
pub record HasRoomFor (qos link count : ℕ) (p : IpcProcess) : Type 0 where
  pub there : IsSome (queue_place qos link p.queues.queues.items)
  pub room : length (waiting qos link p.queues.queues.items) + count ≤ p.queues.cap

-- the PDUs are all of this cube
abbrev pub AreOf : ℕ → List Pdu → Type 0
AreOf qos pdus = (k : ℕ) (pdu : Pdu) → slice_get pdus k ≡ Some pdu → pdu.qos ≡ qos

-- more PDUs wait in the queue of a cube and link, and nothing else changes
pub record HasPut (qos link : ℕ) (items : List Queued) (p p' : IpcProcess) : Type 0 where
  pub queues : Changes qos link (λ (q : Queue). with_items (q.ring.items ++ items) q) p.queues.queues.items p'.queues.queues.items
  pub kept : queue_settings p' ≡ queue_settings p
  pub links : p'.links ≡ p.links
  pub routes : p'.routes ≡ p.routes
  pub ledger : p'.ledger ≡ p.ledger

-- of the IPC process at a place, and of no other
abbrev pub Puts : ℕ → ℕ → List Queued → ℕ → List IpcProcess → List IpcProcess → Type 0
Puts qos link items at old new = (p : IpcProcess) → slice_get old at ≡ Some p → (p' : IpcProcess) × HasPut qos link items p p' × (new ≡ slice_set old at p')

-- the IPC process at a node has a next hop to the far end, link n, whose queue has room for so many pieces
pub record IsFirstHop (d : Dif) (node : ℕ) (ids : Ids) (count i n : ℕ) : Type 0 where
  pub at_home : home node (config_of d.settings).members ≡ Some i
  pub process : IpcProcess
  pub is_process : slice_get d.processes i ≡ Some process
  pub hop : next_hop ids.far process.routes ≡ Some n
  pub room : HasRoomFor ids.qos n count process

-- the end at a place refuses this SDU so, whatever directions its flows are tied to
abbrev pub IsBarred : Dif → ℕ → List ℕ → SendError → Type 0
IsBarred d at sdu e = (lines : List Direction) (parts : List Part) → AreTied (config_of d.settings) d.clock d.flows lines → AreParts (config_of d.settings) sdu parts → refused_at (seen_of d) lines at parts ≡ Some e

-- it refuses this SDU at most because its numbers are spent: it is allocated, the SDU is not too long, the window has
-- room for its pieces, and so has the queue of their next hop
pub record IsAdmitted (d : Dif) (at : ℕ) (sdu : List ℕ) (way : FirstHop) : Type 0 where
  pub end : End
  pub conn : Conn
  pub is_at : IsAt d.flows.journal.ends d.flows.conns at end conn
  pub allocated : end.state ≡ Allocated
  pub short : length sdu ≤ conn.sending.form.cube.largest
  pub need : ℕ
  pub told_need : TellsNeed (length sdu) conn.sending.form.piece need
  pub room : ℕ
  pub told_room : TellsRoom d.clock conn.sending room
  pub within : need ≤ room
  pub goes : IsFirstHop d end.port.node (ids_of conn) need way.home way.link
  pub qos : way.qos ≡ (ids_of conn).qos
  pub left : way.left ≡ conn.sending.form.cube.mpl

-- what `send` does at the end of a place
pub record Sends (d : Dif) (lines : List Direction) (below : Seen) (at : ℕ) (sdu : List ℕ) (result : Result Num SendError) (d' : Dif) : Type 0 where
  pub parts : List Part
  pub cut : AreParts (config_of d.settings) sdu parts
  pub lines' : List Direction
  pub offers : Offers (seen_of d) lines at parts result (seen_of d') lines'
  pub holds : Holds d' lines' below

-- there is no such port
abbrev pub SendsNowhere : Dif → List Direction → Seen → Result Num SendError → Dif → Type 0
SendsNowhere d lines below (Err Memory) d' = (seen_of d' ≡ seen_of d) × Holds d' lines below
SendsNowhere d lines below result d' = (result ≡ Err (NotAllocated None)) × (seen_of d' ≡ seen_of d) × Holds d' lines below

-- what `send` does at a port
abbrev pub SendsAt : Option ℕ → Dif → List Direction → Seen → List ℕ → Result Num SendError → Dif → Type 0
SendsAt (Some at) d lines below sdu result d' = Sends d lines below at sdu result d'
SendsAt None d lines below sdu result d' = SendsNowhere d lines below result d'
