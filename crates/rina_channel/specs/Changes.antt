-- What the calls of a DIF do to its links and to the PDUs that wait for them.
use Rattle.std.specs.Prelude.{◌≡◌, ℕ, ◌+◌, ◌≤◌, ◌⊎◌, List, [], ◌∷◌, length, slice_get, slice_set, Option, Some, None}
use Rattle.rina_base.specs.declared.cause.Cause.{Cause}
use Rattle.rina_base.specs.declared.cause.Cause.TheVariants as causes
use Rattle.rina_base.specs.declared.number.Port.{Port}
use Rattle.rina_base.specs.declared.pdu.Pdu.{Pdu}
use Rattle.rina_iface.specs.Seen.{Seen}
use Rattle.rina_queue.specs.declared.queue.Queued.{Queued}
use Rattle.rina_data.specs.Process.{IsQueue, Process, Queue, with_offs, with_put}
use Rattle.rina_data.specs.Queueing.{line_for}
use Rattle.rina_dif_law.specs.Cloud.{Waits}
use Rattle.rina_dif_law.specs.Ids.{IsOfLink}
use Rattle.rina_channel.specs.declared.channel.Channel.{Channel}
use Rattle.rina_channel.specs.Channels.{ChannelsSeen, HasLive, IsLive}
use Rattle.rina_channel.specs.LinkCloud.{LinkCloud}

-- no PDU of a management connection begins to wait, and no link becomes live
pub record LeavesLinks (old new : List Process) : Type 0 where
  pub waits : (i n : ℕ) (item : Queued) → Waits new i n item → Waits old i n item ⊎ (IsOfLink item.pdu → ⊥)
  pub live : (i n : ℕ) (port : Port) → HasLive new i n port → HasLive old i n port

-- the queue of QoS-id 0 for the live link of a channel
pub record IsQueueOf (processes : List Process) (channel : Channel) (process : Process) (place : ℕ) (queue : Queue) : Type 0 where
  pub live : IsLive processes channel
  pub is_process : slice_get processes channel.member ≡ Some process
  pub is_queue : IsQueue process 0 live.link.number place queue

-- PDUs stand at its end, and nothing else changes
pub record IsPutOn (cap : ℕ) (old : List Process) (channel : Channel) (items : List Queued) (new : List Process) : Type 0 where
  pub process : Process
  pub place : ℕ
  pub queue : Queue
  pub is_of : IsQueueOf old channel process place queue
  pub room : length queue.items + length items ≤ cap
  pub new_is : new ≡ slice_set old channel.member (with_put process place queue items)

-- it is full, a PDU is written off, and nothing else changes
pub record IsFullOn (cap : ℕ) (old : List Process) (channel : Channel) (pdu : Pdu) (cause : Cause) (new : List Process) : Type 0 where
  pub process : Process
  pub place : ℕ
  pub queue : Queue
  pub is_of : IsQueueOf old channel process place queue
  pub full : length queue.items ≡ cap
  pub new_is : new ≡ slice_set old channel.member (with_offs process (line_for pdu cause ∷ []))

-- a PDU that is made now waits, or is written off where the queue is full
abbrev pub PostsOn : ℕ → ℕ → ℕ → List Process → Channel → Pdu → Option Cause → List Process → Type 0
PostsOn cap now mpl old channel pdu None new = IsPutOn cap old channel (record { pdu = pdu; left = mpl; since = now } ∷ []) new
PostsOn cap now mpl old channel pdu (Some cause) new = (cause ≡ causes.QueueFull cap) × IsFullOn cap old channel pdu cause new

-- a PDU may come now: it is in the cloud of the links, and not dead
pub record IsAwaited (m : ChannelsSeen) (processes : List Process) (below : Seen) (pdu : Pdu) : Type 0 where
  pub death : ℕ
  pub here : LinkCloud m.config m.channels processes below death pdu
  pub alive : m.clock ≤ death
