-- What the management connection of a link does by the clock.
use Rattle.std.specs.Prelude.{◌≡◌, ℕ, ◌+◌, ◌≤◌, Bool, List, [], ◌∷◌, length, map, slice_get, slice_set, Option, Some, None, Result, Ok, Err}
use Rattle.rina_account.specs.declared.ledger.Off.{Off}
use Rattle.rina_base.specs.declared.cause.Cause.{Cause}
use Rattle.rina_base.specs.declared.cause.Cause.TheVariants as causes
use Rattle.rina_base.specs.declared.memory.Memory.{Memory}
use Rattle.rina_base.specs.declared.number.Num.{Num}
use Rattle.rina_base.specs.declared.pdu.Pdu.{Pdu}
use Rattle.rina_iface.specs.Free.{IsFreed}
use Rattle.rina_iface.specs.Seen.{Seen}
use Rattle.rina_law.specs.Sender.{given_up}
use Rattle.rina_channel.specs.declared.channel.Attachment.{Attachment}
use Rattle.rina_channel.specs.declared.channel.Channel.{Channel}
use Rattle.rina_flows.specs.Timely.{IsNumberDue}
use Rattle.rina_law.specs.Direction.{Direction}
use Rattle.rina_data.specs.declared.process.IpcProcess.{IpcProcess}
use Rattle.rina_data.specs.Configs.{config_of}
use Rattle.rina_data.specs.Deciding.{process_of, queue_settings}
use Rattle.rina_data.specs.Hops.{Hop}
use Rattle.rina_data.specs.Process.{IsQueue, Process, Queue, with_offs, with_put}
use Rattle.rina_data.specs.Queueing.{line_for}
use Rattle.rina_data.specs.declared.step.ClockStep.{ClockStep}
use Rattle.rina_data.specs.declared.step.ClockStep.TheVariants as step
use Rattle.rina_dif_law.specs.Dif.{DifSeen, with_process}
use Rattle.rina_flows.specs.declared.flows.Flows.{Flows}
use Rattle.rina_flows.specs.Calls.{AreTied, SameIds}
use Rattle.rina_flows.specs.Delivering.{ForgetsIn as ForgetsThere}
use Rattle.rina_flows.specs.Ending.{ForgetsAt}
use Rattle.rina_flows.specs.Tied.{conns_of}
use Rattle.rina_channel.specs.Ledgers.{unnamed_from, unnamed_line}
use Rattle.rina_channel.specs.Names.{link_config}
use Rattle.rina_channel.specs.Rows.{IsAcknowledgedOn, IsResentOn}
use Rattle.rina_dif.specs.declared.dif.Dif.{Dif}
use Rattle.rina_dif.specs.Connected.{channels_seen}
use Rattle.rina_dif.specs.Holding.{Holds, LinksStand}
use Rattle.rina_dif.specs.Shown.{seen_of}

-- What is done

-- these directions stand behind the management connections then, and the ends and the names of these stay
pub record AreBehind (d : Dif) (flows' : Flows) (links' : List Direction) : Type 0 where
  pub journal : flows'.journal ≡ d.connections.flows.journal
  pub ids : SameIds d.connections.flows flows'
  pub tied : AreTied (link_config (config_of d.settings) d.connections.manage) d.clock flows' links'

-- pieces that the connection of a place holds of a state that has ended are written off, at the IPC process of place i
pub record ForgetsLink (d : Dif) (links : List Direction) (i place : ℕ) (new : DifSeen) (flows' : Flows) : Type 0 where
  pub links' : List Direction
  pub held : List Off
  pub forgets : ForgetsAt (link_config (config_of d.settings) d.connections.manage) d.connections.flows.journal.ends (conns_of d.connections.flows.conns) links place held links'
  pub process : Process
  pub is_process : slice_get (seen_of d).processes i ≡ Some process
  pub written : new ≡ with_process (seen_of d) i (with_offs process (map unnamed_line held))
  pub behind : AreBehind d flows' links'

-- it makes the acknowledgement that is due
pub record AcknowledgesLink (d : Dif) (links : List Direction) (place : ℕ) (new : DifSeen) (flows' : Flows) : Type 0 where
  pub links' : List Direction
  pub cause : Option Cause
  pub acknowledged : IsAcknowledgedOn (channels_seen (config_of d.settings) d.clock d.connections) links (seen_of d).processes place cause links' new.processes
  pub behind : AreBehind d flows' links'

-- it sends the number again that is due
pub record ResendsLink (d : Dif) (links : List Direction) (place : ℕ) (num : Num) (new : DifSeen) (flows' : Flows) : Type 0 where
  pub links' : List Direction
  pub cause : Option Cause
  pub resent : IsResentOn (channels_seen (config_of d.settings) d.clock d.connections) links (seen_of d).processes place cause links' new.processes
  pub num_is : num ≡ record { cep = 0; seq = resent.number }
  pub behind : AreBehind d flows' links'

-- it gives up the number that is due so: the flow below of its link is freed, at both ends where `both` says so, and the DIF is as it was
pub record GivesUpLink (d : Dif) (links : List Direction) (below : Seen) (place : ℕ) (num : Num) (new : DifSeen) (flows' : Flows) (below' : Seen) : Type 0 where
  pub due : IsNumberDue given_up (link_config (config_of d.settings) d.connections.manage) d.connections.flows.conns links place
  pub num_is : num ≡ record { cep = 0; seq = due.number }
  pub channel : Channel
  pub stands : slice_get d.connections.channels place ≡ Some channel
  pub attached : Attachment
  pub attached_is : channel.link ≡ Some attached
  pub both : Bool
  pub freed : IsFreed both below attached.port below'
  pub same : (new ≡ seen_of d) × (flows' ≡ d.connections.flows)

-- the connection of a place does what a step tells, at the IPC process of place i. Nothing changes below but where it gives a number up
abbrev pub DoesLink : Dif → List Direction → Seen → ℕ → ℕ → ClockStep → DifSeen → Flows → Seen → Type 0
DoesLink d links below i place (step.Gone cep) new flows' below' = (cep ≡ 0) × ForgetsLink d links i place new flows' × (below' ≡ below)
DoesLink d links below i place (step.GaveUp num) new flows' below' = GivesUpLink d links below place num new flows' below'
DoesLink d links below i place (step.Ack cep) new flows' below' = (cep ≡ 0) × AcknowledgesLink d links place new flows' × (below' ≡ below)
DoesLink d links below i place (step.Again num) new flows' below' = ResendsLink d links place num new flows' × (below' ≡ below)
DoesLink d links below i place other new flows' below' = ⊥

-- How it is called

-- pieces of a state that has ended are written off behind the lines of a ledger, with the names of the link
pub record ForgetsIn (now at : ℕ) (old : Flows) (ledger : List Off) (result : Result Bool Memory) (new : Flows) (ledger' : List Off) : Type 0 where
  pub between : List Off
  pub forgets : ForgetsThere now at old ledger result new between
  pub unnamed : ledger' ≡ unnamed_from (length ledger) between

-- a PDU of management that a connection made waits last in the queue of a link
pub record IsPutFor (cap now number : ℕ) (hop : Hop) (p p' : Process) : Type 0 where
  pub place : ℕ
  pub queue : Queue
  pub is_queue : IsQueue p 0 number place queue
  pub room : length queue.items + 1 ≤ cap
  pub new_is : p' ≡ with_put p place queue (record { pdu = hop.pdu; left = hop.left; since = now } ∷ [])

-- that is full, and the PDU is written off
pub record IsFullFor (cap number : ℕ) (pdu : Pdu) (p p' : Process) : Type 0 where
  pub place : ℕ
  pub queue : Queue
  pub is_queue : IsQueue p 0 number place queue
  pub full : length queue.items ≡ cap
  pub new_is : p' ≡ with_offs p (line_for pdu (causes.QueueFull cap) ∷ [])

-- one or the other, or memory was not found
abbrev pub PostsFor : ℕ → ℕ → ℕ → Hop → Result (Option Cause) Memory → Process → Process → Type 0
PostsFor cap now number hop (Ok None) p p' = IsPutFor cap now number hop p p'
PostsFor cap now number hop (Ok (Some cause)) p p' = (cause ≡ causes.QueueFull cap) × IsFullFor cap number hop.pdu p p'
PostsFor cap now number hop (Err e) p p' = p' ≡ p

-- at the IPC process of a place, and no other does anything
abbrev pub PostsAt : ℕ → ℕ → Hop → Result (Option Cause) Memory → ℕ → List IpcProcess → List IpcProcess → Type 0
PostsAt now number hop result at old new = (p : IpcProcess) → slice_get old at ≡ Some p → (p' : IpcProcess) × PostsFor p.queues.cap now number hop result (process_of p) (process_of p') × (queue_settings p' ≡ queue_settings p) × (new ≡ slice_set old at p')

-- so, over the rank below as it is then; without memory that is as it was
abbrev pub ServesOver : {T E : Type 0} → (T → List Direction → Type 0) → Dif → List Direction → Seen → Result T E → Dif → Seen → Type 0
ServesOver does d lines below (Ok done) d' below' = ((links : LinksStand d below) → does done links.lines) × Holds d' lines below'
ServesOver does d lines below (Err e) d' below' = (d'.connections ≡ d.connections) × (seen_of d' ≡ seen_of d) × Holds d' lines below' × (below' ≡ below)

-- what is done is this, whichever directions stand behind the connections, and the DIF holds; or memory was not found
abbrev pub ServesAs : {T E : Type 0} → (T → List Direction → Type 0) → Dif → List Direction → Seen → Result T E → Dif → Type 0
ServesAs does d lines below (Ok done) d' = ((links : LinksStand d below) → does done links.lines) × Holds d' lines below
ServesAs does d lines below (Err e) d' = (d'.connections ≡ d.connections) × (seen_of d' ≡ seen_of d) × Holds d' lines below
