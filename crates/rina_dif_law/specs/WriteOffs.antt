-- When an IPC process may write a PDU off: the condition of each cause, of the DIF as it is before the line is written.
use Rattle.std.specs.Prelude.{◌≡◌, ◌≢◌, ℕ, ◌-◌, ◌⊎◌, nat_lt, ◌+◌, false, List, [], ◌++◌, length, map, slice_get, Option, Some, None, if◌then◌else◌}
use Rattle.rina_account.specs.Causes.{IsBehind, IsExpired, IsFarBehind, IsFull, IsGone, IsRepeated, IsRoomless, IsStateless, IsUnrouted, missing_at}
use Rattle.rina_account.specs.declared.ledger.Off.{Off}
use Rattle.rina_base.specs.declared.cause.Cause.{Cause}
use Rattle.rina_base.specs.declared.cause.Cause.TheVariants as causes
use Rattle.rina_base.specs.declared.number.Key.{Key}
use Rattle.rina_base.specs.declared.number.Port.{Port}
use Rattle.rina_base.specs.declared.pdu.Pdu.{Pdu}
use Rattle.rina_base.specs.declared.pdu.PduKind.TheVariants.{Piece as APiece}
use Rattle.rina_base.specs.Pdus.{key_of}
use Rattle.rina_cube.specs.declared.Cube.{Cube}
use Rattle.rina_cube.specs.declared.Kind.{Kind}
use Rattle.rina_cube.specs.declared.Kind.TheVariants.{Datagram, Loose, Reliable}
use Rattle.rina_cube.specs.Cubes.{delta_of}
use Rattle.rina_iface.specs.declared.ends.End.{End}
use Rattle.rina_iface.specs.declared.state.PortState.TheVariants.{Allocated}
use Rattle.rina_iface.specs.declared.error.SendError.{SendError}
use Rattle.rina_iface.specs.Seen.{Seen, promise_at, state_of, unpassed}
use Rattle.rina_iface.specs.Send.{refused}
use Rattle.rina_law.specs.declared.entry.Entry.{Entry}
use Rattle.rina_law.specs.Constants.{Constants}
use Rattle.rina_law.specs.Direction.{Direction}
use Rattle.rina_law.specs.Lists.{In, highest}
use Rattle.rina_law.specs.Pieces.{Joiner, goes_on}
use Rattle.rina_law.specs.Receiver.{Receiver, is_present, next_of, numbers}
use Rattle.rina_queue.specs.declared.queue.Queued.{Queued}
use Rattle.rina_data.specs.declared.link.Link.{Link}
use Rattle.rina_data.specs.declared.link.Route.{Route}
use Rattle.rina_data.specs.Configs.{Member, cube_by}
use Rattle.rina_data.specs.Hops.{Hop, opened}
use Rattle.rina_data.specs.Losing.{IsNoMore}
use Rattle.rina_data.specs.Outgoing.{IsHead, IsOver, charge_of}
use Rattle.rina_data.specs.Process.{IsQueue, Process, Queue, link_by, next_hop}
use Rattle.rina_dif_law.specs.Dif.{DifSeen, IsProcess, constants}
use Rattle.rina_dif_law.specs.Ids.{Ids, flipped}
use Rattle.rina_dif_law.specs.Incoming.{IsInbound, IsKeptNumber, IsTaker, joiner_found}
use Rattle.rina_dif_law.specs.OnLinks.{IsLinkLine}
use Rattle.rina_dif_law.specs.Standing.{IsConn}

-- A hop that charges more than is left

-- the PDU stands first in a queue of a link: the lifetime with which it came into this system, and the charge of the hop
-- over that link
pub record IsLeaving (d : DifSeen) (process : Process) (below : Seen) (key : Key) (left charge : ℕ) : Type 0 where
  pub number : ℕ
  pub link : Link
  pub place : ℕ
  pub queue : Queue
  pub item : Queued
  pub head : IsHead process number link place queue item
  pub key_is : key ≡ key_of item.pdu
  pub promise : ℕ
  pub promised : promise_at below link.port ≡ Some promise
  pub left_is : left ≡ item.left
  pub charge_is : charge ≡ charge_of d.clock item promise

-- the PDU is in the oldest SDU of a link: the lifetime behind which it came, and the ticks since then
pub record IsComing (d : DifSeen) (process : Process) (below : Seen) (key : Key) (left charge : ℕ) : Type 0 where
  pub number : ℕ
  pub link : Link
  pub is_link : link_by number process.links ≡ Some link
  pub entry : Entry
  pub oldest : unpassed below link.port ≡ Some entry
  pub hop : Hop
  pub opens : opened d.config.widths entry.bytes ≡ Some hop
  pub key_is : key ≡ key_of hop.pdu
  pub left_is : left ≡ hop.left
  pub charge_is : charge ≡ d.clock - entry.tick

-- The way on

-- the queue of the next hop of a PDU is full
pub record HasFullQueue (cap : ℕ) (process : Process) (key : Key) : Type 0 where
  pub pdu : Pdu
  pub key_is : key ≡ key_of pdu
  pub link : ℕ
  pub next : next_hop pdu.dst process.routes ≡ Some link
  pub place : ℕ
  pub queue : Queue
  pub is_queue : IsQueue process pdu.qos link place queue
  pub full : IsFull cap (length queue.items)

-- the port is that of a link, and this holds of it
pub record IsLinkWith (down : Port → Type 0) (process : Process) (port : Port) : Type 0 where
  pub place : ℕ
  pub link : Link
  pub stands : slice_get process.links place ≡ Some link
  pub port_is : port ≡ link.port
  pub is_down : down port

-- A connection here

-- no allocated connection takes the PDU, which is for this address and names this CEP-id
pub record IsUntaken (d : DifSeen) (addr : ℕ) (key : Key) (cep : ℕ) : Type 0 where
  pub pdu : Pdu
  pub key_is : key ≡ key_of pdu
  pub cep_is : cep ≡ pdu.dcep
  pub dst : pdu.dst ≡ addr
  pub none : (k : ℕ) (end : End) (ids : Ids) → IsTaker d pdu k end ids → ⊥

-- an allocated end of the IPC process with this address receives the pieces with this source and CEP-id: its ids, its
-- cube, and the direction in which it receives
pub record IsReceiver (d : DifSeen) (lines : List Direction) (addr : ℕ) (key : Key) (ids : Ids) (cube : Cube) (line : Direction) : Type 0 where
  pub piece : key.kind ≡ APiece
  pub place : ℕ
  pub end : End
  pub is_conn : IsConn d.ends d.conns place end ids
  pub allocated : end.state ≡ Allocated
  pub own : ids.own ≡ addr
  pub far : key.src ≡ ids.far
  pub cep : key.scep ≡ ids.dcep
  pub is_cube : cube_by ids.qos d.config.cubes ≡ Some cube
  pub from : ℕ
  pub inbound : IsInbound d lines end from line

-- there is one of which this holds
abbrev pub SomeReceiver : DifSeen → List Direction → ℕ → Key → (Ids → Cube → Direction → Type 0) → Type 0
SomeReceiver d lines addr key holds = (ids : Ids) × (cube : Cube) × (line : Direction) × IsReceiver d lines addr key ids cube line × holds ids cube line

-- the receiver knows the number, by kind
abbrev pub IsKnown : Kind → Receiver → ℕ → Type 0
IsKnown Datagram rx n = IsRepeated rx.accepted [] 0 n
IsKnown Loose rx n = ⊥
IsKnown Reliable rx n = IsRepeated rx.accepted (numbers rx.held) (next_of rx) n

-- the number is too old, by kind
abbrev pub IsTooOld : Kind → ℕ → ℕ → Type 0
IsTooOld Datagram highest n = IsFarBehind highest n
IsTooOld Loose highest n = IsBehind highest n
IsTooOld Reliable highest n = ⊥

-- the last number that a joiner holds
abbrev pub last_joined : Joiner → Option ℕ
last_joined j = if nat_lt 0 j.count then Some (j.from + j.count - 1) else None

-- a piece came for which this number is missing: it is the piece itself, and it neither begins an SDU nor goes on with the
-- one that waits; or the piece was held, and its SDU cannot become whole
pub record IsBroken (c : Constants) (line : Direction) (seq missing : ℕ) : Type 0 where
  pub came : ℕ
  pub missing_is : missing ≡ missing_at (last_joined (joiner_found c line)) came
  pub whose : ((seq ≡ came) × (goes_on came (joiner_found c line) ≡ false)) ⊎ IsKeptNumber line seq

-- By cause

-- a PDU with this key may be written off for this cause, at the IPC process of this address; `down` says of which ports the
-- flow below takes no more
abbrev pub MayBy : DifSeen → List Direction → Seen → (Port → Type 0) → ℕ → Process → Key → Cause → Type 0
MayBy d lines below down addr process key (causes.Expired left charge) = IsExpired left charge × (IsLeaving d process below key left charge ⊎ IsComing d process below key left charge)
MayBy d lines below down addr process key (causes.NoRoute dst) = (dst ≢ addr) × IsUnrouted (map (λ (r : Route). r.dst) process.routes) dst
MayBy d lines below down addr process key (causes.QueueFull cap) = (cap ≡ d.config.cap) × HasFullQueue cap process key
MayBy d lines below down addr process key (causes.NoConnection cep) = IsUntaken d addr key cep ⊎ SomeReceiver d lines addr key (λ ids cube line. (cep ≡ ids.scep) × IsKeptNumber line key.seq)
MayBy d lines below down addr process key (causes.Duplicate num) =
    (num ≡ record { cep = key.scep; seq = key.seq }) × SomeReceiver d lines addr key (λ ids cube line. IsKnown cube.kind line.line.receiver key.seq)
MayBy d lines below down addr process key (causes.Behind number) =
    SomeReceiver d lines addr key (λ ids cube line. (number ≡ highest line.line.receiver.accepted) × IsTooOld cube.kind number key.seq)
MayBy d lines below down addr process key (causes.NoState drf) =
    SomeReceiver d lines addr key (λ ids cube line. (cube.kind ≡ Reliable) × IsStateless (is_present (constants d.config cube (flipped ids)) d.clock line.line.receiver) drf)
MayBy d lines below down addr process key (causes.NoRoom cap) = SomeReceiver d lines addr key (λ ids cube line. (cap ≡ cube.window) × IsRoomless cap (length line.inbox.got - line.passed))
MayBy d lines below down addr process key (causes.StateGone last_in) =
    SomeReceiver d lines addr key (λ ids cube line. (last_in ≡ line.line.receiver.last_in) × IsGone d.clock (delta_of cube) last_in × IsKeptNumber line key.seq)
MayBy d lines below down addr process key (causes.Broken missing) = SomeReceiver d lines addr key (λ ids cube line. IsBroken (constants d.config cube (flipped ids)) line key.seq missing)
MayBy d lines below down addr process key (causes.LinkDown port) = IsLinkWith down process port

-- the IPC process of place i may write this line, by what the DIF that is seen knows, or as one of a link's management connection
pub record MayWriteOff (d : DifSeen) (lines : List Direction) (below : Seen) (down : Port → Type 0) (i : ℕ) (off : Off) : Type 0 where
  pub member : Member
  pub process : Process
  pub is_process : IsProcess d i member process
  pub may : MayBy d lines below down member.addr process off.key off.cause ⊎ IsLinkLine d.manage d.clock off

-- Which ports take no more

-- none is said to
abbrev pub NoPort : Port → Type 0
NoPort port = ⊥

-- or any
abbrev pub AnyPort : Port → Type 0
AnyPort port = Unit {0}

-- what is sent there is refused, since the flow is not there, or not any more; `refuses` is what the facility below refuses
-- by what it alone knows
abbrev pub RefusesOver : (Port → ℕ → Option SendError) → Seen → Port → Type 0
RefusesOver refuses below port = (len : ℕ) × (error : SendError) × (refused below port len (refuses port len) ≡ Some error) × IsOver error

-- the flow was refused, has failed, or was closed
abbrev pub IsOverNow : Seen → Port → Type 0
IsOverNow below port = IsNoMore (state_of below port)

-- What a step writes

-- the ledger of the IPC process at place i only grew, by lines of which this holds
pub record HasWritten (holds : Off → Type 0) (d : DifSeen) (i : ℕ) (process' : Process) : Type 0 where
  pub process : Process
  pub is_process : slice_get d.processes i ≡ Some process
  pub offs : List Off
  pub ledger : process'.ledger ≡ process.ledger ++ offs
  pub each : (off : Off) → In off offs → holds off

-- and so of each
abbrev pub Writes : (ℕ → Off → Type 0) → DifSeen → DifSeen → Type 0
Writes holds d d' = (i : ℕ) (process' : Process) → slice_get d'.processes i ≡ Some process' → HasWritten (holds i) d i process'
