-- What an IPC process does with the oldest SDU of a link.
use Rattle.std.specs.Prelude.{◌≡◌, ◌≢◌, ℕ, ◌+◌, ◌-◌, ◌^◌, ◌%◌, ◌<◌, ◌≤◌, ◌⊎◌, Bool, true, false, nat_lt, List, [], ◌∷◌, ◌++◌, slice_get, slice_set, Option, Some, None, Result, Ok, Err, if◌then◌else◌}
use Rattle.rina_account.specs.declared.ledger.Off.{Off}
use Rattle.rina_base.specs.declared.cause.Cause.{Cause}
use Rattle.rina_base.specs.declared.cause.Cause.TheVariants as causes
use Rattle.rina_base.specs.declared.number.Key.{Key}
use Rattle.rina_base.specs.declared.pdu.Pdu.{Pdu}
use Rattle.rina_base.specs.declared.pdu.PduKind.TheVariants.{Piece as APiece, Ack as AnAck}
use Rattle.rina_base.specs.Pdus.{key_of}
use Rattle.rina_cube.specs.declared.Cube.{Cube}
use Rattle.rina_iface.specs.declared.ends.End.{End}
use Rattle.rina_iface.specs.declared.state.PortState.TheVariants.{Allocated}
use Rattle.rina_iface.specs.Journal.{At, IsPartner}
use Rattle.rina_iface.specs.Pass.{IsPassed}
use Rattle.rina_iface.specs.Seen.{Seen, unpassed}
use Rattle.rina_law.specs.declared.entry.Entry.{Entry}
use Rattle.rina_law.specs.Constants.{Constants}
use Rattle.rina_law.specs.Direction.{Direction, Forget, after_arrival, happens, has_room}
use Rattle.rina_law.specs.Line.{arrival_verdict, told}
use Rattle.rina_law.specs.Lists.{In, highest}
use Rattle.rina_law.specs.Pdus.{ack_in, piece_in}
use Rattle.rina_law.specs.Pieces.{Joiner, Sdu, empty_joiner, goes_on}
use Rattle.rina_law.specs.Receiver.{Piece, Verdict, Accepted, Held, Duplicate, Behind, NoState, NoRoom, is_present, joined_after, numbers}
use Rattle.rina_data.specs.declared.step.InStep.{InStep}
use Rattle.rina_data.specs.declared.step.InStep.TheVariants as in_
use Rattle.rina_data.specs.declared.step.StepError.{StepError}
use Rattle.rina_data.specs.declared.step.StepError.TheVariants.{CountSpent, Memory, NoIpc, NoLink}
use Rattle.rina_data.specs.declared.step.Took.{Took}
use Rattle.rina_data.specs.declared.step.Took.TheVariants as took
use Rattle.rina_data.specs.Hops.{Hop, opened}
use Rattle.rina_data.specs.declared.link.Link.{Link}
use Rattle.rina_dif_law.specs.Counting.{InOrder, held_numbers, off_numbers, times, whole_numbers}
use Rattle.rina_data.specs.Configs.{Member, cube_by}
use Rattle.rina_data.specs.Process.{Process, link_by, next_hop, with_offs}
use Rattle.rina_dif_law.specs.Dif.{DifSeen, IsProcess, constants, with_process}
use Rattle.rina_dif_law.specs.Ids.{Ids, IsFrom, IsOfLink, flipped}
use Rattle.rina_dif_law.specs.OnLinks.{IsLinkLine}
use Rattle.rina_data.specs.Queueing.{IsFull, IsPassedOn, line_for}
use Rattle.rina_dif_law.specs.Standing.{IsConn}

-- A PDU that came behind this lifetime, at tick `at`

-- it is not too old
abbrev pub IsInTime : DifSeen → ℕ → Hop → Type 0
IsInTime d at hop = d.clock - at ≤ hop.left

-- it is written off, and nothing else changes
abbrev pub written_off : DifSeen → ℕ → Process → Pdu → Cause → DifSeen
written_off d i process pdu cause = with_process d i (with_offs process (line_for pdu cause ∷ []))

-- The next hop

pub record IsRelayed (d : DifSeen) (i : ℕ) (process : Process) (at : ℕ) (hop : Hop) (d' : DifSeen) : Type 0 where
  pub process' : Process
  pub passed : IsPassedOn d.config.cap process at hop process'
  pub new_is : d' ≡ with_process d i process'

-- An own connection

-- the connection at place k takes the PDU
pub record IsTaker (d : DifSeen) (pdu : Pdu) (k : ℕ) (end : End) (ids : Ids) : Type 0 where
  pub is_conn : IsConn d.ends d.conns k end ids
  pub allocated : end.state ≡ Allocated
  pub names : IsFrom (flipped ids) pdu

-- the direction in which an end receives: that of its partner
pub record IsInbound (d : DifSeen) (lines : List Direction) (end : End) (from : ℕ) (line : Direction) : Type 0 where
  pub partner : End
  pub is_partner : At d.ends from partner
  pub partners : IsPartner partner end
  pub is_line : slice_get lines from ≡ Some line

-- the direction that a piece finds: what is left of a state that is gone is given up first
abbrev pub found : Constants → Direction → Direction
found c line = if is_present c line.line.clock line.line.receiver then line else happens c line Forget

-- what a piece makes of a direction, once that was given up
abbrev pub landed : Constants → Piece → Direction → Direction
landed c p line = after_arrival (arrival_verdict c line.line p (has_room c line)) (is_present c line.line.clock line.line.receiver) c p line

-- what a piece makes of a direction
abbrev pub arrived : Constants → Piece → Direction → Direction
arrived c p line = landed c p (found c line)

-- the SDUs that become whole by it
abbrev pub whole_by : Constants → Piece → Direction → List Sdu
whole_by c p line = (joined_after (arrival_verdict c line.line p (has_room c line)) c.cube.kind (is_present c line.line.clock line.line.receiver) p line.line.receiver.held line.inbox.joiner).whole

abbrev pub joined_by : Constants → Piece → Direction → List Sdu
joined_by c p line = whole_by c p (found c line)

-- the joiner that a piece finds: that of the state, or an empty one
abbrev pub joiner_found : Constants → Direction → Joiner
joiner_found c line = if is_present c line.line.clock line.line.receiver then line.inbox.joiner else empty_joiner

-- the number that a piece misses: the one after what the joiner holds, or the one before itself
abbrev pub missing_for : Piece → Joiner → ℕ
missing_for p j = if nat_lt 0 j.count then (j.from + j.count) % 2 ^ 32 else (p.number + 2 ^ 32 - 1) % 2 ^ 32

-- an accepted piece can be joined where it begins an SDU or goes on with one
abbrev pub by_joiner : Piece → Joiner → Option Cause
by_joiner p j = if p.part.begins then None else (if goes_on p.number j then None else Some (causes.Broken (missing_for p j)))

-- why a piece is written off, if it is
abbrev pub cause_by : Verdict → Constants → Piece → Direction → Option Cause
cause_by Accepted c p line = by_joiner p (joiner_found c line)
cause_by Held c p line = None
cause_by Duplicate c p line = Some (causes.Duplicate (record { cep = c.cep; seq = p.number }))
cause_by Behind c p line = Some (causes.Behind (highest line.line.receiver.accepted))
cause_by NoState c p line = Some (causes.NoState p.drf)
cause_by NoRoom c p line = Some (causes.NoRoom c.cube.window)

abbrev pub cause_for : Constants → Piece → Direction → Option Cause
cause_for c p line = cause_by (arrival_verdict c line.line p (has_room c line)) c p line

-- a number that the receiver still held, in its joiner or beside it
abbrev pub IsKeptNumber : Direction → ℕ → Type 0
IsKeptNumber line n = ((line.inbox.joiner.from ≤ n) × (n < line.inbox.joiner.from + line.inbox.joiner.count)) ⊎ In n (numbers line.line.receiver.held)

-- why one that was held is given up: its state is gone, or its SDU cannot become whole
abbrev pub GivesUp : Constants → Piece → Direction → Bool → Cause → Type 0
GivesUp c p line false (causes.StateGone last_in) = (line.line.receiver.made ≡ true) × (last_in ≡ line.line.receiver.last_in)
GivesUp c p line true (causes.Broken missing) = missing ≡ missing_for p line.inbox.joiner
GivesUp c p line present cause = ⊥

-- a piece that was held is written off as another one arrives
pub record IsDropped (c : Constants) (p : Piece) (line : Direction) (ids : Ids) (off : Off) : Type 0 where
  pub kind : off.key.kind ≡ APiece
  pub src : off.key.src ≡ ids.far
  pub scep : off.key.scep ≡ ids.dcep
  pub held : IsKeptNumber line off.key.seq
  pub why : GivesUp c p line (is_present c line.line.clock line.line.receiver) off.cause

abbrev pub lines_for : Pdu → Option Cause → List Off
lines_for pdu None = []
lines_for pdu (Some cause) = line_for pdu cause ∷ []

-- of each number: the pieces that were held, and the one that came, are those that are written off in these lines, those
-- that are held, and those of SDUs that are delivered
abbrev pub AllSettled : Constants → Piece → Direction → List Off → Type 0
AllSettled c p line offs = (n : ℕ) → times n (p.number ∷ held_numbers line) ≡ times n (off_numbers offs) + times n (held_numbers (arrived c p line)) + times n (whole_numbers (joined_by c p line))

-- a piece comes to its connection; what is whole is delivered. The pieces that were held and are given up get their lines
-- in the order of their numbers, and the piece itself gets its line after them
pub record IsArrived (d : DifSeen) (lines : List Direction) (i : ℕ) (process : Process) (pdu : Pdu) (cause : Option Cause) (d' : DifSeen) (lines' : List Direction) : Type 0 where
  pub piece : pdu.kind ≡ APiece
  pub place : ℕ
  pub end : End
  pub ids : Ids
  pub taker : IsTaker d pdu place end ids
  pub from : ℕ
  pub line : Direction
  pub inbound : IsInbound d lines end from line
  pub cube : Cube
  pub is_cube : cube_by ids.qos d.config.cubes ≡ Some cube
  pub cause_is : cause ≡ cause_for (constants d.config cube (flipped ids)) (piece_in pdu) line
  pub dropped : List Off
  pub all_dropped : (off : Off) → In off dropped → IsDropped (constants d.config cube (flipped ids)) (piece_in pdu) line ids off
  pub settled : AllSettled (constants d.config cube (flipped ids)) (piece_in pdu) line (dropped ++ lines_for pdu cause)
  pub in_order : InOrder dropped
  pub lines_are : lines' ≡ slice_set lines from (arrived (constants d.config cube (flipped ids)) (piece_in pdu) line)
  pub new_is : d' ≡ record d {
    ends = slice_set d.ends place (record end { got = (arrived (constants d.config cube (flipped ids)) (piece_in pdu) line).inbox.got });
    processes = slice_set d.processes i (with_offs process (dropped ++ lines_for pdu cause));
  }

-- an acknowledgement comes to its connection
pub record IsTold (d : DifSeen) (lines : List Direction) (pdu : Pdu) (d' : DifSeen) (lines' : List Direction) : Type 0 where
  pub ack : pdu.kind ≡ AnAck
  pub place : ℕ
  pub end : End
  pub ids : Ids
  pub taker : IsTaker d pdu place end ids
  pub line : Direction
  pub is_line : slice_get lines place ≡ Some line
  pub lines_are : lines' ≡ slice_set lines place (record line { line = told (ack_in pdu) line.line })
  pub new_is : d' ≡ d

-- What is decided

-- by the cause of a write-off
abbrev pub SettlesOff : DifSeen → List Direction → ℕ → Member → Process → ℕ → Hop → Cause → DifSeen → List Direction → Type 0
SettlesOff d lines i member process at hop (causes.Expired left charge) d' lines' =
    (left ≡ hop.left) × (charge ≡ d.clock - at) × (left < charge) × (d' ≡ written_off d i process hop.pdu (causes.Expired left charge)) × (lines' ≡ lines)
SettlesOff d lines i member process at hop (causes.NoRoute dst) d' lines' =
    IsInTime d at hop × (hop.pdu.dst ≢ member.addr) × (dst ≡ hop.pdu.dst) × (next_hop dst process.routes ≡ None) × (d' ≡ written_off d i process hop.pdu (causes.NoRoute dst)) × (lines' ≡ lines)
SettlesOff d lines i member process at hop (causes.QueueFull cap) d' lines' =
    IsInTime d at hop × (hop.pdu.dst ≢ member.addr) × (cap ≡ d.config.cap) × IsFull d.config.cap process hop.pdu × (d' ≡ written_off d i process hop.pdu (causes.QueueFull cap)) × (lines' ≡ lines)
SettlesOff d lines i member process at hop (causes.NoConnection cep) d' lines' =
    IsInTime d at hop × (hop.pdu.dst ≡ member.addr) × (cep ≡ hop.pdu.dcep) × ((k : ℕ) (end : End) (ids : Ids) → IsTaker d hop.pdu k end ids → ⊥) × (d' ≡ written_off d i process hop.pdu (causes.NoConnection cep)) × (lines' ≡ lines)
SettlesOff d lines i member process at hop (causes.LinkDown port) d' lines' = ⊥
SettlesOff d lines i member process at hop cause d' lines' = IsInTime d at hop × (hop.pdu.dst ≡ member.addr) × IsArrived d lines i process hop.pdu (Some cause) d' lines'

-- what becomes of a PDU that is too old, or of a flow
abbrev pub SettlesFlow : DifSeen → List Direction → ℕ → Member → Process → ℕ → Hop → Took → DifSeen → List Direction → Type 0
SettlesFlow d lines i member process at hop took.Accepted d' lines' = IsInTime d at hop × (hop.pdu.dst ≡ member.addr) × (IsArrived d lines i process hop.pdu None d' lines' ⊎ IsTold d lines hop.pdu d' lines')
SettlesFlow d lines i member process at hop took.Relayed d' lines' = IsInTime d at hop × (hop.pdu.dst ≢ member.addr) × IsRelayed d i process at hop d' × (lines' ≡ lines)
SettlesFlow d lines i member process at hop (took.Off cause) d' lines' = SettlesOff d lines i member process at hop cause d' lines'

-- the cause for which a PDU was written off, if it was
abbrev pub cause_told : Took → Option Cause
cause_told (took.Off cause) = Some cause
cause_told end = None

-- The management connection of the link takes a PDU that is in time, or no such connection is allocated. In the ledger are the
-- lines of pieces that the connection held and gives up, and behind them the PDU's own line, if it has one. Nothing else
-- changes of the DIF, as it is seen without those connections.
pub record IsOnLink (d : DifSeen) (lines : List Direction) (i : ℕ) (process : Process) (at : ℕ) (hop : Hop) (end : Took) (d' : DifSeen) (lines' : List Direction) : Type 0 where
  pub in_time : IsInTime d at hop
  pub of_link : IsOfLink hop.pdu
  pub stays : end ≢ took.Relayed
  pub dropped : List Off
  pub each : (off : Off) → In off (dropped ++ lines_for hop.pdu (cause_told end)) → IsLinkLine d.manage d.clock off
  pub lines_are : lines' ≡ lines
  pub new_is : d' ≡ with_process d i (with_offs process (dropped ++ lines_for hop.pdu (cause_told end)))

-- what becomes of a PDU, by what the DIF itself knows: a PDU of a link is the link's own, unless it is too old
abbrev pub Settles : DifSeen → List Direction → ℕ → Member → Process → ℕ → Hop → Took → DifSeen → List Direction → Type 0
Settles d lines i member process at hop end d' lines' = ((IsInTime d at hop → IsOfLink hop.pdu → ⊥) × SettlesFlow d lines i member process at hop end d' lines') ⊎ IsOnLink d lines i process at hop end d' lines'

-- the oldest SDU of a link is taken
pub record IsTaken (d : DifSeen) (lines : List Direction) (below : Seen) (i n : ℕ) (key : Key) (end : Took) (d' : DifSeen) (lines' : List Direction) (below' : Seen) : Type 0 where
  pub member : Member
  pub process : Process
  pub is_process : IsProcess d i member process
  pub link : Link
  pub is_link : link_by n process.links ≡ Some link
  pub entry : Entry
  pub oldest : unpassed below link.port ≡ Some entry
  pub hop : Hop
  pub opens : opened d.config.widths entry.bytes ≡ Some hop
  pub key_is : key ≡ key_of hop.pdu
  pub settled : Settles d lines i member process entry.tick hop end d' lines'
  pub passed : IsPassed below link.port below'

-- nothing waits at a live link
pub record IsEmpty (d : DifSeen) (below : Seen) (i n : ℕ) : Type 0 where
  pub process : Process
  pub link : Link
  pub is_process : slice_get d.processes i ≡ Some process
  pub is_link : link_by n process.links ≡ Some link
  pub none : unpassed below link.port ≡ None

-- the IPC process of place i has no live link n
pub record HasNoLink (d : DifSeen) (i n : ℕ) : Type 0 where
  pub process : Process
  pub is_process : slice_get d.processes i ≡ Some process
  pub none : link_by n process.links ≡ None

-- what `in_step` does at link n of the IPC process of place i
abbrev pub Ins : DifSeen → List Direction → Seen → ℕ → ℕ → Result InStep StepError → DifSeen → List Direction → Seen → Type 0
Ins d lines below i n (Ok in_.Idle) d' lines' below' = IsEmpty d below i n × (d' ≡ d) × (lines' ≡ lines) × (below' ≡ below)
Ins d lines below i n (Ok (in_.Took key end)) d' lines' below' = IsTaken d lines below i n key end d' lines' below'
Ins d lines below i n (Err Memory) d' lines' below' = (d' ≡ d) × (lines' ≡ lines) × (below' ≡ below)
Ins d lines below i n (Err (CountSpent need left)) d' lines' below' = (d' ≡ d) × (lines' ≡ lines) × (below' ≡ below)
Ins d lines below i n (Err NoIpc) d' lines' below' = (slice_get d.processes i ≡ None) × (d' ≡ d) × (lines' ≡ lines) × (below' ≡ below)
Ins d lines below i n (Err NoLink) d' lines' below' = HasNoLink d i n × (d' ≡ d) × (lines' ≡ lines) × (below' ≡ below)
