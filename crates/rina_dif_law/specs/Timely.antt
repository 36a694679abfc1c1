-- What a connection does when its time has come: an acknowledgement, a piece once more, and what is given up with a
-- state that is gone.
use Rattle.std.specs.Prelude.{◌≡◌, ℕ, ◌-◌, true, false, List, slice_get, slice_set, Option, Some, None}
use Rattle.rina_account.specs.declared.ledger.Off.{Off}
use Rattle.rina_base.specs.declared.cause.Cause.{Cause}
use Rattle.rina_base.specs.declared.cause.Cause.TheVariants as causes
use Rattle.rina_base.specs.declared.pdu.Pdu.{Pdu}
use Rattle.rina_base.specs.declared.pdu.PduKind.TheVariants.{Piece as APiece}
use Rattle.rina_cube.specs.declared.Cube.{Cube}
use Rattle.rina_iface.specs.declared.ends.End.{End}
use Rattle.rina_iface.specs.declared.state.PortState.TheVariants.{Allocated}
use Rattle.rina_law.specs.Direction.{Direction, Forget, after_ack, happens, is_ack_due, right_of}
use Rattle.rina_law.specs.Line.{again}
use Rattle.rina_law.specs.Lists.{In}
use Rattle.rina_law.specs.Receiver.{is_present, next_of}
use Rattle.rina_law.specs.Sender.{again_due, piece_again}
use Rattle.rina_dif_law.specs.Counting.{AllOff, InOrder}
use Rattle.rina_data.specs.Configs.{Config, cube_by}
use Rattle.rina_data.specs.Process.{Process, next_hop, with_offs}
use Rattle.rina_dif_law.specs.Dif.{DifSeen, constants, with_process}
use Rattle.rina_dif_law.specs.Ids.{Ids, flipped, pdu_of_ack, pdu_of_piece}
use Rattle.rina_dif_law.specs.Incoming.{IsInbound, IsKeptNumber}
use Rattle.rina_data.specs.Queueing.{IsFull, IsPassedOn, Notes}
use Rattle.rina_dif_law.specs.Sending.{home}
use Rattle.rina_dif_law.specs.Standing.{IsConn}

-- A PDU that is made beside a send: it waits for the next hop, or is written off

-- by the cause for which it is written off, if it is
abbrev pub Posts : Config → ℕ → ℕ → Process → Pdu → Option Cause → Process → Type 0
Posts g now mpl process pdu None process' = IsPassedOn g.cap process now (record { left = mpl; pdu = pdu }) process'
Posts g now mpl process pdu (Some (causes.NoRoute dst)) process' = (dst ≡ pdu.dst) × (next_hop pdu.dst process.routes ≡ None) × Notes process pdu (causes.NoRoute dst) process'
Posts g now mpl process pdu (Some (causes.QueueFull cap)) process' = (cap ≡ g.cap) × IsFull g.cap process pdu × Notes process pdu (causes.QueueFull cap) process'
Posts g now mpl process pdu (Some cause) process' = ⊥

-- an allocated end at its IPC process
pub record IsAtHome (d : DifSeen) (at : ℕ) (end : End) (ids : Ids) (i : ℕ) (process : Process) (cube : Cube) : Type 0 where
  pub is_conn : IsConn d.ends d.conns at end ids
  pub allocated : end.state ≡ Allocated
  pub at_home : home end.port.node d.config.members ≡ Some i
  pub is_process : slice_get d.processes i ≡ Some process
  pub is_cube : cube_by ids.qos d.config.cubes ≡ Some cube

-- The rows

-- the receiver makes the acknowledgement that is due
pub record IsAcknowledged (d : DifSeen) (lines : List Direction) (at : ℕ) (cause : Option Cause) (d' : DifSeen) (lines' : List Direction) : Type 0 where
  pub end : End
  pub ids : Ids
  pub i : ℕ
  pub process : Process
  pub cube : Cube
  pub is_home : IsAtHome d at end ids i process cube
  pub from : ℕ
  pub line : Direction
  pub inbound : IsInbound d lines end from line
  pub due : is_ack_due (constants d.config cube (flipped ids)) line ≡ true
  pub process' : Process
  pub posted : Posts d.config d.clock cube.mpl process (pdu_of_ack ids (record { ack = next_of line.line.receiver - 1; right = right_of (constants d.config cube (flipped ids)) line })) cause process'
  pub lines_are : lines' ≡ slice_set lines from (after_ack true (constants d.config cube (flipped ids)) line)
  pub new_is : d' ≡ with_process d i process'

-- the sender sends the number again that is due
pub record IsResent (d : DifSeen) (lines : List Direction) (at : ℕ) (cause : Option Cause) (d' : DifSeen) (lines' : List Direction) : Type 0 where
  pub end : End
  pub ids : Ids
  pub i : ℕ
  pub process : Process
  pub cube : Cube
  pub is_home : IsAtHome d at end ids i process cube
  pub line : Direction
  pub is_line : slice_get lines at ≡ Some line
  pub number : ℕ
  pub due : again_due (constants d.config cube ids) line.line.clock line.line.sender ≡ Some number
  pub process' : Process
  pub posted : Posts d.config d.clock cube.mpl process (pdu_of_piece ids (piece_again number line.line.sender)) cause process'
  pub lines_are : lines' ≡ slice_set lines at (record line { line = again (constants d.config cube ids) number line.line })
  pub new_is : d' ≡ with_process d i process'

-- the receiver gives up what it holds of a state that is gone, in the order of the numbers
pub record IsForgotten (d : DifSeen) (lines : List Direction) (at : ℕ) (d' : DifSeen) (lines' : List Direction) : Type 0 where
  pub end : End
  pub ids : Ids
  pub i : ℕ
  pub process : Process
  pub cube : Cube
  pub is_home : IsAtHome d at end ids i process cube
  pub from : ℕ
  pub line : Direction
  pub inbound : IsInbound d lines end from line
  pub gone : is_present (constants d.config cube (flipped ids)) line.line.clock line.line.receiver ≡ false
  pub dropped : List Off
  pub all_dropped : (off : Off) → In off dropped → (off.key.kind ≡ APiece) × (off.key.src ≡ ids.far) × (off.key.scep ≡ ids.dcep) × IsKeptNumber line off.key.seq × (off.cause ≡ causes.StateGone line.line.receiver.last_in)
  pub made : (off : Off) → In off dropped → line.line.receiver.made ≡ true
  pub all : AllOff line dropped
  pub in_order : InOrder dropped
  pub lines_are : lines' ≡ slice_set lines from (happens (constants d.config cube (flipped ids)) line Forget)
  pub new_is : d' ≡ with_process d i (with_offs process dropped)
