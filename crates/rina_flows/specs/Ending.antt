-- How what a connection still holds is given up: with a state that is gone, and with its end.
use Rattle.std.specs.Prelude.{◌≡◌, ◌≢◌, ℕ, true, false, List, slice_set}
use Rattle.rina_account.specs.declared.ledger.Off.{Off}
use Rattle.rina_base.specs.declared.cause.Cause.{Cause}
use Rattle.rina_base.specs.declared.cause.Cause.TheVariants as causes
use Rattle.rina_base.specs.declared.pdu.PduKind.TheVariants.{Piece as APiece}
use Rattle.rina_cube.specs.declared.Cube.{Cube}
use Rattle.rina_dif_law.specs.Counting.{AllOff, InOrder}
use Rattle.rina_data.specs.Configs.{Config}
use Rattle.rina_dif_law.specs.Dif.{constants}
use Rattle.rina_dif_law.specs.Ids.{Ids, flipped}
use Rattle.rina_dif_law.specs.Incoming.{IsKeptNumber}
use Rattle.rina_dif_law.specs.Standing.{IsConn}
use Rattle.rina_iface.specs.declared.ends.End.{End}
use Rattle.rina_iface.specs.declared.state.PortState.{PortState}
use Rattle.rina_iface.specs.declared.state.PortState.TheVariants.{Allocated}
use Rattle.rina_iface.specs.Later.{Moves}
use Rattle.rina_law.specs.Direction.{Direction, Forget, happens}
use Rattle.rina_law.specs.Lists.{In}
use Rattle.rina_law.specs.Receiver.{is_present}
use Rattle.rina_flows.specs.Rows.{IsPlace}
use Rattle.rina_flows.specs.Tied.{IsInboundAt}

-- the line of a piece that the receiver of a direction to the end with these ids held, and that is given up for this
-- cause
abbrev pub IsHeldOff : Ids → Direction → Cause → Off → Type 0
IsHeldOff ids line cause off = (off.key.kind ≡ APiece) × (off.key.src ≡ ids.far) × (off.key.scep ≡ ids.dcep) × IsKeptNumber line off.key.seq × (off.cause ≡ cause)

-- the connection of an allocated end gives up what it holds of a state that is gone, in the order of the numbers
pub record ForgetsAt (g : Config) (ends : List End) (ids : List Ids) (lines : List Direction) (at : ℕ) (offs : List Off) (lines' : List Direction) : Type 0 where
  pub end : End
  pub its_ids : Ids
  pub cube : Cube
  pub place : IsPlace g ends ids at end its_ids cube
  pub allocated : end.state ≡ Allocated
  pub from : ℕ
  pub line : Direction
  pub inbound : IsInboundAt ends lines end from line
  pub gone : is_present (constants g cube (flipped its_ids)) line.line.clock line.line.receiver ≡ false
  pub offs_are : (off : Off) → In off offs → IsHeldOff its_ids line (causes.StateGone line.line.receiver.last_in) off
  pub made : (off : Off) → In off offs → line.line.receiver.made ≡ true
  pub all : AllOff line offs
  pub in_order : InOrder offs
  pub lines_are : lines' ≡ slice_set lines from (happens (constants g cube (flipped its_ids)) line Forget)

-- an allocated end ends, and gives up what its connection holds, in the order of the numbers
pub record EndsAt (ends : List End) (ids : List Ids) (lines : List Direction) (at : ℕ) (state : PortState) (offs : List Off) (ends' : List End) : Type 0 where
  pub end : End
  pub its_ids : Ids
  pub is_conn : IsConn ends ids at end its_ids
  pub allocated : end.state ≡ Allocated
  pub moves : Moves end.state state
  pub stops : state ≢ Allocated
  pub offs_are : (off : Off) (from : ℕ) (line : Direction) → In off offs → IsInboundAt ends lines end from line → IsHeldOff its_ids line (causes.NoConnection its_ids.scep) off
  pub all : (from : ℕ) (line : Direction) → IsInboundAt ends lines end from line → AllOff line offs
  pub in_order : InOrder offs
  pub ends_are : ends' ≡ slice_set ends at (record end { state = state })
