-- How a flow of a DIF ends at one of its ends.
use Rattle.std.specs.Prelude.{◌≡◌, ◌≢◌, ℕ, ◌+◌, ◌*◌, List, slice_get, slice_set, Some}
use Rattle.rina_account.specs.declared.ledger.Off.{Off}
use Rattle.rina_base.specs.declared.cause.Cause.TheVariants as causes
use Rattle.rina_base.specs.declared.pdu.PduKind.TheVariants.{Piece as APiece}
use Rattle.rina_cube.specs.declared.Cube.{Cube}
use Rattle.rina_cube.specs.Cubes.{delta_of}
use Rattle.rina_iface.specs.declared.ends.End.{End}
use Rattle.rina_iface.specs.declared.state.Fail.TheVariants.{GaveUp}
use Rattle.rina_iface.specs.declared.state.PortState.{PortState}
use Rattle.rina_iface.specs.declared.state.PortState.TheVariants.{Allocated, Failed}
use Rattle.rina_iface.specs.Later.{Moves}
use Rattle.rina_law.specs.Direction.{Direction}
use Rattle.rina_law.specs.Lists.{In}
use Rattle.rina_law.specs.Sender.{given_up, member}
use Rattle.rina_dif_law.specs.Counting.{AllOff, InOrder}
use Rattle.rina_data.specs.Process.{Process, with_offs}
use Rattle.rina_ids.specs.Members.{CepIds, with_rest}
use Rattle.rina_dif_law.specs.Dif.{DifSeen, constants}
use Rattle.rina_data.specs.Configs.{cube_by}
use Rattle.rina_dif_law.specs.Ids.{Ids}
use Rattle.rina_dif_law.specs.Incoming.{IsInbound, IsKeptNumber}
use Rattle.rina_dif_law.specs.Sending.{home}
use Rattle.rina_dif_law.specs.Standing.{IsConn}

-- the member of the end at a place gives the end's CEP-id back, which rests for `3 * delta` of the end's cube
pub record GivesBack (d : DifSeen) (at : ℕ) (end : End) (held : List CepIds) : Type 0 where
  pub ids : Ids
  pub are_ids : slice_get d.conns at ≡ Some ids
  pub cube : Cube
  pub is_cube : cube_by end.cube d.config.cubes ≡ Some cube
  pub place : ℕ
  pub at_home : home end.port.node d.config.members ≡ Some place
  pub old : CepIds
  pub is_old : slice_get d.ids place ≡ Some old
  pub held_is : held ≡ with_rest place old ids.scep (d.clock + 3 * delta_of cube) d.ids

-- an allocated end ends, its CEP-id rests, and the pieces that its connection held are written off, in the order of their numbers. Nothing changes of what was sent and
-- got, and what is still on its way finds no connection
pub record IsEnded (d : DifSeen) (lines : List Direction) (at : ℕ) (state : PortState) (d' : DifSeen) : Type 0 where
  pub end : End
  pub ids : Ids
  pub is_conn : IsConn d.ends d.conns at end ids
  pub allocated : end.state ≡ Allocated
  pub moves : Moves end.state state
  pub ends : state ≢ Allocated
  pub i : ℕ
  pub process : Process
  pub at_home : home end.port.node d.config.members ≡ Some i
  pub is_process : slice_get d.processes i ≡ Some process
  pub dropped : List Off
  pub all_dropped : (off : Off) (from : ℕ) (line : Direction) → In off dropped → IsInbound d lines end from line → (off.key.kind ≡ APiece) × (off.key.src ≡ ids.far) × (off.key.scep ≡ ids.dcep) × IsKeptNumber line off.key.seq × (off.cause ≡ causes.NoConnection ids.scep)
  pub all : (from : ℕ) (line : Direction) → IsInbound d lines end from line → AllOff line dropped
  pub in_order : InOrder dropped
  pub held : List CepIds
  pub gives_back : GivesBack d at end held
  pub new_is : d' ≡ record d { ends = slice_set d.ends at (record end { state = state }); processes = slice_set d.processes i (with_offs process dropped); ids = held }

-- a reliable sender gives a number up: the flow has failed
pub record IsGivenUp (d : DifSeen) (lines : List Direction) (at number : ℕ) (d' : DifSeen) : Type 0 where
  pub line : Direction
  pub is_line : slice_get lines at ≡ Some line
  pub ids : Ids
  pub ids_are : slice_get d.conns at ≡ Some ids
  pub cube : Cube
  pub is_cube : cube_by ids.qos d.config.cubes ≡ Some cube
  pub late : given_up (constants d.config cube ids) line.line.clock line.line.sender ≡ Some number
  pub ended : IsEnded d lines at (Failed (GaveUp (record { cep = ids.scep; seq = number }) (member line.line.sender.run number).first d.clock)) d'
