-- How a flow of a DIF is freed at one of its ends.
use Rattle.std.specs.Prelude.{◌≡◌, ℕ, ◌*◌, ◌≤◌, List, slice_get, slice_set, Option, Some, None, Result, Ok, Err}
use Rattle.rina_base.specs.declared.memory.Memory.{Memory as NoMemory}
use Rattle.rina_conn.specs.declared.conn.Conn.{Conn}
use Rattle.rina_cube.specs.Cubes.{delta_of}
use Rattle.rina_ids.specs.Members.{CepIds}
use Rattle.rina_iface.specs.declared.ends.End.{End}
use Rattle.rina_iface.specs.declared.error.FreeError.{FreeError}
use Rattle.rina_iface.specs.declared.error.FreeError.TheVariants.{Memory, NoPort}
use Rattle.rina_iface.specs.declared.state.PortState.{PortState}
use Rattle.rina_iface.specs.declared.state.PortState.TheVariants.{Allocated, Closed, Pending}
use Rattle.rina_iface.specs.Seen.{Seen}
use Rattle.rina_iface.specs.State.{freed}
use Rattle.rina_law.specs.Direction.{Direction}
use Rattle.rina_dif_law.specs.Dif.{DifSeen}
use Rattle.rina_dif_law.specs.Ending.{GivesBack, IsEnded}
use Rattle.rina_dif.specs.declared.dif.Dif.{Dif}
use Rattle.rina_dif.specs.declared.release.IdRest.{IdRest}
use Rattle.rina_dif.specs.Holding.{Holds}
use Rattle.rina_dif.specs.Shown.{seen_of}

-- of an end the CEP-id, and for how many ticks it rests: `3 * delta` of its cube
pub record RestsAt (d : Dif) (at : ℕ) (rest : IdRest) : Type 0 where
  pub conn : Conn
  pub is_conn : slice_get d.flows.conns at ≡ Some conn
  pub cep : rest.cep ≡ conn.sending.form.peer.scep
  pub ticks : rest.ticks ≡ 3 * delta_of conn.sending.form.cube
  pub small : rest.ticks ≤ 9000000

-- an end that was asked for is withdrawn, and its CEP-id rests
pub record IsWithdrawn (d : DifSeen) (at : ℕ) (end : End) (d' : DifSeen) : Type 0 where
  pub held : List CepIds
  pub gives_back : GivesBack d at end held
  pub new_is : d' ≡ record d { ends = slice_set d.ends at (freed end); ids = held }

-- an allocated end is closed, and the pieces that its connection held are written off; any other is at most withdrawn
abbrev pub FreesEnd : PortState → DifSeen → List Direction → ℕ → End → DifSeen → Type 0
FreesEnd Allocated d lines at end d' = IsEnded d lines at Closed d'
FreesEnd Pending d lines at end d' = IsWithdrawn d at end d'
FreesEnd state d lines at end d' = d' ≡ record d { ends = slice_set d.ends at (freed end) }

-- the end at a place was freed
pub record IsFreed (d : Dif) (lines : List Direction) (below : Seen) (at : ℕ) (d' : Dif) : Type 0 where
  pub end : End
  pub is_end : slice_get d.flows.journal.ends at ≡ Some end
  pub frees : FreesEnd end.state (seen_of d) lines at end (seen_of d')
  pub holds : Holds d' lines below

-- nothing changed
pub record IsKept (d : Dif) (lines : List Direction) (below : Seen) (d' : Dif) : Type 0 where
  pub same : seen_of d' ≡ seen_of d
  pub holds : Holds d' lines below

-- what changes of the end at a place
abbrev pub FreesHere : Dif → List Direction → Seen → ℕ → Result (Unit {0}) NoMemory → Dif → Type 0
FreesHere d lines below at (Ok done) d' = IsFreed d lines below at d'
FreesHere d lines below at (Err e) d' = IsKept d lines below d'

-- what `free` does at the end of a port
abbrev pub FreesAt : Option ℕ → Dif → List Direction → Seen → Result (Unit {0}) FreeError → Dif → Type 0
FreesAt (Some at) d lines below (Ok done) d' = IsFreed d lines below at d'
FreesAt None d lines below (Ok done) d' = ⊥
FreesAt place d lines below (Err Memory) d' = IsKept d lines below d'
FreesAt place d lines below (Err NoPort) d' = (place ≡ None) × IsKept d lines below d'
