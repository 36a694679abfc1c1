-- What `free` refuses, and what it does.
use Rattle.std.specs.Prelude.{◌≡◌, ℕ, Bool, true, false, List, slice_set, Option, Some, None, Result, Ok, Err}
use Rattle.rina_base.specs.declared.number.Port.{Port}
use Rattle.rina_iface.specs.declared.ends.End.{End}
use Rattle.rina_iface.specs.declared.error.FreeError.{FreeError}
use Rattle.rina_iface.specs.declared.error.FreeError.TheVariants.{Memory, NoPort}
use Rattle.rina_iface.specs.Journal.{At, IsPartner}
use Rattle.rina_iface.specs.Seen.{Fac, Seen, Stands, end_of, with_fac}
use Rattle.rina_iface.specs.State.{freed}

-- the end at this place was freed; where `both` says so, its partner was freed with it
abbrev pub FreesEnds : Bool → List End → ℕ → End → List End → Type 0
FreesEnds false ends place e ends' = ends' ≡ slice_set ends place (freed e)
FreesEnds true ends place e ends' = (at : ℕ) × (other : End) × At ends at other × IsPartner e other × (ends' ≡ slice_set (slice_set ends place (freed e)) at (freed other))

-- the end of this port was freed, and nothing else changed
pub record IsFreed (both : Bool) (old : Seen) (port : Port) (new : Seen) : Type 0 where
  pub facility : Fac
  pub place : ℕ
  pub end : End
  pub stands : Stands old port facility place end
  pub ends : List End
  pub frees : FreesEnds both facility.ends place end ends
  pub new_is : new ≡ with_fac old port.fac (record facility { ends = ends })

-- what must be refused: a port that was never drawn
abbrev pub refused_end : Option End → Option FreeError
refused_end None = Some NoPort
refused_end (Some e) = None

abbrev pub refused : Seen → Port → Option FreeError
refused s port = refused_end (end_of s port)

-- what `free` does, where `both` says whether the other end of the flow is freed at once
abbrev pub Frees : Bool → Seen → Port → Result (Unit {0}) FreeError → Seen → Type 0
Frees both old port (Ok done) new = IsFreed both old port new
Frees both old port (Err Memory) new = new ≡ old
Frees both old port (Err NoPort) new = (refused old port ≡ Some NoPort) × (new ≡ old)

-- what `free` does, by what is shown and on the whole, where a facility shows itself by `seen`, frees both ends at once where `both` says so, and does `does`
abbrev pub FreesAsSeen : {F : Type 0} → (F → Seen) → (F → Bool) → (F → Port → Result (Unit {0}) FreeError → F → Type 0) → F → F → Port → Result (Unit {0}) FreeError → Type 0
FreesAsSeen seen both does old new port result = Frees (both old) (seen old) port result (seen new) × does old port result new
