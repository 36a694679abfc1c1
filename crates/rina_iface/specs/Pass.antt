-- What `peek` lends, and what `pass` does.
use Rattle.std.specs.Prelude.{◌≡◌, ℕ, List, Some, IsSome}
use Rattle.rina_base.specs.declared.number.Port.{Port}
use Rattle.rina_law.specs.declared.entry.Entry.{Entry}
use Rattle.rina_iface.specs.declared.ends.End.{End}
use Rattle.rina_iface.specs.Ends.{with_passed}
use Rattle.rina_iface.specs.Seen.{Fac, Seen, Stands, unpassed, with_end, with_fac}

-- the oldest entry that was not passed yet came at this tick, with these bytes
pub record IsLent (s : Seen) (port : Port) (at : ℕ) (bytes : List ℕ) : Type 0 where
  pub entry : Entry
  pub oldest : unpassed s port ≡ Some entry
  pub its_tick : at ≡ entry.tick
  pub its_bytes : bytes ≡ entry.bytes

-- one more entry of this end was passed, and nothing else changed
pub record IsPassed (old : Seen) (port : Port) (new : Seen) : Type 0 where
  pub facility : Fac
  pub place : ℕ
  pub end : End
  pub stands : Stands old port facility place end
  pub new_is : new ≡ with_fac old port.fac (with_end facility place (with_passed end))

-- what `pass` does where an SDU waits, by what is shown and on the whole, where a facility shows itself by `seen`, and does `does`
abbrev pub PassesAsSeen : {F : Type 0} → (F → Seen) → (F → Port → F → Type 0) → F → F → Port → Type 0
PassesAsSeen seen does old new port = IsSome (unpassed (seen old) port) × IsPassed (seen old) port (seen new) × does old port new
