-- What `register` refuses, and what it does.
use Rattle.std.specs.Prelude.{◌≡◌, ℕ, List, [], ◌∷◌, ◌++◌, slice_get, Option, Some, None, Result, Ok, Err, if◌then◌else◌}
use Rattle.rina_iface.specs.declared.ask.Registered.{Registered}
use Rattle.rina_iface.specs.declared.error.RegisterError.{RegisterError}
use Rattle.rina_iface.specs.declared.error.RegisterError.TheVariants.{Memory, Already, NoMember}
use Rattle.rina_iface.specs.Seen.{Fac, Seen, is_member, is_registered, with_fac}

-- what a facility refuses, where there is one: first what every facility does, and then `own`
abbrev pub refused_in : Option Fac → ℕ → List ℕ → Option RegisterError → Option RegisterError
refused_in None node app own = Some NoMember
refused_in (Some f) node app own = if is_registered f.names node app then Some Already else if is_member f.members node then own else Some NoMember

-- what must be refused
abbrev pub refused : Seen → ℕ → ℕ → List ℕ → Option RegisterError → Option RegisterError
refused s fac node app own = refused_in (slice_get s.facs fac) node app own

-- the names with one more
abbrev pub with_name : List Registered → ℕ → List ℕ → List Registered
with_name names node app = names ++ record { node = node; app = app } ∷ []

-- the application is registered at that node, and nothing else changed
pub record IsRegistered (old : Seen) (fac node : ℕ) (app : List ℕ) (new : Seen) : Type 0 where
  pub facility : Fac
  pub stands : slice_get old.facs fac ≡ Some facility
  pub new_is : new ≡ with_fac old fac (record facility { names = with_name facility.names node app })

-- what `register` does, where `own` is what the facility refuses by what it alone knows
abbrev pub Registers : Option RegisterError → Seen → ℕ → ℕ → List ℕ → Result (Unit {0}) RegisterError → Seen → Type 0
Registers own old fac node app (Ok done) new = (refused old fac node app own ≡ None) × IsRegistered old fac node app new
Registers own old fac node app (Err Memory) new = new ≡ old
Registers own old fac node app (Err e) new = (refused old fac node app own ≡ Some e) × (new ≡ old)
