-- What `unregister` refuses, and what it does.
use Rattle.std.specs.Prelude.{◌≡◌, ℕ, ◌==◌, ◌&&◌, List, position, remove, slice_get, Option, Some, None, Result, Ok, Err, if◌then◌else◌}
use Rattle.std.specs.Str.{bytes_eq}
use Rattle.rina_iface.specs.declared.ask.Registered.{Registered}
use Rattle.rina_iface.specs.declared.error.UnregisterError.{UnregisterError}
use Rattle.rina_iface.specs.declared.error.UnregisterError.TheVariants.{Memory, NotThere}
use Rattle.rina_iface.specs.Seen.{Fac, Seen, is_registered, with_fac}

-- what a facility refuses, where there is one: first what every facility does, and then `own`
abbrev pub refused_in : Option Fac → ℕ → List ℕ → Option UnregisterError → Option UnregisterError
refused_in None node app own = Some NotThere
refused_in (Some f) node app own = if is_registered f.names node app then own else Some NotThere

-- what must be refused
abbrev pub refused : Seen → ℕ → ℕ → List ℕ → Option UnregisterError → Option UnregisterError
refused s fac node app own = refused_in (slice_get s.facs fac) node app own

-- where the application stands among the names of that node
abbrev pub name_place : List Registered → ℕ → List ℕ → Option ℕ
name_place names node app = position (λ (r : Registered). (r.node == node) && bytes_eq r.app app) names

abbrev pub without_at : List Registered → Option ℕ → List Registered
without_at names None = names
without_at names (Some place) = remove names place

-- the names without that one
abbrev pub without_name : List Registered → ℕ → List ℕ → List Registered
without_name names node app = without_at names (name_place names node app)

-- the application is not registered at that node any more, and nothing else changed
pub record IsUnregistered (old : Seen) (fac node : ℕ) (app : List ℕ) (new : Seen) : Type 0 where
  pub facility : Fac
  pub stands : slice_get old.facs fac ≡ Some facility
  pub new_is : new ≡ with_fac old fac (record facility { names = without_name facility.names node app })

-- what `unregister` does, where `own` is what the facility refuses by what it alone knows
abbrev pub Unregisters : Option UnregisterError → Seen → ℕ → ℕ → List ℕ → Result (Unit {0}) UnregisterError → Seen → Type 0
Unregisters own old fac node app (Ok done) new = (refused old fac node app own ≡ None) × IsUnregistered old fac node app new
Unregisters own old fac node app (Err Memory) new = new ≡ old
Unregisters own old fac node app (Err e) new = (refused old fac node app own ≡ Some e) × (new ≡ old)
