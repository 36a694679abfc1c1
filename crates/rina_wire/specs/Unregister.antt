-- `unregister` on wires.
use Rattle.std.specs.Prelude.{◌≡◌, ℕ, List, Option, Some, None, Result, Ok, Err, option_map}
use Rattle.rina_iface.specs.declared.error.UnregisterError.{UnregisterError}
use Rattle.rina_iface.specs.declared.error.UnregisterError.TheVariants.{Memory}
use Rattle.rina_iface.specs.Unregister.{refused_in, without_name}
use Rattle.rina_wire.specs.Air.{Air, Line, Goes, fac_of, failed_air, on_wire, wire_at}

-- what must be refused, in the order of every facility
abbrev pub unregister_refusal : Air → ℕ → ℕ → List ℕ → Option UnregisterError
unregister_refusal a fac node app = refused_in (option_map fac_of (wire_at a fac)) node app None

-- the wire without that name
abbrev pub unnamed : ℕ → List ℕ → Line → Line
unnamed node app l = record l { names = without_name l.names node app }

-- what `unregister` does
abbrev pub UnregistersOn : Air → ℕ → ℕ → List ℕ → Result (Unit {0}) UnregisterError → Air → Type 0
UnregistersOn a fac node app (Ok done) a' = Goes a (unregister_refusal a fac node app) None (on_wire a fac (unnamed node app)) a'
UnregistersOn a fac node app (Err Memory) a' = a' ≡ failed_air a
UnregistersOn a fac node app (Err e) a' = Goes a (unregister_refusal a fac node app) (Some e) a a'
