-- `register` on wires.
use Rattle.std.specs.Prelude.{◌≡◌, ℕ, List, Option, Some, None, Result, Ok, Err, option_map}
use Rattle.rina_iface.specs.declared.error.RegisterError.{RegisterError}
use Rattle.rina_iface.specs.declared.error.RegisterError.TheVariants.{Memory}
use Rattle.rina_iface.specs.Register.{refused_in, with_name}
use Rattle.rina_wire.specs.Air.{Air, Line, Goes, fac_of, failed_air, on_wire, wire_at}

-- what must be refused, in the order of every facility
abbrev pub register_refusal : Air → ℕ → ℕ → List ℕ → Option RegisterError
register_refusal a fac node app = refused_in (option_map fac_of (wire_at a fac)) node app None

-- the wire with one more name
abbrev pub named : ℕ → List ℕ → Line → Line
named node app l = record l { names = with_name l.names node app }

-- the wires after the application was registered
abbrev pub registered : Air → ℕ → ℕ → List ℕ → Air
registered a fac node app = on_wire a fac (named node app)

-- what `register` does
abbrev pub RegistersOn : Air → ℕ → ℕ → List ℕ → Result (Unit {0}) RegisterError → Air → Type 0
RegistersOn a fac node app (Ok done) a' = Goes a (register_refusal a fac node app) None (registered a fac node app) a'
RegistersOn a fac node app (Err Memory) a' = a' ≡ failed_air a
RegistersOn a fac node app (Err e) a' = Goes a (register_refusal a fac node app) (Some e) a a'
