-- What the exact clause of a call says of the facilities that the wires are.
use Rattle.std.proofs.Common.{◌≡◌, ℕ, List, slice_get, Some, None, Option, option_map, Result, Ok, Err, refl, sym, ap, ◌∙◌}
use Rattle.std.proofs.lemmas.Option.{none-some, slice_get-map}
use Rattle.std.proofs.lemmas.List.{map-set}
use Rattle.rina_iface.specs.declared.error.RegisterError.{RegisterError}
use Rattle.rina_iface.specs.declared.error.RegisterError.TheVariants.{Memory, Already, NoMember, CountSpent}
use Rattle.rina_iface.specs.Seen.{with_fac}
use Rattle.rina_iface.specs.Register.{IsRegistered, Registers, refused, refused_in}
use Rattle.rina_wire.specs.Air.{Air, Line, fac_of, on_wire, seen_of, wire_at}
use Rattle.rina_wire.specs.Register.{RegistersOn, named, register_refusal, registered}

-- a facility that is seen is the wire of its number
pub fac_at : (a : Air) (fac : ℕ) → slice_get (seen_of a).facs fac ≡ option_map fac_of (wire_at a fac)
fac_at a fac = slice_get-map fac_of a.wires fac

-- where a wire changed, so did that facility
pub seen_on_wire : (a : Air) (fac : ℕ) (change : Line → Line) (l : Line) → wire_at a fac ≡ Some l → seen_of (on_wire a fac change) ≡ with_fac (seen_of a) fac (fac_of (change l))
seen_on_wire a fac change l h = rw h (ap (λ fs. record { now = a.now; facs = fs }) (map-set fac_of a.wires fac (change l)))

registers_at : (a : Air) (fac node : ℕ) (app : List ℕ) (o : Option Line) → wire_at a fac ≡ o → refused_in (option_map fac_of o) node app None ≡ None → IsRegistered (seen_of a) fac node app (seen_of (registered a fac node app))
registers_at a fac node app None h free = absurd (none-some NoMember (sym free))
registers_at a fac node app (Some l) h free = record {
  facility = fac_of l;
  stands = fac_at a fac ∙ ap (option_map fac_of) h;
  new_is = seen_on_wire a fac (named node app) l h;
}

refused_register : (a : Air) (fac node : ℕ) (app : List ℕ) → refused (seen_of a) fac node app None ≡ register_refusal a fac node app
refused_register a fac node app = ap (λ o. refused_in o node app None) (fac_at a fac)

pub seen_registers : (a : Air) (fac node : ℕ) (app : List ℕ) (r : Result (Unit {0}) RegisterError) (a' : Air) → RegistersOn a fac node app r a' → Registers None (seen_of a) fac node app r (seen_of a')
seen_registers a fac node app (Ok done) a' g = (refused_register a fac node app ∙ g.refused, rw g.air (registers_at a fac node app (wire_at a fac) refl g.refused))
seen_registers a fac node app (Err Memory) a' g = ap seen_of g
seen_registers a fac node app (Err Already) a' g = (refused_register a fac node app ∙ g.refused, ap seen_of g.air)
seen_registers a fac node app (Err NoMember) a' g = (refused_register a fac node app ∙ g.refused, ap seen_of g.air)
seen_registers a fac node app (Err (CountSpent n k)) a' g = (refused_register a fac node app ∙ g.refused, ap seen_of g.air)
