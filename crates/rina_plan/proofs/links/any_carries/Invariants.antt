use Rattle.std.proofs.Common.{◌≡◌, drop, ◌==◌, ◌&&◌, nat_le}
use Rattle.std.specs.List.{list_any}
use Rattle.rina_cube.specs.declared.Cube.{Cube}
use Rattle.rina_plan.proofs.links.any_carries.Given as goal

abbrev pub invariant-cubes : goal.invariant-cubes
invariant-cubes l = list_any (λ (c : Cube). (c.id == l.id) && nat_le l.pdu c.largest) (drop l.cube-index l.cubes) ≡ list_any (λ (c : Cube). (c.id == l.id) && nat_le l.pdu c.largest) l.cubes
