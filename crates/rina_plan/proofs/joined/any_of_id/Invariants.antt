use Rattle.std.proofs.Common.{◌≡◌, drop, ◌==◌}
use Rattle.std.specs.List.{list_any}
use Rattle.rina_cube.specs.declared.Cube.{Cube}
use Rattle.rina_plan.proofs.joined.any_of_id.Given as goal

abbrev pub invariant-cubes : goal.invariant-cubes
invariant-cubes l = list_any (λ (c : Cube). c.id == l.id) (drop l.cube-index l.cubes) ≡ list_any (λ (c : Cube). c.id == l.id) l.cubes
