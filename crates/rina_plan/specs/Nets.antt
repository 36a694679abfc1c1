-- The DIFs whose parts were made.
use Rattle.std.specs.Prelude.{List, map}
use Rattle.rina_plan.specs.declared.dif.DifPlan.{DifPlan}
use Rattle.rina_plan.specs.declared.nets.Net.{Net}

abbrev pub difs_of : List Net → List DifPlan
difs_of nets = map (λ (n : Net). n.dif.now) nets
