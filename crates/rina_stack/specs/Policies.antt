-- Which policies a stack may name.
use Rattle.std.specs.Prelude.{ℕ, ◌||◌, not, Bool, List, codes, Option, position}
use Rattle.std.specs.Str.{bytes_eq}
use Rattle.rina_plan.specs.declared.dif.DifPlan.{DifPlan}

unfoldable pub is_built_in : List ℕ → Bool
is_built_in name = bytes_eq name (codes "strict") || bytes_eq name (codes "last") || bytes_eq name (codes "first") || bytes_eq name (codes "round") || bytes_eq name (codes "weighted")

-- the place of the first DIF whose policy is not known
abbrev pub unknown_policy : (List ℕ → Bool) → List DifPlan → Option ℕ
unknown_policy known difs = position (λ (d : DifPlan). not (known d.policy)) difs
