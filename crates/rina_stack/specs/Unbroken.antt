-- Forms of facts that no rule is broken.
use Rattle.std.specs.Prelude.{◌≡◌, ◌≢◌, ℕ, Bool, false, List, All}
use Rattle.std.specs.List.{AllPairs}
use Rattle.rina_plan.specs.declared.dif.DifPlan.{DifPlan}

-- no text stands twice in a list
abbrev pub AreDistinct : List (List ℕ) → Type 0
AreDistinct ts = AllPairs (λ t u. t ≢ u) ts

-- no DIF passes
abbrev pub NoDif : (DifPlan → Bool) → List DifPlan → Type 0
NoDif p difs = All (λ d. p d ≡ false) difs
