-- The DIFs of a tower as the plan says them.
use Rattle.std.specs.Prelude.{◌≡◌, ℕ, ◌+◌, List, slice_get, Some}
use Rattle.rina_plan.specs.declared.dif.DifPlan.{DifPlan}
use Rattle.rina_stack.specs.declared.plan.Plan.{Plan}
use Rattle.rina_dif.specs.declared.dif.Dif.{Dif}
use Rattle.rina_dif.specs.Planned.{settings_of}
use Rattle.rina_tower.specs.declared.tower.Tower.{Tower, Wires, Rank'}
use Rattle.rina_tower.specs.Ranks.{height_of}

-- a DIF has the settings and the links of a DIF of the stack, which has this rank, and is static where that is
pub record IsOfPlan (plan : Plan) (rank : ℕ) (d : Dif) : Type 0 where
  pub place : ℕ
  pub dif : DifPlan
  pub is_dif : slice_get plan.difs place ≡ Some dif
  pub its_rank : dif.rank ≡ rank
  pub settings : settings_of plan place ≡ Some d.settings
  pub laid : d.laid ≡ record { is_static = dif.is_static; links = dif.links; wait = dif.wait }

-- and so each of a rank
abbrev pub AreOfPlan : Plan → ℕ → List Dif → Type 0
AreOfPlan plan rank difs = (n : ℕ) (d : Dif) → slice_get difs n ≡ Some d → IsOfPlan plan rank d

-- and so each of each rank
abbrev pub IsAsPlanned : Plan → Tower → Type 0
IsAsPlanned plan (Wires a) = Unit {0}
IsAsPlanned plan (Rank' p difs below) = AreOfPlan plan (height_of below + 1) difs × IsAsPlanned plan below
