-- What stays of a stack through a whole run.
use Rattle.std.specs.Prelude.{◌≡◌, ℕ, ◌+◌, List, slice_get, Some}
use Rattle.rina_plan.specs.declared.dif.DifPlan.{DifPlan}
use Rattle.rina_policy.specs.Slots.{Slot}
use Rattle.rina_report.specs.declared.note.Note.{Note}
use Rattle.rina_stack.specs.declared.plan.Plan.{Plan}
use Rattle.rina_dif.specs.declared.dif.Dif.{Dif}
use Rattle.rina_dif.specs.Planned.{settings_of}
use Rattle.rina_dif.specs.Routing.{HaveRoutes}
use Rattle.rina_tower.specs.declared.tower.Tower.{Tower, Wires, Rank'}
use Rattle.rina_tower.specs.PlanSettings.{IsAsPlanned}
use Rattle.rina_tower.specs.Ranks.{height_of}
use Rattle.rina_run.specs.Opening.{IsOpening}
use Rattle.rina_run.specs.Run.{Runs}
use Rattle.rina_words.specs.Step.{Stage}

-- after any run from its opening each DIF of each rank has the settings and the links that the stack says
abbrev pub StaysAsPlanned : Type 0
StaysAsPlanned = (plan : Plan) (shelf : List Slot) (start : Stage) (lines : List (List ℕ)) (ns : List Note) (s : Stage) → IsOpening plan shelf start → Runs plan 1 start lines ns s → IsAsPlanned plan s.run.tower

-- a DIF has the settings of a DIF of the stack, which has this rank; each of its IPC processes has its next hops by least walks over its
-- own links that are up, and the edges that both ends claim in the items of its management. In a static DIF the own links are the live ones of
-- those that the stack says, and behind them those that enrolments made
pub record IsRoutedAs (plan : Plan) (rank : ℕ) (d : Dif) : Type 0 where
  pub place : ℕ
  pub dif : DifPlan
  pub is_dif : slice_get plan.difs place ≡ Some dif
  pub its_rank : dif.rank ≡ rank
  pub settings : settings_of plan place ≡ Some d.settings
  pub routes : HaveRoutes dif.is_static d.settings.members dif.links d.processes d.managements

-- and so each of each rank
abbrev pub AreRoutedAs : Plan → Tower → Type 0
AreRoutedAs plan (Wires a) = Unit {0}
AreRoutedAs plan (Rank' p difs below) = ((n : ℕ) (d : Dif) → slice_get difs n ≡ Some d → IsRoutedAs plan (height_of below + 1) d) × AreRoutedAs plan below

-- after any run from its opening
abbrev pub RoutesAsPlanned : Type 0
RoutesAsPlanned = (plan : Plan) (shelf : List Slot) (start : Stage) (lines : List (List ℕ)) (ns : List Note) (s : Stage) → IsOpening plan shelf start → Runs plan 1 start lines ns s → AreRoutedAs plan s.run.tower
