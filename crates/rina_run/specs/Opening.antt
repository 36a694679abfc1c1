-- Where a run begins: a tower that was just built, a label for each end of each flow of the stack, and a shelf.
use Rattle.std.specs.Prelude.{◌≡◌, ℕ, ◌+◌, ◌*◌, ◌==◌, if◌then◌else◌, List, [], ◌∷◌, ◌++◌, length, slice_get, Some}
use Rattle.std.specs.List.{range_with_len}
use Rattle.rina_iface.specs.declared.ask.Fixed.{Fixed}
use Rattle.rina_iface.specs.declared.ends.End.{End}
use Rattle.rina_iface.specs.declared.state.PortState.TheVariants.{Allocated}
use Rattle.rina_plan.specs.declared.dif.DifPlan.{DifPlan}
use Rattle.rina_plan.specs.declared.dif.EndPlan.{EndPlan}
use Rattle.rina_plan.specs.declared.dif.FlowPlan.{FlowPlan}
use Rattle.rina_plan.specs.declared.dif.Lower.TheVariants.{Dif}
use Rattle.rina_plan.specs.Links.{rank_of}
use Rattle.rina_plan.specs.Numbers.{number_in_rank}
use Rattle.rina_policy.specs.Slots.{Slot}
use Rattle.rina_stack.specs.declared.plan.Plan.{Plan}
use Rattle.rina_dif.specs.Planned.{links_of}
use Rattle.rina_tower.specs.declared.tower.Tower.{Tower}
use Rattle.rina_tower.specs.Built.{IsBuilt}
use Rattle.rina_tower.specs.BuiltWhole.{IsBuiltWhole}
use Rattle.rina_tower.specs.Flows.{links_on}
use Rattle.rina_tower.specs.BuildSteps.{IsHighest}
use Rattle.rina_tower.specs.PlanSettings.{IsAsPlanned}
use Rattle.rina_tower.specs.Ranks.{height_of}
use Rattle.rina_tower.specs.Stands.{IsTower}
use Rattle.rina_notes.specs.declared.label.Label.{Label}
use Rattle.rina_notes.specs.Look.{ends_at}
use Rattle.rina_words.specs.Step.{Stage}

-- the links of the i-th DIF of the stack, where it is of this rank
abbrev pub links_of_rank : Plan → ℕ → ℕ → List Fixed
links_of_rank plan r i = if rank_of plan.difs (Dif i) == r then links_of plan i else []

-- the label names the end at this place of a DIF's journal, which counts as told `allocated`
pub record NamesEnd (t : Tower) (rank fac place : ℕ) (side : EndPlan) (l : Label) : Type 0 where
  pub end : End
  pub stands : slice_get (ends_at t rank fac) place ≡ Some end
  pub is : l ≡ record { name = side.label; rank = rank; port = end.port; shown = Some Allocated }

-- the labels of flows of a DIF, `from` before `to`; the ends of the first flow stand at this place and behind it
abbrev pub AreFlowLabels : Tower → ℕ → ℕ → ℕ → List FlowPlan → List Label → Type 0
AreFlowLabels t rank fac place [] labels = labels ≡ []
AreFlowLabels t rank fac place (f ∷ fs) labels = (from : Label) × (to : Label) × (rest : List Label) × NamesEnd t rank fac place f.from from × NamesEnd t rank fac (place + 1) f.to to × AreFlowLabels t rank fac (place + 2) fs rest × (labels ≡ from ∷ to ∷ rest)

-- the labels of the flows of the i-th DIF of the stack; each link on it has two ends before them
pub record AreDifLabels (plan : Plan) (t : Tower) (i : ℕ) (labels : List Label) : Type 0 where
  pub dif : DifPlan
  pub is_dif : slice_get plan.difs i ≡ Some dif
  pub flows : AreFlowLabels t dif.rank (number_in_rank plan.difs i) (2 * links_on plan i dif) dif.flows labels

-- those of the DIFs at these places of the stack, one after the other
abbrev pub AreLabelsOf : Plan → Tower → List ℕ → List Label → Type 0
AreLabelsOf plan t [] labels = labels ≡ []
AreLabelsOf plan t (i ∷ is) labels = (first : List Label) × (rest : List Label) × AreDifLabels plan t i first × AreLabelsOf plan t is rest × (labels ≡ first ++ rest)

-- the stage before the first line: the tower of the plan as it was built, with what it shows and what it does not, each DIF with
-- its settings and links, the labels of the stack's flows in stack order, and the shelf that was handed in
pub record IsOpening (plan : Plan) (slots : List Slot) (s : Stage) : Type 0 where
  pub stands : IsTower s.run.tower
  pub built : IsBuilt plan s.run.tower
  pub whole : IsBuiltWhole plan s.run.tower
  pub height : IsHighest plan.difs (height_of s.run.tower)
  pub planned : IsAsPlanned plan s.run.tower
  pub labels : AreLabelsOf plan s.run.tower (range_with_len 0 (length plan.difs)) s.run.labels
  pub shelf : s.shelf ≡ slots

-- labels were added of which this holds
pub record Adds (P : List Label → Type 0) (old new : List Label) : Type 0 where
  pub labels : List Label
  pub are : P labels
  pub new_are : new ≡ old ++ labels

-- one label, of the end at this place
abbrev pub IsLabelOf : Tower → ℕ → ℕ → ℕ → EndPlan → List Label → Type 0
IsLabelOf t rank fac place side labels = (l : Label) × NamesEnd t rank fac place side l × (labels ≡ l ∷ [])
