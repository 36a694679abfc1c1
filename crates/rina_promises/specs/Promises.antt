-- The table of the promises of a stack: what each flow of each DIF promises, and the way of it by the next hops of the tower of the stack.
use Rattle.std.specs.Prelude.{◌≡◌, ℕ, List, [], ◌∷◌, ◌++◌, codes, length, slice_get, Some, option_and_then}
use Rattle.std.specs.List.{range_with_len}
use Rattle.rina_plan.specs.declared.dif.DifPlan.{DifPlan}
use Rattle.rina_plan.specs.declared.dif.FlowPlan.{FlowPlan}
use Rattle.rina_plan.specs.Numbers.{number_in_rank}
use Rattle.rina_stack.specs.declared.plan.Plan.{Plan}
use Rattle.rina_stack.specs.Plan.{IsPlan}
use Rattle.rina_dif.specs.declared.dif.Dif.{Dif}
use Rattle.rina_tower.specs.declared.tower.Tower.{Tower}
use Rattle.rina_tower.specs.Built.{IsBuilt}
use Rattle.rina_tower.specs.BuiltWhole.{IsBuiltWhole}
use Rattle.rina_tower.specs.BuildSteps.{IsHighest}
use Rattle.rina_tower.specs.Ledgers.{dif_at, dif_of}
use Rattle.rina_tower.specs.PlanSettings.{IsAsPlanned}
use Rattle.rina_tower.specs.Ranks.{below_of, height_of, rank_of, seen_of}
use Rattle.rina_tower.specs.Stands.{IsTower}
use Rattle.rina_way.specs.Ways.{IsRow}
use Rattle.rina_way.specs.Words.{row_text}
use Rattle.rina_promises.specs.declared.rows.Rows.{Rows}

-- The tower

-- the tower of a stack as it was built, before anything else was done to it
pub record IsTowerOf (plan : Plan) (t : Tower) : Type 0 where
  pub is_plan : IsPlan plan
  pub stands : IsTower t
  pub built : IsBuilt plan t
  pub whole : IsBuiltWhole plan t
  pub height : IsHighest plan.difs (height_of t)
  pub planned : IsAsPlanned plan t

-- the DIF of number n at the top rank, and the tower that this rank stands on
pub record IsOwn (t : Tower) (n : ℕ) (d : Dif) (below : Tower) : Type 0 where
  pub is_dif : dif_of t n ≡ Some d
  pub is_below : below_of t ≡ Some below

-- the DIF of number n of rank r, and the tower that this rank stands on
pub record IsStanding (t : Tower) (r n : ℕ) (d : Dif) (below : Tower) : Type 0 where
  pub is_dif : dif_at t r n ≡ Some d
  pub is_below : option_and_then below_of (rank_of t r) ≡ Some below

-- Flows

-- a flow of the i-th DIF of a stack
pub record IsFlowOf (plan : Plan) (i : ℕ) (d : DifPlan) (f : FlowPlan) : Type 0 where
  pub dif : slice_get plan.difs i ≡ Some d
  pub place : ℕ
  pub flow : slice_get d.flows place ≡ Some f

-- both directions of a flow of a DIF over a tower, each with the flow's cube and its way by the next hops
pub record AreRows (below : Tower) (d : Dif) (f : FlowPlan) (rows : Rows) : Type 0 where
  pub there : IsRow (seen_of below) d.settings d.processes f.cube f.from.node f.to.node rows.there
  pub back : IsRow (seen_of below) d.settings d.processes f.cube f.to.node f.from.node rows.back

-- the lines of a flow of the facility of a name: from `from` to `to`, and back
abbrev pub flow_text : List (List ℕ) → List ℕ → FlowPlan → Rows → List ℕ
flow_text nodes fac f rows = row_text fac f.from.label f.to.label nodes rows.there ++ row_text fac f.to.label f.from.label nodes rows.back

-- the text of a flow of the i-th DIF of the stack, by that DIF as it stands in the tower
pub record IsFlowText (plan : Plan) (t : Tower) (i : ℕ) (d : DifPlan) (f : FlowPlan) (text : List ℕ) : Type 0 where
  pub dif : Dif
  pub below : Tower
  pub stands : IsStanding t d.rank (number_in_rank plan.difs i) dif below
  pub rows : Rows
  pub are : AreRows below dif f rows
  pub text_is : text ≡ flow_text plan.nodes d.name f rows

-- The table

-- a text for each of these, one behind the other
abbrev pub AreTexts : {X : Type 0} → (X → List ℕ → Type 0) → List X → List ℕ → Type 0
AreTexts P [] text = text ≡ []
AreTexts P (x ∷ xs) text = (first : List ℕ) × (rest : List ℕ) × P x first × AreTexts P xs rest × (text ≡ first ++ rest)

-- the text of the i-th DIF of the stack: those of its flows
pub record IsDifText (plan : Plan) (t : Tower) (i : ℕ) (text : List ℕ) : Type 0 where
  pub dif : DifPlan
  pub is_dif : slice_get plan.difs i ≡ Some dif
  pub flows : AreTexts (IsFlowText plan t i dif) dif.flows text

-- the names of the columns
unfoldable pub columns : List ℕ
columns = codes "facility from to cube way charges slack window pieces trip promise\n"

-- the names of the columns, and the texts of the DIFs in stack order, by the tower of the stack
pub record ShowsPromises (plan : Plan) (text : List ℕ) : Type 0 where
  pub tower : Tower
  pub is_tower : IsTowerOf plan tower
  pub texts : List ℕ
  pub are : AreTexts (IsDifText plan tower) (range_with_len 0 (length plan.difs)) texts
  pub text_is : text ≡ columns ++ texts

-- a text of which this holds was appended
pub record AddsText (P : List ℕ → Type 0) (old new : List ℕ) : Type 0 where
  pub text : List ℕ
  pub is : P text
  pub new_is : new ≡ old ++ text
