-- What the steps of building a tower do.
use Rattle.std.specs.Prelude.{◌≡◌, ℕ, ◌+◌, ◌≤◌, ◌⊎◌, List, [], flat_map, slice_get, Some, if◌then◌else◌}
use Rattle.std.specs.List.{range_with_len}
use Rattle.rina_base.specs.declared.number.Port.{Port}
use Rattle.rina_iface.specs.declared.ask.Fixed.{Fixed}
use Rattle.rina_iface.specs.Seen.{Seen}
use Rattle.rina_plan.specs.declared.dif.DifPlan.{DifPlan}
use Rattle.rina_stack.specs.declared.plan.Plan.{Plan}
use Rattle.rina_dif.specs.declared.dif.Dif.{Dif}
use Rattle.rina_dif.specs.Laying.{BindsAll, BindsInTurn}
use Rattle.rina_dif.specs.Planned.{flows_of}
use Rattle.rina_tower.specs.declared.tower.Tower.{Tower}
use Rattle.rina_tower.specs.Bystanders.{IsIpc, LeavesNow}
use Rattle.rina_tower.specs.Built.{IsTop, has_rank, places_in}
use Rattle.rina_tower.specs.BuiltWhole.{AreMadeOver, IsFresh}
use Rattle.rina_tower.specs.Calls.{BindsWhole}
use Rattle.rina_tower.specs.Layout.{IsGround, IsLaying}
use Rattle.rina_tower.specs.PlanSettings.{AreOfPlan, IsAsPlanned}
use Rattle.rina_tower.specs.Ranks.{height_of, seen_of}
use Rattle.rina_tower.specs.Stands.{IsTower}
use Rattle.rina_tower.specs.Levels.{SameBelow}

-- Ranks

-- no DIF has a rank above this one, which is that of some DIF, or 0 where there is none
pub record IsHighest (difs : List DifPlan) (r : ℕ) : Type 0 where
  pub most : (i : ℕ) (d : DifPlan) → slice_get difs i ≡ Some d → d.rank ≤ r
  pub least : (r ≡ 0) ⊎ ((i : ℕ) × (d : DifPlan) × (slice_get difs i ≡ Some d) × (d.rank ≡ r))

-- Flows

-- neither application of a flow is an IPC process
pub record IsPlain (fixed : Fixed) : Type 0 where
  pub a : IsIpc fixed.a_app → ⊥
  pub b : IsIpc fixed.b_app → ⊥

-- these flows were bound in order, and nothing else
pub record AreBound (old : Seen) (flows : List Fixed) (new : Seen) : Type 0 where
  pub ports : List (Port × Port)
  pub bound : BindsAll old flows ports new

-- these flows were bound on the top rank of a tower, and nothing else was done there; none of them is one of an IPC process
pub record HasBound (old : Tower) (flows : List Fixed) (new : Tower) : Type 0 where
  pub valid : IsTower new
  pub below : SameBelow old new
  pub alone : LeavesNow IsIpc (seen_of old) (seen_of new)
  pub bound : AreBound (seen_of old) flows (seen_of new)
  pub whole : BindsInTurn BindsWhole old flows new

-- the flows of the DIF of a place of the stack, where it is one of this rank
abbrev pub flows_there : Plan → ℕ → ℕ → List Fixed
flows_there plan r i = if has_rank plan r i then flows_of plan i else []

-- those of the DIFs of a rank before a place of the stack
abbrev pub flows_before : Plan → ℕ → ℕ → List Fixed
flows_before plan r at = flat_map (flows_there plan r) (range_with_len 0 at)

-- DIFs

-- the DIFs of the rank above rank k were made as far as a place of the stack, over a rank that nobody had used
abbrev pub IsHalfMade : Plan → ℕ → ℕ → List Dif → Seen → Type 0
IsHalfMade plan k at difs s = (ground : Seen) × IsGround plan k ground × IsLaying plan k at ground difs s

-- the next DIF of the stack was made over a tower, where it is of the rank above
pub record LaysNext (plan : Plan) (k at : ℕ) (difs : List Dif) (old : Tower) (difs' : List Dif) (new : Tower) : Type 0 where
  pub valid : IsTower new
  pub below : SameBelow old new
  pub laying : (ground : Seen) → IsGround plan k ground → IsLaying plan k at ground difs (seen_of old) → IsLaying plan k (at + 1) ground difs' (seen_of new)
  pub planned : AreOfPlan plan (k + 1) difs → AreOfPlan plan (k + 1) difs'
  pub made : (start : Tower) → AreMadeOver plan (places_in plan (k + 1) at) start difs old → AreMadeOver plan (places_in plan (k + 1) (at + 1)) start difs' new

-- the DIFs of the rank above were made over a tower, as far as a place of the stack
pub record AreLaid (plan : Plan) (k at : ℕ) (old : Tower) (difs : List Dif) (new : Tower) : Type 0 where
  pub valid : IsTower new
  pub below : SameBelow old new
  pub laying : IsLaying plan k at (seen_of old) difs (seen_of new)
  pub planned : AreOfPlan plan (k + 1) difs
  pub made : AreMadeOver plan (places_in plan (k + 1) at) old difs new

-- a tower of so many ranks, of which nobody has used the own one
pub record IsRaised (plan : Plan) (r : ℕ) (t : Tower) : Type 0 where
  pub valid : IsTower t
  pub top : IsTop plan t
  pub height : height_of t ≡ r
  pub planned : IsAsPlanned plan t
  pub fresh : IsFresh plan r t
