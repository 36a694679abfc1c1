-- What a tower is when it has been built of a plan: the whole of it, what its ranks do not show included.
use Rattle.std.specs.Prelude.{◌≡◌, ℕ, zero, suc, ◌+◌, List, [], ◌∷◌, length, slice_get, Some}
use Rattle.rina_iface.specs.Seen.{Seen}
use Rattle.rina_plan.specs.declared.dif.DifPlan.{DifPlan}
use Rattle.rina_stack.specs.declared.plan.Plan.{Plan}
use Rattle.rina_dif.specs.declared.dif.Dif.{Dif}
use Rattle.rina_dif.specs.Holding.{Stands}
use Rattle.rina_dif.specs.Laying.{BindsInTurn, IsNew}
use Rattle.rina_dif.specs.Linking.{IsConnected}
use Rattle.rina_dif.specs.Planned.{links_of}
use Rattle.rina_dif.specs.Whole.{IsDif}
use Rattle.rina_wire.specs.Plan.{air_of}
use Rattle.rina_tower.specs.declared.tower.Tower.{Tower, Wires, Rank'}
use Rattle.rina_tower.specs.Built.{places_in}
use Rattle.rina_tower.specs.Calls.{BindsWhole}
use Rattle.rina_tower.specs.Fits.{flows_at}
use Rattle.rina_tower.specs.Ranks.{height_of, seen_of}

-- a DIF was made for this place of the stack, over a rank that showed `old` before and shows `new` after: it is new, each of its links has its
-- management connection, it stands, and its clock has an end
pub record IsMade (plan : Plan) (i : ℕ) (d : Dif) (old new : Seen) : Type 0 where
  pub is_new : IsNew plan i d old new
  pub connected : (dif : DifPlan) → slice_get plan.difs i ≡ Some dif → IsConnected d dif.manage (links_of plan i) old new
  pub stands : Stands d new
  pub valid : IsDif d

-- the DIFs of these places of the stack were made one after the other over a tower, and while each was made
-- its links were bound there in stack order, and nothing else was done there
abbrev pub AreMadeOver : Plan → List ℕ → Tower → List Dif → Tower → Type 0
AreMadeOver plan [] old [] new = new ≡ old
AreMadeOver plan (i ∷ is) old (d ∷ ds) new = (mid : Tower) × IsMade plan i d (seen_of old) (seen_of mid) × BindsInTurn BindsWhole old (links_of plan i) mid × AreMadeOver plan is mid ds new
AreMadeOver plan is old ds new = ⊥

-- a tower of so many ranks of which nobody has used the top one. Of none it is the wires of the plan. Else the top rank
-- is new DIFs, made over such a tower of one rank less; and once they were made the own flows of that rank were bound
-- below them
abbrev pub IsFresh : Plan → ℕ → Tower → Type 0
IsFresh plan zero t = t ≡ Wires (air_of plan)
IsFresh plan (suc r) (Rank' p difs below) = (start : Tower) × (laid : Tower) × IsFresh plan r start × AreMadeOver plan (places_in plan (r + 1) (length plan.difs)) start difs laid × BindsInTurn BindsWhole laid (flows_at plan r) below
IsFresh plan r t = ⊥

-- the tower was built of the plan, and nothing else was ever done to any of it: it was fresh, and then the flows of its
-- top rank were bound
abbrev pub IsBuiltWhole : Plan → Tower → Type 0
IsBuiltWhole plan t = (fresh : Tower) × IsFresh plan (height_of t) fresh × BindsInTurn BindsWhole fresh (flows_at plan (height_of t)) t
