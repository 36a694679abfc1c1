-- What a tower shows when it has been built of a plan.
use Rattle.std.specs.Prelude.{◌≡◌, ℕ, ◌+◌, ◌==◌, Bool, List, [], ◌∷◌, ◌++◌, filter, length}
use Rattle.std.specs.List.{range_with_len}
use Rattle.rina_base.specs.declared.number.Port.{Port}
use Rattle.rina_iface.specs.Seen.{Seen}
use Rattle.rina_plan.specs.declared.dif.Lower.TheVariants.{Dif as IsDif}
use Rattle.rina_plan.specs.Links.{rank_of}
use Rattle.rina_stack.specs.declared.plan.Plan.{Plan}
use Rattle.rina_dif.specs.declared.dif.Dif.{Dif}
use Rattle.rina_dif.specs.Laying.{BindsAll, IsNew}
use Rattle.rina_wire.specs.Air.{seen_of as seen_of_wires}
use Rattle.rina_wire.specs.Plan.{air_of}
use Rattle.rina_tower.specs.declared.tower.Tower.{Tower, Wires, Rank'}
use Rattle.rina_tower.specs.Fits.{flows_at, links_at}
use Rattle.rina_tower.specs.Ranks.{height_of, seen_of, seen_of_difs}

-- the DIF of a place of the stack has this rank
abbrev pub has_rank : Plan → ℕ → ℕ → Bool
has_rank plan r i = rank_of plan.difs (IsDif i) == r

-- the places of the DIFs of a rank among so many of the stack, in stack order
abbrev pub places_in : Plan → ℕ → ℕ → List ℕ
places_in plan r count = filter (has_rank plan r) (range_with_len 0 count)

-- DIFs were made one after the other, each over what the ones before it left below
abbrev pub AreMade : Plan → List ℕ → Seen → List Dif → Seen → Type 0
AreMade plan [] old [] new = new ≡ old
AreMade plan (i ∷ is) old (d ∷ ds) new = (mid : Seen) × IsNew plan i d old mid × AreMade plan is mid ds new
AreMade plan is old ds new = ⊥

-- on a rank that nobody had used the links above it were bound, and then its own flows
pub record IsUsed (plan : Plan) (r : ℕ) (fresh now : Seen) : Type 0 where
  pub ports : List (Port × Port)
  pub bound : BindsAll fresh (links_at plan (r + 1) ++ flows_at plan r) ports now

-- a rank of DIFs over one that showed `ground` before anything was bound there: the DIFs of the plan were made, which
-- then showed `fresh`
pub record IsRankOf (plan : Plan) (r : ℕ) (ground fresh : Seen) : Type 0 where
  pub difs : List Dif
  pub below : Seen
  pub made : AreMade plan (places_in plan r (length plan.difs)) ground difs below
  pub shows : fresh ≡ seen_of_difs 0 difs

-- the top rank of a tower showed `fresh` before anything was bound there, and was bound then; and so each rank below
abbrev pub IsBuiltFrom : Plan → Tower → Seen → Type 0
IsBuiltFrom plan (Wires a) fresh = (fresh ≡ seen_of_wires (air_of plan)) × IsUsed plan 0 fresh (seen_of_wires a)
IsBuiltFrom plan (Rank' p difs below) fresh = (ground : Seen) × IsBuiltFrom plan below ground × IsRankOf plan (height_of below + 1) ground fresh × IsUsed plan (height_of below + 1) fresh (seen_of (Rank' p difs below))

-- the tower was built of the plan
abbrev pub IsBuilt : Plan → Tower → Type 0
IsBuilt plan t = (fresh : Seen) × IsBuiltFrom plan t fresh

-- the top rank of a tower that is being built shows what it showed when it was made
abbrev pub IsTop : Plan → Tower → Type 0
IsTop plan (Wires a) = a ≡ air_of plan
IsTop plan (Rank' p difs below) = (ground : Seen) × IsBuiltFrom plan below ground × ((new : Seen) × AreMade plan (places_in plan (height_of below + 1) (length plan.difs)) ground difs new)
