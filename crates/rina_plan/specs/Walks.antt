-- Walks of links, and the flows and links that need one.
use Rattle.std.specs.Prelude.{◌≡◌, ◌≢◌, ℕ, ◌==◌, ◌&&◌, ◌||◌, ◌⊎◌, not, Bool, true, false, List, [], ◌∷◌, slice_get, Option, Some, None, Contains}
use Rattle.std.specs.List.{list_any}
use Rattle.rina_cube.specs.declared.Cube.{Cube}
use Rattle.rina_plan.specs.declared.dif.Lower.{Lower}
use Rattle.rina_plan.specs.declared.dif.Lower.TheVariants.{Wire, Dif}
use Rattle.rina_plan.specs.declared.dif.LinkPlan.{LinkPlan}
use Rattle.rina_plan.specs.declared.dif.FlowPlan.{FlowPlan}
use Rattle.rina_plan.specs.declared.dif.DifPlan.{DifPlan}
use Rattle.rina_plan.specs.Links.{is_member}

-- a link joins two nodes
abbrev pub Joins : LinkPlan → ℕ → ℕ → Type 0
Joins l m n = ((l.a ≡ m) × (l.b ≡ n)) ⊎ ((l.b ≡ m) × (l.a ≡ n))

-- links that meet, and lead from one node to another
abbrev pub IsWalk : List LinkPlan → ℕ → List LinkPlan → ℕ → Type 0
IsWalk links m [] n = m ≡ n
IsWalk links m (l ∷ walk) n = Contains links l × ((k : ℕ) × Joins l m k × IsWalk links k walk n)

-- a walk of links joins two nodes
abbrev pub AreJoined : List LinkPlan → ℕ → ℕ → Type 0
AreJoined links m n = (walk : List LinkPlan) × IsWalk links m walk n

-- Whether a walk of links joins two nodes: with one link more they are joined where they were, and where that link leads from what one of them was joined
-- with to what the other was. `are_joined` has the law that this is so exactly where there is a walk.
unfoldable pub is_joined : List LinkPlan → ℕ → ℕ → Bool
is_joined [] m n = m == n
is_joined (l ∷ ls) m n = is_joined ls m n || (is_joined ls m l.a && is_joined ls l.b n) || (is_joined ls m l.b && is_joined ls l.a n)

-- a DIF has a cube of the id
abbrev pub has_cube : ℕ → DifPlan → Bool
has_cube id d = list_any (λ (c : Cube). c.id == id) d.cubes

-- a flow's cube is missing, its nodes are equal or have no member, or no walk of links joins them
unfoldable pub is_unfit_flow : DifPlan → FlowPlan → Bool
is_unfit_flow d f = not (has_cube f.cube d) || (f.from.node == f.to.node) || not (is_member f.from.node d && is_member f.to.node d) || not (is_joined d.links f.from.node f.to.node)

abbrev pub joins_in : ℕ → ℕ → Option DifPlan → Bool
joins_in m n (Some d) = is_joined d.links m n
joins_in m n None = false

-- the facility joins two nodes: a wire its ends, and a DIF those that a walk of its links joins
abbrev pub joins_on : List DifPlan → ℕ → ℕ → Lower → Bool
joins_on difs m n (Wire i) = true
joins_on difs m n (Dif i) = joins_in m n (slice_get difs i)

-- a link is on a DIF in which no walk of links joins its ends
abbrev pub is_unjoined_link : List DifPlan → LinkPlan → Bool
is_unjoined_link difs l = not (joins_on difs l.a l.b l.on)

-- rule 18: a DIF has an unfit flow, or a link whose ends no walk joins on the DIF below
unfoldable pub is_unjoined : List DifPlan → DifPlan → Bool
is_unjoined difs d = list_any (is_unfit_flow d) d.flows || list_any (is_unjoined_link difs) d.links

-- ---- what holds of flows and links that break no rule

-- a flow has its cube, and a walk of links joins its nodes, which differ and have members
pub record IsCarriedFlow (d : DifPlan) (f : FlowPlan) : Type 0 where
  pub cube : has_cube f.cube d ≡ true
  pub apart : f.from.node ≢ f.to.node
  pub from : is_member f.from.node d ≡ true
  pub to : is_member f.to.node d ≡ true
  pub walk : AreJoined d.links f.from.node f.to.node

-- on a DIF, a walk of its links joins two nodes
abbrev pub AreJoinedOn : List DifPlan → ℕ → ℕ → Lower → Type 0
AreJoinedOn difs m n (Wire i) = Unit {0}
AreJoinedOn difs m n (Dif i) = (d : DifPlan) → slice_get difs i ≡ Some d → AreJoined d.links m n

-- a link's ends are joined by what it is on
abbrev pub IsCarriedLink : List DifPlan → LinkPlan → Type 0
IsCarriedLink difs l = AreJoinedOn difs l.a l.b l.on
