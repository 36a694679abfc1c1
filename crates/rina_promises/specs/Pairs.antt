-- The table of the pairs of members of a DIF: what a flow of each of its cubes between them promises, and its way by the next hops of the tower of the
-- stack.
use Rattle.std.specs.Prelude.{◌≡◌, ℕ, ◌==◌, Bool, true, false, List, [], ◌++◌, slice_get, Some}
use Rattle.rina_cube.specs.declared.Cube.{Cube}
use Rattle.rina_plan.specs.declared.dif.DifPlan.{DifPlan}
use Rattle.rina_plan.specs.Numbers.{number_in_rank}
use Rattle.rina_stack.specs.declared.plan.Plan.{Plan}
use Rattle.rina_data.specs.declared.settings.Member.{Member}
use Rattle.rina_dif.specs.declared.dif.Dif.{Dif}
use Rattle.rina_tower.specs.declared.tower.Tower.{Tower}
use Rattle.rina_tower.specs.Ranks.{seen_of}
use Rattle.rina_way.specs.declared.row.Row.{Row}
use Rattle.rina_way.specs.Ways.{IsRow}
use Rattle.rina_way.specs.Words.{node_name, row_text}
use Rattle.rina_promises.specs.Promises.{AreTexts, IsStanding, IsTowerOf, columns}

-- the line of what a member sends to another one in a flow of a cube: the names of their nodes stand for the ports
pub record IsWayText (nodes : List (List ℕ)) (fac : List ℕ) (below : Tower) (d : Dif) (from to : Member) (cube : Cube) (text : List ℕ) : Type 0 where
  pub row : Row
  pub is_row : IsRow (seen_of below) d.settings d.processes cube.id from.node to.node row
  pub text_is : text ≡ row_text fac (node_name nodes from.node) (node_name nodes to.node) nodes row

-- a line for each cube of the DIF
abbrev pub IsPairText : List (List ℕ) → List ℕ → Tower → Dif → Member → Member → List ℕ → Type 0
IsPairText nodes fac below d from to text = AreTexts (IsWayText nodes fac below d from to) d.settings.cubes text

-- none where the two are one
abbrev pub IsOtherText : Bool → List (List ℕ) → List ℕ → Tower → Dif → Member → Member → List ℕ → Type 0
IsOtherText true nodes fac below d from to text = text ≡ []
IsOtherText false nodes fac below d from to text = IsPairText nodes fac below d from to text

-- the lines of two members, where they are at two nodes
abbrev pub IsToText : List (List ℕ) → List ℕ → Tower → Dif → Member → Member → List ℕ → Type 0
IsToText nodes fac below d from to text = IsOtherText (from.node == to.node) nodes fac below d from to text

-- the lines of a member and each of the others
abbrev pub IsFromText : List (List ℕ) → List ℕ → Tower → Dif → Member → List ℕ → Type 0
IsFromText nodes fac below d from text = AreTexts (IsToText nodes fac below d from) d.settings.members text

-- the names of the columns, and the lines of each member of the i-th DIF of the stack and each of the others, by the DIF as it stands in the tower of
-- the stack
pub record ShowsPairs (plan : Plan) (i : ℕ) (text : List ℕ) : Type 0 where
  pub tower : Tower
  pub is_tower : IsTowerOf plan tower
  pub dif_plan : DifPlan
  pub is_dif : slice_get plan.difs i ≡ Some dif_plan
  pub dif : Dif
  pub below : Tower
  pub stands : IsStanding tower dif_plan.rank (number_in_rank plan.difs i) dif below
  pub texts : List ℕ
  pub are : AreTexts (IsFromText plan.nodes dif_plan.name below dif) dif.settings.members texts
  pub text_is : text ≡ columns ++ texts
