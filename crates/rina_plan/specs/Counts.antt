-- How many there may be: links on a wire, and members, cubes, rules, links and flows of a DIF.
use Rattle.std.specs.Prelude.{ℕ, ◌≤◌, ◌+◌, ◌==◌, ◌&&◌, ◌||◌, Bool, false, nat_lt, List, [], ◌∷◌, length, count_by, flat_map, Option, Some, None, All, position, if◌then◌else◌}
use Rattle.std.specs.List.{list_any, range_with_len}
use Rattle.rina_plan.specs.declared.dif.MemberPlan.{MemberPlan}
use Rattle.rina_plan.specs.declared.dif.Lower.{Lower}
use Rattle.rina_plan.specs.declared.dif.Lower.TheVariants.{Wire, Dif}
use Rattle.rina_plan.specs.declared.dif.LinkPlan.{LinkPlan}
use Rattle.rina_plan.specs.declared.dif.FlowPlan.{FlowPlan}
use Rattle.rina_plan.specs.declared.dif.DifPlan.{DifPlan}
use Rattle.rina_plan.specs.Difs.{greatest_of, is_crowded}

-- the links of all DIFs
abbrev pub links_of : List DifPlan → List LinkPlan
links_of difs = flat_map (λ (d : DifPlan). d.links) difs

abbrev pub is_on_wire : ℕ → Lower → Bool
is_on_wire i (Wire j) = j == i
is_on_wire i (Dif j) = false

abbrev pub one_if : Bool → ℕ
one_if b = if b then 1 else 0

abbrev pub is_on_dif : ℕ → Lower → Bool
is_on_dif i (Wire j) = false
is_on_dif i (Dif j) = j == i

-- how many links of all DIFs are on a wire
abbrev pub load_of : List LinkPlan → ℕ → ℕ
load_of links i = count_by (λ (l : LinkPlan). is_on_wire i l.on) links

-- rule 16: the first of so many wires that has two links
unfoldable pub first_loaded : ℕ → List DifPlan → Option ℕ
first_loaded wires difs = position (λ i. nat_lt 1 (load_of (links_of difs) i)) (range_with_len 0 wires)

-- a node is at an end of the link
abbrev pub has_link_end : ℕ → LinkPlan → Bool
has_link_end node l = (l.a == node) || (l.b == node)

-- a node is at an end of the flow
abbrev pub has_flow_end : ℕ → FlowPlan → Bool
has_flow_end node f = (f.from.node == node) || (f.to.node == node)

-- how many CEP-ids the member of a DIF on a node needs from the start: one for each of its flows, and one for each link of a DIF above that is on it.
-- `at` is the place of the DIF.
abbrev pub cep_ids_needed : List LinkPlan → ℕ → DifPlan → ℕ → ℕ
cep_ids_needed links at d node = count_by (has_flow_end node) d.flows + count_by (λ (l : LinkPlan). is_on_dif at l.on && has_link_end node l) links

-- a member has more than 16 links, or needs more CEP-ids than there are
unfoldable pub is_overloaded : List LinkPlan → ℕ → DifPlan → MemberPlan → Bool
is_overloaded links at d m = nat_lt 16 (count_by (has_link_end m.node) d.links) || nat_lt (greatest_of d.widths.cep) (cep_ids_needed links at d m.node)

-- a DIF has too many members, cubes or rules, or one of its members has too many links or flows
unfoldable pub is_full : List LinkPlan → ℕ → DifPlan → Bool
is_full links at d = is_crowded d || list_any (is_overloaded links at d) d.members

-- the place of the first DIF that is full, where the list begins at a place
unfoldable pub full_from : List LinkPlan → ℕ → List DifPlan → Option ℕ
full_from links at [] = None
full_from links at (d ∷ ds) = if is_full links at d then Some at else full_from links (at + 1) ds

-- rule 19: the first DIF with too many members, cubes, rules, links or flows
abbrev pub first_full : List DifPlan → Option ℕ
first_full difs = full_from (links_of difs) 0 difs

-- the DIF at a place has not too many members, cubes or rules, and each member has not too many links and needs not too many CEP-ids
pub record IsRoomy (all : List LinkPlan) (at : ℕ) (d : DifPlan) : Type 0 where
  pub members : length d.members ≤ 64
  pub cubes : length d.cubes ≤ 8
  pub rules : length d.rules ≤ 256
  pub links : All (λ (m : MemberPlan). count_by (has_link_end m.node) d.links ≤ 16) d.members
  pub ids : All (λ (m : MemberPlan). cep_ids_needed all at d m.node ≤ greatest_of d.widths.cep) d.members
