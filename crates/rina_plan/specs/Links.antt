-- The rules on links, which depend on the facilities below.
use Rattle.std.specs.Prelude.{ℕ, ◌+◌, ◌==◌, ◌&&◌, ◌||◌, not, Bool, false, nat_lt, nat_le, List, length, slice_get, Option, Some, None}
use Rattle.std.specs.List.{list_any}
use Rattle.rina_cube.specs.declared.Cube.{Cube}
use Rattle.rina_plan.specs.declared.dif.MemberPlan.{MemberPlan}
use Rattle.rina_plan.specs.declared.dif.Lower.{Lower}
use Rattle.rina_plan.specs.declared.dif.Lower.TheVariants.{Wire, Dif}
use Rattle.rina_plan.specs.declared.dif.LinkPlan.{LinkPlan}
use Rattle.rina_plan.specs.declared.dif.DifPlan.{DifPlan}
use Rattle.rina_plan.specs.declared.dif.WireEnds.{WireEnds}

-- ---- the facility that a link is on

abbrev pub is_dynamic_in : Option DifPlan → Bool
is_dynamic_in (Some d) = not d.is_static
is_dynamic_in None = false

-- the facility is a DIF that is not static
abbrev pub is_dynamic : List DifPlan → Lower → Bool
is_dynamic difs (Wire i) = false
is_dynamic difs (Dif i) = is_dynamic_in (slice_get difs i)

abbrev pub rank_in : Option DifPlan → ℕ
rank_in (Some d) = d.rank
rank_in None = 0

-- a wire has rank 0
abbrev pub rank_of : List DifPlan → Lower → ℕ
rank_of difs (Wire i) = 0
rank_of difs (Dif i) = rank_in (slice_get difs i)

-- a DIF has a member on the node
abbrev pub is_member : ℕ → DifPlan → Bool
is_member node d = list_any (λ (m : MemberPlan). m.node == node) d.members

abbrev pub has_member : ℕ → Option DifPlan → Bool
has_member node (Some d) = is_member node d
has_member node None = false

abbrev pub has_end : ℕ → Option WireEnds → Bool
has_end node (Some w) = (w.a == node) || (w.b == node)
has_end node None = false

-- the node is an end of the wire, or has a member of the DIF
abbrev pub is_there : List WireEnds → List DifPlan → ℕ → Lower → Bool
is_there wires difs node (Wire i) = has_end node (slice_get wires i)
is_there wires difs node (Dif i) = has_member node (slice_get difs i)

abbrev pub wire_carries : ℕ → ℕ → Option WireEnds → Bool
wire_carries pdu cube (Some w) = (cube == 0) && nat_le pdu w.largest
wire_carries pdu cube None = false

abbrev pub dif_carries : ℕ → ℕ → Option DifPlan → Bool
dif_carries pdu cube (Some d) = list_any (λ (c : Cube). (c.id == cube) && nat_le pdu c.largest) d.cubes
dif_carries pdu cube None = false

-- the facility has the cube, which is 0 for a wire, and the cube carries SDUs of so many bytes
abbrev pub carries : List WireEnds → List DifPlan → ℕ → ℕ → Lower → Bool
carries wires difs pdu cube (Wire i) = wire_carries pdu cube (slice_get wires i)
carries wires difs pdu cube (Dif i) = dif_carries pdu cube (slice_get difs i)

-- ---- the rules

-- rule 15: a DIF that is not static has links or flows, or a static one above rank 1 has a link on one that is not static
unfoldable pub is_misused : List DifPlan → DifPlan → Bool
is_misused difs d =
    (not d.is_static && (nat_lt 0 (length d.links) || nat_lt 0 (length d.flows)))
    || (d.is_static && nat_lt 1 d.rank && list_any (λ (l : LinkPlan). is_dynamic difs l.on) d.links)

-- a link is not on the rank just below, its ends are equal, or one of its nodes has no member of the DIF or is not in the facility below (rule 16)
unfoldable pub is_unfit_link : List WireEnds → List DifPlan → DifPlan → LinkPlan → Bool
is_unfit_link wires difs d l =
    not (rank_of difs l.on + 1 == d.rank) || (l.a == l.b) || not (is_member l.a d && is_member l.b d && is_there wires difs l.a l.on && is_there wires difs l.b l.on)

unfoldable pub has_unfit_link : List WireEnds → List DifPlan → DifPlan → Bool
has_unfit_link wires difs d = list_any (is_unfit_link wires difs d) d.links

-- rule 17: a link's cube is not in the facility below, or carries no SDU as large as a PDU
unfoldable pub is_uncarried : List WireEnds → List DifPlan → DifPlan → Bool
is_uncarried wires difs d = list_any (λ (l : LinkPlan). not (carries wires difs d.pdu l.cube l.on)) d.links
