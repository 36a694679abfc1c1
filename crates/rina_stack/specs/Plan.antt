-- What holds of each plan.
use Rattle.std.specs.Prelude.{◌≡◌, ℕ, ◌≢◌, ◌+◌, ◌<◌, ◌≤◌, List, All, length, map, slice_index_or, Ok}
use Rattle.rina_base.specs.Names.{name_at}
use Rattle.rina_cube.specs.Cubes.{IsCube}
use Rattle.rina_plan.specs.declared.dif.DifPlan.{DifPlan}
use Rattle.rina_plan.specs.declared.dif.LinkPlan.{LinkPlan}
use Rattle.rina_plan.specs.declared.dif.WireEnds.{WireEnds}
use Rattle.rina_plan.specs.Difs.{lacks_cubes, is_misplaced, has_unfit_pdu}
use Rattle.rina_plan.specs.Links.{has_unfit_link, is_uncarried}
use Rattle.rina_plan.specs.Kept.{HasLower, HasCubes, HasMembers, HasRoomyPdu, HasFitSdus, IsStanding, IsFitLink, Takes}
use Rattle.rina_plan.specs.Walks.{IsCarriedFlow, IsCarriedLink}
use Rattle.rina_plan.specs.Counts.{links_of, load_of, IsRoomy}
use Rattle.rina_stack.specs.Rules.{labels, spread_of}
use Rattle.rina_stack.specs.Ranges.{IsRangedStorm, IsRangedDif, HasNames}
use Rattle.rina_stack.specs.Unbroken.{AreDistinct, NoDif}
use Rattle.rina_stack.specs.declared.plan.WirePlan.{WirePlan}
use Rattle.rina_stack.specs.declared.plan.Plan.{Plan}

-- a wire among so many nodes: it joins two of them, its numbers and those of its storm are in range, and each frame arrives while it lives, however late the
-- storm makes it
pub record IsSoundWire (nodes : ℕ) (w : WirePlan) : Type 0 where
  pub a : w.a < nodes
  pub b : w.b < nodes
  pub apart : w.a ≢ w.b
  pub least_delay : 1 ≤ w.delay
  pub delay : w.delay ≤ w.life
  pub arrives : w.delay + spread_of w.storm ≤ w.life
  pub life : w.life ≤ 100000
  pub least_largest : 1 ≤ w.largest
  pub largest : w.largest ≤ 65535
  pub storm : IsRangedStorm w.storm

abbrev pub names_of : List WirePlan → List (List ℕ)
names_of wires = map (λ (w : WirePlan). w.name) wires

-- what the rules on DIFs read of a wire
abbrev pub wire_ends : WirePlan → WireEnds
wire_ends w = record { a = w.a; b = w.b; largest = w.largest }

-- What holds of each plan that was read. There are at most 64 nodes, 128 wires and 16 DIFs, and the names of nodes, of wires and of DIFs differ; the
-- names of DIFs and of the applications of flows are names, so that no slash stands in them; no two labels of flows are alike; each wire is sound; and of
-- each DIF:
-- its numbers are in range, and what it refers to is there (difs); of rank above 1, there is one of the rank below (ranks); its cubes have different ids
-- (ids), are in range, and their times fit their kinds (times); its members stand on different nodes and have different addresses that fit (places);
-- its PDUs fit their length field, and have room for a piece and for an acknowledgement (sizes); its SDUs fit a piece, or a window and a queue (sdus);
-- where it is not static it has no links and flows, and no link of a static one is on it (uses); its links are on the rank just below, between two
-- nodes of members that are in the facility below (joints), and on a cube that takes its PDUs (taken); no wire has two links (single); each flow has its cube, and a walk of
-- links joins its two members (flows); where a link is on a DIF, a walk of that DIF's links joins its ends (joined); there are not too many members,
-- cubes or rules, and no member has too many links, or more flows and links on it than CEP-ids (counts).
-- The fields cubes, members, pdus, links and carried say the same as ids, places, sizes, joints and taken, by the tests of those rules.
pub record IsPlan (p : Plan) : Type 0 where
  pub few_nodes : length p.nodes ≤ 64
  pub few_wires : length p.wires ≤ 128
  pub nodes_differ : AreDistinct p.nodes
  pub wires_differ : AreDistinct (names_of p.wires)
  pub wires : All (IsSoundWire (length p.nodes)) p.wires
  pub few_difs : length p.difs ≤ 16
  pub difs_differ : AreDistinct (map (λ (d : DifPlan). d.name) p.difs)
  pub dif_names : All (λ (d : DifPlan). name_at d.name ≡ Ok d.name) p.difs
  pub labels_differ : AreDistinct (labels p.difs)
  pub app_names : All (λ (d : DifPlan). All HasNames d.flows) p.difs
  pub difs : All (IsRangedDif (length p.nodes) (length p.wires) (length p.difs)) p.difs
  pub ranks : All (HasLower p.difs) p.difs
  pub ids : All HasCubes p.difs
  pub cubes : NoDif lacks_cubes p.difs
  pub times : All (λ (d : DifPlan). IsCube d.manage × All IsCube d.cubes) p.difs
  pub places : All HasMembers p.difs
  pub members : NoDif is_misplaced p.difs
  pub sizes : All HasRoomyPdu p.difs
  pub pdus : NoDif has_unfit_pdu p.difs
  pub sdus : All HasFitSdus p.difs
  pub uses : All (IsStanding p.difs) p.difs
  pub joints : All (λ (d : DifPlan). All (IsFitLink (map wire_ends p.wires) p.difs d) d.links) p.difs
  pub links : NoDif (has_unfit_link (map wire_ends p.wires) p.difs) p.difs
  pub taken : All (λ (d : DifPlan). All (λ (l : LinkPlan). Takes (map wire_ends p.wires) p.difs d.pdu l.cube l.on) d.links) p.difs
  pub carried : NoDif (is_uncarried (map wire_ends p.wires) p.difs) p.difs
  pub single : (i : ℕ) → i < length p.wires → load_of (links_of p.difs) i ≤ 1
  pub flows : All (λ (d : DifPlan). All (IsCarriedFlow d) d.flows) p.difs
  pub joined : All (λ (d : DifPlan). All (IsCarriedLink p.difs) d.links) p.difs
  pub counts : (i : ℕ) (e : DifPlan) → i < length p.difs → IsRoomy (links_of p.difs) i (slice_index_or p.difs i e)
