-- That the links and flows of a plan can be bound, rank by rank.
use Rattle.std.specs.Prelude.{◌≡◌, ℕ, ◌+◌, ◌-◌, ◌*◌, ◌^◌, ◌≤◌, ◌==◌, List, [], ◌++◌, flat_map, length, map, slice_get, take, Some, if◌then◌else◌}
use Rattle.std.specs.List.{range_with_len}
use Rattle.rina_iface.specs.declared.ask.Fixed.{Fixed}
use Rattle.rina_iface.specs.Seen.{Fac, Seen}
use Rattle.rina_plan.specs.declared.dif.DifPlan.{DifPlan}
use Rattle.rina_plan.specs.declared.dif.LinkPlan.{LinkPlan}
use Rattle.rina_plan.specs.declared.dif.Lower.TheVariants.{Dif}
use Rattle.rina_plan.specs.declared.dif.MemberPlan.{MemberPlan}
use Rattle.rina_plan.specs.Links.{rank_of}
use Rattle.rina_plan.specs.Numbers.{number_in_rank}
use Rattle.rina_dif_law.specs.Dif.{offer_of}
use Rattle.rina_stack.specs.declared.plan.Plan.{Plan}
use Rattle.rina_stack.specs.Plan.{IsPlan}
use Rattle.rina_wire.specs.Air.{seen_of}
use Rattle.rina_wire.specs.Plan.{air_of}
use Rattle.rina_dif.specs.Laying.{CanBindAll, Takes}
use Rattle.rina_tower.specs.Rooms.{OffersStay}
use Rattle.rina_dif.specs.Planned.{flows_of, link_fixed, links_of}

-- the links of the DIFs of a rank, in stack order
abbrev pub links_at : Plan → ℕ → List Fixed
links_at plan r = flat_map (λ i. if rank_of plan.difs (Dif i) == r then links_of plan i else []) (range_with_len 0 (length plan.difs))

-- the flows of the DIFs of a rank, in stack order
abbrev pub flows_at : Plan → ℕ → List Fixed
flows_at plan r = flat_map (λ i. if rank_of plan.difs (Dif i) == r then flows_of plan i else []) (range_with_len 0 (length plan.difs))

-- a DIF that nobody has used yet, as a facility: all members of a static one have a place in it; of any other the first alone has, and it
-- has no fixed flows
abbrev pub fresh_dif : DifPlan → Fac
fresh_dif d = record {
  ends = [];
  waiting = [];
  names = [];
  members = map (λ (m : MemberPlan). m.node) (if d.is_static then d.members else take 1 d.members);
  cubes = map offer_of d.cubes;
  admits = if d.is_static then 2 ^ (8 * d.widths.cep) - 1 else 0;
}

-- a facility of a rank is a DIF of the plan
pub record IsDifAt (plan : Plan) (r n : ℕ) (f : Fac) : Type 0 where
  pub place : ℕ
  pub dif : DifPlan
  pub stands : slice_get plan.difs place ≡ Some dif
  pub rank : dif.rank ≡ r
  pub number : number_in_rank plan.difs place ≡ n
  pub is : f ≡ fresh_dif dif

-- a rank shows the DIFs of the plan, and nobody has used them yet
pub record IsFreshRank (plan : Plan) (r : ℕ) (s : Seen) : Type 0 where
  pub start : s.now ≡ 0
  pub least : 1 ≤ r
  pub each : (i : ℕ) (d : DifPlan) → slice_get plan.difs i ≡ Some d → d.rank ≡ r → slice_get s.facs (number_in_rank plan.difs i) ≡ Some (fresh_dif d)
  pub only : (n : ℕ) (f : Fac) → slice_get s.facs n ≡ Some f → IsDifAt plan r n f

-- the links of the lowest DIFs can be bound on the wires
abbrev pub WiresFit : Type 0
WiresFit = (plan : Plan) → IsPlan plan → CanBindAll (seen_of (air_of plan)) (links_at plan 1)

-- the links above a rank can be bound there, and then its own flows
abbrev pub DifsFit : Type 0
DifsFit = (plan : Plan) (r : ℕ) (s : Seen) → IsPlan plan → IsFreshRank plan r s → CanBindAll s (links_at plan (r + 1) ++ flows_at plan r)

-- each link of a DIF of rank 1 is on a wire that takes its PDUs, whatever was bound there
abbrev pub WiresTake : Type 0
WiresTake = (plan : Plan) (i : ℕ) (d : DifPlan) (s : Seen) → IsPlan plan → slice_get plan.difs i ≡ Some d → d.rank ≡ 1 → OffersStay (seen_of (air_of plan)) s → (k : ℕ) (l : LinkPlan) → slice_get d.links k ≡ Some l → Takes s d.pdu (link_fixed plan d l)

-- and each link of one above is on a DIF that does
abbrev pub DifsTake : Type 0
DifsTake = (plan : Plan) (r i : ℕ) (d : DifPlan) (fresh s : Seen) → IsPlan plan → IsFreshRank plan r fresh → slice_get plan.difs i ≡ Some d → d.rank ≡ r + 1 → OffersStay fresh s → (k : ℕ) (l : LinkPlan) → slice_get d.links k ≡ Some l → Takes s d.pdu (link_fixed plan d l)
