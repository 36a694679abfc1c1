-- What holds while the DIFs of a rank are made over the rank below.
use Rattle.std.specs.Prelude.{◌≡◌, ℕ, ◌+◌, ◌-◌, ◌<◌, ◌++◌, List, flat_map, length, slice_get, Some, [], if◌then◌else◌}
use Rattle.std.specs.List.{range_with_len}
use Rattle.rina_base.specs.declared.number.Port.{Port}
use Rattle.rina_iface.specs.declared.ask.Fixed.{Fixed}
use Rattle.rina_iface.specs.declared.ends.End.{End}
use Rattle.rina_iface.specs.Seen.{Fac, Seen, end_of}
use Rattle.rina_plan.specs.declared.dif.DifPlan.{DifPlan}
use Rattle.rina_plan.specs.declared.dif.LinkPlan.{LinkPlan}
use Rattle.rina_stack.specs.declared.plan.Plan.{Plan}
use Rattle.rina_dif.specs.declared.dif.Dif.{Dif}
use Rattle.rina_dif.specs.Laying.{CanBindAll, Takes}
use Rattle.rina_dif.specs.Planned.{ipc_name, link_fixed, links_of}
use Rattle.rina_tower.specs.Built.{AreMade, has_rank, places_in}
use Rattle.rina_tower.specs.Fits.{flows_at, links_at}
use Rattle.rina_tower.specs.Rooms.{OffersStay}
use Rattle.rina_tower.specs.Stands.{AreStanding}

-- a rank that nobody has used: the links above it can be bound there, and then its own flows; and each of these links
-- is on a cube that takes the PDUs of its DIF
pub record IsGround (plan : Plan) (k : ℕ) (s : Seen) : Type 0 where
  pub empty : (n : ℕ) (f : Fac) → slice_get s.facs n ≡ Some f → f.ends ≡ []
  pub can : CanBindAll s (links_at plan (k + 1) ++ flows_at plan k)
  pub take : (i : ℕ) (d : DifPlan) (s' : Seen) → slice_get plan.difs i ≡ Some d → d.rank ≡ k + 1 → OffersStay s s' → (j : ℕ) (l : LinkPlan) → slice_get d.links j ≡ Some l → Takes s' d.pdu (link_fixed plan d l)

-- the links of the DIFs of a rank from a place of the stack on
abbrev pub links_from : Plan → ℕ → ℕ → List Fixed
links_from plan r at = flat_map (λ i. if has_rank plan r i then links_of plan i else []) (range_with_len at (length plan.difs - at))

-- the name is that of an IPC process of a DIF before a place of the stack
pub record IsBefore (plan : Plan) (at : ℕ) (name : List ℕ) : Type 0 where
  pub place : ℕ
  pub before : place < at
  pub dif : DifPlan
  pub is_dif : slice_get plan.difs place ≡ Some dif
  pub node : ℕ
  pub is : name ≡ ipc_name plan dif node

-- the DIFs of the rank above rank k were made as far as a place of the stack, over a rank that had shown `ground`
pub record IsLaying (plan : Plan) (k at : ℕ) (ground : Seen) (difs : List Dif) (s : Seen) : Type 0 where
  pub made : AreMade plan (places_in plan (k + 1) at) ground difs s
  pub can : CanBindAll s (links_from plan (k + 1) at ++ flows_at plan k)
  pub offers : OffersStay ground s
  pub inside : (port : Port) (e : End) → end_of s port ≡ Some e → IsBefore plan at e.app × IsBefore plan at e.peer
  pub standing : AreStanding difs s
