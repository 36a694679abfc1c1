-- Where the ends of the stack's own flows stand in a tower that was just built.
use Rattle.std.specs.Prelude.{◌≡◌, ℕ, ◌+◌, ◌*◌, ◌==◌, List, [], count_by, slice_get, Some}
use Rattle.rina_iface.specs.declared.ask.Fixed.{Fixed}
use Rattle.rina_iface.specs.declared.ends.End.{End}
use Rattle.rina_iface.specs.declared.state.PortState.TheVariants.{Allocated}
use Rattle.rina_iface.specs.Seen.{Fac}
use Rattle.rina_plan.specs.declared.dif.DifPlan.{DifPlan}
use Rattle.rina_plan.specs.declared.dif.EndPlan.{EndPlan}
use Rattle.rina_plan.specs.declared.dif.FlowPlan.{FlowPlan}
use Rattle.rina_plan.specs.Numbers.{number_in_rank}
use Rattle.rina_stack.specs.declared.plan.Plan.{Plan}
use Rattle.rina_tower.specs.declared.tower.Tower.{Tower}
use Rattle.rina_tower.specs.Bystanders.{IsIpc}
use Rattle.rina_tower.specs.Fits.{links_at}
use Rattle.rina_tower.specs.Ranks.{rank_of, seen_of}

-- how many links the DIFs above have on the i-th DIF of the stack, which is this one
abbrev pub links_on : Plan → ℕ → DifPlan → ℕ
links_on plan i d = count_by (λ (f : Fixed). f.fac == number_in_rank plan.difs i) (links_at plan (d.rank + 1))

-- an end of a flow of the stack on facility n, as it was bound: allocated, and nothing was sent or got; its application is no IPC process
pub record IsOpened (n : ℕ) (side other : EndPlan) (e : End) : Type 0 where
  pub fac : e.port.fac ≡ n
  pub node : e.port.node ≡ side.node
  pub app : e.app ≡ side.app
  pub peer : e.peer ≡ other.app
  pub plain : IsIpc e.app → ⊥
  pub state : e.state ≡ Allocated
  pub sent : e.sent ≡ []
  pub got : e.got ≡ []
  pub taken : e.taken ≡ 0

-- the two ends of a flow of the stack stand at a place of a journal and behind it
pub record HasFlow (n : ℕ) (f : FlowPlan) (ends : List End) (place : ℕ) : Type 0 where
  pub from : End
  pub from_at : slice_get ends place ≡ Some from
  pub from_is : IsOpened n f.from f.to from
  pub to : End
  pub to_at : slice_get ends (place + 1) ≡ Some to
  pub to_is : IsOpened n f.to f.from to

-- those of the k-th flow of the i-th DIF of the stack stand in the tower, behind the links on that DIF and the flows before it
pub record IsOpenAt (plan : Plan) (t : Tower) (i k : ℕ) (d : DifPlan) (f : FlowPlan) : Type 0 where
  pub tower : Tower
  pub is_rank : rank_of t d.rank ≡ Some tower
  pub facility : Fac
  pub stands : slice_get (seen_of tower).facs (number_in_rank plan.difs i) ≡ Some facility
  pub flow : HasFlow (number_in_rank plan.difs i) f facility.ends (2 * (links_on plan i d + k))
