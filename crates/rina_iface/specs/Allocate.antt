-- What `allocate` refuses, and what it does.
use Rattle.std.specs.Prelude.{◌≡◌, ℕ, ◌+◌, List, [], ◌∷◌, ◌++◌, length, slice_get, Option, Some, None, Result, Ok, Err, if◌then◌else◌}
use Rattle.rina_base.specs.declared.number.FlowName.{FlowName}
use Rattle.rina_base.specs.declared.number.Port.{Port}
use Rattle.rina_iface.specs.declared.ask.Ask.{Ask}
use Rattle.rina_iface.specs.declared.ends.End.{End}
use Rattle.rina_iface.specs.declared.error.AllocateError.{AllocateError}
use Rattle.rina_iface.specs.declared.error.AllocateError.TheVariants.{Memory, NoMember, NoCube}
use Rattle.rina_iface.specs.declared.state.PortState.{PortState}
use Rattle.rina_iface.specs.declared.state.PortState.TheVariants.{Pending, Allocated}
use Rattle.rina_iface.specs.declared.state.Role.{Role}
use Rattle.rina_iface.specs.declared.state.Role.TheVariants.{Asker, Far}
use Rattle.rina_iface.specs.Ends.{drawn_at}
use Rattle.rina_iface.specs.Seen.{Fac, Offer, Seen, cube_in, is_member, offered, with_fac}

abbrev pub unless_offered : Option Offer → Option AllocateError → Option AllocateError
unless_offered None own = Some NoCube
unless_offered (Some cube) own = own

-- what a facility refuses, where there is one: first what every facility does, and then `own`
abbrev pub refused_in : Option Fac → Ask → Option AllocateError → Option AllocateError
refused_in None ask own = Some NoMember
refused_in (Some f) ask own = if is_member f.members ask.node then unless_offered (offered f.cubes ask.want) own else Some NoMember

-- what must be refused
abbrev pub refused : Seen → Ask → Option AllocateError → Option AllocateError
refused s ask own = refused_in (slice_get s.facs ask.fac) ask own

-- the port that is drawn next at a node: its number is one more than the ports drawn there so far
abbrev pub next_port : Fac → ℕ → ℕ → Port
next_port f fac node = record { fac = fac; node = node; n = drawn_at node f.ends + 1 }

-- an end of a new flow
abbrev pub new_end : FlowName → Role → Port → List ℕ → List ℕ → ℕ → PortState → End
new_end flow role port app peer cube state = record { flow = flow; role = role; port = port; app = app; peer = peer; cube = cube; sent = []; got = []; taken = 0; state = state }

-- the asker's end of a new flow
abbrev pub asker_end : FlowName → Port → Ask → ℕ → PortState → End
asker_end flow port ask cube state = new_end flow Asker port ask.app ask.to cube state

-- the far end of a new flow
abbrev pub far_end : FlowName → Port → Ask → ℕ → End
far_end flow port ask cube = new_end flow Far port ask.to ask.app cube Allocated

-- the asker's end was made; the far end is not there yet, or was made with it and waits to be claimed
abbrev pub Makes : PortState → Fac → FlowName → Port → Ask → ℕ → Fac → Type 0
Makes Pending f flow port ask cube f' = f' ≡ record f { ends = f.ends ++ asker_end flow port ask cube Pending ∷ [] }
Makes Allocated f flow port ask cube f' = (node : ℕ) × (f' ≡ record f { ends = f.ends ++ asker_end flow port ask cube Allocated ∷ far_end flow (next_port f ask.fac node) ask cube ∷ []; waiting = f.waiting ++ (length f.ends + 1) ∷ [] })
Makes state f flow port ask cube f' = ⊥

-- the flow was asked for, of the first cube that meets the wish, which the facility finds by its id too, at a port that was never drawn before
pub record IsAsked (old : Seen) (ask : Ask) (port : Port) (new : Seen) : Type 0 where
  pub facility : Fac
  pub stands : slice_get old.facs ask.fac ≡ Some facility
  pub cube : Offer
  pub offer : offered facility.cubes ask.want ≡ Some cube
  pub by_id : cube_in facility.cubes cube.id ≡ Some cube
  pub fresh : port ≡ next_port facility ask.fac ask.node
  pub flow : FlowName
  pub at : flow.tick ≡ old.now
  pub state : PortState
  pub facility' : Fac
  pub makes : Makes state facility flow port ask cube.id facility'
  pub new_is : new ≡ with_fac old ask.fac facility'

-- what `allocate` does, where `own` is what the facility refuses by what it alone knows
abbrev pub Allocates : Option AllocateError → Seen → Ask → Result Port AllocateError → Seen → Type 0
Allocates own old ask (Ok port) new = (refused old ask own ≡ None) × IsAsked old ask port new
Allocates own old ask (Err Memory) new = new ≡ old
Allocates own old ask (Err e) new = (refused old ask own ≡ Some e) × (new ≡ old)
