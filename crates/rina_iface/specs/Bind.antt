-- What `bind` asks for, and what it does.
use Rattle.std.specs.Prelude.{◌≡◌, ◌≢◌, ℕ, ◌<◌, true, List, [], ◌∷◌, ◌++◌, slice_get, Some, Result, Ok, Err, if◌then◌else◌}
use Rattle.rina_base.specs.declared.number.FlowName.{FlowName}
use Rattle.rina_base.specs.declared.number.Port.{Port}
use Rattle.rina_iface.specs.declared.ask.Fixed.{Fixed}
use Rattle.rina_iface.specs.declared.ask.Registered.{Registered}
use Rattle.rina_iface.specs.declared.error.AllocateError.{AllocateError}
use Rattle.rina_iface.specs.declared.error.AllocateError.TheVariants.{Memory}
use Rattle.rina_iface.specs.declared.state.PortState.TheVariants.{Allocated}
use Rattle.rina_iface.specs.declared.state.Role.TheVariants.{Asker, Far}
use Rattle.rina_iface.specs.Allocate.{new_end, next_port}
use Rattle.rina_iface.specs.Ends.{drawn_at}
use Rattle.rina_iface.specs.Register.{with_name}
use Rattle.rina_iface.specs.Seen.{Fac, Offer, Seen, cube_in, is_member, is_registered, with_fac}

-- the condition of `bind`: it is tick 0, the facility has the cube and a place for each of two nodes, and each of them may have a fixed flow more
pub record CanBind (s : Seen) (fixed : Fixed) : Type 0 where
  pub start : s.now ≡ 0
  pub facility : Fac
  pub stands : slice_get s.facs fixed.fac ≡ Some facility
  pub apart : fixed.a ≢ fixed.b
  pub a_in : is_member facility.members fixed.a ≡ true
  pub b_in : is_member facility.members fixed.b ≡ true
  pub cube : Offer
  pub offer : cube_in facility.cubes fixed.cube ≡ Some cube
  pub a_room : drawn_at fixed.a facility.ends < facility.admits
  pub b_room : drawn_at fixed.b facility.ends < facility.admits

-- the names with this one, which may stand there already
abbrev pub with_name_once : List Registered → ℕ → List ℕ → List Registered
with_name_once names node app = if is_registered names node app then names else with_name names node app

-- the facility with both ends of one more flow, allocated and claimed, and the application of the far end registered
abbrev pub bound : Fac → Fixed → FlowName → Fac
bound f fixed flow = record f {
  ends = f.ends ++ new_end flow Asker (next_port f fixed.fac fixed.a) fixed.a_app fixed.b_app fixed.cube Allocated ∷ new_end flow Far (next_port f fixed.fac fixed.b) fixed.b_app fixed.a_app fixed.cube Allocated ∷ [];
  names = with_name_once f.names fixed.b fixed.b_app;
}

-- the flow is there, and the ports of both its ends were answered
pub record IsBound (old : Seen) (fixed : Fixed) (a_port b_port : Port) (new : Seen) : Type 0 where
  pub facility : Fac
  pub stands : slice_get old.facs fixed.fac ≡ Some facility
  pub a_fresh : a_port ≡ next_port facility fixed.fac fixed.a
  pub b_fresh : b_port ≡ next_port facility fixed.fac fixed.b
  pub flow : FlowName
  pub at : flow.tick ≡ old.now
  pub new_is : new ≡ with_fac old fixed.fac (bound facility fixed flow)

-- what `bind` does; under its condition it refuses nothing
abbrev pub Binds : Seen → Fixed → Result (Port × Port) AllocateError → Seen → Type 0
Binds old fixed (Ok ports) new = IsBound old fixed ports.0 ports.1 new
Binds old fixed (Err Memory) new = new ≡ old
Binds old fixed (Err e) new = ⊥
