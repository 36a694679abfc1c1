-- `bind` on wires.
use Rattle.std.specs.Prelude.{◌≡◌, ℕ, ◌+◌, false, [], ◌∷◌, ◌++◌, Result, Ok, Err}
use Rattle.std.specs.Option.{option_map_or}
use Rattle.rina_base.specs.declared.number.Port.{Port}
use Rattle.rina_iface.specs.declared.ask.Fixed.{Fixed}
use Rattle.rina_iface.specs.declared.ends.End.{End}
use Rattle.rina_iface.specs.declared.error.AllocateError.{AllocateError}
use Rattle.rina_iface.specs.declared.error.AllocateError.TheVariants.{Memory}
use Rattle.rina_iface.specs.declared.state.PortState.TheVariants.{Allocated}
use Rattle.rina_iface.specs.declared.state.Role.TheVariants.{Asker, Far}
use Rattle.rina_iface.specs.Allocate.{new_end}
use Rattle.rina_iface.specs.Bind.{with_name_once}
use Rattle.rina_wire.specs.Air.{Air, Line, failed_air, on_wire, wire_at}
use Rattle.rina_wire.specs.Allocate.{flow_on, port_on}

-- the ends of the next flow, where it is a fixed one
abbrev pub fixed_asker : ℕ → Fixed → Line → End
fixed_asker now fixed l = new_end (flow_on l now fixed.a) Asker (port_on l fixed.fac fixed.a) fixed.a_app fixed.b_app 0 Allocated

abbrev pub fixed_far : ℕ → Fixed → Line → End
fixed_far now fixed l = new_end (flow_on l now fixed.a) Far (port_on l fixed.fac fixed.b) fixed.b_app fixed.a_app 0 Allocated

-- the wire with both ends of one more flow, which nobody has to claim
abbrev pub with_fixed : Line → End → End → Line
with_fixed l asker far = record l { ends = l.ends ++ asker ∷ far ∷ []; flows = l.flows + 1 }

-- the wire with a fixed flow more, the far application of which is registered
abbrev pub bound_on : ℕ → Fixed → Line → Line
bound_on now fixed l = record (with_fixed l (fixed_asker now fixed l) (fixed_far now fixed l)) { names = with_name_once l.names fixed.b fixed.b_app }

-- the port that is drawn at a node
abbrev pub port_at : Air → ℕ → ℕ → Port
port_at a fac node = record { fac = fac; node = node; n = option_map_or (λ (l : Line). l.flows) (wire_at a fac) 0 + 1 }

-- the flow was made, and the ports of its ends answered
pub record IsBoundOn (a : Air) (fixed : Fixed) (a_port b_port : Port) (a' : Air) : Type 0 where
  pub alive : a.failed ≡ false
  pub a_is : a_port ≡ port_at a fixed.fac fixed.a
  pub b_is : b_port ≡ port_at a fixed.fac fixed.b
  pub air : a' ≡ on_wire a fixed.fac (bound_on a.now fixed)

-- what `bind` does
abbrev pub BindsOn : Air → Fixed → Result (Port × Port) AllocateError → Air → Type 0
BindsOn a fixed (Ok ports) a' = IsBoundOn a fixed ports.0 ports.1 a'
BindsOn a fixed (Err Memory) a' = a' ≡ failed_air a
BindsOn a fixed (Err e) a' = ⊥
