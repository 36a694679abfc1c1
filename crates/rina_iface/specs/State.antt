-- How a `free` and a cut change the state of an end.
use Rattle.std.specs.Prelude.{ℕ}
use Rattle.rina_iface.specs.declared.ends.End.{End}
use Rattle.rina_iface.specs.declared.state.Fail.TheVariants.{Cut}
use Rattle.rina_iface.specs.declared.state.PortState.{PortState}
use Rattle.rina_iface.specs.declared.state.PortState.TheVariants.{Pending, Allocated, Refused, Failed, Closed}
use Rattle.rina_iface.specs.declared.state.Why.TheVariants.{Withdrawn}

-- the end in this state
abbrev pub with_state : End → PortState → End
with_state e state = record e { state = state }

-- the state of a port that is freed: a flow that was there is closed, and one that was asked for is withdrawn
abbrev pub freed_state : PortState → PortState
freed_state Allocated = Closed
freed_state Pending = Refused Withdrawn
freed_state state = state

-- the end after it was freed
abbrev pub freed : End → End
freed e = with_state e (freed_state e.state)

-- the state of a port whose wire is cut at a tick
abbrev pub cut_state : ℕ → PortState → PortState
cut_state at Allocated = Failed (Cut at)
cut_state at state = state

-- the end after its wire was cut at a tick
abbrev pub cut_off : ℕ → End → End
cut_off at e = with_state e (cut_state at e.state)
