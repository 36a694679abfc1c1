-- `allocate` on wires.
use Rattle.std.specs.Prelude.{◌≡◌, ℕ, ◌+◌, ◌==◌, ◌&&◌, nat_le, Bool, true, false, [], ◌∷◌, ◌++◌, length, find, Option, Some, None, Result, Ok, Err, option_and_then, option_map, if◌then◌else◌}
use Rattle.std.specs.Option.{option_map_or}
use Rattle.rina_base.specs.declared.number.FlowName.{FlowName}
use Rattle.rina_base.specs.declared.number.Port.{Port}
use Rattle.rina_iface.specs.declared.ask.Ask.{Ask}
use Rattle.rina_iface.specs.declared.ends.End.{End}
use Rattle.rina_iface.specs.declared.error.AllocateError.{AllocateError}
use Rattle.rina_iface.specs.declared.error.AllocateError.TheVariants.{Memory, NoSuchApp, SameSystem, NoIds, NoRoute, Busy}
use Rattle.rina_iface.specs.declared.state.PortState.{PortState}
use Rattle.rina_iface.specs.declared.state.PortState.TheVariants.{Allocated}
use Rattle.rina_iface.specs.Allocate.{asker_end, far_end, refused_in}
use Rattle.rina_iface.specs.Seen.{is_registered}
use Rattle.rina_wire.specs.Air.{Air, Line, Goes, fac_of, failed_air, on_wire, wire_at}

-- the node at the other end
abbrev pub other_node : Line → ℕ → ℕ
other_node l node = if node == l.a then l.b else l.a

abbrev pub is_allocated : PortState → Bool
is_allocated Allocated = true
is_allocated _ = false

-- an end at that node of a flow that the wire carries now
abbrev pub is_busy : ℕ → End → Bool
is_busy node e = (e.port.node == node) && is_allocated e.state

-- what a wire refuses beside what every facility does
abbrev pub flow_refusal : Line → Ask → Option AllocateError
flow_refusal l ask =
    if is_registered l.names (other_node l ask.node) ask.to
    then (if nat_le 4294967295 l.flows then Some (NoIds 4294967295) else (if l.cut then Some (NoRoute 0) else option_map (λ (e : End). Busy e.port) (find (is_busy ask.node) l.ends)))
    else (if is_registered l.names ask.node ask.to then Some SameSystem else Some NoSuchApp)

abbrev pub own_allocate_refusal : Air → Ask → Option AllocateError
own_allocate_refusal a ask = option_and_then (λ l. flow_refusal l ask) (wire_at a ask.fac)

-- what must be refused, in the order of every facility
abbrev pub allocate_refusal : Air → Ask → Option AllocateError
allocate_refusal a ask = refused_in (option_map fac_of (wire_at a ask.fac)) ask (own_allocate_refusal a ask)

-- the port of either end of the next flow
abbrev pub port_on : Line → ℕ → ℕ → Port
port_on l fac node = record { fac = fac; node = node; n = l.flows + 1 }

-- the name of the next flow
abbrev pub flow_on : Line → ℕ → ℕ → FlowName
flow_on l now node = record { src = node + 1; tick = now; count = l.flows }

-- the wire with both ends of one more flow; the far end waits to be claimed
abbrev pub with_ends : Line → End → End → Line
with_ends l asker far = record l { ends = l.ends ++ asker ∷ far ∷ []; waiting = l.waiting ++ (length l.ends + 1) ∷ []; flows = l.flows + 1 }

-- the wire with one more flow, both ends of which are allocated
abbrev pub flow_made : ℕ → Ask → Line → Line
flow_made now ask l =
    let flow = flow_on l now ask.node in
    with_ends l (asker_end flow (port_on l ask.fac ask.node) ask 0 Allocated) (far_end flow (port_on l ask.fac (other_node l ask.node)) ask 0)

-- the wires after the flow was asked for
abbrev pub allocated : Air → Ask → Air
allocated a ask = on_wire a ask.fac (flow_made a.now ask)

-- the port that is answered
abbrev pub port_drawn : Air → Ask → Port
port_drawn a ask = record { fac = ask.fac; node = ask.node; n = option_map_or (λ (l : Line). l.flows) (wire_at a ask.fac) 0 + 1 }

-- the flow was made, and the asker's port answered
pub record IsMade (a : Air) (ask : Ask) (port : Port) (a' : Air) : Type 0 where
  pub goes : Goes a (allocate_refusal a ask) None (allocated a ask) a'
  pub answers : port ≡ port_drawn a ask

-- what `allocate` does
abbrev pub AllocatesOn : Air → Ask → Result Port AllocateError → Air → Type 0
AllocatesOn a ask (Ok port) a' = IsMade a ask port a'
AllocatesOn a ask (Err Memory) a' = a' ≡ failed_air a
AllocatesOn a ask (Err e) a' = Goes a (allocate_refusal a ask) (Some e) a a'
