-- When a flow has no state, and what its object shows then.
use Rattle.std.specs.Prelude.{◌≡◌, ℕ, ◌+◌, ◌*◌, ◌≤◌, ◌⊎◌, ◌↔◌, true, false, List, [], slice_get, None, Some}
use Rattle.rina_conn.specs.declared.conn.Conn.{Conn}
use Rattle.rina_cube.specs.Cubes.{delta_of}
use Rattle.rina_flows.specs.Tied.{IsInboundAt}
use Rattle.rina_iface.specs.declared.ends.End.{End}
use Rattle.rina_iface.specs.declared.state.PortState.TheVariants.{Allocated}
use Rattle.rina_iface.specs.Seen.{Seen}
use Rattle.rina_law.specs.Direction.{Direction}
use Rattle.rina_law.specs.Sender.{is_idle}
use Rattle.rina_dif.specs.declared.dif.Dif.{Dif}
use Rattle.rina_dif.specs.declared.flow_state.FlowState.{FlowState}
use Rattle.rina_dif.specs.Holding.{Holds}
use Rattle.rina_dif.specs.Objects.{IsFlow}

-- an end of a flow of a DIF that stands, with its connection, as its object tells it now
pub record IsToldEnd (d : Dif) (lines : List Direction) (below : Seen) (at : ℕ) (end : End) (conn : Conn) (flow : FlowState) : Type 0 where
  pub holds : Holds d lines below
  pub is_end : slice_get d.flows.journal.ends at ≡ Some end
  pub is_conn : slice_get d.flows.conns at ≡ Some conn
  pub told : IsFlow d.clock end conn flow

-- there is no next number exactly where nothing was sent, or nothing is unacknowledged and `3 * delta` have gone by since a
-- piece was last made
abbrev pub SendersEndByClock : Type 0
SendersEndByClock = (d : Dif) (lines : List Direction) (below : Seen) (at : ℕ) (end : End) (conn : Conn) (flow : FlowState) (line : Direction) → IsToldEnd d lines below at end conn flow → slice_get lines at ≡ Some line →
    flow.tx ≡ None ↔ (line.line.sender.run ≡ []) ⊎ ((is_idle conn.sending.form.cube.kind line.line.sender ≡ true) × (line.line.sender.last_out + 3 * delta_of conn.sending.form.cube ≤ d.clock))

-- and at an allocated end no number behind the accepted ones exactly where no piece made state, or `2 * delta` have gone by since
-- the last piece that counted
abbrev pub ReceiversEndByClock : Type 0
ReceiversEndByClock = (d : Dif) (lines : List Direction) (below : Seen) (at from : ℕ) (end : End) (conn : Conn) (flow : FlowState) (line : Direction) → IsToldEnd d lines below at end conn flow → end.state ≡ Allocated → IsInboundAt d.flows.journal.ends lines end from line →
    flow.rx ≡ None ↔ (line.line.receiver.made ≡ false) ⊎ (line.line.receiver.last_in + 2 * delta_of conn.sending.form.cube ≤ d.clock)
