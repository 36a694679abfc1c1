-- Where the ends of a DIF stand in the ledger of its flows.
use Rattle.std.specs.Prelude.{◌≡◌, ℕ, true, List, [], slice_get, None, Some}
use Rattle.rina_iface.specs.declared.ends.End.{End}
use Rattle.rina_iface.specs.declared.state.PortState.{PortState}
use Rattle.rina_iface.specs.declared.state.PortState.TheVariants.{Allocated, Pending}
use Rattle.rina_iface.specs.declared.state.Role.{Role}
use Rattle.rina_iface.specs.declared.state.Role.TheVariants as roles
use Rattle.rina_rest.specs.Flows.{Asker, Endpoint, Far, Flow, Side, end_at}
use Rattle.rina_dif_law.specs.Ids.{Ids}

-- an end is the one at this side of the flow of this number
pub record Place : Type 0 where
  pub flow : ℕ
  pub side : Side

abbrev pub role_of : Side → Role
role_of Asker = roles.Asker
role_of Far = roles.Far

-- the ids of a connection by its end at a side, where this is the far end of the flow
abbrev pub ids_from : Side → Flow → Endpoint → ℕ → Ids
ids_from Asker f far qos = record { own = f.asker.addr; far = far.addr; scep = f.asker.cep; dcep = far.cep; qos = qos }
ids_from Far f far qos = record { own = far.addr; far = f.asker.addr; scep = far.cep; dcep = f.asker.cep; qos = qos }

-- an end that waits, or is allocated, stands. All others have ended
abbrev pub IsUp : PortState → Type 0
IsUp Pending = Unit {0}
IsUp Allocated = Unit {0}
IsUp state = ⊥

-- the end at a side knows the ids of the other one: the far end does since it was made, and the asker since it was told
abbrev pub Knows : Side → Flow → Type 0
Knows Asker f = f.told ≡ true
Knows Far f = Unit {0}

-- the address of the other end, which an end knows from the start
abbrev pub there_of : Side → Flow → ℕ
there_of Asker f = f.peer
there_of Far f = f.asker.addr

-- an end of the journal, with the ids of its connection, is the one at a side of a flow. What is allocated knows the other
-- end, and what waits does not. Where the flow has no far end yet, its name has the tick at which it was asked for, and nothing
-- was sent on it
pub record IsEndOf (flow : Flow) (side : Side) (e : End) (ids : Ids) : Type 0 where
  pub point : Endpoint
  pub is : end_at side flow ≡ Some point
  pub role : e.role ≡ role_of side
  pub own : ids.own ≡ point.addr
  pub far : ids.far ≡ there_of side flow
  pub scep : ids.scep ≡ point.cep
  pub up : IsUp e.state → point.ended ≡ None
  pub still : point.ended ≡ None → IsUp e.state
  pub knows : e.state ≡ Allocated → Knows side flow
  pub waits : e.state ≡ Pending → Knows side flow → ⊥
  pub known : (far : Endpoint) → flow.far ≡ Some far → Knows side flow → ids ≡ ids_from side flow far e.cube
  pub asked : flow.far ≡ None → e.flow.tick ≡ flow.asked
  pub unsent : flow.far ≡ None → e.sent ≡ []

-- it is so at its place in the ledger
pub record IsEntered (flows : List Flow) (at : Place) (e : End) (ids : Ids) : Type 0 where
  pub flow : Flow
  pub stands : slice_get flows at.flow ≡ Some flow
  pub end : IsEndOf flow at.side e ids
