-- What a PDU that came on a link brings to the management of a member: the SDUs that it makes whole are passed and handled in the
-- same step, and the next hops follow what the member then holds.
use Rattle.std.specs.Prelude.{◌≡◌, ◌⊎◌, ℕ, suc, zero, ◌-◌, ◌^◌, ◌++◌, min, List, [], ◌∷◌, drop, length, slice_get, slice_set, Option, Some, None, IfSome, Result, Ok, Err, option_map}
use Rattle.rina_agent.specs.declared.state.AgentError.{AgentError}
use Rattle.rina_agent.specs.declared.state.AgentError.TheVariants.{CountSpent, Memory}
use Rattle.rina_base.specs.declared.pdu.Pdu.{Pdu}
use Rattle.rina_conn.specs.declared.conn.Conn.{Conn}
use Rattle.rina_dtp.specs.Stands.{IsAhead}
use Rattle.rina_iface.specs.declared.ends.End.{End}
use Rattle.rina_iface.specs.Journal.{At}
use Rattle.rina_iface.specs.Seen.{Seen}
use Rattle.rina_law.specs.Direction.{Direction}
use Rattle.rina_member.specs.declared.management.Management.{Management}
use Rattle.rina_member.specs.Knowing.{AreRoutesOf}
use Rattle.rina_member.specs.Managements.{HandlesSdu}
use Rattle.rina_data.specs.declared.link.Route.{Route}
use Rattle.rina_data.specs.declared.process.IpcProcess.{IpcProcess}
use Rattle.rina_data.specs.Configs.{Config}
use Rattle.rina_dif_law.specs.Ids.{Ids}
use Rattle.rina_flood.specs.Network.{is_in}
use Rattle.rina_flows.specs.declared.flows.Flows.{Flows}
use Rattle.rina_flows.specs.Calls.{AreTied, SameIds}
use Rattle.rina_flows.specs.Rows.{PassedAt}
use Rattle.rina_flows.specs.Tied.{conns_of}
use Rattle.rina_dif.specs.declared.dif.Dif.{Dif}
use Rattle.rina_dif.specs.declared.messages_in.Change.{Change}
use Rattle.rina_dif.specs.declared.messages_in.Handled.{Handled}
use Rattle.rina_dif.specs.Flooding.{texts_of}
use Rattle.rina_dif.specs.Holding.{Holds, LinksStand}
use Rattle.rina_dif.specs.LinkDue.{IsLinkEnd}
use Rattle.rina_dif.specs.Managing.{nodes_with}
use Rattle.rina_dif.specs.Messaging.{manage_config}
use Rattle.rina_dif.specs.Routing.{with_routes}

-- The member

-- the SDUs that came to an end and are not passed
abbrev pub unpassed_sdus : End → List (List ℕ)
unpassed_sdus end = texts_of (drop end.taken end.got)

-- the management after a message that is news, or as it was
abbrev pub or_same : Management → Option Management → Management
or_same m None = m
or_same m (Some after) = after

-- a member handles an SDU that came on a link at a tick: what is no news, and no message of a neighbour, leaves it as it is
pub record HandlesOne (now number : ℕ) (sdu : List ℕ) (m m' : Management) : Type 0 where
  pub after : Option Management
  pub handles : HandlesSdu now number sdu m (Ok after)
  pub is : m' ≡ or_same m after

-- several, one after the other
abbrev pub HandlesInTurn : ℕ → ℕ → List (List ℕ) → Management → Management → Type 0
HandlesInTurn now number [] m m' = m' ≡ m
HandlesInTurn now number (sdu ∷ sdus) m m' = (mid : Management) × HandlesOne now number sdu m mid × HandlesInTurn now number sdus mid m'

-- for one of them the member has too few version counts or invoke ids left, once it handled those before
abbrev pub LacksInTurn : ℕ → ℕ → ℕ → ℕ → List (List ℕ) → Management → Type 0
LacksInTurn now number need left [] m = ⊥
LacksInTurn now number need left (sdu ∷ sdus) m = HandlesSdu now number sdu m (Err (CountSpent need left)) ⊎ ((mid : Management) × HandlesOne now number sdu m mid × LacksInTurn now number need left sdus mid)

-- what handling one of them answers, of a member that was `first` at first: another management, or none where it is that still
abbrev pub AnswersOne : ℕ → ℕ → List ℕ → Management → Management → Result (Option Management) AgentError → Type 0
AnswersOne now number sdu first m (Ok told) = HandlesOne now number sdu m (or_same first told)
AnswersOne now number sdu first m (Err e) = HandlesSdu now number sdu m (Err e)

-- and what handling all of them does; nothing is told where memory ran out
abbrev pub AnswersInTurn : ℕ → ℕ → List (List ℕ) → Management → Management → Result (Option Management) AgentError → Type 0
AnswersInTurn now number sdus first m (Ok told) = HandlesInTurn now number sdus m (or_same first told)
AnswersInTurn now number sdus first m (Err (CountSpent need left)) = LacksInTurn now number need left sdus m
AnswersInTurn now number sdus first m (Err Memory) = Unit {0}

-- Before a piece is taken

-- these are the bytes of the SDUs that a piece would make whole at the end of a place
pub record IsToldAhead (d : Dif) (place : ℕ) (its : Pdu) (bodies : List (List ℕ)) : Type 0 where
  pub unpassed : ℕ
  pub count : (end : End) → At d.connections.flows.journal.ends place end → unpassed ≡ min (length end.got - end.taken) (2 ^ 32 - 1)
  pub ahead : (conn : Conn) → slice_get d.connections.flows.conns place ≡ Some conn → IsAhead d.clock its unpassed conn.rx bodies

-- the member of place i handled the SDUs that came to the end of its link, and then those that a piece would make whole there; it is then
-- managed so, or as it was where nothing is told
abbrev pub HandlesAhead : Dif → ℕ → ℕ → ℕ → Pdu → Option Management → Type 0
HandlesAhead d i place number its told = (m : Management) (end : End) → slice_get d.managements i ≡ Some m → At d.connections.flows.journal.ends place end →
    (bodies : List (List ℕ)) × IsToldAhead d place its bodies × HandlesInTurn d.clock number (unpassed_sdus end ++ bodies) m (or_same m told)

-- for one of them the member has too few version counts or invoke ids left
abbrev pub LacksAhead : Dif → ℕ → ℕ → ℕ → Pdu → ℕ → ℕ → Type 0
LacksAhead d i place number its need left = (m : Management) (end : End) → slice_get d.managements i ≡ Some m → At d.connections.flows.journal.ends place end →
    (bodies : List (List ℕ)) × IsToldAhead d place its bodies × LacksInTurn d.clock number need left (unpassed_sdus end ++ bodies) m

-- what that answers
abbrev pub AnswersAhead : Dif → ℕ → ℕ → ℕ → Pdu → Result (Option Management) AgentError → Type 0
AnswersAhead d i place number its (Ok told) = HandlesAhead d i place number its told
AnswersAhead d i place number its (Err (CountSpent need left)) = LacksAhead d i place number its need left
AnswersAhead d i place number its (Err Memory) = Unit {0}

-- the nodes of the enrolled members once the member of place i is managed so; none are told where it is enrolled exactly as before
abbrev pub TellsNodes : Dif → ℕ → Management → Option (List ℕ) → Type 0
TellsNodes d i after (Some nodes) = nodes ≡ nodes_with d i after
TellsNodes d i after None = (m : Management) → slice_get d.managements i ≡ Some m → is_in after.agent.state ≡ is_in m.agent.state

-- what changes at the member of place i: its next hops are over the items that it then holds, and this is who is enrolled then
pub record IsChange (d : Dif) (i : ℕ) (c : Change) : Type 0 where
  pub routes : AreRoutesOf c.management.agent d.settings.members c.routes
  pub enrolled : TellsNodes d i c.management c.enrolled

-- the management that a change tells
abbrev pub told_of : Option Change → Option Management
told_of change = option_map (λ (c : Change). c.management) change

-- The connection

-- the end at a place passes so many of the SDUs that came to it, the oldest first; `links` are the directions behind the ends
abbrev pub PassesTimes : Config → List Ids → ℕ → ℕ → List End → List Direction → List End → List Direction → Type 0
PassesTimes g ids at zero ends links ends' links' = (ends' ≡ ends) × (links' ≡ links)
PassesTimes g ids at (suc n) ends links ends' links' = (mid : List End) × (between : List Direction) × PassesTimes g ids at n ends links mid between × PassedAt g mid ids between at ends' links'

-- the end at a place of the management connections passes all that came to it
pub record PassesAll (d : Dif) (links : List Direction) (place : ℕ) (flows' : Flows) : Type 0 where
  pub end : End
  pub is_end : At d.connections.flows.journal.ends place end
  pub links' : List Direction
  pub passes : PassesTimes (manage_config d) (conns_of d.connections.flows.conns) place (length end.got - end.taken) d.connections.flows.journal.ends links flows'.journal.ends links'
  pub ends : flows'.journal.ends ≡ slice_set d.connections.flows.journal.ends place (record end { taken = length end.got })
  pub ids : SameIds d.connections.flows flows'
  pub tied : AreTied (manage_config d) d.clock flows' links'

-- Both

-- what changes at a member that handled all that came to the end of its link of this number and is not passed; where nothing is told, it is as
-- it was
pub record IsHandled (d : Dif) (i number : ℕ) (h : Handled) : Type 0 where
  pub here : IsLinkEnd d i h.place number
  pub handles : (m : Management) (end : End) → slice_get d.managements i ≡ Some m → At d.connections.flows.journal.ends h.place end → HandlesInTurn d.clock number (unpassed_sdus end) m (or_same m (told_of h.change))
  pub changes : IfSome h.change (IsChange d i)

-- the end at a place of the management connection of the link of this number, at the IPC process of place i, passes all SDUs that
-- came to it; the member handles them in turn; the next hops of the IPC process are over the items that the member then holds; and the
-- DIF knows who is enrolled then
pub record HandlesAll (d : Dif) (links : List Direction) (i place number : ℕ) (d' : Dif) : Type 0 where
  pub here : IsLinkEnd d i place number
  pub management : Management
  pub is_management : slice_get d.managements i ≡ Some management
  pub after : Management
  pub handles : HandlesInTurn d.clock number (unpassed_sdus here.end) management after
  pub process : IpcProcess
  pub is_process : slice_get d.processes i ≡ Some process
  pub routes : List Route
  pub are_routes : AreRoutesOf after.agent d.settings.members routes
  pub passes : PassesAll d links place d'.connections.flows
  pub only : d' ≡ record d {
    connections = record d.connections { flows = d'.connections.flows };
    managements = slice_set d.managements i after;
    processes = slice_set d.processes i (with_routes process routes);
    enrolled = nodes_with d i after;
  }

-- so it does, whichever directions stand behind the connections, and the DIF holds
abbrev pub HandlesHere : Dif → List Direction → Seen → ℕ → ℕ → ℕ → Dif → Type 0
HandlesHere d lines below i place number d' = ((links : LinksStand d below) → HandlesAll d links.lines i place number d') × Holds d' lines below

-- or there is nothing to handle
abbrev pub HandlesAs : Dif → List Direction → Seen → ℕ → ℕ → Option Handled → Dif → Type 0
HandlesAs d lines below i number (Some h) d' = HandlesHere d lines below i h.place number d'
HandlesAs d lines below i number None d' = d' ≡ d
