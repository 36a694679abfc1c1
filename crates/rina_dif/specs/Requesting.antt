-- How a flow is asked for at a DIF: what the member at the node draws and sends for an ask that nothing refuses.
use Rattle.std.specs.Prelude.{◌≡◌, ◌≢◌, ◌⊎◌, ℕ, ◌+◌, ◌*◌, ◌^◌, ◌<◌, ◌++◌, [], ◌∷◌, List, find, length, slice_get, Option, Some, None, option_and_then, Result, Ok, Err}
use Rattle.rina_alloc.specs.declared.message.FlowMessage.{FlowMessage}
use Rattle.rina_alloc.specs.declared.message.FlowWord.TheVariants.{Ask as Create}
use Rattle.rina_agent.specs.Counts.{spent}
use Rattle.rina_base.specs.declared.number.Port.{Port}
use Rattle.rina_conn.specs.declared.form.Peer.{Peer}
use Rattle.rina_cube.specs.declared.Cube.{Cube}
use Rattle.rina_cube.specs.declared.Want.{Want}
use Rattle.rina_cube.specs.Cubes.{fits, picked}
use Rattle.rina_data.specs.declared.settings.Member.{Member}
use Rattle.rina_data.specs.Configs.{config_of, cube_by, greatest, piece_size}
use Rattle.rina_dir.specs.Directory.{found}
use Rattle.rina_flood.specs.Network.{with_invoke}
use Rattle.rina_flows.specs.declared.flows.Flows.{Flows}
use Rattle.rina_flows.specs.Adding.{AddsAsker, AddsFar}
use Rattle.rina_ids.specs.Members.{DrawsAt, CepIds, with_drawn}
use Rattle.rina_iface.specs.declared.ask.Ask.{Ask}
use Rattle.rina_iface.specs.declared.ends.End.{End}
use Rattle.rina_iface.specs.declared.error.AllocateError.{AllocateError}
use Rattle.rina_iface.specs.declared.error.AllocateError.TheVariants.{Memory}
use Rattle.rina_iface.specs.declared.state.PortState.TheVariants.{Pending}
use Rattle.rina_iface.specs.Allocate.{asker_end, next_port, refused_in}
use Rattle.rina_iface.specs.Seen.{Seen}
use Rattle.rina_law.specs.Direction.{Direction}
use Rattle.rina_member.specs.declared.management.Management.{Management}
use Rattle.rina_dif_law.specs.Asking.{IsAskedFor}
use Rattle.rina_dif_law.specs.Dif.{fac_of}
use Rattle.rina_dif_law.specs.Numbered.{asked_at}
use Rattle.rina_dif.specs.declared.asked_flow.AskedFlow.{AskedFlow}
use Rattle.rina_dif.specs.declared.dif.Dif.{Dif}
use Rattle.rina_dif.specs.declared.fixed_flows.NextEnd.{NextEnd}
use Rattle.rina_dif.specs.Allocating.{allocate_refusal, way}
use Rattle.rina_dif.specs.Changing.{changed_at}
use Rattle.rina_dif.specs.Elsewhere.{enrolled_home}
use Rattle.rina_dif.specs.Holding.{Holds}
use Rattle.rina_dif.specs.Posting.{message_of, posts}
use Rattle.rina_dif.specs.Shown.{seen_of}

-- What is asked for

-- the cube of the id that the first cube has that meets a wish
abbrev pub cube_wanted : List Cube → Want → Option Cube
cube_wanted cubes want = option_and_then (λ id. cube_by id cubes) (picked cubes want)

-- the member at a place, at a node, draws these next: its port is the next one of the node, and its CEP-id the least that is free
pub record DrawsNext (d : Dif) (at node : ℕ) (drawn : NextEnd) : Type 0 where
  pub place : drawn.place ≡ at
  pub member : Member
  pub stands : slice_get d.settings.members at ≡ Some member
  pub addr : drawn.addr ≡ member.addr
  pub port : drawn.port ≡ next_port (fac_of (seen_of d)) d.settings.fac node
  pub cep : DrawsAt d.ids d.clock at drawn.cep
  pub fits : drawn.cep < 2 ^ (8 * d.settings.widths.cep)

-- the enrolled member at the node of an ask draws these, the first cube that meets the wish is this one, and the application is known at this
-- address, which is another member's and to which there is a way. An invoke id is left
pub record IsWanted (d : Dif) (ask : Ask) (flow : AskedFlow) : Type 0 where
  pub here : enrolled_home d ask.node ≡ Some flow.near.place
  pub draws : DrawsNext d flow.near.place ask.node flow.near
  pub name : flow.flow ≡ record { src = flow.near.addr; tick = d.clock; count = asked_at ask.node d.flows.journal.ends }
  pub cube : find (fits ask.want) d.settings.cubes ≡ Some flow.cube
  pub management : Management
  pub is_management : slice_get d.managements flow.near.place ≡ Some management
  pub finds : found management.agent.items ask.to ≡ Some flow.far
  pub elsewhere : flow.far ≢ management.agent.address
  pub link : ℕ
  pub leads : way d flow.near.place flow.far ≡ Some link
  pub left : spent 1 management.agent.last_invoke ≡ None

-- its connection, as the asker knows it: the CEP-id of the far end is none yet
abbrev pub peer_of : AskedFlow → Peer
peer_of flow = record { own = flow.near.addr; far = flow.far; scep = flow.near.cep; dcep = 0 }

-- the end of the asker, which waits
abbrev pub end_of_ask : AskedFlow → Ask → End
end_of_ask flow ask = asker_end flow.flow flow.near.port ask flow.cube.id Pending

-- the request to the other member, with an invoke id
abbrev pub request_of : AskedFlow → Ask → ℕ → FlowMessage
request_of flow ask invoke = message_of flow.far flow.near.addr (Create invoke (record { flow = flow.flow; cube = flow.cube.id; scep = flow.near.cep; destination = ask.to; source = ask.app }))

-- What is done

-- one end more stands behind the flows, with a connection of this cube
pub record AddsEnd (d : Dif) (cube : Cube) (peer : Peer) (end : End) (new : Flows) : Type 0 where
  pub ends : new.journal.ends ≡ d.flows.journal.ends ++ end ∷ []
  pub asks : AddsAsker cube (piece_size (config_of d.settings)) (greatest (config_of d.settings)) peer end d.flows new
  pub answers : AddsFar cube (piece_size (config_of d.settings)) (greatest (config_of d.settings)) peer end d.flows new

-- the member at a place drew this CEP-id
pub record HasDrawnOne (held : List CepIds) (now at cep : ℕ) (after : List CepIds) : Type 0 where
  pub draws : DrawsAt held now at cep
  pub after_is : after ≡ with_drawn at draws.ids cep held

-- the member at a place draws an invoke id
abbrev pub with_invoke_at : ℕ → List Management → List Management
with_invoke_at at ms = changed_at at (λ m. record m { agent = with_invoke m.agent }) ms

-- the request for a flow waits at the member for the link on which the way to the other one begins, and the ask for the answer, behind the others
pub record HasRequested (d : Dif) (ask : Ask) (flow : AskedFlow) (d' : Dif) : Type 0 where
  pub management : Management
  pub is_management : slice_get d.managements flow.near.place ≡ Some management
  pub waits : d'.asks.items ≡ d.asks.items ++ record { member = flow.near.place; invoke = management.agent.last_invoke + 1; place = length d.flows.journal.ends } ∷ []
  pub is : d' ≡ record d { managements = posts d flow.near.place (request_of flow ask (management.agent.last_invoke + 1)) d.managements; asks = d'.asks }

-- the request of a flow that nothing refuses waits at the member for the link on which the way to the other one begins, its invoke id is drawn, and
-- the ask waits for the answer, behind the others
pub record Requests (d : Dif) (ask : Ask) (port : Port) (d' : Dif) : Type 0 where
  pub flow : AskedFlow
  pub wanted : IsWanted d ask flow
  pub port_is : port ≡ flow.near.port
  pub managed : d'.managements ≡ with_invoke_at flow.near.place (posts d flow.near.place (request_of flow ask (wanted.management.agent.last_invoke + 1)) d.managements)
  pub waits : d'.asks.items ≡ d.asks.items ++ record { member = flow.near.place; invoke = wanted.management.agent.last_invoke + 1; place = length d.flows.journal.ends } ∷ []

-- without memory a request may wait at the member at the node, though no flow is asked for
abbrev pub MayRequest : Dif → Ask → List Management → Type 0
MayRequest d ask new = (new ≡ d.managements) ⊎ ((at : ℕ) × (message : FlowMessage) × (enrolled_home d ask.node ≡ Some at) × (new ≡ posts d at message d.managements))

-- what `allocate` makes of managements and asks: a refused call changes none
abbrev pub RequestsAs : Result Port AllocateError → Dif → Ask → Dif → Type 0
RequestsAs (Ok port) d ask d' = Requests d ask port d'
RequestsAs (Err Memory) d ask d' = MayRequest d ask d'.managements
RequestsAs (Err e) d ask d' = (d'.managements ≡ d.managements) × (d'.asks ≡ d.asks)

-- the enrolled member at a node knows an application at this address
pub record KnowsAt (d : Dif) (node : ℕ) (app : List ℕ) (address : ℕ) : Type 0 where
  pub place : ℕ
  pub here : enrolled_home d node ≡ Some place
  pub management : Management
  pub is_management : slice_get d.managements place ≡ Some management
  pub finds : found management.agent.items app ≡ Some address

-- the flow is asked for at the address where its member knows the other application, and its port told
pub record AsksAt (d : Dif) (lines : List Direction) (below : Seen) (ask : Ask) (port : Port) (d' : Dif) : Type 0 where
  pub lines' : List Direction
  pub cube : Cube
  pub meets : find (fits ask.want) d.settings.cubes ≡ Some cube
  pub peer : ℕ
  pub known : KnowsAt d ask.node ask.to peer
  pub asked : IsAskedFor (seen_of d) lines (record { node = ask.node; app = ask.app; to = ask.to; cube = cube.id; peer = peer }) (seen_of d') lines'
  pub port_is : port ≡ next_port (fac_of (seen_of d)) d.settings.fac ask.node
  pub holds : Holds d' lines' below

-- what `allocate` does, where it refuses this first. Without memory, as where it is refused, the DIF shows what it showed
abbrev pub AsksAs : Option AllocateError → Dif → List Direction → Seen → Ask → Result Port AllocateError → Dif → Type 0
AsksAs refusal d lines below ask (Ok port) d' = (refusal ≡ None) × AsksAt d lines below ask port d'
AsksAs refusal d lines below ask (Err Memory) d' = (seen_of d' ≡ seen_of d) × Holds d' lines below
AsksAs refusal d lines below ask (Err e) d' = (refusal ≡ Some e) × (seen_of d' ≡ seen_of d) × Holds d' lines below

abbrev pub AsksTo : Dif → List Direction → Seen → Ask → Result Port AllocateError → Dif → Type 0
AsksTo d lines below ask result d' = AsksAs (refused_in (Some (fac_of (seen_of d))) ask (allocate_refusal d ask)) d lines below ask result d'
