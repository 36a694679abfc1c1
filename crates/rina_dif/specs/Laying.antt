-- How the links of a DIF are laid, and what a new DIF is.
use Rattle.std.specs.Prelude.{◌≡◌, ℕ, ◌+◌, ◌≤◌, ◌==◌, true, false, List, [], ◌∷◌, ◌++◌, filter, length, map, position, slice_get, slice_set, Option, Some, None, IsSome, Result, Ok, All, Contains, ◌<◌, ◌⊎◌}
use Rattle.rina_base.specs.declared.number.Port.{Port}
use Rattle.rina_iface.specs.declared.ask.Fixed.{Fixed}
use Rattle.rina_iface.specs.declared.ends.End.{End}
use Rattle.rina_iface.specs.declared.error.AllocateError.{AllocateError}
use Rattle.rina_iface.specs.Bind.{CanBind, IsBound}
use Rattle.rina_iface.specs.Later.{IsLater}
use Rattle.rina_iface.specs.Seen.{Fac, Offer, Seen, cube_in, end_of}
use Rattle.rina_queue.specs.declared.queue.Queue.{Queue as Waiting}
use Rattle.rina_queue.specs.Queues.{AreIds, added, queue_place as place_there}
use Rattle.rina_plan.specs.declared.dif.DifPlan.{DifPlan}
use Rattle.rina_plan.specs.declared.dif.LinkPlan.{LinkPlan}
use Rattle.rina_stack.specs.declared.plan.Plan.{Plan}
use Rattle.rina_data.specs.declared.link.Link.{Link}
use Rattle.rina_data.specs.declared.process.IpcProcess.{IpcProcess}
use Rattle.rina_data.specs.declared.settings.Member.{Member as Kept}
use Rattle.rina_data.specs.declared.settings.Settings.{Settings}
use Rattle.rina_dif_law.specs.Cloud.{IsMine}
use Rattle.rina_data.specs.Configs.{Config, Member, config_of}
use Rattle.rina_data.specs.Deciding.{process_of}
use Rattle.rina_data.specs.Process.{Process, Queue, queue_place}
use Rattle.rina_dif_law.specs.Standing.{IsInside, IsLinked}
use Rattle.rina_data.specs.Fitting.{IsQos}
use Rattle.rina_dif.specs.declared.dif.Dif.{Dif}
use Rattle.rina_dif.specs.Building.{IsFree, queue_ids}
use Rattle.rina_dif.specs.Planned.{ipc_name, link_fixed, links_of, settings_by, settings_of}
use Rattle.rina_dif.specs.Managing.{AreStarted}
use Rattle.rina_dif.specs.Routing.{HaveFirstRoutes}
use Rattle.rina_member.specs.Start.{first_enrolled}
use Rattle.rina_channel.specs.Channels.{IsFlowBelow}

-- Binding one after the other

-- the first of these flows can be bound, and when it was, whatever ports its ends got, so can the rest
abbrev pub CanBindAll : Seen → List Fixed → Type 0
CanBindAll s [] = Unit {0}
CanBindAll s (f ∷ fs) = CanBind s f × ((p q : Port) (s' : Seen) → IsBound s f p q s' → CanBindAll s' fs)

-- the facility of a flow takes SDUs of so many bytes on its cube
abbrev pub Takes : Seen → ℕ → Fixed → Type 0
Takes s size f = (facility : Fac) (cube : Offer) → slice_get s.facs f.fac ≡ Some facility → cube_in facility.cubes f.cube ≡ Some cube → size ≤ cube.largest

-- these flows were bound in order, and nothing else; the ports of each are those of its two ends
abbrev pub BindsAll : Seen → List Fixed → List (Port × Port) → Seen → Type 0
BindsAll old [] [] new = new ≡ old
BindsAll old (f ∷ fs) (p ∷ ps) new = (s : Seen) × IsBound old f p.0 p.1 s × BindsAll s fs ps new
BindsAll old fs ps new = ⊥

-- the same on the whole of the rank below, where `does` says what making one of them does
abbrev pub BindsInTurn : {F : Type 0} → (F → Fixed → Result (Port × Port) AllocateError → F → Type 0) → F → List Fixed → F → Type 0
BindsInTurn {F} does old [] new = new ≡ old
BindsInTurn {F} does old (f ∷ fs) new = (ports : Port × Port) × (mid : F) × does old f (Ok ports) mid × BindsInTurn does mid fs new

-- a new end has members as its application and its peer, and sent and passed nothing
pub record IsNewEnd (members : List Member) (e : End) : Type 0 where
  pub app : IsMine members e.app
  pub peer : IsMine members e.peer
  pub sent : e.sent ≡ []
  pub taken : e.taken ≡ 0

-- the rank below after links were laid between these members: each end that was there is the same, and each other end
-- is one of a member
pub record IsLaid (members : List Member) (old new : Seen) : Type 0 where
  pub clock : new.now ≡ old.now
  pub later : IsLater old new
  pub stays : (port : Port) (e : End) → end_of old port ≡ Some e → end_of new port ≡ Some e
  pub fresh : (port : Port) (e : End) → end_of new port ≡ Some e → end_of old port ≡ None → IsNewEnd members e

-- what a DIF that is the i-th of the stack asks of the rank below: its links can be bound there one after the other, on
-- cubes that take its PDUs, and no end there has one of its members as application or peer
pub record CanLay (plan : Plan) (i : ℕ) (below : Seen) : Type 0 where
  pub binds : CanBindAll below (links_of plan i)
  pub takes : (s : Settings) → settings_of plan i ≡ Some s → All (Takes below s.pdu) (links_of plan i)
  pub free : (s : Settings) → settings_of plan i ≡ Some s → IsFree (config_of s) below

-- its links were laid, all or the first of them
abbrev pub Lays : Plan → ℕ → Seen → Seen → Type 0
Lays plan i old new = (s : Settings) → settings_of plan i ≡ Some s → IsLaid (config_of s).members old new

-- A new DIF

-- the ports of both ends of each flow, in order
abbrev pub ends_of : List (Port × Port) → List Port
ends_of [] = []
ends_of (p ∷ ps) = p.0 ∷ p.1 ∷ ends_of ps

-- the ports at a node
abbrev pub ports_at : ℕ → List Port → List Port
ports_at node ports = filter (λ (p : Port). p.node == node) ports

-- live links on these ports, numbered from a number on
abbrev pub links_from : ℕ → List Port → List Link
links_from n [] = []
links_from n (p ∷ ps) = record { port = p; number = n; live = true } ∷ links_from (n + 1) ps

-- each link has an empty queue for management and for each cube, and no PDU waits anywhere
pub record HasEmptyQueues (g : Config) (process : Process) : Type 0 where
  pub empty : (place : ℕ) (queue : Queue) → slice_get process.queues place ≡ Some queue → queue.items ≡ []
  pub there : (place qos : ℕ) (link : Link) → slice_get process.links place ≡ Some link → IsQos g qos → IsSome (queue_place qos link.number process.queues)

-- a new IPC process at a node, where these ports were drawn for the links of its DIF
pub record IsNewProcess (g : Config) (node : ℕ) (ports : List Port) (process : Process) : Type 0 where
  pub links : process.links ≡ links_from 0 (ports_at node ports)
  pub queues : HasEmptyQueues g process
  pub ledger : process.ledger ≡ []

-- a queue of an IPC process holds as many PDUs as its DIF says; when a link is added it makes one queue for management, and
-- one for each cube of the DIF
pub record HasQueuesOf (s : Settings) (p : IpcProcess) : Type 0 where
  pub cap : p.queues.cap ≡ s.cap
  pub cubes : AreIds (queue_ids s.cubes) p.queues.cubes

-- the i-th DIF of the stack when it was made: the settings of the plan, its links bound below in stack order, the
-- managements of its members as they start, the next hops over the links of the plan, the nodes of the members that are enrolled from the
-- start, and no flows, asks for them and names
pub record IsNew (plan : Plan) (i : ℕ) (d : Dif) (old new : Seen) : Type 0 where
  pub settings : settings_of plan i ≡ Some d.settings
  pub clock : d.clock ≡ old.now
  pub alive : d.failed ≡ false
  pub ports : List (Port × Port)
  pub bound : BindsAll old (links_of plan i) ports new
  pub processes : (k : ℕ) (member : Kept) (p : IpcProcess) → slice_get d.settings.members k ≡ Some member → slice_get d.processes k ≡ Some p → IsNewProcess (config_of d.settings) member.node (ends_of ports) (process_of p)
  pub queues : (k : ℕ) (p : IpcProcess) → slice_get d.processes k ≡ Some p → HasQueuesOf d.settings p
  pub routed : (dif : DifPlan) → slice_get plan.difs i ≡ Some dif → HaveFirstRoutes d.settings.members dif.links d.processes
  pub managed : (dif : DifPlan) → slice_get plan.difs i ≡ Some dif → AreStarted dif.is_static d.settings.cubes d.settings.members dif.links dif.rules dif.allow (length d.settings.members) d.processes d.managements
  pub enrolled : (dif : DifPlan) → slice_get plan.difs i ≡ Some dif → d.enrolled ≡ map (λ (m : Kept). m.node) (first_enrolled dif.is_static d.settings.members)
  pub ends : d.flows.journal.ends ≡ []
  pub conns : d.flows.conns ≡ []
  pub waiting : d.waiting.items ≡ []
  pub asks : d.asks.items ≡ []
  pub names : d.names ≡ []

-- One link more

-- an IPC process has one link more, on this port, and its queues
pub record AddsLink (port : Port) (p p' : IpcProcess) : Type 0 where
  pub links : p'.links ≡ p.links ++ record { port = port; number = length p.links; live = true } ∷ []
  pub routes : p'.routes ≡ p.routes
  pub queues : p'.queues.queues.items ≡ added p.queues.cap (length p.links) p.queues.cubes p.queues.queues.items
  pub cap : p'.queues.cap ≡ p.queues.cap
  pub cubes : p'.queues.cubes ≡ p.queues.cubes
  pub ledger : p'.ledger ≡ p.ledger

-- and no other does anything
abbrev pub AddsLinkAt : Port → ℕ → List IpcProcess → List IpcProcess → Type 0
AddsLinkAt port at old new = (p : IpcProcess) → slice_get old at ≡ Some p → (p' : IpcProcess) × AddsLink port p p' × (new ≡ slice_set old at p')

-- the member at a node, where there is one
abbrev pub LaysPortAt : Option ℕ → Port → List IpcProcess → List IpcProcess → Type 0
LaysPortAt (Some at) port old new = AddsLinkAt port at old new
LaysPortAt None port old new = new ≡ old

-- the IPC process at the node of a port has one link more, on this port
abbrev pub LaysPort : Settings → Port → List IpcProcess → List IpcProcess → Type 0
LaysPort s port old new = LaysPortAt (position (λ (m : Kept). m.node == port.node) s.members) port old new

-- a link was bound below, if it was
pub record IsBoundSo (f : Fixed) (old new : Seen) : Type 0 where
  pub a : Port
  pub b : Port
  pub bound : IsBound old f a b new

abbrev pub MayBind : Fixed → Seen → Seen → Type 0
MayBind f old new = (new ≡ old) ⊎ IsBoundSo f old new

-- it was bound with these ports, and both its ends are links of their IPC processes
pub record LaysLink (s : Settings) (f : Fixed) (ports : Port × Port) (old new : Seen) (processes processes' : List IpcProcess) : Type 0 where
  pub bound : IsBound old f ports.0 ports.1 new
  pub between : List IpcProcess
  pub a : LaysPort s ports.0 processes between
  pub b : LaysPort s ports.1 between processes'

-- All links

-- these are the settings of a DIF of the plan
pub record AreSettings (plan : Plan) (d : DifPlan) (s : Settings) : Type 0 where
  pub place : ℕ
  pub stands : slice_get plan.difs place ≡ Some d
  pub are : s ≡ settings_by plan place d

-- each new end is one inside the DIF
pub record IsLaidIn (g : Config) (old new : Seen) : Type 0 where
  pub laid : IsLaid g.members old new
  pub inside : (port : Port) (e : End) → end_of new port ≡ Some e → end_of old port ≡ None → IsInside g new port e

-- so far an IPC process at a node has the links of these ports, and nothing waits
pub record IsLinkedUp (s : Settings) (node : ℕ) (ports : List Port) (p : IpcProcess) : Type 0 where
  pub links : p.links ≡ links_from 0 (ports_at node ports)
  pub ledger : p.ledger ≡ []
  pub room : p.queues.cap ≡ s.cap
  pub ids : AreIds (queue_ids s.cubes) p.queues.cubes
  pub empty : (k : ℕ) (q : Waiting) → slice_get p.queues.queues.items k ≡ Some q → q.ring.items ≡ []
  pub known : (k : ℕ) (q : Waiting) → slice_get p.queues.queues.items k ≡ Some q → q.link < length p.links
  pub there : (k qos : ℕ) (link : Link) → slice_get p.links k ≡ Some link → Contains p.queues.cubes qos → IsSome (place_there qos link.number p.queues.queues.items)

-- and so each
pub record AreLinkedUp (s : Settings) (ports : List Port) (processes : List IpcProcess) : Type 0 where
  pub aligned : length processes ≡ length s.members
  pub each : (k : ℕ) (m : Kept) (p : IpcProcess) → slice_get s.members k ≡ Some m → slice_get processes k ≡ Some p → IsLinkedUp s m.node ports p

-- a member stands at the node of a port
abbrev pub IsHome : Settings → Port → Type 0
IsHome s port = IsSome (position (λ (m : Kept). m.node == port.node) s.members)

-- the ports are those of both ends of a flow between two members, at which nothing was sent
pub record IsNewLink (s : Settings) (below : Seen) (ports : Port × Port) : Type 0 where
  pub flow : IsFlowBelow (config_of s) below ports.0 ports.1
  pub unsent : flow.near_end.sent ≡ []
  pub far_unsent : flow.far_end.sent ≡ []
  pub home : IsHome s ports.0
  pub far_home : IsHome s ports.1

-- no two of these ports are equal
abbrev pub AreApart : List Port → Type 0
AreApart ports = (j k : ℕ) (port : Port) → slice_get ports j ≡ Some port → slice_get ports k ≡ Some port → j ≡ k

-- these links of a DIF are laid, with these ports: each is bound below, and its ends are links of their IPC processes, which
-- are there
pub record AreLaid (plan : Plan) (d : DifPlan) (s : Settings) (links : List LinkPlan) (old new : Seen) (ports : List (Port × Port)) (processes : List IpcProcess) : Type 0 where
  pub bound : BindsAll old (map (link_fixed plan d) links) ports new
  pub up : AreLinkedUp s (ends_of ports) processes
  pub named : (k : ℕ) (port : Port) → slice_get (ends_of ports) k ≡ Some port → IsLinked new (ipc_name plan d port.node) port
  pub flows : (k : ℕ) (pair : Port × Port) → slice_get ports k ≡ Some pair → IsNewLink s new pair
  pub apart : AreApart (ends_of ports)
