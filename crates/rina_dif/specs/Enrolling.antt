-- How an IPC process of a DIF asks to enrol at a member: what is refused, and what is done. It asks the rank below for a flow to that member, takes its
-- end of it as a new link, and CONNECT waits there.
use Rattle.std.specs.Prelude.{◌≡◌, ℕ, suc, ◌^◌, ◌<◌, ◌⊎◌, ◌&&◌, not, nat_le, Bool, true, false, List, [], ◌∷◌, ◌++◌, count_by, find, length, slice_get, slice_set, Option, Some, None, option_map, Result, Ok, Err, if◌then◌else◌}
use Rattle.rina_agent.specs.declared.enrolment.End.{End as Machine}
use Rattle.rina_agent.specs.declared.enrolment.End.TheVariants.{Joined, Joins}
use Rattle.rina_agent.specs.declared.enrolment.Enrolment.{Enrolment}
use Rattle.rina_agent.specs.declared.link.Link.{Link as Managed}
use Rattle.rina_agent.specs.declared.state.AgentError.{AgentError}
use Rattle.rina_agent.specs.declared.state.AgentError.TheVariants.{CountSpent, Memory}
use Rattle.rina_agent.specs.Counts.{spent}
use Rattle.rina_agent.specs.Rows.{joining}
use Rattle.rina_base.specs.declared.number.Port.{Port}
use Rattle.rina_base.specs.Names.{app_at}
use Rattle.rina_channel.specs.declared.channel.Attachment.{Attachment}
use Rattle.rina_channel.specs.declared.channel.Channel.{Channel}
use Rattle.rina_cube.specs.declared.Want.{Want}
use Rattle.rina_data.specs.declared.link.Link.{Link}
use Rattle.rina_data.specs.declared.process.IpcProcess.{IpcProcess}
use Rattle.rina_data.specs.declared.settings.Member.{Member}
use Rattle.rina_data.specs.declared.settings.Settings.{Settings}
use Rattle.rina_data.specs.Configs.{config_of, greatest, piece_size}
use Rattle.rina_data.specs.Deciding.{process_of, queue_settings}
use Rattle.rina_flows.specs.Adding.{Adds}
use Rattle.rina_iface.specs.declared.ask.Ask.{Ask}
use Rattle.rina_iface.specs.declared.ends.End.{End}
use Rattle.rina_iface.specs.declared.error.AllocateError.{AllocateError}
use Rattle.rina_iface.specs.declared.error.AllocateError.TheVariants as allocate
use Rattle.rina_iface.specs.declared.state.PortState.TheVariants.{Allocated}
use Rattle.rina_iface.specs.declared.state.Role.TheVariants.{Asker, Far}
use Rattle.rina_iface.specs.Allocate.{Allocates, new_end}
use Rattle.rina_iface.specs.Seen.{Seen}
use Rattle.rina_member.specs.declared.management.Management.{Management}
use Rattle.rina_member.specs.Managements.{with_agent}
use Rattle.rina_member.specs.Start.{node_of}
use Rattle.rina_session.specs.Sessions.{Talk, is_idle}
use Rattle.rina_dif.specs.declared.connections.Connections.{Connections}
use Rattle.rina_dif.specs.declared.dif.Dif.{Dif}
use Rattle.rina_dif.specs.declared.enrol.EnrolError.{EnrolError}
use Rattle.rina_dif.specs.declared.enrol.EnrolError.TheVariants as errors
use Rattle.rina_dif.specs.Elsewhere.{home_of}
use Rattle.rina_dif.specs.LinkTaking.{TakesLink}
use Rattle.rina_dif.specs.Linking.{name_at}
use Rattle.rina_dif.specs.Shown.{seen_of}

-- The numbers of links

-- a live link has this number
pub record HasNumber (links : List Link) (number : ℕ) : Type 0 where
  pub place : ℕ
  pub link : Link
  pub stands : slice_get links place ≡ Some link
  pub live : link.live ≡ true
  pub number_is : link.number ≡ number

-- the least number that no live link has. A link that was lost may have had it
pub record IsLeastNumber (links : List Link) (number : ℕ) : Type 0 where
  pub unused : HasNumber links number → ⊥
  pub least : (n : ℕ) → n < number → HasNumber links n

-- an IPC process has at most so many live links
abbrev pub most_links : ℕ
most_links = 16

-- it has as many
abbrev pub is_full : List Link → Bool
is_full links = nat_le most_links (count_by (λ (l : Link). l.live) links)

-- Whether an enrolment runs

-- one end of an enrolment runs as that of a joiner, from CONNECT on: its link is not lost, it has not handled STOP, and its session is not over, as it is once
-- a CONNECT_R that denies was handled
abbrev pub joins_still : Talk → Machine → Bool
joins_still talk (Joins joiner node) = not (is_idle talk.state) && not joiner.enrolled && not joiner.lost
joins_still talk (Joined member) = false

-- and it is there
abbrev pub still_joining : Option Enrolment → Bool
still_joining None = false
still_joining (Some e) = joins_still e.session e.end

-- on this link
abbrev pub is_joining_on : Managed → Bool
is_joining_on l = still_joining l.enrolment

-- the link on which the member's enrolment runs; none where none runs. At most one does, be the member enrolled already or not
abbrev pub enrolling_on : List Managed → Option ℕ
enrolling_on links = option_map (λ (l : Managed). l.number) (find is_joining_on links)

-- Refusals

-- the first of two
abbrev pub first_of : {E : Type 0} → Option E → Option E → Option E
first_of None other = other
first_of (Some e) other = Some e

-- an enrolment runs at the joiner
abbrev pub running : Management → Option EnrolError
running m = option_map (λ link. errors.Enrolling link) (enrolling_on m.agent.links)

-- the IPC process has no number for a link more
abbrev pub full : IpcProcess → Option EnrolError
full p = if is_full p.links then Some (errors.LinksFull most_links) else None

-- how the agent's refusal is told
abbrev pub enrol_told : AgentError → EnrolError
enrol_told Memory = errors.Memory
enrol_told (CountSpent need left) = errors.CountSpent need left

-- no invoke id is left for CONNECT
abbrev pub spent_out : Management → Option EnrolError
spent_out m = option_map enrol_told (spent 1 m.agent.last_invoke)

-- what a joiner is refused by what its member alone knows, in this order
abbrev pub refused_joiner : IpcProcess → Management → Option EnrolError
refused_joiner p m = first_of (running m) (first_of (full p) (spent_out m))

-- where the joiner is there
abbrev pub refused_among : Option IpcProcess → Option Management → Option EnrolError
refused_among (Some p) (Some m) = refused_joiner p m
refused_among p m = Some errors.NoIpc

-- it needs a member at either node
abbrev pub refused_between : Dif → Option ℕ → Option ℕ → Option EnrolError
refused_between d (Some i) (Some j) = refused_among (slice_get d.processes i) (slice_get d.managements i)
refused_between d i j = Some errors.NoIpc

-- what `enrol` refuses by what the DIF alone knows
abbrev pub enrol_refusal : Dif → ℕ → ℕ → Option EnrolError
enrol_refusal d node peer = refused_between d (home_of d node) (home_of d peer)

-- What is asked of the rank below

-- a flow that is neither ordered nor reliable, in whatever time, and takes whole PDUs
abbrev pub link_want : Dif → Want
link_want d = record { ordered = false; reliable = false; within = 4294967295; size = d.settings.pdu }

-- from the application of the joiner, at its node, to that of the member
abbrev pub link_ask : Dif → ℕ → Member → Member → Ask
link_ask d fac joiner member = record { fac = fac; node = joiner.node; app = joiner.name; to = member.name; want = link_want d }

-- the members at these two nodes, the joiner and the one that it joins at
pub record AreMembersAt (d : Dif) (node peer i j : ℕ) (joiner member : Member) : Type 0 where
  pub at_home : home_of d node ≡ Some i
  pub peer_home : home_of d peer ≡ Some j
  pub is_joiner : slice_get d.settings.members i ≡ Some joiner
  pub is_member : slice_get d.settings.members j ≡ Some member

-- the ask is that of the joiner at a node for a flow of a facility to the member at another
pub record IsLinkAsk (d : Dif) (node fac peer : ℕ) (ask : Ask) : Type 0 where
  pub i : ℕ
  pub j : ℕ
  pub joiner : Member
  pub member : Member
  pub are : AreMembersAt d node peer i j joiner member
  pub ask_is : ask ≡ link_ask d fac joiner member

-- it is asked, and answered so, where `own` is what the facilities below refuse by what they alone know
pub record AsksForLink (own : Ask → Option AllocateError) (d : Dif) (below : Seen) (node fac peer : ℕ) (answer : Result Port AllocateError) (below' : Seen) : Type 0 where
  pub ask : Ask
  pub is_ask : IsLinkAsk d node fac peer ask
  pub asked : Allocates (own ask) below ask answer below'

-- What changes of the IPC process

-- the IPC process at a place gets a link of the least number that no live link of it has
pub record LinksUp (i : ℕ) (link : Attachment) (old new : List IpcProcess) : Type 0 where
  pub process : IpcProcess
  pub is_process : slice_get old i ≡ Some process
  pub least : IsLeastNumber process.links link.number
  pub after : IpcProcess
  pub takes : TakesLink link process after
  pub are : new ≡ slice_set old i after

-- What changes of the management connections

-- the port of an end whose flow below is not claimed yet: ports are numbered from 1
abbrev pub no_port : ℕ → ℕ → Port
no_port fac node = record { fac = fac; node = node; n = 0 }

-- the channel of the joiner, at this place, with its link
abbrev pub near_channel : ℕ → ℕ → Attachment → Channel
near_channel place i link = record { member = i; link = Some link; partner = suc place }

-- that of the member, behind it, which has no link before it claims the flow below
abbrev pub far_channel : ℕ → ℕ → Channel
far_channel place j = record { member = j; link = None; partner = place }

-- both ends of the management connection of a new link are made, between the member at one place and that at another: open, with nothing offered or handled
pub record ConnectsJoiner (s : Settings) (clock i j : ℕ) (joiner member : Member) (link : Attachment) (old new : Connections) : Type 0 where
  pub place : ℕ
  pub place_is : place ≡ length old.channels
  pub room : suc place < 2 ^ 32
  pub asker : End
  pub asker_is : asker ≡ new_end (name_at clock place) Asker link.port joiner.name member.name 0 Allocated
  pub end : End
  pub end_is : end ≡ new_end (name_at clock place) Far (no_port link.port.fac member.node) member.name joiner.name 0 Allocated
  pub manage_is : new.manage ≡ old.manage
  pub channels_are : new.channels ≡ old.channels ++ near_channel place i link ∷ far_channel place j ∷ []
  pub ends_are : new.flows.journal.ends ≡ old.flows.journal.ends ++ asker ∷ end ∷ []
  pub adds : Adds old.manage (piece_size (config_of s)) (greatest (config_of s)) (record { own = place; far = suc place; scep = 0; dcep = 0 }) asker end old.flows new.flows

-- What changes of the management

-- CONNECT to a member waits on a new link of this number
abbrev pub joins_on : Management → ℕ → Member → Management
joins_on m number member = with_agent m (joining m.agent number member.name (node_of member))

-- so it does at the member of place i
pub record JoinsManaged (d : Dif) (i number : ℕ) (member : Member) (new : List Management) : Type 0 where
  pub management : Management
  pub is_management : slice_get d.managements i ≡ Some management
  pub are : new ≡ slice_set d.managements i (joins_on management number member)

-- What is done

-- the IPC process at a node takes the flow at a port, which it asked for, as a new link; both ends of the management connection are made, its own with the
-- link; and CONNECT waits there. Nothing else of the DIF changes
pub record EnrolsHere (d : Dif) (node peer : ℕ) (port : Port) (d' : Dif) : Type 0 where
  pub i : ℕ
  pub j : ℕ
  pub joiner : Member
  pub member : Member
  pub are : AreMembersAt d node peer i j joiner member
  pub number : ℕ
  pub links : LinksUp i (record { number = number; port = port }) d.processes d'.processes
  pub connects : ConnectsJoiner d.settings d.clock i j joiner member (record { number = number; port = port }) d.connections d'.connections
  pub joins : JoinsManaged d i number member d'.managements
  pub only : d' ≡ record d { processes = d'.processes; connections = d'.connections; managements = d'.managements }

-- an allocation failed: the DIF shows what it showed. Both ends of a management connection may be made already, which are then no live link's
pub record ShowsStill (d d' : Dif) : Type 0 where
  pub shown : seen_of d' ≡ seen_of d
  pub managements : d'.managements ≡ d.managements
  pub only : d' ≡ record d { processes = d'.processes; connections = d'.connections; failed = d'.failed }

-- and the flow below may be there already, which is then no link of anyone
abbrev pub MayHaveAsked : (Ask → Option AllocateError) → Dif → Seen → ℕ → ℕ → ℕ → Seen → Type 0
MayHaveAsked own d below node fac peer below' = (below' ≡ below) ⊎ ((port : Port) × AsksForLink own d below node fac peer (Ok port) below')

-- the flow is asked for, and what was answered is done
pub record Enrols (own : Ask → Option AllocateError) (d : Dif) (below : Seen) (node fac peer : ℕ) (d' : Dif) (below' : Seen) : Type 0 where
  pub may : enrol_refusal d node peer ≡ None
  pub port : Port
  pub asks : AsksForLink own d below node fac peer (Ok port) below'
  pub does : EnrolsHere d node peer port d'

-- the rank below refused it, and nothing changed
pub record IsRefusedBelow (own : Ask → Option AllocateError) (d : Dif) (below : Seen) (node fac peer : ℕ) (e : AllocateError) (d' : Dif) (below' : Seen) : Type 0 where
  pub may : enrol_refusal d node peer ≡ None
  pub asks : AsksForLink own d below node fac peer (Err e) below'
  pub same : d' ≡ d
  pub same_below : below' ≡ below

-- what `enrol` does, by what it answers. Want of memory below is told as that of the DIF
abbrev pub EnrolsAs : (Ask → Option AllocateError) → Dif → Seen → ℕ → ℕ → ℕ → Result (Unit {0}) EnrolError → Dif → Seen → Type 0
EnrolsAs own d below node fac peer (Ok done) d' below' = Enrols own d below node fac peer d' below'
EnrolsAs own d below node fac peer (Err errors.Memory) d' below' = ShowsStill d d' × MayHaveAsked own d below node fac peer below'
EnrolsAs own d below node fac peer (Err (errors.Lower allocate.Memory)) d' below' = ⊥
EnrolsAs own d below node fac peer (Err (errors.Lower e)) d' below' = IsRefusedBelow own d below node fac peer e d' below'
EnrolsAs own d below node fac peer (Err e) d' below' = (enrol_refusal d node peer ≡ Some e) × (d' ≡ d) × (below' ≡ below)

-- without memory it is one in which an allocation has failed
abbrev pub marked : Result (Unit {0}) EnrolError → Dif → Dif
marked (Err errors.Memory) d = record d { failed = true }
marked result d = d

-- What is done at the rank below

-- the flow is asked for once, where nothing is refused before; without memory it may have been. Here `same` says that nothing changed there, and `asks` what
-- the ask did there
abbrev pub AllocatesBelow : Type 0 → (Ask → Result Port AllocateError → Type 0) → Dif → ℕ → ℕ → ℕ → Result (Unit {0}) EnrolError → Type 0
AllocatesBelow same asks d node fac peer (Ok done) = (ask : Ask) × (port : Port) × IsLinkAsk d node fac peer ask × asks ask (Ok port)
AllocatesBelow same asks d node fac peer (Err (errors.Lower e)) = (ask : Ask) × IsLinkAsk d node fac peer ask × asks ask (Err e)
AllocatesBelow same asks d node fac peer (Err errors.Memory) = same ⊎ ((ask : Ask) × (answer : Result Port AllocateError) × IsLinkAsk d node fac peer ask × asks ask answer)
AllocatesBelow same asks d node fac peer (Err e) = same

-- what `allocate` does, by what is shown and on the whole, where a rank shows itself by `seen`, refuses what `own` says, and does `does`
abbrev pub AllocatesAsSeen : {F : Type 0} → (F → Seen) → (F → Ask → Option AllocateError) → (F → Ask → Result Port AllocateError → F → Type 0) → F → F → Ask → Result Port AllocateError → Type 0
AllocatesAsSeen seen own does old new ask answer = Allocates (own old ask) (seen old) ask answer (seen new) × does old ask answer new

-- How it is called

-- the IPC process at a place gets a link, and no other does anything
abbrev pub TakesLinkAt : ℕ → Attachment → List IpcProcess → List IpcProcess → Type 0
TakesLinkAt at link old new = (p : IpcProcess) → slice_get old at ≡ Some p → (p' : IpcProcess) × TakesLink link p p' × (new ≡ slice_set old at p')

-- it shows what it showed, and no other does anything
abbrev pub ShowsAt : ℕ → List IpcProcess → List IpcProcess → Type 0
ShowsAt at old new = (p : IpcProcess) → slice_get old at ≡ Some p → (p' : IpcProcess) × (process_of p' ≡ process_of p) × (queue_settings p' ≡ queue_settings p) × (new ≡ slice_set old at p')

-- what the management of a member answers to a call that lets CONNECT to another wait on a new link of a number
abbrev pub AnswersJoin : ℕ → Member → Management → Result Management EnrolError → Type 0
AnswersJoin number member m (Ok after) = (spent 1 m.agent.last_invoke ≡ None) × (after ≡ joins_on m number member)
AnswersJoin number member m (Err errors.Memory) = Unit {0}
AnswersJoin number member m (Err (errors.CountSpent need left)) = spent 1 m.agent.last_invoke ≡ Some (CountSpent need left)
AnswersJoin number member m (Err other) = ⊥

-- a refusal is told with its cause; where there is none, memory alone may be missing
abbrev pub TellsRefusal : {T : Type 0} → Option EnrolError → Result T EnrolError → Type 0
TellsRefusal refused (Ok x) = refused ≡ None
TellsRefusal refused (Err errors.Memory) = refused ≡ None
TellsRefusal refused (Err e) = refused ≡ Some e

-- what the rank below answers to the ask: its refusal is told, and want of memory as that of the DIF
abbrev pub AnswersAsk : (Result Port AllocateError → Type 0) → Result Port EnrolError → Type 0
AnswersAsk asked (Ok port) = asked (Ok port)
AnswersAsk asked (Err errors.Memory) = asked (Err allocate.Memory)
AnswersAsk asked (Err (errors.Lower allocate.Memory)) = ⊥
AnswersAsk asked (Err (errors.Lower e)) = asked (Err e)
AnswersAsk asked (Err other) = ⊥

-- what an enrolment takes of the DIF: the places of the two members, the port and the number of the new link, and the management of the joiner with CONNECT.
-- Nothing refuses it
pub record IsJoining (d : Dif) (i j : ℕ) (link : Attachment) (after : Management) : Type 0 where
  pub process : IpcProcess
  pub is_process : slice_get d.processes i ≡ Some process
  pub least : IsLeastNumber process.links link.number
  pub management : Management
  pub is_management : slice_get d.managements i ≡ Some management
  pub may : refused_joiner process management ≡ None
  pub member : Member
  pub is_member : slice_get d.settings.members j ≡ Some member
  pub name : app_at member.name ≡ Ok member.name
  pub after_is : after ≡ joins_on management link.number member

-- both ends of the management connection of the new link are made
pub record ConnectsMembers (d : Dif) (i j : ℕ) (link : Attachment) (new : Connections) : Type 0 where
  pub joiner : Member
  pub is_joiner : slice_get d.settings.members i ≡ Some joiner
  pub member : Member
  pub is_member : slice_get d.settings.members j ≡ Some member
  pub connects : ConnectsJoiner d.settings d.clock i j joiner member link d.connections new

-- the DIF takes the link
pub record TakesJoined (d : Dif) (i j : ℕ) (link : Attachment) (after : Management) (d' : Dif) : Type 0 where
  pub links : LinksUp i link d.processes d'.processes
  pub connects : ConnectsMembers d i j link d'.connections
  pub managements : d'.managements ≡ slice_set d.managements i after
  pub only : d' ≡ record d { processes = d'.processes; connections = d'.connections; managements = d'.managements }

-- it doesn't, without memory
pub record JoinsNot (d : Dif) (i j : ℕ) (link : Attachment) (d' : Dif) : Type 0 where
  pub connects : (d'.connections ≡ d.connections) ⊎ ConnectsMembers d i j link d'.connections
  pub processes : ShowsAt i d.processes d'.processes
  pub only : d' ≡ record d { processes = d'.processes; connections = d'.connections }

-- it takes the link, or memory was not found
abbrev pub JoinsOr : Dif → ℕ → ℕ → Attachment → Management → Result (Unit {0}) EnrolError → Dif → Type 0
JoinsOr d i j link after (Ok done) d' = TakesJoined d i j link after d'
JoinsOr d i j link after (Err e) d' = (e ≡ errors.Memory) × JoinsNot d i j link d'
