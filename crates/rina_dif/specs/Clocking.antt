-- The clock steps of a DIF.
use Rattle.std.specs.Prelude.{OnErr, ◌≡◌, ◌≢◌, ℕ, ◌+◌, ◌*◌, ◌<◌, ◌≤◌, ◌⊎◌, nat_le, Bool, true, false, if◌then◌else◌, List, length, slice_get, Option, Some, None, option_map, Result, Ok, Err}
use Rattle.rina_base.specs.declared.cause.Cause.{Cause}
use Rattle.rina_base.specs.declared.number.Port.{Port}
use Rattle.rina_conn.specs.declared.conn.Conn.{Conn}
use Rattle.rina_cube.specs.declared.Cube.{Cube}
use Rattle.rina_cube.specs.declared.Kind.TheVariants.{Reliable}
use Rattle.rina_iface.specs.declared.ends.End.{End}
use Rattle.rina_iface.specs.declared.state.Fail.{Fail}
use Rattle.rina_iface.specs.declared.state.Fail.TheVariants.{Below, GaveUp as IsGaveUp}
use Rattle.rina_iface.specs.declared.state.PortState.TheVariants.{Allocated, Failed}
use Rattle.rina_iface.specs.Journal.{At}
use Rattle.rina_iface.specs.Seen.{Seen, state_of}
use Rattle.rina_law.specs.declared.entry.Entry.{Entry}
use Rattle.rina_law.specs.Direction.{Direction, start_of}
use Rattle.rina_data.specs.declared.link.Link.{Link}
use Rattle.rina_data.specs.declared.process.IpcProcess.{IpcProcess}
use Rattle.rina_data.specs.declared.step.ClockStep.{ClockStep}
use Rattle.rina_data.specs.declared.step.ClockStep.TheVariants as step
use Rattle.rina_data.specs.declared.step.StepError.{StepError}
use Rattle.rina_data.specs.declared.step.StepError.TheVariants.{CountSpent, Memory, NoIpc}
use Rattle.rina_data.specs.Configs.{config_of, cube_by}
use Rattle.rina_dif_law.specs.Dif.{DifSeen}
use Rattle.rina_data.specs.Process.{Process}
use Rattle.rina_dif_law.specs.Ending.{IsGivenUp}
use Rattle.rina_dif_law.specs.Ids.{Ids}
use Rattle.rina_data.specs.Losing.{NoneLost}
use Rattle.rina_dif_law.specs.Sending.{home}
use Rattle.rina_dif_law.specs.Standing.{IsConn}
use Rattle.rina_dif_law.specs.Timely.{IsAcknowledged, IsForgotten, IsResent}
use Rattle.rina_flows.specs.declared.due.Item.{Item}
use Rattle.rina_flows.specs.declared.due.Item.TheVariants.{Ack, Again, GiveUp, Gone}
use Rattle.rina_flows.specs.declared.flows.Flows.{Flows}
use Rattle.rina_flows.specs.Calls.{Tells}
use Rattle.rina_flows.specs.Tied.{conns_of}
use Rattle.rina_flows.specs.Timely.{IsDue}
use Rattle.rina_dif.specs.FlowEnds.{ManagesStep}
use Rattle.rina_dif.specs.Claiming.{MayHaveClaimed, NoLinkComes, StepsNew}
use Rattle.rina_dif.specs.declared.clock_steps.Next.{Next}
use Rattle.rina_dif.specs.declared.clock_steps.Turn.{Turn}
use Rattle.rina_dif.specs.declared.dif.Dif.{Dif}
use Rattle.rina_dif.specs.Elsewhere.{home_of}
use Rattle.rina_dif.specs.declared.links_due.NextLink.{NextLink}
use Rattle.rina_dif.specs.Holding.{Holds, LinksStand}
use Rattle.rina_dif.specs.LinkDue.{IsLinkTurn, NoLinkDue, NoLinkUpTo}
use Rattle.rina_dif.specs.LinkSteps.{DoesLink}
use Rattle.rina_dif.specs.MessageSteps.{IfIdle, NoMessageAt, SendsMessage}
use Rattle.rina_dif.specs.Shown.{seen_of}
use Rattle.rina_dif.specs.Steps.{AtHome}
use Rattle.rina_dif.specs.Unlinking.{HasFailed, LacksCounts, LosesWith}
use Rattle.rina_dif.specs.WaitingAsks.{IsFirstLate, KeepsStep, NoneLate, TimesOut}

-- What is due at a node

pub record IsHere (end : End) (node : ℕ) : Type 0 where
  pub allocated : end.state ≡ Allocated
  pub node_is : end.port.node ≡ node

-- an allocated end at this node has this place
pub record IsEndAt (d : Dif) (node at : ℕ) : Type 0 where
  pub end : End
  pub is_end : At d.flows.journal.ends at end
  pub allocated : end.state ≡ Allocated
  pub node_is : end.port.node ≡ node

-- the item is due there
pub record IsDueAt (item : Item) (d : Dif) (lines : List Direction) (node at : ℕ) : Type 0 where
  pub here : IsEndAt d node at
  pub due : IsDue item (config_of d.settings) d.clock d.flows lines at

-- at no end of this node
abbrev pub NoneDue : Item → Dif → List Direction → ℕ → Type 0
NoneDue item d lines node = (at : ℕ) → IsDueAt item d lines node at → ⊥

-- of the ends of this node at which it is due, this one has the least CEP-id
pub record IsFirstDue (item : Item) (d : Dif) (lines : List Direction) (node at cep : ℕ) : Type 0 where
  pub due : IsDueAt item d lines node at
  pub ids : Ids
  pub are_ids : slice_get (conns_of d.flows.conns) at ≡ Some ids
  pub cep_is : cep ≡ ids.scep
  pub least : (other : ℕ) (its : Ids) → IsDueAt item d lines node other → slice_get (conns_of d.flows.conns) other ≡ Some its → ids.scep ≤ its.scep

-- none of the items before it is due at this node
abbrev pub NoneBefore : Item → Dif → List Direction → ℕ → Type 0
NoneBefore Gone d lines node = Unit {0}
NoneBefore GiveUp d lines node = NoneDue Gone d lines node
NoneBefore Ack d lines node = NoneDue Gone d lines node × NoneDue GiveUp d lines node
NoneBefore Again d lines node = NoneDue Gone d lines node × NoneDue GiveUp d lines node × NoneDue Ack d lines node

-- the item is the first that is due, at the end of this place
pub record IsTurn (item : Item) (d : Dif) (lines : List Direction) (node at cep : ℕ) : Type 0 where
  pub before : NoneBefore item d lines node
  pub first : IsFirstDue item d lines node at cep

-- the CEP-id at a place is that of its connection
pub record IsIn (conns : List Conn) (at : ℕ) (turn : Turn) : Type 0 where
  pub place_is : turn.place ≡ at
  pub cep_is : Tells (λ k. turn.cep ≡ k.sending.form.peer.scep) at conns

-- of two ends the one of the lesser CEP-id
abbrev pub earlier : Option Turn → Turn → Turn
earlier None other = other
earlier (Some first) other = if nat_le first.cep other.cep then first else other

-- none of the items is due
pub record IsIdle (d : Dif) (lines : List Direction) (node : ℕ) : Type 0 where
  pub gone : NoneDue Gone d lines node
  pub give_up : NoneDue GiveUp d lines node
  pub ack : NoneDue Ack d lines node
  pub again : NoneDue Again d lines node

-- the end that is found
abbrev pub FindsFirst : Item → Dif → List Direction → ℕ → Option Turn → Type 0
FindsFirst item d lines node None = NoneDue item d lines node
FindsFirst item d lines node (Some turn) = IsFirstDue item d lines node turn.place turn.cep

-- the item that is found, and its end
abbrev pub FindsNext : Dif → List Direction → ℕ → Option Next → Type 0
FindsNext d lines node None = IsIdle d lines node
FindsNext d lines node (Some next) = IsTurn next.item d lines node next.turn.place next.turn.cep

-- What is done

pub record StepsGone (d : Dif) (lines : List Direction) (node cep : ℕ) (new : DifSeen) (lines' : List Direction) : Type 0 where
  pub at : ℕ
  pub turn : IsTurn Gone d lines node at cep
  pub forgotten : IsForgotten (seen_of d) lines at new lines'

pub record StepsGaveUp (d : Dif) (lines : List Direction) (node cep number : ℕ) (new : DifSeen) (lines' : List Direction) : Type 0 where
  pub at : ℕ
  pub turn : IsTurn GiveUp d lines node at cep
  pub given_up : IsGivenUp (seen_of d) lines at number new
  pub lines_are : lines' ≡ lines

pub record StepsAck (d : Dif) (lines : List Direction) (node cep : ℕ) (new : DifSeen) (lines' : List Direction) : Type 0 where
  pub at : ℕ
  pub turn : IsTurn Ack d lines node at cep
  pub cause : Option Cause
  pub acknowledged : IsAcknowledged (seen_of d) lines at cause new lines'

pub record StepsAgain (d : Dif) (lines : List Direction) (node cep number : ℕ) (new : DifSeen) (lines' : List Direction) : Type 0 where
  pub at : ℕ
  pub turn : IsTurn Again d lines node at cep
  pub cause : Option Cause
  pub resent : IsResent (seen_of d) lines at cause new lines'
  pub number_is : number ≡ resent.number

-- what the first item that is due at the flows does, or Idle where none is
abbrev pub StepsFlow : Dif → List Direction → ℕ → ClockStep → DifSeen → List Direction → Type 0
StepsFlow d lines node step.Idle new lines' = IsIdle d lines node × (new ≡ seen_of d) × (lines' ≡ lines)
StepsFlow d lines node (step.Gone cep) new lines' = StepsGone d lines node cep new lines'
StepsFlow d lines node (step.GaveUp num) new lines' = StepsGaveUp d lines node num.cep num.seq new lines'
StepsFlow d lines node (step.Ack cep) new lines' = StepsAck d lines node cep new lines'
StepsFlow d lines node (step.Again num) new lines' = StepsAgain d lines node num.cep num.seq new lines'
StepsFlow d lines node other new lines' = ⊥

-- what is done, and the DIF holds after it
pub record HasDone (Does : Dif → List Direction → Type 0) (below : Seen) (d' : Dif) : Type 0 where
  pub lines' : List Direction
  pub does : Does d' lines'
  pub holds : Holds d' lines' below

-- over the rank below as it is then, or memory was not found
abbrev pub DoneHere : (ClockStep → Dif → List Direction → Type 0) → Dif → List Direction → Result ClockStep StepError → Dif → Seen → Type 0
DoneHere Does d lines (Ok done) d' below' = HasDone (Does done) below' d'
DoneHere Does d lines (Err Memory) d' below' = (seen_of d' ≡ seen_of d) × Holds d' lines below'
DoneHere Does d lines (Err other) d' below' = ⊥

abbrev pub StepsFlowHere : Dif → List Direction → Seen → ℕ → Result ClockStep StepError → Dif → Type 0
StepsFlowHere d lines below node result d' = DoneHere (λ done z lines'. StepsFlow d lines node done (seen_of z) lines') d lines result d' below

-- What is done at the links

-- the IPC process at this node has no link that is lost
abbrev pub NoneLostAt : Dif → Seen → ℕ → Type 0
NoneLostAt d below node = (i : ℕ) (p : IpcProcess) → home node (config_of d.settings).members ≡ Some i → slice_get d.processes i ≡ Some p → NoneLost p.links below

-- it loses its link of this number, and the flows of the node may fail with it
pub record StepsLost (d : Dif) (lines : List Direction) (below : Seen) (node number : ℕ) (d' : Dif) : Type 0 where
  pub i : ℕ
  pub at_home : home node (config_of d.settings).members ≡ Some i
  pub loses : LosesWith d lines below i node number d'

-- Links before flows

-- the item has its turn at a link of the IPC process of place i, at this node: none is due before it, at a link or at a flow
pub record IsLinkFirst (item : Item) (d : Dif) (lines links : List Direction) (i node place number : ℕ) : Type 0 where
  pub turn : IsLinkTurn item d links i place number
  pub flows : NoneBefore item d lines node

-- the item that a step tells of
abbrev pub item_of : ClockStep → Option Item
item_of (step.Gone cep) = Some Gone
item_of (step.GaveUp num) = Some GiveUp
item_of (step.Ack cep) = Some Ack
item_of (step.Again num) = Some Again
item_of other = None

-- no link goes before a flow that does this item: at none is an item due up to it. Where the flows do none, nothing is due at a link
abbrev pub NoLinkFirst : Option Item → Dif → List Direction → ℕ → Type 0
NoLinkFirst (Some item) d links i = NoLinkUpTo item d links i
NoLinkFirst None d links i = NoLinkUpTo Again d links i

-- the link that goes before the flows, or that none does
abbrev pub FindsLinkFirst : Dif → List Direction → List Direction → ℕ → ℕ → Option NextLink → Type 0
FindsLinkFirst d lines links i node (Some next) = IsLinkFirst next.item d lines links i node next.turn.place next.turn.number
FindsLinkFirst d lines links i node None = (flow : Option Next) → FindsNext d lines node flow → NoLinkFirst (option_map (λ (n : Next). n.item) flow) d links i

-- Asks that are late

-- at the flows of a node held pieces are of no state that has ended, and no number is given up
abbrev pub NoFlowEnds : Dif → List Direction → ℕ → Type 0
NoFlowEnds d lines node = NoneDue Gone d lines node × NoneDue GiveUp d lines node

-- so at the links of the IPC process of place i
abbrev pub NoLinkEnds : Dif → List Direction → ℕ → Type 0
NoLinkEnds d links i = NoLinkDue Gone d links i × NoLinkDue GiveUp d links i

-- at both
abbrev pub NothingEnds : Dif → List Direction → List Direction → ℕ → ℕ → Type 0
NothingEnds d lines links i node = NoFlowEnds d lines node × NoLinkEnds d links i

-- whether it is otherwise is told
abbrev pub TellsEnding : Type 0 → Bool → Type 0
TellsEnding none true = none → ⊥
TellsEnding none false = none

-- the ask that goes before all else that is due there: the first that is late, where nothing of that kind comes before it
abbrev pub FindsAskFirst : Dif → List Direction → List Direction → ℕ → ℕ → Option ℕ → Type 0
FindsAskFirst d lines links i node (Some which) = IsFirstLate d node which × NothingEnds d lines links i node
FindsAskFirst d lines links i node None = NoneLate d node ⊎ (NothingEnds d lines links i node → ⊥)

-- no ask goes before an item: it is one of those two, or no ask is late. Where no item is told, none is
abbrev pub NoAskFirst : Option Item → Dif → ℕ → Type 0
NoAskFirst (Some Gone) d node = Unit {0}
NoAskFirst (Some GiveUp) d node = Unit {0}
NoAskFirst other d node = NoneLate d node

-- the first ask that is late at a node is given up, since it has waited for its whole time; the step tells the port. Nothing changes below
pub record ServesAsk (d : Dif) (lines : List Direction) (below : Seen) (node : ℕ) (done : ClockStep) (d' : Dif) : Type 0 where
  pub port : Port
  pub told : done ≡ step.Timeout port
  pub i : ℕ
  pub at_home : home node (config_of d.settings).members ≡ Some i
  pub first : (links : LinksStand d below) → NothingEnds d lines links.lines i node
  pub times_out : TimesOut d node port d'
  pub only : d' ≡ record d { flows = d'.flows; ids = d'.ids; asks = d'.asks; failed = d'.failed }

-- What is served

-- a flow is served, or nothing is due, and no link and no ask goes first; nothing changes below
pub record ServesFlow (d : Dif) (lines : List Direction) (below : Seen) (node : ℕ) (done : ClockStep) (d' : Dif) (lines' : List Direction) (below' : Seen) : Type 0 where
  pub does : StepsFlow d lines node done (seen_of d') lines'
  pub same : d'.connections ≡ d.connections
  pub same_below : below' ≡ below
  pub first : (i : ℕ) → home node (config_of d.settings).members ≡ Some i → (links : LinksStand d below) → NoLinkFirst (item_of done) d links.lines i
  pub no_ask : NoAskFirst (item_of done) d node

-- the management connection of the link that goes first does what is due there
pub record IsLinkStep (d : Dif) (lines links : List Direction) (below : Seen) (i node : ℕ) (done : ClockStep) (new : DifSeen) (flows' : Flows) (below' : Seen) : Type 0 where
  pub item : Item
  pub told : item_of done ≡ Some item
  pub no_ask : NoAskFirst (Some item) d node
  pub place : ℕ
  pub number : ℕ
  pub first : IsLinkFirst item d lines links i node place number
  pub does : DoesLink d links below i place done new flows' below'

-- a link is served, whichever directions stand behind the management connections: an IPC process changes, and these connections
pub record ServesLink (d : Dif) (lines : List Direction) (below : Seen) (node : ℕ) (done : ClockStep) (d' : Dif) (below' : Seen) : Type 0 where
  pub i : ℕ
  pub at_home : home node (config_of d.settings).members ≡ Some i
  pub only : d' ≡ record d { processes = d'.processes; connections = record d.connections { flows = d'.connections.flows }; failed = d'.failed }
  pub does : (links : LinksStand d below) → IsLinkStep d lines links.lines below i node done (seen_of d') d'.connections.flows below'

-- the one or the other, or an ask is given up
abbrev pub Serves : Dif → List Direction → Seen → ℕ → ClockStep → Dif → List Direction → Seen → Type 0
Serves d lines below node done d' lines' below' = ServesFlow d lines below node done d' lines' below' ⊎ ((ServesLink d lines below node done d' below' × (lines' ≡ lines)) ⊎ (ServesAsk d lines below node done d' × (lines' ≡ lines) × (below' ≡ below)))

abbrev pub ServesHere : Dif → List Direction → Seen → ℕ → Result ClockStep StepError → Dif → Seen → Type 0
ServesHere d lines below node result d' below' = DoneHere (λ done z lines'. Serves d lines below node done z lines' below') d lines result d' below' × OnErr result (below' ≡ below)

-- What is done last

-- nothing is due at the flows of a node, nor at the links of its IPC process, and no ask is late there
pub record IsStill (d : Dif) (lines : List Direction) (below : Seen) (node : ℕ) : Type 0 where
  pub flows : IsIdle d lines node
  pub links : (i : ℕ) → home node (config_of d.settings).members ≡ Some i → (links : LinksStand d below) → NoLinkUpTo Again d links.lines i
  pub asks : NoneLate d node

-- so a message goes, of which the step tells the link
pub record ServesMessage (d : Dif) (lines : List Direction) (below : Seen) (node : ℕ) (done : ClockStep) (d' : Dif) : Type 0 where
  pub number : ℕ
  pub told : done ≡ step.Message number
  pub still : IsStill d lines below node
  pub sends : SendsMessage d below node number d'

-- a link or a flow is served, or an ask is given up; where nothing of that is due, a message goes, and nothing changes below, or none is due either
abbrev pub ServesAny : Dif → List Direction → Seen → ℕ → ClockStep → Dif → List Direction → Seen → Type 0
ServesAny d lines below node done d' lines' below' = (Serves d lines below node done d' lines' below' × IfIdle done (NoMessageAt d below node)) ⊎ (ServesMessage d lines below node done d' × (lines' ≡ lines) × (below' ≡ below))

abbrev pub ServesAnyHere : Dif → List Direction → Seen → ℕ → Result ClockStep StepError → Dif → Seen → Type 0
ServesAnyHere d lines below node result d' below' = DoneHere (λ done z lines'. ServesAny d lines below node done z lines' below') d lines result d' below' × OnErr result (below' ≡ below)

-- What is done first

-- no link comes, the DIF holds over the rank below as it is then, and a link or a flow is served, an ask is given up, a message goes, or nothing is due
pub record ServesThen (d : Dif) (lines : List Direction) (below : Seen) (node : ℕ) (done : ClockStep) (d' : Dif) (lines' : List Direction) (below' : Seen) : Type 0 where
  pub mid : Seen
  pub none : NoLinkComes d below node mid
  pub holds : Holds d lines mid
  pub serves : ServesAny d lines mid node done d' lines' below'

-- a link that is lost comes first, then a flow that came in, then all else that is due
abbrev pub Steps : Dif → List Direction → Seen → ℕ → ClockStep → Dif → List Direction → Seen → Type 0
Steps d lines below node (step.LinkLost link) d' lines' below' = StepsLost d lines below node link d' × (lines' ≡ lines) × (below' ≡ below)
Steps d lines below node (step.LinkNew link) d' lines' below' = NoneLostAt d below node × StepsNew d below node link d' below' × (lines' ≡ lines)
Steps d lines below node done d' lines' below' = NoneLostAt d below node × ServesThen d lines below node done d' lines' below'

-- behind a link that is lost
abbrev pub ClaimsOrServes : Dif → List Direction → Seen → ℕ → Result ClockStep StepError → Dif → Seen → Type 0
ClaimsOrServes d lines below node (Ok (step.LinkNew link)) d' below' = StepsNew d below node link d' below' × Holds d' lines below'
ClaimsOrServes d lines below node (Ok (step.LinkLost link)) d' below' = ⊥
ClaimsOrServes d lines below node (Ok done) d' below' = HasDone (λ z lines'. ServesThen d lines below node done z lines' below') below' d'
ClaimsOrServes d lines below node (Err Memory) d' below' = (seen_of d' ≡ seen_of d) × Holds d' lines below' × MayHaveClaimed d below node below'
ClaimsOrServes d lines below node (Err other) d' below' = ⊥

-- a link is lost at the IPC process of this node, and the member has no version count left for its link state: nothing is done
pub record StepsSpent (d : Dif) (below : Seen) (node need left : ℕ) : Type 0 where
  pub i : ℕ
  pub at_home : home node (config_of d.settings).members ≡ Some i
  pub lacks : LacksCounts d below i need left

-- what is done at an IPC process. Without memory a flow that came in may be claimed
abbrev pub StepsHere : Dif → List Direction → Seen → ℕ → Result ClockStep StepError → Dif → Seen → Type 0
StepsHere d lines below node (Ok done) d' below' = HasDone (λ z lines'. Steps d lines below node done z lines' below') below' d'
StepsHere d lines below node (Err (CountSpent need left)) d' below' = StepsSpent d below node need left × (seen_of d' ≡ seen_of d) × Holds d' lines below' × (below' ≡ below)
StepsHere d lines below node (Err Memory) d' below' = (seen_of d' ≡ seen_of d) × Holds d' lines below' × MayHaveClaimed d below node below'
StepsHere d lines below node (Err other) d' below' = ⊥

-- at the IPC process of this node
abbrev pub StepsOk : Dif → List Direction → Seen → ℕ → Result ClockStep StepError → Dif → List Direction → Seen → Type 0
StepsOk d lines below node (Ok done) d' lines' below' = Steps d lines below node done d' lines' below'
StepsOk d lines below node (Err e) d' lines' below' = ⊥

-- what `clock_step` does at a node, to its management too
abbrev pub ClockStepsAt : Dif → List Direction → Seen → ℕ → Result ClockStep StepError → Dif → List Direction → Seen → Type 0
ClockStepsAt d lines below node (Err Memory) d' lines' below' = (seen_of d' ≡ seen_of d) × (lines' ≡ lines) × MayHaveClaimed d below node below'
ClockStepsAt d lines below node (Err (CountSpent need left)) d' lines' below' = StepsSpent d below node need left × (seen_of d' ≡ seen_of d) × (lines' ≡ lines) × (below' ≡ below)
ClockStepsAt d lines below node result d' lines' below' = AtHome (home node (config_of d.settings).members) (λ i. StepsOk d lines below node result d' lines' below') ((result ≡ Err NoIpc) × (seen_of d' ≡ seen_of d) × (lines' ≡ lines) × (below' ≡ below))

pub record ClockSteps (d : Dif) (lines : List Direction) (below : Seen) (node : ℕ) (result : Result ClockStep StepError) (d' : Dif) (below' : Seen) : Type 0 where
  pub lines' : List Direction
  pub does : ClockStepsAt d lines below node result d' lines' below'
  pub managed : ManagesStep result (home_of d node) d below node d'.managements
  pub keeps : KeepsStep result d node d'
  pub holds : Holds d' lines' below'

-- Why a flow fails

-- an end fails so: a piece of an SDU that it sent was first sent at this tick, is unacknowledged, and as much time has
-- gone by as an acknowledgement of any of its copies may take to come
pub record IsLate (d : Dif) (lines : List Direction) (at : ℕ) (fail : Fail) : Type 0 where
  pub end : End
  pub ids : Ids
  pub is_conn : IsConn d.flows.journal.ends (conns_of d.flows.conns) at end ids
  pub cube : Cube
  pub is_cube : cube_by ids.qos (config_of d.settings).cubes ≡ Some cube
  pub line : Direction
  pub is_line : slice_get lines at ≡ Some line
  pub number : ℕ
  pub first : ℕ
  pub is : fail ≡ IsGaveUp (record { cep = ids.scep; seq = number }) first d.clock
  pub reliable : cube.kind ≡ Reliable
  pub unacknowledged : line.line.sender.acked ≤ number
  pub made : number < length line.line.sender.run
  pub place : ℕ
  pub sdu : Entry
  pub is_sdu : slice_get end.sent place ≡ Some sdu
  pub num : sdu.num ≡ record { cep = ids.scep; seq = start_of line.line.sender.run number }
  pub tick : sdu.tick ≡ first
  pub late : first + cube.r + cube.a + 2 * cube.mpl ≤ d.clock

-- an end fails so: it was allocated, its IPC process had one live link, and the flow of the port of that link has failed
pub record FailsBelow (d : Dif) (below : Seen) (at : ℕ) (fail : Fail) : Type 0 where
  pub end : End
  pub is_end : At d.flows.journal.ends at end
  pub allocated : end.state ≡ Allocated
  pub i : ℕ
  pub at_home : home end.port.node (config_of d.settings).members ≡ Some i
  pub process : Process
  pub is_process : slice_get (seen_of d).processes i ≡ Some process
  pub place : ℕ
  pub link : Link
  pub stands : slice_get process.links place ≡ Some link
  pub live : link.live ≡ true
  pub last : (other : ℕ) (its : Link) → other ≢ place → slice_get process.links other ≡ Some its → its.live ≡ true → ⊥
  pub is : fail ≡ Below link.port
  pub failed : HasFailed (state_of below link.port)

-- an end that has failed did so before, or fails now, for one of these two causes alone
abbrev pub FailsLate : Dif → List Direction → Seen → Dif → Type 0
FailsLate d lines below d' = (at : ℕ) (end end' : End) (fail : Fail) → At d.flows.journal.ends at end → At d'.flows.journal.ends at end' → end'.state ≡ Failed fail → (end.state ≡ Failed fail) ⊎ (IsLate d lines at fail ⊎ FailsBelow d below at fail)
