-- What the messages about flows do that come to a DIF: the member at which one comes passes it on, or handles it.
use Rattle.std.specs.Prelude.{◌≡◌, ◌≢◌, ◌⊎◌, ℕ, List, [], ◌∷◌, ◌++◌, slice_get, Option, Some, None, Result, Ok, Err, is_err, true}
use Rattle.rina_alloc.specs.declared.message.FlowMessage.{FlowMessage}
use Rattle.rina_alloc.specs.declared.message.FlowWord.{FlowWord}
use Rattle.rina_alloc.specs.declared.message.FlowWord.TheVariants as words
use Rattle.rina_alloc.specs.Messages.{IsInRange, IsProper, IsSpelled}
use Rattle.rina_base.specs.declared.memory.Memory.{Memory as NoMemory}
use Rattle.rina_base.specs.declared.pdu.Pdu.{Pdu}
use Rattle.rina_iface.specs.declared.ends.End.{End}
use Rattle.rina_iface.specs.declared.state.PortState.{PortState}
use Rattle.rina_iface.specs.declared.state.PortState.TheVariants.{Closed}
use Rattle.rina_iface.specs.Journal.{At}
use Rattle.rina_iface.specs.Seen.{Seen}
use Rattle.rina_law.specs.Direction.{Direction}
use Rattle.rina_data.specs.declared.settings.Member.{Member}
use Rattle.rina_dif_law.specs.Answering.{IsAnsweredTo, IsFarMade, IsTurnedDown}
use Rattle.rina_dif_law.specs.Dif.{DifSeen}
use Rattle.rina_dif_law.specs.Ending.{IsEnded}
use Rattle.rina_dif_law.specs.Sending.{home}
use Rattle.rina_dif.specs.declared.dif.Dif.{Dif}
use Rattle.rina_dif.specs.AnswersIn.{TakesAnswer}
use Rattle.rina_dif.specs.DeletesIn.{TakesDelete}
use Rattle.rina_dif.specs.FarMaking.{HandlesAsk}
use Rattle.rina_dif.specs.Handling.{IsToldAhead, unpassed_sdus}
use Rattle.rina_dif.specs.Holding.{Holds}
use Rattle.rina_dif.specs.Posting.{posts}
use Rattle.rina_dif.specs.Shown.{seen_of}

-- Which messages

-- these bytes are those of a message about a flow, whose numbers and names are those of their types. Bytes are those of one such message at most
pub record IsTextOf (m : FlowMessage) (bytes : List ℕ) : Type 0 where
  pub in_range : IsInRange m
  pub proper : IsProper m.word
  pub spelled : IsSpelled m bytes

-- this is the message about a flow that bytes are, or they are none
abbrev pub IsReadAs : List ℕ → Option FlowMessage → Type 0
IsReadAs bytes (Some m) = IsTextOf m bytes
IsReadAs bytes None = (m : FlowMessage) → IsTextOf m bytes → ⊥

-- what was read stands before others
abbrev pub read_before : Option FlowMessage → List FlowMessage → List FlowMessage
read_before None ms = ms
read_before (Some m) ms = m ∷ ms

-- these are the messages about flows among SDUs, in their order
abbrev pub AreFlowMessages : List (List ℕ) → List FlowMessage → Type 0
AreFlowMessages [] ms = ms ≡ []
AreFlowMessages (sdu ∷ sdus) ms = (read : Option FlowMessage) × (rest : List FlowMessage) × IsReadAs sdu read × AreFlowMessages sdus rest × (ms ≡ read_before read rest)

-- they were put behind others
abbrev pub AddsFlowMessages : List (List ℕ) → List FlowMessage → List FlowMessage → Type 0
AddsFlowMessages sdus old new = (more : List FlowMessage) × AreFlowMessages sdus more × (new ≡ old ++ more)

-- these are among the SDUs that came to the end at a place and are not passed, and behind them among those that a piece would make whole there
abbrev pub BringsMessages : Dif → ℕ → Pdu → List FlowMessage → Type 0
BringsMessages d place its ms = (end : End) → At d.connections.flows.journal.ends place end → (bodies : List (List ℕ)) × IsToldAhead d place its bodies × AreFlowMessages (unpassed_sdus end ++ bodies) ms

-- What a message makes of the flows at the member of place i

-- the member makes the far end of a flow that was asked for
pub record MakesFarHere (d : DifSeen) (lines : List Direction) (i : ℕ) (d' : DifSeen) (lines' : List Direction) : Type 0 where
  pub node : ℕ
  pub asker_at : ℕ
  pub makes : IsFarMade d lines node asker_at d' lines'
  pub here : makes.place ≡ i

-- an end of the member that waits learns that its far end was made
pub record BindsHere (d : DifSeen) (lines : List Direction) (i : ℕ) (d' : DifSeen) (lines' : List Direction) : Type 0 where
  pub place : ℕ
  pub answered : IsAnsweredTo d place d'
  pub here : home answered.asker.port.node d.config.members ≡ Some i
  pub same : lines' ≡ lines

-- or that it was refused
pub record RefusesHere (d : DifSeen) (lines : List Direction) (i : ℕ) (d' : DifSeen) (lines' : List Direction) : Type 0 where
  pub place : ℕ
  pub state : PortState
  pub turned : IsTurnedDown d place state d'
  pub here : home turned.end.port.node d.config.members ≡ Some i
  pub same : lines' ≡ lines

-- an end of the member learns that the other end gave the flow up
pub record ClosesHere (d : DifSeen) (lines : List Direction) (i : ℕ) (d' : DifSeen) (lines' : List Direction) : Type 0 where
  pub place : ℕ
  pub ended : IsEnded d lines place Closed d'
  pub here : ended.i ≡ i
  pub same : lines' ≡ lines

-- one of these, or nothing
abbrev pub MayChangeFlow : DifSeen → List Direction → ℕ → DifSeen → List Direction → Type 0
MayChangeFlow d lines i d' lines' = ((d' ≡ d) × (lines' ≡ lines)) ⊎ (MakesFarHere d lines i d' lines' ⊎ (BindsHere d lines i d' lines' ⊎ (RefusesHere d lines i d' lines' ⊎ ClosesHere d lines i d' lines')))

-- the parts of a DIF that a message about a flow may change
abbrev pub ChangesFlowParts : Dif → Dif → Type 0
ChangesFlowParts d d' = d' ≡ record d { processes = d'.processes; managements = d'.managements; flows = d'.flows; ids = d'.ids; waiting = d'.waiting; asks = d'.asks }

-- Handling

-- a message for another member waits for its next hop, or is dropped where there is none; nothing else changes then, and without memory nothing does
abbrev pub PassesOn : Dif → ℕ → FlowMessage → Result (Unit {0}) NoMemory → Dif → Type 0
PassesOn d i message (Ok done) d' = (member : Member) → slice_get d.settings.members i ≡ Some member → message.to ≢ member.addr → d' ≡ record d { managements = posts d i message d.managements }
PassesOn d i message (Err e) d' = (member : Member) → slice_get d.settings.members i ≡ Some member → message.to ≢ member.addr → d' ≡ d

-- the member of place i handles one that is for it, from the member of an address, by its word
abbrev pub HandlesWord : Dif → List Direction → Seen → ℕ → ℕ → FlowWord → Result (Unit {0}) NoMemory → Dif → Type 0
HandlesWord d lines below i from (words.Ask invoke ask) result d' = HandlesAsk d lines below i from invoke ask result d'
HandlesWord d lines below i from (words.Answer invoke answer) result d' = TakesAnswer d lines below i from invoke answer result d'
HandlesWord d lines below i from (words.Delete dcep scep) result d' = TakesDelete d lines below i from dcep scep result d'

-- what waits for an answer goes on to wait; an answer alone, as it is handled, may end the waiting of the ask that it is for
abbrev pub AsksWaitOn : FlowWord → Dif → Dif → Type 0
AsksWaitOn (words.Answer invoke answer) d d' = Unit {0}
AsksWaitOn word d d' = d'.asks ≡ d.asks

-- what the member of place i does with one that came there
pub record HandlesFlow (d : Dif) (lines : List Direction) (below : Seen) (i : ℕ) (message : FlowMessage) (result : Result (Unit {0}) NoMemory) (d' : Dif) (lines' : List Direction) : Type 0 where
  pub flow : MayChangeFlow (seen_of d) lines i (seen_of d') lines'
  pub rest : ChangesFlowParts d d'
  pub on : PassesOn d i message result d'
  pub own : (member : Member) → slice_get d.settings.members i ≡ Some member → message.to ≡ member.addr → HandlesWord d lines below i message.from message.word result d'
  pub asks : AsksWaitOn message.word d d'

-- with several, one after the other; the DIF holds after each. Without memory it stops at one of them
abbrev pub HandlesFlows : Dif → List Direction → Seen → ℕ → List FlowMessage → Result (Unit {0}) NoMemory → Dif → List Direction → Type 0
HandlesFlows d lines below i [] result d' lines' = (result ≡ Ok tt) × (d' ≡ d) × (lines' ≡ lines)
HandlesFlows d lines below i (message ∷ ms) result d' lines' =
    ((is_err result ≡ true) × HandlesFlow d lines below i message result d' lines')
    ⊎ ((mid : Dif) × (between : List Direction) × HandlesFlow d lines below i message (Ok tt) mid between × Holds mid between below × HandlesFlows mid between below i ms result d' lines')

-- and so from a DIF that holds to one that holds

pub record TakesFlow (d : Dif) (lines : List Direction) (below : Seen) (i : ℕ) (message : FlowMessage) (result : Result (Unit {0}) NoMemory) (d' : Dif) : Type 0 where
  pub lines' : List Direction
  pub handles : HandlesFlow d lines below i message result d' lines'
  pub holds : Holds d' lines' below

pub record TakesFlows (d : Dif) (lines : List Direction) (below : Seen) (i : ℕ) (ms : List FlowMessage) (result : Result (Unit {0}) NoMemory) (d' : Dif) : Type 0 where
  pub lines' : List Direction
  pub handles : HandlesFlows d lines below i ms result d' lines'
  pub holds : Holds d' lines' below

-- one that is for the member itself
pub record TakesWord (d : Dif) (lines : List Direction) (below : Seen) (i from : ℕ) (word : FlowWord) (result : Result (Unit {0}) NoMemory) (d' : Dif) : Type 0 where
  pub lines' : List Direction
  pub flow : MayChangeFlow (seen_of d) lines i (seen_of d') lines'
  pub does : HandlesWord d lines below i from word result d'
  pub asks : AsksWaitOn word d d'
  pub holds : Holds d' lines' below
