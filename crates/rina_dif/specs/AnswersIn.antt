-- What a member does with an answer to one of its asks for flows.
use Rattle.std.specs.Prelude.{◌≡◌, ◌≤◌, ◌⊎◌, ℕ, List, slice_get, Option, Some, None, Result, Ok, Err, OnErr, OnOk}
use Rattle.std.specs.List.{remove}
use Rattle.rina_alloc.specs.declared.answer.FlowAnswer.{FlowAnswer}
use Rattle.rina_alloc.specs.declared.answer.FlowAnswer.TheVariants as answers
use Rattle.rina_alloc.specs.declared.message.FlowWord.{FlowWord}
use Rattle.rina_alloc.specs.declared.message.FlowWord.TheVariants.{Delete}
use Rattle.rina_alloc.specs.Words.{dcep_of}
use Rattle.rina_base.specs.declared.memory.Memory.{Memory as NoMemory}
use Rattle.rina_data.specs.declared.settings.Member.{Member}
use Rattle.rina_iface.specs.declared.ends.End.{End}
use Rattle.rina_iface.specs.declared.state.PortState.TheVariants.{Refused}
use Rattle.rina_iface.specs.declared.state.Why.{Why}
use Rattle.rina_iface.specs.declared.state.Why.TheVariants as why
use Rattle.rina_iface.specs.Journal.{At}
use Rattle.rina_iface.specs.Seen.{Seen}
use Rattle.rina_law.specs.Direction.{Direction}
use Rattle.rina_dif.specs.declared.dif.Dif.{Dif}
use Rattle.rina_dif.specs.declared.waiting_asks.WaitingAsk.{WaitingAsk}
use Rattle.rina_dif.specs.FlowAnswers.{FindsFarEnd, HasBoundEnd, IsFarEndAt, WaitsAtHome}
use Rattle.rina_dif.specs.Freeing.{IsKept}
use Rattle.rina_dif.specs.Holding.{Holds}
use Rattle.rina_dif.specs.Posting.{message_of, posts}
use Rattle.rina_dif.specs.WaitingAsks.{TurnsDown}

-- Which ask is answered

-- it is one of the member at a place, with this invoke id, and its end waits
pub record IsAskOf (d : Dif) (at invoke : ℕ) (ask : WaitingAsk) : Type 0 where
  pub member_is : ask.member ≡ at
  pub invoke_is : ask.invoke ≡ invoke
  pub waits : WaitsAtHome d at ask.place

-- it stands here among those that wait
pub record IsAskAt (d : Dif) (at invoke which : ℕ) : Type 0 where
  pub ask : WaitingAsk
  pub stands : slice_get d.asks.items which ≡ Some ask
  pub is_of : IsAskOf d at invoke ask

abbrev pub NoAsk : Dif → ℕ → ℕ → Type 0
NoAsk d at invoke = (which : ℕ) → IsAskAt d at invoke which → ⊥

pub record IsFirstAsk (d : Dif) (at invoke which : ℕ) : Type 0 where
  pub is_ask : IsAskAt d at invoke which
  pub least : (other : ℕ) → IsAskAt d at invoke other → which ≤ other

-- the first is found, or there is none
abbrev pub FindsAsk : Dif → ℕ → ℕ → Option ℕ → Type 0
FindsAsk d at invoke (Some which) = IsFirstAsk d at invoke which
FindsAsk d at invoke None = NoAsk d at invoke

-- What an answer says

-- why the ask is refused; None at yes
abbrev pub why_of : FlowAnswer → Option Why
why_of (answers.Yes dcep scep) = None
why_of (answers.Denied rule) = Some (why.Denied rule)
why_of answers.NotHere = Some why.NotHere
why_of (answers.NoIds used) = Some (why.NoIds used)

-- what is said to the far end where nobody waits for its yes: the flow is given up
abbrev pub given_back : FlowAnswer → Option FlowWord
given_back (answers.Yes dcep scep) = Some (Delete dcep scep)
given_back answer = None

-- An ask that waits is answered

-- a refusal: the end at a place is refused, and the ask that stands here waits no more
pub record RefusesAsk (d : Dif) (lines : List Direction) (below : Seen) (which place : ℕ) (cause : Why) (d' : Dif) : Type 0 where
  pub turns_down : TurnsDown d place (Refused cause) d'
  pub asks : d'.asks.items ≡ remove d.asks.items which
  pub holds : Holds d' lines below

-- of the end at a place no far end stands that has this CEP-id at the member of an address
abbrev pub NoFarOf : Dif → ℕ → ℕ → ℕ → Type 0
NoFarOf d place from cep = (end : End) → At d.flows.journal.ends place end → FindsFarEnd d end.flow from cep None

-- it stands here
abbrev pub FarOf : Dif → ℕ → ℕ → ℕ → ℕ → Type 0
FarOf d place from cep far_at = (end : End) → At d.flows.journal.ends place end → IsFarEndAt d far_at end.flow from cep

-- the end at a place is allocated, and the ask that stands here waits no more
pub record HasBoundAsk (d : Dif) (lines : List Direction) (below : Seen) (at which place : ℕ) (d' : Dif) : Type 0 where
  pub binds : HasBoundEnd d lines below at place d'
  pub asks : d'.asks.items ≡ remove d.asks.items which

-- without memory nothing is seen to change, and the ask waits on
abbrev pub BindsAsk : Dif → List Direction → Seen → ℕ → ℕ → ℕ → Result (Unit {0}) NoMemory → Dif → Type 0
BindsAsk d lines below at which place (Ok done) d' = HasBoundAsk d lines below at which place d'
BindsAsk d lines below at which place (Err e) d' = IsKept d lines below d' × (d'.asks ≡ d.asks)

-- an answer of yes: where the far end does not stand the application is not there
abbrev pub TakesYes : Dif → List Direction → Seen → ℕ → ℕ → ℕ → ℕ → ℕ → Result (Unit {0}) NoMemory → Dif → Type 0
TakesYes d lines below at from cep which place r d' = (NoFarOf d place from cep × RefusesAsk d lines below which place why.NotHere d') ⊎ ((far_at : ℕ) × FarOf d place from cep far_at × BindsAsk d lines below at which place r d')

-- by what the answer says
abbrev pub TakesAt : Option Why → ℕ → Dif → List Direction → Seen → ℕ → ℕ → ℕ → ℕ → Result (Unit {0}) NoMemory → Dif → Type 0
TakesAt (Some cause) cep d lines below at from which place r d' = RefusesAsk d lines below which place cause d'
TakesAt None cep d lines below at from which place r d' = TakesYes d lines below at from cep which place r d'

-- Nobody waits for an answer

-- the far end of a yes is told that the flow is given up
abbrev pub SaysBack : Option FlowWord → Dif → ℕ → ℕ → Dif → Type 0
SaysBack (Some word) d at from d' = (m : Member) → slice_get d.settings.members at ≡ Some m → d' ≡ record d { managements = posts d at (message_of from m.addr word) d.managements }
SaysBack None d at from d' = d' ≡ d

-- without memory nothing changes
pub record TurnsAway (d : Dif) (lines : List Direction) (below : Seen) (at from : ℕ) (answer : FlowAnswer) (r : Result (Unit {0}) NoMemory) (d' : Dif) : Type 0 where
  pub ok : OnOk r (SaysBack (given_back answer) d at from d')
  pub err : OnErr r (d' ≡ d)
  pub holds : Holds d' lines below

-- The answer is handled

-- an answer to the ask of the member at a place with this invoke id, which comes from the member of an address
pub record TakesFirst (d : Dif) (lines : List Direction) (below : Seen) (at from invoke : ℕ) (answer : FlowAnswer) (r : Result (Unit {0}) NoMemory) (d' : Dif) : Type 0 where
  pub which : ℕ
  pub first : IsFirstAsk d at invoke which
  pub takes : TakesAt (why_of answer) (dcep_of answer) d lines below at from which first.is_ask.ask.place r d'

abbrev pub TakesAnswer : Dif → List Direction → Seen → ℕ → ℕ → ℕ → FlowAnswer → Result (Unit {0}) NoMemory → Dif → Type 0
TakesAnswer d lines below at from invoke answer r d' = TakesFirst d lines below at from invoke answer r d' ⊎ (NoAsk d at invoke × TurnsAway d lines below at from answer r d')
