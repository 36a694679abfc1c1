-- What the machines of an ask do where a message comes is a row.
use Rattle.std.specs.Prelude.{◌≡◌, ℕ, ◌+◌, ◌<◌, Bool, true, false, List, ◌∷◌, slice_get, Option, Some, None}
use Rattle.rina_law.specs.Lists.{In}
use Rattle.rina_alloc.specs.declared.answer.FlowAnswer.{FlowAnswer}
use Rattle.rina_alloc.specs.declared.event.AskEvent.{AskEvent}
use Rattle.rina_alloc.specs.declared.event.AskEvent.TheVariants as events
use Rattle.rina_alloc.specs.declared.event.AskDo.{AskDo}
use Rattle.rina_alloc.specs.declared.event.AskDo.TheVariants as does
use Rattle.rina_alloc.specs.declared.message.FlowAsk.{FlowAsk}
use Rattle.rina_alloc.specs.declared.message.FlowWord.TheVariants as words
use Rattle.rina_alloc.specs.Machines.{asking_does, new_asked, asked_does}
use Rattle.rina_alloc.specs.Words.{code_of, dcep_of, number_of}
use Rattle.rina_rest.specs.Flows.{Endpoint, Flow, IsFree}
use Rattle.rina_asks.specs.Allocation.{FarSide, Request, Sent, sent, cut, Allocation, IsAt, AskRow, asker_heard, far_heard, heard, happened, May}
use Rattle.rina_asks.specs.Holding.{AllHolds}

-- The end that is asked

-- what the machine is told of an ask is so: it is told that the application is registered, that the ask is young and that no
-- rule denies the asker only where that is so, and an id that was drawn is free
pub record IsTold (s : Allocation) (to : ℕ) (ask : FlowAsk) (here aged : Bool) (denied drawn : Option ℕ) : Type 0 where
  pub registered : here ≡ true → In (record { addr = to; app = ask.destination }) s.registered
  pub young : aged ≡ false → s.ledger.now < ask.flow.tick + s.rests ask.cube
  pub allowed : denied ≡ None → In (record { addr = to; app = ask.source }) s.allowed
  pub free : (cep : ℕ) → drawn ≡ Some cep → IsFree s.ledger.now s.ledger.flows to cep

-- a row that handles the n-th message and gives this answer in its place, to the address that asked
pub record IsAnsweredBy (s : Allocation) (n i to from invoke : ℕ) (answer : FlowAnswer) : Type 0 where
  pub row : AskRow
  pub may : May s row
  pub answers : (happened s row).messages ≡ sent i from to (words.Answer invoke answer) ∷ cut n s.messages

-- then each answer of the machine is given in a row
abbrev pub AnswerIsRow : Type 0
AnswerIsRow = (s : Allocation) (n i : ℕ) (f : Flow) (a : Request) (to from invoke : ℕ) (ask : FlowAsk) (here aged : Bool) (denied drawn : Option ℕ) (used : ℕ) → IsAt s i f a → slice_get s.messages n ≡ Some (sent i to from (words.Ask invoke ask)) → IsTold s to ask here aged denied drawn →
    (answer : FlowAnswer) × (asked_does new_asked (events.Ask here aged denied drawn used ask.scep) ≡ does.Answer (code_of answer) (dcep_of answer) (number_of answer)) × IsAnsweredBy s n i to from invoke answer

-- The end that asks

-- the delete that a machine calls for is put on its way
abbrev pub with_delete : ℕ → ℕ → ℕ → AskDo → List Sent → List Sent
with_delete i to from (does.Delete dcep scep) ms = sent i to from (words.Delete dcep scep) ∷ ms
with_delete i to from done ms = ms

-- a row by which the asker's machine handles an event. What is on its way after it is what was before, and the delete that the
-- machine calls for
pub record IsAskerRow (s : Allocation) (i to from : ℕ) (a : Request) (event : AskEvent) (before : List Sent) : Type 0 where
  pub row : AskRow
  pub may : May s row
  pub machine : slice_get (happened s row).requests i ≡ Some (asker_heard a event)
  pub messages : (happened s row).messages ≡ with_delete i to from (asking_does a.asking event) before

-- each answer that comes is handled in a row, in whatever state the asker is
abbrev pub HeardIsRow : Type 0
HeardIsRow = (s : Allocation) (n i : ℕ) (f : Flow) (a : Request) (to from invoke : ℕ) (answer : FlowAnswer) → IsAt s i f a → slice_get s.messages n ≡ Some (sent i to from (words.Answer invoke answer)) → IsAskerRow s i from to a (heard answer) (cut n s.messages)

-- so is the end of a wait
abbrev pub LateIsRow : Type 0
LateIsRow = (s : Allocation) (i : ℕ) (f : Flow) (a : Request) → IsAt s i f a → a.asking.waits ≡ true → IsAskerRow s i f.peer f.asker.addr a (events.Clock true) s.messages

-- and an end that is freed or fails while it stands
abbrev pub EndedIsRow : Type 0
EndedIsRow = (s : Allocation) (i : ℕ) (f : Flow) (a : Request) → AllHolds s → IsAt s i f a → f.asker.ended ≡ None → IsAskerRow s i f.peer f.asker.addr a events.Ended s.messages

-- The far end is freed or fails

pub record IsFarRow (s : Allocation) (i to from : ℕ) (a : Request) (e : FarSide) (event : AskEvent) (before : List Sent) : Type 0 where
  pub row : AskRow
  pub may : May s row
  pub machine : slice_get (happened s row).requests i ≡ Some (far_heard a e event)
  pub messages : (happened s row).messages ≡ with_delete i to from (asked_does e.asked event) before

abbrev pub FarEndedIsRow : Type 0
FarEndedIsRow = (s : Allocation) (i : ℕ) (f : Flow) (a : Request) (far : Endpoint) (e : FarSide) → AllHolds s → IsAt s i f a → f.far ≡ Some far → a.far_side ≡ Some e → far.ended ≡ None → IsFarRow s i e.partner far.addr a e events.Ended s.messages
