-- The flows of a DIF that were asked for, the messages about them that are on their way, and what may happen to both. The
-- ends are the machines of `rina_alloc`, and the messages are its messages.
use Rattle.std.specs.Prelude.{◌≡◌, ℕ, zero, suc, ◌+◌, ◌<◌, ◌⊎◌, true, false, List, [], ◌∷◌, ◌++◌, length, slice_get, Option, Some, None}
use Rattle.rina_base.specs.declared.number.FlowName.{FlowName}
use Rattle.rina_law.specs.Lists.{In}
use Rattle.rina_alloc.specs.declared.answer.FlowAnswer.{FlowAnswer}
use Rattle.rina_alloc.specs.declared.answer.FlowAnswer.TheVariants as answers
use Rattle.rina_alloc.specs.declared.asked.Asked.{Asked}
use Rattle.rina_alloc.specs.declared.asking.Asking.{Asking}
use Rattle.rina_alloc.specs.declared.event.Pair.{Pair}
use Rattle.rina_alloc.specs.declared.event.AskEvent.{AskEvent}
use Rattle.rina_alloc.specs.declared.event.AskEvent.TheVariants as events
use Rattle.rina_alloc.specs.declared.message.FlowAsk.{FlowAsk}
use Rattle.rina_alloc.specs.declared.message.FlowMessage.{FlowMessage}
use Rattle.rina_alloc.specs.declared.message.FlowWord.{FlowWord}
use Rattle.rina_alloc.specs.declared.message.FlowWord.TheVariants as words
use Rattle.rina_alloc.specs.Machines.{new_asking, asking_after, new_asked, asked_after}
use Rattle.rina_alloc.specs.Words.{code_of, dcep_of, number_of}
use Rattle.rina_rest.specs.Flows.{Endpoint, Flow, IsFree}
use Rattle.rina_rest.specs.Ledger.{Ledger, empty, Row, Time, Cloud, Ask, Make, Tell, EndAsker, EndFar, Send, entered, IsAllowed}

-- The two ends of a flow, beside their ids

-- what the far end of a flow knows, all of it from the ask that made it: its own application, the one that asked, the cube,
-- the address that asked, and the machine of an end that is asked
pub record FarSide : Type 0 where
  pub own : List ℕ
  pub peer : List ℕ
  pub cube : ℕ
  pub partner : ℕ
  pub asked : Asked

-- a flow that was asked for: the invoke id and the ask that were sent, the machine of the end that asks, and the far end
-- once it is made
pub record Request : Type 0 where
  pub invoke : ℕ
  pub ask : FlowAsk
  pub asking : Asking
  pub far_side : Option FarSide

-- Messages on their way

-- a message, and the flow that it was made for. The flow is no part of the message: no member sees it
pub record Sent : Type 0 where
  pub flow : ℕ
  pub message : FlowMessage

abbrev pub sent : ℕ → ℕ → ℕ → FlowWord → Sent
sent i to from word = record { flow = i; message = record { to = to; from = from; word = word } }

-- the ask that a message belongs to, by its flow: it is the ask, or the answer to it. A delete belongs to none
abbrev pub ask_of_word : ℕ → FlowWord → Option ℕ
ask_of_word i (words.Ask invoke ask) = Some i
ask_of_word i (words.Answer invoke answer) = Some i
ask_of_word i (words.Delete dcep scep) = None

abbrev pub ask_of : Sent → Option ℕ
ask_of m = ask_of_word m.flow m.message.word

-- a list without its n-th message
abbrev pub cut : ℕ → List Sent → List Sent
cut n [] = []
cut zero (m ∷ ms) = ms
cut (suc n) (m ∷ ms) = m ∷ cut n ms

-- The state

-- an application that is registered at an address, or that may ask for flows there
pub record Place : Type 0 where
  pub addr : ℕ
  pub app : List ℕ

pub record Allocation : Type 0 where
  -- for how many ticks the ids of a flow of each cube rest, by the cube's id: `3 * delta` of the cube
  pub rests : ℕ → ℕ
  -- the ids of all flows that were ever asked for, and the PDUs that may still come
  pub ledger : Ledger
  -- of each flow of the ledger the request for it
  pub requests : List Request
  pub messages : List Sent
  pub registered : List Place
  pub allowed : List Place

-- nothing was asked for yet
abbrev pub nothing : (ℕ → ℕ) → Allocation
nothing rests = record { rests = rests; ledger = empty; requests = []; messages = []; registered = []; allowed = [] }

-- the i-th flow, with its request
abbrev pub IsAt : Allocation → ℕ → Flow → Request → Type 0
IsAt s i f a = (slice_get s.ledger.flows i ≡ Some f) × (slice_get s.requests i ≡ Some a)

-- What may happen. In each row `n` is the place of the message that is handled, `i` the flow that it was made for, and the
-- message goes to the address `to` from the address `from`

pub data AskRow : Type 0 where
  -- time goes on
  Wait : (ticks : ℕ) → AskRow
  -- PDUs of flows are sent, lost, repeated or relayed
  Data : (row : Row) → AskRow
  -- registrations and access rules change, in any way
  Rules : (registered allowed : List Place) → AskRow
  -- the member at `addr` asks the member at `peer` for a flow
  Allocate : (peer addr invoke : ℕ) (ask : FlowAsk) → AskRow
  -- an ask comes, a far end with the id `cep` is made, and the answer is yes
  Accept : (n i : ℕ) (f : Flow) (a : Request) (to from invoke : ℕ) (ask : FlowAsk) (cep : ℕ) → AskRow
  -- an ask comes, and the answer is another one
  Deny : (n i to from invoke : ℕ) (ask : FlowAsk) (answer : FlowAnswer) → AskRow
  -- a yes comes to an asker that waits
  Bind : (n i : ℕ) (f : Flow) (a : Request) (to from invoke dcep scep : ℕ) → AskRow
  -- a yes comes to an asker that waits no more, and a delete goes back
  GiveBack : (n i : ℕ) (f : Flow) (a : Request) (to from invoke dcep scep : ℕ) → AskRow
  -- another answer comes to an asker that waits
  BeDenied : (n i : ℕ) (f : Flow) (a : Request) (to from invoke : ℕ) (answer : FlowAnswer) → AskRow
  -- an asker waited for its whole time
  TimeOut : (i : ℕ) (f : Flow) (a : Request) → AskRow
  -- the end of an asker that waits is freed, or fails
  Withdraw : (i : ℕ) (f : Flow) (a : Request) → AskRow
  -- a bound end is freed, or fails, and tells the other end by a delete
  FreeAsker : (i : ℕ) (f : Flow) (a : Request) (pair : Pair) → AskRow
  FreeFar : (i : ℕ) (f : Flow) (a : Request) (far : Endpoint) (e : FarSide) (pair : Pair) → AskRow
  -- a delete that was made for the i-th flow comes, and closes an end of the j-th one
  CloseAsker : (n i j : ℕ) (g : Flow) (a : Request) (to from dcep scep : ℕ) → AskRow
  CloseFar : (n i j : ℕ) (g : Flow) (a : Request) (far : Endpoint) (e : FarSide) (to from dcep scep : ℕ) → AskRow
  -- a message is relayed: it is taken at one hop and put on its way at the next
  Forward : (n : ℕ) (m : Sent) → AskRow
  -- a message is lost, or is handled and calls for nothing
  Drop : (n : ℕ) → AskRow

-- What a row makes of the state

-- a list with x in place of the i-th request
abbrev pub put_request : ℕ → Request → List Request → List Request
put_request i x [] = []
put_request zero x (a ∷ rest) = x ∷ rest
put_request (suc i) x (a ∷ rest) = a ∷ put_request i x rest

abbrev pub new_request : ℕ → FlowAsk → Request
new_request invoke ask = record { invoke = invoke; ask = ask; asking = new_asking; far_side = None }

-- the asker's machine handles an event
abbrev pub asker_heard : Request → AskEvent → Request
asker_heard a event = record a { asking = asking_after a.asking event }

-- the far end's machine handles one
abbrev pub far_heard : Request → FarSide → AskEvent → Request
far_heard a e event = record a { far_side = Some (record e { asked = asked_after e.asked event }) }

-- an ask that is neither refused nor too old, and for which an id was drawn
abbrev pub accepting : ℕ → ℕ → AskEvent
accepting cep scep = events.Ask true false None (Some cep) 0 scep

abbrev pub new_far_side : ℕ → FlowAsk → ℕ → FarSide
new_far_side from ask cep = record { own = ask.destination; peer = ask.source; cube = ask.cube; partner = from; asked = asked_after new_asked (accepting cep ask.scep) }

abbrev pub with_far_side : Request → FarSide → Request
with_far_side a e = record a { far_side = Some e }

-- an answer as its receiver's machine sees it
abbrev pub heard : FlowAnswer → AskEvent
heard answer = events.Answer (code_of answer) (dcep_of answer) (number_of answer)

abbrev pub happened : Allocation → AskRow → Allocation
happened s (Wait ticks) = record s { ledger = entered s.ledger (Time ticks) }
happened s (Data row) = record s { ledger = entered s.ledger row }
happened s (Rules registered allowed) = record s { registered = registered; allowed = allowed }
happened s (Allocate peer addr invoke ask) = record s { ledger = entered s.ledger (Ask (s.rests ask.cube) peer addr ask.scep); requests = s.requests ++ new_request invoke ask ∷ []; messages = sent (length s.ledger.flows) peer addr (words.Ask invoke ask) ∷ s.messages }
happened s (Accept n i f a to from invoke ask cep) = record s {
  ledger = entered s.ledger (Make i f cep);
  requests = put_request i (with_far_side a (new_far_side from ask cep)) s.requests;
  messages = sent i from to (words.Answer invoke (answers.Yes cep ask.scep)) ∷ cut n s.messages;
}
happened s (Deny n i to from invoke ask answer) = record s { messages = sent i from to (words.Answer invoke answer) ∷ cut n s.messages }
happened s (Bind n i f a to from invoke dcep scep) = record s { ledger = entered s.ledger (Tell i f); requests = put_request i (asker_heard a (heard (answers.Yes dcep scep))) s.requests; messages = cut n s.messages }
happened s (GiveBack n i f a to from invoke dcep scep) = record s { messages = sent i from to (words.Delete dcep scep) ∷ cut n s.messages }
happened s (BeDenied n i f a to from invoke answer) = record s { ledger = entered s.ledger (EndAsker i f); requests = put_request i (asker_heard a (heard answer)) s.requests; messages = cut n s.messages }
happened s (TimeOut i f a) = record s { ledger = entered s.ledger (EndAsker i f); requests = put_request i (asker_heard a (events.Clock true)) s.requests }
happened s (Withdraw i f a) = record s { ledger = entered s.ledger (EndAsker i f); requests = put_request i (asker_heard a events.Ended) s.requests }
happened s (FreeAsker i f a pair) = record s { ledger = entered s.ledger (EndAsker i f); requests = put_request i (asker_heard a events.Ended) s.requests; messages = sent i f.peer f.asker.addr (words.Delete pair.far pair.own) ∷ s.messages }
happened s (FreeFar i f a far e pair) = record s { ledger = entered s.ledger (EndFar i f far); requests = put_request i (far_heard a e events.Ended) s.requests; messages = sent i e.partner far.addr (words.Delete pair.far pair.own) ∷ s.messages }
happened s (CloseAsker n i j g a to from dcep scep) = record s { ledger = entered s.ledger (EndAsker j g); requests = put_request j (asker_heard a events.Delete) s.requests; messages = cut n s.messages }
happened s (CloseFar n i j g a far e to from dcep scep) = record s { ledger = entered s.ledger (EndFar j g far); requests = put_request j (far_heard a e events.Delete) s.requests; messages = cut n s.messages }
happened s (Forward n m) = record s { messages = m ∷ cut n s.messages }
happened s (Drop n) = record s { messages = cut n s.messages }

-- Where a row may come

-- a row of the ledger that is about PDUs alone
abbrev pub IsOfData : Row → Type 0
IsOfData (Cloud pdus) = Unit {0}
IsOfData (Send i f far side p) = Unit {0}
IsOfData _ = ⊥

-- no earlier flow of the member at this address has this invoke id or this name
abbrev pub IsNew : Allocation → ℕ → ℕ → FlowName → Type 0
IsNew s addr invoke name = (i : ℕ) (f : Flow) (a : Request) → IsAt s i f a → f.asker.addr ≡ addr → (a.invoke ≡ invoke) ⊎ (a.ask.flow ≡ name) → ⊥

-- an answer other than yes
abbrev pub IsRefusal : FlowAnswer → Type 0
IsRefusal (answers.Yes dcep scep) = ⊥
IsRefusal _ = Unit {0}

-- An ask is made with a free id, and with an invoke id and a name that are new. A far end is made only where the
-- application is registered, the asker is allowed, an id is free and the ask is younger than the rest of its cube's ids.
-- A delete closes the bound end that has both its CEP-ids and is a partner of the address that it comes from. All else that
-- is asked for is the state of the end. So each condition speaks of what a member sees: none says that an ask has no far end
-- yet, or that an answer or a delete is that of the end which handles it
abbrev pub May : Allocation → AskRow → Type 0
May s (Wait ticks) = Unit {0}
May s (Data row) = IsOfData row × IsAllowed s.ledger row
May s (Rules registered allowed) = Unit {0}
May s (Allocate peer addr invoke ask) = IsAllowed s.ledger (Ask (s.rests ask.cube) peer addr ask.scep) × (ask.flow.src ≡ addr) × (ask.flow.tick ≡ s.ledger.now) × IsNew s addr invoke ask.flow
May s (Accept n i f a to from invoke ask cep) = IsAt s i f a × (slice_get s.messages n ≡ Some (sent i to from (words.Ask invoke ask))) × In (record { addr = to; app = ask.destination }) s.registered ×
    (s.ledger.now < ask.flow.tick + s.rests ask.cube) × In (record { addr = to; app = ask.source }) s.allowed × IsFree s.ledger.now s.ledger.flows to cep
May s (Deny n i to from invoke ask answer) = (slice_get s.messages n ≡ Some (sent i to from (words.Ask invoke ask))) × IsRefusal answer
May s (Bind n i f a to from invoke dcep scep) = IsAt s i f a × (slice_get s.messages n ≡ Some (sent i to from (words.Answer invoke (answers.Yes dcep scep)))) × (a.asking.waits ≡ true)
May s (GiveBack n i f a to from invoke dcep scep) = IsAt s i f a × (slice_get s.messages n ≡ Some (sent i to from (words.Answer invoke (answers.Yes dcep scep)))) × (a.asking.waits ≡ false)
May s (BeDenied n i f a to from invoke answer) = IsAt s i f a × (slice_get s.messages n ≡ Some (sent i to from (words.Answer invoke answer))) × (a.asking.waits ≡ true) × IsRefusal answer
May s (TimeOut i f a) = IsAt s i f a × (a.asking.waits ≡ true)
May s (Withdraw i f a) = IsAt s i f a × (a.asking.waits ≡ true)
May s (FreeAsker i f a pair) = IsAt s i f a × (a.asking.bound ≡ Some pair)
May s (FreeFar i f a far e pair) = IsAt s i f a × (f.far ≡ Some far) × (a.far_side ≡ Some e) × (e.asked.bound ≡ Some pair)
May s (CloseAsker n i j g a to from dcep scep) = IsAt s j g a × (slice_get s.messages n ≡ Some (sent i to from (words.Delete dcep scep))) × (a.asking.bound ≡ Some (record { far = scep; own = dcep })) × (to ≡ g.asker.addr) × (from ≡ g.peer)
May s (CloseFar n i j g a far e to from dcep scep) = IsAt s j g a × (slice_get s.messages n ≡ Some (sent i to from (words.Delete dcep scep))) × (g.far ≡ Some far) × (a.far_side ≡ Some e) ×
    (e.asked.bound ≡ Some (record { far = scep; own = dcep })) × (to ≡ far.addr) × (from ≡ e.partner)
May s (Forward n m) = slice_get s.messages n ≡ Some m
May s (Drop n) = Unit {0}

-- Rows that come one after the other, and what they make of the state

abbrev pub IsRun : Allocation → List AskRow → Type 0
IsRun s [] = Unit {0}
IsRun s (row ∷ rows) = May s row × IsRun (happened s row) rows

abbrev pub after : Allocation → List AskRow → Allocation
after s [] = s
after s (row ∷ rows) = after (happened s row) rows
