-- The laws of asks, answers and deletes.
use Rattle.std.specs.Prelude.{◌≡◌, ℕ, ◌+◌, ◌<◌, ◌⊎◌, true, false, List, slice_get, Some, None}
use Rattle.rina_law.specs.Line.{InFlight}
use Rattle.rina_law.specs.Lists.{In}
use Rattle.rina_alloc.specs.declared.answer.FlowAnswer.{FlowAnswer}
use Rattle.rina_alloc.specs.declared.answer.FlowAnswer.TheVariants as answers
use Rattle.rina_alloc.specs.declared.event.Pair.{Pair}
use Rattle.rina_alloc.specs.declared.event.AskDo.TheVariants as does
use Rattle.rina_alloc.specs.declared.message.FlowAsk.{FlowAsk}
use Rattle.rina_alloc.specs.declared.message.FlowWord.TheVariants as words
use Rattle.rina_alloc.specs.Machines.{asking_does}
use Rattle.rina_rest.specs.Flows.{Endpoint, Side, Asker, Far, Flow, IsInUse, IsSameFour, Four, Goes, GoesFrom}
use Rattle.rina_rest.specs.Laws.{MayCome}
use Rattle.rina_rest.specs.Ledger.{ended_asker, ended_far, Stands}
use Rattle.rina_asks.specs.Allocation.{FarSide, Request, Sent, sent, ask_of, Allocation, nothing, IsAt, AskRow, Accept, Bind, GiveBack, CloseAsker, CloseFar, heard, happened, IsRefusal, May, IsRun, after}
use Rattle.rina_asks.specs.Holding.{four_of_delete, OfDelete, AllHolds}

-- Each row keeps what holds, so it holds after every run from nothing, whatever the rests are

abbrev pub RowsHold : Type 0
RowsHold = (s : Allocation) (row : AskRow) → AllHolds s → May s row → AllHolds (happened s row)

abbrev pub RunsHold : Type 0
RunsHold = (rests : ℕ → ℕ) (rows : List AskRow) → IsRun (nothing rests) rows → AllHolds (after (nothing rests) rows)

-- Messages on their way

-- one message at most belongs to an ask
abbrev pub OneMessage : Type 0
OneMessage = (s : Allocation) (i n k : ℕ) (m other : Sent) → AllHolds s → slice_get s.messages n ≡ Some m → slice_get s.messages k ≡ Some other → ask_of m ≡ Some i → ask_of other ≡ Some i → n ≡ k

-- while an ask is on its way its flow has no far end. It goes between the two addresses of the flow, is the ask that was
-- sent, and so has the asker's CEP-id and the tick at which the flow was asked for
abbrev pub AskIsOwn : Type 0
AskIsOwn = (s : Allocation) (i to from invoke : ℕ) (ask : FlowAsk) (f : Flow) (a : Request) → AllHolds s → In (sent i to from (words.Ask invoke ask)) s.messages → IsAt s i f a →
    (f.far ≡ None) × (to ≡ f.peer) × (from ≡ f.asker.addr) × (invoke ≡ a.invoke) × (ask ≡ a.ask) × (ask.scep ≡ f.asker.cep) × (ask.flow.tick ≡ f.asked)

-- a yes has the CEP-ids of both ends of its flow
abbrev pub YesIsOwn : Type 0
YesIsOwn = (s : Allocation) (i to from invoke dcep scep : ℕ) (f : Flow) (a : Request) → AllHolds s → In (sent i to from (words.Answer invoke (answers.Yes dcep scep))) s.messages → IsAt s i f a →
    (to ≡ f.asker.addr) × (from ≡ f.peer) × (invoke ≡ a.invoke) × (scep ≡ f.asker.cep) × (far : Endpoint) × (f.far ≡ Some far) × (dcep ≡ far.cep)

-- a flow with another answer on its way has no far end
abbrev pub RefusedHasNone : Type 0
RefusedHasNone = (s : Allocation) (i to from invoke : ℕ) (answer : FlowAnswer) (f : Flow) → AllHolds s → In (sent i to from (words.Answer invoke answer)) s.messages → IsRefusal answer → slice_get s.ledger.flows i ≡ Some f → f.far ≡ None

-- a delete has the addresses and the CEP-ids of both ends of its flow, and comes from an end that has ended
abbrev pub DeleteIsOfFlow : Type 0
DeleteIsOfFlow = (s : Allocation) (i to from dcep scep : ℕ) (f : Flow) → AllHolds s → In (sent i to from (words.Delete dcep scep)) s.messages → slice_get s.ledger.flows i ≡ Some f → OfDelete (four_of_delete to from dcep scep) f

-- the request that an answer finds by its invoke id, at the address that it goes to, is the one that it answers
abbrev pub AnswerIsMatched : Type 0
AnswerIsMatched = (s : Allocation) (i k to from invoke : ℕ) (answer : FlowAnswer) (f : Flow) (a : Request) (g : Flow) (b : Request) → AllHolds s → In (sent i to from (words.Answer invoke answer)) s.messages → IsAt s i f a → IsAt s k g b →
    g.asker.addr ≡ to → b.invoke ≡ invoke → i ≡ k

-- two flows have two names
abbrev pub NamesAreApart : Type 0
NamesAreApart = (s : Allocation) (i k : ℕ) (f : Flow) (a : Request) (g : Flow) (b : Request) → AllHolds s → IsAt s i f a → IsAt s k g b → a.ask.flow ≡ b.ask.flow → i ≡ k

-- Far ends

-- in a step that makes a far end, the application that was asked for is registered at its address, the one that asks may
-- do so there, and the ask is younger than the rest of its cube's ids
abbrev pub MadeIsAllowed : Type 0
MadeIsAllowed = (s : Allocation) (row : AskRow) (i : ℕ) (f g : Flow) (a : Request) (far : Endpoint) → AllHolds s → May s row → IsAt s i f a → f.far ≡ None → slice_get (happened s row).ledger.flows i ≡ Some g → g.far ≡ Some far →
    In (record { addr = f.peer; app = a.ask.destination }) s.registered × In (record { addr = f.peer; app = a.ask.source }) s.allowed × (s.ledger.now < f.asked + s.rests a.ask.cube)

-- then no PDU that is not dead names its connection, in either direction
abbrev pub AcceptedIsFresh : Type 0
AcceptedIsFresh = (s : Allocation) (n i : ℕ) (f : Flow) (a : Request) (to from invoke : ℕ) (ask : FlowAsk) (cep : ℕ) (side : Side) (p : InFlight Four) → AllHolds s → May s (Accept n i f a to from invoke ask cep) → MayCome s.ledger p →
    GoesFrom side f.asker (record { addr = f.peer; cep = cep; ended = None }) p.pdu → ⊥

-- a far end has the application that was asked for, and the asker's application, cube and address
abbrev pub FarIsNamed : Type 0
FarIsNamed = (s : Allocation) (i : ℕ) (f : Flow) (a : Request) (far : Endpoint) → AllHolds s → IsAt s i f a → f.far ≡ Some far →
    (e : FarSide) × (a.far_side ≡ Some e) × (e.own ≡ a.ask.destination) × (e.peer ≡ a.ask.source) × (e.cube ≡ a.ask.cube) × (e.partner ≡ f.asker.addr)

-- Partners

-- a bound asker and a bound far end that have each other's addresses and CEP-ids
pub record ArePartners (f : Flow) (a : Request) (far : Endpoint) (e : FarSide) : Type 0 where
  pub asker : Pair
  pub asked : Pair
  pub asker_bound : a.asking.bound ≡ Some asker
  pub asked_bound : e.asked.bound ≡ Some asked
  pub ids : (asker.far ≡ asked.own) × (asker.own ≡ asked.far)
  pub addresses : (f.peer ≡ far.addr) × (e.partner ≡ f.asker.addr)

-- they are the two ends of one flow, each has the other's application as its peer, and both have one cube
abbrev pub PartnersAreNamed : Type 0
PartnersAreNamed = (s : Allocation) (i k : ℕ) (f : Flow) (a : Request) (g : Flow) (b : Request) (far : Endpoint) (e : FarSide) → AllHolds s → IsAt s i f a → IsAt s k g b → g.far ≡ Some far → b.far_side ≡ Some e → ArePartners f a far e →
    (i ≡ k) × (e.own ≡ a.ask.destination) × (e.peer ≡ a.ask.source) × (e.cube ≡ a.ask.cube)

-- Answers

-- where a yes binds an asker, no PDU that is not dead goes from the asker to the far end
abbrev pub BoundIsFresh : Type 0
BoundIsFresh = (s : Allocation) (n i : ℕ) (f : Flow) (a : Request) (to from invoke dcep scep : ℕ) (far : Endpoint) (p : InFlight Four) → AllHolds s → May s (Bind n i f a to from invoke dcep scep) → f.far ≡ Some far → MayCome s.ledger p → Goes f.asker far p.pdu → ⊥

-- and no other connection in use has its two addresses and its two CEP-ids, however old the answer is
abbrev pub BoundIsAlone : Type 0
BoundIsAlone = (s : Allocation) (n i k : ℕ) (f g : Flow) (a : Request) (to from invoke dcep scep : ℕ) (far : Endpoint) (v : IsInUse s.ledger.now g) → AllHolds s → May s (Bind n i f a to from invoke dcep scep) → f.far ≡ Some far → slice_get s.ledger.flows k ≡ Some g → IsSameFour f.asker far g.asker v.far → i ≡ k

-- a yes finds an asker that waits, or one whose end has ended
abbrev pub YesFinds : Type 0
YesFinds = (s : Allocation) (i to from invoke dcep scep : ℕ) (f : Flow) (a : Request) → AllHolds s → In (sent i to from (words.Answer invoke (answers.Yes dcep scep))) s.messages → IsAt s i f a → (a.asking.waits ≡ true) ⊎ ((a.asking.waits ≡ false) × (t : ℕ) × (f.asker.ended ≡ Some t))

-- where the asker waits no more, its machine gives the flow back: the delete goes to the far end of this flow, and has both
-- its CEP-ids
abbrev pub LateIsGivenBack : Type 0
LateIsGivenBack = (s : Allocation) (n i : ℕ) (f : Flow) (a : Request) (to from invoke dcep scep : ℕ) → AllHolds s → slice_get s.messages n ≡ Some (sent i to from (words.Answer invoke (answers.Yes dcep scep))) → IsAt s i f a → a.asking.waits ≡ false →
    May s (GiveBack n i f a to from invoke dcep scep) × (asking_does a.asking (heard (answers.Yes dcep scep)) ≡ does.Delete dcep scep) × (far : Endpoint) × (f.far ≡ Some far) × Goes f.asker far (four_of_delete from to dcep scep)

-- Deletes

-- in this row a delete that was made for the i-th flow, and says this, closes an end of the j-th one
abbrev pub Closes : AskRow → ℕ → ℕ → Four → Type 0
Closes (CloseAsker n i j g a to from dcep scep) i' j' four = (i ≡ i') × (j ≡ j') × (four_of_delete to from dcep scep ≡ four)
Closes (CloseFar n i j g a far e to from dcep scep) i' j' four = (i ≡ i') × (j ≡ j') × (four_of_delete to from dcep scep ≡ four)
Closes _ i' j' four = ⊥

-- it goes to the end of this side from the other
abbrev pub GoesTo : Side → Endpoint → Endpoint → Four → Type 0
GoesTo Asker a b four = Goes b a four
GoesTo Far a b four = Goes a b four

-- a flow of which the end of this side ends now
abbrev pub ended_side : Side → ℕ → Flow → Endpoint → Flow
ended_side Asker now f far = ended_asker now f
ended_side Far now f far = ended_far now f far

-- the end that is closed stood, has the address and the CEP-id that the delete goes to, and has as its partner the address
-- and the CEP-id that it comes from. After the row it has ended
pub record IsNamedEnd (s : Allocation) (row : AskRow) (j : ℕ) (four : Four) : Type 0 where
  pub flow : Flow
  pub far : Endpoint
  pub side : Side
  pub at : slice_get s.ledger.flows j ≡ Some flow
  pub known : flow.far ≡ Some far
  pub stood : Stands side flow far
  pub goes : GoesTo side flow.asker far four
  pub closed : slice_get (happened s row).ledger.flows j ≡ Some (ended_side side s.ledger.now flow far)

abbrev pub ClosedIsNamed : Type 0
ClosedIsNamed = (s : Allocation) (row : AskRow) (i j : ℕ) (four : Four) → AllHolds s → May s row → Closes row i j four → IsNamedEnd s row j four

-- a delete closes an end of one flow at most
abbrev pub ClosedIsOne : Type 0
ClosedIsOne = (s : Allocation) (row other : AskRow) (i j k : ℕ) (four : Four) → AllHolds s → May s row → May s other → Closes row i j four → Closes other i k four → j ≡ k

-- it is an end of its own flow while that is in use: one of its two ids is in use or rests
abbrev pub UsedIsOwn : Type 0
UsedIsOwn = (s : Allocation) (row : AskRow) (i j : ℕ) (four : Four) (f : Flow) → AllHolds s → May s row → Closes row i j four → slice_get s.ledger.flows i ≡ Some f → IsInUse s.ledger.now f → i ≡ j

-- a delete finds the end of its own flow, where that is bound
abbrev pub DeleteFindsFar : Type 0
DeleteFindsFar = (s : Allocation) (n i : ℕ) (f : Flow) (a : Request) (far : Endpoint) (e : FarSide) (to from dcep scep : ℕ) → AllHolds s → slice_get s.messages n ≡ Some (sent i to from (words.Delete dcep scep)) → IsAt s i f a → f.far ≡ Some far → a.far_side ≡ Some e → far.ended ≡ None →
    May s (CloseFar n i i f a far e to from dcep scep)

abbrev pub DeleteFindsAsker : Type 0
DeleteFindsAsker = (s : Allocation) (n i : ℕ) (f : Flow) (a : Request) (pair : Pair) (to from dcep scep : ℕ) → AllHolds s → slice_get s.messages n ≡ Some (sent i to from (words.Delete dcep scep)) → IsAt s i f a → a.asking.bound ≡ Some pair → May s (CloseAsker n i i f a to from dcep scep)
