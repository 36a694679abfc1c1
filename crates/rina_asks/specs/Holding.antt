-- What holds of a DIF's requests and messages, whatever happens.
use Rattle.std.specs.Prelude.{◌≡◌, ℕ, ◌⊎◌, Bool, true, false, List, [], ◌∷◌, length, slice_get, Option, Some, None}
use Rattle.rina_law.specs.Lists.{In}
use Rattle.rina_alloc.specs.declared.answer.FlowAnswer.{FlowAnswer}
use Rattle.rina_alloc.specs.declared.answer.FlowAnswer.TheVariants as answers
use Rattle.rina_alloc.specs.declared.event.Pair.{Pair}
use Rattle.rina_alloc.specs.declared.message.FlowAsk.{FlowAsk}
use Rattle.rina_alloc.specs.declared.message.FlowWord.{FlowWord}
use Rattle.rina_alloc.specs.declared.message.FlowWord.TheVariants as words
use Rattle.rina_rest.specs.Flows.{Endpoint, Side, Flow, ended_of, Four, GoesFrom}
use Rattle.rina_rest.specs.Ledger.{Ledger, Holds}
use Rattle.rina_asks.specs.Allocation.{FarSide, Request, Sent, ask_of, Allocation}

-- A request, and its flow

-- the machine of the end that asks, by whether it waits and what it is bound to. While it waits its end stands. While it is
-- bound its end stands, the answer came, and the pair has the CEP-ids of the two ends. After that its end has ended
abbrev pub AskerIs : Bool → Option Pair → Flow → Type 0
AskerIs true None f = (f.asker.ended ≡ None) × (f.told ≡ false)
AskerIs true (Some pair) f = ⊥
AskerIs false (Some pair) f = (f.asker.ended ≡ None) × (f.told ≡ true) × (pair.own ≡ f.asker.cep) × (far : Endpoint) × (f.far ≡ Some far) × (pair.far ≡ far.cep)
AskerIs false None f = (t : ℕ) × (f.asker.ended ≡ Some t)

-- the ask that was sent has the asker's address and CEP-id, the tick of the ask, and a cube whose ids rest as the flow's do
abbrev pub IsAskFor : (ℕ → ℕ) → FlowAsk → Flow → Type 0
IsAskFor rests ask f = (ask.flow.src ≡ f.asker.addr) × (ask.flow.tick ≡ f.asked) × (ask.scep ≡ f.asker.cep) × (f.rest ≡ rests ask.cube)

-- the machine of a far end is bound while its end stands, and no longer
abbrev pub IsBoundWhile : Option ℕ → Pair → Option Pair → Type 0
IsBoundWhile None pair bound = bound ≡ Some pair
IsBoundWhile (Some t) pair bound = bound ≡ None

-- a far end is known exactly where its id was drawn, and knows what was asked. `addr` and `scep` are those of the asker
abbrev pub FarIs : FlowAsk → ℕ → ℕ → Option Endpoint → Option FarSide → Type 0
FarIs ask addr scep None None = Unit {0}
FarIs ask addr scep None (Some e) = ⊥
FarIs ask addr scep (Some far) None = ⊥
FarIs ask addr scep (Some far) (Some e) = (e.own ≡ ask.destination) × (e.peer ≡ ask.source) × (e.cube ≡ ask.cube) × (e.partner ≡ addr) × IsBoundWhile far.ended (record { far = scep; own = far.cep }) e.asked.bound

pub record RequestHolds (rests : ℕ → ℕ) (f : Flow) (a : Request) : Type 0 where
  pub asker : AskerIs a.asking.waits a.asking.bound f
  pub ask : IsAskFor rests a.ask f
  pub far : FarIs a.ask f.asker.addr f.asker.cep f.far a.far_side

-- A message, and the flow that it was made for

-- an ask goes to the address that is asked, and its flow has no far end
abbrev pub OfAsk : ℕ → ℕ → Flow → Type 0
OfAsk to from f = (to ≡ f.peer) × (from ≡ f.asker.addr) × (f.far ≡ None) × (f.told ≡ false)

-- a yes has the CEP-ids of both ends, and did not come yet; at another answer there is no far end
abbrev pub OfYes : ℕ → ℕ → Flow → Type 0
OfYes dcep scep f = (f.told ≡ false) × (scep ≡ f.asker.cep) × (far : Endpoint) × (f.far ≡ Some far) × (dcep ≡ far.cep)

abbrev pub Tells : FlowAnswer → Flow → Type 0
Tells (answers.Yes dcep scep) f = OfYes dcep scep f
Tells answer f = f.far ≡ None

-- an answer goes back to the asker
abbrev pub OfAnswer : ℕ → ℕ → FlowAnswer → Flow → Type 0
OfAnswer to from answer f = (to ≡ f.asker.addr) × (from ≡ f.peer) × Tells answer f

abbrev pub four_of_delete : ℕ → ℕ → ℕ → ℕ → Four
four_of_delete to from dcep scep = record { src = from; scep = scep; dst = to; dcep = dcep }

-- a delete has the addresses and the CEP-ids of both ends, and goes from an end that has ended to the other
abbrev pub OfDelete : Four → Flow → Type 0
OfDelete four f = (far : Endpoint) × (f.far ≡ Some far) × (side : Side) × GoesFrom side f.asker far four × (t : ℕ) × (ended_of side f far ≡ Some t)

abbrev pub SaysOf : List Flow → ℕ → ℕ → ℕ → FlowWord → Type 0
SaysOf flows i to from (words.Ask invoke ask) = (f : Flow) × (slice_get flows i ≡ Some f) × OfAsk to from f
SaysOf flows i to from (words.Answer invoke answer) = (f : Flow) × (slice_get flows i ≡ Some f) × OfAnswer to from answer f
SaysOf flows i to from (words.Delete dcep scep) = (f : Flow) × (slice_get flows i ≡ Some f) × OfDelete (four_of_delete to from dcep scep) f

abbrev pub SaysIds : List Flow → Sent → Type 0
SaysIds flows m = SaysOf flows m.flow m.message.to m.message.from m.message.word

-- an ask and an answer have the invoke id of their request, and an ask on its way is the one that was sent
abbrev pub IsOfRequest : List Request → ℕ → FlowWord → Type 0
IsOfRequest requests i (words.Ask invoke ask) = (a : Request) × (slice_get requests i ≡ Some a) × (invoke ≡ a.invoke) × (ask ≡ a.ask)
IsOfRequest requests i (words.Answer invoke answer) = (a : Request) × (slice_get requests i ≡ Some a) × (invoke ≡ a.invoke)
IsOfRequest requests i (words.Delete dcep scep) = Unit {0}

abbrev pub SaysNames : List Request → Sent → Type 0
SaysNames requests m = IsOfRequest requests m.flow m.message.word

-- no other message belongs to the ask that this one belongs to
abbrev pub IsApart : Sent → List Sent → Type 0
IsApart m ms = (i : ℕ) → ask_of m ≡ Some i → (k : Sent) → In k ms → ask_of k ≡ Some i → ⊥

abbrev pub AreApart : List Sent → Type 0
AreApart [] = Unit {0}
AreApart (m ∷ ms) = IsApart m ms × AreApart ms

-- All of them

-- two requests of one member have one invoke id or one name
abbrev pub HasSameNumber : Flow → Request → Flow → Request → Type 0
HasSameNumber f a g b = (f.asker.addr ≡ g.asker.addr) × ((a.invoke ≡ b.invoke) ⊎ (a.ask.flow ≡ b.ask.flow))

pub record AsksHold (rests : ℕ → ℕ) (ledger : Ledger) (requests : List Request) (messages : List Sent) : Type 0 where
  pub ledger_holds : Holds ledger
  pub long : length requests ≡ length ledger.flows
  pub request : (i : ℕ) (f : Flow) (a : Request) → slice_get ledger.flows i ≡ Some f → slice_get requests i ≡ Some a → RequestHolds rests f a
  pub numbers : (i k : ℕ) (f g : Flow) (a b : Request) → slice_get ledger.flows i ≡ Some f → slice_get requests i ≡ Some a → slice_get ledger.flows k ≡ Some g → slice_get requests k ≡ Some b → HasSameNumber f a g b → i ≡ k
  pub apart : AreApart messages
  pub ids : (m : Sent) → In m messages → SaysIds ledger.flows m
  pub names : (m : Sent) → In m messages → SaysNames requests m

abbrev pub AllHolds : Allocation → Type 0
AllHolds s = AsksHold s.rests s.ledger s.requests s.messages
