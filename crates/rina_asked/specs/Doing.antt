-- What the messages about flows come to that a step brings: no look fails. An ask is answered as the member decides, and a yes allocates the end that asked.
use mathlib.Core.Logic.{inl, inr}
use Rattle.std.specs.Prelude.{◌≡◌, ◌⊎◌, ℕ, ◌<◌, List, [], ◌∷◌, length, slice_get, Some, Result, Ok}
use Rattle.rina_base.specs.declared.memory.Memory.{Memory}
use Rattle.rina_alloc.specs.declared.answer.FlowAnswer.{FlowAnswer}
use Rattle.rina_alloc.specs.declared.answer.FlowAnswer.TheVariants as answers
use Rattle.rina_alloc.specs.declared.message.FlowAsk.{FlowAsk}
use Rattle.rina_alloc.specs.declared.message.FlowMessage.{FlowMessage}
use Rattle.rina_alloc.specs.declared.message.FlowWord.{FlowWord}
use Rattle.rina_alloc.specs.declared.message.FlowWord.TheVariants as words
use Rattle.rina_data.specs.declared.settings.Member.{Member}
use Rattle.rina_data.specs.declared.step.InStep.{InStep}
use Rattle.rina_data.specs.declared.step.StepError.{StepError}
use Rattle.rina_iface.specs.Journal.{AreKept}
use Rattle.rina_iface.specs.Seen.{Seen}
use Rattle.rina_law.specs.Direction.{Direction}
use Rattle.rina_dif.specs.declared.dif.Dif.{Dif}
use Rattle.rina_dif.specs.AnswersIn.{HasBoundAsk, IsFirstAsk, NoAsk, TurnsAway}
use Rattle.rina_dif.specs.FarMaking.{Accepts, Answers, Decides, IsNotEnrolled}
use Rattle.rina_dif.specs.FlowMessages.{HandlesFlows, HandlesWord}
use Rattle.rina_dif.specs.Holding.{Holds}
use Rattle.rina_dif.specs.Taking.{TakesIn}
use Rattle.rina_asked.specs.Alone.{AreAlone}
use Rattle.rina_asked.specs.Awaited.{AreAwaited}
use Rattle.rina_asked.specs.Ends.{HaveEnds}

-- where the answer is yes the far end is made; else the answer goes back
abbrev pub AnswersSo : FlowAnswer → Dif → List Direction → Seen → (at own node from invoke : ℕ) → FlowAsk → Dif → Type 0
AnswersSo (answers.Yes cep scep) d lines below at own node from invoke ask d' = Accepts d lines below at own node from invoke ask d'
AnswersSo answer d lines below at own node from invoke ask d' = Answers d lines below at own from invoke answer d'

-- the enrolled member at a place decides on an ask, and does so
pub record IsAnsweredSo (d : Dif) (lines : List Direction) (below : Seen) (at from invoke : ℕ) (ask : FlowAsk) (d' : Dif) : Type 0 where
  pub decides : Decides d at ask
  pub does : AnswersSo decides.answer d lines below at decides.member.addr decides.member.node from invoke ask d'

-- the end of the first ask of the member at a place that waits with this invoke id is allocated
pub record AllocatesFirst (d : Dif) (lines : List Direction) (below : Seen) (at invoke : ℕ) (d' : Dif) : Type 0 where
  pub which : ℕ
  pub first : IsFirstAsk d at invoke which
  pub binds : HasBoundAsk d lines below at which first.is_ask.ask.place d'

-- by the word: a yes for which no ask waits is given back, and all else is handled as it is
abbrev pub DoesWord : Dif → List Direction → Seen → (at from : ℕ) → FlowWord → Dif → Type 0
DoesWord d lines below at from (words.Ask invoke ask) d' = IsAnsweredSo d lines below at from invoke ask d' ⊎ (IsNotEnrolled d at × (d' ≡ d))
DoesWord d lines below at from (words.Answer invoke (answers.Yes cep scep)) d' = AllocatesFirst d lines below at invoke d' ⊎ (NoAsk d at invoke × TurnsAway d lines below at from (answers.Yes cep scep) (Ok tt) d')
DoesWord d lines below at from word d' = HandlesWord d lines below at from word (Ok tt) d'

-- each message in its turn that is for the member of a place, up to one at which memory runs out
abbrev pub DoInTurn : (d : Dif) (lines : List Direction) (below : Seen) (i : ℕ) (ms : List FlowMessage) (result : Result (Unit {0}) Memory) (d' : Dif) (lines' : List Direction) → HandlesFlows d lines below i ms result d' lines' → Type 0
DoInTurn d lines below i [] result d' lines' h = Unit {0}
DoInTurn d lines below i (m ∷ ms) result d' lines' (inl stops) = Unit {0}
DoInTurn d lines below i (m ∷ ms) result d' lines' (inr h) = ((member : Member) → slice_get d.settings.members i ≡ Some member → m.to ≡ member.addr → DoesWord d lines below i m.from m.word h.0) × DoInTurn h.0 h.1 below i ms result d' lines' h.4

-- so it is in each step in which an SDU comes
abbrev pub InDoes : Type 0
InDoes = (d d' : Dif) (lines : List Direction) (below below' : Seen) (i n : ℕ) (result : Result InStep StepError) → AreKept below → AreKept below' → Holds d lines below → i < length d.settings.members → (t : TakesIn d lines below i n result d' below')
    → HaveEnds d → AreAlone d → AreAwaited d → DoInTurn t.handled t.between below' i t.told.messages t.told.stopped (record d' { failed = t.handled.failed }) t.lines' t.told.handles
