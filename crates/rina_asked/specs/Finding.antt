-- What a member looks up while it handles the messages about flows that an SDU brought: it finds the asker's end of each ask, and the far end of each yes.
use mathlib.Core.Logic.{inl, inr}
use Rattle.std.specs.Prelude.{◌≡◌, ℕ, ◌<◌, List, [], ◌∷◌, length, slice_get, Some, Result}
use Rattle.rina_base.specs.declared.memory.Memory.{Memory}
use Rattle.rina_alloc.specs.declared.answer.FlowAnswer.TheVariants as answers
use Rattle.rina_alloc.specs.declared.message.FlowAsk.{FlowAsk}
use Rattle.rina_alloc.specs.declared.message.FlowMessage.{FlowMessage}
use Rattle.rina_alloc.specs.declared.message.FlowWord.TheVariants as words
use Rattle.rina_data.specs.declared.settings.Member.{Member}
use Rattle.rina_data.specs.declared.step.InStep.{InStep}
use Rattle.rina_data.specs.declared.step.StepError.{StepError}
use Rattle.rina_iface.specs.Journal.{AreKept}
use Rattle.rina_iface.specs.Seen.{Seen}
use Rattle.rina_law.specs.Direction.{Direction}
use Rattle.rina_dif.specs.declared.dif.Dif.{Dif}
use Rattle.rina_dif.specs.AnswersIn.{IsAskAt}
use Rattle.rina_dif.specs.FarMaking.{IsAskerOf}
use Rattle.rina_dif.specs.FlowMessages.{HandlesFlows}
use Rattle.rina_dif.specs.Holding.{Holds}
use Rattle.rina_dif.specs.Taking.{TakesIn}
use Rattle.rina_asked.specs.Alone.{AreAlone}
use Rattle.rina_asked.specs.Awaited.{AreAwaited, HasFarOf}
use Rattle.rina_asked.specs.Ends.{HaveEnds}

-- that of a message, where it is an ask
abbrev pub Finds : Dif → FlowMessage → Type 0
Finds d m = (invoke : ℕ) (ask : FlowAsk) → m.word ≡ words.Ask invoke ask → (place : ℕ) × IsAskerOf d place m.to m.from ask

-- that of a yes for the member of a place, where an ask of its invoke id waits there: the far end of the flow that was asked for, which stands
abbrev pub FindsFar : Dif → ℕ → FlowMessage → Type 0
FindsFar d i m = (member : Member) (invoke cep scep which : ℕ) → slice_get d.settings.members i ≡ Some member → m.to ≡ member.addr → m.word ≡ words.Answer invoke (answers.Yes cep scep) → (ask : IsAskAt d i invoke which) → HasFarOf d ask.ask.place m.from cep

-- of each message in its turn, in the DIF as it is then
abbrev pub InTurn : (Dif → FlowMessage → Type 0) → (d : Dif) (lines : List Direction) (below : Seen) (i : ℕ) (ms : List FlowMessage) (result : Result (Unit {0}) Memory) (d' : Dif) (lines' : List Direction) → HandlesFlows d lines below i ms result d' lines' → Type 0
InTurn F d lines below i [] result d' lines' h = Unit {0}
InTurn F d lines below i (m ∷ ms) result d' lines' (inl stops) = F d m
InTurn F d lines below i (m ∷ ms) result d' lines' (inr h) = F d m × InTurn F h.0 h.1 below i ms result d' lines' h.4

-- so it is in each step in which an SDU comes
abbrev pub InFinds : Type 0
InFinds = (d d' : Dif) (lines : List Direction) (below below' : Seen) (i n : ℕ) (result : Result InStep StepError) → AreKept below → AreKept below' → Holds d lines below → i < length d.settings.members → (t : TakesIn d lines below i n result d' below')
    → HaveEnds d → AreAlone d → InTurn Finds t.handled t.between below' i t.told.messages t.told.stopped (record d' { failed = t.handled.failed }) t.lines' t.told.handles

-- and so the look of each yes for which an ask waits
abbrev pub InFindsFar : Type 0
InFindsFar = (d d' : Dif) (lines : List Direction) (below below' : Seen) (i n : ℕ) (result : Result InStep StepError) → AreKept below → AreKept below' → Holds d lines below → i < length d.settings.members → (t : TakesIn d lines below i n result d' below')
    → AreAwaited d → InTurn (λ z m. FindsFar z i m) t.handled t.between below' i t.told.messages t.told.stopped (record d' { failed = t.handled.failed }) t.lines' t.told.handles
