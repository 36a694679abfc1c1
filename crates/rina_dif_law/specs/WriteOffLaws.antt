-- The laws of the write-offs: whatever a step of a DIF writes into a ledger, the condition of its cause held before the step.
-- In the manner of the laws of standing.
use Rattle.std.specs.Prelude.{ℕ, List, Option, Result}
use Rattle.rina_account.specs.declared.ledger.Off.{Off}
use Rattle.rina_base.specs.declared.cause.Cause.{Cause}
use Rattle.rina_base.specs.declared.number.Num.{Num}
use Rattle.rina_base.specs.declared.number.Port.{Port}
use Rattle.rina_iface.specs.declared.ask.Fixed.{Fixed}
use Rattle.rina_iface.specs.declared.error.SendError.{SendError}
use Rattle.rina_iface.specs.declared.state.Fail.TheVariants.{Below}
use Rattle.rina_iface.specs.declared.state.PortState.{PortState}
use Rattle.rina_iface.specs.Seen.{Seen}
use Rattle.rina_law.specs.Direction.{Direction}
use Rattle.rina_law.specs.Pieces.{Part}
use Rattle.rina_data.specs.declared.link.Route.{Route}
use Rattle.rina_data.specs.declared.step.InStep.{InStep}
use Rattle.rina_data.specs.declared.step.OutStep.{OutStep}
use Rattle.rina_data.specs.declared.step.StepError.{StepError}
use Rattle.rina_data.specs.Configs.{Member}
use Rattle.rina_data.specs.Process.{Process}
use Rattle.rina_dif_law.specs.Accounted.{IsAccounted}
use Rattle.rina_dif_law.specs.Asking.{Asking, IsAskedFor}
use Rattle.rina_dif_law.specs.Binding.{IsBound}
use Rattle.rina_dif_law.specs.Dif.{DifSeen, IsProcess}
use Rattle.rina_dif_law.specs.Ending.{IsEnded}
use Rattle.rina_dif_law.specs.Incoming.{Ins}
use Rattle.rina_dif_law.specs.Losing.{FailAll, FailFirst, Loses}
use Rattle.rina_dif_law.specs.Numbered.{IsNumbered}
use Rattle.rina_dif_law.specs.Outgoing.{Outs}
use Rattle.rina_dif_law.specs.Passing.{IsPassed, IsTicked}
use Rattle.rina_dif_law.specs.Sending.{Offers}
use Rattle.rina_dif_law.specs.Standing.{IsStanding}
use Rattle.rina_dif_law.specs.Timely.{IsAcknowledged, IsForgotten, IsResent}
use Rattle.rina_dif_law.specs.WriteOffs.{AnyPort, IsOverNow, MayWriteOff, NoPort, RefusesOver, Writes}
use Rattle.rina_dif_law.specs.Written.{IsLawfulLine}

-- Steps and rows that write

abbrev pub OutStepsWrite : Type 0
OutStepsWrite = (refuses : Port → ℕ → Option SendError) (d : DifSeen) (lines : List Direction) (below : Seen) (i n : ℕ) (result : Result OutStep StepError) (d' : DifSeen) (below' : Seen) →
    IsStanding d lines below → Outs refuses d below i n result d' below' → Writes (MayWriteOff d lines below (RefusesOver refuses below)) d d'

abbrev pub InStepsWrite : Type 0
InStepsWrite = (d : DifSeen) (lines : List Direction) (below : Seen) (i n : ℕ) (result : Result InStep StepError) (d' : DifSeen) (lines' : List Direction) (below' : Seen) →
    IsStanding d lines below → Ins d lines below i n result d' lines' below' → Writes (MayWriteOff d lines below NoPort) d d'

abbrev pub AcknowledgingWrites : Type 0
AcknowledgingWrites = (d : DifSeen) (lines : List Direction) (below : Seen) (at : ℕ) (cause : Option Cause) (d' : DifSeen) (lines' : List Direction) →
    IsStanding d lines below → IsNumbered d below → IsAccounted d lines below → IsAcknowledged d lines at cause d' lines' → Writes (MayWriteOff d lines below NoPort) d d'

abbrev pub ResendingWrites : Type 0
ResendingWrites = (d : DifSeen) (lines : List Direction) (below : Seen) (at : ℕ) (cause : Option Cause) (d' : DifSeen) (lines' : List Direction) →
    IsStanding d lines below → IsNumbered d below → IsAccounted d lines below → IsResent d lines at cause d' lines' → Writes (MayWriteOff d lines below NoPort) d d'

abbrev pub ForgettingWrites : Type 0
ForgettingWrites = (d : DifSeen) (lines : List Direction) (below : Seen) (at : ℕ) (d' : DifSeen) (lines' : List Direction) →
    IsStanding d lines below → IsNumbered d below → IsForgotten d lines at d' lines' → Writes (MayWriteOff d lines below NoPort) d d'

abbrev pub EndingWrites : Type 0
EndingWrites = (d : DifSeen) (lines : List Direction) (below : Seen) (at : ℕ) (state : PortState) (d' : DifSeen) →
    IsStanding d lines below → IsNumbered d below → IsEnded d lines at state d' → Writes (MayWriteOff d lines below NoPort) d d'

abbrev pub LosingWrites : Type 0
LosingWrites = (d : DifSeen) (lines : List Direction) (below : Seen) (i number : ℕ) (routes : List Route) (d' : DifSeen) →
    IsStanding d lines below → Loses d below i number routes d' → Writes (MayWriteOff d lines below (IsOverNow below)) d d'

-- where all ends of a node fail one after the other, the condition held once those before had failed
pub record MayFailOff (d : DifSeen) (lines : List Direction) (below : Seen) (node : ℕ) (port : Port) (i : ℕ) (off : Off) : Type 0 where
  pub count : ℕ
  pub between : DifSeen
  pub before : FailFirst lines node (Below port) count d between
  pub may : MayWriteOff between lines below NoPort i off

abbrev pub FailingWrites : Type 0
FailingWrites = (d : DifSeen) (lines : List Direction) (below : Seen) (node : ℕ) (port : Port) (d' : DifSeen) →
    IsStanding d lines below → IsNumbered d below → FailAll lines node port d d' → Writes (MayFailOff d lines below node port) d d'

-- What may be written off says what is true of it, whatever port takes no more

abbrev pub MayWriteOffIsLawful : Type 0
MayWriteOffIsLawful = (d : DifSeen) (lines : List Direction) (below : Seen) (i : ℕ) (off : Off) → MayWriteOff d lines below AnyPort i off
    → (member : Member) (process : Process) → IsProcess d i member process → IsLawfulLine d member process off

-- Calls that write nothing

abbrev pub Nothing : ℕ → Off → Type 0
Nothing i off = ⊥

abbrev pub SendsWriteNothing : Type 0
SendsWriteNothing = (d : DifSeen) (lines : List Direction) (at : ℕ) (parts : List Part) (result : Result Num SendError) (d' : DifSeen) (lines' : List Direction) → Offers d lines at parts result d' lines' → Writes Nothing d d'

abbrev pub PassesWriteNothing : Type 0
PassesWriteNothing = (d : DifSeen) (lines : List Direction) (at : ℕ) (d' : DifSeen) (lines' : List Direction) → IsPassed d lines at d' lines' → Writes Nothing d d'

abbrev pub BindingWritesNothing : Type 0
BindingWritesNothing = (d : DifSeen) (lines : List Direction) (fixed : Fixed) (d' : DifSeen) (lines' : List Direction) → IsBound d lines fixed d' lines' → Writes Nothing d d'

abbrev pub AskingWritesNothing : Type 0
AskingWritesNothing = (d : DifSeen) (lines : List Direction) (ask : Asking) (d' : DifSeen) (lines' : List Direction) → IsAskedFor d lines ask d' lines' → Writes Nothing d d'

abbrev pub TimeWritesNothing : Type 0
TimeWritesNothing = (d : DifSeen) (lines : List Direction) (now : ℕ) (d' : DifSeen) (lines' : List Direction) → IsTicked d lines now d' lines' → Writes Nothing d d'
