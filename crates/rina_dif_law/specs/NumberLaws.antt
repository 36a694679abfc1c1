-- The laws of the names that a DIF gives, and of a flow that the stack fixes: in the manner of the laws of standing.
use Rattle.std.specs.Prelude.{◌≡◌, ℕ, List, Option, Some, Result}
use Rattle.rina_base.specs.declared.cause.Cause.{Cause}
use Rattle.rina_base.specs.declared.number.Num.{Num}
use Rattle.rina_base.specs.declared.number.Port.{Port}
use Rattle.rina_iface.specs.declared.ask.Fixed.{Fixed}
use Rattle.rina_iface.specs.declared.ends.End.{End}
use Rattle.rina_iface.specs.declared.error.SendError.{SendError}
use Rattle.rina_iface.specs.declared.state.PortState.{PortState}
use Rattle.rina_iface.specs.Journal.{AreKept}
use Rattle.rina_iface.specs.Later.{IsLater, IsLaterFac}
use Rattle.rina_iface.specs.Seen.{Seen, end_of}
use Rattle.rina_iface.specs.Send.{IsSent}
use Rattle.rina_law.specs.Direction.{Direction}
use Rattle.rina_law.specs.Pieces.{Part}
use Rattle.rina_data.specs.declared.link.Route.{Route}
use Rattle.rina_data.specs.declared.step.InStep.{InStep}
use Rattle.rina_data.specs.declared.step.OutStep.{OutStep}
use Rattle.rina_data.specs.declared.step.StepError.{StepError}
use Rattle.rina_dif_law.specs.Asking.{Asking, IsAskedFor}
use Rattle.rina_dif_law.specs.Binding.{IsBound}
use Rattle.rina_dif_law.specs.Carried.{IsCarrying}
use Rattle.rina_dif_law.specs.Cloud.{IsMine}
use Rattle.rina_dif_law.specs.Dif.{DifSeen, fac_of}
use Rattle.rina_dif_law.specs.Ending.{IsEnded}
use Rattle.rina_dif_law.specs.Incoming.{Ins}
use Rattle.rina_dif_law.specs.Lifting.{IsLifted}
use Rattle.rina_dif_law.specs.Losing.{FailAll, Loses}
use Rattle.rina_dif_law.specs.Numbered.{IsNumbered}
use Rattle.rina_dif_law.specs.Outgoing.{Outs}
use Rattle.rina_dif_law.specs.Passing.{IsPassed, IsTicked}
use Rattle.rina_dif_law.specs.Sending.{Offers}
use Rattle.rina_dif_law.specs.Standing.{IsStanding}
use Rattle.rina_dif_law.specs.Timely.{IsAcknowledged, IsForgotten, IsResent}

-- The DIF stays numbered

abbrev pub SendsNumber : Type 0
SendsNumber = (d : DifSeen) (lines : List Direction) (below : Seen) (at : ℕ) (parts : List Part) (result : Result Num SendError) (d' : DifSeen) (lines' : List Direction) →
    IsStanding d lines below → IsNumbered d below → Offers d lines at parts result d' lines' → IsNumbered d' below

abbrev pub PassesNumber : Type 0
PassesNumber = (d : DifSeen) (lines : List Direction) (below : Seen) (at : ℕ) (d' : DifSeen) (lines' : List Direction) → IsNumbered d below → IsPassed d lines at d' lines' → IsNumbered d' below

abbrev pub OutStepsNumber : Type 0
OutStepsNumber = (refuses : Port → ℕ → Option SendError) (d : DifSeen) (lines : List Direction) (below : Seen) (i n : ℕ) (result : Result OutStep StepError) (d' : DifSeen) (below' : Seen) →
    AreKept below → AreKept below' → IsStanding d lines below → IsNumbered d below → Outs refuses d below i n result d' below' → IsNumbered d' below'

abbrev pub InStepsNumber : Type 0
InStepsNumber = (d : DifSeen) (lines : List Direction) (below : Seen) (i n : ℕ) (result : Result InStep StepError) (d' : DifSeen) (lines' : List Direction) (below' : Seen) →
    AreKept below → AreKept below' → IsStanding d lines below → IsNumbered d below → Ins d lines below i n result d' lines' below' → IsNumbered d' below'

abbrev pub AcknowledgingNumbers : Type 0
AcknowledgingNumbers = (d : DifSeen) (lines : List Direction) (below : Seen) (at : ℕ) (cause : Option Cause) (d' : DifSeen) (lines' : List Direction) → IsNumbered d below → IsAcknowledged d lines at cause d' lines' → IsNumbered d' below

abbrev pub ResendingNumbers : Type 0
ResendingNumbers = (d : DifSeen) (lines : List Direction) (below : Seen) (at : ℕ) (cause : Option Cause) (d' : DifSeen) (lines' : List Direction) → IsNumbered d below → IsResent d lines at cause d' lines' → IsNumbered d' below

abbrev pub ForgettingNumbers : Type 0
ForgettingNumbers = (d : DifSeen) (lines : List Direction) (below : Seen) (at : ℕ) (d' : DifSeen) (lines' : List Direction) → IsNumbered d below → IsForgotten d lines at d' lines' → IsNumbered d' below

abbrev pub EndingNumbers : Type 0
EndingNumbers = (d : DifSeen) (lines : List Direction) (below : Seen) (at : ℕ) (state : PortState) (d' : DifSeen) → IsNumbered d below → IsEnded d lines at state d' → IsNumbered d' below

abbrev pub LosingNumbers : Type 0
LosingNumbers = (d : DifSeen) (below : Seen) (i number : ℕ) (routes : List Route) (d' : DifSeen) → IsNumbered d below → Loses d below i number routes d' → IsNumbered d' below

abbrev pub FailingNumbers : Type 0
FailingNumbers = (d : DifSeen) (lines : List Direction) (below : Seen) (node : ℕ) (port : Port) (d' : DifSeen) → IsNumbered d below → FailAll lines node port d d' → IsNumbered d' below

-- also as the rank below goes on, whoever sends or takes there
abbrev pub TimeNumbers : Type 0
TimeNumbers = (d : DifSeen) (lines : List Direction) (below below' : Seen) (d' : DifSeen) (lines' : List Direction) → AreKept below' → IsNumbered d below → IsLifted d.config below below' → IsTicked d lines below'.now d' lines' → IsNumbered d' below'

abbrev pub BesideNumbers : Type 0
BesideNumbers = (d : DifSeen) (below below' : Seen) → AreKept below' → IsNumbered d below → IsLifted d.config below below' → IsNumbered d below'

abbrev pub SendsOfOthersNumber : Type 0
SendsOfOthersNumber = (d : DifSeen) (below : Seen) (port : Port) (bytes : List ℕ) (num : Num) (below' : Seen) →
    AreKept below → AreKept below' → IsLater below below' → IsNumbered d below → ((e : End) → end_of below port ≡ Some e → IsMine d.config.members e.app → ⊥) → IsSent below port bytes num below' → IsNumbered d below'

-- A fixed flow: nothing that may still come is of its names, so that the DIF goes on to stand

abbrev pub BindingStands : Type 0
BindingStands = (d : DifSeen) (lines : List Direction) (below : Seen) (fixed : Fixed) (d' : DifSeen) (lines' : List Direction) → IsStanding d lines below → IsNumbered d below → IsBound d lines fixed d' lines' → IsStanding d' lines' below

abbrev pub BindingCarries : Type 0
BindingCarries = (d : DifSeen) (lines : List Direction) (below : Seen) (fixed : Fixed) (d' : DifSeen) (lines' : List Direction) → IsStanding d lines below → IsNumbered d below → IsCarrying d lines below → IsBound d lines fixed d' lines' → IsCarrying d' lines' below

abbrev pub BindingNumbers : Type 0
BindingNumbers = (d : DifSeen) (lines : List Direction) (below : Seen) (fixed : Fixed) (d' : DifSeen) (lines' : List Direction) → IsStanding d lines below → IsNumbered d below → IsBound d lines fixed d' lines' → IsNumbered d' below

abbrev pub BindingIsLater : Type 0
BindingIsLater = (d : DifSeen) (lines : List Direction) (fixed : Fixed) (d' : DifSeen) (lines' : List Direction) → IsBound d lines fixed d' lines' → IsLaterFac d.clock d'.clock (fac_of d) (fac_of d')

-- A flow that is asked for, whose far end is not there yet

abbrev pub AskingStands : Type 0
AskingStands = (d : DifSeen) (lines : List Direction) (below : Seen) (ask : Asking) (d' : DifSeen) (lines' : List Direction) → IsStanding d lines below → IsNumbered d below → IsAskedFor d lines ask d' lines' → IsStanding d' lines' below

abbrev pub AskingCarries : Type 0
AskingCarries = (d : DifSeen) (lines : List Direction) (below : Seen) (ask : Asking) (d' : DifSeen) (lines' : List Direction) → IsStanding d lines below → IsNumbered d below → IsCarrying d lines below → IsAskedFor d lines ask d' lines' → IsCarrying d' lines' below

abbrev pub AskingNumbers : Type 0
AskingNumbers = (d : DifSeen) (lines : List Direction) (below : Seen) (ask : Asking) (d' : DifSeen) (lines' : List Direction) → IsStanding d lines below → IsNumbered d below → IsAskedFor d lines ask d' lines' → IsNumbered d' below

abbrev pub AskingIsLater : Type 0
AskingIsLater = (d : DifSeen) (lines : List Direction) (below : Seen) (ask : Asking) (d' : DifSeen) (lines' : List Direction) → IsStanding d lines below → IsNumbered d below → IsAskedFor d lines ask d' lines' → IsLaterFac d.clock d'.clock (fac_of d) (fac_of d')
