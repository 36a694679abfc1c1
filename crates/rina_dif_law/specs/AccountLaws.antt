-- The laws of the account: in the manner of the laws of standing.
use Rattle.std.specs.Prelude.{◌≡◌, ℕ, List, [], Option, Some, Result, slice_get}
use Rattle.rina_base.specs.declared.cause.Cause.{Cause}
use Rattle.rina_base.specs.declared.number.Num.{Num}
use Rattle.rina_base.specs.declared.number.Port.{Port}
use Rattle.rina_iface.specs.declared.ask.Fixed.{Fixed}
use Rattle.rina_iface.specs.declared.ends.End.{End}
use Rattle.rina_iface.specs.declared.error.SendError.{SendError}
use Rattle.rina_iface.specs.declared.state.PortState.{PortState}
use Rattle.rina_iface.specs.Journal.{AreKept}
use Rattle.rina_iface.specs.Pass.{IsPassed as PassesBelow}
use Rattle.rina_iface.specs.Seen.{Seen, end_of}
use Rattle.rina_iface.specs.Send.{IsSent}
use Rattle.rina_law.specs.Direction.{Direction}
use Rattle.rina_law.specs.Pieces.{Part}
use Rattle.rina_data.specs.declared.link.Route.{Route}
use Rattle.rina_data.specs.declared.step.InStep.{InStep}
use Rattle.rina_data.specs.declared.step.OutStep.{OutStep}
use Rattle.rina_data.specs.declared.step.StepError.{StepError}
use Rattle.rina_dif_law.specs.Accounted.{IsAccounted}
use Rattle.rina_dif_law.specs.Asking.{Asking, IsAskedFor}
use Rattle.rina_dif_law.specs.Binding.{IsBound}
use Rattle.rina_dif_law.specs.Carried.{IsCarrying}
use Rattle.rina_dif_law.specs.Cloud.{IsMine}
use Rattle.rina_dif_law.specs.Dif.{DifSeen}
use Rattle.rina_data.specs.Process.{Process}
use Rattle.rina_dif_law.specs.Ending.{IsEnded}
use Rattle.rina_dif_law.specs.Incoming.{Ins}
use Rattle.rina_dif_law.specs.Lifting.{IsLifted}
use Rattle.rina_dif_law.specs.Losing.{FailAll, Loses}
use Rattle.rina_dif_law.specs.Numbered.{IsNumbered}
use Rattle.rina_dif_law.specs.Outgoing.{Outs}
use Rattle.rina_dif_law.specs.Passing.{IsPassed, IsTicked}
use Rattle.rina_dif_law.specs.Sending.{Offers}
use Rattle.rina_dif_law.specs.Standing.{IsStanding}
use Rattle.rina_dif_law.specs.Start.{IsStart}
use Rattle.rina_dif_law.specs.Timely.{IsAcknowledged, IsForgotten, IsResent}

-- nothing was taken from below or written off yet, and no connection leads from an IPC process to itself
pub record IsUnused (d : DifSeen) (below : Seen) : Type 0 where
  pub unread : (port : Port) (e : End) → end_of below port ≡ Some e → IsMine d.config.members e.app → e.taken ≡ 0
  pub clean : (i : ℕ) (process : Process) → slice_get d.processes i ≡ Some process → process.ledger ≡ []

abbrev pub StartAccounts : Type 0
StartAccounts = (d : DifSeen) (lines : List Direction) (below : Seen) → AreKept below → IsStart d lines below → IsUnused d below → IsAccounted d lines below

-- After each call

abbrev pub SendsAccount : Type 0
SendsAccount = (d : DifSeen) (lines : List Direction) (below : Seen) (at : ℕ) (parts : List Part) (result : Result Num SendError) (d' : DifSeen) (lines' : List Direction) →
    IsStanding d lines below → IsNumbered d below → IsAccounted d lines below → Offers d lines at parts result d' lines' → IsAccounted d' lines' below

abbrev pub PassesAccount : Type 0
PassesAccount = (d : DifSeen) (lines : List Direction) (below : Seen) (at : ℕ) (d' : DifSeen) (lines' : List Direction) →
    IsAccounted d lines below → IsPassed d lines at d' lines' → IsAccounted d' lines' below

abbrev pub OutStepsAccount : Type 0
OutStepsAccount = (refuses : Port → ℕ → Option SendError) (d : DifSeen) (lines : List Direction) (below : Seen) (i n : ℕ) (result : Result OutStep StepError) (d' : DifSeen) (below' : Seen) →
    AreKept below → AreKept below' → IsStanding d lines below → IsNumbered d below → IsAccounted d lines below → Outs refuses d below i n result d' below' → IsAccounted d' lines below'

abbrev pub InStepsAccount : Type 0
InStepsAccount = (d : DifSeen) (lines : List Direction) (below : Seen) (i n : ℕ) (result : Result InStep StepError) (d' : DifSeen) (lines' : List Direction) (below' : Seen) →
    AreKept below → AreKept below' → IsStanding d lines below → IsNumbered d below → IsCarrying d lines below → IsAccounted d lines below → Ins d lines below i n result d' lines' below' → IsAccounted d' lines' below'

abbrev pub AcknowledgingAccounts : Type 0
AcknowledgingAccounts = (d : DifSeen) (lines : List Direction) (below : Seen) (at : ℕ) (cause : Option Cause) (d' : DifSeen) (lines' : List Direction) →
    IsNumbered d below → IsAccounted d lines below → IsAcknowledged d lines at cause d' lines' → IsAccounted d' lines' below

abbrev pub ResendingAccounts : Type 0
ResendingAccounts = (d : DifSeen) (lines : List Direction) (below : Seen) (at : ℕ) (cause : Option Cause) (d' : DifSeen) (lines' : List Direction) →
    IsNumbered d below → IsAccounted d lines below → IsResent d lines at cause d' lines' → IsAccounted d' lines' below

abbrev pub ForgettingAccounts : Type 0
ForgettingAccounts = (d : DifSeen) (lines : List Direction) (below : Seen) (at : ℕ) (d' : DifSeen) (lines' : List Direction) →
    IsStanding d lines below → IsNumbered d below → IsAccounted d lines below → IsForgotten d lines at d' lines' → IsAccounted d' lines' below

abbrev pub EndingAccounts : Type 0
EndingAccounts = (d : DifSeen) (lines : List Direction) (below : Seen) (at : ℕ) (state : PortState) (d' : DifSeen) →
    IsStanding d lines below → IsNumbered d below → IsAccounted d lines below → IsEnded d lines at state d' → IsAccounted d' lines below

abbrev pub LosingAccounts : Type 0
LosingAccounts = (d : DifSeen) (lines : List Direction) (below : Seen) (i number : ℕ) (routes : List Route) (d' : DifSeen) →
    IsAccounted d lines below → Loses d below i number routes d' → IsAccounted d' lines below

abbrev pub FailingAccounts : Type 0
FailingAccounts = (d : DifSeen) (lines : List Direction) (below : Seen) (node : ℕ) (port : Port) (d' : DifSeen) →
    IsStanding d lines below → IsNumbered d below → IsAccounted d lines below → FailAll lines node port d d' → IsAccounted d' lines below

abbrev pub BindingAccounts : Type 0
BindingAccounts = (d : DifSeen) (lines : List Direction) (below : Seen) (fixed : Fixed) (d' : DifSeen) (lines' : List Direction) →
    IsStanding d lines below → IsNumbered d below → IsAccounted d lines below → IsBound d lines fixed d' lines' → IsAccounted d' lines' below

abbrev pub AskingAccounts : Type 0
AskingAccounts = (d : DifSeen) (lines : List Direction) (below : Seen) (ask : Asking) (d' : DifSeen) (lines' : List Direction) →
    IsStanding d lines below → IsNumbered d below → IsAccounted d lines below → IsAskedFor d lines ask d' lines' → IsAccounted d' lines' below

-- As the rank below goes on, with the clock or while this DIF does nothing

abbrev pub TimeAccounts : Type 0
TimeAccounts = (d : DifSeen) (lines : List Direction) (below below' : Seen) (d' : DifSeen) (lines' : List Direction) →
    AreKept below' → IsAccounted d lines below → IsLifted d.config below below' → IsTicked d lines below'.now d' lines' → IsAccounted d' lines' below'

abbrev pub BesideAccounts : Type 0
BesideAccounts = (d : DifSeen) (lines : List Direction) (below below' : Seen) →
    AreKept below' → IsAccounted d lines below → IsLifted d.config below below' → IsAccounted d lines below'

-- and as an application that is no IPC process of the DIF sends or takes there
abbrev pub SendsOfOthersAccount : Type 0
SendsOfOthersAccount = (d : DifSeen) (lines : List Direction) (below : Seen) (port : Port) (bytes : List ℕ) (num : Num) (below' : Seen) →
    AreKept below' → IsAccounted d lines below → ((e : End) → end_of below port ≡ Some e → IsMine d.config.members e.app → ⊥) → IsSent below port bytes num below' → IsAccounted d lines below'

abbrev pub PassesOfOthersAccount : Type 0
PassesOfOthersAccount = (d : DifSeen) (lines : List Direction) (below : Seen) (port : Port) (below' : Seen) →
    AreKept below' → IsAccounted d lines below → ((e : End) → end_of below port ≡ Some e → IsMine d.config.members e.app → ⊥) → PassesBelow below port below' → IsAccounted d lines below'
