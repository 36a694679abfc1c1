-- The laws of one DIF over any facility. Each speaks of plain records: the DIF before and after a call, the directions
-- that stand behind its flows, and the rank below.
use Rattle.std.specs.Prelude.{◌≡◌, ℕ, ◌≤◌, List, Some, Option, Result, Ok, slice_get}
use Rattle.rina_base.specs.declared.cause.Cause.{Cause}
use Rattle.rina_base.specs.declared.number.Num.{Num}
use Rattle.rina_base.specs.declared.number.Port.{Port}
use Rattle.rina_iface.specs.declared.ends.End.{End}
use Rattle.rina_iface.specs.declared.error.SendError.{SendError}
use Rattle.rina_iface.specs.declared.state.PortState.{PortState}
use Rattle.rina_iface.specs.Journal.{AreKept}
use Rattle.rina_iface.specs.Later.{IsLater, IsLaterFac}
use Rattle.rina_iface.specs.Pass.{IsPassed as PassesBelow}
use Rattle.rina_iface.specs.Seen.{Seen, end_of}
use Rattle.rina_iface.specs.Send.{IsSent, Sends}
use Rattle.rina_law.specs.Backed.{Covers}
use Rattle.rina_law.specs.Direction.{Direction}
use Rattle.rina_law.specs.Pieces.{Part, join}
use Rattle.rina_data.specs.declared.link.Route.{Route}
use Rattle.rina_data.specs.declared.step.InStep.{InStep}
use Rattle.rina_data.specs.declared.step.OutStep.{OutStep}
use Rattle.rina_data.specs.declared.step.Decision.TheVariants as decision
use Rattle.rina_data.specs.declared.step.StepError.{StepError}
use Rattle.rina_data.specs.declared.step.Took.TheVariants as took
use Rattle.rina_data.specs.Deciding.{Decides}
use Rattle.rina_dif_law.specs.Carried.{IsCarrying}
use Rattle.rina_dif_law.specs.Cloud.{Cloud, Everywhere, IsMine, WholeCloud}
use Rattle.rina_data.specs.Hops.{Hop}
use Rattle.rina_dif_law.specs.Dif.{DifSeen, fac_of, with_process}
use Rattle.rina_data.specs.Configs.{Member}
use Rattle.rina_data.specs.Process.{Process}
use Rattle.rina_dif_law.specs.Ending.{IsEnded}
use Rattle.rina_dif_law.specs.Facade.{IsShown, own_refusal, shown}
use Rattle.rina_dif_law.specs.Ids.{IsOfLink}
use Rattle.rina_dif_law.specs.Incoming.{Ins, IsInTime, Settles}
use Rattle.rina_data.specs.Leaving.{CanGo}
use Rattle.rina_dif_law.specs.Lifting.{IsLifted}
use Rattle.rina_dif_law.specs.Losing.{FailAll, Loses}
use Rattle.rina_dif_law.specs.Others.{AreApart}
use Rattle.rina_dif_law.specs.Numbered.{IsNumbered}
use Rattle.rina_dif_law.specs.Outgoing.{Outs}
use Rattle.rina_dif_law.specs.Passing.{IsPassed, IsTicked}
use Rattle.rina_dif_law.specs.Sending.{Offers}
use Rattle.rina_dif_law.specs.Standing.{IsStanding}
use Rattle.rina_dif_law.specs.Start.{IsStart}
use Rattle.rina_dif_law.specs.Timely.{IsAcknowledged, IsForgotten, IsResent}
use Rattle.rina_dif_law.specs.Upward.{IsFacility, IsSilent}

-- Standing: it holds before the first flow, and after each call

abbrev pub StartStands : Type 0
StartStands = (d : DifSeen) (lines : List Direction) (below : Seen) → IsStart d lines below → IsStanding d lines below

abbrev pub SendsStand : Type 0
SendsStand = (d : DifSeen) (lines : List Direction) (below : Seen) (at : ℕ) (parts : List Part) (result : Result Num SendError) (d' : DifSeen) (lines' : List Direction) →
    IsStanding d lines below → Offers d lines at parts result d' lines' → IsStanding d' lines' below

abbrev pub PassesStand : Type 0
PassesStand = (d : DifSeen) (lines : List Direction) (below : Seen) (at : ℕ) (d' : DifSeen) (lines' : List Direction) →
    IsStanding d lines below → IsPassed d lines at d' lines' → IsStanding d' lines' below

abbrev pub OutStepsStand : Type 0
OutStepsStand = (refuses : Port → ℕ → Option SendError) (d : DifSeen) (lines : List Direction) (below : Seen) (i n : ℕ) (result : Result OutStep StepError) (d' : DifSeen) (below' : Seen) →
    AreKept below → AreKept below' → IsStanding d lines below → Outs refuses d below i n result d' below' → IsStanding d' lines below'

abbrev pub InStepsStand : Type 0
InStepsStand = (d : DifSeen) (lines : List Direction) (below : Seen) (i n : ℕ) (result : Result InStep StepError) (d' : DifSeen) (lines' : List Direction) (below' : Seen) →
    AreKept below → AreKept below' → IsStanding d lines below → Ins d lines below i n result d' lines' below' → IsStanding d' lines' below'

-- and after each row that comes with time
abbrev pub AcknowledgingStands : Type 0
AcknowledgingStands = (d : DifSeen) (lines : List Direction) (below : Seen) (at : ℕ) (cause : Option Cause) (d' : DifSeen) (lines' : List Direction) →
    IsStanding d lines below → IsAcknowledged d lines at cause d' lines' → IsStanding d' lines' below

abbrev pub ResendingStands : Type 0
ResendingStands = (d : DifSeen) (lines : List Direction) (below : Seen) (at : ℕ) (cause : Option Cause) (d' : DifSeen) (lines' : List Direction) →
    IsStanding d lines below → IsResent d lines at cause d' lines' → IsStanding d' lines' below

abbrev pub ForgettingStands : Type 0
ForgettingStands = (d : DifSeen) (lines : List Direction) (below : Seen) (at : ℕ) (d' : DifSeen) (lines' : List Direction) →
    IsStanding d lines below → IsForgotten d lines at d' lines' → IsStanding d' lines' below

-- and after a flow ended at one of its ends
abbrev pub EndingStands : Type 0
EndingStands = (d : DifSeen) (lines : List Direction) (below : Seen) (at : ℕ) (state : PortState) (d' : DifSeen) →
    IsStanding d lines below → IsNumbered d below → IsEnded d lines at state d' → IsStanding d' lines below

abbrev pub LosingStands : Type 0
LosingStands = (d : DifSeen) (lines : List Direction) (below : Seen) (i number : ℕ) (routes : List Route) (d' : DifSeen) →
    IsStanding d lines below → Loses d below i number routes d' → IsStanding d' lines below

abbrev pub FailingStands : Type 0
FailingStands = (d : DifSeen) (lines : List Direction) (below : Seen) (node : ℕ) (port : Port) (d' : DifSeen) →
    IsStanding d lines below → IsNumbered d below → FailAll lines node port d d' → IsStanding d' lines below

-- What the ends got has come, piece by piece: at the start, and after each call

abbrev pub StartCarries : Type 0
StartCarries = (d : DifSeen) (lines : List Direction) (below : Seen) → IsStart d lines below → IsCarrying d lines below

abbrev pub SendsCarry : Type 0
SendsCarry = (d : DifSeen) (lines : List Direction) (below : Seen) (at : ℕ) (parts : List Part) (result : Result Num SendError) (d' : DifSeen) (lines' : List Direction) →
    IsCarrying d lines below → Offers d lines at parts result d' lines' → IsCarrying d' lines' below

abbrev pub PassesCarry : Type 0
PassesCarry = (d : DifSeen) (lines : List Direction) (below : Seen) (at : ℕ) (d' : DifSeen) (lines' : List Direction) →
    IsCarrying d lines below → IsPassed d lines at d' lines' → IsCarrying d' lines' below

abbrev pub OutStepsCarry : Type 0
OutStepsCarry = (refuses : Port → ℕ → Option SendError) (d : DifSeen) (lines : List Direction) (below : Seen) (i n : ℕ) (result : Result OutStep StepError) (d' : DifSeen) (below' : Seen) →
    AreKept below → AreKept below' → IsCarrying d lines below → Outs refuses d below i n result d' below' → IsCarrying d' lines below'

abbrev pub InStepsCarry : Type 0
InStepsCarry = (d : DifSeen) (lines : List Direction) (below : Seen) (i n : ℕ) (result : Result InStep StepError) (d' : DifSeen) (lines' : List Direction) (below' : Seen) →
    AreKept below → AreKept below' → IsStanding d lines below → IsCarrying d lines below → Ins d lines below i n result d' lines' below' → IsCarrying d' lines' below'

abbrev pub AcknowledgingCarries : Type 0
AcknowledgingCarries = (d : DifSeen) (lines : List Direction) (below : Seen) (at : ℕ) (cause : Option Cause) (d' : DifSeen) (lines' : List Direction) →
    IsCarrying d lines below → IsAcknowledged d lines at cause d' lines' → IsCarrying d' lines' below

abbrev pub ResendingCarries : Type 0
ResendingCarries = (d : DifSeen) (lines : List Direction) (below : Seen) (at : ℕ) (cause : Option Cause) (d' : DifSeen) (lines' : List Direction) →
    IsCarrying d lines below → IsResent d lines at cause d' lines' → IsCarrying d' lines' below

abbrev pub ForgettingCarries : Type 0
ForgettingCarries = (d : DifSeen) (lines : List Direction) (below : Seen) (at : ℕ) (d' : DifSeen) (lines' : List Direction) →
    IsCarrying d lines below → IsForgotten d lines at d' lines' → IsCarrying d' lines' below

abbrev pub EndingCarries : Type 0
EndingCarries = (d : DifSeen) (lines : List Direction) (below : Seen) (at : ℕ) (state : PortState) (d' : DifSeen) →
    IsCarrying d lines below → IsEnded d lines at state d' → IsCarrying d' lines below

abbrev pub LosingCarries : Type 0
LosingCarries = (d : DifSeen) (lines : List Direction) (below : Seen) (i number : ℕ) (routes : List Route) (d' : DifSeen) →
    IsCarrying d lines below → Loses d below i number routes d' → IsCarrying d' lines below

abbrev pub FailingCarries : Type 0
FailingCarries = (d : DifSeen) (lines : List Direction) (below : Seen) (node : ℕ) (port : Port) (d' : DifSeen) →
    IsCarrying d lines below → FailAll lines node port d d' → IsCarrying d' lines below

-- and as the rank below goes on, whoever sends or takes there
abbrev pub TimeCarries : Type 0
TimeCarries = (d : DifSeen) (lines : List Direction) (below below' : Seen) (d' : DifSeen) (lines' : List Direction) →
    AreKept below' → IsCarrying d lines below → IsLifted d.config below below' → IsTicked d lines below'.now d' lines' → IsCarrying d' lines' below'

abbrev pub BesideCarries : Type 0
BesideCarries = (d : DifSeen) (lines : List Direction) (below below' : Seen) →
    AreKept below' → IsCarrying d lines below → IsLifted d.config below below' → IsCarrying d lines below'

abbrev pub SendsOfOthersCarry : Type 0
SendsOfOthersCarry = (d : DifSeen) (lines : List Direction) (below : Seen) (port : Port) (bytes : List ℕ) (num : Num) (below' : Seen) →
    AreKept below → AreKept below' → IsLater below below' → IsCarrying d lines below → IsSent below port bytes num below' → IsCarrying d lines below'

abbrev pub PassesOfOthersCarry : Type 0
PassesOfOthersCarry = (d : DifSeen) (lines : List Direction) (below : Seen) (port : Port) (below' : Seen) →
    AreKept below → AreKept below' → IsLater below below' → IsCarrying d lines below → PassesBelow below port below' → IsCarrying d lines below'

-- The rank below goes on: with the clock, or while this DIF does nothing

abbrev pub TimeStands : Type 0
TimeStands = (d : DifSeen) (lines : List Direction) (below below' : Seen) (d' : DifSeen) (lines' : List Direction) →
    AreKept below' → IsStanding d lines below → IsLifted d.config below below' → IsTicked d lines below'.now d' lines' → IsStanding d' lines' below'

abbrev pub BesideStands : Type 0
BesideStands = (d : DifSeen) (lines : List Direction) (below below' : Seen) →
    AreKept below' → IsStanding d lines below → IsLifted d.config below below' → below'.now ≡ below.now → IsStanding d lines below'

-- an application that is no IPC process of the DIF sends below
abbrev pub SendsOfOthersStand : Type 0
SendsOfOthersStand = (d : DifSeen) (lines : List Direction) (below : Seen) (port : Port) (bytes : List ℕ) (num : Num) (below' : Seen) →
    AreKept below → AreKept below' → IsLater below below' → IsStanding d lines below → ((e : End) → end_of below port ≡ Some e → IsMine d.config.members e.app → ⊥) → IsSent below port bytes num below' → IsStanding d lines below'

-- another DIF of the rank takes a step
abbrev pub OutStepsOfOthersStand : Type 0
OutStepsOfOthersStand = (refuses : Port → ℕ → Option SendError) (d o : DifSeen) (lines olines : List Direction) (below : Seen) (i n : ℕ) (result : Result OutStep StepError) (o' : DifSeen) (below' : Seen) →
    AreKept below → AreKept below' → IsStanding d lines below → IsStanding o olines below → AreApart o d → Outs refuses o below i n result o' below' → IsStanding d lines below'

abbrev pub InStepsOfOthersStand : Type 0
InStepsOfOthersStand = (d o : DifSeen) (lines olines : List Direction) (below : Seen) (i n : ℕ) (result : Result InStep StepError) (o' : DifSeen) (olines' : List Direction) (below' : Seen) →
    AreKept below → AreKept below' → IsStanding d lines below → Ins o olines below i n result o' olines' below' → IsStanding d lines below'

-- The cloud: what came is covered by what was sent, and whatever goes on below without the DIF adds nothing to it

abbrev pub CloudIsCovered : Type 0
CloudIsCovered = (d : DifSeen) (lines : List Direction) (below : Seen) → AreKept below → IsStanding d lines below → Covers d.clock (Cloud Everywhere d.config d.processes below) (WholeCloud d.config d.processes below)

abbrev pub CloudLaw : Type 0
CloudLaw = (d : DifSeen) (lines : List Direction) (below below' : Seen) →
    AreKept below' → IsStanding d lines below → IsLifted d.config below below' → Covers below'.now (WholeCloud d.config d.processes below) (WholeCloud d.config d.processes below')

-- The rank above: the DIF is a facility, whose journal goes on

abbrev pub StandingKeeps : Type 0
StandingKeeps = (d : DifSeen) (lines : List Direction) (below : Seen) → IsStanding d lines below → IsFacility d

abbrev pub SendsAreLater : Type 0
SendsAreLater = (d : DifSeen) (lines : List Direction) (below : Seen) (at : ℕ) (parts : List Part) (result : Result Num SendError) (d' : DifSeen) (lines' : List Direction) →
    IsStanding d lines below → Offers d lines at parts result d' lines' → IsLaterFac d.clock d'.clock (fac_of d) (fac_of d')

abbrev pub PassesAreLater : Type 0
PassesAreLater = (d : DifSeen) (lines : List Direction) (at : ℕ) (d' : DifSeen) (lines' : List Direction) → IsPassed d lines at d' lines' → IsLaterFac d.clock d'.clock (fac_of d) (fac_of d')

abbrev pub OutStepsAreSilent : Type 0
OutStepsAreSilent = (refuses : Port → ℕ → Option SendError) (d : DifSeen) (below : Seen) (i n : ℕ) (result : Result OutStep StepError) (d' : DifSeen) (below' : Seen) → Outs refuses d below i n result d' below' → IsSilent d d'

abbrev pub InStepsAreSilent : Type 0
InStepsAreSilent = (d : DifSeen) (lines : List Direction) (below : Seen) (i n : ℕ) (result : Result InStep StepError) (d' : DifSeen) (lines' : List Direction) (below' : Seen) → IsStanding d lines below → Ins d lines below i n result d' lines' below' → IsSilent d d'

abbrev pub TimeIsSilent : Type 0
TimeIsSilent = (d : DifSeen) (lines : List Direction) (now : ℕ) (d' : DifSeen) (lines' : List Direction) → IsTicked d lines now d' lines' → IsSilent d d'

abbrev pub AcknowledgingIsSilent : Type 0
AcknowledgingIsSilent = (d : DifSeen) (lines : List Direction) (at : ℕ) (cause : Option Cause) (d' : DifSeen) (lines' : List Direction) → IsAcknowledged d lines at cause d' lines' → IsSilent d d'

abbrev pub ResendingIsSilent : Type 0
ResendingIsSilent = (d : DifSeen) (lines : List Direction) (at : ℕ) (cause : Option Cause) (d' : DifSeen) (lines' : List Direction) → IsResent d lines at cause d' lines' → IsSilent d d'

abbrev pub ForgettingIsSilent : Type 0
ForgettingIsSilent = (d : DifSeen) (lines : List Direction) (at : ℕ) (d' : DifSeen) (lines' : List Direction) → IsForgotten d lines at d' lines' → IsSilent d d'

abbrev pub EndingIsSilent : Type 0
EndingIsSilent = (d : DifSeen) (lines : List Direction) (at : ℕ) (state : PortState) (d' : DifSeen) → IsEnded d lines at state d' → IsSilent d d'

abbrev pub LosingIsSilent : Type 0
LosingIsSilent = (d : DifSeen) (below : Seen) (i number : ℕ) (routes : List Route) (d' : DifSeen) → Loses d below i number routes d' → IsSilent d d'

abbrev pub FailingIsSilent : Type 0
FailingIsSilent = (d : DifSeen) (lines : List Direction) (node : ℕ) (port : Port) (d' : DifSeen) → FailAll lines node port d d' → IsSilent d d'

-- two steps, one after the other
abbrev pub SilentOn : Type 0
SilentOn = (d d' d'' : DifSeen) → d.clock ≤ d'.clock → d'.clock ≤ d''.clock → IsSilent d d' → IsSilent d' d'' → IsSilent d d''

-- a send and a pass are those of every facility, at the rank that shows the DIF

abbrev pub SendsAreSends : Type 0
SendsAreSends = (s : Seen) (d : DifSeen) (lines : List Direction) (below : Seen) (port : Port) (at : ℕ) (end : End) (parts : List Part) (result : Result Num SendError) (d' : DifSeen) (lines' : List Direction) →
    IsStanding d lines below → IsShown s d port at end → Offers d lines at parts result d' lines' → Sends (own_refusal d lines at end parts) s port (join parts) result (shown s port d')

abbrev pub PassesArePasses : Type 0
PassesArePasses = (s : Seen) (d : DifSeen) (lines : List Direction) (port : Port) (at : ℕ) (end : End) (d' : DifSeen) (lines' : List Direction) →
    IsShown s d port at end → IsPassed d lines at d' lines' → PassesBelow s port (shown s port d')

-- What an IPC process decides by itself

abbrev pub RelayingSettles : Type 0
RelayingSettles = (d : DifSeen) (lines : List Direction) (i : ℕ) (member : Member) (process process' : Process) (at : ℕ) (hop : Hop) →
    (IsInTime d at hop → IsOfLink hop.pdu → ⊥) → Decides d.config.cap d.clock member.addr process at hop (Ok decision.Relayed) process' → Settles d lines i member process at hop took.Relayed (with_process d i process') lines

abbrev pub WritingOffSettles : Type 0
WritingOffSettles = (d : DifSeen) (lines : List Direction) (i : ℕ) (member : Member) (process process' : Process) (at : ℕ) (hop : Hop) (cause : Cause) →
    (IsInTime d at hop → IsOfLink hop.pdu → ⊥) → Decides d.config.cap d.clock member.addr process at hop (Ok (decision.Off cause)) process' → Settles d lines i member process at hop (took.Off cause) (with_process d i process') lines

-- What stands is ready for a step at each of its links: the flow below takes whatever waits

abbrev pub StandingCanGo : Type 0
StandingCanGo = (d : DifSeen) (lines : List Direction) (below : Seen) (i n : ℕ) (process : Process) → IsStanding d lines below → slice_get d.processes i ≡ Some process → CanGo d.config d.clock process below n
