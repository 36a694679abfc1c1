-- What the calls of a DIF that serve its flows leave of its links: none makes a PDU of a management connection wait, and none
-- makes a link live.
use Rattle.std.specs.Prelude.{◌≡◌, ℕ, List, slice_get, Option, Some, None, Result}
use Rattle.rina_base.specs.declared.cause.Cause.{Cause}
use Rattle.rina_base.specs.declared.number.Num.{Num}
use Rattle.rina_base.specs.declared.number.Port.{Port}
use Rattle.rina_iface.specs.declared.error.SendError.{SendError}
use Rattle.rina_iface.specs.declared.state.PortState.{PortState}
use Rattle.rina_iface.specs.Seen.{Seen}
use Rattle.rina_law.specs.Direction.{Direction}
use Rattle.rina_law.specs.Pieces.{Part}
use Rattle.rina_data.specs.declared.link.Route.{Route}
use Rattle.rina_data.specs.declared.step.Took.{Took}
use Rattle.rina_data.specs.Configs.{Config, Member, cube_by}
use Rattle.rina_data.specs.Hops.{Hop}
use Rattle.rina_data.specs.Process.{Process}
use Rattle.rina_dif_law.specs.Dif.{DifSeen}
use Rattle.rina_dif_law.specs.Ending.{IsEnded}
use Rattle.rina_dif_law.specs.Incoming.{Settles}
use Rattle.rina_dif_law.specs.Losing.{FailAll, Loses}
use Rattle.rina_dif_law.specs.Passing.{IsPassed}
use Rattle.rina_dif_law.specs.Sending.{Offers}
use Rattle.rina_dif_law.specs.Timely.{IsAcknowledged, IsForgotten, IsResent}
use Rattle.rina_channel.specs.Changes.{LeavesLinks}

-- no cube of the DIF has the id of management
abbrev pub HasNoManagement : Config → Type 0
HasNoManagement g = cube_by 0 g.cubes ≡ None

abbrev pub SendsLeaveLinks : Type 0
SendsLeaveLinks = (d : DifSeen) (lines : List Direction) (at : ℕ) (parts : List Part) (result : Result Num SendError) (d' : DifSeen) (lines' : List Direction) →
    HasNoManagement d.config → Offers d lines at parts result d' lines' → LeavesLinks d.processes d'.processes

abbrev pub PassesLeaveLinks : Type 0
PassesLeaveLinks = (d : DifSeen) (lines : List Direction) (at : ℕ) (d' : DifSeen) (lines' : List Direction) → IsPassed d lines at d' lines' → LeavesLinks d.processes d'.processes

-- a PDU came: one of a flow, or of a link, for which only lines are written
abbrev pub SettlingLeavesLinks : Type 0
SettlingLeavesLinks = (d : DifSeen) (lines : List Direction) (i : ℕ) (member : Member) (process : Process) (at : ℕ) (hop : Hop) (end : Took) (d' : DifSeen) (lines' : List Direction) →
    slice_get d.processes i ≡ Some process → Settles d lines i member process at hop end d' lines' → LeavesLinks d.processes d'.processes

abbrev pub AcknowledgingLeavesLinks : Type 0
AcknowledgingLeavesLinks = (d : DifSeen) (lines : List Direction) (at : ℕ) (cause : Option Cause) (d' : DifSeen) (lines' : List Direction) →
    HasNoManagement d.config → IsAcknowledged d lines at cause d' lines' → LeavesLinks d.processes d'.processes

abbrev pub ResendingLeavesLinks : Type 0
ResendingLeavesLinks = (d : DifSeen) (lines : List Direction) (at : ℕ) (cause : Option Cause) (d' : DifSeen) (lines' : List Direction) →
    HasNoManagement d.config → IsResent d lines at cause d' lines' → LeavesLinks d.processes d'.processes

abbrev pub ForgettingLeavesLinks : Type 0
ForgettingLeavesLinks = (d : DifSeen) (lines : List Direction) (at : ℕ) (d' : DifSeen) (lines' : List Direction) → IsForgotten d lines at d' lines' → LeavesLinks d.processes d'.processes

abbrev pub EndingLeavesLinks : Type 0
EndingLeavesLinks = (d : DifSeen) (lines : List Direction) (at : ℕ) (state : PortState) (d' : DifSeen) → IsEnded d lines at state d' → LeavesLinks d.processes d'.processes

abbrev pub FailingLeavesLinks : Type 0
FailingLeavesLinks = (d : DifSeen) (lines : List Direction) (node : ℕ) (port : Port) (d' : DifSeen) → FailAll lines node port d d' → LeavesLinks d.processes d'.processes

-- the PDUs that wait for a link are written off as it is lost, and the link is no longer live
abbrev pub LosingLeavesLinks : Type 0
LosingLeavesLinks = (d : DifSeen) (below : Seen) (i number : ℕ) (routes : List Route) (d' : DifSeen) → Loses d below i number routes d' → LeavesLinks d.processes d'.processes
