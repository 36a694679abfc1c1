-- The laws of a flow that was asked for, as its far end is made, as the answer comes to the asker, and as the asker's end ends while
-- it waits: in the manner of the laws of standing.
use Rattle.std.specs.Prelude.{ℕ, List}
use Rattle.rina_iface.specs.declared.state.PortState.{PortState}
use Rattle.rina_iface.specs.Later.{IsLaterFac}
use Rattle.rina_iface.specs.Seen.{Seen}
use Rattle.rina_law.specs.Direction.{Direction}
use Rattle.rina_dif_law.specs.Accounted.{IsAccounted}
use Rattle.rina_dif_law.specs.Answering.{IsAnsweredTo, IsFarMade, IsTurnedDown}
use Rattle.rina_dif_law.specs.Carried.{IsCarrying}
use Rattle.rina_dif_law.specs.Dif.{DifSeen, fac_of}
use Rattle.rina_dif_law.specs.Numbered.{IsNumbered}
use Rattle.rina_dif_law.specs.Standing.{IsStanding}
use Rattle.rina_dif_law.specs.Upward.{IsSilent}
use Rattle.rina_dif_law.specs.WriteOffLaws.{Nothing}
use Rattle.rina_dif_law.specs.WriteOffs.{Writes}

-- A member makes the far end

abbrev pub FarMakingStands : Type 0
FarMakingStands = (d : DifSeen) (lines : List Direction) (below : Seen) (node at : ℕ) (d' : DifSeen) (lines' : List Direction) →
    IsStanding d lines below → IsNumbered d below → IsFarMade d lines node at d' lines' → IsStanding d' lines' below

abbrev pub FarMakingCarries : Type 0
FarMakingCarries = (d : DifSeen) (lines : List Direction) (below : Seen) (node at : ℕ) (d' : DifSeen) (lines' : List Direction) →
    IsStanding d lines below → IsNumbered d below → IsCarrying d lines below → IsFarMade d lines node at d' lines' → IsCarrying d' lines' below

abbrev pub FarMakingNumbers : Type 0
FarMakingNumbers = (d : DifSeen) (lines : List Direction) (below : Seen) (node at : ℕ) (d' : DifSeen) (lines' : List Direction) →
    IsStanding d lines below → IsNumbered d below → IsFarMade d lines node at d' lines' → IsNumbered d' below

abbrev pub FarMakingIsLater : Type 0
FarMakingIsLater = (d : DifSeen) (lines : List Direction) (node at : ℕ) (d' : DifSeen) (lines' : List Direction) → IsFarMade d lines node at d' lines' → IsLaterFac d.clock d'.clock (fac_of d) (fac_of d')

abbrev pub FarMakingIsSilent : Type 0
FarMakingIsSilent = (d : DifSeen) (lines : List Direction) (node at : ℕ) (d' : DifSeen) (lines' : List Direction) → IsFarMade d lines node at d' lines' → IsSilent d d'

abbrev pub FarMakingAccounts : Type 0
FarMakingAccounts = (d : DifSeen) (lines : List Direction) (below : Seen) (node at : ℕ) (d' : DifSeen) (lines' : List Direction) →
    IsStanding d lines below → IsNumbered d below → IsAccounted d lines below → IsFarMade d lines node at d' lines' → IsAccounted d' lines' below

abbrev pub FarMakingWritesNothing : Type 0
FarMakingWritesNothing = (d : DifSeen) (lines : List Direction) (node at : ℕ) (d' : DifSeen) (lines' : List Direction) → IsFarMade d lines node at d' lines' → Writes Nothing d d'

-- The answer comes to an asker that waits

abbrev pub AnsweringStands : Type 0
AnsweringStands = (d : DifSeen) (lines : List Direction) (below : Seen) (at : ℕ) (d' : DifSeen) →
    IsStanding d lines below → IsNumbered d below → IsAnsweredTo d at d' → IsStanding d' lines below

abbrev pub AnsweringCarries : Type 0
AnsweringCarries = (d : DifSeen) (lines : List Direction) (below : Seen) (at : ℕ) (d' : DifSeen) →
    IsStanding d lines below → IsNumbered d below → IsCarrying d lines below → IsAnsweredTo d at d' → IsCarrying d' lines below

abbrev pub AnsweringNumbers : Type 0
AnsweringNumbers = (d : DifSeen) (lines : List Direction) (below : Seen) (at : ℕ) (d' : DifSeen) →
    IsStanding d lines below → IsNumbered d below → IsAnsweredTo d at d' → IsNumbered d' below

abbrev pub AnsweringIsSilent : Type 0
AnsweringIsSilent = (d : DifSeen) (at : ℕ) (d' : DifSeen) → IsAnsweredTo d at d' → IsSilent d d'

abbrev pub AnsweringAccounts : Type 0
AnsweringAccounts = (d : DifSeen) (lines : List Direction) (below : Seen) (at : ℕ) (d' : DifSeen) →
    IsStanding d lines below → IsNumbered d below → IsAccounted d lines below → IsAnsweredTo d at d' → IsAccounted d' lines below

abbrev pub AnsweringWritesNothing : Type 0
AnsweringWritesNothing = (d : DifSeen) (at : ℕ) (d' : DifSeen) → IsAnsweredTo d at d' → Writes Nothing d d'

-- An asker's end ends while it waits

abbrev pub TurningDownStands : Type 0
TurningDownStands = (d : DifSeen) (lines : List Direction) (below : Seen) (at : ℕ) (state : PortState) (d' : DifSeen) →
    IsStanding d lines below → IsNumbered d below → IsTurnedDown d at state d' → IsStanding d' lines below

abbrev pub TurningDownCarries : Type 0
TurningDownCarries = (d : DifSeen) (lines : List Direction) (below : Seen) (at : ℕ) (state : PortState) (d' : DifSeen) →
    IsStanding d lines below → IsNumbered d below → IsCarrying d lines below → IsTurnedDown d at state d' → IsCarrying d' lines below

abbrev pub TurningDownNumbers : Type 0
TurningDownNumbers = (d : DifSeen) (lines : List Direction) (below : Seen) (at : ℕ) (state : PortState) (d' : DifSeen) →
    IsStanding d lines below → IsNumbered d below → IsTurnedDown d at state d' → IsNumbered d' below

abbrev pub TurningDownIsSilent : Type 0
TurningDownIsSilent = (d : DifSeen) (at : ℕ) (state : PortState) (d' : DifSeen) → IsTurnedDown d at state d' → IsSilent d d'

abbrev pub TurningDownAccounts : Type 0
TurningDownAccounts = (d : DifSeen) (lines : List Direction) (below : Seen) (at : ℕ) (state : PortState) (d' : DifSeen) →
    IsStanding d lines below → IsNumbered d below → IsAccounted d lines below → IsTurnedDown d at state d' → IsAccounted d' lines below

abbrev pub TurningDownWritesNothing : Type 0
TurningDownWritesNothing = (d : DifSeen) (at : ℕ) (state : PortState) (d' : DifSeen) → IsTurnedDown d at state d' → Writes Nothing d d'
