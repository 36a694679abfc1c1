-- What it is that an IPC process of a DIF asks to enrol at a member: it asks the rank below its own for a flow to that member, and takes its end as a
-- new link.
use Rattle.std.specs.Prelude.{◌≡◌, ℕ, true, false, slice_get, Option, Some, None, Result, Err}
use Rattle.rina_base.specs.declared.number.Port.{Port}
use Rattle.rina_iface.specs.declared.ask.Ask.{Ask}
use Rattle.rina_iface.specs.declared.error.AllocateError.{AllocateError}
use Rattle.rina_iface.specs.Seen.{Seen}
use Rattle.rina_dif_law.specs.Upward.{IsSilent}
use Rattle.rina_dif.specs.declared.dif.Dif.{Dif}
use Rattle.rina_dif.specs.declared.enrol.EnrolError.{EnrolError}
use Rattle.rina_dif.specs.declared.enrol.EnrolError.TheVariants.{Memory, NoIpc}
use Rattle.rina_dif.specs.Elsewhere.{ChangesProcess, home_of}
use Rattle.rina_dif.specs.Enrolling.{AllocatesAsSeen, AllocatesBelow, EnrolsAs}
use Rattle.rina_dif.specs.Facade.{GoesOn, NotesMemory, OthersStand}
use Rattle.rina_dif.specs.Holding.{Stands}
use Rattle.rina_dif.specs.Shown.{seen_of as seen_of_dif}
use Rattle.rina_tower.specs.declared.tower.Tower.{Tower, Wires, Rank'}
use Rattle.rina_tower.specs.Calls.{AllocatesWhole}
use Rattle.rina_tower.specs.Levels.{AtDif, AtRank, SameBelow}
use Rattle.rina_tower.specs.Ranks.{seen_of}
use Rattle.rina_tower.specs.Refusals.{refuses_allocate}
use Rattle.rina_tower.specs.Unchanged.{ChangesJoiner}

-- what `enrol` does at a DIF, over what the rank below shows before and after, where `refuses` is what the facilities below refuse by what they alone know.
-- The DIF stands on; no end of its own sends or passes anything; the other DIFs of its rank stand on; and no IPC process of another node changes
pub record EnrolsOne (refuses : Ask → Option AllocateError) (below : Seen) (node fac peer : ℕ) (result : Result (Unit {0}) EnrolError) (below' : Seen) (d d' : Dif) : Type 0 where
  pub does : d.failed ≡ false → EnrolsAs refuses d below node fac peer result d' below'
  pub failed : d.failed ≡ true → (result ≡ Err Memory) × (d' ≡ d) × (below' ≡ below)
  pub notes : NotesMemory d d' result (Err Memory)
  pub stands : Stands d' below'
  pub goes_on : GoesOn d d'
  pub silent : IsSilent (seen_of_dif d) (seen_of_dif d')
  pub others : OthersStand d below below'
  pub settings : d'.settings ≡ d.settings
  pub laid : d'.laid ≡ d.laid
  pub rest : ChangesJoiner d d'
  pub leaves : ChangesProcess (home_of d node) d.processes d'.processes

-- the DIF asks the rank below once, where it refuses nothing; where there is no such DIF nothing is asked
abbrev pub AsksBelow : Type 0 → (Ask → Result Port AllocateError → Type 0) → Option Dif → ℕ → ℕ → ℕ → Result (Unit {0}) EnrolError → Type 0
AsksBelow same asks None node fac peer result = same
AsksBelow same asks (Some d) node fac peer result = AllocatesBelow same asks d node fac peer result

-- at the top rank: the DIF of that place enrols over the rank below, where the flow is asked for and nothing else changes
abbrev pub EnrolsAtTop : ℕ → ℕ → ℕ → ℕ → Result (Unit {0}) EnrolError → Tower → Tower → Type 0
EnrolsAtTop dif node fac peer result (Wires a) (Wires a') = (result ≡ Err NoIpc) × (a' ≡ a)
EnrolsAtTop dif node fac peer result (Rank' p difs below) (Rank' p' difs' below') =
    AtDif dif (EnrolsOne (refuses_allocate below) (seen_of below) node fac peer result (seen_of below')) ((result ≡ Err NoIpc) × (below' ≡ below)) difs difs' × SameBelow below below'
    × AsksBelow (below' ≡ below) (AllocatesAsSeen seen_of refuses_allocate AllocatesWhole below below') (slice_get difs dif) node fac peer result
EnrolsAtTop dif node fac peer result t t' = ⊥

-- at rank r
abbrev pub EnrolsAt : ℕ → ℕ → ℕ → ℕ → ℕ → Result (Unit {0}) EnrolError → Tower → Tower → Type 0
EnrolsAt r dif node fac peer result t t' = AtRank r (EnrolsAtTop dif node fac peer result) (result ≡ Err NoIpc) t t'
