-- What the steps of the DIFs do at rank r of a tower.
use Rattle.std.specs.Prelude.{◌≡◌, ℕ, false, List, [], slice_get, Option, Some, None, Result, Err, OnErr}
use Rattle.rina_base.specs.declared.number.Port.{Port}
use Rattle.rina_iface.specs.declared.error.SendError.{SendError}
use Rattle.rina_iface.specs.Free.{FreesAsSeen}
use Rattle.rina_iface.specs.Pass.{PassesAsSeen}
use Rattle.rina_iface.specs.Seen.{Seen}
use Rattle.rina_iface.specs.Send.{SendsAsSeen}
use Rattle.rina_law.specs.Direction.{Direction}
use Rattle.rina_policy.specs.declared.policy.Head.{Head}
use Rattle.rina_policy.specs.Slots.{Slot}
use Rattle.rina_data.specs.declared.step.ClockStep.{ClockStep}
use Rattle.rina_data.specs.declared.step.InStep.{InStep}
use Rattle.rina_data.specs.declared.step.OutStep.{OutStep}
use Rattle.rina_data.specs.declared.step.StepError.{StepError}
use Rattle.rina_data.specs.declared.step.StepError.TheVariants.{Memory, NoIpc}
use Rattle.rina_data.specs.Configs.{config_of}
use Rattle.rina_data.specs.Lower.{PassesBelow, SendsBelow}
use Rattle.rina_data.specs.Outgoing.{IsHeld}
use Rattle.rina_dif.specs.declared.dif.Dif.{Dif}
use Rattle.rina_dif.specs.Clocking.{ClockSteps, FailsLate}
use Rattle.rina_dif.specs.Elsewhere.{ChangesOnly, ChangesProcess, MayClock, MayTake, home_of}
use Rattle.rina_dif.specs.Facade.{NotesMemory}
use Rattle.rina_dif.specs.Holding.{Holds}
use Rattle.rina_dif.specs.Lower.{ClocksBelow, name_here}
use Rattle.rina_dif.specs.Shown.{seen_of as seen_of_dif}
use Rattle.rina_dif.specs.Steps.{AsksHome, OutsAt}
use Rattle.rina_dif.specs.Taking.{TakesHome}
use Rattle.rina_tower.specs.declared.tower.Tower.{Tower, Wires, Rank'}
use Rattle.rina_tower.specs.Calls.{ClaimsAtTop, FreesWhole, PassesAtTop, SendsWhole}
use Rattle.rina_tower.specs.StepEffect.{StandsAfter}
use Rattle.rina_tower.specs.Ranks.{seen_of}
use Rattle.rina_tower.specs.Refusals.{frees_both, refuses_send}
use Rattle.rina_tower.specs.Levels.{AtDif, AtRank, SameBelow}
use Rattle.rina_tower.specs.Unchanged.{ChangesByClock, ChangesConnections, ChangesProcesses}

-- What comes

-- a DIF takes the oldest SDU of a link; of the ends that stand, with their connections, it changes at most those of the member at that node, be it that the PDU
-- came to one or that messages about flows did; it may make ends, and it changes no IPC process of another node
pub record TakesOne (below : Seen) (node link : ℕ) (result : Result InStep StepError) (below' : Seen) (d d' : Dif) : Type 0 where
  pub does : (lines : List Direction) → Holds d lines below → TakesHome d lines below node link result d' below'
  pub after : StandsAfter below below' d d'
  pub rest : ChangesConnections d d'
  pub notes : NotesMemory d d' result (Err Memory)
  pub leaves : ChangesOnly (MayTake result d (home_of d node)) (home_of d node) d d'

-- at the top rank: the DIF of that place, over the rank below, where one SDU is passed at most and nothing else changes
abbrev pub InStepsAtTop : ℕ → ℕ → ℕ → Result InStep StepError → Tower → Tower → Type 0
InStepsAtTop dif node link result (Wires a) (Wires a') = (result ≡ Err NoIpc) × (a' ≡ a)
InStepsAtTop dif node link result (Rank' p difs below) (Rank' p' difs' below') =
    AtDif dif (TakesOne (seen_of below) node link result (seen_of below')) ((result ≡ Err NoIpc) × (below' ≡ below)) difs difs' × SameBelow below below'
    × PassesBelow (below' ≡ below) (PassesAsSeen seen_of (λ t port t'. PassesAtTop port t t') below below') result
InStepsAtTop dif node link result t t' = ⊥

-- at rank r
abbrev pub InSteps : ℕ → ℕ → ℕ → ℕ → Result InStep StepError → Tower → Tower → Type 0
InSteps r dif node link result t t' = AtRank r (InStepsAtTop dif node link result) (result ≡ Err NoIpc) t t'

-- What leaves

-- a DIF lets a PDU go that the shelf picks, or holds it where the flow below refuses it for now, and no IPC process of another node changes; `may` is what the policies may answer
pub record SendsOne (refuses : Port → ℕ → Option SendError) (may : List ℕ → ℕ → List Head → ℕ → Type 0) (slots slots' : List Slot) (below : Seen) (node link : ℕ) (result : Result OutStep StepError) (below' : Seen) (d d' : Dif) : Type 0 where
  pub does : OutsAt refuses (seen_of_dif d) below node link result (seen_of_dif d') below'
  pub after : StandsAfter below below' d d'
  pub rest : ChangesProcesses d d'
  pub leaves : ChangesProcess (home_of d node) d.processes d'.processes
  pub shelf : d.failed ≡ false → AsksHome (may d.settings.policy) (IsHeld refuses (config_of d.settings) d.clock below link) d.settings node link slots slots' d.processes result d'.processes
  pub notes : NotesMemory d d' result (Err Memory)

-- over the rank below, where one SDU is sent at most, or refused, and nothing else changes
abbrev pub OutStepsAtTop : (List ℕ → ℕ → List Head → ℕ → Type 0) → List Slot → List Slot → ℕ → ℕ → ℕ → Result OutStep StepError → Tower → Tower → Type 0
OutStepsAtTop may slots slots' dif node link result (Wires a) (Wires a') = (result ≡ Err NoIpc) × (slots' ≡ slots) × (a' ≡ a)
OutStepsAtTop may slots slots' dif node link result (Rank' p difs below) (Rank' p' difs' below') =
    AtDif dif (SendsOne (refuses_send below) may slots slots' (seen_of below) node link result (seen_of below')) ((result ≡ Err NoIpc) × (slots' ≡ slots) × (below' ≡ below)) difs difs' × SameBelow below below'
    × SendsBelow (below' ≡ below) (SendsAsSeen seen_of refuses_send SendsWhole below below') result
OutStepsAtTop may slots slots' dif node link result t t' = ⊥

abbrev pub OutSteps : (List ℕ → ℕ → List Head → ℕ → Type 0) → List Slot → List Slot → ℕ → ℕ → ℕ → ℕ → Result OutStep StepError → Tower → Tower → Type 0
OutSteps may slots slots' r dif node link result t t' =
    AtRank r (OutStepsAtTop may slots slots' dif node link result) ((result ≡ Err NoIpc) × (slots' ≡ slots)) t t'

-- What comes with time

-- a DIF does the first thing that is due at a node; a flow fails only for its causes. Of the ends, with their connections,
-- it changes at most the one whose CEP-id or port it tells, or, where a link is lost, those of the node; and no IPC process of
-- another node. Where a link is lost or new, the management of the member there loses or gets it; no other management changes
pub record ClocksOne (below : Seen) (node : ℕ) (result : Result ClockStep StepError) (below' : Seen) (d d' : Dif) : Type 0 where
  pub does : (lines : List Direction) → Holds d lines below → ClockSteps d lines below node result d' below'
  pub fails : (lines : List Direction) → Holds d lines below → FailsLate d lines below d'
  pub stays : OnErr result (d'.connections ≡ d.connections)
  pub after : StandsAfter below below' d d'
  pub rest : ChangesByClock d d'
  pub notes : NotesMemory d d' result (Err Memory)
  pub leaves : ChangesOnly (MayClock result d (home_of d node)) (home_of d node) d d'

-- the name of a member of a DIF, in which far ends are claimed below
abbrev pub name_among : Option Dif → ℕ → List ℕ
name_among None node = []
name_among (Some d) node = name_here d node

-- of the member at a node of the DIF of that place
abbrev pub claimant : List Dif → ℕ → ℕ → List ℕ
claimant difs dif node = name_among (slice_get difs dif) node

-- over the rank below, where one far end is claimed at most, and one port is freed at most, for a link whose management connection gives a number up, and
-- nothing else changes
abbrev pub ClocksAtTop : ℕ → ℕ → Result ClockStep StepError → Tower → Tower → Type 0
ClocksAtTop dif node result (Wires a) (Wires a') = (result ≡ Err NoIpc) × (a' ≡ a)
ClocksAtTop dif node result (Rank' p difs below) (Rank' p' difs' below') =
    AtDif dif (ClocksOne (seen_of below) node result (seen_of below')) ((result ≡ Err NoIpc) × (below' ≡ below)) difs difs' × SameBelow below below'
    × ClocksBelow (λ t fac answer t'. ClaimsAtTop fac node (claimant difs dif node) answer t t') (FreesAsSeen seen_of frees_both FreesWhole) below result below'
ClocksAtTop dif node result t t' = ⊥

abbrev pub ClocksAt : ℕ → ℕ → ℕ → Result ClockStep StepError → Tower → Tower → Type 0
ClocksAt r dif node result t t' = AtRank r (ClocksAtTop dif node result) (result ≡ Err NoIpc) t t'
