-- The messages about flows in a whole run: those that wait at a member of a DIF, and those that are on its links.
use Rattle.std.specs.Prelude.{◌≡◌, ℕ, false, List, slice_get, Some}
use Rattle.rina_policy.specs.Slots.{Slot}
use Rattle.rina_report.specs.declared.note.Note.{Note}
use Rattle.rina_stack.specs.declared.plan.Plan.{Plan}
use Rattle.rina_dif.specs.declared.dif.Dif.{Dif}
use Rattle.rina_tower.specs.declared.tower.Tower.{Tower, Wires, Rank'}
use Rattle.rina_words.specs.Step.{Stage}
use Rattle.rina_run.specs.Opening.{IsOpening}
use Rattle.rina_run.specs.Run.{Runs}
use Rattle.rina_asked.specs.Alone.{AreAlone}
use Rattle.rina_asked.specs.Awaited.{AreAwaited}
use Rattle.rina_asked.specs.Ends.{HaveEnds}

-- this holds of a DIF, unless an allocation failed in it
abbrev pub WhileAlive : (Dif → Type 0) → Dif → Type 0
WhileAlive P d = d.failed ≡ false → P d

-- and of each DIF of each rank
abbrev pub OfEach : (Dif → Type 0) → Tower → Type 0
OfEach P (Wires a) = Unit {0}
OfEach P (Rank' p difs below) = ((n : ℕ) (d : Dif) → slice_get difs n ≡ Some d → P d) × OfEach P below

-- after any run of a stack from its opening
abbrev pub HoldsInRuns : (Dif → Type 0) → Type 0
HoldsInRuns P = (plan : Plan) (shelf : List Slot) (start : Stage) (lines : List (List ℕ)) (ns : List Note) (s : Stage) → IsOpening plan shelf start → Runs plan 1 start lines ns s → OfEach (WhileAlive P) s.run.tower

-- each message about a flow has its end in each DIF
abbrev pub MessagesHaveEnds : Type 0
MessagesHaveEnds = HoldsInRuns HaveEnds

-- and the asks for a flow are alone
abbrev pub AsksAreAlone : Type 0
AsksAreAlone = HoldsInRuns AreAlone

-- one message at most is there of each ask, and those of an ask that waits are of its own flow
abbrev pub AsksAreAwaited : Type 0
AsksAreAwaited = HoldsInRuns AreAwaited
