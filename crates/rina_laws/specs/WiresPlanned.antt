-- What the stack says of a wire is what each run goes by.
use Rattle.std.specs.Prelude.{◌≡◌, ℕ, List, slice_get, Some}
use Rattle.rina_policy.specs.Slots.{Slot}
use Rattle.rina_report.specs.declared.note.Note.{Note}
use Rattle.rina_stack.specs.declared.plan.Plan.{Plan}
use Rattle.rina_stack.specs.declared.plan.WirePlan.{WirePlan}
use Rattle.rina_wire.specs.Air.{Line, wire_at}
use Rattle.rina_wire.specs.Storm.{draws_at}
use Rattle.rina_words.specs.Step.{Stage}
use Rattle.rina_run.specs.Opening.{IsOpening}
use Rattle.rina_run.specs.Run.{Runs}
use Rattle.rina_laws.specs.Frames.{wires_of}

-- the wire joins the systems that the stack says, with the delay, the life, the largest SDU and the storm that it says
abbrev pub IsAsLaid : WirePlan → Line → Type 0
IsAsLaid w l = (l.a ≡ w.a) × (l.b ≡ w.b) × (l.delay ≡ w.delay) × (l.life ≡ w.life) × (l.largest ≡ w.largest) × (l.storm ≡ w.storm)

-- in every run of a stack, at every moment, so is each wire
abbrev pub WiresStayAsPlanned : Type 0
WiresStayAsPlanned =
    (plan : Plan) (shelf : List Slot) (start : Stage) (lines : List (List ℕ)) (ns : List Note) (s : Stage) → IsOpening plan shelf start → Runs plan 1 start lines ns s
    → (fac : ℕ) (w : WirePlan) (l : Line) → slice_get plan.wires fac ≡ Some w → wire_at (wires_of s.run.tower) fac ≡ Some l → IsAsLaid w l

-- in every run of a stack, at every moment, the generator of each wire is the one that its storm's seed gives once it has drawn for the frames that the wire
-- accepted: nothing else draws
abbrev pub WiresDrawByFrames : Type 0
WiresDrawByFrames =
    (plan : Plan) (shelf : List Slot) (start : Stage) (lines : List (List ℕ)) (ns : List Note) (s : Stage) → IsOpening plan shelf start → Runs plan 1 start lines ns s
    → (fac : ℕ) (w : WirePlan) (l : Line) → slice_get plan.wires fac ≡ Some w → wire_at (wires_of s.run.tower) fac ≡ Some l → l.draws ≡ draws_at w.storm l.frames
