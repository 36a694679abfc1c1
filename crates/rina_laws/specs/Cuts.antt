-- Why flows of wires fail: a line of the schedule cut the wire.
use Rattle.std.specs.Prelude.{◌≡◌, ℕ, ◌+◌, List, slice_get, Some, Ok, Contains}
use Rattle.rina_iface.specs.declared.ends.End.{End}
use Rattle.rina_iface.specs.declared.state.Fail.{Fail}
use Rattle.rina_iface.specs.declared.state.Fail.TheVariants as fails
use Rattle.rina_iface.specs.declared.state.PortState.TheVariants.{Failed}
use Rattle.rina_iface.specs.Journal.{At}
use Rattle.rina_policy.specs.Slots.{Slot}
use Rattle.rina_report.specs.declared.answer.Answer.TheVariants.{Done}
use Rattle.rina_report.specs.declared.note.Note.{Note}
use Rattle.rina_report.specs.declared.note.Note.TheVariants as notes
use Rattle.rina_schedule.specs.declared.event.Event.TheVariants as events
use Rattle.rina_stack.specs.declared.plan.Plan.{Plan}
use Rattle.rina_wire.specs.Air.{Line, wire_at}
use Rattle.rina_schedule.specs.Line.{line_at}
use Rattle.rina_words.specs.Step.{Stage, wire_of}
use Rattle.rina_run.specs.Opening.{IsOpening}
use Rattle.rina_run.specs.Run.{Runs}
use Rattle.rina_laws.specs.Frames.{wires_of}

-- one of these lines cuts this wire, and its `ok` stands among the notes, with this tick
pub record IsCut (plan : Plan) (fac at : ℕ) (lines : List (List ℕ)) (ns : List Note) : Type 0 where
  pub before : ℕ
  pub line : List ℕ
  pub wire : List ℕ
  pub stands : slice_get lines before ≡ Some line
  pub asks : line_at line ≡ Ok (Some (events.Cut wire))
  pub names : wire_of plan wire ≡ Some fac
  pub told : Contains ns (notes.Line (before + 1) at Done)

-- a flow of this wire has failed for this reason only by a line that cut the wire
abbrev pub IsByCut : Plan → ℕ → List (List ℕ) → List Note → Fail → Type 0
IsByCut plan fac lines ns (fails.Cut at) = IsCut plan fac at lines ns
IsByCut plan fac lines ns fail = ⊥

-- in every run of a stack, each end of a wire that has failed did so by a line that cut the wire
abbrev pub FailuresAreCuts : Type 0
FailuresAreCuts =
    (plan : Plan) (shelf : List Slot) (start : Stage) (lines : List (List ℕ)) (ns : List Note) (s : Stage) → IsOpening plan shelf start → Runs plan 1 start lines ns s
    → (fac : ℕ) (l : Line) → wire_at (wires_of s.run.tower) fac ≡ Some l → (i : ℕ) (e : End) → At l.ends i e → (fail : Fail) → e.state ≡ Failed fail → IsByCut plan fac lines ns fail
