-- The ends of flows of a facility that failed at a tick.
use Rattle.std.specs.Prelude.{ℕ, Bool, List, Option, Some, None, option_map, if◌then◌else◌}
use Rattle.std.specs.List.{filter_map}
use Rattle.std.specs.Str.{bytes_eq}
use Rattle.rina_report.specs.declared.answer.Answer.{Answer}
use Rattle.rina_report.specs.declared.answer.Answer.TheVariants as answers
use Rattle.rina_report.specs.declared.answer.FlowNote.{FlowNote}
use Rattle.rina_report.specs.declared.note.Note.{Note}
use Rattle.rina_report.specs.declared.note.Note.TheVariants as notes
use Rattle.rina_report.specs.declared.state.FailNote.{FailNote}
use Rattle.rina_report.specs.declared.state.FailNote.TheVariants as fails
use Rattle.rina_report.specs.declared.state.StateNote.{StateNote}
use Rattle.rina_report.specs.declared.state.StateNote.TheVariants as states
use Rattle.rina_chart.specs.declared.mark.Failed.{Failed}
use Rattle.rina_chart.specs.declared.mark.Failure.{Failure}
use Rattle.rina_chart.specs.declared.mark.Failure.TheVariants.{Cut, GaveUp}
use Rattle.rina_chart.specs.declared.mark.Mark.{Mark}
use Rattle.rina_chart.specs.Sdus.{place_of}

abbrev pub failed : ℕ → Failure → Failed
failed at why = record { at = at; why = why }

-- when an end failed: as its wire was cut, or as it gave up; where the port below failed no tick is told
abbrev pub failed_of : FailNote → Option Failed
failed_of (fails.GaveUp num first now) = Some (failed now GaveUp)
failed_of (fails.Below port) = None
failed_of (fails.Cut at) = Some (failed at Cut)

abbrev pub failed_in : StateNote → Option Failed
failed_in (states.Failed fail) = failed_of fail
failed_in state = None

abbrev pub mark : List (List ℕ) → FlowNote → Failed → Mark
mark nodes flow f = record { flow = flow.flow; place = place_of nodes flow.port.node; failed = f }

-- an end that failed, on the lifeline of its node
unfoldable pub mark_in : List (List ℕ) → FlowNote → Option Mark
mark_in nodes flow = option_map (mark nodes flow) (failed_in flow.state)

unfoldable pub is_flow_of : List ℕ → FlowNote → Bool
is_flow_of fac flow = bytes_eq flow.port.fac fac

abbrev pub mark_by_answer : List ℕ → List (List ℕ) → Answer → Option Mark
mark_by_answer fac nodes (answers.Flow flow) = if is_flow_of fac flow then mark_in nodes flow else None
mark_by_answer fac nodes answer = None

-- the end of a flow of the facility that a note shows as failed
unfoldable pub mark_at : List ℕ → List (List ℕ) → Note → Option Mark
mark_at fac nodes (notes.Line line tick answer) = mark_by_answer fac nodes answer
mark_at fac nodes note = None

-- the ends of flows of a facility that notes show as failed, in their order
abbrev pub marks_of : List ℕ → List (List ℕ) → List Note → List Mark
marks_of fac nodes ns = filter_map (mark_at fac nodes) ns
