-- The chart of what notes show.
use Rattle.std.specs.Prelude.{ℕ, List, length, Option}
use Rattle.rina_report.specs.declared.note.Note.{Note}
use Rattle.rina_view.specs.declared.shown.End.{End}
use Rattle.rina_view.specs.declared.shown.Off.{Off}
use Rattle.rina_view.specs.Shown.{ends_in, offs_in}
use Rattle.rina_chart.specs.declared.mark.Mark.{Mark}
use Rattle.rina_chart.specs.declared.program.Format.{Format}
use Rattle.rina_chart.specs.declared.program.Format.TheVariants.{Svg, Columns}
use Rattle.rina_chart.specs.declared.sdu.Sdu.{Sdu}
use Rattle.rina_chart.specs.declared.frame.Frame.{Frame}
use Rattle.rina_chart.specs.declared.window.Window.{Window}
use Rattle.rina_chart.specs.Columns.{columns}
use Rattle.rina_chart.specs.Events.{events_in, shown_marks, shown_sdus}
use Rattle.rina_chart.specs.Frames.{frame_of}
use Rattle.rina_chart.specs.Marks.{marks_of}
use Rattle.rina_chart.specs.Sdus.{nodes_of, sdus_of, window_or}
use Rattle.rina_chart.specs.Shapes.{picture}
use Rattle.rina_chart.specs.Svg.{document}

abbrev pub framed_text : List ℕ → List (List ℕ) → List Sdu → Frame → List ℕ
framed_text fac nodes sdus frame = document fac frame (picture frame nodes sdus)

abbrev pub text_of : List ℕ → Option Window → List (List ℕ) → List Sdu → List ℕ
text_of fac window nodes sdus = framed_text fac nodes sdus (frame_of (window_or window sdus) (length nodes))

-- the chart of ends of flows: of the SDUs that were sent over flows of the facility, with a lifeline for each node that has an end of one
unfoldable pub drawn_text : List ℕ → Option Window → List End → List Off → List ℕ
drawn_text fac window ends offs = text_of fac window (nodes_of fac ends) (sdus_of fac (nodes_of fac ends) ends offs)

-- the chart of what notes show
abbrev pub chart_text : List ℕ → Option Window → List Note → List ℕ
chart_text fac window notes = drawn_text fac window (ends_in notes) (offs_in notes)

-- the rows of a chart in columns, of the SDUs that were sent over flows of the facility and of its ends that failed
abbrev pub laid_by : List ℕ → Option Window → List (List ℕ) → List Mark → List Sdu → List ℕ
laid_by fac window nodes marks sdus = columns fac window nodes (events_in (shown_marks window marks) (shown_sdus window sdus))

-- the chart of ends of flows in columns
unfoldable pub laid_out : List ℕ → Option Window → List End → List Off → List Note → List ℕ
laid_out fac window ends offs notes = laid_by fac window (nodes_of fac ends) (marks_of fac (nodes_of fac ends) notes) (sdus_of fac (nodes_of fac ends) ends offs)

-- the chart of what notes show, in columns
abbrev pub columns_text : List ℕ → Option Window → List Note → List ℕ
columns_text fac window notes = laid_out fac window (ends_in notes) (offs_in notes) notes

-- the chart in a form
abbrev pub text_in : Format → List ℕ → Option Window → List Note → List ℕ
text_in Svg fac window notes = chart_text fac window notes
text_in Columns fac window notes = columns_text fac window notes
