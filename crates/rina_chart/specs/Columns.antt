-- The text of a chart in columns.
use Rattle.std.specs.Prelude.{ℕ, ◌-◌, ◌&&◌, nat_le, length, List, [], ◌∷◌, ◌++◌, codes, map, replicate, Option, Some, None, if◌then◌else◌}
use Rattle.std.specs.Fmt.{decimal}
use Rattle.std.specs.List.{flat_map}
use Rattle.rina_report.specs.Values.{flow_text, num_text}
use Rattle.rina_chart.specs.declared.event.Event.{Event}
use Rattle.rina_chart.specs.declared.event.Event.TheVariants as events
use Rattle.rina_chart.specs.declared.mark.Failure.{Failure}
use Rattle.rina_chart.specs.declared.mark.Failure.TheVariants.{Cut, GaveUp}
use Rattle.rina_chart.specs.declared.sdu.Sdu.{Sdu}
use Rattle.rina_chart.specs.declared.window.Window.{Window}
use Rattle.rina_chart.specs.Lanes.{cells_from, lane_width, name_cells, stroke_of}
use Rattle.rina_chart.specs.Sdus.{last_tick}

-- the tick of an event
unfoldable pub event_tick : Event → ℕ
event_tick (events.Failed m) = m.failed.at
event_tick (events.Sent s) = s.sent
event_tick (events.NotGot s) = s.sent
event_tick (events.Got s) = last_tick s

-- the name of its flow and the number of an SDU
unfoldable pub sdu_words : Sdu → List ℕ
sdu_words s = flow_text s.flow ++ 32 ∷ num_text s.num

-- an SDU that arrived, and after how many ticks
unfoldable pub got_words : Sdu → List ℕ
got_words s = sdu_words s ++ codes " after " ++ decimal (last_tick s - s.sent)

unfoldable pub not_got_words : Sdu → List ℕ
not_got_words s = sdu_words s ++ codes " not got"

unfoldable pub why_words : Failure → List ℕ
why_words Cut = codes " cut"
why_words GaveUp = codes " gave up"

-- what an event is
unfoldable pub event_words : Event → List ℕ
event_words (events.Failed m) = flow_text m.flow ++ why_words m.failed.why
event_words (events.Sent s) = sdu_words s
event_words (events.Got s) = got_words s
event_words (events.NotGot s) = not_got_words s

-- a tick in eight columns, at the right, and two columns behind it
unfoldable pub tick_cell : ℕ → List ℕ
tick_cell tick = replicate (8 - length (decimal tick)) 32 ++ decimal tick ++ codes "  "

-- the row of an event: its tick, the lifelines, and what it is
unfoldable pub row_text : ℕ → List (List ℕ) → Event → List ℕ
row_text width nodes e = tick_cell (event_tick e) ++ cells_from width (stroke_of e) 0 nodes ++ event_words e ++ 10 ∷ []

-- a byte as it is shown: itself from space to `~`, else `?`
unfoldable pub printable : ℕ → ℕ
printable b = if nat_le 32 b && nat_le b 126 then b else 63

-- the window that is asked for, where one is
unfoldable pub title_window : Option Window → List ℕ
title_window None = []
title_window (Some w) = codes ", ticks " ++ decimal w.from ++ codes " to " ++ decimal w.to

-- the facility, and the window that is asked for
unfoldable pub title : List ℕ → Option Window → List ℕ
title fac window = codes "SDUs of " ++ map printable fac ++ title_window window ++ 10 ∷ []

-- the names of the columns: each node's above its lifeline
unfoldable pub head_line : ℕ → List (List ℕ) → List ℕ
head_line width nodes = codes "    tick  " ++ name_cells width nodes ++ codes "SDU\n"

-- a chart in columns: the facility, the names of the columns, and a row for each event, in their order
unfoldable pub columns : List ℕ → Option Window → List (List ℕ) → List Event → List ℕ
columns fac window nodes events = title fac window ++ head_line (lane_width nodes) nodes ++ flat_map (row_text (lane_width nodes) nodes) events
