-- What happens to the SDUs of a facility, tick by tick.
use Rattle.std.specs.Prelude.{ℕ, ◌+◌, ◌==◌, ◌&&◌, Bool, true, false, nat_le, max, List, [], ◌∷◌, ◌++◌, Option, Some, None, if◌then◌else◌}
use Rattle.std.specs.List.{filter, filter_map, flat_map, range_with_len}
use Rattle.rina_chart.specs.declared.event.Event.{Event}
use Rattle.rina_chart.specs.declared.event.Event.TheVariants as events
use Rattle.rina_chart.specs.declared.mark.Mark.{Mark}
use Rattle.rina_chart.specs.declared.sdu.Sdu.{Sdu}
use Rattle.rina_chart.specs.declared.window.Window.{Window}
use Rattle.rina_chart.specs.Sdus.{last_tick, latest, meets}

abbrev pub ended_by : Sdu → Option ℕ → Event
ended_by s None = events.NotGot s
ended_by s (Some tick) = events.Got s

-- an SDU arrived, or did not
abbrev pub ended : Sdu → Event
ended s = ended_by s s.got

-- what happens to an SDU at a tick: at its last tick it arrived, or it was sent and does not arrive; at the tick of its sending it was sent, where it
-- arrives later
unfoldable pub event_at : ℕ → Sdu → Option Event
event_at tick s = if last_tick s == tick then Some (ended s) else if s.sent == tick then Some (events.Sent s) else None

-- an end failed at a tick
unfoldable pub failed_at : ℕ → Mark → Option Event
failed_at tick m = if m.failed.at == tick then Some (events.Failed m) else None

-- what happens at a tick: the ends that failed, and then the SDUs, each in their order
unfoldable pub events_at : List Mark → List Sdu → ℕ → List Event
events_at marks ss tick = filter_map (failed_at tick) marks ++ filter_map (event_at tick) ss

-- the greatest of a tick and those of failures
abbrev pub last_mark : ℕ → List Mark → ℕ
last_mark last [] = last
last_mark last (m ∷ marks) = last_mark (max last m.failed.at) marks

-- the last tick at which something happens
abbrev pub last_of : List Mark → List Sdu → ℕ
last_of marks ss = last_mark (latest 0 ss) marks

-- what happens, tick by tick from 0 to the last one
abbrev pub events_in : List Mark → List Sdu → List Event
events_in marks ss = flat_map (events_at marks ss) (range_with_len 0 (last_of marks ss + 1))

-- an SDU is sent, under way or got in the window that is asked for, where one is
abbrev pub is_shown : Option Window → Sdu → Bool
is_shown None s = true
is_shown (Some w) s = meets w s

-- an end failed in the window that is asked for, where one is
abbrev pub is_shown_mark : Option Window → Mark → Bool
is_shown_mark None m = true
is_shown_mark (Some w) m = nat_le w.from m.failed.at && nat_le m.failed.at w.to

abbrev pub shown_sdus : Option Window → List Sdu → List Sdu
shown_sdus window ss = filter (is_shown window) ss

abbrev pub shown_marks : Option Window → List Mark → List Mark
shown_marks window marks = filter (is_shown_mark window) marks

-- a row tells that an SDU arrived, or that it did not
abbrev pub is_got : Event → Bool
is_got (events.Got s) = true
is_got event = false

abbrev pub is_not_got : Event → Bool
is_not_got (events.NotGot s) = true
is_not_got event = false
