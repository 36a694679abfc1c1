-- The shapes of a picture.
use Rattle.std.specs.Prelude.{ℕ, ◌+◌, ◌-◌, ◌*◌, ◌/◌, ◌==◌, ◌&&◌, Bool, true, false, not, zero, suc, nat_le, nat_lt, min, List, [], ◌∷◌, ◌++◌, count_by, map, Option, Some, None, if◌then◌else◌}
use Rattle.rina_chart.specs.declared.frame.Frame.{Frame}
use Rattle.rina_chart.specs.declared.sdu.Sdu.{Sdu}
use Rattle.rina_chart.specs.declared.shape.Anchor.{Anchor}
use Rattle.rina_chart.specs.declared.shape.Label.{Label}
use Rattle.rina_chart.specs.declared.shape.Point.{Point}
use Rattle.rina_chart.specs.declared.shape.Shape.{Shape}
use Rattle.rina_chart.specs.declared.shape.Shape.TheVariants as shapes
use Rattle.rina_chart.specs.declared.window.Window.{Window}
use Rattle.rina_chart.specs.Frames.{picture_height, picture_width, span_of, step_of, top_of, x_beside, x_of, y_of}
use Rattle.rina_chart.specs.Sdus.{last_tick, meets}

abbrev pub at_point : ℕ → ℕ → Point
at_point x y = record { x = x; y = y }

-- the point of a lifeline at a tick
abbrev pub point_at : Frame → ℕ → ℕ → Point
point_at frame place tick = at_point (x_of place) (y_of frame.scale tick)

-- the arrow of an SDU points to the left
abbrev pub is_leftward : Sdu → Bool
is_leftward s = nat_lt s.to s.from

-- the end of the stub of an SDU that did not arrive: 24 units from the sender's lifeline, towards the receiver's
abbrev pub stub : Frame → Sdu → Point
stub frame s = at_point (x_beside s.from 24 (is_leftward s)) (y_of frame.scale s.sent)

abbrev pub anchor : ℕ → ℕ → Bool → Anchor
anchor place tick leftward = record { place = place; tick = tick; leftward = leftward }

-- a label at the sender, or at the receiver, on the side of the arrow
abbrev pub start_anchor : Sdu → Anchor
start_anchor s = anchor s.from s.sent (is_leftward s)

abbrev pub end_anchor : Sdu → Anchor
end_anchor s = anchor s.to (last_tick s) (not (is_leftward s))

-- where the label of an SDU stands: at its sender, or at its receiver where it was sent before the window
unfoldable pub anchor_of : Window → Sdu → Anchor
anchor_of w s = if nat_le w.from s.sent then start_anchor s else end_anchor s

-- how far above its line a label stands that has so many labels below it; with four and more they stand in one place
abbrev pub rise : ℕ → ℕ
rise below = 7 + 12 * min below 4

abbrev pub label_at : Frame → ℕ → Sdu → Anchor → Label
label_at frame below s a = record {
  at = at_point (x_beside a.place 8 a.leftward) (y_of frame.scale a.tick - rise below);
  leftward = a.leftward;
  flow = s.flow;
  num = s.num;
}

-- the label of an SDU that has so many labels below it
unfoldable pub label_of : Frame → ℕ → Sdu → Label
label_of frame below s = label_at frame below s (anchor_of frame.window s)

abbrev pub shape_by : Frame → ℕ → Sdu → Option ℕ → Shape
shape_by frame below s None = shapes.Cross (point_at frame s.from s.sent) (stub frame s) (label_of frame below s)
shape_by frame below s (Some tick) = shapes.Arrow (point_at frame s.from s.sent) (point_at frame s.to tick) (label_of frame below s)

-- an SDU that arrived is an arrow, from its sender's lifeline at the tick of sending to its receiver's at the tick of arrival; one that did not is a
-- stub with a cross
unfoldable pub sdu_shape : Frame → ℕ → Sdu → Shape
sdu_shape frame below s = shape_by frame below s s.got

-- another SDU of the window was sent by the same node at the same tick
unfoldable pub begins_beside : Window → Sdu → Sdu → Bool
begins_beside w s other = meets w other && (other.from == s.from) && (other.sent == s.sent)

-- the shape of an SDU before others, where it meets the window; of labels in one place, that of the first SDU stands highest
abbrev pub one_shape : Frame → Sdu → List Sdu → List Shape
one_shape frame s later = if meets frame.window s then sdu_shape frame (count_by (begins_beside frame.window s) later) s ∷ [] else []

-- a shape for each SDU that meets the window, in order
abbrev pub sdu_shapes : Frame → List Sdu → List Shape
sdu_shapes frame [] = []
sdu_shapes frame (s ∷ later) = one_shape frame s later ++ sdu_shapes frame later

-- the line of a tick
abbrev pub tick_shape : Frame → ℕ → Shape
tick_shape frame tick = shapes.Tick tick (y_of frame.scale tick) (picture_width frame)

-- so many ticks from one on, each so much behind the one before
abbrev pub ticks_from : ℕ → ℕ → ℕ → List ℕ
ticks_from step tick zero = []
ticks_from step tick (suc count) = tick ∷ ticks_from step (min (tick + step) 4294967295) count

-- the ticks that are labelled, from the first of the window to its last
abbrev pub labelled : Window → List ℕ
labelled w = ticks_from (step_of (span_of w)) w.from (span_of w / step_of (span_of w) + 1)

unfoldable pub tick_shapes : Frame → List Shape
tick_shapes frame = map (tick_shape frame) (labelled frame.window)

-- the lifeline of a node, from below its name to the end of the picture
unfoldable pub lifeline : Frame → ℕ → List ℕ → Shape
lifeline frame place node = shapes.Lifeline (at_point (x_of place) (top_of frame + 60)) (at_point (x_of place) (top_of frame + picture_height frame)) node

-- the lifelines of nodes, from a place on
abbrev pub lifelines_from : Frame → ℕ → List (List ℕ) → List Shape
lifelines_from frame place [] = []
lifelines_from frame place (node ∷ nodes) = lifeline frame place node ∷ lifelines_from frame (place + 1) nodes

-- the head, in which the names of the nodes stand
abbrev pub band : Frame → Shape
band frame = shapes.Band (top_of frame) (picture_width frame)

-- the shapes of a picture, in the order in which they are drawn: the labelled ticks, an arrow or a cross for each SDU that meets the window, the
-- head, and the lifelines
abbrev pub picture : Frame → List (List ℕ) → List Sdu → List Shape
picture frame nodes sdus = tick_shapes frame ++ sdu_shapes frame sdus ++ band frame ∷ lifelines_from frame 0 nodes

-- an SDU that arrived, or did not, and meets the window
abbrev pub is_arrow : Shape → Bool
is_arrow (shapes.Arrow from to label) = true
is_arrow shape = false

abbrev pub is_cross : Shape → Bool
is_cross (shapes.Cross from to label) = true
is_cross shape = false
