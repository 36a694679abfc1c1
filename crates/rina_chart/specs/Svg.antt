-- The text of a picture: an SVG document.
use Rattle.std.specs.Prelude.{ℕ, ◌+◌, ◌-◌, Bool, List, [], ◌∷◌, ◌++◌, codes, if◌then◌else◌}
use Rattle.std.specs.Fmt.{decimal}
use Rattle.std.specs.List.{flat_map}
use Rattle.rina_report.specs.Values.{flow_text, num_text}
use Rattle.rina_chart.specs.declared.frame.Frame.{Frame}
use Rattle.rina_chart.specs.declared.shape.Label.{Label}
use Rattle.rina_chart.specs.declared.shape.Point.{Point}
use Rattle.rina_chart.specs.declared.shape.Shape.{Shape}
use Rattle.rina_chart.specs.declared.shape.Shape.TheVariants as shapes
use Rattle.rina_chart.specs.Escapes.{escaped}
use Rattle.rina_chart.specs.Frames.{picture_height, picture_width, top_of}
use Rattle.rina_chart.specs.Shapes.{at_point}

-- NAME="N", with a space before it
unfoldable pub attribute : List ℕ → ℕ → List ℕ
attribute name n = 32 ∷ name ++ codes "=\"" ++ decimal n ++ 34 ∷ []

-- <ELEMENT class="CLASS"
unfoldable pub opening : List ℕ → List ℕ → List ℕ
opening element class = 60 ∷ element ++ codes " class=\"" ++ class ++ 34 ∷ []

-- the two ends of a line
unfoldable pub point_from : Point → List ℕ
point_from at = attribute (codes "x1") at.x ++ attribute (codes "y1") at.y

unfoldable pub point_to : Point → List ℕ
point_to at = attribute (codes "x2") at.x ++ attribute (codes "y2") at.y

-- a line
unfoldable pub line : List ℕ → Point → Point → List ℕ
line class from to = opening (codes "line") class ++ point_from from ++ point_to to ++ codes "/>\n"

-- a text at a point, opened, and its end
unfoldable pub text_opening : List ℕ → Point → List ℕ
text_opening class at = opening (codes "text") class ++ attribute (codes "x") at.x ++ attribute (codes "y") at.y ++ 62 ∷ []

unfoldable pub text_end : List ℕ
text_end = codes "</text>\n"

-- the class of a label that ends at its point, and of one that begins there
abbrev pub label_class : Bool → List ℕ
label_class leftward = if leftward then codes "back" else codes "label"

-- the flow and the number of an SDU
unfoldable pub label_text : Label → List ℕ
label_text label = text_opening (label_class label.leftward) label.at ++ flow_text label.flow ++ 32 ∷ num_text label.num ++ text_end

-- the line of an SDU and its label
abbrev pub labelled_line : List ℕ → Point → Point → Label → List ℕ
labelled_line class from to label = line class from to ++ label_text label

-- a tick at the left, and the line across the picture
unfoldable pub tick_text : ℕ → ℕ → ℕ → List ℕ
tick_text tick y width = line (codes "grid") (at_point 60 y) (at_point width y) ++ text_opening (codes "tick") (at_point 52 y) ++ decimal tick ++ text_end

-- a box that begins at the left
unfoldable pub box_attributes : ℕ → ℕ → ℕ → List ℕ
box_attributes y width height = attribute (codes "y") y ++ attribute (codes "width") width ++ attribute (codes "height") height

unfoldable pub rectangle : List ℕ → ℕ → ℕ → ℕ → List ℕ
rectangle class y width height = opening (codes "rect") class ++ box_attributes y width height ++ codes "/>\n"

-- a lifeline, and the name of its node above it
unfoldable pub lifeline_text : Point → Point → List ℕ → List ℕ
lifeline_text top bottom node = line (codes "life") top bottom ++ text_opening (codes "node") (at_point top.x (top.y - 8)) ++ escaped node ++ text_end

-- the text of a shape
unfoldable pub shape_text : Shape → List ℕ
shape_text (shapes.Tick tick y width) = tick_text tick y width
shape_text (shapes.Arrow from to label) = labelled_line (codes "got") from to label
shape_text (shapes.Cross from to label) = labelled_line (codes "lost") from to label
shape_text (shapes.Band y width) = rectangle (codes "band") y width 60
shape_text (shapes.Lifeline top bottom node) = lifeline_text top bottom node

-- the colours of a light page
unfoldable pub light_style : List ℕ
light_style = codes "text{font:12px sans-serif;fill:#1f2328}\n.page,.band{fill:#ffffff}\n.grid{stroke:#eaeef2}\n.tick{font-size:11px;text-anchor:end;dominant-baseline:middle;fill:#59636e}\n.life{stroke:#8c959f}\n.node{font-weight:bold;text-anchor:middle}\n.got{stroke:#0969da;stroke-width:1.5;marker-end:url(#tip)}\n.lost{stroke:#cf222e;stroke-width:1.5;marker-end:url(#end)}\n.tip{fill:#0969da}\n.end{fill:none;stroke:#cf222e;stroke-width:1.5}\n.label,.back{font-size:11px;stroke:#ffffff;stroke-width:3px;paint-order:stroke}\n.back{text-anchor:end}\n"

-- the colours of a dark page
unfoldable pub dark_style : List ℕ
dark_style = codes "@media (prefers-color-scheme: dark){\ntext{fill:#e6edf3}\n.page,.band{fill:#0d1117}\n.grid{stroke:#21262d}\n.tick{fill:#9198a1}\n.life{stroke:#6e7681}\n.got{stroke:#4493f8}\n.lost{stroke:#f85149}\n.tip{fill:#4493f8}\n.end{stroke:#f85149}\n.label,.back{stroke:#0d1117}\n}\n"

-- the tip of an arrow, and the cross at the end of a stub
unfoldable pub markers : List ℕ
markers = codes "<defs>\n<marker id=\"tip\" markerUnits=\"userSpaceOnUse\" markerWidth=\"9\" markerHeight=\"8\" refX=\"9\" refY=\"4\" orient=\"auto\"><path class=\"tip\" d=\"M0 0L9 4L0 8z\"/></marker>\n<marker id=\"end\" markerUnits=\"userSpaceOnUse\" markerWidth=\"10\" markerHeight=\"10\" refX=\"5\" refY=\"5\"><path class=\"end\" d=\"M1 1L9 9M1 9L9 1\"/></marker>\n</defs>\n"

-- colours and marks
unfoldable pub style : List ℕ
style = codes "<style>\n" ++ light_style ++ dark_style ++ codes "</style>\n" ++ markers

-- the part of the plane that a document shows begins at the left
unfoldable pub view_box : List ℕ
view_box = codes " viewBox=\"0"

-- where that part begins: at the left, and so far down
unfoldable pub corner : ℕ → List ℕ
corner y = view_box ++ 32 ∷ decimal y

-- how large that part is
unfoldable pub extent : ℕ → ℕ → List ℕ
extent width height = 32 ∷ decimal width ++ 32 ∷ decimal height

-- the size of the document, and which part of the plane it shows
unfoldable pub sized : ℕ → ℕ → ℕ → List ℕ
sized y width height = attribute (codes "width") width ++ attribute (codes "height") height ++ corner y ++ extent width height ++ codes "\">\n"

-- the name of the root and of its language
unfoldable pub root : List ℕ
root = codes "<svg xmlns=\"http://www.w3.org/2000/svg\""

-- the opening of a document
unfoldable pub opened : ℕ → ℕ → ℕ → List ℕ
opened y width height = root ++ sized y width height

-- the opening, colours and marks, and a page
unfoldable pub head_at : ℕ → ℕ → ℕ → List ℕ
head_at y width height = opened y width height ++ style ++ rectangle (codes "page") y width height

-- what stands before the shapes
abbrev pub head : Frame → List ℕ
head frame = head_at (top_of frame) (picture_width frame) (picture_height frame)

-- the facility and the ticks that are shown
unfoldable pub heading : List ℕ → Frame → List ℕ
heading fac frame = text_opening (codes "head") (at_point 12 (top_of frame + 20)) ++ codes "SDUs of " ++ escaped fac ++ codes ", ticks " ++ decimal frame.window.from ++ codes " to " ++ decimal frame.window.to ++ text_end

-- what stands behind the shapes
unfoldable pub tail : List ℕ → Frame → List ℕ
tail fac frame = heading fac frame ++ codes "</svg>\n"

-- a picture as a document: its head, the texts of its shapes in order, and its tail
abbrev pub document : List ℕ → Frame → List Shape → List ℕ
document fac frame ss = head frame ++ flat_map shape_text ss ++ tail fac frame
