-- A row of a chart in columns: what is drawn on the lifelines, and between them.
use Rattle.std.specs.Prelude.{ℕ, ◌+◌, ◌-◌, ◌==◌, ◌&&◌, Bool, nat_le, nat_lt, max, min, length, List, [], ◌∷◌, ◌++◌, replicate, if◌then◌else◌}
use Rattle.std.specs.List.{flat_map}
use Rattle.rina_chart.specs.declared.event.Event.{Event}
use Rattle.rina_chart.specs.declared.event.Event.TheVariants as events
use Rattle.rina_chart.specs.declared.lane.Stroke.{Stroke}
use Rattle.rina_chart.specs.declared.lane.Stroke.TheVariants.{Sign, Arrow}

-- an end that failed is `#` on the lifeline of its node; an SDU that is sent and arrives later is `o` on its sender's, one that does not arrive `x`; at its
-- arrival it is an arrow from its sender's lifeline to its receiver's
unfoldable pub stroke_of : Event → Stroke
stroke_of (events.Failed m) = Sign m.place 35
stroke_of (events.Sent s) = Sign s.from 111
stroke_of (events.Got s) = Arrow s.from s.to
stroke_of (events.NotGot s) = Sign s.from 120

-- a lifeline stands between two others
unfoldable pub is_between : ℕ → ℕ → ℕ → Bool
is_between from to place = nat_lt (min from to) place && nat_lt place (max from to)

-- what stands on a lifeline: a sign, + where an arrow goes over it, or |
unfoldable pub glyph : Stroke → ℕ → ℕ
glyph (Sign at sign) place = if place == at then sign else 124
glyph (Arrow from to) place = if is_between from to place then 43 else 124

-- an arrow between two lifelines goes through the gap behind a lifeline
unfoldable pub crosses : ℕ → ℕ → ℕ → Bool
crosses from to place = nat_le (min from to) place && nat_lt place (max from to)

-- an arrow to the left has its tip at the left of the gap behind its receiver's lifeline, and one to the right at the right of the gap before it
unfoldable pub first_glyph : ℕ → ℕ → ℕ → ℕ
first_glyph from to place = if nat_lt to from && (place == to) then 60 else 45

unfoldable pub last_glyph : ℕ → ℕ → ℕ → ℕ
last_glyph from to place = if nat_lt from to && (place == to - 1) then 62 else 45

-- the part of an arrow in the gap behind a lifeline
unfoldable pub arrow_gap : ℕ → ℕ → ℕ → ℕ → List ℕ
arrow_gap width from to place = first_glyph from to place ∷ replicate (width - 3) 45 ++ last_glyph from to place ∷ []

-- what stands behind a lifeline, up to the next one
abbrev pub gap : ℕ → Stroke → ℕ → List ℕ
gap width (Sign at sign) place = replicate (width - 1) 32
gap width (Arrow from to) place = if crosses from to place then arrow_gap width from to place else replicate (width - 1) 32

-- a lifeline and what stands behind it
unfoldable pub cell : ℕ → Stroke → ℕ → List ℕ
cell width stroke place = glyph stroke place ∷ gap width stroke place

-- the lifelines of nodes, from a place on
abbrev pub cells_from : ℕ → Stroke → ℕ → List (List ℕ) → List ℕ
cells_from width stroke place [] = []
cells_from width stroke place (node ∷ nodes) = cell width stroke place ++ cells_from width stroke (place + 1) nodes

-- how many bytes the longest of names has, or so many
abbrev pub longest : ℕ → List (List ℕ) → ℕ
longest most [] = most
longest most (node ∷ nodes) = longest (max most (length node)) nodes

-- from how many columns to how many there is a lifeline: a longer name has two columns behind it, and each arrow has room
unfoldable pub lane_width : List (List ℕ) → ℕ
lane_width nodes = max (min (longest 0 nodes) 64) 8 + 2

-- a name, as wide as its lifeline
unfoldable pub name_cell : ℕ → List ℕ → List ℕ
name_cell width name = name ++ replicate (width - length name) 32

-- names, each above its lifeline
abbrev pub name_cells : ℕ → List (List ℕ) → List ℕ
name_cells width nodes = flat_map (name_cell width) nodes
