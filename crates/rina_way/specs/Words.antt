-- The text of a row of the table.
use Rattle.std.specs.Prelude.{ℕ, ◌+◌, List, [], ◌∷◌, ◌++◌, codes, slice_get, Option, Some, None}
use Rattle.std.specs.Fmt.{decimal}
use Rattle.std.specs.List.{flat_map}
use Rattle.rina_cube.specs.declared.Cube.{Cube}
use Rattle.rina_cube.specs.declared.Kind.{Kind}
use Rattle.rina_cube.specs.declared.Kind.TheVariants.{Datagram, Loose, Reliable}
use Rattle.rina_cube.specs.Cubes.{promise_of}
use Rattle.rina_schedule.specs.Spelling.{spaced}
use Rattle.rina_way.specs.declared.hop.Hop.{Hop}
use Rattle.rina_way.specs.declared.row.Row.{Row}
use Rattle.rina_way.specs.declared.slack.Slack.{Slack}
use Rattle.rina_way.specs.declared.slack.Slack.TheVariants.{Left, Short}
use Rattle.rina_way.specs.Ways.{charges, slack_of, trip}

abbrev pub name_or : Option (List ℕ) → List ℕ
name_or None = codes "?"
name_or (Some name) = name

-- the name of a node
abbrev pub node_name : List (List ℕ) → ℕ → List ℕ
node_name nodes node = name_or (slice_get nodes node)

-- > and the node at the end of a hop
abbrev pub hop_text : List (List ℕ) → Hop → List ℕ
hop_text nodes h = 62 ∷ node_name nodes h.to

-- the nodes of a way
abbrev pub way_text : List (List ℕ) → List Hop → List ℕ
way_text nodes [] = codes "-"
way_text nodes (h ∷ hs) = node_name nodes h.from ++ flat_map (hop_text nodes) (h ∷ hs)

-- + and a charge
abbrev pub charge_text : Hop → List ℕ
charge_text h = 43 ∷ decimal h.charge

-- the charges of a way
abbrev pub charges_text : List Hop → List ℕ
charges_text [] = codes "0"
charges_text (h ∷ hs) = decimal h.charge ++ flat_map charge_text hs

-- a slack below 0 has a minus
abbrev pub slack_text : Slack → List ℕ
slack_text (Left left) = decimal left
slack_text (Short by) = 45 ∷ decimal by

-- the way, what it charges, and the slack
abbrev pub way_fields : List (List ℕ) → Cube → Option (List Hop) → List ℕ
way_fields nodes cube None = codes " - - -"
way_fields nodes cube (Some hops) = spaced (way_text nodes hops ∷ charges_text hops ∷ slack_text (slack_of cube.mpl (charges hops)) ∷ [])

abbrev pub trip_text : Option ℕ → List ℕ
trip_text None = codes "-"
trip_text (Some ticks) = decimal ticks

-- what a kind of cube promises
unfoldable pub kind_words : Kind → List ℕ
kind_words Datagram = codes "at most once, in any order"
kind_words Loose = codes "at most once, in order"
kind_words Reliable = codes "at most once, in order, without gaps"

-- what a cube promises
abbrev pub promise_words : Cube → List ℕ
promise_words c = kind_words c.kind ++ codes ", within " ++ decimal (promise_of c) ++ codes " ticks"

abbrev pub slack_words : Slack → List ℕ
slack_words (Left _) = []
slack_words (Short _) = codes "; no SDU can arrive"

-- a flow without a way, or whose slack is below 0, is marked
abbrev pub mark_words : Cube → Option (List Hop) → List ℕ
mark_words cube None = codes "; no way"
mark_words cube (Some hops) = slack_words (slack_of cube.mpl (charges hops))

-- the facility, the ports, the cube, and the way with its charges and the slack
unfoldable pub way_part : List ℕ → List ℕ → List ℕ → List (List ℕ) → Row → List ℕ
way_part fac from to nodes row = (fac ++ spaced (from ∷ to ∷ decimal row.cube.id ∷ [])) ++ way_fields nodes row.cube row.there

-- the window, the pieces, the round trip, and the promise in words, marked where no SDU can arrive
unfoldable pub promise_part : Row → List ℕ
promise_part row = spaced (decimal row.cube.window ∷ decimal row.pieces ∷ trip_text (trip row) ∷ promise_words row.cube ∷ []) ++ mark_words row.cube row.there

-- the line of a row
abbrev pub row_text : List ℕ → List ℕ → List ℕ → List (List ℕ) → Row → List ℕ
row_text fac from to nodes row = way_part fac from to nodes row ++ promise_part row ++ 10 ∷ []
