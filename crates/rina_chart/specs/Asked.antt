-- What the words of the command line ask for.
use Rattle.std.specs.Prelude.{ℕ, ◌+◌, List, [], ◌∷◌, codes, Option, None, Result, Ok, Err, if◌then◌else◌}
use Rattle.std.specs.Str.{bytes_eq}
use Rattle.rina_chart.specs.declared.program.Asked.{Asked}
use Rattle.rina_chart.specs.declared.program.Asked.TheVariants.{Table, Chart, Bad}
use Rattle.rina_chart.specs.declared.program.Format.{Format}
use Rattle.rina_chart.specs.declared.program.Format.TheVariants.{Svg, Columns}
use Rattle.rina_chart.specs.declared.window.Window.{Window}
use Rattle.rina_chart.specs.Windows.{window_in}

-- the place of a word that stands at this one where the chart is a picture: behind `text` all stand one further
abbrev pub place_by : Format → ℕ → ℕ
place_by Svg word = word
place_by Columns word = word + 1

abbrev pub asked_by : Format → Result (Option Window) ℕ → Asked
asked_by format (Ok window) = Chart format window
asked_by format (Err word) = Bad (place_by format word)

-- a facility and a window behind `text`; `text` alone is a facility
abbrev pub behind_text : List (List ℕ) → Asked
behind_text [] = Chart Svg None
behind_text (fac ∷ words) = asked_by Columns (window_in words)

-- a chart in columns behind `text`; else a facility and a window, or the place of the first word that cannot stand there, or of one that is missing
abbrev pub behind_chart : List (List ℕ) → Asked
behind_chart [] = Bad 1
behind_chart (word ∷ words) = if bytes_eq word (codes "text") then behind_text words else asked_by Svg (window_in words)

-- behind `chart` a chart, else what the table of SDUs takes
abbrev pub asked_of : List (List ℕ) → Asked
asked_of [] = Table
asked_of (word ∷ words) = if bytes_eq word (codes "chart") then behind_chart words else Table

abbrev pub first_of : List (List ℕ) → List ℕ
first_of [] = []
first_of (word ∷ words) = word

abbrev pub second_of : List (List ℕ) → List ℕ
second_of [] = []
second_of (word ∷ words) = first_of words

abbrev pub third_of : List (List ℕ) → List ℕ
third_of [] = []
third_of (word ∷ words) = second_of words

-- the facility that the words name: the second of them, or the one behind `text`
abbrev pub facility_of : Format → List (List ℕ) → List ℕ
facility_of Svg words = second_of words
facility_of Columns words = third_of words
