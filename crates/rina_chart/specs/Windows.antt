-- The window of ticks that a chart shows.
use Rattle.std.specs.Prelude.{ℕ, nat_le, List, [], ◌∷◌, Option, Some, None, Result, Ok, Err, if◌then◌else◌}
use Rattle.rina_report.specs.Fields.{max32, numeral_of}
use Rattle.rina_chart.specs.declared.window.Window.{Window}

abbrev pub window : ℕ → ℕ → Window
window from to = record { from = from; to = to }

-- a window, where no word is behind it
abbrev pub closed_by : Window → List (List ℕ) → Result (Option Window) ℕ
closed_by w [] = Ok (Some w)
closed_by w (word ∷ words) = Err 4

-- a window ends at a number, which is not below its first tick
abbrev pub to_by : ℕ → Option ℕ → List (List ℕ) → Result (Option Window) ℕ
to_by from None words = Err 3
to_by from (Some to) words = if nat_le from to then closed_by (window from to) words else Err 3

abbrev pub to_in : ℕ → List (List ℕ) → Result (Option Window) ℕ
to_in from [] = Err 3
to_in from (word ∷ words) = to_by from (numeral_of max32 word) words

-- a window begins at a number
abbrev pub from_by : Option ℕ → List (List ℕ) → Result (Option Window) ℕ
from_by None words = Err 2
from_by (Some from) words = to_in from words

-- the window that the words behind a facility are, which has place 1: none where there are no words, else two numbers, the second not below the
-- first; or the place of the first word that cannot stand there, or of one that is missing
abbrev pub window_in : List (List ℕ) → Result (Option Window) ℕ
window_in [] = Ok None
window_in (word ∷ words) = from_by (numeral_of max32 word) words
