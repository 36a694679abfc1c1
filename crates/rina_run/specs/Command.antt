-- Which words are a command.
use Rattle.std.specs.Prelude.{ℕ, List, [], ◌∷◌, codes, Option, Some, None, Result, Ok, Err, if◌then◌else◌}
use Rattle.std.specs.Str.{bytes_eq}
use Rattle.rina_report.specs.Fields.{max32, numeral_of}
use Rattle.rina_run.specs.declared.command.Command.{Command}
use Rattle.rina_run.specs.declared.command.Command.TheVariants as commands

-- a command whose word no other may follow
abbrev pub alone : Command → List (List ℕ) → Result Command ℕ
alone command [] = Ok command
alone command (w ∷ ws) = Err 1

-- the number behind a command, if it is one, and no word follows
abbrev pub number_by : Option ℕ → List (List ℕ) → Result ℕ ℕ
number_by None ws = Err 1
number_by (Some n) [] = Ok n
number_by (Some n) (w ∷ ws) = Err 2

-- the number that the words behind a command are
abbrev pub number_of : List (List ℕ) → Result ℕ ℕ
number_of [] = Err 1
number_of (w ∷ ws) = number_by (numeral_of max32 w) ws

-- a command with that number
abbrev pub with_number : (ℕ → Command) → Result ℕ ℕ → Result Command ℕ
with_number command (Ok n) = Ok (command n)
with_number command (Err word) = Err word

-- the command that the words are; else the place of the first word that can't stand there, or the number of words where one is missing
unfoldable pub command_of : List (List ℕ) → Result Command ℕ
command_of [] = Err 0
command_of (w ∷ ws) = if bytes_eq w (codes "run") then alone commands.Run ws else if bytes_eq w (codes "check") then alone commands.Check ws else if bytes_eq w (codes "gen") then with_number (λ n. commands.Gen n) (number_of ws) else if bytes_eq w (codes "show") then with_number (λ n. commands.Show n) (number_of ws) else Err 0
