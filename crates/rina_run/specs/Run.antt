-- A run: the lines of a schedule one after the other, from a tower that was just built.
use Rattle.std.specs.Prelude.{◌≡◌, ◌≢◌, ℕ, ◌+◌, ◌≤◌, List, [], ◌∷◌, ◌++◌, length, slice_get, take, Option, Some, None, Result, Ok, Err, ◌⊎◌}
use Rattle.rina_report.specs.declared.note.Note.{Note}
use Rattle.rina_schedule.specs.declared.error.LineError.{LineError}
use Rattle.rina_schedule.specs.declared.event.Event.{Event}
use Rattle.rina_stack.specs.declared.plan.Plan.{Plan}
use Rattle.rina_schedule.specs.Line.{line_at}
use Rattle.rina_run.specs.declared.output.Stop.{Stop}
use Rattle.rina_run.specs.declared.output.Stop.TheVariants as stops
use Rattle.rina_run.specs.declared.lines.BadLine.{BadLine}
use Rattle.rina_run.specs.declared.lines.Close.{Close}
use Rattle.rina_run.specs.declared.lines.Close.TheVariants as closes
use Rattle.rina_run.specs.Reading.{Broken, Ending, IsFine, Lost, Whole}
use Rattle.rina_notes.specs.Look.{Leads}
use Rattle.rina_words.specs.Step.{Stage, Steps}

-- what a line of this number does, by what it asks for: nothing where it is blank or a comment
abbrev pub LineDoes : Plan → ℕ → Result (Option Event) LineError → Stage → List Note → Stage → Type 0
LineDoes plan number (Ok None) s ns s' = (ns ≡ []) × (s' ≡ s)
LineDoes plan number (Ok (Some event)) s ns s' = Steps plan number event s ns s'
LineDoes plan number (Err e) s ns s' = ⊥

-- the lines, of which the first has this number, lead from one stage to another with these notes
abbrev pub Runs : Plan → ℕ → Stage → List (List ℕ) → List Note → Stage → Type 0
Runs plan number s [] ns s' = (ns ≡ []) × (s' ≡ s)
Runs plan number s (l ∷ ls) ns s' = (mid : Stage) × (first : List Note) × (rest : List Note) × LineDoes plan number (line_at l) s first mid × Runs plan (number + 1) mid ls rest s' × (ns ≡ first ++ rest)

-- what is known after a line was run and its notes were written, by how that ended; without memory it told nothing, or all of its notes
abbrev pub Ran : {A : Type 0} → (List Note → Type 0) → List Note → List Note → Result A Stop → Type 0
Ran Does old new (Ok done) = Leads Does old new
Ran Does old new (Err stops.Memory) = (new ≡ old) ⊎ Leads Does old new
Ran Does old new (Err stops.WriteFault) = Leads Does old new

-- the line is outside the grammar, and nothing was done
pub record IsBad (line : List ℕ) (e : LineError) (s : Stage) (old : List Note) (s' : Stage) (new : List Note) : Type 0 where
  pub read : line_at line ≡ Err e
  pub same : s' ≡ s
  pub trace : new ≡ old

-- the line asks for something: it is neither blank nor a comment
abbrev pub Asks : List ℕ → Type 0
Asks line = line_at line ≢ Ok None

-- what is known after a line was read and run; memory is wanted only for a line that asks for something
abbrev pub LineRan : Plan → ℕ → List ℕ → Stage → List Note → Stage → List Note → Result (Option LineError) Stop → Type 0
LineRan plan number line s old s' new (Ok (Some e)) = IsBad line e s old s' new
LineRan plan number line s old s' new (Ok None) = Leads (λ ns. LineDoes plan number (line_at line) s ns s') old new
LineRan plan number line s old s' new (Err stops.Memory) = Asks line × ((new ≡ old) ⊎ Leads (λ ns. LineDoes plan number (line_at line) s ns s') old new)
LineRan plan number line s old s' new (Err stops.WriteFault) = Leads (λ ns. LineDoes plan number (line_at line) s ns s') old new

-- all lines were run, or all but the last, each with all of its notes; a line that was not run asks for something
pub record RanFirst (plan : Plan) (s : Stage) (lines : List (List ℕ)) (trace : List Note) (s' : Stage) : Type 0 where
  pub count : ℕ
  pub most : length lines ≤ count + 1
  pub runs : Runs plan 1 s (take count lines) trace s'
  pub asks : (line : List ℕ) → slice_get lines count ≡ Some line → Asks line

-- the last of the lines is outside the grammar, and those before it were run
pub record StopsAt (plan : Plan) (s : Stage) (lines : List (List ℕ)) (bad : BadLine) (trace : List Note) (s' : Stage) : Type 0 where
  pub before : List (List ℕ)
  pub line : List ℕ
  pub are : lines ≡ before ++ line ∷ []
  pub number : bad.number ≡ length lines
  pub read : line_at line ≡ Err bad.error
  pub runs : Runs plan 1 s before trace s'

-- what is known after lines were run, by how reading them ended; a line that ends the run is the last that was read; memory ran out in that line, or for
-- reading the next one, and then all lines were run
abbrev pub LinesRan : Plan → Stage → Ending → List (List ℕ) → List Note → Stage → Result Close Stop → Type 0
LinesRan plan s ending lines trace s' (Ok closes.End) = (ending ≡ Whole) × Runs plan 1 s lines trace s'
LinesRan plan s ending lines trace s' (Ok (closes.Broken fault)) = (ending ≡ Broken fault) × Runs plan 1 s lines trace s'
LinesRan plan s ending lines trace s' (Ok (closes.Bad bad)) = IsFine ending × StopsAt plan s lines bad trace s'
LinesRan plan s ending lines trace s' (Err stops.Memory) = (IsFine ending × (reached : Stage) × RanFirst plan s lines trace reached) ⊎ ((ending ≡ Lost) × Runs plan 1 s lines trace s')
LinesRan plan s ending lines trace s' (Err stops.WriteFault) = IsFine ending × Runs plan 1 s lines trace s'
