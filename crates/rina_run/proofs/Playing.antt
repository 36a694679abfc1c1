-- Lines that are run one after the other.
use Rattle.std.proofs.Common.{◌≡◌, ℕ, ◌+◌, ◌≤◌, List, [], ◌∷◌, ◌++◌, length, map, slice_get, take, length-append, Option, Some, None, Ok, Err, ◌⊎◌, inl, inr, refl, sym, ap, ◌∙◌, arith, append_assoc, add-zero, subst}
use Rattle.std.proofs.lemmas.List.{append-nil, length-map, map-append, take_all}
use Rattle.std.proofs.Math.Seq.{take-append_seam}
use Rattle.bstr.specs.Text.{without_terminator}
use Rattle.rina_report.specs.declared.note.Note.{Note}
use Rattle.rina_schedule.specs.declared.error.LineError.{LineError}
use Rattle.rina_schedule.specs.declared.event.Event.{Event}
use Rattle.rina_stack.specs.declared.plan.Plan.{Plan}
use Rattle.rina_run.specs.declared.output.Stop.{Stop}
use Rattle.rina_run.specs.declared.output.Stop.TheVariants as stops
use Rattle.rina_schedule.specs.Line.{line_at}
use Rattle.rina_notes.specs.Look.{Leads, Extends}
use Rattle.rina_words.specs.Step.{Stage, Steps}
use Rattle.rina_io.specs.Reader.{Reader}
use Rattle.rina_run.specs.Reading.{Ending, IsFine}
use Rattle.rina_run.specs.Run.{Asks, LineDoes, LineRan, LinesRan, IsBad, Ran, RanFirst, Runs, StopsAt}
use Rattle.rina_run.proofs.ReadOn.{ReadSoFar, none_so_far}

-- the notes before, where the trace went on
pub front_is : (old new : List Note) → Extends old new → take (length old) new ≡ old
front_is old new p = rw p.trace (take-append_seam old p.notes)

pub front_of : (P : List Note → Type 0) (old new : List Note) → Leads P old new → take (length old) new ≡ old
front_of P old new p = rw p.trace (take-append_seam old p.notes)

module _ {X : Type 0} where
  none_behind : (xs : List X) (x : X) → slice_get xs (length xs) ≡ Some x → ⊥
  none_behind [] x at = cc
  none_behind (y ∷ ys) x at = none_behind ys x at

  last_is : (xs : List X) (x y : X) → slice_get (xs ++ x ∷ []) (length xs) ≡ Some y → x ≡ y
  last_is [] x y at = cc
  last_is (z ∷ zs) x y at = last_is zs x y at

-- all lines were run
all_ran : (plan : Plan) (w : Stage) (lines : List (List ℕ)) (told : List Note) (u : Stage) → Runs plan 1 w lines told u → RanFirst plan w lines told u
all_ran plan w lines told u runs = record { count = length lines; most = omega arith; runs = rw (take_all (length lines) lines (omega arith)) runs; asks = λ line at. absurd (none_behind lines line at) }

-- the line of this number follows those that were run
runs_more : (plan : Plan) (number : ℕ) (w u v : Stage) (ls : List (List ℕ)) (l : List ℕ) (ns more : List Note) → Runs plan number w ls ns u → LineDoes plan (number + length ls) (line_at l) u more v → Runs plan number w (ls ++ l ∷ []) (ns ++ more) v
runs_more plan number w u v [] l ns more p q =
    let here : LineDoes plan number (line_at l) u more v = rw (add-zero number) at q in
    let once : LineDoes plan number (line_at l) w more v = rw (sym p.1) here in
    (v, more, [], once, (refl, refl), ap (λ (ms : List Note). ms ++ more) p.0 ∙ sym (append-nil more))
runs_more plan number w u v (k ∷ ls) l ns more (mid, first, rest, does, others, is) q =
    let next : LineDoes plan ((number + 1) + length ls) (line_at l) u more v = subst (λ (n : ℕ). LineDoes plan n (line_at l) u more v) (omega arith) q in
    (mid, first, rest ++ more, does, runs_more plan (number + 1) mid u v ls l rest more others next, ap (λ (ms : List Note). ms ++ more) is ∙ append_assoc first rest more)

abbrev texts_of : List (List ℕ) → List (List ℕ)
texts_of ls = map without_terminator ls

texts_more : (ls : List (List ℕ)) (line : List ℕ) → texts_of (ls ++ line ∷ []) ≡ texts_of ls ++ without_terminator line ∷ []
texts_more ls line = map-append without_terminator ls (line ∷ [])

-- so far these lines were read and run
pub record PlayedSoFar (left left' : Option (List ℕ)) (r r' : Reader) (plan : Plan) (s : Stage) (trace : List Note) (s' : Stage) (count : ℕ) : Type 0 where
  pub lines : List (List ℕ)
  pub read : ReadSoFar left left' r r' lines
  pub runs : Runs plan 1 s (map without_terminator lines) trace s'
  pub number : count ≡ length lines

pub none_played : (left : Option (List ℕ)) (r : Reader) (plan : Plan) (s s' : Stage) (trace : List Note) → trace ≡ [] → s' ≡ s → PlayedSoFar left left r r plan s trace s' 0
none_played left r plan s s' trace none same = record { lines = []; read = none_so_far left r; runs = (none, same); number = refl }

-- what the next line does, by its text
runs_line : (plan : Plan) (w u v : Stage) (ls : List (List ℕ)) (line text : List ℕ) (number : ℕ) (ns after : List Note) → number ≡ length ls → text ≡ without_terminator line → Runs plan 1 w (texts_of ls) ns u → Leads (λ ms. LineDoes plan (number + 1) (line_at text) u ms v) ns after → Runs plan 1 w (texts_of (ls ++ line ∷ [])) after v
runs_line plan w u v ls line text number ns after number_is text_is runs p =
    let at : number + 1 ≡ 1 + length (texts_of ls) = omega (arith, number_is, length-map ls without_terminator) in
    let does : LineDoes plan (1 + length (texts_of ls)) (line_at text) u p.notes v = subst (λ (n : ℕ). LineDoes plan n (line_at text) u p.notes v) at p.holds in
    let does' : LineDoes plan (1 + length (texts_of ls)) (line_at (without_terminator line)) u p.notes v = subst (λ (l : List ℕ). LineDoes plan (1 + length (texts_of ls)) (line_at l) u p.notes v) text_is does in
    rw (texts_more ls line, p.trace) (runs_more plan 1 w u v (texts_of ls) (without_terminator line) ns p.notes runs does')

-- one more line was run
pub line_on : (left left' left2 : Option (List ℕ)) (r r' r2 : Reader) (plan : Plan) (w u v : Stage) (line text : List ℕ) (number : ℕ) (ns after : List Note) → (p : PlayedSoFar left left' r r' plan w ns u number) → ReadSoFar left left2 r r2 (p.lines ++ line ∷ []) → text ≡ without_terminator line
    → Leads (λ ms. LineDoes plan (number + 1) (line_at text) u ms v) ns after → PlayedSoFar left left2 r r2 plan w after v (number + 1)
line_on left left' left2 r r' r2 plan w u v line text number ns after p read text_is leads = record {
  lines = p.lines ++ line ∷ [];
  read = read;
  runs = runs_line plan w u v p.lines line text number ns after p.number text_is p.runs leads;
  number = omega (arith, p.number, length-append p.lines (line ∷ []));
}

-- the next line is outside the grammar
pub stops_at : (plan : Plan) (w u v : Stage) (ls : List (List ℕ)) (line text : List ℕ) (number : ℕ) (e : LineError) (ns after : List Note) → number ≡ length ls → text ≡ without_terminator line → Runs plan 1 w (texts_of ls) ns u → IsBad text e u ns v after → StopsAt plan w (texts_of (ls ++ line ∷ [])) (record { number = number + 1; error = e }) after v
stops_at plan w u v ls line text number e ns after number_is text_is runs bad = record {
  before = texts_of ls;
  line = without_terminator line;
  are = texts_more ls line;
  number = omega (arith, number_is, length-map (ls ++ line ∷ []) without_terminator, length-append ls (line ∷ []));
  read = rw (sym text_is) bad.read;
  runs = rw (bad.same, bad.trace) runs;
}

asks_event : (line : List ℕ) (event : Event) → line_at line ≡ Ok (Some event) → Asks line
asks_event line event is = λ none. (let same : Ok (Some event) ≡ Ok None = sym is ∙ none in cc)

-- what a line asks for stopped
pub stopped_line : (plan : Plan) (number : ℕ) (line : List ℕ) (event : Event) (s s' : Stage) (old new : List Note) (e : Stop) → line_at line ≡ Ok (Some event) → Ran {A = Unit {0}} (λ ns. Steps plan number event s ns s') old new (Err e) → LineRan plan number line s old s' new (Err e)
stopped_line plan number line event s s' old new stops.Memory is ran = (asks_event line event is, rw is ran)
stopped_line plan number line event s s' old new stops.WriteFault is ran = rw is ran

-- memory was not found in the next line, which told nothing or all of its notes
memory_in : (plan : Plan) (w u v : Stage) (ls : List (List ℕ)) (line text : List ℕ) (number : ℕ) (ns after : List Note) → number ≡ length ls → text ≡ without_terminator line → Runs plan 1 w (texts_of ls) ns u → Asks text → (after ≡ ns) ⊎ Leads (λ ms. LineDoes plan (number + 1) (line_at text) u ms v) ns after → (reached : Stage) × RanFirst plan w (texts_of (ls ++ line ∷ [])) after reached
memory_in plan w u v ls line text number ns after number_is text_is runs asks (inl same) =
    let front : take (length (texts_of ls)) (texts_of (ls ++ line ∷ [])) ≡ texts_of ls = ap (take (length (texts_of ls))) (texts_more ls line) ∙ take-append_seam (texts_of ls) (without_terminator line ∷ []) in
    let most : length (texts_of (ls ++ line ∷ [])) ≤ length (texts_of ls) + 1 = omega (arith, ap length (texts_more ls line), length-append (texts_of ls) (without_terminator line ∷ [])) in
    let last : (l : List ℕ) → slice_get (texts_of (ls ++ line ∷ [])) (length (texts_of ls)) ≡ Some l → text ≡ l = λ l at.
    text_is ∙ last_is (texts_of ls) (without_terminator line) l (sym (ap (λ (xs : List (List ℕ)). slice_get xs (length (texts_of ls))) (texts_more ls line)) ∙ at) in
    (u, record { count = length (texts_of ls); most = most; runs = rw (same, front) runs; asks = λ l at. subst Asks (last l at) asks })
memory_in plan w u v ls line text number ns after number_is text_is runs asks (inr leads) = (v, all_ran plan w (texts_of (ls ++ line ∷ [])) after v (runs_line plan w u v ls line text number ns after number_is text_is runs leads))

-- the run stopped in the next line
pub stopped_in : (plan : Plan) (w u v : Stage) (ls : List (List ℕ)) (line text : List ℕ) (number : ℕ) (ns after : List Note) (e : Stop) (ending : Ending) → number ≡ length ls → text ≡ without_terminator line → Runs plan 1 w (texts_of ls) ns u → LineRan plan (number + 1) text u ns v after (Err e) → IsFine ending → LinesRan plan w ending (texts_of (ls ++ line ∷ [])) after v (Err e)
stopped_in plan w u v ls line text number ns after stops.Memory ending number_is text_is runs ran fine =
    let m = memory_in plan w u v ls line text number ns after number_is text_is runs ran.0 ran.1 in
    inl (fine, m.0, m.1)
stopped_in plan w u v ls line text number ns after stops.WriteFault ending number_is text_is runs ran fine = (fine, runs_line plan w u v ls line text number ns after number_is text_is runs ran)

pub front_push : (old new : List Note) (note : Note) → new ≡ old ++ note ∷ [] → take (length old) new ≡ old
front_push old new note is = rw is (take-append_seam old (note ∷ []))
