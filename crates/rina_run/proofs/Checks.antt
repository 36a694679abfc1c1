-- Lines that are read and not run, and what is told of them.
use Rattle.std.proofs.Common.{◌≡◌, ℕ, zero, suc, ◌+◌, ◌≤◌, Bool, true, false, cond, List, [], ◌∷◌, ◌++◌, length, length-append, map, Option, Some, None, Result, Ok, Err, IfOk, inl, inr, refl, sym, ap, subst, ◌∙◌, arith}
use Rattle.std.specs.List.{All}
use Rattle.std.proofs.lemmas.List.{length-map, map-append}
use Rattle.std.proofs.lemmas.List.Elements.{All-append}
use Rattle.std.proofs.lemmas.List.Sums.{sum_by-append}
use Rattle.bstr.specs.Text.{without_terminator}
use Rattle.rina_io.specs.Reader.{Reader}
use Rattle.rina_report.specs.declared.note.Note.{Note}
use Rattle.rina_report.specs.declared.note.Note.TheVariants as notes
use Rattle.rina_report.specs.declared.note.Fault.{Fault}
use Rattle.rina_schedule.specs.declared.error.LineError.{LineError}
use Rattle.rina_stack.specs.declared.plan.Plan.{Plan}
use Rattle.rina_stack.specs.Stack.{Reads}
use Rattle.rina_report.specs.declared.note.Fault.TheVariants as faults
use Rattle.rina_table.specs.declared.error.StackError.{StackError}
use Rattle.rina_table.specs.declared.error.StackError.TheVariants as stack
use Rattle.rina_tower.specs.declared.tower.Tower.{Tower}
use Rattle.rina_schedule.specs.Line.{line_at}
use Rattle.rina_run.specs.declared.check.Checked.TheVariants as checks
use Rattle.rina_run.specs.declared.lines.BadLine.{BadLine}
use Rattle.rina_run.specs.declared.outcome.Status.{Status}
use Rattle.rina_run.specs.declared.outcome.Status.TheVariants as statuses
use Rattle.rina_run.specs.Check.{AreReadAs, CheckOutcomes, InputTells, IsFirstBad, IsRead, IsReadAs, LastTells, LinesTell, ScriptTells, counts_of, event_count, is_event, status_beside}
use Rattle.rina_run.specs.Faults.{NoteFaults, ReadFaults}
use Rattle.rina_run.specs.Outcomes.{IsChecked}
use Rattle.rina_run.specs.Reading.{Broken, Ending, Enough, Lost, Whole, is_whole}
use Rattle.rina_run.specs.Script.{Script, script_in}
use Rattle.rina_run.specs.Top.{ClosedBy, IsOutOfMemory, IsStackAlone, WasRead, fault_of, stack_fault}
use Rattle.rina_run.proofs.Ending.{is_told}
use Rattle.rina_run.proofs.Faulty.{reads_by, reads_end}
use Rattle.rina_run.proofs.ReadOn.{ReadSoFar, none_so_far}

-- what holds of a value, and what follows
pub if_ok_by : {A E : Type 0} (P Q : A → Type 0) (r : Result A E) → IfOk r P → ((x : A) → P x → Q x) → IfOk r Q
if_ok_by P Q (Ok x) p f = f x p
if_ok_by P Q (Err e) p f = p

abbrev texts_of : List (List ℕ) → List (List ℕ)
texts_of ls = map without_terminator ls

-- so far these lines were read, and so many of them hold an event
pub record CheckedSoFar (left left' : Option (List ℕ)) (r r' : Reader) (count holding : ℕ) : Type 0 where
  pub lines : List (List ℕ)
  pub read : ReadSoFar left left' r r' lines
  pub are : All IsRead (map without_terminator lines)
  pub number : count ≡ length lines
  pub few : holding ≤ count
  pub events : holding ≡ event_count (map without_terminator lines)

pub none_checked : (left : Option (List ℕ)) (r : Reader) → CheckedSoFar left left r r 0 0
none_checked left r = record { lines = []; read = none_so_far left r; are = λ k d lt. absurd (omega (arith, lt)); number = refl; few = omega arith; events = refl }

all_one : (P : List ℕ → Type 0) (l : List ℕ) → P l → All P (l ∷ [])
all_one P l p zero d lt = p
all_one P l p (suc k) d lt = absurd (omega (arith, lt))

count_more : (ls : List (List ℕ)) (l : List ℕ) (holds : Bool) → is_event (line_at l) ≡ holds → event_count (ls ++ l ∷ []) ≡ event_count ls + cond holds 1 0
count_more ls l holds is = sum_by-append (λ (k : List ℕ). cond (is_event (line_at k)) 1 0) ls (l ∷ []) ∙ rw is (omega arith)

few_more : (events after number : ℕ) (holds : Bool) → events ≤ number → after ≡ events + cond holds 1 0 → after ≤ number + 1
few_more events after number true few e = omega (arith, few, e)
few_more events after number false few e = omega (arith, few, e)

-- one more line is inside the grammar
pub checked_on : (left left' left2 : Option (List ℕ)) (r r' r2 : Reader) (line text : List ℕ) (holds : Bool) (number events events' : ℕ) → (s : CheckedSoFar left left' r r' number events) → ReadSoFar left left2 r r2 (s.lines ++ line ∷ []) → text ≡ without_terminator line → IsReadAs text (Ok holds) → events' ≡ events + cond holds 1 0 → CheckedSoFar left left2 r r2 (number + 1) events'
checked_on left left' left2 r r' r2 line text holds number events events' s read text_is reads is =
    let texts : texts_of (s.lines ++ line ∷ []) ≡ texts_of s.lines ++ text ∷ [] = map-append without_terminator s.lines (line ∷ []) ∙ ap (λ (t : List ℕ). texts_of s.lines ++ t ∷ []) (sym text_is) in
    let event : is_event (line_at text) ≡ holds = ap is_event reads.1 ∙ sym reads.2 in
    record {
      lines = s.lines ++ line ∷ [];
      read = read;
      are = rw texts (All-append IsRead (texts_of s.lines) (text ∷ []) s.are (all_one IsRead text (reads.0, reads.1)));
      number = omega (arith, s.number, length-append s.lines (line ∷ []));
      few = few_more events events' number holds s.few is;
      events = rw texts (is ∙ ap (λ (n : ℕ). n + cond holds 1 0) s.events ∙ sym (count_more (texts_of s.lines) text holds event));
    }

-- the next line is outside the grammar
pub first_bad : (ls : List (List ℕ)) (line text : List ℕ) (number : ℕ) (e : LineError) → number ≡ length ls → text ≡ without_terminator line → All IsRead (texts_of ls) → line_at text ≡ Err e → IsFirstBad (texts_of (ls ++ line ∷ [])) (record { number = number + 1; error = e })
first_bad ls line text number e number_is text_is so_far read = record {
  before = texts_of ls;
  line = without_terminator line;
  are = map-append without_terminator ls (line ∷ []);
  number = omega (arith, number_is, length-map (ls ++ line ∷ []) without_terminator, length-append ls (line ∷ []));
  read = rw (sym text_is) read;
  earlier = so_far;
}

-- what is told of lines that were read
pub lines_tell : (ending : Ending) (plan : Plan) (lines : List (List ℕ)) (events : ℕ) (note : Note) → AreReadAs ending lines (checks.Events events) → note ≡ counts_of plan events → LinesTell ending plan lines note
lines_tell ending plan lines events note (is, read, count) told = inr (read, rw is (told ∙ ap (λ (n : ℕ). counts_of plan n) count))

pub broken_tells : (ending : Ending) (plan : Plan) (lines : List (List ℕ)) (fault : Fault) → AreReadAs ending lines (checks.Broken fault) → LinesTell ending plan lines (notes.Fault fault)
broken_tells ending plan lines fault (is, read) = inr (read, rw is refl)

pub bad_tells : (ending : Ending) (plan : Plan) (lines : List (List ℕ)) (bad : BadLine) (fault : Fault) → AreReadAs ending lines (checks.Bad bad) → fault ≡ fault_of bad → LinesTell ending plan lines (notes.Fault fault)
bad_tells ending plan lines bad fault (fine, first) is = inl (fine, bad, first, ap (λ (f : Fault). notes.Fault f) is)

-- a stack that was not accepted
pub stack_tells : (known : List ℕ → Bool) (ending : Ending) (s : Script) (error : StackError) (fault : Fault) → Reads known (Err error) s.stack → stack_fault error ≡ Some fault → IsStackAlone ending s → ScriptTells known ending s (notes.Fault fault)
stack_tells known ending s error fault reads is alone = inl (alone, (error, reads, fault, is, refl))

pub rule_tells : (known : List ℕ → Bool) (ending : Ending) (s : Script) (n item : ℕ) (note : Note) → Reads known (Err (stack.StackRule n item)) s.stack → note ≡ notes.Fault (faults.StackRule n item) → IsStackAlone ending s → ScriptTells known ending s note
rule_tells known ending s n item note reads is alone = inl (alone, (stack.StackRule n item, reads, faults.StackRule n item, refl, is))

-- what the one note of a check tells of the faults of reading
pub told_reads : (B : Type 0) (note : Note) (s : Status) (t : List Note) (before now : ℕ) (odd odd' : Bool) → ClosedBy (status_beside note) note [] s t → NoteFaults (Ok note) before now odd odd' → (note ≡ notes.Fault faults.ReadFault → B) → ReadFaults B s before now odd odd'
told_reads B (notes.Fault fault) s t before now odd odd' c f broke = reads_by B fault s (notes.Fault fault) [] t before now odd odd' c f (λ is. broke (ap (λ (x : Fault). notes.Fault x) is))
told_reads B note s t before now odd odd' c f broke = reads_end B s note [] t before now odd odd' c f

-- a read fault is told only where reading broke off by it
stack_reads : (error : StackError) (fault : Fault) → stack_fault error ≡ Some fault → notes.Fault faults.ReadFault ≡ notes.Fault fault → ⊥
stack_reads stack.Memory fault is told = cc
stack_reads stack.NotToml fault is told = cc
stack_reads (stack.StackRule n item) fault is told = cc

last_broke : (ending : Ending) (plan : Plan) (events : ℕ) → LastTells ending plan events (notes.Fault faults.ReadFault) → ending ≡ Broken faults.ReadFault
last_broke Whole plan events told = cc
last_broke (Broken fault) plan events told = cc
last_broke Enough plan events told = absurd told
last_broke Lost plan events told = absurd told

lines_broke : (ending : Ending) (plan : Plan) (lines : List (List ℕ)) → LinesTell ending plan lines (notes.Fault faults.ReadFault) → ending ≡ Broken faults.ReadFault
lines_broke ending plan lines (inl (fine, bad, first, told)) = cc
lines_broke ending plan lines (inr (read, told)) = last_broke ending plan (event_count lines) told

script_broke : (known : List ℕ → Bool) (ending : Ending) (s : Script) → ScriptTells known ending s (notes.Fault faults.ReadFault) → ending ≡ Broken faults.ReadFault
script_broke known ending s (inl (alone, (error, reads, fault, is, told))) = absurd (stack_reads error fault is told)
script_broke known ending s (inr (plan, reads, told)) = lines_broke ending plan s.lines told

input_broke : (known : List ℕ → Bool) (ending : Ending) (script : Option Script) → InputTells known ending script (notes.Fault faults.ReadFault) → ending ≡ Broken faults.ReadFault
input_broke known ending (Some s) told = script_broke known ending s told
input_broke known Whole None told = absurd told
input_broke known (Broken fault) None told = cc
input_broke known Enough None told = absurd told
input_broke known Lost None told = absurd told

-- a check that told a read fault, or was to tell it
pub broke_checked : (known : List ℕ → Bool) (left left' : Option (List ℕ)) (note : Note) (s : Status) (t : List Note) → WasRead left left' (λ ending script. InputTells known ending script note) → ClosedBy (status_beside note) note [] s t → note ≡ notes.Fault faults.ReadFault → WasRead left left' (λ ending script. (ending ≡ Broken faults.ReadFault) × CheckOutcomes known ending script s t)
broke_checked known left left' note s t w c is = record {
  ending = w.ending;
  used = w.used;
  read = w.read;
  outcome = (input_broke known w.ending (script_in (is_whole w.ending) w.used) (subst (λ (n : Note). InputTells known w.ending (script_in (is_whole w.ending) w.used) n) is w.outcome), record { note = note; tells = w.outcome; closed = c });
}

-- a note is told beside no write fault
pub is_told_beside : (note : Note) → ¬ (status_beside note ≡ statuses.WriteFault)
is_told_beside (notes.Fault fault) h = is_told fault h
is_told_beside note h = cc

-- an input that was read, and the one note that is told of it
pub was_checked : (known : List ℕ → Bool) (left left' : Option (List ℕ)) (note : Note) (s : Status) (t : List Note) (tower : Option Tower) → WasRead left left' (λ ending script. InputTells known ending script note) → ClosedBy (status_beside note) note [] s t → tower ≡ None → IsChecked known left left' s t tower
was_checked known left left' note s t tower w c none = record {
  outcome = inr (record { ending = w.ending; used = w.used; read = w.read; outcome = record { note = note; tells = w.outcome; closed = c } });
  no_tower = none;
}

-- nothing was done, since an allocation failed
pub not_checked : (known : List ℕ → Bool) (left left' : Option (List ℕ)) (s : Status) (t : List Note) (tower : Option Tower) → IsOutOfMemory s t tower → IsChecked known left left' s t tower
not_checked known left left' s t tower m = record { outcome = inl m; no_tower = m.left }
