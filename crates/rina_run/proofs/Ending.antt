-- How a run ends.
use Rattle.std.proofs.Common.{◌≡◌, ℕ, ◌+◌, List, [], ◌∷◌, ◌++◌, Option, Some, None, Ok, Err, inl, inr, refl, sym, ◌∙◌, IsSome, IfSome, Bool, slice_get, arith, subst}
use Rattle.std.proofs.KnownBytes.{Appends-nil}
use Rattle.std.specs.Io.KnownBytes.{Appends}
use Rattle.rina_policy.specs.Slots.{Slot}
use Rattle.rina_report.specs.declared.note.Note.{Note}
use Rattle.rina_report.specs.declared.note.Note.TheVariants as notes
use Rattle.rina_report.specs.declared.note.Fault.{Fault}
use Rattle.rina_report.specs.declared.note.Fault.TheVariants as faults
use Rattle.rina_report.specs.Notes.{text_of}
use Rattle.rina_schedule.specs.Errors.{number_of, field_of}
use Rattle.rina_stack.specs.declared.plan.Plan.{Plan}
use Rattle.rina_table.specs.declared.error.StackError.{StackError}
use Rattle.rina_table.specs.declared.error.StackError.TheVariants as stack
use Rattle.rina_stack.specs.Stack.{Reads}
use Rattle.rina_iface.specs.declared.state.Fail.{Fail}
use Rattle.rina_iface.specs.declared.state.Fail.TheVariants.{GaveUp, Below, Cut}
use Rattle.rina_iface.specs.declared.state.PortState.TheVariants.{Failed}
use Rattle.rina_iface.specs.Seen.{Fac}
use Rattle.rina_wire.proofs.Kept.{is_mapped}
use Rattle.std.proofs.lemmas.Bool.Decides.{eqb_tells}
use Rattle.std.proofs.lemmas.Option.{same_Some, slice_get-map}
use Rattle.rina_wire.specs.Air.{Air, fac_of, wire_at}
use Rattle.rina_wire.specs.Sound.{IsSound, IsWireState}
use Rattle.rina_run.specs.declared.output.Stop.{Stop}
use Rattle.rina_run.specs.declared.output.Stop.TheVariants as stops
use Rattle.rina_run.specs.declared.lines.BadLine.{BadLine}
use Rattle.rina_run.specs.declared.outcome.Status.{Status}
use Rattle.rina_run.specs.declared.outcome.Status.TheVariants as statuses
use Rattle.rina_tower.specs.declared.tower.Tower.{Tower, Rank', Wires}
use Rattle.rina_tower.specs.Ranks.{height_of, now_of, seen_of}
use Rattle.rina_tower.specs.Stands.{IsTower, kept_of}
use Rattle.rina_tower.proofs.Owned.{rank_valid}
use Rattle.rina_words.specs.declared.run.Run.{Run}
use Rattle.rina_run.specs.Opening.{IsOpening}
use Rattle.rina_run.specs.Run.{Runs, StopsAt, LinesRan}
use Rattle.rina_run.specs.declared.lines.Close.TheVariants as closes
use Rattle.rina_run.specs.Reading.{AreRead, Broken, Ending, IsFine}
use Rattle.rina_run.specs.Script.{Script}
use Rattle.rina_words.specs.Step.{HasNames, Stage, stage}
use Rattle.rina_run.specs.Drawn.{TellsNothing}
use Rattle.rina_run.specs.Written.{IsLeftOut, Written}
use Rattle.rina_run.specs.Top.{status_of, fault_of, stack_fault, PlayOutcomes, RefusedBy, ScriptOutcomes, InputOutcomes, IsOutOfMemory, IsStackAlone, ClosedBy, status_stopped, AreCut, FailedByCut, IsCutBy, KeepsAll}
use Rattle.rina_run.proofs.Texts.{wrote_all}

pub wrote_nothing : (base : Option (List ℕ)) (ns : List Note) → ns ≡ [] → Appends base base (text_of ns)
wrote_nothing base ns h = rw h (Appends-nil base)

-- what was written whole is what any status but a write fault needs
pub written_any : (old new : Option (List ℕ)) (ns : List Note) (s : Status) → ¬ (s ≡ statuses.WriteFault) → Appends old new (text_of ns) → Written old new ns s
written_any old new ns statuses.WriteFault other p = absurd (other refl)
written_any old new ns statuses.Memory other p = wrote_all old new ns p
written_any old new ns s other p = p

pub written_stop : (old new : Option (List ℕ)) (ns : List Note) (s : Status) (stop : Stop) → s ≡ status_stopped stop → Written old new ns (status_stopped stop) → Written old new ns s
written_stop old new ns s stop is p = rw is p

-- without memory, and without notes, nothing was written
pub written_none : (base : Option (List ℕ)) (s : Status) (ns : List Note) → s ≡ statuses.Memory → ns ≡ [] → Written base base ns s
written_none base s ns is none = rw (is, none) (wrote_all base base [] (Appends-nil base))

pub lost_written : (base : Option (List ℕ)) (s : Status) (ns : List Note) (tower : Option Tower) → IsOutOfMemory s ns tower → Written base base ns s
lost_written base s ns tower m = written_none base s ns m.memory m.notes

pub untold_written : (base : Option (List ℕ)) (s : Status) (ns : List Note) → TellsNothing s ns → Written base base ns s
untold_written base s ns t = written_none base s ns t.memory t.none

pub closed_ok : (s : Status) (note : Note) (old new : List Note) → new ≡ old ++ note ∷ [] → ClosedBy s note old s new
closed_ok statuses.WriteFault note old new p = p
closed_ok statuses.Memory note old new p = inr p
closed_ok s note old new p = (refl, p)

pub refused_as : (fault : Fault) (s : Status) (t : List Note) → RefusedBy fault s t → ClosedBy (status_of fault) (notes.Fault fault) [] s t
refused_as fault s t c = c

pub refused_from : (fault : Fault) (s : Status) (t : List Note) → ClosedBy (status_of fault) (notes.Fault fault) [] s t → RefusedBy fault s t
refused_from fault s t c = c

-- all lines were run, and the run was closed
pub done_from : (plan : Plan) (ending : Ending) (lines : List (List ℕ)) (start : Stage) (told t : List Note) (u : Stage) (tower : Option Tower) (shelf' : List Slot) (s : Status) → LinesRan plan start ending lines told u (Ok closes.End) → tower ≡ Some u.run.tower → shelf' ≡ u.shelf → HasNames start.shelf shelf' → ClosedBy statuses.Done (notes.End (now_of u.run.tower)) told s t → PlayOutcomes plan ending lines start s t tower shelf'
done_from plan ending lines start told t u tower shelf' statuses.Done ran left after names c = (ran.0, record { told = told; reached = u; ran = ran.1; notes = c.1; left = left; shelf = after })
done_from plan ending lines start told t u tower shelf' statuses.WriteFault ran left after names c = record { reached = u; stopped = inr (inl (rw ran.0 (record { told = told; ran = ran.1; notes = c }))); left = left; after = after }
done_from plan ending lines start told t u tower shelf' statuses.Memory ran left after names (inl c) = inr (record { reached = u; stopped = inl (rw c ran.1); left = left; after = after })
done_from plan ending lines start told t u tower shelf' statuses.Memory ran left after names (inr c) = inr (record { reached = u; stopped = inr (inr (inl (rw ran.0 (record { told = told; ran = ran.1; notes = c })))); left = left; after = after })
done_from plan ending lines start told t u tower shelf' s ran left after names c = cc

-- all lines were run, and the fault that reading broke off with was told
read_fault_from : (plan : Plan) (ending : Ending) (lines : List (List ℕ)) (start : Stage) (told t : List Note) (u : Stage) (tower : Option Tower) (shelf' : List Slot) (s : Status) → ending ≡ Broken faults.ReadFault → Runs plan 1 start lines told u → tower ≡ Some u.run.tower → shelf' ≡ u.shelf → HasNames start.shelf shelf' → ClosedBy statuses.ReadFault (notes.Fault faults.ReadFault) told s t → PlayOutcomes plan ending lines start s t tower shelf'
read_fault_from plan ending lines start told t u tower shelf' statuses.ReadFault is runs left after names c = (is, record { told = told; reached = u; ran = runs; notes = c.1; left = left; shelf = after })
read_fault_from plan ending lines start told t u tower shelf' statuses.WriteFault is runs left after names c = record { reached = u; stopped = inr (inl (rw is (record { told = told; ran = runs; notes = c }))); left = left; after = after }
read_fault_from plan ending lines start told t u tower shelf' statuses.Memory is runs left after names (inl c) = inr (record { reached = u; stopped = inl (rw c runs); left = left; after = after })
read_fault_from plan ending lines start told t u tower shelf' statuses.Memory is runs left after names (inr c) = inr (record { reached = u; stopped = inr (inr (inl (rw is (record { told = told; ran = runs; notes = c })))); left = left; after = after })
read_fault_from plan ending lines start told t u tower shelf' s is runs left after names c = cc

too_large_from : (plan : Plan) (ending : Ending) (lines : List (List ℕ)) (start : Stage) (told t : List Note) (u : Stage) (tower : Option Tower) (shelf' : List Slot) (s : Status) → ending ≡ Broken faults.TooLarge → Runs plan 1 start lines told u → tower ≡ Some u.run.tower → shelf' ≡ u.shelf → HasNames start.shelf shelf' → ClosedBy statuses.TooLarge (notes.Fault faults.TooLarge) told s t → PlayOutcomes plan ending lines start s t tower shelf'
too_large_from plan ending lines start told t u tower shelf' statuses.TooLarge is runs left after names c = (is, record { told = told; reached = u; ran = runs; notes = c.1; left = left; shelf = after })
too_large_from plan ending lines start told t u tower shelf' statuses.WriteFault is runs left after names c = record { reached = u; stopped = inr (inl (rw is (record { told = told; ran = runs; notes = c }))); left = left; after = after }
too_large_from plan ending lines start told t u tower shelf' statuses.Memory is runs left after names (inl c) = inr (record { reached = u; stopped = inl (rw c runs); left = left; after = after })
too_large_from plan ending lines start told t u tower shelf' statuses.Memory is runs left after names (inr c) = inr (record { reached = u; stopped = inr (inr (inl (rw is (record { told = told; ran = runs; notes = c })))); left = left; after = after })
too_large_from plan ending lines start told t u tower shelf' s is runs left after names c = cc

-- reading breaks off by no other fault
abbrev BreaksOff : Fault → Type 0
BreaksOff faults.ReadFault = Unit {0}
BreaksOff faults.TooLarge = Unit {0}
BreaksOff fault = ⊥

breaks_off : (left left' : Option (List ℕ)) (lines : List (List ℕ)) (fault : Fault) → AreRead left left' (Broken fault) lines → BreaksOff fault
breaks_off left left' lines faults.ReadFault r = tt
breaks_off left left' lines faults.TooLarge r = tt
breaks_off left left' lines fault r = r.read.ended

pub ended_from : (plan : Plan) (ending : Ending) (lines all : List (List ℕ)) (left0 left' : Option (List ℕ)) (start : Stage) (told t : List Note) (u : Stage) (tower : Option Tower) (shelf' : List Slot) (s : Status) (fault : Fault) → AreRead left0 left' ending all → LinesRan plan start ending lines told u (Ok (closes.Broken fault)) → tower ≡ Some u.run.tower → shelf' ≡ u.shelf → HasNames start.shelf shelf' → ClosedBy (status_of fault) (notes.Fault fault) told s t → PlayOutcomes plan ending lines start s t tower shelf'
ended_from plan ending lines all left0 left' start told t u tower shelf' s faults.ReadFault read ran left after names c = read_fault_from plan ending lines start told t u tower shelf' s ran.0 ran.1 left after names c
ended_from plan ending lines all left0 left' start told t u tower shelf' s faults.TooLarge read ran left after names c = too_large_from plan ending lines start told t u tower shelf' s ran.0 ran.1 left after names c
ended_from plan ending lines all left0 left' start told t u tower shelf' s fault read ran left after names c = absurd (breaks_off left0 left' all fault (subst (λ (e : Ending). AreRead left0 left' e all) ran.0 read))

-- a line was outside the grammar, and its fault was told
bad_closed : (plan : Plan) (ending : Ending) (lines : List (List ℕ)) (start : Stage) (told t : List Note) (u : Stage) (tower : Option Tower) (shelf' : List Slot) (s : Status) (bad : BadLine) (line n field : ℕ) → fault_of bad ≡ faults.Schedule line n field → IsFine ending → StopsAt plan start lines bad told u → tower ≡ Some u.run.tower → shelf' ≡ u.shelf → HasNames start.shelf shelf' → ClosedBy (statuses.Schedule line n field) (notes.Fault (fault_of bad)) told s t → PlayOutcomes plan ending lines start s t tower shelf'
bad_closed plan ending lines start told t u tower shelf' (statuses.Schedule l m f) bad line n field is fine stops left after names c = (fine, bad, is ∙ cc, record { told = told; reached = u; ran = stops; notes = c.1; left = left; shelf = after })
bad_closed plan ending lines start told t u tower shelf' statuses.WriteFault bad line n field is fine stops left after names c = record { reached = u; stopped = inr (inr (record { fine = fine; bad = bad; closed = record { told = told; ran = stops; notes = c } })); left = left; after = after }
bad_closed plan ending lines start told t u tower shelf' statuses.Memory bad line n field is fine stops left after names (inl c) = inr (record { reached = u; stopped = inr (inl (fine, bad, rw c stops)); left = left; after = after })
bad_closed plan ending lines start told t u tower shelf' statuses.Memory bad line n field is fine stops left after names (inr c) = inr (record { reached = u; stopped = inr (inr (inr (record { fine = fine; bad = bad; closed = record { told = told; ran = stops; notes = c } }))); left = left; after = after })
bad_closed plan ending lines start told t u tower shelf' s bad line n field is fine stops left after names c = cc

pub bad_from : (plan : Plan) (ending : Ending) (lines : List (List ℕ)) (start : Stage) (told t : List Note) (u : Stage) (tower : Option Tower) (shelf' : List Slot) (s : Status) (bad : BadLine) → LinesRan plan start ending lines told u (Ok (closes.Bad bad)) → tower ≡ Some u.run.tower → shelf' ≡ u.shelf → HasNames start.shelf shelf' → ClosedBy (status_of (fault_of bad)) (notes.Fault (fault_of bad)) told s t → PlayOutcomes plan ending lines start s t tower shelf'
bad_from plan ending lines start told t u tower shelf' s bad ran left after names c =
    bad_closed plan ending lines start told t u tower shelf' s bad bad.number (number_of bad.error) (field_of bad.error) refl ran.0 ran.1 left after names c

-- the run was stopped
pub stop_from : (plan : Plan) (ending : Ending) (lines : List (List ℕ)) (start : Stage) (t : List Note) (u : Stage) (tower : Option Tower) (shelf' : List Slot) (stop : Stop) → LinesRan plan start ending lines t u (Err stop) → tower ≡ Some u.run.tower → shelf' ≡ u.shelf → HasNames start.shelf shelf' → PlayOutcomes plan ending lines start (status_stopped stop) t tower shelf'
stop_from plan ending lines start t u tower shelf' stops.Memory (inl ran) left after names = inl (record { fine = ran.0; reached = ran.1; first = ran.2; names = names })
stop_from plan ending lines start t u tower shelf' stops.Memory (inr ran) left after names = inr (record { reached = u; stopped = inl ran.1; left = left; after = after })
stop_from plan ending lines start t u tower shelf' stops.WriteFault ran left after names = record { reached = u; stopped = inl ran; left = left; after = after }

-- a stack that is no TOML, or breaks a rule
refused_stack : (known : List ℕ → Bool) (ending : Ending) (s : Script) (shelf : List Slot) (status : Status) (t : List Note) (tower : Option Tower) (shelf' : List Slot) (error : StackError) (fault : Fault) → Reads known (Err error) s.stack → stack_fault error ≡ Some fault → IsStackAlone ending s → RefusedBy fault status t → tower ≡ None → shelf' ≡ shelf → ScriptOutcomes known ending s shelf status t tower shelf'
refused_stack known ending s shelf status t None shelf' error fault reads is alone refused left same = (inr (record { alone = alone; error = error; reads = reads; fault = fault; is_its = is; refused = refused }), same)
refused_stack known ending s shelf status t (Some a) shelf' error fault reads is alone refused left same = cc

pub not_toml_from : (known : List ℕ → Bool) (ending : Ending) (s : Script) (shelf : List Slot) (status : Status) (t : List Note) (tower : Option Tower) (shelf' : List Slot) → Reads known (Err stack.NotToml) s.stack → IsStackAlone ending s → RefusedBy faults.NotToml status t → tower ≡ None → shelf' ≡ shelf → ScriptOutcomes known ending s shelf status t tower shelf'
not_toml_from known ending s shelf status t tower shelf' reads alone refused left same = refused_stack known ending s shelf status t tower shelf' stack.NotToml faults.NotToml reads refl alone refused left same

pub rule_from : (known : List ℕ → Bool) (ending : Ending) (s : Script) (shelf : List Slot) (status : Status) (t : List Note) (tower : Option Tower) (shelf' : List Slot) (n item : ℕ) → Reads known (Err (stack.StackRule n item)) s.stack → IsStackAlone ending s → RefusedBy (faults.StackRule n item) status t → tower ≡ None → shelf' ≡ shelf → ScriptOutcomes known ending s shelf status t tower shelf'
rule_from known ending s shelf status t tower shelf' n item reads alone refused left same = refused_stack known ending s shelf status t tower shelf' (stack.StackRule n item) (faults.StackRule n item) reads refl alone refused left same

-- memory was not found for the stack
pub no_memory_from : (known : List ℕ → Bool) (ending : Ending) (s : Script) (shelf : List Slot) (status : Status) (t : List Note) (tower : Option Tower) (shelf' : List Slot) → IsOutOfMemory status t tower → shelf' ≡ shelf → ScriptOutcomes known ending s shelf status t tower shelf'
no_memory_from known ending s shelf status t None shelf' m same = (inl m, same)
no_memory_from known ending s shelf status t (Some a) shelf' m same = let no : Some a ≡ None = m.left in cc

-- a stack that was accepted
pub script_from : (known : List ℕ → Bool) (ending : Ending) (s : Script) (shelf : List Slot) (w : Run) (status : Status) (t : List Note) (tower : Option Tower) (shelf' : List Slot) (plan : Plan) → Reads known (Ok plan) s.stack → ((slots : List Slot) → IsOpening plan slots (stage w slots)) → IsSome tower → PlayOutcomes plan ending s.lines (stage w shelf) status t tower shelf' → ScriptOutcomes known ending s shelf status t tower shelf'
script_from known ending s shelf w status t (Some a) shelf' plan reads opens is played = (plan, reads, stage w shelf, opens shelf, played)
script_from known ending s shelf w status t None shelf' plan reads opens is played = cc

-- a fault that is told is no write fault
pub is_told : (fault : Fault) → ¬ (status_of fault ≡ statuses.WriteFault)
is_told (faults.Usage word) h = cc
is_told faults.TooLarge h = cc
is_told faults.NotToml h = cc
is_told (faults.StackRule n item) h = cc
is_told (faults.Schedule line n field) h = cc
is_told faults.ReadFault h = cc

-- the trace stayed as it was, and all of it was written
pub front_same : (base took : Option (List ℕ)) (old new : List Note) → new ≡ old → Appends base took (text_of old) → IsLeftOut base took new
front_same base took old new is p = rw is (wrote_all base took old p)

-- the outcome of a run that is refused before its first line
pub refused_at_once : (known : List ℕ → Bool) (fault : Fault) (shelf : List Slot) (status : Status) (t : List Note) (tower : Option Tower) (shelf' : List Slot) → RefusedBy fault status t → tower ≡ None → shelf' ≡ shelf → InputOutcomes known (Broken fault) None shelf status t tower shelf'
refused_at_once known fault shelf status t tower shelf' refused left same = (left, refused, same)

-- the ranks of a tower that stands keep their flows
kept_all : (t : Tower) → IsTower t → KeepsAll t
kept_all t v rank u at = kept_of u (rank_valid t rank u v at)

pub kept_if : (tower : Option Tower) → IfSome tower IsTower → IfSome tower KeepsAll
kept_if None v = v
kept_if (Some t) v = kept_all t v

-- a state of wires that has failed
cut_by : (now : ℕ) (fail : Fail) → IsWireState now (Failed fail) → IsCutBy now fail
cut_by now (GaveUp num first at) w = w
cut_by now (Below port) w = w
cut_by now (Cut at) w = w

-- the ends of sound wires fail by cuts
wires_cut : (a : Air) → IsSound a → AreCut (seen_of (Wires a))
wires_cut a s n f h i e at fail failed =
    let w = is_mapped fac_of (wire_at a n) f (sym (slice_get-map fac_of a.wires n) ∙ h) in
    let at' : slice_get w.0.ends i ≡ Some e = subst (λ (g : Fac). slice_get g.ends i ≡ Some e) (sym w.2) at in
    cut_by a.now fail (subst (IsWireState a.now) failed ((s.flows n w.0 w.1).sound.each i e at').state)

failed_all : (t : Tower) → IsTower t → FailedByCut t
failed_all (Wires a) v u at = subst (λ (s : Tower). AreCut (seen_of s)) (same_Some (Wires a) u at) (wires_cut a v)
failed_all (Rank' p difs below) v u at = elim (eqb_tells 0 (height_of below + 1)) [
  | inl h ↦ absurd (omega (arith, h.1))
  | inr f ↦ failed_all below v.1 u (rw f.0 at at)
]

pub failed_by_cut : (tower : Option Tower) → IfSome tower IsTower → IfSome tower FailedByCut
failed_by_cut None v = v
failed_by_cut (Some t) v = failed_all t v
