-- The notes of one line are written in one piece.
use Rattle.std.proofs.Common.{◌≡◌, ℕ, zero, suc, ◌+◌, Bool, true, false, cond, List, [], ◌∷◌, ◌++◌, length, map, drop, Option, Some, None, option_map, Result, Ok, Err, inl, inr, refl, sym, ap, subst, ◌∙◌, nat_lt}
use Rattle.std.specs.List.{flat_map}
use Rattle.std.proofs.lemmas.List.{drop_at}
use Rattle.std.proofs.lemmas.List.Concat.{flat_map-cons}
use Rattle.rina_account.specs.declared.ledger.Off.{Off}
use Rattle.rina_base.specs.declared.number.Port.{Port}
use Rattle.rina_data.specs.declared.step.StepError.{StepError}
use Rattle.rina_dif.specs.declared.shown.Shown.{Shown}
use Rattle.rina_iface.specs.declared.ends.End.{End}
use Rattle.rina_law.specs.declared.entry.Entry.{Entry}
use Rattle.rina_report.specs.declared.answer.Answer.{Answer}
use Rattle.rina_report.specs.declared.answer.Answer.TheVariants as answers
use Rattle.rina_policy.specs.Slots.{count_of}
use Rattle.rina_report.specs.declared.note.Note.{Note}
use Rattle.rina_report.specs.declared.note.Note.TheVariants as notes
use Rattle.rina_schedule.specs.declared.event.Event.{Event}
use Rattle.rina_schedule.specs.declared.event.Event.TheVariants as events
use Rattle.rina_stack.specs.declared.plan.Plan.{Plan}
use Rattle.rina_tower.specs.declared.tower.Tower.{Tower}
use Rattle.rina_tower.specs.Ranks.{now_of}
use Rattle.rina_notes.specs.declared.facility.RankedFac.{RankedFac}
use Rattle.rina_notes.specs.declared.label.Label.{Label}
use Rattle.rina_notes.specs.declared.site.Site.{Site}
use Rattle.rina_notes.specs.Look.{Leads, label_notes, noted, state_at, state_notes}
use Rattle.rina_notes.specs.Sites.{dif_site_at, fac_named, port_in}
use Rattle.rina_notes.specs.StepTold.{object_told, off_told, step_told}
use Rattle.rina_notes.specs.Told.{drawn_told}
use Rattle.rina_words.specs.declared.run.Run.{Run}
use Rattle.rina_words.specs.Step.{Accounting, Acts, ActsOnRun, Answering, Reading, Says, Showing, ShowingRib, Stage, Steps, Ticking, Ticks, TicksOnce, end_notes, entry_note, flow_note, got_note, journal_notes, ledger_notes, object_notes, off_notes, read_notes, retire_answer, rib_notes, sent_note}
use Rattle.rina_run.specs.Written.{AreOfLine, IsOfLine, IsPiece}

pub none_of : (line : ℕ) → AreOfLine line []
unfolding AreOfLine
none_of line = tt

both_of : (line : ℕ) (xs ys : List Note) → AreOfLine line xs → AreOfLine line ys → AreOfLine line (xs ++ ys)
unfolding AreOfLine
both_of line [] ys h k = k
both_of line (x ∷ xs) ys h k = (h.0, both_of line xs ys h.1 k)

all_of : {A : Type 0} (line : ℕ) (f : A → List Note) → ((x : A) → AreOfLine line (f x)) → (xs : List A) → AreOfLine line (flat_map f xs)
all_of line f h [] = none_of line
all_of line f h (x ∷ xs) = subst (AreOfLine line) (sym (flat_map-cons f x xs)) (both_of line (f x) (flat_map f xs) (h x) (all_of line f h xs))

map_of : {A : Type 0} (line : ℕ) (f : A → Note) → ((x : A) → IsOfLine line (f x)) → (xs : List A) → AreOfLine line (map f xs)
unfolding AreOfLine
map_of line f h [] = tt
map_of line f h (x ∷ xs) = (h x, map_of line f h xs)

noted_of : (line tick : ℕ) (o : Option Answer) → AreOfLine line (noted line tick o)
unfolding AreOfLine
noted_of line tick None = tt
noted_of line tick (Some what) = (refl, tt)

one_of : (line tick : ℕ) (what : Answer) → AreOfLine line (notes.Line line tick what ∷ [])
unfolding AreOfLine
one_of line tick what = (refl, tt)

either_of : (line : ℕ) (b : Bool) (xs ys : List Note) → AreOfLine line xs → AreOfLine line ys → AreOfLine line (cond b xs ys)
either_of line true xs ys h k = h
either_of line false xs ys h k = k

label_of : (plan : Plan) (line : ℕ) (t : Tower) (l : Label) → AreOfLine line (label_notes plan line t l)
unfolding label_notes
label_of plan line t l = either_of line _ _ _ (none_of line) (noted_of line (now_of t) (option_map (answers.Label l.name) (drawn_told plan l.rank (state_at t l.rank l.port))))

states_of : (plan : Plan) (line : ℕ) (t : Tower) (labels : List Label) → AreOfLine line (state_notes plan line t labels)
states_of plan line t labels = all_of line (label_notes plan line t) (label_of plan line t) labels

-- Words

read_of : (line tick : ℕ) (entries : List Entry) → AreOfLine line (read_notes line tick entries)
read_of line tick [] = one_of line tick answers.Nothing
read_of line tick (x ∷ xs) = map_of line (got_note line tick) (λ y. refl) (x ∷ xs)

reading_of : (line : ℕ) (p : Option (ℕ × Port)) (w : Run) (ns : List Note) (w' : Run) → Reading line p w ns w' → AreOfLine line ns
reading_of line None w ns w' h = subst (AreOfLine line) (sym h.0) (one_of line _ _)
reading_of line (Some p) w ns w' h = subst (AreOfLine line) (sym h.notes) (read_of line (now_of w.tower) h.entries)

end_of : (plan : Plan) (rank line tick : ℕ) (e : End) → AreOfLine line (end_notes plan rank line tick e)
end_of plan rank line tick e = both_of line _ _ (noted_of line tick (option_map answers.Flow (flow_note plan rank e))) (both_of line _ _ (map_of line (sent_note line tick) (λ y. refl) e.sent) (map_of line (entry_note line tick) (λ y. refl) e.got))

journal_of : (plan : Plan) (rank line tick : ℕ) (ends : List End) → AreOfLine line (journal_notes plan rank line tick ends)
journal_of plan rank line tick [] = one_of line tick answers.Nothing
journal_of plan rank line tick (e ∷ es) = all_of line (end_notes plan rank line tick) (end_of plan rank line tick) (e ∷ es)

showing_of : (plan : Plan) (line : ℕ) (f : Option RankedFac) (w : Run) (ns : List Note) (w' : Run) → Showing plan line f w ns w' → AreOfLine line ns
showing_of plan line None w ns w' h = subst (AreOfLine line) (sym h.0) (one_of line _ _)
showing_of plan line (Some f) w ns w' h = subst (AreOfLine line) (sym h.notes) (journal_of plan f.rank line (now_of w.tower) _)

offs_of : (plan : Plan) (rank line tick : ℕ) (offs : List Off) → AreOfLine line (off_notes plan rank line tick offs)
offs_of plan rank line tick [] = one_of line tick answers.Nothing
offs_of plan rank line tick (o ∷ os) = all_of line (λ (x : Off). noted line tick (off_told plan rank x)) (λ x. noted_of line tick (off_told plan rank x)) (o ∷ os)

ledger_of : (plan : Plan) (rank line tick : ℕ) (offs : Option (List Off)) → AreOfLine line (ledger_notes plan rank line tick offs)
ledger_of plan rank line tick None = one_of line tick _
ledger_of plan rank line tick (Some offs) = offs_of plan rank line tick offs

accounting_of : (plan : Plan) (line : ℕ) (site : Result Site ℕ) (w : Run) (ns : List Note) (w' : Run) → Accounting plan line site w ns w' → AreOfLine line ns
accounting_of plan line (Err field) w ns w' h = subst (AreOfLine line) (sym h.0) (one_of line _ _)
accounting_of plan line (Ok site) w ns w' h = subst (AreOfLine line) (sym h.notes) (ledger_of plan site.rank line (now_of w.tower) h.offs)

objects_of : (line tick : ℕ) (objects : List Shown) → AreOfLine line (object_notes line tick objects)
objects_of line tick [] = one_of line tick answers.Nothing
objects_of line tick (o ∷ os) = all_of line (λ (x : Shown). noted line tick (object_told x)) (λ x. noted_of line tick (object_told x)) (o ∷ os)

rib_of : (line tick : ℕ) (found : Result (List Shown) StepError) → AreOfLine line (rib_notes line tick found)
rib_of line tick (Ok objects) = objects_of line tick objects
rib_of line tick (Err error) = noted_of line tick (option_map answers.Refused (step_told error))

showing_rib_of : (line : ℕ) (path : Option (List ℕ)) (site : Result Site ℕ) (w : Run) (ns : List Note) (w' : Run) → ShowingRib line path site w ns w' → AreOfLine line ns
showing_rib_of line path (Err field) w ns w' h = subst (AreOfLine line) (sym h.0) (one_of line _ _)
showing_rib_of line path (Ok site) w ns w' h = subst (AreOfLine line) (sym h.notes) (rib_of line (now_of w.tower) h.found)

once_of : (plan : Plan) (line : ℕ) (s : Stage) (ns : List Note) (s' : Stage) → TicksOnce plan line s ns s' → AreOfLine line ns
once_of plan line s ns s' h = subst (AreOfLine line) (sym h.notes) (states_of plan line s'.run.tower s.run.labels)

ticks_of : (plan : Plan) (line count : ℕ) (s : Stage) (ns : List Note) (s' : Stage) → Ticks plan line count s ns s' → AreOfLine line ns
ticks_of plan line zero s ns s' h = subst (AreOfLine line) (sym h.0) (none_of line)
ticks_of plan line (suc count) s ns s' (mid, first, rest, once, more, are) = subst (AreOfLine line) (sym are) (both_of line first rest (once_of plan line s first mid once) (ticks_of plan line count mid rest s' more))

ticking_of : (spent : Bool) (plan : Plan) (line count : ℕ) (s : Stage) (ns : List Note) (s' : Stage) → Ticking spent plan line count s ns s' → AreOfLine line ns
ticking_of true plan line count s ns s' h = subst (AreOfLine line) (sym h.0) (one_of line _ _)
ticking_of false plan line count s ns s' h = subst (AreOfLine line) (sym h.notes) (both_of line h.told _ (ticks_of plan line count s h.told s' h.ticks) (one_of line _ _))

says_of : (line : ℕ) (Does : Option Answer → Run → Type 0) (ns : List Note) (w' : Run) → Says line Does ns w' → AreOfLine line ns
says_of line Does ns w' h = subst (AreOfLine line) (sym h.notes) (noted_of line (now_of w'.tower) h.says)

acts_on_run_of : (plan : Plan) (line : ℕ) (event : Event) (w : Run) (ns : List Note) (w' : Run) → ActsOnRun plan line event w ns w' → AreOfLine line ns
acts_on_run_of plan line (events.Read label) w ns w' h = reading_of line (port_in w.labels label) w ns w' h
acts_on_run_of plan line (events.Journal fac) w ns w' h = showing_of plan line (fac_named plan fac) w ns w' h
acts_on_run_of plan line (events.Ledger dif node) w ns w' h = accounting_of plan line (dif_site_at plan dif node) w ns w' h
acts_on_run_of plan line (events.Rib dif node path) w ns w' h = showing_rib_of line path (dif_site_at plan dif node) w ns w' h
acts_on_run_of plan line event w ns w' h = says_of line (Answering plan event w) ns w' h

acts_of : (plan : Plan) (line : ℕ) (event : Event) (s : Stage) (ns : List Note) (s' : Stage) → Acts plan line event s ns s' → AreOfLine line ns
acts_of plan line (events.Retire policy) s ns s' h = subst (AreOfLine line) (sym h.notes) (noted_of line (now_of s.run.tower) (retire_answer (count_of policy s.shelf)))
acts_of plan line (events.Tick count) s ns s' h = ticking_of (nat_lt 10000000 (now_of s.run.tower + count)) plan line count s ns s' h
acts_of plan line (events.Out dif node link) s ns s' h = subst (AreOfLine line) (sym h.notes) (noted_of line (now_of s'.run.tower) h.says)
acts_of plan line events.Round s ns s' h = subst (AreOfLine line) (sym h.notes) (one_of line _ _)
acts_of plan line event s ns s' h = acts_on_run_of plan line event s.run ns s'.run h.0

steps_of : (plan : Plan) (line : ℕ) (event : Event) (s : Stage) (ns : List Note) (s' : Stage) → Steps plan line event s ns s' → AreOfLine line ns
steps_of plan line event s ns s' h = subst (AreOfLine line) (sym h.notes) (both_of line h.answer _ (acts_of plan line event s h.answer h.mid h.acts) (states_of plan line s'.run.tower h.mid.run.labels))

-- Pieces

behind : (old new more : List Note) → new ≡ old ++ more → drop (length old) new ≡ more
behind old new more is = ap (drop (length old)) is ∙ drop_at old more (length old) refl

-- the notes of a line
pub piece_of : (plan : Plan) (line : ℕ) (event : Event) (s s' : Stage) (old new : List Note) → Leads (λ ns. Steps plan line event s ns s') old new → IsPiece (drop (length old) new)
piece_of plan line event s s' old new l = inl (line, subst (AreOfLine line) (sym (behind old new l.notes l.trace)) (steps_of plan line event s l.notes s' l.holds))

-- the closing note
pub closing_piece : (old new : List Note) (note : Note) → new ≡ old ++ note ∷ [] → IsPiece (drop (length old) new)
closing_piece old new note is = inr (note, behind old new (note ∷ []) is)
