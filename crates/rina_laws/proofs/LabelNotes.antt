-- Which notes tell nothing for a label.
use Rattle.std.proofs.Common.{cond, ◌≡◌, ◌≢◌, ◌∙◌, ℕ, true, false, List, [], ◌∷◌, ◌++◌, map, slice_get, Option, Some, None, Result, Ok, Err, option_map, refl, ap}
use Rattle.std.specs.List.{flat_map}
use Rattle.std.proofs.lemmas.List.{append-nil}
use Rattle.std.proofs.lemmas.List.Concat.{flat_map-append}
use Rattle.rina_account.specs.declared.ledger.Off.{Off}
use Rattle.rina_base.specs.declared.number.Num.{Num}
use Rattle.rina_data.specs.declared.step.StepError.{StepError}
use Rattle.rina_dif.specs.declared.shown.Shown.{Shown}
use Rattle.rina_law.specs.declared.entry.Entry.{Entry}
use Rattle.rina_iface.specs.declared.ends.End.{End}
use Rattle.rina_iface.specs.Ends.{with_passed, with_sent}
use Rattle.rina_report.specs.declared.note.Note.{Note}
use Rattle.rina_report.specs.declared.note.Note.TheVariants as notes
use Rattle.rina_report.specs.declared.answer.Answer.{Answer}
use Rattle.rina_report.specs.declared.answer.Answer.TheVariants as answers
use Rattle.rina_report.specs.declared.refusal.Refusal.{Refusal}
use Rattle.rina_report.specs.declared.refusal.Refusal.TheVariants as refusals
use Rattle.rina_report.specs.declared.state.StateNote.{StateNote}
use Rattle.rina_schedule.specs.declared.event.Event.{Event}
use Rattle.rina_schedule.specs.declared.event.Event.TheVariants as events
use Rattle.rina_stack.specs.declared.plan.Plan.{Plan}
use Rattle.rina_tower.specs.declared.tower.Tower.{Tower}
use Rattle.rina_tower.specs.Bystanders.{is_ipc}
use Rattle.rina_tower.specs.Ranks.{now_of}
use Rattle.rina_notes.specs.declared.label.Label.{Label}
use Rattle.rina_notes.specs.Look.{label_notes, noted, same_drawn, state_at, state_notes}
use Rattle.rina_words.specs.Step.{end_notes, entry_note, flow_note, got_note, journal_notes, ledger_notes, object_notes, off_notes, rib_notes, sent_note}
use Rattle.rina_notes.specs.StepTold.{object_told, off_told, step_told}
use Rattle.rina_notes.specs.Told.{drawn_told}
use Rattle.rina_laws.specs.Labels.{event_by}
use Rattle.rina_laws.proofs.LabelKeeps.{Keeps, keeps_same}
use Rattle.rina_laws.proofs.LabelMoves.{IsView}

-- nothing is told by a line of this number
abbrev pub IsDumb : {X : Type 0} → (List ℕ → Note → List X) → ℕ → Type 0
IsDumb by number = (name : List ℕ) (tick : ℕ) (what : Answer) → by name (notes.Line number tick what) ≡ []

-- a word that sends nothing and reads nothing
abbrev pub IsOther : Event → Type 0
IsOther (events.Send label bytes) = ⊥
IsOther (events.Read label) = ⊥
IsOther event = Unit {0}

-- the notes tell of an end what its view shows: of an SDU that was sent these, of one that was passed those
pub record IsTelling {X : Type 0} (lines : List (List ℕ)) (V : End → List X) (by : List ℕ → Note → List X) (sent got : Entry → List X) : Type 0 where
  pub view : IsView V
  pub state : (name : List ℕ) (number tick : ℕ) (label : List ℕ) (s : StateNote) → by name (notes.Line number tick (answers.Label label s)) ≡ []
  pub refused : (name : List ℕ) (number tick : ℕ) (why : Refusal) → by name (notes.Line number tick (answers.Refused why)) ≡ []
  pub nothing : (name : List ℕ) (number tick : ℕ) → by name (notes.Line number tick answers.Nothing) ≡ []
  pub others : (number : ℕ) (event : Event) → event_by lines number ≡ Some event → IsOther event → IsDumb by number
  pub sent_view : (e : End) (x : Entry) → is_ipc e.app ≡ false → V (with_sent e x) ≡ V e ++ sent x
  pub sent_same : (number : ℕ) (label bytes : List ℕ) → event_by lines number ≡ Some (events.Send label bytes) → (tick : ℕ) (num : Num) → by label (notes.Line number tick (answers.Sent num)) ≡ sent (record { tick = tick; num = num; bytes = bytes })
  pub sent_other : (number : ℕ) (label bytes : List ℕ) → event_by lines number ≡ Some (events.Send label bytes) → (other : List ℕ) → label ≢ other → (tick : ℕ) (num : Num) → by other (notes.Line number tick (answers.Sent num)) ≡ []
  pub got_view : (e : End) (x : Entry) → is_ipc e.app ≡ false → slice_get e.got e.taken ≡ Some x → V (with_passed e) ≡ V e ++ got x
  pub got_same : (number : ℕ) (label : List ℕ) → event_by lines number ≡ Some (events.Read label) → (tick : ℕ) (x : Entry) → by label (got_note number tick x) ≡ got x
  pub got_other : (number : ℕ) (label : List ℕ) → event_by lines number ≡ Some (events.Read label) → (other : List ℕ) → label ≢ other → (tick : ℕ) (x : Entry) → by other (got_note number tick x) ≡ []

-- what is told after more notes
abbrev pub after : {X : Type 0} → (List ℕ → Note → List X) → (List ℕ → List X) → List Note → List ℕ → List X
after by told ns name = told name ++ flat_map (by name) ns

abbrev pub IsQuiet : {X : Type 0} → (List ℕ → Note → List X) → List Note → Type 0
IsQuiet by ns = (name : List ℕ) → flat_map (by name) ns ≡ []

pub after_quiet : {X : Type 0} (V : End → List X) (by : List ℕ → Note → List X) (told : List ℕ → List X) (ns : List Note) (t : Tower) (ls : List Label) → IsQuiet by ns → Keeps V told t ls → Keeps V (after by told ns) t ls
after_quiet V by told ns t ls quiet k = keeps_same V told (after by told ns) t ls (λ name. ap (λ xs. told name ++ xs) (quiet name) ∙ append-nil (told name)) k

pub quiet_as : {X : Type 0} (by : List ℕ → Note → List X) (ns ms : List Note) → ns ≡ ms → IsQuiet by ms → IsQuiet by ns
quiet_as by ns ms is q name = ap (flat_map (by name)) is ∙ q name

pub quiet_append : {X : Type 0} (by : List ℕ → Note → List X) (ns ms : List Note) → IsQuiet by ns → IsQuiet by ms → IsQuiet by (ns ++ ms)
quiet_append by ns ms p q name = flat_map-append (by name) ns ms ∙ ap (λ xs. xs ++ flat_map (by name) ms) (p name) ∙ q name

pub quiet_dumb : {X : Type 0} (by : List ℕ → Note → List X) (number tick : ℕ) (says : Option Answer) → IsDumb by number → IsQuiet by (noted number tick says)
quiet_dumb by number tick None dumb name = refl
quiet_dumb by number tick (Some what) dumb name = ap (λ xs. xs ++ []) (dumb name tick what)

pub quiet_one : {X : Type 0} (by : List ℕ → Note → List X) (number tick : ℕ) (what : Answer) → ((name : List ℕ) → by name (notes.Line number tick what) ≡ []) → IsQuiet by (noted number tick (Some what))
quiet_one by number tick what h name = ap (λ xs. xs ++ []) (h name)

pub quiet_refusal : {X : Type 0} (by : List ℕ → Note → List X) (number tick : ℕ) (o : Option Refusal) → ((name : List ℕ) (why : Refusal) → by name (notes.Line number tick (answers.Refused why)) ≡ []) → IsQuiet by (noted number tick (option_map answers.Refused o))
quiet_refusal by number tick None h name = refl
quiet_refusal by number tick (Some why) h name = ap (λ xs. xs ++ []) (h name why)

-- ---- the states of labels

quiet_state : {X : Type 0} (by : List ℕ → Note → List X) (number tick : ℕ) (label : List ℕ) (o : Option StateNote) → ((name : List ℕ) (s : StateNote) → by name (notes.Line number tick (answers.Label label s)) ≡ []) → IsQuiet by (noted number tick (option_map (answers.Label label) o))
quiet_state by number tick label None h name = refl
quiet_state by number tick label (Some s) h name = ap (λ xs. xs ++ []) (h name s)

quiet_label : {X : Type 0} (by : List ℕ → Note → List X) (plan : Plan) (number : ℕ) (t : Tower) (l : Label) → ((name : List ℕ) (s : StateNote) → by name (notes.Line number (now_of t) (answers.Label l.name s)) ≡ []) → IsQuiet by (label_notes plan number t l)
unfolding label_notes
quiet_label by plan number t l h = elim (same_drawn (state_at t l.rank l.port) l.shown) as (λ b. IsQuiet by (cond b [] (noted number (now_of t) (option_map (answers.Label l.name) (drawn_told plan l.rank (state_at t l.rank l.port)))))) [
  | true ↦ λ name. refl
  | false ↦ quiet_state by number (now_of t) l.name (drawn_told plan l.rank (state_at t l.rank l.port)) h
]

pub quiet_states : {X : Type 0} (by : List ℕ → Note → List X) (plan : Plan) (number : ℕ) (t : Tower) (ls : List Label) → ((name label : List ℕ) (s : StateNote) → by name (notes.Line number (now_of t) (answers.Label label s)) ≡ []) → IsQuiet by (state_notes plan number t ls)
quiet_states by plan number t [] h name = refl
quiet_states by plan number t (l ∷ ls) h name = quiet_append by (label_notes plan number t l) (state_notes plan number t ls) (quiet_label by plan number t l (λ n s. h n l.name s)) (quiet_states by plan number t ls h) name

-- ---- journals, ledgers and objects

quiet_map : {X : Type 0} (by : List ℕ → Note → List X) (number : ℕ) (note : Entry → Note) (xs : List Entry) → ((name : List ℕ) (x : Entry) → by name (note x) ≡ []) → IsQuiet by (map note xs)
quiet_map by number note [] dumb name = refl
quiet_map by number note (x ∷ xs) dumb name = quiet_append by (note x ∷ []) (map note xs) (λ n. ap (λ ys. ys ++ []) (dumb n x)) (quiet_map by number note xs dumb) name

quiet_end : {X : Type 0} (by : List ℕ → Note → List X) (plan : Plan) (rank number tick : ℕ) (e : End) → IsDumb by number → IsQuiet by (end_notes plan rank number tick e)
quiet_end by plan rank number tick e dumb =
    quiet_append by (noted number tick (option_map answers.Flow (flow_note plan rank e))) (map (sent_note number tick) e.sent ++ map (entry_note number tick) e.got) (quiet_dumb by number tick (option_map answers.Flow (flow_note plan rank e)) dumb)
    (quiet_append by (map (sent_note number tick) e.sent) (map (entry_note number tick) e.got) (quiet_map by number (sent_note number tick) e.sent (λ n x. dumb n tick (answers.SentEntry x.tick x.num x.bytes))) (quiet_map by number (entry_note number tick) e.got (λ n x. dumb n tick (answers.GotEntry x.tick x.num x.bytes))))

quiet_ends : {X : Type 0} (by : List ℕ → Note → List X) (plan : Plan) (rank number tick : ℕ) (es : List End) → IsDumb by number → IsQuiet by (flat_map (end_notes plan rank number tick) es)
quiet_ends by plan rank number tick [] dumb name = refl
quiet_ends by plan rank number tick (e ∷ es) dumb name = quiet_append by (end_notes plan rank number tick e) (flat_map (end_notes plan rank number tick) es) (quiet_end by plan rank number tick e dumb) (quiet_ends by plan rank number tick es dumb) name

pub quiet_journal : {X : Type 0} (by : List ℕ → Note → List X) (plan : Plan) (rank number tick : ℕ) (es : List End) → IsDumb by number → IsQuiet by (journal_notes plan rank number tick es)
quiet_journal by plan rank number tick [] dumb = quiet_dumb by number tick (Some answers.Nothing) dumb
quiet_journal by plan rank number tick (e ∷ es) dumb = quiet_ends by plan rank number tick (e ∷ es) dumb

quiet_lines : {X : Type 0} (by : List ℕ → Note → List X) (plan : Plan) (rank number tick : ℕ) (offs : List Off) → IsDumb by number → IsQuiet by (flat_map (λ (x : Off). noted number tick (off_told plan rank x)) offs)
quiet_lines by plan rank number tick [] dumb name = refl
quiet_lines by plan rank number tick (x ∷ xs) dumb name = quiet_append by (noted number tick (off_told plan rank x)) (flat_map (λ (y : Off). noted number tick (off_told plan rank y)) xs) (quiet_dumb by number tick (off_told plan rank x) dumb) (quiet_lines by plan rank number tick xs dumb) name

quiet_offs : {X : Type 0} (by : List ℕ → Note → List X) (plan : Plan) (rank number tick : ℕ) (offs : List Off) → IsDumb by number → IsQuiet by (off_notes plan rank number tick offs)
quiet_offs by plan rank number tick [] dumb = quiet_dumb by number tick (Some answers.Nothing) dumb
quiet_offs by plan rank number tick (x ∷ xs) dumb = quiet_lines by plan rank number tick (x ∷ xs) dumb

pub quiet_ledger : {X : Type 0} (by : List ℕ → Note → List X) (plan : Plan) (rank number tick : ℕ) (offs : Option (List Off)) → IsDumb by number → IsQuiet by (ledger_notes plan rank number tick offs)
quiet_ledger by plan rank number tick None dumb = quiet_dumb by number tick (Some (answers.Refused refusals.NoIpc)) dumb
quiet_ledger by plan rank number tick (Some offs) dumb = quiet_offs by plan rank number tick offs dumb

quiet_told : {X : Type 0} (by : List ℕ → Note → List X) (number tick : ℕ) (objects : List Shown) → IsDumb by number → IsQuiet by (flat_map (λ (x : Shown). noted number tick (object_told x)) objects)
quiet_told by number tick [] dumb name = refl
quiet_told by number tick (x ∷ xs) dumb name = quiet_append by (noted number tick (object_told x)) (flat_map (λ (y : Shown). noted number tick (object_told y)) xs) (quiet_dumb by number tick (object_told x) dumb) (quiet_told by number tick xs dumb) name

quiet_objects : {X : Type 0} (by : List ℕ → Note → List X) (number tick : ℕ) (objects : List Shown) → IsDumb by number → IsQuiet by (object_notes number tick objects)
quiet_objects by number tick [] dumb = quiet_dumb by number tick (Some answers.Nothing) dumb
quiet_objects by number tick (x ∷ xs) dumb = quiet_told by number tick (x ∷ xs) dumb

pub quiet_rib : {X : Type 0} (by : List ℕ → Note → List X) (number tick : ℕ) (found : Result (List Shown) StepError) → IsDumb by number → IsQuiet by (rib_notes number tick found)
quiet_rib by number tick (Ok objects) dumb = quiet_objects by number tick objects dumb
quiet_rib by number tick (Err error) dumb = quiet_dumb by number tick (option_map answers.Refused (step_told error)) dumb
