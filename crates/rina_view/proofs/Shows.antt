-- What notes show, one note after the other.
use Rattle.std.proofs.Common.{◌≡◌, ℕ, ◌+◌, ◌<◌, Bool, true, false, cond, List, [], ◌∷◌, ◌++◌, length, map, drop, get_or, Option, Some, None, refl, sym, ap, ◌∙◌, append_assoc, ◌⊎◌, inl, inr}
use Rattle.std.specs.List.{filter_map, cons_option, flat_map}
use Rattle.std.proofs.lemmas.List.{append-nil, drop_more}
use Rattle.rina_report.specs.declared.answer.Answer.{Answer}
use Rattle.rina_report.specs.declared.answer.Answer.TheVariants as answers
use Rattle.rina_report.specs.declared.note.Note.{Note}
use Rattle.rina_report.specs.declared.note.Note.TheVariants as notes
use Rattle.rina_view.specs.declared.gather.EntryKind.{EntryKind}
use Rattle.rina_view.specs.declared.gather.EntryKind.TheVariants.{Sent, Got}
use Rattle.rina_view.specs.declared.row.Row.{Row}
use Rattle.rina_view.specs.declared.shown.Entry.{Entry}
use Rattle.rina_view.specs.declared.shown.End.{End}
use Rattle.rina_view.specs.declared.shown.Off.{Off}
use Rattle.rina_view.specs.Rows.{got_there, rows_of}
use Rattle.rina_view.specs.Shown.{sent_entry, is_end, entry_of, entries_in, end_at, ends_in, off_at, offs_in}
use Rattle.rina_view.proofs.RowsLaw.{sent_of_rows}

-- an item that was added where there is one, and the items behind it
added : {X : Type 0} (o : Option X) (front rest : List X) → (front ++ cons_option o []) ++ rest ≡ front ++ cons_option o rest
added None front rest = ap (λ (xs : List _). xs ++ rest) (append-nil front)
added (Some x) front rest = append_assoc front (x ∷ []) rest

-- one more note was looked at
pub end_on : (ns : List Note) (i : ℕ) (note : Note) (o : Option End) (front total : List End) → i < length ns → note ≡ get_or ns i note → o ≡ end_at note (drop (i + 1) ns) → front ++ ends_in (drop i ns) ≡ total
    → (front ++ cons_option o []) ++ ends_in (drop (i + 1) ns) ≡ total
end_on ns i note o front total lt is shows so_far =
    let rest = ends_in (drop (i + 1) ns) in
    let at : drop i ns ≡ note ∷ drop (i + 1) ns = drop_more ns i note lt ∙ ap (λ (n : Note). n ∷ drop (i + 1) ns) (sym is) in
    let one : ends_in (drop i ns) ≡ cons_option o rest = ap ends_in at ∙ sym (ap (λ (p : Option End). cons_option p rest) shows) in
    added o front rest ∙ sym (ap (λ (es : List End). front ++ es) one) ∙ so_far

pub off_on : (ns : List Note) (i : ℕ) (note : Note) (o : Option Off) (front total : List Off) → i < length ns → note ≡ get_or ns i note → o ≡ off_at note → front ++ offs_in (drop i ns) ≡ total
    → (front ++ cons_option o []) ++ offs_in (drop (i + 1) ns) ≡ total
off_on ns i note o front total lt is shows so_far =
    let rest = offs_in (drop (i + 1) ns) in
    let at : drop i ns ≡ note ∷ drop (i + 1) ns = drop_more ns i note lt ∙ ap (λ (n : Note). n ∷ drop (i + 1) ns) (sym is) in
    let one : offs_in (drop i ns) ≡ cons_option o rest = ap offs_in at ∙ sym (ap (λ (p : Option Off). cons_option p rest) shows) in
    added o front rest ∙ sym (ap (λ (os : List Off). front ++ os) one) ∙ so_far

-- one more note was looked at for SDUs
pub entry_on : (kind : EntryKind) (ns : List Note) (i : ℕ) (note : Note) (o : Option Entry) (front total : List Entry) → i < length ns → note ≡ get_or ns i note → false ≡ is_end note → o ≡ entry_of kind note → front ++ entries_in kind (drop i ns) ≡ total
    → (front ++ cons_option o []) ++ entries_in kind (drop (i + 1) ns) ≡ total
entry_on kind ns i note o front total lt is goes shows so_far =
    let rest = entries_in kind (drop (i + 1) ns) in
    let at : drop i ns ≡ note ∷ drop (i + 1) ns = drop_more ns i note lt ∙ ap (λ (n : Note). n ∷ drop (i + 1) ns) (sym is) in
    let one : entries_in kind (drop i ns) ≡ cons_option o rest = ap (entries_in kind) at ∙ ap (λ (b : Bool). cond b [] (cons_option (entry_of kind note) rest)) (sym goes) ∙ sym (ap (λ (p : Option Entry). cons_option p rest) shows) in
    added o front rest ∙ sym (ap (λ (es : List Entry). front ++ es) one) ∙ so_far

-- the next end was found
pub entries_end : (kind : EntryKind) (ns : List Note) (i : ℕ) (note : Note) (front total : List Entry) → i < length ns → note ≡ get_or ns i note → true ≡ is_end note → front ++ entries_in kind (drop i ns) ≡ total → front ≡ total
entries_end kind ns i note front total lt is ends so_far =
    let at : drop i ns ≡ note ∷ drop (i + 1) ns = drop_more ns i note lt ∙ ap (λ (n : Note). n ∷ drop (i + 1) ns) (sym is) in
    let one : entries_in kind (drop i ns) ≡ [] = ap (entries_in kind) at ∙ ap (λ (b : Bool). cond b [] (cons_option (entry_of kind note) (entries_in kind (drop (i + 1) ns)))) (sym ends) in
    sym (append-nil front) ∙ sym (ap (λ (es : List Entry). front ++ es) one) ∙ so_far

-- a note shows an end with the SDUs behind it, and none itself, or it shows no end
record Ends (note : Note) (behind : List Note) : Type 0 where
  end : End
  is : is_end note ≡ true
  none : sent_entry note ≡ None
  shown : end_at note behind ≡ Some end
  sent : end.sent ≡ entries_in Sent behind

record GoesOn (note : Note) (behind : List Note) : Type 0 where
  is : is_end note ≡ false
  none : end_at note behind ≡ None

kind_of_answer : (line tick : ℕ) (answer : Answer) (behind : List Note) → Ends (notes.Line line tick answer) behind ⊎ GoesOn (notes.Line line tick answer) behind
unfolding sent_entry is_end
kind_of_answer line tick (answers.Flow flow) behind = inl (record { end = _; is = refl; none = refl; shown = refl; sent = refl })
kind_of_answer line tick answers.Done behind = inr (record { is = refl; none = refl })
kind_of_answer line tick (answers.Port state) behind = inr (record { is = refl; none = refl })
kind_of_answer line tick (answers.Member state) behind = inr (record { is = refl; none = refl })
kind_of_answer line tick answers.Nothing behind = inr (record { is = refl; none = refl })
kind_of_answer line tick (answers.Sent num) behind = inr (record { is = refl; none = refl })
kind_of_answer line tick (answers.Got at bytes) behind = inr (record { is = refl; none = refl })
kind_of_answer line tick (answers.In key end) behind = inr (record { is = refl; none = refl })
kind_of_answer line tick (answers.Out key) behind = inr (record { is = refl; none = refl })
kind_of_answer line tick (answers.OutOff key cause) behind = inr (record { is = refl; none = refl })
kind_of_answer line tick (answers.Held why) behind = inr (record { is = refl; none = refl })
kind_of_answer line tick (answers.Clock step) behind = inr (record { is = refl; none = refl })
kind_of_answer line tick answers.Idle behind = inr (record { is = refl; none = refl })
kind_of_answer line tick (answers.Cdap bytes) behind = inr (record { is = refl; none = refl })
kind_of_answer line tick (answers.Object name class value) behind = inr (record { is = refl; none = refl })
kind_of_answer line tick (answers.Off key cause) behind = inr (record { is = refl; none = refl })
kind_of_answer line tick (answers.SentEntry at num bytes) behind = inr (record { is = refl; none = refl })
kind_of_answer line tick (answers.GotEntry at num bytes) behind = inr (record { is = refl; none = refl })
kind_of_answer line tick (answers.Refused why) behind = inr (record { is = refl; none = refl })
kind_of_answer line tick (answers.Label label state) behind = inr (record { is = refl; none = refl })

kind_of : (note : Note) (behind : List Note) → Ends note behind ⊎ GoesOn note behind
unfolding sent_entry is_end
kind_of (notes.Line line tick answer) behind = kind_of_answer line tick answer behind
kind_of (notes.End tick) behind = inr (record { is = refl; none = refl })
kind_of (notes.Fault fault) behind = inr (record { is = refl; none = refl })
kind_of (notes.Checked a b c d) behind = inr (record { is = refl; none = refl })
kind_of (notes.Gen a b c d e f g h) behind = inr (record { is = refl; none = refl })

abbrev sent_by_ends : List End → List Entry
sent_by_ends ends = flat_map (λ (end : End). end.sent) ends

cons_front : (o : Option Entry) (xs ys : List Entry) → cons_option o (xs ++ ys) ≡ cons_option o xs ++ ys
cons_front None xs ys = refl
cons_front (Some x) xs ys = refl

sent_step : (note : Note) (behind : List Note) → Ends note behind ⊎ GoesOn note behind → filter_map sent_entry behind ≡ entries_in Sent behind ++ sent_by_ends (ends_in behind)
    → filter_map sent_entry (note ∷ behind) ≡ entries_in Sent (note ∷ behind) ++ sent_by_ends (ends_in (note ∷ behind))
sent_step note behind (inl e) rest =
    rw (e.is, e.none, e.shown, e.sent) rest
sent_step note behind (inr g) rest =
    rw (g.is, g.none)
    (ap (cons_option (sent_entry note)) rest ∙ cons_front (sent_entry note) (entries_in Sent behind) (sent_by_ends (ends_in behind)))

-- the SDUs sent are those before the first end, and then those of the ends
pub all_sent : (ns : List Note) → filter_map sent_entry ns ≡ entries_in Sent ns ++ sent_by_ends (ends_in ns)
all_sent [] = refl
all_sent (note ∷ behind) = sent_step note behind (kind_of note behind) (all_sent behind)

rows_of_ends : (all : List End) (offs : List Off) (ends : List End) → flat_map (λ (end : End). map (λ (r : Row). r.sent) (rows_of all offs end)) ends ≡ sent_by_ends ends
rows_of_ends all offs [] = refl
rows_of_ends all offs (end ∷ ends) = rw (sent_of_rows (got_there all end) offs end end.sent, rows_of_ends all offs ends) refl

pub each_has_its_row : (ns : List Note) (all : List End) (offs : List Off) → filter_map sent_entry ns ≡ entries_in Sent ns ++ flat_map (λ (end : End). map (λ (r : Row). r.sent) (rows_of all offs end)) (ends_in ns)
each_has_its_row ns all offs = rw (rows_of_ends all offs (ends_in ns)) (all_sent ns)
