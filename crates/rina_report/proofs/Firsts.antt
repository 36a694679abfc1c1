-- The error of a note is settled by the fields up to the one that it names, and some note begins with the fields in front.
use Rattle.std.proofs.Common.{◌≡◌, ℕ, zero, suc, ◌+◌, ◌<◌, ◌≤◌, Bool, true, false, cond, List, [], ◌∷◌, codes, take, drop, Option, Some, None, Result, Ok, Err, refl, sym, ap, subst, ◌∙◌, arith}
use Rattle.std.specs.Prelude.{is_some}
use Rattle.std.specs.Fmt.{decimal}
use Rattle.std.specs.Str.{bytes_eq}
use Rattle.rina_base.specs.Decimals.{is_digit, decimal_from, decimal_of}
use Rattle.rina_base.specs.Traverse.{◌>>=◌}
use Rattle.rina_schedule.specs.Errors.{field_of}
use Rattle.rina_schedule.specs.Gives.{or_bad}
use Rattle.rina_schedule.specs.declared.error.LineError.{LineError}
use Rattle.rina_schedule.specs.declared.error.LineError.TheVariants as errors
use Rattle.rina_report.specs.declared.answer.Answer.TheVariants as answers
use Rattle.rina_report.specs.declared.note.Note.{Note}
use Rattle.rina_report.specs.declared.note.Note.TheVariants as notes
use Rattle.rina_report.specs.Fields.{fields_of, max32, is_numeral, numeral_of}
use Rattle.rina_report.specs.Firsts.{note_words, answer_words, words_behind, IsNoneOf, BeginsWithNone, HasNoWord, SameFields, numbers_in_front, place_of, BeginsNote, HasNoteAndMore, IsTrueOf}
use Rattle.rina_report.specs.Notes.{note_text}
use Rattle.rina_report.specs.ReadAnswers.{answer_at}
use Rattle.rina_report.specs.ReadNotes.{counter_at, told_at, line_note_at, whole_at, fields_note, note_at}
use Rattle.rina_report.proofs.Numerals.{numeral_back}
use Rattle.rina_report.proofs.Printed.{note_fields, note_back}
use Rattle.rina_report.proofs.Readers.{word_is}
use Rattle.rina_report.proofs.Told.{fields_is}
use Rattle.rina_report.proofs.Whole.{text_back}
use Rattle.rina_report.proofs.Seen.{Fields, err_same, Reads, Seen, Settled, same_head, same_tail, no_fields, seen_more, seen_end, seen_now, failed_so, known_made, made}
use Rattle.rina_report.proofs.SeenFields.{last32}
use Rattle.rina_report.proofs.SeenWords.{not_unknown, other_word, answer_known, fault_settled, checked_settled, gen_settled}

-- ---- all notes

-- where what stands behind this word fails, the fields are seen up to the place of the error
record Placed (word : List ℕ) (q : Fields → Result Note LineError) : Type 0 where
  seen : (t : Fields) (e : LineError) → q t ≡ Err e → Seen q t e (numbers_in_front 2 (word ∷ t) + field_of e)

seen_as : {A : Type 0} (q : Fields → Result A LineError) (a : Fields) (e : LineError) (j k : ℕ) → j ≡ k → Seen q a e j → Seen q a e k
seen_as q a e j k same h = subst (λ (m : ℕ). Seen q a e m) same h

at_word : (word : List ℕ) (p : Fields → Result Note LineError) → numeral_of max32 word ≡ None → Settled 1 p → Placed word p
at_word word p none h = record { seen = placed }
  where
    placed : (t : Fields) (e : LineError) → p t ≡ Err e → Seen p t e (numbers_in_front 2 (word ∷ t) + field_of e)
    placed t e is = (let f = h.known.fails t e is in let zero_in : numbers_in_front 2 (word ∷ t) ≡ 0 = ap (λ (o : Option ℕ). cond (is_some o) (suc (numbers_in_front 1 t)) 0) none in
        seen_as p t e f.seen (numbers_in_front 2 (word ∷ t) + field_of e) (omega (arith, f.names, zero_in)) f.is)

placed_word : {p q : Fields → Result Note LineError} (word other : List ℕ) → numeral_of max32 other ≡ None → Settled 1 p → Placed word q → Placed word (λ (t : Fields). cond (bytes_eq word other) (p t) (q t))
placed_word {p = p} {q = q} word other none h g = by_word (bytes_eq word other) refl
  where
    by_word : (c : Bool) → bytes_eq word other ≡ c → Placed word (λ (t : Fields). cond c (p t) (q t))
    by_word true e = at_word word p (ap (λ (w : List ℕ). numeral_of max32 w) (word_is word other e) ∙ none) h
    by_word false e = record { seen = g.seen }

-- what stands behind the number of a line, and behind the tick
abbrev behind_line : ℕ → Fields → Result Note LineError
behind_line line t = counter_at t >>= λ tick. told_at line tick.0 tick.1

abbrev and_fields : Fields → ℕ → Result (ℕ × Fields) LineError
and_fields t x = Ok (x, t)

abbrev from_line : Option ℕ → Fields → Result Note LineError
from_line o t = (or_bad errors.UnknownWord o >>= λ x. and_fields t x) >>= λ line. behind_line line.0 line.1

abbrev from_tick : ℕ → Option ℕ → Fields → Result Note LineError
from_tick line o t = (or_bad errors.UnknownWord o >>= λ x. and_fields t x) >>= λ tick. told_at line tick.0 tick.1

told_sample : (line tick : ℕ) → Reads (told_at line tick)
unfolding answer_at
told_sample line tick = record { fields = codes "none" ∷ []; value = notes.Line line tick answers.Nothing; is = refl }

tick_sample : (line : ℕ) → Reads (behind_line line)
unfolding counter_at answer_at
tick_sample line = record { fields = decimal 0 ∷ codes "none" ∷ []; value = notes.Line line 0 answers.Nothing; is = rw (numeral_back max32 0 (omega arith) (omega arith)) refl }

note_sample : Reads fields_note
note_sample = record { fields = note_fields (notes.End 0); value = notes.End 0; is = note_back (notes.End 0) (omega arith) }

unknown : {A : Type 0} (P : LineError → Type 0) (e : LineError) → ◌≡◌ {A = Result A LineError} (Err errors.UnknownWord) (Err e) → P errors.UnknownWord → P e
unknown {A = A} P e h p = subst P (err_same {A = A} errors.UnknownWord e h) p

told_seen : (line tick : ℕ) (t : Fields) (e : LineError) → told_at line tick t ≡ Err e → Seen (told_at line tick) t e (1 + field_of e)
told_seen line tick [] e h = unknown (λ (x : LineError). Seen (told_at line tick) [] x (1 + field_of x)) e h (seen_end (told_at line tick) (told_sample line tick) errors.UnknownWord refl tt (λ x. x))
told_seen line tick (w ∷ v) e h = (let f = (known_made (λ answer. notes.Line line tick answer) (answer_known w).known).fails v e h in
    seen_as (told_at line tick) (w ∷ v) e (suc f.seen) _ (omega (arith, f.names)) (seen_more (told_at line tick) (told_sample line tick) w v e f.seen f.is))

by_tick : (line : ℕ) (o : Option ℕ) (t : Fields) (e : LineError) → from_tick line o t ≡ Err e → Seen (from_tick line o) t e (cond (is_some o) 1 0 + field_of e)
by_tick line None t e h = unknown (λ (x : LineError). Seen (from_tick line None) t x (0 + field_of x)) e h (seen_now 0 (from_tick line None) t errors.UnknownWord (λ s. refl) refl)
by_tick line (Some tick) t e h = told_seen line tick t e h

line_seen : (line : ℕ) (t : Fields) (e : LineError) → behind_line line t ≡ Err e → Seen (behind_line line) t e (suc (numbers_in_front 1 t) + field_of e)
unfolding counter_at
line_seen line [] e h = unknown (λ (x : LineError). Seen (behind_line line) [] x (1 + field_of x)) e h (seen_end (behind_line line) (tick_sample line) errors.UnknownWord refl tt (λ x. x))
line_seen line (w ∷ v) e h =
    seen_as (behind_line line) (w ∷ v) e _ _ (omega arith) (seen_more (behind_line line) (tick_sample line) w v e (cond (is_some (numeral_of max32 w)) 1 0 + field_of e) (by_tick line (numeral_of max32 w) v e h))

by_line : (o : Option ℕ) (t : Fields) (e : LineError) → from_line o t ≡ Err e → Seen (from_line o) t e (cond (is_some o) (suc (numbers_in_front 1 t)) 0 + field_of e)
by_line None t e h = unknown (λ (x : LineError). Seen (from_line None) t x (0 + field_of x)) e h (seen_now 0 (from_line None) t errors.UnknownWord (λ s. refl) refl)
by_line (Some line) t e h = line_seen line t e h

line_placed : (word : List ℕ) → Placed word (λ (t : Fields). line_note_at (word ∷ t))
unfolding line_note_at counter_at
line_placed word = record { seen = λ t e h. by_line (numeral_of max32 word) t e h }

-- the words of notes are no numbers
no_numbers : (numeral_of max32 (codes "end") ≡ None) × (numeral_of max32 (codes "fault") ≡ None) × (numeral_of max32 (codes "checked") ≡ None) × (numeral_of max32 (codes "gen") ≡ None)
unfolding numeral_of is_numeral decimal_of decimal_from is_digit
no_numbers = (refl, refl, refl, refl)

whole_placed : (word : List ℕ) → Placed word (whole_at word)
unfolding whole_at
whole_placed word =
    placed_word word (codes "end") no_numbers.0 (made _ (last32 1)) (placed_word word (codes "fault") no_numbers.1 (made _ (fault_settled 1))
    (placed_word word (codes "checked") no_numbers.2 checked_settled (placed_word word (codes "gen") no_numbers.3 gen_settled (line_placed word))))

fields_seen : (fs : Fields) (e : LineError) → fields_note fs ≡ Err e → Seen fields_note fs e (suc (numbers_in_front 2 fs + field_of e))
fields_seen [] e h = unknown (λ (x : LineError). Seen fields_note [] x (suc (0 + field_of x))) e h (seen_end fields_note note_sample errors.UnknownWord refl tt (λ x. x))
fields_seen (word ∷ t) e h = seen_more fields_note note_sample word t e (numbers_in_front 2 (word ∷ t) + field_of e) ((whole_placed word).seen t e h)

-- ---- an unknown word

abbrev failed_note : LineError → Result Note LineError
failed_note e = Err e

-- a word that is none of these begins no note by itself, and G is told of the fields behind it
record Begins (word : List ℕ) (words : List (List ℕ)) (q : Fields → Result Note LineError) (G : Fields → Type 0) : Type 0 where
  unknown : (t : Fields) → q t ≡ failed_note errors.UnknownWord → IsNoneOf words word × G t

begins_or : {words : List (List ℕ)} {p q : Fields → Result Note LineError} {G : Fields → Type 0} (word other : List ℕ) → Settled 1 p → Begins word words q G
    → Begins word (other ∷ words) (λ (t : Fields). cond (bytes_eq word other) (p t) (q t)) G
begins_or {words = words} {p = p} {q = q} {G = G} word other h g = by_word (bytes_eq word other) refl
  where
    by_word : (c : Bool) → bytes_eq word other ≡ c → Begins word (other ∷ words) (λ (t : Fields). cond c (p t) (q t)) G
    by_word true e = record { unknown = λ t k. absurd (not_unknown p h t k) }
    by_word false e = record { unknown = λ t k. (let more = g.unknown t k in ((other_word word other e, more.0), more.1)) }

no_note : (word : List ℕ) → Begins word note_words (whole_at word) (λ (t : Fields). line_note_at (word ∷ t) ≡ failed_note errors.UnknownWord)
unfolding whole_at
no_note word =
    begins_or word (codes "end") (made _ (last32 1)) (begins_or word (codes "fault") (made _ (fault_settled 1)) (begins_or word (codes "checked") checked_settled
    (begins_or word (codes "gen") gen_settled (record { unknown = λ t k. (tt, k) }))))

told_none : (line tick : ℕ) (t : Fields) → told_at line tick t ≡ failed_note errors.UnknownWord → BeginsWithNone answer_words t
told_none line tick [] k = tt
told_none line tick (w ∷ v) k = (answer_known w).unknown v (failed_so (λ answer. notes.Line line tick answer) (answer_at w v) errors.UnknownWord k)

tick_none : (line : ℕ) (w : List ℕ) (o : Option ℕ) (t : Fields) → from_tick line o t ≡ failed_note errors.UnknownWord
    → BeginsWithNone (words_behind (suc (cond (is_some o) 1 0))) (drop (cond (is_some o) 1 0) (w ∷ t))
tick_none line w None t k = tt
tick_none line w (Some tick) t k = told_none line tick t k

behind_none : (line : ℕ) (t : Fields) → behind_line line t ≡ failed_note errors.UnknownWord → BeginsWithNone (words_behind (suc (numbers_in_front 1 t))) (drop (numbers_in_front 1 t) t)
unfolding counter_at
behind_none line [] k = tt
behind_none line (w ∷ v) k = tick_none line w (numeral_of max32 w) v k

line_none : (word : List ℕ) (o : Option ℕ) (t : Fields) → IsNoneOf note_words word → from_line o t ≡ failed_note errors.UnknownWord
    → BeginsWithNone (words_behind (cond (is_some o) (suc (numbers_in_front 1 t)) 0)) (drop (cond (is_some o) (suc (numbers_in_front 1 t)) 0) (word ∷ t))
line_none word None t none k = none
line_none word (Some line) t none k = behind_none line t k

no_word_there : (fs : Fields) → fields_note fs ≡ failed_note errors.UnknownWord → HasNoWord fs
unfolding line_note_at counter_at
no_word_there [] k = tt
no_word_there (word ∷ t) k = (let p = (no_note word).unknown t k in line_none word (numeral_of max32 word) t p.0 p.1)

-- ---- the laws

-- fewer fields are the same too
fewer : (j k : ℕ) (a b : Fields) → j ≤ k → take k a ≡ take k b → take j a ≡ take j b
fewer zero k a b le h = refl
fewer (suc j) zero a b le h = absurd (omega (arith, le))
fewer (suc j) (suc k) [] [] le h = refl
fewer (suc j) (suc k) [] (g ∷ s) le h = no_fields g (take k s) h
fewer (suc j) (suc k) (f ∷ t) [] le h = no_fields f (take k t) (sym h)
fewer (suc j) (suc k) (f ∷ t) (g ∷ s) le h = both (same_head f g _ _ h) (fewer j k t s (omega (arith, le)) (same_tail f g _ _ h))
  where
    both : f ≡ g → take j t ≡ take j s → f ∷ take j t ≡ g ∷ take j s
    both e d = cc

abbrev counted : ℕ → Bool → Fields → ℕ
counted k c t = cond c (suc (numbers_in_front k t)) 0

-- how many numbers stand in front is told by these and the field behind them
same_numbers : (k : ℕ) (a b : Fields) → take (suc (numbers_in_front k a)) a ≡ take (suc (numbers_in_front k a)) b → numbers_in_front k b ≡ numbers_in_front k a
same_numbers zero a b h = refl
same_numbers (suc k) [] [] h = refl
same_numbers (suc k) [] (g ∷ s) h = no_fields g [] h
same_numbers (suc k) (f ∷ t) [] h = no_fields f _ (sym h)
same_numbers (suc k) (f ∷ t) (g ∷ s) h = subst (λ (x : List ℕ). numbers_in_front (suc k) (x ∷ s) ≡ numbers_in_front (suc k) (f ∷ t)) (same_head f g _ _ h) (by_number (λ e. same_numbers k t s e) (is_some (numeral_of max32 f)) (same_tail f g _ _ h))
  where
    by_number : (take (suc (numbers_in_front k t)) t ≡ take (suc (numbers_in_front k t)) s → numbers_in_front k s ≡ numbers_in_front k t) → (c : Bool) → take (counted k c t) t ≡ take (counted k c t) s → counted k c s ≡ counted k c t
    by_number more true e = ap suc (more e)
    by_number more false e = refl

pub note_settled : (text other : List ℕ) (e : LineError) (k : ℕ) → note_at text ≡ Err e → place_of text e < k → SameFields k text other → note_at other ≡ Err e
unfolding note_at
note_settled text other e k h lt same = (fields_seen (fields_of text) e h).stays (fields_of other) (fewer _ k (fields_of text) (fields_of other) lt same)

pub one_error : (text : List ℕ) (d e : LineError) → note_at text ≡ Err d → note_at text ≡ Err e → d ≡ e
one_error text d e h k = err_same {A = Note} d e (sym h ∙ k)

at_or_behind : (m n : ℕ) → (n < m → ⊥) → m ≤ n
at_or_behind m n h = grind (arith, h)

pub none_in_front : (text other : List ℕ) (e d : LineError) → note_at text ≡ Err e → SameFields (place_of text e) text other → note_at other ≡ Err d → place_of text e ≤ place_of other d
none_in_front text other e d h alike k = at_or_behind (place_of text e) (place_of other d) (λ lt.
    let back : SameFields (place_of text e) other text = sym alike in
    let same : d ≡ e = one_error text d e (note_settled other text d (place_of text e) k lt back) h in
    let numbers : numbers_in_front 2 (fields_of text) ≡ numbers_in_front 2 (fields_of other) = same_numbers 2 (fields_of other) (fields_of text) (fewer (suc (numbers_in_front 2 (fields_of other))) (place_of text e) (fields_of other) (fields_of text) (omega (arith, lt)) back) in
    omega (arith, lt, numbers, ap (λ (x : LineError). field_of x) same))

pub some_begins : (text : List ℕ) (e : LineError) → note_at text ≡ Err e → BeginsNote (place_of text e) text
unfolding note_at
some_begins text e h =
    let g = (fields_seen (fields_of text) e h).goes in
    let read = fields_is g.fields g.value g.is in
    let again = fields_is (fields_of (note_text g.value)) g.value (text_back g.value read.1) in
    record { note = g.value; is = read.1; begins = g.same ∙ ap (λ (fs : Fields). take (place_of text e) fs) (read.0 ∙ sym again.0) }

whole_note : (text : List ℕ) (n : ℕ) → note_at text ≡ Err (errors.Extra n) → HasNoteAndMore (place_of text (errors.Extra n)) text
unfolding note_at
whole_note text n h =
    let s = fields_seen (fields_of text) (errors.Extra n) h in
    let read = fields_is s.goes.fields s.goes.value s.goes.is in
    let again = fields_is (fields_of (note_text s.goes.value)) s.goes.value (text_back s.goes.value read.1) in
    record { more = s.so; note = s.goes.value; is = read.1; whole = again.0 ∙ sym read.0 ∙ s.goes.whole tt }

missing_behind : (len place : ℕ) → len + 1 ≡ suc place → len ≡ place
missing_behind len place h = omega (arith, h)

pub errors_are_true : (text : List ℕ) (e : LineError) → note_at text ≡ Err e → IsTrueOf text e
unfolding note_at
errors_are_true text errors.Memory h = (fields_seen (fields_of text) errors.Memory h).so
errors_are_true text errors.UnknownWord h = no_word_there (fields_of text) h
errors_are_true text (errors.MissingField n) h = missing_behind _ _ (fields_seen (fields_of text) (errors.MissingField n) h).so
errors_are_true text (errors.BadNumber n) h = (fields_seen (fields_of text) (errors.BadNumber n) h).so
errors_are_true text (errors.BadName n) h = (fields_seen (fields_of text) (errors.BadName n) h).so
errors_are_true text (errors.Extra n) h = whole_note text n h
errors_are_true text (errors.BadBytes n) h = (fields_seen (fields_of text) (errors.BadBytes n) h).so
