-- The error of a line is true of the field that it names.
use Rattle.std.proofs.Common.{◌≡◌, ◌&&◌, inl, inr, ℕ, suc, ◌+◌, ◌-◌, ◌^◌, nat_le, Bool, true, false, cond, List, [], slice_index, Option, Some, None, Result, Ok, Err, eqb, refl, sym, subst, arith}
use Rattle.std.specs.Prelude.{codes}
use Rattle.std.specs.Str.{bytes_eq}
use Rattle.rina_base.specs.declared.name.NameError.{NameError}
use Rattle.rina_base.specs.Names.{name_at, app_at}
use Rattle.rina_base.specs.Traverse.{◌>>=◌}
use Rattle.rina_base.specs.Decimals.{number_of}
use Rattle.rina_base.specs.ObjectNames.{object_name_of}
use Rattle.rina_cube.specs.declared.Want.{Want}
use Rattle.rina_schedule.specs.declared.error.LineError.{LineError}
use Rattle.rina_schedule.specs.declared.error.LineError.TheVariants as errors
use Rattle.rina_schedule.specs.declared.event.Event.{Event}
use Rattle.rina_schedule.specs.declared.event.Event.TheVariants as events
use Rattle.rina_schedule.specs.Gives.{or_bad, guard}
use Rattle.rina_schedule.specs.Bytes.{bytes_of}
use Rattle.rina_schedule.specs.Fields.{without_blanks, next_of, field_at, number_at, name_or_bad, name_field_at, app_field_at, bytes_at, path_or_none, path_at, end_or_extra, end_at, flag_or_none, flag_at, behind, value_or_default, setting_or_none, setting_at}
use Rattle.rina_schedule.specs.FlowWords.{register_at, unregister_at, want_at, alloc_at, accept_at, send_at, read_at, state_at, free_at}
use Rattle.rina_schedule.specs.WireWords.{lose_at, repeat_at, hold_at, cut_at, mend_at, tick_at, round_at, retire_at, journal_at}
use Rattle.rina_schedule.specs.DifWords.{publish_at, enrol_at, member_at, in_at, out_at, clock_at, cdap_at, rib_at, ledger_at}
use Rattle.rina_schedule.specs.Line.{step_word_at, dif_word_at, wire_word_at, word_at, event_or_none, line_at}
use Rattle.rina_schedule.specs.Faults.{EndsBefore, HasField, IsNoNumber, IsNoName, IsAny, SpellsNone, IsTrueOf}

-- ---- what an error says, where the first field of a text has number n

-- a field of a text, by its number in the line
abbrev HasFrom : ℕ → ℕ → List ℕ → (List ℕ → Type 0) → Type 0
HasFrom n k text P = (j : ℕ) × (k ≡ n + j) × HasField j text P

abbrev IsSaid : ℕ → List ℕ → LineError → Type 0
IsSaid n text errors.Memory = ⊥
IsSaid n text errors.UnknownWord = Unit {0}
IsSaid n text (errors.MissingField k) = (j : ℕ) × (k ≡ n + j) × EndsBefore j text
IsSaid n text (errors.BadNumber k) = HasFrom n k text IsNoNumber
IsSaid n text (errors.BadName k) = HasFrom n k text IsNoName
IsSaid n text (errors.Extra k) = HasFrom n k text IsAny
IsSaid n text (errors.BadBytes k) = HasFrom n k text SpellsNone

abbrev Says : {A : Type 0} → ℕ → List ℕ → Result A LineError → Type 0
Says n text (Ok x) = Unit {0}
Says n text (Err e) = IsSaid n text e

further : (n k : ℕ) (text : List ℕ) (f : List ℕ × List ℕ) (P : List ℕ → Type 0) → next_of text ≡ Some f → HasFrom (n + 1) k f.1 P → HasFrom n k text P
further n k text f P is h =
    let x = h.2 in
    (suc h.0, omega (arith, h.1), record { rest = x.rest; passes = (f, is, x.passes); field = x.field; there = x.there; is = x.is })

said_further : (n : ℕ) (text : List ℕ) (f : List ℕ × List ℕ) (e : LineError) → next_of text ≡ Some f → IsSaid (n + 1) f.1 e → IsSaid n text e
said_further n text f errors.Memory is h = h
said_further n text f errors.UnknownWord is h = tt
said_further n text f (errors.MissingField k) is h = (suc h.0, omega (arith, h.1), (let x = h.2 in record { rest = x.rest; passes = (f, is, x.passes); none = x.none }))
said_further n text f (errors.BadNumber k) is h = further n k text f IsNoNumber is h
said_further n text f (errors.BadName k) is h = further n k text f IsNoName is h
said_further n text f (errors.Extra k) is h = further n k text f IsAny is h
said_further n text f (errors.BadBytes k) is h = further n k text f SpellsNone is h

-- what is said of the text behind a field is said of the text
shift : {A : Type 0} (n : ℕ) (text : List ℕ) (f : List ℕ × List ℕ) (r : Result A LineError) → next_of text ≡ Some f → Says (n + 1) f.1 r → Says n text r
shift n text f (Ok x) is h = tt
shift n text f (Err e) is h = said_further n text f e is h

here : (n : ℕ) (text : List ℕ) (f : List ℕ × List ℕ) (P : List ℕ → Type 0) → next_of text ≡ Some f → P f.0 → HasFrom n n text P
here n text f P is h = (0, omega arith, record { rest = text; passes = refl; field = f; there = is; is = h })

missing : (n : ℕ) (text : List ℕ) → next_of text ≡ None → IsSaid n text (errors.MissingField n)
missing n text is = (0, omega arith, record { rest = text; passes = refl; none = is })

-- ---- one field

-- what an error says of the field itself
abbrev IsOf : ℕ → List ℕ → LineError → Type 0
IsOf n t errors.Memory = ⊥
IsOf n t errors.UnknownWord = ⊥
IsOf n t (errors.MissingField k) = ⊥
IsOf n t (errors.BadNumber k) = (k ≡ n) × IsNoNumber t
IsOf n t (errors.BadName k) = (k ≡ n) × IsNoName t
IsOf n t (errors.Extra k) = ⊥
IsOf n t (errors.BadBytes k) = (k ≡ n) × SpellsNone t

abbrev Reads : {A : Type 0} → ℕ → List ℕ → Result A LineError → Type 0
Reads n t (Ok x) = Unit {0}
Reads n t (Err e) = IsOf n t e

here_at : (n k : ℕ) (text : List ℕ) (f : List ℕ × List ℕ) (P : List ℕ → Type 0) → next_of text ≡ Some f → k ≡ n → P f.0 → HasFrom n k text P
here_at n k text f P is same h = (0, omega (arith, same), record { rest = text; passes = refl; field = f; there = is; is = h })

of_field : (n : ℕ) (text : List ℕ) (f : List ℕ × List ℕ) (e : LineError) → next_of text ≡ Some f → IsOf n f.0 e → IsSaid n text e
of_field n text f errors.Memory is h = h
of_field n text f errors.UnknownWord is h = tt
of_field n text f (errors.MissingField k) is h = absurd h
of_field n text f (errors.BadNumber k) is h = here_at n k text f IsNoNumber is h.0 h.1
of_field n text f (errors.BadName k) is h = here_at n k text f IsNoName is h.0 h.1
of_field n text f (errors.Extra k) is h = absurd h
of_field n text f (errors.BadBytes k) is h = here_at n k text f SpellsNone is h.0 h.1

-- a field that is read, and then what stands behind it
part_then : {X B : Type 0} (n : ℕ) (text : List ℕ) (read : List ℕ → Result X LineError) (f : X × List ℕ → Result B LineError) → ((t : List ℕ) → Reads n t (read t)) → ((x : X × List ℕ) → Says (n + 1) x.1 (f x))
    → Says n text ((or_bad (errors.MissingField n) (next_of text) >>= λ w. read w.0 >>= λ x. Ok (x, w.1)) >>= f)
part_then {X} {B} n text read f each rest = by_field (next_of text) refl
  where
    by_value : (w : List ℕ × List ℕ) (r : Result X LineError) → next_of text ≡ Some w → Reads n w.0 r → Says n text ((r >>= λ x. Ok (x, w.1)) >>= f)
    by_value w (Ok x) is h = shift n text w (f (x, w.1)) is (rest (x, w.1))
    by_value w (Err e) is h = of_field n text w e is h

    by_field : (o : Option (List ℕ × List ℕ)) → next_of text ≡ o → Says n text ((or_bad (errors.MissingField n) o >>= λ w. read w.0 >>= λ x. Ok (x, w.1)) >>= f)
    by_field None is = missing n text is
    by_field (Some w) is = by_value w (read w.0) is (each w.0)

name_reads : (n : ℕ) (t : List ℕ) → Reads n t (name_or_bad n (name_at t))
name_reads n t = by_result (name_at t) refl
  where
    by_result : (r : Result (List ℕ) NameError) → name_at t ≡ r → Reads n t (name_or_bad n r)
    by_result (Ok x) is = tt
    by_result (Err e) is = (refl, inl (e, is))

app_reads : (n : ℕ) (t : List ℕ) → Reads n t (name_or_bad n (app_at t))
app_reads n t = by_result (app_at t) refl
  where
    by_result : (r : Result (List ℕ) NameError) → app_at t ≡ r → Reads n t (name_or_bad n r)
    by_result (Ok x) is = tt
    by_result (Err e) is = (refl, inr (inl (e, is)))

number_reads : (n : ℕ) (t : List ℕ) → Reads n t (or_bad (errors.BadNumber n) (number_of t))
number_reads n t = by_option (number_of t) refl
  where
    by_option : (o : Option ℕ) → number_of t ≡ o → Reads n t (or_bad (errors.BadNumber n) o)
    by_option (Some x) is = tt
    by_option None is = (refl, inl is)

bytes_reads : (n : ℕ) (t : List ℕ) → Reads n t (or_bad (errors.BadBytes n) (bytes_of t))
bytes_reads n t = by_option (bytes_of t) refl
  where
    by_option : (o : Option (List ℕ)) → bytes_of t ≡ o → Reads n t (or_bad (errors.BadBytes n) o)
    by_option (Some x) is = tt
    by_option None is = (refl, is)

name_then : {B : Type 0} (n : ℕ) (text : List ℕ) (f : List ℕ × List ℕ → Result B LineError) → ((x : List ℕ × List ℕ) → Says (n + 1) x.1 (f x)) → Says n text (name_field_at n text >>= f)
unfolding name_field_at field_at
name_then n text f rest = part_then n text (λ t. name_or_bad n (name_at t)) f (name_reads n) rest

app_then : {B : Type 0} (n : ℕ) (text : List ℕ) (f : List ℕ × List ℕ → Result B LineError) → ((x : List ℕ × List ℕ) → Says (n + 1) x.1 (f x)) → Says n text (app_field_at n text >>= f)
unfolding app_field_at field_at
app_then n text f rest = part_then n text (λ t. name_or_bad n (app_at t)) f (app_reads n) rest

number_then : {B : Type 0} (n : ℕ) (text : List ℕ) (f : ℕ × List ℕ → Result B LineError) → ((x : ℕ × List ℕ) → Says (n + 1) x.1 (f x)) → Says n text (number_at n text >>= f)
unfolding number_at field_at
number_then n text f rest = part_then n text (λ t. or_bad (errors.BadNumber n) (number_of t)) f (number_reads n) rest

bytes_then : {B : Type 0} (n : ℕ) (text : List ℕ) (f : List ℕ × List ℕ → Result B LineError) → ((x : List ℕ × List ℕ) → Says (n + 1) x.1 (f x)) → Says n text (bytes_at n text >>= f)
unfolding bytes_at field_at
bytes_then n text f rest = part_then n text (λ t. or_bad (errors.BadBytes n) (bytes_of t)) f (bytes_reads n) rest

end_then : {B : Type 0} (n : ℕ) (text : List ℕ) (x : B) → Says n text (end_at n text >>= λ _. Ok x)
unfolding end_at
end_then {B} n text x = by_field (next_of text) refl
  where
    by_field : (o : Option (List ℕ × List ℕ)) → next_of text ≡ o → Says n text (end_or_extra n o >>= λ _. Ok x)
    by_field None is = tt
    by_field (Some w) is = here n text w IsAny is tt

-- ---- words

register_says : (text : List ℕ) → Says 1 text (register_at text)
unfolding register_at
register_says text = name_then 1 text _ (λ a. name_then 2 a.1 _ (λ b. app_then 3 b.1 _ (λ c. end_then 4 c.1 _)))

unregister_says : (text : List ℕ) → Says 1 text (unregister_at text)
unfolding unregister_at
unregister_says text = name_then 1 text _ (λ a. name_then 2 a.1 _ (λ b. app_then 3 b.1 _ (λ c. end_then 4 c.1 _)))

accept_says : (text : List ℕ) → Says 1 text (accept_at text)
unfolding accept_at
accept_says text = name_then 1 text _ (λ a. name_then 2 a.1 _ (λ b. name_then 3 b.1 _ (λ c. app_then 4 c.1 _ (λ d. end_then 5 d.1 _))))

send_says : (text : List ℕ) → Says 1 text (send_at text)
unfolding send_at
send_says text = name_then 1 text _ (λ a. bytes_then 2 a.1 _ (λ b. end_then 3 b.1 _))

read_says : (text : List ℕ) → Says 1 text (read_at text)
unfolding read_at
read_says text = name_then 1 text _ (λ a. end_then 2 a.1 _)

state_says : (text : List ℕ) → Says 1 text (state_at text)
unfolding state_at
state_says text = name_then 1 text _ (λ a. end_then 2 a.1 _)

free_says : (text : List ℕ) → Says 1 text (free_at text)
unfolding free_at
free_says text = name_then 1 text _ (λ a. end_then 2 a.1 _)

lose_says : (text : List ℕ) → Says 1 text (lose_at text)
unfolding lose_at
lose_says text = name_then 1 text _ (λ a. number_then 2 a.1 _ (λ b. end_then 3 b.1 _))

repeat_says : (text : List ℕ) → Says 1 text (repeat_at text)
unfolding repeat_at
repeat_says text = name_then 1 text _ (λ a. number_then 2 a.1 _ (λ b. number_then 3 b.1 _ (λ c. end_then 4 c.1 _)))

hold_says : (text : List ℕ) → Says 1 text (hold_at text)
unfolding hold_at
hold_says text = name_then 1 text _ (λ a. number_then 2 a.1 _ (λ b. number_then 3 b.1 _ (λ c. end_then 4 c.1 _)))

cut_says : (text : List ℕ) → Says 1 text (cut_at text)
unfolding cut_at
cut_says text = name_then 1 text _ (λ a. end_then 2 a.1 _)

mend_says : (text : List ℕ) → Says 1 text (mend_at text)
unfolding mend_at
mend_says text = name_then 1 text _ (λ a. end_then 2 a.1 _)

publish_says : (text : List ℕ) → Says 1 text (publish_at text)
unfolding publish_at
publish_says text = name_then 1 text _ (λ a. name_then 2 a.1 _ (λ b. name_then 3 b.1 _ (λ c. end_then 4 c.1 _)))

enrol_says : (text : List ℕ) → Says 1 text (enrol_at text)
unfolding enrol_at
enrol_says text = name_then 1 text _ (λ a. name_then 2 a.1 _ (λ b. name_then 3 b.1 _ (λ c. name_then 4 c.1 _ (λ d. end_then 5 d.1 _))))

member_says : (text : List ℕ) → Says 1 text (member_at text)
unfolding member_at
member_says text = name_then 1 text _ (λ a. name_then 2 a.1 _ (λ b. end_then 3 b.1 _))

in_says : (text : List ℕ) → Says 1 text (in_at text)
unfolding in_at
in_says text = name_then 1 text _ (λ a. name_then 2 a.1 _ (λ b. number_then 3 b.1 _ (λ c. end_then 4 c.1 _)))

out_says : (text : List ℕ) → Says 1 text (out_at text)
unfolding out_at
out_says text = name_then 1 text _ (λ a. name_then 2 a.1 _ (λ b. number_then 3 b.1 _ (λ c. end_then 4 c.1 _)))

clock_says : (text : List ℕ) → Says 1 text (clock_at text)
unfolding clock_at
clock_says text = name_then 1 text _ (λ a. name_then 2 a.1 _ (λ b. end_then 3 b.1 _))

round_says : (text : List ℕ) → Says 1 text (round_at text)
unfolding round_at
round_says text = end_then 1 text _

retire_says : (text : List ℕ) → Says 1 text (retire_at text)
unfolding retire_at
retire_says text = name_then 1 text _ (λ a. end_then 2 a.1 _)

cdap_says : (text : List ℕ) → Says 1 text (cdap_at text)
unfolding cdap_at
cdap_says text = name_then 1 text _ (λ a. name_then 2 a.1 _ (λ b. bytes_then 3 b.1 _ (λ c. end_then 4 c.1 _)))

ledger_says : (text : List ℕ) → Says 1 text (ledger_at text)
unfolding ledger_at
ledger_says text = name_then 1 text _ (λ a. name_then 2 a.1 _ (λ b. end_then 3 b.1 _))

journal_says : (text : List ℕ) → Says 1 text (journal_at text)
unfolding journal_at
journal_says text = name_then 1 text _ (λ a. end_then 2 a.1 _)

-- tick: a number that is out of its range is told of its own field
abbrev count_and : ℕ → List ℕ → Result (ℕ × List ℕ) LineError
count_and x rest = Ok (x, rest)

abbrev counted : ℕ × List ℕ → Result Event LineError
counted count = guard (nat_le 1 count.0 && nat_le count.0 100000) (errors.BadNumber 1) >>= λ _. end_at 2 count.1 >>= λ _. Ok (events.Tick count.0)

tick_says : (text : List ℕ) → Says 1 text (tick_at text)
unfolding tick_at number_at field_at
tick_says text = by_field (next_of text) refl
  where
    by_guard : (w : List ℕ × List ℕ) (x : ℕ) (b : Bool) → next_of text ≡ Some w → number_of w.0 ≡ Some x → (nat_le 1 x && nat_le x 100000) ≡ b → Says 1 text (guard b (errors.BadNumber 1) >>= λ _. end_at 2 w.1 >>= λ _. Ok (events.Tick x))
    by_guard w x true is number test = shift 1 text w (end_at 2 w.1 >>= λ _. Ok (events.Tick x)) is (end_then 2 w.1 (events.Tick x))
    by_guard w x false is number test = here 1 text w IsNoNumber is (inr (inl (x, number, test)))

    by_number : (w : List ℕ × List ℕ) (o : Option ℕ) → next_of text ≡ Some w → number_of w.0 ≡ o → Says 1 text ((or_bad (errors.BadNumber 1) o >>= λ x. count_and x w.1) >>= counted)
    by_number w None is number = here 1 text w IsNoNumber is (inl number)
    by_number w (Some x) is number = by_guard w x (nat_le 1 x && nat_le x 100000) is number refl

    by_field : (o : Option (List ℕ × List ℕ)) → next_of text ≡ o → Says 1 text ((or_bad (errors.MissingField 1) o >>= λ w. or_bad (errors.BadNumber 1) (number_of w.0) >>= λ x. count_and x w.1) >>= counted)
    by_field None is = missing 1 text is
    by_field (Some w) is = by_number w (number_of w.0) is refl

-- rib: a path that is not there, or a name of an object
next_nil : next_of [] ≡ None
unfolding next_of without_blanks
next_nil = refl

nothing_behind : {B : Type 0} (n m : ℕ) (text : List ℕ) (x : B) → Says n text (end_at m [] >>= λ _. Ok x)
unfolding end_at
nothing_behind {B} n m text x = (let S : Option (List ℕ × List ℕ) → Type 0 = λ o. Says n text (end_or_extra m o >>= λ _. Ok x) in subst S (sym next_nil) tt)

abbrev path_and : List ℕ → List ℕ → Result (Option (List ℕ) × List ℕ) LineError
path_and path rest = Ok (Some path, rest)

path_then : (dif node : List ℕ) (text : List ℕ) → Says 3 text (path_at 3 text >>= λ path. end_at 4 path.1 >>= λ _. Ok (events.Rib dif node path.0))
unfolding path_at
path_then dif node text = by_field (next_of text) refl
  where
    by_name : (w : List ℕ × List ℕ) (o : Option (List ℕ)) → next_of text ≡ Some w → object_name_of w.0 ≡ o → Says 3 text ((or_bad (errors.BadName 3) o >>= λ path. path_and path w.1) >>= λ path. end_at 4 path.1 >>= λ _. Ok (events.Rib dif node path.0))
    by_name w None is none = here 3 text w IsNoName is (inr (inr none))
    by_name w (Some path) is some = shift 3 text w (end_at 4 w.1 >>= λ _. Ok (events.Rib dif node (Some path))) is (end_then 4 w.1 (events.Rib dif node (Some path)))

    by_field : (o : Option (List ℕ × List ℕ)) → next_of text ≡ o → Says 3 text (path_or_none 3 o >>= λ path. end_at 4 path.1 >>= λ _. Ok (events.Rib dif node path.0))
    by_field None is = nothing_behind 3 4 text (events.Rib dif node None)
    by_field (Some w) is = by_name w (object_name_of w.0) is refl

rib_says : (text : List ℕ) → Says 1 text (rib_at text)
unfolding rib_at
rib_says text = name_then 1 text _ (λ a. name_then 2 a.1 _ (λ b. path_then a.0 b.0 b.1))

-- alloc: options, each of which may be left out
flag_then : {B : Type 0} (word : List ℕ) (n : ℕ) (text : List ℕ) (f : Bool × ℕ × List ℕ → Result B LineError) → ((x : Bool × ℕ × List ℕ) → Says x.1 x.2 (f x)) → Says n text (f (flag_at word n text))
unfolding flag_at
flag_then {B} word n text f rest = by_field (next_of text) refl
  where
    by_test : (w : List ℕ × List ℕ) (b : Bool) → next_of text ≡ Some w → Says n text (f (cond b (true, n + 1, w.1) (false, n, text)))
    by_test w true is = shift n text w (f (true, n + 1, w.1)) is (rest (true, n + 1, w.1))
    by_test w false is = rest (false, n, text)

    by_field : (o : Option (List ℕ × List ℕ)) → next_of text ≡ o → Says n text (f (flag_or_none word n text o))
    by_field None is = rest (false, n, text)
    by_field (Some w) is = by_test w (bytes_eq w.0 word) is

abbrev set_to : ℕ → ℕ → List ℕ → Result (ℕ × ℕ × List ℕ) LineError
set_to x n rest = Ok (x, n + 1, rest)

setting_then : {B : Type 0} (word : List ℕ) (default n : ℕ) (text : List ℕ) (f : ℕ × ℕ × List ℕ → Result B LineError) → ((x : ℕ × ℕ × List ℕ) → Says x.1 x.2 (f x)) → Says n text (setting_at word default n text >>= f)
unfolding setting_at
setting_then {B} word default n text f rest = by_field (next_of text) refl
  where
    by_number : (w : List ℕ × List ℕ) (digits : List ℕ) (o : Option ℕ) → next_of text ≡ Some w → behind word w.0 ≡ Some digits → number_of digits ≡ o → Says n text ((or_bad (errors.BadNumber n) o >>= λ x. set_to x n w.1) >>= f)
    by_number w digits None is split number = here n text w IsNoNumber is (inr (inr (word, (digits, split, number))))
    by_number w digits (Some x) is split number = shift n text w (f (x, n + 1, w.1)) is (rest (x, n + 1, w.1))

    by_word : (w : List ℕ × List ℕ) (o : Option (List ℕ)) → next_of text ≡ Some w → behind word w.0 ≡ o → Says n text (value_or_default default n text w.1 o >>= f)
    by_word w None is split = rest (default, n, text)
    by_word w (Some digits) is split = by_number w digits (number_of digits) is split refl

    by_field : (o : Option (List ℕ × List ℕ)) → next_of text ≡ o → Says n text (setting_or_none word default n text o >>= f)
    by_field None is = rest (default, n, text)
    by_field (Some w) is = by_word w (behind word w.0) is refl

-- what is read behind each option
abbrev after_size : Bool → Bool → ℕ → ℕ × ℕ × List ℕ → Result Want LineError
after_size ordered reliable within size = end_at size.1 size.2 >>= λ _. Ok (record { ordered = ordered; reliable = reliable; within = within; size = size.0 })

abbrev after_within : Bool → Bool → ℕ × ℕ × List ℕ → Result Want LineError
after_within ordered reliable within = setting_at (codes "size=") 0 within.1 within.2 >>= λ size. after_size ordered reliable within.0 size

abbrev after_reliable : Bool → Bool × ℕ × List ℕ → Result Want LineError
after_reliable ordered reliable = setting_at (codes "within=") (2 ^ 32 - 1) reliable.1 reliable.2 >>= λ within. after_within ordered reliable.0 within

abbrev after_ordered : Bool × ℕ × List ℕ → Result Want LineError
after_ordered ordered = after_reliable ordered.0 (flag_at (codes "reliable") ordered.1 ordered.2)

want_says : (text : List ℕ) → Says 6 text (want_at text)
unfolding want_at
want_says text =
    flag_then (codes "ordered") 6 text after_ordered (λ a. flag_then (codes "reliable") a.1 a.2 (after_reliable a.0) (λ b.
    setting_then (codes "within=") (2 ^ 32 - 1) b.1 b.2 (after_within a.0 b.0) (λ c. setting_then (codes "size=") 0 c.1 c.2 (after_size a.0 b.0 c.0) (λ d. end_then d.1 d.2 _))))

ok_then : {A B : Type 0} (n : ℕ) (text : List ℕ) (r : Result A LineError) (f : A → B) → Says n text r → Says n text (r >>= λ x. Ok (f x))
ok_then n text (Ok x) f h = tt
ok_then n text (Err e) f h = h

alloc_says : (text : List ℕ) → Says 1 text (alloc_at text)
unfolding alloc_at
alloc_says text =
    name_then 1 text _ (λ label. name_then 2 label.1 _ (λ fac. name_then 3 fac.1 _ (λ node. app_then 4 node.1 _ (λ app. app_then 5 app.1 _ (λ to.
    ok_then 6 to.1 (want_at to.1) (λ (want : Want). events.Alloc label.0 fac.0 node.0 app.0 to.0 want) (want_says to.1))))))

-- ---- lines

record Said (text : List ℕ) (r : Result Event LineError) : Type 0 where
  is : Says 1 text r

either : {text : List ℕ} (b : Bool) (x y : Result Event LineError) → Says 1 text x → Said text y → Said text (cond b x y)
either true x y h g = record { is = h }
either false x y h g = g

unknown : {text : List ℕ} → Said text (Err errors.UnknownWord)
unknown = record { is = tt }

step_said : (word text : List ℕ) → Said text (step_word_at word text)
unfolding step_word_at
step_said word text = either _ _ _ (tick_says text) (either _ _ _ (round_says text) (either _ _ _ (retire_says text) (either _ _ _ (journal_says text) unknown)))

dif_said : (word text : List ℕ) → Said text (dif_word_at word text)
unfolding dif_word_at
dif_said word text =
    either _ _ _ (publish_says text) (either _ _ _ (enrol_says text) (either _ _ _ (member_says text) (either _ _ _ (in_says text) (either _ _ _ (out_says text)
    (either _ _ _ (clock_says text) (either _ _ _ (cdap_says text) (either _ _ _ (rib_says text) (either _ _ _ (ledger_says text) (step_said word text)))))))))

wire_said : (word text : List ℕ) → Said text (wire_word_at word text)
unfolding wire_word_at
wire_said word text = either _ _ _ (lose_says text) (either _ _ _ (repeat_says text) (either _ _ _ (hold_says text) (either _ _ _ (cut_says text) (either _ _ _ (mend_says text) (dif_said word text)))))

word_said : (word text : List ℕ) → Said text (word_at word text)
unfolding word_at
word_said word text =
    either _ _ _ (register_says text) (either _ _ _ (unregister_says text) (either _ _ _ (alloc_says text) (either _ _ _ (accept_says text) (either _ _ _ (send_says text)
    (either _ _ _ (read_says text) (either _ _ _ (state_says text) (either _ _ _ (free_says text) (wire_said word text))))))))

from_nought : (k : ℕ) (text : List ℕ) (P : List ℕ → Type 0) → HasFrom 0 k text P → HasField k text P
from_nought k text P h = (let same : h.0 ≡ k = omega (arith, h.1) in subst (λ (j : ℕ). HasField j text P) same h.2)

-- what is said of a whole line
true_of : (text : List ℕ) (w : List ℕ × List ℕ) (e : LineError) → next_of text ≡ Some w → IsSaid 0 text e → IsTrueOf text e
true_of text w errors.Memory is h = h
true_of text w errors.UnknownWord is h = record { rest = text; passes = refl; field = w; there = is; is = tt }
true_of text w (errors.MissingField k) is h = (let same : h.0 ≡ k = omega (arith, h.1) in subst (λ (j : ℕ). EndsBefore j text) same h.2)
true_of text w (errors.BadNumber k) is h = from_nought k text IsNoNumber h
true_of text w (errors.BadName k) is h = from_nought k text IsNoName h
true_of text w (errors.Extra k) is h = from_nought k text IsAny h
true_of text w (errors.BadBytes k) is h = from_nought k text SpellsNone h

pub faults_are_true : (text : List ℕ) (e : LineError) → line_at text ≡ Err e → IsTrueOf text e
unfolding line_at
faults_are_true text e read = by_field (next_of text) refl read
  where
    by_event : (w : List ℕ × List ℕ) (r : Result Event LineError) → next_of text ≡ Some w → Says 1 w.1 r → ◌≡◌ {A = Result (Option Event) LineError} (r >>= λ event. Ok (Some event)) (Err e) → IsTrueOf text e
    by_event w (Ok event) is h fault = cc
    by_event w (Err d) is h fault =
        let same : d ≡ e = cc in
        subst (IsTrueOf text) same (true_of text w d is (said_further 0 text w d is h))

    by_remark : (w : List ℕ × List ℕ) (c : Bool) → next_of text ≡ Some w → ◌≡◌ {A = Result (Option Event) LineError} (cond c (Ok None) (word_at w.0 w.1 >>= λ event. Ok (Some event))) (Err e) → IsTrueOf text e
    by_remark w true is fault = cc
    by_remark w false is fault = by_event w (word_at w.0 w.1) is (word_said w.0 w.1).is fault

    by_field : (o : Option (List ℕ × List ℕ)) → next_of text ≡ o → event_or_none o ≡ Err e → IsTrueOf text e
    by_field None is fault = cc
    by_field (Some w) is fault = by_remark w (eqb (slice_index w.0 0) 35) is fault
