-- What is read has its fields in their ranges.
use Rattle.std.proofs.Common.{◌≡◌, ℕ, ◌+◌, Bool, true, false, cond, eqb, leb, ◌&&◌, List, slice_index, Option, Some, None, Result, Ok, Err, refl, subst, arith}
use Rattle.std.specs.Prelude.{IfOk, IfSome}
use Rattle.std.proofs.lemmas.Bool.{and_parts, leb-true}
use Rattle.std.proofs.lemmas.Result.{IfOk-at_ok}
use Rattle.rina_base.specs.declared.name.NameError.{NameError}
use Rattle.rina_base.specs.Names.{name_at, app_at}
use Rattle.rina_base.specs.Traverse.{◌>>=◌}
use Rattle.rina_schedule.specs.declared.error.LineError.{LineError}
use Rattle.rina_schedule.specs.declared.error.LineError.TheVariants as errors
use Rattle.rina_schedule.specs.declared.event.Event.{Event}
use Rattle.rina_schedule.specs.declared.event.Event.TheVariants as events
use Rattle.rina_schedule.specs.Gives.{or_bad, guard}
use Rattle.rina_base.specs.Decimals.{number_of}
use Rattle.rina_schedule.specs.Bytes.{bytes_of}
use Rattle.rina_base.specs.ObjectNames.{is_object_name, object_name_of}
use Rattle.rina_schedule.specs.Fields.{next_of, field_at, number_at, name_or_bad, name_field_at, app_field_at, bytes_at, path_or_none, path_at, end_at, behind, value_or_default, setting_or_none, setting_at}
use Rattle.rina_schedule.specs.FlowWords.{register_at, unregister_at, want_at, alloc_at, accept_at, send_at, read_at, state_at, free_at}
use Rattle.rina_schedule.specs.WireWords.{lose_at, repeat_at, hold_at, cut_at, mend_at, tick_at, round_at, retire_at, journal_at}
use Rattle.rina_schedule.specs.DifWords.{publish_at, enrol_at, member_at, in_at, out_at, clock_at, cdap_at, rib_at, ledger_at}
use Rattle.rina_schedule.specs.Line.{step_word_at, dif_word_at, wire_word_at, word_at, event_or_none, line_at}
use Rattle.rina_schedule.specs.Printed.{line_text}
use Rattle.rina_schedule.specs.Ranges.{IsName, IsApp, IsNumber, IsBytes, IsPath, IsWant, IsEvent}
use Rattle.rina_schedule.proofs.Values.{name_reads, app_reads, number_fits, bytes_fit}
use Rattle.rina_schedule.proofs.Printed.{line_back}

-- what holds of each value that a step gives holds of what is made of it
then : {A B E : Type 0} (P : B → Type 0) (r : Result A E) (f : A → Result B E) → ((x : A) → r ≡ Ok x → IfOk (f x) P) → IfOk (r >>= f) P
then P (Ok x) f h = h x refl
then P (Err e) f h = tt

named : (n : ℕ) (text : List ℕ) (r : Result (List ℕ) NameError) (Q : List ℕ → Type 0) → ((x : List ℕ) → r ≡ Ok x → Q x) → IfOk (name_or_bad n r) Q
named n text (Ok x) Q h = h x refl
named n text (Err e) Q h = tt

found : {A : Type 0} (o : Option A) (d : LineError) (Q : A → Type 0) → ((x : A) → o ≡ Some x → Q x) → IfOk (or_bad d o) Q
found (Some x) d Q h = h x refl
found None d Q h = tt

weaken : {A E : Type 0} (r : Result A E) (Q : A → Type 0) → IfOk r Q → (x : A) → r ≡ Ok x → Q x
weaken r Q h x e = IfOk-at_ok Q e h

name_in : (n : ℕ) (text : List ℕ) → IfOk (name_field_at n text) (λ x. IsName x.0)
unfolding name_field_at
name_in n text =
    then (λ x. IsName x.0) (field_at n text) (λ f. name_or_bad n (name_at f.0) >>= λ x. Ok (x, f.1)) (λ f _.
    then (λ x. IsName x.0) (name_or_bad n (name_at f.0)) (λ x. Ok (x, f.1)) (λ x e.
    weaken (name_or_bad n (name_at f.0)) IsName (named n text (name_at f.0) IsName (λ y ey. subst (λ (t : List ℕ). name_at t ≡ Ok y) (name_reads f.0 y ey).0 ey)) x e))

app_in : (n : ℕ) (text : List ℕ) → IfOk (app_field_at n text) (λ x. IsApp x.0)
unfolding app_field_at
app_in n text =
    then (λ x. IsApp x.0) (field_at n text) (λ f. name_or_bad n (app_at f.0) >>= λ x. Ok (x, f.1)) (λ f _.
    then (λ x. IsApp x.0) (name_or_bad n (app_at f.0)) (λ x. Ok (x, f.1)) (λ x e.
    weaken (name_or_bad n (app_at f.0)) IsApp (named n text (app_at f.0) IsApp (λ y ey. subst (λ (t : List ℕ). app_at t ≡ Ok y) (app_reads f.0 y ey).0 ey)) x e))

number_in : (n : ℕ) (text : List ℕ) → IfOk (number_at n text) (λ x. IsNumber x.0)
unfolding number_at
number_in n text =
    then (λ x. IsNumber x.0) (field_at n text) (λ f. or_bad (errors.BadNumber n) (number_of f.0) >>= λ x. Ok (x, f.1)) (λ f _.
    then (λ x. IsNumber x.0) (or_bad (errors.BadNumber n) (number_of f.0)) (λ x. Ok (x, f.1)) (λ x e.
    weaken (or_bad (errors.BadNumber n) (number_of f.0)) IsNumber (found (number_of f.0) (errors.BadNumber n) IsNumber (λ y ey. number_fits f.0 y ey)) x e))

bytes_in : (n : ℕ) (text : List ℕ) → IfOk (bytes_at n text) (λ x. IsBytes x.0)
unfolding bytes_at
bytes_in n text =
    then (λ x. IsBytes x.0) (field_at n text) (λ f. or_bad (errors.BadBytes n) (bytes_of f.0) >>= λ x. Ok (x, f.1)) (λ f _.
    then (λ x. IsBytes x.0) (or_bad (errors.BadBytes n) (bytes_of f.0)) (λ x. Ok (x, f.1)) (λ x e.
    weaken (or_bad (errors.BadBytes n) (bytes_of f.0)) IsBytes (found (bytes_of f.0) (errors.BadBytes n) IsBytes (λ y ey. bytes_fit f.0 y ey)) x e))

-- then, behind a field of each kind
name_then : {B : Type 0} (P : B → Type 0) (n : ℕ) (text : List ℕ) (f : List ℕ × List ℕ → Result B LineError) → ((x : List ℕ × List ℕ) → IsName x.0 → IfOk (f x) P) → IfOk (name_field_at n text >>= f) P
name_then P n text f h = then P (name_field_at n text) f (λ x e. h x (weaken (name_field_at n text) (λ x. IsName x.0) (name_in n text) x e))

app_then : {B : Type 0} (P : B → Type 0) (n : ℕ) (text : List ℕ) (f : List ℕ × List ℕ → Result B LineError) → ((x : List ℕ × List ℕ) → IsApp x.0 → IfOk (f x) P) → IfOk (app_field_at n text >>= f) P
app_then P n text f h = then P (app_field_at n text) f (λ x e. h x (weaken (app_field_at n text) (λ x. IsApp x.0) (app_in n text) x e))

number_then : {B : Type 0} (P : B → Type 0) (n : ℕ) (text : List ℕ) (f : ℕ × List ℕ → Result B LineError) → ((x : ℕ × List ℕ) → IsNumber x.0 → IfOk (f x) P) → IfOk (number_at n text >>= f) P
number_then P n text f h = then P (number_at n text) f (λ x e. h x (weaken (number_at n text) (λ x. IsNumber x.0) (number_in n text) x e))

bytes_then : {B : Type 0} (P : B → Type 0) (n : ℕ) (text : List ℕ) (f : List ℕ × List ℕ → Result B LineError) → ((x : List ℕ × List ℕ) → IsBytes x.0 → IfOk (f x) P) → IfOk (bytes_at n text >>= f) P
bytes_then P n text f h = then P (bytes_at n text) f (λ x e. h x (weaken (bytes_at n text) (λ x. IsBytes x.0) (bytes_in n text) x e))

end_then : {B : Type 0} (P : B → Type 0) (n : ℕ) (text : List ℕ) (x : B) → P x → IfOk (end_at n text >>= λ _. Ok x) P
end_then P n text x h = then P (end_at n text) (λ _. Ok x) (λ _ _. h)

-- ---- words

register_in : (text : List ℕ) → IfOk (register_at text) IsEvent
unfolding register_at
register_in text = name_then IsEvent _ _ _ (λ _ a. name_then IsEvent _ _ _ (λ _ b. app_then IsEvent _ _ _ (λ _ c. end_then IsEvent _ _ _ (a, b, c))))

unregister_in : (text : List ℕ) → IfOk (unregister_at text) IsEvent
unfolding unregister_at
unregister_in text = name_then IsEvent _ _ _ (λ _ a. name_then IsEvent _ _ _ (λ _ b. app_then IsEvent _ _ _ (λ _ c. end_then IsEvent _ _ _ (a, b, c))))

accept_in : (text : List ℕ) → IfOk (accept_at text) IsEvent
unfolding accept_at
accept_in text = name_then IsEvent _ _ _ (λ _ a. name_then IsEvent _ _ _ (λ _ b. name_then IsEvent _ _ _ (λ _ c. app_then IsEvent _ _ _ (λ _ d. end_then IsEvent _ _ _ (a, b, c, d)))))

send_in : (text : List ℕ) → IfOk (send_at text) IsEvent
unfolding send_at
send_in text = name_then IsEvent _ _ _ (λ _ a. bytes_then IsEvent _ _ _ (λ _ b. end_then IsEvent _ _ _ (a, b)))

read_in : (text : List ℕ) → IfOk (read_at text) IsEvent
unfolding read_at
read_in text = name_then IsEvent _ _ _ (λ _ a. end_then IsEvent _ _ _ a)

state_in : (text : List ℕ) → IfOk (state_at text) IsEvent
unfolding state_at
state_in text = name_then IsEvent _ _ _ (λ _ a. end_then IsEvent _ _ _ a)

free_in : (text : List ℕ) → IfOk (free_at text) IsEvent
unfolding free_at
free_in text = name_then IsEvent _ _ _ (λ _ a. end_then IsEvent _ _ _ a)

lose_in : (text : List ℕ) → IfOk (lose_at text) IsEvent
unfolding lose_at
lose_in text = name_then IsEvent _ _ _ (λ _ a. number_then IsEvent _ _ _ (λ _ b. end_then IsEvent _ _ _ (a, b)))

repeat_in : (text : List ℕ) → IfOk (repeat_at text) IsEvent
unfolding repeat_at
repeat_in text = name_then IsEvent _ _ _ (λ _ a. number_then IsEvent _ _ _ (λ _ b. number_then IsEvent _ _ _ (λ _ c. end_then IsEvent _ _ _ (a, b, c))))

hold_in : (text : List ℕ) → IfOk (hold_at text) IsEvent
unfolding hold_at
hold_in text = name_then IsEvent _ _ _ (λ _ a. number_then IsEvent _ _ _ (λ _ b. number_then IsEvent _ _ _ (λ _ c. end_then IsEvent _ _ _ (a, b, c))))

cut_in : (text : List ℕ) → IfOk (cut_at text) IsEvent
unfolding cut_at
cut_in text = name_then IsEvent _ _ _ (λ _ a. end_then IsEvent _ _ _ a)

mend_in : (text : List ℕ) → IfOk (mend_at text) IsEvent
unfolding mend_at
mend_in text = name_then IsEvent _ _ _ (λ _ a. end_then IsEvent _ _ _ a)

publish_in : (text : List ℕ) → IfOk (publish_at text) IsEvent
unfolding publish_at
publish_in text = name_then IsEvent _ _ _ (λ _ a. name_then IsEvent _ _ _ (λ _ b. name_then IsEvent _ _ _ (λ _ c. end_then IsEvent _ _ _ (a, b, c))))

enrol_in : (text : List ℕ) → IfOk (enrol_at text) IsEvent
unfolding enrol_at
enrol_in text = name_then IsEvent _ _ _ (λ _ a. name_then IsEvent _ _ _ (λ _ b. name_then IsEvent _ _ _ (λ _ c. name_then IsEvent _ _ _ (λ _ d. end_then IsEvent _ _ _ (a, b, c, d)))))

member_in : (text : List ℕ) → IfOk (member_at text) IsEvent
unfolding member_at
member_in text = name_then IsEvent _ _ _ (λ _ a. name_then IsEvent _ _ _ (λ _ b. end_then IsEvent _ _ _ (a, b)))

in_in : (text : List ℕ) → IfOk (in_at text) IsEvent
unfolding in_at
in_in text = name_then IsEvent _ _ _ (λ _ a. name_then IsEvent _ _ _ (λ _ b. number_then IsEvent _ _ _ (λ _ c. end_then IsEvent _ _ _ (a, b, c))))

out_in : (text : List ℕ) → IfOk (out_at text) IsEvent
unfolding out_at
out_in text = name_then IsEvent _ _ _ (λ _ a. name_then IsEvent _ _ _ (λ _ b. number_then IsEvent _ _ _ (λ _ c. end_then IsEvent _ _ _ (a, b, c))))

clock_in : (text : List ℕ) → IfOk (clock_at text) IsEvent
unfolding clock_at
clock_in text = name_then IsEvent _ _ _ (λ _ a. name_then IsEvent _ _ _ (λ _ b. end_then IsEvent _ _ _ (a, b)))

round_in : (text : List ℕ) → IfOk (round_at text) IsEvent
unfolding round_at
round_in text = end_then IsEvent _ _ _ tt

retire_in : (text : List ℕ) → IfOk (retire_at text) IsEvent
unfolding retire_at
retire_in text = name_then IsEvent _ _ _ (λ _ a. end_then IsEvent _ _ _ a)

cdap_in : (text : List ℕ) → IfOk (cdap_at text) IsEvent
unfolding cdap_at
cdap_in text = name_then IsEvent _ _ _ (λ _ a. name_then IsEvent _ _ _ (λ _ b. bytes_then IsEvent _ _ _ (λ _ c. end_then IsEvent _ _ _ (a, b, c))))

ledger_in : (text : List ℕ) → IfOk (ledger_at text) IsEvent
unfolding ledger_at
ledger_in text = name_then IsEvent _ _ _ (λ _ a. name_then IsEvent _ _ _ (λ _ b. end_then IsEvent _ _ _ (a, b)))

journal_in : (text : List ℕ) → IfOk (journal_at text) IsEvent
unfolding journal_at
journal_in text = name_then IsEvent _ _ _ (λ _ a. end_then IsEvent _ _ _ a)

tick_in : (text : List ℕ) → IfOk (tick_at text) IsEvent
unfolding tick_at
tick_in text =
    number_then IsEvent _ _ _ (λ count a.
    then IsEvent (guard (leb 1 count.0 && leb count.0 100000) (errors.BadNumber 1)) (λ _. end_at 2 count.1 >>= λ _. Ok (events.Tick count.0)) (λ _ e.
    end_then IsEvent _ _ _ (let p = and_parts (leb 1 count.0) (leb count.0 100000) (passed (leb 1 count.0 && leb count.0 100000) (errors.BadNumber 1) _ e) in (leb-true 1 count.0 p.0, leb-true count.0 100000 p.1))))
  where
    passed : (b : Bool) (d : LineError) (u : Unit {0}) → guard b d ≡ Ok u → b ≡ true
    passed true d u e = refl
    passed false d u e = absurd cc

abbrev path_and : List ℕ → List ℕ → Result (Option (List ℕ) × List ℕ) LineError
path_and path rest = Ok (Some path, rest)

path_in : (n : ℕ) (text : List ℕ) → IfOk (path_at n text) (λ x. IsPath x.0)
unfolding path_at object_name_of
path_in n text = by_field (next_of text)
  where
    by_name : (c : Bool) (path rest : List ℕ) → is_object_name path ≡ c → IfOk (or_bad (errors.BadName n) (cond c (Some path) None) >>= λ path. path_and path rest) (λ x. IsPath x.0)
    by_name true path rest e = e
    by_name false path rest e = tt

    by_field : (o : Option (List ℕ × List ℕ)) → IfOk (path_or_none n o) (λ x. IsPath x.0)
    by_field None = tt
    by_field (Some f) = by_name (is_object_name f.0) f.0 f.1 refl

rib_in : (text : List ℕ) → IfOk (rib_at text) IsEvent
unfolding rib_at
rib_in text =
    name_then IsEvent _ _ _ (λ dif a. name_then IsEvent _ _ _ (λ node b.
    then IsEvent (path_at 3 node.1) (λ path. end_at 4 path.1 >>= λ _. Ok (events.Rib dif.0 node.0 path.0)) (λ path e.
    end_then IsEvent _ _ _ (a, b, weaken (path_at 3 node.1) (λ x. IsPath x.0) (path_in 3 node.1) path e))))

abbrev set_to : ℕ → ℕ → List ℕ → Result (ℕ × ℕ × List ℕ) LineError
set_to x n rest = Ok (x, n + 1, rest)

setting_in : (word : List ℕ) (default n : ℕ) (text : List ℕ) → IsNumber default → IfOk (setting_at word default n text) (λ x. IsNumber x.0)
unfolding setting_at
setting_in word default n text fits = by_field (next_of text)
  where
    by_number : (o : Option ℕ) (rest : List ℕ) → IfSome o IsNumber → IfOk (or_bad (errors.BadNumber n) o >>= λ x. set_to x n rest) (λ x. IsNumber x.0)
    by_number None rest h = tt
    by_number (Some x) rest h = h

    reads : (digits : List ℕ) (o : Option ℕ) → number_of digits ≡ o → IfSome o IsNumber
    reads digits None e = tt
    reads digits (Some x) e = number_fits digits x e

    by_word : (o : Option (List ℕ)) (rest : List ℕ) → IfOk (value_or_default default n text rest o) (λ x. IsNumber x.0)
    by_word None rest = fits
    by_word (Some digits) rest = by_number (number_of digits) rest (reads digits (number_of digits) refl)

    by_field : (o : Option (List ℕ × List ℕ)) → IfOk (setting_or_none word default n text o) (λ x. IsNumber x.0)
    by_field None = fits
    by_field (Some f) = by_word (behind word f.0) f.1

setting_then : {B : Type 0} (P : B → Type 0) (word : List ℕ) (default n : ℕ) (text : List ℕ) (f : ℕ × ℕ × List ℕ → Result B LineError) → IsNumber default → ((x : ℕ × ℕ × List ℕ) → IsNumber x.0 → IfOk (f x) P) → IfOk (setting_at word default n text >>= f) P
setting_then P word default n text f fits h = then P (setting_at word default n text) f (λ x e. h x (weaken (setting_at word default n text) (λ x. IsNumber x.0) (setting_in word default n text fits) x e))

want_in : (text : List ℕ) → IfOk (want_at text) IsWant
unfolding want_at
want_in text = setting_then IsWant _ _ _ _ _ (omega arith) (λ within a. setting_then IsWant _ _ _ _ _ (omega arith) (λ size b. end_then IsWant _ _ _ (a, b)))

alloc_in : (text : List ℕ) → IfOk (alloc_at text) IsEvent
unfolding alloc_at
alloc_in text =
    name_then IsEvent _ _ _ (λ label a. name_then IsEvent _ _ _ (λ fac b. name_then IsEvent _ _ _ (λ node c. app_then IsEvent _ _ _ (λ app d. app_then IsEvent _ _ _ (λ to e.
    then IsEvent (want_at to.1) (λ want. Ok (events.Alloc label.0 fac.0 node.0 app.0 to.0 want)) (λ want w.
    (a, b, c, d, e, weaken (want_at to.1) IsWant (want_in to.1) want w)))))))

-- ---- lines

record In (r : Result Event LineError) : Type 0 where
  is : IfOk r IsEvent

either : (b : Bool) (x y : Result Event LineError) → IfOk x IsEvent → In y → In (cond b x y)
either true x y h g = record { is = h }
either false x y h g = g

unknown : {d : LineError} → In (Err d)
unknown = record { is = tt }

step_in : (word text : List ℕ) → In (step_word_at word text)
unfolding step_word_at
step_in word text = either _ _ _ (tick_in text) (either _ _ _ (round_in text) (either _ _ _ (retire_in text) (either _ _ _ (journal_in text) unknown)))

dif_in : (word text : List ℕ) → In (dif_word_at word text)
unfolding dif_word_at
dif_in word text =
    either _ _ _ (publish_in text) (either _ _ _ (enrol_in text) (either _ _ _ (member_in text) (either _ _ _ (in_in text) (either _ _ _ (out_in text)
    (either _ _ _ (clock_in text) (either _ _ _ (cdap_in text) (either _ _ _ (rib_in text) (either _ _ _ (ledger_in text) (step_in word text)))))))))

wire_in : (word text : List ℕ) → In (wire_word_at word text)
unfolding wire_word_at
wire_in word text = either _ _ _ (lose_in text) (either _ _ _ (repeat_in text) (either _ _ _ (hold_in text) (either _ _ _ (cut_in text) (either _ _ _ (mend_in text) (dif_in word text)))))

word_in : (word text : List ℕ) → In (word_at word text)
unfolding word_at
word_in word text =
    either _ _ _ (register_in text) (either _ _ _ (unregister_in text) (either _ _ _ (alloc_in text) (either _ _ _ (accept_in text) (either _ _ _ (send_in text)
    (either _ _ _ (read_in text) (either _ _ _ (state_in text) (either _ _ _ (free_in text) (wire_in word text))))))))

pub line_in : (text : List ℕ) (e : Event) → line_at text ≡ Ok (Some e) → IsEvent e
unfolding line_at
line_in text e read = weaken (event_or_none (next_of text)) (λ o. IfSome o IsEvent) (by_word (next_of text)) (Some e) read
  where
    made : (r : Result Event LineError) → IfOk r IsEvent → IfOk (r >>= λ event. Ok (Some event)) (λ o. IfSome o IsEvent)
    made (Ok event) h = h
    made (Err d) h = tt

    by_remark : (c : Bool) (f : List ℕ × List ℕ) → IfOk (cond c (Ok None) (word_at f.0 f.1 >>= λ event. Ok (Some event))) (λ o. IfSome o IsEvent)
    by_remark true f = tt
    by_remark false f = made (word_at f.0 f.1) (word_in f.0 f.1).is

    by_word : (o : Option (List ℕ × List ℕ)) → IfOk (event_or_none o) (λ o. IfSome o IsEvent)
    by_word None = tt
    by_word (Some f) = by_remark (eqb (slice_index f.0 0) 35) f

pub line_again : (text : List ℕ) (e : Event) → line_at text ≡ Ok (Some e) → line_at (line_text e) ≡ Ok (Some e)
line_again text e read = line_back e (line_in text e read)
