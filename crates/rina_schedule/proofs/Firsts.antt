-- The error of a line is settled by the fields up to the one that it names.
use Rattle.std.proofs.Common.{◌≡◌, ◌&&◌, ℕ, zero, suc, ◌+◌, ◌-◌, ◌^◌, ◌<◌, ◌≤◌, nat_le, Bool, true, false, cond, List, [], slice_index, Option, Some, None, Result, Ok, Err, eqb, refl, sym, ap, subst, ◌∙◌, arith}
use Rattle.std.specs.Prelude.{codes}
use Rattle.std.specs.Str.{bytes_eq}
use Rattle.rina_base.specs.Names.{name_at, app_at}
use Rattle.rina_base.specs.Traverse.{◌>>=◌}
use Rattle.rina_base.specs.Decimals.{number_of}
use Rattle.rina_base.specs.ObjectNames.{object_name_of}
use Rattle.rina_cube.specs.declared.Want.{Want}
use Rattle.rina_schedule.specs.declared.error.LineError.{LineError}
use Rattle.rina_schedule.specs.declared.error.LineError.TheVariants as errors
use Rattle.rina_schedule.specs.declared.event.Event.{Event}
use Rattle.rina_schedule.specs.declared.event.Event.TheVariants as events
use Rattle.rina_schedule.specs.Errors.{field_of}
use Rattle.rina_schedule.specs.Gives.{or_bad, guard}
use Rattle.rina_schedule.specs.Bytes.{bytes_of}
use Rattle.rina_schedule.specs.Fields.{next_of, field_at, number_at, name_or_bad, name_field_at, app_field_at, bytes_at, path_or_none, path_at, end_or_extra, end_at, flag_or_none, flag_at, behind, value_or_default, setting_or_none, setting_at}
use Rattle.rina_schedule.specs.FlowWords.{register_at, unregister_at, want_at, alloc_at, accept_at, send_at, read_at, state_at, free_at}
use Rattle.rina_schedule.specs.WireWords.{lose_at, repeat_at, hold_at, cut_at, mend_at, tick_at, round_at, retire_at, journal_at}
use Rattle.rina_schedule.specs.DifWords.{publish_at, enrol_at, member_at, in_at, out_at, clock_at, cdap_at, rib_at, ledger_at}
use Rattle.rina_schedule.specs.Line.{step_word_at, dif_word_at, wire_word_at, word_at, event_or_none, line_at}
use Rattle.rina_schedule.specs.Firsts.{BothHave, SameFields}

abbrev Cut : Type 0
Cut = List ℕ × List ℕ

-- an error of a text, whose first field has number n, names a field from there on, and is that of each text with the same fields up to this one
record Settled {A : Type 0} (n : ℕ) (q : List ℕ → Result A LineError) : Type 0 where
  low : (a : List ℕ) (e : LineError) → q a ≡ Err e → n ≤ field_of e
  same : (k : ℕ) (a b : List ℕ) (e : LineError) → SameFields k a b → field_of e < n + k → q a ≡ Err e → q b ≡ Err e

err_same : {A : Type 0} (d e : LineError) → ◌≡◌ {A = Result A LineError} (Err d) (Err e) → d ≡ e
err_same d e h = cc

no_err : {A G : Type 0} (x : A) (e : LineError) → ◌≡◌ {A = Result A LineError} (Ok x) (Err e) → G
no_err x e h = cc

named_by : (d e : LineError) (n : ℕ) → d ≡ e → field_of d ≡ n → field_of e ≡ n
named_by d e n same is = sym (ap (λ (x : LineError). field_of x) same) ∙ is

at_least : (n m : ℕ) → m ≡ n → n ≤ m
at_least n m h = omega (arith, h)

-- ---- one field
module _ {X B : Type 0} (n : ℕ) (read : List ℕ → Result X LineError) (f : X × List ℕ → Result B LineError) (bad : (t : List ℕ) (e : LineError) → read t ≡ Err e → field_of e ≡ n) (rest : (x : X) → Settled (n + 1) (λ (t : List ℕ). f (x, t))) where
  abbrev one : Option Cut → Result B LineError
  one o = (or_bad (errors.MissingField n) o >>= λ w. read w.0 >>= λ x. Ok (x, w.1)) >>= f

  abbrev value : List ℕ → Result X LineError → Result B LineError
  value t r = (r >>= λ x. Ok (x, t)) >>= f

  low_read : (w : Cut) (r : Result X LineError) (e : LineError) → read w.0 ≡ r → value w.1 r ≡ Err e → n ≤ field_of e
  low_read w (Ok x) e is h = omega (arith, (rest x).low w.1 e h)
  low_read w (Err d) e is h = at_least n (field_of e) (named_by d e n (err_same d e h) (bad w.0 d is))

  low_one : (o : Option Cut) (e : LineError) → one o ≡ Err e → n ≤ field_of e
  low_one None e h = at_least n (field_of e) (named_by (errors.MissingField n) e n (err_same (errors.MissingField n) e h) refl)
  low_one (Some w) e h = low_read w (read w.0) e refl h

  same_read : (k : ℕ) (w v : Cut) (r : Result X LineError) (e : LineError) → SameFields k w.1 v.1 → field_of e < n + suc k → value w.1 r ≡ Err e → value v.1 r ≡ Err e
  same_read k w v (Ok x) e alike lt h = (rest x).same k w.1 v.1 e alike (omega (arith, lt)) h
  same_read k w v (Err d) e alike lt h = h

  same_one : (k : ℕ) (o p : Option Cut) (e : LineError) → BothHave (λ x y. SameFields k x y) o p → field_of e < n + suc k → one o ≡ Err e → one p ≡ Err e
  same_one k None None e alike lt h = h
  same_one k None (Some v) e alike lt h = absurd alike
  same_one k (Some w) None e alike lt h = absurd alike
  same_one k (Some w) (Some v) e alike lt h = subst (λ (t : List ℕ). value v.1 (read t) ≡ Err e) alike.0 (same_read k w v (read w.0) e alike.1 lt h)

  same_text : (k : ℕ) (a b : List ℕ) (e : LineError) → SameFields k a b → field_of e < n + k → one (next_of a) ≡ Err e → one (next_of b) ≡ Err e
  same_text zero a b e alike lt h = absurd (omega (arith, low_one (next_of a) e h, lt))
  same_text (suc k) a b e alike lt h = same_one k (next_of a) (next_of b) e alike lt h

  one_settled : Settled n (λ (t : List ℕ). one (next_of t))
  one_settled = record { low = λ a e h. low_one (next_of a) e h; same = same_text }

name_bad : {A E : Type 0} (n : ℕ) (r : Result A E) (e : LineError) → name_or_bad n r ≡ Err e → field_of e ≡ n
name_bad n (Ok x) e h = no_err x e h
name_bad n (Err d) e h = named_by (errors.BadName n) e n (err_same (errors.BadName n) e h) refl

or_bad_of : {A : Type 0} (d : LineError) (n : ℕ) (o : Option A) (e : LineError) → field_of d ≡ n → or_bad d o ≡ Err e → field_of e ≡ n
or_bad_of d n (Some x) e is h = no_err x e h
or_bad_of d n None e is h = named_by d e n (err_same d e h) is

name_then : {B : Type 0} (n : ℕ) (f : List ℕ × List ℕ → Result B LineError) → ((x : List ℕ) → Settled (n + 1) (λ (t : List ℕ). f (x, t))) → Settled n (λ (t : List ℕ). name_field_at n t >>= f)
unfolding name_field_at field_at
name_then n f rest = one_settled n (λ t. name_or_bad n (name_at t)) f (λ t e h. name_bad n (name_at t) e h) rest

app_then : {B : Type 0} (n : ℕ) (f : List ℕ × List ℕ → Result B LineError) → ((x : List ℕ) → Settled (n + 1) (λ (t : List ℕ). f (x, t))) → Settled n (λ (t : List ℕ). app_field_at n t >>= f)
unfolding app_field_at field_at
app_then n f rest = one_settled n (λ t. name_or_bad n (app_at t)) f (λ t e h. name_bad n (app_at t) e h) rest

number_then : {B : Type 0} (n : ℕ) (f : ℕ × List ℕ → Result B LineError) → ((x : ℕ) → Settled (n + 1) (λ (t : List ℕ). f (x, t))) → Settled n (λ (t : List ℕ). number_at n t >>= f)
unfolding number_at field_at
number_then n f rest = one_settled n (λ t. or_bad (errors.BadNumber n) (number_of t)) f (λ t e h. or_bad_of (errors.BadNumber n) n (number_of t) e refl h) rest

bytes_then : {B : Type 0} (n : ℕ) (f : List ℕ × List ℕ → Result B LineError) → ((x : List ℕ) → Settled (n + 1) (λ (t : List ℕ). f (x, t))) → Settled n (λ (t : List ℕ). bytes_at n t >>= f)
unfolding bytes_at field_at
bytes_then n f rest = one_settled n (λ t. or_bad (errors.BadBytes n) (bytes_of t)) f (λ t e h. or_bad_of (errors.BadBytes n) n (bytes_of t) e refl h) rest

-- ---- the end
module _ {B : Type 0} (n : ℕ) (x : B) where
  abbrev ended : Option Cut → Result B LineError
  ended o = end_or_extra n o >>= λ _. Ok x

  low_end : (o : Option Cut) (e : LineError) → ended o ≡ Err e → n ≤ field_of e
  low_end None e h = no_err x e h
  low_end (Some w) e h = at_least n (field_of e) (named_by (errors.Extra n) e n (err_same (errors.Extra n) e h) refl)

  same_end : (k : ℕ) (o p : Option Cut) (e : LineError) → BothHave (λ x y. SameFields k x y) o p → ended o ≡ Err e → ended p ≡ Err e
  same_end k None None e alike h = h
  same_end k None (Some v) e alike h = absurd alike
  same_end k (Some w) None e alike h = absurd alike
  same_end k (Some w) (Some v) e alike h = h

  same_ends : (k : ℕ) (a b : List ℕ) (e : LineError) → SameFields k a b → field_of e < n + k → ended (next_of a) ≡ Err e → ended (next_of b) ≡ Err e
  same_ends zero a b e alike lt h = absurd (omega (arith, low_end (next_of a) e h, lt))
  same_ends (suc k) a b e alike lt h = same_end k (next_of a) (next_of b) e alike h

  end_settled : Settled n (λ (t : List ℕ). ended (next_of t))
  end_settled = record { low = λ a e h. low_end (next_of a) e h; same = same_ends }

end_then : {B : Type 0} (n : ℕ) (x : B) → Settled n (λ (t : List ℕ). end_at n t >>= λ _. Ok x)
unfolding end_at
end_then n x = end_settled n x

-- ---- options, each of which may be left out
module _ {B : Type 0} (word : List ℕ) (n : ℕ) (f : Bool × ℕ × List ℕ → Result B LineError) (rest : (b : Bool) (m : ℕ) → Settled m (λ (t : List ℕ). f (b, m, t))) where
  abbrev flagged : List ℕ → Option Cut → Result B LineError
  flagged t o = f (flag_or_none word n t o)

  abbrev tested : List ℕ → Cut → Bool → Result B LineError
  tested t w b = f (cond b (true, n + 1, w.1) (false, n, t))

  low_test : (t : List ℕ) (w : Cut) (b : Bool) (e : LineError) → tested t w b ≡ Err e → n ≤ field_of e
  low_test t w true e h = omega (arith, (rest true (n + 1)).low w.1 e h)
  low_test t w false e h = (rest false n).low t e h

  low_flag : (t : List ℕ) (o : Option Cut) (e : LineError) → flagged t o ≡ Err e → n ≤ field_of e
  low_flag t None e h = (rest false n).low t e h
  low_flag t (Some w) e h = low_test t w (bytes_eq w.0 word) e h

  same_test : (k : ℕ) (a b : List ℕ) (w v : Cut) (c : Bool) (e : LineError) → SameFields (suc k) a b → SameFields k w.1 v.1 → field_of e < n + suc k → tested a w c ≡ Err e → tested b v c ≡ Err e
  same_test k a b w v true e whole alike lt h = (rest true (n + 1)).same k w.1 v.1 e alike (omega (arith, lt)) h
  same_test k a b w v false e whole alike lt h = (rest false n).same (suc k) a b e whole lt h

  same_flag : (k : ℕ) (a b : List ℕ) (o p : Option Cut) (e : LineError) → SameFields (suc k) a b → BothHave (λ x y. SameFields k x y) o p → field_of e < n + suc k → flagged a o ≡ Err e → flagged b p ≡ Err e
  same_flag k a b None None e whole alike lt h = (rest false n).same (suc k) a b e whole lt h
  same_flag k a b None (Some v) e whole alike lt h = absurd alike
  same_flag k a b (Some w) None e whole alike lt h = absurd alike
  same_flag k a b (Some w) (Some v) e whole alike lt h = subst (λ (t : List ℕ). tested b v (bytes_eq t word) ≡ Err e) alike.0 (same_test k a b w v (bytes_eq w.0 word) e whole alike.1 lt h)

  same_flags : (k : ℕ) (a b : List ℕ) (e : LineError) → SameFields k a b → field_of e < n + k → flagged a (next_of a) ≡ Err e → flagged b (next_of b) ≡ Err e
  same_flags zero a b e alike lt h = absurd (omega (arith, low_flag a (next_of a) e h, lt))
  same_flags (suc k) a b e alike lt h = same_flag k a b (next_of a) (next_of b) e alike alike lt h

  flag_settled : Settled n (λ (t : List ℕ). flagged t (next_of t))
  flag_settled = record { low = λ a e h. low_flag a (next_of a) e h; same = same_flags }

flag_then : {B : Type 0} (word : List ℕ) (n : ℕ) (f : Bool × ℕ × List ℕ → Result B LineError) → ((b : Bool) (m : ℕ) → Settled m (λ (t : List ℕ). f (b, m, t))) → Settled n (λ (t : List ℕ). f (flag_at word n t))
unfolding flag_at
flag_then word n f rest = flag_settled word n f rest

module _ {B : Type 0} (word : List ℕ) (default n : ℕ) (f : ℕ × ℕ × List ℕ → Result B LineError) (rest : (x m : ℕ) → Settled m (λ (t : List ℕ). f (x, m, t))) where
  abbrev set : List ℕ → Option Cut → Result B LineError
  set t o = setting_or_none word default n t o >>= f

  abbrev set_by : List ℕ → List ℕ → Option (List ℕ) → Result B LineError
  set_by t after o = value_or_default default n t after o >>= f

  abbrev number_set : List ℕ → Option ℕ → Result B LineError
  number_set after o = (or_bad (errors.BadNumber n) o >>= λ x. Ok (x, n + 1, after)) >>= f

  low_number : (after : List ℕ) (o : Option ℕ) (e : LineError) → number_set after o ≡ Err e → n ≤ field_of e
  low_number after None e h = at_least n (field_of e) (named_by (errors.BadNumber n) e n (err_same (errors.BadNumber n) e h) refl)
  low_number after (Some x) e h = omega (arith, (rest x (n + 1)).low after e h)

  low_by : (t after : List ℕ) (o : Option (List ℕ)) (e : LineError) → set_by t after o ≡ Err e → n ≤ field_of e
  low_by t after None e h = (rest default n).low t e h
  low_by t after (Some digits) e h = low_number after (number_of digits) e h

  low_set : (t : List ℕ) (o : Option Cut) (e : LineError) → set t o ≡ Err e → n ≤ field_of e
  low_set t None e h = (rest default n).low t e h
  low_set t (Some w) e h = low_by t w.1 (behind word w.0) e h

  same_number : (k : ℕ) (x y : List ℕ) (o : Option ℕ) (e : LineError) → SameFields k x y → field_of e < n + suc k → number_set x o ≡ Err e → number_set y o ≡ Err e
  same_number k x y None e alike lt h = h
  same_number k x y (Some m) e alike lt h = (rest m (n + 1)).same k x y e alike (omega (arith, lt)) h

  same_by : (k : ℕ) (a b x y : List ℕ) (o : Option (List ℕ)) (e : LineError) → SameFields (suc k) a b → SameFields k x y → field_of e < n + suc k → set_by a x o ≡ Err e → set_by b y o ≡ Err e
  same_by k a b x y None e whole alike lt h = (rest default n).same (suc k) a b e whole lt h
  same_by k a b x y (Some digits) e whole alike lt h = same_number k x y (number_of digits) e alike lt h

  same_set : (k : ℕ) (a b : List ℕ) (o p : Option Cut) (e : LineError) → SameFields (suc k) a b → BothHave (λ x y. SameFields k x y) o p → field_of e < n + suc k → set a o ≡ Err e → set b p ≡ Err e
  same_set k a b None None e whole alike lt h = (rest default n).same (suc k) a b e whole lt h
  same_set k a b None (Some v) e whole alike lt h = absurd alike
  same_set k a b (Some w) None e whole alike lt h = absurd alike
  same_set k a b (Some w) (Some v) e whole alike lt h = subst (λ (t : List ℕ). set_by b v.1 (behind word t) ≡ Err e) alike.0 (same_by k a b w.1 v.1 (behind word w.0) e whole alike.1 lt h)

  same_sets : (k : ℕ) (a b : List ℕ) (e : LineError) → SameFields k a b → field_of e < n + k → set a (next_of a) ≡ Err e → set b (next_of b) ≡ Err e
  same_sets zero a b e alike lt h = absurd (omega (arith, low_set a (next_of a) e h, lt))
  same_sets (suc k) a b e alike lt h = same_set k a b (next_of a) (next_of b) e alike alike lt h

  set_settled : Settled n (λ (t : List ℕ). set t (next_of t))
  set_settled = record { low = λ a e h. low_set a (next_of a) e h; same = same_sets }

setting_then : {B : Type 0} (word : List ℕ) (default n : ℕ) (f : ℕ × ℕ × List ℕ → Result B LineError) → ((x m : ℕ) → Settled m (λ (t : List ℕ). f (x, m, t))) → Settled n (λ (t : List ℕ). setting_at word default n t >>= f)
unfolding setting_at
setting_then word default n f rest = set_settled word default n f rest

-- what is read behind each option
abbrev after_size : Bool → Bool → ℕ → ℕ × ℕ × List ℕ → Result Want LineError
after_size ordered reliable within size = end_at size.1 size.2 >>= λ _. Ok (record { ordered = ordered; reliable = reliable; within = within; size = size.0 })

abbrev after_within : Bool → Bool → ℕ × ℕ × List ℕ → Result Want LineError
after_within ordered reliable within = setting_at (codes "size=") 0 within.1 within.2 >>= λ size. after_size ordered reliable within.0 size

abbrev after_reliable : Bool → Bool × ℕ × List ℕ → Result Want LineError
after_reliable ordered reliable = setting_at (codes "within=") (2 ^ 32 - 1) reliable.1 reliable.2 >>= λ within. after_within ordered reliable.0 within

abbrev after_ordered : Bool × ℕ × List ℕ → Result Want LineError
after_ordered ordered = after_reliable ordered.0 (flag_at (codes "reliable") ordered.1 ordered.2)

abbrev wanted : Bool → Bool → ℕ → ℕ → Want
wanted ordered reliable within size = record { ordered = ordered; reliable = reliable; within = within; size = size }

want_settled : Settled 6 want_at
unfolding want_at
want_settled =
    flag_then (codes "ordered") 6 after_ordered (λ ordered m. flag_then (codes "reliable") m (after_reliable ordered) (λ reliable k.
    setting_then (codes "within=") (2 ^ 32 - 1) k (after_within ordered reliable) (λ within j. setting_then (codes "size=") 0 j (after_size ordered reliable within) (λ size i.
    end_then i (wanted ordered reliable within size)))))

module _ {A B : Type 0} (n : ℕ) (q : List ℕ → Result A LineError) (f : A → B) (h : Settled n q) where
  abbrev then : Result A LineError → Result B LineError
  then r = r >>= λ x. Ok (f x)

  up : (r : Result A LineError) (e : LineError) → then r ≡ Err e → r ≡ Err e
  up (Ok x) e is = no_err (f x) e is
  up (Err d) e is = ap (λ (z : LineError). failed z) (err_same d e is)
    where
      failed : LineError → Result A LineError
      failed z = Err z

  down : (r : Result A LineError) (e : LineError) → r ≡ Err e → then r ≡ Err e
  down r e is = ap (λ (z : Result A LineError). then z) is

  ok_settled : Settled n (λ (t : List ℕ). then (q t))
  ok_settled = record { low = λ a e is. h.low a e (up (q a) e is); same = λ k a b e alike lt is. down (q b) e (h.same k a b e alike lt (up (q a) e is)) }

-- ---- rib: a path that is not there, or a name of an object
module _ {B : Type 0} (n m : ℕ) (f : Option (List ℕ) → B) (next : n ≤ m) where
  abbrev pathed : Option (List ℕ) × List ℕ → Result B LineError
  pathed path = end_at m path.1 >>= λ _. Ok (f path.0)

  abbrev path_read : Option Cut → Result B LineError
  path_read o = path_or_none n o >>= pathed

  abbrev path_named : List ℕ → Option (List ℕ) → Result B LineError
  path_named after o = (or_bad (errors.BadName n) o >>= λ path. Ok (Some path, after)) >>= pathed

  low_named : (after : List ℕ) (o : Option (List ℕ)) (e : LineError) → path_named after o ≡ Err e → n ≤ field_of e
  low_named after None e h = at_least n (field_of e) (named_by (errors.BadName n) e n (err_same (errors.BadName n) e h) refl)
  low_named after (Some path) e h = omega (arith, (end_then m (f (Some path))).low after e h, next)

  low_path : (o : Option Cut) (e : LineError) → path_read o ≡ Err e → n ≤ field_of e
  low_path None e h = omega (arith, (end_then m (f None)).low [] e h, next)
  low_path (Some w) e h = low_named w.1 (object_name_of w.0) e h

  same_named : (k : ℕ) (x y : List ℕ) (o : Option (List ℕ)) (e : LineError) → SameFields k x y → field_of e < m + k → path_named x o ≡ Err e → path_named y o ≡ Err e
  same_named k x y None e alike lt h = h
  same_named k x y (Some path) e alike lt h = (end_then m (f (Some path))).same k x y e alike lt h

  same_path : (k : ℕ) (o p : Option Cut) (e : LineError) → BothHave (λ x y. SameFields k x y) o p → field_of e < m + k → path_read o ≡ Err e → path_read p ≡ Err e
  same_path k None None e alike lt h = h
  same_path k None (Some v) e alike lt h = absurd alike
  same_path k (Some w) None e alike lt h = absurd alike
  same_path k (Some w) (Some v) e alike lt h = subst (λ (t : List ℕ). path_named v.1 (object_name_of t) ≡ Err e) alike.0 (same_named k w.1 v.1 (object_name_of w.0) e alike.1 lt h)

  path_settled : n + 1 ≡ m → Settled n (λ (t : List ℕ). path_read (next_of t))
  path_settled one = record { low = λ a e h. low_path (next_of a) e h; same = by_fields }
    where
      by_fields : (k : ℕ) (a b : List ℕ) (e : LineError) → SameFields k a b → field_of e < n + k → path_read (next_of a) ≡ Err e → path_read (next_of b) ≡ Err e
      by_fields zero a b e alike lt h = absurd (omega (arith, low_path (next_of a) e h, lt))
      by_fields (suc k) a b e alike lt h = same_path k (next_of a) (next_of b) e alike (omega (arith, lt, one)) h

path_then : (dif node : List ℕ) → Settled 3 (λ (t : List ℕ). path_at 3 t >>= λ path. end_at 4 path.1 >>= λ _. Ok (events.Rib dif node path.0))
unfolding path_at
path_then dif node = path_settled 3 4 (λ path. events.Rib dif node path) (omega arith) (omega arith)

-- ---- tick: a number that is out of its range is told of its own field
abbrev count_of : List ℕ → Result ℕ LineError
count_of t = or_bad (errors.BadNumber 1) (number_of t) >>= λ x. guard (nat_le 1 x && nat_le x 100000) (errors.BadNumber 1) >>= λ _. Ok x

abbrev ticked : ℕ × List ℕ → Result Event LineError
ticked count = end_at 2 count.1 >>= λ _. Ok (events.Tick count.0)

abbrev number_and : List ℕ → ℕ → Result (ℕ × List ℕ) LineError
number_and after x = Ok (x, after)

abbrev counted : ℕ × List ℕ → Result Event LineError
counted count = guard (nat_le 1 count.0 && nat_le count.0 100000) (errors.BadNumber 1) >>= λ _. end_at 2 count.1 >>= λ _. Ok (events.Tick count.0)

abbrev ranged : Bool → ℕ → Result ℕ LineError
ranged b x = guard b (errors.BadNumber 1) >>= λ _. Ok x

bad_range : (b : Bool) (x : ℕ) (e : LineError) → ranged b x ≡ Err e → field_of e ≡ 1
bad_range true x e h = no_err x e h
bad_range false x e h = named_by (errors.BadNumber 1) e 1 (err_same (errors.BadNumber 1) e h) refl

bad_count : (o : Option ℕ) (e : LineError) → (or_bad (errors.BadNumber 1) o >>= λ x. ranged (nat_le 1 x && nat_le x 100000) x) ≡ Err e → field_of e ≡ 1
bad_count None e h = named_by (errors.BadNumber 1) e 1 (err_same (errors.BadNumber 1) e h) refl
bad_count (Some x) e h = bad_range (nat_le 1 x && nat_le x 100000) x e h

same_range : (b : Bool) (x : ℕ) (after : List ℕ) → ((ranged b x >>= λ y. number_and after y) >>= ticked) ≡ (guard b (errors.BadNumber 1) >>= λ _. end_at 2 after >>= λ _. Ok (events.Tick x))
same_range true x after = refl
same_range false x after = refl

same_count : (o : Option ℕ) (after : List ℕ) → (((or_bad (errors.BadNumber 1) o >>= λ x. ranged (nat_le 1 x && nat_le x 100000) x) >>= λ y. number_and after y) >>= ticked) ≡ ((or_bad (errors.BadNumber 1) o >>= λ x. number_and after x) >>= counted)
same_count None after = refl
same_count (Some x) after = same_range (nat_le 1 x && nat_le x 100000) x after

same_tick : (o : Option Cut) → ((or_bad (errors.MissingField 1) o >>= λ w. count_of w.0 >>= λ x. number_and w.1 x) >>= ticked) ≡ ((or_bad (errors.MissingField 1) o >>= λ w. or_bad (errors.BadNumber 1) (number_of w.0) >>= λ x. number_and w.1 x) >>= counted)
same_tick None = refl
same_tick (Some w) = same_count (number_of w.0) w.1

like : {A : Type 0} (n : ℕ) (p q : List ℕ → Result A LineError) → ((t : List ℕ) → p t ≡ q t) → Settled n p → Settled n q
like n p q is h = record { low = λ a e k. h.low a e (is a ∙ k); same = λ k a b e alike lt l. sym (is b) ∙ h.same k a b e alike lt (is a ∙ l) }

tick_settled : Settled 1 tick_at
unfolding tick_at number_at field_at
tick_settled = like 1 (λ t. (or_bad (errors.MissingField 1) (next_of t) >>= λ w. count_of w.0 >>= λ x. number_and w.1 x) >>= ticked) tick_at (λ t. same_tick (next_of t)) (one_settled 1 count_of ticked (λ t e h. bad_count (number_of t) e h) (λ x. end_then 2 (events.Tick x)))

-- ---- words
register_settled : Settled 1 register_at
unfolding register_at
register_settled = name_then 1 _ (λ a. name_then 2 _ (λ b. app_then 3 _ (λ d. end_then 4 _)))

unregister_settled : Settled 1 unregister_at
unfolding unregister_at
unregister_settled = name_then 1 _ (λ a. name_then 2 _ (λ b. app_then 3 _ (λ d. end_then 4 _)))

alloc_settled : Settled 1 alloc_at
unfolding alloc_at
alloc_settled =
    name_then 1 _ (λ label. name_then 2 _ (λ fac. name_then 3 _ (λ node. app_then 4 _ (λ app. app_then 5 _ (λ to.
    ok_settled 6 want_at (λ (want : Want). events.Alloc label fac node app to want) want_settled)))))

accept_settled : Settled 1 accept_at
unfolding accept_at
accept_settled = name_then 1 _ (λ a. name_then 2 _ (λ b. name_then 3 _ (λ d. app_then 4 _ (λ g. end_then 5 _))))

send_settled : Settled 1 send_at
unfolding send_at
send_settled = name_then 1 _ (λ a. bytes_then 2 _ (λ b. end_then 3 _))

read_settled : Settled 1 read_at
unfolding read_at
read_settled = name_then 1 _ (λ a. end_then 2 _)

state_settled : Settled 1 state_at
unfolding state_at
state_settled = name_then 1 _ (λ a. end_then 2 _)

free_settled : Settled 1 free_at
unfolding free_at
free_settled = name_then 1 _ (λ a. end_then 2 _)

lose_settled : Settled 1 lose_at
unfolding lose_at
lose_settled = name_then 1 _ (λ a. number_then 2 _ (λ b. end_then 3 _))

repeat_settled : Settled 1 repeat_at
unfolding repeat_at
repeat_settled = name_then 1 _ (λ a. number_then 2 _ (λ b. number_then 3 _ (λ d. end_then 4 _)))

hold_settled : Settled 1 hold_at
unfolding hold_at
hold_settled = name_then 1 _ (λ a. number_then 2 _ (λ b. number_then 3 _ (λ d. end_then 4 _)))

cut_settled : Settled 1 cut_at
unfolding cut_at
cut_settled = name_then 1 _ (λ a. end_then 2 _)

mend_settled : Settled 1 mend_at
unfolding mend_at
mend_settled = name_then 1 _ (λ a. end_then 2 _)

publish_settled : Settled 1 publish_at
unfolding publish_at
publish_settled = name_then 1 _ (λ a. name_then 2 _ (λ b. name_then 3 _ (λ d. end_then 4 _)))

enrol_settled : Settled 1 enrol_at
unfolding enrol_at
enrol_settled = name_then 1 _ (λ a. name_then 2 _ (λ b. name_then 3 _ (λ d. name_then 4 _ (λ g. end_then 5 _))))

member_settled : Settled 1 member_at
unfolding member_at
member_settled = name_then 1 _ (λ a. name_then 2 _ (λ b. end_then 3 _))

in_settled : Settled 1 in_at
unfolding in_at
in_settled = name_then 1 _ (λ a. name_then 2 _ (λ b. number_then 3 _ (λ d. end_then 4 _)))

out_settled : Settled 1 out_at
unfolding out_at
out_settled = name_then 1 _ (λ a. name_then 2 _ (λ b. number_then 3 _ (λ d. end_then 4 _)))

clock_settled : Settled 1 clock_at
unfolding clock_at
clock_settled = name_then 1 _ (λ a. name_then 2 _ (λ b. end_then 3 _))

cdap_settled : Settled 1 cdap_at
unfolding cdap_at
cdap_settled = name_then 1 _ (λ a. name_then 2 _ (λ b. bytes_then 3 _ (λ d. end_then 4 _)))

rib_settled : Settled 1 rib_at
unfolding rib_at
rib_settled = name_then 1 _ (λ a. name_then 2 _ (λ b. path_then a b))

ledger_settled : Settled 1 ledger_at
unfolding ledger_at
ledger_settled = name_then 1 _ (λ a. name_then 2 _ (λ b. end_then 3 _))

round_settled : Settled 1 round_at
unfolding round_at
round_settled = end_then 1 _

retire_settled : Settled 1 retire_at
unfolding retire_at
retire_settled = name_then 1 _ (λ a. end_then 2 _)

journal_settled : Settled 1 journal_at
unfolding journal_at
journal_settled = name_then 1 _ (λ a. end_then 2 _)

-- ---- lines
abbrev Words : Type 0
Words = List ℕ → Result Event LineError

-- the error of the text behind a word is that of each text with the same fields up to the one that it names
record Stays (q : Words) : Type 0 where
  same : (k : ℕ) (a b : List ℕ) (e : LineError) → SameFields k a b → field_of e < 1 + k → q a ≡ Err e → q b ≡ Err e

either : (b : Bool) (p q : Words) → Settled 1 p → Stays q → Stays (λ (t : List ℕ). cond b (p t) (q t))
either true p q h g = record { same = h.same }
either false p q h g = g

unknown : Stays (λ (t : List ℕ). Err errors.UnknownWord)
unknown = record { same = λ k a b e alike lt h. h }

step_stays : (word : List ℕ) → Stays (λ (t : List ℕ). step_word_at word t)
unfolding step_word_at
step_stays word = either _ _ _ tick_settled (either _ _ _ round_settled (either _ _ _ retire_settled (either _ _ _ journal_settled unknown)))

dif_stays : (word : List ℕ) → Stays (λ (t : List ℕ). dif_word_at word t)
unfolding dif_word_at
dif_stays word =
    either _ _ _ publish_settled (either _ _ _ enrol_settled (either _ _ _ member_settled (either _ _ _ in_settled (either _ _ _ out_settled
    (either _ _ _ clock_settled (either _ _ _ cdap_settled (either _ _ _ rib_settled (either _ _ _ ledger_settled (step_stays word)))))))))

wire_stays : (word : List ℕ) → Stays (λ (t : List ℕ). wire_word_at word t)
unfolding wire_word_at
wire_stays word = either _ _ _ lose_settled (either _ _ _ repeat_settled (either _ _ _ hold_settled (either _ _ _ cut_settled (either _ _ _ mend_settled (dif_stays word)))))

word_stays : (word : List ℕ) → Stays (λ (t : List ℕ). word_at word t)
unfolding word_at
word_stays word =
    either _ _ _ register_settled (either _ _ _ unregister_settled (either _ _ _ alloc_settled (either _ _ _ accept_settled (either _ _ _ send_settled
    (either _ _ _ read_settled (either _ _ _ state_settled (either _ _ _ free_settled (wire_stays word))))))))

abbrev Read : Type 0
Read = Result (Option Event) LineError

abbrev some_event : Event → Read
some_event event = Ok (Some event)

abbrev failed : LineError → Result Event LineError
failed e = Err e

abbrev refused : LineError → Read
refused e = Err e

abbrev told : Result Event LineError → Read
told r = r >>= some_event

told_up : (r : Result Event LineError) (e : LineError) → told r ≡ refused e → r ≡ failed e
told_up (Ok event) e h = no_err (Some event) e h
told_up (Err d) e h = ap failed (err_same d e h)

abbrev remarked : Cut → Bool → Read
remarked w b = cond b (Ok None) (told (word_at w.0 w.1))

abbrev marked : Cut → Bool
marked w = eqb (slice_index w.0 0) 35

by_remark : (k : ℕ) (w : Cut) (rest : List ℕ) (b : Bool) (e : LineError) → SameFields k w.1 rest → field_of e < suc k → remarked w b ≡ refused e → remarked (w.0, rest) b ≡ refused e
by_remark k w rest true e alike lt h = h
by_remark k w rest false e alike lt h = ap told ((word_stays w.0).same k w.1 rest e alike (omega (arith, lt)) (told_up (word_at w.0 w.1) e h))

by_field : (k : ℕ) (o p : Option Cut) (e : LineError) → BothHave (λ x y. SameFields k x y) o p → field_of e < suc k → event_or_none o ≡ refused e → event_or_none p ≡ refused e
by_field k None None e alike lt h = h
by_field k None (Some v) e alike lt h = absurd alike
by_field k (Some w) None e alike lt h = absurd alike
by_field k (Some w) (Some v) e alike lt h = subst (λ (word : List ℕ). event_or_none (Some (word, v.1)) ≡ refused e) alike.0 (by_remark k w v.1 (marked w) e alike.1 lt h)

pub line_settled : (text other : List ℕ) (e : LineError) (k : ℕ) → line_at text ≡ Err e → field_of e < k → SameFields k text other → line_at other ≡ Err e
unfolding line_at
line_settled text other e zero h lt alike = absurd (omega (arith, lt))
line_settled text other e (suc k) h lt alike = by_field k (next_of text) (next_of other) e alike lt h

-- ---- no field in front
turn_field : (k : ℕ) → ((a b : List ℕ) → SameFields k a b → SameFields k b a) → (o p : Option Cut) → BothHave (λ x y. SameFields k x y) o p → BothHave (λ x y. SameFields k x y) p o
turn_field k back None None h = tt
turn_field k back None (Some v) h = h
turn_field k back (Some w) None h = h
turn_field k back (Some w) (Some v) h = (sym h.0, back w.1 v.1 h.1)

turned : (k : ℕ) (a b : List ℕ) → SameFields k a b → SameFields k b a
turned zero a b h = tt
turned (suc k) a b h = turn_field k (turned k) (next_of a) (next_of b) h

pub one_error : (text : List ℕ) (d e : LineError) → line_at text ≡ Err d → line_at text ≡ Err e → d ≡ e
one_error text d e h k = err_same d e (sym h ∙ k)

at_or_behind : (m n : ℕ) → (n < m → ⊥) → m ≤ n
at_or_behind m n h = grind (arith, h)

pub none_in_front : (text other : List ℕ) (e d : LineError) → line_at text ≡ Err e → SameFields (field_of e) text other → line_at other ≡ Err d → field_of e ≤ field_of d
none_in_front text other e d h alike k = at_or_behind (field_of e) (field_of d) (λ lt.
    let same : d ≡ e = one_error text d e (line_settled other text d (field_of e) k lt (turned (field_of e) text other alike)) h in
    omega (arith, lt, ap (λ (x : LineError). field_of x) same))
