-- Each SDU that is shown has one row at its last tick: it arrived, or it did not.
use Rattle.std.proofs.Common.{◌≡◌, ℕ, zero, suc, ◌+◌, ◌<◌, ◌≤◌, ◌==◌, ◌&&◌, Bool, true, false, cond, max, List, [], ◌∷◌, ◌++◌, Option, Some, None, is_some, is_none, refl, sym, ap, ◌∙◌, inl, inr, arith}
use Rattle.std.specs.List.{cons_option, count_by, filter, filter_map, flat_map, range_with_len}
use Rattle.std.proofs.lemmas.Bool.Decides.{eqb_tells}
use Rattle.std.proofs.lemmas.List.Concat.{flat_map-cons}
use Rattle.std.proofs.lemmas.List.Sums.{sum_by-cons, sum_by-append}
use Rattle.rina_chart.specs.declared.event.Event.{Event}
use Rattle.rina_chart.specs.declared.event.Event.TheVariants as events
use Rattle.rina_chart.specs.declared.mark.Mark.{Mark}
use Rattle.rina_chart.specs.declared.sdu.Sdu.{Sdu}
use Rattle.rina_chart.specs.declared.window.Window.{Window}
use Rattle.rina_chart.specs.Events.{ended, event_at, events_at, events_in, failed_at, is_got, is_not_got, is_shown, last_mark, last_of, shown_sdus}
use Rattle.rina_chart.specs.Sdus.{last_tick, latest}

-- rows of one kind: none for a failure, none for a sending, and at the last tick of an SDU where `q` holds of it
record IsKind (p : Event → Bool) (q : Sdu → Bool) : Type 0 where
  failed : (m : Mark) → p (events.Failed m) ≡ false
  sent : (s : Sdu) → p (events.Sent s) ≡ false
  ended : (s : Sdu) → p (ended s) ≡ q s

one : (p : Event → Bool) (e : Event) (rest : List Event) → count_by p (e ∷ rest) ≡ cond (p e) 1 0 + count_by p rest
one p e rest = sum_by-cons (λ (x : Event). cond (p x) 1 0) e rest

both : (p : Event → Bool) (front rest : List Event) → count_by p (front ++ rest) ≡ count_by p front + count_by p rest
both p front rest = sum_by-append (λ (x : Event). cond (p x) 1 0) front rest

-- the rows of one tick
abbrev rows_of : (Event → Bool) → Option Event → ℕ
rows_of p o = count_by p (cons_option o [])

split : (p : Event → Bool) (o : Option Event) (rest : List Event) → count_by p (cons_option o rest) ≡ rows_of p o + count_by p rest
split p None rest = omega arith
split p (Some e) rest =
    let a = one p e rest in
    let b : count_by p (e ∷ []) ≡ cond (p e) 1 0 + 0 = one p e [] in
    omega (arith, a, b)

no_rows : (p : Event → Bool) (e : Event) → p e ≡ false → rows_of p (Some e) ≡ 0
no_rows p e none = one p e [] ∙ ap (λ (b : Bool). cond b 1 0 + 0) none

-- failures

no_failure : (p : Event → Bool) (q : Sdu → Bool) (k : IsKind p q) (t : ℕ) (m : Mark) → rows_of p (failed_at t m) ≡ 0
unfolding failed_at
no_failure p q k t m = elim (m.failed.at == t) as (λ b. rows_of p (cond b (Some (events.Failed m)) None) ≡ 0) [ true ↦ no_rows p (events.Failed m) (k.failed m) | false ↦ refl ]

no_failures : (p : Event → Bool) (q : Sdu → Bool) (k : IsKind p q) (t : ℕ) (ms : List Mark) → count_by p (filter_map (failed_at t) ms) ≡ 0
no_failures p q k t [] = refl
no_failures p q k t (m ∷ ms) =
    let a = split p (failed_at t m) (filter_map (failed_at t) ms) in
    let b = no_failure p q k t m in
    let c = no_failures p q k t ms in
    omega (arith, a, b, c)

-- one SDU

ended_row : (p : Event → Bool) (q : Sdu → Bool) (k : IsKind p q) (s : Sdu) → rows_of p (Some (ended s)) ≡ cond (q s) 1 0
ended_row p q k s = one p (ended s) [] ∙ ap (λ (v : Bool). cond v 1 0 + 0) (k.ended s) ∙ omega arith

at_last : (p : Event → Bool) (q : Sdu → Bool) (k : IsKind p q) (s : Sdu) (t : ℕ) → last_tick s == t ≡ true → rows_of p (event_at t s) ≡ cond (q s) 1 0
unfolding event_at
at_last p q k s t same = ap (λ (b : Bool). rows_of p (cond b (Some (ended s)) (cond (s.sent == t) (Some (events.Sent s)) None))) same ∙ ended_row p q k s

sent_row : (p : Event → Bool) (q : Sdu → Bool) (k : IsKind p q) (s : Sdu) (b : Bool) → rows_of p (cond b (Some (events.Sent s)) None) ≡ 0
sent_row p q k s true = no_rows p (events.Sent s) (k.sent s)
sent_row p q k s false = refl

before_last : (p : Event → Bool) (q : Sdu → Bool) (k : IsKind p q) (s : Sdu) (t : ℕ) → last_tick s == t ≡ false → rows_of p (event_at t s) ≡ 0
unfolding event_at
before_last p q k s t other = ap (λ (b : Bool). rows_of p (cond b (Some (ended s)) (cond (s.sent == t) (Some (events.Sent s)) None))) other ∙ sent_row p q k s (s.sent == t)

-- the rows of one SDU at some ticks
abbrev rows_at : (Event → Bool) → Sdu → List ℕ → ℕ
rows_at p s ticks = count_by p (flat_map (λ (t : ℕ). cons_option (event_at t s) []) ticks)

tick_more : (p : Event → Bool) (s : Sdu) (t : ℕ) (ticks : List ℕ) → rows_at p s (t ∷ ticks) ≡ rows_of p (event_at t s) + rows_at p s ticks
tick_more p s t ticks = ap (count_by p) (flat_map-cons (λ (u : ℕ). cons_option (event_at u s) []) t ticks) ∙ both p (cons_option (event_at t s) []) (flat_map (λ (u : ℕ). cons_option (event_at u s) []) ticks)

none_behind : (p : Event → Bool) (q : Sdu → Bool) (k : IsKind p q) (s : Sdu) (n a : ℕ) → last_tick s < a → rows_at p s (range_with_len a n) ≡ 0
none_behind p q k s zero a lt = refl
none_behind p q k s (suc n) a lt = elim (eqb_tells (last_tick s) a) [
  | inl t ↦ let same = t.1 in absurd (omega (arith, same, lt))
  | inr f ↦
      let here = before_last p q k s a f.0 in
      let rest = none_behind p q k s n (a + 1) (omega (arith, lt)) in
      let more = tick_more p s a (range_with_len (a + 1) n) in
      omega (arith, here, rest, more)
]

one_there : (p : Event → Bool) (q : Sdu → Bool) (k : IsKind p q) (s : Sdu) (n a : ℕ) → a ≤ last_tick s → last_tick s < a + n → rows_at p s (range_with_len a n) ≡ cond (q s) 1 0
one_there p q k s zero a low high = absurd (omega (arith, low, high))
one_there p q k s (suc n) a low high = elim (eqb_tells (last_tick s) a) [
  | inl t ↦
      let same = t.1 in
      let here = at_last p q k s a t.0 in
      let rest = none_behind p q k s n (a + 1) (omega (arith, same)) in
      let more = tick_more p s a (range_with_len (a + 1) n) in
      omega (arith, here, rest, more)
  | inr f ↦
      let ne = f.1 in
      let here = before_last p q k s a f.0 in
      let rest = one_there p q k s n (a + 1) (omega (arith, low, ne)) (omega (arith, high)) in
      let more = tick_more p s a (range_with_len (a + 1) n) in
      omega (arith, here, rest, more)
]

-- all SDUs

abbrev all_at : (Event → Bool) → List Sdu → List ℕ → ℕ
all_at p ss ticks = count_by p (flat_map (λ (t : ℕ). filter_map (event_at t) ss) ticks)

none_of : (p : Event → Bool) (ticks : List ℕ) → all_at p [] ticks ≡ 0
none_of p [] = refl
none_of p (t ∷ ticks) = ap (count_by p) (flat_map-cons (λ (u : ℕ). filter_map (event_at u) []) t ticks) ∙ none_of p ticks

more_of : (p : Event → Bool) (s : Sdu) (ss : List Sdu) (ticks : List ℕ) → all_at p (s ∷ ss) ticks ≡ rows_at p s ticks + all_at p ss ticks
more_of p s ss [] = refl
more_of p s ss (t ∷ ticks) =
    let whole = ap (count_by p) (flat_map-cons (λ (u : ℕ). filter_map (event_at u) (s ∷ ss)) t ticks) ∙ both p (filter_map (event_at t) (s ∷ ss)) (flat_map (λ (u : ℕ). filter_map (event_at u) (s ∷ ss)) ticks) in
    let others = ap (count_by p) (flat_map-cons (λ (u : ℕ). filter_map (event_at u) ss) t ticks) ∙ both p (filter_map (event_at t) ss) (flat_map (λ (u : ℕ). filter_map (event_at u) ss) ticks) in
    let first = split p (event_at t s) (filter_map (event_at t) ss) in
    let more = tick_more p s t ticks in
    let rest = more_of p s ss ticks in
    omega (arith, whole, others, first, more, rest)

abbrev AreBelow : ℕ → List Sdu → Type 0
AreBelow n [] = Unit {0}
AreBelow n (s ∷ ss) = (last_tick s < n) × AreBelow n ss

one_sdu : (q : Sdu → Bool) (s : Sdu) (rest : List Sdu) → count_by q (s ∷ rest) ≡ cond (q s) 1 0 + count_by q rest
one_sdu q s rest = sum_by-cons (λ (x : Sdu). cond (q x) 1 0) s rest

all_there : (p : Event → Bool) (q : Sdu → Bool) (k : IsKind p q) (n : ℕ) (ss : List Sdu) → AreBelow n ss → all_at p ss (range_with_len 0 n) ≡ count_by q ss
all_there p q k n [] below = none_of p (range_with_len 0 n)
all_there p q k n (s ∷ ss) below =
    let lt = below.0 in
    let more = more_of p s ss (range_with_len 0 n) in
    let here = one_there p q k s n 0 (omega arith) (omega (arith, lt)) in
    let rest = all_there p q k n ss below.1 in
    let count = one_sdu q s ss in
    omega (arith, more, here, rest, count)

-- failures add no such rows
with_failures : (p : Event → Bool) (q : Sdu → Bool) (k : IsKind p q) (ms : List Mark) (ss : List Sdu) (ticks : List ℕ) → count_by p (flat_map (events_at ms ss) ticks) ≡ all_at p ss ticks
unfolding events_at
with_failures p q k ms ss [] = refl
with_failures p q k ms ss (t ∷ ticks) =
    let whole = ap (count_by p) (flat_map-cons (events_at ms ss) t ticks) ∙ both p (events_at ms ss t) (flat_map (events_at ms ss) ticks) in
    let here = both p (filter_map (failed_at t) ms) (filter_map (event_at t) ss) in
    let none = no_failures p q k t ms in
    let others = ap (count_by p) (flat_map-cons (λ (u : ℕ). filter_map (event_at u) ss) t ticks) ∙ both p (filter_map (event_at t) ss) (flat_map (λ (u : ℕ). filter_map (event_at u) ss) ticks) in
    let rest = with_failures p q k ms ss ticks in
    omega (arith, whole, here, none, others, rest)

-- the last tick

latest_from : (last : ℕ) (ss : List Sdu) → last ≤ latest last ss
latest_from last [] = omega arith
latest_from last (s ∷ ss) = let on = latest_from (max last (last_tick s)) ss in omega (arith, on)

marks_from : (last : ℕ) (ms : List Mark) → last ≤ last_mark last ms
marks_from last [] = omega arith
marks_from last (m ∷ ms) = let on = marks_from (max last m.failed.at) ms in omega (arith, on)

below_latest : (last n : ℕ) (ss : List Sdu) → latest last ss < n → AreBelow n ss
below_latest last n [] lt = tt
below_latest last n (s ∷ ss) lt =
    let on = latest_from (max last (last_tick s)) ss in
    (omega (arith, on, lt), below_latest (max last (last_tick s)) n ss lt)

rows_are : (p : Event → Bool) (q : Sdu → Bool) (k : IsKind p q) (ms : List Mark) (ss : List Sdu) → count_by p (events_in ms ss) ≡ count_by q ss
rows_are p q k ms ss =
    let le = marks_from (latest 0 ss) ms in
    with_failures p q k ms ss (range_with_len 0 (last_of ms ss + 1)) ∙ all_there p q k (last_of ms ss + 1) ss (below_latest 0 (last_of ms ss + 1) ss (omega (arith, le)))

-- SDUs that are shown

shown_by : (b : Bool) (q : Sdu → Bool) (s : Sdu) (rest : List Sdu) → count_by q (cond b (s ∷ rest) rest) ≡ cond (b && q s) 1 0 + count_by q rest
shown_by true q s rest = one_sdu q s rest
shown_by false q s rest = omega arith

shown_count : (r q : Sdu → Bool) (ss : List Sdu) → count_by q (filter r ss) ≡ count_by (λ (s : Sdu). r s && q s) ss
shown_count r q [] = refl
shown_count r q (s ∷ ss) = shown_by (r s) q s (filter r ss) ∙ ap (λ n. cond (r s && q s) 1 0 + n) (shown_count r q ss) ∙ sym (one_sdu (λ (x : Sdu). r x && q x) s ss)

-- by what is told of an SDU

got_by : (s : Sdu) (got : Option ℕ) → s.got ≡ got → is_got (ended s) ≡ is_some s.got
got_by s None e = rw e refl
got_by s (Some t) e = rw e refl

not_got_by : (s : Sdu) (got : Option ℕ) → s.got ≡ got → is_not_got (ended s) ≡ is_none s.got
not_got_by s None e = rw e refl
not_got_by s (Some t) e = rw e refl

pub got_rows : (window : Option Window) (ms : List Mark) (ss : List Sdu) → count_by is_got (events_in ms (shown_sdus window ss)) ≡ count_by (λ (s : Sdu). is_shown window s && is_some s.got) ss
got_rows window ms ss =
    rows_are is_got (λ (s : Sdu). is_some s.got) (record { failed = λ m. refl; sent = λ s. refl; ended = λ s. got_by s s.got refl }) ms (shown_sdus window ss) ∙ shown_count (is_shown window) (λ (s : Sdu). is_some s.got) ss

pub not_got_rows : (window : Option Window) (ms : List Mark) (ss : List Sdu) → count_by is_not_got (events_in ms (shown_sdus window ss)) ≡ count_by (λ (s : Sdu). is_shown window s && is_none s.got) ss
not_got_rows window ms ss =
    rows_are is_not_got (λ (s : Sdu). is_none s.got) (record { failed = λ m. refl; sent = λ s. refl; ended = λ s. not_got_by s s.got refl }) ms (shown_sdus window ss) ∙ shown_count (is_shown window) (λ (s : Sdu). is_none s.got) ss
