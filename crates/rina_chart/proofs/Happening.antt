-- What happens, tick by tick, where ticks at which nothing does are passed over.
use Rattle.std.proofs.Common.{◌≡◌, ◌≢◌, ℕ, zero, suc, ◌+◌, ◌-◌, ◌<◌, ◌≤◌, List, [], ◌∷◌, ◌++◌, length, drop, take, get_or, Option, Some, None, refl, sym, ap, ◌∙◌, append_assoc, arith}
use Rattle.std.specs.List.{cons_option, filter_map, flat_map, range_with_len}
use Rattle.std.proofs.lemmas.Bool.{ne_eqb}
use Rattle.std.proofs.lemmas.List.{append-nil, drop_more, take_more}
use Rattle.std.proofs.lemmas.List.Concat.{flat_map-cons}
use Rattle.std.proofs.lemmas.List.Elements.{filter_map-append}
use Rattle.rina_chart.specs.declared.event.Event.{Event}
use Rattle.rina_chart.specs.declared.mark.Mark.{Mark}
use Rattle.rina_chart.specs.declared.sdu.Sdu.{Sdu}
use Rattle.rina_chart.specs.Events.{event_at, events_at, failed_at}
use Rattle.rina_chart.specs.Sdus.{last_tick}

-- Items

added : {X : Type 0} (o : Option X) (front rest : List X) → (front ++ cons_option o []) ++ rest ≡ front ++ cons_option o rest
added None front rest = ap (λ (xs : List _). xs ++ rest) (append-nil front)
added (Some x) front rest = append_assoc front (x ∷ []) rest

-- one more item was looked at
pub item_on : {X Y : Type 0} (h : X → Option Y) (xs : List X) (i : ℕ) (x : X) (o : Option Y) (front total : List Y) → i < length xs → x ≡ get_or xs i x → o ≡ h x → front ++ filter_map h (drop i xs) ≡ total
    → (front ++ cons_option o []) ++ filter_map h (drop (i + 1) xs) ≡ total
item_on {X} {Y} h xs i x o front total lt is shows so_far =
    let rest = filter_map h (drop (i + 1) xs) in
    let at : drop i xs ≡ x ∷ drop (i + 1) xs = drop_more xs i x lt ∙ ap (λ (y : X). y ∷ drop (i + 1) xs) (sym is) in
    let one : filter_map h (drop i xs) ≡ cons_option o rest = ap (filter_map h) at ∙ sym (ap (λ (p : Option Y). cons_option p rest) shows) in
    added o front rest ∙ sym (ap (λ (ys : List Y). front ++ ys) one) ∙ so_far

-- one more item gives nothing
no_more : {X Y : Type 0} (h : X → Option Y) (xs : List X) (i : ℕ) (d : X) → i < length xs → h (get_or xs i d) ≡ None → filter_map h (take i xs) ≡ [] → filter_map h (take (i + 1) xs) ≡ []
no_more {X} {Y} h xs i d lt none so_far =
    let x = get_or xs i d in
    ap (filter_map h) (take_more xs i d lt) ∙ filter_map-append h (take i xs) (x ∷ []) ∙ ap (λ (ys : List Y). ys ++ filter_map h (x ∷ [])) so_far ∙ ap (λ (o : Option Y). cons_option o []) none

event_none : (k : ℕ) (s : Sdu) → last_tick s ≢ k → s.sent ≢ k → event_at k s ≡ None
unfolding event_at
event_none k s last sent = rw (ne_eqb (last_tick s) k last, ne_eqb s.sent k sent) refl

failed_none : (k : ℕ) (m : Mark) → m.failed.at ≢ k → failed_at k m ≡ None
unfolding failed_at
failed_none k m ne = rw (ne_eqb m.failed.at k ne) refl

-- a tick before the earlier of two is neither
not_yet : (at tick next k : ℕ) → (at ≤ tick → next ≤ tick) → at ≤ k → k < next → tick ≢ k
not_yet at tick next k first low high e =
    let le : next ≤ tick = first (omega (arith, e, low)) in
    omega (arith, le, e, high)

-- one more SDU was looked at, to which nothing happens before the next tick
pub sdu_silent : (ss : List Sdu) (i : ℕ) (d : Sdu) (at last until next before : ℕ) → i < length ss → last ≡ last_tick (get_or ss i d)
    → (at ≤ (get_or ss i d).sent → until ≤ (get_or ss i d).sent) → until ≤ before → (at ≤ last → next ≤ last) → next ≤ until
    → ((k : ℕ) → at ≤ k → k < before → filter_map (event_at k) (take i ss) ≡ []) → (k : ℕ) → at ≤ k → k < next → filter_map (event_at k) (take (i + 1) ss) ≡ []
sdu_silent ss i d at last until next before lt is_last first earlier ends le so_far k low high =
    let s = get_or ss i d in
    let soon : k < until = omega (arith, le, high) in
    let not_last : last ≢ k = not_yet at last next k ends low high in
    no_more (event_at k) ss i d lt (event_none k s (λ e. not_last (is_last ∙ e)) (not_yet at s.sent until k first low soon)) (so_far k low (omega (arith, soon, earlier)))

-- one more failure was looked at
pub mark_silent : (ms : List Mark) (i : ℕ) (d : Mark) (at next before : ℕ) → i < length ms → (at ≤ (get_or ms i d).failed.at → next ≤ (get_or ms i d).failed.at) → next ≤ before
    → ((k : ℕ) → at ≤ k → k < before → filter_map (failed_at k) (take i ms) ≡ []) → (k : ℕ) → at ≤ k → k < next → filter_map (failed_at k) (take (i + 1) ms) ≡ []
mark_silent ms i d at next before lt first earlier so_far k low high =
    let m = get_or ms i d in
    no_more (failed_at k) ms i d lt (failed_none k m (not_yet at m.failed.at next k first low high)) (so_far k low (omega (arith, high, earlier)))

-- nothing happens at a tick before both
pub both_silent : (ms : List Mark) (ss : List Sdu) (at until next : ℕ) → next ≤ until → ((k : ℕ) → at ≤ k → k < until → filter_map (failed_at k) ms ≡ []) → ((k : ℕ) → at ≤ k → k < next → filter_map (event_at k) ss ≡ [])
    → (k : ℕ) → at ≤ k → k < next → events_at ms ss k ≡ []
unfolding events_at
both_silent ms ss at until next le marks sdus k low high =
    ap (λ (es : List Event). es ++ filter_map (event_at k) ss) (marks k low (omega (arith, le, high))) ∙ sdus k low high

-- Ticks

-- ticks at which there is nothing may be passed over
passed : {X : Type 0} (f : ℕ → List X) (n a m : ℕ) → ((k : ℕ) → a ≤ k → k < a + n → f k ≡ []) → flat_map f (range_with_len a (n + m)) ≡ flat_map f (range_with_len (a + n) m)
passed f zero a m silent =
    let none : 0 + m ≡ m = omega arith in
    let here : a + 0 ≡ a = omega arith in
    ap (λ (k : ℕ). flat_map f (range_with_len a k)) none ∙ sym (ap (λ (b : ℕ). flat_map f (range_with_len b m)) here)
passed {X} f (suc n) a m silent =
    let one : suc n + m ≡ suc (n + m) = omega arith in
    let here : f a ≡ [] = silent a (omega arith) (omega arith) in
    let rest = range_with_len (a + 1) (n + m) in
    let there : a + 1 + n ≡ a + suc n = omega arith in
    ap (λ (k : ℕ). flat_map f (range_with_len a k)) one ∙ flat_map-cons f a rest ∙ ap (λ (xs : List X). xs ++ flat_map f rest) here
    ∙ passed f n (a + 1) m (λ k low high. silent k (omega (arith, low)) (omega (arith, high))) ∙ ap (λ (b : ℕ). flat_map f (range_with_len b m)) there

passed_to : {X : Type 0} (f : ℕ → List X) (a b last : ℕ) → a ≤ b → b ≤ last → ((k : ℕ) → a ≤ k → k < b → f k ≡ []) → flat_map f (range_with_len a (last - a)) ≡ flat_map f (range_with_len b (last - b))
passed_to f a b last low high silent =
    let both : last - a ≡ (b - a) + (last - b) = omega arith in
    let there : a + (b - a) ≡ b = omega arith in
    ap (λ (k : ℕ). flat_map f (range_with_len a k)) both ∙ passed f (b - a) a (last - b) (λ k le lt. silent k le (omega (arith, lt, there))) ∙ ap (λ (c : ℕ). flat_map f (range_with_len c (last - b))) there

one_tick : {X : Type 0} (f : ℕ → List X) (at last : ℕ) → at < last → flat_map f (range_with_len at (last - at)) ≡ f at ++ flat_map f (range_with_len (at + 1) (last - (at + 1)))
one_tick f at last lt =
    let one : last - at ≡ suc (last - (at + 1)) = omega arith in
    ap (λ (k : ℕ). flat_map f (range_with_len at k)) one ∙ flat_map-cons f at (range_with_len (at + 1) (last - (at + 1)))

-- nothing happens before the first tick
pub events_begin : (ms : List Mark) (ss : List Sdu) (b last : ℕ) → b ≤ last → ((k : ℕ) → 0 ≤ k → k < b → events_at ms ss k ≡ []) → flat_map (events_at ms ss) (range_with_len b (last - b)) ≡ flat_map (events_at ms ss) (range_with_len 0 last)
events_begin ms ss b last le silent =
    let whole : last - 0 ≡ last = omega arith in
    sym (passed_to (events_at ms ss) 0 b last (omega arith) le silent) ∙ ap (λ (k : ℕ). flat_map (events_at ms ss) (range_with_len 0 k)) whole

-- what happens at one more tick was added, and the ticks up to the next were passed over
pub events_on : (ms : List Mark) (ss : List Sdu) (at b last : ℕ) (front total : List Event) → at < last → at + 1 ≤ b → b ≤ last → ((k : ℕ) → at + 1 ≤ k → k < b → events_at ms ss k ≡ [])
    → front ++ flat_map (events_at ms ss) (range_with_len at (last - at)) ≡ total → (front ++ events_at ms ss at) ++ flat_map (events_at ms ss) (range_with_len b (last - b)) ≡ total
events_on ms ss at b last front total lt low high silent so_far =
    let f = events_at ms ss in
    append_assoc front (f at) (flat_map f (range_with_len b (last - b)))
    ∙ ap (λ (es : List Event). front ++ (f at ++ es)) (sym (passed_to f (at + 1) b last low high silent))
    ∙ ap (λ (es : List Event). front ++ es) (sym (one_tick f at last lt)) ∙ so_far

-- the last tick was passed
pub events_done : (ms : List Mark) (ss : List Sdu) (at last : ℕ) (front total : List Event) → last ≤ at → front ++ flat_map (events_at ms ss) (range_with_len at (last - at)) ≡ total → front ≡ total
events_done ms ss at last front total le so_far =
    let none : last - at ≡ 0 = omega arith in
    sym (append-nil front) ∙ sym (ap (λ (k : ℕ). front ++ flat_map (events_at ms ss) (range_with_len at k)) none) ∙ so_far
