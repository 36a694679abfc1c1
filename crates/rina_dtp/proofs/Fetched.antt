-- Pieces that were given up are fetched one by one.
use Rattle.std.proofs.Common.{◌≡◌, ◌≢◌, ℕ, zero, suc, ◌+◌, ◌-◌, ◌<◌, ◌≤◌, List, [], ◌∷◌, ◌++◌, length, filter, Bool, true, false, cond, eqb, ltb, Option, Some, None, refl, sym, ◌∙◌, ap, subst, arith, inl, inr}
use Rattle.std.proofs.lemmas.Bool.{ltb-true, ltb-false, ne_eqb, eq-eqb, cases_eq, false≢true}
use Rattle.rina_delim.specs.declared.joiner.Run.{Run}
use Rattle.rina_dtp.specs.declared.gap.Gap.{Gap}
use Rattle.rina_dtp.specs.declared.gap.Lost.{Lost}
use Rattle.rina_base.specs.declared.cause.Cause.TheVariants as cause
use Rattle.rina_dtp.specs.declared.accepted.Accepted.{Accepted}
use Rattle.rina_dtp.specs.declared.source.Source.{Source}
use Rattle.rina_dtp.specs.Fetching.{TakesFirst, first_lost, after_lost, after_first, gathered_by, gathered, FindsHeld, SameShape, GoesOn, ChangesKept, KeepsNoMore, StandsAsBefore}
use Rattle.rina_dtp.specs.Lost.{numbers_from, lost_with}
use Rattle.rina_dtp.specs.Receiving.{Receiving, present_at, numbers_to, lost_in, run_numbers, held_in, held_numbers, kept_numbers, end_cause, broken_with}
use Rattle.rina_dtp.specs.Shelf.{Place, Shelved, holds, without}
use Rattle.rina_dtp.specs.Source.{key_at}
use Rattle.rina_dtp.specs.Stands.{Stands}
use Rattle.rina_dtp.proofs.Came.{present_same}
use Rattle.rina_law.specs.Constants.{Constants}
use Rattle.rina_law.specs.Lists.{In}
use Rattle.rina_law.specs.Pieces.{Joiner}
use Rattle.rina_law.specs.Receiver.{Receiver, is_present}
use Rattle.std.proofs.lemmas.List.{append-nil}
use Rattle.std.proofs.lemmas.Option.{none-some}
use Rattle.rina_dtp.proofs.Placed.{holds_without, length-without}

pub length-numbers_from : (n count : ℕ) → length (numbers_from n count) ≡ count
length-numbers_from n zero = refl
length-numbers_from n (suc count) = ap suc (length-numbers_from (n + 1) count)

pub run_length : (run : Run) → length (run_numbers (Some run)) ≡ run.last - run.from + 1
run_length run = omega (arith, length-numbers_from (run.from + 1) (run.last - run.from))

-- a run of numbers without the first
shorter : (from last : ℕ) → numbers_to from last ≡ from ∷ cond (ltb from last) (numbers_to (from + 1) last) []
shorter from last = by_test (ltb from last) refl
  where
    by_test : (b : Bool) → ltb from last ≡ b → numbers_to from last ≡ from ∷ cond b (numbers_to (from + 1) last) []
    by_test true e = (let lt = ltb-true from last e in let more : last - from ≡ suc (last - (from + 1)) = omega arith in rw more refl)
    by_test false e = (let le = ltb-false from last e in let none : last - from ≡ 0 = omega arith in rw none refl)

pub first_of_run : (run : Run) → run_numbers (Some run) ≡ run.from ∷ run_numbers (after_first run)
first_of_run run = shorter run.from run.last ∙ by_test (ltb run.from run.last)
  where
    by_test : (b : Bool) → run.from ∷ cond b (numbers_to (run.from + 1) run.last) [] ≡ run.from ∷ run_numbers (cond b (Some (record run { from = run.from + 1 })) None)
    by_test true = refl
    by_test false = refl

-- gaps without the first piece
pub takes_lost : (gs : List Gap) → TakesFirst (first_lost gs) (lost_in gs) (lost_in (after_lost gs))
takes_lost [] = (refl, refl)
takes_lost (g ∷ gs) = ap (λ (ns : List ℕ). lost_with g.missing ns ++ lost_in gs) (shorter g.from g.last) ∙ by_test (ltb g.from g.last)
  where
    by_test : (b : Bool) → lost_with g.missing (g.from ∷ cond b (numbers_to (g.from + 1) g.last) []) ++ lost_in gs ≡ record { number = g.from; missing = g.missing } ∷ lost_in (cond b (record g { from = g.from + 1 } ∷ gs) gs)
    by_test true = refl
    by_test false = refl

-- Numbers that are held

none_in : (p : ℕ → Bool) (n count : ℕ) → ((i : ℕ) → n ≤ i → i < n + count → p i ≡ false) → filter p (numbers_from n count) ≡ []
none_in p n zero h = refl
none_in p n (suc count) h = (let f : p n ≡ false = h n (omega arith) (omega arith) in rw f (none_in p (n + 1) count (λ i lo hi. h i (omega arith) (omega arith))))

same_in : (p q : ℕ → Bool) (n count : ℕ) → ((i : ℕ) → n ≤ i → p i ≡ q i) → filter p (numbers_from n count) ≡ filter q (numbers_from n count)
same_in p q n zero h = refl
same_in p q n (suc count) h =
    let rest = same_in p q (n + 1) count (λ i lo. h i (omega arith)) in
    let here = h n (omega arith) in
    rw (here, rest) refl

-- the first number that passes p, where q leaves that one out alone
first_in : (p q : ℕ → Bool) (k n count : ℕ) → n ≤ k → k < n + count → p k ≡ true → ((i : ℕ) → n ≤ i → i < k → p i ≡ false) → q k ≡ false → ((i : ℕ) → i ≢ k → q i ≡ p i) → filter p (numbers_from n count) ≡ k ∷ filter q (numbers_from n count)
first_in p q k n zero lo hi there none out same = absurd (omega arith)
first_in p q k n (suc count) lo hi there none out same =
    elim (cases_eq n k) [
      | inl is ↦
          (let pn : p n ≡ true = ap p is ∙ there in
          let qn : q n ≡ false = ap q is ∙ out in
          let rest : filter p (numbers_from (n + 1) count) ≡ filter q (numbers_from (n + 1) count) = same_in p q (n + 1) count (λ i le. sym (same i (λ e. omega arith))) in
          rw (pn, qn) (ap (λ (ns : List ℕ). n ∷ ns) rest ∙ ap (λ x. x ∷ filter q (numbers_from (n + 1) count)) is))
      | inr other ↦
          (let pn : p n ≡ false = none n (omega arith) (omega arith) in
          let qn : q n ≡ false = same n other ∙ pn in
          rw (pn, qn) (first_in p q k (n + 1) count (omega arith) (omega arith) there (λ i le lt. none i (omega arith) lt) out same))
    ]

pub takes_held : (s t : Shelved) (k : ℕ) → 1 ≤ length s.places → FindsHeld (Some k) s → t ≡ record s { places = without k s.places } → held_in s ≡ k ∷ held_in t
takes_held s t k some f is =
    let (there, low, high, none) = f in
    let q = λ (i : ℕ). holds (without k s.places) i in
    let out : q k ≡ false = (let e = holds_without s.places k k some f.0 in let self : eqb k k ≡ true = eq-eqb k k refl in e ∙ (rw self refl)) in
    let same = λ (i : ℕ) (ne : i ≢ k). (let e = holds_without s.places k i some f.0 in let other : eqb i k ≡ false = ne_eqb i k ne in e ∙ (rw other refl)) in
    let count : length (without k s.places) ≡ length s.places = length-without s.places k in
    first_in (holds s.places) q k s.next (length s.places) f.1 f.2 f.0 f.3 out same ∙ ap (λ n. k ∷ filter q (numbers_from s.next n)) (sym count) ∙ ap (λ (x : Shelved). k ∷ held_in x) (sym is)

pub none_held : (s : Shelved) → FindsHeld None s → held_in s ≡ []
none_held s f = none_in (holds s.places) s.next (length s.places) f

numbers_more : (n count : ℕ) → numbers_from n (suc count) ≡ numbers_from n count ++ (n + count) ∷ []
numbers_more n zero = (let e : n + 0 ≡ n = omega arith in rw e refl)
numbers_more n (suc count) = (let e : n + 1 + count ≡ n + suc count = omega arith in ap (λ (ns : List ℕ). n ∷ ns) (numbers_more (n + 1) count ∙ ap (λ x. numbers_from (n + 1) count ++ x ∷ []) e))

count_end : (p : ℕ → Bool) (xs : List ℕ) (y : ℕ) → length (filter p (xs ++ y ∷ [])) ≡ length (filter p xs) + cond (p y) 1 0
count_end p [] y = by_test (p y)
  where
    by_test : (b : Bool) → length (cond b (y ∷ []) []) ≡ 0 + cond b 1 0
    by_test true = omega arith
    by_test false = omega arith
count_end p (x ∷ xs) y = by_test (p x) (count_end p xs y)
  where
    by_test : (b : Bool) → length (filter p (xs ++ y ∷ [])) ≡ length (filter p xs) + cond (p y) 1 0 → length (cond b (x ∷ filter p (xs ++ y ∷ [])) (filter p (xs ++ y ∷ []))) ≡ length (cond b (x ∷ filter p xs) (filter p xs)) + cond (p y) 1 0
    by_test true h = omega arith
    by_test false h = h

pub count_more : (places : List Place) (next number count new : ℕ) → next ≤ number → count ≡ length (filter (holds places) (numbers_from next (number - next))) → new ≡ count + cond (holds places number) 1 0 → new ≡ length (filter (holds places) (numbers_from next (number + 1 - next)))
count_more places next number count new le h is =
    let P = λ (ns : List ℕ). length (filter (holds places) ns) in
    let e : number + 1 - next ≡ suc (number - next) = omega arith in
    let at : next + (number - next) ≡ number = omega arith in
    let x : P (numbers_from next (suc (number - next))) ≡ P (numbers_from next (number - next)) + cond (holds places (next + (number - next))) 1 0 = ap P (numbers_more next (number - next)) ∙ count_end (holds places) (numbers_from next (number - next)) (next + (number - next)) in
    let y : P (numbers_from next (number + 1 - next)) ≡ P (numbers_from next (suc (number - next))) = ap (λ k. P (numbers_from next k)) e in
    let z : cond (holds places (next + (number - next))) 1 0 ≡ cond (holds places number) 1 0 = ap (λ k. cond (holds places k) 1 0) at in
    let w : new ≡ P (numbers_from next (number - next)) + cond (holds places number) 1 0 = is ∙ ap (λ k. k + cond (holds places number) 1 0) h in
    w ∙ ap (λ k. P (numbers_from next (number - next)) + k) (sym z) ∙ sym x ∙ sym y

-- The keys that are told

broken_by : (source : Source) (gs : List Gap) (lost : Lost) → first_lost gs ≡ Some lost → TakesFirst (Some lost) (lost_in gs) (lost_in (after_lost gs))
broken_by source gs lost e =
    let P : Option Lost → Type 0 = λ x. TakesFirst x (lost_in gs) (lost_in (after_lost gs)) in
    subst P e (takes_lost gs)

pub broken_first : (source : Source) (gs : List Gap) (lost : Lost) → first_lost gs ≡ Some lost → broken_with source (lost_in gs) ≡ (key_at source lost.number, cause.Broken lost.missing) ∷ broken_with source (lost_in (after_lost gs))
broken_first source gs lost e = ap (broken_with source) (broken_by source gs lost e)

pub broken_none : (source : Source) (gs : List Gap) → first_lost gs ≡ None → (broken_with source (lost_in gs) ≡ []) × (broken_with source (lost_in (after_lost gs)) ≡ [])
broken_none source gs e =
    let P : Option Lost → Type 0 = λ x. TakesFirst x (lost_in gs) (lost_in (after_lost gs)) in
    let t = subst P e (takes_lost gs) in
    (ap (broken_with source) t.0, ap (broken_with source) t.1)

-- All that is kept

same_shape : (a : Accepted) → SameShape a a
same_shape a = record { kind = refl; places = λ c h. h; slots = λ n h. h }

record Gathered (r g : Receiving) : Type 0 where
  kept : kept_numbers g ≡ kept_numbers r
  is : g ≡ record r { going = g.going; join = record r.join { joining = g.join.joining } }
  largest : g.join.joining.largest ≡ r.join.joining.largest
  empty_joiner : g.going ≡ None → run_numbers g.join.joining.held ≡ []

gathers : (r : Receiving) (h : Option Run) → r.going ≡ h → Gathered r (gathered_by h r)
gathers r None e = record {
  kept = (let P : run_numbers r.join.joining.held ++ [] ++ held_numbers r.accepted ≡ run_numbers r.going ++ run_numbers r.join.joining.held ++ held_numbers r.accepted = rw e (ap (λ (xs : List ℕ). xs ++ held_numbers r.accepted) (append-nil (run_numbers r.join.joining.held))) in P);
  is = refl;
  largest = refl;
  empty_joiner = λ x. refl;
}
gathers r (Some run) e = record {
  kept = refl;
  is = refl;
  largest = refl;
  empty_joiner = λ x. absurd (none-some run (sym x ∙ e));
}

-- what was in the joiner or is held, once it is gathered
record Went (r : Receiving) (result : Option ℕ) (new : Receiving) : Type 0 where
  taken : TakesFirst result (kept_numbers r) (kept_numbers new)
  changes : ChangesKept r new

goes : (r g : Receiving) (h : Option Run) (result : Option ℕ) (new : Receiving) → g.going ≡ h → Gathered r g → GoesOn h g result new → Went r result new
goes r g (Some run) result new e x on =
    let accepted : new.accepted ≡ r.accepted = ap (λ (y : Receiving). y.accepted) on.1 ∙ ap (λ (y : Receiving). y.accepted) x.is in
    let T : Option ℕ → Type 0 = λ y. TakesFirst y (kept_numbers r) (kept_numbers new) in
    let S : Accepted → Type 0 = λ y. SameShape r.accepted y in
    let kept_new : kept_numbers new ≡ run_numbers (after_first run) ++ run_numbers g.join.joining.held ++ held_numbers g.accepted = ap kept_numbers on.1 in
    let kept_old : kept_numbers g ≡ run.from ∷ (run_numbers (after_first run) ++ run_numbers g.join.joining.held ++ held_numbers g.accepted) = ap (λ (y : Option Run). run_numbers y ++ run_numbers g.join.joining.held ++ held_numbers g.accepted) e ∙ ap (λ (y : List ℕ). y ++ run_numbers g.join.joining.held ++ held_numbers g.accepted) (first_of_run run) in
    record {
      taken = subst T (sym on.0) (sym x.kept ∙ kept_old ∙ ap (λ (y : List ℕ). run.from ∷ y) (sym kept_new));
      changes = record {
        new_is = on.1 ∙ ap (λ (y : Receiving). record y { going = after_first run }) x.is ∙ same_fields r g new accepted (ap (λ (y : Receiving). y.going) on.1) (ap (λ (y : Receiving). y.join.joining) on.1);
        shape = subst S (sym accepted) (same_shape r.accepted);
        largest = ap (λ (y : Receiving). y.join.joining.largest) on.1 ∙ x.largest;
      };
    }
  where
    same_fields : (r g new : Receiving) → new.accepted ≡ r.accepted → new.going ≡ after_first run → new.join.joining ≡ g.join.joining → record r { going = after_first run; join = record r.join { joining = g.join.joining } } ≡ record r { accepted = new.accepted; going = new.going; join = record r.join { joining = new.join.joining } }
    same_fields r g new a b c = rw (a, b, c) refl
goes r g None result new e x on =
    let (first, shape, is) = on in
    let old : g.accepted ≡ r.accepted = ap (λ (y : Receiving). y.accepted) x.is in
    let none : run_numbers g.join.joining.held ≡ [] = x.empty_joiner e in
    let S : Accepted → Type 0 = λ y. SameShape y new.accepted in
    let kept_old : kept_numbers g ≡ held_numbers g.accepted = (let P : run_numbers g.going ++ run_numbers g.join.joining.held ++ held_numbers g.accepted ≡ held_numbers g.accepted = rw (e, none) refl in P) in
    let kept_new : kept_numbers new ≡ held_numbers new.accepted = ap kept_numbers on.2 ∙ (let P : run_numbers g.going ++ run_numbers g.join.joining.held ++ held_numbers new.accepted ≡ held_numbers new.accepted = rw (e, none) refl in P) in
    let A : List ℕ → Type 0 = λ y. TakesFirst result y (kept_numbers new) in
    let B : List ℕ → Type 0 = λ y. TakesFirst result (held_numbers g.accepted) y in
    record {
      taken = subst A (sym kept_old ∙ x.kept) (subst B (sym kept_new) on.0);
      changes = record {
        new_is = on.2 ∙ ap (λ (y : Receiving). record y { accepted = new.accepted }) x.is ∙ same_fields r g new (ap (λ (y : Receiving). y.going) on.2) (ap (λ (y : Receiving). y.join.joining) on.2);
        shape = subst S old on.1;
        largest = ap (λ (y : Receiving). y.join.joining.largest) on.2 ∙ x.largest;
      };
    }
  where
    same_fields : (r g new : Receiving) → new.going ≡ g.going → new.join.joining ≡ g.join.joining → record r { accepted = new.accepted; going = g.going; join = record r.join { joining = g.join.joining } } ≡ record r { accepted = new.accepted; going = new.going; join = record r.join { joining = new.join.joining } }
    same_fields r g new b c = rw (b, c) refl

pub takes_kept : (r : Receiving) (result : Option ℕ) (new : Receiving) → GoesOn (gathered r).going (gathered r) result new → TakesFirst result (kept_numbers r) (kept_numbers new)
takes_kept r result new on = (goes r (gathered r) (gathered r).going result new refl (gathers r r.going refl) on).taken

pub changes_kept : (r : Receiving) (result : Option ℕ) (new : Receiving) → GoesOn (gathered r).going (gathered r) result new → ChangesKept r new
changes_kept r result new on = (goes r (gathered r) (gathered r).going result new refl (gathers r r.going refl) on).changes

-- No more is kept than before

pub keeps_broken : (now : ℕ) (r between new : Receiving) → between ≡ record r { join = record r.join { gaps = between.join.gaps } } → KeepsNoMore now between new → KeepsNoMore now r new
keeps_broken now r between new is h =
    let why : end_cause now between ≡ end_cause now r = ap (end_cause now) is in
    let kept : kept_numbers between ≡ kept_numbers r = ap kept_numbers is in
    record {
      source = h.source ∙ ap (λ (y : Receiving). y.source) is;
      kept = λ n i. subst (In n) kept (h.kept n i);
      why = h.why ∙ why;
      all = λ none. h.all (why ∙ none) ∙ kept;
    }

pub keeps_same : (now : ℕ) (r : Receiving) → KeepsNoMore now r r
keeps_same now r = record { source = refl; kept = λ n i. i; why = refl; all = λ none. refl }

pub keeps_on : (now : ℕ) (r between new : Receiving) → KeepsNoMore now r between → KeepsNoMore now between new → KeepsNoMore now r new
keeps_on now r between new a b = record {
  source = b.source ∙ a.source;
  kept = λ n i. a.kept n (b.kept n i);
  why = b.why ∙ a.why;
  all = λ none. b.all (a.why ∙ none) ∙ a.all none;
}

-- What a receiver stands for

stands_broken : (c : Constants) (now : ℕ) (m : Receiver) (j : Joiner) (r : Receiving) (gaps : List Gap) → Stands c now m j r → Stands c now m j (record r { join = record r.join { gaps = gaps } })
stands_broken c now m j r gaps st = record {
  of = record { cube = st.of.cube; kind = st.of.kind; window = st.of.window; rest = st.of.rest; largest = st.of.largest; places = st.of.places };
  not_closed = st.not_closed;
  made = st.made;
  last_in = st.last_in;
  known = st.known;
  joiner = λ e. record { run = (st.joiner e).run; bytes = (st.joiner e).bytes };
  reach = st.reach;
}

stands_ended : (c : Constants) (now : ℕ) (m : Receiver) (j : Joiner) (r new : Receiving) → Stands c now m j r → is_present c now m ≡ false → ChangesKept r new → Stands c now m j new
stands_ended c now m j r new st gone ch =
    record {
      of = record {
        cube = st.of.cube;
        kind = st.of.kind ∙ sym ch.shape.kind;
        window = ap (λ (y : Receiving). y.window) ch.new_is ∙ st.of.window;
        rest = ap (λ (y : Receiving). y.rest) ch.new_is ∙ st.of.rest;
        largest = ch.largest ∙ st.of.largest;
        places = ch.shape.places c st.of.places;
      };
      not_closed = ap (λ (y : Receiving). y.closed) ch.new_is ∙ st.not_closed;
      made = st.made ∙ sym (ap (λ (y : Receiving). y.made) ch.new_is);
      last_in = st.last_in ∙ sym (ap (λ (y : Receiving). y.last_in) ch.new_is);
      known = λ e. absurd (false≢true (sym gone ∙ e));
      joiner = λ e. absurd (false≢true (sym gone ∙ e));
      reach = λ e. absurd (false≢true (sym gone ∙ e));
    }

pub stands_dropped : (now : ℕ) (old between new : Receiving) → between ≡ record old { join = record old.join { gaps = between.join.gaps } } → ChangesKept between new → (end_cause now between ≡ None → new ≡ between) → StandsAsBefore now old new
stands_dropped now old between new is ch standing c m j st =
    let S : Receiving → Type 0 = λ x. Stands c now m j x in
    let mid : Stands c now m j between = subst S (sym is) (stands_broken c now m j old between.join.gaps st) in
    by_presence (is_present c now m) refl mid
  where
    by_presence : (b : Bool) → is_present c now m ≡ b → Stands c now m j between → Stands c now m j new
    by_presence true e mid =
        let stands : present_at now between ≡ true = sym (present_same c now m j between mid) ∙ e in
        let none : end_cause now between ≡ None = (let P : end_cause now between ≡ cond false (Some (cause.NoConnection between.source.dcep)) (cond true None (Some (cause.StateGone between.last_in))) = rw (mid.not_closed, stands) refl in P) in
        let S : Receiving → Type 0 = λ x. Stands c now m j x in
        subst S (sym (standing none)) mid
    by_presence false e mid = stands_ended c now m j between new mid e ch
