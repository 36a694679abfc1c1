-- Labels that tell the states of their ports.
use Rattle.std.proofs.Common.{◌≡◌, ◌≢◌, ℕ, zero, suc, ◌+◌, ◌-◌, ◌<◌, ◌≤◌, List, [], ◌∷◌, ◌++◌, get_or, length, map, take, drop, slice_get, slice_set, Option, Some, None, option_and_then, option_map, is_some, Result, Ok, Err, OnErr, true, false, refl, sym, ap, subst, inl, inr, ◌∙◌, arith, append_assoc, add-one}
use Rattle.std.specs.List.{flat_map}
use Rattle.std.proofs.lemmas.Bool.Decides.{eqb_tells}
use Rattle.std.proofs.lemmas.List.{append-nil}
use Rattle.std.proofs.lemmas.List.Concat.{flat_map-append, flat_map-cons}
use Rattle.std.proofs.lemmas.Option.{same_Some, slice_get-get_or}
use Rattle.rina_base.specs.declared.number.Num.{Num}
use Rattle.rina_base.specs.declared.number.Port.{Port}
use Rattle.rina_iface.specs.declared.ends.End.{End}
use Rattle.rina_iface.specs.declared.state.Fail.{Fail}
use Rattle.rina_iface.specs.declared.state.PortState.{PortState}
use Rattle.rina_iface.specs.declared.state.Why.{Why}
use Rattle.rina_iface.specs.Journal.{AreKept}
use Rattle.rina_iface.specs.Seen.{Fac, Seen, Stands, state_of}
use Rattle.rina_iface.proofs.Found.{end_of_stands, stands_there}
use Rattle.rina_report.specs.declared.note.Note.{Note}
use Rattle.rina_report.specs.declared.answer.Answer.{Answer}
use Rattle.rina_report.specs.declared.answer.Answer.TheVariants as answers
use Rattle.rina_report.specs.declared.state.StateNote.{StateNote}
use Rattle.rina_stack.specs.declared.plan.Plan.{Plan}
use Rattle.rina_tower.specs.declared.tower.Tower.{Tower}
use Rattle.rina_tower.specs.Ranks.{now_of, rank_of, seen_of}
use Rattle.rina_tower.specs.Stands.{IsTower, kept_of}
use Rattle.rina_tower.proofs.Owned.{rank_valid}
use Rattle.rina_notes.specs.declared.label.Label.{Label}
use Rattle.rina_notes.specs.Told.{drawn_told}
use Rattle.rina_notes.specs.Look.{same_num, same_port, same_why, same_fail, same_state, same_drawn, or_no_ends, ends_at, state_at, noted, label_notes, state_notes, IsShownIn, HaveTold, shown_now, looked}

-- the state was told before
pub told_before : (plan : Plan) (line : ℕ) (t : Tower) (l : Label) (ns : List Note) → true ≡ same_drawn (state_at t l.rank l.port) l.shown → ns ≡ ns ++ label_notes plan line t l
unfolding label_notes
told_before plan line t l ns same = rw (sym same) (sym (append-nil ns))

-- the state is told now
pub told_now : (plan : Plan) (line : ℕ) (t : Tower) (l : Label) (says : Option Answer) → false ≡ same_drawn (state_at t l.rank l.port) l.shown → says ≡ option_map (answers.Label l.name) (drawn_told plan l.rank (state_at t l.rank l.port)) → noted line (now_of t) says ≡ label_notes plan line t l
unfolding label_notes
told_now plan line t l says differs is = rw (sym differs, is) refl

noted_some : (line tick : ℕ) (name : List ℕ) (o : Option StateNote) → is_some o ≡ true → noted line tick (option_map (answers.Label name) o) ≡ [] → ⊥
noted_some line tick name None some none = cc
noted_some line tick name (Some state) some none = cc

-- a state that is told now has a note
pub has_note : (plan : Plan) (line : ℕ) (t : Tower) (l : Label) → false ≡ same_drawn (state_at t l.rank l.port) l.shown → is_some (drawn_told plan l.rank (state_at t l.rank l.port)) ≡ true → label_notes plan line t l ≢ []
has_note plan line t l differs some = λ none.
    let told = drawn_told plan l.rank (state_at t l.rank l.port) in
    noted_some line (now_of t) l.name told some (told_now plan line t l (option_map (answers.Label l.name) told) differs refl ∙ none)

pub on_err : {T E : Type 0} (P : Type 0) (r : Result T E) → P → OnErr r P
on_err P (Ok x) p = tt
on_err P (Err e) p = p

-- ---- the state of a port whose end stands at a place

fac_has : (s : Seen) (port : Port) (place : ℕ) (e : End) (o : Option Fac) → AreKept s → slice_get s.facs port.fac ≡ o → slice_get (or_no_ends (option_map (λ (f : Fac). f.ends) o)) place ≡ Some e → e.port ≡ port → state_of s port ≡ Some e.state
fac_has s port place e None kept there at is = cc
fac_has s port place e (Some f) kept there at is =
    let st = stands_there s port.fac f place e there (kept.ports port.fac f there) at in
    ap (option_map (λ (e : End). e.state)) (end_of_stands s port f place e (subst (λ (p : Port). Stands s p f place e) is st))

rank_has : (t : Tower) (r : ℕ) (port : Port) (place : ℕ) (e : End) (o : Option Tower) → IsTower t → rank_of t r ≡ o → slice_get (or_no_ends (option_and_then (λ (u : Tower). option_map (λ (f : Fac). f.ends) (slice_get (seen_of u).facs port.fac)) o)) place ≡ Some e → e.port ≡ port → option_and_then (λ u. state_of (seen_of u) port) o ≡ Some e.state
rank_has t r port place e None stands there at is = cc
rank_has t r port place e (Some u) stands there at is = fac_has (seen_of u) port place e (slice_get (seen_of u).facs port.fac) (kept_of u (rank_valid t r u stands there)) refl at is

pub state_there : (t : Tower) (r : ℕ) (port : Port) (place : ℕ) (e : End) → IsTower t → slice_get (ends_at t r port.fac) place ≡ Some e → e.port ≡ port → state_at t r port ≡ Some e.state
state_there t r port place e stands at is = rank_has t r port place e (rank_of t r) stands refl at is

-- ---- states that are told the same are the same

num_is : (a b : Num) → same_num a b ≡ true → a ≡ b
num_is a b same = grind arith

port_is : (a b : Port) → same_port a b ≡ true → a ≡ b
port_is a b same = grind arith

why_is : (a b : Why) → same_why a b ≡ true → a ≡ b
why_is a b same = grind arith

fail_is : (a b : Fail) → same_fail a b ≡ true → a ≡ b
fail_is a b same = grind arith

state_is : (a b : PortState) → same_state a b ≡ true → a ≡ b
state_is a b same = grind arith

drawn_is : (a b : Option PortState) → same_drawn a b ≡ true → a ≡ b
drawn_is None None same = refl
drawn_is None (Some b) same = cc
drawn_is (Some a) None same = cc
drawn_is (Some a) (Some b) same = ap (λ (s : PortState). Some s) (state_is a b same)

-- ---- a label whose state was told before

-- it tells nothing, and stays as it is
pub record IsTold (plan : Plan) (line : ℕ) (t : Tower) (l : Label) : Type 0 where
  pub notes : label_notes plan line t l ≡ []
  pub shown : shown_now t l ≡ l

pub told_in : (plan : Plan) (line : ℕ) (t : Tower) (rank fac : ℕ) (ends : List End) (l : Label) → IsTower t → ends ≡ ends_at t rank fac → IsShownIn rank fac ends l → IsTold plan line t l
told_in plan line t rank fac ends l stands are s =
    let e = s.shown.end in
    let its : ends ≡ ends_at t l.rank l.port.fac = are ∙ ap (λ (r : ℕ). ends_at t r fac) (sym s.its_rank) ∙ ap (λ (n : ℕ). ends_at t l.rank n) (sym s.its_fac) in
    let at = subst (λ (es : List End). slice_get es s.place ≡ Some e) its s.shown.stands in
    let state = state_there t l.rank l.port s.place e stands at s.shown.port in
    let same : same_drawn (state_at t l.rank l.port) l.shown ≡ true = ap (λ (o : Option PortState). same_drawn o l.shown) state ∙ s.shown.state in
    record {
      notes = sym (told_before plan line t l [] (sym same));
      shown = ap (λ (o : Option PortState). record l { shown = o }) (state ∙ drawn_is (Some e.state) l.shown s.shown.state);
    }

module _ {X : Type 0} where
  set_same : (xs : List X) (i : ℕ) (x : X) → slice_get xs i ≡ Some x → slice_set xs i x ≡ xs
  set_same [] i x h = cc
  set_same (y ∷ xs) zero x h = ap (λ (z : X). z ∷ xs) cc
  set_same (y ∷ xs) (suc i) x h = ap (λ (zs : List X). y ∷ zs) (set_same xs i x h)

  seen_after : (f : X → X) (xs : List X) (i : ℕ) → slice_get (map f (take i xs) ++ drop i xs) i ≡ slice_get xs i
  seen_after f [] zero = refl
  seen_after f [] (suc i) = refl
  seen_after f (x ∷ xs) zero = refl
  seen_after f (x ∷ xs) (suc i) = seen_after f xs i

  set_after : (f : X → X) (xs : List X) (i : ℕ) (x : X) → slice_get xs i ≡ Some x → slice_set (map f (take i xs) ++ drop i xs) i (f x) ≡ map f (take (suc i) xs) ++ drop (suc i) xs
  set_after f [] i x h = cc
  set_after f (y ∷ xs) zero x h = ap (λ (z : X). f z ∷ xs) cc
  set_after f (y ∷ xs) (suc i) x h = ap (λ (zs : List X). f y ∷ zs) (set_after f xs i x h)

  there_is : (xs : List X) (i : ℕ) → i < length xs → (x : X) × (slice_get xs i ≡ Some x)
  there_is [] i lt = absurd (omega (arith, lt))
  there_is (x ∷ xs) zero lt = (x, refl)
  there_is (x ∷ xs) (suc i) lt = there_is xs i (omega (arith, lt))

  taken_more : (xs : List X) (i : ℕ) (x : X) → slice_get xs i ≡ Some x → take (suc i) xs ≡ take i xs ++ x ∷ []
  taken_more [] i x h = cc
  taken_more (y ∷ xs) zero x h = ap (λ (z : X). z ∷ []) cc
  taken_more (y ∷ xs) (suc i) x h = ap (λ (zs : List X). y ∷ zs) (taken_more xs i x h)

-- the labels before the one at i have told their states, and so has that one
pub look_labels : (t : Tower) (ls now : List Label) (i : ℕ) (after : List Label) → i < length ls → now ≡ looked t (take i ls) ++ drop i ls → ((l : Label) → slice_get now i ≡ Some l → after ≡ slice_set now i (shown_now t l)) → after ≡ looked t (take (i + 1) ls) ++ drop (i + 1) ls
look_labels t ls now i after lt is step =
    let (l, at) = there_is ls i lt in
    let seen : slice_get now i ≡ Some l = ap (λ (zs : List Label). slice_get zs i) is ∙ seen_after (shown_now t) ls i ∙ at in
    rw (add-one i) (step l seen ∙ ap (λ (zs : List Label). slice_set zs i (shown_now t l)) is ∙ set_after (shown_now t) ls i l at)

pub look_notes : (plan : Plan) (line : ℕ) (t : Tower) (ls now : List Label) (i : ℕ) (start mid after : List Note) → i < length ls → now ≡ looked t (take i ls) ++ drop i ls → mid ≡ start ++ state_notes plan line t (take i ls) → ((l : Label) → slice_get now i ≡ Some l → after ≡ mid ++ label_notes plan line t l) → after ≡ start ++ state_notes plan line t (take (i + 1) ls)
look_notes plan line t ls now i start mid after lt is so_far step =
    let (l, at) = there_is ls i lt in
    let seen : slice_get now i ≡ Some l = ap (λ (zs : List Label). slice_get zs i) is ∙ seen_after (shown_now t) ls i ∙ at in
    let f = label_notes plan line t in
    let one : state_notes plan line t (take (suc i) ls) ≡ state_notes plan line t (take i ls) ++ label_notes plan line t l =
    ap (flat_map f) (taken_more ls i l at) ∙ flat_map-append f (take i ls) (l ∷ []) ∙ ap (λ (ns : List Note). flat_map f (take i ls) ++ ns) (flat_map-cons f l [] ∙ append-nil (f l)) in
    rw (add-one i, one) (step l seen ∙ ap (λ (ns : List Note). ns ++ label_notes plan line t l) so_far ∙ append_assoc start (state_notes plan line t (take i ls)) (label_notes plan line t l))

-- ---- labels that have told their states, so far

module _ {X : Type 0} where
  none_of : (f : X → X) (xs : List X) → xs ≡ map f (take 0 xs) ++ drop 0 xs
  none_of f [] = refl
  none_of f (x ∷ xs) = refl

  take_none : (xs : List X) → take 0 xs ≡ []
  take_none [] = refl
  take_none (x ∷ xs) = refl

  as_many : (f : X → X) (xs : List X) (i : ℕ) → length (map f (take i xs) ++ drop i xs) ≡ length xs
  as_many f [] zero = refl
  as_many f [] (suc i) = refl
  as_many f (x ∷ xs) zero = refl
  as_many f (x ∷ xs) (suc i) = ap suc (as_many f xs i)

  all_of : (f : X → X) (xs : List X) (i : ℕ) → length xs ≤ i → map f (take i xs) ++ drop i xs ≡ map f xs
  all_of f [] zero le = refl
  all_of f [] (suc i) le = refl
  all_of f (x ∷ xs) zero le = absurd (omega (arith, le))
  all_of f (x ∷ xs) (suc i) le = ap (λ (zs : List X). f x ∷ zs) (all_of f xs i (omega (arith, le)))

  take_all : (xs : List X) (i : ℕ) → length xs ≤ i → take i xs ≡ xs
  take_all [] zero le = refl
  take_all [] (suc i) le = refl
  take_all (x ∷ xs) zero le = absurd (omega (arith, le))
  take_all (x ∷ xs) (suc i) le = ap (λ (zs : List X). x ∷ zs) (take_all xs i (omega (arith, le)))

pub told_none : (plan : Plan) (line : ℕ) (t : Tower) (ls : List Label) (start : List Note) → HaveTold plan line t ls start 0 ls start
told_none plan line t ls start = record {
  labels = none_of (shown_now t) ls;
  notes = sym (ap (λ (ms : List Label). start ++ state_notes plan line t ms) (take_none ls) ∙ append-nil start);
}

pub told_size : (plan : Plan) (line : ℕ) (t : Tower) (ls : List Label) (start : List Note) (i : ℕ) (now : List Label) (trace : List Note) → HaveTold plan line t ls start i now trace → length now ≡ length ls
told_size plan line t ls start i now trace h = ap (λ (ms : List Label). length ms) h.labels ∙ as_many (shown_now t) ls i

pub all_labels : (plan : Plan) (line : ℕ) (t : Tower) (ls : List Label) (start : List Note) (i : ℕ) (now : List Label) (trace : List Note) → length ls ≤ i → HaveTold plan line t ls start i now trace → now ≡ looked t ls
all_labels plan line t ls start i now trace le h = h.labels ∙ all_of (shown_now t) ls i le

pub all_notes : (plan : Plan) (line : ℕ) (t : Tower) (ls : List Label) (start : List Note) (i : ℕ) (now : List Label) (trace : List Note) → length ls ≤ i → HaveTold plan line t ls start i now trace → trace ≡ start ++ state_notes plan line t ls
all_notes plan line t ls start i now trace le h = h.notes ∙ ap (λ (ms : List Label). start ++ state_notes plan line t ms) (take_all ls i le)

-- one more has looked
pub told_more : (plan : Plan) (line : ℕ) (t : Tower) (ls : List Label) (start : List Note) (i : ℕ) (now now' : List Label) (trace trace' : List Note) → i < length ls → ((l : Label) → slice_get now i ≡ Some l → trace' ≡ trace ++ label_notes plan line t l) → ((l : Label) → slice_get now i ≡ Some l → now' ≡ slice_set now i (shown_now t l))
    → HaveTold plan line t ls start i now trace → HaveTold plan line t ls start (i + 1) now' trace'
told_more plan line t ls start i now now' trace trace' lt tells shows h = record {
  labels = look_labels t ls now i now' lt h.labels shows;
  notes = look_notes plan line t ls now i start trace trace' lt h.labels h.notes tells;
}

-- so many more have told before
told_on : (plan : Plan) (line : ℕ) (t : Tower) (ls : List Label) (start : List Note) (i n : ℕ) (now : List Label) (trace : List Note) → i + n ≤ length ls → ((k : ℕ) (l : Label) → i ≤ k → k < i + n → slice_get now k ≡ Some l → IsTold plan line t l)
    → HaveTold plan line t ls start i now trace → HaveTold plan line t ls start (i + n) now trace
told_on plan line t ls start i zero now trace le told h = subst (λ (j : ℕ). HaveTold plan line t ls start j now trace) (omega arith) h
told_on plan line t ls start i (suc n) now trace le told h =
    let so_far = told_on plan line t ls start i n now trace (omega (arith, le)) (λ k l ge lt at. told k l ge (omega (arith, lt)) at) h in
    let is_told : (l : Label) → slice_get now (i + n) ≡ Some l → IsTold plan line t l = λ l at. told (i + n) l (omega arith) (omega arith) at in
    let more = told_more plan line t ls start (i + n) now now trace trace (omega (arith, le)) (λ l at. sym (ap (λ (ns : List Note). trace ++ ns) (is_told l at).notes ∙ append-nil trace)) (λ l at. sym (ap (slice_set now (i + n)) (is_told l at).shown ∙ set_same now (i + n) l at)) so_far in
    subst (λ (j : ℕ). HaveTold plan line t ls start j now trace) (omega arith) more

-- all up to a place have told before
pub told_to : (plan : Plan) (line : ℕ) (t : Tower) (ls : List Label) (start : List Note) (i next : ℕ) (now : List Label) (trace : List Note) → i ≤ next → next ≤ length now → ((k : ℕ) (l : Label) → i ≤ k → k < next → slice_get now k ≡ Some l → IsTold plan line t l)
    → HaveTold plan line t ls start i now trace → HaveTold plan line t ls start next now trace
told_to plan line t ls start i next now trace le within told h =
    let size = told_size plan line t ls start i now trace h in
    let sum : i + (next - i) ≡ next = omega (arith, le) in
    subst (λ (j : ℕ). HaveTold plan line t ls start j now trace) sum (told_on plan line t ls start i (next - i) now trace (omega (arith, within, size, sum)) (λ k l ge lt at. told k l ge (omega (arith, lt, sum)) at) h)

-- a row shows one label more
pub shown_on : (rank fac : ℕ) (ends : List End) (labels : List Label) (from at : ℕ) (l : Label) → ((k : ℕ) (x : Label) → from ≤ k → k < at → slice_get labels k ≡ Some x → IsShownIn rank fac ends x) → at < length labels → l ≡ get_or labels at l → IsShownIn rank fac ends l
    → (k : ℕ) (x : Label) → from ≤ k → k < at + 1 → slice_get labels k ≡ Some x → IsShownIn rank fac ends x
shown_on rank fac ends labels from at l before within got shown k x ge lt is =
    let there : slice_get labels at ≡ Some l = slice_get-get_or labels at l within ∙ ap (λ (z : Label). Some z) (sym got) in
    elim (eqb_tells k at) [
      | inl here ↦ subst (IsShownIn rank fac ends) (same_Some l x (sym there ∙ ap (slice_get labels) (sym here.1) ∙ is)) shown
      | inr other ↦ before k x ge (omega (arith, lt, other.1)) is
    ]

-- ---- where a label tells its state, not all labels are silent

both_none : {X : Type 0} (xs ys : List X) → xs ++ ys ≡ [] → (xs ≡ []) × (ys ≡ [])
both_none [] ys none = (refl, none)
both_none (x ∷ xs) ys none = cc

module _ {X Y : Type 0} where
  each_none : (f : X → List Y) (xs : List X) (i : ℕ) (x : X) → slice_get xs i ≡ Some x → flat_map f xs ≡ [] → f x ≡ []
  each_none f [] i x at none = cc
  each_none f (y ∷ xs) zero x at none =
      let same : y ≡ x = cc in
      subst (λ (z : X). f z ≡ []) same (both_none (f y) (flat_map f xs) (sym (flat_map-cons f y xs) ∙ none)).0
  each_none f (y ∷ xs) (suc i) x at none = each_none f xs i x at (both_none (f y) (flat_map f xs) (sym (flat_map-cons f y xs) ∙ none)).1

pub some_note : (plan : Plan) (line : ℕ) (t : Tower) (ls : List Label) (start : List Note) (i : ℕ) (now : List Label) (trace : List Note) → i < length now → HaveTold plan line t ls start i now trace → ((l : Label) → slice_get now i ≡ Some l → label_notes plan line t l ≢ []) → state_notes plan line t ls ≢ []
some_note plan line t ls start i now trace lt h tells = λ none.
    let size = told_size plan line t ls start i now trace h in
    let (l, at) = there_is ls i (omega (arith, lt, size)) in
    let seen : slice_get now i ≡ Some l = ap (λ (zs : List Label). slice_get zs i) h.labels ∙ seen_after (shown_now t) ls i ∙ at in
    tells l seen (each_none (label_notes plan line t) ls i l at none)
