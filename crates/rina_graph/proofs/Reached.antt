-- How nodes are reached while edges are followed: what stays, what gets better, and that each way is a walk.
use Rattle.std.proofs.Common.{◌≡◌, ℕ, ◌<◌, ◌≤◌, ◌⊎◌, inl, inr, ⊎_elim, Bool, true, false, List, Option, Some, None, unwrap_or, refl, ◌∙◌, subst, arith}
use Rattle.std.proofs.lemmas.Bool.{cases_eq, both_ways}
use Rattle.std.proofs.lemmas.Grind.{common_steps}
use Rattle.rina_graph.specs.declared.graph.Edge.{Edge}
use Rattle.rina_graph.specs.declared.tree.Reach.{Reach}
use Rattle.rina_graph.specs.Search.{over, is_before, is_better, better_of}

pub split : {G : Type 0} (b : Bool) → (b ≡ true → G) → (b ≡ false → G) → G
split true pass fail = pass refl
split false pass fail = fail refl

pub Some_same : {X : Type 0} (x y : X) → Some x ≡ Some y → x ≡ y
Some_same x y h = grind (arith, h)

abbrev pub Nodes : Type 0
Nodes = List (Option Reach)

-- ---- which way is at least as good as another
abbrev pub NotAfter : Option ℕ → Option ℕ → Type 0
NotAfter c None = c ≡ None
NotAfter None (Some y) = ⊥
NotAfter (Some x) (Some y) = x ≤ y

abbrev pub AtLeast : Option Reach → Reach → Type 0
AtLeast None o = ⊥
AtLeast (Some c) o = (c.weight < o.weight) ⊎ ((c.weight ≡ o.weight) × NotAfter c.first o.first)

not_after_itself : (c : Option ℕ) → NotAfter c c
not_after_itself None = refl
not_after_itself (Some x) = omega arith

not_after_trans : (a b c : Option ℕ) → NotAfter a b → NotAfter b c → NotAfter a c
not_after_trans a b None h k = subst (NotAfter a) k h
not_after_trans a None (Some z) h k = absurd k
not_after_trans None (Some y) (Some z) h k = absurd h
not_after_trans (Some x) (Some y) (Some z) h k = omega (arith, h, k)

pub at_least_itself : (r : Reach) → AtLeast (Some r) r
at_least_itself r = inr (refl, not_after_itself r.first)

at_least_chain : (a b c : Reach) → AtLeast (Some a) b → AtLeast (Some b) c → AtLeast (Some a) c
at_least_chain a b c h k =
    ⊎_elim (λ lt. inl (⊎_elim (λ lt'. omega (arith, lt, lt')) (λ eq. omega (arith, lt, eq.0)) k)) (λ eq. ⊎_elim (λ lt. inl (omega (arith, eq.0, lt))) (λ eq'. inr (eq.0 ∙ eq'.0, not_after_trans a.first b.first c.first eq.1 eq'.1)) k) h

pub at_least_then : (a : Option Reach) (b c : Reach) → AtLeast a b → AtLeast (Some b) c → AtLeast a c
at_least_then None b c h k = absurd h
at_least_then (Some a) b c h k = at_least_chain a b c h k

pub at_least_trans : (m a : Option Reach) (s : Reach) → AtLeast m s → ((c : Reach) → m ≡ Some c → AtLeast a c) → AtLeast a s
at_least_trans None a s h f = absurd h
at_least_trans (Some m) a s h f = at_least_then a m s (f m refl) h

not_after_over : (a b : Option ℕ) (to : ℕ) → NotAfter a b → NotAfter (Some (unwrap_or a to)) (Some (unwrap_or b to))
not_after_over a None to h = rw h (not_after_itself (Some to))
not_after_over None (Some y) to h = absurd h
not_after_over (Some x) (Some y) to h = h

pub at_least_over : (a b : Reach) (e : Edge) → AtLeast (Some a) b → AtLeast (Some (over a e)) (over b e)
at_least_over a b e h = ⊎_elim (λ lt. inl (omega (arith, lt))) (λ eq. inr (omega (arith, eq.0), not_after_over a.first b.first e.to eq.1)) h

-- ---- the better of an offer and what is there
abbrev pub BeginsAtNothing : Option Reach → Type 0
BeginsAtNothing old = (s : Reach) → old ≡ Some s → s.first ≡ None → s.weight ≡ 0

tied : (w z : ℕ) (s : Option ℕ) → (s ≡ None → ⊥) → is_before (Some z) s ≡ false → NotAfter s (Some z)
tied w z None some h = absurd (some refl)
tied w z (Some x) some h = grind (arith, common_steps, h)

stays : (w z : ℕ) (s : Reach) → 1 ≤ w → (s.first ≡ None → s.weight ≡ 0) → is_better (record { weight = w; first = Some z }) s ≡ false → AtLeast (Some s) (record { weight = w; first = Some z })
unfolding is_better
stays w z s some zero_is h =
    ⊎_elim (λ eq. inr (eq, tied w z s.first (λ none. omega (arith, eq, zero_is none, some)) (grind (arith, common_steps, h, eq)))) (λ ne. inl (grind (arith, common_steps, h, ne))) (cases_eq s.weight w)

pub better_new : (w z : ℕ) (old : Option Reach) → 1 ≤ w → BeginsAtNothing old → AtLeast (Some (better_of (record { weight = w; first = Some z }) old)) (record { weight = w; first = Some z })
better_new w z None some zero_is = at_least_itself (record { weight = w; first = Some z })
better_new w z (Some s) some zero_is =
    let new : Reach = record { weight = w; first = Some z } in
    split (is_better new s) (λ better. rw better (at_least_itself new)) (λ not_better. rw not_better (stays w z s some (λ none. zero_is s refl none) not_better))

before_is : (a b : Option ℕ) → is_before a b ≡ true → NotAfter a b
before_is None b h = absurd (both_ways false refl h)
before_is (Some x) None h = absurd (both_ways false refl h)
before_is (Some x) (Some y) h = grind (arith, common_steps, h)

wins : (new s : Reach) → is_better new s ≡ true → AtLeast (Some new) s
unfolding is_better
wins new s h =
    ⊎_elim (λ eq. inr (eq, before_is new.first s.first (grind (arith, common_steps, h, eq)))) (λ ne. inl (grind (arith, common_steps, h, ne))) (cases_eq new.weight s.weight)

pub better_old : (new s : Reach) → AtLeast (Some (better_of new (Some s))) s
better_old new s = split (is_better new s) (λ better. rw better (wins new s better)) (λ not_better. rw not_better (at_least_itself s))

pub better_kept : (new s : Reach) → s.weight < new.weight → better_of new (Some s) ≡ s
unfolding is_better
better_kept new s lt = let worse : is_better new s ≡ false = grind (arith, common_steps, lt) in rw worse refl

pub better_either : (new : Reach) (old : Option Reach) → (better_of new old ≡ new) ⊎ (old ≡ Some (better_of new old))
better_either new None = inl refl
better_either new (Some s) = split (is_better new s) (λ better. inl (rw better refl)) (λ not_better. inr (rw not_better refl))
