-- Places in lists.
use Rattle.std.proofs.Common.{◌≡◌, ◌==◌, ◌||◌, ℕ, ◌+◌, ◌<◌, ◌≤◌, nat_lt, Bool, true, false, not, cond, List, [], ◌∷◌, length, map, drop, get_or, Some, None, refl, sym, ap, ◌∙◌, arith}
use Rattle.std.specs.Prelude.{All}
use Rattle.std.proofs.lemmas.Bool.{false_from_ne_true, false≢true}
use Rattle.std.proofs.lemmas.Bool.Decides.{nat_tests}
use Rattle.std.proofs.lemmas.List.Folds.{list_any_at}
use Rattle.std.proofs.lemmas.List.Sums.{prefix_len_passes}
use Rattle.std.proofs.lemmas.Iterator.Adapters.{position_from-zero}
use Rattle.std.proofs.lemmas.List.{length-map, drop_more, drop_all}
use Rattle.std.specs.List.{position, position_from, prefix_len, list_any}
use Rattle.rina_plan.specs.declared.dif.MemberPlan.{MemberPlan}
use Rattle.rina_plan.specs.declared.dif.DifPlan.{DifPlan}
use Rattle.rina_plan.specs.Difs.{has_twice, is_misaddressed, is_misplaced}

prefix_len_map : {A B : Type 0} (p : B → Bool) (f : A → B) (xs : List A) → prefix_len p (map f xs) ≡ prefix_len (λ x. p (f x)) xs
prefix_len_map p f [] = refl
prefix_len_map p f (x ∷ xs) = ap (λ n. cond (p (f x)) (1 + n) 0) (prefix_len_map p f xs)

pub position_map : {A B : Type 0} (p : B → Bool) (f : A → B) (xs : List A) → position p (map f xs) ≡ position (λ x. p (f x)) xs
position_map p f xs = rw (prefix_len_map (λ y. not (p y)) f xs, length-map xs f) refl

-- ---- the first place, found by a loop that counts

module _ {X : Type 0} (p : X → Bool) (xs : List X) (i at : ℕ) where
  pub place_found : (x : X) (b : Bool) → i < length xs → x ≡ get_or xs i x → b ≡ p x → b ≡ true → position_from p at (drop i xs) ≡ position_from p 0 xs → Some at ≡ position p xs
  place_found x b within is test here so_far =
      let passes : p (get_or xs i x) ≡ true = ap p (sym is) ∙ sym test ∙ here in
      let first : position_from p at (drop i xs) ≡ Some at = rw (drop_more xs i x within, passes) refl in
      sym first ∙ so_far ∙ sym (position_from-zero p xs)

  pub place_later : (x : X) (b : Bool) → i < length xs → x ≡ get_or xs i x → b ≡ p x → b ≡ false → position_from p at (drop i xs) ≡ position_from p 0 xs → position_from p (at + 1) (drop (i + 1) xs) ≡ position_from p 0 xs
  place_later x b within is test other so_far =
      let fails : p (get_or xs i x) ≡ false = ap p (sym is) ∙ sym test ∙ other in
      let next : position_from p at (drop i xs) ≡ position_from p (at + 1) (drop (i + 1) xs) = rw (drop_more xs i x within, fails) refl in
      sym next ∙ so_far

  pub no_place : length xs ≤ i → position_from p at (drop i xs) ≡ position_from p 0 xs → None ≡ position p xs
  no_place past so_far =
      let last : position_from p at (drop i xs) ≡ None = rw (drop_all i xs past) refl in
      sym last ∙ so_far ∙ sym (position_from-zero p xs)

-- ---- where no element passes

pub none_pass : {X : Type 0} (p : X → Bool) (xs : List X) → list_any p xs ≡ false → All (λ x. p x ≡ false) xs
none_pass p xs h = λ k d within. false_from_ne_true (p (get_or xs k d)) (λ passes. false≢true (sym h ∙ list_any_at p xs k d within passes))

beyond : (a b : ℕ) → cond (nat_lt a b) (Some a) None ≡ None → b ≤ a
beyond a b h = grind (arith, nat_tests)

fails_not : (b : Bool) → not b ≡ true → b ≡ false
fails_not true h = cc
fails_not false h = refl

pub nowhere : {X : Type 0} (p : X → Bool) (xs : List X) → position p xs ≡ None → All (λ x. p x ≡ false) xs
nowhere p xs h = λ k d within.
    let far = beyond _ (length xs) h in
    fails_not (p (get_or xs k d)) (prefix_len_passes (λ x. not (p x)) xs k d (omega arith))

-- the four tests of the members of a DIF
pub misplaced_is : (d : DifPlan) (ms : List MemberPlan) (n : ℕ) (node address misaddressed : Bool) → ms ≡ d.members → n ≡ length d.members → node ≡ has_twice (map (λ (m : MemberPlan). m.node) ms) → address ≡ has_twice (map (λ (m : MemberPlan). m.addr) ms)
    → misaddressed ≡ list_any (is_misaddressed d.widths.addr) ms → ((n == 0) || node || address || misaddressed) ≡ is_misplaced d
unfolding is_misplaced
misplaced_is d ms n node address misaddressed same size a b c = rw (size, a, b, c, same) refl
