-- The least size so far, of the elements that pass a test.
use Rattle.std.proofs.Common.{◌≡◌, ◌∙◌, ℕ, ◌+◌, ◌<◌, ◌≤◌, min, ⊎_elim, Bool, true, false, List, [], ◌∷◌, ◌++◌, Option, Some, None, MatchOption, length, take, get_or, sym, ap, subst, arith}
use Rattle.std.proofs.lemmas.List.{take_more, take_all}
use Rattle.std.proofs.lemmas.List.Elements.{Contains-append_left, Contains-push, Contains-push_cases}
use Rattle.std.proofs.lemmas.Bool.{both_ways, cases_lt}
use Rattle.rina_route.specs.Routes.{IsLeast, IsLeastIfAny}

-- the next element does not pass
passed : {A : Type 0} (test : A → Bool) (size : A → ℕ) (xs : List A) (x : A) (best : Option ℕ) → test x ≡ false → IsLeastIfAny test size xs best → IsLeastIfAny test size (xs ++ x ∷ []) best
passed test size xs x None fails least = λ y among yes. ⊎_elim (λ before. least y before yes) (λ same. both_ways (test x) fails (ap test same ∙ yes)) (Contains-push_cases xs x y among)
passed test size xs x (Some n) fails least =
    ((least.0.0, Contains-append_left xs (x ∷ []) least.0.0 least.0.1, least.0.2, least.0.3), λ y among yes. ⊎_elim (λ before. least.1 y before yes) (λ same. absurd (both_ways (test x) fails (ap test same ∙ yes))) (Contains-push_cases xs x y among))

-- the next element passes, and is of the size m
taken : {A : Type 0} (test : A → Bool) (size : A → ℕ) (xs : List A) (x : A) (best : Option ℕ) (m : ℕ) → test x ≡ true → MatchOption best (m ≡ size x) (λ n. m ≡ min n (size x)) → IsLeastIfAny test size xs best → IsLeast test size (xs ++ x ∷ []) m
taken test size xs x None m passes is least =
    ((x, Contains-push xs x, passes, sym is), λ y among yes. ⊎_elim (λ before. absurd (least y before yes)) (λ same. omega (arith, is, ap size same)) (Contains-push_cases xs x y among))
taken test size xs x (Some n) m passes is least = (
  ⊎_elim
      (λ lt. (least.0.0, Contains-append_left xs (x ∷ []) least.0.0 least.0.1, least.0.2, (let e : size least.0.0 ≡ m = omega (arith, is, lt, least.0.3) in e)))
      (λ le. (x, Contains-push xs x, passes, (let e : size x ≡ m = omega (arith, is, le) in e)))
      (cases_lt n (size x)),
  λ y among yes. ⊎_elim (λ before. let le : n ≤ size y = least.1 y before yes in omega (arith, is, le)) (λ same. omega (arith, is, ap size same)) (Contains-push_cases xs x y among),
)

pub least_passed : {A : Type 0} (test : A → Bool) (size : A → ℕ) (xs : List A) (i : ℕ) (d : A) (old new : Option ℕ) → i < length xs → test (get_or xs i d) ≡ false → new ≡ old → IsLeastIfAny test size (take i xs) old → IsLeastIfAny test size (take (i + 1) xs) new
least_passed test size xs i d old new lt fails same least =
    rw (take_more xs i d lt, same) (passed test size (take i xs) (get_or xs i d) old fails least)

pub least_taken : {A : Type 0} (test : A → Bool) (size : A → ℕ) (xs : List A) (i : ℕ) (d : A) (old new : Option ℕ) (m : ℕ) → i < length xs → test (get_or xs i d) ≡ true → MatchOption old (m ≡ size (get_or xs i d)) (λ n. m ≡ min n (size (get_or xs i d))) → new ≡ Some m → IsLeastIfAny test size (take i xs) old → IsLeastIfAny test size (take (i + 1) xs) new
least_taken test size xs i d old new m lt passes is same least =
    rw (take_more xs i d lt, same) (taken test size (take i xs) (get_or xs i d) old m passes is least)

pub least_all : {A : Type 0} (test : A → Bool) (size : A → ℕ) (xs : List A) (i : ℕ) (best : Option ℕ) → length xs ≤ i → IsLeastIfAny test size (take i xs) best → IsLeastIfAny test size xs best
least_all test size xs i best le least = subst (λ ys. IsLeastIfAny test size ys best) (take_all i xs le) least
