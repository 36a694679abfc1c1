-- How often numbers stand in lists.
use Rattle.std.proofs.Common.{◌≡◌, ◌≢◌, ℕ, zero, suc, ◌+◌, ◌<◌, ◌≤◌, List, [], ◌∷◌, ◌++◌, filter, Bool, true, false, cond, eqb, leb, refl, sym, ◌∙◌, ap, subst, arith, inl, inr}
use Rattle.std.proofs.lemmas.Bool.{cases_eq, eq-eqb, ne_eqb}
use Rattle.rina_dif_law.specs.Counting.{numbers_from, times}
use Rattle.rina_dtp.specs.Lost as dtp
use Rattle.rina_law.specs.Lists.{In}
use Rattle.rina_law.specs.Receiver.{Piece, from_on, numbers}

-- a number counts as one where it is the one that is looked for
abbrev pub one : ℕ → ℕ → ℕ
one k n = cond (eqb k n) 1 0

pub one_same : (k n : ℕ) → k ≡ n → one k n ≡ 1
one_same k n e = ap (λ b. cond b 1 0) (eq-eqb k n e)

pub one_other : (k n : ℕ) → k ≢ n → one k n ≡ 0
one_other k n e = ap (λ b. cond b 1 0) (ne_eqb k n e)

pub times-append : (k : ℕ) (xs ys : List ℕ) → times k (xs ++ ys) ≡ times k xs + times k ys
times-append k [] ys = omega arith
times-append k (x ∷ xs) ys = (let e = times-append k xs ys in omega arith)

-- what stands in a list counts, and nothing else

pub in_times : (k : ℕ) (xs : List ℕ) → In k xs → 1 ≤ times k xs
in_times k [] i = absurd i
in_times k (x ∷ xs) (inl e) = (let o = one_same k x e in omega arith)
in_times k (x ∷ xs) (inr i) = (let le = in_times k xs i in omega arith)

pub times_none : (k : ℕ) (xs : List ℕ) → (In k xs → ⊥) → times k xs ≡ 0
times_none k [] none = refl
times_none k (x ∷ xs) none = (let o = one_other k x (λ e. none (inl e)) in let rest = times_none k xs (λ i. none (inr i)) in omega arith)

pub times_in : (k : ℕ) (xs : List ℕ) → 1 ≤ times k xs → In k xs
times_in k [] h = absurd (omega arith)
times_in k (x ∷ xs) h = elim (cases_eq k x) [
  | inl e ↦ inl e
  | inr ne ↦ (let o = one_other k x ne in inr (times_in k xs (omega arith)))
]

-- two lists that have each number once at most, and the same ones
pub times_same : (k : ℕ) (xs ys : List ℕ) → times k xs ≤ 1 → times k ys ≤ 1 → (In k xs → In k ys) → (In k ys → In k xs) → times k xs ≡ times k ys
times_same k xs ys a b to from = elim (cases_eq (times k xs) 0) [
  | inl none ↦ elim (cases_eq (times k ys) 0) [
    | inl none' ↦ none ∙ sym none'
    | inr some ↦ (let one = in_times k xs (from (times_in k ys (omega arith))) in absurd (omega arith))
  ]
  | inr some ↦ (let one = in_times k ys (to (times_in k xs (omega arith))) in omega arith)
]

pub times_filter : (k : ℕ) (p : ℕ → Bool) (xs : List ℕ) → times k (filter p xs) ≤ times k xs
times_filter k p [] = omega arith
times_filter k p (x ∷ xs) = go (p x) (times_filter k p xs)
  where
    go : (b : Bool) → times k (filter p xs) ≤ times k xs → times k (cond b (x ∷ filter p xs) (filter p xs)) ≤ one k x + times k xs
    go true le = omega arith
    go false le = omega arith

-- Numbers one after the other

pub from_same : (n count : ℕ) → dtp.numbers_from n count ≡ numbers_from n count
from_same n zero = refl
from_same n (suc count) = ap (λ ns. n ∷ ns) (from_same (n + 1) count)

pub from_none : (k n count : ℕ) → k < n → times k (numbers_from n count) ≡ 0
from_none k n zero lt = refl
from_none k n (suc count) lt = (let o = one_other k n (omega arith) in let rest = from_none k (n + 1) count (omega arith) in omega arith)

pub from_above : (k n count : ℕ) → n + count ≤ k → times k (numbers_from n count) ≡ 0
from_above k n zero le = refl
from_above k n (suc count) le = (let o = one_other k n (omega arith) in let rest = from_above k (n + 1) count (omega arith) in omega arith)

pub from_one : (k n count : ℕ) → n ≤ k → k < n + count → times k (numbers_from n count) ≡ 1
from_one k n zero le lt = absurd (omega arith)
from_one k n (suc count) le lt = elim (cases_eq k n) [
  | inl e ↦ (let o = one_same k n e in let rest = from_none k (n + 1) count (omega arith) in omega arith)
  | inr ne ↦ (let o = one_other k n ne in let rest = from_one k (n + 1) count (omega arith) (omega arith) in omega arith)
]

pub from_once : (k n count : ℕ) → times k (numbers_from n count) ≤ 1
from_once k n zero = omega arith
from_once k n (suc count) = elim (cases_eq k n) [
  | inl e ↦ (let o = one_same k n e in let rest = from_none k (n + 1) count (omega arith) in omega arith)
  | inr ne ↦ (let o = one_other k n ne in let rest = from_once k (n + 1) count in omega arith)
]

-- with one more at the end
pub from_last : (k n count : ℕ) → times k (numbers_from n (count + 1)) ≡ times k (numbers_from n count) + one k (n + count)
from_last k n zero = (let e : n ≡ n + 0 = omega arith in let P : ℕ → Type 0 = λ m. one k n + 0 ≡ 0 + one k m in subst P e (omega arith))
from_last k n (suc count) =
    let rest = from_last k (n + 1) count in
    let same : one k (n + 1 + count) ≡ one k (n + suc count) = ap (one k) (omega arith) in
    let e : suc (count + 1) ≡ suc count + 1 = omega arith in
    let P : ℕ → Type 0 = λ m. times k (numbers_from n m) ≡ one k n + times k (numbers_from (n + 1) count) + one k (n + suc count) in
    subst P e (omega arith)

-- Held pieces from a number on

from_on_cons : (k b : ℕ) (q : Piece) (hs : List Piece) → times k (numbers (from_on b hs)) ≡ cond (leb b k) (times k (numbers hs)) 0 → times k (numbers (from_on b (q ∷ hs))) ≡ cond (leb b k) (one k q.number + times k (numbers hs)) 0
from_on_cons k b q hs rest = elim (cases_eq k q.number) [
  | inl e ↦
      let o = one_same k q.number e in
      let P : ℕ → Type 0 = λ m. times k (numbers (cond (leb b m) (q ∷ from_on b hs) (from_on b hs))) ≡ cond (leb b k) (one k q.number + times k (numbers hs)) 0 in
      subst P e (at (leb b k) rest)
  | inr ne ↦ other (one_other k q.number ne) (leb b q.number) (leb b k) rest
]
  where
    at : (c : Bool) → times k (numbers (from_on b hs)) ≡ cond c (times k (numbers hs)) 0 → times k (numbers (cond c (q ∷ from_on b hs) (from_on b hs))) ≡ cond c (one k q.number + times k (numbers hs)) 0
    at true h = omega arith
    at false h = h

    other : one k q.number ≡ 0 → (c d : Bool) → times k (numbers (from_on b hs)) ≡ cond d (times k (numbers hs)) 0 → times k (numbers (cond c (q ∷ from_on b hs) (from_on b hs))) ≡ cond d (one k q.number + times k (numbers hs)) 0
    other o true true h = omega arith
    other o true false h = omega arith
    other o false true h = omega arith
    other o false false h = h

pub from_on_times : (k b : ℕ) (hs : List Piece) → times k (numbers (from_on b hs)) ≡ cond (leb b k) (times k (numbers hs)) 0
from_on_times k b [] = none (leb b k)
  where
    none : (c : Bool) → ◌≡◌ {A = ℕ} 0 (cond c 0 0)
    none true = refl
    none false = refl
from_on_times k b (q ∷ hs) = from_on_cons k b q hs (from_on_times k b hs)
