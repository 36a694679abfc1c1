-- A loop that goes over a list by a step that may fail: what was read, and what is still to be read.
use Rattle.std.proofs.Common.{◌≡◌, ℕ, ◌+◌, ◌≤◌, ◌<◌, List, [], ◌∷◌, ◌++◌, length, drop, get_or, Result, Ok, Err, refl, sym, ap, ◌∙◌, append_assoc}
use Rattle.std.proofs.lemmas.List.{append-nil, drop_more, drop_all}
use Rattle.rina_base.specs.Traverse.{◌>>=◌, traverse}

-- what reading gives behind what was read before
abbrev pub with_front : {B E : Type 0} → List B → Result (List B) E → Result (List B) E
with_front front read = read >>= λ ys. Ok (front ++ ys)

regroup : {B E : Type 0} (front : List B) (y : B) (read : Result (List B) E) → with_front front (read >>= λ ys. Ok (y ∷ ys)) ≡ with_front (front ++ y ∷ []) read
regroup front y (Ok ys) = ap Ok (simp append_assoc)
regroup front y (Err e) = refl

module _ {A B E : Type 0} where
  -- one more was read
  pub goes_on : (f : ℕ → A → Result B E) (i k : ℕ) (xs : List A) (d : A) (front : List B) (y : B) (total : Result (List B) E) → i < length xs → f k (get_or xs i d) ≡ Ok y
      → with_front front (traverse f k (drop i xs)) ≡ total → with_front (front ++ y ∷ []) (traverse f (k + 1) (drop (i + 1) xs)) ≡ total
  unfolding traverse
  goes_on f i k xs d front y total lt h so_far =
      let one : with_front front (traverse f k (drop i xs)) ≡ with_front (front ++ y ∷ []) (traverse f (k + 1) (drop (i + 1) xs)) = rw (drop_more xs i d lt, h) (regroup front y (traverse f (k + 1) (drop (i + 1) xs))) in
      sym one ∙ so_far

  -- one was not read
  pub stops : (f : ℕ → A → Result B E) (i k : ℕ) (xs : List A) (d : A) (front : List B) (e : E) (total : Result (List B) E) → i < length xs → f k (get_or xs i d) ≡ Err e
      → with_front front (traverse f k (drop i xs)) ≡ total → total ≡ Err e
  unfolding traverse
  stops f i k xs d front e total lt h so_far =
      let one : with_front front (traverse f k (drop i xs)) ≡ Err e = rw (drop_more xs i d lt, h) refl in
      sym so_far ∙ one

  -- all were read
  pub is_done : (f : ℕ → A → Result B E) (i k : ℕ) (xs : List A) (front : List B) (total : Result (List B) E) → length xs ≤ i
      → with_front front (traverse f k (drop i xs)) ≡ total → total ≡ Ok front
  unfolding traverse
  is_done f i k xs front total le so_far =
      let one : with_front front (traverse f k (drop i xs)) ≡ Ok front = rw (drop_all i xs le) (ap Ok (append-nil front)) in
      sym so_far ∙ one
