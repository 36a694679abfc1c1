-- How many parts an SDU is cut into.
use Rattle.std.proofs.Common.{◌≡◌, ℕ, ◌+◌, ◌-◌, ◌*◌, ◌/◌, ◌<◌, ◌≤◌, true, false, List, [], ◌∷◌, length, sym, ◌∙◌, ap, arith}
use Rattle.std.proofs.Math.Nat.{lt-mul-div-succ, div-mul-le_self, mul-le-mul_right}
use Rattle.std.proofs.lemmas.List.{length-append}
use Rattle.rina_law.specs.Pieces.{Part, IsCut, join}

record Reaches (size : ℕ) (count len : ℕ) : Type 0 where
  some : 1 ≤ count
  inner : (count - 1) * size ≤ len - 1
  all : len ≤ count * size

record Later (size : ℕ) (count len : ℕ) : Type 0 where
  some : 1 ≤ count
  inner : (count - 1) * size + 1 ≤ len
  all : len ≤ count * size

later : (size : ℕ) (parts : List Part) → IsCut size false parts → Later size (length parts) (length (join parts))
later size (p ∷ []) (b, e, s) =
    let long = length-append p.body [] in
    let some = s.some b e in
    let fits = s.fits in
    record { some = omega arith; inner = omega arith; all = omega arith }
later size (p ∷ q ∷ ps) (b, e, s, rest) =
    let long = length-append p.body (join (q ∷ ps)) in
    let full : length p.body ≡ size = s.full e in
    let r = later size (q ∷ ps) rest in
    let n : ℕ = length (q ∷ ps) in
    let some : 1 ≤ n = r.some in
    let inner : (n - 1) * size + 1 ≤ length (join (q ∷ ps)) = r.inner in
    let all : length (join (q ∷ ps)) ≤ n * size = r.all in
    let split : n * size ≡ (n - 1) * size + size = (let one : n ≡ (n - 1) + 1 = omega arith in ap (λ (k : ℕ). k * size) one ∙ omega arith) in
    let count : (length (p ∷ q ∷ ps) - 1) * size ≡ n * size = ap (λ (k : ℕ). k * size) (omega arith) in
    let total : length (p ∷ q ∷ ps) * size ≡ n * size + size = (let one : length (p ∷ q ∷ ps) ≡ n + 1 = omega arith in ap (λ (k : ℕ). k * size) one ∙ omega arith) in
    record { some = omega arith; inner = omega arith; all = omega arith }
later size [] h = absurd h

reaches : (size : ℕ) (parts : List Part) → IsCut size true parts → Reaches size (length parts) (length (join parts))
reaches size (p ∷ []) (b, e, s) =
    let long = length-append p.body [] in
    let fits = s.fits in
    record { some = omega arith; inner = omega arith; all = omega arith }
reaches size (p ∷ q ∷ ps) (b, e, s, rest) =
    let long = length-append p.body (join (q ∷ ps)) in
    let full : length p.body ≡ size = s.full e in
    let r = later size (q ∷ ps) rest in
    let n : ℕ = length (q ∷ ps) in
    let some : 1 ≤ n = r.some in
    let inner : (n - 1) * size + 1 ≤ length (join (q ∷ ps)) = r.inner in
    let all : length (join (q ∷ ps)) ≤ n * size = r.all in
    let split : n * size ≡ (n - 1) * size + size = (let one : n ≡ (n - 1) + 1 = omega arith in ap (λ (k : ℕ). k * size) one ∙ omega arith) in
    let count : (length (p ∷ q ∷ ps) - 1) * size ≡ n * size = ap (λ (k : ℕ). k * size) (omega arith) in
    let total : length (p ∷ q ∷ ps) * size ≡ n * size + size = (let one : length (p ∷ q ∷ ps) ≡ n + 1 = omega arith in ap (λ (k : ℕ). k * size) one ∙ omega arith) in
    record { some = omega arith; inner = omega arith; all = omega arith }
reaches size [] h = absurd h

-- a quotient is the number between these bounds
between : (size count len : ℕ) → 1 ≤ size → Reaches size count len → count ≡ (len - 1) / size + 1
between size count len h r =
    let q = (len - 1) / size in
    let below : q * size ≤ len - 1 = div-mul-le_self (len - 1) size in
    let above : len - 1 < size * (q + 1) = lt-mul-div-succ (len - 1) h in
    let some = r.some in
    let inner = r.inner in
    let all = r.all in
    let low : (q + 2 ≤ count) → ⊥ = λ lt. (let more : (q + 1) * size ≤ (count - 1) * size = mul-le-mul_right size (omega arith) in omega arith) in
    let high : (count ≤ q) → ⊥ = λ le. (let more : count * size ≤ q * size = mul-le-mul_right size le in let one : 1 * size ≤ count * size = mul-le-mul_right size some in omega arith) in
    by_order q count low high
  where
    by_order : (q count : ℕ) → ((q + 2 ≤ count) → ⊥) → ((count ≤ q) → ⊥) → count ≡ q + 1
    by_order q count low high = omega arith

pub cut_count : (size len need : ℕ) (parts : List Part) → 1 ≤ size → need ≡ (len - 1) / size + 1 → IsCut size true parts → length (join parts) ≡ len → length parts ≡ need
cut_count size len need parts h is cut long = between size (length parts) (length (join parts)) h (reaches size parts cut) ∙ ap (λ n. (n - 1) / size + 1) long ∙ sym is
