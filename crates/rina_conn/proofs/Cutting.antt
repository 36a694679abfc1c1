-- The parts into which an SDU is cut are a cut of it.
use Rattle.std.proofs.Common.{◌≡◌, ℕ, zero, suc, ◌+◌, ◌-◌, ◌*◌, ◌/◌, ◌<◌, ◌≤◌, min, ◌==◌, Bool, true, false, List, [], ◌∷◌, ◌++◌, length, map, take, drop, slice_get, Some, refl, sym, ◌∙◌, ap, arith, append_assoc}
use Rattle.std.proofs.Math.Nat.{lt-mul-div-succ, div-le_self, div-mul-le_self, mul-le-mul_right}
use Rattle.std.proofs.lemmas.Bool.{eq-eqb, ne_eqb, eqb-false}
use Rattle.std.proofs.lemmas.List.{append-nil, drop-drop, drop_all, length-drop, length-take, take_min, take-append-drop}
use Rattle.rina_delim.specs.declared.part.Part as delim
use Rattle.rina_delim.specs.Parts.{part_count, part_at, first_parts, parts_of}
use Rattle.rina_law.specs.Pieces.{IsSized, IsCut, join}
use Rattle.rina_conn.specs.Carrying.{part_in, parts_in, LieWithin}

-- so many parts from one on
tail : ℕ → ℕ → ℕ → ℕ → List delim.Part
tail len size i zero = []
tail len size i (suc k) = part_at len size i ∷ tail len size (i + 1) k

first_tail : (len size n k : ℕ) → first_parts len size n ++ tail len size n k ≡ tail len size 0 (n + k)
unfolding tail
first_tail len size zero k = (let sum : 0 + k ≡ k = omega arith in rw sum refl)
first_tail len size (suc n) k =
    let one : suc n ≡ n + 1 = omega arith in
    let sum : n + suc k ≡ suc n + k = omega arith in
    append_assoc (first_parts len size n) (part_at len size n ∷ []) (tail len size (suc n) k) ∙ ap (λ j. first_parts len size n ++ (part_at len size n ∷ tail len size j k)) one ∙ first_tail len size n (suc k) ∙ ap (tail len size 0) sum

parts_are : (len size : ℕ) → parts_of len size ≡ tail len size 0 (part_count len size)
unfolding parts_of tail
parts_are len size =
    let sum : part_count len size + 0 ≡ part_count len size = omega arith in
    sym (append-nil (first_parts len size (part_count len size))) ∙ first_tail len size (part_count len size) 0 ∙ ap (tail len size 0) sum

-- how far the parts reach
record Reach (len size count i : ℕ) : Type 0 where
  pub inner : i + 1 < count → i * size + size < len
  pub later : i < count → 1 ≤ i → i * size < len
  pub all : len ≤ count * size

reach : (len size i : ℕ) → 1 ≤ size → Reach len size (part_count len size) i
unfolding part_count
reach len size i h =
    let q = (len - 1) / size in
    let below : q * size ≤ len - 1 = div-mul-le_self (len - 1) size in
    let above : len - 1 < size * (q + 1) = lt-mul-div-succ (len - 1) h in
    record {
      inner = (λ lt. let more : (i + 1) * size ≤ q * size = mul-le-mul_right size (omega arith) in omega arith);
      later = (λ lt one. let more : i * size ≤ q * size = mul-le-mul_right size (omega arith) in let some : 1 * size ≤ i * size = mul-le-mul_right size one in omega arith);
      all = omega arith;
    }

sized : (sdu : List ℕ) (size i : ℕ) → 1 ≤ size → i < part_count (length sdu) size → IsSized size (part_in sdu (part_at (length sdu) size i))
unfolding part_at
sized sdu size i h within =
    let r = reach (length sdu) size i h in
    let rest = length-drop (i * size) sdu in
    let long = length-take (min size (length sdu - i * size)) (drop (i * size) sdu) in
    record {
      fits = omega arith;
      full = (λ more. let other = eqb-false (i + 1) (part_count (length sdu) size) more in let lt : i + 1 < part_count (length sdu) size = first_lt (i + 1) (part_count (length sdu) size) (omega arith) other in let reaches = r.inner lt in omega arith);
      some = (λ later last. let other = eqb-false i 0 later in let lt : i * size < length sdu = r.later within (first_lt 0 i (omega arith) (λ e. other (sym e))) in omega arith);
    }
  where
    first_lt : (a b : ℕ) → a ≤ b → (a ≡ b → ⊥) → a < b
    first_lt a b le ne = omega arith

is_cut : (sdu : List ℕ) (size : ℕ) → 1 ≤ size → (k i : ℕ) (begins : Bool) → i + suc k ≡ part_count (length sdu) size → (i == 0) ≡ begins → IsCut size begins (map (part_in sdu) (tail (length sdu) size i (suc k)))
unfolding part_at tail
is_cut sdu size h zero i begins e b = (b, eq-eqb (i + 1) (part_count (length sdu) size) (omega arith), sized sdu size i h (omega arith))
is_cut sdu size h (suc k) i begins e b =
    let other : i + 1 ≡ part_count (length sdu) size → ⊥ = (λ z. absurd (omega arith)) in
    let more : i + 1 ≡ 0 → ⊥ = (λ z. absurd (omega arith)) in
    (b, ne_eqb (i + 1) (part_count (length sdu) size) other, sized sdu size i h (omega arith), is_cut sdu size h k (i + 1) false (omega arith) (ne_eqb (i + 1) 0 more))

joins : (sdu : List ℕ) (size : ℕ) → 1 ≤ size → (k i : ℕ) → i + k ≡ part_count (length sdu) size → join (map (part_in sdu) (tail (length sdu) size i k)) ≡ drop (i * size) sdu
unfolding part_at tail
joins sdu size h zero i e = (let r = reach (length sdu) size i h in let is : i ≡ part_count (length sdu) size = omega arith in let all : length sdu ≤ i * size = rw is r.all in sym (drop_all (i * size) sdu all))
joins sdu size h (suc k) i e =
    let xs = drop (i * size) sdu in
    let rest = length-drop (i * size) sdu in
    let sum : i * size + size ≡ (i + 1) * size = omega arith in
    let behind : drop ((i + 1) * size) sdu ≡ drop size xs = sym (drop-drop size (i * size) sdu ∙ ap (λ n. drop n sdu) sum) in
    let front : take (min size (length sdu - i * size)) xs ≡ take size xs = ap (λ n. take (min size n) xs) (sym rest) ∙ take_min size xs in
    ap (λ ys. take (min size (length sdu - i * size)) xs ++ ys) (joins sdu size h k (i + 1) (omega arith) ∙ behind) ∙ ap (λ ys. ys ++ drop size xs) front ∙ take-append-drop size xs

within : (len size : ℕ) → 1 ≤ size → (k i j : ℕ) (p : delim.Part) → i + k ≡ part_count len size → slice_get (tail len size i k) j ≡ Some p → p.at + p.len ≤ len
unfolding part_at tail
within len size h zero i j p e s = cc
within len size h (suc k) i zero p e s =
    let r = reach len size i h in
    let is : part_at len size i ≡ p = cc in
    rw (← is) (from_start i r (omega arith))
  where
    from_start : (i : ℕ) → Reach len size (part_count len size) i → i < part_count len size → i * size + min size (len - i * size) ≤ len
    from_start zero r lt = omega arith
    from_start (suc i) r lt = (let inside : suc i * size < len = r.later lt (omega arith) in omega arith)
within len size h (suc k) i (suc j) p e s = within len size h k (i + 1) j p (omega arith) s

one_part : (len size : ℕ) → 1 ≤ part_count len size
unfolding part_count
one_part len size = omega arith

pub parts_cut : (sdu : List ℕ) (size : ℕ) → 1 ≤ size → IsCut size true (parts_in size sdu) × (join (parts_in size sdu) ≡ sdu)
parts_cut sdu size h =
    let one : 1 ≤ part_count (length sdu) size = one_part (length sdu) size in
    let sum : 0 + suc (part_count (length sdu) size - 1) ≡ part_count (length sdu) size = omega arith in
    let all : suc (part_count (length sdu) size - 1) ≡ part_count (length sdu) size = omega arith in
    let cut = is_cut sdu size h (part_count (length sdu) size - 1) 0 true sum refl in
    let cut' = rw all at cut in
    let whole = joins sdu size h (part_count (length sdu) size) 0 (omega arith) in
    let start : 0 * size ≡ 0 = omega arith in
    let whole' = rw start at whole in
    rw (parts_are (length sdu) size) (cut', whole')

pub parts_lie_within : (len size : ℕ) → 1 ≤ size → LieWithin len (parts_of len size)
parts_lie_within len size h i p s = within len size h (part_count len size) 0 i p (omega arith) (rw (parts_are len size) at s)

pub parts_few : (len size : ℕ) → (1 ≤ part_count len size) × (part_count len size ≤ len + 1)
unfolding part_count
parts_few len size = (omega arith, (let below = div-le_self (len - 1) size in omega arith))
