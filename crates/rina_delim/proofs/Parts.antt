-- The parts of an SDU lie within it, and joined in order they are it.
use Rattle.std.proofs.Common.{◌≡◌, ℕ, zero, suc, ◌+◌, ◌-◌, ◌*◌, ◌/◌, ◌%◌, ◌^◌, ◌<◌, ◌≤◌, min, Bool, true, false, eqb, List, [], ◌∷◌, ◌++◌, length, take, drop, Option, Some, None, inl, inr, refl, sym, ap, ◌∙◌, arith}
use Rattle.std.proofs.Math.Nat.{div-mul-le_self, mul-le-mul_right, div-add-mod, mod-lt, zero-mul}
use Rattle.std.proofs.lemmas.Bool.{eq-eqb, ne_eqb, cases_lt}
use Rattle.std.proofs.Math.Dec.{eqb-suc-zero}
use Rattle.std.proofs.lemmas.List.{take_min, take_all, length-drop, length-take, length-append}
use Rattle.std.proofs.Math.Seq.{take-add}
use Rattle.rina_delim.specs.declared.joiner.Run.{Run}
use Rattle.rina_delim.specs.declared.joiner.Joined.TheVariants.{More, Whole}
use Rattle.rina_delim.specs.Parts.{part_count, part_at, first_parts}
use Rattle.rina_delim.specs.Joining.{Piece, Joining, after, missing_after, missing_before, joined_for, answer_for, held_after, answer, joined, IsRoomFor}
use Rattle.rina_delim.specs.Pieces.{piece_of, after_parts}
use Rattle.std.specs.Prelude.{if◌then◌else◌, slice_get}
use Rattle.rina_delim.specs.declared.part.Part.{Part}

-- a part begins within its SDU
pub begins_within : (len size number count : ℕ) → count ≡ part_count len size → number < count → number * size ≤ len
unfolding part_count
begins_within len size number count is lt =
    let le : number ≤ (len - 1) / size = omega (arith, is) in
    let most = div-mul-le_self (len - 1) size in
    let less : number * size ≤ (len - 1) / size * size = mul-le-mul_right size le in
    omega arith

-- all parts are long enough for the SDU
ends_past : (len size : ℕ) → 1 ≤ size → len ≤ part_count len size * size
unfolding part_count
ends_past len size lt =
    let parts = div-add-mod (len - 1) size in
    let short : (len - 1) % size < size = mod-lt (len - 1) lt in
    omega arith

-- the front of an SDU, and the bytes of one more part
front_more : (sdu : List ℕ) (size at : ℕ) → take at sdu ++ take (min size (length sdu - at)) (drop at sdu) ≡ take (at + size) sdu
front_more sdu size at =
    let rest : take (min size (length sdu - at)) (drop at sdu) ≡ take size (drop at sdu) = ap (λ (n : ℕ). take (min size n) (drop at sdu)) (sym (length-drop at sdu)) ∙ take_min size (drop at sdu) in
    ap (λ (x : List ℕ). take at sdu ++ x) rest ∙ sym (take-add at size sdu)

next_number : (n : ℕ) → (n + 1) % 2 ^ 32 ≡ after (n % 2 ^ 32)
next_number n = omega arith

-- what the pieces of an SDU up to part i come to
pub record Comes (j : Joining) (sdu : List ℕ) (size number i : ℕ) : Type 0 where
  pub answer : answer (after_parts j sdu size number i) (piece_of sdu size number i) ≡ answer_for None (eqb (i + 1) (part_count (length sdu) size))
  pub from : ℕ
  pub held : (after_parts j sdu size number (suc i)).held ≡ held_after from ((number + i) % 2 ^ 32) (eqb (i + 1) (part_count (length sdu) size))
  pub bytes : (after_parts j sdu size number (suc i)).bytes ≡ take ((i + 1) * size) sdu

-- a piece that follows those that are held
follows : (j : Joining) (run : Run) (p : Piece) → j.held ≡ Some run → p.first ≡ false → p.seq ≡ after run.last
    → (answer j p ≡ answer_for None p.last) × (joined j p ≡ record { largest = j.largest; held = held_after run.from p.seq p.last; bytes = j.bytes ++ p.body })
unfolding answer joined missing_after
follows j run p held later next =
    let same : eqb p.seq (after run.last) ≡ true = eq-eqb _ _ next in
    rw (later, held, same) (refl, refl)

comes : (j : Joining) (sdu : List ℕ) (size number i : ℕ) → 1 ≤ size → i < part_count (length sdu) size → Comes j sdu size number i
unfolding part_at answer joined
comes j sdu size number zero lt within =
    let none : take (0 * size) sdu ≡ [] = ap (λ (n : ℕ). take n sdu) (zero-mul size) in
    let front : take (0 * size) sdu ++ take (min size (length sdu - 0 * size)) (drop (0 * size) sdu) ≡ take (0 * size + size) sdu = front_more sdu size (0 * size) in
    let one : 0 * size + size ≡ (0 + 1) * size = omega arith in
    record { answer = refl; from = (number + 0) % 2 ^ 32; held = refl; bytes = rw none at front ∙ ap (λ (n : ℕ). take n sdu) one }
comes j sdu size number (suc i) lt within =
    let before = comes j sdu size number i lt (omega arith) in
    let waits : eqb (i + 1) (part_count (length sdu) size) ≡ false = ne_eqb _ _ (λ e. absurd (omega arith)) in
    let held : (after_parts j sdu size number (suc i)).held ≡ Some (record { from = before.from; last = (number + i) % 2 ^ 32 }) = before.held ∙ rw waits refl in
    let next : (number + suc i) % 2 ^ 32 ≡ after ((number + i) % 2 ^ 32) = ap (λ (n : ℕ). n % 2 ^ 32) (omega arith) ∙ next_number (number + i) in
    let f = follows (after_parts j sdu size number (suc i)) (record { from = before.from; last = (number + i) % 2 ^ 32 }) (piece_of sdu size number (suc i)) held (eqb-suc-zero i) next in
    let more : suc i * size + size ≡ (suc i + 1) * size = omega arith in
    let at : (i + 1) * size ≡ suc i * size = omega arith in
    record {
      answer = f.0;
      from = before.from;
      held = ap (λ (x : Joining). x.held) f.1;
      bytes = ap (λ (x : Joining). x.bytes) f.1 ∙ ap (λ (x : List ℕ). x ++ (piece_of sdu size number (suc i)).body) (before.bytes ∙ ap (λ (n : ℕ). take n sdu) at) ∙ front_more sdu size (suc i * size) ∙ ap (λ (n : ℕ). take n sdu) more;
    }

whole_or_more : (b : Bool) → answer_for None b ≡ (if b then Whole else More)
whole_or_more true = refl
whole_or_more false = refl

pub answers : (j : Joining) (sdu : List ℕ) (size number i : ℕ) → 1 ≤ size → i < part_count (length sdu) size
    → answer (after_parts j sdu size number i) (piece_of sdu size number i) ≡ (if eqb (i + 1) (part_count (length sdu) size) then Whole else More)
answers j sdu size number i lt within = (comes j sdu size number i lt within).answer ∙ whole_or_more (eqb (i + 1) (part_count (length sdu) size))

pub all_again : (j : Joining) (sdu : List ℕ) (size number : ℕ) → 1 ≤ size → (after_parts j sdu size number (part_count (length sdu) size)).bytes ≡ sdu
unfolding part_count
all_again j sdu size number lt =
    let last = (length sdu - 1) / size in
    let c = comes j sdu size number last lt (omega arith) in
    let count : part_count (length sdu) size ≡ suc last = omega arith in
    let long : length sdu ≤ (last + 1) * size = ends_past (length sdu) size lt in
    rw count (c.bytes ∙ take_all ((last + 1) * size) sdu long)

-- the bytes before a part and those of the part are no more than the SDU
length_within : (sdu : List ℕ) (size at : ℕ) → length (take at sdu) + length (take (min size (length sdu - at)) (drop at sdu)) ≤ length sdu
length_within sdu size at = omega (arith, length-take at sdu, length-take (min size (length sdu - at)) (drop at sdu), length-drop at sdu)

-- the largest SDU stays
largest_joined : (j : Joining) (p : Piece) → (joined j p).largest ≡ j.largest
unfolding joined
largest_joined j p = for_missing (missing_before j p)
  where
    for_missing : (m : Option ℕ) → (joined_for m j p).largest ≡ j.largest
    for_missing None = refl
    for_missing (Some n) = refl

same_largest : (j : Joining) (sdu : List ℕ) (size number i : ℕ) → (after_parts j sdu size number i).largest ≡ j.largest
same_largest j sdu size number zero = refl
same_largest j sdu size number (suc i) = largest_joined (after_parts j sdu size number i) (piece_of sdu size number i) ∙ same_largest j sdu size number i

next_room : (j : Joining) (sdu : List ℕ) (size number i : ℕ) → 1 ≤ size → i < part_count (length sdu) size → length sdu ≤ j.largest → (piece_of sdu size number i).first ≡ false
    → length (after_parts j sdu size number i).bytes + length (piece_of sdu size number i).body ≤ j.largest
unfolding part_at
next_room j sdu size number zero lt within fits e = absurd cc
next_room j sdu size number (suc i) lt within fits e =
    let before = comes j sdu size number i lt (omega arith) in
    let at : (i + 1) * size ≡ suc i * size = omega arith in
    let bytes : (after_parts j sdu size number (suc i)).bytes ≡ take (suc i * size) sdu = before.bytes ∙ ap (λ (n : ℕ). take n sdu) at in
    rw bytes (omega (arith, length_within sdu size (suc i * size)))

pub has_room : (j : Joining) (sdu : List ℕ) (size number i : ℕ) → 1 ≤ size → i < part_count (length sdu) size → length sdu ≤ j.largest → IsRoomFor (after_parts j sdu size number i) (piece_of sdu size number i)
unfolding part_at
has_room j sdu size number i lt within fits =
    let same : (after_parts j sdu size number i).largest ≡ j.largest = same_largest j sdu size number i in
    record {
      begins = λ e. rw same (omega (arith, length_within sdu size (i * size)));
      follows = λ e clear. rw same (next_room j sdu size number i lt within fits e);
    }

get_in_front : (xs ys : List Part) (i : ℕ) → i < length xs → slice_get (xs ++ ys) i ≡ slice_get xs i
get_in_front [] ys i lt = absurd (omega arith)
get_in_front (x ∷ xs) ys zero lt = refl
get_in_front (x ∷ xs) ys (suc i) lt = get_in_front xs ys i (omega arith)

get_at_seam : (xs : List Part) (y : Part) (n : ℕ) → length xs ≡ n → slice_get (xs ++ y ∷ []) n ≡ Some y
get_at_seam [] y zero is = refl
get_at_seam [] y (suc n) is = absurd (omega arith)
get_at_seam (x ∷ xs) y zero is = absurd (omega arith)
get_at_seam (x ∷ xs) y (suc n) is = get_at_seam xs y n (omega arith)

pub length-first_parts : (len size k : ℕ) → length (first_parts len size k) ≡ k
length-first_parts len size zero = refl
length-first_parts len size (suc k) = omega (arith, length-append (first_parts len size k) (part_at len size k ∷ []), length-first_parts len size k)

-- the part at a place
pub get-first_parts : (len size k i : ℕ) → i < k → slice_get (first_parts len size k) i ≡ Some (part_at len size i)
get-first_parts len size zero i lt = absurd (omega arith)
get-first_parts len size (suc k) i lt =
    elim (cases_lt i k) [
      | inl less ↦ get_in_front (first_parts len size k) (part_at len size k ∷ []) i (omega (arith, length-first_parts len size k)) ∙ get-first_parts len size k i less
      | inr le ↦ (let same : i ≡ k = omega arith in rw same (get_at_seam (first_parts len size k) (part_at len size k) k (length-first_parts len size k)))
    ]
