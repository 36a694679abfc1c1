-- The places of a shelf are the machine's held pieces, before and after a row.
use Rattle.std.proofs.Common.{◌≡◌, ◌≢◌, ℕ, ◌+◌, ◌%◌, ◌^◌, ◌<◌, ◌≤◌, List, [], ◌∷◌, length, Bool, true, false, cond, ◌&&◌, ◌||◌, eqb, leb, refl, sym, ◌∙◌, ap, subst, arith, inl, inr}
use Rattle.std.proofs.lemmas.Bool.{eqb-true, ne_eqb, le-leb, lt-leb, leb-false, cases_lt, or_cases, true≢false, false_from_ne_true}
use Rattle.std.proofs.lemmas.Bool.Decides.{eqb_tells}
use Rattle.rina_dtp.specs.Joins.{Joins}
use Rattle.rina_dtp.specs.Shelf.{Place, Shelved, holds, part_at, with_piece, Holds}
use Rattle.rina_dtp.specs.Stands.{IsJoiner}
use Rattle.rina_dtp.proofs.Placed.{same_place, holds_put, part_put_same, part_put_other, length-with_piece}
use Rattle.rina_dtp.proofs.Followed.{Between}
use Rattle.rina_law.specs.Lists.{has}
use Rattle.rina_law.specs.Pieces.{Joined}
use Rattle.rina_law.specs.Receiver.{Piece, numbers, part_in, from_on}

-- Held pieces from a number on

pub has-from_on : (n k : ℕ) (held : List Piece) → has k (numbers (from_on n held)) ≡ (leb n k && has k (numbers held))
has-from_on n k [] = none (leb n k)
  where
    none : (b : Bool) → false ≡ (b && false)
    none true = refl
    none false = refl
has-from_on n k (p ∷ ps) = by_test (leb n p.number) refl (has-from_on n k ps)
  where
    by_test : (b : Bool) → leb n p.number ≡ b → has k (numbers (from_on n ps)) ≡ (leb n k && has k (numbers ps)) → has k (numbers (cond b (p ∷ from_on n ps) (from_on n ps))) ≡ (leb n k && (eqb k p.number || has k (numbers ps)))
    by_test true e h = elim (eqb_tells k p.number) [
      | inl is ↦ (let low : leb n k ≡ true = ap (leb n) is.1 ∙ e in rw (is.0, low) refl)
      | inr other ↦ (rw other.0 h)
    ]
    by_test false e h = elim (eqb_tells k p.number) [
      | inl is ↦ (let low : leb n k ≡ false = ap (leb n) is.1 ∙ e in h ∙ (rw (is.0, low) refl))
      | inr other ↦ (rw other.0 h)
    ]

pub part_in-from_on : (n k : ℕ) (held : List Piece) → n ≤ k → part_in k (from_on n held) ≡ part_in k held
part_in-from_on n k [] le = refl
part_in-from_on n k (p ∷ ps) le = by_test (leb n p.number) refl (part_in-from_on n k ps le)
  where
    by_test : (b : Bool) → leb n p.number ≡ b → part_in k (from_on n ps) ≡ part_in k ps → part_in k (cond b (p ∷ from_on n ps) (from_on n ps)) ≡ cond (eqb k p.number) p.part (part_in k ps)
    by_test true e h = ap (λ x. cond (eqb k p.number) p.part x) h
    by_test false e h =
        (let gt = leb-false n p.number e in
        let ne : eqb k p.number ≡ false = ne_eqb k p.number (λ x. omega arith) in
        rw ne h)

-- A piece that is put there

pub holds_one_more : (held : List Piece) (s : Shelved) (p : Piece) (new : Shelved) → 1 ≤ length s.places → Holds held s → s.next < p.number → p.number < s.next + length s.places → p.number < 2 ^ 32
    → new ≡ record s { places = with_piece p.number p.part.begins p.part.ends p.part.body s.places } → Holds (p ∷ held) new
holds_one_more held s p new some h above below small is =
    let H : Shelved → Type 0 = λ x. Holds (p ∷ held) x in
    let n = p.number in
    let alone = λ (k : ℕ) (there : holds s.places k ≡ true) (e : k % length s.places ≡ n % length s.places).
    (let (low, high, fits) = h.within k there in same_place (length s.places) k n (omega arith) (omega arith) e) in
    let put = λ (k : ℕ). holds_put s.places n p.part.begins p.part.ends p.part.body k some (alone k) in
    let count = length-with_piece s.places n p.part.begins p.part.ends p.part.body in
    subst H (sym is) (record {
      same = λ k. ap (λ b. eqb k n || b) (h.same k) ∙ sym (put k);
      parts = λ k there. part_more held s p k some h (λ t. alone k t) (sym (put k) ∙ there);
      within = λ k there. elim (or_cases (eqb k n) (holds s.places k) (sym (put k) ∙ there)) [
        | inl t ↦ (let e = eqb-true k n t in (omega arith, omega arith, omega arith))
        | inr t ↦ (let (low, high, fits) = h.within k t in (low, omega arith, fits))
      ];
    })
  where
    part_more : (held : List Piece) (s : Shelved) (p : Piece) (k : ℕ) → 1 ≤ length s.places → Holds held s → (holds s.places k ≡ true → k % length s.places ≡ p.number % length s.places → k ≡ p.number) → (eqb k p.number || holds s.places k) ≡ true
        → part_in k (p ∷ held) ≡ part_at (with_piece p.number p.part.begins p.part.ends p.part.body s.places) k
    part_more held s p k some h alone there = elim (eqb_tells k p.number) [
      | inl t ↦
          (let same : part_in k (p ∷ held) ≡ p.part = ap (λ b. cond b p.part (part_in k held)) t.0 in
          same ∙ sym (ap (part_at (with_piece p.number p.part.begins p.part.ends p.part.body s.places)) t.1 ∙ part_put_same s.places p.number p.part.begins p.part.ends p.part.body some))
      | inr t ↦
          (let old : holds s.places k ≡ true = ap (λ b. b || holds s.places k) (sym t.0) ∙ there in
          let other : part_in k (p ∷ held) ≡ part_in k held = ap (λ b. cond b p.part (part_in k held)) t.0 in
          other ∙ h.parts k old ∙ sym (part_put_other s.places p.number p.part.begins p.part.ends p.part.body k (λ e. t.1 (alone old e))))
    ]

-- Between the rows

-- the places of a state are those with which the held pieces that follow begin
pub begin_between : (held : List Piece) (s t : Shelved) (n w largest : ℕ) (o : Joined) (j : Joins) → 1 ≤ w → length s.places ≡ w → Holds held s → n ≡ s.next → t.next ≡ s.next + 1 → t.places ≡ s.places
    → IsJoiner o.joiner j.joining → (0 < o.joiner.count → o.joiner.from + o.joiner.count ≡ n + 1) → j.whole ≡ o.whole → j.joining.largest ≡ largest → Between (n + w) largest held o t j
begin_between held s t n w largest o j some count h is next places joiner reach whole size = record {
  some = (let e = ap (λ (x : List Place). length x) places in omega arith);
  same = λ k le. h.same k ∙ ap (λ (x : List Place). holds x k) (sym places);
  parts = λ k there. h.parts k (ap (λ (x : List Place). holds x k) (sym places) ∙ there) ∙ ap (λ (x : List Place). part_at x k) (sym places);
  within = λ k there. (let (low, high, fits) = h.within k (ap (λ (x : List Place). holds x k) (sym places) ∙ there) in (omega arith, omega arith, fits));
  joiner = joiner;
  reach = λ x. (let r = reach x in omega arith);
  whole = whole;
  size = size;
}

-- and those that are left are the places of the state after it
pub end_holds : (bound largest : ℕ) (held : List Piece) (o : Joined) (t : Shelved) (j : Joins) → Between bound largest held o t j → bound ≤ t.next + length t.places → holds t.places t.next ≡ false → Holds (from_on t.next held) t
end_holds bound largest held o t j b top stop = record {
  same = λ k. has-from_on t.next k held ∙ (elim (cases_lt k t.next) [
    | inl less ↦
        (let f : leb t.next k ≡ false = lt-leb t.next k less in
        let none : holds t.places k ≡ false = false_from_ne_true (holds t.places k) (λ yes. (let low = (b.within k yes).0 in omega arith)) in
        rw (f, none) refl)
    | inr le ↦ (let f : leb t.next k ≡ true = le-leb t.next k le in rw f (b.same k le))
  ]);
  parts = λ k there. part_in-from_on t.next k held ((b.within k there).0) ∙ b.parts k there;
  within = λ k there.
      (let (low, high, fits) = b.within k there in
      let ne : k ≢ t.next = λ e. true≢false (sym there ∙ ap (holds t.places) e ∙ stop) in
      (omega arith, omega arith, fits));
}
