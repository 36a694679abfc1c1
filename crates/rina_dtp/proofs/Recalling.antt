-- The ring tells the numbers that the machine accepted lately.
use Rattle.std.proofs.Common.{◌≡◌, ℕ, ◌+◌, ◌<◌, List, [], ◌∷◌, Bool, true, false, cond, ◌||◌, eqb, leb, refl, sym, ◌∙◌, ap, arith, inl, inr}
use Rattle.std.proofs.lemmas.Bool.{lt-leb, le-leb, ne_eqb, cases_lt}
use Rattle.rina_dtp.specs.Ring.{Recent, bit, has_number, Recalls, IsAdded, IsAlone}
use Rattle.rina_law.specs.Lists.{has, highest}

pub has-above : (k : ℕ) (ns : List ℕ) → highest ns < k → has k ns ≡ false
has-above k [] h = refl
has-above k (n ∷ ns) h =
    let rest : has k ns ≡ false = has-above k ns (omega arith) in
    let ne : eqb k n ≡ false = ne_eqb k n (λ e. omega arith) in
    rw (ne, rest) refl

-- a number that is not too old was accepted exactly where the ring has it
pub recalls_number : (accepted : List ℕ) (r : Recent) (n : ℕ) → Recalls accepted r → r.top < n + 4096 → has_number r n ≡ has n accepted
recalls_number accepted r n h lt =
    let top = h.top in
    elim (cases_lt r.top n) [
      | inl above ↦ (let f : leb n r.top ≡ false = lt-leb n r.top above in rw f (sym (has-above n accepted (omega arith))))
      | inr low ↦ (let f : leb n r.top ≡ true = le-leb n r.top low in rw f (h.bits n low lt))
    ]

or_is_cond : (a z : Bool) → cond a true z ≡ (a || z)
or_is_cond true z = refl
or_is_cond false z = refl

or_false : (a : Bool) → a ≡ (a || false)
or_false true = refl
or_false false = refl

pub recalls_added : (accepted : List ℕ) (n : ℕ) (old new : Recent) → Recalls accepted old → IsAdded n old new → Recalls (n ∷ accepted) new
recalls_added accepted n old new h a =
    let top = h.top in
    let up = a.top in
    record {
      top = omega arith;
      bits = λ k le lt.
          (let rest : cond (leb k old.top) (bit old.bits k) false ≡ has k accepted = elim (cases_lt old.top k) [
            | inl above ↦ (let f : leb k old.top ≡ false = lt-leb k old.top above in rw f (sym (has-above k accepted (omega arith))))
            | inr low ↦ (let f : leb k old.top ≡ true = le-leb k old.top low in rw f (h.bits k low (omega arith)))
          ] in
          a.bits k le lt ∙ ap (λ z. cond (eqb k n) true z) rest ∙ or_is_cond (eqb k n) (has k accepted));
    }

pub recalls_alone : (n : ℕ) (r : Recent) → IsAlone n r → Recalls (n ∷ []) r
recalls_alone n r a =
    let top = a.top in
    record {
      top = omega arith;
      bits = λ k le lt. a.bits k (omega arith) (omega arith) ∙ or_false (eqb k n);
    }
