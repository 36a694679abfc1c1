-- The places of a shelf, when a piece is put there or taken away.
use Rattle.std.proofs.Common.{◌≡◌, ◌≢◌, ℕ, ◌+◌, ◌*◌, ◌/◌, ◌%◌, ◌<◌, ◌≤◌, List, length, get_or, set, Bool, true, false, not, ◌||◌, ◌&&◌, eqb, refl, sym, ◌∙◌, ap, arith, inl, inr, get_or-set_other, get_or-set_same}
use Rattle.std.proofs.lemmas.Bool.{and_parts, eqb-true, eq-eqb, ne_eqb, cases_lt, false_from_ne_true}
use Rattle.std.proofs.lemmas.Bool.Decides.{eqb_tells}
use Rattle.std.proofs.lemmas.List.{length-set}
use Rattle.std.proofs.lemmas.Nat.{div-add-mod', mod_below}
use Rattle.std.proofs.Math.Nat.{mul-le-mul_left}
use Rattle.rina_dtp.specs.Shelf.{Place, no_place, place_at, holds, part_at, with_piece, without}

-- two numbers less than w apart have their own places
pub same_place : (w a b : ℕ) → a < b + w → b < a + w → a % w ≡ b % w → a ≡ b
same_place w a b ab ba e =
    let xa = div-add-mod' a w in
    let xb = div-add-mod' b w in
    elim (cases_lt (a / w) (b / w)) [
      | inl less ↦ (let h : a / w + 1 ≤ b / w = omega arith in let m : w * (a / w + 1) ≤ w * (b / w) = mul-le-mul_left w h in omega arith)
      | inr ge ↦ elim (cases_lt (b / w) (a / w)) [
        | inl more ↦ (let h : b / w + 1 ≤ a / w = omega arith in let m : w * (b / w + 1) ≤ w * (a / w) = mul-le-mul_left w h in omega arith)
        | inr le ↦ (let same : a / w ≡ b / w = omega arith in let q : a / w * w ≡ b / w * w = ap (λ x. x * w) same in omega arith)
      ]
    ]

-- a number that a place holds
pub held_number : (places : List Place) (n : ℕ) → holds places n ≡ true → (place_at places n).number ≡ n
held_number places n h = eqb-true _ n ((and_parts (place_at places n).used (eqb (place_at places n).number n) h).1)

-- the places after one was written: those of the same remainder, and the others
written : (places : List Place) (n k : ℕ) (p : Place) → 1 ≤ length places → k % length places ≡ n % length places → place_at (set places (n % length places) p) k ≡ p
written places n k p some e =
    let len : length (set places (n % length places) p) ≡ length places = length-set places (n % length places) p in
    let lt : n % length places < length places = mod_below n (length places) some in
    rw (len, e) (get_or-set_same places (n % length places) p no_place lt)

kept : (places : List Place) (n k : ℕ) (p : Place) → k % length places ≢ n % length places → place_at (set places (n % length places) p) k ≡ place_at places k
kept places n k p ne =
    let len : length (set places (n % length places) p) ≡ length places = length-set places (n % length places) p in
    rw len (get_or-set_other places (n % length places) (k % length places) p no_place ne)

holds_by : (places : List Place) (k : ℕ) (p : Place) → place_at places k ≡ p → holds places k ≡ (p.used && eqb p.number k)
holds_by places k p e = ap (λ (x : Place). x.used && eqb x.number k) e

-- what is held with a piece more, whose place no other has
pub holds_put : (places : List Place) (n : ℕ) (first last : Bool) (body : List ℕ) (k : ℕ) → 1 ≤ length places → (holds places k ≡ true → k % length places ≡ n % length places → k ≡ n) → holds (with_piece n first last body places) k ≡ (eqb k n || holds places k)
holds_put places n first last body k some free =
    elim (eqb_tells (k % length places) (n % length places)) [
      | inl same ↦ elim (eqb_tells k n) [
        | inl is ↦ holds_by _ k _ (written places n k _ some same.1) ∙ eq-eqb n k (sym is.1) ∙ (let t : eqb k n ≡ true = eq-eqb k n is.1 in rw t refl)
        | inr other ↦
            (let f : eqb n k ≡ false = ne_eqb n k (λ e. other.1 (sym e)) in
            let g : eqb k n ≡ false = ne_eqb k n other.1 in
            let none : holds places k ≡ false = false_from_ne_true (holds places k) (λ h. other.1 (free h same.1)) in
            holds_by _ k _ (written places n k _ some same.1) ∙ f ∙ (rw (g, none) refl))
      ]
      | inr apart ↦
          (let g : eqb k n ≡ false = ne_eqb k n (λ e. apart.1 (ap (λ x. x % length places) e)) in
          holds_by _ k (place_at places k) (kept places n k _ apart.1) ∙ (rw g refl))
    ]

pub part_put_same : (places : List Place) (n : ℕ) (first last : Bool) (body : List ℕ) → 1 ≤ length places → part_at (with_piece n first last body places) n ≡ record { begins = first; ends = last; body = body }
part_put_same places n first last body some = ap (λ (p : Place). record { begins = p.first; ends = p.last; body = p.body }) (written places n n _ some refl)

pub part_put_other : (places : List Place) (n : ℕ) (first last : Bool) (body : List ℕ) (k : ℕ) → k % length places ≢ n % length places → part_at (with_piece n first last body places) k ≡ part_at places k
part_put_other places n first last body k ne = ap (λ (p : Place). record { begins = p.first; ends = p.last; body = p.body }) (kept places n k _ ne)

-- and without one
pub holds_without : (places : List Place) (n k : ℕ) → 1 ≤ length places → holds places n ≡ true → holds (without n places) k ≡ (not (eqb k n) && holds places k)
holds_without places n k some there =
    elim (eqb_tells (k % length places) (n % length places)) [
      | inl same ↦ elim (eqb_tells k n) [
        | inl is ↦ holds_by _ k _ (written places n k _ some same.1) ∙ (let t : eqb k n ≡ true = eq-eqb k n is.1 in rw t refl)
        | inr other ↦
            (let g : eqb k n ≡ false = ne_eqb k n other.1 in
            let at : place_at places k ≡ place_at places n = ap (λ x. get_or places x no_place) same.1 in
            let none : holds places k ≡ false = false_from_ne_true (holds places k) (λ h. other.1 (sym (held_number places k h) ∙ ap (λ (p : Place). p.number) at ∙ held_number places n there)) in
            holds_by _ k _ (written places n k _ some same.1) ∙ (rw (g, none) refl))
      ]
      | inr apart ↦
          (let g : eqb k n ≡ false = ne_eqb k n (λ e. apart.1 (ap (λ x. x % length places) e)) in
          holds_by _ k (place_at places k) (kept places n k _ apart.1) ∙ (rw g refl))
    ]

pub part_without : (places : List Place) (n k : ℕ) → 1 ≤ length places → part_at (without n places) k ≡ part_at places k
part_without places n k some =
    elim (eqb_tells (k % length places) (n % length places)) [
      | inl same ↦
          (let at : place_at places k ≡ place_at places n = ap (λ x. get_or places x no_place) same.1 in
          ap (λ (p : Place). record { begins = p.first; ends = p.last; body = p.body }) (written places n k _ some same.1) ∙ ap (λ (p : Place). record { begins = p.first; ends = p.last; body = p.body }) (sym at))
      | inr apart ↦ ap (λ (p : Place). record { begins = p.first; ends = p.last; body = p.body }) (kept places n k _ apart.1)
    ]

pub length-with_piece : (places : List Place) (n : ℕ) (first last : Bool) (body : List ℕ) → length (with_piece n first last body places) ≡ length places
length-with_piece places n first last body = length-set places (n % length places) _

pub length-without : (places : List Place) (n : ℕ) → length (without n places) ≡ length places
length-without places n = length-set places (n % length places) _
