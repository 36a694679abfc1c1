-- How the slots of the wheel lie: by their first ticks, and where a timer belongs once the clock is there.
use Rattle.std.proofs.Common.{◌≡◌, ◌≢◌, ℕ, zero, suc, ◌+◌, ◌-◌, ◌*◌, ◌/◌, ◌%◌, ◌<◌, ◌≤◌, refl, sym, ◌∙◌, ap, arith, inl, inr}
use Rattle.std.proofs.lemmas.Bool.Decides.{eqb_tells}
use Rattle.rina_timers.specs.Wheel.{slot, slot_start}

-- a slot and its first tick, by whether both ticks agree above this level
pub slot_here : (n c t : ℕ) → c / 64 ≡ t / 64 → slot (suc n) c t ≡ t % 64
unfolding slot
slot_here n c t e = elim (eqb_tells (c / 64) (t / 64)) [ inl is ↦ rw is.0 refl | inr not ↦ absurd (not.1 e) ]

pub slot_above : (n c t : ℕ) → c / 64 ≢ t / 64 → slot (suc n) c t ≡ 64 + slot n (c / 64) (t / 64)
unfolding slot
slot_above n c t e = elim (eqb_tells (c / 64) (t / 64)) [ inl is ↦ absurd (e is.1) | inr not ↦ rw not.0 refl ]

pub start_here : (n c t : ℕ) → c / 64 ≡ t / 64 → slot_start (suc n) c t ≡ t
unfolding slot_start
start_here n c t e = elim (eqb_tells (c / 64) (t / 64)) [ inl is ↦ rw is.0 refl | inr not ↦ absurd (not.1 e) ]

pub start_above : (n c t : ℕ) → c / 64 ≢ t / 64 → slot_start (suc n) c t ≡ 64 * slot_start n (c / 64) (t / 64)
unfolding slot_start
start_above n c t e = elim (eqb_tells (c / 64) (t / 64)) [ inl is ↦ absurd (e is.1) | inr not ↦ rw not.0 refl ]

pub slot_last : (c t : ℕ) → slot zero c t ≡ t
unfolding slot
slot_last c t = refl

pub start_last : (c t : ℕ) → slot_start zero c t ≡ t
unfolding slot_start
start_last c t = refl

-- a slot begins after the clock
pub start_after : (n c t : ℕ) → c < t → c < slot_start n c t
start_after zero c t h = rw (start_last c t) h
start_after (suc n) c t h = elim (eqb_tells (c / 64) (t / 64)) [
  | inl is ↦ rw (start_here n c t is.1) h
  | inr not ↦ (let apart = not.1 in let up = start_after n (c / 64) (t / 64) (omega arith) in rw (start_above n c t apart) (omega (arith, up)))
]

-- a slot begins no later than any tick of it or of a later slot
pub start_within : (n c t u : ℕ) → c < t → c < u → slot n c t ≤ slot n c u → slot_start n c t ≤ u
start_within zero c t u h h' le = (let le' = rw (slot_last c t, slot_last c u) at le in rw (start_last c t) le')
start_within (suc n) c t u h h' le = elim (eqb_tells (c / 64) (t / 64)) [
  | inl is ↦ elim (eqb_tells (c / 64) (u / 64)) [
    | inl is' ↦ (let le' = rw (slot_here n c t is.1, slot_here n c u is'.1) at le in rw (start_here n c t is.1) (omega (arith, is.1, is'.1, le')))
    | inr not ↦ (let apart = not.1 in rw (start_here n c t is.1) (omega (arith, is.1, apart, h')))
  ]
  | inr not ↦ elim (eqb_tells (c / 64) (u / 64)) [
    | inl is ↦ (let le' = rw (slot_above n c t not.1, slot_here n c u is.1) at le in absurd (omega (arith, le')))
    | inr not' ↦
        (let apart = not.1 in let apart' = not'.1 in
        let le' = rw (slot_above n c t apart, slot_above n c u apart') at le in
        let up = start_within n (c / 64) (t / 64) (u / 64) (omega arith) (omega arith) (omega (arith, le')) in
        rw (start_above n c t apart) (omega (arith, up)))
  ]
]

-- once the clock is at the start of a slot, a later tick of it belongs to an earlier slot
pub slot_drops : (n c t u : ℕ) → c < t → c < u → slot n c u ≡ slot n c t → slot_start n c t < u → slot n (slot_start n c t) u < slot n c t
slot_drops zero c t u h h' e s = (let s' = rw (start_last c t) at s in let e' = rw (slot_last c t, slot_last c u) at e in absurd (omega (arith, s', e')))
slot_drops (suc n) c t u h h' e s = elim (eqb_tells (c / 64) (t / 64)) [
  | inl is ↦ (let s' = rw (start_here n c t is.1) at s in elim (eqb_tells (c / 64) (u / 64)) [
    | inl is' ↦ (let e' = rw (slot_here n c u is'.1, slot_here n c t is.1) at e in absurd (omega (arith, is.1, is'.1, e', s')))
    | inr not ↦ (let e' = rw (slot_above n c u not.1, slot_here n c t is.1) at e in absurd (omega (arith, e')))
  ])
  | inr not ↦ (let apart = not.1 in let s' = rw (start_above n c t apart) at s in elim (eqb_tells (c / 64) (u / 64)) [
    | inl is ↦ (let e' = rw (slot_here n c u is.1, slot_above n c t apart) at e in absurd (omega (arith, e')))
    | inr not' ↦
        (let apart' = not'.1 in
        let e' = rw (slot_above n c u apart', slot_above n c t apart) at e in
        let up : ℕ = slot_start n (c / 64) (t / 64) in
        let down : 64 * up / 64 ≡ up = omega arith in
        rw (start_above n c t apart, slot_above n c t apart) (elim (eqb_tells (64 * up / 64) (u / 64)) [
          | inl same ↦ rw (slot_here n (64 * up) u same.1) (omega arith)
          | inr far ↦
              (let far' = far.1 in
              let less = slot_drops n (c / 64) (t / 64) (u / 64) (omega arith) (omega arith) (omega (arith, e')) (omega (arith, s', far', down)) in
              rw (slot_above n (64 * up) u far') (rw down (omega (arith, less))))
        ]))
  ])
]

-- a tick of a later slot comes after that, and stays where it is
pub slot_stays : (n c t u : ℕ) → c < t → c < u → slot n c t < slot n c u → (slot_start n c t < u) × (slot n (slot_start n c t) u ≡ slot n c u)
slot_stays zero c t u h h' lt = (let lt' = rw (slot_last c t, slot_last c u) at lt in (rw (start_last c t) lt', slot_last (slot_start zero c t) u ∙ sym (slot_last c u)))
slot_stays (suc n) c t u h h' lt = elim (eqb_tells (c / 64) (t / 64)) [
  | inl is ↦ elim (eqb_tells (c / 64) (u / 64)) [
    | inl is' ↦ (let lt' = rw (slot_here n c t is.1, slot_here n c u is'.1) at lt in rw (start_here n c t is.1) (omega (arith, is.1, is'.1, lt'), slot_here n t u (sym is.1 ∙ is'.1) ∙ sym (slot_here n c u is'.1)))
    | inr not ↦
        (let apart = not.1 in
        let apart' : t / 64 ≢ u / 64 = (λ z. apart (is.1 ∙ z)) in
        rw (start_here n c t is.1) (omega (arith, is.1, apart, h'), slot_above n t u apart' ∙ ap (λ k. 64 + slot n k (u / 64)) (sym is.1) ∙ sym (slot_above n c u apart)))
  ]
  | inr not ↦ elim (eqb_tells (c / 64) (u / 64)) [
    | inl is ↦ (let lt' = rw (slot_above n c t not.1, slot_here n c u is.1) at lt in absurd (omega (arith, lt')))
    | inr not' ↦
        (let apart = not.1 in let apart' = not'.1 in
        let lt' = rw (slot_above n c t apart, slot_above n c u apart') at lt in
        let (less, same) = slot_stays n (c / 64) (t / 64) (u / 64) (omega arith) (omega arith) (omega (arith, lt')) in
        let up : ℕ = slot_start n (c / 64) (t / 64) in
        let down : 64 * up / 64 ≡ up = omega arith in
        let far : 64 * up / 64 ≢ u / 64 = (λ z. absurd (omega (arith, less, down, z))) in
        rw (start_above n c t apart) (omega (arith, less), slot_above n (64 * up) u far ∙ ap (λ k. 64 + slot n k (u / 64)) down ∙ ap (λ k. 64 + k) same ∙ sym (slot_above n c u apart')))
  ]
]

-- the same, as code steps down
pub slot_zero : (levels c t : ℕ) → levels ≡ 0 → slot levels c t ≡ t
slot_zero zero c t h = slot_last c t
slot_zero (suc n) c t h = absurd cc

pub slot_equal : (levels c t : ℕ) → levels ≢ 0 → c / 64 ≡ t / 64 → slot levels c t ≡ t % 64
slot_equal zero c t h e = absurd (h refl)
slot_equal (suc n) c t h e = slot_here n c t e

pub slot_apart : (levels c t : ℕ) → levels ≢ 0 → c / 64 ≢ t / 64 → slot levels c t ≡ 64 + slot (levels - 1) (c / 64) (t / 64)
slot_apart zero c t h e = absurd (h refl)
slot_apart (suc n) c t h e = (let is : suc n - 1 ≡ n = omega arith in slot_above n c t e ∙ ap (λ k. 64 + slot k (c / 64) (t / 64)) (sym is))

pub start_zero : (levels c t : ℕ) → levels ≡ 0 → slot_start levels c t ≡ t
start_zero zero c t h = start_last c t
start_zero (suc n) c t h = absurd cc

pub start_equal : (levels c t : ℕ) → levels ≢ 0 → c / 64 ≡ t / 64 → slot_start levels c t ≡ t
start_equal zero c t h e = absurd (h refl)
start_equal (suc n) c t h e = start_here n c t e

pub start_apart : (levels c t : ℕ) → levels ≢ 0 → c / 64 ≢ t / 64 → slot_start levels c t ≡ 64 * slot_start (levels - 1) (c / 64) (t / 64)
start_apart zero c t h e = absurd (h refl)
start_apart (suc n) c t h e = (let is : suc n - 1 ≡ n = omega arith in start_above n c t e ∙ ap (λ k. 64 * slot_start k (c / 64) (t / 64)) (sym is))
