-- The two ends of a flow stand side by side.
use Rattle.std.proofs.Common.{◌≡◌, ◌≢◌, ℕ, ◌+◌, ◌-◌, ◌<◌, ◌*◌, ◌/◌, ◌%◌, refl, inl, inr, ◌⊎◌, arith}
use Rattle.std.proofs.lemmas.Bool.Decides.{eqb_tells}
use Rattle.rina_iface.specs.declared.state.Role.TheVariants.{Asker, Far}
use Rattle.rina_wire.specs.Send.{mate}
use Rattle.rina_wire.specs.Sound.{role_at}

-- the asker's place is even
pub record IsEven (i : ℕ) : Type 0 where
  pub even : i % 2 ≡ 0
  pub mate_is : mate i ≡ i + 1
  pub role_is : role_at i ≡ Asker

-- the far end's place is odd
pub record IsOdd (i : ℕ) : Type 0 where
  pub odd : i % 2 ≡ 1
  pub mate_is : mate i ≡ i - 1
  pub role_is : role_at i ≡ Far

pub side : (i : ℕ) → IsEven i ⊎ IsOdd i
side i = elim (eqb_tells (i % 2) 0) [
  | inl t ↦ inl (record { even = t.1; mate_is = rw t.0 refl; role_is = rw t.0 refl })
  | inr f ↦ inr (record { odd = omega (arith, f.1); mate_is = rw f.0 refl; role_is = rw f.0 refl })
]

pub mate_mate : (i : ℕ) → mate (mate i) ≡ i
mate_mate i = elim (side i) [
  | inl e ↦ elim (side (mate i)) [ inl f ↦ absurd (omega (arith, e.even, e.mate_is, f.even)) | inr f ↦ omega (arith, e.mate_is, f.mate_is) ]
  | inr e ↦ elim (side (mate i)) [ inl f ↦ omega (arith, e.odd, e.mate_is, f.mate_is) | inr f ↦ absurd (omega (arith, e.odd, e.mate_is, f.odd)) ]
]

pub mate_half : (i : ℕ) → mate i / 2 ≡ i / 2
mate_half i = elim (side i) [ inl e ↦ omega (arith, e.even, e.mate_is) | inr e ↦ omega (arith, e.odd, e.mate_is) ]

pub mate_apart : (i : ℕ) → mate i ≢ i
mate_apart i h = elim (side i) [ inl e ↦ omega (arith, h, e.mate_is) | inr e ↦ omega (arith, h, e.odd, e.mate_is) ]

pub role_apart : (i : ℕ) → role_at (mate i) ≢ role_at i
role_apart i h = elim (side i) [
  | inl e ↦ elim (side (mate i)) [ inl f ↦ absurd (omega (arith, e.even, e.mate_is, f.even)) | inr f ↦ let a = e.role_is in let b = f.role_is in cc ]
  | inr e ↦ elim (side (mate i)) [ inl f ↦ let a = e.role_is in let b = f.role_is in cc | inr f ↦ absurd (omega (arith, e.odd, e.mate_is, f.odd)) ]
]

-- two places of one flow are one, or mates
pub one_flow : (i k : ℕ) → i / 2 ≡ k / 2 → (k ≡ i) ⊎ (k ≡ mate i)
one_flow i k h = elim (side i) [
  | inl e ↦ elim (side k) [ inl f ↦ inl (omega (arith, h, e.even, f.even)) | inr f ↦ inr (omega (arith, h, e.even, e.mate_is, f.odd)) ]
  | inr e ↦ elim (side k) [ inl f ↦ inr (omega (arith, h, e.odd, e.mate_is, f.even)) | inr f ↦ inl (omega (arith, h, e.odd, f.odd)) ]
]

-- the mate of an end is there, since there are two of each flow
pub mate_within : (i size flows : ℕ) → size ≡ 2 * flows → i < size → mate i < size
mate_within i size flows even lt = elim (side i) [ inl e ↦ omega (arith, even, lt, e.even, e.mate_is) | inr e ↦ omega (arith, lt, e.odd, e.mate_is) ]
