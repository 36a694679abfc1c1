-- A number that is read is the number that was written, and what was written is read again.
use Rattle.std.proofs.Common.{◌≡◌, ℕ, ◌+◌, ◌*◌, ◌^◌, ◌<◌, ◌≤◌, Bool, true, false, cond, ltb, List, [], ◌∷◌, ◌++◌, length, get_or, take, drop, Option, Some, None, inl, inr, refl, sym, ap, subst, ◌∙◌, append_assoc, arith}
use Rattle.std.proofs.lemmas.Bool.{cases_lt, ltb-false, le-ltb}
use Rattle.std.proofs.lemmas.List.{take_at, drop_at, take-append-drop, length-append, length-take, get_or-drop, get_or-take, get_or_past}
use Rattle.std.proofs.lemmas.Nat.{be_bytes_2, be_bytes_4, from_be_bytes-to_be_bytes_2, from_be_bytes-to_be_bytes_4}
use Rattle.rina_pci.specs.Spelling.{IsWidth, IsBytes, be}
use Rattle.rina_pci.specs.Reading.{◌>>=◌, from_be, number_at}

IsBytes-drop : (n : ℕ) (bytes : List ℕ) → IsBytes bytes → IsBytes (drop n bytes)
IsBytes-drop n bytes h i = rw get_or-drop (h (n + i))

pub IsBytes-take : (n : ℕ) (bytes : List ℕ) → IsBytes bytes → IsBytes (take n bytes)
IsBytes-take n bytes h i =
    elim (cases_lt i n) [
      | inl lt ↦ rw (get_or-take n bytes i 0 lt) (h i)
      | inr le ↦ rw (get_or_past (take n bytes) i 0 (omega (arith, length-take n bytes))) (omega arith)
    ]

-- the value of a step that was taken
pub bind_some : {A B : Type 0} (o : Option A) (f : A → Option B) (y : B) → (o >>= f) ≡ Some y → (x : A) × (o ≡ Some x) × (f x ≡ Some y)
bind_some (Some x) f y e = (x, refl, e)
bind_some None f y e = absurd cc

-- tests that were passed
pub guard_not : {A : Type 0} (b : Bool) (x y : A) → cond b None (Some x) ≡ Some y → (b ≡ false) × (x ≡ y)
guard_not true x y e = absurd cc
guard_not false x y e = (refl, cc)

pub guard : {A : Type 0} (b : Bool) (o : Option A) (y : A) → cond b o None ≡ Some y → (b ≡ true) × (o ≡ Some y)
guard true o y e = (refl, e)
guard false o y e = absurd cc

abbrev pub found : {A : Type 0} → A → Option A
found x = Some x

some_is : {A : Type 0} (x y : A) → found x ≡ found y → x ≡ y
some_is x y e = cc

-- what holds of what was made holds of what was found
pub carry : {A : Type 0} (P : A → Type 0) (x y : A) → found x ≡ found y → P x → P y
carry P x y e h = subst P (some_is x y e) h

-- what a reader took from the front
pub record Takes (bytes text rest : List ℕ) : Type 0 where
  pub parts : bytes ≡ text ++ rest
  pub rest_fits : IsBytes rest

pub Takes-then : (a x b y c : List ℕ) → Takes a x b → Takes b y c → Takes a (x ++ y) c
Takes-then a x b y c p q = record { parts = p.parts ∙ ap (λ (t : List ℕ). x ++ t) q.parts ∙ sym (append_assoc x y c); rest_fits = q.rest_fits }

-- ---- numbers of a width

pub record IsWide (w : ℕ) : Type 0 where
  pub len : (n : ℕ) → length (be w n) ≡ w
  pub back : (bytes : List ℕ) → length bytes ≡ w → IsBytes bytes → be w (from_be w bytes) ≡ bytes
  pub again : (n : ℕ) → n < 2 ^ (8 * w) → from_be w (be w n) ≡ n
  pub below : (bytes : List ℕ) → IsBytes bytes → from_be w bytes < 2 ^ (8 * w)
  pub some : 0 < 2 ^ (8 * w)

one_byte : (bytes : List ℕ) → length bytes ≡ 1 → get_or bytes 0 0 ∷ [] ≡ bytes
one_byte [] e = absurd (omega arith)
one_byte (b ∷ []) e = refl
one_byte (b ∷ c ∷ bytes) e = absurd (omega arith)

wide_1 : IsWide 1
unfolding be from_be
wide_1 = record { len = λ n. refl; back = λ bytes len fits. one_byte bytes len; again = λ n lt. refl; below = λ bytes fits. fits 0; some = omega arith }

wide_2 : IsWide 2
unfolding be from_be
wide_2 = record { len = λ n. refl; back = λ bytes len fits. be_bytes_2 bytes _ len fits refl; again = λ n lt. from_be_bytes-to_be_bytes_2 n lt; below = λ bytes fits. omega (arith, fits 0, fits 1); some = omega arith }

wide_4 : IsWide 4
unfolding be from_be
wide_4 = record { len = λ n. refl; back = λ bytes len fits. be_bytes_4 bytes _ len fits refl; again = λ n lt. from_be_bytes-to_be_bytes_4 n lt; below = λ bytes fits. omega (arith, fits 0, fits 1, fits 2, fits 3); some = omega arith }

pub wide : (w : ℕ) → IsWidth w → IsWide w
wide w (inl e) = subst IsWide (sym e) wide_1
wide w (inr (inl e)) = subst IsWide (sym e) wide_2
wide w (inr (inr e)) = subst IsWide (sym e) wide_4

pub number_takes : (w : ℕ) (bytes : List ℕ) (n : ℕ) (rest : List ℕ) → IsWide w → IsBytes bytes → number_at w bytes ≡ Some (n, rest) → Takes bytes (be w n) rest × (n < 2 ^ (8 * w))
unfolding number_at
number_takes w bytes n rest wide fits e =
    let g = guard_not (ltb (length bytes) w) (from_be w (take w bytes), drop w bytes) (n, rest) e in
    let long : w ≤ length bytes = ltb-false _ _ g.0 in
    let n-is : from_be w (take w bytes) ≡ n = ap (λ (p : ℕ × List ℕ). p.0) g.1 in
    let rest-is : drop w bytes ≡ rest = ap (λ (p : ℕ × List ℕ). p.1) g.1 in
    let front : be w n ≡ take w bytes = rw (← n-is) (wide.back (take w bytes) (omega (arith, length-take w bytes)) (IsBytes-take w bytes fits)) in
    (record { parts = rw (front, ← rest-is) (sym (take-append-drop w bytes)); rest_fits = rw (← rest-is) (IsBytes-drop w bytes fits) }, rw (← n-is) (wide.below (take w bytes) (IsBytes-take w bytes fits)))

pub number_again : (w n : ℕ) (rest : List ℕ) → IsWide w → n < 2 ^ (8 * w) → number_at w (be w n ++ rest) ≡ Some (n, rest)
unfolding number_at
number_again w n rest wide lt =
    let len = wide.len n in
    let long : ltb (length (be w n ++ rest)) w ≡ false = le-ltb _ _ (omega (arith, length-append (be w n) rest)) in
    rw (long, take_at (be w n) rest w len, drop_at (be w n) rest w len, wide.again n lt) refl
