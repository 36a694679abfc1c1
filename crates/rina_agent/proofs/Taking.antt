-- What is kept is at least as new after an item was taken.
use Rattle.std.proofs.Common.{◌≡◌, ℕ, true, false, cond, List, [], ◌∷◌, ◌++◌, Option, Some, None, refl, sym, ◌∙◌, ap, subst, inl, inr, arith}
use Rattle.std.specs.Str.{bytes_eq}
use Rattle.std.proofs.lemmas.Bool.{cases_Bool, both_ways}
use Rattle.std.proofs.lemmas.Option.{same_Some}
use Rattle.std.proofs.lemmas.Grind.{common_steps}
use Rattle.std.proofs.lemmas.Slice.Eq.{bytes_eq-Decides}
use Rattle.rina_newest.specs.declared.item.Version.{Version}
use Rattle.rina_newest.specs.declared.item.Item.{Item}
use Rattle.rina_newest.specs.Newest.{is_below, is_newer, has_key, kept_at, without, taken}
use Rattle.rina_agent.specs.Enrolled.{IsAtLeast}

key_same : (p q : List ℕ) → bytes_eq p q ≡ true → p ≡ q
key_same p q e = (let d = bytes_eq-Decides p q in grind (arith, d, e))

key_itself : (p q : List ℕ) → p ≡ q → bytes_eq p q ≡ true
key_itself p q e = (let d = bytes_eq-Decides p q in grind (arith, d, e))

kept_other : (key : List ℕ) (x : Item) (items : List Item) → has_key key x ≡ false → kept_at (without x.key items ++ x ∷ []) key ≡ kept_at items key
kept_other key x [] lacks = rw lacks refl
kept_other key x (i ∷ items) lacks = elim (cases_Bool (has_key x.key i)) [
  | inl is ↦
      (let also : has_key key i ≡ false = elim (cases_Bool (has_key key i)) [
        | inl too ↦ absurd (both_ways (has_key key x) lacks (key_itself key x.key (key_same key i.key too ∙ sym (key_same x.key i.key is))))
        | inr n ↦ n
      ] in
      rw (is, also) (kept_other key x items lacks))
  | inr apart ↦ rw apart (ap (λ (o : Option Item). cond (has_key key i) (Some i) o) (kept_other key x items lacks))
]

kept_same : (key : List ℕ) (x : Item) (items : List Item) → has_key key x ≡ true → kept_at (without x.key items ++ x ∷ []) key ≡ Some x
kept_same key x [] has = rw has refl
kept_same key x (i ∷ items) has = elim (cases_Bool (has_key x.key i)) [
  | inl too ↦ rw too (kept_same key x items has)
  | inr apart ↦
      (let also : has_key key i ≡ false = elim (cases_Bool (has_key key i)) [
        | inl too ↦ absurd (both_ways (has_key x.key i) apart (key_itself x.key i.key (sym (key_same key x.key has) ∙ key_same key i.key too)))
        | inr n ↦ n
      ] in
      rw (apart, also) (kept_same key x items has))
]

-- what is taken, where it is newer, and what is not
taken_new : (items : List Item) (x : Item) → is_newer x.version (kept_at items x.key) ≡ true → taken items x ≡ without x.key items ++ x ∷ []
unfolding taken
taken_new items x newer = rw newer refl

pub taken_same : (items : List Item) (x : Item) → is_newer x.version (kept_at items x.key) ≡ false → taken items x ≡ items
unfolding taken
taken_same items x old = rw old refl

itself : (v : Version) → is_below v v ≡ false
unfolding is_below
itself v = grind (arith, common_steps)

-- newer than what is at least as new
newer_least : (x y z : Version) → is_below y x ≡ false → is_below y z ≡ true → is_below z x ≡ false
unfolding is_below
newer_least x y z h k = grind (arith, common_steps, h, k)

at_least_kept : (items : List Item) (x : Item) (o : Option Item) → kept_at items x.key ≡ o → is_newer x.version o ≡ false → IsAtLeast items x
at_least_kept items x None is old = absurd (both_ways true old refl)
at_least_kept items x (Some y) is old = record { item = y; kept = is; least = old }

-- what was taken is kept, or newer
pub taken_least : (items : List Item) (x : Item) → IsAtLeast (taken items x) x
taken_least items x = elim (cases_Bool (is_newer x.version (kept_at items x.key))) [
  | inl newer ↦ (let P : List Item → Type 0 = λ is. IsAtLeast is x in
      subst P (sym (taken_new items x newer)) (record { item = x; kept = kept_same x.key x items (key_itself x.key x.key refl); least = itself x.version }))
  | inr old ↦ (let P : List Item → Type 0 = λ is. IsAtLeast is x in
      subst P (sym (taken_same items x old)) (at_least_kept items x (kept_at items x.key) refl old))
]

newer_than : (v : Version) (o : Option Item) (y : Item) → is_newer v o ≡ true → o ≡ Some y → is_below y.version v ≡ true
newer_than v None y e is = absurd (cc)
newer_than v (Some z) y e is =
    let P : Item → Type 0 = λ w. is_below w.version v ≡ true in
    subst P (same_Some z y is) e

put_keeps : (items : List Item) (z x : Item) → is_newer z.version (kept_at items z.key) ≡ true → IsAtLeast items x → IsAtLeast (without z.key items ++ z ∷ []) x
put_keeps items z x newer h = elim (cases_Bool (has_key x.key z)) [
  | inl same ↦ record {
    item = z;
    kept = kept_same x.key z items same;
    least = newer_least x.version h.item.version z.version h.least (newer_than z.version (kept_at items z.key) h.item newer (ap (λ (k : List ℕ). kept_at items k) (sym (key_same x.key z.key same)) ∙ h.kept));
  }
  | inr apart ↦ record { item = h.item; kept = kept_other x.key z items apart ∙ h.kept; least = h.least }
]

-- taking an item keeps what is at least as new
pub taken_keeps : (items : List Item) (z x : Item) → IsAtLeast items x → IsAtLeast (taken items z) x
taken_keeps items z x h = elim (cases_Bool (is_newer z.version (kept_at items z.key))) [
  | inl newer ↦ (let P : List Item → Type 0 = λ is. IsAtLeast is x in subst P (sym (taken_new items z newer)) (put_keeps items z x newer h))
  | inr old ↦ (let P : List Item → Type 0 = λ is. IsAtLeast is x in subst P (sym (taken_same items z old)) h)
]
