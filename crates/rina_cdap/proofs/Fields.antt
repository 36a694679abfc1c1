-- The field that stands in front of bytes: it is there exactly where they begin with its text.
use Rattle.std.proofs.Common.{◌≡◌, ℕ, zero, suc, ◌^◌, ◌<◌, ◌≤◌, Bool, true, false, cond, ltb, ◌||◌, ◌&&◌, eqb, leb, is_ok, ◌⊎◌, inl, inr, List, [], ◌∷◌, ◌++◌, length, get_or, take, drop, Option, Some, None, refl, sym, ap, subst, arith}
use Rattle.std.specs.Int.{w16, from_be_bytes}
use Rattle.std.proofs.lemmas.Bool.{ltb-false, le-ltb, eqb-true, eqb-false, leb-true, ne_eqb, and_left, and_right, and_cases, or_parts, or_from}
use Rattle.std.proofs.lemmas.List.{take_at, drop_at, take-append-drop, length-append, length-take}
use Rattle.std.proofs.lemmas.Nat.{be_bytes_2, from_be_bytes-to_be_bytes_2}
use Rattle.rina_base.specs.Names.{name_at, app_at}
use Rattle.rina_base.specs.ObjectNames.{is_object_name}
use Rattle.rina_cdap.specs.declared.error.CdapError.{CdapError}
use Rattle.rina_cdap.specs.declared.error.CdapError.TheVariants.{BadTag, BadOp, Twice, BadValue}
use Rattle.rina_cdap.specs.Messages.{Field, field, be2, has_form, IsLawful, field_text}
use Rattle.rina_cdap.specs.Reading.{field_at, field_fault}

abbrev pub IsBytes : List ℕ → Type 0
IsBytes bytes = (i : ℕ) → get_or bytes i 0 < 256

abbrev found : Field × List ℕ → Option (Field × List ℕ)
found x = Some x

some_is : (x y : Field × List ℕ) → found x ≡ found y → x ≡ y
some_is x y e = cc

pub record IsFront (bytes : List ℕ) (f : Field) (rest : List ℕ) : Type 0 where
  pub parts : bytes ≡ field_text f ++ rest
  pub short : length f.content < 2 ^ 16

two_cells : (h l : ℕ) → h < 256 → l < 256 → be2 (from_be_bytes w16 (h ∷ l ∷ [])) ≡ h ∷ l ∷ []
unfolding be2
two_cells h l hb lb = be_bytes_2 (h ∷ l ∷ []) _ refl small refl
  where
    small : IsBytes (h ∷ l ∷ [])
    small zero = hb
    small (suc zero) = lb
    small (suc (suc i)) = omega arith

two_small : (h l : ℕ) → h < 256 → l < 256 → from_be_bytes w16 (h ∷ l ∷ []) < 2 ^ 16
two_small h l hb lb = omega arith

-- what was taken from the front is there
pub field_takes : (bytes : List ℕ) (f : Field) (rest : List ℕ) → IsBytes bytes → field_at bytes ≡ Some (f, rest) → IsFront bytes f rest
unfolding field_at field_text
field_takes (t ∷ h ∷ l ∷ after) f rest fits e = by_test (ltb (length after) n) refl e
  where
    n : ℕ
    n = from_be_bytes w16 (h ∷ l ∷ [])

    by_test : (b : Bool) → ltb (length after) n ≡ b → cond b None (found (field t (take n after), drop n after)) ≡ Some (f, rest) → IsFront (t ∷ h ∷ l ∷ after) f rest
    by_test true is e = absurd cc
    by_test false is e =
        let long : n ≤ length after = ltb-false _ _ is in
        let size : length (take n after) ≡ n = omega (arith, length-take n after) in
        let parts : t ∷ h ∷ l ∷ after ≡ field_text (field t (take n after)) ++ drop n after =
        ap (λ (xs : List ℕ). t ∷ xs) (rw (size, two_cells h l (fits 1) (fits 2)) (ap (λ (xs : List ℕ). h ∷ l ∷ xs) (sym (take-append-drop n after)))) in
        subst (λ (x : Field × List ℕ). IsFront (t ∷ h ∷ l ∷ after) x.0 x.1) (some_is (field t (take n after), drop n after) (f, rest) e) (record { parts = parts; short = omega (arith, two_small h l (fits 1) (fits 2), size) })
field_takes [] f rest fits e = absurd cc
field_takes (t ∷ []) f rest fits e = absurd cc
field_takes (t ∷ h ∷ []) f rest fits e = absurd cc

-- what stands in front is taken
pub field_again : (f : Field) (rest : List ℕ) → length f.content < 2 ^ 16 → field_at (field_text f ++ rest) ≡ Some (f, rest)
unfolding field_at field_text be2
field_again f rest short =
    let n-is = from_be_bytes-to_be_bytes_2 (length f.content) short in
    let long : ltb (length (f.content ++ rest)) (length f.content) ≡ false = le-ltb _ _ (omega (arith, length-append f.content rest)) in
    rw (n-is, long, take_at f.content rest (length f.content) refl, drop_at f.content rest (length f.content) refl) refl

-- ---- faults of a field

split : {G : Type 0} (b : Bool) → (b ≡ true → G) → (b ≡ false → G) → G
split true pass fail = pass refl
split false pass fail = fail refl

both : (a b : Bool) → (a && b) ≡ true → (a ≡ true) × (b ≡ true)
both true b e = (refl, e)
both false b e = absurd cc

abbrev table_form : ℕ → List ℕ → Bool
table_form tag content =
    cond (eqb tag 1) (eqb (length content) 1 && leb (get_or content 0 0) 17)
    (cond (eqb tag 2 || eqb tag 11 || eqb tag 12) (eqb (length content) 4)
    (cond (eqb tag 3) (is_ok (name_at content))
    (cond (eqb tag 4) (leb (length content) 255 && is_object_name content)
    (cond (eqb tag 5) (eqb (length content) 8)
    (cond (eqb tag 6) true
    (cond (eqb tag 7) (eqb (length content) 1)
    (cond (eqb tag 8) (leb (length content) 255)
    (is_ok (app_at content)))))))))

form_parts : (tag : ℕ) (content : List ℕ) → has_form tag content ≡ true → (length content < 2 ^ 16) × (table_form tag content ≡ true)
unfolding has_form
form_parts tag content e = let p = both (leb (length content) 65535) (table_form tag content) e in (omega (arith, leb-true (length content) 65535 p.0), p.1)

pub form_short : (tag : ℕ) (content : List ℕ) → has_form tag content ≡ true → length content < 2 ^ 16
form_short tag content e = (form_parts tag content e).0

pub form_operation : (content : List ℕ) → has_form 1 content ≡ true → get_or content 0 0 ≤ 17
form_operation content e = leb-true _ _ (both (eqb (length content) 1) (leb (get_or content 0 0) 17) (form_parts 1 content e).1).1

is_operation_above : (f : Field) → has_form f.tag f.content ≡ true → (eqb f.tag 1 && eqb (length f.content) 1 && ltb 17 (get_or f.content 0 0)) ≡ false
is_operation_above f form =
    split (eqb f.tag 1) (λ yes. and_right _ _ (le-ltb _ _ (form_operation f.content (subst (λ (t : ℕ). has_form t f.content ≡ true) (eqb-true _ _ yes) form))))
    (λ no. and_left _ _ (and_left _ _ no))

-- a lawful field has no fault
pub lawful_fine : (at last : ℕ) (f : Field) → IsLawful last f → field_fault at last f ≡ None
unfolding field_fault
lawful_fine at last f h =
    let apart : eqb f.tag last ≡ false = ne_eqb f.tag last (λ same. omega (arith, h.above, same)) in
    let some : eqb f.tag 0 ≡ false = ne_eqb f.tag 0 (λ same. omega (arith, h.above, same)) in
    let known : ltb 12 f.tag ≡ false = le-ltb _ _ h.known in
    let above : ltb f.tag last ≡ false = le-ltb _ _ (omega (arith, h.above)) in
    let once : (ltb 0 last && eqb f.tag last) ≡ false = and_right _ _ apart in
    let placed : (eqb f.tag 0 || ltb 12 f.tag || ltb f.tag last) ≡ false = or_from _ _ (or_from _ _ some known) above in
    rw (once, placed, is_operation_above f h.form, h.form) refl

passed : (b : Bool) (e : CdapError) (rest : Option CdapError) → cond b (Some e) rest ≡ None → (b ≡ false) × (rest ≡ None)
passed true e rest h = absurd cc
passed false e rest h = (refl, h)

formed : (b : Bool) (e : CdapError) → cond b None (Some e) ≡ None → b ≡ true
formed true e h = refl
formed false e h = absurd cc

-- a field without a fault is lawful
pub fine_lawful : (at last : ℕ) (f : Field) → field_fault at last f ≡ None → IsLawful last f
unfolding field_fault
fine_lawful at last f e =
    let t0 = passed (ltb 0 last && eqb f.tag last) (Twice f.tag) rest_1 e in
    let t1 = passed (eqb f.tag 0 || ltb 12 f.tag || ltb f.tag last) (BadTag at) rest_2 t0.1 in
    let t2 = passed (eqb f.tag 1 && eqb (length f.content) 1 && ltb 17 (get_or f.content 0 0)) (BadOp (get_or f.content 0 0)) rest_3 t1.1 in
    let form = formed (has_form f.tag f.content) (BadValue f.tag) t2.1 in
    let o = or_parts (eqb f.tag 0 || ltb 12 f.tag) (ltb f.tag last) t1.0 in
    let p = or_parts (eqb f.tag 0) (ltb 12 f.tag) o.0 in
    record { above = above (eqb-false _ _ p.0) (ltb-false _ _ o.1) (and_cases (ltb 0 last) (eqb f.tag last) t0.0); known = ltb-false _ _ p.1; form = form }
  where
    rest_3 : Option CdapError
    rest_3 = cond (has_form f.tag f.content) None (Some (BadValue f.tag))

    rest_2 : Option CdapError
    rest_2 = cond (eqb f.tag 1 && eqb (length f.content) 1 && ltb 17 (get_or f.content 0 0)) (Some (BadOp (get_or f.content 0 0))) rest_3

    rest_1 : Option CdapError
    rest_1 = cond (eqb f.tag 0 || ltb 12 f.tag || ltb f.tag last) (Some (BadTag at)) rest_2

    above : (f.tag ≡ 0 → ⊥) → last ≤ f.tag → (ltb 0 last ≡ false) ⊎ (eqb f.tag last ≡ false) → last < f.tag
    above some le (inl none) = omega (arith, ltb-false _ _ none, some, le)
    above some le (inr other) = omega (arith, eqb-false _ _ other, le)
