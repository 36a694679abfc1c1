-- The fields of a text, and the text of fields.
use Rattle.std.proofs.Common.{◌≡◌, ℕ, suc, ◌+◌, ◌≤◌, Bool, true, false, not, cond, eqb, ltb, List, [], ◌∷◌, ◌++◌, length, take, drop, position, Some, None, refl, sym, ap, ◌∙◌, arith}
use Rattle.std.specs.List.{list_all, prefix_len}
use Rattle.std.proofs.lemmas.Bool.{and_parts, ltb-false, not-true, eqb-true}
use Rattle.std.proofs.lemmas.Option.{cond_some}
use Rattle.std.proofs.lemmas.List.{append-nil, take_all, drop_all}
use Rattle.std.proofs.lemmas.List.Sums.{prefix_len-le-length}
use Rattle.rina_schedule.specs.Spelling.{spaced}
use Rattle.rina_report.specs.Fields.{onto, fields_of, behind}

abbrev before : List ℕ → ℕ
before text = prefix_len (λ b. not (eqb b 32)) text

-- the first field ends where the first space stands
cut_front : (text : List ℕ) → fields_of text ≡ take (before text) text ∷ behind (drop (before text) text)
unfolding fields_of behind
cut_front [] = refl
cut_front (b ∷ text) = by_blank (cut_front text) (eqb b 32) refl
  where
    by_blank : fields_of text ≡ take (before text) text ∷ behind (drop (before text) text) → (c : Bool) → eqb b 32 ≡ c
        → cond c ([] ∷ fields_of text) (onto b (fields_of text)) ≡ take (cond (not c) (1 + before text) 0) (b ∷ text) ∷ behind (drop (cond (not c) (1 + before text) 0) (b ∷ text))
    by_blank more true e = refl
    by_blank more false e =
        let one : 1 + before text ≡ suc (before text) = omega arith in
        rw (more, one) refl

pub cut_some : (text : List ℕ) (k : ℕ) → position (λ b. eqb b 32) text ≡ Some k → fields_of text ≡ take k text ∷ behind (drop k text)
cut_some text k e =
    let same : before text ≡ k = (cond_some (ltb (before text) (length text)) (before text) k e).1 in
    rw same at (cut_front text)

pub cut_none : (text : List ℕ) → position (λ b. eqb b 32) text ≡ None → fields_of text ≡ text ∷ []
unfolding behind
cut_none text e =
    let past : length text ≤ before text = none_left (before text) (length text) e in
    let short : before text ≤ length text = prefix_len-le-length (λ b. not (eqb b 32)) text in
    let same : before text ≡ length text = omega arith in
    cut_front text ∙ rw (same, take_all (length text) text (omega arith), drop_all (length text) text (omega arith)) refl
  where
    none_left : (n m : ℕ) → cond (ltb n m) (Some n) None ≡ None → m ≤ n
    none_left n m e = by_test (ltb n m) refl e
      where
        by_test : (c : Bool) → ltb n m ≡ c → cond c (Some n) None ≡ None → m ≤ n
        by_test true t e = absurd cc
        by_test false t e = ltb-false n m t

-- no space stands among these bytes
abbrev pub is_clear : List ℕ → Bool
is_clear text = list_all (λ b. not (eqb b 32)) text

field_last : (f : List ℕ) → is_clear f ≡ true → fields_of f ≡ f ∷ []
unfolding fields_of
field_last [] h = refl
field_last (b ∷ f) h =
    let p = and_parts (not (eqb b 32)) (is_clear f) h in
    let no : eqb b 32 ≡ false = not-true (eqb b 32) p.0 in
    rw (no, field_last f p.1) refl

field_then : (f text : List ℕ) → is_clear f ≡ true → fields_of (f ++ 32 ∷ text) ≡ f ∷ fields_of text
unfolding fields_of
field_then [] text h = refl
field_then (b ∷ f) text h =
    let p = and_parts (not (eqb b 32)) (is_clear f) h in
    let no : eqb b 32 ≡ false = not-true (eqb b 32) p.0 in
    rw (no, field_then f text p.1) refl

-- fields that are printed with single spaces are those that are read
pub fields_back : (f : List ℕ) (fs : List (List ℕ)) → list_all is_clear (f ∷ fs) ≡ true → fields_of (f ++ spaced fs) ≡ f ∷ fs
fields_back f [] h = ap fields_of (append-nil f) ∙ field_last f (and_parts (is_clear f) true h).0
fields_back f (g ∷ gs) h =
    let p = and_parts (is_clear f) (list_all is_clear (g ∷ gs)) h in
    field_then f (g ++ spaced gs) p.0 ∙ ap (λ (x : List (List ℕ)). f ∷ x) (fields_back g gs p.1)

some_fields : (text : List ℕ) → (f : List ℕ) × (fs : List (List ℕ)) × (fields_of text ≡ f ∷ fs)
unfolding fields_of
some_fields [] = ([], [], refl)
some_fields (b ∷ text) = by_blank (some_fields text) (eqb b 32)
  where
    by_blank : (f : List ℕ) × (fs : List (List ℕ)) × (fields_of text ≡ f ∷ fs) → (c : Bool) → (f : List ℕ) × (fs : List (List ℕ)) × (cond c ([] ∷ fields_of text) (onto b (fields_of text)) ≡ f ∷ fs)
    by_blank more true = ([], fields_of text, refl)
    by_blank more false = (b ∷ more.0, more.1, ap (onto b) more.2)

abbrev joined : List (List ℕ) → List ℕ
joined [] = []
joined (f ∷ fs) = f ++ spaced fs

joined_fields : (text : List ℕ) → joined (fields_of text) ≡ text
unfolding fields_of
joined_fields [] = refl
joined_fields (b ∷ text) = by_blank (joined_fields text) (some_fields text) (eqb b 32) refl
  where
    by_blank : joined (fields_of text) ≡ text → (f : List ℕ) × (fs : List (List ℕ)) × (fields_of text ≡ f ∷ fs) → (c : Bool) → eqb b 32 ≡ c → joined (cond c ([] ∷ fields_of text) (onto b (fields_of text))) ≡ b ∷ text
    by_blank more some true e =
        let text-is : some.0 ++ spaced some.1 ≡ text = ap joined (sym some.2) ∙ more in
        ap spaced some.2 ∙ ap (λ (x : List ℕ). 32 ∷ x) text-is ∙ ap (λ (x : ℕ). x ∷ text) (sym (eqb-true b 32 e))
    by_blank more some false e =
        let text-is : some.0 ++ spaced some.1 ≡ text = ap joined (sym some.2) ∙ more in
        ap (λ (x : List (List ℕ)). joined (onto b x)) some.2 ∙ ap (λ (x : List ℕ). b ∷ x) text-is

-- a text is its fields with single spaces between them
pub fields_are : (text f : List ℕ) (fs : List (List ℕ)) → fields_of text ≡ f ∷ fs → text ≡ f ++ spaced fs
fields_are text f fs e = sym (joined_fields text) ∙ ap joined e
