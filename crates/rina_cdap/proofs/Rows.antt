-- Rows of fields.
use Rattle.std.proofs.Common.{◌≡◌, ℕ, zero, suc, ◌+◌, ◌<◌, ◌≤◌, List, [], ◌∷◌, ◌++◌, length, get_or, Option, Some, None, refl, sym, ap, ◌∙◌, append_assoc, arith}
use Rattle.std.proofs.Math.ListN.{set}
use Rattle.std.proofs.lemmas.Bool.{ne_eqb, eq-eqb}
use Rattle.rina_cdap.specs.Messages.{Field, field, IsLawful, IsRow, last_tag, field_text, text, content_of, row}

pub text-append : (fs gs : List Field) → text (fs ++ gs) ≡ text fs ++ text gs
text-append [] gs = refl
text-append (f ∷ fs) gs = ap (λ (xs : List ℕ). field_text f ++ xs) (text-append fs gs) ∙ sym (append_assoc (field_text f) (text fs) (text gs))

pub last_tag-push : (last : ℕ) (fs : List Field) (f : Field) → last_tag last (fs ++ f ∷ []) ≡ f.tag
last_tag-push last [] f = refl
last_tag-push last (g ∷ fs) f = last_tag-push g.tag fs f

pub row-push : (last : ℕ) (fs : List Field) (f : Field) → IsRow last fs → IsLawful (last_tag last fs) f → IsRow last (fs ++ f ∷ [])
row-push last [] f h lawful = (lawful, tt)
row-push last (g ∷ fs) f h lawful = (h.0, row-push g.tag fs f h.1 lawful)

last_above : (last : ℕ) (fs : List Field) → IsRow last fs → last ≤ last_tag last fs
last_above last [] h = omega arith
last_above last (f ∷ fs) h = omega (arith, h.0.above, last_above f.tag fs h.1)

-- all tags are below n
abbrev pub AllBelow : ℕ → List Field → Type 0
AllBelow n [] = Unit {0}
AllBelow n (f ∷ fs) = (f.tag < n) × AllBelow n fs

pub below_row : (last n : ℕ) (fs : List Field) → IsRow last fs → last_tag last fs < n → AllBelow n fs
below_row last n [] h lt = tt
below_row last n (f ∷ fs) h lt = (omega (arith, last_above f.tag fs h.1), below_row f.tag n fs h.1 lt)

abbrev pub Cells : Type 0
Cells = List (Option (List ℕ))

empty_below : (t n : ℕ) (cells : Cells) → n ≤ t → AllBelow n (row t cells) → row t cells ≡ []
empty_below t n [] le b = refl
empty_below t n (None ∷ cells) le b = empty_below (t + 1) n cells (omega arith) b
empty_below t n (Some c ∷ cells) le b = absurd (omega (arith, b.0))

-- a content that is put behind all others is the last field
pub row_set : (t k n : ℕ) (c : List ℕ) (cells : Cells) → n ≡ t + k → k < length cells → AllBelow n (row t cells) → row t (set cells k (Some c)) ≡ row t cells ++ field n c ∷ []
row_set t k n c [] n-is lt b = absurd (omega arith)
row_set t zero n c (None ∷ cells) n-is lt b =
    let same : t ≡ n = omega arith in
    rw (empty_below (t + 1) n cells (omega arith) b) (ap (λ (x : ℕ). field x c ∷ []) same)
row_set t zero n c (Some y ∷ cells) n-is lt b = absurd (omega (arith, b.0))
row_set t (suc k) n c (None ∷ cells) n-is lt b = row_set (t + 1) k n c cells (omega arith) (omega arith) b
row_set t (suc k) n c (Some y ∷ cells) n-is lt b = ap (λ (fs : List Field). field t y ∷ fs) (row_set (t + 1) k n c cells (omega arith) (omega arith) b.1)

content_before : (t n : ℕ) (cells : Cells) → n < t → content_of n (row t cells) ≡ None
content_before t n [] lt = refl
content_before t n (None ∷ cells) lt = content_before (t + 1) n cells (omega arith)
content_before t n (Some c ∷ cells) lt = rw (ne_eqb t n (λ same. omega (arith, same))) (content_before (t + 1) n cells (omega arith))

-- the content of a tag stands at its place
pub content_row : (t k n : ℕ) (cells : Cells) → n ≡ t + k → content_of n (row t cells) ≡ get_or cells k None
content_row t k n [] n-is = refl
content_row t zero n (None ∷ cells) n-is = content_before (t + 1) n cells (omega arith)
content_row t zero n (Some c ∷ cells) n-is = rw (eq-eqb t n (omega arith)) refl
content_row t (suc k) n (None ∷ cells) n-is = content_row (t + 1) k n cells (omega arith)
content_row t (suc k) n (Some c ∷ cells) n-is = rw (ne_eqb t n (λ same. omega (arith, same))) (content_row (t + 1) k n cells (omega arith))
