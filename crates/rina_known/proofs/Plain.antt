-- The key of the name of an application that is no IPC process's is that of no other name.
use Rattle.std.proofs.Common.{◌≡◌, ◌∙◌, ℕ, ◌++◌, Bool, true, false, not, List, [], ◌∷◌, drop, map, codes, Option, Some, None, Result, Ok, Err, refl, sym, ap, subst, arith}
use Rattle.std.specs.Prelude.{◌==◌, position}
use Rattle.std.specs.List.{AllByRecursion}
use Rattle.std.proofs.lemmas.Bool.{both_ways, eqb-true, not-false}
use Rattle.std.proofs.lemmas.Grind.{common_steps}
use Rattle.rina_base.specs.declared.name.NameError.{NameError}
use Rattle.rina_base.specs.Names.{app_at, app_cut, bad_at, bytes_at, is_name_byte, length_at, name_at, slash_in, unless_bad}
use Rattle.rina_base.specs.Traverse.{◌>>=◌}
use Rattle.rina_dir.specs.Directory.{key_byte, key_of}

split : {G : Type 0} (b : Bool) → (b ≡ true → G) → (b ≡ false → G) → G
split true pass fail = pass refl
split false pass fail = fail refl

-- neither the slash nor the mark that stands for it in a key is a byte of such a name

mark_is_bad : is_name_byte 33 ≡ false
unfolding is_name_byte
mark_is_bad = refl

slash_is_bad : is_name_byte 47 ≡ false
unfolding is_name_byte
slash_is_bad = refl

abbrev is_bad : ℕ → Bool
is_bad b = not (is_name_byte b)

abbrev AreNameBytes : List ℕ → Type 0
AreNameBytes text = AllByRecursion (λ (b : ℕ). is_name_byte b ≡ true) text

not_placed : (b : ℕ) (text : List ℕ) → position is_bad (b ∷ text) ≡ None → (is_bad b ≡ false) × (position is_bad text ≡ None)
not_placed b text h = grind (arith, common_steps, h)

bytes_good : (text : List ℕ) → position is_bad text ≡ None → AreNameBytes text
bytes_good [] h = tt
bytes_good (b ∷ text) h = (let p = not_placed b text h in (not-false (is_name_byte b) p.0, bytes_good text p.1))

no_fault : (before : ℕ) (at : Option ℕ) → unless_bad before at ≡ Ok tt → at ≡ None
no_fault before None h = refl
no_fault before (Some at) h = absurd (grind (arith, h))

bytes_fine : (before : ℕ) (text : List ℕ) (u : Unit {0}) → bytes_at before text ≡ Ok u → AreNameBytes text
unfolding bytes_at bad_at
bytes_fine before text u h = bytes_good text (no_fault before (position is_bad text) h)

abbrev Checked : Type 0
Checked = Result (Unit {0}) NameError

both_ok : (r s : Checked) (text got : List ℕ) → (r >>= λ _. s >>= λ _. Ok text) ≡ Ok got → (u : Unit {0}) × (s ≡ Ok u)
both_ok (Ok x) (Ok y) text got h = (y, refl)
both_ok (Ok x) (Err e) text got h = absurd (grind (arith, h))
both_ok (Err e) s text got h = absurd (grind (arith, h))

name_fine : (text got : List ℕ) → name_at text ≡ Ok got → AreNameBytes text
unfolding name_at
name_fine text got h = (let p = both_ok (length_at text) (bytes_at 0 text) text got h in bytes_fine 0 text p.0 p.1)

app_fine : (text got : List ℕ) → slash_in text ≡ None → app_at text ≡ Ok got → AreNameBytes text
unfolding app_at
app_fine text got none h = name_fine text got (sym (ap (λ (place : Option ℕ). app_cut place text) none) ∙ h)

-- keys

same_byte : (a b : ℕ) → is_name_byte b ≡ true → key_byte a ≡ key_byte b → a ≡ b
unfolding key_byte
same_byte a b good same =
    split (b == 47)
    (λ yes. absurd (both_ways (is_name_byte b) (subst (λ (x : ℕ). is_name_byte x ≡ false) (sym (eqb-true b 47 yes)) slash_is_bad) good))
    (λ apart. split (a == 47)
    (λ yes. absurd (both_ways (is_name_byte b) (subst (λ (x : ℕ). is_name_byte x ≡ false) (rw (yes, apart) at same) mark_is_bad) good))
    (λ other. rw (other, apart) at same))

heads : (x y : ℕ) (xs ys : List ℕ) → x ∷ xs ≡ y ∷ ys → (x ≡ y) × (xs ≡ ys)
heads x y xs ys h = (cc, cc)

same_bytes : (xs ys : List ℕ) → AreNameBytes ys → map key_byte xs ≡ map key_byte ys → xs ≡ ys
same_bytes [] [] good same = refl
same_bytes [] (y ∷ ys) good same = absurd (grind (arith, same))
same_bytes (x ∷ xs) [] good same = absurd (grind (arith, same))
same_bytes (x ∷ xs) (y ∷ ys) good same =
    let p = heads (key_byte x) (key_byte y) (map key_byte xs) (map key_byte ys) same in
    ap (λ (b : ℕ). b ∷ xs) (same_byte x y good.0 p.0) ∙ ap (λ (bs : List ℕ). y ∷ bs) (same_bytes xs ys good.1 p.1)

behind_folder : (xs ys : List ℕ) → codes "/dir/" ++ xs ≡ codes "/dir/" ++ ys → xs ≡ ys
behind_folder xs ys h = ap (λ (bs : List ℕ). drop 5 bs) h

pub plain_key : (other app : List ℕ) → slash_in app ≡ None → app_at app ≡ Ok app → key_of other ≡ key_of app → other ≡ app
unfolding key_of
plain_key other app none is same = same_bytes other app (app_fine app app none is) (behind_folder (map key_byte other) (map key_byte app) same)
