-- Names, numbers and bytes are fields, and each is read as it was printed.
use Rattle.std.proofs.Common.{◌≡◌, ℕ, ◌+◌, ◌-◌, ◌*◌, ◌/◌, ◌%◌, ◌^◌, ◌<◌, ◌≤◌, Bool, true, false, not, cond, eqb, ltb, leb, ◌&&◌, ◌||◌, List, [], ◌∷◌, ◌++◌, length, take, drop, position, get_or, zero, suc, replicate, Option, Some, None, Result, Ok, Err, refl, sym, ap, subst, ◌∙◌, arith}
use Rattle.std.specs.List.{list_all, prefix_len, flat_map}
use Rattle.std.specs.Option.{option_and_then, option_map}
use Rattle.std.specs.Fmt.{decimal}
use Rattle.std.proofs.lemmas.Bool.{ltb-false, ne_eqb, and_parts, and_from, le-leb, lt-leb, leb-true, leb-false, eqb-true, false≢true}
use Rattle.std.proofs.lemmas.List.{drop_more, length-append, take-append-drop}
use Rattle.std.proofs.lemmas.List.Folds.{list_all-append}
use Rattle.std.proofs.lemmas.Fmt.{decimal_by_steps}
use Rattle.std.proofs.lemmas.List.Quantifiers.{position-Some}
use Rattle.std.proofs.lemmas.Option.{same_Some, cond_some}
use Rattle.rina_base.specs.Names.{is_name_byte, length_at, bad_at, unless_bad, bytes_at, name_at, slash_in, app_cut, ipc_at, app_at}
use Rattle.rina_base.specs.Traverse.{◌>>=◌}
use Rattle.rina_base.specs.declared.name.NameError.{NameError}
use Rattle.rina_base.specs.declared.name.NameError.TheVariants.{BadLength}
use Rattle.rina_base.specs.Decimals.{is_digit, number_of}
use Rattle.rina_base.proofs.Decimals.{a_digit, decimal_back, decimal_fits}
use Rattle.rina_schedule.specs.Bytes.{is_plain, are_plain, hex_digit, hex_pair_of, hex_of, plain_of, zeros_of, bytes_of, is_lower, lower_hex_of, printed_of}
use Rattle.rina_base.specs.ObjectNames.{is_object_byte, are_parts, is_object_name}
use Rattle.rina_schedule.specs.Spelling.{hex_glyph, hex_pair, spelling}
use Rattle.rina_schedule.specs.Ranges.{IsName, IsApp, IsNumber, IsBytes}
use Rattle.rina_schedule.proofs.Fields.{is_clear, IsField}

abbrev not_blank : ℕ → Bool
not_blank b = not (eqb b 32)

-- a byte that passes a test that no space passes
no_space : (p : ℕ → Bool) (b : ℕ) → p 32 ≡ false → p b ≡ true → not_blank b ≡ true
no_space p b fails passes = by_case (eqb b 32) refl
  where
    by_case : (c : Bool) → eqb b 32 ≡ c → not c ≡ true
    by_case false e = refl
    by_case true e = absurd (false≢true (sym fails ∙ ap p (sym (eqb-true b 32 e)) ∙ passes))

clear_by : (p : ℕ → Bool) (text : List ℕ) → p 32 ≡ false → list_all p text ≡ true → is_clear text ≡ true
clear_by p [] fails h = refl
clear_by p (b ∷ text) fails h =
    let parts = and_parts (p b) (list_all p text) h in
    and_from (not_blank b) (is_clear text) (no_space p b fails parts.0) (clear_by p text fails parts.1)

-- ---- names

none_left : (n m : ℕ) → cond (ltb n m) (Some n) None ≡ None → m ≤ n
none_left n m e = by_test (ltb n m) refl e
  where
    by_test : (c : Bool) → ltb n m ≡ c → cond c (Some n) None ≡ None → m ≤ n
    by_test true t e = absurd cc
    by_test false t e = ltb-false n m t

all_passed : (p : ℕ → Bool) (text : List ℕ) → length text ≤ prefix_len (λ b. not (not (p b))) text → list_all p text ≡ true
all_passed p [] h = refl
all_passed p (b ∷ text) h = by_case (λ le. all_passed p text le) (p b) refl h
  where
    by_case : (length text ≤ prefix_len (λ b. not (not (p b))) text → list_all p text ≡ true) → (c : Bool) → p b ≡ c → length (b ∷ text) ≤ cond (not (not c)) (1 + prefix_len (λ b. not (not (p b))) text) 0 → (c && list_all p text) ≡ true
    by_case again true e h = again (omega arith)
    by_case again false e h = absurd (omega arith)

-- where no byte fails, all pass
all_pass : (p : ℕ → Bool) (text : List ℕ) → position (λ b. not (p b)) text ≡ None → list_all p text ≡ true
all_pass p text h = all_passed p text (none_left (prefix_len (λ b. not (not (p b))) text) (length text) h)

step_ok : {A B E : Type 0} (r : Result A E) (f : A → Result B E) (y : B) → (r >>= f) ≡ Ok y → (x : A) × (r ≡ Ok x) × (f x ≡ Ok y)
step_ok (Ok x) f y e = (x, refl, e)
step_ok (Err d) f y e = absurd cc

test_ok : {A E : Type 0} (b : Bool) (x y : A) (d : E) → cond b (Ok x) (Err d) ≡ Ok y → b ≡ true
test_ok true x y d e = refl
test_ok false x y d e = absurd cc

length_part : (text : List ℕ) (u : Unit {0}) → length_at text ≡ Ok u → 0 < length text
unfolding length_at
length_part text u e =
    let t = and_parts (leb 1 (length text)) (leb (length text) 64) (test_ok (leb 1 (length text) && leb (length text) 64) tt u (BadLength (length text)) e) in
    leb-true 1 (length text) t.0

bytes_part : (n : ℕ) (text : List ℕ) (u : Unit {0}) → bytes_at n text ≡ Ok u → list_all is_name_byte text ≡ true
unfolding bytes_at bad_at
bytes_part n text u e = all_pass is_name_byte text (unbad (position (λ b. not (is_name_byte b)) text) e)
  where
    unbad : (o : Option ℕ) → unless_bad n o ≡ Ok u → o ≡ None
    unbad None e = refl
    unbad (Some k) e = absurd cc

name_field : (text : List ℕ) (length_is : (u : Unit {0}) × (length_at text ≡ Ok u)) (n : ℕ) (bytes_are : (u : Unit {0}) × (bytes_at n text ≡ Ok u)) → IsField text
unfolding is_name_byte
name_field text l n b = record { some = length_part text l.0 l.1; clear = clear_by is_name_byte text refl (bytes_part n text b.0 b.1) }

-- a name that is read is the text, and a field
pub name_reads : (text x : List ℕ) → name_at text ≡ Ok x → (text ≡ x) × IsField text
unfolding name_at
name_reads text x e =
    let a = step_ok (length_at text) (λ _. bytes_at 0 text >>= λ _. Ok text) x e in
    let b = step_ok (bytes_at 0 text) (λ _. Ok text) x a.2 in
    (same text x b.2, name_field text (a.0, a.1) 0 (b.0, b.1))
  where
    same : (a b : List ℕ) → ◌≡◌ {A = Result (List ℕ) NameError} (Ok a) (Ok b) → a ≡ b
    same a b e = cc

-- the bytes of a name
pub name_bytes : (text x : List ℕ) → name_at text ≡ Ok x → list_all is_name_byte text ≡ true
unfolding name_at
name_bytes text x e =
    let a = step_ok (length_at text) (λ _. bytes_at 0 text >>= λ _. Ok text) x e in
    let b = step_ok (bytes_at 0 text) (λ _. Ok text) x a.2 in
    bytes_part 0 text b.0 b.1

pub IsField-name : (x : List ℕ) → IsName x → IsField x
IsField-name x h = (name_reads x x h).1

-- two fields with a slash between them
slashed : (text : List ℕ) (k : ℕ) → k < length text → get_or text k 0 ≡ 47 → is_clear (take k text) ≡ true → is_clear (drop (k + 1) text) ≡ true → IsField text
slashed text k lt slash front back =
    let whole : text ≡ take k text ++ 47 ∷ drop (k + 1) text = sym (take-append-drop k text) ∙ ap (λ (x : List ℕ). take k text ++ x) (drop_more text k 0 lt ∙ ap (λ (b : ℕ). b ∷ drop (k + 1) text) slash) in
    record {
      some = omega arith;
      clear = ap is_clear whole ∙ list_all-append not_blank (take k text) (47 ∷ drop (k + 1) text) ∙ and_from (is_clear (take k text)) (is_clear (drop (k + 1) text)) front back;
    }

pub app_reads : (text x : List ℕ) → app_at text ≡ Ok x → (text ≡ x) × IsField text
unfolding app_at slash_in ipc_at
app_reads text x e = by_slash (position (λ b. eqb b 47) text) refl e
  where
    same : (a b : List ℕ) → ◌≡◌ {A = Result (List ℕ) NameError} (Ok a) (Ok b) → a ≡ b
    same a b e = cc

    by_slash : (o : Option ℕ) → position (λ b. eqb b 47) text ≡ o → app_cut o text ≡ Ok x → (text ≡ x) × IsField text
    by_slash None at e = name_reads text x e
    by_slash (Some k) at e =
        let here = position-Some (λ b. eqb b 47) text k 0 at in
        let w = step_ok (ipc_at (take k text) (drop (k + 1) text)) (λ _. Ok text) x e in
        let a = step_ok (length_at (take k text)) (λ _. length_at (drop (k + 1) text) >>= λ _. bytes_at 0 (take k text) >>= λ _. bytes_at (length (take k text) + 1) (drop (k + 1) text)) w.0 w.1 in
        let b = step_ok (length_at (drop (k + 1) text)) (λ _. bytes_at 0 (take k text) >>= λ _. bytes_at (length (take k text) + 1) (drop (k + 1) text)) w.0 a.2 in
        let c = step_ok (bytes_at 0 (take k text)) (λ _. bytes_at (length (take k text) + 1) (drop (k + 1) text)) w.0 b.2 in
        let front = name_field (take k text) (a.0, a.1) 0 (c.0, c.1) in
        let back = name_field (drop (k + 1) text) (b.0, b.1) (length (take k text) + 1) (w.0, c.2) in
        (same text x w.2, slashed text k here.0 (eqb-true (get_or text k 0) 47 here.1) front.clear back.clear)

pub IsField-app : (x : List ℕ) → IsApp x → IsField x
IsField-app x h = (app_reads x x h).1

-- ---- names of objects

object_clear : (before : ℕ) (text : List ℕ) → are_parts before text ≡ true → is_clear text ≡ true
unfolding are_parts is_object_byte is_name_byte
object_clear before [] h = refl
object_clear before (b ∷ text) h = by_slash (λ n p. object_clear n text p) (eqb b 47) refl h
  where
    by_slash : ((n : ℕ) → are_parts n text ≡ true → is_clear text ≡ true) → (c : Bool) → eqb b 47 ≡ c → cond c (leb 1 before && are_parts 0 text) ((is_object_byte b && ltb before 130) && are_parts (before + 1) text) ≡ true → is_clear (b ∷ text) ≡ true
    by_slash again true e h =
        let p = and_parts (leb 1 before) (are_parts 0 text) h in
        and_from (not_blank b) (is_clear text) (no_space (λ x. eqb x 47) b refl e) (again 0 p.1)
    by_slash again false e h =
        let p = and_parts (is_object_byte b && ltb before 130) (are_parts (before + 1) text) h in
        let q = and_parts (is_object_byte b) (ltb before 130) p.0 in
        and_from (not_blank b) (is_clear text) (no_space is_object_byte b refl q.0) (again (before + 1) p.1)

pub IsField-object : (x : List ℕ) → is_object_name x ≡ true → IsField x
unfolding is_object_name
IsField-object [] h = absurd cc
IsField-object (b ∷ text) h =
    let p = and_parts (eqb b 47) (eqb (length text) 0 || are_parts 0 text) h in
    record { some = omega arith; clear = and_from (not_blank b) (is_clear text) (no_space (λ x. eqb x 47) b refl p.0) (rest text p.1) }
  where
    rest : (text : List ℕ) → (eqb (length text) 0 || are_parts 0 text) ≡ true → is_clear text ≡ true
    rest [] h = refl
    rest (c ∷ text) h = object_clear 0 (c ∷ text) (rw (ne_eqb (length (c ∷ text)) 0 (λ e. omega arith)) at h)

-- ---- numbers

abbrev AreDigits : ℕ → List ℕ → Type 0
AreDigits n ds = (list_all is_digit ds ≡ true) × (0 < length ds)

pub decimal_digits : (n : ℕ) → n < 2 ^ 64 → AreDigits n (decimal n)
decimal_digits n lt = decimal_by_steps AreDigits one more n lt
  where
    one : (n : ℕ) → n < 10 → AreDigits n ((48 + n) ∷ [])
    one n lt = (and_from (is_digit (48 + n)) true (a_digit n lt) refl, omega arith)

    more : (n : ℕ) (ds : List ℕ) → 10 ≤ n → AreDigits (n / 10) ds → AreDigits n (ds ++ ((48 + n % 10) ∷ []))
    more n ds le h = (
      list_all-append is_digit ds ((48 + n % 10) ∷ []) ∙ and_from (list_all is_digit ds) (is_digit (48 + n % 10) && true) h.0 (and_from (is_digit (48 + n % 10)) true (a_digit (n % 10) (omega arith)) refl),
      omega (arith, length-append ds ((48 + n % 10) ∷ []), h.1),
    )

pub IsField-decimal : (n : ℕ) → n < 2 ^ 64 → IsField (decimal n)
unfolding is_digit
IsField-decimal n lt =
    let d = decimal_digits n lt in
    record { some = d.1; clear = clear_by is_digit (decimal n) refl d.0 }

pub number_again : (n : ℕ) → IsNumber n → number_of (decimal n) ≡ Some n
number_again n fits = decimal_back (2 ^ 32 - 1) n (omega arith) (omega arith)

pub number_fits : (text : List ℕ) (n : ℕ) → number_of text ≡ Some n → IsNumber n
number_fits text n e = omega (arith, decimal_fits (2 ^ 32 - 1) text n e)

-- ---- bytes

digit_back : (d : ℕ) → d < 16 → hex_digit (hex_glyph d) ≡ Some d
unfolding hex_digit hex_glyph
digit_back d lt = by_size (leb d 9) refl
  where
    by_size : (c : Bool) → leb d 9 ≡ c → hex_digit (cond c (48 + d) (87 + d)) ≡ Some d
    by_size true e =
        let small = leb-true d 9 e in
        rw (le-leb 48 (48 + d) (omega arith), le-leb (48 + d) 57 (omega arith)) (ap Some (omega arith))
    by_size false e =
        let large = leb-false d 9 e in
        rw (le-leb 48 (87 + d) (omega arith), lt-leb (87 + d) 57 (omega arith), le-leb 97 (87 + d) (omega arith), le-leb (87 + d) 102 (omega arith)) (ap Some (omega arith))

pair_back : (x : ℕ) → x < 256 → hex_pair_of (hex_glyph (x / 16)) (hex_glyph (x % 16)) ≡ Some x
unfolding hex_pair_of
pair_back x lt = rw (digit_back (x / 16) (omega arith), digit_back (x % 16) (omega arith)) (ap Some (omega arith))

pub hex_back : (bytes : List ℕ) → IsBytes bytes → hex_of (flat_map hex_pair bytes) ≡ Some bytes
unfolding hex_of hex_pair
hex_back [] h = refl
hex_back (x ∷ xs) h = rw (pair_back x (h 0), hex_back xs (λ i. h (suc i))) refl

glyph_clear : (d : ℕ) → not_blank (hex_glyph d) ≡ true
unfolding hex_glyph
glyph_clear d = by_size (leb d 9)
  where
    by_size : (c : Bool) → not_blank (cond c (48 + d) (87 + d)) ≡ true
    by_size true = rw (ne_eqb (48 + d) 32 (λ e. omega arith)) refl
    by_size false = rw (ne_eqb (87 + d) 32 (λ e. omega arith)) refl

hex_clear : (bytes : List ℕ) → is_clear (flat_map hex_pair bytes) ≡ true
unfolding hex_pair
hex_clear [] = refl
hex_clear (x ∷ xs) = rw (glyph_clear (x / 16), glyph_clear (x % 16)) (hex_clear xs)

pub spelling_back : (bytes : List ℕ) → IsBytes bytes → bytes_of (spelling bytes) ≡ Some bytes
unfolding spelling bytes_of plain_of
spelling_back bytes h = by_plain (are_plain bytes) refl
  where
    by_plain : (c : Bool) → are_plain bytes ≡ c → bytes_of (cond c (39 ∷ bytes) (120 ∷ flat_map hex_pair bytes)) ≡ Some bytes
    by_plain true e = rw e refl
    by_plain false e = hex_back bytes h

pub IsField-spelling : (bytes : List ℕ) → IsField (spelling bytes)
unfolding spelling are_plain is_plain
IsField-spelling bytes = by_plain (are_plain bytes) refl
  where
    by_plain : (c : Bool) → are_plain bytes ≡ c → IsField (cond c (39 ∷ bytes) (120 ∷ flat_map hex_pair bytes))
    by_plain true e = record { some = omega arith; clear = clear_by is_plain bytes refl (and_parts (not (eqb (length bytes) 0)) (list_all is_plain bytes) e).1 }
    by_plain false e = record { some = omega arith; clear = hex_clear bytes }

-- what is read is bytes

IsBytes-none : IsBytes []
IsBytes-none i = omega arith

IsBytes-more : (b : ℕ) (bytes : List ℕ) → b < 256 → IsBytes bytes → IsBytes (b ∷ bytes)
IsBytes-more b bytes lt h zero = lt
IsBytes-more b bytes lt h (suc i) = h i

plain_fits : (bytes : List ℕ) → list_all is_plain bytes ≡ true → IsBytes bytes
unfolding is_plain
plain_fits [] h = IsBytes-none
plain_fits (b ∷ bytes) h =
    let p = and_parts (is_plain b) (list_all is_plain bytes) h in
    let small = leb-true b 126 (and_parts (leb 33 b) (leb b 126) p.0).1 in
    IsBytes-more b bytes (omega arith) (plain_fits bytes p.1)

digit_fits : (b x : ℕ) → hex_digit b ≡ Some x → x < 16
unfolding hex_digit
digit_fits b x e = first (leb 48 b && leb b 57) refl e
  where
    third : (c : Bool) → (leb 65 b && leb b 70) ≡ c → cond c (Some (b - 55)) None ≡ Some x → x < 16
    third true t e =
        let high = leb-true b 70 (and_parts (leb 65 b) (leb b 70) t).1 in
        let is : b - 55 ≡ x = same_Some (b - 55) x e in
        omega arith
    third false t e = absurd cc

    second : (c : Bool) → (leb 97 b && leb b 102) ≡ c → cond c (Some (b - 87)) (cond (leb 65 b && leb b 70) (Some (b - 55)) None) ≡ Some x → x < 16
    second true t e =
        let high = leb-true b 102 (and_parts (leb 97 b) (leb b 102) t).1 in
        let is : b - 87 ≡ x = same_Some (b - 87) x e in
        omega arith
    second false t e = third (leb 65 b && leb b 70) refl e

    first : (c : Bool) → (leb 48 b && leb b 57) ≡ c → cond c (Some (b - 48)) (cond (leb 97 b && leb b 102) (Some (b - 87)) (cond (leb 65 b && leb b 70) (Some (b - 55)) None)) ≡ Some x → x < 16
    first true t e =
        let high = leb-true b 57 (and_parts (leb 48 b) (leb b 57) t).1 in
        let is : b - 48 ≡ x = same_Some (b - 48) x e in
        omega arith
    first false t e = second (leb 97 b && leb b 102) refl e

pair_fits : (a b x : ℕ) → hex_pair_of a b ≡ Some x → x < 256
unfolding hex_pair_of
pair_fits a b x e = by_digits (hex_digit a) (hex_digit b) refl refl e
  where
    by_digits : (o p : Option ℕ) → hex_digit a ≡ o → hex_digit b ≡ p → option_and_then (λ x. option_map (λ y. x * 16 + y) p) o ≡ Some x → x < 256
    by_digits (Some y) (Some z) ea eb e =
        let high = digit_fits a y ea in
        let low = digit_fits b z eb in
        let is : y * 16 + z ≡ x = same_Some (y * 16 + z) x e in
        omega arith
    by_digits (Some y) None ea eb e = absurd cc
    by_digits None p ea eb e = absurd cc

pub hex_fits : (text bytes : List ℕ) → hex_of text ≡ Some bytes → IsBytes bytes
unfolding hex_of
hex_fits [] bytes e = subst IsBytes (same_Some [] bytes e) IsBytes-none
hex_fits (a ∷ []) bytes e = absurd cc
hex_fits (a ∷ b ∷ text) bytes e = by_parts (λ more h. hex_fits text more h) (hex_pair_of a b) (hex_of text) refl refl e
  where
    by_parts : ((more : List ℕ) → hex_of text ≡ Some more → IsBytes more) → (o : Option ℕ) (p : Option (List ℕ)) → hex_pair_of a b ≡ o → hex_of text ≡ p → option_and_then (λ x. option_map (λ bytes. x ∷ bytes) p) o ≡ Some bytes → IsBytes bytes
    by_parts again (Some x) (Some more) ea eb e = subst IsBytes (same_Some (x ∷ more) bytes e) (IsBytes-more x more (pair_fits a b x ea) (again more eb))
    by_parts again (Some x) None ea eb e = absurd cc
    by_parts again None p ea eb e = absurd cc

zeros_fit : (n : ℕ) → IsBytes (replicate n 0)
zeros_fit zero = IsBytes-none
zeros_fit (suc n) = IsBytes-more 0 (replicate n 0) (omega arith) (zeros_fit n)

pub bytes_fit : (text bytes : List ℕ) → bytes_of text ≡ Some bytes → IsBytes bytes
unfolding bytes_of plain_of are_plain zeros_of
bytes_fit [] bytes e = absurd cc
bytes_fit (b ∷ text) bytes e = first (eqb b 39) e
  where
    zeros : (o : Option ℕ) → option_and_then (λ n. cond (leb n 65535) (Some (replicate n 0)) None) o ≡ Some bytes → IsBytes bytes
    zeros None e = absurd cc
    zeros (Some n) e = subst IsBytes (cond_some (leb n 65535) (replicate n 0) bytes e).1 (zeros_fit n)

    third : (c : Bool) → cond c (zeros_of text) None ≡ Some bytes → IsBytes bytes
    third true e = zeros (number_of text) e
    third false e = absurd cc

    second : (c : Bool) → cond c (hex_of text) (cond (eqb b 122) (zeros_of text) None) ≡ Some bytes → IsBytes bytes
    second true e = hex_fits text bytes e
    second false e = third (eqb b 122) e

    plain : are_plain text ≡ true → IsBytes text
    plain e = plain_fits text (and_parts (not (eqb (length text) 0)) (list_all is_plain text) e).1

    first : (c : Bool) → cond c (plain_of text) (cond (eqb b 120) (hex_of text) (cond (eqb b 122) (zeros_of text) None)) ≡ Some bytes → IsBytes bytes
    first true e = (let p = cond_some (are_plain text) text bytes e in subst IsBytes p.1 (plain p.0))
    first false e = second (eqb b 120) e

-- ---- bytes in the spelling in which they are printed

glyph_lower : (d : ℕ) → d < 16 → is_lower (hex_glyph d) ≡ true
unfolding is_lower hex_glyph
glyph_lower d lt = by_size (leb d 9) refl
  where
    by_size : (c : Bool) → leb d 9 ≡ c → not (leb 65 (cond c (48 + d) (87 + d)) && leb (cond c (48 + d) (87 + d)) 70) ≡ true
    by_size true e = (let small = leb-true d 9 e in rw (lt-leb 65 (48 + d) (omega arith)) refl)
    by_size false e = (let large = leb-false d 9 e in rw (le-leb 65 (87 + d) (omega arith), lt-leb (87 + d) 70 (omega arith)) refl)

hex_lower : (bytes : List ℕ) → IsBytes bytes → list_all is_lower (flat_map hex_pair bytes) ≡ true
unfolding hex_pair
hex_lower [] h = refl
hex_lower (x ∷ xs) h =
    let lt : x < 256 = h 0 in
    rw (glyph_lower (x / 16) (omega arith), glyph_lower (x % 16) (omega arith)) (hex_lower xs (λ i. h (suc i)))

pub printed_back : (bytes : List ℕ) → IsBytes bytes → printed_of (spelling bytes) ≡ Some bytes
unfolding spelling printed_of plain_of lower_hex_of
printed_back bytes h = by_plain (are_plain bytes) refl
  where
    by_plain : (c : Bool) → are_plain bytes ≡ c → printed_of (cond c (39 ∷ bytes) (120 ∷ flat_map hex_pair bytes)) ≡ Some bytes
    by_plain true e = rw e refl
    by_plain false e = rw (hex_lower bytes h, hex_back bytes h, e) refl

-- a digit that is no capital is the one that is printed
digit_is : (b x : ℕ) → is_lower b ≡ true → hex_digit b ≡ Some x → b ≡ hex_glyph x
unfolding is_lower hex_digit hex_glyph
digit_is b x lower e = first (leb 48 b && leb b 57) refl e
  where
    third : (c : Bool) → (leb 65 b && leb b 70) ≡ c → cond c (Some (b - 55)) None ≡ Some x → b ≡ cond (leb x 9) (48 + x) (87 + x)
    third true t e = absurd (false≢true (ap not (sym t) ∙ lower))
    third false t e = absurd cc

    second : (c : Bool) → (leb 97 b && leb b 102) ≡ c → cond c (Some (b - 87)) (cond (leb 65 b && leb b 70) (Some (b - 55)) None) ≡ Some x → b ≡ cond (leb x 9) (48 + x) (87 + x)
    second true t e =
        let p = and_parts (leb 97 b) (leb b 102) t in
        let low = leb-true 97 b p.0 in
        let is : b - 87 ≡ x = same_Some (b - 87) x e in
        rw (lt-leb x 9 (omega arith)) (omega arith)
    second false t e = third (leb 65 b && leb b 70) refl e

    first : (c : Bool) → (leb 48 b && leb b 57) ≡ c → cond c (Some (b - 48)) (cond (leb 97 b && leb b 102) (Some (b - 87)) (cond (leb 65 b && leb b 70) (Some (b - 55)) None)) ≡ Some x → b ≡ cond (leb x 9) (48 + x) (87 + x)
    first true t e =
        let p = and_parts (leb 48 b) (leb b 57) t in
        let low = leb-true 48 b p.0 in
        let high = leb-true b 57 p.1 in
        let is : b - 48 ≡ x = same_Some (b - 48) x e in
        rw (le-leb x 9 (omega arith)) (omega arith)
    first false t e = second (leb 97 b && leb b 102) refl e

pair_is : (a b x : ℕ) → is_lower a ≡ true → is_lower b ≡ true → hex_pair_of a b ≡ Some x → a ∷ b ∷ [] ≡ hex_pair x
unfolding hex_pair_of hex_pair
pair_is a b x la lb e = by_digits (hex_digit a) (hex_digit b) refl refl e
  where
    by_digits : (o p : Option ℕ) → hex_digit a ≡ o → hex_digit b ≡ p → option_and_then (λ x. option_map (λ y. x * 16 + y) p) o ≡ Some x → a ∷ b ∷ [] ≡ hex_glyph (x / 16) ∷ hex_glyph (x % 16) ∷ []
    by_digits (Some y) (Some z) ea eb e =
        let low = digit_fits b z eb in
        let is : y * 16 + z ≡ x = same_Some (y * 16 + z) x e in
        let high-is : x / 16 ≡ y = omega arith in
        let low-is : x % 16 ≡ z = omega arith in
        rw (high-is, low-is, digit_is a y la ea, digit_is b z lb eb) refl
    by_digits (Some y) None ea eb e = absurd cc
    by_digits None p ea eb e = absurd cc

hex_is : (text bytes : List ℕ) → list_all is_lower text ≡ true → hex_of text ≡ Some bytes → text ≡ flat_map hex_pair bytes
unfolding hex_of
hex_is [] bytes lower e = subst (λ (x : List ℕ). [] ≡ flat_map hex_pair x) (same_Some [] bytes e) refl
hex_is (a ∷ []) bytes lower e = absurd cc
hex_is (a ∷ b ∷ text) bytes lower e = by_parts (λ more l h. hex_is text more l h) (hex_pair_of a b) (hex_of text) refl refl e
  where
    by_parts : ((more : List ℕ) → list_all is_lower text ≡ true → hex_of text ≡ Some more → text ≡ flat_map hex_pair more) → (o : Option ℕ) (p : Option (List ℕ)) → hex_pair_of a b ≡ o → hex_of text ≡ p
        → option_and_then (λ x. option_map (λ bytes. x ∷ bytes) p) o ≡ Some bytes → a ∷ b ∷ text ≡ flat_map hex_pair bytes
    by_parts again (Some x) (Some more) ea eb e =
        let l = and_parts (is_lower a) (is_lower b && list_all is_lower text) lower in
        let m = and_parts (is_lower b) (list_all is_lower text) l.1 in
        let front : a ∷ b ∷ [] ≡ hex_pair x = pair_is a b x l.0 m.0 ea in
        let rest : text ≡ flat_map hex_pair more = again more m.1 eb in
        subst (λ (ys : List ℕ). a ∷ b ∷ text ≡ flat_map hex_pair ys) (same_Some (x ∷ more) bytes e)
        (ap (λ (t : List ℕ). a ∷ b ∷ t) rest ∙ ap (λ (t : List ℕ). t ++ flat_map hex_pair more) front)
    by_parts again (Some x) None ea eb e = absurd cc
    by_parts again None p ea eb e = absurd cc

-- what is read in this spelling is spelled so
pub printed_is : (text bytes : List ℕ) → printed_of text ≡ Some bytes → (text ≡ spelling bytes) × IsBytes bytes
unfolding printed_of plain_of lower_hex_of spelling are_plain
printed_is [] bytes e = absurd cc
printed_is (b ∷ text) bytes e = first (eqb b 39) refl e
  where
    hex : list_all is_lower text ≡ true → (o : Option (List ℕ)) → hex_of text ≡ o → option_and_then (λ bytes. cond (are_plain bytes) None (Some bytes)) o ≡ Some bytes → (text ≡ flat_map hex_pair bytes) × IsBytes bytes × (are_plain bytes ≡ false)
    hex lower None er e = absurd cc
    hex lower (Some ys) er e = by_plain (are_plain ys) refl e
      where
        by_plain : (c : Bool) → are_plain ys ≡ c → cond c None (Some ys) ≡ Some bytes → (text ≡ flat_map hex_pair bytes) × IsBytes bytes × (are_plain bytes ≡ false)
        by_plain true t e = absurd cc
        by_plain false t e =
            let same : ys ≡ bytes = same_Some ys bytes e in
            let er2 : hex_of text ≡ Some bytes = er ∙ e in
            (hex_is text bytes lower er2, hex_fits text bytes er2, ap are_plain (sym same) ∙ t)

    second : (c : Bool) → eqb b 120 ≡ c → cond c (cond (list_all is_lower text) (option_and_then (λ bytes. cond (are_plain bytes) None (Some bytes)) (hex_of text)) None) None ≡ Some bytes → (b ∷ text ≡ cond (are_plain bytes) (39 ∷ bytes) (120 ∷ flat_map hex_pair bytes)) × IsBytes bytes
    second true t e = by_lower (list_all is_lower text) refl e
      where
        by_lower : (c : Bool) → list_all is_lower text ≡ c → cond c (option_and_then (λ bytes. cond (are_plain bytes) None (Some bytes)) (hex_of text)) None ≡ Some bytes → (b ∷ text ≡ cond (are_plain bytes) (39 ∷ bytes) (120 ∷ flat_map hex_pair bytes)) × IsBytes bytes
        by_lower true l e =
            let h = hex l (hex_of text) refl e in
            (rw (h.2, eqb-true b 120 t) (ap (λ (x : List ℕ). 120 ∷ x) h.0), h.1)
        by_lower false l e = absurd cc
    second false t e = absurd cc

    first : (c : Bool) → eqb b 39 ≡ c → cond c (cond (are_plain text) (Some text) None) (cond (eqb b 120) (cond (list_all is_lower text) (option_and_then (λ bytes. cond (are_plain bytes) None (Some bytes)) (hex_of text)) None) None) ≡ Some bytes → (b ∷ text ≡ cond (are_plain bytes) (39 ∷ bytes) (120 ∷ flat_map hex_pair bytes)) × IsBytes bytes
    first true t e =
        let p = cond_some (are_plain text) text bytes e in
        (rw (← p.1, p.0, eqb-true b 39 t) refl, subst IsBytes p.1 (plain_fits text (and_parts (not (eqb (length text) 0)) (list_all is_plain text) p.0).1))
    first false t e = second (eqb b 120) refl e
