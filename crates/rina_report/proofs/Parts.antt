-- Values of several parts: what is printed of them is read, and what is read is printed so.
use Rattle.std.proofs.Common.{◌≡◌, ℕ, ◌+◌, ◌^◌, ◌<◌, ◌≤◌, Bool, true, false, not, eqb, List, [], ◌∷◌, ◌++◌, length, take, drop, get_or, position, Option, Some, None, refl, sym, ap, subst, ◌∙◌, append_assoc, arith}
use Rattle.std.specs.List.{list_all, prefix_len}
use Rattle.std.specs.Fmt.{decimal}
use Rattle.std.specs.Option.{option_and_then, option_map}
use Rattle.std.proofs.lemmas.Bool.{and_parts, and_from, lt-ltb, eqb-true, eq-eqb, false≢true}
use Rattle.std.proofs.lemmas.Option.{same_Some}
use Rattle.std.proofs.lemmas.Fmt.{decimal_nonempty}
use Rattle.std.proofs.lemmas.List.{length-append, take_at, take-append-drop, drop_more}
use Rattle.std.proofs.Math.Seq.{drop-append-add}
use Rattle.std.proofs.lemmas.List.Quantifiers.{position-Some}
use Rattle.rina_base.specs.Decimals.{is_digit}
use Rattle.rina_schedule.proofs.Values.{decimal_digits}
use Rattle.rina_report.specs.Fields.{numeral_of, parts_at, parts_of, max32, pair_of, triple_of}
use Rattle.rina_report.proofs.Numerals.{numeral_back, numeral_is}

abbrev pub is_without : ℕ → List ℕ → Bool
is_without s text = list_all (λ b. not (eqb b s)) text

abbrev before : ℕ → List ℕ → ℕ
before s text = prefix_len (λ b. not (eqb b s)) text

before_end : (s : ℕ) (f rest : List ℕ) → is_without s f ≡ true → before s (f ++ s ∷ rest) ≡ length f
before_end s [] rest h = rw (eq-eqb s s refl) refl
before_end s (b ∷ f) rest h =
    let p = and_parts (not (eqb b s)) (is_without s f) h in
    let more : before s (f ++ s ∷ rest) ≡ length f = before_end s f rest p.1 in
    rw p.0 (omega (arith, more))

-- the parts of a text with a separator that the first of them has not
pub parts_back : (s : ℕ) (f rest : List ℕ) → is_without s f ≡ true → parts_of s (f ++ s ∷ rest) ≡ (f, rest)
unfolding parts_of
parts_back s f rest h =
    rw (before_end s f rest h, lt-ltb (length f) (length (f ++ s ∷ rest)) (omega (arith, length-append f (s ∷ rest))), take_at f (s ∷ rest) (length f) refl, drop-append-add f (s ∷ rest) 1) refl

-- a text that has something behind its first separator
pub parts_are : (s : ℕ) (text : List ℕ) → 0 < length (parts_of s text).1 → text ≡ (parts_of s text).0 ++ s ∷ (parts_of s text).1
unfolding parts_of
parts_are s text some = by_place (position (λ b. eqb b s) text) refl some
  where
    by_place : (o : Option ℕ) → position (λ b. eqb b s) text ≡ o → 0 < length (parts_at o text).1 → text ≡ (parts_at o text).0 ++ s ∷ (parts_at o text).1
    by_place None e some = absurd (omega arith)
    by_place (Some k) e some =
        let here = position-Some (λ b. eqb b s) text k 0 e in
        sym (take-append-drop k text) ∙ ap (λ (x : List ℕ). take k text ++ x) (drop_more text k 0 here.0 ∙ ap (λ (b : ℕ). b ∷ drop (k + 1) text) (eqb-true (get_or text k 0) s here.1))

-- bytes that pass a test which the separator does not pass
pub without : (p : ℕ → Bool) (s : ℕ) (text : List ℕ) → p s ≡ false → list_all p text ≡ true → is_without s text ≡ true
without p s [] fails h = refl
without p s (b ∷ text) fails h =
    let parts = and_parts (p b) (list_all p text) h in
    and_from (not (eqb b s)) (is_without s text) (by_case (eqb b s) refl parts.0) (without p s text fails parts.1)
  where
    by_case : (c : Bool) → eqb b s ≡ c → p b ≡ true → not c ≡ true
    by_case false e passes = refl
    by_case true e passes = absurd (false≢true (sym fails ∙ ap p (sym (eqb-true b s e)) ∙ passes))

no_dot : (n : ℕ) → n < 2 ^ 64 → is_without 46 (decimal n) ≡ true
unfolding is_digit
no_dot n lt = without is_digit 46 (decimal n) refl (decimal_digits n lt).0

pub pair_back : (max a b : ℕ) → max < 2 ^ 64 → a ≤ max32 → b ≤ max → pair_of max (decimal a ++ 46 ∷ decimal b) ≡ Some (a, b)
unfolding pair_of
pair_back max a b small ha hb =
    rw (parts_back 46 (decimal a) (decimal b) (no_dot a (omega arith)), numeral_back max32 a (omega arith) ha, numeral_back max b (omega arith) hb) refl

pub triple_back : (a b c : ℕ) → a ≤ max32 → b ≤ max32 → c ≤ max32 → triple_of (decimal a ++ 46 ∷ decimal b ++ 46 ∷ decimal c) ≡ Some (a, b, c)
unfolding triple_of
triple_back a b c ha hb hc =
    ap triple_of (append_assoc (decimal a) (46 ∷ decimal b) (46 ∷ decimal c))
    ∙ rw (parts_back 46 (decimal a) (decimal b ++ 46 ∷ decimal c) (no_dot a (omega arith)), numeral_back max32 a (omega arith) ha, pair_back max32 b c (omega arith) hb hc) refl

pub record IsPair (max : ℕ) (text : List ℕ) (x : ℕ × ℕ) : Type 0 where
  pub text-is : text ≡ decimal x.0 ++ 46 ∷ decimal x.1
  pub first : x.0 ≤ max32
  pub second : x.1 ≤ max

some_text : (text : List ℕ) (n : ℕ) → n < 2 ^ 64 → text ≡ decimal n → 0 < length text
some_text text n lt e = rw e (decimal_nonempty n lt)

pub pair_is : (max : ℕ) (text : List ℕ) (x : ℕ × ℕ) → max < 2 ^ 64 → pair_of max text ≡ Some x → IsPair max text x
unfolding pair_of
pair_is max text x small e = by_parts (numeral_of max32 (parts_of 46 text).0) (numeral_of max (parts_of 46 text).1) refl refl e
  where
    by_parts : (o p : Option ℕ) → numeral_of max32 (parts_of 46 text).0 ≡ o → numeral_of max (parts_of 46 text).1 ≡ p → option_and_then (λ a. option_map (λ b. (a, b)) p) o ≡ Some x → IsPair max text x
    by_parts (Some a) (Some b) ea eb e =
        let na = numeral_is max32 (parts_of 46 text).0 a (omega arith) ea in
        let nb = numeral_is max (parts_of 46 text).1 b small eb in
        let whole = parts_are 46 text (some_text (parts_of 46 text).1 b (omega (arith, nb.1)) nb.0) in
        subst (IsPair max text) (same_Some _ x e) (record { text-is = whole ∙ rw (na.0, nb.0) refl; first = na.1; second = nb.1 })
    by_parts (Some a) None ea eb e = absurd cc
    by_parts None p ea eb e = absurd cc

pub record IsTriple (text : List ℕ) (x : ℕ × ℕ × ℕ) : Type 0 where
  pub text-is : text ≡ decimal x.0 ++ 46 ∷ decimal x.1 ++ 46 ∷ decimal x.2
  pub first : x.0 ≤ max32
  pub second : x.1 ≤ max32
  pub third : x.2 ≤ max32

pub triple_is : (text : List ℕ) (x : ℕ × ℕ × ℕ) → triple_of text ≡ Some x → IsTriple text x
unfolding triple_of
triple_is text x e = by_parts (numeral_of max32 (parts_of 46 text).0) (pair_of max32 (parts_of 46 text).1) refl refl e
  where
    by_parts : (o : Option ℕ) (p : Option (ℕ × ℕ)) → numeral_of max32 (parts_of 46 text).0 ≡ o → pair_of max32 (parts_of 46 text).1 ≡ p → option_and_then (λ a. option_map (λ b. (a, b.0, b.1)) p) o ≡ Some x → IsTriple text x
    by_parts (Some a) (Some b) ea eb e =
        let na = numeral_is max32 (parts_of 46 text).0 a (omega arith) ea in
        let nb = pair_is max32 (parts_of 46 text).1 b (omega arith) eb in
        let some : 0 < length (parts_of 46 text).1 = rw nb.text-is (omega (arith, length-append (decimal b.0) (46 ∷ decimal b.1))) in
        let whole = parts_are 46 text some in
        subst (IsTriple text) (same_Some _ x e)
        (record { text-is = whole ∙ rw (na.0, nb.text-is) (sym (append_assoc (decimal a) (46 ∷ decimal b.0) (46 ∷ decimal b.1))); first = na.1; second = nb.first; third = nb.second })
    by_parts (Some a) None ea eb e = absurd cc
    by_parts None p ea eb e = absurd cc
