-- A field that is printed behind a space is the next field of a line.
use Rattle.std.proofs.Common.{◌≡◌, ℕ, ◌<◌, Bool, true, not, eqb, List, [], ◌∷◌, ◌++◌, length, position, Some, None, refl, ap, arith}
use Rattle.std.specs.List.{list_all, prefix_len}
use Rattle.std.proofs.lemmas.Bool.{and_parts, lt-ltb, le-ltb, ne_eqb}
use Rattle.std.proofs.lemmas.List.{append-nil, length-append, take_at, drop_at}
use Rattle.rina_schedule.specs.Spelling.{spaced}
use Rattle.rina_schedule.specs.Fields.{without_blanks, cut_at, next_of}

-- no space stands among these bytes
abbrev pub is_clear : List ℕ → Bool
is_clear text = list_all (λ b. not (eqb b 32)) text

-- a field: some bytes, and no space among them
pub record IsField (text : List ℕ) : Type 0 where
  pub some : 0 < length text
  pub clear : is_clear text ≡ true

abbrev before : List ℕ → ℕ
before text = prefix_len (λ b. not (eqb b 32)) text

before_all : (f : List ℕ) → is_clear f ≡ true → before f ≡ length f
before_all [] h = refl
before_all (b ∷ f) h =
    let p = and_parts (not (eqb b 32)) (is_clear f) h in
    let more : before f ≡ length f = before_all f p.1 in
    rw p.0 (omega (arith, more))

before_blank : (f rest : List ℕ) → is_clear f ≡ true → before (f ++ 32 ∷ rest) ≡ length f
before_blank [] rest h = refl
before_blank (b ∷ f) rest h =
    let p = and_parts (not (eqb b 32)) (is_clear f) h in
    let more : before (f ++ 32 ∷ rest) ≡ length f = before_blank f rest p.1 in
    rw p.0 (omega (arith, more))

no_blank : (f : List ℕ) → is_clear f ≡ true → position (λ b. eqb b 32) f ≡ None
no_blank f h = rw (before_all f h, le-ltb (length f) (length f) (omega arith)) refl

first_blank : (f rest : List ℕ) → is_clear f ≡ true → position (λ b. eqb b 32) (f ++ 32 ∷ rest) ≡ Some (length f)
first_blank f rest h = rw (before_blank f rest h, lt-ltb (length f) (length (f ++ 32 ∷ rest)) (omega (arith, length-append f (32 ∷ rest)))) refl

-- the first field is cut off where the next space stands
cut_next : (f : List ℕ) (fs : List (List ℕ)) → is_clear f ≡ true → cut_at (position (λ b. eqb b 32) (f ++ spaced fs)) (f ++ spaced fs) ≡ (f, spaced fs)
cut_next f [] h = rw (append-nil f, no_blank f h) refl
cut_next f (g ∷ gs) h = rw (first_blank f (g ++ spaced gs) h, take_at f (32 ∷ (g ++ spaced gs)) (length f) refl, drop_at f (32 ∷ (g ++ spaced gs)) (length f) refl) refl

no_blanks : (b : ℕ) (text : List ℕ) → not (eqb b 32) ≡ true → without_blanks (b ∷ text) ≡ b ∷ text
unfolding without_blanks
no_blanks b text h = rw (h, lt-ltb 0 (length (b ∷ text)) (omega arith)) refl

a_blank : (b : ℕ) (text : List ℕ) → not (eqb b 32) ≡ true → without_blanks (32 ∷ b ∷ text) ≡ b ∷ text
unfolding without_blanks
a_blank b text h = rw (h, lt-ltb 1 (length (32 ∷ b ∷ text)) (omega arith)) refl

-- the first field of a line
pub next_word : (f : List ℕ) (fs : List (List ℕ)) → IsField f → next_of (f ++ spaced fs) ≡ Some (f, spaced fs)
unfolding next_of
next_word [] fs h = absurd (omega (arith, h.some))
next_word (b ∷ f) fs h =
    let p = and_parts (not (eqb b 32)) (is_clear f) h.clear in
    rw (no_blanks b (f ++ spaced fs) p.0, ne_eqb (length (b ∷ (f ++ spaced fs))) 0 (λ e. omega arith)) (ap Some (cut_next (b ∷ f) fs h.clear))

-- the next field behind a space
pub next_spaced : (f : List ℕ) (fs : List (List ℕ)) → IsField f → next_of (spaced (f ∷ fs)) ≡ Some (f, spaced fs)
unfolding next_of
next_spaced [] fs h = absurd (omega (arith, h.some))
next_spaced (b ∷ f) fs h =
    let p = and_parts (not (eqb b 32)) (is_clear f) h.clear in
    rw (a_blank b (f ++ spaced fs) p.0, ne_eqb (length (b ∷ (f ++ spaced fs))) 0 (λ e. omega arith)) (ap Some (cut_next (b ∷ f) fs h.clear))

pub next_none : next_of [] ≡ None
unfolding next_of without_blanks
next_none = refl
