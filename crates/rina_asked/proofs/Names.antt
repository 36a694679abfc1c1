-- A name in range is told from every other one by its bytes.
use Rattle.std.proofs.Common.{◌≡◌, ◌∙◌, ⊎_elim, ℕ, ◌<◌, ◌≤◌, ◌^◌, ◌==◌, ◌&&◌, Bool, true, false, List, bytes_eq, drop, take, refl, sym, ap, arith}
use Rattle.std.specs.Int.{from_be_bytes, w32}
use Rattle.std.proofs.lemmas.Bool.{cases_Bool, eqb-true, true≢false}
use Rattle.std.proofs.lemmas.Bool.Decides.{eqb_tells}
use Rattle.std.proofs.lemmas.Nat.{from_be_bytes-to_be_bytes_4}
use Rattle.std.proofs.lemmas.Slice.Eq.{bytes_eq-Decides}
use Rattle.rina_base.specs.declared.number.FlowName.{FlowName}
use Rattle.rina_cdap.specs.Messages.{be4}
use Rattle.rina_asked.specs.Alone.{IsName, is_of, name_text, one}

four_bytes : (n : ℕ) → n < 2 ^ 32 → from_be_bytes w32 (be4 n) ≡ n
unfolding be4
four_bytes n fits = from_be_bytes-to_be_bytes_4 n fits

src_in : (f : FlowName) → take 4 (name_text f) ≡ be4 f.src
unfolding be4
src_in f = refl

tick_in : (f : FlowName) → take 4 (drop 4 (name_text f)) ≡ be4 f.tick
unfolding be4
tick_in f = refl

count_in : (f : FlowName) → drop 8 (name_text f) ≡ be4 f.count
unfolding be4
count_in f = refl

module _ (f g : FlowName) (is : IsName f) (its : IsName g) (same : name_text g ≡ name_text f) where
  src_same : g.src ≡ f.src
  src_same = sym (four_bytes g.src its.src) ∙ ap (from_be_bytes w32) (sym (src_in g) ∙ ap (take 4) same ∙ src_in f) ∙ four_bytes f.src is.src

  tick_same : g.tick ≡ f.tick
  tick_same = sym (four_bytes g.tick its.tick) ∙ ap (from_be_bytes w32) (sym (tick_in g) ∙ ap (λ (bs : List ℕ). take 4 (drop 4 bs)) same ∙ tick_in f) ∙ four_bytes f.tick is.tick

  count_same : g.count ≡ f.count
  count_same = sym (four_bytes g.count its.count) ∙ ap (from_be_bytes w32) (sym (count_in g) ∙ ap (drop 8) same ∙ count_in f) ∙ four_bytes f.count is.count

-- a number is itself
itself : (n : ℕ) → (n == n) ≡ true
itself n = ⊎_elim (λ t. t.0) (λ u. absurd (u.1 refl)) (eqb_tells n n)

pub is_its_own : (f : FlowName) → is_of f f ≡ true
is_its_own f = (λ i. itself f.src i && (itself f.tick i && itself f.count i))

of_equals : (f g : FlowName) → g.src ≡ f.src → g.tick ≡ f.tick → g.count ≡ f.count → is_of f g ≡ true
of_equals f g src tick count = (λ i. (src i == f.src) && ((tick i == f.tick) && (count i == f.count))) ∙ is_its_own f

-- what has the bytes of a name has the name
pub bytes_name : (f g : FlowName) → IsName f → IsName g → one (bytes_eq (name_text g) (name_text f)) ≤ one (is_of f g)
bytes_name f g is its = ⊎_elim
    (λ yes.
    (let same = (bytes_eq-Decides (name_text g) (name_text f)).0 yes in
    let of : one (is_of f g) ≡ 1 = ap one (of_equals f g (src_same f g is its same) (tick_same f g is its same) (count_same f g is its same)) in
    let left : one (bytes_eq (name_text g) (name_text f)) ≡ 1 = ap one yes in
    omega (arith, of, left)))
    (λ no. (let left : one (bytes_eq (name_text g) (name_text f)) ≡ 0 = ap one no in omega (arith, left)))
    (cases_Bool (bytes_eq (name_text g) (name_text f)))

pub same_bytes : (f : FlowName) → bytes_eq (name_text f) (name_text f) ≡ true
same_bytes f = (bytes_eq-Decides (name_text f) (name_text f)).1 refl

-- and a name has its bytes
pub name_bytes : (f g : FlowName) → one (is_of f g) ≤ one (bytes_eq (name_text g) (name_text f))
name_bytes f g = by (g.src == f.src) (g.tick == f.tick) (g.count == f.count) refl refl refl
  where
    by : (a b c : Bool) → (g.src == f.src) ≡ a → (g.tick == f.tick) ≡ b → (g.count == f.count) ≡ c → one (is_of f g) ≤ one (bytes_eq (name_text g) (name_text f))
    by true true true src tick count =
        let same : name_text g ≡ name_text f = (λ i. name_text (record { src = eqb-true g.src f.src src i; tick = eqb-true g.tick f.tick tick i; count = eqb-true g.count f.count count i })) in
        let right : one (bytes_eq (name_text g) (name_text f)) ≡ 1 = ap one ((bytes_eq-Decides (name_text g) (name_text f)).1 same) in
        let left : one (is_of f g) ≡ 1 = (λ i. one (src i && (tick i && count i))) in
        omega (arith, right, left)
    by false b c src tick count = (let left : one (is_of f g) ≡ 0 = (λ i. one (src i && (tick i && count i))) in omega (arith, left))
    by true false c src tick count = (let left : one (is_of f g) ≡ 0 = (λ i. one (src i && (tick i && count i))) in omega (arith, left))
    by true true false src tick count = (let left : one (is_of f g) ≡ 0 = (λ i. one (src i && (tick i && count i))) in omega (arith, left))

-- it is one name
pub of_name : (f g : FlowName) → is_of f g ≡ true → g ≡ f
of_name f g = by (g.src == f.src) (g.tick == f.tick) (g.count == f.count) refl refl refl
  where
    by : (a b c : Bool) → (g.src == f.src) ≡ a → (g.tick == f.tick) ≡ b → (g.count == f.count) ≡ c → is_of f g ≡ true → g ≡ f
    by true true true src tick count is = (λ i. record { src = eqb-true g.src f.src src i; tick = eqb-true g.tick f.tick tick i; count = eqb-true g.count f.count count i })
    by false b c src tick count is = absurd (true≢false (sym is ∙ (λ i. src i && (tick i && count i))))
    by true false c src tick count is = absurd (true≢false (sym is ∙ (λ i. src i && (tick i && count i))))
    by true true false src tick count is = absurd (true≢false (sym is ∙ (λ i. src i && (tick i && count i))))

pub bytes_are : (f g : FlowName) → IsName f → IsName g → bytes_eq (name_text g) (name_text f) ≡ true → g ≡ f
bytes_are f g is its equal =
    let same = (bytes_eq-Decides (name_text g) (name_text f)).0 equal in
    (λ i. record { src = src_same f g is its same i; tick = tick_same f g is its same i; count = count_same f g is its same i })
