-- What two keys of PDUs have in common, and how often a key stands in lines and queues.
use Rattle.std.proofs.Common.{◌≡◌, ℕ, ◌+◌, ◌&&◌, Bool, true, false, cond, eqb, List, [], ◌∷◌, ◌++◌, refl, sym, ◌∙◌, ap, subst, arith, inl, inr, ◌⊎◌}
use Rattle.std.proofs.lemmas.Bool.{and_parts, eqb-true, eq-eqb, false≢true}
use Rattle.std.proofs.lemmas.List.Sums.{sum_by-append, sum_by-cons}
use Rattle.rina_account.specs.Account.{key_eq, kind_eq, off_count}
use Rattle.rina_account.specs.declared.ledger.Off.{Off}
use Rattle.rina_base.specs.declared.number.Key.{Key}
use Rattle.rina_base.specs.declared.pdu.PduKind.{PduKind}
use Rattle.rina_base.specs.declared.pdu.PduKind.TheVariants.{Piece, Ack}
use Rattle.rina_law.specs.Lists.{In}
use Rattle.rina_dif_law.specs.Counting.{off_numbers, times}

-- 1 where the keys are one, and else 0
abbrev pub one : Key → Key → ℕ
one k j = cond (key_eq k j) 1 0

kinds_same : (a b : PduKind) → kind_eq a b ≡ true → a ≡ b
kinds_same Piece Piece e = refl
kinds_same Ack Ack e = refl
kinds_same Piece Ack e = absurd (false≢true e)
kinds_same Ack Piece e = absurd (false≢true e)

kind_itself : (a : PduKind) → kind_eq a a ≡ true
kind_itself Piece = refl
kind_itself Ack = refl

pub piece_no_ack : (a : PduKind) → a ≡ Piece → a ≡ Ack → ⊥
piece_no_ack a p q = cc

-- the fields of one key
pub record IsOneKey (k j : Key) : Type 0 where
  pub kind : k.kind ≡ j.kind
  pub src : k.src ≡ j.src
  pub scep : k.scep ≡ j.scep
  pub seq : k.seq ≡ j.seq

pub one_key : (k j : Key) → key_eq k j ≡ true → IsOneKey k j
one_key k j e =
    let a = and_parts ((kind_eq k.kind j.kind && eqb k.src j.src) && eqb k.scep j.scep) (eqb k.seq j.seq) e in
    let b = and_parts (kind_eq k.kind j.kind && eqb k.src j.src) (eqb k.scep j.scep) a.0 in
    let c = and_parts (kind_eq k.kind j.kind) (eqb k.src j.src) b.0 in
    record { kind = kinds_same k.kind j.kind c.0; src = eqb-true k.src j.src c.1; scep = eqb-true k.scep j.scep b.1; seq = eqb-true k.seq j.seq a.1 }

-- two keys are one, or they are not
pub key_cases : (k j : Key) → ((one k j ≡ 1) × IsOneKey k j) ⊎ (one k j ≡ 0)
key_cases k j = go (key_eq k j) refl
  where
    go : (b : Bool) → key_eq k j ≡ b → ((one k j ≡ 1) × IsOneKey k j) ⊎ (one k j ≡ 0)
    go true e = inl (ap (λ (b : Bool). cond b 1 0) e, one_key k j e)
    go false e = inr (ap (λ (b : Bool). cond b 1 0) e)

-- where they are not one
pub one_not : (k j : Key) → (IsOneKey k j → ⊥) → one k j ≡ 0
one_not k j none = elim (key_cases k j) [ inl y ↦ absurd (none y.1) | inr n ↦ n ]

-- keys of pieces of one connection are one where their numbers are
pub one_by_number : (k j : Key) → k.kind ≡ j.kind → k.src ≡ j.src → k.scep ≡ j.scep → one k j ≡ cond (eqb k.seq j.seq) 1 0
one_by_number k j kind src scep =
    let a : kind_eq k.kind j.kind ≡ true = subst (λ (z : PduKind). kind_eq k.kind z ≡ true) kind (kind_itself k.kind) in
    let b = eq-eqb k.src j.src src in
    let c = eq-eqb k.scep j.scep scep in
    rw (a, b, c) refl

-- ---- lines

pub offs_append : (k : Key) (xs ys : List Off) → off_count (xs ++ ys) k ≡ off_count xs k + off_count ys k
offs_append k xs ys = sum_by-append (λ (line : Off). one k line.key) xs ys

pub offs_one : (k : Key) (off : Off) → off_count (off ∷ []) k ≡ one k off.key
offs_one k off = sum_by-cons (λ (line : Off). one k line.key) off [] ∙ (omega arith)

-- lines of pieces of one connection
pub record AreOf (src scep : ℕ) (offs : List Off) : Type 0 where
  pub each : (off : Off) → In off offs → (off.key.kind ≡ Piece) × (off.key.src ≡ src) × (off.key.scep ≡ scep)

pub fewer_of : (src scep : ℕ) (off : Off) (offs : List Off) → AreOf src scep (off ∷ offs) → AreOf src scep offs
fewer_of src scep off offs all = record { each = λ o i. all.each o (inr i) }

pub offs_of : (k : Key) (src scep : ℕ) (offs : List Off) → AreOf src scep offs → k.kind ≡ Piece → k.src ≡ src → k.scep ≡ scep → off_count offs k ≡ times k.seq (off_numbers offs)
offs_of k src scep [] all kind s c = refl
offs_of k src scep (off ∷ offs) all kind s c =
    let h = all.each off (inl refl) in
    let here = one_by_number k off.key (kind ∙ sym h.0) (s ∙ sym h.1) (c ∙ sym h.2) in
    let rest = offs_of k src scep offs (fewer_of src scep off offs all) kind s c in
    sum_by-cons (λ (line : Off). one k line.key) off offs ∙ ap (λ (n : ℕ). n + off_count offs k) here ∙ ap (λ (n : ℕ). cond (eqb k.seq off.key.seq) 1 0 + n) rest

pub offs_others : (k : Key) (src scep : ℕ) (offs : List Off) → AreOf src scep offs → (k.kind ≡ Piece → k.src ≡ src → k.scep ≡ scep → ⊥) → off_count offs k ≡ 0
offs_others k src scep [] all none = refl
offs_others k src scep (off ∷ offs) all none =
    let h = all.each off (inl refl) in
    let here = one_not k off.key (λ s. none (s.kind ∙ h.0) (s.src ∙ h.1) (s.scep ∙ h.2)) in
    let rest = offs_others k src scep offs (fewer_of src scep off offs all) none in
    let all : off_count (off ∷ offs) k ≡ one k off.key + off_count offs k = sum_by-cons (λ (line : Off). one k line.key) off offs in
    omega (arith, all, here, rest)

-- ---- numbers

pub times_append : (n : ℕ) (xs ys : List ℕ) → times n (xs ++ ys) ≡ times n xs + times n ys
times_append n [] ys = omega arith
times_append n (x ∷ xs) ys =
    let rest = times_append n xs ys in
    let at : ℕ = cond (eqb n x) 1 0 in
    let goal : at + times n (xs ++ ys) ≡ (at + times n xs) + times n ys = omega arith in
    goal
