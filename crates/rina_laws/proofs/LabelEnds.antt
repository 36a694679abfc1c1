-- The ends of the facilities of a rank, and their ports.
use Rattle.std.proofs.Common.{arith, get_or, ◌≡◌, ◌≢◌, ℕ, zero, suc, Bool, true, false, List, [], ◌∷◌, slice_get, Some, position, length, nat_lt, ◌<◌, lt-ltb, refl, sym, ◌∙◌, ap, inl, inr, ◌⊎◌}
use Rattle.std.specs.Prelude.{◌==◌, ◌&&◌}
use Rattle.std.specs.List.{position_or_len}
use Rattle.std.proofs.lemmas.Option.{get_or_from_slice_get, same_Some, slice_get_within}
use Rattle.std.proofs.lemmas.List.Quantifiers.{position-Some}
use Rattle.std.proofs.lemmas.Bool.Decides.{eqb_tells}
use Rattle.rina_base.specs.declared.number.Port.{Port}
use Rattle.rina_iface.specs.declared.ends.End.{End}
use Rattle.rina_iface.specs.Ends.{has_port}
use Rattle.rina_iface.specs.Journal.{AreKept}
use Rattle.rina_iface.specs.Seen.{Fac, Seen, Stands, end_of}

-- an end stands at a place of a facility
pub record Holds (fs : List Fac) (n i : ℕ) (e : End) : Type 0 where
  pub facility : Fac
  pub stands : slice_get fs n ≡ Some facility
  pub is : slice_get facility.ends i ≡ Some e

-- a far end waits to be claimed, the one that stands there among those that wait
pub record Waits (fs : List Fac) (n at place : ℕ) : Type 0 where
  pub facility : Fac
  pub stands : slice_get fs n ≡ Some facility
  pub is : slice_get facility.waiting at ≡ Some place

-- the ports of facility n: each is its own, and no two ends have one
pub record ArePorts (n : ℕ) (f : Fac) : Type 0 where
  pub own : (i : ℕ) (e : End) → slice_get f.ends i ≡ Some e → e.port.fac ≡ n
  pub apart : (i k : ℕ) (a b : End) → slice_get f.ends i ≡ Some a → slice_get f.ends k ≡ Some b → a.port ≡ b.port → i ≡ k

pub record HavePorts (fs : List Fac) : Type 0 where
  pub of : (n : ℕ) (f : Fac) → slice_get fs n ≡ Some f → ArePorts n f

pub ports_kept : (s : Seen) → AreKept s → HavePorts s.facs
ports_kept s kept = record { of = λ n f at. record { own = (kept.ports n f at).own; apart = (kept.ports n f at).apart } }

-- ports are alike
abbrev pub same_port : Port → Port → Bool
same_port a b = (a.fac == b.fac) && (a.node == b.node) && (a.n == b.n)

port_is : (p q : Port) → p.fac ≡ q.fac → p.node ≡ q.node → p.n ≡ q.n → p ≡ q
port_is p q a b c = rw (sym a, sym b, sym c) refl

-- ports are equal, or not
pub port_tells : (p q : Port) → ((same_port p q ≡ true) × (p ≡ q)) ⊎ ((same_port p q ≡ false) × (p ≢ q))
port_tells p q = elim (eqb_tells p.fac q.fac) [
  | inl a ↦ elim (eqb_tells p.node q.node) [
    | inl b ↦ elim (eqb_tells p.n q.n) [
      | inl c ↦ inl (rw (a.0, b.0, c.0) refl, port_is p q a.1 b.1 c.1)
      | inr c ↦ inr (rw (a.0, b.0, c.0) refl, λ h. c.1 (ap (λ (x : Port). x.n) h))
    ]
    | inr b ↦ inr (rw (a.0, b.0) refl, λ h. b.1 (ap (λ (x : Port). x.node) h))
  ]
  | inr a ↦ inr (rw a.0 refl, λ h. a.1 (ap (λ (x : Port). x.fac) h))
]

pub same_self : (p : Port) → same_port p p ≡ true
same_self p = elim (port_tells p p) [ inl t ↦ t.0 | inr f ↦ absurd (f.1 refl) ]

-- the first that passes
pub record IsFirst {X : Type 0} (p : X → Bool) (xs : List X) : Type 0 where
  pub place : ℕ
  pub first : position_or_len p xs ≡ place
  pub item : X
  pub is : slice_get xs place ≡ Some item
  pub passes : p item ≡ true

first_here : {X : Type 0} (p : X → Bool) (z : X) (xs : List X) (b : Bool) → p z ≡ b → (p z ≡ false → IsFirst p xs) → IsFirst p (z ∷ xs)
first_here p z xs true is f = record { place = 0; first = rw is refl; item = z; is = refl; passes = is }
first_here p z xs false is f = let g = f is in record { place = suc g.place; first = rw is (omega (arith, g.first)); item = g.item; is = g.is; passes = g.passes }

-- where one passes, there is a first
first_at : {X : Type 0} (p : X → Bool) (xs : List X) (i : ℕ) (x : X) → slice_get xs i ≡ Some x → p x ≡ true → IsFirst p xs
first_at p [] i x h t = cc
first_at p (z ∷ xs) zero x h t = first_here p z xs (p z) refl (λ f. let is : z ≡ x = same_Some z x h in let no : true ≡ false = sym t ∙ ap p (sym is) ∙ f in cc)
first_at p (z ∷ xs) (suc i) x h t = first_here p z xs (p z) refl (λ f. first_at p xs i x h t)

position_is : {X : Type 0} (p : X → Bool) (xs : List X) → (f : IsFirst p xs) → position p xs ≡ Some f.place
position_is p xs f =
    let lt : f.place < length xs = slice_get_within xs f.place f.item f.is in
    let within : nat_lt f.place (length xs) ≡ true = lt-ltb f.place (length xs) lt in
    rw (f.first, within) refl

-- two places of one port are one
pub one_place : (fs : List Fac) (n i k : ℕ) (a b : End) → HavePorts fs → Holds fs n i a → Holds fs n k b → a.port ≡ b.port → i ≡ k
one_place fs n i k a b ports x y same =
    let facs : y.facility ≡ x.facility = same_Some y.facility x.facility (sym y.stands ∙ x.stands) in
    let there : slice_get x.facility.ends k ≡ Some b = rw facs at y.is in
    (ports.of n x.facility x.stands).apart i k a b x.is there same

-- two ends of one port are one
pub one_end : (fs : List Fac) (n i k : ℕ) (a b : End) → HavePorts fs → Holds fs n i a → Holds fs n k b → a.port ≡ b.port → a ≡ b
one_end fs n i k a b ports x y same =
    let facs : y.facility ≡ x.facility = same_Some y.facility x.facility (sym y.stands ∙ x.stands) in
    let there : slice_get x.facility.ends k ≡ Some b = rw facs at y.is in
    let places : i ≡ k = (ports.of n x.facility x.stands).apart i k a b x.is there same in
    same_Some a b (sym x.is ∙ rw places there)

-- an end has a port of its facility
pub its_fac : (fs : List Fac) (n i : ℕ) (e : End) → HavePorts fs → Holds fs n i e → e.port.fac ≡ n
its_fac fs n i e ports x = (ports.of n x.facility x.stands).own i e x.is

has_its : (e : End) (port : Port) → has_port port e ≡ true → e.port ≡ port
has_its e port h = elim (port_tells e.port port) [ inl t ↦ t.1 | inr f ↦ let no : true ≡ false = sym h ∙ f.0 in cc ]

-- an end stands at the place of its port
pub end_stands : (s : Seen) (i : ℕ) (e : End) (port : Port) → HavePorts s.facs → Holds s.facs port.fac i e → e.port ≡ port → end_of s port ≡ Some e
end_stands s i e port ports x is =
    let passes : has_port port e ≡ true = rw is (same_self port) in
    let f = first_at (has_port port) x.facility.ends i e x.is passes in
    let same : f.item.port ≡ port = has_its f.item port f.passes in
    let one : e ≡ f.item = one_end s.facs port.fac i f.place e f.item ports x (record { facility = x.facility; stands = x.stands; is = f.is }) (is ∙ sym same) in
    rw (x.stands, position_is (has_port port) x.facility.ends f, f.is) (ap (λ (z : End). Some z) (sym one))

-- numbers are equal, or not
pub number_tells : (m n : ℕ) → (m ≡ n) ⊎ (m ≢ n)
number_tells m n = elim (eqb_tells m n) [ inl t ↦ inl t.1 | inr f ↦ inr f.1 ]

-- the end that stands at the place of a port has that port
pub stands_port : (s : Seen) (port : Port) (f : Fac) (i : ℕ) (e : End) → Stands s port f i e → e.port ≡ port
stands_port s port f i e st =
    let found = position-Some (has_port port) f.ends i e st.place in
    let is : get_or f.ends i e ≡ e = get_or_from_slice_get f.ends i e e st.is in
    has_its e port (rw is at found.1)
