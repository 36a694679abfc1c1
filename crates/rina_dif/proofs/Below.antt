-- A fixed flow was bound on the rank below.
use Rattle.std.proofs.Common.{◌≡◌, ◌∙◌, ℕ, zero, suc, ◌⊎◌, List, [], ◌∷◌, ◌++◌, length, slice_get, Some, None, refl, sym, ap, inl, inr}
use Rattle.std.proofs.lemmas.Bool.Decides.{eqb_tells}
use Rattle.rina_base.specs.declared.number.Port.{Port}
use Rattle.rina_iface.specs.declared.ask.Fixed.{Fixed}
use Rattle.rina_iface.specs.declared.ends.End.{End}
use Rattle.rina_iface.specs.declared.state.PortState.TheVariants.{Allocated}
use Rattle.rina_iface.specs.declared.state.Role.TheVariants.{Asker, Far}
use Rattle.rina_iface.specs.Allocate.{new_end, next_port}
use Rattle.rina_iface.specs.Bind.{IsBound, bound}
use Rattle.rina_iface.specs.Journal.{AreKept, At}
use Rattle.rina_iface.specs.Seen.{Fac, Seen, end_of, with_fac}
use Rattle.rina_iface.proofs.Changed.{set_at, slice_get-set_other, slice_get-set_same}
use Rattle.rina_iface.proofs.Found.{end_of_stands, found, its_port, stands_there}
use Rattle.rina_iface.proofs.Grown.{still_at}

-- The two new ends

abbrev pub asker_of : (s : Seen) (f : Fixed) (p q : Port) (new : Seen) → IsBound s f p q new → End
asker_of s f p q new b = new_end b.flow Asker (next_port b.facility f.fac f.a) f.a_app f.b_app f.cube Allocated

abbrev pub far_of : (s : Seen) (f : Fixed) (p q : Port) (new : Seen) → IsBound s f p q new → End
far_of s f p q new b = new_end b.flow Far (next_port b.facility f.fac f.b) f.b_app f.a_app f.cube Allocated

pub second_last : {X : Type 0} (xs : List X) (x y : X) → slice_get (xs ++ x ∷ y ∷ []) (length xs) ≡ Some x
second_last [] x y = refl
second_last (z ∷ xs) x y = second_last xs x y

pub very_last : {X : Type 0} (xs : List X) (x y : X) → slice_get (xs ++ x ∷ y ∷ []) (suc (length xs)) ≡ Some y
very_last [] x y = refl
very_last (z ∷ xs) x y = very_last xs x y

-- what stands in it stood there, or is one of the two
two_more : {X : Type 0} (xs : List X) (x y : X) (i : ℕ) (z : X) → slice_get (xs ++ x ∷ y ∷ []) i ≡ Some z → (slice_get xs i ≡ Some z) ⊎ ((z ≡ x) ⊎ (z ≡ y))
two_more [] x y zero z at = inr (inl cc)
two_more [] x y (suc zero) z at = inr (inr cc)
two_more [] x y (suc (suc i)) z at = absurd cc
two_more (w ∷ xs) x y zero z at = inl at
two_more (w ∷ xs) x y (suc i) z at = two_more xs x y i z at

-- The facilities

abbrev after : (s : Seen) (f : Fixed) (p q : Port) (new : Seen) → IsBound s f p q new → Fac
after s f p q new b = bound b.facility f b.flow

there_now : (s : Seen) (f : Fixed) (p q : Port) (new : Seen) (b : IsBound s f p q new) → slice_get new.facs f.fac ≡ Some (after s f p q new b)
there_now s f p q new b = ap (λ (z : Seen). slice_get z.facs f.fac) b.new_is ∙ slice_get-set_same s.facs f.fac b.facility (after s f p q new b) b.stands

-- a facility has the ends that it had
record Goes (new : Seen) (n : ℕ) (old : Fac) : Type 0 where
  facility : Fac
  stands : slice_get new.facs n ≡ Some facility
  ends : (i : ℕ) (e : End) → At old.ends i e → At facility.ends i e

goes_on : (s : Seen) (f : Fixed) (p q : Port) (new : Seen) (b : IsBound s f p q new) (n : ℕ) (old : Fac) → slice_get s.facs n ≡ Some old → Goes new n old
goes_on s f p q new b n old is = elim (eqb_tells n f.fac) [
  | inl t ↦
      let same : b.facility ≡ old = (let e : Some b.facility ≡ Some old = sym b.stands ∙ ap (slice_get s.facs) (sym t.1) ∙ is in cc) in
      record { facility = after s f p q new b; stands = ap (slice_get new.facs) t.1 ∙ there_now s f p q new b; ends = λ i e at. still_at b.facility.ends _ i e (ap (λ (z : Fac). slice_get z.ends i) same ∙ at) }
  | inr u ↦ record { facility = old; stands = ap (λ (z : Seen). slice_get z.facs n) b.new_is ∙ slice_get-set_other s.facs f.fac n (after s f p q new b) u.1 ∙ is; ends = λ i e at. at }
]

-- an end stays
pub stays : (s : Seen) (f : Fixed) (p q : Port) (new : Seen) → IsBound s f p q new → AreKept new → (port : Port) (e : End) → end_of s port ≡ Some e → end_of new port ≡ Some e
stays s f p q new b kept port e is =
    let there = found s port e is in
    let g = goes_on s f p q new b port.fac there.facility there.stands.facility in
    let at = g.ends there.place e there.stands.is in
    let stands = stands_there new port.fac g.facility there.place e g.stands (kept.ports port.fac g.facility g.stands) at in
    let here : end_of new e.port ≡ Some e = end_of_stands new e.port g.facility there.place e stands in
    ap (end_of new) (sym (its_port s port there.facility there.place e there.stands)) ∙ here

-- The new ends are there

pub asker_there : (s : Seen) (f : Fixed) (p q : Port) (new : Seen) (b : IsBound s f p q new) → AreKept new → end_of new p ≡ Some (asker_of s f p q new b)
asker_there s f p q new b kept =
    let now = there_now s f p q new b in
    let e = asker_of s f p q new b in
    let at = second_last b.facility.ends e (far_of s f p q new b) in
    ap (end_of new) b.a_fresh ∙ end_of_stands new e.port (after s f p q new b) (length b.facility.ends) e (stands_there new f.fac (after s f p q new b) (length b.facility.ends) e now (kept.ports f.fac (after s f p q new b) now) at)

pub far_there : (s : Seen) (f : Fixed) (p q : Port) (new : Seen) (b : IsBound s f p q new) → AreKept new → end_of new q ≡ Some (far_of s f p q new b)
far_there s f p q new b kept =
    let now = there_now s f p q new b in
    let e = far_of s f p q new b in
    let at = very_last b.facility.ends (asker_of s f p q new b) e in
    ap (end_of new) b.b_fresh ∙ end_of_stands new e.port (after s f p q new b) (suc (length b.facility.ends)) e (stands_there new f.fac (after s f p q new b) (suc (length b.facility.ends)) e now (kept.ports f.fac (after s f p q new b) now) at)

-- Each other end is one of them

abbrev pub IsOneOf : (s : Seen) (f : Fixed) (p q : Port) (new : Seen) → IsBound s f p q new → Port → End → Type 0
IsOneOf s f p q new b port e = (slice_get new.facs port.fac ≡ Some (after s f p q new b)) × ((e ≡ asker_of s f p q new b) ⊎ (e ≡ far_of s f p q new b))

none_some : (s : Seen) (port : Port) (e : End) → end_of s port ≡ None → end_of s port ≡ Some e → ⊥
none_some s port e none is = (let both : None ≡ Some e = sym none ∙ is in cc)

-- an end that stood there has its port there
stood : (s : Seen) (port : Port) (n : ℕ) (fac : Fac) (i : ℕ) (e : End) → AreKept s → slice_get s.facs n ≡ Some fac → At fac.ends i e → e.port ≡ port → end_of s port ≡ Some e
stood s port n fac i e kept is at same = ap (end_of s) (sym same) ∙ end_of_stands s e.port fac i e (stands_there s n fac i e is (kept.ports n fac is) at)

pub one_of : (s : Seen) (f : Fixed) (p q : Port) (new : Seen) (b : IsBound s f p q new) → AreKept s → (port : Port) (e : End) → end_of new port ≡ Some e → end_of s port ≡ None → IsOneOf s f p q new b port e
one_of s f p q new b kept port e is none =
    let there = found new port e is in
    let same = its_port new port there.facility there.place e there.stands in
    let set : slice_get (with_fac s f.fac (after s f p q new b)).facs port.fac ≡ Some there.facility = ap (λ (z : Seen). slice_get z.facs port.fac) (sym b.new_is) ∙ there.stands.facility in
    elim (set_at s.facs f.fac port.fac b.facility (after s f p q new b) there.facility b.stands set) [
      | inl t ↦
          let at : At (after s f p q new b).ends there.place e = ap (λ (z : Fac). slice_get z.ends there.place) (sym t.1) ∙ there.stands.is in
          elim (two_more b.facility.ends (asker_of s f p q new b) (far_of s f p q new b) there.place e at) [
            | inl old ↦ absurd (none_some s port e none (stood s port f.fac b.facility there.place e kept b.stands old same))
            | inr now ↦ (there.stands.facility ∙ ap (λ (z : Fac). Some z) t.1, now)
          ]
      | inr u ↦ absurd (none_some s port e none (stood s port port.fac there.facility there.place e kept u.1 there.stands.is same))
    ]
