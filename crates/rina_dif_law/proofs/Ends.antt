-- The end of a port, by where it stands, before and after one end changed.
use Rattle.std.proofs.Common.{◌≡◌, ℕ, slice_get, Some, Option, sym, ◌∙◌, ap, subst, inl, inr, ◌⊎◌}
use Rattle.rina_base.specs.declared.number.Port.{Port}
use Rattle.rina_iface.specs.declared.ends.End.{End}
use Rattle.rina_iface.specs.Journal.{AreKept, At}
use Rattle.rina_iface.specs.Seen.{Fac, Seen, Stands, end_of, with_end, with_fac}
use Rattle.rina_iface.proofs.Changed.{set_at}
use Rattle.rina_iface.proofs.Found.{end_of_stands, found, its_port, stands_there}

-- an end with this port stands in the facility of the port
pub record IsEndAt (s : Seen) (port : Port) (e : End) : Type 0 where
  pub facility : Fac
  pub place : ℕ
  pub is_facility : slice_get s.facs port.fac ≡ Some facility
  pub stands : At facility.ends place e
  pub port_is : e.port ≡ port

pub end_at : (s : Seen) (port : Port) (e : End) → end_of s port ≡ Some e → IsEndAt s port e
end_at s port e h =
    let f = found s port e h in
    record { facility = f.facility; place = f.place; is_facility = f.stands.facility; stands = f.stands.is; port_is = its_port s port f.facility f.place e f.stands }

pub at_end : (s : Seen) (port : Port) (e : End) → AreKept s → IsEndAt s port e → end_of s port ≡ Some e
at_end s port e kept a =
    let own : e.port.fac ≡ port.fac = ap (λ (p : Port). p.fac) a.port_is in
    let there = stands_there s port.fac a.facility a.place e a.is_facility (kept.ports port.fac a.facility a.is_facility) a.stands in
    let P : Port → Type 0 = λ p. end_of s p ≡ Some e in
    subst P a.port_is (end_of_stands s e.port a.facility a.place e there)

pub same_some : {X : Type 0} (o : Option X) (a b : X) → o ≡ Some a → o ≡ Some b → a ≡ b
same_some o a b h g = cc

-- the end that stands at a port is the one that a call found there
pub stands_end : (s : Seen) (port : Port) (f : Fac) (i : ℕ) (e : End) → Stands s port f i e → IsEndAt s port e
stands_end s port f i e st = record { facility = f; place = i; is_facility = st.facility; stands = st.is; port_is = its_port s port f i e st }

-- after a change of one end, an end of a port is the changed one, or one that was there
pub changed_cases : (s : Seen) (port : Port) (f : Fac) (i : ℕ) (e e' : End) (p : Port) (a : End) → Stands s port f i e → e'.port ≡ e.port → IsEndAt (with_fac s port.fac (with_end f i e')) p a → ((p ≡ port) × (a ≡ e')) ⊎ IsEndAt s p a
changed_cases s port f i e e' p a st same h =
    elim (set_at s.facs port.fac p.fac f (with_end f i e') h.facility st.facility h.is_facility) [
      | inl t ↦
          let there : slice_get (with_end f i e').ends h.place ≡ Some a = subst (λ (g : Fac). slice_get g.ends h.place ≡ Some a) t.1 h.stands in
          elim (set_at f.ends i h.place e e' a st.is there) [
            | inl u ↦ inl (sym h.port_is ∙ ap (λ (x : End). x.port) u.1 ∙ same ∙ its_port s port f i e st, u.1)
            | inr u ↦ inr (record { facility = f; place = h.place; is_facility = ap (slice_get s.facs) t.0 ∙ st.facility; stands = u.1; port_is = h.port_is })
          ]
      | inr t ↦ inr (record { facility = h.facility; place = h.place; is_facility = t.1; stands = h.stands; port_is = h.port_is })
    ]
