-- What the ledger of flows says of the ends of the journal.
use Rattle.std.proofs.Common.{◌≡◌, ℕ, None, Some, refl, sym, ◌∙◌, ap, subst}
use Rattle.std.proofs.lemmas.Option.{same_Some}
use Rattle.rina_base.specs.declared.pdu.Pdu.{Pdu}
use Rattle.rina_iface.specs.declared.ends.End.{End}
use Rattle.rina_iface.specs.declared.state.PortState.TheVariants.{Allocated}
use Rattle.rina_rest.specs.Flows.{Asker, Endpoint, Far, Flow, GoesFrom, HasRested, IsInUse, Side, end_at}
use Rattle.rina_rest.specs.Ledger.{Stands}
use Rattle.rina_rest.specs.Naming.{four_in}
use Rattle.rina_rest.proofs.Holding.{unended}
use Rattle.rina_dif_law.specs.Ids.{Ids, IsFrom, flipped}
use Rattle.rina_dif_law.specs.Places.{IsEndOf, IsUp, ids_from, role_of}

-- ---- sides

abbrev pub opposite : Side → Side
opposite Asker = Far
opposite Far = Asker

pub other_side : (s t : Side) → (s ≡ t → ⊥) → t ≡ opposite s
other_side Asker Asker ne = absurd (ne refl)
other_side Asker Far ne = refl
other_side Far Asker ne = refl
other_side Far Far ne = absurd (ne refl)

pub opposite_same : (s t : Side) → opposite s ≡ opposite t → s ≡ t
opposite_same Asker Asker e = refl
opposite_same Far Far e = refl
opposite_same Asker Far e = absurd (cc)
opposite_same Far Asker e = absurd (cc)

pub role_same : (s t : Side) → s ≡ t → role_of s ≡ role_of t
role_same s t e = ap role_of e

pub side_same : (s t : Side) → role_of s ≡ role_of t → s ≡ t
side_same Asker Asker e = refl
side_same Far Far e = refl
side_same Asker Far e = absurd (cc)
side_same Far Asker e = absurd (cc)

-- ---- ids and PDUs

-- the ids by the other end
pub ids_flipped : (s : Side) (f : Flow) (far : Endpoint) (qos : ℕ) → flipped (ids_from (opposite s) f far qos) ≡ ids_from s f far qos
ids_flipped Asker f far qos = refl
ids_flipped Far f far qos = refl

pub qos_from : (s : Side) (f : Flow) (far : Endpoint) (qos : ℕ) → (ids_from s f far qos).qos ≡ qos
qos_from Asker f far qos = refl
qos_from Far f far qos = refl

-- a PDU with these ids goes from the end at this side
pub goes_from : (s : Side) (f : Flow) (far : Endpoint) (qos : ℕ) (pdu : Pdu) → IsFrom (ids_from s f far qos) pdu → GoesFrom s f.asker far (four_in pdu)
goes_from Asker f far qos pdu from = (from.src, from.scep, from.dst, from.dcep)
goes_from Far f far qos pdu from = (from.src, from.scep, from.dst, from.dcep)

-- and back
pub goes_back : (s : Side) (f : Flow) (far : Endpoint) (qos : ℕ) (pdu : Pdu) → IsFrom (flipped (ids_from s f far qos)) pdu → GoesFrom (opposite s) f.asker far (four_in pdu)
goes_back Asker f far qos pdu from = (from.src, from.scep, from.dst, from.dcep)
goes_back Far f far qos pdu from = (from.src, from.scep, from.dst, from.dcep)

-- ---- ends that stand

pub is_up : (e : End) → e.state ≡ Allocated → IsUp e.state
is_up e is = subst IsUp (sym is) tt

pub unrested_up : (now : ℕ) (side : Side) (f : Flow) (far : Endpoint) → Stands side f far → HasRested f.rest now f.asker → HasRested f.rest now far → ⊥
unrested_up now Asker f far stands r q = unended f.rest now f.asker.ended stands r
unrested_up now Far f far stands r q = unended f.rest now far.ended stands q

-- while an end of a connection stands it is in use
abbrev pub used_up : (now : ℕ) (side : Side) (f : Flow) (far : Endpoint) → f.far ≡ Some far → Stands side f far → IsInUse now f
used_up now side f far known stands = record { far = far; known = known; unrested = unrested_up now side f far stands }

stands_at : (side : Side) (f : Flow) (far point : Endpoint) → f.far ≡ Some far → end_at side f ≡ Some point → point.ended ≡ None → Stands side f far
stands_at Asker f far point known is stands = ap (λ (z : Endpoint). z.ended) (same_Some f.asker point is) ∙ stands
stands_at Far f far point known is stands = ap (λ (z : Endpoint). z.ended) (same_Some far point (sym known ∙ is)) ∙ stands

pub stands_up : (side : Side) (f : Flow) (far : Endpoint) (e : End) (ids : Ids) → f.far ≡ Some far → IsEndOf f side e ids → IsUp e.state → Stands side f far
stands_up side f far e ids known end up = stands_at side f far end.point known end.is (end.up up)

-- a flow with an end at each side has a far end
pub far_of : (s : Side) (f : Flow) (p q : Endpoint) → end_at s f ≡ Some p → end_at (opposite s) f ≡ Some q → (far : Endpoint) × (f.far ≡ Some far)
far_of Asker f p q x y = (q, y)
far_of Far f p q x y = (p, x)
