-- Whatever an end got has a sender: a partner of an end can be looked for.
use Rattle.std.proofs.Common.{◌≡◌, ℕ, zero, suc, List, [], ◌∷◌, slice_get, Some, None, Option, option_map, refl, ◌∙◌, ap, inl, inr, ◌⊎◌}
use Rattle.std.proofs.lemmas.Bool.Decides.{eqb_tells}
use Rattle.rina_base.specs.declared.number.FlowName.{FlowName}
use Rattle.rina_base.specs.declared.number.Port.{Port}
use Rattle.rina_cube.specs.declared.Kind.{Kind}
use Rattle.rina_iface.specs.declared.ends.End.{End}
use Rattle.rina_iface.specs.declared.state.Role.{Role}
use Rattle.rina_iface.specs.declared.state.Role.TheVariants.{Asker, Far}
use Rattle.rina_iface.specs.Journal.{At, HasPartner, IsPartner, KeepsBy}
use Rattle.rina_iface.specs.Seen.{Fac, Offer, Seen, Stands, cube_at, cube_in, promise_at}
use Rattle.rina_iface.proofs.Found.{end_of_stands, found, stands_there}
use Rattle.rina_law.specs.declared.entry.Entry.{Entry}
use Rattle.rina_law.specs.Journal.{Born}
use Rattle.rina_dif_law.specs.Partners.{EachIsMet}

abbrev Decided : Type 0 → Type 0
Decided X = X ⊎ (X → ⊥)

numbers_differ : (a b : ℕ) → Decided (a ≡ b)
numbers_differ a b = elim (eqb_tells a b) [ inl t ↦ inl t.1 | inr f ↦ inr f.1 ]

roles_differ : (a b : Role) → Decided (a ≡ b)
roles_differ Asker Asker = inl refl
roles_differ Asker Far = inr (λ e. cc)
roles_differ Far Asker = inr (λ e. cc)
roles_differ Far Far = inl refl

flow_is : (a b : FlowName) → a.src ≡ b.src → a.tick ≡ b.tick → a.count ≡ b.count → a ≡ b
flow_is a b src tick count = λ i. record { src = src i; tick = tick i; count = count i }

flows_differ : (a b : FlowName) → Decided (a ≡ b)
flows_differ a b = elim (numbers_differ a.src b.src) [
  | inl s ↦ elim (numbers_differ a.tick b.tick) [
    | inl t ↦ elim (numbers_differ a.count b.count) [
      | inl c ↦ inl (flow_is a b s t c)
      | inr c ↦ inr (λ e. c (ap (λ (f : FlowName). f.count) e))
    ]
    | inr t ↦ inr (λ e. t (ap (λ (f : FlowName). f.tick) e))
  ]
  | inr s ↦ inr (λ e. s (ap (λ (f : FlowName). f.src) e))
]

partners_differ : (e other : End) → Decided (IsPartner e other)
partners_differ e other = elim (flows_differ other.flow e.flow) [
  | inl f ↦ elim (roles_differ other.role e.role) [
    | inl r ↦ inr (λ p. p.other_role r)
    | inr r ↦ inl (record { same_flow = f; other_role = r })
  ]
  | inr f ↦ inr (λ p. f p.same_flow)
]

further : (x e : End) (ends : List End) → HasPartner ends e → HasPartner (x ∷ ends) e
further x e ends h = record { place = suc h.place; other = h.other; stands = h.stands; partner = h.partner }

at_end : (x e : End) (ends : List End) (k : ℕ) (other : End) → At (x ∷ ends) k other → IsPartner e other → (IsPartner e x → ⊥) → HasPartner ends e
at_end x e ends zero other h p not = (let is : x ≡ other = cc in absurd (not (rw is p)))
at_end x e ends (suc k) other h p not = record { place = k; other = other; stands = h; partner = p }

-- an end has a partner, or it has none
pub partner_or_none : (ends : List End) (e : End) → Decided (HasPartner ends e)
partner_or_none [] e = inr (λ h. let s = h.stands in cc)
partner_or_none (x ∷ ends) e = elim (partners_differ e x) [
  | inl p ↦ inl (record { place = zero; other = x; stands = refl; partner = p })
  | inr not ↦ elim (partner_or_none ends e) [
    | inl h ↦ inl (further x e ends h)
    | inr none ↦ inr (λ h. none (at_end x e ends h.place h.other h.stands h.partner not))
  ]
]

none_in : {X : Type 0} (xs : List X) (i : ℕ) (x : X) → xs ≡ [] → slice_get xs i ≡ Some x → ⊥
none_in [] i x e h = cc
none_in (y ∷ ys) i x e h = cc

-- an end that got something has a partner
pub has_partner : (ends : List End) (e : End) (i : ℕ) (x : Entry) → ((HasPartner ends e → ⊥) → e.got ≡ []) → slice_get e.got i ≡ Some x → HasPartner ends e
has_partner ends e i x alone h = elim (partner_or_none ends e) [
  | inl p ↦ p
  | inr none ↦ absurd (none_in e.got i x (alone none) h)
]

born_by : (kind : Option Kind) (promise : ℕ) (sent got : List Entry) → KeepsBy kind promise sent got → Born promise sent got
born_by None promise sent got k = k
born_by (Some kind) promise sent got k = k.born

cube_stands : (s : Seen) (port : Port) (f : Fac) (i : ℕ) (e : End) → Stands s port f i e → cube_at s port ≡ cube_in f.cubes e.cube
cube_stands s port f i e st = rw (st.facility, st.place, st.is) refl

promise_there : (s : Seen) (port : Port) (f : Fac) (i : ℕ) (e : End) (id : ℕ) (cube : Offer) → Stands s port f i e → e.cube ≡ id → cube_in f.cubes id ≡ Some cube → promise_at s port ≡ Some cube.promise
promise_there s port f i e id cube st same offer =
    ap (option_map (λ (c : Offer). c.promise)) (cube_stands s port f i e st ∙ ap (cube_in f.cubes) same ∙ offer)

pub met : EachIsMet
met s port e i x kept here h =
    let a = found s port e here in
    let f = a.facility in
    let k = kept.kept port.fac f a.stands.facility in
    let p = has_partner f.ends e i x (k.alone a.place e a.stands.is) h in
    let cube = k.keeps a.place p.place e p.other a.stands.is p.stands p.partner in
    let named = k.named a.place p.place e p.other a.stands.is p.stands p.partner in
    let there = stands_there s port.fac f p.place p.other a.stands.facility (kept.ports port.fac f a.stands.facility) p.stands in
    record {
      its_port = p.other.port;
      other = p.other;
      here = end_of_stands s p.other.port f p.place p.other there;
      partner = p.partner;
      named = named;
      promise = cube.cube.promise;
      promised = promise_there s port f a.place e e.cube cube.cube a.stands refl cube.offer;
      its_promise = promise_there s p.other.port f p.place p.other e.cube cube.cube there named.cube cube.offer;
      born = born_by cube.cube.kind cube.cube.promise p.other.sent e.got cube.keeps i x h;
    }
