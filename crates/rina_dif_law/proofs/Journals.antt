-- The own journal after one end changed.
use Rattle.std.proofs.Common.{◌≡◌, ℕ, ◌≤◌, List, get_or, slice_get, slice_set, Some, cond, eqb, refl, sym, ◌∙◌, ap, subst, arith, inl, inr}
use Rattle.std.proofs.lemmas.List.Sums.{sum_by-set}
use Rattle.std.proofs.lemmas.Option.{get_or_from_slice_get, slice_get_within}
use Rattle.std.proofs.lemmas.Bool.Decides.{eqb_tells}
use Rattle.rina_base.specs.declared.number.Port.{Port}
use Rattle.rina_iface.specs.declared.ends.End.{End}
use Rattle.rina_iface.specs.declared.state.PortState.TheVariants.{Allocated}
use Rattle.rina_iface.specs.Ends.{drawn_at}
use Rattle.rina_iface.specs.Journal.{At, HasPartner, HasPorts, IsNamed, IsPartner, IsWhole}
use Rattle.rina_iface.specs.Seen.{Fac}
use Rattle.rina_iface.proofs.Changed.{set_at, slice_get-set_other, slice_get-set_same}
use Rattle.rina_iface.proofs.Grown.{dated_later}
use Rattle.rina_law.specs.declared.entry.Entry.{Entry}
use Rattle.rina_dif_law.specs.Standing.{IsJournal}

-- what is the same of an end in all its life
pub record IsConst (old new : End) : Type 0 where
  pub flow : new.flow ≡ old.flow
  pub role : new.role ≡ old.role
  pub port : new.port ≡ old.port
  pub app : new.app ≡ old.app
  pub peer : new.peer ≡ old.peer
  pub cube : new.cube ≡ old.cube

pub const_refl : (e : End) → IsConst e e
const_refl e = record { flow = refl; role = refl; port = refl; app = refl; peer = refl; cube = refl }

pub partner_const : (a b a' b' : End) → IsConst a a' → IsConst b b' → IsPartner a b → IsPartner a' b'
partner_const a b a' b' c f p = record { same_flow = f.flow ∙ p.same_flow ∙ sym c.flow; other_role = λ e. p.other_role (sym f.role ∙ e ∙ c.role) }

pub partner_was : (a b a' b' : End) → IsConst a a' → IsConst b b' → IsPartner a' b' → IsPartner a b
partner_was a b a' b' c f p = record { same_flow = sym f.flow ∙ p.same_flow ∙ c.flow; other_role = λ e. p.other_role (f.role ∙ e ∙ sym c.role) }

named_const : (a b a' b' : End) → IsConst a a' → IsConst b b' → IsNamed a b → IsNamed a' b'
named_const a b a' b' c f n = record { peer = c.peer ∙ n.peer ∙ sym f.app; its_peer = f.peer ∙ n.its_peer ∙ sym c.app; cube = f.cube ∙ n.cube ∙ sym c.cube }

drawn_set : (node : ℕ) (ends : List End) (at : ℕ) (e e' : End) → At ends at e → e'.port ≡ e.port → drawn_at node (slice_set ends at e') ≡ drawn_at node ends
drawn_set node ends at e e' h same =
    let counts : End → ℕ = λ x. cond (eqb x.port.node node) 1 0 in
    let sum = sum_by-set counts ends at e' e (slice_get_within ends at e h) in
    let here : counts (get_or ends at e) ≡ counts e = ap counts (get_or_from_slice_get ends at e e h) in
    let same_count : counts e' ≡ counts e = ap (λ (p : Port). cond (eqb p.node node) 1 0) same in
    omega arith

module _ (ends : List End) (at : ℕ) (e e' : End) (is : At ends at e) (const : IsConst e e') where
  -- an end after the change is one that was there, with what never changes
  pub was_end : (i : ℕ) (a : End) → At (slice_set ends at e') i a → (o : End) × At ends i o × IsConst o a
  was_end i a h = elim (set_at ends at i e e' a is h) [
    | inl t ↦ (e, ap (slice_get ends) t.0 ∙ is, subst (IsConst e) (sym t.1) const)
    | inr f ↦ (a, f.1, const_refl a)
  ]

  will_end : (i : ℕ) (o : End) → At ends i o → (a : End) × At (slice_set ends at e') i a × IsConst o a
  will_end i o h = elim (eqb_tells i at) [
    | inl t ↦
        let h' : At ends at o = subst (λ (n : ℕ). At ends n o) t.1 h in
        let o_is : e ≡ o = cc in
        (e', ap (slice_get (slice_set ends at e')) t.1 ∙ slice_get-set_same ends at e e' is, subst (λ (x : End). IsConst x e') o_is const)
    | inr f ↦ (o, slice_get-set_other ends at i e' f.1 ∙ h, const_refl o)
  ]

  partner_set : (o a : End) → IsConst o a → HasPartner ends o → HasPartner (slice_set ends at e') a
  partner_set o a c h =
      let w = will_end h.place h.other h.stands in
      record { place = h.place; other = w.0; stands = w.1; partner = partner_const o h.other a w.0 c w.2 h.partner }

  pub ports_set : (n : ℕ) (f f' : Fac) → f.ends ≡ ends → f'.ends ≡ slice_set ends at e' → HasPorts n f → HasPorts n f'
  ports_set n f f' ends_are ends_are' h =
      let old : (i : ℕ) (a : End) → At f'.ends i a → (o : End) × At f.ends i o × IsConst o a = λ i a x.
      (let w = was_end i a (subst (λ (l : List End). At l i a) ends_are' x) in
      (w.0, subst (λ (l : List End). At l i w.0) (sym ends_are) w.1, w.2)) in
      record {
        own = λ i a x. let o = old i a x in ap (λ (p : Port). p.fac) o.2.port ∙ h.own i o.0 o.1;
        apart = λ i k a b x y same.
            let o = old i a x in
            let p = old k b y in
            h.apart i k o.0 p.0 o.1 p.1 (sym o.2.port ∙ same ∙ p.2.port);
        drawn = λ i a x.
            let o = old i a x in
            let was = h.drawn i o.0 o.1 in
            let now_drawn : drawn_at o.0.port.node f'.ends ≡ drawn_at o.0.port.node f.ends = ap (drawn_at o.0.port.node) ends_are' ∙ drawn_set o.0.port.node ends at e e' is const.port ∙ ap (drawn_at o.0.port.node) (sym ends_are) in
            let P : Port → Type 0 = λ p. p.n ≤ drawn_at p.node f'.ends in
            subst P (sym o.2.port) (subst (λ (m : ℕ). o.0.port.n ≤ m) (sym now_drawn) was);
      }

  pub journal_set : (now : ℕ) → IsJournal now ends → IsWhole now e' → (e'.state ≡ Allocated → HasPartner ends e) → ((j : ℕ) (x : Entry) → slice_get e'.got j ≡ Some x → HasPartner ends e) → IsJournal now (slice_set ends at e')
  journal_set now h whole allocated met = record {
    distinct = λ i k a b x y flow role.
        let o = was_end i a x in
        let p = was_end k b y in
        h.distinct i k o.0 p.0 o.1 p.1 (sym o.2.flow ∙ flow ∙ p.2.flow) (sym o.2.role ∙ role ∙ p.2.role);
    far = λ i a x role.
        let o = was_end i a x in
        partner_set o.0 a o.2 (h.far i o.0 o.1 (sym o.2.role ∙ role));
    named = λ i k a b x y p.
        let o = was_end i a x in
        let q = was_end k b y in
        named_const o.0 q.0 a b o.2 q.2 (h.named i k o.0 q.0 o.1 q.1 (partner_was o.0 q.0 a b o.2 q.2 p));
    allocated = λ i a x state. elim (set_at ends at i e e' a is x) [
      | inl t ↦ partner_set e a (subst (IsConst e) (sym t.1) const) (allocated (ap (λ (z : End). z.state) (sym t.1) ∙ state))
      | inr f ↦ partner_set a a (const_refl a) (h.allocated i a f.1 state)
    ];
    met = λ i j a x y g. elim (set_at ends at i e e' a is y) [
      | inl t ↦ partner_set e a (subst (IsConst e) (sym t.1) const) (met j x (subst (λ (z : End). slice_get z.got j ≡ Some x) t.1 g))
      | inr f ↦ partner_set a a (const_refl a) (h.met i j a x f.1 g)
    ];
    whole = λ i a x. elim (set_at ends at i e e' a is x) [
      | inl t ↦ subst (IsWhole now) (sym t.1) whole
      | inr f ↦ h.whole i a f.1
    ];
  }

pub whole_later : (now later : ℕ) (e : End) → now ≤ later → IsWhole now e → IsWhole later e
whole_later now later e le h = record { sent = dated_later now later e.sent le h.sent; got = dated_later now later e.got le h.got; taken = h.taken }

pub journal_later : (now later : ℕ) (ends : List End) → now ≤ later → IsJournal now ends → IsJournal later ends
journal_later now later ends le h = record { distinct = h.distinct; far = h.far; named = h.named; allocated = h.allocated; met = h.met; whole = λ i e x. whole_later now later e le (h.whole i e x) }
