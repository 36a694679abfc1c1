-- Looks for the ends of a flow.
use Rattle.std.proofs.Common.{◌≡◌, ◌∙◌, ◌↔◌, ℕ, ◌+◌, ◌<◌, ◌≤◌, Bool, true, false, IsTrue, not, List, length, slice_get, Option, Some, None, refl, sym, ap, subst, arith, inl, inr}
use Rattle.std.proofs.lemmas.Bool.{false≢true}
use Rattle.std.proofs.lemmas.Bool.Decides.{eqb_tells}
use Rattle.std.proofs.lemmas.Option.{slice_get_within}
use Rattle.rina_alloc.specs.declared.message.FlowAsk.{FlowAsk}
use Rattle.rina_base.specs.declared.number.FlowName.{FlowName}
use Rattle.rina_conn.specs.declared.conn.Conn.{Conn}
use Rattle.rina_iface.specs.declared.ends.End.{End}
use Rattle.rina_iface.specs.declared.state.Role.TheVariants.{Far}
use Rattle.rina_iface.specs.Journal.{At}
use Rattle.rina_dif.specs.declared.dif.Dif.{Dif}
use Rattle.rina_dif.specs.FarMaking.{AsksFor, FindsAsker, HasFar, IsAskerOf, LeadsTo}

same_some : {X : Type 0} (o : Option X) (a b : X) → o ≡ Some a → o ≡ Some b → a ≡ b
same_some o a b h g = cc

-- what holds of nothing is told by false
pub told_none : (P : Type 0) → (P → ⊥) → IsTrue false ↔ P
told_none P none = ((λ t. absurd (false≢true t)), (λ p. absurd (none p)))

-- The far end of a flow

-- none of so many ends is it
abbrev pub NoneFar : ℕ → List End → FlowName → Type 0
NoneFar n ends flow = (k : ℕ) (e : End) → k < n → At ends k e → e.role ≡ Far → e.flow ≡ flow → ⊥

pub none_before : (ends : List End) (flow : FlowName) → NoneFar 0 ends flow
none_before ends flow k e lt is far same = omega arith

pub one_more_none : (ends : List End) (flow : FlowName) (n : ℕ) (end : End) (b : Bool) → At ends n end → NoneFar n ends flow → (IsTrue b ↔ ((end.role ≡ Far) × (end.flow ≡ flow))) → b ≡ false → NoneFar (n + 1) ends flow
one_more_none ends flow n end b here none tells not k e lt is far same = elim (eqb_tells k n) [
  | inl t ↦
      (let there : At ends n e = subst (λ (i : ℕ). At ends i e) t.1 is in
      let e_is = same_some (slice_get ends n) e end there here in
      false≢true (sym not ∙ tells.1 (ap (λ (z : End). z.role) (sym e_is) ∙ far, ap (λ (z : End). z.flow) (sym e_is) ∙ same)))
  | inr f ↦ (let other = f.1 in none k e (omega arith) is far same)
]

pub far_nowhere : (ends : List End) (flow : FlowName) (n : ℕ) → length ends ≤ n → NoneFar n ends flow → IsTrue false ↔ HasFar ends flow
far_nowhere ends flow n all none = told_none (HasFar ends flow) (λ h. let lt = slice_get_within ends h.place h.end h.stands in none h.place h.end (omega arith) h.stands h.is_far h.same)

-- The end of an asker

module _ (d : Dif) (place own from : ℕ) (ask : FlowAsk) where
  pub no_asker_end : length d.flows.journal.ends ≤ place → IsTrue false ↔ IsAskerOf d place own from ask
  no_asker_end le = told_none (IsAskerOf d place own from ask) (λ h. let lt = slice_get_within d.flows.journal.ends place h.end h.is_at.end_is in omega arith)

  pub no_asker_conn : length d.flows.conns ≤ place → IsTrue false ↔ IsAskerOf d place own from ask
  no_asker_conn le = told_none (IsAskerOf d place own from ask) (λ h. let lt = slice_get_within d.flows.conns place h.conn h.is_at.conn_is in omega arith)

  module _ (end : End) (conn : Conn) (is_end : slice_get d.flows.journal.ends place ≡ Some end) (is_conn : slice_get d.flows.conns place ≡ Some conn) (asks : Bool) (tells_asks : IsTrue asks ↔ AsksFor end ask) where
    its_end : (h : IsAskerOf d place own from ask) → h.end ≡ end
    its_end h = same_some (slice_get d.flows.journal.ends place) h.end end h.is_at.end_is is_end

    pub asks_not : asks ≡ false → IsTrue false ↔ IsAskerOf d place own from ask
    asks_not not = told_none (IsAskerOf d place own from ask) (λ h. false≢true (sym not ∙ tells_asks.1 (subst (λ (z : End). AsksFor z ask) (its_end h) h.asks)))

    module _ (leads : Bool) (tells_leads : IsTrue leads ↔ LeadsTo conn.sending.form.peer own from ask.scep) where
      its_conn : (h : IsAskerOf d place own from ask) → h.conn ≡ conn
      its_conn h = same_some (slice_get d.flows.conns place) h.conn conn h.is_at.conn_is is_conn

      pub leads_not : leads ≡ false → IsTrue false ↔ IsAskerOf d place own from ask
      leads_not not = told_none (IsAskerOf d place own from ask) (λ h. false≢true (sym not ∙ tells_leads.1 (subst (λ (z : Conn). LeadsTo z.sending.form.peer own from ask.scep) (its_conn h) h.leads)))

      pub asker_told : asks ≡ true → leads ≡ true → (far : Bool) → (IsTrue far ↔ HasFar d.flows.journal.ends ask.flow) → IsTrue (not far) ↔ IsAskerOf d place own from ask
      asker_told asked led false tells_far = (
        (λ t. record { end = end; conn = conn; is_at = record { end_is = is_end; conn_is = is_conn }; asks = tells_asks.0 asked; leads = tells_leads.0 led; alone = λ h. false≢true (tells_far.1 h) }),
        (λ h. refl),
      )
      asker_told asked led true tells_far = told_none (IsAskerOf d place own from ask) (λ h. h.alone (tells_far.0 refl))

-- none of so many places has it
abbrev pub NoneAsks : ℕ → Dif → ℕ → ℕ → FlowAsk → Type 0
NoneAsks n d own from ask = (k : ℕ) → k < n → IsAskerOf d k own from ask → ⊥

pub none_asks : (d : Dif) (own from : ℕ) (ask : FlowAsk) → NoneAsks 0 d own from ask
none_asks d own from ask k lt h = omega arith

pub asked_nowhere : (d : Dif) (own from : ℕ) (ask : FlowAsk) (n : ℕ) → length d.flows.conns ≤ n → NoneAsks n d own from ask → FindsAsker d own from ask None
asked_nowhere d own from ask n all none place h = (let lt = slice_get_within d.flows.conns place h.conn h.is_at.conn_is in none place (omega arith) h)

pub one_more_asks : (d : Dif) (own from : ℕ) (ask : FlowAsk) (n : ℕ) (b : Bool) → NoneAsks n d own from ask → (IsTrue b ↔ IsAskerOf d n own from ask) → b ≡ false → NoneAsks (n + 1) d own from ask
one_more_asks d own from ask n b none tells not k lt h = elim (eqb_tells k n) [
  | inl t ↦ false≢true (sym not ∙ tells.1 (subst (λ (i : ℕ). IsAskerOf d i own from ask) t.1 h))
  | inr f ↦ (let other = f.1 in none k (omega arith) h)
]
