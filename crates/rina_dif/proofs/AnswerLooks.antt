-- Looks for the end that an answer is for, and for the far end of which it tells.
use Rattle.std.proofs.Common.{◌≡◌, ◌∙◌, ◌↔◌, ℕ, ◌+◌, ◌<◌, ◌≤◌, Bool, true, false, IsTrue, length, slice_get, Option, Some, None, sym, ap, subst, arith, inl, inr}
use Rattle.std.proofs.lemmas.Bool.{false≢true}
use Rattle.std.proofs.lemmas.Bool.Decides.{eqb_tells}
use Rattle.std.proofs.lemmas.Option.{slice_get_within}
use Rattle.rina_base.specs.declared.number.FlowName.{FlowName}
use Rattle.rina_conn.specs.declared.conn.Conn.{Conn}
use Rattle.rina_iface.specs.declared.ends.End.{End}
use Rattle.rina_iface.specs.declared.state.PortState.TheVariants.{Pending}
use Rattle.rina_iface.specs.declared.state.Role.TheVariants.{Asker, Far}
use Rattle.rina_dif.specs.declared.dif.Dif.{Dif}
use Rattle.rina_dif.specs.Elsewhere.{home_of}
use Rattle.rina_dif.specs.FlowAnswers.{FindsFarEnd, IsFarEndAt, WaitsAtHome}
use Rattle.rina_dif.proofs.FarLooks.{told_none}

same_some : {X : Type 0} (o : Option X) (a b : X) → o ≡ Some a → o ≡ Some b → a ≡ b
same_some o a b h g = cc

-- The end that waits

module _ (d : Dif) (at place : ℕ) where
  pub none_waits : length d.flows.journal.ends ≤ place → IsTrue false ↔ WaitsAtHome d at place
  none_waits le = told_none (WaitsAtHome d at place) (λ h. let lt = slice_get_within d.flows.journal.ends place h.end h.is_end in omega arith)

  module _ (end : End) (is_end : slice_get d.flows.journal.ends place ≡ Some end) (waits : Bool) (tells : IsTrue waits ↔ ((end.role ≡ Asker) × (end.state ≡ Pending))) where
    its_end : (h : WaitsAtHome d at place) → h.end ≡ end
    its_end h = same_some (slice_get d.flows.journal.ends place) h.end end h.is_end is_end

    pub waits_not : waits ≡ false → IsTrue false ↔ WaitsAtHome d at place
    waits_not not = told_none (WaitsAtHome d at place) (λ h. false≢true (sym not ∙ tells.1 (ap (λ (z : End). z.role) (sym (its_end h)) ∙ h.asks, ap (λ (z : End). z.state) (sym (its_end h)) ∙ h.waits)))

    pub waits_told : waits ≡ true → (home : Bool) → (IsTrue home ↔ (home_of d end.port.node ≡ Some at)) → IsTrue home ↔ WaitsAtHome d at place
    waits_told is home tells_home = (
      (λ t. record { end = end; is_end = is_end; asks = (tells.0 is).0; waits = (tells.0 is).1; at_home = tells_home.0 t }),
      (λ h. tells_home.1 (ap (λ (z : End). home_of d z.port.node) (sym (its_end h)) ∙ h.at_home)),
    )

-- The far end

module _ (d : Dif) (place : ℕ) (flow : FlowName) (own cep : ℕ) where
  pub no_far_end : length d.flows.journal.ends ≤ place → IsTrue false ↔ IsFarEndAt d place flow own cep
  no_far_end le = told_none (IsFarEndAt d place flow own cep) (λ h. let lt = slice_get_within d.flows.journal.ends place h.end h.is_at.end_is in omega arith)

  pub no_far_conn : length d.flows.conns ≤ place → IsTrue false ↔ IsFarEndAt d place flow own cep
  no_far_conn le = told_none (IsFarEndAt d place flow own cep) (λ h. let lt = slice_get_within d.flows.conns place h.conn h.is_at.conn_is in omega arith)

  module _ (end : End) (conn : Conn) (is_end : slice_get d.flows.journal.ends place ≡ Some end) (is_conn : slice_get d.flows.conns place ≡ Some conn) (far : Bool) (tells : IsTrue far ↔ ((end.role ≡ Far) × (end.flow ≡ flow))) where
    this_end : (h : IsFarEndAt d place flow own cep) → h.end ≡ end
    this_end h = same_some (slice_get d.flows.journal.ends place) h.end end h.is_at.end_is is_end

    this_conn : (h : IsFarEndAt d place flow own cep) → h.conn ≡ conn
    this_conn h = same_some (slice_get d.flows.conns place) h.conn conn h.is_at.conn_is is_conn

    pub far_not : far ≡ false → IsTrue false ↔ IsFarEndAt d place flow own cep
    far_not not = told_none (IsFarEndAt d place flow own cep) (λ h. false≢true (sym not ∙ tells.1 (ap (λ (z : End). z.role) (sym (this_end h)) ∙ h.is_far, ap (λ (z : End). z.flow) (sym (this_end h)) ∙ h.same)))

    pub far_told : far ≡ true → (of : Bool) → (IsTrue of ↔ ((conn.sending.form.peer.own ≡ own) × (conn.sending.form.peer.scep ≡ cep))) → IsTrue of ↔ IsFarEndAt d place flow own cep
    far_told is of tells_of = (
      (λ t. record { end = end; conn = conn; is_at = record { end_is = is_end; conn_is = is_conn }; is_far = (tells.0 is).0; same = (tells.0 is).1; own_is = (tells_of.0 t).0; cep_is = (tells_of.0 t).1 }),
      (λ h. tells_of.1 (ap (λ (k : Conn). k.sending.form.peer.own) (sym (this_conn h)) ∙ h.own_is, ap (λ (k : Conn). k.sending.form.peer.scep) (sym (this_conn h)) ∙ h.cep_is)),
    )

-- none of so many places has it
abbrev pub NoneIsFar : ℕ → Dif → FlowName → ℕ → ℕ → Type 0
NoneIsFar n d flow own cep = (k : ℕ) → k < n → IsFarEndAt d k flow own cep → ⊥

pub far_found_nowhere : (d : Dif) (flow : FlowName) (own cep n : ℕ) → length d.flows.conns ≤ n → NoneIsFar n d flow own cep → FindsFarEnd d flow own cep None
far_found_nowhere d flow own cep n all none place h = (let lt = slice_get_within d.flows.conns place h.conn h.is_at.conn_is in none place (omega arith) h)

pub one_more_far : (d : Dif) (flow : FlowName) (own cep n : ℕ) (b : Bool) → NoneIsFar n d flow own cep → (IsTrue b ↔ IsFarEndAt d n flow own cep) → b ≡ false → NoneIsFar (n + 1) d flow own cep
one_more_far d flow own cep n b none tells not k lt h = elim (eqb_tells k n) [
  | inl t ↦ false≢true (sym not ∙ tells.1 (subst (λ (i : ℕ). IsFarEndAt d i flow own cep) t.1 h))
  | inr f ↦ (let other = f.1 in none k (omega arith) h)
]
