-- A member closes its end of a flow that was given up: the DIF holds.
use Rattle.std.proofs.Common.{◌≡◌, ◌∙◌, ◌↔◌, ℕ, ◌+◌, ◌<◌, ◌≤◌, Bool, IsTrue, true, false, List, length, slice_get, Option, Some, Result, refl, sym, ap, subst, arith, inl, inr, option_map}
use Rattle.std.proofs.lemmas.Bool.{cases_lt, false≢true}
use Rattle.std.proofs.lemmas.Option.{same_Some, slice_get-map, slice_get_within}
use Rattle.rina_base.specs.declared.memory.Memory.{Memory}
use Rattle.rina_conn.specs.declared.conn.Conn.{Conn}
use Rattle.rina_data.specs.declared.settings.Member.{Member}
use Rattle.rina_data.specs.Configs.{config_of, member_of}
use Rattle.rina_flows.specs.Tied.{conns_of, ids_of}
use Rattle.rina_iface.specs.declared.ends.End.{End}
use Rattle.rina_iface.specs.declared.state.PortState.TheVariants.{Allocated}
use Rattle.rina_iface.specs.Seen.{Seen}
use Rattle.rina_law.specs.Direction.{Direction}
use Rattle.rina_dif.specs.declared.dif.Dif.{Dif}
use Rattle.rina_dif.specs.DeletesIn.{ClosesUp, IsBetween, IsFirstUp, IsUpAt, NoneUp, TakesDelete}
use Rattle.rina_dif.specs.Elsewhere.{home_of}
use Rattle.rina_dif.specs.FlowEnds.{ClosesManaged}
use Rattle.rina_dif.specs.Freeing.{FreesHere}
use Rattle.rina_dif.specs.Holding.{Holds}
use Rattle.rina_dif.proofs.FarLooks.{told_none}

-- Whether it stands at a place

module _ (d : Dif) (own far scep dcep place : ℕ) where
  pub never_up : (end : Option End) (conn : Option Conn) → slice_get d.flows.journal.ends place ≡ end → slice_get d.flows.conns place ≡ conn → ((e : End) (k : Conn) → end ≡ Some e → conn ≡ Some k → ⊥) → IsTrue false ↔ IsUpAt d own far scep dcep place
  never_up end conn is_end is_conn none = told_none (IsUpAt d own far scep dcep place) (λ h. none h.end h.conn (sym is_end ∙ h.is_at.end_is) (sym is_conn ∙ h.is_at.conn_is))

  module _ (end : End) (conn : Conn) (is_end : slice_get d.flows.journal.ends place ≡ Some end) (is_conn : slice_get d.flows.conns place ≡ Some conn) (up : Bool) (tells : IsTrue up ↔ (end.state ≡ Allocated)) where
    its_end : (h : IsUpAt d own far scep dcep place) → h.end ≡ end
    its_end h = same_Some h.end end (sym h.is_at.end_is ∙ is_end)

    its_conn : (h : IsUpAt d own far scep dcep place) → h.conn ≡ conn
    its_conn h = same_Some h.conn conn (sym h.is_at.conn_is ∙ is_conn)

    pub up_not : up ≡ false → IsTrue false ↔ IsUpAt d own far scep dcep place
    up_not not = told_none (IsUpAt d own far scep dcep place) (λ h. false≢true (sym not ∙ tells.1 (ap (λ (z : End). z.state) (sym (its_end h)) ∙ h.allocated)))

    pub up_told : up ≡ true → (between : Bool) → (IsTrue between ↔ IsBetween conn.sending.form.peer own far scep dcep) → IsTrue between ↔ IsUpAt d own far scep dcep place
    up_told is between tells_of = (
      (λ t. record { end = end; conn = conn; is_at = record { end_is = is_end; conn_is = is_conn }; allocated = tells.0 is; between = tells_of.0 t }),
      (λ h. tells_of.1 (subst (λ (k : Conn). IsBetween k.sending.form.peer own far scep dcep) (its_conn h) h.between)),
    )

-- Where it stands

abbrev pub NoneUpBefore : ℕ → Dif → ℕ → ℕ → ℕ → ℕ → Type 0
NoneUpBefore n d own far scep dcep = (k : ℕ) → k < n → IsUpAt d own far scep dcep k → ⊥

pub first_up : (d : Dif) (own far scep dcep place : ℕ) (told : Bool) → (IsTrue told ↔ IsUpAt d own far scep dcep place) → told ≡ true → NoneUpBefore place d own far scep dcep → IsFirstUp d own far scep dcep place
first_up d own far scep dcep place told tells so before = record {
  is_up = tells.0 so;
  least = λ other its. elim (cases_lt other place) [ inl l ↦ absurd (before other l its) | inr ge ↦ ge ];
}

pub next_up : (d : Dif) (own far scep dcep n : ℕ) (told : Bool) → (IsTrue told ↔ IsUpAt d own far scep dcep n) → told ≡ false → NoneUpBefore n d own far scep dcep → NoneUpBefore (n + 1) d own far scep dcep
next_up d own far scep dcep n told tells not before k lt one = elim (cases_lt k n) [
  | inl l ↦ before k l one
  | inr ge ↦ (let same : k ≡ n = omega (arith, lt, ge) in false≢true (sym not ∙ tells.1 (subst (λ (i : ℕ). IsUpAt d own far scep dcep i) same one)))
]

pub none_up : (d : Dif) (own far scep dcep n : ℕ) → length d.flows.conns ≤ n → NoneUpBefore n d own far scep dcep → NoneUp d own far scep dcep
none_up d own far scep dcep n le before k one = (let lt = slice_get_within d.flows.conns k one.conn one.is_at.conn_is in before k (omega (arith, lt, le)) one)

-- The end is closed

module _ (d : Dif) (own from dcep scep place : ℕ) (first : IsFirstUp d own from dcep scep place) (end : End) (is : slice_get d.flows.journal.ends place ≡ Some end) where
  end_is : first.is_up.end ≡ end
  end_is = same_Some first.is_up.end end (sym first.is_up.is_at.end_is ∙ is)

  pub up_there : (e : End) → slice_get d.flows.journal.ends place ≡ Some e → (e.state ≡ Allocated) × (e.port.node ≡ end.port.node)
  up_there e is_e =
      let same : first.is_up.end ≡ e = same_Some first.is_up.end e (sym first.is_up.is_at.end_is ∙ is_e) in
      (ap (λ (z : End). z.state) (sym same) ∙ first.is_up.allocated, ap (λ (z : End). z.port.node) (sym same ∙ end_is))

  pub closes_up : (d' : Dif) (lines : List Direction) (below : Seen) (at : ℕ) (r : Result (Unit {0}) Memory) → ((m : Member) → slice_get d.settings.members at ≡ Some m → own ≡ m.addr) → FreesHere d lines below place r d' → ClosesManaged r d end.port.node place d'.managements → TakesDelete d lines below at from dcep scep r d'
  closes_up d' lines below at r own_is frees manages m is_m = inl (subst (λ (n : ℕ). ClosesUp d lines below n from dcep scep r d') (own_is m is_m) (record {
    place = place;
    first = first;
    frees = frees;
    manages = subst (λ (e : End). ClosesManaged r d e.port.node place d'.managements) (sym end_is) manages;
  }))

pub closes_none : (d : Dif) (lines : List Direction) (below : Seen) (at own from dcep scep : ℕ) (r : Result (Unit {0}) Memory) → ((m : Member) → slice_get d.settings.members at ≡ Some m → own ≡ m.addr) → NoneUp d own from dcep scep → TakesDelete d lines below at from dcep scep r d
closes_none d lines below at own from dcep scep r own_is none m is_m = inr (subst (λ (n : ℕ). NoneUp d n from dcep scep) (own_is m is_m) none, refl)

-- the end that is closed is one of the member
pub up_home : (d : Dif) (lines : List Direction) (below : Seen) (at own from dcep scep place : ℕ) (m : Member) → Holds d lines below → slice_get d.settings.members at ≡ Some m → own ≡ m.addr → (up : IsUpAt d own from dcep scep place) → home_of d up.end.port.node ≡ Some at
up_home d lines below at own from dcep scep place m h is_m own_is up =
    let ids : slice_get (conns_of d.flows.conns) place ≡ Some (ids_of up.conn) = slice_get-map ids_of d.flows.conns place ∙ ap (option_map ids_of) up.is_at.conn_is in
    let a = h.numbered.addressed place up.end (ids_of up.conn) (record { end = up.is_at.end_is; ids_are = ids }) in
    let seen : slice_get (config_of d.settings).members at ≡ Some (member_of m) = slice_get-map member_of d.settings.members at ∙ ap (option_map member_of) is_m in
    let same = h.numbered.members.addrs a.place at a.member (member_of m) a.stands seen (sym a.addr ∙ up.between.own_is ∙ own_is) in
    a.at_home ∙ ap (λ (k : ℕ). Some k) same
