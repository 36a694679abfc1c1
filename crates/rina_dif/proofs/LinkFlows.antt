-- The flows below of the links of a DIF, as they are laid.
use Rattle.std.proofs.Common.{◌≡◌, ◌≢◌, ◌∙◌, ℕ, List, [], ◌∷◌, ◌++◌, slice_get, Some, sym, ap, subst, refl, inl, inr}
use Rattle.rina_base.specs.declared.number.Port.{Port}
use Rattle.rina_iface.specs.declared.ask.Fixed.{Fixed}
use Rattle.rina_iface.specs.declared.ends.End.{End}
use Rattle.rina_iface.specs.Allocate.{next_port}
use Rattle.rina_iface.specs.Bind.{IsBound}
use Rattle.rina_iface.specs.Journal.{AreKept, At}
use Rattle.rina_iface.specs.Seen.{Fac, Seen, end_of}
use Rattle.rina_iface.proofs.Found.{found, its_port}
use Rattle.rina_iface.proofs.Fresh.{fresh_port}
use Rattle.rina_iface.proofs.Grown.{pushed_at}
use Rattle.rina_data.specs.declared.settings.Settings.{Settings}
use Rattle.rina_data.specs.Configs.{config_of}
use Rattle.rina_dif_law.specs.Cloud.{IsMine}
use Rattle.rina_dif.specs.Laying.{AreApart, IsHome, IsNewLink, ends_of}
use Rattle.rina_dif.proofs.Below.{asker_of, asker_there, far_of, far_there, stays}

pub ends_push : (ports : List (Port × Port)) (a b : Port) → ends_of (ports ++ (a, b) ∷ []) ≡ (ends_of ports ++ a ∷ []) ++ b ∷ []
ends_push [] a b = refl
ends_push (p ∷ ps) a b = ap (λ (rest : List Port). p.0 ∷ p.1 ∷ rest) (ends_push ps a b)

-- the flow that was bound
pub new_link : (s : Settings) (mid : Seen) (f : Fixed) (a b : Port) (new : Seen) → IsBound mid f a b new → AreKept new → IsMine (config_of s).members f.a_app → IsMine (config_of s).members f.b_app → IsHome s a → IsHome s b → IsNewLink s new (a, b)
new_link s mid f a b new bound kept a_mine b_mine a_home b_home = record {
  flow = record {
    facility = ap (λ (p : Port). p.fac) bound.b_fresh ∙ sym (ap (λ (p : Port). p.fac) bound.a_fresh);
    near_end = asker_of mid f a b new bound;
    is_near = asker_there mid f a b new bound kept;
    far_end = far_of mid f a b new bound;
    is_far = far_there mid f a b new bound kept;
    partners = record { same_flow = refl; other_role = λ e. absurd cc };
    mine = a_mine;
    its_mine = b_mine;
  };
  unsent = refl;
  far_unsent = refl;
  home = a_home;
  far_home = b_home;
}

-- one that was bound before
link_on : (s : Settings) (mid : Seen) (f : Fixed) (a b : Port) (new : Seen) → IsBound mid f a b new → AreKept new → (pair : Port × Port) → IsNewLink s mid pair → IsNewLink s new pair
link_on s mid f a b new bound kept pair l = record {
  flow = record {
    facility = l.flow.facility;
    near_end = l.flow.near_end;
    is_near = stays mid f a b new bound kept pair.0 l.flow.near_end l.flow.is_near;
    far_end = l.flow.far_end;
    is_far = stays mid f a b new bound kept pair.1 l.flow.far_end l.flow.is_far;
    partners = l.flow.partners;
    mine = l.flow.mine;
    its_mine = l.flow.its_mine;
  };
  unsent = l.unsent;
  far_unsent = l.far_unsent;
  home = l.home;
  far_home = l.far_home;
}

pub flows_on : (s : Settings) (mid : Seen) (f : Fixed) (a b : Port) (new : Seen) (ports : List (Port × Port)) → IsBound mid f a b new → AreKept new → ((k : ℕ) (pair : Port × Port) → slice_get ports k ≡ Some pair → IsNewLink s mid pair) → IsNewLink s new (a, b) → (k : ℕ) (pair : Port × Port) → slice_get (ports ++ (a, b) ∷ []) k ≡ Some pair → IsNewLink s new pair
flows_on s mid f a b new ports bound kept old now k pair is = elim (pushed_at ports (a, b) k pair is) [
  | inl before ↦ link_on s mid f a b new bound kept pair (old k pair before)
  | inr last ↦ subst (IsNewLink s new) (sym last.1) now
]

-- Distinct ports

-- a port that is drawn is that of no end
not_next : (s : Seen) (fac node : ℕ) (f : Fac) (port : Port) (e : End) → AreKept s → slice_get s.facs fac ≡ Some f → end_of s port ≡ Some e → port ≢ next_port f fac node
not_next s fac node f port e kept is here same =
    let there = found s port e here in
    let its = its_port s port there.facility there.place e there.stands in
    let number : port.fac ≡ fac = ap (λ (p : Port). p.fac) same in
    let facility : there.facility ≡ f = (let both : Some there.facility ≡ Some f = sym there.stands.facility ∙ ap (slice_get s.facs) number ∙ is in cc) in
    let at : At f.ends there.place e = ap (λ (z : Fac). slice_get z.ends there.place) (sym facility) ∙ there.stands.is in
    fresh_port fac fac node f there.place e (kept.ports fac f is) at (its ∙ same)

apart_push : (xs : List Port) (x : Port) → AreApart xs → ((k : ℕ) → slice_get xs k ≡ Some x → ⊥) → AreApart (xs ++ x ∷ [])
apart_push xs x apart none = λ j k p at_j at_k. elim (pushed_at xs x j p at_j) [
  | inl a ↦ elim (pushed_at xs x k p at_k) [
    | inl b ↦ apart j k p a b
    | inr b ↦ absurd (none j (a ∙ ap (λ (z : Port). Some z) b.1))
  ]
  | inr a ↦ elim (pushed_at xs x k p at_k) [
    | inl b ↦ absurd (none k (b ∙ ap (λ (z : Port). Some z) a.1))
    | inr b ↦ a.0 ∙ sym b.0
  ]
]

pub apart_on : (mid : Seen) (f : Fixed) (a b : Port) (new : Seen) (ports : List (Port × Port)) → IsBound mid f a b new → AreKept mid → f.a ≢ f.b → ((k : ℕ) (port : Port) → slice_get (ends_of ports) k ≡ Some port → (e : End) × (end_of mid port ≡ Some e)) → AreApart (ends_of ports) → AreApart (ends_of (ports ++ (a, b) ∷ []))
apart_on mid f a b new ports bound kept differ stand apart =
    let first = apart_push (ends_of ports) a apart (λ k at. (let e = stand k a at in not_next mid f.fac f.a bound.facility a e.0 kept bound.stands e.1 bound.a_fresh)) in
    let second = apart_push (ends_of ports ++ a ∷ []) b first (λ k at. elim (pushed_at (ends_of ports) a k b at) [
      | inl old ↦ (let e = stand k b old in not_next mid f.fac f.b bound.facility b e.0 kept bound.stands e.1 bound.b_fresh)
      | inr last ↦ differ (sym (ap (λ (p : Port). p.node) bound.a_fresh) ∙ ap (λ (p : Port). p.node) (sym last.1) ∙ ap (λ (p : Port). p.node) bound.b_fresh)
    ]) in
    subst AreApart (sym (ends_push ports a b)) second
