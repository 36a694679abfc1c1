-- How the clocks of DIFs go on.
use Rattle.std.proofs.Common.{◌≡◌, ◌≢◌, ◌∙◌, ℕ, ◌+◌, ◌-◌, ◌<◌, ◌≤◌, List, get_or, length, length-set, map, slice_get, slice_set, Some, option_map, refl, sym, ap, subst, arith, inl, inr}
use Rattle.std.proofs.lemmas.List.{length-map}
use Rattle.std.proofs.lemmas.Option.{same_Some, slice_get-get_or, slice_get-map, slice_get_within}
use Rattle.rina_iface.specs.Journal.{AreKept}
use Rattle.rina_iface.specs.Seen.{Fac, Seen}
use Rattle.rina_iface.proofs.Changed.{set_at}
use Rattle.rina_iface.proofs.Later.{fac_refl}
use Rattle.rina_law.specs.Direction.{Direction}
use Rattle.rina_dif_law.specs.Cloud.{IsMine}
use Rattle.rina_data.specs.Configs.{Config, config_of}
use Rattle.rina_dif_law.specs.Lifting.{IsLifted, ticked}
use Rattle.rina_data.proofs.Finding.{there}
use Rattle.rina_dif_law.proofs.Own.{map_at}
use Rattle.rina_dif.specs.declared.dif.Dif.{Dif}
use Rattle.rina_dif.specs.Holding.{Holds}
use Rattle.rina_tower.specs.declared.tower.Tower.{Tower}
use Rattle.rina_tower.specs.Bystanders.{Anyone, Leaves, LeavesEnds}
use Rattle.rina_tower.specs.Ranks.{fac_of_dif, height_of, now_of, seen_now, seen_of, seen_of_difs}
use Rattle.rina_tower.specs.Stands.{At, IsRank, IsTower, kept_of}
use Rattle.rina_tower.specs.Unchanged.{ChangesClock}
use Rattle.rina_tower.specs.ClockTick.{AreClocked, IsClocked}
use Rattle.rina_tower.proofs.Alone.{ends_alone, lifted}
use Rattle.rina_tower.proofs.Ranking.{is_rank}

-- One DIF

pub is_clocked : (d d' : Dif) (now : ℕ) → ChangesClock now d d' → ((lines : List Direction) (below below' : Seen) → AreKept below' → IsLifted (config_of d.settings) below below' → below'.now ≡ now → Holds d lines below → Holds d' (map (ticked (now - d.clock)) lines) below') → IsClocked now d d'
is_clocked d d' now whole keeps = record {
  rest = whole;
  stands = λ below below' kept up clock st. (map (ticked (now - d.clock)) st.0, keeps st.0 below below' kept up clock st.1);
}

pub at_index : (difs : List Dif) (i : ℕ) (d x : Dif) → i < length difs → x ≡ get_or difs i d → slice_get difs i ≡ Some x
at_index difs i d x within is = slice_get-get_or difs i d within ∙ ap (λ (z : Dif). Some z) (sym is)

-- One after the other

-- the clocks of the first are set, and the others are as they were
pub record IsHalfway (at now : ℕ) (old new : List Dif) : Type 0 where
  pub size : length new ≡ length old
  pub done : (k : ℕ) (d d' : Dif) → k < at → slice_get old k ≡ Some d → slice_get new k ≡ Some d' → IsClocked now d d'
  pub rest : (k : ℕ) (d : Dif) → at ≤ k → slice_get new k ≡ Some d → slice_get old k ≡ Some d

pub half_begun : (now : ℕ) (difs : List Dif) → IsHalfway 0 now difs difs
half_begun now difs = record { size = refl; done = λ k d d' lt x y. absurd (omega (arith, lt)); rest = λ k d le x. x }

pub half_on : (at now : ℕ) (old new : List Dif) (d d' : Dif) → IsHalfway at now old new → slice_get new at ≡ Some d → IsClocked now d d' → IsHalfway (at + 1) now old (slice_set new at d')
half_on at now old new d d' h is clocked = record {
  size = length-set new at d' ∙ h.size;
  done = λ k x x' lt ox nx. elim (set_at new at k d d' x' is nx) [
    | inl s ↦
        let was : slice_get old at ≡ Some d = h.rest at d (omega arith) is in
        let same : x ≡ d = same_Some x d (sym (subst (λ (m : ℕ). slice_get old m ≡ Some x) s.0 ox) ∙ was) in
        subst (λ (z : Dif). IsClocked now z x') (sym same) (subst (λ (z : Dif). IsClocked now d z) (sym s.1) clocked)
    | inr o ↦ h.done k x x' (below_next k at lt o.0) ox o.1
  ];
  rest = λ k x le nx. elim (set_at new at k d d' x is nx) [
    | inl s ↦ absurd (let at_is = s.0 in omega (arith, le, at_is))
    | inr o ↦ h.rest k x (omega (arith, le)) o.1
  ];
}
  where
    below_next : (k m : ℕ) → k < m + 1 → k ≢ m → k < m
    below_next k m lt ne = omega (arith, lt, ne)

pub all_clocked : (at now : ℕ) (old new : List Dif) → length new ≤ at → IsHalfway at now old new → AreClocked now old new
all_clocked at now old new past h = record {
  number = h.size;
  each = λ n d d' x y. h.done n d d' (let within = slice_get_within new n d' y in omega (arith, within, past)) x y;
}

-- A rank

fac_same : (now : ℕ) (d d' : Dif) → IsClocked now d d' → fac_of_dif d' ≡ fac_of_dif d
fac_same now d d' c = ap fac_of_dif c.rest

pub rank_ticked : (difs difs' : List Dif) (below below' : Tower) → IsRank difs below → IsTower below → IsTower below' → height_of below' ≡ height_of below → Leaves Anyone (seen_of below) (seen_of below') → AreClocked (now_of below') difs difs' → IsRank difs' below'
rank_ticked difs difs' below below' rank v v' height alone clocked = is_rank difs' below' v' (let low = rank.low in omega (arith, low, height)) (record {
  stand = λ n d' at.
      let w = was n d' at in
      w.2.stands (seen_of below) (seen_of below') (kept_of below' v') (lifted (config_of w.0.settings) Anyone (seen_of below) (seen_of below') (kept_of below v) (kept_of below' v') (λ name mine. tt) (rank.standing.stand n w.0 w.1).1.standing.inside alone) (seen_now below') (rank.standing.stand n w.0 w.1);
  number = λ n d' at. (let w = was n d' at in ap (λ (g : Config). g.fac) (config n d' at) ∙ rank.standing.number n w.0 w.1);
  apart = λ n k d' o' x y ne name mine its.
      let w = was n d' x in
      let u = was k o' y in
      rank.standing.apart n k w.0 u.0 w.1 u.1 ne name (subst (λ (g : Config). IsMine g.members name) (config n d' x) mine) (subst (λ (g : Config). IsMine g.members name) (config k o' y) its);
  ipc = λ n d' name at mine. (let w = was n d' at in rank.standing.ipc n w.0 name w.1 (subst (λ (g : Config). IsMine g.members name) (config n d' at) mine));
})
  where
    was : (n : ℕ) (d' : Dif) → At difs' n d' → (d : Dif) × At difs n d × IsClocked (now_of below') d d'
    was n d' at =
        let within = slice_get_within difs' n d' at in
        let number = clocked.number in
        let d = there difs n (omega (arith, within, number)) in
        (d.0, d.1, clocked.each n d.0 d' d.1 at)

    config : (n : ℕ) (d' : Dif) (at : At difs' n d') → config_of d'.settings ≡ config_of (was n d' at).0.settings
    config n d' at = ap (λ (z : Dif). config_of z.settings) (was n d' at).2.rest

pub ticked_alone : (difs difs' : List Dif) (below below' : Tower) → Leaves Anyone (seen_of below) (seen_of below') → AreClocked (now_of below') difs difs' → Leaves Anyone (seen_of_difs (now_of below) difs) (seen_of_difs (now_of below') difs')
ticked_alone difs difs' below below' alone clocked = record {
  later = record {
    clock = (let c = alone.later.clock in let a = seen_now below in let b = seen_now below' in omega (arith, c, a, b));
    number = length-map difs' fac_of_dif ∙ clocked.number ∙ sym (length-map difs fac_of_dif);
    facs = λ n f at. (let m = map_at fac_of_dif difs n f at in let k = after n m.0 m.1 in (f, slice_get-map fac_of_dif difs' n ∙ ap (option_map fac_of_dif) k.1 ∙ ap (λ (g : Fac). Some g) (fac_same (now_of below') m.0 k.0 k.2 ∙ sym m.2), fac_refl (now_of below) (now_of below') f));
  };
  ends = λ n f f' x y.
      let m = map_at fac_of_dif difs n f x in
      let k = map_at fac_of_dif difs' n f' y in
      let same : f' ≡ f = k.2 ∙ fac_same (now_of below') m.0 k.0 (clocked.each n m.0 k.0 m.1 k.1) ∙ sym m.2 in
      subst (λ (g : Fac). LeavesEnds Anyone f.ends g.ends) (sym same) (ends_alone Anyone f.ends);
}
  where
    after : (n : ℕ) (d : Dif) → At difs n d → (d' : Dif) × At difs' n d' × IsClocked (now_of below') d d'
    after n d at =
        let within = slice_get_within difs n d at in
        let number = clocked.number in
        let k = there difs' n (omega (arith, within, number)) in
        (k.0, k.1, clocked.each n d k.0 at k.1)

-- no clock is ahead
pub clocks_before : (difs : List Dif) (below below' : Tower) → IsRank difs below → Leaves Anyone (seen_of below) (seen_of below') → (n : ℕ) (d : Dif) → At difs n d → d.clock ≤ now_of below'
clocks_before difs below below' rank alone n d at =
    let s = rank.standing.stand n d at in
    let clock = s.1.standing.clock in
    let later = alone.later.clock in
    let now = seen_now below' in
    omega (arith, clock, later, now)
