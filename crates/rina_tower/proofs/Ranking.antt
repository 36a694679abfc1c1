-- What a call or a step of one DIF is to its rank.
use Rattle.std.proofs.Common.{◌≡◌, ◌∙◌, ℕ, ◌<◌, List, slice_get, slice_set, Some, option_map, refl, sym, ap, subst, arith, inl, inr}
use Rattle.std.proofs.lemmas.List.{map-set}
use Rattle.std.proofs.lemmas.Option.{slice_get-map}
use Rattle.rina_iface.specs.Journal.{AreKept, HasPorts, IsKept, Promises}
use Rattle.rina_iface.specs.Later.{IsLaterFac}
use Rattle.rina_iface.specs.Seen.{Fac, Seen}
use Rattle.rina_iface.proofs.Changed.{set_at}
use Rattle.rina_iface.proofs.Later.{later_fac}
use Rattle.rina_law.specs.Direction.{Direction}
use Rattle.rina_dif_law.specs.Cloud.{IsMine}
use Rattle.rina_data.specs.Configs.{Config, config_of}
use Rattle.rina_dif_law.specs.Upward.{IsFacility, IsSilent}
use Rattle.rina_dif_law.proofs.Carries.{beside_carries}
use Rattle.rina_dif_law.proofs.Keepers.{facility}
use Rattle.rina_dif_law.proofs.Lifted.{beside_accounted}
use Rattle.rina_dif_law.proofs.Numbering.{beside_numbered}
use Rattle.rina_dif_law.proofs.Others.{stands_beside}
use Rattle.rina_dif_law.proofs.Own.{map_at}
use Rattle.rina_dif.specs.declared.dif.Dif.{Dif}
use Rattle.rina_dif.specs.Facade.{IsShownAs, OthersStand, shown_as}
use Rattle.rina_dif.specs.Holding.{Holds, Stands}
use Rattle.rina_dif.specs.Shown.{seen_of as seen_of_dif}
use Rattle.rina_dif.proofs.Connected.{beside_connected}
use Rattle.rina_dif.proofs.Causing.{caused_on, lower_later, none_is}
use Rattle.rina_tower.specs.declared.tower.Tower.{Tower}
use Rattle.rina_tower.specs.Bystanders.{Anyone, IsIpc, LeavesEnds, LeavesNow}
use Rattle.rina_tower.specs.Ranks.{fac_of_dif, height_of, now_of, seen_now, seen_of, seen_of_difs}
use Rattle.rina_tower.specs.Stands.{AreStanding, At, IsRank, IsTower, clock_of}
use Rattle.rina_tower.proofs.Alone.{fac_alone, lifted}

-- The rank below goes on without a DIF

pub holds_beside : (who : List ℕ → Type 0) (d : Dif) (lines : List Direction) (below below' : Seen) → AreKept below → AreKept below' → ((name : List ℕ) → IsMine (config_of d.settings).members name → who name) → LeavesNow who below below' → Holds d lines below → Holds d lines below'
holds_beside who d lines below below' kept kept' mine alone h =
    let up = lifted (config_of d.settings) who below below' kept kept' mine h.standing.inside alone.leaves in
    record {
      tied = h.tied;
      standing = stands_beside (seen_of_dif d) lines below below' kept' h.standing up alone.clock;
      carrying = beside_carries (seen_of_dif d) lines below below' kept' h.carrying up;
      numbered = beside_numbered (seen_of_dif d) below below' kept' h.numbered up;
      accounted = beside_accounted (seen_of_dif d) lines below below' kept' h.accounted up;
      caused = caused_on (seen_of_dif d) (seen_of_dif d) below below' (none_is (seen_of_dif d) (seen_of_dif d) refl) (lower_later (config_of d.settings) below below' kept' up.later) h.caused;
      written_off = h.written_off;
      housed = h.housed;
      managed = h.managed;
      enrolled = h.enrolled;
      connected = beside_connected (config_of d.settings) d.clock d.connections (seen_of_dif d).processes below below' kept' up alone.clock h.connected;
      flooded = h.flooded;
    }

-- where no IPC process sends, takes or is asked for, all DIFs stand on
pub standing_beside : (difs : List Dif) (below below' : Seen) → AreKept below → AreKept below' → LeavesNow IsIpc below below' → AreStanding difs below → AreStanding difs below'
standing_beside difs below below' kept kept' alone st = record {
  stand = λ n d at. (let s = st.stand n d at in (s.0, holds_beside IsIpc d s.0 below below' kept kept' (λ name mine. st.ipc n d name at mine) alone s.1));
  number = st.number;
  apart = st.apart;
  ipc = st.ipc;
}

-- A rank keeps the laws

pub difs_kept : (difs : List Dif) (below : Seen) (now : ℕ) → below.now ≡ now → AreStanding difs below → AreKept (seen_of_difs now difs)
difs_kept difs below now clock st = record {
  kept = λ n f at. (let m = map_at fac_of_dif difs n f at in let k = of_dif n m.0 m.1 in subst (λ (g : Fac). IsKept now g) (sym m.2) (subst (λ (t : ℕ). IsKept t (fac_of_dif m.0)) (clock_at n m.0 m.1) k.kept));
  ports = λ n f at. (let m = map_at fac_of_dif difs n f at in let k = of_dif n m.0 m.1 in subst (λ (g : Fac). HasPorts n g) (sym m.2) (subst (λ (t : ℕ). HasPorts t (fac_of_dif m.0)) (st.number n m.0 m.1) k.ports));
  promises = λ n f at. (let m = map_at fac_of_dif difs n f at in let k = of_dif n m.0 m.1 in subst (λ (g : Fac). Promises g) (sym m.2) k.promises);
}
  where
    of_dif : (n : ℕ) (d : Dif) → At difs n d → IsFacility (seen_of_dif d)
    of_dif n d at = (let s = st.stand n d at in facility (seen_of_dif d) s.0 below s.1.standing)

    clock_at : (n : ℕ) (d : Dif) → At difs n d → d.clock ≡ now
    clock_at n d at = (let s = st.stand n d at in s.1.standing.clock ∙ clock)

pub is_rank : (difs : List Dif) (below : Tower) → IsTower below → height_of below < 8 → AreStanding difs (seen_of below) → IsRank difs below
is_rank difs below v low st = record {
  standing = st;
  kept = difs_kept difs (seen_of below) (now_of below) (seen_now below) st;
  clock = (let c = clock_of below v in let same = seen_now below in omega (arith, c, same));
  low = low;
}

-- One DIF of a rank changes

-- its rank shows it
pub shows : (difs : List Dif) (below : Seen) (n : ℕ) (d : Dif) (now : ℕ) → below.now ≡ now → AreStanding difs below → At difs n d → IsShownAs (seen_of_difs now difs) n d
shows difs below n d now clock st at = record {
  clock = (let s = st.stand n d at in sym (s.1.standing.clock ∙ clock));
  here = slice_get-map fac_of_dif difs n ∙ ap (option_map fac_of_dif) at;
}

pub shown_after : (difs : List Dif) (n : ℕ) (d' : Dif) (now : ℕ) → seen_of_difs now (slice_set difs n d') ≡ shown_as (seen_of_difs now difs) n d'
shown_after difs n d' now = ap (λ (fs : List Fac). record { now = now; facs = fs }) (map-set fac_of_dif difs n d')

-- what it takes for the rank to stand on
pub standing_after : (difs : List Dif) (below below' : Seen) (n : ℕ) (d d' : Dif) → AreStanding difs below → At difs n d → d'.settings ≡ d.settings → Stands d' below' → OthersStand d below below' → AreStanding (slice_set difs n d') below'
standing_after difs below below' n d d' st is settings stands others = record {
  stand = λ k o at. elim (set_at difs n k d d' o is at) [
    | inl h ↦ subst (λ (x : Dif). Stands x below') (sym h.1) stands
    | inr h ↦ (let s = st.stand k o h.1 in (s.0, others o s.0 (st.apart n k d o is h.1 (λ e. h.0 (sym e))) s.1))
  ];
  number = λ k o at. (let w = was k o at in ap (λ (g : Config). g.fac) w.2 ∙ st.number k w.0 w.1);
  apart = λ k m o p x y ne name mine its.
      let w = was k o x in
      let v = was m p y in
      st.apart k m w.0 v.0 w.1 v.1 ne name (subst (λ (g : Config). IsMine g.members name) w.2 mine) (subst (λ (g : Config). IsMine g.members name) v.2 its);
  ipc = λ k o name at mine. (let w = was k o at in st.ipc k w.0 name w.1 (subst (λ (g : Config). IsMine g.members name) w.2 mine));
}
  where
    was : (k : ℕ) (o : Dif) → At (slice_set difs n d') k o → (w : Dif) × At difs k w × (config_of o.settings ≡ config_of w.settings)
    was k o at = elim (set_at difs n k d d' o is at) [
      | inl h ↦ (d, subst (λ (m : ℕ). At difs m d) (sym h.0) is, ap (λ (x : Dif). config_of x.settings) h.1 ∙ ap config_of settings)
      | inr h ↦ (o, h.1, refl)
    ]

-- a step: the rank is seen to do nothing to anyone's ends
pub silent_alone : (difs : List Dif) (now : ℕ) (n : ℕ) (d d' : Dif) → d.clock ≡ now → d'.clock ≡ d.clock → At difs n d → IsSilent (seen_of_dif d) (seen_of_dif d') → LeavesNow Anyone (seen_of_difs now difs) (seen_of_difs now (slice_set difs n d'))
silent_alone difs now n d d' clock same at silent =
    let s = seen_of_difs now difs in
    let here : slice_get s.facs n ≡ Some (fac_of_dif d) = slice_get-map fac_of_dif difs n ∙ ap (option_map fac_of_dif) at in
    let later : IsLaterFac now now (fac_of_dif d) (fac_of_dif d') = subst (λ (t : ℕ). IsLaterFac t now (fac_of_dif d) (fac_of_dif d')) clock (subst (λ (t : ℕ). IsLaterFac d.clock t (fac_of_dif d) (fac_of_dif d')) (same ∙ clock) silent.later) in
    let ends : LeavesEnds Anyone (fac_of_dif d).ends (fac_of_dif d').ends = record {
      stays = λ i e e' x y mine. silent.same i e e' x y;
      fresh = λ i e' y past mine. (silent.fresh i e' y past).answers;
      unsent = λ i e' y past mine. (let f = silent.fresh i e' y past in (f.sent, f.taken));
    } in
    subst (λ (z : Seen). LeavesNow Anyone s z) (sym (shown_after difs n d' now)) (fac_alone Anyone s n (fac_of_dif d) (fac_of_dif d') here (later_fac s n (fac_of_dif d) (fac_of_dif d') here later) ends)
