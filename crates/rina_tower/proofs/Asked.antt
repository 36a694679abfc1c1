-- A rank after an IPC process of one of its DIFs was asked.
use Rattle.std.proofs.Common.{◌≡◌, ◌∙◌, ◌↔◌, ℕ, List, true, map, slice_get, slice_set, Some, option_map, Result, Ok, Err, sym, ap, subst, inl, inr}
use Rattle.std.specs.Global.{Vec}
use Rattle.std.proofs.lemmas.List.{map-set}
use Rattle.std.proofs.lemmas.Option.{slice_get-map}
use Rattle.rina_iface.proofs.Changed.{slice_set-same}
use Rattle.rina_iface.specs.Seen.{Fac}
use Rattle.rina_dif.specs.declared.cdap.CdapCallError.{CdapCallError}
use Rattle.rina_dif.specs.declared.cdap.CdapCallError.TheVariants.{Memory}
use Rattle.rina_dif.specs.declared.dif.Dif.{Dif}
use Rattle.rina_dif.specs.Asking.{KeepsAll, answer_of}
use Rattle.rina_dif.specs.Facade.{NotesMemory}
use Rattle.rina_tower.specs.declared.tower.Tower.{Tower}
use Rattle.rina_tower.specs.Cdap.{AsksOne}
use Rattle.rina_tower.specs.Bystanders.{Anyone, LeavesNow}
use Rattle.rina_tower.specs.Ranks.{fac_of_dif, seen_of_difs}
use Rattle.rina_tower.specs.Stands.{IsRank, IsTower}
use Rattle.rina_tower.specs.Levels.{AtDif}
use Rattle.rina_tower.proofs.Alone.{same_alone}
use Rattle.rina_tower.proofs.Serving.{rank_after}

-- the DIFs stand
pub asked_rank : (n node : ℕ) (bytes : List ℕ) (result : Result (List ℕ) CdapCallError) (none : Type 0) (difs difs' : List Dif) (below : Tower) → IsRank difs below → IsTower below → AtDif n (AsksOne node bytes result) none difs difs' → IsRank difs' below
asked_rank n node bytes result none difs difs' below rank v a = elim a [
  | inl h ↦ rank_after difs difs' below n h.dif h.dif' rank v h.is_dif h.done.stands (ap (λ (d : Dif). d.settings) h.done.keeps.is) h.new_is
  | inr h ↦ subst (λ (ds : List Dif). IsRank ds below) (sym h.2) rank
]

same_facs : (difs difs' : List Dif) (n : ℕ) (d d' : Dif) → slice_get difs n ≡ Some d → KeepsAll d d' → difs' ≡ slice_set difs n d' → map fac_of_dif difs' ≡ map fac_of_dif difs
same_facs difs difs' n d d' at keeps is =
    let same : fac_of_dif d' ≡ fac_of_dif d = ap fac_of_dif keeps.is in
    let there : slice_get (map fac_of_dif difs) n ≡ Some (fac_of_dif d) = slice_get-map fac_of_dif difs n ∙ ap (option_map fac_of_dif) at in
    ap (map fac_of_dif) is ∙ map-set fac_of_dif difs n d' ∙ ap (slice_set (map fac_of_dif difs) n) same ∙ slice_set-same (map fac_of_dif difs) n (fac_of_dif d) there

-- and each facility of the rank shows what it showed
pub asked_facs : (n node : ℕ) (bytes : List ℕ) (result : Result (List ℕ) CdapCallError) (none : Type 0) (difs difs' : List Dif) → AtDif n (AsksOne node bytes result) none difs difs' → map fac_of_dif difs' ≡ map fac_of_dif difs
asked_facs n node bytes result none difs difs' a = elim a [
  | inl h ↦ same_facs difs difs' n h.dif h.dif' h.is_dif h.done.keeps h.new_is
  | inr h ↦ ap (map fac_of_dif) h.2
]

pub asked_alone : (n node : ℕ) (bytes : List ℕ) (result : Result (List ℕ) CdapCallError) (none : Type 0) (now : ℕ) (difs difs' : List Dif) → AtDif n (AsksOne node bytes result) none difs difs' → LeavesNow Anyone (seen_of_difs now difs) (seen_of_difs now difs')
asked_alone n node bytes result none now difs difs' a = same_alone Anyone (seen_of_difs now difs) (seen_of_difs now difs') (ap (λ (fs : List Fac). record { now = now; facs = fs }) (asked_facs n node bytes result none difs difs' a))

-- where memory is missing, the answer as it is told says so, and only there
same_missing : (r : Result (Vec ℕ) CdapCallError) → answer_of r ≡ Err Memory → r ≡ Err Memory
same_missing (Ok answer) h = absurd cc
same_missing (Err error) h = cc

-- so a DIF that was asked notes it by that answer
pub notes_told : (d d' : Dif) (r : Result (Vec ℕ) CdapCallError) → (d.failed ≡ true → r ≡ Err Memory) → (d'.failed ≡ true ↔ (r ≡ Err Memory)) → NotesMemory d d' (answer_of r) (Err Memory)
notes_told d d' r failed fails = record {
  failed = λ h. ap answer_of (failed h);
  fails = (λ h. ap answer_of (fails.0 h), λ h. fails.1 (same_missing r h));
}
