-- What never changes stays.
use Rattle.std.proofs.Common.{◌≡◌, ◌∙◌, ℕ, ◌+◌, List, [], ◌∷◌, ◌++◌, slice_get, slice_set, Some, refl, sym, ap, subst, arith, inl, inr, zero, suc}
use Rattle.std.proofs.lemmas.List.{length-set}
use Rattle.std.proofs.lemmas.Option.{same_Some, slice_get_within}
use Rattle.rina_iface.specs.Seen.{Seen}
use Rattle.rina_iface.proofs.Changed.{set_at}
use Rattle.rina_data.proofs.Finding.{there}
use Rattle.rina_plan.specs.declared.dif.DifPlan.{DifPlan}
use Rattle.rina_stack.specs.declared.plan.Plan.{Plan}
use Rattle.rina_dif.specs.declared.dif.Dif.{Dif}
use Rattle.rina_dif.specs.Laying.{IsNew}
use Rattle.rina_tower.specs.declared.tower.Tower.{Tower, Rank', Wires}
use Rattle.rina_tower.specs.Calls.{Serves}
use Rattle.rina_tower.specs.PlanSettings.{AreOfPlan, IsAsPlanned, IsOfPlan}
use Rattle.rina_tower.specs.Ranks.{height_of}
use Rattle.rina_tower.specs.Unchanged.{AreStaying, IsStaying, difs_refl}
use Rattle.rina_tower.specs.Levels.{AtDif, IsAtDif, SameBelow}

-- A rank

-- one of its DIFs did something, and what never changes in it stays
pub set_stays : (difs difs' : List Dif) (n : ℕ) (d d' : Dif) → slice_get difs n ≡ Some d → IsStaying d d' → difs' ≡ slice_set difs n d' → AreStaying difs difs'
set_stays difs difs' n d d' is stays new = subst (AreStaying difs) (sym new) (record {
  number = length-set difs n d';
  each = λ k x x' at at'. elim (set_at difs n k d d' x' is at') [
    | inl s ↦
        let was : slice_get difs n ≡ Some x = subst (λ (m : ℕ). slice_get difs m ≡ Some x) s.0 at in
        let same : d ≡ x = same_Some d x (sym is ∙ was) in
        subst (λ (z : Dif). IsStaying z x') same (subst (IsStaying d) (sym s.1) stays)
    | inr o ↦ subst (IsStaying x) (same_Some x x' (sym at ∙ o.1)) (record { settings = refl; laid = refl })
  ];
})

pub one_stays : (does : Dif → Dif → Type 0) (n : ℕ) (difs difs' : List Dif) → ((d d' : Dif) → does d d' → IsStaying d d') → IsAtDif does n difs difs' → AreStaying difs difs'
one_stays does n difs difs' stays h = set_stays difs difs' n h.dif h.dif' h.is_dif (stays h.dif h.dif' h.done) h.new_is

pub any_stays : (does : Dif → Dif → Type 0) (n : ℕ) (none : Type 0) (difs difs' : List Dif) → ((d d' : Dif) → does d d' → IsStaying d d') → AtDif n does none difs difs' → AreStaying difs difs'
any_stays does n none difs difs' stays a = elim a [
  | inl h ↦ one_stays does n difs difs' stays h
  | inr h ↦ subst (AreStaying difs) (sym h.2) (difs_refl difs)
]

pub serves_stays : {changes : Dif → Dif → Type 0} (call : Seen → Seen → Type 0) (n : ℕ) (d d' : Dif) → Serves call changes n d d' → IsStaying d d'
serves_stays call n d d' s = record { settings = s.settings; laid = s.laid }

-- As planned

plan_stays : (plan : Plan) (rank : ℕ) (d d' : Dif) → IsStaying d d' → IsOfPlan plan rank d → IsOfPlan plan rank d'
plan_stays plan rank d d' s h = record { place = h.place; dif = h.dif; is_dif = h.is_dif; its_rank = h.its_rank; settings = h.settings ∙ ap Some (sym s.settings); laid = s.laid ∙ h.laid }

pub difs_planned : (plan : Plan) (rank : ℕ) (difs difs' : List Dif) → AreStaying difs difs' → AreOfPlan plan rank difs → AreOfPlan plan rank difs'
difs_planned plan rank difs difs' s h n d' at =
    let within = slice_get_within difs' n d' at in
    let number = s.number in
    let was = there difs n (omega (arith, within, number)) in
    plan_stays plan rank was.0 d' (s.each n was.0 d' was.1 at) (h n was.0 was.1)

-- where nothing below the top rank changes
pub same_planned : (plan : Plan) (t t' : Tower) → SameBelow t t' → IsAsPlanned plan t → IsAsPlanned plan t'
same_planned plan (Wires a) (Wires a') s h = tt
same_planned plan (Rank' p difs below) (Rank' p' difs' below') s h =
    let own : AreOfPlan plan (height_of below' + 1) difs' = subst (λ (b : Tower). AreOfPlan plan (height_of b + 1) difs') (sym s.1) (difs_planned plan (height_of below + 1) difs difs' s.0 h.0) in
    (own, subst (IsAsPlanned plan) (sym s.1) h.1)
same_planned plan (Wires a) (Rank' p' difs' below') s h = absurd s
same_planned plan (Rank' p difs below) (Wires a') s h = absurd s

-- A rank that is made

pub none_planned : (plan : Plan) (rank : ℕ) → AreOfPlan plan rank []
none_planned plan rank n d at = absurd cc

made_planned : (plan : Plan) (i rank : ℕ) (e : DifPlan) (d : Dif) (old new : Seen) → slice_get plan.difs i ≡ Some e → e.rank ≡ rank → IsNew plan i d old new → d.laid ≡ record { is_static = e.is_static; links = e.links; wait = e.wait } → IsOfPlan plan rank d
made_planned plan i rank e d old new is rank_is n laid = record { place = i; dif = e; is_dif = is; its_rank = rank_is; settings = n.settings; laid = laid }

-- one DIF more
pub more_planned : (plan : Plan) (rank : ℕ) (difs : List Dif) (d : Dif) → IsOfPlan plan rank d → AreOfPlan plan rank difs → AreOfPlan plan rank (difs ++ d ∷ [])
more_planned plan rank [] d new h zero x at = (let same : d ≡ x = cc in subst (IsOfPlan plan rank) same new)
more_planned plan rank [] d new h (suc n) x at = absurd cc
more_planned plan rank (e ∷ es) d new h zero x at = h zero x at
more_planned plan rank (e ∷ es) d new h (suc n) x at = more_planned plan rank es d new (λ k y is. h (suc k) y is) n x at

pub next_planned : (plan : Plan) (i rank : ℕ) (e : DifPlan) (difs difs' : List Dif) (d : Dif) (old new : Seen) → slice_get plan.difs i ≡ Some e → e.rank ≡ rank → IsNew plan i d old new → d.laid ≡ record { is_static = e.is_static; links = e.links; wait = e.wait } → difs' ≡ difs ++ d ∷ [] → AreOfPlan plan rank difs → AreOfPlan plan rank difs'
next_planned plan i rank e difs difs' d old new is rank_is n laid more h = subst (AreOfPlan plan rank) (sym more) (more_planned plan rank difs d (made_planned plan i rank e d old new is rank_is n laid) h)
