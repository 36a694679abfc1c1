-- The names of the DIFs of a plan: each is a name, and no two are alike.
use Rattle.std.proofs.Common.{◌≡◌, ◌≢◌, ℕ, ◌<◌, inl, inr, List, length, map, get_or, slice_get, Some, Ok, sym, ap, ◌∙◌, subst}
use Rattle.std.proofs.lemmas.Bool.{cases_order}
use Rattle.std.proofs.lemmas.List.{length-map, get_or-map}
use Rattle.std.proofs.lemmas.Option.{get_or_from_slice_get, slice_get_within}
use Rattle.rina_base.specs.Names.{name_at}
use Rattle.rina_plan.specs.declared.dif.DifPlan.{DifPlan}
use Rattle.rina_stack.specs.declared.plan.Plan.{Plan}
use Rattle.rina_stack.specs.Unbroken.{AreDistinct}
use Rattle.rina_stack.specs.Plan.{IsPlan}

-- the name of each DIF is one
pub named : (p : Plan) → IsPlan p → (i : ℕ) (d : DifPlan) → slice_get p.difs i ≡ Some d → name_at d.name ≡ Ok d.name
named p h i d is =
    let here = h.dif_names i d (slice_get_within p.difs i d is) in
    subst (λ (x : DifPlan). name_at x.name ≡ Ok x.name) (get_or_from_slice_get p.difs i d d is) here

name_at_place : (difs : List DifPlan) (i : ℕ) (d : DifPlan) (t : List ℕ) → slice_get difs i ≡ Some d → get_or (map (λ (x : DifPlan). x.name) difs) i t ≡ d.name
name_at_place difs i d t is = get_or-map (λ (x : DifPlan). x.name) difs i d t (slice_get_within difs i d is) ∙ ap (λ (x : DifPlan). x.name) (get_or_from_slice_get difs i d d is)

earlier_differs : (difs : List DifPlan) (i k : ℕ) (d e : DifPlan) → AreDistinct (map (λ (x : DifPlan). x.name) difs) → slice_get difs i ≡ Some d → slice_get difs k ≡ Some e → i < k → d.name ≢ e.name
earlier_differs difs i k d e distinct is_d is_e lt = λ same.
    let within : k < length (map (λ (x : DifPlan). x.name) difs) = subst (λ m. k < m) (sym (length-map difs (λ (x : DifPlan). x.name))) (slice_get_within difs k e is_e) in
    distinct i k d.name lt within (name_at_place difs i d d.name is_d ∙ same ∙ sym (name_at_place difs k e d.name is_e))

-- the names of different DIFs differ
pub differ : (p : Plan) → IsPlan p → (i k : ℕ) (d e : DifPlan) → slice_get p.difs i ≡ Some d → slice_get p.difs k ≡ Some e → i ≢ k → d.name ≢ e.name
differ p h i k d e is_d is_e other = λ same. elim (cases_order i k) as (λ _. ⊥) [
  | inl alike ↦ other alike
  | inr way ↦ elim way as (λ _. ⊥) [
    | inl before ↦ earlier_differs p.difs i k d e h.difs_differ is_d is_e before same
    | inr after ↦ earlier_differs p.difs k i e d h.difs_differ is_e is_d after (sym same)
  ]
]
