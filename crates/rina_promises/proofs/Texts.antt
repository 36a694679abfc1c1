-- Texts that are appended one behind the other.
use Rattle.std.proofs.Common.{◌≡◌, ◌∙◌, ℕ, ◌+◌, List, [], ◌∷◌, ◌++◌, take, get_or, slice_get, Some, Result, Ok, Err, refl, sym, ap, subst, append_assoc, arith}
use Rattle.std.proofs.lemmas.List.{append-nil, take_more}
use Rattle.std.proofs.lemmas.Option.{get_or_from_slice_get, slice_get_within}
use Rattle.std.specs.Prelude.{OnOk}
use Rattle.std.specs.List.{range_with_len}
use Rattle.rina_base.specs.declared.memory.Memory.{Memory}
use Rattle.rina_plan.specs.declared.dif.DifPlan.{DifPlan}
use Rattle.rina_plan.specs.declared.dif.FlowPlan.{FlowPlan}
use Rattle.rina_plan.specs.Numbers.{number_in_rank}
use Rattle.rina_schedule.specs.Spelling.{Adds}
use Rattle.rina_stack.specs.declared.plan.Plan.{Plan}
use Rattle.rina_dif.specs.declared.dif.Dif.{Dif}
use Rattle.rina_tower.specs.declared.tower.Tower.{Tower}
use Rattle.rina_promises.specs.declared.rows.Rows.{Rows}
use Rattle.rina_tower.proofs.FitMade.{range_more}
use Rattle.rina_promises.specs.Promises.{AddsText, AreRows, AreTexts, IsFlowText, IsStanding, flow_text}

texts_on : {X : Type 0} (P : X → List ℕ → Type 0) (xs ys : List X) (a b : List ℕ) → AreTexts P xs a → AreTexts P ys b → AreTexts P (xs ++ ys) (a ++ b)
texts_on P [] ys a b p q = rw p q
texts_on P (x ∷ xs) ys a b (first, rest, one, others, is) q = (first, rest ++ b, one, texts_on P xs ys rest b others q, ap (λ (t : List ℕ). t ++ b) is ∙ append_assoc first rest b)

-- no text yet
pub texts_none : {X : Type 0} (P : X → List ℕ → Type 0) (a : List ℕ) → AddsText (AreTexts P []) a a
texts_none P a = record { text = []; is = refl; new_is = sym (append-nil a) }

texts_next : {X : Type 0} (P : X → List ℕ → Type 0) (xs : List X) (x : X) (a b c : List ℕ) → AddsText (AreTexts P xs) a b → AddsText (P x) b c → AddsText (AreTexts P (xs ++ x ∷ [])) a c
texts_next P xs x a b c p q =
    let one : AreTexts P (x ∷ []) q.text = (q.text, [], q.is, refl, sym (append-nil q.text)) in
    record {
      text = p.text ++ q.text;
      is = texts_on P xs (x ∷ []) p.text q.text p.is one;
      new_is = q.new_is ∙ ap (λ (t : List ℕ). t ++ q.text) p.new_is ∙ append_assoc a p.text q.text;
    }

-- the text of one more element
pub texts_more : {X : Type 0} (P : X → List ℕ → Type 0) (xs : List X) (i : ℕ) (x : X) (a b c : List ℕ) → slice_get xs i ≡ Some x → AddsText (AreTexts P (take i xs)) a b → AddsText (P x) b c → AddsText (AreTexts P (take (i + 1) xs)) a c
texts_more P xs i x a b c at p q =
    let same : get_or xs i x ≡ x = get_or_from_slice_get xs i x x at in
    let is : take (i + 1) xs ≡ take i xs ++ x ∷ [] = take_more xs i x (slice_get_within xs i x at) ∙ ap (λ y. take i xs ++ y ∷ []) same in
    subst (λ ys. AddsText (AreTexts P ys) a c) (sym is) (texts_next P (take i xs) x a b c p q)

-- no place yet
pub places_none : (P : ℕ → List ℕ → Type 0) (a : List ℕ) → AddsText (AreTexts P (range_with_len 0 0)) a a
places_none P a = texts_none P a

-- the text of one more place
pub places_more : (P : ℕ → List ℕ → Type 0) (at : ℕ) (a b c : List ℕ) → AddsText (AreTexts P (range_with_len 0 at)) a b → AddsText (P at) b c → AddsText (AreTexts P (range_with_len 0 (at + 1))) a c
places_more P at a b c p q =
    let same : 0 + at ≡ at = omega arith in
    let is : range_with_len 0 (at + 1) ≡ range_with_len 0 at ++ at ∷ [] = range_more 0 at ∙ ap (λ (n : ℕ). range_with_len 0 at ++ n ∷ []) same in
    subst (λ (ys : List ℕ). AddsText (AreTexts P ys) a c) (sym is) (texts_next P (range_with_len 0 at) at a b c p q)

-- the text of a flow, by the DIF of this number of a rank, which stands in the tower
pub flow_added : (plan : Plan) (t : Tower) (at : ℕ) (d : DifPlan) (f : FlowPlan) (rank fac : ℕ) (dif : Dif) (below : Tower) (rows : Rows) (nodes : List (List ℕ)) (r : Result (Unit {0}) Memory) (old new : List ℕ)
    → rank ≡ d.rank → fac ≡ number_in_rank plan.difs at → nodes ≡ plan.nodes → IsStanding t rank fac dif below → AreRows below dif f rows → Adds r old new (flow_text nodes d.name f rows)
    → OnOk r (AddsText (IsFlowText plan t at d f) old new)
flow_added plan t at d f rank fac dif below rows nodes (Err e) old new is_rank is_fac are_nodes stands are adds = tt
flow_added plan t at d f rank fac dif below rows nodes (Ok done) old new is_rank is_fac are_nodes stands are adds = record {
  text = flow_text plan.nodes d.name f rows;
  is = record {
    dif = dif;
    below = below;
    stands = subst (λ (n : ℕ). IsStanding t d.rank n dif below) is_fac (subst (λ (m : ℕ). IsStanding t m fac dif below) is_rank stands);
    rows = rows;
    are = are;
    text_is = refl;
  };
  new_is = adds ∙ ap (λ (ns : List (List ℕ)). old ++ flow_text ns d.name f rows) are_nodes;
}
