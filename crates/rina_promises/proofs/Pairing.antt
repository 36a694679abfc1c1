-- The texts of pairs of members.
use Rattle.std.proofs.Common.{◌≡◌, ◌∙◌, ℕ, ◌==◌, Bool, true, false, List, [], ◌++◌, ◌<◌, length, get_or, slice_get, Some, Result, Ok, Err, refl, sym, ap, subst}
use Rattle.std.proofs.lemmas.List.{append-nil}
use Rattle.std.proofs.lemmas.Option.{slice_get-get_or}
use Rattle.std.specs.Prelude.{OnOk}
use Rattle.rina_base.specs.declared.memory.Memory.{Memory}
use Rattle.rina_cube.specs.declared.Cube.{Cube}
use Rattle.rina_plan.specs.declared.dif.DifPlan.{DifPlan}
use Rattle.rina_plan.specs.Numbers.{number_in_rank}
use Rattle.rina_schedule.specs.Spelling.{Adds}
use Rattle.rina_stack.specs.declared.plan.Plan.{Plan}
use Rattle.rina_data.specs.declared.settings.Member.{Member}
use Rattle.rina_dif.specs.declared.dif.Dif.{Dif}
use Rattle.rina_tower.specs.declared.tower.Tower.{Tower}
use Rattle.rina_tower.specs.Ranks.{seen_of}
use Rattle.rina_way.specs.declared.row.Row.{Row}
use Rattle.rina_way.specs.Ways.{IsRow}
use Rattle.rina_way.specs.Words.{node_name, row_text}
use Rattle.rina_promises.specs.Pairs.{IsFromText, IsOtherText, IsPairText, IsToText, IsWayText, ShowsPairs}
use Rattle.rina_promises.specs.Promises.{AddsText, AreTexts, IsStanding, IsTowerOf, columns}

-- the element at a place of what was gone over
pub copied_at : {X : Type 0} (items xs : List X) (i : ℕ) (d : X) → items ≡ xs → i < length items → slice_get xs i ≡ Some (get_or items i d)
copied_at items xs i d same within = ap (λ ys. slice_get ys i) (sym same) ∙ slice_get-get_or items i d within

-- the line of a cube was appended
pub way_added : (nodes : List (List ℕ)) (fac : List ℕ) (below : Tower) (d : Dif) (from to : Member) (cube : Cube) (row : Row) (source target : List ℕ) (r : Result (Unit {0}) Memory) (old new : List ℕ)
    → IsRow (seen_of below) d.settings d.processes cube.id from.node to.node row → source ≡ node_name nodes from.node → target ≡ node_name nodes to.node → Adds r old new (row_text fac source target nodes row)
    → OnOk r (AddsText (IsWayText nodes fac below d from to cube) old new)
way_added nodes fac below d from to cube row source target (Err e) old new is s t adds = tt
way_added nodes fac below d from to cube row source target (Ok done) old new is s t adds = record {
  text = row_text fac source target nodes row;
  is = record {
    row = row;
    is_row = is;
    text_is = ap (λ (a : List ℕ). row_text fac a target nodes row) s ∙ ap (λ (b : List ℕ). row_text fac (node_name nodes from.node) b nodes row) t;
  };
  new_is = adds;
}

-- a member and itself have no lines
pub none_added : (nodes : List (List ℕ)) (fac : List ℕ) (below : Tower) (d : Dif) (from to : Member) (old : List ℕ) → from.node == to.node ≡ true → AddsText (IsToText nodes fac below d from to) old old
none_added nodes fac below d from to old same = record {
  text = [];
  is = subst (λ (b : Bool). IsOtherText b nodes fac below d from to []) (sym same) refl;
  new_is = sym (append-nil old);
}

-- two members have those of their pair
pub pair_added : (nodes : List (List ℕ)) (fac : List ℕ) (below : Tower) (d : Dif) (from to : Member) (r : Result (Unit {0}) Memory) (old new : List ℕ) → from.node == to.node ≡ false → OnOk r (AddsText (IsPairText nodes fac below d from to) old new) → OnOk r (AddsText (IsToText nodes fac below d from to) old new)
pair_added nodes fac below d from to (Err e) old new other adds = tt
pair_added nodes fac below d from to (Ok done) old new other adds = record {
  text = adds.text;
  is = subst (λ (b : Bool). IsOtherText b nodes fac below d from to adds.text) (sym other) adds.is;
  new_is = adds.new_is;
}

-- all lines were appended behind the names of the columns
pub pairs_shown : (plan : Plan) (at : ℕ) (t : Tower) (d : DifPlan) (rank fac : ℕ) (nodes : List (List ℕ)) (dif : Dif) (below : Tower) (head text : List ℕ)
    → IsTowerOf plan t → slice_get plan.difs at ≡ Some d → rank ≡ d.rank → fac ≡ number_in_rank plan.difs at → nodes ≡ plan.nodes → IsStanding t rank fac dif below → head ≡ columns
    → AddsText (AreTexts (IsFromText nodes d.name below dif) dif.settings.members) head text → ShowsPairs plan at text
pairs_shown plan at t d rank fac nodes dif below head text is_tower is_dif is_rank is_fac are_nodes stands is_head adds = record {
  tower = t;
  is_tower = is_tower;
  dif_plan = d;
  is_dif = is_dif;
  dif = dif;
  below = below;
  stands = subst (λ (n : ℕ). IsStanding t d.rank n dif below) is_fac (subst (λ (m : ℕ). IsStanding t m fac dif below) is_rank stands);
  texts = adds.text;
  are = subst (λ (ns : List (List ℕ)). AreTexts (IsFromText ns d.name below dif) dif.settings.members adds.text) are_nodes adds.is;
  text_is = adds.new_is ∙ ap (λ (h : List ℕ). h ++ adds.text) is_head;
}
