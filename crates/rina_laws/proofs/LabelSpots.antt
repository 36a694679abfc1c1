-- Where the ends stand that the labels of the opening name.
use Rattle.std.proofs.Common.{arith, ◌≡◌, ◌∙◌, ◌+◌, ◌*◌, ℕ, zero, suc, Bool, true, false, cond, List, [], ◌∷◌, ◌++◌, length, length-append, map, slice_get, Some, refl, sym, ap, subst, append_assoc, inl, inr, ◌⊎◌}
use Rattle.std.specs.List.{range_with_len}
use Rattle.std.proofs.lemmas.List.{map-append}
use Rattle.std.proofs.lemmas.Option.{same_Some}
use Rattle.rina_plan.specs.declared.dif.DifPlan.{DifPlan}
use Rattle.rina_plan.specs.declared.dif.EndPlan.{EndPlan}
use Rattle.rina_plan.specs.declared.dif.FlowPlan.{FlowPlan}
use Rattle.rina_plan.specs.Numbers.{number_in_rank}
use Rattle.rina_stack.specs.declared.plan.Plan.{Plan}
use Rattle.rina_stack.specs.Rules.{flow_labels, labels}
use Rattle.rina_tower.specs.declared.tower.Tower.{Tower}
use Rattle.rina_tower.specs.Flows.{links_on}
use Rattle.rina_notes.specs.declared.label.Label.{Label}
use Rattle.rina_run.specs.Opening.{AreDifLabels, AreFlowLabels, AreLabelsOf, NamesEnd}

-- the end `to` of a flow stands one place behind `from`
abbrev pub behind : Bool → ℕ
behind far = cond far 1 0

abbrev pub side_of : Bool → FlowPlan → EndPlan
side_of far f = cond far f.to f.from

-- a label of one of these flows, whose ends stand from a place on
record IsFlowLabel (t : Tower) (rank fac place : ℕ) (fs : List FlowPlan) (l : Label) : Type 0 where
  k : ℕ
  flow : FlowPlan
  is_flow : slice_get fs k ≡ Some flow
  far : Bool
  names : NamesEnd t rank fac (place + 2 * k + behind far) (side_of far flow) l

at_place : (t : Tower) (rank fac m n : ℕ) (side : EndPlan) (l : Label) → m ≡ n → NamesEnd t rank fac m side l → NamesEnd t rank fac n side l
at_place t rank fac m n side l is h = subst (λ (k : ℕ). NamesEnd t rank fac k side l) is h

first_label : (t : Tower) (rank fac place : ℕ) (f : FlowPlan) (fs : List FlowPlan) (from to : Label) (rest : List Label) (l : Label) → NamesEnd t rank fac place f.from from → NamesEnd t rank fac (place + 1) f.to to → ((n : ℕ) → slice_get rest n ≡ Some l → IsFlowLabel t rank fac (place + 2) fs l)
    → (n : ℕ) → slice_get (from ∷ to ∷ rest) n ≡ Some l → IsFlowLabel t rank fac place (f ∷ fs) l
first_label t rank fac place f fs from to rest l a b deep zero x = record { k = 0; flow = f; is_flow = refl; far = false; names = at_place t rank fac place (place + 2 * 0 + behind false) f.from l (omega arith) (subst (NamesEnd t rank fac place f.from) (same_Some from l x) a) }
first_label t rank fac place f fs from to rest l a b deep (suc zero) x = record { k = 0; flow = f; is_flow = refl; far = true; names = at_place t rank fac (place + 1) (place + 2 * 0 + behind true) f.to l (omega arith) (subst (NamesEnd t rank fac (place + 1) f.to) (same_Some to l x) b) }
first_label t rank fac place f fs from to rest l a b deep (suc (suc n)) x =
    let r = deep n x in
    record { k = suc r.k; flow = r.flow; is_flow = r.is_flow; far = r.far; names = at_place t rank fac (place + 2 + 2 * r.k + behind r.far) (place + 2 * suc r.k + behind r.far) (side_of r.far r.flow) l (omega arith) r.names }

flow_label : (t : Tower) (rank fac place : ℕ) (fs : List FlowPlan) (ls : List Label) (j : ℕ) (l : Label) → AreFlowLabels t rank fac place fs ls → slice_get ls j ≡ Some l → IsFlowLabel t rank fac place fs l
flow_label t rank fac place [] ls j l are h = (let none : slice_get [] j ≡ Some l = subst (λ (xs : List Label). slice_get xs j ≡ Some l) are h in cc)
flow_label t rank fac place (f ∷ fs) ls j l (from, to, rest, a, b, more, is) h = first_label t rank fac place f fs from to rest l a b (λ n x. flow_label t rank fac (place + 2) fs rest n l more x) j (subst (λ (xs : List Label). slice_get xs j ≡ Some l) is h)

-- the label names an end of this flow of the stack
pub record IsSpot (plan : Plan) (t : Tower) (l : Label) : Type 0 where
  pub i : ℕ
  pub dif : DifPlan
  pub is_dif : slice_get plan.difs i ≡ Some dif
  pub k : ℕ
  pub flow : FlowPlan
  pub is_flow : slice_get dif.flows k ≡ Some flow
  pub far : Bool
  pub names : NamesEnd t dif.rank (number_in_rank plan.difs i) (2 * (links_on plan i dif + k) + behind far) (side_of far flow) l

dif_spot : (plan : Plan) (t : Tower) (i : ℕ) (ls : List Label) (j : ℕ) (l : Label) → AreDifLabels plan t i ls → slice_get ls j ≡ Some l → IsSpot plan t l
dif_spot plan t i ls j l are h =
    let r = flow_label t are.dif.rank (number_in_rank plan.difs i) (2 * links_on plan i are.dif) are.dif.flows ls j l are.flows h in
    record {
      i = i;
      dif = are.dif;
      is_dif = are.is_dif;
      k = r.k;
      flow = r.flow;
      is_flow = r.is_flow;
      far = r.far;
      names = at_place t are.dif.rank (number_in_rank plan.difs i) (2 * links_on plan i are.dif + 2 * r.k + behind r.far) (2 * (links_on plan i are.dif + r.k) + behind r.far) (side_of r.far r.flow) l (omega arith) r.names;
    }

in_either : {X : Type 0} (xs ys : List X) (j : ℕ) (x : X) → slice_get (xs ++ ys) j ≡ Some x → (slice_get xs j ≡ Some x) ⊎ ((k : ℕ) × (slice_get ys k ≡ Some x))
in_either [] ys j x h = inr (j, h)
in_either (z ∷ xs) ys zero x h = inl h
in_either (z ∷ xs) ys (suc j) x h = in_either xs ys j x h

pub spot_of : (plan : Plan) (t : Tower) (places : List ℕ) (ls : List Label) (j : ℕ) (l : Label) → AreLabelsOf plan t places ls → slice_get ls j ≡ Some l → IsSpot plan t l
spot_of plan t [] ls j l are h = (let none : slice_get [] j ≡ Some l = subst (λ (xs : List Label). slice_get xs j ≡ Some l) are h in cc)
spot_of plan t (i ∷ places) ls j l (first, rest, own, others, is) h = elim (in_either first rest j l (subst (λ (xs : List Label). slice_get xs j ≡ Some l) is h)) [
  | inl o ↦ dif_spot plan t i first j l own o
  | inr o ↦ spot_of plan t places rest o.0 l others o.1
]

-- ---- their names are those of the stack

abbrev pub name_of : Label → List ℕ
name_of l = l.name

flow_names : (t : Tower) (rank fac place : ℕ) (fs : List FlowPlan) (ls : List Label) → AreFlowLabels t rank fac place fs ls → map name_of ls ≡ flow_labels fs
flow_names t rank fac place [] ls are = ap (map name_of) are
flow_names t rank fac place (f ∷ fs) ls (from, to, rest, a, b, more, is) =
    let one : from.name ≡ f.from.label = ap name_of a.is in
    let two : to.name ≡ f.to.label = ap name_of b.is in
    let others = flow_names t rank fac (place + 2) fs rest more in
    ap (map name_of) is ∙ (ap (λ (x : List ℕ). x ∷ to.name ∷ map name_of rest) one ∙ (ap (λ (x : List ℕ). f.from.label ∷ x ∷ map name_of rest) two ∙ ap (λ (xs : List (List ℕ)). f.from.label ∷ f.to.label ∷ xs) others))

middle : {X : Type 0} (xs ys : List X) (y : X) → slice_get (xs ++ y ∷ ys) (length xs) ≡ Some y
middle [] ys y = refl
middle (x ∷ xs) ys y = middle xs ys y

pub names_from : (plan : Plan) (t : Tower) (front ds : List DifPlan) (ls : List Label) → plan.difs ≡ front ++ ds → AreLabelsOf plan t (range_with_len (length front) (length ds)) ls → map name_of ls ≡ labels ds
names_from plan t front [] ls all are = ap (map name_of) are
names_from plan t front (d ∷ ds) ls all (first, rest, own, others, is) =
    let at : slice_get plan.difs (length front) ≡ Some d = ap (λ (xs : List DifPlan). slice_get xs (length front)) all ∙ middle front ds d in
    let same : own.dif ≡ d = same_Some own.dif d (sym own.is_dif ∙ at) in
    let mine : map name_of first ≡ flow_labels d.flows = flow_names t own.dif.rank _ _ own.dif.flows first own.flows ∙ ap (λ (x : DifPlan). flow_labels x.flows) same in
    let moved : plan.difs ≡ (front ++ d ∷ []) ++ ds = all ∙ sym (append_assoc front (d ∷ []) ds) in
    let longer : length front + 1 ≡ length (front ++ d ∷ []) = sym (length-append front (d ∷ [])) in
    let theirs = names_from plan t (front ++ d ∷ []) ds rest moved (subst (λ (n : ℕ). AreLabelsOf plan t (range_with_len n (length ds)) rest) longer others) in
    ap (map name_of) is ∙ (map-append name_of first rest ∙ (ap (λ (xs : List (List ℕ)). xs ++ map name_of rest) mine ∙ ap (λ (xs : List (List ℕ)). flow_labels d.flows ++ xs) theirs))
