-- Loops over the labels of flows.
use Rattle.std.proofs.Common.{◌≡◌, ℕ, ◌+◌, ◌-◌, ◌*◌, ◌/◌, ◌<◌, ◌≤◌, true, false, List, [], ◌∷◌, ◌++◌, length, map, take, drop, get_or, Bor, Option, Some, None, nat_lt, refl, sym, ap, ◌∙◌, arith, append_assoc}
use Rattle.std.specs.Prelude.{option_map}
use Rattle.std.proofs.lemmas.Bool.Decides.{nat_tests}
use Rattle.std.proofs.lemmas.List.{append-nil, drop_more, drop_all, take_more}
use Rattle.rina_plan.specs.declared.dif.FlowPlan.{FlowPlan}
use Rattle.rina_plan.specs.declared.dif.DifPlan.{DifPlan}
use Rattle.rina_stack.specs.Rules.{flow_labels, labels, owner_of}

abbrev now_of : List (Bor (List ℕ)) → List (List ℕ)
now_of xs = map (λ x. x.now) xs

now_push : (xs : List (Bor (List ℕ))) (x : Bor (List ℕ)) → now_of (xs ++ x ∷ []) ≡ now_of xs ++ x.now ∷ []
now_push [] x = refl
now_push (y ∷ xs) x = ap (λ ts. y.now ∷ ts) (now_push xs x)

flow_labels_push : (fs : List FlowPlan) (f : FlowPlan) → flow_labels (fs ++ f ∷ []) ≡ (flow_labels fs ++ f.from.label ∷ []) ++ f.to.label ∷ []
flow_labels_push [] f = refl
flow_labels_push (g ∷ fs) f = ap (λ ts. g.from.label ∷ g.to.label ∷ ts) (flow_labels_push fs f)

labels_push : (ds : List DifPlan) (d : DifPlan) → labels (ds ++ d ∷ []) ≡ labels ds ++ flow_labels d.flows
labels_push [] d = append-nil (flow_labels d.flows)
labels_push (e ∷ ds) d = ap (λ ts. flow_labels e.flows ++ ts) (labels_push ds d) ∙ sym (append_assoc (flow_labels e.flows) (labels ds) (flow_labels d.flows))

pub flow_step : (start : List (List ℕ)) (fs : List FlowPlan) (i : ℕ) (f : FlowPlan) (before : List (Bor (List ℕ))) (a b : Bor (List ℕ)) → i < length fs → f ≡ get_or fs i f → a.now ≡ f.from.label → b.now ≡ f.to.label
    → now_of before ≡ start ++ flow_labels (take i fs) → now_of ((before ++ a ∷ []) ++ b ∷ []) ≡ start ++ flow_labels (take (i + 1) fs)
flow_step start fs i f before a b within is one two so_far =
    let more : take (i + 1) fs ≡ take i fs ++ f ∷ [] = take_more fs i f within ∙ ap (λ g. take i fs ++ g ∷ []) (sym is) in
    now_push (before ++ a ∷ []) b ∙ ap (λ ts. ts ++ b.now ∷ []) (now_push before a) ∙ rw (so_far, one, two, more, flow_labels_push (take i fs) f) (simp append_assoc)

pub dif_step : (ds : List DifPlan) (i : ℕ) (d : DifPlan) (before after : List (Bor (List ℕ))) → i < length ds → d ≡ get_or ds i d → now_of before ≡ labels (take i ds) → now_of after ≡ now_of before ++ flow_labels d.flows → now_of after ≡ labels (take (i + 1) ds)
dif_step ds i d before after within is so_far more =
    let longer : take (i + 1) ds ≡ take i ds ++ d ∷ [] = take_more ds i d within ∙ ap (λ g. take i ds ++ g ∷ []) (sym is) in
    more ∙ rw (so_far, longer, labels_push (take i ds) d) refl

-- the DIF at hand has the label
pub owner_found : (ds : List DifPlan) (i number k n : ℕ) (d : DifPlan) (total : Option ℕ) → i < length ds → d ≡ get_or ds i d → n ≡ length d.flows → k / 2 < n → number ≡ i
    → option_map (λ j. j + i) (owner_of k (drop i ds)) ≡ total → Some number ≡ total
unfolding owner_of
owner_found ds i number k n d total within is size here same so_far =
    let test : nat_lt (k / 2) (length (get_or ds i d).flows) ≡ true = rw (sym is, sym size) (grind (arith, nat_tests)) in
    let first : owner_of k (drop i ds) ≡ Some 0 = rw (drop_more ds i d within, test) refl in
    ap Some (omega arith) ∙ ap (option_map (λ j. j + i)) (sym first) ∙ so_far

plus_one : (o : Option ℕ) (i : ℕ) → option_map (λ j. j + (i + 1)) o ≡ option_map (λ j. j + i) (option_map (λ j. j + 1) o)
plus_one None i = refl
plus_one (Some j) i = ap Some (omega arith)

-- a later DIF has it
pub owner_later : (ds : List DifPlan) (i k n : ℕ) (d : DifPlan) (total : Option ℕ) → i < length ds → d ≡ get_or ds i d → n ≡ length d.flows → n ≤ k / 2
    → option_map (λ j. j + i) (owner_of k (drop i ds)) ≡ total → option_map (λ j. j + (i + 1)) (owner_of (k - n * 2) (drop (i + 1) ds)) ≡ total
unfolding owner_of
owner_later ds i k n d total within is size past so_far =
    let test : nat_lt (k / 2) (length (get_or ds i d).flows) ≡ false = rw (sym is, sym size) (grind (arith, nat_tests)) in
    let next : owner_of k (drop i ds) ≡ option_map (λ j. j + 1) (owner_of (k - length (get_or ds i d).flows * 2) (drop (i + 1) ds)) = rw (drop_more ds i d within, test) refl in
    let size_there : n ≡ length (get_or ds i d).flows = size ∙ ap (λ (e : DifPlan). length e.flows) is in
    plus_one (owner_of (k - n * 2) (drop (i + 1) ds)) i ∙ ap (λ m. option_map (λ j. j + i) (option_map (λ j. j + 1) (owner_of (k - m * 2) (drop (i + 1) ds)))) size_there ∙ ap (option_map (λ j. j + i)) (sym next) ∙ so_far

-- no DIF has it
pub no_owner : (ds : List DifPlan) (i k : ℕ) (total : Option ℕ) → length ds ≤ i → option_map (λ j. j + i) (owner_of k (drop i ds)) ≡ total → None ≡ total
unfolding owner_of
no_owner ds i k total past so_far =
    let last : owner_of k (drop i ds) ≡ None = rw (drop_all i ds past) refl in
    ap (option_map (λ j. j + i)) (sym last) ∙ so_far
