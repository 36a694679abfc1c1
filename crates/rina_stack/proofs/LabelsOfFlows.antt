-- The labels of the flows of a stack: they are read alike whether references are resolved or not, and where two are alike a DIF has them.
use Rattle.std.proofs.Common.{◌≡◌, ◌≢◌, ℕ, ◌+◌, ◌-◌, ◌*◌, ◌/◌, ◌<◌, nat_lt, Bool, true, false, cond, List, [], ◌∷◌, ◌++◌, length, Option, Some, None, Result, Ok, refl, sym, ◌∙◌, arith, subst, length-append}
use Rattle.std.specs.Prelude.{option_map, option_and_then, codes}
use Rattle.std.proofs.lemmas.Bool.Decides.{nat_tests}
use Rattle.toml.specs.Data.{Data, get}
use Rattle.rina_base.specs.Traverse.{◌>>=◌, traverse}
use Rattle.rina_plan.specs.declared.dif.EndPlan.{EndPlan}
use Rattle.rina_plan.specs.declared.dif.FlowPlan.{FlowPlan}
use Rattle.rina_plan.specs.declared.dif.DifPlan.{DifPlan}
use Rattle.rina_table.specs.declared.error.StackError.{StackError}
use Rattle.rina_table.specs.declared.scope.Scope.{Scope}
use Rattle.rina_table.specs.declared.sketch.Sketch.{Sketch}
use Rattle.rina_table.specs.Faults.{required}
use Rattle.rina_table.specs.Values.{items_or, rows_or}
use Rattle.rina_table.specs.Fields.{named, name_in, number_in, node_in}
use Rattle.rina_table.specs.Rows.{end_at, flow_at}
use Rattle.rina_table.specs.Items.{dif_at}
use Rattle.rina_stack.specs.Rules.{has_text, duplicate_after, duplicate_in, flow_labels, labels, owner_of, label_duplicate}
use Rattle.rina_stack.specs.Scopes.{unresolved_scope, resolved_scope}
use Rattle.rina_stack.proofs.Inversion.{bind_ok, ok_is}
use Rattle.rina_stack.proofs.SoundDif.{dif_parts}

-- ---- both readings have the same labels

-- the label at an end of a flow
abbrev label_in : Scope → ℕ → List ℕ → Data → Result (List ℕ) StackError
label_in s n k d = required n (get k d) >>= λ t. name_in s n (codes "label") t

same_label_in : (known : Sketch) (u : Option ℕ) (n : ℕ) (k : List ℕ) (d : Data) → label_in (unresolved_scope 4) n k d ≡ label_in (resolved_scope known u) n k d
unfolding name_in named
same_label_in known u n k d = refl

end_label : (s : Scope) (n : ℕ) (d : Data) (e : EndPlan) → end_at s n d ≡ Ok e → name_in s n (codes "label") d ≡ Ok e.label
unfolding end_at
end_label s n d e h =
    let (node, _, h1) = bind_ok (node_in s n (codes "node") d) _ e h in
    let (app, _, h2) = bind_ok (name_in s n (codes "app") d) _ e h1 in
    let (label, is_label, h3) = bind_ok (name_in s n (codes "label") d) _ e h2 in
    let whole : record { node = node; app = app; label = label } ≡ e = ok_is _ _ h3 in
    subst (λ (x : EndPlan). name_in s n (codes "label") d ≡ Ok x.label) whole is_label

record HasLabels (s : Scope) (n : ℕ) (d : Data) (f : FlowPlan) : Type 0 where
  from : label_in s n (codes "from") d ≡ Ok f.from.label
  to : label_in s n (codes "to") d ≡ Ok f.to.label

found_label : (s : Scope) (n : ℕ) (o : Option Data) (t : Data) (label : List ℕ) → required n o ≡ Ok t → name_in s n (codes "label") t ≡ Ok label → (required n o >>= λ x. name_in s n (codes "label") x) ≡ Ok label
found_label s n o t label is h = rw is h

flow_parts : (s : Scope) (n : ℕ) (d : Data) (f : FlowPlan) → flow_at s n d ≡ Ok f → HasLabels s n d f
unfolding flow_at
flow_parts s n d f h =
    let (cube, _, h1) = bind_ok (number_in s n (codes "cube") d 0 255) _ f h in
    let (from, is_from, h2) = bind_ok (required n (get (codes "from") d)) _ f h1 in
    let (to, is_to, h3) = bind_ok (required n (get (codes "to") d)) _ f h2 in
    let (asker, is_asker, h4) = bind_ok (end_at s n from) _ f h3 in
    let (other, is_other, h5) = bind_ok (end_at s n to) _ f h4 in
    let whole : record { cube = cube; from = asker; to = other } ≡ f = ok_is _ _ h5 in
    subst (HasLabels s n d) whole (record {
      from = found_label s n (get (codes "from") d) from asker.label is_from (end_label s n from asker is_asker);
      to = found_label s n (get (codes "to") d) to other.label is_to (end_label s n to other is_other);
    })

same_text : (a b : Result (List ℕ) StackError) (x y : List ℕ) → a ≡ b → a ≡ Ok x → b ≡ Ok y → x ≡ y
same_text a b x y same is_x is_y = ok_is x y (sym is_x ∙ same ∙ is_y)

same_flow : (known : Sketch) (u : Option ℕ) (n : ℕ) (d : Data) (f g : FlowPlan) → flow_at (unresolved_scope 4) n d ≡ Ok f → flow_at (resolved_scope known u) n d ≡ Ok g → (f.from.label ≡ g.from.label) × (f.to.label ≡ g.to.label)
same_flow known u n d f g is_f is_g =
    let one = flow_parts (unresolved_scope 4) n d f is_f in
    let two = flow_parts (resolved_scope known u) n d g is_g in
    (same_text _ _ f.from.label g.from.label (same_label_in known u n (codes "from") d) one.from two.from, same_text _ _ f.to.label g.to.label (same_label_in known u n (codes "to") d) one.to two.to)

same_flows : (known : Sketch) (u : Option ℕ) (n k : ℕ) (ds : List Data) (fs gs : List FlowPlan) → traverse (λ _. flow_at (unresolved_scope 4) n) k ds ≡ Ok fs → traverse (λ _. flow_at (resolved_scope known u) n) k ds ≡ Ok gs → flow_labels fs ≡ flow_labels gs
unfolding traverse
same_flows known u n k [] fs gs hf hg =
    let one : fs ≡ [] = cc in
    let two : gs ≡ [] = cc in
    rw (one, two) refl
same_flows known u n k (d ∷ ds) fs gs hf hg =
    let (f, is_f, more_f) = bind_ok (flow_at (unresolved_scope 4) n d) _ fs hf in
    let (fs', are_f, whole_f) = bind_ok (traverse (λ _. flow_at (unresolved_scope 4) n) (k + 1) ds) _ fs more_f in
    let (g, is_g, more_g) = bind_ok (flow_at (resolved_scope known u) n d) _ gs hg in
    let (gs', are_g, whole_g) = bind_ok (traverse (λ _. flow_at (resolved_scope known u) n) (k + 1) ds) _ gs more_g in
    let ends = same_flow known u n d f g is_f is_g in
    let rest = same_flows known u n (k + 1) ds fs' gs' are_f are_g in
    let one : f ∷ fs' ≡ fs = ok_is _ _ whole_f in
    let two : g ∷ gs' ≡ gs = ok_is _ _ whole_g in
    rw (← one, ← two, ends.0, ends.1, rest) refl

same_rows_or : (known : Sketch) (u : Option ℕ) (n : ℕ) (k : List ℕ) (d : Data) (fs gs : List FlowPlan) → rows_or (flow_at (unresolved_scope 4) n) n k d ≡ Ok fs → rows_or (flow_at (resolved_scope known u) n) n k d ≡ Ok gs → flow_labels fs ≡ flow_labels gs
unfolding rows_or
same_rows_or known u n k d fs gs hf hg =
    let (ds, is, read_f) = bind_ok (items_or n (get k d)) _ fs hf in
    let (es, are, read_g) = bind_ok (items_or n (get k d)) _ gs hg in
    let same : es ≡ ds = ok_is es ds (sym are ∙ is) in
    same_flows known u n 0 ds fs gs read_f (subst (λ xs. traverse (λ _. flow_at (resolved_scope known u) n) 0 xs ≡ Ok gs) same read_g)

-- the labels of DIFs that were read twice
pub same_labels : (known : Sketch) (u : Option ℕ) (k : ℕ) (ts : List Data) (xs ys : List DifPlan) → traverse (dif_at (unresolved_scope 4)) k ts ≡ Ok xs → traverse (dif_at (resolved_scope known u)) k ts ≡ Ok ys → labels xs ≡ labels ys
unfolding traverse
same_labels known u k [] xs ys hx hy =
    let one : xs ≡ [] = cc in
    let two : ys ≡ [] = cc in
    rw (one, two) refl
same_labels known u k (t ∷ ts) xs ys hx hy =
    let (x, is_x, more_x) = bind_ok (dif_at (unresolved_scope 4) k t) _ xs hx in
    let (xs', are_x, whole_x) = bind_ok (traverse (dif_at (unresolved_scope 4)) (k + 1) ts) _ xs more_x in
    let (y, is_y, more_y) = bind_ok (dif_at (resolved_scope known u) k t) _ ys hy in
    let (ys', are_y, whole_y) = bind_ok (traverse (dif_at (resolved_scope known u)) (k + 1) ts) _ ys more_y in
    let here = same_rows_or known u k (codes "flow") t x.flows y.flows (dif_parts (unresolved_scope 4) k t x is_x).flows (dif_parts (resolved_scope known u) k t y is_y).flows in
    let rest = same_labels known u (k + 1) ts xs' ys' are_x are_y in
    let one : x ∷ xs' ≡ xs = ok_is _ _ whole_x in
    let two : y ∷ ys' ≡ ys = ok_is _ _ whole_y in
    rw (← one, ← two, here, rest) refl

-- ---- each label has its DIF

length_flow_labels : (fs : List FlowPlan) → length (flow_labels fs) ≡ length fs * 2
length_flow_labels [] = refl
length_flow_labels (f ∷ fs) = omega (arith, length_flow_labels fs)

owned : (b : Bool) (rest : Option ℕ) → (b ≡ false → rest ≢ None) → cond b (Some 0) (option_map (λ i. i + 1) rest) ≢ None
owned true rest later = λ none. cc
owned false None later = λ none. later refl refl
owned false (Some i) later = λ none. cc

has_owner : (k : ℕ) (ds : List DifPlan) → k < length (labels ds) → owner_of k ds ≢ None
unfolding owner_of
has_owner k [] within = absurd (omega (arith, within))
has_owner k (d ∷ ds) within =
    let size : length (labels (d ∷ ds)) ≡ length d.flows * 2 + length (labels ds) = omega (arith, length-append (flow_labels d.flows) (labels ds), length_flow_labels d.flows) in
    owned (nat_lt (k / 2) (length d.flows)) (owner_of (k - length d.flows * 2) ds) (λ past. has_owner (k - length d.flows * 2) ds (grind (arith, nat_tests)))

found_at : (b : Bool) (n : ℕ) (rest : Option ℕ) (k m : ℕ) → n < m → (rest ≡ Some k → k < m) → cond b (Some n) rest ≡ Some k → k < m
found_at true n rest k m within later h =
    let same : n ≡ k = cc in
    omega (arith, within, same)
found_at false n rest k m within later h = later h

duplicate_within : (before ts : List (List ℕ)) (k : ℕ) → duplicate_after before ts ≡ Some k → k < length before + length ts
unfolding duplicate_after
duplicate_within before [] k h = cc
duplicate_within before (t ∷ ts) k h =
    let more : duplicate_after (before ++ t ∷ []) ts ≡ Some k → k < length before + length (t ∷ ts) = λ g. omega (arith, duplicate_within (before ++ t ∷ []) ts k g, length-append before (t ∷ [])) in
    found_at (has_text before t) (length before) (duplicate_after (before ++ t ∷ []) ts) k (length before + length (t ∷ ts)) (omega arith) more h

no_duplicate : (difs : List DifPlan) (o : Option ℕ) → duplicate_in (labels difs) ≡ o → option_and_then (λ k. owner_of k difs) o ≡ None → o ≡ None
no_duplicate difs None is h = refl
no_duplicate difs (Some k) is h = absurd (has_owner k difs (omega (arith, duplicate_within [] (labels difs) k is)) h)

-- no DIF has a label that stands before, so there is none
pub no_label_duplicate : (difs : List DifPlan) → label_duplicate difs ≡ None → duplicate_in (labels difs) ≡ None
no_label_duplicate difs h = no_duplicate difs (duplicate_in (labels difs)) refl h
