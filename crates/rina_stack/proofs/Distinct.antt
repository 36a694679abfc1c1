-- Names and labels that stand once.
use Rattle.std.proofs.Common.{◌≡◌, ◌≢◌, ℕ, ◌+◌, ◌<◌, Bool, true, false, cond, List, [], ◌∷◌, ◌++◌, length, get_or, Option, Some, None, refl, sym, ◌∙◌, arith, subst, append_assoc, length-append}
use Rattle.std.specs.Prelude.{option_map, is_some}
use Rattle.std.proofs.lemmas.Bool.{false≢true}
use Rattle.std.proofs.lemmas.List.{append-nil, get_or_append_left, get_or-append-add}
use Rattle.std.proofs.lemmas.List.Quantifiers.{all_pairs_push}
use Rattle.std.proofs.lemmas.Slice.Eq.{bytes_eq-Decides}
use Rattle.std.specs.Str.{bytes_eq}
use Rattle.rina_table.specs.declared.sketch.Sketch.{Sketch}
use Rattle.rina_stack.specs.Rules.{has_text, duplicate_after, duplicate_in, duplicate_fault, earlier, facility_duplicate, label_duplicate, wire_names, dif_names, labels}
use Rattle.rina_stack.specs.Unbroken.{AreDistinct}
use Rattle.rina_stack.proofs.LabelsOfFlows.{no_label_duplicate}
use Rattle.rina_stack.proofs.Unbroken.{none_pass, no_more}

not_duplicate : (b : Bool) (n : ℕ) (rest : Option ℕ) → cond b (Some n) rest ≡ None → (b ≡ false) × (rest ≡ None)
not_duplicate false n rest h = (refl, h)
not_duplicate true n rest h = cc

differs : (ts : List (List ℕ)) (t : List ℕ) → has_text ts t ≡ false → (k : ℕ) (d : List ℕ) → k < length ts → get_or ts k d ≢ t
differs ts t h = λ k d within same. false≢true (sym (none_pass (λ u. bytes_eq u t) ts h k d within) ∙ (bytes_eq-Decides (get_or ts k d) t).1 same)

apart : (before ts : List (List ℕ)) → AreDistinct before → duplicate_after before ts ≡ None → AreDistinct (before ++ ts)
unfolding duplicate_after
apart before [] distinct h = rw append-nil distinct
apart before (t ∷ ts) distinct h =
    let (other, more) = not_duplicate (has_text before t) (length before) (duplicate_after (before ++ t ∷ []) ts) h in
    let longer : AreDistinct (before ++ t ∷ []) = all_pairs_push (λ u v. u ≢ v) before t distinct (differs before t other) in
    let whole : AreDistinct ((before ++ t ∷ []) ++ ts) = apart (before ++ t ∷ []) ts longer more in
    subst AreDistinct (append_assoc before (t ∷ []) ts) whole

none_first : (o : Option ℕ) → is_some o ≡ false → o ≡ None
none_first None h = refl
none_first (Some i) h = cc

no_pairs : AreDistinct []
no_pairs = λ i j d lt within. absurd (omega arith)

-- texts of which none stands twice differ
pub distinct : (ts : List (List ℕ)) → duplicate_in ts ≡ None → AreDistinct ts
distinct ts h = apart [] ts no_pairs h

pub neither : (a b : Option ℕ) → earlier a b ≡ None → (a ≡ None) × (b ≡ None)
neither None b h = (refl, h)
neither (Some i) None h = cc
neither (Some i) (Some j) h = cc

-- no name and no label of a stack stands twice
pub record StandOnce (s : Sketch) : Type 0 where
  pub nodes : duplicate_in s.nodes ≡ None
  pub facilities : duplicate_in (wire_names s.wires ++ dif_names s.difs) ≡ None
  pub labels : duplicate_in (labels s.difs) ≡ None

top_holds : (b : Bool) (rest : Option ℕ) → cond b (Some 0) rest ≡ None → (b ≡ false) × (rest ≡ None)
top_holds false rest h = (refl, h)
top_holds true rest h = cc

pub once : (s : Sketch) → duplicate_fault s ≡ None → StandOnce s
unfolding duplicate_fault
once s h =
    let (nodes, rest) = top_holds (is_some (duplicate_in s.nodes)) _ h in
    let (facilities, owners) = neither (facility_duplicate s) (option_map (λ i. 1 + length s.wires + i) (label_duplicate s.difs)) rest in
    record {
      nodes = none_first (duplicate_in s.nodes) nodes;
      facilities = no_more (λ i. 1 + i) (duplicate_in (wire_names s.wires ++ dif_names s.difs)) facilities;
      labels = no_label_duplicate s.difs (no_more (λ i. 1 + length s.wires + i) (label_duplicate s.difs) owners);
    }

pub front_differs : (xs ys : List (List ℕ)) → AreDistinct (xs ++ ys) → AreDistinct xs
front_differs xs ys h = λ i j d lt within.
    let first : i < length xs = omega arith in
    let room : j < length (xs ++ ys) = omega (arith, length-append xs ys) in
    rw (← get_or_append_left xs ys d i first, ← get_or_append_left xs ys d j within) (h i j d lt room)

pub back_differs : (xs ys : List (List ℕ)) → AreDistinct (xs ++ ys) → AreDistinct ys
back_differs xs ys h = λ i j d lt within.
    let later : length xs + i < length xs + j = omega (arith, lt) in
    let room : length xs + j < length (xs ++ ys) = omega (arith, within, length-append xs ys) in
    rw (← get_or-append-add xs ys i d, ← get_or-append-add xs ys j d) (h (length xs + i) (length xs + j) d later room)
