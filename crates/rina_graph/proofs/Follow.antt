-- Following the edges of one node: the ways before and after.
use Rattle.std.proofs.Common.{◌≡◌, ℕ, ◌+◌, ◌<◌, ◌≤◌, ◌⊎◌, inl, inr, ⊎_elim, List, [], ◌∷◌, ◌++◌, Option, Some, None, Contains, length, unwrap_or, refl, sym, ap, ◌∙◌, subst, arith, ◌==◌}
use Rattle.std.specs.List.{AllByRecursion}
use Rattle.std.proofs.lemmas.Bool.{cases_eq, both_ways}
use Rattle.std.proofs.lemmas.List.{get_or-set_same, get_or-set_other}
use Rattle.std.proofs.lemmas.List.Sums.{sum_by_push}
use Rattle.std.proofs.lemmas.Grind.{common_steps}
use Rattle.rina_graph.specs.declared.graph.Edge.{Edge}
use Rattle.rina_graph.specs.declared.tree.Reach.{Reach}
use Rattle.rina_graph.specs.Walks.{IsWalk, weight_of, first_of, reach_at}
use Rattle.rina_graph.specs.Search.{over, better_of, followed, followed_all}
use Rattle.rina_graph.proofs.Edges.{IsSound}
use Rattle.rina_graph.proofs.Reached.{split, Some_same, Nodes, AtLeast, at_least_itself, at_least_trans, better_new, better_old, better_kept, better_either, BeginsAtNothing}

-- ---- walks that are one edge longer
walk_push : (edges : List Edge) (a b : ℕ) (walk : List Edge) (e : Edge) → IsWalk edges a walk b → Contains edges e → e.from ≡ b → IsWalk edges a (walk ++ e ∷ []) e.to
walk_push edges a b [] e walks among meets = (among, meets ∙ sym walks, refl)
walk_push edges a b (w ∷ walk) e walks among meets = (walks.0, walks.1, walk_push edges w.to b walk e walks.2 among meets)

weight_push : (walk : List Edge) (e : Edge) → weight_of (walk ++ e ∷ []) ≡ weight_of walk + e.weight
weight_push walk e = sum_by_push (λ (w : Edge). w.weight) walk e

first_push : (walk : List Edge) (e : Edge) → first_of (walk ++ e ∷ []) ≡ Some (unwrap_or (first_of walk) e.to)
first_push [] e = refl
first_push (w ∷ walk) e = refl

-- a walk leads to a node in this way
abbrev pub HasWalk : List Edge → ℕ → ℕ → Reach → Type 0
HasWalk edges start node r = (walk : List Edge) × IsWalk edges start walk node × (weight_of walk ≡ r.weight) × (first_of walk ≡ r.first)

-- each way is that of a walk
abbrev pub AllWalks : List Edge → ℕ → Nodes → Type 0
AllWalks edges start reached = (node : ℕ) (r : Reach) → reach_at reached node ≡ Some r → HasWalk edges start node r

walk_over : (edges : List Edge) (start node : ℕ) (r : Reach) (e : Edge) → HasWalk edges start node r → Contains edges e → e.from ≡ node → HasWalk edges start e.to (over r e)
walk_over edges start node r e h among meets =
    (h.0 ++ e ∷ [], walk_push edges start node h.0 e h.1 among meets, weight_push h.0 e ∙ ap (λ (n : ℕ). n + e.weight) h.2, first_push h.0 e ∙ ap (λ (o : Option ℕ). Some (unwrap_or o e.to)) h.3)

pub no_first : (walk : List Edge) → first_of walk ≡ None → weight_of walk ≡ 0
no_first [] h = refl
no_first (e ∷ walk) h = absurd (grind (arith, h))

begins : (edges : List Edge) (start node : ℕ) (reached : Nodes) → AllWalks edges start reached → BeginsAtNothing (reach_at reached node)
begins edges start node reached walks s is none =
    let h : HasWalk edges start node s = walks node s is in
    sym h.2 ∙ no_first h.0 (h.3 ∙ none)

-- ---- one edge
module _ (edges : List Edge) (start node : ℕ) (r : Reach) where
  -- what following edges from a node that is reached by r makes of the ways
  pub record Improves (before after : Nodes) : Type 0 where
    pub better : (v : ℕ) (s : Reach) → reach_at before v ≡ Some s → AtLeast (reach_at after v) s
    pub kept : (v : ℕ) (s : Reach) → reach_at before v ≡ Some s → s.weight ≤ r.weight → reach_at after v ≡ Some s
    pub above : (v : ℕ) (s : Reach) → reach_at after v ≡ Some s → (reach_at before v ≡ Some s) ⊎ ((r.weight ≤ s.weight) × (s.weight ≤ r.weight + 65535))
    pub walks : AllWalks edges start after
    pub long : length after ≡ length before

  improves_itself : (reached : Nodes) → AllWalks edges start reached → Improves reached reached
  improves_itself reached walks = record {
    better = λ v s is. subst (λ (o : Option Reach). AtLeast o s) (sym is) (at_least_itself s);
    kept = λ v s is le. is;
    above = λ v s is. inl is;
    walks = walks;
    long = refl;
  }

  improves_trans : (before mid after : Nodes) → Improves before mid → Improves mid after → Improves before after
  improves_trans before mid after h k = record {
    better = λ v s is. at_least_trans (reach_at mid v) (reach_at after v) s (h.better v s is) (λ c at. k.better v c at);
    kept = λ v s is le. k.kept v s (h.kept v s is le) le;
    above = λ v s is. ⊎_elim (λ at. h.above v s at) (λ bounds. inr bounds) (k.above v s is);
    walks = k.walks;
    long = k.long ∙ h.long;
  }

  module _ (reached : Nodes) (e : Edge) (inside : e.to < length reached) (meets : e.from ≡ node) (some : 1 ≤ e.weight) (small : e.weight ≤ 65535) (here : reach_at reached node ≡ Some r) (among : Contains edges e) (walks : AllWalks edges start reached) where
    abbrev made : Reach
    made = better_of (over r e) (reach_at reached e.to)

    at_end : reach_at (followed reached r e) e.to ≡ Some made
    at_end = get_or-set_same reached e.to (Some made) None inside

    elsewhere : (v : ℕ) → (v ≡ e.to → ⊥) → reach_at (followed reached r e) v ≡ reach_at reached v
    elsewhere v apart = get_or-set_other reached e.to v (Some made) None apart

    reaches : AtLeast (reach_at (followed reached r e) e.to) (over r e)
    reaches = rw at_end (better_new (r.weight + e.weight) (unwrap_or r.first e.to) (reach_at reached e.to) (omega (arith, some)) (begins edges start e.to reached walks))

    better_at : (s : Reach) → reach_at reached e.to ≡ Some s → AtLeast (Some made) s
    better_at s is = rw is (better_old (over r e) s)

    kept_at_end : (s : Reach) → reach_at reached e.to ≡ Some s → s.weight ≤ r.weight → made ≡ s
    kept_at_end s is le = rw is (better_kept (over r e) s (omega (arith, le, some)))

    above_at : (s : Reach) → made ≡ s → (reach_at reached e.to ≡ Some s) ⊎ ((r.weight ≤ s.weight) × (s.weight ≤ r.weight + 65535))
    above_at s is =
        ⊎_elim (λ new. let same : over r e ≡ s = sym new ∙ is in
        inr (subst (λ (x : Reach). (r.weight ≤ x.weight) × (x.weight ≤ r.weight + 65535)) same (omega arith, omega (arith, small)))) (λ old. inl (old ∙ ap Some is)) (better_either (over r e) (reach_at reached e.to))

    walk_at : (s : Reach) → made ≡ s → HasWalk edges start e.to s
    walk_at s is =
        ⊎_elim (λ new. subst (HasWalk edges start e.to) (sym new ∙ is) (walk_over edges start node r e (walks node r here) among meets)) (λ old. walks e.to s (old ∙ ap Some is)) (better_either (over r e) (reach_at reached e.to))

    -- a fact of each node, from that of the edge's end and that of a node that stays
    each : (P : ℕ → Option Reach → Type 0) → P e.to (Some made) → ((v : ℕ) → P v (reach_at reached v)) → (v : ℕ) → P v (reach_at (followed reached r e) v)
    each P at_to others v =
        ⊎_elim (λ same. subst (λ (n : ℕ). P n (reach_at (followed reached r e) n)) (sym same) (rw at_end at_to)) (λ apart. rw (elsewhere v apart) (others v)) (cases_eq v e.to)

    improves_one : Improves reached (followed reached r e)
    improves_one = record {
      better = λ v s is. ⊎_elim (λ same. let there : reach_at reached e.to ≡ Some s = subst (λ (n : ℕ). reach_at reached n ≡ Some s) same is in
          subst (λ (n : ℕ). AtLeast (reach_at (followed reached r e) n) s) (sym same) (rw at_end (better_at s there))) (λ apart. rw (elsewhere v apart, is) (at_least_itself s)) (cases_eq v e.to);
      kept = λ v s is le. ⊎_elim (λ same. let there : reach_at reached e.to ≡ Some s = subst (λ (n : ℕ). reach_at reached n ≡ Some s) same is in
          subst (λ (n : ℕ). reach_at (followed reached r e) n ≡ Some s) (sym same) (at_end ∙ ap Some (kept_at_end s there le))) (λ apart. elsewhere v apart ∙ is) (cases_eq v e.to);
      above = λ v s is. ⊎_elim (λ same. let at : made ≡ s = Some_same made s (sym at_end ∙ subst (λ (n : ℕ). reach_at (followed reached r e) n ≡ Some s) same is) in
          subst (λ (n : ℕ). (reach_at reached n ≡ Some s) ⊎ ((r.weight ≤ s.weight) × (s.weight ≤ r.weight + 65535))) (sym same) (above_at s at)) (λ apart. inl (sym (elsewhere v apart) ∙ is)) (cases_eq v e.to);
      walks = λ v s is. ⊎_elim (λ same. let at : made ≡ s = Some_same made s (sym at_end ∙ subst (λ (n : ℕ). reach_at (followed reached r e) n ≡ Some s) same is) in
          subst (λ (n : ℕ). HasWalk edges start n s) (sym same) (walk_at s at)) (λ apart. walks v s (sym (elsewhere v apart) ∙ is)) (cases_eq v e.to);
      long = grind (arith, common_steps);
    }

  -- ---- all edges
  abbrev pub AreHere : ℕ → List Edge → Type 0
  AreHere nodes es = AllByRecursion (λ (e : Edge). Contains edges e × IsSound nodes e) es

  abbrev pub AreReached : Nodes → List Edge → Type 0
  AreReached reached es = AllByRecursion (λ (e : Edge). e.from ≡ node → AtLeast (reach_at reached e.to) (over r e)) es

  pub improves_all : (es : List Edge) (reached : Nodes) → AreHere (length reached) es → reach_at reached node ≡ Some r → AllWalks edges start reached → Improves reached (followed_all node r es reached) × AreReached (followed_all node r es reached) es
  improves_all [] reached sound here walks = (improves_itself reached walks, tt)
  improves_all (e ∷ es) reached sound here walks =
      split (e.from == node) (λ yes.
      let meets : e.from ≡ node = grind (arith, common_steps, yes) in
      let one : Improves reached (followed reached r e) = improves_one reached e sound.0.1.1 meets sound.0.1.2 sound.0.1.3 here sound.0.0 walks in
      let sound' : AreHere (length (followed reached r e)) es = subst (λ (n : ℕ). AreHere n es) (sym one.long) sound.1 in
      let rest = improves_all es (followed reached r e) sound' (one.kept node r here (omega arith)) one.walks in
      let first : AtLeast (reach_at (followed_all node r es (followed reached r e)) e.to) (over r e) =
      at_least_trans (reach_at (followed reached r e) e.to) (reach_at (followed_all node r es (followed reached r e)) e.to) (over r e) (reaches reached e sound.0.1.1 meets sound.0.1.2 sound.0.1.3 here sound.0.0 walks) (λ c at. rest.0.better e.to c at) in
      let step : followed_all node r (e ∷ es) reached ≡ followed_all node r es (followed reached r e) = rw yes refl in
      subst (λ (x : Nodes). Improves reached x × AreReached x (e ∷ es)) (sym step) (improves_trans reached (followed reached r e) (followed_all node r es (followed reached r e)) one rest.0, (λ _. first, rest.1))) (λ apart.
      let rest = improves_all es reached sound.1 here walks in
      let step : followed_all node r (e ∷ es) reached ≡ followed_all node r es reached = rw apart refl in
      subst (λ (x : Nodes). Improves reached x × AreReached x (e ∷ es)) (sym step) (rest.0, (λ meets. absurd (both_ways (e.from == node) apart (grind (arith, common_steps, meets))), rest.1)))
