-- The search: what holds while nodes are settled, and what it comes to when all that are reached are settled.
use Rattle.std.proofs.Common.{◌≡◌, ℕ, zero, suc, ◌+◌, ◌*◌, ◌<◌, ◌≤◌, ◌⊎◌, inl, inr, ⊎_elim, Bool, true, false, cond, List, [], ◌∷◌, Option, Some, None, Contains, length, set, get_or, unwrap_or, option_map, option_and_then, refl, sym, ap, ◌∙◌, subst, arith, sum_by}
use Rattle.std.specs.List.{AllByRecursion}
use Rattle.std.proofs.lemmas.Bool.{cases_eq, cases_lt, both_ways}
use Rattle.std.proofs.lemmas.List.{get_or-set_same, get_or-set_other}
use Rattle.std.proofs.lemmas.List.Elements.{Contains-append_left, Contains-append_right, Contains-push}
use Rattle.std.proofs.lemmas.List.Sums.{sum_by-set, sum_by-cons}
use Rattle.std.proofs.lemmas.Grind.{common_steps}
use Rattle.rina_graph.specs.declared.graph.Edge.{Edge}
use Rattle.rina_graph.specs.declared.tree.Reach.{Reach}
use Rattle.rina_graph.specs.Walks.{AreEdges, IsWalk, weight_of, first_of, IsLeastWalk, IsLabel, IsFirstStep, reach_at, IsTree}
use Rattle.rina_graph.specs.Search.{over, followed_all, is_settled, IsOpen, IsNearest, AllSettled}
use Rattle.rina_graph.proofs.Edges.{IsSound}
use Rattle.rina_graph.proofs.Reached.{Some_same, Nodes, NotAfter, AtLeast, at_least_itself, at_least_then, at_least_trans, at_least_over}
use Rattle.rina_graph.proofs.Follow.{HasWalk, AllWalks, Improves, AreHere, AreReached, improves_all, no_first}

-- how many nodes are not settled
abbrev pub left : List Bool → ℕ
left settled = sum_by (λ (b : Bool). cond b 0 1) settled

abbrev pub nothing : Reach
nothing = record { weight = 0; first = None }

-- the ways are walks, no edge of a settled node leads to a better one, and the settled nodes are the nearest
pub record IsSearch (edges : List Edge) (start nodes : ℕ) (reached : Nodes) (settled : List Bool) : Type 0 where
  pub long : length reached ≡ nodes
  pub marked : length settled ≡ nodes
  pub walks : AllWalks edges start reached
  pub begun : AtLeast (reach_at reached start) nothing
  pub known : (v : ℕ) → is_settled settled v ≡ true → (r : Reach) × (reach_at reached v ≡ Some r)
  pub done : (e : Edge) (r : Reach) → Contains edges e → is_settled settled e.from ≡ true → reach_at reached e.from ≡ Some r → AtLeast (reach_at reached e.to) (over r e)
  pub order : (u v : ℕ) (p q : Reach) → is_settled settled u ≡ true → is_settled settled v ≡ false → reach_at reached u ≡ Some p → reach_at reached v ≡ Some q → p.weight ≤ q.weight
  pub small : (v : ℕ) (r : Reach) → reach_at reached v ≡ Some r → r.weight + 65535 * left settled ≤ 65535 * nodes

-- ---- marks
marked_one : (settled : List Bool) (at v : ℕ) → at < length settled → is_settled (set settled at true) v ≡ true → (v ≡ at) ⊎ (is_settled settled v ≡ true)
marked_one settled at v lt h = ⊎_elim (λ same. inl same) (λ apart. inr (sym (get_or-set_other settled at v true false apart) ∙ h)) (cases_eq v at)

unmarked : (settled : List Bool) (at v : ℕ) → at < length settled → is_settled (set settled at true) v ≡ false → (v ≡ at → ⊥) × (is_settled settled v ≡ false)
unmarked settled at v lt h =
    let apart : v ≡ at → ⊥ = λ same. both_ways (is_settled (set settled at true) v) h (subst (λ (n : ℕ). is_settled (set settled at true) n ≡ true) (sym same) (get_or-set_same settled at true false lt)) in
    (apart, sym (get_or-set_other settled at v true false apart) ∙ h)

pub left_less : (settled : List Bool) (at : ℕ) → at < length settled → is_settled settled at ≡ false → left (set settled at true) + 1 ≡ left settled
left_less settled at lt h =
    let sums = sum_by-set (λ (b : Bool). cond b 0 1) settled at true false lt in
    let one : ℕ = cond (get_or settled at false) 0 1 in
    let is_one : ◌≡◌ {A = ℕ} one 1 = rw h refl in
    omega (arith, sums, is_one)

left_le : (settled : List Bool) → left settled ≤ length settled
left_le [] = omega arith
left_le (true ∷ settled) = omega (arith, sum_by-cons (λ (b : Bool). cond b 0 1) true settled, left_le settled)
left_le (false ∷ settled) = omega (arith, sum_by-cons (λ (b : Bool). cond b 0 1) false settled, left_le settled)

-- ---- lists of edges by recursion
all_of : (P : Edge → Type 0) (es : List Edge) → ((e : Edge) → Contains es e → P e) → AllByRecursion P es
all_of P [] f = tt
all_of P (e ∷ es) f = (f e (Contains-append_left (e ∷ []) es e (Contains-push [] e)), all_of P es (λ x among. f x (Contains-append_right (e ∷ []) es x among)))

at_place : (P : Edge → Type 0) (es : List Edge) (k : ℕ) (d : Edge) → AllByRecursion P es → k < length es → P (get_or es k d)
at_place P [] k d h lt = absurd (omega (arith, lt))
at_place P (e ∷ es) zero d h lt = h.0
at_place P (e ∷ es) (suc k) d h lt = at_place P es k d h.1 (omega (arith, lt))

one_of : (P : Edge → Type 0) (es : List Edge) (e : Edge) → AllByRecursion P es → Contains es e → P e
one_of P es e h among = subst P among.2 (at_place P es among.0 e h among.1)

-- ---- one node is settled
module _ (edges : List Edge) (start nodes at : ℕ) (r : Reach) (reached : Nodes) (settled : List Bool) (s : IsSearch edges start nodes reached settled) (sound : AreEdges nodes edges) (open_at : IsOpen reached settled at r) (near : IsNearest reached settled (length reached) r.weight) where
  abbrev after : Nodes
  after = followed_all at r edges reached

  abbrev marks : List Bool
  marks = set settled at true

  here : AreHere edges start at r (length reached) edges
  here = all_of (λ (e : Edge). Contains edges e × IsSound (length reached) e) edges (λ e among. (among, subst (λ (n : ℕ). IsSound n e) (sym s.long) (sound e among)))

  both : Improves edges start at r reached after × AreReached edges start at r after edges
  both = improves_all edges start at r edges reached here open_at.1 s.walks

  inside : at < length settled
  inside = omega (arith, open_at.0, s.long, s.marked)

  stays : reach_at after at ≡ Some r
  stays = both.0.kept at r open_at.1 (omega arith)

  within : (v : ℕ) (q : Reach) → reach_at reached v ≡ Some q → v < length reached
  within v q is = ⊎_elim (λ lt. lt) (λ past. absurd (grind (arith, common_steps, is, past))) (cases_lt v (length reached))

  done_after : (e : Edge) (q : Reach) → Contains edges e → is_settled marks e.from ≡ true → reach_at after e.from ≡ Some q → AtLeast (reach_at after e.to) (over q e)
  done_after e q among mark is =
      ⊎_elim (λ same.
      let q_is : r ≡ q = Some_same r q (sym stays ∙ subst (λ (n : ℕ). reach_at after n ≡ Some q) same is) in
      subst (λ (x : Reach). AtLeast (reach_at after e.to) (over x e)) q_is (one_of (λ (x : Edge). x.from ≡ at → AtLeast (reach_at after x.to) (over r x)) edges e both.1 among same)) (λ before.
      let old = s.known e.from before in
      let le : old.0.weight ≤ r.weight = s.order e.from at old.0 r before open_at.2 old.1 open_at.1 in
      let q_is : old.0 ≡ q = Some_same old.0 q (sym (both.0.kept e.from old.0 old.1 le) ∙ is) in
      at_least_trans (reach_at reached e.to) (reach_at after e.to) (over q e) (subst (λ (x : Reach). AtLeast (reach_at reached e.to) (over x e)) q_is (s.done e old.0 among before old.1)) (λ c there. both.0.better e.to c there)) (marked_one settled at e.from inside mark)

  order_after : (u v : ℕ) (p q : Reach) → is_settled marks u ≡ true → is_settled marks v ≡ false → reach_at after u ≡ Some p → reach_at after v ≡ Some q → p.weight ≤ q.weight
  order_after u v p q mark_u mark_v is_p is_q =
      let free = unmarked settled at v inside mark_v in
      let far : r.weight ≤ q.weight = ⊎_elim (λ old. near v q (within v q old) old free.1) (λ bounds. bounds.0) (both.0.above v q is_q) in
      ⊎_elim (λ same.
      let p_is : r ≡ p = Some_same r p (sym stays ∙ subst (λ (n : ℕ). reach_at after n ≡ Some p) same is_p) in
      subst (λ (x : Reach). x.weight ≤ q.weight) p_is far) (λ before.
      let old = s.known u before in
      let le : old.0.weight ≤ r.weight = s.order u at old.0 r before open_at.2 old.1 open_at.1 in
      let p_is : old.0 ≡ p = Some_same old.0 p (sym (both.0.kept u old.0 old.1 le) ∙ is_p) in
      subst (λ (x : Reach). x.weight ≤ q.weight) p_is (omega (arith, le, far))) (marked_one settled at u inside mark_u)

  known_after : (v : ℕ) → is_settled marks v ≡ true → (q : Reach) × (reach_at after v ≡ Some q)
  known_after v mark =
      ⊎_elim (λ same. (r, subst (λ (n : ℕ). reach_at after n ≡ Some r) (sym same) stays)) (λ before.
      let old = s.known v before in
      let le : old.0.weight ≤ r.weight = s.order v at old.0 r before open_at.2 old.1 open_at.1 in
      (old.0, both.0.kept v old.0 old.1 le)) (marked_one settled at v inside mark)

  small_after : (v : ℕ) (q : Reach) → reach_at after v ≡ Some q → q.weight + 65535 * left marks ≤ 65535 * nodes
  small_after v q is =
      let less = left_less settled at inside open_at.2 in
      ⊎_elim (λ old. omega (arith, s.small v q old, less)) (λ bounds. omega (arith, s.small at r open_at.1, less, bounds.1)) (both.0.above v q is)

  pub settles : IsSearch edges start nodes after marks
  settles = record {
    long = both.0.long ∙ s.long;
    marked = grind (arith, common_steps, s.marked);
    walks = both.0.walks;
    begun = at_least_trans (reach_at reached start) (reach_at after start) nothing s.begun (λ c there. both.0.better start c there);
    known = known_after;
    done = done_after;
    order = order_after;
    small = small_after;
  }

  pub is_small : r.weight ≤ 65536 * 65535 ⊎ (65536 < nodes)
  is_small = ⊎_elim (λ lt. inr lt) (λ le. inl (omega (arith, s.small at r open_at.1, le))) (cases_lt 65536 nodes)

same_reach : (r : Reach) (w : ℕ) (f : Option ℕ) → r.weight ≡ w → r.first ≡ f → r ≡ record { weight = w; first = f }
same_reach r w f hw hf = λ i. record { weight = hw i; first = hf i }

-- ---- all that are reached are settled
along : Reach → List Edge → Reach
along o [] = o
along o (e ∷ walk) = along (over o e) walk

along_weight : (o : Reach) (walk : List Edge) → (along o walk).weight ≡ o.weight + weight_of walk
unfolding along
along_weight o [] = omega arith
along_weight o (e ∷ walk) = omega (arith, along_weight (over o e) walk, sum_by-cons (λ (x : Edge). x.weight) e walk)

along_later : (o : Reach) (x : ℕ) (walk : List Edge) → o.first ≡ Some x → (along o walk).first ≡ Some x
unfolding along
along_later o x [] h = h
along_later o x (e ∷ walk) h = along_later (over o e) x walk (ap (λ (f : Option ℕ). Some (unwrap_or f e.to)) h)

along_first : (walk : List Edge) → (along nothing walk).first ≡ first_of walk
unfolding along
along_first [] = refl
along_first (e ∷ walk) = along_later (over nothing e) e.to walk refl

module _ (edges : List Edge) (start nodes : ℕ) (reached : Nodes) (settled : List Bool) (s : IsSearch edges start nodes reached settled) (sound : AreEdges nodes edges) (all : AllSettled reached settled (length reached)) where
  is_done : (v : ℕ) (q : Reach) → reach_at reached v ≡ Some q → is_settled settled v ≡ true
  is_done v q is = all v q (⊎_elim (λ lt. lt) (λ past. absurd (grind (arith, common_steps, is, past))) (cases_lt v (length reached))) is

  -- one edge further
  further : (e : Edge) (u : ℕ) (o : Reach) (m : Option Reach) → reach_at reached u ≡ m → AtLeast m o → Contains edges e → e.from ≡ u → AtLeast (reach_at reached e.to) (over o e)
  further e u o None is h among meets = absurd h
  further e u o (Some p) is h among meets =
      let there : reach_at reached e.from ≡ Some p = ap (reach_at reached) meets ∙ is in
      at_least_then (reach_at reached e.to) (over p e) (over o e) (s.done e p among (is_done e.from p there) there) (at_least_over p o e h)

  forward : (walk : List Edge) (u v : ℕ) (o : Reach) → AtLeast (reach_at reached u) o → IsWalk edges u walk v → AtLeast (reach_at reached v) (along o walk)
  unfolding along
  forward [] u v o h walks = subst (λ (n : ℕ). AtLeast (reach_at reached n) o) walks h
  forward (e ∷ walk) u v o h walks = forward walk e.to v (over o e) (further e u o (reach_at reached u) refl h walks.0 walks.1) walks.2

  -- a node is reached at least as well as by any walk
  pub as_good : (walk : List Edge) (v : ℕ) → IsWalk edges start walk v → AtLeast (reach_at reached v) (record { weight = weight_of walk; first = first_of walk })
  as_good walk v walks =
      let h : AtLeast (reach_at reached v) (along nothing walk) = forward walk start v nothing s.begun walks in
      let w : (along nothing walk).weight ≡ weight_of walk = along_weight nothing walk ∙ omega arith in
      subst (λ (x : Reach). AtLeast (reach_at reached v) x) (same_reach (along nothing walk) (weight_of walk) (first_of walk) w (along_first walk)) h

  lighter : (m : Option Reach) (p : Reach) (w : ℕ) (f : Option ℕ) → m ≡ Some p → AtLeast m (record { weight = w; first = f }) → p.weight ≤ w
  lighter None p w f is h = absurd h
  lighter (Some q) p w f is h = subst (λ (x : Reach). x.weight ≤ w) (Some_same q p is) (⊎_elim (λ lt. omega (arith, lt)) (λ eq. omega (arith, eq.0)) h)

  earlier : (m : Option Reach) (p : Reach) (w x y : ℕ) → m ≡ Some p → w ≤ p.weight → p.first ≡ Some x → AtLeast m (record { weight = w; first = Some y }) → x ≤ y
  earlier None p w x y is le first h = absurd h
  earlier (Some q) p w x y is le first h =
      let same : q ≡ p = Some_same q p is in
      ⊎_elim (λ lt. absurd (omega (arith, le, ap (λ (z : Reach). z.weight) same, lt))) (λ eq. subst (λ (f : Option ℕ). NotAfter f (Some y)) (ap (λ (z : Reach). z.first) same ∙ first) eq.1) h

  is_least : (v : ℕ) (p : Reach) → reach_at reached v ≡ Some p → (h : HasWalk edges start v p) → IsLeastWalk edges start v h.0
  is_least v p is h = record {
    is_walk = h.1;
    least = λ other walks. omega (arith, h.2, lighter (reach_at reached v) p (weight_of other) (first_of other) is (as_good other v walks));
  }

  label_is : (v : ℕ) (m : Option Reach) → reach_at reached v ≡ m → IsLabel edges start v (option_map (λ (p : Reach). p.weight) m)
  label_is v None is = λ walk walks. subst (λ (m : Option Reach). AtLeast m (record { weight = weight_of walk; first = first_of walk })) is (as_good walk v walks)
  label_is v (Some p) is = let h = s.walks v p is in (h.0, is_least v p is h, h.2)

  weighs : (walk : List Edge) (v : ℕ) → IsWalk edges start walk v → weight_of walk ≡ 0 → walk ≡ []
  weighs [] v walks nought = refl
  weighs (e ∷ walk) v walks nought = absurd (omega (arith, (sound e walks.0).2, sum_by-cons (λ (x : Edge). x.weight) e walk, nought))

  first_by : (v : ℕ) (p : Reach) → reach_at reached v ≡ Some p → (f : Option ℕ) → p.first ≡ f → IsFirstStep edges start v f
  first_by v p is None first = λ walk least.
      let h = s.walks v p is in
      let nought : weight_of h.0 ≡ 0 = no_first h.0 (h.3 ∙ first) in
      weighs walk v least.is_walk (omega (arith, least.least h.0 h.1, nought))
  first_by v p is (Some x) first =
      let h = s.walks v p is in (
        (h.0, is_least v p is h, h.3 ∙ first),
        (λ walk y least step.
            let le : weight_of walk ≤ p.weight = omega (arith, least.least h.0 h.1, h.2) in
            earlier (reach_at reached v) p (weight_of walk) x y is le first (subst (λ (f : Option ℕ). AtLeast (reach_at reached v) (record { weight = weight_of walk; first = f })) step (as_good walk v least.is_walk))),
      )

  first_is : (v : ℕ) (m : Option Reach) → reach_at reached v ≡ m → IsFirstStep edges start v (option_and_then (λ (p : Reach). p.first) m)
  first_is v None is = λ walk least. absurd (subst (λ (m : Option Reach). AtLeast m (record { weight = weight_of walk; first = first_of walk })) is (as_good walk v least.is_walk))
  first_is v (Some p) is = first_by v p is p.first refl

  pub is_tree : IsTree edges start reached
  is_tree = record { labels = λ v. label_is v (reach_at reached v) refl; first_steps = λ v. first_is v (reach_at reached v) refl }

-- ---- the beginning
begins_at : (start v : ℕ) (r : Reach) (empty : Nodes) → start < length empty → ((n : ℕ) → reach_at empty n ≡ None) → reach_at (set empty start (Some nothing)) v ≡ Some r → (v ≡ start) × (nothing ≡ r)
begins_at start v r empty lt none is =
    ⊎_elim (λ same. (same, Some_same nothing r (sym (get_or-set_same empty start (Some nothing) None lt) ∙ subst (λ (n : ℕ). reach_at (set empty start (Some nothing)) n ≡ Some r) same is)))
    (λ apart. absurd (grind (arith, none v, get_or-set_other empty start v (Some nothing) None apart, is))) (cases_eq v start)

pub begins_search : (edges : List Edge) (start nodes : ℕ) (empty : Nodes) (settled : List Bool) → start < nodes → length empty ≡ nodes → length settled ≡ nodes → ((n : ℕ) → reach_at empty n ≡ None) → ((n : ℕ) → is_settled settled n ≡ false) → IsSearch edges start nodes (set empty start (Some nothing)) settled
begins_search edges start nodes empty settled lt long marked none free =
    let inside : start < length empty = omega (arith, lt, long) in
    let at : (v : ℕ) (r : Reach) → reach_at (set empty start (Some nothing)) v ≡ Some r → (v ≡ start) × (nothing ≡ r) = λ v r is. begins_at start v r empty inside none is in
    record {
      long = grind (arith, common_steps, long);
      marked = marked;
      walks = λ v r is. let h = at v r is in subst (HasWalk edges start v) h.1 ([], sym h.0, refl, refl);
      begun = subst (λ (m : Option Reach). AtLeast m nothing) (sym (get_or-set_same empty start (Some nothing) None inside)) (at_least_itself nothing);
      known = λ v mark. absurd (both_ways (is_settled settled v) (free v) mark);
      done = λ e r among mark is. absurd (both_ways (is_settled settled e.from) (free e.from) mark);
      order = λ u v p q mark free_v is_p is_q. absurd (both_ways (is_settled settled u) (free u) mark);
      small = λ v r is. let nought : r.weight ≡ 0 = sym (ap (λ (x : Reach). x.weight) (at v r is).1) in omega (arith, nought, left_le settled, marked);
    }
