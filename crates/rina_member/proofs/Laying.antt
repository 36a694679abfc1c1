-- The edges of a DIF that is laid out, and those over the links of a member.
use Rattle.std.proofs.Common.{◌≡◌, ◌∙◌, ◌⊎◌, inl, inr, ⊎_elim, ℕ, ◌^◌, ◌<◌, ◌≤◌, ◌==◌, Bool, true, false, cond, get_or, List, Option, Some, None, Contains, length, map, slice_get, refl, sym, ap, subst, arith}
use Rattle.std.specs.Prelude.{find, option_and_then, option_map}
use Rattle.std.specs.List.{filter_map}
use Rattle.std.proofs.lemmas.Bool.{both_ways, cases_order, eq-eqb, eqb-true}
use Rattle.std.proofs.lemmas.List.{get_or-map, length-map}
use Rattle.std.proofs.lemmas.List.Elements.{All-contains, Contains-append_cases, Contains-append_left, Contains-append_right}
use Rattle.std.proofs.lemmas.Option.{same_Some}
use Rattle.rina_graph.specs.declared.graph.Edge.{Edge}
use Rattle.rina_route.specs.declared.link.Link.{Link as Hop}
use Rattle.rina_route.specs.Routes.{edge}
use Rattle.rina_route.specs.Written.{IsClaim}
use Rattle.rina_route.proofs.Lists.{contains_map}
use Rattle.rina_plan.specs.declared.dif.LinkPlan.{LinkPlan}
use Rattle.rina_plan.specs.Kept.{AreApart}
use Rattle.rina_data.specs.declared.link.Link.{Link}
use Rattle.rina_data.specs.declared.settings.Member.{Member}
use Rattle.rina_data.proofs.Finding.{there}
use Rattle.rina_member.specs.Routing.{addr_at, edge_back, edge_between, edge_from, edge_there, edge_to, edges_from, edges_of, own_link, own_links}
use Rattle.rina_member.specs.Knowing.{AreNumbered, IsLaidOut}
use Rattle.rina_member.proofs.Hops.{Within}
use Rattle.rina_member.proofs.Lists.{at_place, found, is_there, made_of, makes, not_found}

-- Members

pair_apart : {X : Type 0} (f : X → ℕ) (xs : List X) (x y : X) (i j : ℕ) → AreApart (map f xs) → i < j → j < length xs → get_or xs i x ≡ x → get_or xs j y ≡ y → f x ≡ f y → ⊥
pair_apart f xs x y i j apart before within first second same =
    let size : length (map f xs) ≡ length xs = length-map xs f in
    let one : get_or (map f xs) i 0 ≡ f x = get_or-map f xs i x 0 (omega arith) ∙ ap f first in
    let two : get_or (map f xs) j 0 ≡ f y = get_or-map f xs j y 0 within ∙ ap f second in
    apart i j 0 before (omega (arith, size)) (one ∙ same ∙ sym two)

apart_same : {X : Type 0} (f : X → ℕ) (xs : List X) (x y : X) → AreApart (map f xs) → Contains xs x → Contains xs y → f x ≡ f y → x ≡ y
apart_same f xs x y apart p q same = ⊎_elim
    (λ place. same_Some x y (sym (at_place xs x p) ∙ ap (λ (k : ℕ). slice_get xs k) place ∙ at_place xs y q))
    (λ order. ⊎_elim
    (λ before. absurd (pair_apart f xs x y p.0 q.0 apart before q.1 p.2 q.2 same))
    (λ behind. absurd (pair_apart f xs y x q.0 p.0 apart behind p.1 q.2 p.2 (sym same)))
    order)
    (cases_order p.0 q.0)

-- Edges between addresses

between_to : (from w : ℕ) (to : Option ℕ) (e : Edge) → option_map (λ to. edge from to w) to ≡ Some e → (Some from ≡ Some e.from) × (to ≡ Some e.to) × (e.weight ≡ w)
between_to from w None e h = absurd cc
between_to from w (Some to) e h =
    let same : edge from to w ≡ e = same_Some (edge from to w) e h in
    (ap (λ (x : Edge). Some x.from) same, ap (λ (x : Edge). Some x.to) same, sym (ap (λ (x : Edge). x.weight) same))

between_by : (w : ℕ) (from to : Option ℕ) (e : Edge) → option_and_then (λ from. option_map (λ to. edge from to w) to) from ≡ Some e → (from ≡ Some e.from) × (to ≡ Some e.to) × (e.weight ≡ w)
between_by w None to e h = absurd cc
between_by w (Some from) to e h = between_to from w to e h

between : (members : List Member) (a b w : ℕ) (e : Edge) → edge_between members a b w ≡ Some e → (addr_at members a ≡ Some e.from) × (addr_at members b ≡ Some e.to) × (e.weight ≡ w)
between members a b w e h = between_by w (addr_at members a) (addr_at members b) e h

member_by : (members : List Member) (node address : ℕ) (o : Option Member) → find (λ (m : Member). m.node == node) members ≡ o → option_map (λ (m : Member). m.addr) o ≡ Some address → (m : Member) × Contains members m × (m.node ≡ node) × (m.addr ≡ address)
member_by members node address None is h = absurd cc
member_by members node address (Some m) is h =
    let r = found (λ (x : Member). x.node == node) members m is in
    (m, r.0, eqb-true m.node node r.1, same_Some m.addr address h)

-- the member at a node
member_at : (members : List Member) (node address : ℕ) → addr_at members node ≡ Some address → (m : Member) × Contains members m × (m.node ≡ node) × (m.addr ≡ address)
member_at members node address h = member_by members node address (find (λ (m : Member). m.node == node) members) refl h

-- an edge of the end at a node is the link as this end claims it
end_step : (p q : Bool) (there' back : Option Edge) (e : Edge) → cond p there' (cond q back None) ≡ Some e → ((p ≡ true) × (there' ≡ Some e)) ⊎ ((q ≡ true) × (back ≡ Some e))
end_step true q there' back e h = inl (refl, h)
end_step false true there' back e h = inr (refl, h)
end_step false false there' back e h = absurd cc

there_step : (p : Bool) (there' other : Option Edge) → p ≡ true → cond p there' other ≡ there'
there_step true there' other is = refl
there_step false there' other is = absurd (both_ways false refl is)

back_step : (p q : Bool) (there' back : Option Edge) → q ≡ true → (p ≡ true → there' ≡ back) → cond p there' (cond q back None) ≡ back
back_step true true there' back is same = same refl
back_step false true there' back is same = refl
back_step p false there' back is same = absurd (both_ways false refl is)

from_there : (members : List Member) (plans : List LinkPlan) (l : LinkPlan) (e : Edge) → Contains plans l → edge_there members l ≡ Some e → (m : Member) × Contains members m × Contains (edges_from members m.node plans) e
from_there members plans l e among is =
    let ends = between members l.a l.b l.weight e is in
    let m = member_at members l.a e.from ends.0 in
    (m.0, m.1, makes (edge_from members m.0.node) plans l e among (there_step (l.a == m.0.node) (edge_there members l) (cond (l.b == m.0.node) (edge_back members l) None) (eq-eqb l.a m.0.node (sym m.2)) ∙ is))

from_back : (members : List Member) (plans : List LinkPlan) (l : LinkPlan) (e : Edge) → Contains plans l → edge_back members l ≡ Some e → (m : Member) × Contains members m × Contains (edges_from members m.node plans) e
from_back members plans l e among is =
    let ends = between members l.b l.a l.weight e is in
    let m = member_at members l.b e.from ends.0 in
    let both : (l.a == m.0.node) ≡ true → edge_there members l ≡ edge_back members l = λ test. (
    let same : l.a ≡ l.b = eqb-true l.a m.0.node test ∙ m.2 in
    ap (λ (x : ℕ). edge_between members x l.b l.weight) same ∙ ap (λ (x : ℕ). edge_between members l.b x l.weight) (sym same)) in
    (m.0, m.1, makes (edge_from members m.0.node) plans l e among (back_step (l.a == m.0.node) (l.b == m.0.node) (edge_there members l) (edge_back members l) (eq-eqb l.b m.0.node (sym m.2)) both ∙ is))

-- each edge of a DIF is from a member
pub of_member : (members : List Member) (plans : List LinkPlan) (e : Edge) → Contains (edges_of members plans) e → (m : Member) × Contains members m × Contains (edges_from members m.node plans) e
of_member members plans e h = ⊎_elim
    (λ first. (let r = made_of (edge_there members) plans e first in from_there members plans r.0 e r.1 r.2))
    (λ second. (let r = made_of (edge_back members) plans e second in from_back members plans r.0 e r.1 r.2))
    (Contains-append_cases (filter_map (edge_there members) plans) (filter_map (edge_back members) plans) e h)

-- each edge from a member is one of the DIF
pub from_member : (members : List Member) (plans : List LinkPlan) (node : ℕ) → Within (edges_from members node plans) (edges_of members plans)
from_member members plans node e h =
    let r = made_of (edge_from members node) plans e h in
    let l : LinkPlan = r.0 in
    ⊎_elim
    (λ first. Contains-append_left (filter_map (edge_there members) plans) (filter_map (edge_back members) plans) e (makes (edge_there members) plans l e r.1 first.1))
    (λ second. Contains-append_right (filter_map (edge_there members) plans) (filter_map (edge_back members) plans) e (makes (edge_back members) plans l e r.1 second.1))
    (end_step (l.a == node) (l.b == node) (edge_there members l) (edge_back members l) e r.2)

module _ (members : List Member) (plans : List LinkPlan) (laid : IsLaidOut members plans) where
  -- a member is known by its address
  pub same_member : (a b : Member) → Contains members a → Contains members b → a.addr ≡ b.addr → a ≡ b
  same_member a b p q same = apart_same (λ (m : Member). m.addr) members a b laid.addresses p q same

  pub small_address : (m : Member) → Contains members m → m.addr < 2 ^ 32
  small_address m among = All-contains (λ (x : Member). x.addr < 2 ^ 32) members m laid.fit among

  found_by : (m : Member) (o : Option Member) → Contains members m → find (λ (x : Member). x.node == m.node) members ≡ o → option_map (λ (x : Member). x.addr) o ≡ Some m.addr
  found_by m None among is = absurd (both_ways (m.node == m.node) (not_found (λ (x : Member). x.node == m.node) members m is among) (eq-eqb m.node m.node refl))
  found_by m (Some x) among is =
      let r = found (λ (y : Member). y.node == m.node) members x is in
      ap (λ (y : Member). Some y.addr) (apart_same (λ (y : Member). y.node) members x m laid.nodes r.0 among (eqb-true x.node m.node r.1))

  address_of : (m : Member) → Contains members m → addr_at members m.node ≡ Some m.addr
  address_of m among = found_by m (find (λ (x : Member). x.node == m.node) members) among refl

  claim_of : (m : Member) (l : LinkPlan) (e : Edge) (a b : ℕ) → Contains members m → Contains plans l → a ≡ m.node → edge_between members a b l.weight ≡ Some e → IsClaim m.addr e
  claim_of m l e a b among stands at is =
      let ends = between members a b l.weight e is in
      let other = member_at members b e.to ends.1 in
      let weighs = All-contains (λ (x : LinkPlan). (1 ≤ x.weight) × (x.weight ≤ 65535)) plans l laid.weights stands in
      record {
        from = same_Some e.from m.addr (sym ends.0 ∙ ap (λ (n : ℕ). addr_at members n) at ∙ address_of m among);
        to = subst (λ (n : ℕ). n < 2 ^ 32) other.3 (small_address other.0 other.1);
        least = subst (λ (n : ℕ). 1 ≤ n) (sym ends.2) weighs.0;
        weight = subst (λ (n : ℕ). n ≤ 65535) (sym ends.2) weighs.1;
      }

  -- a member can claim each edge from it
  pub can_claim : (m : Member) (e : Edge) → Contains members m → Contains (edges_from members m.node plans) e → IsClaim m.addr e
  can_claim m e among h =
      let r = made_of (edge_from members m.node) plans e h in
      let l : LinkPlan = r.0 in
      ⊎_elim
      (λ first. claim_of m l e l.a l.b among r.1 (eqb-true l.a m.node first.0) first.1)
      (λ second. claim_of m l e l.b l.a among r.1 (eqb-true l.b m.node second.0) second.1)
      (end_step (l.a == m.node) (l.b == m.node) (edge_there members l) (edge_back members l) e r.2)

-- Edges over links

own_by : (number : ℕ) (o : Option Edge) (h : Hop) → option_map (λ (e : Edge). record { number = number; peer = e.to; weight = e.weight }) o ≡ Some h → (e : Edge) × (o ≡ Some e) × (h ≡ record { number = number; peer = e.to; weight = e.weight })
own_by number None h is = absurd cc
own_by number (Some e) h is = (e, refl, sym (same_Some _ h is))

-- of which edge a link is, by its number
pub own_is : (es : List Edge) (link : Link) (h : Hop) → own_link es link ≡ Some h → (e : Edge) × (slice_get es link.number ≡ Some e) × (h ≡ record { number = link.number; peer = e.to; weight = e.weight })
own_is es link h is = own_by link.number (slice_get es link.number) h is

pub own_within : (own : ℕ) (es : List Edge) (links : List Link) (h : Hop) → ((e : Edge) → Contains es e → e.from ≡ own) → Contains (own_links es links) h → Contains es (edge_to own h)
own_within own es links h from among =
    let r = made_of (own_link es) links h among in
    let e = own_is es r.0 h r.2 in
    let has : Contains es e.0 = is_there es r.0.number e.0 e.1 in
    let same : e.0 ≡ edge_to own h = ap (λ (n : ℕ). edge n e.0.to e.0.weight) (from e.0 has) ∙ ap (λ (x : Hop). edge_to own x) (sym e.2) in
    subst (λ (x : Edge). Contains es x) same has

-- where each edge has a link, the links lead over each
pub within_own : (own : ℕ) (es : List Edge) (links : List Link) → ((e : Edge) → Contains es e → e.from ≡ own) → AreNumbered links → length es ≤ length links → Within es (map (edge_to own) (own_links es links))
within_own own es links from numbered enough e h =
    let lt : h.0 < length links = (let within = h.1 in omega arith) in
    let link = there links h.0 lt in
    let number : link.0.number ≡ h.0 = numbered h.0 link.0 link.1 in
    let hop : Hop = record { number = link.0.number; peer = e.to; weight = e.weight } in
    let gives : own_link es link.0 ≡ Some hop = ap (λ (o : Option Edge). option_map (λ (x : Edge). record { number = link.0.number; peer = x.to; weight = x.weight }) o) (ap (λ (n : ℕ). slice_get es n) number ∙ at_place es e h) in
    subst (λ (x : Edge). Contains (map (edge_to own) (own_links es links)) x) (ap (λ (n : ℕ). edge n e.to e.weight) (sym (from e h)))
    (contains_map (edge_to own) (own_links es links) hop (makes (own_link es) links link.0 hop (is_there links h.0 link.0 link.1) gives))
