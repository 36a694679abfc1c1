-- What a plan says of each link and each flow.
use Rattle.std.proofs.Common.{◌≡◌, ◌≢◌, ℕ, zero, suc, ◌+◌, ◌==◌, ◌&&◌, ◌||◌, ◌∙◌, cond, not, Bool, true, false, List, [], ◌∷◌, map, slice_get, take, Some, nat_le, refl, sym, ap, subst, arith}
use Rattle.std.specs.Prelude.{find}
use Rattle.std.specs.List.{list_any}
use Rattle.std.proofs.lemmas.Bool.{and_parts, not-false, or_parts}
use Rattle.std.proofs.lemmas.Bool.Decides.{nat_tests}
use Rattle.std.proofs.lemmas.Option.{same_Some}
use Rattle.rina_cube.specs.declared.Cube.{Cube}
use Rattle.rina_dif_law.specs.Dif.{offer_of}
use Rattle.rina_iface.proofs.Changed.{all_at}
use Rattle.rina_iface.specs.Seen.{Offer, cube_in, is_member}
use Rattle.rina_plan.specs.declared.dif.DifPlan.{DifPlan}
use Rattle.rina_plan.specs.declared.dif.FlowPlan.{FlowPlan}
use Rattle.rina_plan.specs.declared.dif.LinkPlan.{LinkPlan}
use Rattle.rina_plan.specs.declared.dif.MemberPlan.{MemberPlan}
use Rattle.rina_plan.specs.declared.dif.WireEnds.{WireEnds}
use Rattle.rina_plan.specs.Kept.{IsStanding, IsStatic}
use Rattle.rina_plan.specs.Links.{carries, has_unfit_link, is_unfit_link, is_member as has_node, is_there, is_uncarried, rank_of}
use Rattle.rina_plan.specs.Walks.{has_cube}
use Rattle.rina_stack.specs.declared.plan.Plan.{Plan}
use Rattle.rina_stack.specs.Plan.{IsPlan, wire_ends}
use Rattle.rina_tower.specs.Fits.{fresh_dif}

-- Lists

pub none_at : {X : Type 0} (p : X → Bool) (xs : List X) → list_any p xs ≡ false → (k : ℕ) (x : X) → slice_get xs k ≡ Some x → p x ≡ false
none_at p [] h k x at = cc
none_at p (y ∷ xs) h zero x at = let same : y ≡ x = same_Some y x at in subst (λ z. p z ≡ false) same (or_parts (p y) (list_any p xs) h).0
none_at p (y ∷ xs) h (suc k) x at = none_at p xs (or_parts (p y) (list_any p xs) h).1 k x at

pub any_at : {X : Type 0} (p : X → Bool) (xs : List X) (k : ℕ) (x : X) → slice_get xs k ≡ Some x → p x ≡ true → list_any p xs ≡ true
any_at p xs k x at holds = elim (list_any p xs) as (λ b. list_any p xs ≡ b → b ≡ true) [
  | true ↦ λ h. refl
  | false ↦ λ h. let none : p x ≡ false = none_at p xs h k x at in absurd (let e : true ≡ false = sym holds ∙ none in cc)
] refl

any_found : {X : Type 0} (p : X → Bool) (xs : List X) → list_any p xs ≡ true → (x : X) × (find p xs ≡ Some x)
any_found p [] h = cc
any_found p (y ∷ xs) h = elim (p y) as (λ b. (b || list_any p xs) ≡ true → (x : _) × (cond b (Some y) (find p xs) ≡ Some x)) [
  | true ↦ λ g. (y, refl)
  | false ↦ λ g. any_found p xs g
] h

pub any_element : {X : Type 0} (p : X → Bool) (xs : List X) → list_any p xs ≡ true → (k : ℕ) × (x : X) × (slice_get xs k ≡ Some x) × (p x ≡ true)
any_element p [] h = cc
any_element p (y ∷ xs) h = elim (p y) as (λ b. p y ≡ b → (b || list_any p xs) ≡ true → (k : ℕ) × (x : _) × (slice_get (y ∷ xs) k ≡ Some x) × (p x ≡ true)) [
  | true ↦ λ e g. (0, y, refl, e)
  | false ↦ λ e g. let r = any_element p xs g in (suc r.0, r.1, r.2, r.3)
] refl h

pub any_map : {A B : Type 0} (p : B → Bool) (f : A → B) (xs : List A) → list_any p (map f xs) ≡ list_any (λ x. p (f x)) xs
any_map p f [] = refl
any_map p f (x ∷ xs) = ap (λ b. p (f x) || b) (any_map p f xs)

or_yes : (b : Bool) → (b || true) ≡ true
or_yes true = refl
or_yes false = refl

pub any_weaker : {X : Type 0} (p q : X → Bool) (xs : List X) → ((x : X) → p x ≡ true → q x ≡ true) → list_any p xs ≡ true → list_any q xs ≡ true
any_weaker p q [] each h = cc
any_weaker p q (y ∷ xs) each h = elim (p y) as (λ b. p y ≡ b → (b || list_any p xs) ≡ true → (q y || list_any q xs) ≡ true) [
  | true ↦ λ e g. rw (each y e) refl
  | false ↦ λ e g. rw (any_weaker p q xs each g) (or_yes (q y))
] refl h

-- Links

pub record IsLinkOf (plan : Plan) (d : DifPlan) (l : LinkPlan) : Type 0 where
  pub rank : rank_of plan.difs l.on + 1 ≡ d.rank
  pub apart : l.a ≢ l.b
  pub a_there : is_there (map wire_ends plan.wires) plan.difs l.a l.on ≡ true
  pub b_there : is_there (map wire_ends plan.wires) plan.difs l.b l.on ≡ true
  pub carried : carries (map wire_ends plan.wires) plan.difs d.pdu l.cube l.on ≡ true
  pub static : IsStatic plan.difs l.on

differ : (m n : ℕ) → (m == n) ≡ false → m ≢ n
differ m n h = grind (arith, nat_tests)

same : (m n : ℕ) → (m == n) ≡ true → m ≡ n
same m n h = grind (arith, nat_tests)

record AreStraight (ranks nodes here there a_there b_there : Bool) : Type 0 where
  rank : ranks ≡ true
  apart : nodes ≡ false
  a : a_there ≡ true
  b : b_there ≡ true

straight : (ranks nodes m n s t : Bool) → (not ranks || nodes || not (m && n && s && t)) ≡ false → AreStraight ranks nodes m n s t
straight true false true true true true h = record { rank = refl; apart = refl; a = refl; b = refl }
straight false nodes m n s t h = cc
straight true true m n s t h = cc
straight true false false n s t h = cc
straight true false true false s t h = cc
straight true false true true false t h = cc
straight true false true true true false h = cc

not_crossed : (wires : List WireEnds) (difs : List DifPlan) (d : DifPlan) (l : LinkPlan) → is_unfit_link wires difs d l ≡ false → AreStraight (rank_of difs l.on + 1 == d.rank) (l.a == l.b) (has_node l.a d) (has_node l.b d) (is_there wires difs l.a l.on) (is_there wires difs l.b l.on)
unfolding is_unfit_link
not_crossed wires difs d l h = straight (rank_of difs l.on + 1 == d.rank) (l.a == l.b) (has_node l.a d) (has_node l.b d) (is_there wires difs l.a l.on) (is_there wires difs l.b l.on) h

crossed_none : (wires : List WireEnds) (difs : List DifPlan) (d : DifPlan) → has_unfit_link wires difs d ≡ false → (k : ℕ) (l : LinkPlan) → slice_get d.links k ≡ Some l → is_unfit_link wires difs d l ≡ false
unfolding has_unfit_link
crossed_none wires difs d h k l at = none_at (is_unfit_link wires difs d) d.links h k l at

carried_each : (wires : List WireEnds) (difs : List DifPlan) (d : DifPlan) → is_uncarried wires difs d ≡ false → (k : ℕ) (l : LinkPlan) → slice_get d.links k ≡ Some l → not (carries wires difs d.pdu l.cube l.on) ≡ false
unfolding is_uncarried
carried_each wires difs d h k l at = none_at (λ (l' : LinkPlan). not (carries wires difs d.pdu l'.cube l'.on)) d.links h k l at

uses_at : (plan : Plan) → IsPlan plan → (i : ℕ) (d : DifPlan) → slice_get plan.difs i ≡ Some d → IsStanding plan.difs d
uses_at plan p i d at = all_at (IsStanding plan.difs) plan.difs i d p.uses at

none_there : {X : Type 0} (xs : List X) (k : ℕ) (x : X) → xs ≡ [] → slice_get xs k ≡ Some x → ⊥
none_there [] k x none at = cc
none_there (y ∷ xs) k x none at = cc

not_bare : (b : Bool) → (b ≡ false → ⊥) → b ≡ true
not_bare true h = refl
not_bare false h = absurd (h refl)

-- a DIF with a link, or with a flow, is static
has_links : (plan : Plan) → IsPlan plan → (i : ℕ) (d : DifPlan) → slice_get plan.difs i ≡ Some d → (k : ℕ) (l : LinkPlan) → slice_get d.links k ≡ Some l → d.is_static ≡ true
has_links plan p i d at k l link = not_bare d.is_static (λ h. none_there d.links k l ((uses_at plan p i d at).bare h).0 link)

pub has_flows : (plan : Plan) → IsPlan plan → (i : ℕ) (d : DifPlan) → slice_get plan.difs i ≡ Some d → (k : ℕ) (f : FlowPlan) → slice_get d.flows k ≡ Some f → d.is_static ≡ true
has_flows plan p i d at k f flow = not_bare d.is_static (λ h. none_there d.flows k f ((uses_at plan p i d at).bare h).1 flow)

pub link_facts : (plan : Plan) → IsPlan plan → (i : ℕ) (d : DifPlan) → slice_get plan.difs i ≡ Some d → (k : ℕ) (l : LinkPlan) → slice_get d.links k ≡ Some l → IsLinkOf plan d l
link_facts plan p i d at k l link =
    let ws : List WireEnds = map wire_ends plan.wires in
    let none : has_unfit_link ws plan.difs d ≡ false = all_at (λ (e : DifPlan). has_unfit_link ws plan.difs e ≡ false) plan.difs i d p.links at in
    let s = not_crossed ws plan.difs d l (crossed_none ws plan.difs d none k l link) in
    let all : is_uncarried ws plan.difs d ≡ false = all_at (λ (e : DifPlan). is_uncarried ws plan.difs e ≡ false) plan.difs i d p.carried at in
    record {
      rank = same (rank_of plan.difs l.on + 1) d.rank s.rank;
      apart = differ l.a l.b s.apart;
      a_there = s.a;
      b_there = s.b;
      carried = not-false (carries ws plan.difs d.pdu l.cube l.on) (carried_each ws plan.difs d all k l link);
      static = all_at (λ (x : LinkPlan). IsStatic plan.difs x.on) d.links k l ((uses_at plan p i d at).below (has_links plan p i d at k l link)) link;
    }

-- Members and cubes of a DIF, as its facility shows them

all_shown : (d : DifPlan) → d.is_static ≡ true → (fresh_dif d).members ≡ map (λ (m : MemberPlan). m.node) d.members
all_shown d static = ap (λ (b : Bool). map (λ (m : MemberPlan). m.node) (cond b d.members (take 1 d.members))) static

first_shown : (d : DifPlan) → d.is_static ≡ false → (fresh_dif d).members ≡ map (λ (m : MemberPlan). m.node) (take 1 d.members)
first_shown d dynamic = ap (λ (b : Bool). map (λ (m : MemberPlan). m.node) (cond b d.members (take 1 d.members))) dynamic

pub shows_member : (d : DifPlan) (node : ℕ) → d.is_static ≡ true → has_node node d ≡ true → is_member (fresh_dif d).members node ≡ true
shows_member d node static h = ap (λ (ms : List ℕ). is_member ms node) (all_shown d static) ∙ (any_map (λ (m : ℕ). m == node) (λ (m : MemberPlan). m.node) d.members ∙ h)

pub lacks_member : (d : DifPlan) (node : ℕ) → d.is_static ≡ true → is_member (fresh_dif d).members node ≡ true → has_node node d ≡ true
lacks_member d node static h = sym (any_map (λ (m : ℕ). m == node) (λ (m : MemberPlan). m.node) d.members) ∙ (sym (ap (λ (ms : List ℕ). is_member ms node) (all_shown d static)) ∙ h)

only : (b : Bool) → (b || false) ≡ true → b ≡ true
only true h = refl
only false h = h

one_node : (ms : List MemberPlan) (a b : ℕ) → is_member (map (λ (m : MemberPlan). m.node) (take 1 ms)) a ≡ true → is_member (map (λ (m : MemberPlan). m.node) (take 1 ms)) b ≡ true → a ≡ b
one_node [] a b h g = cc
one_node (m ∷ ms) a b h g = sym (same m.node a (only (m.node == a) h)) ∙ same m.node b (only (m.node == b) g)

-- a DIF that is not static shows no two nodes
pub shows_one : (d : DifPlan) (a b : ℕ) → d.is_static ≡ false → is_member (fresh_dif d).members a ≡ true → is_member (fresh_dif d).members b ≡ true → a ≡ b
shows_one d a b dynamic h g =
    let first = first_shown d dynamic in
    one_node d.members a b (subst (λ (ms : List ℕ). is_member ms a ≡ true) first h) (subst (λ (ms : List ℕ). is_member ms b ≡ true) first g)

pub shows_cube : (d : DifPlan) (id : ℕ) → has_cube id d ≡ true → (o : Offer) × (cube_in (map offer_of d.cubes) id ≡ Some o)
shows_cube d id h = any_found (λ (o : Offer). o.id == id) (map offer_of d.cubes) (any_map (λ (o : Offer). o.id == id) offer_of d.cubes ∙ h)

pub carries_cube : (d : DifPlan) (pdu id : ℕ) → list_any (λ (c : Cube). (c.id == id) && nat_le pdu c.largest) d.cubes ≡ true → has_cube id d ≡ true
carries_cube d pdu id h = any_weaker (λ (c : Cube). (c.id == id) && nat_le pdu c.largest) (λ (c : Cube). c.id == id) d.cubes (λ c g. (and_parts (c.id == id) (nat_le pdu c.largest) g).0) h
