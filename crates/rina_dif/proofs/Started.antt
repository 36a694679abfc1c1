-- The managements of the members of a DIF as they start.
use Rattle.std.proofs.Common.{◌≡◌, ◌∙◌, ℕ, zero, suc, ◌+◌, ◌*◌, ◌<◌, ◌≤◌, ◌^◌, ◌==◌, ◌&&◌, ◌||◌, Bool, true, false, cond, All, List, [], ◌∷◌, ◌++◌, get_or, length, map, slice_get, Option, Some, None, option_map, refl, sym, ap, subst, arith, inl, inr}
use Rattle.std.specs.Prelude.{◌≢◌, Contains, IsSome, count_by, filter, find, flat_map, option_and_then, position}
use Rattle.std.specs.List.{cons_option}
use Rattle.std.proofs.lemmas.Bool.{eqb-true, false≢true}
use Rattle.std.proofs.lemmas.List.{length-map}
use Rattle.std.proofs.lemmas.List.Sums.{sum_by-cons}
use Rattle.std.proofs.lemmas.Option.{get_or_from_slice_get, slice_get-get_or, slice_get-map, slice_get_within}
use Rattle.rina_access.specs.declared.rules.Rule.{Rule}
use Rattle.rina_access.specs.declared.rules.Rules.{Rules}
use Rattle.rina_member.specs.declared.management.Management.{Management}
use Rattle.rina_agent.specs.declared.agent.Agent.{Agent}
use Rattle.rina_base.specs.declared.number.Port.{Port}
use Rattle.rina_cube.specs.declared.Cube.{Cube}
use Rattle.rina_graph.specs.declared.graph.Edge.{Edge}
use Rattle.rina_graph.specs.Walks.{IsWalk}
use Rattle.rina_iface.specs.Seen.{Seen}
use Rattle.rina_iface.proofs.Changed.{all_at}
use Rattle.rina_iface.proofs.Grown.{pushed_at}
use Rattle.rina_route.specs.declared.link.Link.{Link as Hop}
use Rattle.rina_route.specs.Routes.{AreHops, AreRoutes, claims_of, counted, counts, edge, is_claimed, is_up, turned}
use Rattle.rina_pci.specs.Spelling.{IsWidth}
use Rattle.rina_plan.specs.declared.dif.DifPlan.{DifPlan}
use Rattle.rina_plan.specs.declared.dif.LinkPlan.{LinkPlan}
use Rattle.rina_plan.specs.declared.dif.MemberPlan.{MemberPlan}
use Rattle.rina_plan.specs.Counts.{IsRoomy, has_link_end, links_of as all_links}
use Rattle.rina_newest.specs.declared.item.Item.{Item}
use Rattle.rina_rib.specs.Rows.{Tree}
use Rattle.rina_plan.specs.Kept.{AreApart, IsFitLink, IsStanding}
use Rattle.rina_iface.specs.declared.ask.Fixed.{Fixed}
use Rattle.rina_stack.specs.declared.plan.Plan.{Plan}
use Rattle.rina_stack.specs.Plan.{IsPlan, wire_ends}
use Rattle.rina_stack.specs.Ranges.{IsRangedDif}
use Rattle.rina_data.specs.declared.link.Link.{Link}
use Rattle.rina_data.specs.declared.link.Route.{Route}
use Rattle.rina_data.specs.declared.process.IpcProcess.{IpcProcess}
use Rattle.rina_data.specs.declared.settings.Member.{Member as Kept}
use Rattle.rina_data.specs.declared.settings.Settings.{Settings}
use Rattle.rina_data.specs.Configs.{config_of, member_of}
use Rattle.rina_data.proofs.Finding.{there}
use Rattle.rina_dif_law.specs.Numbered.{AreMembers}
use Rattle.rina_dif_law.specs.Standing.{IsConfig}
use Rattle.rina_member.specs.Knowing.{AreLive, AreNumbered, AreRoutesOf, IsLaidOut, IsPlanned, Knows, hops_of}
use Rattle.rina_member.specs.Routing.{addr_at, edge_back, edge_there, edges_from, routes_to}
use Rattle.rina_member.specs.Objects.{first_objects}
use Rattle.rina_member.specs.Start.{HasLinksIfStatic, items_held, started, starts_enrolled}
use Rattle.rina_member.specs.Short.{AreNamed, HaveFewLinks}
use Rattle.rina_member.proofs.Knowing.{starts_knowing, starts_routed}
use Rattle.rina_member.proofs.Lists.{at_place}
use Rattle.rina_member.proofs.Planned.{starts_planned}
use Rattle.rina_queue.proofs.Places.{first_passes}
use Rattle.rina_dif.specs.declared.dif.Dif.{Dif}
use Rattle.rina_dif.specs.Building.{AreBare}
use Rattle.rina_dif.specs.Laying.{AreLaid, BindsAll, ends_of, links_from, ports_at}
use Rattle.rina_dif.specs.Managing.{AreBounded, AreManagedBy, AreStarted, IsManaged, IsStarted}
use Rattle.rina_dif.specs.Planned.{link_fixed, processes_before, settings_by}
use Rattle.rina_dif.specs.Routing.{AreRouted, HaveFirstRoutes}
use Rattle.rina_member.specs.Short.{TellsShort}
use Rattle.rina_dif.proofs.Managed.{is_among, its_agent}
use Rattle.rina_member.proofs.TellsStarting.{starts_short}
use Rattle.rina_dif.proofs.Sound.{planned}

same_some : {X : Type 0} (xs : List X) (k : ℕ) (a b : X) → slice_get xs k ≡ Some a → slice_get xs k ≡ Some b → a ≡ b
same_some xs k a b h f = cc

-- One after the other

pub none_started : (is_static : Bool) (cubes : List Cube) (members : List Kept) (plans : List LinkPlan) (rules : List Rule) (allow : Bool) (processes : List IpcProcess) → AreStarted is_static cubes members plans rules allow 0 processes []
none_started is_static cubes members plans rules allow processes = record { aligned = refl; each = λ k m p g is here at. absurd (none k g at) }
  where
    none : (k : ℕ) (g : Management) → slice_get [] k ≡ Some g → ⊥
    none k g at = absurd cc

next_started : (is_static : Bool) (cubes : List Cube) (members : List Kept) (plans : List LinkPlan) (rules : List Rule) (allow : Bool) (at : ℕ) (processes : List IpcProcess) (managements : List Management) (m : Kept) (p : IpcProcess) (access : Rules) (g : Management) → AreStarted is_static cubes members plans rules allow at processes managements → slice_get members at ≡ Some m → slice_get processes at ≡ Some p → IsStarted is_static cubes members plans rules allow m p.links g
    → AreStarted is_static cubes members plans rules allow (at + 1) processes (managements ++ g ∷ [])
next_started is_static cubes members plans rules allow at processes managements m p access g so is_m is_p one = record {
  aligned = (let e = so.aligned in length_push managements g ∙ omega (arith, e));
  each = λ k x q y is_x is_q is_y. elim (pushed_at managements g k y is_y) [
    | inl before ↦ so.each k x q y is_x is_q before
    | inr last ↦
        (let k_is : k ≡ at = last.0 ∙ so.aligned in
        let x_is : x ≡ m = same_some members at x m (ap (slice_get members) (sym k_is) ∙ is_x) is_m in
        let q_is : q ≡ p = same_some processes at q p (ap (slice_get processes) (sym k_is) ∙ is_q) is_p in
        subst (λ (z : Management). IsStarted is_static cubes members plans rules allow x q.links z) (sym last.1) (subst (λ (z : Kept). IsStarted is_static cubes members plans rules allow z q.links g) (sym x_is) (subst (λ (z : IpcProcess). IsStarted is_static cubes members plans rules allow m z.links g) (sym q_is) one)))
  ];
}
  where
    length_push : (xs : List Management) (x : Management) → length (xs ++ x ∷ []) ≡ length xs + 1
    length_push [] x = refl
    length_push (y ∷ ys) x = (let rest = length_push ys x in omega (arith, rest))

-- a member shows the cubes, and what it holds
pub shown_begun : (cubes : List Cube) (on off objects : Tree) (items taken : List Item) (flag enrolled : Bool) → flag ≡ enrolled → objects ≡ cond flag on off → on ≡ first_objects cubes items → off ≡ first_objects cubes [] → items ≡ taken → objects ≡ first_objects cubes (cond enrolled taken [])
shown_begun cubes on off objects items taken true enrolled same is shown none items_are = is ∙ shown ∙ ap (first_objects cubes) (items_are ∙ ap (λ (b : Bool). cond b taken []) same)
shown_begun cubes on off objects items taken false enrolled same is shown none items_are = is ∙ none ∙ ap (first_objects cubes) (ap (λ (b : Bool). cond b taken []) same)

-- as the code makes them
pub turn_started : (is_static : Bool) (cubes : List Cube) (members : List Kept) (plans : List LinkPlan) (rules : List Rule) (allow : Bool) (at : ℕ) (processes : List IpcProcess) (managements managements' : List Management) (m : Kept) (p : IpcProcess) (links : List Link) (access : Rules) (g : Management) → AreStarted is_static cubes members plans rules allow at processes managements → at < length members → m ≡ get_or members at m → slice_get processes at ≡ Some p → links ≡ p.links
    → access.rules ≡ rules → access.default ≡ allow → g.agent ≡ started is_static members plans access m links → g.objects ≡ first_objects cubes (items_held is_static members plans m) → managements' ≡ managements ++ g ∷ [] → AreStarted is_static cubes members plans rules allow (at + 1) processes managements'
turn_started is_static cubes members plans rules allow at processes managements managements' m p links access g so lt is_m is_p links_are rules_are default_is is shows new =
    let here : slice_get members at ≡ Some m = slice_get-get_or members at m lt ∙ ap (λ (x : Kept). Some x) (sym is_m) in
    let one : IsStarted is_static cubes members plans rules allow m p.links g = record { access = access; rules_are = rules_are; default_is = default_is; is = is ∙ ap (started is_static members plans access m) links_are; shows = shows } in
    subst (AreStarted is_static cubes members plans rules allow (at + 1) processes) (sym new) (next_started is_static cubes members plans rules allow at processes managements m p access g so here is_p one)

-- The members and links of a DIF

apart_by : (f : Kept → ℕ) (ms : List Kept) → ((i k : ℕ) (a b : Kept) → slice_get ms i ≡ Some a → slice_get ms k ≡ Some b → f a ≡ f b → i ≡ k) → AreApart (map f ms)
apart_by f ms one i j d lt within same =
    let n = length-map ms f in
    let a = there ms i (omega (arith, lt, within, n)) in
    let b = there ms j (omega (arith, within, n)) in
    let first : get_or (map f ms) i d ≡ f a.0 = get_or_from_slice_get (map f ms) i (f a.0) d (slice_get-map f ms i ∙ ap (option_map f) a.1) in
    let second : get_or (map f ms) j d ≡ f b.0 = get_or_from_slice_get (map f ms) j (f b.0) d (slice_get-map f ms j ∙ ap (option_map f) b.1) in
    let alike : i ≡ j = one i j a.0 b.0 a.1 b.1 (sym first ∙ same ∙ second) in
    omega (arith, lt, alike)

seen_at : (ms : List Kept) (i : ℕ) (a : Kept) → slice_get ms i ≡ Some a → slice_get (map member_of ms) i ≡ Some (member_of a)
seen_at ms i a is = slice_get-map member_of ms i ∙ ap (option_map member_of) is

in_range : (w n : ℕ) → IsWidth w → n < 2 ^ (8 * w) → n < 2 ^ 32
in_range w n (inl is) lt = (let less : n < 2 ^ (8 * 1) = subst (λ (v : ℕ). n < 2 ^ (8 * v)) is lt in omega (arith, less))
in_range w n (inr (inl is)) lt = (let less : n < 2 ^ (8 * 2) = subst (λ (v : ℕ). n < 2 ^ (8 * v)) is lt in omega (arith, less))
in_range w n (inr (inr is)) lt = subst (λ (v : ℕ). n < 2 ^ (8 * v)) is lt

-- they are laid out as a plan may lay them
pub laid_out : (s : Settings) (plans : List LinkPlan) → IsConfig (config_of s) → AreMembers (config_of s) → All (λ (l : LinkPlan). (1 ≤ l.weight) × (l.weight ≤ 65535)) plans → IsLaidOut s.members plans
laid_out s plans config members weights = record {
  addresses = apart_by (λ (m : Kept). m.addr) s.members (λ i k a b x y same. members.addrs i k (member_of a) (member_of b) (seen_at s.members i a x) (seen_at s.members k b y) same);
  nodes = apart_by (λ (m : Kept). m.node) s.members (λ i k a b x y same. members.nodes i k (member_of a) (member_of b) (seen_at s.members i a x) (seen_at s.members k b y) same);
  fit = λ i d within. (let at = slice_get-get_or s.members i d within in in_range s.widths.addr (get_or s.members i d).addr config.widths.addr (members.fit i (member_of (get_or s.members i d)) (seen_at s.members i (get_or s.members i d) at)));
  weights = weights;
}

-- Without links

in_none : {A : Type 0} (x : A) → Contains [] x → ⊥
in_none x h = omega (arith, h.1)

-- what was filtered passes
passes_if : {X : Type 0} (f : X → Bool) (y : X) (ys : List X) (x : X) (k : ℕ) (b : Bool) → f y ≡ b → ((k : ℕ) → slice_get (filter f ys) k ≡ Some x → f x ≡ true) → slice_get (cond b (y ∷ filter f ys) (filter f ys)) k ≡ Some x → f x ≡ true
passes_if f y ys x zero true is rest at = (let same : y ≡ x = cc in ap f (sym same) ∙ is)
passes_if f y ys x (suc k) true is rest at = rest k at
passes_if f y ys x k false is rest at = rest k at

passes : {X : Type 0} (f : X → Bool) (xs : List X) (x : X) (k : ℕ) → slice_get (filter f xs) k ≡ Some x → f x ≡ true
passes f [] x k at = absurd cc
passes f (y ∷ ys) x k at = passes_if f y ys x k (f y) refl (λ j h. passes f ys x j h) at

both_true : (a b : Bool) → (a && b) ≡ true → b ≡ true
both_true true true h = refl
both_true true false h = absurd cc
both_true false true h = refl
both_true false false h = absurd cc

from_own : (b : Bool) (x : Bool) → b ≡ true → cond b false x ≡ true → ⊥
from_own true x is h = false≢true h
from_own false x is h = false≢true is

is_equal : (x y : ℕ) → x ≡ y → (x == y) ≡ true
is_equal x y same = grind arith

-- no edge at the own address counts
up_then : (own : ℕ) (claimed : List Edge) (e : Edge) → counts own [] claimed e ≡ true → is_up own [] e ≡ true
unfolding counts
up_then own claimed e h = both_true (is_claimed claimed (turned e)) (is_up own [] e) h

not_up : (own : ℕ) (e : Edge) → e.from ≡ own → is_up own [] e ≡ true → ⊥
unfolding is_up
not_up own e from up = from_own (e.from == own) _ (is_equal e.from own from) up

none_counts : (own : ℕ) (claimed : List Edge) (e : Edge) → Contains (counted own [] claimed) e → e.from ≡ own → ⊥
none_counts own claimed e has from =
    let at = slice_get-get_or (counted own [] claimed) has.0 e has.1 ∙ ap (λ (y : Edge). Some y) has.2 in
    not_up own e from (up_then own claimed e (passes (counts own [] claimed) claimed e has.0 at))

no_walk : (own dst : ℕ) (claimed walk : List Edge) → own ≢ dst → IsWalk (counted own [] claimed) own walk dst → ⊥
no_walk own dst claimed [] other is = other is
no_walk own dst claimed (e ∷ walk) other is = none_counts own claimed e is.0 is.1

no_hops : (own : ℕ) (claimed : List Edge) → AreHops own [] claimed []
no_hops own claimed dst other walk is = no_walk own dst claimed walk other is

no_route : (b : Bool) (f : ℕ → Route) (rest : List Route) → cons_option (cond b None (option_map f None)) rest ≡ rest
no_route true f rest = refl
no_route false f rest = refl

no_routes : (own : ℕ) (members : List Kept) → routes_to own [] members ≡ []
no_routes own [] = refl
no_routes own (m ∷ members) = no_route (m.addr == own) (λ n. record { dst = m.addr; link = n }) (routes_to own [] members) ∙ no_routes own members

none_of : (g : Agent) (members : List Kept) → hops_of g.links ≡ [] → AreRoutesOf g members []
none_of g members none = record {
  rows = [];
  hops = subst (λ (hs : List Hop). AreRoutes g.address hs g.items []) (sym none) (no_hops g.address (flat_map claims_of g.items));
  are = sym (no_routes g.address members);
}

no_begun : (enrolled : Bool) → hops_of (cond enrolled [] []) ≡ []
no_begun true = refl
no_begun false = refl

no_links : (is_static : Bool) (members : List Kept) (plans : List LinkPlan) (access : Rules) (m : Kept) → hops_of (started is_static members plans access m []).links ≡ []
unfolding started
no_links is_static members plans access m = no_begun (starts_enrolled is_static members m.addr)

no_link : (k : ℕ) (link : Link) → slice_get [] k ≡ Some link → ⊥
no_link k link is = absurd cc

-- What a member of a static DIF starts with: the links of the plan, and no others
first_planned : (is_static : Bool) (members : List Kept) (plans : List LinkPlan) (access : Rules) (m : Kept) (links : List Link) → Contains members m → AreNumbered links → length (edges_from members m.node plans) ≡ length links → is_static ≡ true → IsPlanned members plans m links (started is_static members plans access m links)
first_planned is_static members plans access m links among numbered count still = subst (λ (b : Bool). IsPlanned members plans m links (started b members plans access m links)) (sym still) (starts_planned members plans m access links among numbered count)

-- with the first numbers
few_bounded : (links : List Link) → AreNumbered links → length links ≤ 16 → AreBounded links
few_bounded links numbered few k link is =
    let number = numbered k link is in
    let within = slice_get_within links k link is in
    omega (arith, number, within, few)

-- a management without links knows all that there is to know of them
bare_one : (is_static : Bool) (s : Settings) (now : ℕ) (rules : List Rule) (allow : Bool) (m : Kept) (p : IpcProcess) (g : Management) → IsLaidOut s.members [] → AreNamed s.members → Contains s.members m → p.links ≡ [] → p.routes ≡ [] → IsStarted is_static s.cubes s.members [] rules allow m p.links g → IsManaged is_static s.members [] now m p g
bare_one is_static s now rules allow m p g laid named among links routes one =
    let is : g.agent ≡ started is_static s.members [] one.access m [] = one.is ∙ ap (started is_static s.members [] one.access m) links in
    let numbered : AreNumbered [] = λ k link at. absurd (no_link k link at) in
    let knows : Knows now m [] (started is_static s.members [] one.access m []) = starts_knowing is_static s.members [] one.access m [] now laid (λ dynamic. refl) among numbered (λ k link at. absurd (no_link k link at)) refl in
    record {
      knows = subst (λ (ls : List Link). Knows now m ls g.agent) (sym links) (subst (Knows now m []) (sym is) knows);
      planned = λ still. subst (λ (ls : List Link). IsPlanned s.members [] m ls g.agent) (sym links) (subst (IsPlanned s.members [] m []) (sym is) (first_planned is_static s.members [] one.access m [] among numbered refl still));
      bounded = subst AreBounded (sym links) (few_bounded [] numbered (omega arith));
      routes = subst (AreRoutesOf g.agent s.members) (sym routes) (none_of g.agent s.members (ap (λ (z : Agent). hops_of z.links) is ∙ no_links is_static s.members [] one.access m));
      tells = subst (λ (z : Agent). TellsShort z) (sym is) (starts_short s.members [] laid named (λ x has. omega arith) is_static one.access m [] among (omega arith));
    }

pub bare_managed : (is_static : Bool) (s : Settings) (plans : List LinkPlan) (rules : List Rule) (allow : Bool) (now : ℕ) (ps : List IpcProcess) (managements : List Management) → plans ≡ [] → AreBare s ps → IsConfig (config_of s) → AreMembers (config_of s) → AreNamed s.members → AreStarted is_static s.cubes s.members plans rules allow (length s.members) ps managements → AreManagedBy is_static s.members plans now ps managements
bare_managed is_static s plans rules allow now ps managements none bare config members named so =
    let laid : IsLaidOut s.members [] = laid_out s [] config members (λ k d lt. absurd (omega (arith, lt))) in
    let so' : AreStarted is_static s.cubes s.members [] rules allow (length s.members) ps managements = subst (λ (ls : List LinkPlan). AreStarted is_static s.cubes s.members ls rules allow (length s.members) ps managements) none so in
    subst (λ (ls : List LinkPlan). AreManagedBy is_static s.members ls now ps managements) (sym none) (record {
      laid_out = laid;
      aligned = so'.aligned;
      each = λ k m p g is_m is_p is_g. (let b = bare.each k p is_p in bare_one is_static s now rules allow m p g laid named (is_among s.members k m is_m) b.links b.routes (so'.each k m p g is_m is_p is_g));
    })

-- The links of a plan

from_number : (n : ℕ) (ports : List Port) (k : ℕ) (link : Link) → slice_get (links_from n ports) k ≡ Some link → (link.number ≡ n + k) × (link.live ≡ true)
from_number n [] k link is = absurd cc
from_number n (p ∷ ps) zero link is =
    let made : Link = record { port = p; number = n; live = true } in
    let same : made ≡ link = cc in
    (let number : n ≡ link.number = ap (λ (z : Link). z.number) same in omega (arith, number), sym (ap (λ (z : Link). z.live) same))
from_number n (p ∷ ps) (suc k) link is = (let r = from_number (n + 1) ps k link is in (let e = r.0 in omega (arith, e), r.1))

pub are_numbered : (ports : List Port) → AreNumbered (links_from 0 ports)
are_numbered ports k link is = (let e = (from_number 0 ports k link is).0 in omega (arith, e))

pub are_live : (ports : List Port) → AreLive (links_from 0 ports)
are_live ports k link is = (from_number 0 ports k link is).1

pub length_from : (n : ℕ) (ports : List Port) → length (links_from n ports) ≡ length ports
length_from n [] = refl
length_from n (p ∷ ps) = (let e = length_from (n + 1) ps in omega (arith, e))

-- the ends of each link are on different nodes
AreCrossing : List LinkPlan → Type 0
AreCrossing links = (k : ℕ) (l : LinkPlan) → slice_get links k ≡ Some l → l.a ≢ l.b

not_both : (l : LinkPlan) (node : ℕ) → l.a ≢ l.b → (l.a == node) ≡ true → (l.b == node) ≡ true → ⊥
not_both l node apart a b = apart (eqb-true l.a node a ∙ sym (eqb-true l.b node b))

-- and no member has more ports than links at its node
few_by : (a b : Bool) (p q : Port) (ports : List Port) (n : ℕ) → (a ≡ true → b ≡ true → ⊥) → length ports ≤ n → length (cond a (p ∷ cond b (q ∷ ports) ports) (cond b (q ∷ ports) ports)) ≤ cond (a || b) 1 0 + n
few_by true true p q ports n one le = absurd (one refl refl)
few_by true false p q ports n one le = omega (arith, le)
few_by false true p q ports n one le = omega (arith, le)
few_by false false p q ports n one le = omega (arith, le)

-- the ports that stand at a node, of those of a link and the rest
here_of : (node a b : ℕ) (p q : Port) (ports : List Port) → p.node ≡ a → q.node ≡ b → ports_at node (p ∷ q ∷ ports) ≡ cond (a == node) (p ∷ cond (b == node) (q ∷ ports_at node ports) (ports_at node ports)) (cond (b == node) (q ∷ ports_at node ports) (ports_at node ports))
here_of node a b p q ports is_a is_b =
    ap (λ (c : Bool). cond c (p ∷ ports_at node (q ∷ ports)) (ports_at node (q ∷ ports))) (ap (λ (n : ℕ). n == node) is_a) ∙ ap (λ (c : Bool). cond (a == node) (p ∷ cond c (q ∷ ports_at node ports) (ports_at node ports)) (cond c (q ∷ ports_at node ports) (ports_at node ports))) (ap (λ (n : ℕ). n == node) is_b)

-- members stand at both ends of each
AreHome : List Kept → List (Port × Port) → Type 0
AreHome members ports = (k : ℕ) (pair : Port × Port) → slice_get ports k ≡ Some pair → IsSome (addr_at members pair.0.node) × IsSome (addr_at members pair.1.node)

found_step : (b : Bool) (m : Kept) (o : Option Kept) → IsSome o → IsSome (cond b (Some m) o)
found_step true m o some = refl
found_step false m o some = some

found_at : (p : Kept → Bool) (members : List Kept) (k : ℕ) (m : Kept) → slice_get members k ≡ Some m → p m ≡ true → IsSome (find p members)
found_at p [] k m is has = absurd cc
found_at p (x ∷ members) zero m is has =
    let same : x ≡ m = cc in
    subst (λ (b : Bool). IsSome (cond b (Some x) (find p members))) (sym (ap p same ∙ has)) refl
found_at p (x ∷ members) (suc k) m is has = found_step (p x) x (find p members) (found_at p members k m is has)

found_by : (p : Kept → Bool) (members : List Kept) (o : Option ℕ) → position p members ≡ o → IsSome o → IsSome (find p members)
found_by p members None is some = absurd (false≢true some)
found_by p members (Some k) is some = (let m = first_passes p members k is in found_at p members k m.0 m.1.stands m.1.passes)

addressed : (o : Option Kept) → IsSome o → IsSome (option_map (λ (m : Kept). m.addr) o)
addressed None some = some
addressed (Some m) some = refl

has_addr : (members : List Kept) (node : ℕ) → IsSome (position (λ (m : Kept). m.node == node) members) → IsSome (addr_at members node)
has_addr members node some = addressed (find (λ (m : Kept). m.node == node) members) (found_by (λ (m : Kept). m.node == node) members (position (λ (m : Kept). m.node == node) members) refl some)

are_home : (plan : Plan) (d : DifPlan) (s : Settings) (links : List LinkPlan) (old new : Seen) (ports : List (Port × Port)) (ps : List IpcProcess) → AreLaid plan d s links old new ports ps → AreHome s.members ports
unfolding AreHome
are_home plan d s links old new ports ps laid k pair is = (let one = laid.flows k pair is in (has_addr s.members pair.0.node one.home, has_addr s.members pair.1.node one.far_home))

-- so both ends claim it
claimed_by : (weight : ℕ) (from to : Option ℕ) → IsSome from → IsSome to → IsSome (option_and_then (λ x. option_map (λ y. edge x y weight) to) from)
claimed_by weight None to some other = absurd (false≢true some)
claimed_by weight (Some x) None some other = absurd (false≢true other)
claimed_by weight (Some x) (Some y) some other = refl

-- and each port of a member has an edge
enough_by : (a b : Bool) (x y : Option Edge) (es : List Edge) (p q : Port) (ports : List Port) → (a ≡ true → b ≡ true → ⊥) → IsSome x → IsSome y → length es ≡ length ports → length (cons_option (cond a x (cond b y None)) es) ≡ length (cond a (p ∷ cond b (q ∷ ports) ports) (cond b (q ∷ ports) ports))
enough_by true true x y es p q ports one to back same = absurd (one refl refl)
enough_by true false None y es p q ports one to back same = absurd (false≢true to)
enough_by true false (Some x) y es p q ports one to back same = omega (arith, same)
enough_by false true x None es p q ports one to back same = absurd (false≢true back)
enough_by false true x (Some y) es p q ports one to back same = omega (arith, same)
enough_by false false x y es p q ports one to back same = same

as_many : (plan : Plan) (d : DifPlan) (members : List Kept) (node : ℕ) (links : List LinkPlan) (ports : List (Port × Port)) (old new : Seen) → AreCrossing links → AreHome members ports → BindsAll old (map (link_fixed plan d) links) ports new → length (edges_from members node links) ≡ length (ports_at node (ends_of ports))
unfolding AreCrossing AreHome
as_many plan d members node [] [] old new cross home b = refl
as_many plan d members node [] (p ∷ ps) old new cross home b = absurd b
as_many plan d members node (l ∷ ls) [] old new cross home b = absurd b
as_many plan d members node (l ∷ ls) (p ∷ ps) old new cross home b =
    let rest = as_many plan d members node ls ps b.0 new (λ k x is. cross (suc k) x is) (λ k x is. home (suc k) x is) b.2 in
    let is_a : p.0.node ≡ l.a = ap (λ (z : Port). z.node) b.1.a_fresh in
    let is_b : p.1.node ≡ l.b = ap (λ (z : Port). z.node) b.1.b_fresh in
    let at = home 0 p refl in
    let at_a : IsSome (addr_at members l.a) = subst (λ (n : ℕ). IsSome (addr_at members n)) is_a at.0 in
    let at_b : IsSome (addr_at members l.b) = subst (λ (n : ℕ). IsSome (addr_at members n)) is_b at.1 in
    let there = claimed_by l.weight (addr_at members l.a) (addr_at members l.b) at_a at_b in
    let back = claimed_by l.weight (addr_at members l.b) (addr_at members l.a) at_b at_a in
    let one = enough_by (l.a == node) (l.b == node) (edge_there members l) (edge_back members l) (edges_from members node ls) p.0 p.1 (ports_at node (ends_of ps)) (not_both l node (cross 0 l refl)) there back rest in
    subst (λ (z : List Port). length (edges_from members node (l ∷ ls)) ≡ length z) (sym (here_of node l.a l.b p.0 p.1 (ends_of ps) is_a is_b)) one

few : (plan : Plan) (d : DifPlan) (node : ℕ) (links : List LinkPlan) (ports : List (Port × Port)) (old new : Seen) → AreCrossing links → BindsAll old (map (link_fixed plan d) links) ports new → length (ports_at node (ends_of ports)) ≤ count_by (has_link_end node) links
unfolding AreCrossing
few plan d node [] [] old new cross b = omega arith
few plan d node [] (p ∷ ps) old new cross b = absurd b
few plan d node (l ∷ ls) [] old new cross b = absurd b
few plan d node (l ∷ ls) (p ∷ ps) old new cross b =
    let rest = few plan d node ls ps b.0 new (λ k x is. cross (suc k) x is) b.2 in
    let is_a : p.0.node ≡ l.a = ap (λ (z : Port). z.node) b.1.a_fresh in
    let is_b : p.1.node ≡ l.b = ap (λ (z : Port). z.node) b.1.b_fresh in
    let one = few_by (l.a == node) (l.b == node) p.0 p.1 (ports_at node (ends_of ps)) (count_by (has_link_end node) ls) (not_both l node (cross 0 l refl)) rest in
    let sum : count_by (has_link_end node) (l ∷ ls) ≡ cond ((l.a == node) || (l.b == node)) 1 0 + count_by (has_link_end node) ls = sum_by-cons (λ (x : LinkPlan). cond (has_link_end node x) 1 0) l ls in
    subst (λ (z : List Port). length z ≤ count_by (has_link_end node) (l ∷ ls)) (sym (here_of node l.a l.b p.0 p.1 (ends_of ps) is_a is_b)) (subst (λ (n : ℕ). length (cond (l.a == node) (p.0 ∷ cond (l.b == node) (p.1 ∷ ports_at node (ends_of ps)) (ports_at node (ends_of ps))) (cond (l.b == node) (p.1 ∷ ports_at node (ends_of ps)) (ports_at node (ends_of ps)))) ≤ n) (sym sum) one)

-- its weights and its counts are in range

roomy : (plan : Plan) (i : ℕ) (dif : DifPlan) → IsPlan plan → slice_get plan.difs i ≡ Some dif → IsRoomy (all_links plan.difs) i dif
roomy plan i dif sound at =
    let within = slice_get_within plan.difs i dif at in
    subst (IsRoomy (all_links plan.difs) i) (get_or_from_slice_get plan.difs i dif dif at) (sound.counts i dif within)

pub few_rules : (plan : Plan) (i : ℕ) (dif : DifPlan) → IsPlan plan → slice_get plan.difs i ≡ Some dif → length dif.rules ≤ 256
few_rules plan i dif sound at = (roomy plan i dif sound at).rules

weighs : (plan : Plan) (i : ℕ) (dif : DifPlan) → IsPlan plan → slice_get plan.difs i ≡ Some dif → All (λ (l : LinkPlan). (1 ≤ l.weight) × (l.weight ≤ 65535)) dif.links
weighs plan i dif sound at k d within =
    let ranged = all_at (IsRangedDif (length plan.nodes) (length plan.wires) (length plan.difs)) plan.difs i dif sound.difs at in
    let one = ranged.links k d within in
    (one.least_weight, one.weight)

-- a member has few links
are_crossing : (plan : Plan) (i : ℕ) (dif : DifPlan) → IsPlan plan → slice_get plan.difs i ≡ Some dif → AreCrossing dif.links
unfolding AreCrossing
are_crossing plan i dif sound at k l is =
    let fit = all_at (λ (d : DifPlan). All (IsFitLink (map wire_ends plan.wires) plan.difs d) d.links) plan.difs i dif sound.joints at in
    (all_at (IsFitLink (map wire_ends plan.wires) plan.difs dif) dif.links k l fit is).apart

pub enough : (plan : Plan) (i : ℕ) (dif : DifPlan) (s : Settings) (old new : Seen) (ports : List (Port × Port)) (ps : List IpcProcess) (node : ℕ) → IsPlan plan → slice_get plan.difs i ≡ Some dif → AreLaid plan dif s dif.links old new ports ps → length (edges_from s.members node dif.links) ≡ length (ports_at node (ends_of ports))
enough plan i dif s old new ports ps node sound at laid = as_many plan dif s.members node dif.links ports old new (are_crossing plan i dif sound at) (are_home plan dif s dif.links old new ports ps laid) laid.bound

few_links : (plan : Plan) (i : ℕ) (dif : DifPlan) (k : ℕ) (m : Kept) (ports : List (Port × Port)) (old new : Seen) → IsPlan plan → slice_get plan.difs i ≡ Some dif → slice_get (settings_by plan i dif).members k ≡ Some m → BindsAll old (map (link_fixed plan dif) dif.links) ports new → length (ports_at m.node (ends_of ports)) ≤ 16
few_links plan i dif k m ports old new sound at is b =
    let x = planned plan dif (processes_before plan.difs i) dif.members k (member_of m) (seen_at (settings_by plan i dif).members k m is) in
    let most : count_by (has_link_end x.0.node) dif.links ≤ 16 = all_at (λ (z : MemberPlan). count_by (has_link_end z.node) dif.links ≤ 16) dif.members k x.0 (roomy plan i dif sound at).links x.1 in
    let here : count_by (has_link_end m.node) dif.links ≤ 16 = subst (λ (n : ℕ). count_by (has_link_end n) dif.links ≤ 16) x.3 most in
    let one = few plan dif m.node dif.links ports old new (are_crossing plan i dif sound at) b in
    omega (arith, here, one)

-- so has each of them
all_few : (plan : Plan) (i : ℕ) (dif : DifPlan) (s : Settings) (ports : List (Port × Port)) (ps : List IpcProcess) (old new : Seen) → IsPlan plan → slice_get plan.difs i ≡ Some dif → s ≡ settings_by plan i dif → AreLaid plan dif s dif.links old new ports ps → HaveFewLinks s.members dif.links
all_few plan i dif s ports ps old new sound at are laid m among =
    let most = few_links plan i dif among.0 m ports old new sound at (ap (λ (z : Settings). slice_get z.members among.0) (sym are) ∙ at_place s.members m among) laid.bound in
    let all = enough plan i dif s old new ports ps m.node sound at laid in
    omega (arith, most, all)

-- a DIF that is not static has no links
pub no_plans : (plan : Plan) (i : ℕ) (dif : DifPlan) → IsPlan plan → slice_get plan.difs i ≡ Some dif → HasLinksIfStatic dif.is_static dif.links
no_plans plan i dif sound at dynamic = ((all_at (IsStanding plan.difs) plan.difs i dif sound.uses at).bare dynamic).0

none_bound : (old new : Seen) (fs : List Fixed) (ports : List (Port × Port)) → fs ≡ [] → BindsAll old fs ports new → ports ≡ []
none_bound old new fs [] none b = refl
none_bound old new fs (p ∷ ps) none b = absurd (subst (λ (xs : List Fixed). BindsAll old xs (p ∷ ps) new) none b)

pub no_ports : (plan : Plan) (i : ℕ) (dif : DifPlan) (ports : List (Port × Port)) (old new : Seen) → IsPlan plan → slice_get plan.difs i ≡ Some dif → BindsAll old (map (link_fixed plan dif) dif.links) ports new → HasLinksIfStatic dif.is_static ports
no_ports plan i dif ports old new sound at b dynamic = none_bound old new (map (link_fixed plan dif) dif.links) ports (ap (map (link_fixed plan dif)) (no_plans plan i dif sound at dynamic)) b

-- The managements of a DIF of a plan

-- each was made of the links that were laid, and then the next hops were read from it
pub made_managed : (plan : Plan) (i : ℕ) (dif : DifPlan) (d : Dif) (old new : Seen) (laid_ports : List (Port × Port)) (linked : List IpcProcess) → IsPlan plan → slice_get plan.difs i ≡ Some dif → d.settings ≡ settings_by plan i dif → IsConfig (config_of d.settings) → AreMembers (config_of d.settings) → AreNamed d.settings.members → AreLaid plan dif d.settings dif.links old new laid_ports linked
    → AreStarted dif.is_static d.settings.cubes d.settings.members dif.links dif.rules dif.allow (length d.settings.members) linked d.managements → AreRouted d.settings.members d.managements (length d.managements) linked d.processes → AreManagedBy dif.is_static d.settings.members dif.links d.clock d.processes d.managements
made_managed plan i dif d old new laid_ports linked sound at are config members named laid so routed =
    let out : IsLaidOut d.settings.members dif.links = laid_out d.settings dif.links config members (weighs plan i dif sound at) in
    let fewest : HaveFewLinks d.settings.members dif.links = all_few plan i dif d.settings laid_ports linked old new sound at are laid in
    record {
      laid_out = out;
      aligned = so.aligned;
      each = λ k m p g is_m is_p is_g.
          let q = routed.same k p is_p in
          let up = laid.up.each k m q.0 is_m q.2 in
          let one = so.each k m q.0 g is_m q.2 is_g in
          let ports = ports_at m.node (ends_of laid_ports) in
          let links : p.links ≡ links_from 0 ports = ap (λ (z : IpcProcess). z.links) q.3 ∙ up.links in
          let is : g.agent ≡ started dif.is_static d.settings.members dif.links one.access m (links_from 0 ports) = one.is ∙ ap (started dif.is_static d.settings.members dif.links one.access m) up.links in
          let count = length_from 0 ports in
          let all = enough plan i dif d.settings old new laid_ports linked m.node sound at laid in
          let most : length ports ≤ 16 = few_links plan i dif k m laid_ports old new sound at (ap (λ (s : Settings). slice_get s.members k) (sym are) ∙ is_m) laid.bound in
          let among = is_among d.settings.members k m is_m in
          let knows : Knows d.clock m (links_from 0 ports) (started dif.is_static d.settings.members dif.links one.access m (links_from 0 ports)) =
          starts_knowing dif.is_static d.settings.members dif.links one.access m (links_from 0 ports) d.clock out (λ dynamic. ap (λ (ps : List (Port × Port)). links_from 0 (ports_at m.node (ends_of ps))) (no_ports plan i dif laid_ports old new sound at laid.bound dynamic)) among (are_numbered ports) (are_live ports) (all ∙ sym count) in
          let within = slice_get_within d.managements k g is_g in
          record {
            knows = subst (λ (ls : List Link). Knows d.clock m ls g.agent) (sym links) (subst (Knows d.clock m (links_from 0 ports)) (sym is) knows);
            planned = λ still. subst (λ (ls : List Link). IsPlanned d.settings.members dif.links m ls g.agent) (sym links) (subst (IsPlanned d.settings.members dif.links m (links_from 0 ports)) (sym is) (first_planned dif.is_static d.settings.members dif.links one.access m (links_from 0 ports) among (are_numbered ports) (all ∙ sym count) still));
            bounded = subst AreBounded (sym links) (few_bounded (links_from 0 ports) (are_numbered ports) (omega (arith, most, count)));
            routes = routed.routes k g p within is_g is_p;
            tells = subst (λ (z : Agent). TellsShort z) (sym is) (starts_short d.settings.members dif.links out named fewest dif.is_static one.access m (links_from 0 ports) among (omega (arith, most, count)));
          };
    }

-- they are as they started
pub started_still : (is_static : Bool) (cubes : List Cube) (members : List Kept) (plans : List LinkPlan) (rules : List Rule) (allow : Bool) (linked ps : List IpcProcess) (managements : List Management) → AreStarted is_static cubes members plans rules allow (length members) linked managements → AreRouted members managements (length managements) linked ps → AreStarted is_static cubes members plans rules allow (length members) ps managements
started_still is_static cubes members plans rules allow linked ps managements so routed = record {
  aligned = so.aligned;
  each = λ k m p g is_m is_p is_g.
      let q = routed.same k p is_p in
      subst (λ (z : IpcProcess). IsStarted is_static cubes members plans rules allow m z.links g) (sym q.3) (so.each k m q.0 g is_m q.2 is_g);
}

-- so their next hops are over the links of the plan
pub first_routed : (is_static : Bool) (cubes : List Cube) (members : List Kept) (plans : List LinkPlan) (rules : List Rule) (allow : Bool) (now : ℕ) (ps : List IpcProcess) (managements : List Management) → HasLinksIfStatic is_static plans → AreManagedBy is_static members plans now ps managements → AreStarted is_static cubes members plans rules allow (length members) ps managements → HaveFirstRoutes members plans ps
first_routed is_static cubes members plans rules allow now ps managements bare h so k m p is here =
    let g = its_agent members managements k m h.aligned is in
    let one = so.each k m p g.0 is here g.1 in
    starts_routed is_static members plans one.access m p.links p.routes h.laid_out bare (is_among members k m is) (subst (λ (a : Agent). AreRoutesOf a members p.routes) one.is (h.each k m p g.0 is here g.1).routes)

-- seen otherwise
pub same_started : (is_static : Bool) (cubes cubes' : List Cube) (members members' : List Kept) (plans plans' : List LinkPlan) (rules rules' : List Rule) (allow : Bool) (processes : List IpcProcess) (managements : List Management) → cubes ≡ cubes' → members ≡ members' → plans ≡ plans' → rules ≡ rules' → AreStarted is_static cubes members plans rules allow (length members) processes managements → AreStarted is_static cubes' members' plans' rules' allow (length members') processes managements
same_started is_static cubes cubes' members members' plans plans' rules rules' allow processes managements c m p r so =
    subst (λ (cs : List Cube). AreStarted is_static cs members' plans' rules' allow (length members') processes managements) c (subst (λ (ms : List Kept). AreStarted is_static cubes ms plans' rules' allow (length ms) processes managements) m (subst (λ (ls : List LinkPlan). AreStarted is_static cubes members ls rules' allow (length members) processes managements) p (subst (λ (rs : List Rule). AreStarted is_static cubes members plans rs allow (length members) processes managements) r so)))
