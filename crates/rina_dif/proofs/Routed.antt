-- The IPC processes of a DIF get their next hops.
use Rattle.std.proofs.Common.{◌≡◌, ◌∙◌, ◌⊎◌, ⊎_elim, ℕ, ◌+◌, ◌<◌, ◌≤◌, ◌==◌, Bool, true, false, cond, get_or, Contains, List, [], ◌∷◌, find, length, length-set, slice_get, Option, Some, None, option_map, refl, sym, ap, subst, arith, inl, inr}
use Rattle.std.specs.List.{cons_option, filter_map}
use Rattle.std.proofs.lemmas.Bool.Decides.{eqb_tells}
use Rattle.std.proofs.lemmas.Option.{get_or_from_slice_get, slice_get-get_or, slice_get_within}
use Rattle.std.proofs.lemmas.List.Elements.{Contains-append_cases, Contains-append_left, Contains-append_right, Contains-push, Contains-push_cases}
use Rattle.rina_member.specs.declared.management.Management.{Management}
use Rattle.rina_iface.proofs.Changed.{set_at}
use Rattle.rina_iface.specs.Seen.{Seen}
use Rattle.rina_base.specs.declared.number.Port.{Port}
use Rattle.rina_route.specs.Routes.{hop_at}
use Rattle.rina_plan.specs.declared.dif.DifPlan.{DifPlan}
use Rattle.rina_plan.specs.declared.dif.LinkPlan.{LinkPlan}
use Rattle.rina_stack.specs.declared.plan.Plan.{Plan}
use Rattle.rina_data.specs.declared.link.Route.{Route}
use Rattle.rina_data.specs.declared.process.IpcProcess.{IpcProcess}
use Rattle.rina_data.specs.declared.settings.Member.{Member}
use Rattle.rina_data.specs.declared.settings.Settings.{Settings}
use Rattle.rina_data.specs.Process.{next_hop}
use Rattle.rina_data.proofs.Finding.{found_in, there}
use Rattle.rina_member.specs.Knowing.{AreRoutesOf}
use Rattle.rina_member.specs.Routing.{route_to, routes_to}
use Rattle.rina_dif.specs.Laying.{AreLaid, IsLinkedUp, ends_of}
use Rattle.rina_dif.specs.Routing.{AreRouted, SetsRoutes, with_routes}

-- Lists

in_none : {A : Type 0} (x : A) → Contains [] x → ⊥
in_none x h = omega (arith, h.1)

head : {A : Type 0} (x : A) (xs : List A) → Contains (x ∷ xs) x
head x xs = Contains-append_left (x ∷ []) xs x (Contains-push [] x)

tail : {A : Type 0} (x : A) (xs : List A) (y : A) → Contains xs y → Contains (x ∷ xs) y
tail x xs y h = Contains-append_right (x ∷ []) xs y h

cases : {A : Type 0} (x : A) (xs : List A) (y : A) → Contains (x ∷ xs) y → (x ≡ y) ⊎ Contains xs y
cases x xs y h = ⊎_elim (λ one. ⊎_elim (λ none. absurd (in_none y none)) (λ same. inl same) (Contains-push_cases [] x y one)) (λ rest. inr rest) (Contains-append_cases (x ∷ []) xs y h)

made_step : {A B : Type 0} (f : A → Option B) (y : A) (ys : List A) (x : B) (o : Option B) → f y ≡ o → (Contains (filter_map f ys) x → (z : A) × Contains ys z × (f z ≡ Some x)) → Contains (cons_option o (filter_map f ys)) x → (z : A) × Contains (y ∷ ys) z × (f z ≡ Some x)
made_step f y ys x None is more h = (let r = more h in (r.0, tail y ys r.0 r.1, r.2))
made_step f y ys x (Some v) is more h = ⊎_elim (λ same. (y, head y ys, is ∙ ap Some same)) (λ rest. (let r = more rest in (r.0, tail y ys r.0 r.1, r.2))) (cases v (filter_map f ys) x h)

-- of which element it was made
made_of : {A B : Type 0} (f : A → Option B) (xs : List A) (x : B) → Contains (filter_map f xs) x → (z : A) × Contains xs z × (f z ≡ Some x)
made_of f [] x h = absurd (in_none x h)
made_of f (y ∷ ys) x h = made_step f y ys x (f y) refl (λ rest. made_of f ys x rest) h

at_place : {X : Type 0} (xs : List X) (x : X) → Contains xs x → (k : ℕ) × (slice_get xs k ≡ Some x)
at_place {X = X} xs x has = (has.0, slice_get-get_or xs has.0 x has.1 ∙ ap (λ (y : X). Some y) has.2)

is_there : {X : Type 0} (xs : List X) (k : ℕ) (x : X) → slice_get xs k ≡ Some x → Contains xs x
is_there xs k x is = (k, slice_get_within xs k x is, get_or_from_slice_get xs k x x is)

-- Its next hops

row_by : (addr n : ℕ) (o : Option ℕ) (r : Route) → option_map (λ n. record { dst = addr; link = n }) o ≡ Some r → r.link ≡ n → (addr ≡ r.dst) × (o ≡ Some n)
row_by addr n None r is link = absurd cc
row_by addr n (Some m) r is link =
    let made : Route = record { dst = addr; link = m } in
    let same : made ≡ r = cc in
    (ap (λ (z : Route). z.dst) same, ap (λ (x : ℕ). Some x) (ap (λ (z : Route). z.link) same ∙ link))

row_if : (b : Bool) (addr n : ℕ) (o : Option ℕ) (r : Route) → cond b None (option_map (λ n. record { dst = addr; link = n }) o) ≡ Some r → r.link ≡ n → (addr ≡ r.dst) × (o ≡ Some n)
row_if true addr n o r is link = absurd cc
row_if false addr n o r is link = row_by addr n o r is link

row_of : (own n : ℕ) (rows : List (ℕ × ℕ)) (m : Member) (r : Route) → route_to own rows m ≡ Some r → r.link ≡ n → (m.addr ≡ r.dst) × (hop_at rows m.addr ≡ Some n)
row_of own n rows m r is link = row_if (m.addr == own) m.addr n (hop_at rows m.addr) r is link

-- a next hop leads to the address of a member
dst_found : (dst : ℕ) (routes : List Route) (r : Route) → find (λ (z : Route). z.dst == dst) routes ≡ Some r → r.dst ≡ dst
dst_found dst [] r found = absurd cc
dst_found dst (x ∷ xs) r found = elim (eqb_tells x.dst dst) [
  | inl t ↦
      let here : Some x ≡ Some r = rw t.0 at found in
      let same : x ≡ r = cc in
      ap (λ (z : Route). z.dst) (sym same) ∙ t.1
  | inr u ↦ dst_found dst xs r (rw u.0 at found)
]

to_by : (own dst n : ℕ) (rows : List (ℕ × ℕ)) (members : List Member) (o : Option Route) → find (λ (r : Route). r.dst == dst) (routes_to own rows members) ≡ o → option_map (λ (r : Route). r.link) o ≡ Some n → (k : ℕ) × (m : Member) × (slice_get members k ≡ Some m) × (m.addr ≡ dst)
to_by own dst n rows members None found is = absurd cc
to_by own dst n rows members (Some r) found is =
    let at = found_in (λ (r : Route). r.dst == dst) (routes_to own rows members) r found in
    let to = made_of (route_to own rows) members r (is_there (routes_to own rows members) at.0 r at.1) in
    let row = row_of own r.link rows to.0 r to.2 refl in
    let k = at_place members to.0 to.1 in
    (k.0, to.0, k.1, row.0 ∙ dst_found dst (routes_to own rows members) r found)

pub to_member : (own dst n : ℕ) (rows : List (ℕ × ℕ)) (members : List Member) → next_hop dst (routes_to own rows members) ≡ Some n → (k : ℕ) × (m : Member) × (slice_get members k ≡ Some m) × (m.addr ≡ dst)
to_member own dst n rows members hop = to_by own dst n rows members (find (λ (r : Route). r.dst == dst) (routes_to own rows members)) refl hop

-- One after the other

pub none_routed : (members : List Member) (managements : List Management) (ps : List IpcProcess) → AreRouted members managements 0 ps ps
none_routed members managements ps = record {
  aligned = refl;
  routes = λ k g p lt is here. absurd (omega (arith, lt));
  same = λ k p here. (p, p.routes, here, refl);
}

next_routed : (members : List Member) (managements : List Management) (at : ℕ) (old mid new : List IpcProcess) (g : Management) (p : IpcProcess) (routes : List Route) → AreRouted members managements at old mid → slice_get managements at ≡ Some g → slice_get mid at ≡ Some p → AreRoutesOf g.agent members routes → SetsRoutes at routes mid new → AreRouted members managements (at + 1) old new
next_routed members managements at old mid new g p routes so is here are sets =
    let set = sets p here in
    let split = λ (k : ℕ) (q : IpcProcess) (there : slice_get new k ≡ Some q). set_at mid at k p (with_routes p routes) q here (ap (λ (ps : List IpcProcess). slice_get ps k) (sym set) ∙ there) in
    record {
      aligned = ap (λ (ps : List IpcProcess). length ps) set ∙ length-set mid at (with_routes p routes) ∙ so.aligned;
      routes = λ k x q lt at_k there. elim (split k q there) [
        | inl t ↦
            (let agent : x ≡ g = (let both : Some x ≡ Some g = sym at_k ∙ ap (slice_get managements) t.0 ∙ is in cc) in
            subst (λ (z : Management). AreRoutesOf z.agent members q.routes) (sym agent) (subst (λ (z : IpcProcess). AreRoutesOf g.agent members z.routes) (sym t.1) are))
        | inr u ↦ (let other = u.0 in so.routes k x q (below k at lt other) at_k u.1)
      ];
      same = λ k q there. elim (split k q there) [
        | inl t ↦
            (let before = so.same at p here in
            (before.0, routes, ap (slice_get old) t.0 ∙ before.2, t.1 ∙ ap (λ (z : IpcProcess). with_routes z routes) before.3))
        | inr u ↦ so.same k q u.1
      ];
    }
  where
    below : (k at : ℕ) → k < at + 1 → (k ≡ at → ⊥) → k < at
    below k at lt other = omega (arith, lt, other)

-- as the code sets them

pub turn_within : (members : List Member) (managements : List Management) (at : ℕ) (old mid : List IpcProcess) → AreRouted members managements at old mid → length old ≡ length managements → at < length managements → at < length mid
turn_within members managements at old mid so aligned lt = (let now = so.aligned in omega (arith, lt, now, aligned))

pub turn_routed : (members : List Member) (managements : List Management) (at : ℕ) (old mid new : List IpcProcess) (g : Management) (routes routes' : List Route) → AreRouted members managements at old mid → length old ≡ length managements → at < length managements → g ≡ get_or managements at g → AreRoutesOf g.agent members routes → routes' ≡ routes → SetsRoutes at routes' mid new → AreRouted members managements (at + 1) old new
turn_routed members managements at old mid new g routes routes' so aligned lt is knows are sets =
    let p = there mid at (turn_within members managements at old mid so aligned lt) in
    next_routed members managements at old mid new g p.0 routes' so (slice_get-get_or managements at g lt ∙ ap (λ (x : Management). Some x) (sym is)) p.1 (subst (AreRoutesOf g.agent members) (sym are) knows) sets

pub all_routed : (members : List Member) (managements : List Management) (at : ℕ) (old new : List IpcProcess) → length managements ≤ at → AreRouted members managements at old new → AreRouted members managements (length managements) old new
all_routed members managements at old new le so = record { aligned = so.aligned; routes = λ k g p lt is here. so.routes k g p (omega (arith, lt, le)) is here; same = so.same }

-- seen otherwise
pub same_routed : (members members' : List Member) (managements managements' : List Management) (old new : List IpcProcess) → members ≡ members' → managements ≡ managements' → AreRouted members managements (length managements) old new → AreRouted members' managements' (length managements') old new
same_routed members members' managements managements' old new same same' so = subst (λ (ms : List Member). AreRouted ms managements' (length managements') old new) same (subst (λ (gs : List Management). AreRouted members gs (length gs) old new) same' so)

-- What was laid is laid still

up_still : (s : Settings) (node : ℕ) (ports : List Port) (p : IpcProcess) (routes : List Route) → IsLinkedUp s node ports p → IsLinkedUp s node ports (with_routes p routes)
up_still s node ports p routes up = record { links = up.links; ledger = up.ledger; room = up.room; ids = up.ids; empty = up.empty; known = up.known; there = up.there }

pub laid_still : (plan : Plan) (d : DifPlan) (s : Settings) (links : List LinkPlan) (old new : Seen) (ports : List (Port × Port)) (managements : List Management) (count : ℕ) (ps ps' : List IpcProcess) → AreLaid plan d s links old new ports ps → AreRouted s.members managements count ps ps' → AreLaid plan d s links old new ports ps'
laid_still plan d s links old new ports managements count ps ps' laid routed = record {
  bound = laid.bound;
  up = record {
    aligned = routed.aligned ∙ laid.up.aligned;
    each = λ k m p is here. (let q = routed.same k p here in subst (IsLinkedUp s m.node (ends_of ports)) (sym q.3) (up_still s m.node (ends_of ports) q.0 q.1 (laid.up.each k m q.0 is q.2)));
  };
  named = laid.named;
  flows = laid.flows;
  apart = laid.apart;
}
