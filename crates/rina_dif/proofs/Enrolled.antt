-- Which members of a DIF are enrolled: who they are from the start, that they stay so, and where they are.
use Rattle.std.proofs.Common.{◌≡◌, ◌∙◌, ℕ, zero, suc, ◌+◌, ◌<◌, ◌==◌, ◌||◌, Bool, true, false, cond, List, [], ◌∷◌, ◌++◌, append-nil, filter, length, map, slice_get, slice_set, take, Option, Some, None, Result, Ok, Err, option_map, refl, sym, ap, subst, inl, inr, arith}
use Rattle.std.specs.Prelude.{All}
use Rattle.std.specs.List.{cons_option, list_any}
use Rattle.std.proofs.lemmas.Bool.{cases_Bool, eq-eqb, eqb-true, false≢true}
use Rattle.std.proofs.lemmas.List.{map-set}
use Rattle.std.proofs.lemmas.List.Elements.{All-set}
use Rattle.std.proofs.lemmas.Option.{none-some, same_Some, slice_get-map, slice_get_within}
use Rattle.rina_agent.specs.declared.agent.Agent.{Agent}
use Rattle.rina_agent.specs.declared.state.AgentError.{AgentError}
use Rattle.rina_agent.specs.declared.state.MemberState.{MemberState}
use Rattle.rina_agent.specs.declared.state.MemberState.TheVariants.{Outside, Joining, Enrolled, Denied}
use Rattle.rina_agent.specs.Counts.{spent, unless}
use Rattle.rina_agent.specs.Items.{stated}
use Rattle.rina_agent.specs.Rows.{dropped, lost, lost_state}
use Rattle.rina_access.specs.declared.rules.Rule.{Rule}
use Rattle.rina_cube.specs.declared.Cube.{Cube}
use Rattle.rina_flood.specs.Network.{is_in}
use Rattle.rina_iface.specs.Seen.{Seen, is_member}
use Rattle.rina_iface.proofs.Changed.{all_at, slice_set-same}
use Rattle.rina_law.specs.Direction.{Direction}
use Rattle.rina_plan.specs.declared.dif.LinkPlan.{LinkPlan}
use Rattle.rina_data.specs.declared.process.IpcProcess.{IpcProcess}
use Rattle.rina_data.specs.declared.settings.Member.{Member as Kept}
use Rattle.rina_data.specs.declared.settings.Settings.{Settings}
use Rattle.rina_data.specs.Configs.{config_of, member_of}
use Rattle.rina_data.proofs.Finding.{there}
use Rattle.rina_dif_law.specs.Numbered.{AreMembers}
use Rattle.rina_dif_law.specs.Sending.{home}
use Rattle.rina_member.specs.declared.management.Management.{Management}
use Rattle.rina_member.specs.Managements.{MayHoldEntry}
use Rattle.rina_member.specs.Start.{first_enrolled, started, starts_enrolled, state_from}
use Rattle.rina_member.proofs.Lists.{all_of, any_true, is_there, keeps_all}
use Rattle.rina_member.proofs.Starting.{all_enrolled}
use Rattle.rina_route.proofs.Lists.{contains_unmap}
use Rattle.rina_dif.specs.declared.dif.Dif.{Dif}
use Rattle.rina_dif.specs.Changing.{MayHaveEntered}
use Rattle.rina_dif.specs.Elsewhere.{enrolled_home, home_of}
use Rattle.rina_dif.specs.Facade.{IsStateAt}
use Rattle.rina_dif.specs.Holding.{Holds}
use Rattle.rina_dif.specs.Managing.{AreEnrolled, AreEnrolledBy, AreStarted, StayEnrolled, agents_of, enrolled_nodes, node_if_enrolled, nodes_with, states_of}

-- States

abbrev agent_in : Management → Agent
agent_in m = m.agent

abbrev state_in : Agent → MemberState
state_in g = g.state

-- that of a member
pub state_at : (ms : List Management) (at : ℕ) (g : Management) → slice_get ms at ≡ Some g → slice_get (states_of ms) at ≡ Some g.agent.state
state_at ms at g is = slice_get-map state_in (agents_of ms) at ∙ ap (option_map state_in) (slice_get-map agent_in ms at ∙ ap (option_map agent_in) is)

-- other objects change none
pub states_agents : (old new : List Management) → agents_of new ≡ agents_of old → states_of new ≡ states_of old
states_agents old new same = ap (λ (gs : List Agent). map state_in gs) same

-- nor does a management of the same state
pub states_set : (ms : List Management) (at : ℕ) (g g' : Management) → slice_get ms at ≡ Some g → g'.agent.state ≡ g.agent.state → states_of (slice_set ms at g') ≡ states_of ms
states_set ms at g g' is same =
    ap (λ (gs : List Agent). map state_in gs) (map-set agent_in ms at g')
    ∙ map-set state_in (agents_of ms) at g'.agent
    ∙ slice_set-same (states_of ms) at g'.agent.state (state_at ms at g is ∙ ap (λ (s : MemberState). Some s) (sym same))

-- nor a directory entry that is taken
state_held : (app : List ℕ) (address : ℕ) (m m' : Management) → MayHoldEntry app address m m' → m'.agent.state ≡ m.agent.state
state_held app address m m' (inl same) = ap state_in same
state_held app address m m' (inr took) = ap state_in took

pub states_entered : (app : List ℕ) (address : ℕ) (old new : List Management) → MayHaveEntered app address old new → states_of new ≡ states_of old
states_entered app address [] [] may = refl
states_entered app address [] (n ∷ ns) may = (let same = may.aligned in absurd (omega (arith, same)))
states_entered app address (o ∷ os) [] may = (let same = may.aligned in absurd (omega (arith, same)))
states_entered app address (o ∷ os) (n ∷ ns) may =
    let same = may.aligned in
    ap (λ (s : MemberState). s ∷ states_of ns) (state_held app address o n (may.each 0 o n refl refl))
    ∙ ap (λ (ss : List MemberState). o.agent.state ∷ ss) (states_entered app address os ns (record { aligned = omega (arith, same); each = λ k x y a b. may.each (suc k) x y a b }))

-- Who is enrolled

-- where the states are the same, so are those who are enrolled
pub enrolled_on : (is_static : Bool) (members : List Kept) (admits : ℕ) (old new : List Management) (nodes : List ℕ) → states_of new ≡ states_of old → AreEnrolledBy is_static members admits (states_of old) nodes → AreEnrolledBy is_static members admits (states_of new) nodes
enrolled_on is_static members admits old new nodes same h = subst (λ (ss : List MemberState). AreEnrolledBy is_static members admits ss nodes) (sym same) h

-- in a DIF that admits fixed flows each member is
pub all_are : (d : Dif) (lines : List Direction) (below : Seen) → Holds d lines below → 0 < d.settings.admits → (k : ℕ) (g : Management) → slice_get d.managements k ≡ Some g → g.agent.state ≡ Enrolled
all_are d lines below h some k g is = go d.laid.is_static refl
  where
    go : (b : Bool) → d.laid.is_static ≡ b → g.agent.state ≡ Enrolled
    go true still = all_at (λ (s : MemberState). s ≡ Enrolled) (states_of d.managements) k g.agent.state (h.enrolled.all still) (state_at d.managements k g is)
    go false still = (let none = h.enrolled.unfixed still in absurd (omega (arith, none, some)))

-- whoever is enrolled stays so where nobody changes
pub stay_same : (old new : List ℕ) → new ≡ old → StayEnrolled old new
stay_same old new same = λ node there. subst (λ (ns : List ℕ). is_member ns node ≡ true) (sym same) there

-- The member at a place has another state

abbrev node_if : Bool → ℕ → Option ℕ
node_if b node = cond b (Some node) None

-- it is enrolled exactly as before
pub nodes_kept : (members : List Kept) (states : List MemberState) (at : ℕ) (s s' : MemberState) → slice_get states at ≡ Some s → is_in s' ≡ is_in s → enrolled_nodes members (slice_set states at s') ≡ enrolled_nodes members states
nodes_kept [] states at s s' is same = refl
nodes_kept (m ∷ ms) [] at s s' is same = absurd (none-some s is)
nodes_kept (m ∷ ms) (x ∷ xs) zero s s' is same = ap (λ (b : Bool). cons_option (node_if b m.node) (enrolled_nodes ms xs)) (same ∙ ap is_in (sym (same_Some x s is)))
nodes_kept (m ∷ ms) (x ∷ xs) (suc k) s s' is same = ap (λ (ns : List ℕ). cons_option (node_if_enrolled (m, x)) ns) (nodes_kept ms xs k s s' is same)

in_enrolled : (s : MemberState) → is_in s ≡ true → s ≡ Enrolled
in_enrolled Outside is = absurd (false≢true is)
in_enrolled (Joining link) is = absurd (false≢true is)
in_enrolled Enrolled is = refl
in_enrolled (Denied rule) is = absurd (false≢true is)

-- one member after the other
cons_behind : (o : Option ℕ) (xs ys : List ℕ) → cons_option o (xs ++ ys) ≡ cons_option o xs ++ ys
cons_behind (Some n) xs ys = refl
cons_behind None xs ys = refl

one_node : (b : Bool) (n : ℕ) → cons_option (node_if b n) [] ≡ cond b (n ∷ []) []
one_node true n = refl
one_node false n = refl

pub nodes_step : (members : List Kept) (states : List MemberState) (n : ℕ) (m : Kept) (s : MemberState) → slice_get members n ≡ Some m → slice_get states n ≡ Some s → enrolled_nodes (take (suc n) members) states ≡ enrolled_nodes (take n members) states ++ cond (is_in s) (m.node ∷ []) []
nodes_step [] states n m s is_m is_s = absurd (none-some m is_m)
nodes_step (x ∷ xs) [] n m s is_m is_s = absurd (none-some s is_s)
nodes_step (x ∷ xs) (y ∷ ys) zero m s is_m is_s =
    one_node (is_in y) x.node ∙ (λ j. cond (is_in (same_Some y s is_s j)) ((same_Some x m is_m j).node ∷ []) [])
nodes_step (x ∷ xs) (y ∷ ys) (suc k) m s is_m is_s =
    ap (λ (ns : List ℕ). cons_option (node_if_enrolled (x, y)) ns) (nodes_step xs ys k m s is_m is_s)
    ∙ cons_behind (node_if_enrolled (x, y)) (enrolled_nodes (take k xs) ys) (cond (is_in s) (m.node ∷ []) [])

-- or it is enrolled now, if it was
or_there : (b c : Bool) → c ≡ true → (b || c) ≡ true
or_there true c is = refl
or_there false c is = is

or_grows : (b c c' : Bool) → (c ≡ true → c' ≡ true) → (b || c) ≡ true → (b || c') ≡ true
or_grows true c c' f is = refl
or_grows false c c' f is = f is

first_grows : (b b' : Bool) (n : ℕ) (rest : List ℕ) (node : ℕ) → (b ≡ true → b' ≡ true) → is_member (cons_option (node_if b n) rest) node ≡ true → is_member (cons_option (node_if b' n) rest) node ≡ true
first_grows true true n rest node f is = is
first_grows true false n rest node f is = absurd (false≢true (f refl))
first_grows false true n rest node f is = or_there (n == node) (is_member rest node) is
first_grows false false n rest node f is = is

rest_grows : (o : Option ℕ) (rest rest' : List ℕ) (node : ℕ) → (is_member rest node ≡ true → is_member rest' node ≡ true) → is_member (cons_option o rest) node ≡ true → is_member (cons_option o rest') node ≡ true
rest_grows (Some n) rest rest' node f is = or_grows (n == node) (is_member rest node) (is_member rest' node) f is
rest_grows None rest rest' node f is = f is

pub nodes_grow : (members : List Kept) (states : List MemberState) (at : ℕ) (s s' : MemberState) → slice_get states at ≡ Some s → (is_in s ≡ true → is_in s' ≡ true) → StayEnrolled (enrolled_nodes members states) (enrolled_nodes members (slice_set states at s'))
nodes_grow [] states at s s' is grows = λ node there. there
nodes_grow (m ∷ ms) [] at s s' is grows = absurd (none-some s is)
nodes_grow (m ∷ ms) (x ∷ xs) zero s s' is grows = λ node there. first_grows (is_in x) (is_in s') m.node (enrolled_nodes ms xs) node (λ was. grows (ap is_in (sym (same_Some x s is)) ∙ was)) there
nodes_grow (m ∷ ms) (x ∷ xs) (suc k) s s' is grows = λ node there. rest_grows (node_if_enrolled (m, x)) (enrolled_nodes ms xs) (enrolled_nodes ms (slice_set xs k s')) node (nodes_grow ms xs k s s' is grows node) there

-- the states are those before, but that of one
states_put : (ms : List Management) (at : ℕ) (g' : Management) → states_of (slice_set ms at g') ≡ slice_set (states_of ms) at g'.agent.state
states_put ms at g' = ap (λ (gs : List Agent). map state_in gs) (map-set agent_in ms at g') ∙ map-set state_in (agents_of ms) at g'.agent

-- one member more is looked at
pub pushed : (b : Bool) (n : ℕ) (nodes nodes' : List ℕ) → b ≡ true → nodes' ≡ nodes ++ n ∷ [] → nodes' ≡ nodes ++ cond b (n ∷ []) []
pushed b n nodes nodes' is more = more ∙ ap (λ (c : Bool). nodes ++ cond c (n ∷ []) []) (sym is)

pub unpushed : (b : Bool) (n : ℕ) (nodes nodes' : List ℕ) → b ≡ false → nodes' ≡ nodes → nodes' ≡ nodes ++ cond b (n ∷ []) []
unpushed b n nodes nodes' is same = same ∙ sym (append-nil nodes) ∙ ap (λ (c : Bool). nodes ++ cond c (n ∷ []) []) (sym is)

pub nodes_next : (members : List Kept) (ms : List Management) (n : ℕ) (m : Kept) (g : Management) (b : Bool) (nodes nodes' : List ℕ) → slice_get members n ≡ Some m → slice_get ms n ≡ Some g → b ≡ is_in g.agent.state → nodes ≡ enrolled_nodes (take n members) (states_of ms) → nodes' ≡ nodes ++ cond b (m.node ∷ []) [] → nodes' ≡ enrolled_nodes (take (n + 1) members) (states_of ms)
nodes_next members ms n m g b nodes nodes' is_m is_g is so more =
    let next : n + 1 ≡ suc n = omega arith in
    more
    ∙ (λ j. so j ++ cond (is j) (m.node ∷ []) [])
    ∙ sym (nodes_step members (states_of ms) n m g.agent.state is_m (state_at ms n g is_g))
    ∙ ap (λ (k : ℕ). enrolled_nodes (take k members) (states_of ms)) (sym next)

-- so the nodes are those that the DIF knows
pub nodes_stay : (d : Dif) (at : ℕ) (g after : Management) → AreEnrolled d → slice_get d.managements at ≡ Some g → is_in after.agent.state ≡ is_in g.agent.state → d.enrolled ≡ nodes_with d at after
nodes_stay d at g after h is same =
    h.known
    ∙ sym (nodes_kept d.settings.members (states_of d.managements) at g.agent.state after.agent.state (state_at d.managements at g is) same)
    ∙ ap (enrolled_nodes d.settings.members) (sym (states_put d.managements at after))

-- or more
pub nodes_more : (d : Dif) (at : ℕ) (g after : Management) → AreEnrolled d → slice_get d.managements at ≡ Some g → (g.agent.state ≡ Enrolled → after.agent.state ≡ Enrolled) → StayEnrolled d.enrolled (nodes_with d at after)
nodes_more d at g after h is stays =
    let put = ap (enrolled_nodes d.settings.members) (sym (states_put d.managements at after)) in
    let grown = nodes_grow d.settings.members (states_of d.managements) at g.agent.state after.agent.state (state_at d.managements at g is) (λ was. ap is_in (stays (in_enrolled g.agent.state was))) in
    λ node there. subst (λ (ns : List ℕ). is_member ns node ≡ true) put (grown node (subst (λ (ns : List ℕ). is_member ns node ≡ true) h.known there))

-- and the DIF knows them
pub enrolled_after : (d : Dif) (at : ℕ) (g after : Management) → AreEnrolled d → slice_get d.managements at ≡ Some g → (g.agent.state ≡ Enrolled → after.agent.state ≡ Enrolled) → AreEnrolledBy d.laid.is_static d.settings.members d.settings.admits (states_of (slice_set d.managements at after)) (nodes_with d at after)
enrolled_after d at g after h is stays = record {
  known = refl;
  all = λ still.
      let old = h.all still in
      let own = stays (all_at (λ (s : MemberState). s ≡ Enrolled) (states_of d.managements) at g.agent.state old (state_at d.managements at g is)) in
      subst (λ (ss : List MemberState). All (λ (s : MemberState). s ≡ Enrolled) ss) (sym (states_put d.managements at after)) (All-set (λ (s : MemberState). s ≡ Enrolled) (states_of d.managements) at after.agent.state own old);
  unfixed = h.unfixed;
}

-- where it is enrolled exactly as before the DIF knows the same ones
pub same_enrolled : (d : Dif) (at : ℕ) (g after : Management) → AreEnrolled d → slice_get d.managements at ≡ Some g → is_in after.agent.state ≡ is_in g.agent.state → (g.agent.state ≡ Enrolled → after.agent.state ≡ Enrolled) → AreEnrolledBy d.laid.is_static d.settings.members d.settings.admits (states_of (slice_set d.managements at after)) d.enrolled
same_enrolled d at g after h is same stays =
    subst (λ (ns : List ℕ). AreEnrolledBy d.laid.is_static d.settings.members d.settings.admits (states_of (slice_set d.managements at after)) ns) (sym (nodes_stay d at g after h is same)) (enrolled_after d at g after h is stays)

-- A link is lost

lost_joining : (b : Bool) (number : ℕ) → is_in (cond b Outside (Joining number)) ≡ false
lost_joining true number = refl
lost_joining false number = refl

lost_state_in : (link : ℕ) (s : MemberState) → is_in (lost_state link s) ≡ is_in s
lost_state_in link Outside = refl
lost_state_in link (Joining number) = lost_joining (number == link) number
lost_state_in link Enrolled = refl
lost_state_in link (Denied rule) = refl

abbrev SameIn : MemberState → Result Agent AgentError → Type 0
SameIn s (Ok g) = is_in g.state ≡ is_in s
SameIn s (Err e) = Unit {0}

unless_in : (s : MemberState) (o : Option AgentError) (g : Agent) → is_in g.state ≡ is_in s → SameIn s (unless o g)
unless_in s None g same = same
unless_in s (Some e) g same = tt

lost_by : (b : Bool) (o : Option AgentError) (g : Agent) (now link : ℕ) → SameIn g.state (cond b (unless o (dropped (stated (Some link) g now) link)) (Ok (dropped g link)))
lost_by true o g now link = unless_in g.state o (dropped (stated (Some link) g now) link) (lost_state_in link g.state)
lost_by false o g now link = lost_state_in link g.state

-- a member is enrolled exactly as before
pub lost_in : (now number : ℕ) (g g' : Agent) → lost g now number ≡ Ok g' → is_in g'.state ≡ is_in g.state
lost_in now number g g' is = subst (SameIn g.state) is (lost_by _ (spent 1 g.last_count) g now number)

-- Where they are

-- the members and states from the second on
abbrev IsThere : List Kept → List MemberState → ℕ → Type 0
IsThere members states node = (k : ℕ) × (m : Kept) × (slice_get members k ≡ Some m) × (m.node ≡ node) × (slice_get states k ≡ Some Enrolled)

later : (m : Kept) (s : MemberState) (ms : List Kept) (ss : List MemberState) (node : ℕ) → IsThere ms ss node → IsThere (m ∷ ms) (s ∷ ss) node
later m s ms ss node r = (suc r.0, r.1, r.2, r.3, r.4)

first_or_later : (m : Kept) (ms : List Kept) (ss : List MemberState) (node : ℕ) (b : Bool) → (m.node == node) ≡ b → (is_member (enrolled_nodes ms ss) node ≡ true → IsThere ms ss node) → (b || is_member (enrolled_nodes ms ss) node) ≡ true → IsThere (m ∷ ms) (Enrolled ∷ ss) node
first_or_later m ms ss node true here rest h = (0, m, refl, eqb-true m.node node here, refl)
first_or_later m ms ss node false here rest h = later m Enrolled ms ss node (rest h)

by_state : (m : Kept) (s : MemberState) (ms : List Kept) (ss : List MemberState) (node : ℕ) → (is_member (enrolled_nodes ms ss) node ≡ true → IsThere ms ss node) → is_member (cons_option (node_if_enrolled (m, s)) (enrolled_nodes ms ss)) node ≡ true → IsThere (m ∷ ms) (s ∷ ss) node
by_state m Outside ms ss node rest h = later m Outside ms ss node (rest h)
by_state m (Joining link) ms ss node rest h = later m (Joining link) ms ss node (rest h)
by_state m Enrolled ms ss node rest h = first_or_later m ms ss node (m.node == node) refl rest h
by_state m (Denied rule) ms ss node rest h = later m (Denied rule) ms ss node (rest h)

-- a node of an enrolled member is that of one
pub enrolled_there : (members : List Kept) (states : List MemberState) (node : ℕ) → is_member (enrolled_nodes members states) node ≡ true → IsThere members states node
enrolled_there [] states node h = absurd (false≢true h)
enrolled_there (m ∷ ms) [] node h = absurd (false≢true h)
enrolled_there (m ∷ ms) (s ∷ ss) node h = by_state m s ms ss node (enrolled_there ms ss node) h

-- so a member stands there
pub member_there : (d : Dif) (lines : List Direction) (below : Seen) → Holds d lines below → (node : ℕ) → is_member d.enrolled node ≡ true → list_any (λ (m : Kept). m.node == node) d.settings.members ≡ true
member_there d lines below h node is =
    let r = enrolled_there d.settings.members (states_of d.managements) node (ap (λ (ns : List ℕ). is_member ns node) (sym h.enrolled.known) ∙ is) in
    any_true (λ (m : Kept). m.node == node) d.settings.members r.1 (is_there d.settings.members r.0 r.1 r.2) (eq-eqb r.1.node node r.3)

-- the place of the enrolled member at a node is that of the member there
home_parts : (b : Bool) (o : Option ℕ) (at : ℕ) → cond b o None ≡ Some at → (b ≡ true) × (o ≡ Some at)
home_parts true o at is = (refl, is)
home_parts false o at is = absurd (none-some at is)

pub enrolled_home_is : (d : Dif) (node at : ℕ) → enrolled_home d node ≡ Some at → (is_member d.enrolled node ≡ true) × (home_of d node ≡ Some at)
enrolled_home_is d node at is = home_parts (is_member d.enrolled node) (home_of d node) at is

-- and its state says so
pub enrolled_here : (d : Dif) (lines : List Direction) (below : Seen) → Holds d lines below → (node at : ℕ) (g : Management) → enrolled_home d node ≡ Some at → ((m : Kept) → slice_get d.settings.members at ≡ Some m → m.node ≡ node) → at < length d.settings.members → slice_get d.managements at ≡ Some g → g.agent.state ≡ Enrolled
enrolled_here d lines below h node at g here its lt is =
    let parts = enrolled_home_is d node at here in
    let r = enrolled_there d.settings.members (states_of d.managements) node (ap (λ (ns : List ℕ). is_member ns node) (sym h.enrolled.known) ∙ parts.0) in
    let m = there d.settings.members at lt in
    let seen : (k : ℕ) (x : Kept) → slice_get d.settings.members k ≡ Some x → slice_get (config_of d.settings).members k ≡ Some (member_of x) = λ k x e. slice_get-map member_of d.settings.members k ∙ ap (option_map member_of) e in
    let place : r.0 ≡ at = h.numbered.members.nodes r.0 at (member_of r.1) (member_of m.0) (seen r.0 r.1 r.2) (seen at m.0 m.1) (r.3 ∙ sym (its m.0 m.1)) in
    same_Some g.agent.state Enrolled (sym (state_at d.managements at g is) ∙ ap (slice_get (states_of d.managements)) (sym place) ∙ r.4)

-- From the start

-- the nodes of those that pass a test, where these are the enrolled ones
tested_nodes : (f : Kept → Bool) (ms : List Kept) → enrolled_nodes ms (map (λ (m : Kept). state_from (f m)) ms) ≡ map (λ (m : Kept). m.node) (filter f ms)
tested_nodes f [] = refl
tested_nodes f (m ∷ ms) = go (f m) (tested_nodes f ms)
  where
    go : (b : Bool) → enrolled_nodes ms (map (λ (x : Kept). state_from (f x)) ms) ≡ map (λ (x : Kept). x.node) (filter f ms) → cons_option (node_if_enrolled (m, state_from b)) (enrolled_nodes ms (map (λ (x : Kept). state_from (f x)) ms)) ≡ map (λ (x : Kept). x.node) (cond b (m ∷ filter f ms) (filter f ms))
    go true rest = ap (λ (ns : List ℕ). m.node ∷ ns) rest
    go false rest = rest

none_kept : {X : Type 0} (p : X → Bool) (xs : List X) → ((k : ℕ) (x : X) → slice_get xs k ≡ Some x → p x ≡ false) → filter p xs ≡ []
none_kept p [] fails = refl
none_kept p (x ∷ xs) fails = ap (λ (b : Bool). cond b (x ∷ filter p xs) (filter p xs)) (fails 0 x refl) ∙ none_kept p xs (λ k y is. fails (suc k) y is)

-- these are the first ones
first_kept : (is_static : Bool) (s : Settings) (members : List Kept) → s.members ≡ members → AreMembers (config_of s) → filter (λ (m : Kept). starts_enrolled is_static members m.addr) members ≡ first_enrolled is_static members
first_kept true s members is are = keeps_all (λ (m : Kept). starts_enrolled true members m.addr) members (λ m among. all_enrolled members m among)
first_kept false s [] is are = refl
first_kept false s (first ∷ rest) is are =
    let p : Kept → Bool = λ m. (first.addr == m.addr) || false in
    let seen : (k : ℕ) (x : Kept) → slice_get (first ∷ rest) k ≡ Some x → slice_get (config_of s).members k ≡ Some (member_of x) = λ k x e. slice_get-map member_of s.members k ∙ ap (option_map member_of) (ap (λ (ms : List Kept). slice_get ms k) is ∙ e) in
    let others : (k : ℕ) (x : Kept) → slice_get rest k ≡ Some x → p x ≡ false = λ k x e. elim (cases_Bool (first.addr == x.addr)) [
      | inl same ↦ (let place = are.addrs 0 (suc k) (member_of first) (member_of x) (seen 0 first refl) (seen (suc k) x e) (eqb-true first.addr x.addr same) in absurd (omega (arith, place)))
      | inr apart ↦ ap (λ (b : Bool). b || false) apart
    ] in
    ap (λ (b : Bool). cond (b || false) (first ∷ filter p rest) (filter p rest)) (eq-eqb first.addr first.addr refl) ∙ ap (λ (ms : List Kept). first ∷ ms) (none_kept p rest others)

-- the states of the start
begun_states : (f : Kept → Bool) (members : List Kept) (ms : List Management) → length ms ≡ length members → ((k : ℕ) (m : Kept) (g : Management) → slice_get members k ≡ Some m → slice_get ms k ≡ Some g → g.agent.state ≡ state_from (f m)) → states_of ms ≡ map (λ (m : Kept). state_from (f m)) members
begun_states f [] [] same each = refl
begun_states f [] (g ∷ gs) same each = absurd (omega (arith, same))
begun_states f (m ∷ members) [] same each = absurd (omega (arith, same))
begun_states f (m ∷ members) (g ∷ gs) same each =
    ap (λ (s : MemberState). s ∷ states_of gs) (each 0 m g refl refl)
    ∙ ap (λ (ss : List MemberState). state_from (f m) ∷ ss) (begun_states f members gs (omega (arith, same)) (λ k x y a b. each (suc k) x y a b))

started_state : (is_static : Bool) (members : List Kept) (plans : List LinkPlan) (access : _) (m : Kept) (links : _) → (started is_static members plans access m links).state ≡ state_from (starts_enrolled is_static members m.addr)
unfolding started
started_state is_static members plans access m links = refl

all_states : (is_static : Bool) (members : List Kept) → is_static ≡ true → All (λ (s : MemberState). s ≡ Enrolled) (map (λ (m : Kept). state_from (starts_enrolled is_static members m.addr)) members)
all_states true members still = all_of (λ (s : MemberState). s ≡ Enrolled) (map (λ (m : Kept). state_from (starts_enrolled true members m.addr)) members) (λ s among. (let r = contains_unmap (λ (m : Kept). state_from (starts_enrolled true members m.addr)) members s among in sym r.2 ∙ ap state_from (all_enrolled members r.0 r.1)))
all_states false members still = absurd (false≢true still)

-- a DIF whose members start so knows who is enrolled
pub starts_known : (is_static : Bool) (cubes : List Cube) (s : Settings) (plans : List LinkPlan) (rules : List Rule) (allow : Bool) (ps : List IpcProcess) (ms : List Management) (nodes : List ℕ) → AreMembers (config_of s) → length ps ≡ length s.members → AreStarted is_static cubes s.members plans rules allow (length s.members) ps ms → nodes ≡ map (λ (m : Kept). m.node) (first_enrolled is_static s.members) → (is_static ≡ false → s.admits ≡ 0) → AreEnrolledBy is_static s.members s.admits (states_of ms) nodes
starts_known is_static cubes s plans rules allow ps ms nodes are aligned so nodes_are unfixed =
    let f : Kept → Bool = λ m. starts_enrolled is_static s.members m.addr in
    let states : states_of ms ≡ map (λ (m : Kept). state_from (f m)) s.members = begun_states f s.members ms so.aligned (λ k m g is_m is_g.
    let within = slice_get_within s.members k m is_m in
    let p = there ps k (omega (arith, within, aligned)) in
    let one = so.each k m p.0 g is_m p.1 is_g in
    ap state_in one.is ∙ started_state is_static s.members plans one.access m p.0.links) in
    subst (λ (ss : List MemberState). AreEnrolledBy is_static s.members s.admits ss nodes) (sym states) (record {
      known = nodes_are ∙ ap (λ (members : List Kept). map (λ (m : Kept). m.node) members) (sym (first_kept is_static s s.members refl are)) ∙ sym (tested_nodes f s.members);
      all = all_states is_static s.members;
      unfixed = unfixed;
    })

-- What it tells of one

pub state_is : (d : Dif) (node place : ℕ) (g : Management) → home node (config_of d.settings).members ≡ Some place → slice_get d.managements place ≡ Some g → IsStateAt d node g.agent.state
state_is d node place g here is = record { place = place; at_home = here; management = g; stands = is; is = refl }
