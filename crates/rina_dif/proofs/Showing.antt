-- A DIF stands as before where members show other objects.
use Rattle.std.proofs.Common.{◌≡◌, ◌∙◌, ℕ, ◌+◌, ◌<◌, true, false, zero, suc, add-one, arith, take, List, [], ◌∷◌, ◌++◌, Contains, map, slice_get, Option, Some, None, Result, Ok, Err, refl, sym, ap, subst}
use Rattle.rina_data.specs.declared.settings.Member.{Member}
use Rattle.std.specs.List.{cons_option, filter_map, zip}
use Rattle.std.proofs.lemmas.Bool.{false≢true}
use Rattle.std.proofs.lemmas.Grind.{common_steps}
use Rattle.std.proofs.lemmas.List.{length-map}
use Rattle.std.proofs.lemmas.Option.{same_Some, slice_get_within}
use Rattle.rina_base.specs.declared.memory.Memory.{Memory}
use Rattle.rina_base.specs.declared.number.Num.{Num}
use Rattle.rina_base.specs.declared.number.Port.{Port}
use Rattle.rina_base.specs.Names.{app_at}
use Rattle.rina_conn.specs.declared.conn.Conn.{Conn}
use Rattle.rina_iface.specs.declared.ask.Fixed.{Fixed}
use Rattle.rina_iface.specs.declared.ends.End.{End}
use Rattle.rina_iface.specs.declared.ask.Registered.{Registered}
use Rattle.rina_iface.specs.declared.error.AllocateError.{AllocateError}
use Rattle.rina_iface.specs.declared.error.AllocateError.TheVariants.{Memory as MemoryWanted}
use Rattle.rina_iface.specs.Ends.{drawn_at}
use Rattle.rina_iface.specs.Seen.{Seen}
use Rattle.rina_law.specs.Direction.{Direction}
use Rattle.rina_data.specs.Configs.{member_of}
use Rattle.rina_dif_law.specs.Dif.{DifSeen}
use Rattle.rina_data.proofs.Finding.{there}
use Rattle.rina_member.specs.declared.management.Management.{Management}
use Rattle.rina_member.specs.Objects.{flow_name, removed}
use Rattle.rina_member.specs.Managements.{entered, with_objects, without_flow, without_flows}
use Rattle.rina_member.proofs.Laying.{small_address}
use Rattle.rina_member.proofs.Lists.{is_there}
use Rattle.rina_dif.specs.declared.dif.Dif.{Dif}
use Rattle.rina_dif.specs.Binding.{BindsAt, BindsTo, MayBind, noting}
use Rattle.rina_dif.specs.Changing.{EndsFlow, MayHoldFar, changed_at, cep_here, without_flow_if}
use Rattle.rina_dif.specs.Freeing.{FreesHere}
use Rattle.rina_dif.specs.Holding.{Holds}
use Rattle.rina_dif.specs.Managing.{AreEnrolled, AreManagedBy, agents_of, states_of}
use Rattle.rina_dif.specs.Shown.{seen_of}
use Rattle.rina_dif.specs.Timely.{GivesUpAs}
use Rattle.rina_agent.specs.declared.state.MemberState.TheVariants.{Enrolled}
use Rattle.rina_dif.specs.Flooding.{AreFlooding}
use Rattle.rina_dif.proofs.Enrolled.{all_are, enrolled_on, states_agents, states_entered}
use Rattle.rina_dif.proofs.Entered.{all_entered, managed_entered}
use Rattle.rina_dif.proofs.Flooding.{entered_floods, same_agents}
use Rattle.rina_dif.proofs.Managed.{changed_agents, managed_shown}

-- with other managements
abbrev pub managing : Dif → List Management → Dif
managing d ms = record d { managements = ms }

still_enrolled : (d : Dif) (ms : List Management) → states_of ms ≡ states_of d.managements → AreEnrolled d → AreEnrolled (managing d ms)
still_enrolled d ms states h = enrolled_on d.laid.is_static d.settings.members d.settings.admits d.managements ms d.enrolled states h

pub holds_managed : (d : Dif) (lines : List Direction) (below : Seen) (ms : List Management) → AreManagedBy d.laid.is_static d.settings.members d.laid.links d.clock d.processes ms → states_of ms ≡ states_of d.managements → (d.failed ≡ false → AreFlooding (managing d ms)) → Holds d lines below → Holds (managing d ms) lines below
holds_managed d lines below ms managed states floods h = record { tied = h.tied; standing = h.standing; carrying = h.carrying; numbered = h.numbered; accounted = h.accounted; caused = h.caused; written_off = h.written_off; housed = h.housed; managed = managed; enrolled = still_enrolled d ms states h.enrolled; connected = h.connected; flooded = floods }

-- with other objects
pub holds_shown : (d : Dif) (lines : List Direction) (below : Seen) (ms : List Management) → agents_of ms ≡ agents_of d.managements → Holds d lines below → Holds (managing d ms) lines below
holds_shown d lines below ms same h = holds_managed d lines below ms (managed_shown d.laid.is_static d.settings.members d.laid.links d.clock d.processes d.managements ms same h.managed) (states_agents d.managements ms same) (λ alive. same_agents d ms same (h.flooded alive)) h

-- One member shows other objects

pub objects_agents : (at : ℕ) (f : Management → Management) (ms new : List Management) → ((m : Management) → (f m).agent ≡ m.agent) → new ≡ changed_at at f ms → agents_of new ≡ agents_of ms
objects_agents at f ms new same is = ap agents_of is ∙ changed_agents at f ms same

-- an end is freed
pub frees_shown : (d d' : Dif) (lines : List Direction) (below : Seen) (at : ℕ) (r : Result (Unit {0}) Memory) (ms : List Management) → agents_of ms ≡ agents_of d'.managements → FreesHere d lines below at r d' → FreesHere d lines below at r (managing d' ms)
frees_shown d d' lines below at (Ok done) ms same f = record { end = f.end; is_end = f.is_end; frees = f.frees; holds = holds_shown d' lines below ms same f.holds }
frees_shown d d' lines below at (Err e) ms same f = record { same = f.same; holds = holds_shown d' lines below ms same f.holds }

-- a flow is given up
pub gives_up_shown : (d d' : Dif) (lines : List Direction) (below : Seen) (at : ℕ) (num : Num) (ms : List Management) → agents_of ms ≡ agents_of d'.managements → GivesUpAs d lines below at (Ok (Some num)) d' → GivesUpAs d lines below at (Ok (Some num)) (managing d' ms)
gives_up_shown d d' lines below at num ms same g = record { given_up = g.given_up; cep = g.cep; holds = holds_shown d' lines below ms same g.holds }

-- a member may draw a port, so the DIF admits fixed flows
may_admit : (n admits admits' : ℕ) → n < admits' → admits ≡ admits' → 0 < admits
may_admit n admits admits' room same = omega (arith, room, same)

-- so each member is enrolled
binds_enrolled : (d d' : Dif) (lines : List Direction) (below : Seen) (fixed : Fixed) (ports : Port × Port) → BindsAt d lines below fixed ports d' → (k : ℕ) (g : Management) → slice_get d'.managements k ≡ Some g → g.agent.state ≡ Enrolled
binds_enrolled d d' lines below fixed ports f = all_are d' f.lines' below f.holds (may_admit (drawn_at fixed.a d.flows.journal.ends) d'.settings.admits d.settings.admits f.bound.at_a.room (ap (λ (z : DifSeen). z.config.admits) f.bound.new_is))

-- a flow is bound: each member took the entry of its far application
pub binds_shown_all : (d d' : Dif) (lines : List Direction) (below : Seen) (fixed : Fixed) (ports : Port × Port) (app : List ℕ) (far : Member) (ms : List Management) → app_at app ≡ Ok app → Contains d'.settings.members far → agents_of ms ≡ agents_of (map (entered app far.addr) d'.managements) → BindsAt d lines below fixed ports d' → BindsAt d lines below fixed ports (managing d' ms)
binds_shown_all d d' lines below fixed ports app far ms name among are f = (let took = all_entered app far.addr d'.managements ms are in record {
  lines' = f.lines';
  bound = f.bound;
  a_port = f.a_port;
  b_port = f.b_port;
  holds = holds_managed d' f.lines' below ms (managed_entered d'.laid.is_static d'.settings.members d'.laid.links d'.clock d'.processes d'.managements ms app far.addr name (small_address d'.settings.members d'.laid.links f.holds.managed.laid_out far among) f.holds.managed took) (states_entered app far.addr d'.managements ms took) (λ alive. entered_floods d' app far ms among (binds_enrolled d d' lines below fixed ports f) are (f.holds.flooded alive)) f.holds;
})

-- the managements were changed first, and then the flow was added
pub binds_managed : (d d1 d2 : Dif) (lines : List Direction) (below : Seen) (fixed : Fixed) (ports : Port × Port) (app : List ℕ) (far : Member) (names : List Registered) → app_at app ≡ Ok app → Contains d.settings.members far → d1 ≡ managing d d1.managements → d2 ≡ record d1 { flows = d2.flows; ids = d2.ids; names = names } → agents_of d1.managements ≡ agents_of (map (entered app far.addr) d.managements) → BindsAt d lines below fixed ports (record d { flows = d2.flows; ids = d2.ids; names = names }) → BindsAt d lines below fixed ports d2
binds_managed d d1 d2 lines below fixed ports app far names name among whole rest are f =
    let is : d2 ≡ managing (record d { flows = d2.flows; ids = d2.ids; names = names }) d1.managements = rest ∙ ap (λ (z : Dif). record z { flows = d2.flows; ids = d2.ids; names = names }) whole in
    subst (BindsAt d lines below fixed ports) (sym is) (binds_shown_all d (record d { flows = d2.flows; ids = d2.ids; names = names }) lines below fixed ports app far d1.managements name among are f)

-- an allocation failed, and the managements alone may have changed
failed_holds : (d : Dif) (lines : List Direction) (below : Seen) (ms : List Management) → AreManagedBy d.laid.is_static d.settings.members d.laid.links d.clock d.processes ms → states_of ms ≡ states_of d.managements → Holds d lines below → Holds (record (managing d ms) { failed = true }) lines below
failed_holds d lines below ms managed states h = record { tied = h.tied; standing = h.standing; carrying = h.carrying; numbered = h.numbered; accounted = h.accounted; caused = h.caused; written_off = h.written_off; housed = h.housed; managed = managed; enrolled = still_enrolled d ms states h.enrolled; connected = h.connected; flooded = λ alive. absurd (false≢true (sym alive)) }

-- before the managements changed
pub binds_nothing : (d : Dif) (fixed : Fixed) (r : Result (Port × Port) AllocateError) (e : AllocateError) → r ≡ Err e → e ≡ MemoryWanted → (lines : List Direction) (below : Seen) → Holds d lines below → BindsTo d lines below fixed r (noting r d)
binds_nothing d fixed r e is why lines below h = subst (λ (v : Result (Port × Port) AllocateError). BindsTo d lines below fixed v (noting v d)) (sym (is ∙ ap (λ (z : AllocateError). Err z) why)) (refl, failed_holds d lines below d.managements h.managed refl h)

pub binds_failed : (d d1 d' : Dif) (fixed : Fixed) (r : Result (Port × Port) AllocateError) (e : AllocateError) → app_at fixed.b_app ≡ Ok fixed.b_app → MayBind d fixed → r ≡ Err e → e ≡ MemoryWanted → d1 ≡ managing d d1.managements → MayHoldFar d fixed d1.managements → d' ≡ d1 → (lines : List Direction) (below : Seen) → Holds d lines below → BindsTo d lines below fixed r (noting r d')
binds_failed d d1 d' fixed r e name may is why whole far same lines below h =
    let members = d.settings.members in
    let within = slice_get_within (map member_of members) may.at_b.place may.of_b may.at_b.stands in
    let member = there members may.at_b.place (omega (arith, within, length-map members member_of)) in
    let took = far may.at_b.place member.0 may.at_b.at_home member.1 in
    let holds : Holds (record (managing d d1.managements) { failed = true }) lines below = failed_holds d lines below d1.managements (managed_entered d.laid.is_static members d.laid.links d.clock d.processes d.managements d1.managements fixed.b_app member.0.addr name (small_address members d.laid.links h.managed.laid_out member.0 (is_there members may.at_b.place member.0 member.1)) h.managed took) (states_entered fixed.b_app member.0.addr d.managements d1.managements took) h in
    let all : d' ≡ managing d d1.managements = same ∙ whole in
    subst (λ (v : Result (Port × Port) AllocateError). BindsTo d lines below fixed v (noting v d')) (sym (is ∙ ap (λ (z : AllocateError). Err z) why)) (ap seen_of all, subst (λ (z : Dif). Holds (record z { failed = true }) lines below) (sym all) holds)

-- Two lists side by side

-- one place more of both
zip_more : {A B : Type 0} (xs : List A) (ys : List B) (at : ℕ) (x : A) (y : B) → slice_get xs at ≡ Some x → slice_get ys at ≡ Some y → zip (take (suc at) xs) (take (suc at) ys) ≡ zip (take at xs) (take at ys) ++ (x, y) ∷ []
zip_more [] ys at x y is_x is_y = grind (arith, common_steps)
zip_more (a ∷ xs) [] at x y is_x is_y = grind (arith, common_steps)
zip_more (a ∷ xs) (b ∷ ys) zero x y is_x is_y = let first : a ≡ x = same_Some a x is_x in let second : b ≡ y = same_Some b y is_y in cc
zip_more {A = A} {B = B} (a ∷ xs) (b ∷ ys) (suc at) x y is_x is_y = ap (λ (zs : List (A × B)). (a, b) ∷ zs) (zip_more xs ys at x y is_x is_y)

-- All flows of a node end

last_if : (m : Management) (o : Option ℕ) → without_flows m (cons_option o []) ≡ without_flow_if m o
last_if m None = refl
last_if m (Some cep) = refl

ended_step : (o q : Option ℕ) (m : Management) (rest more : List ℕ) → ((n : Management) → without_flows n more ≡ without_flow_if (without_flows n rest) q) → without_flows m (cons_option o more) ≡ without_flow_if (without_flows m (cons_option o rest)) q
ended_step None q m rest more h = h m
ended_step (Some cep) q m rest more h = h (without_flow m cep)

-- one more ends
ended_more : (node : ℕ) (m : Management) (zs : List (End × Conn)) (z : End × Conn) → without_flows m (filter_map (cep_here node) (zs ++ z ∷ [])) ≡ without_flow_if (without_flows m (filter_map (cep_here node) zs)) (cep_here node z)
ended_more node m [] z = last_if m (cep_here node z)
ended_more node m (y ∷ zs) z = ended_step (cep_here node y) (cep_here node z) m (filter_map (cep_here node) zs) (filter_map (cep_here node) (zs ++ z ∷ [])) (λ n. ended_more node n zs z)

-- the flows of the ends at the first places have ended
abbrev pub IsEndedFor : ℕ → List End → List Conn → Management → Management → ℕ → Type 0
IsEndedFor node ends conns old new at = new ≡ without_flows old (filter_map (cep_here node) (zip (take at ends) (take at conns)))

-- and that of one more
pub ends_more : (node : ℕ) (ends : List End) (conns : List Conn) (old mid new : Management) (at : ℕ) (end : End) (conn : Conn) → slice_get ends at ≡ Some end → slice_get conns at ≡ Some conn → IsEndedFor node ends conns old mid at → new ≡ without_flow_if mid (cep_here node (end, conn)) → IsEndedFor node ends conns old new (at + 1)
ends_more node ends conns old mid new at end conn is_end is_conn so is =
    is ∙ ap (λ (m : Management). without_flow_if m (cep_here node (end, conn))) so
    ∙ sym (ended_more node old (zip (take at ends) (take at conns)) (end, conn))
    ∙ ap (λ (zs : List (End × Conn)). without_flows old (filter_map (cep_here node) zs)) (sym (zip_more ends conns at end conn is_end is_conn))
    ∙ ap (λ (n : ℕ). without_flows old (filter_map (cep_here node) (zip (take n ends) (take n conns)))) (sym (add-one at))

-- The object of one flow is deleted

pub ends_flow : (d : Dif) (i at : ℕ) (name : List ℕ) (new : List Management) → ((k : Conn) → slice_get d.flows.conns at ≡ Some k → name ≡ flow_name k.sending.form.peer.scep) → new ≡ changed_at i (λ m. with_objects m (removed m.objects name)) d.managements → EndsFlow d i at new
ends_flow d i at name new named is k is_k = is ∙ ap (λ (t : List ℕ). changed_at i (λ m. with_objects m (removed m.objects t)) d.managements) (named k is_k)
