-- What a member of a DIF knows once it handled the messages of a link, and that the DIF holds.
use Rattle.std.proofs.Common.{◌≡◌, ◌∙◌, ℕ, ◌<◌, ◌≤◌, Bool, true, false, List, drop, length, slice_get, slice_set, Option, Some, None, Ok, refl, sym, ap, subst}
use Rattle.std.specs.Prelude.{IsSome}
use Rattle.std.proofs.lemmas.Option.{same_Some, slice_get_within}
use Rattle.rina_iface.specs.declared.ends.End.{End}
use Rattle.rina_iface.specs.Journal.{At}
use Rattle.rina_iface.specs.Seen.{Seen}
use Rattle.rina_iface.proofs.Changed.{slice_set-same}
use Rattle.rina_law.specs.declared.entry.Entry.{Entry}
use Rattle.rina_law.specs.Direction.{Direction}
use Rattle.rina_agent.specs.declared.agent.Agent.{Agent}
use Rattle.rina_agent.specs.declared.message.ManagementMessage.{ManagementMessage}
use Rattle.rina_agent.specs.declared.message.ManagementMessage.TheVariants.{ToMember, ToNeighbour}
use Rattle.rina_agent.specs.declared.state.MemberState.TheVariants.{Enrolled}
use Rattle.rina_enrol.specs.declared.message.LinkMessage.{LinkMessage}
use Rattle.rina_enrol.specs.Messages.{IsInRange, IsSpelled}
use Rattle.rina_enrol.proofs.Guesses.{one_message}
use Rattle.rina_plan.specs.declared.dif.LinkPlan.{LinkPlan}
use Rattle.rina_data.specs.declared.link.Link.{Link}
use Rattle.rina_data.specs.declared.link.Route.{Route}
use Rattle.rina_data.specs.declared.process.IpcProcess.{IpcProcess}
use Rattle.rina_data.specs.declared.settings.Member.{Member}
use Rattle.rina_data.specs.Configs.{config_of}
use Rattle.rina_data.specs.Deciding.{process_of}
use Rattle.rina_data.specs.Process.{queue_place}
use Rattle.rina_flood.specs.Coming.{ComesNext, WhatComes}
use Rattle.rina_flood.specs.Members.{IsRunOf, MembersSeen}
use Rattle.rina_flows.specs.declared.flows.Flows.{Flows}
use Rattle.rina_member.specs.declared.management.Management.{Management}
use Rattle.rina_member.specs.Handling.{OwnIsNewest}
use Rattle.rina_member.specs.Knowing.{AreRoutesOf, IsPlanned, Knows}
use Rattle.rina_member.specs.Managements.{Handles, HandlesSdu, IsSduOf}
use Rattle.rina_member.specs.Short.{IsShort, TellsShort}
use Rattle.rina_member.proofs.Enrolled.{handles_enrolled}
use Rattle.rina_member.proofs.Knowing.{knows_live}
use Rattle.rina_member.proofs.Learning.{handles_knowing}
use Rattle.rina_member.proofs.Planned.{handles_planned}
use Rattle.rina_dif.specs.declared.dif.Dif.{Dif}
use Rattle.rina_dif.specs.Elsewhere.{ChangesProcess}
use Rattle.rina_dif.specs.Flooding.{AreFlooding}
use Rattle.rina_dif.specs.Handling.{HandlesAll, HandlesHere, HandlesInTurn, HandlesOne, PassesAll, or_same, unpassed_sdus}
use Rattle.rina_dif.specs.Holding.{AreHoused, Holds, IsHoused, LinksStand, Stands}
use Rattle.rina_dif.specs.LinkDue.{IsLinkEnd}
use Rattle.rina_dif.specs.Managing.{StayEnrolled, nodes_with}
use Rattle.rina_dif.specs.Routing.{SetsRoutes, with_routes}
use Rattle.rina_dif.proofs.WaitsOnLive.{same_on_live}
use Rattle.rina_dif.proofs.Handling.{first_turn, handled_caused, handled_connected, handled_flows, handled_written, last_turn, managed_both, with_handled}
use Rattle.rina_dif.proofs.Elsewhere.{by_process}
use Rattle.rina_dif.proofs.Enrolled.{enrolled_after, nodes_more, nodes_stay}
use Rattle.rina_dif.proofs.Hearing.{all_turns, heard, its_end, l, next, one_passed, side, turn, turn_at}
use Rattle.rina_dif.proofs.Keeping.{set_cases}
use Rattle.rina_dif.proofs.Leaves.{has_process}
use Rattle.rina_member.proofs.TellsEnrolled.{handles_short}
use Rattle.rina_dif.proofs.Passing.{with_links}
use Rattle.rina_dif.proofs.Turns.{turns_enrolled}
use Rattle.rina_dif.proofs.Unlinked.{has_agent, has_member}

-- One message

module _ (is_static : Bool) (members : List Member) (plans : List LinkPlan) (now : ℕ) (member : Member) (links : List Link) (first : Agent) where
  -- a member knows its links, those of the plan in a static DIF, is enrolled if it was at first, and tells short messages alone
  pub record IsSound (m : Management) : Type 0 where
    pub knows : Knows now member links m.agent
    pub planned : is_static ≡ true → IsPlanned members plans member links m.agent
    pub stays : first.state ≡ Enrolled → m.agent.state ≡ Enrolled
    pub tells : TellsShort m.agent

  by_news : (number : ℕ) (sdu : List ℕ) (word : LinkMessage) (m : Management) (after : Option Management) → IsInRange word → IsSpelled word sdu → IsShort (ToNeighbour word) → OwnIsNewest m.agent word → HandlesSdu now number sdu m (Ok after) → IsSound m → IsSound (or_same m after)
  by_news number sdu word m None range spelled short own h sound = sound
  by_news number sdu word m (Some m') range spelled short own h sound =
      let same : h.0 ≡ word = one_message h.0 word sdu h.1.is_sdu.in_range range h.1.is_sdu.spelled spelled in
      let handles : Handles now number word m m' = subst (λ (k : LinkMessage). Handles now number k m m') same h.2 in
      record {
        knows = handles_knowing now number member links word m m' sound.knows range short.1 own handles;
        planned = λ still. handles_planned members plans member links now number word m m' handles (sound.planned still);
        stays = λ was. handles_enrolled now number word m m' handles (sound.stays was);
        tells = handles_short now number word m m' sound.tells range short handles;
      }

  one_sound : (number : ℕ) (sdu : List ℕ) (word : LinkMessage) (m m' : Management) → IsInRange word → IsSpelled word sdu → IsShort (ToNeighbour word) → OwnIsNewest m.agent word → HandlesOne now number sdu m m' → IsSound m → IsSound m'
  one_sound number sdu word m m' range spelled short own h sound = subst IsSound (sym h.is) (by_news number sdu word m h.after range spelled short own h.handles sound)

-- All of them

-- whatever stands below, all that came to the end at a place is passed
abbrev pub PassAll : Dif → ℕ → Flows → Type 0
PassAll d place flows = (b : Seen) (links : LinksStand d b) → PassesAll d links.lines place flows

-- the DIF stands on some rank
abbrev pub Stands' : Dif → Type 0
Stands' d = (below : Seen) × Stands d below

module _ (what : WhatComes) (d : Dif) (i place number : ℕ) (here : IsLinkEnd d i place number) (g : Management) (is_g : slice_get d.managements i ≡ Some g) (p : IpcProcess) (is_p : slice_get d.processes i ≡ Some p) (member : Member) (is_member : slice_get d.settings.members i ≡ Some member) (alive : d.failed ≡ false) (lines : List Direction) (below : Seen) (h : Holds d lines below) where
  abbrev K : Management → Type 0
  K m = IsSound d.laid.is_static d.settings.members d.laid.links d.clock member p.links g.agent m

  -- what came is a message of a neighbour, or about a flow
  heard_knows : (n : ℕ) (m m' : Management) (entry : Entry) → slice_get here.end.got n ≡ Some entry → HandlesOne d.clock number entry.bytes m m' → IsRunOf d.laid.is_static d.laid.links (turn d i place number here g is_g below h.connected n m) → K m → (message : ManagementMessage) → IsSduOf message entry.bytes → K m'
  heard_knows n m m' entry is one r sound (ToNeighbour word) sdu =
      let comes : ComesNext (turn d i place number here g is_g below h.connected n m) (l d i place number here g is_g below h.connected) (side d i place number here g is_g below h.connected) (its_end d i place number here g is_g below h.connected) m.agent word = record {
        at = turn_at d i place number here g is_g below h.connected n m m' entry is one r;
        text = entry.bytes;
        next = next d i place number here g is_g below h.connected n m m' entry is one r;
        in_range = sdu.in_range;
        spelled = sdu.spelled;
      } in
      let of = what d.laid.is_static d.laid.links (turn d i place number here g is_g below h.connected n m) (l d i place number here g is_g below h.connected) (side d i place number here g is_g below h.connected) (its_end d i place number here g is_g below h.connected) m.agent word r comes in
      one_sound d.laid.is_static d.settings.members d.laid.links d.clock member p.links g.agent number entry.bytes word m m' sdu.in_range sdu.spelled of.short of.own one sound
  heard_knows n m m' entry is one r sound (ToMember flow) text = subst K (sym (one_passed d.clock number entry.bytes flow m m' text one)) sound

  turn_knows : (n : ℕ) (m m' : Management) (entry : Entry) → slice_get here.end.got n ≡ Some entry → HandlesOne d.clock number entry.bytes m m' → IsRunOf d.laid.is_static d.laid.links (turn d i place number here g is_g below h.connected n m) → K m → K m'
  turn_knows n m m' entry is one r sound =
      let what_came = heard d i place number here g is_g below h.connected n m m' entry is one r in
      heard_knows n m m' entry is one r sound what_came.0 what_came.1

  module _ (after : Management) (routes : List Route) (flows : Flows) (handles : HandlesInTurn d.clock number (unpassed_sdus here.end) g after) (are : AreRoutesOf after.agent d.settings.members routes) (passes : PassAll d place flows) (stand : (b : Seen) → LinksStand d b → LinksStand (with_links d flows) b) where
    abbrev d' : Dif
    d' = with_handled d i after p routes flows

    both : K after × IsRunOf d.laid.is_static d.laid.links (turn d i place number here g is_g below h.connected (length here.end.got) after)
    both =
        let whole = (h.connected.standing.journal.whole place here.end here.is_end).taken in
        let own = h.managed.each i member p g is_member is_p is_g in
        let run : IsRunOf d.laid.is_static d.laid.links (turn d i place number here g is_g below h.connected here.end.taken g) = subst (λ (z : MembersSeen). IsRunOf d.laid.is_static d.laid.links z) (sym (first_turn d i place number here g after is_g p is_p routes flows below h.connected)) (h.flooded alive) in
        all_turns d i place number here g is_g below h.connected K turn_knows (drop here.end.taken here.end.got) here.end.taken g after whole refl handles (record { knows = own.knows; planned = own.planned; stays = λ was. was; tells = own.tells }) run

    -- its next hops have queues
    housed : AreHoused (config_of d.settings) d'.processes
    housed =
        let old = h.housed i p is_p in
        set_cases (IsHoused (config_of d.settings)) d.processes i (with_routes p routes) (record {
          cap = old.cap;
          links = old.links;
          queues = λ dst n qos hop known.
              let x = knows_live d.clock member p.links after.agent d.settings.members routes dst n both.0.knows are hop in
              subst (λ (k : ℕ). IsSome (queue_place qos k (process_of p).queues)) x.is_number (old.links x.place qos x.link x.stands x.live known);
          cubes = old.cubes;
          whole = old.whole;
          waits = same_on_live (process_of p) (process_of (with_routes p routes)) refl refl old.waits;
        }) h.housed

    -- all of them were passed
    ends : flows.journal.ends ≡ slice_set d.connections.flows.journal.ends place (record here.end { taken = length here.end.got })
    ends =
        let all = passes below h.connected in
        let same : all.end ≡ here.end = same_Some all.end here.end (sym all.is_end ∙ here.is_end) in
        subst (λ (e : End). flows.journal.ends ≡ slice_set d.connections.flows.journal.ends place (record e { taken = length e.got })) same all.ends

    floods : AreFlooding d'
    floods = subst (λ (z : MembersSeen). IsRunOf d.laid.is_static d.laid.links z) (sym (last_turn d i place number here g after is_g p is_p routes flows below h.connected ends)) both.1

    handled_holds : Holds d' lines below
    handled_holds =
        let stands = handled_flows d i place number here g after is_g p is_p routes flows lines below h in
        let own = h.managed.each i member p g is_member is_p is_g in
        record {
          tied = h.tied;
          standing = stands.stands;
          carrying = stands.carrying;
          numbered = stands.numbered;
          accounted = stands.accounted;
          caused = handled_caused d i place number here g after is_g p is_p routes flows below h.caused;
          written_off = handled_written d i place number here g after is_g p is_p routes flows h.written_off;
          housed = housed;
          managed = managed_both d.laid.is_static d.settings.members d.laid.links d.clock d.processes d.managements i p (with_routes p routes) g after h.managed is_p is_g (λ m is_m. record {
            knows = subst (λ (z : Member). Knows d.clock z p.links after.agent) (same_Some member m (sym is_member ∙ is_m)) both.0.knows;
            planned = λ still. subst (λ (z : Member). IsPlanned d.settings.members d.laid.links z p.links after.agent) (same_Some member m (sym is_member ∙ is_m)) (both.0.planned still);
            bounded = own.bounded;
            routes = are;
            tells = both.0.tells;
          });
          enrolled = enrolled_after d i g after h.enrolled is_g both.0.stays;
          connected = handled_connected d i place number here g after is_g p is_p routes flows below (stand below h.connected);
          flooded = λ still. floods;
        }

    -- what was done
    handled_all : (links : LinksStand d below) → HandlesAll d links.lines i place number d'
    handled_all links = record {
      here = here;
      management = g;
      is_management = is_g;
      after = after;
      handles = handles;
      process = p;
      is_process = is_p;
      routes = routes;
      are_routes = are;
      passes = passes below links;
      only = refl;
    }

    pub handled_does : HandlesHere d lines below i place number d'
    handled_does = ((λ links. handled_all links), handled_holds)

-- The member at a place, wherever the DIF stands

-- the DIF once these are its management connections, its managements, its IPC processes, and the nodes of its enrolled members
abbrev pub with_parts : Dif → Flows → List Management → List IpcProcess → List ℕ → Dif
with_parts d flows managements processes nodes = record d { connections = record d.connections { flows = flows }; managements = managements; processes = processes; enrolled = nodes }

-- the end at its link
pub taken_at : (d : Dif) (place : ℕ) → Stands' d → (end : End) → At d.connections.flows.journal.ends place end → end.taken ≤ length end.got
taken_at d place st end is = (st.1.1.connected.standing.journal.whole place end is).taken

module _ (d : Dif) (i place number : ℕ) (here : IsLinkEnd d i place number) (lt : i < length d.settings.members) where
  pub at_place : place < length d.connections.flows.journal.ends
  at_place = slice_get_within d.connections.flows.journal.ends place here.end here.is_end

  pub handles_done : WhatComes → d.failed ≡ false → (after : Management) (routes : List Route) (flows : Flows) (ms : List Management) (ps : List IpcProcess) (nodes : List ℕ)
      → ((m : Management) (end : End) → slice_get d.managements i ≡ Some m → At d.connections.flows.journal.ends place end → HandlesInTurn d.clock number (unpassed_sdus end) m after) → AreRoutesOf after.agent d.settings.members routes
      → PassAll d place flows → ((b : Seen) → LinksStand d b → LinksStand (with_links d flows) b) → SetsRoutes i routes d.processes ps → ms ≡ slice_set d.managements i after → nodes ≡ nodes_with d i after
      → (lines : List Direction) (below : Seen) → Holds d lines below → HandlesHere d lines below i place number (with_parts d flows ms ps nodes)
  handles_done what alive after routes flows ms ps nodes handles are passes stand sets are_managed are_nodes lines below h =
      let member = has_member d i lt in
      let p = has_process d below i (lines, h) lt in
      let g = has_agent d lines below i lt h in
      let does = handled_does what d i place number here g.0 g.1 p.0 p.1 member.0 member.1 alive lines below h after routes flows (handles g.0 here.end g.1 here.is_end) are passes stand in
      subst (λ (ns : List ℕ). HandlesHere d lines below i place number (with_parts d flows ms ps ns)) (sym are_nodes)
      (subst (λ (ms' : List Management). HandlesHere d lines below i place number (with_parts d flows ms' ps (nodes_with d i after))) (sym are_managed)
      (subst (λ (ps' : List IpcProcess). HandlesHere d lines below i place number (with_parts d flows (slice_set d.managements i after) ps' (nodes_with d i after))) (sym (sets p.0 p.1)) does))

  -- where the end passed them before the member has another management, and other next hops
  pub handles_after : WhatComes → d.failed ≡ false → (after : Management) (routes : List Route) (mid : Dif) (ms : List Management) (ps : List IpcProcess) (nodes : List ℕ)
      → ((m : Management) (end : End) → slice_get d.managements i ≡ Some m → At d.connections.flows.journal.ends place end → HandlesInTurn d.clock number (unpassed_sdus end) m after) → AreRoutesOf after.agent d.settings.members routes
      → PassAll d place mid.connections.flows → ((b : Seen) → LinksStand d b → LinksStand mid b) → mid ≡ with_links d mid.connections.flows → SetsRoutes i routes mid.processes ps → ms ≡ slice_set mid.managements i after → nodes ≡ nodes_with d i after
      → (lines : List Direction) (below : Seen) → Holds d lines below → HandlesHere d lines below i place number (record mid { processes = ps; managements = ms; enrolled = nodes })
  handles_after what alive after routes mid ms ps nodes handles are passes stand whole sets are_managed are_nodes lines below h =
      subst (λ (z : Dif). HandlesHere d lines below i place number (record z { processes = ps; managements = ms; enrolled = nodes })) (sym whole)
      (handles_done what alive after routes mid.connections.flows ms ps nodes handles are passes (λ b links. subst (λ (z : Dif). LinksStand z b) whole (stand b links))
      (subst (λ (qs : List IpcProcess). SetsRoutes i routes qs ps) (ap (λ (z : Dif). z.processes) whole) sets) (are_managed ∙ ap (λ (z : Dif). slice_set z.managements i after) whole) are_nodes lines below h)

  -- where it is as it was
  pub handles_nothing : WhatComes → d.failed ≡ false → (mid : Dif) → ((m : Management) (end : End) → slice_get d.managements i ≡ Some m → At d.connections.flows.journal.ends place end → HandlesInTurn d.clock number (unpassed_sdus end) m m)
      → PassAll d place mid.connections.flows → ((b : Seen) → LinksStand d b → LinksStand mid b) → mid ≡ with_links d mid.connections.flows → (lines : List Direction) (below : Seen) → Holds d lines below → HandlesHere d lines below i place number mid
  handles_nothing what alive mid handles passes stand whole lines below h =
      let member = has_member d i lt in
      let p = has_process d below i (lines, h) lt in
      let g = has_agent d lines below i lt h in
      let own = h.managed.each i member.0 p.0 g.0 member.1 p.1 g.1 in
      handles_after what alive g.0 p.0.routes mid mid.managements mid.processes mid.enrolled
      (λ m end is_m is_end. subst (λ (x : Management). HandlesInTurn d.clock number (unpassed_sdus end) m x) (same_Some m g.0 (sym is_m ∙ g.1)) (handles m end is_m is_end)) own.routes passes stand whole
      (λ q is_q.
      let is_q' : slice_get d.processes i ≡ Some q = ap (λ (z : Dif). slice_get z.processes i) (sym whole) ∙ is_q in
      let same : q ≡ p.0 = same_Some q p.0 (sym is_q' ∙ p.1) in
      subst (λ (x : IpcProcess). mid.processes ≡ slice_set mid.processes i (with_routes q x.routes)) same (sym (slice_set-same mid.processes i q is_q)))
      (sym (slice_set-same mid.managements i g.0 (ap (λ (z : Dif). slice_get z.managements i) whole ∙ g.1)))
      (ap (λ (z : Dif). z.enrolled) whole ∙ nodes_stay d i g.0 g.0 h.enrolled g.1 refl) lines below h

  -- who was enrolled is so still
  pub stays_enrolled : WhatComes → d.failed ≡ false → Stands' d → (after : Management) → ((m : Management) (end : End) → slice_get d.managements i ≡ Some m → At d.connections.flows.journal.ends place end → HandlesInTurn d.clock number (unpassed_sdus end) m after) → StayEnrolled d.enrolled (nodes_with d i after)
  stays_enrolled what alive st after handles =
      let g = has_agent d st.1.0 st.0 i lt st.1.1 in
      nodes_more d i g.0 after st.1.1.enrolled g.1 (turns_enrolled d.clock number (unpassed_sdus here.end) g.0 after (handles g.0 here.end g.1 here.is_end))

  pub handles_leave : Stands' d → (routes : List Route) (ps : List IpcProcess) → SetsRoutes i routes d.processes ps → ChangesProcess (Some i) d.processes ps
  handles_leave st routes ps sets =
      let p = has_process d st.0 i st.1 lt in
      by_process d.processes ps i p.0 (with_routes p.0 routes) p.1 refl (sets p.0 p.1)
