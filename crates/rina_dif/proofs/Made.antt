-- A DIF that was made as the plan of a stack says.
use Rattle.std.proofs.Common.{◌≡◌, ◌∙◌, ℕ, zero, suc, ◌+◌, ◌==◌, ◌⊎◌, ◌-◌, ◌*◌, ◌^◌, ◌<◌, Bool, cond, All, List, [], ◌∷◌, length, map, slice_get, option_map, Option, Some, None, true, false, sym, ap, subst, arith, inl, inr}
use Rattle.std.specs.Prelude.{IsSome}
use Rattle.std.proofs.lemmas.Bool.Decides.{eqb_tells}
use Rattle.std.proofs.lemmas.Bool.{false≢true}
use Rattle.std.proofs.lemmas.Option.{slice_get_within}
use Rattle.rina_base.specs.declared.number.Port.{Port}
use Rattle.rina_iface.specs.declared.ask.Fixed.{Fixed}
use Rattle.rina_iface.specs.declared.ends.End.{End}
use Rattle.rina_iface.specs.Journal.{AreKept}
use Rattle.rina_iface.specs.Seen.{Seen, end_of}
use Rattle.rina_plan.specs.declared.dif.DifPlan.{DifPlan}
use Rattle.rina_plan.specs.declared.dif.MemberPlan.{MemberPlan}
use Rattle.rina_queue.specs.declared.queue.Queued.{Queued}
use Rattle.rina_queue.specs.declared.queue.Queue.{Queue as Waiting}
use Rattle.rina_queue.specs.Queues.{is_queue}
use Rattle.rina_queue.proofs.Places.{first_passes, kept_at}
use Rattle.rina_stack.specs.declared.plan.Plan.{Plan}
use Rattle.rina_stack.specs.Plan.{IsPlan}
use Rattle.rina_data.specs.declared.link.Link.{Link}
use Rattle.rina_data.specs.declared.process.IpcProcess.{IpcProcess}
use Rattle.rina_data.specs.declared.settings.Member.{Member as Kept}
use Rattle.rina_data.specs.declared.settings.Settings.{Settings}
use Rattle.rina_dif_law.specs.Cloud.{IsMine, Waits}
use Rattle.rina_data.specs.Configs.{Member, config_of, member_of}
use Rattle.rina_data.specs.Deciding.{plain, process_of}
use Rattle.rina_data.specs.Process.{Process, Queue, queue_place}
use Rattle.rina_dif_law.specs.Standing.{HasLink, IsConfig, IsInside, IsLinked}
use Rattle.rina_data.specs.Fitting.{IsQos}
use Rattle.rina_dif_law.specs.Numbered.{AreMembers}
use Rattle.rina_data.proofs.Finding.{there}
use Rattle.rina_data.proofs.Plain.{same_place}
use Rattle.rina_ids.specs.Members.{AreUndrawn}
use Rattle.rina_member.specs.Short.{AreNamed}
use Rattle.rina_pci.specs.Spelling.{AreWidths}
use Rattle.rina_dif.specs.declared.dif.Dif.{Dif}
use Rattle.rina_dif.specs.Building.{IsFree}
use Rattle.rina_dif.specs.Holding.{AreWhole, Stands}
use Rattle.rina_dif.specs.Laying.{AreLaid, AreLinkedUp, AreSettings, BindsAll, CanLay, IsLaidIn, IsLinkedUp, IsNew, IsNewProcess, Takes, ends_of, links_from, ports_at}
use Rattle.rina_dif.specs.Planned.{ipc_name, link_fixed, links_in, links_of, members_from, processes_before, settings_by, settings_in, settings_of}
use Rattle.rina_dif.specs.Managing.{AreEnrolledBy, AreManagedBy, AreStarted, states_of}
use Rattle.rina_dif.specs.declared.layout.Layout.{Layout}
use Rattle.rina_member.specs.Start.{first_enrolled}
use Rattle.rina_dif.proofs.Enrolled.{starts_known}
use Rattle.rina_dif.specs.Routing.{AreRouted, HaveFirstRoutes}
use Rattle.rina_dif.proofs.Bare.{IsUntouched, map_at, none_in, start_holds, starts}
use Rattle.rina_dif.proofs.Laid.{same_end, stood_there}
use Rattle.rina_member.proofs.Knowing.{knows_live}
use Rattle.rina_dif.proofs.Managed.{its_agent}
use Rattle.rina_dif.proofs.Routed.{laid_still}
use Rattle.rina_dif.proofs.Sound.{are_members, is_config}
use Rattle.rina_dif.proofs.Linked.{has_id, its_link}
use Rattle.rina_dif.proofs.Putting.{stands_there}
use Rattle.rina_dif.proofs.WaitsOnLive.{none_on_live}
use Rattle.rina_dif.proofs.Started.{are_numbered, first_routed, made_managed, no_plans, started_still}
use Rattle.rina_dif.specs.Connected.{AreConnected}
use Rattle.rina_dif.specs.Shown.{seen_of}
use Rattle.rina_dif.specs.Flooding.{AreFlooding}

-- The links

pub link_on : (n : ℕ) (ports : List Port) (k : ℕ) (link : Link) → slice_get (links_from n ports) k ≡ Some link → slice_get ports k ≡ Some link.port
link_on n [] k link is = absurd cc
link_on n (p ∷ ps) zero link is = (let e = ap (option_map (λ (l : Link). l.port)) is in e)
link_on n (p ∷ ps) (suc k) link is = link_on (n + 1) ps k link is

its_name : (plan : Plan) (d : DifPlan) (n : ℕ) (ms : List MemberPlan) (i : ℕ) (m : Kept) → slice_get (members_from plan d n ms) i ≡ Some m → m.name ≡ ipc_name plan d m.node
its_name plan d n [] i m is = absurd cc
its_name plan d n (x ∷ ms) zero m is =
    let name : Some (ipc_name plan d x.node) ≡ Some m.name = ap (option_map (λ (z : Kept). z.name)) is in
    let node : Some x.node ≡ Some m.node = ap (option_map (λ (z : Kept). z.node)) is in
    let name' : ipc_name plan d x.node ≡ m.name = cc in
    let node' : x.node ≡ m.node = cc in
    sym name' ∙ ap (ipc_name plan d) node'
its_name plan d n (x ∷ ms) (suc i) m is = its_name plan d (n + 1) ms i m is

pub is_node : (node : ℕ) (p : Port) → (p.node == node) ≡ true → p.node ≡ node
is_node node p same = elim (eqb_tells p.node node) [ inl t ↦ t.1 | inr u ↦ absurd (false≢true (sym u.0 ∙ same)) ]

linked : (plan : Plan) (d : DifPlan) (s : Settings) (old new : Seen) (ports : List (Port × Port)) (ps : List IpcProcess) (i : ℕ) (member : Member) (link : Link) → AreSettings plan d s → AreLaid plan d s d.links old new ports ps → slice_get (config_of s).members i ≡ Some member → HasLink (map process_of ps) i link → IsLinked new member.name link.port
linked plan d s old new ports ps i member link are laid is has =
    let m = map_at member_of s.members i member is in
    let p = map_at process_of ps i has.process has.is_process in
    let up = laid.up.each i m.0 p.0 m.1 p.1 in
    let links : has.process.links ≡ links_from 0 (ports_at m.0.node (ends_of ports)) = ap (λ (z : Process). z.links) (sym p.2) ∙ up.links in
    let on = link_on 0 (ports_at m.0.node (ends_of ports)) has.place link (ap (λ (ls : List Link). slice_get ls has.place) (sym links) ∙ has.stands) in
    let at = kept_at (λ (z : Port). z.node == m.0.node) (ends_of ports) has.place link.port on in
    let end = laid.named at.0 link.port at.1.stands in
    let node : link.port.node ≡ m.0.node = is_node m.0.node link.port at.1.passes in
    let name : m.0.name ≡ ipc_name plan d m.0.node = its_name plan d (processes_before plan.difs are.place) d.members i m.0 (ap (λ (z : Settings). slice_get z.members i) (sym are.are) ∙ m.1) in
    let same : ipc_name plan d link.port.node ≡ member.name = ap (ipc_name plan d) node ∙ sym name ∙ ap (λ (z : Member). z.name) m.2 in
    record { end = end.end; here = end.here; app = end.app ∙ same }

-- no PDU waits
pub idle : (s : Settings) (ports : List Port) (ps : List IpcProcess) (i n : ℕ) (item : Queued) → AreLinkedUp s ports ps → Waits (map process_of ps) i n item → ⊥
idle s ports ps i n item up w =
    let p = map_at process_of ps i w.process w.is_process in
    let within = slice_get_within ps i p.0 p.1 in
    let m = there s.members i (let e = up.aligned in omega (arith, within, e)) in
    let linked = up.each i m.0 p.0 m.1 p.1 in
    let q = map_at plain p.0.queues.queues.items w.place w.queue (ap (λ (z : Process). slice_get z.queues w.place) p.2 ∙ w.is_queue) in
    let none : w.queue.items ≡ [] = ap (λ (z : Queue). z.items) (sym q.2) ∙ linked.empty w.place q.0 q.1 in
    none_in w.at item w.queue.items none w.is_item

-- Its queues

-- each link has them
has_place : (s : Settings) (node : ℕ) (ports : List Port) (p : IpcProcess) (place qos : ℕ) (link : Link) → IsLinkedUp s node ports p → slice_get p.links place ≡ Some link → IsQos (config_of s) qos → IsSome (queue_place qos link.number (process_of p).queues)
has_place s node ports p place qos link up is known = subst (λ (o : Option ℕ). IsSome o) (sym (same_place qos link.number p.queues.queues.items)) (up.there place qos link is (up.ids.all qos (has_id s qos known)))

-- a number that has a queue is that of a link
has_whole : (s : Settings) (node : ℕ) (ports : List Port) (p : IpcProcess) → IsLinkedUp s node ports p → AreWhole (config_of s) (process_of p).queues
has_whole s node ports p up number a b some known =
    let qs : List Waiting = p.queues.queues.items in
    let t = stands_there a number qs (subst (λ (o : Option ℕ). IsSome o) (same_place a number qs) some) in
    let q = first_passes (is_queue a number) qs t.place t.found in
    let its : q.0.link ≡ number = its_link a number q.0 q.1.passes in
    let below : q.0.link < length p.links = up.known t.place q.0 q.1.stands in
    let l = there p.links number (omega (arith, below, its)) in
    let numbered : l.0.number ≡ number = are_numbered (ports_at node ports) number l.0 (ap (λ (ls : List Link). slice_get ls number) (sym up.links) ∙ l.1) in
    subst (λ (n : ℕ). IsSome (queue_place b n (process_of p).queues)) numbered (has_place s node ports p number b l.0 up l.1 known)

-- It stands

-- it knows who is enrolled
made_enrolled : (plan : Plan) (i : ℕ) (dif : DifPlan) (d : Dif) (bare : List IpcProcess) → d.settings ≡ settings_by plan i dif → AreMembers (config_of d.settings) → length bare ≡ length d.settings.members → AreStarted dif.is_static d.settings.cubes d.settings.members dif.links dif.rules dif.allow (length d.settings.members) bare d.managements → d.enrolled ≡ map (λ (m : Kept). m.node) (first_enrolled dif.is_static d.settings.members) → AreEnrolledBy dif.is_static d.settings.members d.settings.admits (states_of d.managements) d.enrolled
made_enrolled plan i dif d bare are members aligned started nodes =
    starts_known dif.is_static d.settings.cubes d.settings dif.links dif.rules dif.allow bare d.managements d.enrolled members aligned started nodes
    (λ dynamic. ap (λ (s : Settings). s.admits) are ∙ ap (λ (b : Bool). cond b (2 ^ (8 * dif.widths.cep) - 1) 0) dynamic)

pub made_stands : (plan : Plan) (i : ℕ) (dif : DifPlan) (d : Dif) (old new : Seen) → AreKept new → IsPlan plan → slice_get plan.difs i ≡ Some dif → d.settings ≡ settings_by plan i dif → d.clock ≡ old.now → d.flows.journal.ends ≡ [] → d.flows.conns ≡ [] → (AreWidths d.settings.widths → AreUndrawn d.settings.widths.cep (length d.settings.members) d.ids) → IsFree (config_of d.settings) old → IsLaidIn (config_of d.settings) old new → (ports : List (Port × Port)) (bare : List IpcProcess) → AreNamed d.settings.members → AreLaid plan dif d.settings dif.links old new ports bare → AreStarted dif.is_static d.settings.cubes d.settings.members dif.links dif.rules dif.allow (length d.settings.members) bare d.managements → AreRouted d.settings.members d.managements (length d.managements) bare d.processes → d.laid ≡ record { is_static = dif.is_static; links = dif.links; wait = dif.wait } → d.enrolled ≡ map (λ (m : Kept). m.node) (first_enrolled dif.is_static d.settings.members) → AreConnected (config_of d.settings) d.clock d.connections (seen_of d).processes new → AreFlooding d → Stands d new
made_stands plan i dif d old new kept sound at are clock ends conns undrawn free inside ports bare named was started routed same nodes connected floods =
    let laid = laid_still plan dif d.settings dif.links old new ports d.managements (length d.managements) bare d.processes was routed in
    let g = config_of d.settings in
    let config : IsConfig g = subst (λ (s : Settings). IsConfig (config_of s)) (sym are) (is_config plan i dif sound at) in
    let fresh = λ (port : Port) (end : End) (here : end_of new port ≡ Some end) (mine : IsMine g.members end.app ⊎ IsMine g.members end.peer) (P : Type 0) (then : end_of old port ≡ None → P).
    stood_there old port P (λ e0 was. absurd (let same = same_end new port e0 end (inside.laid.stays port e0 was) here in free port end (was ∙ ap (λ (z : End). Some z) same) mine)) then in
    let start = starts d new ends conns config (clock ∙ sym inside.laid.clock) laid.up.aligned
    (λ k member link is has. linked plan dif d.settings old new ports d.processes k member link (record { place = i; stands = at; are = are }) laid is has)
    (λ port end here mine. fresh port end here mine (IsInside g new port end) (λ none. inside.inside port end here none))
    (λ port end here mine. fresh port end here (inl mine) (end.sent ≡ []) (λ none. (inside.laid.fresh port end here none).sent))
    (λ k n item waits. idle d.settings (ends_of ports) d.processes k n item laid.up waits) in
    let untouched : IsUntouched d new = record {
      unread = λ port end here mine. fresh port end here (inl mine) (end.taken ≡ 0) (λ none. (inside.laid.fresh port end here none).taken);
      clean = λ k p is.
          let within = slice_get_within d.processes k p is in
          let m = there d.settings.members k (let e = laid.up.aligned in omega (arith, within, e)) in
          (laid.up.each k m.0 p m.1 is).ledger;
    } in
    let members = subst (λ (s : Settings). AreMembers (config_of s)) (sym are) (are_members plan i dif sound at) in
    let managed : AreManagedBy dif.is_static d.settings.members dif.links d.clock d.processes d.managements = made_managed plan i dif d old new ports bare sound at are config members named was started routed in (
      [],
      start_holds d new kept ends conns start untouched members (undrawn config.widths) (λ k p is.
          let within = slice_get_within d.processes k p is in
          let m = there d.settings.members k (let e = laid.up.aligned in omega (arith, within, e)) in
          let up = laid.up.each k m.0 p m.1 is in
          record {
            cap = up.room;
            links = λ place qos link stands live known. has_place d.settings m.0.node (ends_of ports) p place qos link up stands known;
            queues = λ dst link qos hop known.
                let g = its_agent d.settings.members d.managements k m.0 managed.aligned m.1 in
                let one = managed.each k m.0 p g.0 m.1 is g.1 in
                let own = knows_live d.clock m.0 p.links g.0.agent d.settings.members p.routes dst link one.knows one.routes hop in
                subst (λ (n : ℕ). IsSome (queue_place qos n (process_of p).queues)) own.is_number (has_place d.settings m.0.node (ends_of ports) p own.place qos own.link up own.stands known);
            cubes = λ qos known. up.ids.all qos (has_id d.settings qos known);
            whole = has_whole d.settings m.0.node (ends_of ports) p up;
            waits = none_on_live (process_of p) (λ place queue there. (let q = map_at plain p.queues.queues.items place queue there in ap (λ (z : Queue). z.items) (sym q.2) ∙ up.empty place q.0 q.1));
          }) (subst (λ (l : Layout). AreManagedBy l.is_static d.settings.members l.links d.clock d.processes d.managements) (sym same) managed) (subst (λ (l : Layout). AreEnrolledBy l.is_static d.settings.members d.settings.admits (states_of d.managements) d.enrolled) (sym same) (made_enrolled plan i dif d bare are members was.up.aligned started nodes)) connected floods,
    )

-- What it is

pub its_settings : (plan : Plan) (i : ℕ) (dif : DifPlan) (s : Settings) → slice_get plan.difs i ≡ Some dif → s ≡ settings_by plan i dif → settings_of plan i ≡ Some s
its_settings plan i dif s at are = ap (settings_in plan i) at ∙ ap (λ (z : Settings). Some z) (sym are)

pub its_links : (plan : Plan) (i : ℕ) (dif : DifPlan) → slice_get plan.difs i ≡ Some dif → links_of plan i ≡ map (link_fixed plan dif) dif.links
its_links plan i dif at = ap (links_in plan) at

new_process : (s : Settings) (node : ℕ) (ports : List Port) (p : IpcProcess) → IsLinkedUp s node ports p → IsNewProcess (config_of s) node ports (process_of p)
new_process s node ports p up = record {
  links = up.links;
  queues = record {
    empty = λ place queue is. (let q = map_at plain p.queues.queues.items place queue is in ap (λ (z : Queue). z.items) (sym q.2) ∙ up.empty place q.0 q.1);
    there = λ place qos link is known. has_place s node ports p place qos link up is known;
  };
  ledger = up.ledger;
}

one_plan : (x y : DifPlan) → Some x ≡ Some y → x ≡ y
one_plan x y same = cc

pub made_new : (plan : Plan) (i : ℕ) (dif : DifPlan) (d : Dif) (old new : Seen) → IsPlan plan → slice_get plan.difs i ≡ Some dif → d.settings ≡ settings_by plan i dif → d.clock ≡ old.now → d.failed ≡ false → d.flows.journal.ends ≡ [] → d.flows.conns ≡ [] → d.waiting.items ≡ [] → d.asks.items ≡ [] → d.names ≡ [] → (ports : List (Port × Port)) (bare : List IpcProcess) → AreNamed d.settings.members → AreLaid plan dif d.settings dif.links old new ports bare → AreStarted dif.is_static d.settings.cubes d.settings.members dif.links dif.rules dif.allow (length d.settings.members) bare d.managements → AreRouted d.settings.members d.managements (length d.managements) bare d.processes → d.enrolled ≡ map (λ (m : Kept). m.node) (first_enrolled dif.is_static d.settings.members) → IsNew plan i d old new
made_new plan i dif d old new sound at are clock alive ends conns waiting asks names ports bare named was started routed nodes =
    let laid = laid_still plan dif d.settings dif.links old new ports d.managements (length d.managements) bare d.processes was routed in
    let config : IsConfig (config_of d.settings) = subst (λ (s : Settings). IsConfig (config_of s)) (sym are) (is_config plan i dif sound at) in
    let members : AreMembers (config_of d.settings) = subst (λ (s : Settings). AreMembers (config_of s)) (sym are) (are_members plan i dif sound at) in
    let managed : AreManagedBy dif.is_static d.settings.members dif.links d.clock d.processes d.managements = made_managed plan i dif d old new ports bare sound at are config members named was started routed in
    let so = started_still dif.is_static d.settings.cubes d.settings.members dif.links dif.rules dif.allow bare d.processes d.managements started routed in
    record {
      settings = its_settings plan i dif d.settings at are;
      clock = clock;
      alive = alive;
      ports = ports;
      bound = subst (λ (fs : List Fixed). BindsAll old fs ports new) (sym (its_links plan i dif at)) laid.bound;
      processes = λ k member p is here. new_process d.settings member.node (ends_of ports) p (laid.up.each k member p is here);
      queues = λ k p is.
          let within = slice_get_within d.processes k p is in
          let m = there d.settings.members k (let e = laid.up.aligned in omega (arith, within, e)) in
          let up = laid.up.each k m.0 p m.1 is in
          record { cap = up.room; cubes = up.ids };
      routed = λ dif' at'. subst (λ (x : DifPlan). HaveFirstRoutes d.settings.members x.links d.processes) (one_plan dif dif' (sym at ∙ at')) (first_routed dif.is_static d.settings.cubes d.settings.members dif.links dif.rules dif.allow d.clock d.processes d.managements (no_plans plan i dif sound at) managed so);
      managed = λ dif' at'. subst (λ (x : DifPlan). AreStarted x.is_static d.settings.cubes d.settings.members x.links x.rules x.allow (length d.settings.members) d.processes d.managements) (one_plan dif dif' (sym at ∙ at')) so;
      enrolled = λ dif' at'. subst (λ (x : DifPlan). d.enrolled ≡ map (λ (m : Kept). m.node) (first_enrolled x.is_static d.settings.members)) (one_plan dif dif' (sym at ∙ at')) nodes;
      ends = ends;
      conns = conns;
      waiting = waiting;
      asks = asks;
      names = names;
    }

pub made_takes : (plan : Plan) (i : ℕ) (dif : DifPlan) (s : Settings) (below : Seen) → slice_get plan.difs i ≡ Some dif → s ≡ settings_by plan i dif → CanLay plan i below → All (Takes below s.pdu) (map (link_fixed plan dif) dif.links)
made_takes plan i dif s below at are can = subst (λ (fs : List Fixed). All (Takes below s.pdu) fs) (its_links plan i dif at) (can.takes s (its_settings plan i dif s at are))
