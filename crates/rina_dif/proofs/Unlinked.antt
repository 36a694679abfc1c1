-- A DIF that loses a link holds.
use Rattle.std.proofs.Common.{◌≡◌, ◌∙◌, ℕ, ◌<◌, ◌==◌, ◌&&◌, Bool, true, false, cond, List, [], ◌∷◌, get_or, length, map, slice_get, slice_set, set-set, Option, Some, None, Result, Ok, Err, refl, sym, ap, subst, arith, inl, inr}
use Rattle.std.specs.Prelude.{Contains, IfSome, IsSome, OnErr, position}
use Rattle.std.proofs.lemmas.Bool.{false≢true}
use Rattle.std.proofs.lemmas.Option.{slice_get-get_or, slice_get_read, slice_get_within}
use Rattle.rina_member.specs.declared.management.Management.{Management}
use Rattle.rina_agent.specs.declared.agent.Agent.{Agent}
use Rattle.rina_agent.specs.Rows.{lost as loses_link}
use Rattle.rina_base.specs.declared.memory.Memory.{Memory}
use Rattle.rina_base.specs.declared.number.Port.{Port}
use Rattle.rina_iface.specs.Seen.{Seen}
use Rattle.rina_iface.proofs.Changed.{set_at, slice_get-set_same}
use Rattle.rina_law.specs.Direction.{Direction}
use Rattle.rina_data.specs.declared.link.Link.{Link}
use Rattle.rina_data.specs.declared.link.Route.{Route}
use Rattle.rina_data.specs.declared.loss.Lost.{Lost}
use Rattle.rina_data.specs.declared.process.IpcProcess.{IpcProcess}
use Rattle.rina_data.specs.declared.settings.Member.{Member}
use Rattle.rina_data.specs.Configs.{Config, config_of}
use Rattle.rina_data.specs.Deciding.{process_of, queue_settings, QueueSettings}
use Rattle.rina_dif_law.specs.Dif.{DifSeen, with_process}
use Rattle.rina_account.specs.declared.ledger.Off.{Off}
use Rattle.rina_data.specs.Process.{Process, Queue, queue_place, with_offs}
use Rattle.rina_dif_law.specs.Losing.{Loses}
use Rattle.rina_data.specs.Losing.{LosesAt, without_items, without_link}
use Rattle.rina_dif_law.proofs.Accounting.{lost_accounted}
use Rattle.rina_data.proofs.Finding.{there}
use Rattle.rina_dif_law.proofs.Linkless.{lost_carries, lost_numbered, lost_stands}
use Rattle.rina_dif_law.proofs.Warranted.{lost_written}
use Rattle.rina_dif.specs.declared.dif.Dif.{Dif}
use Rattle.rina_dif.specs.Holding.{AreHoused, AreWhole, HasQueues, HaveQueues, Holds, IsHoused, Stands, WaitsOnLive}
use Rattle.rina_member.specs.Knowing.{AreRoutesOf, Knows}
use Rattle.rina_dif.specs.Shown.{seen_of}
use Rattle.rina_dif.specs.declared.processes.LinkLoss.{LinkLoss}
use Rattle.rina_dif.specs.Closing.{ClosesIn, ClosesOn, FindsOpen, held_at}
use Rattle.rina_dif.specs.Unlinking.{FailsWith, FindsEnd, FindsLostAt, FindsNoneLeft, LosesAs, LosesIn, LosesLink, LosesOr, LosesThenCloses, LosesWith, TellsNoneLeft, links_without, with_lost}
use Rattle.rina_flows.specs.declared.flows.Flows.{Flows}
use Rattle.rina_dif.proofs.Closing.{HasClosed, link_closed, open_conn, open_end}
use Rattle.rina_dif.proofs.Causing.{process_caused}
use Rattle.rina_dif.proofs.Keeping.{home_set, house_is, position_map, same_house, set_cases}
use Rattle.rina_dif.proofs.Leaves.{has_process, shown_at, stepped}
use Rattle.rina_member.proofs.Knowing.{knows_live}
use Rattle.rina_member.proofs.Losing.{loses_enrolled}
use Rattle.rina_dif.proofs.Enrolled.{lost_in, same_enrolled}
use Rattle.rina_dif.proofs.Managed.{IsLoss, IsWithout, its_agent, loses_managed, managed_lost}
use Rattle.rina_dif.proofs.WaitsOnLive.{lost_on_live}
use Rattle.rina_dif.proofs.Settling.{holds_unseen, unseen}
use Rattle.rina_channel.proofs.Frame.{other_pdus_stand}
use Rattle.rina_channel.proofs.Leaving.{losing_leaves}
use Rattle.rina_dif.specs.Connected.{AreConnected, channels_seen}
use Rattle.rina_dif.proofs.Connected.{kept_by}
use Rattle.rina_dif.proofs.Flooding.{lost_floods}

same_some : {X : Type 0} (o : Option X) (a b : X) → o ≡ Some a → o ≡ Some b → a ≡ b
same_some o a b h g = cc

pub loses_one : (loss : LinkLoss) (r : Result (Unit {0}) Memory) (at : ℕ) (links links' : Flows) (ps : List IpcProcess) (x x' : IpcProcess) → at < length ps → x ≡ get_or ps at x → LosesOr loss r links (process_of x) links' (process_of x') → queue_settings x' ≡ queue_settings x → LosesIn loss r at links ps links' (slice_set ps at x')
loses_one loss r at links links' ps x x' lt read loses room p is =
    let here : slice_get ps at ≡ Some x = slice_get_read ps (length ps) at x refl lt read in
    let same : x ≡ p = same_some (slice_get ps at) x p here is in
    (x', subst (λ (z : IpcProcess). LosesOr loss r links (process_of z) links' (process_of x')) same loses, subst (λ (z : IpcProcess). queue_settings x' ≡ queue_settings z) same room, refl)

-- Its queues keep their places

-- what a queue is for
record For : Type 0 where
  link : ℕ
  qos : ℕ

abbrev for_of : Queue → For
for_of q = record { link = q.link; qos = q.qos }

for_if : (b : Bool) (q : Queue) → for_of (cond b (record q { items = [] }) q) ≡ for_of q
for_if true q = refl
for_if false q = refl

for_all : (link : Link) (qs : List Queue) → map for_of (map (without_items link) qs) ≡ map for_of qs
for_all link [] = refl
for_all link (q ∷ qs) = ap (λ (z : For). z ∷ map for_of (map (without_items link) qs)) (for_if (q.link == link.number) q) ∙ ap (λ (zs : List For). for_of q ∷ zs) (for_all link qs)

emptied_places : (qos n : ℕ) (link : Link) (qs : List Queue) → queue_place qos n (map (without_items link) qs) ≡ queue_place qos n qs
emptied_places qos n link qs =
    let is = λ (z : For). (z.link == n) && (z.qos == qos) in
    sym (position_map for_of is (map (without_items link) qs)) ∙ ap (position is) (for_all link qs) ∙ position_map for_of is qs

whole_after : (g : Config) (link : Link) (qs : List Queue) → AreWhole g qs → AreWhole g (map (without_items link) qs)
whole_after g link qs whole number a b some known =
    let before : IsSome (queue_place a number qs) = subst (λ (o : Option ℕ). IsSome o) (emptied_places a number link qs) some in
    subst (λ (o : Option ℕ). IsSome o) (sym (emptied_places b number link qs)) (whole number a b before known)

-- The next hops are by live links, which have their queues

have_after : (g : Config) (p : Process) (place : ℕ) (link : Link) (routes : List Route) → slice_get p.links place ≡ Some link → HaveQueues g p → HaveQueues g (without_link place link routes p)
have_after g p place link routes is have k qos l at live known = elim (set_at p.links place k link (record link { live = false }) l is at) [
  | inl t ↦ absurd (false≢true (ap (λ (z : Link). z.live) (sym t.1) ∙ live))
  | inr f ↦ subst (λ (o : Option ℕ). IsSome o) (sym (emptied_places qos l.number link p.queues)) (have k qos l f.1 live known)
]

hop_after : (g : Config) (now : ℕ) (member : Member) (agent : Agent) (members : List Member) (p : Process) → HaveQueues g p → Knows now member p.links agent → AreRoutesOf agent members p.routes → HasQueues g p
hop_after g now member agent members p have knows are dst n qos hop known =
    let l = knows_live now member p.links agent members p.routes dst n knows are hop in
    subst (λ (m : ℕ). IsSome (queue_place qos m p.queues)) l.is_number (have l.place qos l.link l.stands l.live known)

housed_after : (g : Config) (ps : List IpcProcess) (at : ℕ) (p p' : IpcProcess) (place : ℕ) (link : Link) (routes : List Route) (now : ℕ) (member : Member) (agent : Agent) (members : List Member) → AreHoused g ps → slice_get ps at ≡ Some p → queue_settings p' ≡ queue_settings p → slice_get p.links place ≡ Some link → process_of p' ≡ without_link place link routes (process_of p)
    → Knows now member (slice_set p.links place (record link { live = false })) agent → AreRoutesOf agent members routes → AreHoused g (slice_set ps at p')
housed_after g ps at p p' place link routes now member agent members housed is room there new knows are =
    let old = housed at p is in
    let have = have_after g (process_of p) place link routes there old.links in
    let has = hop_after g now member agent members (without_link place link routes (process_of p)) have knows are in
    set_cases (IsHoused g) ps at p' (record {
      cap = ap (λ (s : QueueSettings). s.cap) room ∙ old.cap;
      links = subst (HaveQueues g) (sym new) have;
      queues = subst (HasQueues g) (sym new) has;
      cubes = λ qos known. subst (λ (ids : List ℕ). Contains ids qos) (sym (ap (λ (s : QueueSettings). s.cubes) room)) (old.cubes qos known);
      whole = subst (λ (z : Process). AreWhole g z.queues) (sym new) (whole_after g link (process_of p).queues old.whole);
      waits = subst WaitsOnLive (sym new) (lost_on_live (process_of p) place link routes there old.waits);
    }) housed

-- The DIF holds

-- what is known of a DIF that lost the link at a place of the IPC process at a place
pub record HasLost (d : Dif) (lines : List Direction) (below : Seen) (at place number : ℕ) (d' : Dif) : Type 0 where
  pub process : IpcProcess
  pub is_process : slice_get d.processes at ≡ Some process
  pub link : Link
  pub stands : slice_get process.links place ≡ Some link
  pub loses : LosesLink d below at number (seen_of d')
  pub links_are : links_without loses.loses.process.links loses.loses.place loses.loses.link ≡ links_without process.links place link
  pub port_is : loses.loses.link.port ≡ link.port
  pub holds : Holds d' lines below

pub link_lost : (d : Dif) (lines : List Direction) (below : Seen) (at : ℕ) (lost : Lost) (routes : List Route) (member : Member) (p p' : IpcProcess) (g g' : Management) → slice_get d.settings.members at ≡ Some member → slice_get d.processes at ≡ Some p → slice_get d.managements at ≡ Some g → loses_link g.agent d.clock lost.number ≡ Ok g'.agent → AreRoutesOf g'.agent d.settings.members routes
    → LosesAt lost.place routes (process_of p) (process_of p') → queue_settings p' ≡ queue_settings p → Holds d lines below → FindsLostAt d below at (Some lost) → HasLost d lines below at lost.place lost.number (record d { processes = slice_set d.processes at p'; managements = slice_set d.managements at g' })
link_lost d lines below at lost routes member p p' g g' is_member is is_g goes are loses room h finds =
    let f = finds p is in
    let link : Link = f.0 in
    let there = f.1.lost.stands in
    let new = loses link there in
    let members = d.settings.members in
    let plans = d.laid.links in
    let loss : IsLoss d.clock members g g' link routes = record { loses = subst (λ (n : ℕ). loses_link g.agent d.clock n ≡ Ok g'.agent) f.2 goes; routes = are } in
    let known : Knows d.clock member (links_without p.links lost.place link) g'.agent = loses_managed d.laid.is_static members plans d.clock d.processes d.managements at member p g g' lost.place link routes h.managed is_member is is_g there f.1.lost.live loss in
    let ps : List IpcProcess = slice_set d.processes at p' in
    let mid : Dif = record d { processes = ps; managements = slice_set d.managements at g' } in
    let d' : DifSeen = seen_of mid in
    let gone : Loses (seen_of d) below at lost.number routes d' = record { process = process_of p; is_process = shown_at d at p is; place = lost.place; link = link; first = f.1; number_is = f.2; new_is = stepped d at p' ps refl ∙ ap (with_process (seen_of d) at) new } in
    record {
      process = p;
      is_process = is;
      link = link;
      stands = there;
      loses = record { routes = routes; loses = gone; management = g; is_management = is_g; after = g'.agent; told = goes; next_hops = are };
      links_are = refl;
      port_is = refl;
      holds = record {
        tied = h.tied;
        standing = lost_stands (seen_of d) lines below at lost.number routes d' h.standing gone;
        carrying = lost_carries (seen_of d) lines below at lost.number routes d' h.carrying gone;
        numbered = lost_numbered (seen_of d) below at lost.number routes d' h.numbered gone;
        accounted = lost_accounted (seen_of d) lines below at lost.number routes d' h.accounted gone;
        caused = process_caused (seen_of d) d' below at _ gone.new_is h.caused;
        written_off = lost_written (seen_of d) lines below at lost.number routes d' h.standing h.written_off gone;
        housed = housed_after (config_of d.settings) d.processes at p p' lost.place link routes d.clock member g'.agent members h.housed is room there new known are;
        managed = managed_lost d.laid.is_static members plans d.clock d.processes d.managements at member p p' g g' lost.place link routes h.managed is_member is is_g there f.1.lost.live loss (ap (λ (z : Process). z.links) new) (ap (λ (z : Process). z.routes) new);
        enrolled = same_enrolled d at g g' h.enrolled is_g (lost_in d.clock lost.number g.agent g'.agent goes) (loses_enrolled d.clock lost.number g.agent g'.agent goes);
        connected = kept_by (config_of d.settings) d.clock d.connections (seen_of d).processes d'.processes below (λ may. losing_leaves (seen_of d) below at lost.number routes d' gone) h.connected;
        flooded = λ alive. lost_floods d below at lost.number member p p' g g' link h.connected is_member is_g (record { is = is; place = lost.place; stands = there; live = f.1.lost.live; numbers = (h.managed.each at member p g is_member is is_g).knows.apart; links_are = ap (λ (z : Process). z.links) new }) (sym f.2) goes (h.flooded alive);
      };
    }

-- the link is lost, and the open end of its management connection closes
module _ (d : Dif) (lines : List Direction) (below : Seen) (at : ℕ) (lost : Lost) (loss : LinkLoss) (more : ℕ) (member : Member) (p p' : IpcProcess) (flows : Flows) (g g' : Management) (place_is : loss.place ≡ lost.place) (clock_is : loss.now ≡ d.clock) (is_member : slice_get d.settings.members at ≡ Some member) (is : slice_get d.processes at ≡ Some p) (is_g : slice_get d.managements at ≡ Some g)
    (goes : loses_link g.agent d.clock lost.number ≡ Ok g'.agent) (are : AreRoutesOf g'.agent d.settings.members loss.routes) (s : LosesThenCloses loss more d.connections.flows (process_of p) flows (process_of p')) (room : queue_settings p' ≡ queue_settings p) (ends : FindsEnd d at lost.place loss.end) (h : Holds d lines below) (finds : FindsLostAt d below at (Some lost)) where
  -- the IPC process between the two
  abbrev pub half : IpcProcess
  half = record p' { ledger = s.ledger }

  abbrev pub between : Dif
  between = record d { processes = slice_set d.processes at half; managements = slice_set d.managements at g' }

  abbrev pub after : Dif
  after = record d { connections = record d.connections { flows = flows }; processes = slice_set d.processes at p'; managements = slice_set d.managements at g' }

  pub first_lost : HasLost d lines below at lost.place lost.number between
  first_lost = link_lost d lines below at lost loss.routes member p half g g' is_member is is_g goes are (subst (λ (k : ℕ). LosesAt k loss.routes (process_of p) (process_of half)) place_is s.loses) room h finds

  half_there : slice_get between.processes at ≡ Some half
  half_there = slice_get-set_same d.processes at p half is

  pub then_closed : HasClosed between lines below at half first_lost.link.port flows p'.ledger (held_at loss.end d.connections.flows)
  then_closed =
      let fits = s.fits in
      link_closed between lines below at half first_lost.link.port loss.end flows p'.ledger s.room first_lost.holds half_there (ends first_lost.process first_lost.link first_lost.is_process first_lost.stands) (omega (arith, fits)) (subst (λ (now : ℕ). ClosesIn now loss.end d.connections.flows s.ledger s.room flows p'.ledger) clock_is s.closes)

  twice : slice_set between.processes at (record half { ledger = p'.ledger }) ≡ slice_set d.processes at p'
  twice = set-set d.processes at half p'

  pub after_holds : Holds after lines below
  after_holds = subst (λ (qs : List IpcProcess). Holds (record d { connections = record d.connections { flows = flows }; processes = qs; managements = slice_set d.managements at g' }) lines below) twice then_closed.holds

  -- what is seen of it
  pub after_seen : seen_of after ≡ with_lost (seen_of d) at first_lost.loses.loses.place first_lost.loses.loses.link first_lost.loses.routes first_lost.loses.loses.process then_closed.offs
  after_seen =
      let gone = first_lost.loses.loses in
      let without : Process = without_link gone.place gone.link first_lost.loses.routes gone.process in
      let half_is : process_of half ≡ without = same_some (slice_get (seen_of between).processes at) (process_of half) without (shown_at between at half half_there) (ap (λ (z : DifSeen). slice_get z.processes at) gone.new_is ∙ slice_get-set_same (seen_of d).processes at gone.process without gone.is_process) in
      let whole : process_of p' ≡ with_offs (process_of half) then_closed.offs = ap (λ (xs : List Off). record (process_of half) { ledger = xs }) then_closed.ledger_is in
      stepped d at p' (slice_set d.processes at p') refl ∙ ap (with_process (seen_of d) at) (whole ∙ ap (λ (z : Process). with_offs z then_closed.offs) half_is)

  -- the flows fail with it, or none does
  pub lost_with : (node : ℕ) (new : Dif) → new.connections ≡ after.connections → FailsWith (links_without first_lost.process.links lost.place first_lost.link) below first_lost.link.port lines node (seen_of after) (seen_of new) → LosesWith d lines below at node lost.number new
  lost_with node new same fails = record {
    between = seen_of between;
    loses = first_lost.loses;
    offs = then_closed.offs;
    closes = λ links. (
        let gone = first_lost.loses in
        let leaves = losing_leaves (seen_of d) below at lost.number gone.routes (seen_of between) gone.loses in
        let kept : AreConnected (config_of d.settings) d.clock d.connections (seen_of between).processes below = record {
          may = links.may;
          lines = links.lines;
          tied = links.tied;
          standing = other_pdus_stand (channels_seen (config_of d.settings) d.clock d.connections) links.lines (seen_of d).processes (seen_of between).processes below links.standing leaves;
          paired = links.paired;
          named = links.named;
          each = λ i n q live. links.each i n q (leaves.live i n q live);
        } in
        let there : ClosesOn (config_of d.settings) d.clock links.lines gone.loses.link.port then_closed.offs d.connections after.connections = subst (λ (port : Port). ClosesOn (config_of d.settings) d.clock links.lines port then_closed.offs d.connections after.connections) (sym first_lost.port_is) (then_closed.closes kept) in
        subst (ClosesOn (config_of d.settings) d.clock links.lines gone.loses.link.port then_closed.offs d.connections) (sym same) there);
    fails =
        let gone = first_lost.loses.loses in
        let F : List Link → Port → DifSeen → Type 0 = λ ls port z. FailsWith ls below port lines node z (seen_of new) in
        subst (λ (ls : List Link). F ls gone.link.port (with_lost (seen_of d) at gone.place gone.link first_lost.loses.routes gone.process then_closed.offs)) (sym first_lost.links_are)
        (subst (λ (port : Port). F (links_without first_lost.process.links lost.place first_lost.link) port (with_lost (seen_of d) at gone.place gone.link first_lost.loses.routes gone.process then_closed.offs)) (sym first_lost.port_is)
        (subst (F (links_without first_lost.process.links lost.place first_lost.link) first_lost.link.port) after_seen fails));
  }

-- the link that is lost is one of its links
pub lost_within : (d : Dif) (below : Seen) (at : ℕ) (lost : Lost) → FindsLostAt d below at (Some lost) → (p : IpcProcess) → slice_get d.processes at ≡ Some p → lost.place < length p.links
lost_within d below at lost finds p is = (let f = finds p is in slice_get_within p.links lost.place f.0 f.1.lost.stands)

-- an allocation failed
pub keeps_links : (d : Dif) (lines : List Direction) (below : Seen) (at : ℕ) (p p' : IpcProcess) (ps : List IpcProcess) → slice_get d.processes at ≡ Some p → process_of p' ≡ process_of p → queue_settings p' ≡ queue_settings p → ps ≡ slice_set d.processes at p' → Holds d lines below → (seen_of (record d { processes = ps }) ≡ seen_of d) × Holds (record d { processes = ps }) lines below
keeps_links d lines below at p p' ps is same room new h =
    let seen = unseen d at p p' ps is same new in
    let house = home_set d lines below at p p' ps h is room (house_is (process_of p) (process_of p) (process_of p') same (same_house (process_of p))) new in
    (seen, holds_unseen d ps lines below seen house h)

pub has_member : (d : Dif) (at : ℕ) → at < length d.settings.members → (m : Member) × (slice_get d.settings.members at ≡ Some m)
has_member d at lt = there d.settings.members at lt

-- the management of a member of the DIF
pub has_agent : (d : Dif) (lines : List Direction) (below : Seen) (at : ℕ) → at < length d.settings.members → Holds d lines below → (g : Management) × (slice_get d.managements at ≡ Some g)
has_agent d lines below at lt h = (let m = has_member d at lt in its_agent d.settings.members d.managements at m.0 h.managed.aligned m.1)

-- it is there
pub agent_within : (d : Dif) (below : Seen) (at : ℕ) → at < length d.settings.members → Stands d below → at < length d.managements
agent_within d below at lt st = (let g = has_agent d st.0 below at lt st.1 in slice_get_within d.managements at g.0 g.1)

-- a link is lost, and no flow fails
pub link_loses : (d : Dif) (at : ℕ) (lost : Lost) (loss : LinkLoss) (g' : Management) (flows : Flows) (ps : List IpcProcess) → loss.place ≡ lost.place → loss.now ≡ d.clock → at < length d.settings.members → IsWithout d at lost.number g' → AreRoutesOf g'.agent d.settings.members loss.routes → FindsEnd d at lost.place loss.end → LosesIn loss (Ok tt) at d.connections.flows d.processes flows ps
    → (node : ℕ) (lines : List Direction) (below : Seen) → Holds d lines below → FindsLostAt d below at (Some lost) → FindsNoneLeft d below at lost.place None → LosesAs d lines below at node lost.number (Ok tt) (record d { connections = record d.connections { flows = flows }; processes = ps; managements = slice_set d.managements at g' })
link_loses d at lost loss g' flows ps place_is clock_is lt goes are ends loses node lines below h finds left =
    let p = has_process d below at (lines, h) lt in
    let x = loses p.0 p.1 in
    let m = has_member d at lt in
    let g = has_agent d lines below at lt h in
    let l = first_lost d lines below at lost loss 0 m.0 p.0 x.0 flows g.0 g' place_is clock_is m.1 p.1 g.1 (goes g.0 g.1) are x.1 x.2 ends h finds in
    let d' : Dif = after d lines below at lost loss 0 m.0 p.0 x.0 flows g.0 g' place_is clock_is m.1 p.1 g.1 (goes g.0 g.1) are x.1 x.2 ends h finds in
    let w = lost_with d lines below at lost loss 0 m.0 p.0 x.0 flows g.0 g' place_is clock_is m.1 p.1 g.1 (goes g.0 g.1) are x.1 x.2 ends h finds node d' refl (inr (left l.process l.link l.is_process l.stands, refl)) in
    subst (λ (qs : List IpcProcess). LosesAs d lines below at node lost.number (Ok tt) (record d { connections = record d.connections { flows = flows }; processes = qs; managements = slice_set d.managements at g' })) (sym x.3) (w, after_holds d lines below at lost loss 0 m.0 p.0 x.0 flows g.0 g' place_is clock_is m.1 p.1 g.1 (goes g.0 g.1) are x.1 x.2 ends h finds)

-- the connections are as they were, the IPC process at a place too, and no other does anything
abbrev pub StaysIn : ℕ → Flows → List IpcProcess → Flows → List IpcProcess → Type 0
StaysIn at links old links' new = (p : IpcProcess) → slice_get old at ≡ Some p → (p' : IpcProcess) × ((links' ≡ links) × (process_of p' ≡ process_of p)) × (queue_settings p' ≡ queue_settings p) × (new ≡ slice_set old at p')

-- an allocation failed, and nothing changes
pub link_stays : (d : Dif) (at : ℕ) (lost : Lost) (r : Result (Unit {0}) Memory) (flows : Flows) (ps : List IpcProcess) → at < length d.settings.members → StaysIn at d.connections.flows d.processes flows ps → (e : Memory) → r ≡ Err e
    → (node : ℕ) (lines : List Direction) (below : Seen) → Holds d lines below → LosesAs d lines below at node lost.number r (record d { connections = record d.connections { flows = flows }; processes = ps })
link_stays d at lost r flows ps lt stays e is node lines below h =
    let p = has_process d below at (lines, h) lt in
    let x = stays p.0 p.1 in
    subst (λ (v : Result (Unit {0}) Memory). LosesAs d lines below at node lost.number v (record d { connections = record d.connections { flows = flows }; processes = ps })) (sym is)
    (subst (λ (f : Flows). LosesAs d lines below at node lost.number (Err e) (record d { connections = record d.connections { flows = f }; processes = ps })) (sym x.1.0) (keeps_links d lines below at p.0 x.0 ps p.1 x.1.1 x.2 x.3 h))

-- the open end of its management connection is there
found_open : (d : Dif) (at : ℕ) (lost : Lost) (end : Option ℕ) → ((below : Seen) × Stands d below × FindsLostAt d below at (Some lost)) → at < length d.settings.members → FindsEnd d at lost.place end → (port : Port) × FindsOpen d.connections port end
found_open d at lost end f lt ends =
    let p = has_process d f.0 at f.1 lt in
    let x = f.2 p.0 p.1 in
    (x.0.port, ends p.0 x.0 p.1 x.1.lost.stands)

pub lost_end : (d : Dif) (at : ℕ) (lost : Lost) (end : Option ℕ) → ((below : Seen) × Stands d below × FindsLostAt d below at (Some lost)) → at < length d.settings.members → FindsEnd d at lost.place end → IfSome end (λ place. place < length d.connections.flows.journal.ends)
lost_end d at lost end f lt ends = (let o = found_open d at lost end f lt ends in open_end d.connections o.0 end o.1)

pub lost_conn : (d : Dif) (at : ℕ) (lost : Lost) (end : Option ℕ) → ((below : Seen) × Stands d below × FindsLostAt d below at (Some lost)) → at < length d.settings.members → FindsEnd d at lost.place end → IfSome end (λ place. place < length d.connections.flows.conns)
lost_conn d at lost end f lt ends = (let o = found_open d at lost end f lt ends in open_conn d.connections o.0 end f.1.1.connected.tied.alike o.1)

-- as it is looked for
pub end_found : (d : Dif) (at place : ℕ) (p : IpcProcess) (link : Link) (end : Option ℕ) → slice_get d.processes at ≡ Some p → slice_get p.links place ≡ Some link → FindsOpen d.connections link.port end → FindsEnd d at place end
end_found d at place p link end is there is_open q other is' there' =
    let same : p ≡ q = same_some (slice_get d.processes at) p q is is' in
    let link_is : link ≡ other = same_some (slice_get q.links place) link other (subst (λ (z : IpcProcess). slice_get z.links place ≡ Some link) same there) there' in
    subst (λ (l : Link). FindsOpen d.connections l.port end) link_is is_open

pub end_read : (d : Dif) (at place : ℕ) (p : IpcProcess) (links : List Link) (x : Link) (end : Option ℕ) → slice_get d.processes at ≡ Some p → links ≡ p.links → place < length links → FindsOpen d.connections (get_or links place x).port end → FindsEnd d at place end
end_read d at place p links x end is same lt found = end_found d at place p (get_or links place x) end is (ap (λ (ls : List Link). slice_get ls place) (sym same) ∙ slice_get-get_or links place x lt) found

pub place_read : (d : Dif) (below : Seen) (at : ℕ) (lost : Lost) (p : IpcProcess) (links : List Link) → slice_get d.processes at ≡ Some p → links ≡ p.links → FindsLostAt d below at (Some lost) → lost.place < length links
place_read d below at lost p links is same found =
    let x = found p is in
    subst (λ (ls : List Link). lost.place < length ls) (sym same) (slice_get_within p.links lost.place x.0 x.1.lost.stands)

pub left_read : (d : Dif) (below : Seen) (at place : ℕ) (p : IpcProcess) (links : List Link) (told : Option Port) → slice_get d.processes at ≡ Some p → links ≡ p.links → ((link : Link) → slice_get links place ≡ Some link → TellsNoneLeft (links_without links place link) below link.port told) → FindsNoneLeft d below at place told
left_read d below at place p links told is same tells q link is' there =
    let same' : links ≡ q.links = same ∙ ap (λ (z : IpcProcess). z.links) (same_some (slice_get d.processes at) p q is is') in
    subst (λ (ls : List Link). TellsNoneLeft (links_without ls place link) below link.port told) same' (tells link (ap (λ (ls : List Link). slice_get ls place) same' ∙ there))

-- the connections stay where memory was not found
pub link_same : (d : Dif) (below : Seen) (at : ℕ) (flows : Flows) (ps : List IpcProcess) → Stands d below → at < length d.settings.members → StaysIn at d.connections.flows d.processes flows ps → record d.connections { flows = flows } ≡ d.connections
link_same d below at flows ps st lt stays =
    let p = has_process d below at st lt in
    ap (λ (f : Flows). record d.connections { flows = f }) (stays p.0 p.1).1.0

pub on_err : {T E : Type 0} (r : Result T E) (P : Type 0) → P → OnErr r P
on_err (Ok done) P p = tt
on_err (Err e) P p = p

-- the link that was found is there
pub found_within : (d : Dif) (at : ℕ) (lost : Lost) → ((below : Seen) × Stands d below × FindsLostAt d below at (Some lost)) → (p : IpcProcess) → slice_get d.processes at ≡ Some p → lost.place < length p.links
found_within d at lost f p is = (let x = f.2 p is in slice_get_within p.links lost.place x.0 x.1.lost.stands)

-- an allocation for the next hops failed
pub lost_err : (d : Dif) (lines : List Direction) (below : Seen) (at node number : ℕ) (r : Result (Unit {0}) Memory) (e : Memory) → r ≡ Err e → Holds d lines below → LosesAs d lines below at node number r d
lost_err d lines below at node number r e is h = subst (λ (v : Result (Unit {0}) Memory). LosesAs d lines below at node number v d) (sym is) (refl, h)
