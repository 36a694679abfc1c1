-- A management connection does what is due, and the DIF holds.
use Rattle.std.proofs.Common.{◌≡◌, ◌∙◌, ℕ, ◌+◌, ◌-◌, ◌<◌, ◌≤◌, Bool, true, false, cond, List, [], ◌∷◌, length, slice_get, slice_set, Option, Some, None, Result, Ok, Err, refl, sym, ap, subst, inl, inr}
use Rattle.rina_account.specs.declared.ledger.Off.{Off}
use Rattle.rina_base.specs.declared.cause.Cause.{Cause}
use Rattle.rina_base.specs.declared.cause.Cause.TheVariants as causes
use Rattle.rina_conn.specs.declared.conn.Conn.{Conn}
use Rattle.rina_conn.specs.declared.conn.DueAck.{DueAck}
use Rattle.rina_conn.specs.Clock.{TellsAck, ack_due, ack_of}
use Rattle.rina_conn.specs.Sending.{TellsAgain}
use Rattle.rina_cube.specs.declared.Cube.{Cube}
use Rattle.rina_iface.specs.declared.ends.Journal.{Journal}
use Rattle.rina_iface.specs.Seen.{Seen}
use Rattle.rina_law.specs.Constants.{Constants}
use Rattle.rina_law.specs.Direction.{Direction, is_ack_due, right_of}
use Rattle.rina_law.specs.Receiver.{next_of}
use Rattle.rina_law.specs.Sender.{Ack as AnAck}
use Rattle.rina_data.specs.declared.process.IpcProcess.{IpcProcess}
use Rattle.rina_data.specs.Configs.{Config, config_of}
use Rattle.rina_data.specs.Deciding.{process_of, queue_settings}
use Rattle.rina_data.specs.Hops.{Hop}
use Rattle.rina_data.specs.Process.{Process, with_offs}
use Rattle.rina_data.specs.Queueing.{line_for}
use Rattle.rina_dif_law.specs.Dif.{DifSeen, with_process}
use Rattle.rina_dif_law.specs.Ids.{pdu_of_ack}
use Rattle.rina_dif_law.specs.WriteOffLaws.{Nothing}
use Rattle.rina_dif_law.specs.Written.{AreWrittenOff, WasLawful}
use Rattle.rina_dif_law.proofs.Writing.{kept_noted, line_noted, written_on}
use Rattle.rina_flows.specs.declared.due.Item.TheVariants.{Ack, Again}
use Rattle.rina_flows.specs.declared.flows.Flows.{Flows}
use Rattle.rina_flows.specs.Calls.{SameIds, Tells}
use Rattle.rina_flows.specs.Tied.{IsAt, ids_of, inward}
use Rattle.rina_flows.specs.Timely.{AcknowledgesIn, HasAcknowledged, IsDue}
use Rattle.rina_flows.proofs.Stopped.{clock_of}
use Rattle.rina_flows.proofs.Timed.{ack_is_due, again_is_due, receiver_of}
use Rattle.std.proofs.lemmas.Bool.{false≢true}
use Rattle.rina_channel.specs.declared.channel.Channel.{Channel}
use Rattle.rina_channel.specs.Changes.{PostsOn}
use Rattle.rina_channel.specs.Channels.{ChannelsSeen, IsLive}
use Rattle.rina_channel.specs.Channels.{seen_of as seen_of_channels}
use Rattle.rina_channel.specs.FlowLaws.{ServesLinks}
use Rattle.rina_channel.specs.Names.{link_config, unnamed}
use Rattle.rina_channel.specs.Rows.{IsAcknowledgedOn}
use Rattle.rina_channel.specs.Standing.{IsStanding}
use Rattle.rina_channel.proofs.Calls.{calls_change_ends, calls_that_acknowledge_do}
use Rattle.rina_channel.proofs.Fitting.{acknowledging_serves_links}
use Rattle.rina_channel.proofs.Putting.{acknowledged_stands}
use Rattle.rina_member.specs.Knowing.{HasLiveLink}
use Rattle.rina_dif.specs.declared.dif.Dif.{Dif}
use Rattle.rina_dif.specs.Connected.{AreConnected, channels_seen}
use Rattle.rina_dif.specs.Holding.{Holds, LinksStand}
use Rattle.rina_dif.specs.LinkDue.{IsLinkDue, IsLinkEnd}
use Rattle.rina_dif.specs.LinkSteps.{AcknowledgesLink, PostsAt, PostsFor}
use Rattle.rina_dif.specs.Shown.{seen_of}
use Rattle.rina_dif.proofs.Closing.{served_holds}
use Rattle.rina_dif.proofs.Flooding.{journal_floods}
use Rattle.rina_dif.proofs.LinksLive.{serving_lives}
use Rattle.rina_dif.proofs.Keeping.{IsSameHouse, house_is, put_house}
use Rattle.rina_dif.proofs.Leaves.{has_process, shown_at, stepped}
use Rattle.rina_dif.proofs.Elsewhere.{by_process}
use Rattle.rina_dif.specs.Elsewhere.{ChangesProcess}
use Rattle.rina_dif.proofs.Keeping.{home_set, same_house}
use Rattle.rina_dif.proofs.Settling.{holds_unseen, unseen}
use Rattle.rina_dif.specs.LinkSteps.{ServesAs}
use Rattle.rina_dif.specs.Holding.{Stands}
use Rattle.rina_base.specs.declared.memory.Memory.{Memory}
use Rattle.rina_channel.specs.Names.{names_at}
use Rattle.rina_queue.specs.Queues.{queue_place as place_there}
use Rattle.rina_data.proofs.Plain.{same_place}
use Rattle.rina_dif_law.specs.Ids.{Ids}
use Rattle.rina_flows.proofs.Framed.{ids_at}
use Rattle.rina_flows.specs.Tied.{conns_of}
use Rattle.std.specs.Prelude.{IsSome}
use Rattle.rina_dif.proofs.Settling.{off_house}
use Rattle.rina_dif.proofs.NamedByPlace.{named_journal}

same_some : {X : Type 0} (o : Option X) (a b : X) → o ≡ Some a → o ≡ Some b → a ≡ b
same_some o a b h g = cc

-- the connections as their laws see them, where ends and names stay
pub same_channels : (g : Config) (manage : Cube) (now : ℕ) (channels : List Channel) (old new : Flows) → SameIds old new → new.journal ≡ old.journal → seen_of_channels g manage now channels new ≡ seen_of_channels g manage now channels old
same_channels g manage now channels old new ids same = calls_change_ends g manage now channels old new ids ∙ ap (λ (j : Journal). record (seen_of_channels g manage now channels old) { ends = j.ends }) same

-- its link is live
pub live_there : (d : Dif) (i place number : ℕ) (p : IpcProcess) (here : IsLinkEnd d i place number) → slice_get d.processes i ≡ Some p → HasLiveLink p.links here.live.link.number
live_there d i place number p here is =
    let live = here.live.live in
    let same : live.process ≡ process_of p = same_some (slice_get (seen_of d).processes here.channel.member) live.process (process_of p) live.is_process (ap (slice_get (seen_of d).processes) here.member ∙ shown_at d i p is) in
    record { place = live.place; link = live.link; stands = ap (λ (z : Process). slice_get z.links live.place) (sym same) ∙ live.stands; live = live.live; is_number = live.number_is }

-- What is put, or written off

posts_same : (cap now number : ℕ) (hop : Hop) (cause : Option Cause) (p p' : Process) → PostsFor cap now number hop (Ok cause) p p' → HasLiveLink p.links number → IsSameHouse p p'
posts_same cap now number hop None p p' s live = house_is p _ p' s.new_is (put_house p 0 number s.place s.queue (record { pdu = hop.pdu; left = hop.left; since = now } ∷ []) s.is_queue (inr live))
posts_same cap now number hop (Some cause) p p' s live = house_is p _ p' s.1.new_is (off_house p _)

-- on the link of a channel
posts_on : (cap g_cap now : ℕ) (hop : Hop) (cause : Option Cause) (ps : List Process) (p p' : Process) (channel : Channel) → cap ≡ g_cap → slice_get ps channel.member ≡ Some p → (live : IsLive ps channel) → PostsFor cap now live.link.number hop (Ok cause) p p' → PostsOn g_cap now hop.left ps channel hop.pdu cause (slice_set ps channel.member p')
posts_on cap g_cap now hop None ps p p' channel same is live s = record {
  process = p;
  place = s.place;
  queue = s.queue;
  is_of = record { live = live; is_process = is; is_queue = s.is_queue };
  room = subst (λ (n : ℕ). length s.queue.items + 1 ≤ n) same s.room;
  new_is = ap (slice_set ps channel.member) s.new_is;
}
posts_on cap g_cap now hop (Some cause) ps p p' channel same is live s = (
  s.0 ∙ ap causes.QueueFull same,
  record {
    process = p;
    place = s.1.place;
    queue = s.1.queue;
    is_of = record { live = live; is_process = is; is_queue = s.1.is_queue };
    full = s.1.full ∙ same;
    new_is = ap (slice_set ps channel.member) (s.1.new_is ∙ ap (λ (c : Cause). with_offs p (line_for hop.pdu c ∷ [])) (sym s.0));
  },
)

-- an IPC process posted what a connection made
pub record HasPosted (d : Dif) (i : ℕ) (channel : Channel) (hop : Hop) (cause : Option Cause) (ps : List IpcProcess) : Type 0 where
  pub process : IpcProcess
  pub is_process : slice_get d.processes i ≡ Some process
  pub process' : IpcProcess
  pub room : queue_settings process' ≡ queue_settings process
  pub same : IsSameHouse (process_of process) (process_of process')
  pub are : ps ≡ slice_set d.processes i process'
  pub posted : PostsOn (config_of d.settings).cap d.clock hop.left (seen_of d).processes channel hop.pdu cause (slice_set (seen_of d).processes i (process_of process'))
  pub written : AreWrittenOff (with_process (seen_of d) i (process_of process'))

full_lawful : (d : DifSeen) (i : ℕ) (p : Process) (off : Off) → slice_get d.processes i ≡ Some p → off.cause ≡ causes.QueueFull d.config.cap → AreWrittenOff d → AreWrittenOff (with_process d i (with_offs p (off ∷ [])))
full_lawful d i p off is cause w =
    let Full : ℕ → Off → Type 0 = λ k x. x.cause ≡ causes.QueueFull d.config.cap in
    written_on Full d (with_process d i (with_offs p (off ∷ []))) (line_noted Full d (with_process d i (with_offs p (off ∷ []))) i p (with_offs p (off ∷ [])) off refl is refl refl cause)
    (λ k x full member process q. inl (subst (WasLawful d.config d.clock d.ends d.conns member.addr process.links x.key) (sym full) refl)) w

pub put_lawful : (d : DifSeen) (i : ℕ) (p p' : Process) → slice_get d.processes i ≡ Some p → p'.ledger ≡ p.ledger → p'.links ≡ p.links → AreWrittenOff d → AreWrittenOff (with_process d i p')
put_lawful d i p p' is ledger links w = written_on Nothing d (with_process d i p') (kept_noted Nothing d (with_process d i p') i p p' refl is ledger links) (λ k x none member process q. absurd none) w

posts_lawful : (d : DifSeen) (i cap now number : ℕ) (hop : Hop) (cause : Option Cause) (p p' : Process) → cap ≡ d.config.cap → slice_get d.processes i ≡ Some p → PostsFor cap now number hop (Ok cause) p p' → AreWrittenOff d → AreWrittenOff (with_process d i p')
posts_lawful d i cap now number hop None p p' same is s w = put_lawful d i p p' is (ap (λ (z : Process). z.ledger) s.new_is) (ap (λ (z : Process). z.links) s.new_is) w
posts_lawful d i cap now number hop (Some cause) p p' same is s w = subst (λ (z : Process). AreWrittenOff (with_process d i z)) (sym s.1.new_is) (full_lawful d i p (line_for hop.pdu (causes.QueueFull cap)) is (ap causes.QueueFull same) w)

pub posted_at : (d : Dif) (lines : List Direction) (below : Seen) (i place number : ℕ) (hop : Hop) (cause : Option Cause) (ps : List IpcProcess) → i < length d.settings.members → Holds d lines below → (here : IsLinkEnd d i place number) → PostsAt d.clock number hop (Ok cause) i d.processes ps → HasPosted d i here.channel hop cause ps
posted_at d lines below i place number hop cause ps lt h here posts =
    let p = has_process d below i (lines, h) lt in
    let x = posts p.0 p.1 in
    let cap = (h.housed i p.0 p.1).cap in
    let shown = shown_at d i p.0 p.1 in
    let s : PostsFor p.0.queues.cap d.clock here.live.link.number hop (Ok cause) (process_of p.0) (process_of x.0) = subst (λ (n : ℕ). PostsFor p.0.queues.cap d.clock n hop (Ok cause) (process_of p.0) (process_of x.0)) here.number_is x.1 in
    let on = posts_on p.0.queues.cap (config_of d.settings).cap d.clock hop cause (seen_of d).processes (process_of p.0) (process_of x.0) here.channel cap (subst (λ (n : ℕ). slice_get (seen_of d).processes n ≡ Some (process_of p.0)) (sym here.member) shown) here.live s in
    record {
      process = p.0;
      is_process = p.1;
      process' = x.0;
      room = x.2;
      same = posts_same p.0.queues.cap d.clock here.live.link.number hop cause (process_of p.0) (process_of x.0) s (live_there d i place number p.0 here p.1);
      are = x.3;
      posted = subst (λ (n : ℕ). PostsOn (config_of d.settings).cap d.clock hop.left (seen_of d).processes here.channel hop.pdu cause (slice_set (seen_of d).processes n (process_of x.0))) here.member on;
      written = posts_lawful (seen_of d) i p.0.queues.cap d.clock here.live.link.number hop cause (process_of p.0) (process_of x.0) cap shown s h.written_off;
    }

-- An acknowledgement

ack_parts : (b : Bool) (a k : AnAck) → Some k ≡ cond b (Some a) None → (b ≡ true) × (k ≡ a)
ack_parts true a k e = (refl, cc)
ack_parts false a k e = absurd cc

-- the DIF with these management connections and IPC processes
abbrev pub with_served : Dif → Flows → List IpcProcess → Dif
with_served d flows ps = record d { connections = record d.connections { flows = flows }; processes = ps }

module _ (d : Dif) (below : Seen) (i place number : ℕ) (conn : Conn) (due : DueAck) (cause : Option Cause) (flows : Flows) (ps : List IpcProcess) (here : IsLinkEnd d i place number) (is : slice_get d.connections.flows.conns place ≡ Some conn) (tells : Tells (λ k. TellsAck d.clock k (Some (ack_of due))) place d.connections.flows.conns) (does : AcknowledgesIn place d.connections.flows flows)
    (p : HasPosted d i here.channel (record { left = conn.sending.form.cube.mpl; pdu = unnamed (pdu_of_ack (ids_of conn) (ack_of due)) }) cause ps) (links : LinksStand d below) where
  abbrev g : Config
  g = link_config (config_of d.settings) d.connections.manage

  abbrev old : Flows
  old = d.connections.flows

  abbrev ps' : List Process
  ps' = slice_set (seen_of d).processes i (process_of p.process')

  has : HasAcknowledged g d.clock place here.end old links.lines flows
  has = does g d.clock links.lines here.end links.standing.journal links.tied here.is_end here.allocated

  ack_posted : IsAcknowledgedOn (channels_seen (config_of d.settings) d.clock d.connections) links.lines (seen_of d).processes place cause has.lines' ps'
  ack_posted =
      let c : Constants = inward g has.conn in
      let conn_is : conn ≡ has.conn = same_some (slice_get old.conns place) conn has.conn is has.is_conn in
      let is_at : IsAt old.journal.ends old.conns place here.end has.conn = record { end_is = here.is_end; conn_is = has.is_conn } in
      let r = links.tied.receives place has.from here.end has.conn has.line is_at here.allocated has.inbound in
      let st = receiver_of g d.clock place has.from old.journal.ends old.conns links.lines here.end has.conn has.line links.tied is_at has.inbound r in
      let clock = clock_of g d.clock old.journal.ends old.conns links.lines here.end has.from has.line links.tied has.inbound in
      let told : Some (ack_of due) ≡ ack_due c has.line = tells has.conn has.is_conn c has.line clock st r.whole in
      let made : AnAck = record { ack = next_of has.line.line.receiver - 1; right = right_of c has.line } in
      let parts = ack_parts (is_ack_due c has.line) made (ack_of due) told in
      let P : Conn → AnAck → Type 0 = λ k a. PostsOn (config_of d.settings).cap d.clock k.sending.form.cube.mpl (seen_of d).processes here.channel (unnamed (pdu_of_ack (ids_of k) a)) cause ps' in
      let posted : P has.conn made = subst (P has.conn) parts.1 (subst (λ (k : Conn). P k (ack_of due)) conn_is p.posted) in
      let is_due : IsDue Ack g d.clock old links.lines place = (ack_is_due d.clock place old.journal.ends old.conns (Some due) tells g links.lines here.end links.standing.journal links.tied here.is_end here.allocated).0 refl in
      calls_that_acknowledge_do (config_of d.settings) d.connections.manage d.clock d.connections.channels links.lines (seen_of d).processes ps' below old flows place here.channel here.end cause links.standing links.tied here.stands here.is_end here.allocated is_due has posted

  ack_connected : AreConnected (config_of d.settings) d.clock (record d.connections { flows = flows }) ps' below
  ack_connected = record {
    may = links.may;
    lines = has.lines';
    tied = has.tied;
    standing = subst (λ (m : ChannelsSeen). IsStanding m has.lines' ps' below) (sym (same_channels (config_of d.settings) d.connections.manage d.clock d.connections.channels old flows has.ids has.same)) (acknowledged_stands (channels_seen (config_of d.settings) d.clock d.connections) links.lines (seen_of d).processes below place cause has.lines' ps' links.standing ack_posted);
    paired = links.paired;
    named = named_journal old flows has.same links.named;
    each = λ j n q live. links.each j n q (serving_lives (config_of d.settings) d.clock (seen_of d).processes ps' (acknowledging_serves_links (channels_seen (config_of d.settings) d.clock d.connections) links.lines (seen_of d).processes below place cause has.lines' ps' links.standing ack_posted) j n q live);
  }

  ack_does : AcknowledgesLink d links.lines place (seen_of (with_served d flows ps)) flows
  ack_does = record {
    links' = has.lines';
    cause = cause;
    acknowledged = subst (IsAcknowledgedOn (channels_seen (config_of d.settings) d.clock d.connections) links.lines (seen_of d).processes place cause has.lines') (sym (ap (λ (z : DifSeen). z.processes) (stepped d i p.process' ps p.are))) ack_posted;
    behind = record { journal = has.same; ids = has.ids; tied = has.tied };
  }

  pub ack_serves : ServesLinks (config_of d.settings) d.clock (seen_of d).processes ps'
  ack_serves = acknowledging_serves_links (channels_seen (config_of d.settings) d.clock d.connections) links.lines (seen_of d).processes below place cause has.lines' ps' links.standing ack_posted

pub acknowledges_link : (d : Dif) (i place number : ℕ) (conn : Conn) (due : DueAck) (cause : Option Cause) (flows : Flows) (ps : List IpcProcess) → i < length d.settings.members → IsLinkEnd d i place number → slice_get d.connections.flows.conns place ≡ Some conn → Tells (λ k. TellsAck d.clock k (Some (ack_of due))) place d.connections.flows.conns → PostsAt d.clock number (record { left = conn.sending.form.cube.mpl; pdu = unnamed (pdu_of_ack (ids_of conn) (ack_of due)) }) (Ok cause) i d.processes ps → AcknowledgesIn place d.connections.flows flows
    → (lines : List Direction) (below : Seen) → Holds d lines below → ((links : LinksStand d below) → AcknowledgesLink d links.lines place (seen_of (with_served d flows ps)) flows) × Holds (with_served d flows ps) lines below
acknowledges_link d i place number conn due cause flows ps lt here is tells posts does lines below h =
    let p = posted_at d lines below i place number (record { left = conn.sending.form.cube.mpl; pdu = unnamed (pdu_of_ack (ids_of conn) (ack_of due)) }) cause ps lt h here posts in
    let connected = ack_connected d below i place number conn due cause flows ps here is tells does p h.connected in
    let serves = ack_serves d below i place number conn due cause flows ps here is tells does p h.connected in (
      λ links. ack_does d below i place number conn due cause flows ps here is tells does p links,
      subst (λ (qs : List IpcProcess). Holds (with_served d flows qs) lines below) (sym p.are) (served_holds d lines below i p.process p.process' (record d.connections { flows = flows }) refl h p.is_process p.room p.same serves p.written connected (λ alive. journal_floods d flows (ack_does d below i place number conn due cause flows ps here is tells does p h.connected).behind.journal (h.flooded alive))),
    )

-- What waits for it

-- the names of a connection are those of its place
names_there : (d : Dif) (below : Seen) (i place number : ℕ) (conn : Conn) (links : LinksStand d below) (here : IsLinkEnd d i place number) → slice_get d.connections.flows.conns place ≡ Some conn → ids_of conn ≡ names_at place here.channel.partner
names_there d below i place number conn links here is = same_some (slice_get (conns_of d.connections.flows.conns) place) (ids_of conn) (names_at place here.channel.partner) (ids_at d.connections.flows.conns place conn is) (links.standing.channels.names place here.channel here.stands)

pub link_qos : (d : Dif) (below : Seen) (i place number : ℕ) (conn : Conn) → LinksStand d below → IsLinkEnd d i place number → slice_get d.connections.flows.conns place ≡ Some conn → conn.sending.form.cube.id ≡ 0
link_qos d below i place number conn links here is = ap (λ (z : Ids). z.qos) (names_there d below i place number conn links here is)

-- what is due is told
pub no_link_ack : (d : Dif) (below : Seen) (i place number : ℕ) (links : LinksStand d below) → IsLinkDue Ack d links.lines i place number → Tells (λ k. TellsAck d.clock k None) place d.connections.flows.conns → ⊥
no_link_ack d below i place number links due tells =
    false≢true ((ack_is_due d.clock place d.connections.flows.journal.ends d.connections.flows.conns None tells (link_config (config_of d.settings) d.connections.manage) links.lines due.here.end links.standing.journal links.tied due.here.is_end due.here.allocated).1 due.due)

pub no_link_again : (d : Dif) (below : Seen) (i place number : ℕ) (links : LinksStand d below) → IsLinkDue Again d links.lines i place number → Tells (λ k. TellsAgain d.clock k.sending None) place d.connections.flows.conns → ⊥
no_link_again d below i place number links due tells =
    false≢true ((again_is_due d.clock place d.connections.flows.journal.ends d.connections.flows.conns None tells (link_config (config_of d.settings) d.connections.manage) links.lines due.here.end links.standing.journal links.tied due.here.is_end due.here.allocated).1 due.due)

-- its link has a queue
pub link_queue : (d : Dif) (lines : List Direction) (below : Seen) (i place number : ℕ) → Holds d lines below → IsLinkEnd d i place number → (p : IpcProcess) → slice_get d.processes i ≡ Some p → IsSome (place_there 0 number p.queues.queues.items)
link_queue d lines below i place number h here p is =
    let live = here.live.live in
    let same : live.process ≡ process_of p = same_some (slice_get (seen_of d).processes here.channel.member) live.process (process_of p) live.is_process (ap (slice_get (seen_of d).processes) here.member ∙ shown_at d i p is) in
    let stands : slice_get (process_of p).links live.place ≡ Some live.link = ap (λ (z : Process). slice_get z.links live.place) (sym same) ∙ live.stands in
    let has = (h.housed i p is).links live.place 0 live.link stands live.live (inl refl) in
    let number_is : live.link.number ≡ number = live.number_is ∙ sym here.number_is in
    subst (λ (n : ℕ). IsSome (place_there 0 n p.queues.queues.items)) number_is (subst (λ (o : Option ℕ). IsSome o) (same_place 0 live.link.number p.queues.queues.items) has)

-- an allocation failed
pub posts_none : (d : Dif) (i number : ℕ) (hop : Hop) (e : Memory) (ps : List IpcProcess) → i < length d.settings.members → PostsAt d.clock number hop (Err e) i d.processes ps → (lines : List Direction) (below : Seen) → Holds d lines below → (d.connections ≡ d.connections) × (seen_of (record d { processes = ps }) ≡ seen_of d) × Holds (record d { processes = ps }) lines below
posts_none d i number hop e ps lt posts lines below h =
    let p = has_process d below i (lines, h) lt in
    let x = posts p.0 p.1 in
    let same = unseen d i p.0 x.0 ps p.1 x.1 x.3 in
    let house = home_set d lines below i p.0 x.0 ps h p.1 x.2 (house_is (process_of p.0) (process_of p.0) (process_of x.0) x.1 (same_house (process_of p.0))) x.3 in
    (refl, same, holds_unseen d ps lines below same house h)

-- whatever the error is
pub serves_err : {T : Type 0} (does : T → List Direction → Type 0) (d : Dif) (lines : List Direction) (below : Seen) (r : Result T Memory) (e : Memory) (d' : Dif) → r ≡ Err e → (d'.connections ≡ d.connections) × (seen_of d' ≡ seen_of d) × Holds d' lines below → ServesAs does d lines below r d'
serves_err does d lines below r e d' is same = subst (λ v. ServesAs does d lines below v d') (sym is) same

-- no other IPC process changes
pub posts_leave : (d : Dif) (below : Seen) (i number : ℕ) (hop : Hop) (r : Result (Option Cause) Memory) (ps : List IpcProcess) → Stands d below → i < length d.settings.members → PostsAt d.clock number hop r i d.processes ps → ChangesProcess (Some i) d.processes ps
posts_leave d below i number hop r ps st lt posts =
    let p = has_process d below i st lt in
    let x = posts p.0 p.1 in
    by_process d.processes ps i p.0 x.0 p.1 x.2 x.3
