-- A management connection sends a number again, and the DIF holds.
use Rattle.std.proofs.Common.{◌≡◌, ◌∙◌, ℕ, ◌<◌, List, length, option_map, slice_get, slice_set, Option, Some, None, Ok, refl, sym, ap, subst}
use Rattle.rina_base.specs.declared.cause.Cause.{Cause}
use Rattle.rina_base.specs.declared.pdu.Pdu.{Pdu}
use Rattle.rina_conn.specs.declared.conn.Conn.{Conn}
use Rattle.rina_conn.specs.Carrying.{carry}
use Rattle.rina_conn.specs.Sending.{TellsAgain}
use Rattle.rina_cube.specs.declared.Cube.{Cube}
use Rattle.rina_iface.specs.Seen.{Seen}
use Rattle.rina_law.specs.Constants.{Constants}
use Rattle.rina_law.specs.Direction.{Direction}
use Rattle.rina_law.specs.Sender.{again_due, piece_again}
use Rattle.rina_data.specs.declared.process.IpcProcess.{IpcProcess}
use Rattle.rina_data.specs.Configs.{Config, config_of}
use Rattle.rina_data.specs.Deciding.{process_of}
use Rattle.rina_data.specs.Process.{Process}
use Rattle.rina_dif_law.specs.Dif.{DifSeen}
use Rattle.rina_dif_law.specs.Ids.{pdu_of_piece}
use Rattle.rina_flows.specs.declared.due.Item.TheVariants.{Again}
use Rattle.rina_flows.specs.declared.flows.Flows.{Flows}
use Rattle.rina_flows.specs.Calls.{Tells}
use Rattle.rina_flows.specs.Tied.{IsSending, ids_of, outward}
use Rattle.rina_flows.specs.Timely.{HasSentAgain, IsDue, SendsAgainIn}
use Rattle.rina_channel.specs.Changes.{PostsOn}
use Rattle.rina_channel.specs.Channels.{ChannelsSeen}
use Rattle.rina_channel.specs.FlowLaws.{ServesLinks}
use Rattle.rina_channel.specs.Names.{link_config, unnamed}
use Rattle.rina_channel.specs.Rows.{IsResentOn}
use Rattle.rina_channel.specs.Standing.{IsStanding}
use Rattle.rina_channel.proofs.Calls.{calls_that_send_again_do}
use Rattle.rina_channel.proofs.Fitting.{resending_serves_links}
use Rattle.rina_channel.proofs.Putting.{resent_stands}
use Rattle.rina_flows.proofs.Unused.{allocated_used}
use Rattle.rina_dif.specs.declared.dif.Dif.{Dif}
use Rattle.rina_dif.specs.Connected.{AreConnected, channels_seen}
use Rattle.rina_dif.specs.Holding.{Holds, LinksStand}
use Rattle.rina_dif.specs.LinkDue.{IsLinkEnd}
use Rattle.rina_dif.specs.LinkSteps.{PostsAt, ResendsLink}
use Rattle.rina_dif.specs.Shown.{seen_of}
use Rattle.rina_dif.proofs.Flooding.{journal_floods}
use Rattle.rina_dif.proofs.LinksLive.{serving_lives}
use Rattle.rina_dif.proofs.Closing.{served_holds}
use Rattle.rina_dif.proofs.Leaves.{stepped}
use Rattle.rina_base.specs.declared.number.Num.{Num}
use Rattle.rina_dif_law.proofs.Finding.{beside}
use Rattle.rina_dif_law.specs.Ids.{Ids}
use Rattle.rina_dif_law.specs.Dif.{constants}
use Rattle.rina_data.specs.Configs.{cube_by}
use Rattle.rina_flows.proofs.Framed.{ids_at}
use Rattle.rina_flows.specs.Tied.{conns_of}
use Rattle.rina_dif.proofs.Served.{HasPosted, link_qos, posted_at, same_channels, with_served}
use Rattle.rina_dif.proofs.NamedByPlace.{named_journal}

same_some : {X : Type 0} (o : Option X) (a b : X) → o ≡ Some a → o ≡ Some b → a ≡ b
same_some o a b h g = cc

-- a number of a management connection
abbrev pub number_of : ℕ → Num
number_of n = record { cep = 0; seq = n }

some_mapped : {X Y : Type 0} (f : X → Y) (o : Option X) (y : Y) → Some y ≡ option_map f o → (x : X) × (o ≡ Some x) × (y ≡ f x)
some_mapped f None y e = absurd cc
some_mapped f (Some x) y e = (x, refl, cc)

module _ (d : Dif) (below : Seen) (i place number : ℕ) (conn : Conn) (pdu : Pdu) (cause : Option Cause) (flows : Flows) (ps : List IpcProcess) (here : IsLinkEnd d i place number) (is : slice_get d.connections.flows.conns place ≡ Some conn) (tells : Tells (λ k. TellsAgain d.clock k.sending (Some pdu)) place d.connections.flows.conns) (does : SendsAgainIn d.clock place d.connections.flows flows)
    (p : HasPosted d i here.channel (record { left = conn.sending.form.cube.mpl; pdu = unnamed pdu }) cause ps) (links : LinksStand d below) where
  abbrev g : Config
  g = link_config (config_of d.settings) d.connections.manage

  abbrev old : Flows
  old = d.connections.flows

  abbrev ps' : List Process
  ps' = slice_set (seen_of d).processes i (process_of p.process')

  has : HasSentAgain g d.clock place old links.lines flows
  has = does g links.lines links.tied (allocated_used d.clock d.connections.flows.journal.ends place here.end links.standing.journal here.is_end here.allocated)

  abbrev c : Constants
  c = outward g has.conn

  sends : IsSending g d.clock has.conn has.line
  sends = links.tied.sends place has.conn has.line has.is_conn has.is_line

  found : (n : ℕ) × (again_due c d.clock has.line.line.sender ≡ Some n) × (pdu ≡ pdu_of_piece (ids_of has.conn) (piece_again n has.line.line.sender))
  found = some_mapped (λ n. carry has.conn.sending.form.peer has.conn.sending.form.cube.id (piece_again n has.line.line.sender)) (again_due c d.clock has.line.line.sender) pdu (tells has.conn has.is_conn c has.line.line.sender sends.sender)

  is_due : IsDue Again g d.clock old links.lines place
  is_due = record { conn = has.conn; is_conn = has.is_conn; line = has.line; is_line = has.is_line; number = found.0; is_due = ap (λ k. again_due c k has.line.line.sender) sends.clock ∙ found.1 }

  sent_posted : IsResentOn (channels_seen (config_of d.settings) d.clock d.connections) links.lines (seen_of d).processes place cause has.lines' ps'
  unfolding is_due found
  sent_posted =
      let P : Conn → Pdu → Type 0 = λ k q. PostsOn (config_of d.settings).cap d.clock k.sending.form.cube.mpl (seen_of d).processes here.channel (unnamed q) cause ps' in
      let conn_is : conn ≡ has.conn = same_some (slice_get old.conns place) conn has.conn is has.is_conn in
      let posted : P has.conn (pdu_of_piece (ids_of has.conn) (piece_again found.0 has.line.line.sender)) = subst (P has.conn) found.2 (subst (λ (k : Conn). P k pdu) conn_is p.posted) in
      calls_that_send_again_do (config_of d.settings) d.connections.manage d.clock d.connections.channels links.lines (seen_of d).processes ps' old flows place here.channel here.end cause is_due links.tied here.stands here.is_end here.allocated has posted

  sent_connected : AreConnected (config_of d.settings) d.clock (record d.connections { flows = flows }) ps' below
  sent_connected = record {
    may = links.may;
    lines = has.lines';
    tied = has.tied;
    standing = subst (λ (m : ChannelsSeen). IsStanding m has.lines' ps' below) (sym (same_channels (config_of d.settings) d.connections.manage d.clock d.connections.channels old flows has.ids has.same)) (resent_stands (channels_seen (config_of d.settings) d.clock d.connections) links.lines (seen_of d).processes below place cause has.lines' ps' links.standing sent_posted);
    paired = links.paired;
    named = named_journal old flows has.same links.named;
    each = λ j n q live. links.each j n q (serving_lives (config_of d.settings) d.clock (seen_of d).processes ps' (resending_serves_links (channels_seen (config_of d.settings) d.clock d.connections) links.lines (seen_of d).processes below place cause has.lines' ps' links.standing sent_posted) j n q live);
  }

  -- the number that is sent again is the only one that is due
  its_number : (lines' : List Direction) (ps'' : List Process) (r : IsResentOn (channels_seen (config_of d.settings) d.clock d.connections) links.lines (seen_of d).processes place cause lines' ps'') → pdu.seq ≡ r.number
  unfolding has is_due found
  its_number lines' ps'' r =
      let line : r.line ≡ has.line = same_some (slice_get links.lines place) r.line has.line r.is_line has.is_line in
      let ids : r.ids ≡ ids_of has.conn = same_some (slice_get (conns_of old.conns) place) r.ids (ids_of has.conn) r.is_end.is_conn.ids_are (ids_at old.conns place has.conn has.is_conn) in
      let cube : r.cube ≡ has.conn.sending.form.cube = same_some (cube_by has.conn.sending.form.cube.id g.cubes) r.cube has.conn.sending.form.cube (subst (λ (z : Ids). cube_by z.qos g.cubes ≡ Some r.cube) ids r.is_end.is_cube) sends.cube in
      let D : Cube → Ids → Direction → Type 0 = λ z k l. again_due (constants g z k) l.line.clock l.line.sender ≡ Some r.number in
      let due : D has.conn.sending.form.cube (ids_of has.conn) has.line = subst (λ (l : Direction). D has.conn.sending.form.cube (ids_of has.conn) l) line (subst (λ (k : Ids). D has.conn.sending.form.cube k r.line) ids (subst (λ (z : Cube). D z r.ids r.line) cube r.due)) in
      ap (λ (z : Pdu). z.seq) found.2 ∙ same_some (again_due c has.line.line.clock has.line.line.sender) found.0 r.number is_due.is_due due

  sent_does : ResendsLink d links.lines place (number_of pdu.seq) (seen_of (with_served d flows ps)) flows
  sent_does =
      let resent : IsResentOn (channels_seen (config_of d.settings) d.clock d.connections) links.lines (seen_of d).processes place cause has.lines' (seen_of (with_served d flows ps)).processes =
      subst (IsResentOn (channels_seen (config_of d.settings) d.clock d.connections) links.lines (seen_of d).processes place cause has.lines') (sym (ap (λ (z : DifSeen). z.processes) (stepped d i p.process' ps p.are))) sent_posted in
      record {
        links' = has.lines';
        cause = cause;
        resent = resent;
        num_is = ap number_of (its_number has.lines' (seen_of (with_served d flows ps)).processes resent);
        behind = record { journal = has.same; ids = has.ids; tied = has.tied };
      }

  pub sent_serves : ServesLinks (config_of d.settings) d.clock (seen_of d).processes ps'
  sent_serves = resending_serves_links (channels_seen (config_of d.settings) d.clock d.connections) links.lines (seen_of d).processes below place cause has.lines' ps' links.standing sent_posted

pub resends_link : (d : Dif) (i place number : ℕ) (conn : Conn) (pdu : Pdu) (cause : Option Cause) (flows : Flows) (ps : List IpcProcess) → i < length d.settings.members → IsLinkEnd d i place number → slice_get d.connections.flows.conns place ≡ Some conn → Tells (λ k. TellsAgain d.clock k.sending (Some pdu)) place d.connections.flows.conns → PostsAt d.clock number (record { left = conn.sending.form.cube.mpl; pdu = unnamed pdu }) (Ok cause) i d.processes ps → SendsAgainIn d.clock place d.connections.flows flows
    → (lines : List Direction) (below : Seen) → Holds d lines below → ((links : LinksStand d below) → ResendsLink d links.lines place (number_of pdu.seq) (seen_of (with_served d flows ps)) flows) × Holds (with_served d flows ps) lines below
resends_link d i place number conn pdu cause flows ps lt here is tells posts does lines below h =
    let p = posted_at d lines below i place number (record { left = conn.sending.form.cube.mpl; pdu = unnamed pdu }) cause ps lt h here posts in
    let connected = sent_connected d below i place number conn pdu cause flows ps here is tells does p h.connected in
    let serves = sent_serves d below i place number conn pdu cause flows ps here is tells does p h.connected in (
      λ links. sent_does d below i place number conn pdu cause flows ps here is tells does p links,
      subst (λ (qs : List IpcProcess). Holds (with_served d flows qs) lines below) (sym p.are) (served_holds d lines below i p.process p.process' (record d.connections { flows = flows }) refl h p.is_process p.room p.same serves p.written connected (λ alive. journal_floods d flows (sent_does d below i place number conn pdu cause flows ps here is tells does p h.connected).behind.journal (h.flooded alive))),
    )

-- its PDU is of the cube of management
pub again_link_qos : (d : Dif) (below : Seen) (i place number : ℕ) (conn : Conn) (pdu : Pdu) → LinksStand d below → IsLinkEnd d i place number → slice_get d.connections.flows.conns place ≡ Some conn → Tells (λ k. TellsAgain d.clock k.sending (Some pdu)) place d.connections.flows.conns → pdu.qos ≡ 0
again_link_qos d below i place number conn pdu links here is tells =
    let g : Config = link_config (config_of d.settings) d.connections.manage in
    let l = beside d.connections.flows.journal.ends links.lines place here.end links.tied.lines_alike here.is_end in
    let sends = links.tied.sends place conn l.0 is l.1 in
    let c : Constants = outward g conn in
    let found = some_mapped (λ n. carry conn.sending.form.peer conn.sending.form.cube.id (piece_again n l.0.line.sender)) (again_due c d.clock l.0.line.sender) pdu (tells conn is c l.0.line.sender sends.sender) in
    ap (λ (z : Pdu). z.qos) found.2 ∙ link_qos d below i place number conn links here is
