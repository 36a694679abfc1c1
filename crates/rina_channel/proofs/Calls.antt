-- The calls of flows, where the flows are the management connections of links.
use Rattle.std.proofs.Common.{◌≡◌, ℕ, ◌-◌, true, List, map, slice_get, slice_set, Some, Option, option_map, ◌∙◌, ap, subst}
use Rattle.std.proofs.lemmas.Option.{slice_get-map}
use Rattle.rina_base.specs.declared.cause.Cause.{Cause}
use Rattle.rina_conn.specs.declared.conn.Conn.{Conn}
use Rattle.rina_conn.specs.declared.made.Made.{Made}
use Rattle.rina_cube.specs.declared.Cube.{Cube}
use Rattle.rina_iface.specs.declared.ends.End.{End}
use Rattle.rina_iface.specs.declared.state.PortState.TheVariants.{Allocated}
use Rattle.rina_iface.specs.Journal.{At, IsPartner}
use Rattle.rina_iface.specs.Seen.{Seen}
use Rattle.rina_law.specs.Direction.{Direction, after_again, is_ack_due, right_of}
use Rattle.rina_law.specs.Receiver.{next_of}
use Rattle.rina_law.specs.Sender.{again_due, piece_again}
use Rattle.rina_data.specs.Configs.{Config}
use Rattle.rina_data.specs.Process.{Process}
use Rattle.rina_dif_law.specs.Ids.{Ids, pdu_of_ack, pdu_of_piece}
use Rattle.rina_dif_law.proofs.Finding.{beside}
use Rattle.rina_dif_law.proofs.Own.{one_partner}
use Rattle.rina_flows.specs.declared.due.Item.TheVariants.{Ack, Again}
use Rattle.rina_flows.specs.declared.flows.Flows.{Flows}
use Rattle.rina_flows.specs.Calls.{Accepts, AreTied, SameIds}
use Rattle.rina_flows.specs.Laws.{waiting_now}
use Rattle.rina_flows.specs.Tied.{conns_of, ids_of, inward, outward}
use Rattle.rina_flows.specs.Timely.{HasAcknowledged, HasSentAgain, IsDue}
use Rattle.rina_channel.specs.declared.channel.Channel.{Channel}
use Rattle.rina_channel.specs.Changes.{IsPutOn, PostsOn}
use Rattle.rina_channel.specs.Channels.{seen_of}
use Rattle.rina_channel.specs.Names.{link_config, unnamed}
use Rattle.rina_channel.specs.Rows.{IsAcknowledgedOn, IsEndOf, IsOfferedOn, IsResentOn}
use Rattle.rina_channel.specs.Standing.{IsStanding}

pub calls_change_ends : (g : Config) (manage : Cube) (now : ℕ) (channels : List Channel) (old new : Flows) → SameIds old new → seen_of g manage now channels new ≡ record (seen_of g manage now channels old) { ends = new.journal.ends }
calls_change_ends g manage now channels old new same = ap (λ (ids : List Ids). record (seen_of g manage now channels new) { ids = ids }) same

pub calls_that_offer_do : (g : Config) (manage : Cube) (now : ℕ) (channels : List Channel) (lines : List Direction) (ps ps' : List Process) (old new : Flows) (k : ℕ) (channel : Channel) (sdu : List ℕ) (made : Made) (a : Accepts (link_config g manage) now k sdu old lines made new) → slice_get channels k ≡ Some channel → a.offers.end.state ≡ Allocated → IsPutOn g.cap ps channel (waiting_now a.offers.cube.mpl now (map unnamed made.pdus)) ps' → IsOfferedOn (seen_of g manage now channels old) lines ps k a.parts made.num (seen_of g manage now channels new) a.lines' ps'
calls_that_offer_do g manage now channels lines ps ps' old new k channel sdu made a stands allocated put = record {
  channel = channel;
  stands = stands;
  cut = a.cut.0;
  pdus = made.pdus;
  ends' = new.journal.ends;
  offers = a.offers;
  allocated = allocated;
  put = put;
  new_is = calls_change_ends g manage now channels old new a.ids;
}

conns_same : (o : Option Conn) (a b : Conn) → o ≡ Some a → o ≡ Some b → a ≡ b
conns_same o a b h g = cc

lines_same : (o : Option Direction) (a b : Direction) → o ≡ Some a → o ≡ Some b → a ≡ b
lines_same o a b h g = cc

ends_same : (o : Option End) (a b : End) → o ≡ Some a → o ≡ Some b → a ≡ b
ends_same o a b h g = cc

-- the names of the connection at a place
ids_at : (ks : List Conn) (k : ℕ) (conn : Conn) → slice_get ks k ≡ Some conn → slice_get (conns_of ks) k ≡ Some (ids_of conn)
ids_at ks k conn h = slice_get-map ids_of ks k ∙ ap (option_map ids_of) h

-- the end of a place, with its connection
end_of_conn : (g : Config) (manage : Cube) (now : ℕ) (channels : List Channel) (lines : List Direction) (old : Flows) (k : ℕ) (channel : Channel) (end : End) (conn : Conn) → AreTied (link_config g manage) now old lines → slice_get channels k ≡ Some channel → At old.journal.ends k end → end.state ≡ Allocated → slice_get old.conns k ≡ Some conn → IsEndOf (seen_of g manage now channels old) k channel end (ids_of conn) conn.sending.form.cube
end_of_conn g manage now channels lines old k channel end conn tied stands is_end allocated is_conn =
    let line = beside old.journal.ends lines k end tied.lines_alike is_end in
    record {
      stands = stands;
      is_conn = record { end = is_end; ids_are = ids_at old.conns k conn is_conn };
      allocated = allocated;
      is_cube = (tied.sends k conn line.0 is_conn line.1).cube;
    }

pub calls_that_acknowledge_do : (g : Config) (manage : Cube) (now : ℕ) (channels : List Channel) (lines : List Direction) (ps ps' : List Process) (below : Seen) (old new : Flows) (k : ℕ) (channel : Channel) (end : End) (cause : Option Cause) → IsStanding (seen_of g manage now channels old) lines ps below → AreTied (link_config g manage) now old lines → slice_get channels k ≡ Some channel → At old.journal.ends k end → end.state ≡ Allocated → IsDue Ack (link_config g manage) now old lines k → (h : HasAcknowledged (link_config g manage) now k end old lines new)
    → PostsOn g.cap now h.conn.sending.form.cube.mpl ps channel (unnamed (pdu_of_ack (ids_of h.conn) (record { ack = next_of h.line.line.receiver - 1; right = right_of (inward (link_config g manage) h.conn) h.line }))) cause ps' → IsAcknowledgedOn (seen_of g manage now channels old) lines ps k cause h.lines' ps'
calls_that_acknowledge_do g manage now channels lines ps ps' below old new k channel end cause st tied stands is_end allocated due h posted =
    let conn : due.conn ≡ h.conn = conns_same (slice_get old.conns k) due.conn h.conn due.is_at.conn_is h.is_conn in
    let its : due.end ≡ end = ends_same (slice_get old.journal.ends k) due.end end due.is_at.end_is is_end in
    let partners : IsPartner due.inbound.partner end = subst (IsPartner due.inbound.partner) its due.inbound.partners in
    let from : due.from ≡ h.from = one_partner now old.journal.ends due.from h.from due.inbound.partner h.inbound.partner end st.journal due.inbound.is_partner h.inbound.is_partner partners h.inbound.partners in
    let line : due.line ≡ h.line = lines_same (slice_get lines h.from) due.line h.line (subst (λ (n : ℕ). slice_get lines n ≡ Some due.line) from due.inbound.is_line) h.inbound.is_line in
    record {
      channel = channel;
      end = end;
      ids = ids_of h.conn;
      cube = h.conn.sending.form.cube;
      is_end = end_of_conn g manage now channels lines old k channel end h.conn tied stands is_end allocated h.is_conn;
      from = h.from;
      line = h.line;
      inbound = h.inbound;
      due = subst (λ (c : Conn). is_ack_due (inward (link_config g manage) c) h.line ≡ true) conn (subst (λ (l : Direction). is_ack_due (inward (link_config g manage) due.conn) l ≡ true) line due.is_due);
      posted = posted;
      lines_are = h.lines_are;
    }

pub calls_that_send_again_do : (g : Config) (manage : Cube) (now : ℕ) (channels : List Channel) (lines : List Direction) (ps ps' : List Process) (old new : Flows) (k : ℕ) (channel : Channel) (end : End) (cause : Option Cause) (due : IsDue Again (link_config g manage) now old lines k) → AreTied (link_config g manage) now old lines → slice_get channels k ≡ Some channel → At old.journal.ends k end → end.state ≡ Allocated → (h : HasSentAgain (link_config g manage) now k old lines new)
    → PostsOn g.cap now h.conn.sending.form.cube.mpl ps channel (unnamed (pdu_of_piece (ids_of h.conn) (piece_again due.number h.line.line.sender))) cause ps' → IsResentOn (seen_of g manage now channels old) lines ps k cause h.lines' ps'
calls_that_send_again_do g manage now channels lines ps ps' old new k channel end cause due tied stands is_end allocated h posted =
    let link : Config = link_config g manage in
    let conn : due.conn ≡ h.conn = conns_same (slice_get old.conns k) due.conn h.conn due.is_conn h.is_conn in
    let line : due.line ≡ h.line = lines_same (slice_get lines k) due.line h.line due.is_line h.is_line in
    let is_due : again_due (outward link h.conn) h.line.line.clock h.line.line.sender ≡ Some due.number = subst (λ (c : Conn). again_due (outward link c) h.line.line.clock h.line.line.sender ≡ Some due.number) conn (subst (λ (l : Direction). again_due (outward link due.conn) l.line.clock l.line.sender ≡ Some due.number) line due.is_due) in
    record {
      channel = channel;
      end = end;
      ids = ids_of h.conn;
      cube = h.conn.sending.form.cube;
      is_end = end_of_conn g manage now channels lines old k channel end h.conn tied stands is_end allocated h.is_conn;
      line = h.line;
      is_line = h.is_line;
      number = due.number;
      due = is_due;
      posted = posted;
      lines_are = h.lines_are ∙ ap (λ (o : Option ℕ). slice_set lines k (after_again o (outward link h.conn) h.line)) is_due;
    }
