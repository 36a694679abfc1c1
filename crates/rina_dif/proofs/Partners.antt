-- The two ends of a management connection, and what one got of what the other offered.
use Rattle.std.proofs.Common.{◌≡◌, ◌∙◌, ℕ, List, [], slice_get, Some, sym, ap}
use Rattle.std.proofs.lemmas.Option.{same_Some}
use Rattle.rina_channel.specs.declared.channel.Channel.{Channel}
use Rattle.rina_channel.specs.Channels.{ChannelsSeen}
use Rattle.rina_channel.specs.LinkCloud.{LinkCloud}
use Rattle.rina_channel.specs.Names.{names_at}
use Rattle.rina_channel.specs.Rows.{config_of}
use Rattle.rina_channel.specs.Standing.{IsStanding}
use Rattle.rina_channel.proofs.Kept.{messages_are_kept}
use Rattle.rina_data.specs.Process.{Process}
use Rattle.rina_dif_law.specs.Ids.{Ids}
use Rattle.rina_dif_law.specs.Places.{ids_from}
use Rattle.rina_dif_law.specs.Standing.{IsConn}
use Rattle.rina_dif_law.proofs.Finding.{beside}
use Rattle.rina_dif_law.proofs.Own.{far_end_of_flow, out_ids, pair, partner_back}
use Rattle.rina_flood.specs.Network.{Near, Side, other, Far as FarSide}
use Rattle.rina_flood.specs.Static.{end_place}
use Rattle.rina_iface.specs.declared.ends.End.{End}
use Rattle.rina_iface.specs.declared.state.PortState.TheVariants.{Allocated}
use Rattle.rina_iface.specs.Journal.{At, IsPartner}
use Rattle.rina_iface.specs.Seen.{Seen}
use Rattle.rina_law.specs.declared.entry.Entry.{Entry}
use Rattle.rina_law.specs.Direction.{Direction}
use Rattle.rina_rest.specs.Flows.{Asker, Endpoint, Far, Flow, Side as FlowSide, end_at}
use Rattle.rina_dif_law.proofs.Placed.{opposite}
use Rattle.rina_dif.specs.Connected.{ArePaired}

-- Which end is the other one

far_named : (s : FlowSide) (f : Flow) (far r : Endpoint) (qos : ℕ) → f.far ≡ Some far → end_at (opposite s) f ≡ Some r → (ids_from s f far qos).far ≡ r.addr
far_named Asker f far r qos known is = ap (λ (z : Endpoint). z.addr) (same_Some far r (sym known ∙ is))
far_named Far f far r qos known is = ap (λ (z : Endpoint). z.addr) (same_Some f.asker r is)

own_place : (m : ChannelsSeen) (lines : List Direction) (ps : List Process) (below : Seen) (k : ℕ) (ids : Ids) → IsStanding m lines ps below → slice_get m.ids k ≡ Some ids → ids.own ≡ k
own_place m lines ps below k ids st h =
    let x = beside m.ids m.channels k ids (st.channels.alike ∙ sym st.own.alike) h in
    ap (λ (z : Ids). z.own) (same_Some ids (names_at k x.0.partner) (sym h ∙ st.channels.names k x.0 x.1))

-- the partner of an allocated end stands at the place that its channel names
pub partner_place : (m : ChannelsSeen) (lines : List Direction) (ps : List Process) (below : Seen) (i k : ℕ) (channel : Channel) (end partner : End) → IsStanding m lines ps below → slice_get m.channels i ≡ Some channel → At m.ends i end → end.state ≡ Allocated → At m.ends k partner → IsPartner end partner → channel.partner ≡ k
partner_place m lines ps below i k channel end partner st stands is_end allocated is_partner partners =
    let g = config_of m in
    let cloud = LinkCloud m.config m.channels ps below in
    let conn : IsConn m.ends m.ids i end (names_at i channel.partner) = record { end = is_end; ids_are = st.channels.names i channel stands } in
    let f = beside m.ends m.ids k partner st.own.alike is_partner in
    let far_conn : IsConn m.ends m.ids k partner f.0 = record { end = is_partner; ids_are = f.1 } in
    let q = pair g m.clock cloud [] m.ends m.ids lines st.own i k end partner is_end is_partner partners in
    let out = out_ids g m.clock cloud [] m.ends m.ids lines st.own i end (names_at i channel.partner) q.x q.flow q.far conn allocated q.is_x q.stands q.known in
    let b = far_end_of_flow g m.clock cloud [] m.ends m.ids lines st.own i k end partner f.0 q.x q.flow is_end far_conn partners q.is_x q.stands in
    ap (λ (z : Ids). z.far) (sym out) ∙ far_named q.x.side q.flow q.far b.point end.cube q.known b.is ∙ sym b.own ∙ own_place m lines ps below k f.0 st f.1

-- ends are in pairs
pub paired_with : (channels : List Channel) (l : ℕ) (side : Side) (channel : Channel) → ArePaired channels → slice_get channels (end_place l (other side)) ≡ Some channel → channel.partner ≡ end_place l side
paired_with channels l Near channel paired is = paired l FarSide channel is
paired_with channels l FarSide channel paired is = paired l Near channel is

-- What was got

-- the entry at a place of what an allocated end got is that which its partner offered at this place
pub record IsFromPartner (ends : List End) (place n : ℕ) (bytes : List ℕ) : Type 0 where
  pub partner : End
  pub is_partner : At ends place partner
  pub source : Entry
  pub is_source : slice_get partner.sent n ≡ Some source
  pub same : bytes ≡ source.bytes

pub got_from : (m : ChannelsSeen) (lines : List Direction) (ps : List Process) (below : Seen) (i : ℕ) (channel : Channel) (end : End) (n : ℕ) (entry : Entry) → IsStanding m lines ps below → slice_get m.channels i ≡ Some channel → At m.ends i end → end.state ≡ Allocated → slice_get end.got n ≡ Some entry → IsFromPartner m.ends channel.partner n entry.bytes
got_from m lines ps below i channel end n entry st stands is_end allocated is =
    let p = st.journal.allocated i end is_end allocated in
    let place = partner_place m lines ps below i p.place channel end p.other st stands is_end allocated p.stands p.partner in
    let front = messages_are_kept m lines ps below i p.place end p.other st is_end p.stands (partner_back end p.other p.partner) n entry is in
    record { partner = p.other; is_partner = ap (slice_get m.ends) place ∙ p.stands; source = front.0; is_source = front.1; same = front.3 }
