-- What an end of a management connection makes waits for its link.
use Rattle.std.proofs.Common.{◌≡◌, ℕ, ◌+◌, ◌-◌, ◌≤◌, eqb, ◌&&◌, true, List, [], ◌∷◌, get_or, length, length-set, map, slice_get, slice_set, Some, None, Option, refl, sym, ◌∙◌, ap, subst, arith, inl, inr}
use Rattle.std.proofs.lemmas.List.Quantifiers.{position-Some}
use Rattle.std.proofs.lemmas.Option.{get_or_from_slice_get}
use Rattle.rina_base.specs.declared.cause.Cause.{Cause}
use Rattle.rina_base.specs.declared.number.Num.{Num}
use Rattle.rina_base.specs.declared.pdu.Pdu.{Pdu}
use Rattle.rina_iface.specs.declared.ends.End.{End}
use Rattle.rina_iface.specs.Seen.{Seen}
use Rattle.rina_iface.proofs.Changed.{set_at}
use Rattle.rina_law.specs.Backed.{CoversBut}
use Rattle.rina_law.specs.Direction.{Direction, right_of}
use Rattle.rina_law.specs.Lists.{In}
use Rattle.rina_law.specs.Pieces.{Part}
use Rattle.rina_law.specs.Receiver.{Piece, next_of}
use Rattle.rina_law.specs.Sender.{Ack, piece_again}
use Rattle.rina_queue.specs.declared.queue.Queued.{Queued}
use Rattle.rina_data.specs.declared.link.Link.{Link}
use Rattle.rina_data.specs.Process.{IsQueue, Process, Queue, with_offs, with_put}
use Rattle.rina_data.specs.Queueing.{line_for}
use Rattle.rina_dif_law.specs.Dif.{constants}
use Rattle.rina_dif_law.specs.Ids.{Ids, flipped, pdu_of_ack, pdu_of_piece}
use Rattle.rina_dif_law.specs.Sending.{offered_pieces}
use Rattle.rina_dif_law.proofs.After.{NoMore, after_none}
use Rattle.rina_dif_law.proofs.Queues.{JustItems, requeued_put, requeued_same}
use Rattle.rina_flows.specs.Laws.{waiting_now}
use Rattle.rina_channel.specs.declared.channel.Attachment.{Attachment}
use Rattle.rina_channel.specs.declared.channel.Channel.{Channel}
use Rattle.rina_channel.specs.Changes.{IsFullOn, IsPutOn, LeavesLinks, PostsOn}
use Rattle.rina_channel.specs.Channels.{AreChannels, ChannelsSeen, HasLive}
use Rattle.rina_channel.specs.LinkCloud.{LinkCloud}
use Rattle.rina_channel.specs.Names.{named, names_at, unnamed}
use Rattle.rina_channel.specs.Rows.{IsAcknowledgedOn, IsOfferedOn, IsResentOn, config_of}
use Rattle.rina_channel.specs.Standing.{IsStanding}
use Rattle.rina_channel.proofs.Below.{channels_same, on_link, stays}
use Rattle.rina_channel.proofs.Frame.{held, link_limits, stands_with}
use Rattle.rina_channel.proofs.LinkClouds.{LiveBefore, link_after, link_covers}
use Rattle.rina_channel.proofs.Rows.{holds_acknowledged, holds_again, holds_offered, in_map}

ids_same : (o : Option Ids) (a b : Ids) → o ≡ Some a → o ≡ Some b → a ≡ b
ids_same o a b h g = cc

-- the queue that is found for a link is one for it
is_for : (qos link : ℕ) (q : Queue) → (eqb q.link link && eqb q.qos qos) ≡ true → q.link ≡ link
is_for qos link q h = grind arith

queue_link : (process : Process) (qos link place : ℕ) (q : Queue) → IsQueue process qos link place q → q.link ≡ link
queue_link process qos link place q h =
    let at : get_or process.queues place q ≡ q = get_or_from_slice_get process.queues place q q h.is_queue in
    is_for qos link q (rw at at ((position-Some (λ (z : Queue). eqb z.link link && eqb z.qos qos) process.queues place q h.found).1))

-- an IPC process whose links stay
pub live_same : (ps : List Process) (i : ℕ) (p p' : Process) → slice_get ps i ≡ Some p → p'.links ≡ p.links → LiveBefore ps (slice_set ps i p')
live_same ps i p p' is same j n port l = elim (set_at ps i j p p' l.process is l.is_process) [
  | inl t ↦
      let links = ap (λ (z : Process). z.links) t.1 ∙ same in
      record { process = p; is_process = subst (λ (m : ℕ). slice_get ps m ≡ Some p) (sym t.0) is; place = l.place; link = l.link; stands = subst (λ (ls : List Link). slice_get ls l.place ≡ Some l.link) links l.stands; live = l.live; number_is = l.number_is; port_is = l.port_is }
  | inr f ↦ record { process = l.process; is_process = f.1; place = l.place; link = l.link; stands = l.stands; live = l.live; number_is = l.number_is; port_is = l.port_is }
]

-- an IPC process whose links and queues stay
pub leaves_same : (ps : List Process) (i : ℕ) (p p' : Process) → slice_get ps i ≡ Some p → p'.links ≡ p.links → p'.queues ≡ p.queues → LeavesLinks ps (slice_set ps i p')
leaves_same ps i p p' is links queues = record {
  waits = λ j n item w. elim (requeued_same ps i p p' is queues j n item w) [ inl o ↦ inl o | inr none ↦ absurd none ];
  live = live_same ps i p p' is links;
}

-- ---- what is put

module _ (m : ChannelsSeen) (ps ps' : List Process) (below : Seen) (a : AreChannels m ps below) (k : ℕ) (channel : Channel) (stands : slice_get m.channels k ≡ Some channel) where
  pub put_live : (cap : ℕ) (items : List Queued) → IsPutOn cap ps channel items ps' → LiveBefore ps ps'
  put_live cap items p i n port l = live_same ps channel.member p.process (with_put p.process p.place p.queue items) p.is_of.is_process refl i n port (subst (λ (z : List Process). HasLive z i n port) p.new_is l)

  pub put_covers : (cap now life : ℕ) (items : List Queued) (made : Pdu → Type 0) → IsPutOn cap ps channel items ps' → ((item : Queued) → In item items → made (named k channel.partner item.pdu) × (item.since + item.left ≤ life)) → CoversBut now (LinkCloud m.config m.channels ps below) made life (LinkCloud m.config m.channels ps' below)
  put_covers cap now life items made p all death pdu x alive =
      let put : Process = with_put p.process p.place p.queue items in
      let own : Attachment = p.is_of.live.link in
      let of : p.queue.link ≡ own.number = queue_link p.process 0 own.number p.place p.queue p.is_of.is_queue in
      let x' = subst (λ (z : List Process). LinkCloud m.config m.channels z below death pdu) p.new_is x in
      elim (link_after m.config m.channels (JustItems channel.member p.queue.link items) NoMore ps (slice_set ps channel.member put) below below (λ j d z. made z × (d ≤ life)) death pdu
      (requeued_put ps channel.member p.place p.process p.queue items p.is_of.is_process p.is_of.is_queue.is_queue)
      (live_same ps channel.member p.process put p.is_of.is_process refl) (after_none m.config below)
      (λ j its d plain its_stands of_link new. elim (new.made) [
        | inl put' ↦
            let link : Attachment = new.link in
            let member : its.member ≡ channel.member = sym put'.1.within.0 ∙ put'.1.new.0 in
            let number : link.number ≡ own.number = sym put'.1.within.1 ∙ put'.1.new.1 ∙ of in
            let there : HasLive ps channel.member own.number link.port = subst (λ (n : ℕ). HasLive ps channel.member n link.port) number (subst (λ (i : ℕ). HasLive ps i link.number link.port) member put'.0) in
            let port : link.port ≡ own.port = a.numbered channel.member own.number link.port own.port there p.is_of.live.live in
            let same : j ≡ k = a.apart j k its channel own.port its_stands stands (record { link = link; link_is = new.link_is; port_is = port }) (on_link channel own p.is_of.live.link_is) in
            let its_is : its ≡ channel = channels_same (slice_get m.channels k) its channel (subst (λ (n : ℕ). slice_get m.channels n ≡ Some its) same its_stands) stands in
            let told = all put'.1.item put'.1.new.2 in
            let le = told.1 in
            let dies : d ≡ put'.1.item.since + put'.1.item.left = put'.1.dies in
            let P : ℕ → Channel → Pdu → Type 0 = λ n c z. made (named n c.partner z) in
            (subst (λ (n : ℕ). P n its plain) (sym same) (subst (λ (c : Channel). P k c plain) (sym its_is) (subst (P k channel) put'.1.is told.0)), omega arith)
        | inr none ↦ absurd none.new
      ]) x') [
        | inl o ↦ inl (death, omega arith, o)
        | inr new ↦ inr new.1
      ]

  -- or written off
  full_leaves : (cap : ℕ) (pdu : Pdu) (cause : Cause) → IsFullOn cap ps channel pdu cause ps' → LeavesLinks ps ps'
  full_leaves cap pdu cause f = subst (LeavesLinks ps) (sym f.new_is) (leaves_same ps channel.member f.process (with_offs f.process (line_for pdu cause ∷ [])) f.is_of.is_process refl refl)

  pub posts_live : (cap now mpl : ℕ) (pdu : Pdu) (cause : Option Cause) → PostsOn cap now mpl ps channel pdu cause ps' → LiveBefore ps ps'
  posts_live cap now mpl pdu None s = put_live cap (record { pdu = pdu; left = mpl; since = now } ∷ []) s
  posts_live cap now mpl pdu (Some cause) s = (full_leaves cap pdu cause s.1).live

  pub posts_cover : (cap now mpl : ℕ) (pdu : Pdu) (cause : Option Cause) (made : Pdu → Type 0) → PostsOn cap now mpl ps channel pdu cause ps' → made (named k channel.partner pdu) → CoversBut now (LinkCloud m.config m.channels ps below) made (now + mpl) (LinkCloud m.config m.channels ps' below)
  posts_cover cap now mpl pdu None made s is_made death x there alive = put_covers cap now (now + mpl) (record { pdu = pdu; left = mpl; since = now } ∷ []) made s (λ item one. elim one [
    | inl is ↦
        let since : item.since ≡ now = ap (λ (z : Queued). z.since) is in
        let left : item.left ≡ mpl = ap (λ (z : Queued). z.left) is in
        (subst (λ (z : Queued). made (named k channel.partner z.pdu)) (sym is) is_made, omega arith)
    | inr none ↦ absurd none
  ]) death x there alive
  posts_cover cap now mpl pdu (Some cause) made s is_made death x there alive = inl (link_covers m.config m.channels now ps ps' below below (full_leaves cap pdu cause s.1) (after_none m.config below) death x there alive)

-- ---- a message is offered

set_length : (ends ends' : List End) (at : ℕ) (e : End) → ends' ≡ slice_set ends at e → length ends' ≡ length ends
set_length ends ends' at e is = ap (λ (es : List End). length es) is ∙ length-set ends at e

-- a piece that the end of a place made, as it crosses the link, and named again
named_piece : (k partner : ℕ) (ids : Ids) (p : Piece) → ids ≡ names_at k partner → named k partner (unnamed (pdu_of_piece ids p)) ≡ pdu_of_piece ids p
named_piece k partner ids p is = subst (λ (z : Ids). named k partner (unnamed (pdu_of_piece z p)) ≡ pdu_of_piece z p) (sym is) refl

named_ack : (k partner : ℕ) (ids : Ids) (a : Ack) → ids ≡ names_at k partner → named k partner (unnamed (pdu_of_ack ids a)) ≡ pdu_of_ack ids a
named_ack k partner ids a is = subst (λ (z : Ids). named k partner (unnamed (pdu_of_ack z a)) ≡ pdu_of_ack z a) (sym is) refl

pub offered_stands : (m : ChannelsSeen) (lines : List Direction) (ps : List Process) (below : Seen) (k : ℕ) (parts : List Part) (num : Num) (m' : ChannelsSeen) (lines' : List Direction) (ps' : List Process) → IsStanding m lines ps below → IsOfferedOn m lines ps k parts num m' lines' ps' → IsStanding m' lines' ps' below
offered_stands m lines ps below k parts num m' lines' ps' st s =
    let o = s.offers in
    let its : Ids = o.its_ids in
    let names : its ≡ names_at k s.channel.partner = ids_same (slice_get m.ids k) its (names_at k s.channel.partner) o.place.is_conn.ids_are (st.channels.names k s.channel s.stands) in
    let pieces : List Piece = offered_pieces (constants (config_of m) o.cube its) parts o.line in
    let wait : Pdu → Queued = λ pdu. record { pdu = pdu; left = o.cube.mpl; since = m.clock } in
    let covers = put_covers m ps ps' below st.channels k s.channel s.stands m.config.cap m.clock (m.clock + o.cube.mpl) (waiting_now o.cube.mpl m.clock (map unnamed s.pdus)) (λ p. In p s.pdus) s.put
    (λ item one.
    let w = in_map wait (map unnamed s.pdus) item one in
    let u = in_map unnamed s.pdus w.0 w.1 in
    let p = in_map (pdu_of_piece its) pieces u.0 (subst (λ (xs : List Pdu). In u.0 xs) o.offered.2 u.1) in
    let since : item.since ≡ m.clock = ap (λ (z : Queued). z.since) w.2 in
    let left : item.left ≡ o.cube.mpl = ap (λ (z : Queued). z.left) w.2 in
    let is : named k s.channel.partner item.pdu ≡ u.0 =
    ap (λ (z : Queued). named k s.channel.partner z.pdu) w.2 ∙ ap (named k s.channel.partner) u.2 ∙ ap (λ (z : Pdu). named k s.channel.partner (unnamed z)) p.2 ∙ named_piece k s.channel.partner its p.0 names ∙ sym p.2 in
    (subst (λ (z : Pdu). In z s.pdus) (sym is) u.1, omega arith)) in
    subst (λ (z : ChannelsSeen). IsStanding z lines' ps' below) (sym s.new_is)
    (stands_with m lines lines' m.clock s.ends' ps ps' below below st st.clock (set_length m.ends s.ends' k _ o.offered.3)
    (put_live m ps ps' below st.channels k s.channel s.stands m.config.cap (waiting_now o.cube.mpl m.clock (map unnamed s.pdus)) s.put) (stays m.config ps below)
    (holds_offered (config_of m) m.clock (LinkCloud m.config m.channels ps below) (LinkCloud m.config m.channels ps' below) m.ends m.ids lines (link_limits m.config m.manage st.managed) (held m lines ps below st) k parts num s.pdus s.ends' lines' o s.allocated s.cut covers))

-- ---- a piece is sent again

pub resent_stands : (m : ChannelsSeen) (lines : List Direction) (ps : List Process) (below : Seen) (k : ℕ) (cause : Option Cause) (lines' : List Direction) (ps' : List Process) → IsStanding m lines ps below → IsResentOn m lines ps k cause lines' ps' → IsStanding m lines' ps' below
resent_stands m lines ps below k cause lines' ps' st s =
    let e = s.is_end in
    let names = ids_same (slice_get m.ids k) s.ids (names_at k s.channel.partner) e.is_conn.ids_are (st.channels.names k s.channel e.stands) in
    let pdu : Pdu = pdu_of_piece s.ids (piece_again s.number s.line.line.sender) in
    let covers = posts_cover m ps ps' below st.channels k s.channel e.stands m.config.cap m.clock s.cube.mpl (unnamed pdu) cause (λ p. p ≡ pdu) s.posted (named_piece k s.channel.partner s.ids (piece_again s.number s.line.line.sender) names) in
    subst (λ (ls : List Direction). IsStanding m ls ps' below) (sym s.lines_are)
    (stands_with m lines _ m.clock m.ends ps ps' below below st st.clock refl (posts_live m ps ps' below st.channels k s.channel e.stands m.config.cap m.clock s.cube.mpl (unnamed pdu) cause s.posted) (stays m.config ps below)
    (holds_again (config_of m) m.clock (LinkCloud m.config m.channels ps below) (LinkCloud m.config m.channels ps' below) m.ends m.ids lines (link_limits m.config m.manage st.managed) (held m lines ps below st) k s.number s.end s.ids s.cube s.line e.is_conn e.allocated e.is_cube s.is_line s.due covers))

-- ---- an acknowledgement is made

pub acknowledged_stands : (m : ChannelsSeen) (lines : List Direction) (ps : List Process) (below : Seen) (k : ℕ) (cause : Option Cause) (lines' : List Direction) (ps' : List Process) → IsStanding m lines ps below → IsAcknowledgedOn m lines ps k cause lines' ps' → IsStanding m lines' ps' below
acknowledged_stands m lines ps below k cause lines' ps' st s =
    let e = s.is_end in
    let names = ids_same (slice_get m.ids k) s.ids (names_at k s.channel.partner) e.is_conn.ids_are (st.channels.names k s.channel e.stands) in
    let ack : Ack = record { ack = next_of s.line.line.receiver - 1; right = right_of (constants (config_of m) s.cube (flipped s.ids)) s.line } in
    let pdu : Pdu = pdu_of_ack s.ids ack in
    let covers = posts_cover m ps ps' below st.channels k s.channel e.stands m.config.cap m.clock s.cube.mpl (unnamed pdu) cause (λ p. p ≡ pdu) s.posted (named_ack k s.channel.partner s.ids ack names) in
    subst (λ (ls : List Direction). IsStanding m ls ps' below) (sym s.lines_are)
    (stands_with m lines _ m.clock m.ends ps ps' below below st st.clock refl (posts_live m ps ps' below st.channels k s.channel e.stands m.config.cap m.clock s.cube.mpl (unnamed pdu) cause s.posted) (stays m.config ps below)
    (holds_acknowledged (config_of m) m.clock (LinkCloud m.config m.channels ps below) (LinkCloud m.config m.channels ps' below) m.ends m.ids lines (link_limits m.config m.manage st.managed) (held m lines ps below st) k s.end s.ids s.cube e.is_conn e.allocated e.is_cube s.from s.line s.inbound s.due covers))
