-- What an end of a link makes may be sent on.
use Rattle.std.proofs.Common.{◌≡◌, ℕ, ◌+◌, ◌-◌, ◌*◌, ◌^◌, ◌<◌, ◌≤◌, true, List, [], ◌∷◌, length, map, slice_get, Some, None, Option, refl, sym, ◌∙◌, ap, subst, arith, inl, inr}
use Rattle.rina_account.specs.declared.ledger.Off.{Off}
use Rattle.rina_base.specs.declared.cause.Cause.{Cause}
use Rattle.rina_base.specs.declared.number.Num.{Num}
use Rattle.rina_base.specs.declared.pdu.Pdu.{Pdu}
use Rattle.rina_base.specs.declared.pdu.PduKind.TheVariants.{Piece as APiece}
use Rattle.rina_cube.specs.declared.Cube.{Cube}
use Rattle.rina_cube.specs.Cubes.{IsCube}
use Rattle.rina_iface.specs.Seen.{Seen}
use Rattle.rina_law.specs.Constants.{Constants}
use Rattle.rina_law.specs.Direction.{Direction, after_ack, is_ack_due, offer_refusal, right_of}
use Rattle.rina_law.specs.DirectionHolds.{DirectionHolds}
use Rattle.rina_law.specs.Line.{again}
use Rattle.rina_law.specs.Lists.{In}
use Rattle.rina_law.specs.Pieces.{IsCut, Part}
use Rattle.rina_law.specs.Receiver.{Piece, next_of}
use Rattle.rina_law.specs.Sender.{Ack, again_due, piece_again}
use Rattle.rina_law.proofs.Agreeing.{direction_ack, direction_again}
use Rattle.rina_law.proofs.Lawfulness.{lawful_from, welcome_from}
use Rattle.rina_law.proofs.Making.{offered_clock, offered_made}
use Rattle.rina_law.proofs.Offering.{direction_offer}
use Rattle.rina_pci.specs.Spelling.{pci_size}
use Rattle.rina_queue.specs.declared.queue.Queued.{Queued}
use Rattle.rina_data.specs.Configs.{Config, piece_size}
use Rattle.rina_data.specs.Fitting.{IsFit}
use Rattle.rina_data.specs.Process.{Process}
use Rattle.rina_data.specs.Queueing.{line_for}
use Rattle.rina_dif_law.specs.Dif.{constants}
use Rattle.rina_dif_law.specs.Ids.{Ids, IsOfLink, flipped, pdu_of_ack, pdu_of_piece}
use Rattle.rina_dif_law.specs.Sending.{offered, offered_pieces}
use Rattle.rina_dif_law.specs.Standing.{IsConfig, IsItem}
use Rattle.rina_dif_law.proofs.Own.{direction_in, direction_out}
use Rattle.rina_channel.specs.LinkCloud.{LinkCloud}
use Rattle.rina_dif_law.proofs.Giving.{IsSmall, power_positive}
use Rattle.rina_flows.specs.Laws.{waiting_now}
use Rattle.rina_channel.specs.declared.channel.Channel.{Channel}
use Rattle.rina_channel.specs.Changes.{IsFullOn, PostsOn}
use Rattle.rina_channel.specs.Channels.{ChannelsSeen}
use Rattle.rina_channel.specs.FlowLaws.{ServesLinks}
use Rattle.rina_channel.specs.Names.{link_config, names_at, unnamed}
use Rattle.rina_channel.specs.Rows.{IsAcknowledgedOn, IsOfferedOn, IsResentOn, config_of}
use Rattle.rina_channel.specs.Standing.{IsStanding}
use Rattle.rina_channel.proofs.Config.{same_size}
use Rattle.rina_channel.proofs.Frame.{link_limits, one_cube}
use Rattle.rina_channel.proofs.Rows.{in_map}

ids_same : (o : Option Ids) (a b : Ids) → o ≡ Some a → o ≡ Some b → a ≡ b
ids_same o a b h g = cc

-- ---- what is made has small numbers

small_piece : (k : Constants) (line : Direction) (parts : List Part) (p : Piece) → IsCube k.cube → DirectionHolds k line → IsCut k.piece true parts → offer_refusal k line parts ≡ None → In p (offered_pieces k parts line) → IsSmall k p
small_piece k line parts p limits holds cut free one =
    let after = direction_offer k line parts None free limits holds cut in
    let made : In (record { pdu = p; death = line.line.clock + k.cube.mpl }) ((offered k parts line).line.pieces) = offered_made k parts line.line p one in
    let clock : (offered k parts line).line.clock ≡ line.line.clock = offered_clock k parts line.line in
    let w = welcome_from k (offered k parts line) (record { pdu = p; death = line.line.clock + k.cube.mpl }) limits after (made, omega arith) in
    record { body = w.body; number = w.number }

small_again : (k : Constants) (line : Direction) (n : ℕ) → IsCube k.cube → DirectionHolds k line → again_due k line.line.clock line.line.sender ≡ Some n → IsSmall k (piece_again n line.line.sender)
small_again k line n limits holds due =
    let after = direction_again k line (Some n) due holds in
    let w = welcome_from k (record line { line = again k n line.line }) (record { pdu = piece_again n line.line.sender; death = line.line.clock + k.cube.mpl }) limits after (inl refl, omega arith) in
    record { body = w.body; number = w.number }

record IsSmallAck (k : Constants) (ack : Ack) : Type 0 where
  number : ack.ack ≤ k.max
  right : ack.right ≤ k.max

small_ack : (k : Constants) (line : Direction) → IsCube k.cube → DirectionHolds k line → is_ack_due k line ≡ true → IsSmallAck k (record { ack = next_of line.line.receiver - 1; right = right_of k line })
small_ack k line limits holds due =
    let after = direction_ack k line true due limits holds in
    let made = (lawful_from k (after_ack true k line) limits after).acks (record { pdu = record { ack = next_of line.line.receiver - 1; right = right_of k line }; death = line.line.clock + k.cube.mpl }) (inl refl, omega arith) in
    record { number = made.ack_fits; right = made.right_fits }

-- ---- so it may be sent on

piece_fits : (g : Config) (manage cube : Cube) (names ids : Ids) (p : Piece) → IsConfig g → ids.scep ≡ 0 → ids.dcep ≡ 0 → ids.qos ≡ 0 → IsSmall (constants (link_config g manage) cube names) p → IsFit g (unnamed (pdu_of_piece ids p))
piece_fits g manage cube names ids p config scep dcep qos small =
    let size = same_size g manage in
    let body : length p.part.body ≤ piece_size (link_config g manage) = small.body in
    let body' : length p.part.body ≤ g.pdu - 4 - pci_size APiece g.widths = subst (λ (n : ℕ). length p.part.body ≤ n) size body in
    let number : p.number ≤ 2 ^ (8 * g.widths.seq) - 1 = small.number in
    let seq_positive = power_positive (8 * g.widths.seq) in
    let addr_positive = power_positive (8 * g.widths.addr) in
    let cep_positive = power_positive (8 * g.widths.cep) in
    let room = config.piece in
    let long = config.long in
    record {
      fits = record { proper = (refl, refl); dst = omega arith; src = omega arith; dcep = omega arith; scep = omega arith; len = omega arith; seq = omega arith; ack = omega arith; right = omega arith };
      size = omega arith;
      qos = inl qos;
    }

ack_fits : (g : Config) (manage cube : Cube) (names ids : Ids) (k : Ack) → IsConfig g → ids.scep ≡ 0 → ids.dcep ≡ 0 → ids.qos ≡ 0 → IsSmallAck (constants (link_config g manage) cube names) k → IsFit g (unnamed (pdu_of_ack ids k))
ack_fits g manage cube names ids k config scep dcep qos small =
    let number : k.ack ≤ 2 ^ (8 * g.widths.seq) - 1 = small.number in
    let right : k.right ≤ 2 ^ (8 * g.widths.seq) - 1 = small.right in
    let seq_positive = power_positive (8 * g.widths.seq) in
    let addr_positive = power_positive (8 * g.widths.addr) in
    let cep_positive = power_positive (8 * g.widths.cep) in
    let room = config.ack in
    let long = config.long in
    record {
      fits = record { proper = (refl, refl, refl, refl, refl); dst = omega arith; src = omega arith; dcep = omega arith; scep = omega arith; len = omega arith; seq = omega arith; ack = omega arith; right = omega arith };
      size = omega arith;
      qos = inl qos;
    }

-- the names of an end, but for its address
record IsNamedZero (ids : Ids) : Type 0 where
  scep : ids.scep ≡ 0
  dcep : ids.dcep ≡ 0
  qos : ids.qos ≡ 0

zero_names : (k partner : ℕ) (ids : Ids) → ids ≡ names_at k partner → IsNamedZero ids
zero_names k partner ids is = record { scep = ap (λ (z : Ids). z.scep) is; dcep = ap (λ (z : Ids). z.dcep) is; qos = ap (λ (z : Ids). z.qos) is }

-- ---- PDUs are posted

full_serves : (cap : ℕ) (m : ChannelsSeen) (ps ps' : List Process) (channel : Channel) (pdu : Pdu) (cause : Cause) → IsOfLink pdu → IsFullOn cap ps channel pdu cause ps' → ServesLinks m.config m.clock ps ps'
full_serves cap m ps ps' channel pdu cause of f = (
  channel.member,
  inr (record {
    process = f.process;
    is_process = f.is_of.is_process;
    offs = line_for pdu cause ∷ [];
    of_links = λ off one. elim one [
      | inl is ↦ (ap (λ (z : Off). z.key.src) is ∙ of.src, ap (λ (z : Off). z.key.scep) is ∙ of.scep)
      | inr none ↦ absurd none
    ];
    new_is = f.new_is;
  }),
)

posts_serve : (m : ChannelsSeen) (ps ps' : List Process) (channel : Channel) (mpl : ℕ) (pdu : Pdu) (cause : Option Cause) → mpl < 2 ^ 32 → IsFit m.config pdu → IsOfLink pdu → PostsOn m.config.cap m.clock mpl ps channel pdu cause ps' → ServesLinks m.config m.clock ps ps'
posts_serve m ps ps' channel mpl pdu None bound fit of p =
    let item : Queued = record { pdu = pdu; left = mpl; since = m.clock } in (
      channel.member,
      inl (record {
        process = p.process;
        is_process = p.is_of.is_process;
        place = p.place;
        queue = p.queue;
        is_queue = p.is_of.is_queue.is_queue;
        items = item ∷ [];
        of_links = λ x one. elim one [
          | inl is ↦ (subst (IsItem m.config m.clock) (sym is) (record { fit = fit; past = omega arith; left = bound }), subst (λ (z : Queued). IsOfLink z.pdu) (sym is) of)
          | inr none ↦ absurd none
        ];
        new_is = p.new_is;
      }),
    )
posts_serve m ps ps' channel mpl pdu (Some cause) bound fit of p = full_serves m.config.cap m ps ps' channel pdu cause of p.1

pub messages_serve_links : (m : ChannelsSeen) (lines : List Direction) (ps : List Process) (below : Seen) (k : ℕ) (parts : List Part) (num : Num) (m' : ChannelsSeen) (lines' : List Direction) (ps' : List Process) → IsStanding m lines ps below → IsOfferedOn m lines ps k parts num m' lines' ps' → ServesLinks m.config m.clock ps ps'
messages_serve_links m lines ps below k parts num m' lines' ps' st s =
    let o = s.offers in
    let its : Ids = o.its_ids in
    let conn = o.place.is_conn in
    let names : its ≡ names_at k s.channel.partner = ids_same (slice_get m.ids k) its (names_at k s.channel.partner) conn.ids_are (st.channels.names k s.channel s.stands) in
    let zero = zero_names k s.channel.partner its names in
    let limits = link_limits m.config m.manage st.managed its.qos o.cube o.place.is_cube in
    let partner = st.journal.allocated k o.end conn.end s.allocated in
    let flow = direction_out (config_of m) m.clock (LinkCloud m.config m.channels ps below) [] m.ends m.ids lines st.own k partner.place o.end partner.other its o.line conn partner.stands o.is_line partner.partner s.allocated in
    let cube : flow.cube ≡ o.cube = one_cube m.config m.manage flow.cube its.qos flow.is_cube ∙ sym (one_cube m.config m.manage o.cube its.qos o.place.is_cube) in
    let c : Constants = constants (config_of m) o.cube its in
    let holds : DirectionHolds c o.line = subst (λ (x : Cube). DirectionHolds (constants (config_of m) x its) o.line) cube flow.backed.holds in
    let pieces : List Piece = offered_pieces c parts o.line in
    let wait : Pdu → Queued = λ pdu. record { pdu = pdu; left = o.cube.mpl; since = m.clock } in
    let mpl = limits.mpl in
    let p = s.put in (
      s.channel.member,
      inl (record {
        process = p.process;
        is_process = p.is_of.is_process;
        place = p.place;
        queue = p.queue;
        is_queue = p.is_of.is_queue.is_queue;
        items = waiting_now o.cube.mpl m.clock (map unnamed s.pdus);
        of_links = λ item one.
            let w = in_map wait (map unnamed s.pdus) item one in
            let u = in_map unnamed s.pdus w.0 w.1 in
            let q = in_map (pdu_of_piece its) pieces u.0 (subst (λ (xs : List Pdu). In u.0 xs) o.offered.2 u.1) in
            let small = small_piece c o.line parts q.0 limits holds s.cut o.offered.0 q.1 in
            let fit = piece_fits m.config m.manage o.cube its its q.0 st.managed.config zero.scep zero.dcep zero.qos small in
            let pdu : w.0 ≡ unnamed (pdu_of_piece its q.0) = u.2 ∙ ap unnamed q.2 in
            let of : IsOfLink (unnamed (pdu_of_piece its q.0)) = record { src = refl; dst = refl; scep = zero.scep; dcep = zero.dcep; qos = zero.qos } in
            (subst (IsItem m.config m.clock) (sym w.2) (record { fit = subst (IsFit m.config) (sym pdu) fit; past = omega arith; left = omega arith }), subst (λ (z : Queued). IsOfLink z.pdu) (sym w.2) (subst IsOfLink (sym pdu) of));
        new_is = p.new_is;
      }),
    )

pub resending_serves_links : (m : ChannelsSeen) (lines : List Direction) (ps : List Process) (below : Seen) (k : ℕ) (cause : Option Cause) (lines' : List Direction) (ps' : List Process) → IsStanding m lines ps below → IsResentOn m lines ps k cause lines' ps' → ServesLinks m.config m.clock ps ps'
resending_serves_links m lines ps below k cause lines' ps' st s =
    let e = s.is_end in
    let conn = e.is_conn in
    let names = ids_same (slice_get m.ids k) s.ids (names_at k s.channel.partner) conn.ids_are (st.channels.names k s.channel e.stands) in
    let zero = zero_names k s.channel.partner s.ids names in
    let limits = link_limits m.config m.manage st.managed s.ids.qos s.cube e.is_cube in
    let partner = st.journal.allocated k s.end conn.end e.allocated in
    let flow = direction_out (config_of m) m.clock (LinkCloud m.config m.channels ps below) [] m.ends m.ids lines st.own k partner.place s.end partner.other s.ids s.line conn partner.stands s.is_line partner.partner e.allocated in
    let cube : flow.cube ≡ s.cube = one_cube m.config m.manage flow.cube s.ids.qos flow.is_cube ∙ sym (one_cube m.config m.manage s.cube s.ids.qos e.is_cube) in
    let c : Constants = constants (config_of m) s.cube s.ids in
    let holds : DirectionHolds c s.line = subst (λ (x : Cube). DirectionHolds (constants (config_of m) x s.ids) s.line) cube flow.backed.holds in
    let fit = piece_fits m.config m.manage s.cube s.ids s.ids (piece_again s.number s.line.line.sender) st.managed.config zero.scep zero.dcep zero.qos (small_again c s.line s.number limits holds s.due) in
    let mpl = limits.mpl in
    posts_serve m ps ps' s.channel s.cube.mpl (unnamed (pdu_of_piece s.ids (piece_again s.number s.line.line.sender))) cause (omega arith) fit (record { src = refl; dst = refl; scep = zero.scep; dcep = zero.dcep; qos = zero.qos }) s.posted

pub acknowledging_serves_links : (m : ChannelsSeen) (lines : List Direction) (ps : List Process) (below : Seen) (k : ℕ) (cause : Option Cause) (lines' : List Direction) (ps' : List Process) → IsStanding m lines ps below → IsAcknowledgedOn m lines ps k cause lines' ps' → ServesLinks m.config m.clock ps ps'
acknowledging_serves_links m lines ps below k cause lines' ps' st s =
    let e = s.is_end in
    let conn = e.is_conn in
    let names = ids_same (slice_get m.ids k) s.ids (names_at k s.channel.partner) conn.ids_are (st.channels.names k s.channel e.stands) in
    let zero = zero_names k s.channel.partner s.ids names in
    let limits = link_limits m.config m.manage st.managed s.ids.qos s.cube e.is_cube in
    let partner = s.inbound.partner in
    let named = st.journal.named s.from k partner s.end s.inbound.is_partner conn.end s.inbound.partners in
    let flow = direction_in (config_of m) m.clock (LinkCloud m.config m.channels ps below) [] m.ends m.ids lines st.own s.from k partner s.end s.ids s.line s.inbound.is_partner conn s.inbound.is_line s.inbound.partners e.allocated named.cube in
    let cube : flow.cube ≡ s.cube = one_cube m.config m.manage flow.cube s.ids.qos flow.is_cube ∙ sym (one_cube m.config m.manage s.cube s.ids.qos e.is_cube) in
    let c : Constants = constants (config_of m) s.cube (flipped s.ids) in
    let holds : DirectionHolds c s.line = subst (λ (x : Cube). DirectionHolds (constants (config_of m) x (flipped s.ids)) s.line) cube flow.backed.holds in
    let ack : Ack = record { ack = next_of s.line.line.receiver - 1; right = right_of c s.line } in
    let fit = ack_fits m.config m.manage s.cube (flipped s.ids) s.ids ack st.managed.config zero.scep zero.dcep zero.qos (small_ack c s.line limits holds s.due) in
    let mpl = limits.mpl in
    posts_serve m ps ps' s.channel s.cube.mpl (unnamed (pdu_of_ack s.ids ack)) cause (omega arith) fit (record { src = refl; dst = refl; scep = zero.scep; dcep = zero.dcep; qos = zero.qos }) s.posted
