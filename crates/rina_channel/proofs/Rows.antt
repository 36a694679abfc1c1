-- What each row of a connection makes of the directions of all connections, over any cloud.
use Rattle.std.proofs.Common.{◌≡◌, ◌≢◌, ℕ, ◌+◌, ◌-◌, ◌≤◌, List, [], ◌∷◌, map, slice_get, slice_set, Some, Option, true, false, refl, sym, subst, arith, inl, inr}
use Rattle.std.proofs.lemmas.Option.{none-some}
use Rattle.rina_base.specs.declared.cause.Cause.{Cause}
use Rattle.rina_base.specs.declared.pdu.Pdu.{Pdu}
use Rattle.rina_base.specs.declared.pdu.PduKind.TheVariants.{Piece as APiece, Ack as AnAck}
use Rattle.rina_base.specs.declared.number.Num.{Num}
use Rattle.rina_account.specs.declared.ledger.Off.{Off}
use Rattle.rina_cube.specs.declared.Cube.{Cube}
use Rattle.rina_cube.specs.Cubes.{IsCube}
use Rattle.rina_iface.specs.declared.ends.End.{End}
use Rattle.rina_iface.specs.declared.state.PortState.{PortState}
use Rattle.rina_iface.specs.declared.state.PortState.TheVariants.{Allocated}
use Rattle.rina_iface.specs.Ends.{with_passed, with_sent}
use Rattle.rina_iface.specs.Journal.{HasPartner, IsWhole}
use Rattle.rina_iface.specs.Later.{Moves}
use Rattle.rina_iface.proofs.Grown.{dated_push}
use Rattle.rina_law.specs.declared.entry.Entry.{Entry}
use Rattle.rina_law.specs.Backed.{Covers, CoversBut}
use Rattle.rina_law.specs.Constants.{Constants}
use Rattle.rina_law.specs.Direction.{Direction, Forget, Pass, after_ack, happens, is_ack_due, right_of}
use Rattle.rina_law.specs.Line.{again}
use Rattle.rina_law.specs.Lists.{In}
use Rattle.rina_law.specs.Pdus.{piece_in}
use Rattle.rina_law.specs.Pieces.{Part, IsCut}
use Rattle.rina_law.specs.Receiver.{Piece, is_present, next_of}
use Rattle.rina_law.specs.Sender.{Ack, again_due, piece_again}
use Rattle.rina_data.specs.Configs.{Config, cube_by, piece_size}
use Rattle.rina_dif_law.specs.Dif.{constants}
use Rattle.rina_dif_law.specs.Ids.{Ids, IsFrom, flipped, pdu_of_ack, pdu_of_piece}
use Rattle.rina_dif_law.specs.Incoming.{arrived}
use Rattle.rina_dif_law.specs.Sending.{offered, offered_entry, offered_pieces}
use Rattle.rina_dif_law.specs.Standing.{IsConn, IsJournal, IsOwn}
use Rattle.rina_flows.specs.Rows.{ArrivesAt, OffersAt, PassedAt, ToldAt}
use Rattle.rina_flows.specs.Tied.{IsInboundAt}
use Rattle.rina_dif_law.proofs.Journals.{IsConst, journal_set}
use Rattle.rina_dif_law.proofs.Own.{direction_out, journals, own_covered, partner_back}
use Rattle.rina_dif_law.proofs.OwnEnds.{ends_down, own_ended}
use Rattle.rina_dif_law.proofs.OwnRows.{MadeOf, own_acknowledged, own_again, own_arrived, own_forgot, own_offered, own_passed, own_told}
use Rattle.rina_dif_law.proofs.Placed.{is_up}
use Rattle.rina_channel.proofs.Dated.{arrived_whole}

-- the journal and the directions hold
pub record Holds (g : Config) (now : ℕ) (cloud : ℕ → Pdu → Type 0) (ends : List End) (ids : List Ids) (lines : List Direction) : Type 0 where
  pub journal : IsJournal now ends
  pub own : IsOwn g now cloud [] ends ids lines

pub same_cloud : (now : ℕ) (cloud : ℕ → Pdu → Type 0) → Covers now cloud cloud
same_cloud now cloud death pdu x alive = (death, omega arith, x)

pub in_map : {X Y : Type 0} (f : X → Y) (xs : List X) (y : Y) → In y (map f xs) → (x : X) × In x xs × (y ≡ f x)
in_map f [] y h = absurd h
in_map f (x ∷ xs) y (inl is) = (x, inl refl, is)
in_map f (x ∷ xs) y (inr more) = (let m = in_map f xs y more in (m.0, inr m.1, m.2))

module _ (g : Config) (now : ℕ) (cloud cloud' : ℕ → Pdu → Type 0) (ends : List End) (ids : List Ids) (lines : List Direction) (limits : (id : ℕ) (cube : Cube) → cube_by id g.cubes ≡ Some cube → IsCube cube) (h : Holds g now cloud ends ids lines) where
  -- nothing is done, and the cloud is covered
  pub holds_covered : Covers now cloud cloud' → Holds g now cloud' ends ids lines
  holds_covered covers = record { journal = h.journal; own = own_covered g now cloud cloud' [] ends ids lines h.own covers }

  -- ---- an SDU is offered

  pub holds_offered : (at : ℕ) (parts : List Part) (num : Num) (pdus : List Pdu) (ends' : List End) (lines' : List Direction) → (o : OffersAt g ends ids lines at parts num pdus ends' lines') → o.end.state ≡ Allocated → IsCut (piece_size g) true parts → CoversBut now cloud (λ p. In p pdus) (now + o.cube.mpl) cloud' → Holds g now cloud' ends' ids lines'
  holds_offered at parts num pdus ends' lines' o allocated cut covers =
      let its : Ids = o.its_ids in
      let k : Constants = constants g o.cube its in
      let line' : Direction = offered k parts o.line in
      let entry : Entry = offered_entry k parts o.line in
      let end' : End = with_sent o.end entry in
      let pieces : List Piece = offered_pieces k parts o.line in
      let conn = o.place.is_conn in
      let made : CoversBut now cloud (MadeOf its pieces) (now + o.cube.mpl) cloud' = λ death p x alive. elim (covers death p x alive) [
        | inl old ↦ inl old
        | inr new ↦ inr (in_map (pdu_of_piece its) pieces p (subst (λ (ps : List Pdu). In p ps) (o.offered.2) new.0), new.1)
      ] in
      let partner = h.journal.allocated at o.end conn.end allocated in
      let flow = journals g now cloud [] ends ids lines h.own at partner.place o.end partner.other o.line conn.end partner.stands o.is_line partner.partner in
      let const : IsConst o.end end' = record { flow = refl; role = refl; port = refl; app = refl; peer = refl; cube = refl } in
      let was = h.journal.whole at o.end conn.end in
      let whole : IsWhole now end' = record { sent = dated_push now o.end.sent entry was.sent flow.clock; got = was.got; taken = was.taken } in
      let own = own_offered g now cloud cloud' [] ends ids lines h.own at o.end its o.cube conn allocated o.place.is_cube (limits its.qos o.cube o.place.is_cube) o.line o.is_line partner.place partner.other partner.stands partner.partner parts cut o.offered.0 made in
      subst (λ (es : List End). Holds g now cloud' es ids lines') (sym o.offered.3) (subst (λ (ls : List Direction). Holds g now cloud' (slice_set ends at end') ids ls) (sym o.offered.4)
      (record {
        journal = journal_set ends at o.end end' conn.end const now h.journal whole (λ state. partner) (λ j x z. h.journal.met at j o.end x conn.end z);
        own = own;
      }))

  -- ---- a piece arrives

  pub holds_arrived : (older at : ℕ) (pdu : Pdu) (cause : Option Cause) (offs : List Off) (ends' : List End) (lines' : List Direction) → cloud older pdu → now ≤ older → pdu.kind ≡ APiece → (a : ArrivesAt g ends ids lines at pdu cause offs ends' lines') → a.end.state ≡ Allocated → IsFrom (flipped a.its_ids) pdu → Covers now cloud cloud' → Holds g now cloud' ends' ids lines'
  holds_arrived older at pdu cause offs ends' lines' has alive kind a allocated names covers =
      let its : Ids = a.its_ids in
      let k : Constants = constants g a.cube (flipped its) in
      let line' : Direction = arrived k (piece_in pdu) a.line in
      let end' : End = record a.end { got = line'.inbox.got } in
      let conn = a.place.is_conn in
      let partner = a.inbound.partner in
      let flow = journals g now cloud [] ends ids lines h.own a.from at partner a.end a.line a.inbound.is_partner conn.end a.inbound.is_line a.inbound.partners in
      let has_partner : HasPartner ends a.end = record { place = a.from; other = partner; stands = a.inbound.is_partner; partner = partner_back partner a.end a.inbound.partners } in
      let const : IsConst a.end end' = record { flow = refl; role = refl; port = refl; app = refl; peer = refl; cube = refl } in
      let whole = arrived_whole k now (piece_in pdu) a.line a.end flow.clock flow.got (h.journal.whole at a.end conn.end) in
      let own = own_arrived g now cloud cloud' [] ends ids lines h.own h.journal at a.end its a.cube conn a.place.is_cube (limits its.qos a.cube a.place.is_cube) a.from partner a.inbound.is_partner a.inbound.partners a.line a.inbound.is_line allocated older pdu has alive kind names covers in
      subst (λ (es : List End). Holds g now cloud' es ids lines') (sym a.arrived.2) (subst (λ (ls : List Direction). Holds g now cloud' (slice_set ends at end') ids ls) (sym a.arrived.3)
      (record { journal = journal_set ends at a.end end' conn.end const now h.journal whole (λ state. has_partner) (λ j x z. has_partner); own = own }))

  -- ---- an acknowledgement arrives

  pub holds_told : (older at : ℕ) (pdu : Pdu) (end : End) (its : Ids) (lines' : List Direction) → cloud older pdu → now ≤ older → pdu.kind ≡ AnAck → IsConn ends ids at end its → end.state ≡ Allocated → IsFrom (flipped its) pdu → ToldAt lines at pdu lines' → Covers now cloud cloud' → Holds g now cloud' ends ids lines'
  holds_told older at pdu end its lines' has alive kind conn allocated names t covers =
      let partner = h.journal.allocated at end conn.end allocated in
      let flow = direction_out g now cloud [] ends ids lines h.own at partner.place end partner.other its t.line conn partner.stands t.is_line partner.partner allocated in
      let own = own_told g now cloud cloud' [] ends ids lines h.own at end its flow.cube conn allocated flow.is_cube (limits its.qos flow.cube flow.is_cube) t.line t.is_line partner.place partner.other partner.stands partner.partner older pdu has alive kind names covers in
      subst (λ (ls : List Direction). Holds g now cloud' ends ids ls) (sym t.lines_are) (record { journal = h.journal; own = own })

  -- ---- a number is sent again

  pub holds_again : (at n : ℕ) (end : End) (its : Ids) (cube : Cube) (line : Direction) → IsConn ends ids at end its → end.state ≡ Allocated → cube_by its.qos g.cubes ≡ Some cube → slice_get lines at ≡ Some line → again_due (constants g cube its) line.line.clock line.line.sender ≡ Some n → CoversBut now cloud (λ p. p ≡ pdu_of_piece its (piece_again n line.line.sender)) (now + cube.mpl) cloud' → Holds g now cloud' ends ids (slice_set lines at (record line { line = again (constants g cube its) n line.line }))
  holds_again at n end its cube line conn allocated is_cube is_line due covers =
      let partner = h.journal.allocated at end conn.end allocated in
      record { journal = h.journal; own = own_again g now cloud cloud' [] ends ids lines h.own at end its cube conn allocated is_cube (limits its.qos cube is_cube) line is_line partner.place partner.other partner.stands partner.partner n due covers }

  -- ---- an acknowledgement is made

  abbrev ack_now : Ids → Cube → Direction → Ack
  ack_now its cube line = record { ack = next_of line.line.receiver - 1; right = right_of (constants g cube (flipped its)) line }

  module _ (at : ℕ) (end : End) (its : Ids) (cube : Cube) (conn : IsConn ends ids at end its) (allocated : end.state ≡ Allocated) (is_cube : cube_by its.qos g.cubes ≡ Some cube) (from : ℕ) (line : Direction) (inbound : IsInboundAt ends lines end from line) where
    pub holds_acknowledged : is_ack_due (constants g cube (flipped its)) line ≡ true → CoversBut now cloud (λ p. p ≡ pdu_of_ack its (ack_now its cube line)) (now + cube.mpl) cloud' → Holds g now cloud' ends ids (slice_set lines from (after_ack true (constants g cube (flipped its)) line))
    holds_acknowledged due covers = record { journal = h.journal; own = own_acknowledged g now cloud cloud' [] ends ids lines h.own h.journal at end its cube conn is_cube (limits its.qos cube is_cube) from inbound.partner inbound.is_partner inbound.partners line inbound.is_line allocated due covers }

    -- ---- what is held of a state that is gone is given up

    pub holds_forgot : is_present (constants g cube (flipped its)) line.line.clock line.line.receiver ≡ false → Covers now cloud cloud' → Holds g now cloud' ends ids (slice_set lines from (happens (constants g cube (flipped its)) line Forget))
    holds_forgot gone covers = record { journal = h.journal; own = own_forgot g now cloud cloud' [] ends ids lines h.own h.journal at end its cube conn is_cube (limits its.qos cube is_cube) from inbound.partner inbound.is_partner inbound.partners line inbound.is_line allocated gone covers }

  -- ---- a message is handled

  pub holds_passed : (at : ℕ) (ends' : List End) (lines' : List Direction) → PassedAt g ends ids lines at ends' lines' → Covers now cloud cloud' → Holds g now cloud' ends' ids lines'
  holds_passed at ends' lines' s covers =
      let its : Ids = s.its_ids in
      let k : Constants = constants g s.cube (flipped its) in
      let line' : Direction = happens k s.line Pass in
      let end' : End = with_passed s.end in
      let conn = s.place.is_conn in
      let partner = s.inbound.partner in
      let has_partner : HasPartner ends s.end = record { place = s.from; other = partner; stands = s.inbound.is_partner; partner = partner_back partner s.end s.inbound.partners } in
      let const : IsConst s.end end' = record { flow = refl; role = refl; port = refl; app = refl; peer = refl; cube = refl } in
      let was = h.journal.whole at s.end conn.end in
      let waits = s.waits in
      let whole : IsWhole now end' = record { sent = was.sent; got = was.got; taken = omega arith } in
      let own = own_passed g now cloud cloud' [] ends ids lines h.own h.journal at s.end its s.cube conn s.place.is_cube (limits its.qos s.cube s.place.is_cube) s.from partner s.inbound.is_partner s.inbound.partners s.line s.inbound.is_line waits covers in
      subst (λ (es : List End). Holds g now cloud' es ids lines') (sym s.ends_are) (subst (λ (ls : List Direction). Holds g now cloud' (slice_set ends at end') ids ls) (sym s.lines_are)
      (record { journal = journal_set ends at s.end end' conn.end const now h.journal whole (λ state. has_partner) (λ j x z. has_partner); own = own }))

  -- ---- an end ends

  pub holds_ended : (at : ℕ) (end : End) (its : Ids) (state : PortState) → IsConn ends ids at end its → end.state ≡ Allocated → Moves end.state state → state ≢ Allocated → Covers now cloud cloud' → Holds g now cloud' (slice_set ends at (record end { state = state })) ids lines
  holds_ended at end its state conn allocated moves other covers =
      let end' : End = record end { state = state } in
      let const : IsConst end end' = record { flow = refl; role = refl; port = refl; app = refl; peer = refl; cube = refl } in
      let was = h.journal.whole at end conn.end in
      let whole : IsWhole now end' = record { sent = was.sent; got = was.got; taken = was.taken } in
      let partner = h.journal.allocated at end conn.end allocated in
      let ended = own_ended g now cloud [] ends ids lines h.own at end its conn (is_up end allocated) state (ends_down end.state state allocated moves other) [] (λ n flow side point stands is up own scep rests i member ids is_member are_ids. absurd (none-some ids are_ids)) in record {
        journal = journal_set ends at end end' conn.end const now h.journal whole (λ is. partner) (λ j x z. partner);
        own = own_covered g now cloud cloud' [] (slice_set ends at end') ids lines ended covers;
      }
