-- An SDU is sent on a flow of a DIF, or refused.
use Rattle.std.proofs.Common.{◌≡◌, ◌≢◌, ◌∙◌, ℕ, ◌+◌, ◌-◌, ◌≤◌, Bool, true, List, [], ◌∷◌, ◌++◌, length, map, slice_get, slice_set, Option, Some, None, Result, Ok, Err, option_map, refl, suc, sym, ap, subst, arith, false, inl}
use Rattle.std.proofs.lemmas.Bool.Decides.{nat_tests}
use Rattle.std.proofs.lemmas.List.{length-map, map-set}
use Rattle.std.proofs.lemmas.Option.{same_Some, slice_get-map}
use Rattle.rina_base.specs.declared.number.Num.{Num}
use Rattle.rina_base.specs.declared.pdu.Pdu.{Pdu}
use Rattle.rina_conn.specs.declared.made.Made.{Made}
use Rattle.rina_conn.specs.declared.made.OfferError.{OfferError}
use Rattle.rina_conn.specs.declared.made.OfferError.TheVariants as offer
use Rattle.rina_conn.specs.Sending.{Refuses}
use Rattle.rina_cube.specs.declared.Cube.{Cube}
use Rattle.rina_iface.specs.declared.ends.End.{End}
use Rattle.rina_iface.specs.declared.error.SendError.{SendError}
use Rattle.rina_iface.specs.declared.error.SendError.TheVariants as errors
use Rattle.rina_iface.specs.Seen.{Seen}
use Rattle.rina_law.specs.Constants.{Constants}
use Rattle.rina_law.specs.Direction.{Direction, offer_refusal}
use Rattle.rina_law.specs.Pieces.{Part, IsCut, join}
use Rattle.rina_law.specs.Receiver.{Piece}
use Rattle.rina_law.specs.Sender.{Refusal, Sender, pieces_for, sender_with}
use Rattle.rina_queue.specs.declared.queue.Queue.{Queue as Waiting}
use Rattle.rina_queue.specs.declared.queue.Queued.{Queued}
use Rattle.rina_queue.specs.Queues.{queue_place as place_there, waiting, with_items}
use Rattle.rina_data.specs.declared.process.IpcProcess.{IpcProcess}
use Rattle.rina_data.specs.Configs.{config_of, cube_by, piece_size}
use Rattle.rina_data.specs.Deciding.{plain, process_of}
use Rattle.rina_dif_law.specs.Dif.{DifSeen, constants}
use Rattle.rina_data.specs.Process.{IsQueue, Process, next_hop, with_put}
use Rattle.rina_dif_law.specs.Ids.{Ids, pdu_of_piece}
use Rattle.rina_dif_law.specs.Sending.{IsOffered, Offers, by_room, by_sender, home, made_items, offered_pieces, refused_at}
use Rattle.rina_dif_law.proofs.Carries.{offers_carry}
use Rattle.rina_dif_law.proofs.Numbering.{offers_numbered}
use Rattle.rina_dif_law.proofs.Giving.{offers_stand}
use Rattle.rina_dif_law.proofs.Making.{offers_accounted}
use Rattle.rina_dif_law.proofs.Warranted.{offers_written}
use Rattle.rina_data.proofs.Plain.{same_place}
use Rattle.rina_flows.specs.declared.flows.Flows.{Flows}
use Rattle.rina_flows.specs.Calls.{Accepts, Offers as FlowsOffer}
use Rattle.rina_flows.specs.Tied.{conns_of, ids_of, outward}
use Rattle.rina_flows.proofs.Framed.{ids_at}
use Rattle.rina_flows.proofs.Unused.{allocated_used}
use Rattle.rina_dif.specs.declared.dif.Dif.{Dif}
use Rattle.rina_dif.specs.declared.send.FirstHop.{FirstHop}
use Rattle.rina_dif.specs.Facade.{way_refusal}
use Rattle.rina_dif.specs.Holding.{AreHoused, Holds}
use Rattle.rina_dif.specs.Sending.{AreOf, HasPut, HasRoomFor, IsAdmitted, IsBarred, Puts, Sends, SendsAt, queued, send_error}
use Rattle.rina_dif.specs.Shown.{seen_of}
use Rattle.rina_dif.specs.Whole.{IsDif}
use Rattle.rina_dif.proofs.Causing.{offered_caused}
use Rattle.rina_dif.proofs.Barred.{line_there, parts_of, past, sender_refusal}
use Rattle.rina_dif.proofs.Keeping.{home_set, house_is, put_house}
use Rattle.rina_dif.proofs.Putting.{waiting_there}
use Rattle.rina_dif.proofs.Ways.{by_queue}
use Rattle.rina_channel.proofs.Leaving.{sends_leave}
use Rattle.rina_dif.proofs.Connected.{kept_by}
use Rattle.rina_dif.proofs.LinkEnds.{live_floods}

-- A refusal

offers_err : (d : DifSeen) (lines : List Direction) (at : ℕ) (parts : List Part) (e : SendError) → refused_at d lines at parts ≡ Some e → Offers d lines at parts (Err e) d lines
offers_err d lines at parts errors.Memory r = (refl, refl)
offers_err d lines at parts (errors.NotAllocated state) r = (r, refl, refl)
offers_err d lines at parts (errors.Failed fail) r = (r, refl, refl)
offers_err d lines at parts (errors.TooLong len max) r = (r, refl, refl)
offers_err d lines at parts (errors.WindowShut need room) r = (r, refl, refl)
offers_err d lines at parts (errors.NoRoute dst) r = (r, refl, refl)
offers_err d lines at parts (errors.QueueFull need room) r = (r, refl, refl)
offers_err d lines at parts (errors.NumbersSpent until) r = (r, refl, refl)

pub sends_barred : (d : Dif) (at : ℕ) (sdu : List ℕ) (e : SendError) → IsBarred d at sdu e → (lines : List Direction) (below : Seen) → Holds d lines below → Sends d lines below at sdu (Err e) d
sends_barred d at sdu e barred lines below h =
    let parts = parts_of (config_of d.settings) sdu h.standing.config in
    record { parts = parts.0; cut = parts.1; lines' = lines; offers = offers_err (seen_of d) lines at parts.0 e (barred lines parts.0 h.tied parts.1); holds = h }

pub sends_memory : (d : Dif) (at : ℕ) (sdu : List ℕ) (lines : List Direction) (below : Seen) → Holds d lines below → Sends d lines below at sdu (Err errors.Memory) d
sends_memory d at sdu lines below h =
    let parts = parts_of (config_of d.settings) sdu h.standing.config in
    record { parts = parts.0; cut = parts.1; lines' = lines; offers = (refl, refl); holds = h }

-- The way is open

in_room : (cap size need : ℕ) → size + need ≤ cap → by_room need (cap - size) ≡ None
in_room cap size need le = (let less : need ≤ cap - size = omega (arith, le) in grind (arith, nat_tests, less))

way_none : (d : Dif) (at : ℕ) (sdu : List ℕ) (way : FirstHop) → AreHoused (config_of d.settings) d.processes → (a : IsAdmitted d at sdu way) → way_refusal d a.end a.conn a.need ≡ None
way_none d at sdu way housed a =
    let w = a.goes in
    let cap = (housed way.home w.process w.is_process).cap in
    let size = length (waiting (ids_of a.conn).qos way.link w.process.queues.queues.items) in
    let room : size + a.need ≤ d.settings.cap = (let r = w.room.room in omega (arith, r, cap)) in
    by_queue d.settings.cap a.need (ids_of a.conn) d.processes (home a.end.port.node (config_of d.settings).members) way.home w.process way.link w.at_home w.is_process w.hop w.room.there ∙ in_room d.settings.cap size a.need room

count_is : (d : Dif) (lines : List Direction) (below : Seen) (at : ℕ) (sdu : List ℕ) (way : FirstHop) (line : Direction) (parts : List Part) → Holds d lines below → (a : IsAdmitted d at sdu way) → slice_get lines at ≡ Some line → IsCut (piece_size (config_of d.settings)) true parts → join parts ≡ sdu → length parts ≡ a.need
count_is d lines below at sdu way line parts h a is_line cut joins =
    let size = (h.tied.sends at a.conn line a.is_at.conn_is is_line).sender.piece in
    a.told_need parts (subst (λ (n : ℕ). IsCut n true parts) (sym size) cut) (ap length joins)

-- nothing is refused but by the sender
past_all : (d : Dif) (lines : List Direction) (below : Seen) (at : ℕ) (sdu : List ℕ) (way : FirstHop) (line : Direction) (parts : List Part) → Holds d lines below → (a : IsAdmitted d at sdu way) → slice_get lines at ≡ Some line → IsCut (piece_size (config_of d.settings)) true parts → join parts ≡ sdu
    → refused_at (seen_of d) lines at parts ≡ by_sender (sender_refusal d a.conn line parts) None
past_all d lines below at sdu way line parts h a is_line cut joins =
    let count = count_is d lines below at sdu way line parts h a is_line cut joins in
    past d lines at sdu a.end a.conn line parts h.tied a.is_at is_line a.allocated a.short joins ∙ ap (λ (w : Option SendError). by_sender (sender_refusal d a.conn line parts) w) (ap (way_refusal d a.end a.conn) count ∙ way_none d at sdu way h.housed a)

told : (why : OfferError) (r : Option Refusal) → why ≢ offer.Memory → Refuses why r → by_sender r None ≡ Some (send_error why)
told offer.Memory r other refuses = absurd (other refl)
told (offer.TooLong len max) r other refuses = ap (λ (x : Option Refusal). by_sender x None) refuses
told (offer.WindowShut need room) r other refuses = ap (λ (x : Option Refusal). by_sender x None) refuses
told (offer.NumbersSpent until) r other refuses = ap (λ (x : Option Refusal). by_sender x None) refuses

refused_here : (d : Dif) (at : ℕ) (sdu : List ℕ) (way : FirstHop) (why : OfferError) (flows : Flows) → why ≢ offer.Memory → IsAdmitted d at sdu way → FlowsOffer d.clock at sdu d.flows (Err why) flows → (lines : List Direction) (below : Seen) → Holds d lines below → Sends d lines below at sdu (Err (send_error why)) d
refused_here d at sdu way why flows other a offers lines below h =
    let line = line_there d lines at a.end h.tied a.is_at.end_is in
    let o = offers (config_of d.settings) lines h.tied in
    let r = o.0 other a.conn line.0 a.is_at.conn_is line.1 in
    record { parts = r.parts; cut = r.cut; lines' = lines; offers = offers_err (seen_of d) lines at r.parts (send_error why) (past_all d lines below at sdu way line.0 r.parts h a line.1 r.cut.0 r.cut.1 ∙ told why (sender_refusal d a.conn line.0 r.parts) other r.refuses); holds = h }

refused_by : (d : Dif) (at : ℕ) (sdu : List ℕ) (way : FirstHop) (why : OfferError) (flows : Flows) → IsAdmitted d at sdu way → FlowsOffer d.clock at sdu d.flows (Err why) flows → (lines : List Direction) (below : Seen) → Holds d lines below → Sends d lines below at sdu (Err (send_error why)) d
refused_by d at sdu way offer.Memory flows a offers lines below h = sends_memory d at sdu lines below h
refused_by d at sdu way (offer.TooLong len max) flows a offers lines below h = refused_here d at sdu way (offer.TooLong len max) flows (λ e. absurd cc) a offers lines below h
refused_by d at sdu way (offer.WindowShut need room) flows a offers lines below h = refused_here d at sdu way (offer.WindowShut need room) flows (λ e. absurd cc) a offers lines below h
refused_by d at sdu way (offer.NumbersSpent until) flows a offers lines below h = refused_here d at sdu way (offer.NumbersSpent until) flows (λ e. absurd cc) a offers lines below h

pub sends_refused : (d : Dif) (at : ℕ) (sdu : List ℕ) (way : FirstHop) (why : OfferError) (flows : Flows) → IsAdmitted d at sdu way → FlowsOffer d.clock at sdu d.flows (Err why) flows → (lines : List Direction) (below : Seen) → Holds d lines below → Sends d lines below at sdu (Err (send_error why)) (record d { flows = flows })
sends_refused d at sdu way why flows a offers lines below h =
    let same = (offers (config_of d.settings) lines h.tied).1 in
    subst (λ (f : Flows). Sends d lines below at sdu (Err (send_error why)) (record d { flows = f })) (sym same) (refused_by d at sdu way why flows a offers lines below h)

-- The pieces

-- a piece is made of each part
pub pieces_count : (c : Constants) (now : ℕ) (parts : List Part) (tx : Sender) → length (pieces_for c now parts tx) ≡ length parts
pieces_count c now [] tx = refl
pieces_count c now (p ∷ ps) tx = ap suc (pieces_count c now ps (sender_with c now p tx))

made_is : (ids : Ids) (mpl now : ℕ) (ps : List Piece) → queued mpl now (map (pdu_of_piece ids) ps) ≡ made_items ids mpl now ps
made_is ids mpl now [] = refl
made_is ids mpl now (p ∷ ps) = ap (λ (items : List Queued). record { pdu = pdu_of_piece ids p; left = mpl; since = now } ∷ items) (made_is ids mpl now ps)

all_of : (ids : Ids) (qos : ℕ) (pdus : List Pdu) (ps : List Piece) → pdus ≡ map (pdu_of_piece ids) ps → ids.qos ≡ qos → AreOf qos pdus
all_of ids qos pdus ps are same k pdu is = from (slice_get ps k) refl
  where
    there : slice_get (map (pdu_of_piece ids) ps) k ≡ Some pdu
    there = ap (λ (xs : List Pdu). slice_get xs k) (sym are) ∙ is

    from : (o : Option Piece) → slice_get ps k ≡ o → pdu.qos ≡ qos
    from None e = absurd (let none : Some pdu ≡ None = sym there ∙ slice_get-map (pdu_of_piece ids) ps k ∙ ap (option_map (pdu_of_piece ids)) e in cc)
    from (Some p) e = (let some : pdu_of_piece ids p ≡ pdu = same_Some (pdu_of_piece ids p) pdu (sym (slice_get-map (pdu_of_piece ids) ps k ∙ ap (option_map (pdu_of_piece ids)) e) ∙ there) in ap (λ (x : Pdu). x.qos) (sym some) ∙ same)

-- What was admitted, in the terms of the offer

pub record IsSame (d : Dif) (at : ℕ) (sdu : List ℕ) (way : FirstHop) (a : IsAdmitted d at sdu way) (end : End) (ids : Ids) (cube : Cube) : Type 0 where
  pub end_is : a.end ≡ end
  pub ids_are : ids_of a.conn ≡ ids
  pub cube_is : a.conn.sending.form.cube ≡ cube

same_there : (d : Dif) (lines : List Direction) (below : Seen) (at : ℕ) (sdu : List ℕ) (way : FirstHop) (made : Made) (flows : Flows) → Holds d lines below → (a : IsAdmitted d at sdu way) → (o : Accepts (config_of d.settings) d.clock at sdu d.flows lines made flows) → IsSame d at sdu way a o.offers.end o.offers.its_ids o.offers.cube
same_there d lines below at sdu way made flows h a o =
    let q = o.offers in
    let conn = q.place.is_conn in
    let ids : ids_of a.conn ≡ q.its_ids = same_Some (ids_of a.conn) q.its_ids (sym (ids_at d.flows.conns at a.conn a.is_at.conn_is) ∙ conn.ids_are) in
    let sends = h.tied.sends at a.conn q.line a.is_at.conn_is q.is_line in
    let cube : cube_by q.its_ids.qos (config_of d.settings).cubes ≡ Some a.conn.sending.form.cube = subst (λ (x : Ids). cube_by x.qos (config_of d.settings).cubes ≡ Some a.conn.sending.form.cube) ids sends.cube in
    record {
      end_is = same_Some a.end q.end (sym a.is_at.end_is ∙ conn.end);
      ids_are = ids;
      cube_is = same_Some a.conn.sending.form.cube q.cube (sym cube ∙ q.place.is_cube);
    }

-- the PDUs that are made have room in their queue
pub record CanPut (d : Dif) (way : FirstHop) (pdus : List Pdu) : Type 0 where
  pub cube : AreOf way.qos pdus
  pub room : (p : IpcProcess) → slice_get d.processes way.home ≡ Some p → HasRoomFor way.qos way.link (length pdus) p

pub can_put : (d : Dif) (at : ℕ) (sdu : List ℕ) (way : FirstHop) (made : Made) (flows : Flows) → IsDif d → IsAdmitted d at sdu way → FlowsOffer d.clock at sdu d.flows (Ok made) flows → CanPut d way made.pdus
can_put d at sdu way made flows is a offers =
    let lines : List Direction = is.stands.0 in
    let h = is.stands.1 in
    let o = offers (config_of d.settings) lines h.tied (allocated_used d.clock d.flows.journal.ends at a.end h.standing.journal a.is_at.end_is a.allocated) in
    let q = o.offers in
    let s = same_there d lines is.below at sdu way made flows h a o in
    let c = constants (config_of d.settings) q.cube q.its_ids in
    let pdus : made.pdus ≡ map (pdu_of_piece q.its_ids) (offered_pieces c o.parts q.line) = q.offered.2 in
    let count = count_is d lines is.below at sdu way q.line o.parts h a q.is_line o.cut.0 o.cut.1 in
    let number : length made.pdus ≡ a.need = ap length pdus ∙ length-map (offered_pieces c o.parts q.line) (pdu_of_piece q.its_ids) ∙ pieces_count c q.line.line.clock o.parts _ ∙ count in
    let room : HasRoomFor way.qos way.link a.need a.goes.process = subst (λ (n : ℕ). HasRoomFor n way.link a.need a.goes.process) (sym a.qos) a.goes.room in
    record {
      cube = all_of q.its_ids way.qos made.pdus (offered_pieces c o.parts q.line) pdus (ap (λ (x : Ids). x.qos) (sym s.ids_are) ∙ sym a.qos);
      room = λ p there. (let same : a.goes.process ≡ p = same_Some a.goes.process p (sym a.goes.is_process ∙ there) in
          subst (λ (n : ℕ). HasRoomFor way.qos way.link n p) (sym number) (subst (λ (x : IpcProcess). HasRoomFor way.qos way.link a.need x) same room));
    }

-- what was put, as the DIF sees it
pub record IsPut (d : Dif) (ids : Ids) (way : FirstHop) (items : List Queued) (p p' : IpcProcess) : Type 0 where
  pub place : ℕ
  pub queue : Waiting
  pub is_queue : IsQueue (process_of p) ids.qos way.link place (plain queue)
  pub waits : waiting ids.qos way.link p.queues.queues.items ≡ queue.ring.items
  pub new_is : process_of p' ≡ with_put (process_of p) place (plain queue) items

pub is_put : (d : Dif) (ids : Ids) (way : FirstHop) (items : List Queued) (p p' : IpcProcess) → way.qos ≡ ids.qos → HasPut way.qos way.link items p p' → IsPut d ids way items p p'
is_put d ids way items p p' qos h =
    let k = h.queues.0 in
    let q = h.queues.1 in
    let old = p.queues.queues.items in
    let found : place_there ids.qos way.link old ≡ Some k = ap (λ (n : ℕ). place_there n way.link old) (sym qos) ∙ sym h.queues.2 in
    let queues : map plain p'.queues.queues.items ≡ slice_set (map plain old) k (plain (with_items (q.ring.items ++ items) q)) = ap (map plain) h.queues.4 ∙ map-set plain old k (with_items (q.ring.items ++ items) q) in
    record {
      place = k;
      queue = q;
      is_queue = record { found = same_place ids.qos way.link old ∙ found; is_queue = slice_get-map plain old k ∙ ap (option_map plain) h.queues.3 };
      waits = waiting_there ids.qos way.link old k q found h.queues.3;
      new_is = λ i. record { links = h.links i; routes = h.routes i; queues = queues i; ledger = h.ledger i };
    }

-- It is accepted

seen_sent : (d : Dif) (flows : Flows) (ps : List IpcProcess) (ends : List End) (processes : List Process) → flows.journal.ends ≡ ends → conns_of flows.conns ≡ conns_of d.flows.conns → map process_of ps ≡ processes → seen_of (record d { processes = ps; flows = flows }) ≡ record (seen_of d) { ends = ends; processes = processes }
seen_sent d flows ps ends processes es cs is = λ i. record { config = config_of d.settings; manage = d.connections.manage; clock = d.clock; processes = is i; ends = es i; conns = cs i; ids = d.ids; waiting = d.waiting.items; names = d.names; enrolled = d.enrolled }

accepted : (d : Dif) (lines : List Direction) (below : Seen) (at : ℕ) (sdu : List ℕ) (way : FirstHop) (made : Made) (flows : Flows) (p' : IpcProcess) (ps : List IpcProcess) → Holds d lines below → (a : IsAdmitted d at sdu way) → (o : Accepts (config_of d.settings) d.clock at sdu d.flows lines made flows) → HasPut way.qos way.link (queued way.left d.clock made.pdus) a.goes.process p' → ps ≡ slice_set d.processes way.home p' → IsOffered (seen_of d) lines at o.parts made.num (seen_of (record d { processes = ps; flows = flows })) o.lines'
accepted d lines below at sdu way made flows p' ps h a o put new =
    let g = config_of d.settings in
    let q = o.offers in
    let s = same_there d lines below at sdu way made flows h a o in
    let c = constants g q.cube q.its_ids in
    let pieces = offered_pieces c o.parts q.line in
    let w = a.goes in
    let i = is_put d q.its_ids way (queued way.left d.clock made.pdus) w.process p' (a.qos ∙ ap (λ (x : Ids). x.qos) s.ids_are) put in
    let left : way.left ≡ q.cube.mpl = a.left ∙ ap (λ (x : Cube). x.mpl) s.cube_is in
    let items : queued way.left d.clock made.pdus ≡ made_items q.its_ids q.cube.mpl d.clock pieces = ap (λ (n : ℕ). queued n d.clock made.pdus) left ∙ ap (queued q.cube.mpl d.clock) q.offered.2 ∙ made_is q.its_ids q.cube.mpl d.clock pieces in
    let count = count_is d lines below at sdu way q.line o.parts h a q.is_line o.cut.0 o.cut.1 in
    let cap = (h.housed way.home w.process w.is_process).cap in
    let room : length (waiting (ids_of a.conn).qos way.link w.process.queues.queues.items) + a.need ≤ w.process.queues.cap = w.room.room in
    let room' : length (waiting q.its_ids.qos way.link w.process.queues.queues.items) + a.need ≤ w.process.queues.cap = subst (λ (x : Ids). length (waiting x.qos way.link w.process.queues.queues.items) + a.need ≤ w.process.queues.cap) s.ids_are room in
    let size = ap length i.waits in
    let processes : map process_of ps ≡ slice_set (map process_of d.processes) way.home (with_put (process_of w.process) i.place (plain i.queue) (made_items q.its_ids q.cube.mpl d.clock pieces)) =
    ap (map process_of) new ∙ map-set process_of d.processes way.home p' ∙ ap (slice_set (map process_of d.processes) way.home) (i.new_is ∙ ap (with_put (process_of w.process) i.place (plain i.queue)) items) in
    record {
      end = q.end;
      ids = q.its_ids;
      line = q.line;
      cube = q.cube;
      is_conn = q.place.is_conn;
      is_line = q.is_line;
      is_cube = q.place.is_cube;
      allocated = ap (λ (e : End). e.state) (sym s.end_is) ∙ a.allocated;
      free = q.offered.0;
      i = way.home;
      process = process_of w.process;
      at_home = subst (λ (e : End). home e.port.node g.members ≡ Some way.home) s.end_is w.at_home;
      is_process = slice_get-map process_of d.processes way.home ∙ ap (option_map process_of) w.is_process;
      link = way.link;
      hop = subst (λ (x : Ids). next_hop x.far w.process.routes ≡ Some way.link) s.ids_are w.hop;
      place = i.place;
      queue = plain i.queue;
      is_queue = i.is_queue;
      room = omega (arith, room', count, cap, size);
      num_is = q.offered.1;
      lines_are = q.offered.4;
      new_is = seen_sent d flows ps _ _ q.offered.3 o.ids processes;
    }

pub sends_made : (d : Dif) (at : ℕ) (sdu : List ℕ) (way : FirstHop) (made : Made) (flows : Flows) (ps : List IpcProcess) → IsAdmitted d at sdu way → FlowsOffer d.clock at sdu d.flows (Ok made) flows → Puts way.qos way.link (queued way.left d.clock made.pdus) way.home d.processes ps → (lines : List Direction) (below : Seen) → Holds d lines below → Sends d lines below at sdu (Ok made.num) (record d { processes = ps; flows = flows })
sends_made d at sdu way made flows ps a offers puts lines below h =
    let g = config_of d.settings in
    let o = offers g lines h.tied (allocated_used d.clock d.flows.journal.ends at a.end h.standing.journal a.is_at.end_is a.allocated) in
    let q = o.offers in
    let put = puts a.goes.process a.goes.is_process in
    let d' : Dif = record d { processes = ps; flows = flows } in
    let s = same_there d lines below at sdu way made flows h a o in
    let c : outward g a.conn ≡ constants g q.cube q.its_ids = (λ i. constants g (s.cube_is i) (s.ids_are i)) in
    let free : sender_refusal d a.conn q.line o.parts ≡ None = ap (λ (x : Constants). offer_refusal x q.line o.parts) c ∙ q.offered.0 in
    let refused : refused_at (seen_of d) lines at o.parts ≡ None = past_all d lines below at sdu way q.line o.parts h a q.is_line o.cut.0 o.cut.1 ∙ ap (λ (r : Option Refusal). by_sender r None) free in
    let offer : Offers (seen_of d) lines at o.parts (Ok made.num) (seen_of d') o.lines' = (refused, o.cut.0, accepted d lines below at sdu way made flows put.0 ps h a o put.1 put.2) in
    let i = is_put d q.its_ids way (queued way.left d.clock made.pdus) a.goes.process put.0 (a.qos ∙ ap (λ (x : Ids). x.qos) s.ids_are) put.1 in
    let house = house_is (process_of a.goes.process) _ (process_of put.0) i.new_is (put_house (process_of a.goes.process) q.its_ids.qos way.link i.place (plain i.queue) (queued way.left d.clock made.pdus) i.is_queue (inl ((ids_of a.conn).far, a.goes.hop))) in
    let kept = home_set d lines below way.home a.goes.process put.0 ps h a.goes.is_process put.1.kept house put.2 in
    record {
      parts = o.parts;
      cut = o.cut;
      lines' = o.lines';
      offers = offer;
      holds = record {
        tied = o.tied;
        standing = offers_stand (seen_of d) lines below at o.parts (Ok made.num) (seen_of d') o.lines' h.standing offer;
        carrying = offers_carry (seen_of d) lines below at o.parts (Ok made.num) (seen_of d') o.lines' h.carrying offer;
        numbered = offers_numbered (seen_of d) lines below at o.parts (Ok made.num) (seen_of d') o.lines' h.standing h.numbered offer;
        accounted = offers_accounted (seen_of d) lines below at o.parts (Ok made.num) (seen_of d') o.lines' h.standing h.numbered h.accounted offer;
        caused = offered_caused (seen_of d) lines below at o.parts made.num (seen_of d') o.lines' offer.2 h.caused;
        written_off = offers_written (seen_of d) lines at o.parts (Ok made.num) (seen_of d') o.lines' h.written_off offer;
        housed = kept.housed;
        managed = kept.managed;
        enrolled = h.enrolled;
        connected = kept_by (config_of d.settings) d.clock d.connections (seen_of d).processes (seen_of d').processes below (λ may. sends_leave (seen_of d) lines at o.parts (Ok made.num) (seen_of d') o.lines' may.managed.only offer) h.connected;
        flooded = λ alive. live_floods d ps kept.live (h.flooded alive);
      };
    }

-- At a port

pub refailed : (d : Dif) (lines : List Direction) (below : Seen) (at : ℕ) (sdu : List ℕ) (r : Result Num SendError) (d' : Dif) (failed : Bool) → d'.failed ≡ false → Sends d lines below at sdu r d' → Sends d lines below at sdu r (record d' { failed = failed })
refailed d lines below at sdu r d' failed alive s = record {
  parts = s.parts;
  cut = s.cut;
  lines' = s.lines';
  offers = s.offers;
  holds = record { tied = s.holds.tied; standing = s.holds.standing; carrying = s.holds.carrying; numbered = s.holds.numbered; accounted = s.holds.accounted; caused = s.holds.caused; written_off = s.holds.written_off; housed = s.holds.housed; managed = s.holds.managed; enrolled = s.holds.enrolled; connected = s.holds.connected; flooded = λ still. s.holds.flooded alive };
}

pub sends_at : (o : Option ℕ) (d : Dif) (lines : List Direction) (below : Seen) (at : ℕ) (sdu : List ℕ) (r : Result Num SendError) (d' : Dif) → o ≡ Some at → Sends d lines below at sdu r d' → SendsAt o d lines below sdu r d'
sends_at o d lines below at sdu r d' here s = subst (λ (z : Option ℕ). SendsAt z d lines below sdu r d') (sym here) s

pub failed_sends : (o : Option ℕ) (d : Dif) (sdu : List ℕ) (lines : List Direction) (below : Seen) → Holds d lines below → SendsAt o d lines below sdu (Err errors.Memory) d
failed_sends None d sdu lines below h = (refl, h)
failed_sends (Some at) d sdu lines below h = sends_memory d at sdu lines below h

-- whatever was sent, the DIF stands
pub sent_whole : (d : Dif) (at : ℕ) (sdu : List ℕ) (r : Result Num SendError) (d' : Dif) → (is : IsDif d) → d'.clock ≡ d.clock → ((lines : List Direction) (below : Seen) → Holds d lines below → Sends d lines below at sdu r d') → IsDif d'
sent_whole d at sdu r d' is clock does =
    let s = does is.stands.0 is.below is.stands.1 in
    record { below = is.below; stands = (s.lines', s.holds); clock = (let c = is.clock in omega (arith, c, clock)) }
