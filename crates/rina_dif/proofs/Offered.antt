-- A management message is offered at the connection of its link, and the DIF holds.
use Rattle.std.proofs.Common.{◌≡◌, ◌∙◌, ℕ, Bool, true, List, [], ◌∷◌, ◌++◌, length, map, slice_get, slice_set, Option, Some, None, option_map, Ok, refl, sym, ap, subst, arith, inl, inr, length-set}
use Rattle.std.proofs.lemmas.Bool.{true≢false}
use Rattle.std.proofs.lemmas.List.{length-map, map-set}
use Rattle.std.proofs.lemmas.Option.{slice_get-map}
use Rattle.rina_base.specs.declared.pdu.Pdu.{Pdu}
use Rattle.rina_conn.specs.declared.conn.Conn.{Conn}
use Rattle.rina_conn.specs.declared.made.Made.{Made}
use Rattle.rina_cube.specs.declared.Cube.{Cube}
use Rattle.rina_iface.specs.declared.ends.End.{End}
use Rattle.rina_iface.specs.Ends.{with_sent as end_with_sent}
use Rattle.rina_iface.specs.Seen.{Seen}
use Rattle.rina_iface.proofs.Changed.{set_at}
use Rattle.rina_law.specs.declared.entry.Entry.{Entry}
use Rattle.rina_law.specs.Direction.{Direction, offer_refusal}
use Rattle.rina_law.specs.Pieces.{IsCut}
use Rattle.rina_law.specs.Constants.{Constants}
use Rattle.rina_law.specs.Receiver.{Piece}
use Rattle.rina_queue.specs.declared.queue.Queued.{Queued}
use Rattle.rina_agent.specs.declared.message.Waiting.{Waiting}
use Rattle.rina_agent.specs.Agenda.{waits_on}
use Rattle.rina_member.specs.declared.management.Management.{Management}
use Rattle.rina_member.proofs.Knowing.{sends_knowing}
use Rattle.rina_member.proofs.Planned.{planned_links}
use Rattle.rina_member.specs.Managements.{with_sent}
use Rattle.rina_member.proofs.Lists.{found}
use Rattle.rina_plan.specs.declared.dif.LinkPlan.{LinkPlan}
use Rattle.rina_data.specs.declared.process.IpcProcess.{IpcProcess}
use Rattle.rina_data.specs.declared.settings.Member.{Member}
use Rattle.rina_data.specs.Configs.{config_of, cube_by}
use Rattle.rina_data.specs.Deciding.{plain, process_of}
use Rattle.rina_data.specs.Process.{IsQueue, Process, with_put}
use Rattle.rina_dif_law.specs.Dif.{constants}
use Rattle.rina_dif_law.specs.Ids.{Ids, pdu_of_piece}
use Rattle.rina_dif_law.specs.Sending.{offered_entry, offered_pieces}
use Rattle.rina_flood.specs.Journals.{offered_by, passed_by}
use Rattle.rina_flood.specs.Members.{Adds, AreSame, OffersMessage}
use Rattle.rina_flood.specs.Network.{There}
use Rattle.rina_flood.specs.Static.{LinkEnd, end_place}
use Rattle.rina_flood.proofs.Journals.{offers_add}
use Rattle.rina_flood.proofs.Members.{offers_run}
use Rattle.rina_flows.specs.declared.flows.Flows.{Flows}
use Rattle.rina_flows.specs.Calls.{Accepts, Offers as FlowsOffer}
use Rattle.rina_flows.specs.Laws.{waiting_now}
use Rattle.rina_flows.specs.Tied.{ids_of, outward}
use Rattle.rina_flows.proofs.Framed.{ids_at}
use Rattle.rina_channel.specs.Changes.{IsPutOn}
use Rattle.rina_channel.specs.Channels.{seen_of as seen_of_channels}
use Rattle.rina_channel.specs.FlowLaws.{ServesLinks}
use Rattle.rina_channel.specs.Names.{names_at, unnamed}
use Rattle.rina_channel.specs.Rows.{IsOfferedOn}
use Rattle.rina_channel.proofs.Calls.{calls_that_offer_do}
use Rattle.rina_channel.proofs.Fitting.{messages_serve_links}
use Rattle.rina_channel.proofs.Putting.{offered_stands}
use Rattle.rina_member.specs.Knowing.{HasLiveLink}
use Rattle.rina_flows.proofs.Unused.{allocated_used}
use Rattle.rina_dif.specs.declared.dif.Dif.{Dif}
use Rattle.rina_dif.specs.declared.send.FirstHop.{FirstHop}
use Rattle.rina_dif.specs.Changing.{changed_at, changed_if}
use Rattle.rina_dif.specs.Connected.{AreConnected, channels_seen}
use Rattle.rina_dif.specs.Flooding.{AreFlooding, handled_at, link_end, members_seen, offered_at}
use Rattle.rina_dif.specs.Holding.{Holds, LinksStand}
use Rattle.rina_dif.specs.LinkDue.{IsLinkEnd}
use Rattle.rina_dif.specs.Managing.{AreManagedBy, IsManaged, agents_of}
use Rattle.rina_dif.specs.Messaging.{IsFirstSdu, IsOpenEnd, IsReady, OffersAt, OffersDue, manage_config}
use Rattle.rina_dif.specs.Telling.{TellShort}
use Rattle.rina_dif.specs.Sending.{AreOf, HasRoomFor, Puts, queued}
use Rattle.rina_dif.specs.Shown.{seen_of}
use Rattle.rina_dif.proofs.Bare.{map_at}
use Rattle.rina_dif.proofs.Closing.{served_holds}
use Rattle.rina_dif.proofs.Enrolled.{enrolled_on, states_set}
use Rattle.rina_dif.proofs.Flooding.{side_at}
use Rattle.rina_dif.proofs.Keeping.{IsSameHouse, house_is, put_house}
use Rattle.rina_dif.proofs.Leaves.{shown_at}
use Rattle.rina_dif.proofs.LinksLive.{serving_lives}
use Rattle.rina_member.proofs.Tells.{sent_short}
use Rattle.rina_dif.proofs.Sent.{IsPut, is_put, pieces_count}
use Rattle.rina_dif.proofs.Served.{live_there, put_lawful}
use Rattle.rina_dif.proofs.LinkEnds.{StayLive, end_there, ends_stay, set_stays}
use Rattle.rina_dif.proofs.NamedByPlace.{named_set}

same_some : {X : Type 0} (o : Option X) (a b : X) → o ≡ Some a → o ≡ Some b → a ≡ b
same_some o a b h g = cc

-- the pieces of a management connection are of the cube of management
unnamed_of : (ids : Ids) (pdus : List Pdu) (ps : List Piece) → pdus ≡ map (pdu_of_piece ids) ps → ids.qos ≡ 0 → AreOf 0 (map unnamed pdus)
unnamed_of ids pdus ps are qos = λ k pdu is.
    let x = map_at unnamed pdus k pdu is in
    let y = map_at (pdu_of_piece ids) ps k x.0 (ap (λ (xs : List Pdu). slice_get xs k) (sym are) ∙ x.1) in
    ap (λ (z : Pdu). z.qos) (sym x.2) ∙ ap (λ (z : Pdu). z.qos) (sym y.2) ∙ qos

-- The member that sent it

-- its management is changed at its place
changed_is : (ms : List Management) (i : ℕ) (f : Management → Management) (g : Management) → slice_get ms i ≡ Some g → changed_at i f ms ≡ slice_set ms i (f g)
changed_is ms i f g is = ap (λ (o : Option Management). changed_if o i f ms) is

-- which messages wait says nothing of what it knows
sent_managed : (is_static : Bool) (members : List Member) (plans : List LinkPlan) (now : ℕ) (m : Member) (p : IpcProcess) (g : Management) (number : ℕ) → IsManaged is_static members plans now m p g → IsManaged is_static members plans now m p (with_sent g number)
sent_managed is_static members plans now m p g number h = record {
  knows = sends_knowing now m p.links g number h.knows;
  planned = λ still. planned_links members plans m p.links g.agent (with_sent g number).agent refl (h.planned still);
  bounded = h.bounded;
  routes = record { rows = h.routes.rows; hops = h.routes.hops; are = h.routes.are };
  tells = sent_short g.agent number h.tells;
}

all_managed : (is_static : Bool) (members : List Member) (plans : List LinkPlan) (now : ℕ) (ps : List IpcProcess) (ms : List Management) (i number : ℕ) (g : Management) → slice_get ms i ≡ Some g → AreManagedBy is_static members plans now ps ms → AreManagedBy is_static members plans now ps (slice_set ms i (with_sent g number))
all_managed is_static members plans now ps ms i number g is h = record {
  laid_out = h.laid_out;
  aligned = length-set ms i (with_sent g number) ∙ h.aligned;
  each = λ k m p x is_m is_p is_x. elim (set_at ms i k g (with_sent g number) x is is_x) [
    | inl t ↦
        (let was : IsManaged is_static members plans now m p g = h.each k m p g is_m is_p (ap (slice_get ms) t.0 ∙ is) in
        subst (λ (z : Management). IsManaged is_static members plans now m p z) (sym t.1) (sent_managed is_static members plans now m p g number was))
    | inr u ↦ h.each k m p x is_m is_p u.1
  ];
}

-- It is offered by the member, as flooding sees it

-- what an end offered, as a journal tells it
told_offered : (o : Option End) → offered_at o ≡ offered_by o
told_offered None = refl
told_offered (Some end) = refl

told_handled : (o : Option End) → handled_at o ≡ passed_by o
told_handled None = refl
told_handled (Some end) = refl

-- what waits for a link has its number
waits_there : (number : ℕ) (w : Waiting) → waits_on number w ≡ true → w ≡ record { link = number; message = w.message }
waits_there number w passes = (let link : w.link ≡ number = grind (arith, passes) in λ i. record { link = link i; message = w.message })

module _ (d : Dif) (i place number : ℕ) (sdu : List ℕ) (entry : Entry) (end : End) (flows : Flows) (ps : List IpcProcess) (here : IsLinkEnd d i place number) (first : IsFirstSdu d i number sdu) (tell : TellShort d.managements)
    (is_end : slice_get d.connections.flows.journal.ends place ≡ Some end) (bytes : entry.bytes ≡ sdu) (stay : StayLive d.processes ps) (are : flows.journal.ends ≡ slice_set d.connections.flows.journal.ends place (end_with_sent end entry)) where
  abbrev g : Management
  g = first.management

  abbrev sent_d : Dif
  sent_d = record d { connections = record d.connections { flows = flows }; processes = ps; managements = slice_set d.managements i (with_sent g number) }

  abbrev old_ends : List End
  old_ends = d.connections.flows.journal.ends

  offered_texts : Adds place sdu (members_seen d).sent (members_seen sent_d).sent
  offered_texts =
      let a = (offers_add old_ends place end entry is_end).offered in
      record {
        here = ap (λ (es : List End). offered_at (slice_get es place)) are ∙ told_offered _ ∙ a.here ∙ ap (λ (ts : List (List ℕ)). ts ++ entry.bytes ∷ []) (sym (told_offered (slice_get old_ends place))) ∙ ap (λ (t : List ℕ). offered_at (slice_get old_ends place) ++ t ∷ []) bytes;
        elsewhere = λ k apart. ap (λ (es : List End). offered_at (slice_get es k)) are ∙ told_offered _ ∙ a.elsewhere k apart ∙ sym (told_offered (slice_get old_ends k));
      }

  handled_texts : AreSame (members_seen d).got (members_seen sent_d).got
  handled_texts k = ap (λ (es : List End). handled_at (slice_get es k)) are ∙ told_handled _ ∙ (offers_add old_ends place end entry is_end).passed k ∙ sym (told_handled (slice_get old_ends k))

  pub offered_floods : AreFlooding d → AreFlooding sent_d
  offered_floods r =
      let side = side_at place in
      let its_end : LinkEnd = record { member = i; state = There number } in
      let numbers = sym here.number_is in
      let end_is : link_end d.processes here.channel ≡ its_end = end_there d.processes here.channel here.live ∙ (λ j. record { member = here.member j; state = There (numbers j) }) in
      let ends : List LinkEnd = map (link_end d.processes) d.connections.channels in
      let there : slice_get ends (end_place side.0 side.1) ≡ Some its_end = ap (slice_get ends) side.2 ∙ slice_get-map (link_end d.processes) d.connections.channels place ∙ ap (option_map (link_end d.processes)) here.stands ∙ ap (λ (e : LinkEnd). Some e) end_is in
      let agent : slice_get (agents_of d.managements) i ≡ Some g.agent = slice_get-map (λ (z : Management). z.agent) d.managements i ∙ ap (option_map (λ (z : Management). z.agent)) first.is_management in
      let f = found (waits_on number) g.agent.agenda first.waiting first.first in
      let waiting_is = waits_there number first.waiting f.1 in
      let texts : Adds (end_place side.0 side.1) sdu (members_seen d).sent (members_seen sent_d).sent = subst (λ (k : ℕ). Adds k sdu (members_seen d).sent (members_seen sent_d).sent) (sym side.2) offered_texts in
      let event : OffersMessage (members_seen d) (members_seen sent_d) = record {
        link = side.0;
        side = side.1;
        end = its_end;
        agent = g.agent;
        at = record { is_end = there; is_agent = agent };
        number = number;
        there = refl;
        message = first.waiting.message;
        short = (tell i g first.is_management).waiting first.waiting f.0;
        first = first.first ∙ ap (λ (w : Waiting). Some w) waiting_is;
        text = sdu;
        written = first.is_sdu;
        stays = record { members = refl; ends = ends_stay d.processes ps stay d.connections.channels };
        now = refl;
        agents = map-set (λ (z : Management). z.agent) d.managements i (with_sent g number);
        sent = texts;
        got = handled_texts;
      } in
      offers_run d.laid.is_static d.laid.links (members_seen d) (members_seen sent_d) r event

-- The DIF after it

-- a DIF holds beside what flooding says of it, whatever messages wait
unfloods : (d : Dif) (lines : List Direction) (below : Seen) → Holds d lines below → Holds (record d { failed = true }) lines below
unfloods d lines below h = record { tied = h.tied; standing = h.standing; carrying = h.carrying; numbered = h.numbered; accounted = h.accounted; caused = h.caused; written_off = h.written_off; housed = h.housed; managed = h.managed; enrolled = h.enrolled; connected = h.connected; flooded = λ failed. absurd (true≢false failed) }

module _ (d : Dif) (i place number : ℕ) (sdu : List ℕ) (conn : Conn) (made : Made) (flows : Flows) (ps : List IpcProcess) (tell : TellShort d.managements) (r : IsReady d i place number sdu) (is_conn : slice_get d.connections.flows.conns place ≡ Some conn)
    (offers : FlowsOffer d.clock place sdu d.connections.flows (Ok made) flows) (puts : Puts 0 number (queued conn.sending.form.cube.mpl d.clock (map unnamed made.pdus)) i d.processes ps) (lines : List Direction) (below : Seen) (h : Holds d lines below) where
  abbrev old : Flows
  old = d.connections.flows

  abbrev items : List Queued
  items = queued conn.sending.form.cube.mpl d.clock (map unnamed made.pdus)

  abbrev way : FirstHop
  way = record { home = i; link = number; qos = 0; left = conn.sending.form.cube.mpl }

  abbrev put_process : IpcProcess
  put_process = (puts r.process r.is_process).0

  put : IsPut d (names_at 0 0) way items r.process put_process
  put = is_put d (names_at 0 0) way items r.process put_process refl (puts r.process r.is_process).1

  abbrev ps' : List Process
  ps' = slice_set (seen_of d).processes i (process_of put_process)

  module _ (links : LinksStand d below) where
    o : Accepts (manage_config d) d.clock place sdu old links.lines made flows
    o = offers (manage_config d) links.lines links.tied (allocated_used d.clock d.connections.flows.journal.ends place r.here.end links.standing.journal r.here.is_end r.here.allocated)

    its_ids : ids_of conn ≡ o.offers.its_ids
    its_ids = same_some _ (ids_of conn) o.offers.its_ids (ids_at old.conns place conn is_conn) o.offers.place.is_conn.ids_are

    its_cube : conn.sending.form.cube ≡ o.offers.cube
    its_cube =
        let sends = links.tied.sends place conn o.offers.line is_conn o.offers.is_line in
        same_some _ conn.sending.form.cube o.offers.cube (subst (λ (x : Ids). cube_by x.qos (manage_config d).cubes ≡ Some conn.sending.form.cube) its_ids sends.cube) o.offers.place.is_cube

    its_end : r.here.end ≡ o.offers.end
    its_end = same_some (slice_get old.journal.ends place) r.here.end o.offers.end r.here.is_end o.offers.place.is_conn.end

    -- as many pieces were made as the queue has room for
    count : length o.parts ≡ r.need
    count =
        let size = (links.tied.sends place conn o.offers.line is_conn o.offers.is_line).sender.piece in
        r.told_need conn is_conn o.parts (subst (λ (n : ℕ). IsCut n true o.parts) (sym size) o.cut.0) (ap length o.cut.1)

    pieces : length made.pdus ≡ r.need
    pieces =
        let c = constants (manage_config d) o.offers.cube o.offers.its_ids in
        ap length o.offers.offered.2 ∙ length-map (offered_pieces c o.parts o.offers.line) _ ∙ pieces_count c o.offers.line.line.clock o.parts _ ∙ count

    put_on : IsPutOn (config_of d.settings).cap (seen_of d).processes r.here.channel (waiting_now o.offers.cube.mpl d.clock (map unnamed made.pdus)) ps'
    put_on =
        let made_now : items ≡ waiting_now o.offers.cube.mpl d.clock (map unnamed made.pdus) = ap (λ (c : Cube). queued c.mpl d.clock (map unnamed made.pdus)) its_cube in
        let cap = (h.housed i r.process r.is_process).cap in
        let room = r.room.room in
        let waits = ap length put.waits in
        let long : length items ≡ r.need = length-map (map unnamed made.pdus) _ ∙ length-map made.pdus unnamed ∙ pieces in
        let member = r.here.member in
        let numbers = r.here.number_is in
        subst (λ (xs : List Queued). IsPutOn (config_of d.settings).cap (seen_of d).processes r.here.channel xs ps') made_now (record {
          process = process_of r.process;
          place = put.place;
          queue = plain put.queue;
          is_of = record {
            live = r.here.live;
            is_process = ap (slice_get (seen_of d).processes) member ∙ shown_at d i r.process r.is_process;
            is_queue = subst (λ (n : ℕ). IsQueue (process_of r.process) 0 n put.place (plain put.queue)) numbers put.is_queue;
          };
          room = omega (arith, room, cap, waits, long);
          new_is = ap (λ (z : Process). slice_set (seen_of d).processes i z) put.new_is ∙ ap (λ (k : ℕ). slice_set (seen_of d).processes k (with_put (process_of r.process) put.place (plain put.queue) items)) (sym member);
        })

    offered_on : IsOfferedOn (channels_seen (config_of d.settings) d.clock d.connections) links.lines (seen_of d).processes place o.parts made.num (seen_of_channels (config_of d.settings) d.connections.manage d.clock d.connections.channels flows) o.lines' ps'
    offered_on = calls_that_offer_do (config_of d.settings) d.connections.manage d.clock d.connections.channels links.lines (seen_of d).processes ps' old flows place r.here.channel sdu made o r.here.stands (ap (λ (e : End). e.state) (sym its_end) ∙ r.here.allocated) put_on

    offers_serve : ServesLinks (config_of d.settings) d.clock (seen_of d).processes ps'
    offers_serve = messages_serve_links (channels_seen (config_of d.settings) d.clock d.connections) links.lines (seen_of d).processes below place o.parts made.num _ o.lines' ps' links.standing offered_on

    offers_connected : AreConnected (config_of d.settings) d.clock (record d.connections { flows = flows }) ps' below
    offers_connected = record {
      may = links.may;
      lines = o.lines';
      tied = o.tied;
      standing = offered_stands (channels_seen (config_of d.settings) d.clock d.connections) links.lines (seen_of d).processes below place o.parts made.num _ o.lines' ps' links.standing offered_on;
      paired = links.paired;
      named = named_set old.journal.ends flows.journal.ends place o.offers.end _ o.offers.place.is_conn.end refl o.offers.offered.3 links.named;
      each = λ j n q live. links.each j n q (serving_lives (config_of d.settings) d.clock (seen_of d).processes ps' offers_serve j n q live);
    }

  abbrev teller : Management
  teller = r.first.management

  abbrev after_it : Dif
  after_it = record d { connections = record d.connections { flows = flows }; processes = slice_set d.processes i put_process; managements = slice_set d.managements i (with_sent teller number) }

  pub offered_holds : Holds after_it lines below
  offered_holds =
      let links = h.connected in
      let house : IsSameHouse (process_of r.process) (process_of put_process) = house_is (process_of r.process) _ (process_of put_process) put.new_is (put_house (process_of r.process) 0 number put.place (plain put.queue) items put.is_queue (inr (subst (λ (n : ℕ). HasLiveLink r.process.links n) (sym r.here.number_is) (live_there d i place number r.process r.here r.is_process)))) in
      let written = put_lawful (seen_of d) i (process_of r.process) (process_of put_process) (shown_at d i r.process r.is_process) (ap (λ (z : Process). z.ledger) put.new_is) (ap (λ (z : Process). z.links) put.new_is) h.written_off in
      let s = served_holds (record d { failed = true }) lines below i r.process put_process (record d.connections { flows = flows }) refl (unfloods d lines below h) r.is_process (puts r.process r.is_process).1.kept house (offers_serve links) written (offers_connected links) (λ failed. absurd (true≢false failed)) in
      let o' = o links in
      record {
        tied = s.tied;
        standing = s.standing;
        carrying = s.carrying;
        numbered = s.numbered;
        accounted = s.accounted;
        caused = s.caused;
        written_off = s.written_off;
        housed = s.housed;
        managed = all_managed d.laid.is_static d.settings.members d.laid.links d.clock (slice_set d.processes i put_process) d.managements i number teller r.first.is_management s.managed;
        enrolled = enrolled_on d.laid.is_static d.settings.members d.settings.admits d.managements (slice_set d.managements i (with_sent teller number)) d.enrolled (states_set d.managements i teller (with_sent teller number) r.first.is_management refl) h.enrolled;
        connected = s.connected;
        flooded = λ alive. offered_floods d i place number sdu (offered_entry (constants (manage_config d) o'.offers.cube o'.offers.its_ids) o'.parts o'.offers.line) o'.offers.end flows (slice_set d.processes i put_process) r.here r.first tell o'.offers.place.is_conn.end o'.cut.1 (set_stays d.processes i r.process put_process r.is_process house.links) o'.offers.offered.3 (h.flooded alive);
      }

  -- what was done, where the flow below the link is allocated
  offers_due : (open_end : IsOpenEnd d below i place number) (links : LinksStand d below) → OffersDue d below links.lines i place number after_it
  offers_due open_end links =
      let x = o links in
      let outwards : outward (manage_config d) conn ≡ constants (manage_config d) x.offers.cube x.offers.its_ids = (λ j. constants (manage_config d) (its_cube links j) (its_ids links j)) in
      record {
        due = record {
          open_end = open_end;
          sdu = sdu;
          first = r.first;
          parts = x.parts;
          cut = x.cut;
          conn = conn;
          is_conn = is_conn;
          line = x.offers.line;
          is_line = x.offers.is_line;
          admits = ap (λ (c : Constants). offer_refusal c x.offers.line x.parts) outwards ∙ x.offers.offered.0;
          process = r.process;
          is_process = r.is_process;
          room = subst (λ (n : ℕ). HasRoomFor 0 number n r.process) (sym (count links)) r.room;
        };
        num = made.num;
        links' = x.lines';
        offered = subst (IsOfferedOn (channels_seen (config_of d.settings) d.clock d.connections) links.lines (seen_of d).processes place x.parts made.num _ x.lines') (sym (map-set process_of d.processes i put_process)) (offered_on links);
        ids = x.ids;
        tied = x.tied;
        managements = sym (changed_is d.managements i (λ m. with_sent m number) teller r.first.is_management);
      }

  pub offers_at : IsOpenEnd d below i place number → OffersAt d lines below i number (Ok true) after_it
  offers_at open_end = (λ links. (place, offers_due open_end links), offered_holds)

-- The goals of its call

-- what is put is of the cube of management, and its queue has room for it
pub can_put : (d : Dif) (i place number : ℕ) (sdu : List ℕ) (made : Made) (flows : Flows) (conn : Conn) → IsReady d i place number sdu → slice_get d.connections.flows.conns place ≡ Some conn → FlowsOffer d.clock place sdu d.connections.flows (Ok made) flows → (below : Seen) → LinksStand d below → AreOf 0 (map unnamed made.pdus) × ((p : IpcProcess) → slice_get d.processes i ≡ Some p → HasRoomFor 0 number (length (map unnamed made.pdus)) p)
can_put d i place number sdu made flows conn r is_conn offers below links =
    let g = manage_config d in
    let x = offers g links.lines links.tied (allocated_used d.clock d.connections.flows.journal.ends place r.here.end links.standing.journal r.here.is_end r.here.allocated) in
    let q = x.offers in
    let c = constants g q.cube q.its_ids in
    let names : q.its_ids ≡ names_at place r.here.channel.partner = same_some _ q.its_ids (names_at place r.here.channel.partner) q.place.is_conn.ids_are (links.standing.channels.names place r.here.channel r.here.stands) in
    let size = (links.tied.sends place conn q.line is_conn q.is_line).sender.piece in
    let count = r.told_need conn is_conn x.parts (subst (λ (n : ℕ). IsCut n true x.parts) (sym size) x.cut.0) (ap length x.cut.1) in
    let long : length (map unnamed made.pdus) ≡ r.need = length-map made.pdus unnamed ∙ ap length q.offered.2 ∙ length-map (offered_pieces c x.parts q.line) _ ∙ pieces_count c q.line.line.clock x.parts _ ∙ count in (
      unnamed_of q.its_ids made.pdus (offered_pieces c x.parts q.line) q.offered.2 (ap (λ (z : Ids). z.qos) names),
      λ p is. (let same = same_some (slice_get d.processes i) r.process p r.is_process is in subst (λ (n : ℕ). HasRoomFor 0 number n p) (sym long) (subst (λ (z : IpcProcess). HasRoomFor 0 number r.need z) same r.room)),
    )

-- whatever list the IPC processes and the managements are kept in
pub offers_done : (d : Dif) (i place number : ℕ) (sdu : List ℕ) (conn : Conn) (made : Made) (flows : Flows) (ps : List IpcProcess) (ms : List Management) → TellShort d.managements → IsReady d i place number sdu → slice_get d.connections.flows.conns place ≡ Some conn → FlowsOffer d.clock place sdu d.connections.flows (Ok made) flows → Puts 0 number (queued conn.sending.form.cube.mpl d.clock (map unnamed made.pdus)) i d.processes ps → ms ≡ changed_at i (λ m. with_sent m number) d.managements
    → (lines : List Direction) (below : Seen) → Holds d lines below → IsOpenEnd d below i place number → OffersAt d lines below i number (Ok true) (record d { connections = record d.connections { flows = flows }; processes = ps; managements = ms })
offers_done d i place number sdu conn made flows ps ms tell r is_conn offers puts are lines below h open_end =
    let sent : ms ≡ slice_set d.managements i (with_sent r.first.management number) = are ∙ changed_is d.managements i (λ m. with_sent m number) r.first.management r.first.is_management in
    subst (λ (qs : List IpcProcess). OffersAt d lines below i number (Ok true) (record d { connections = record d.connections { flows = flows }; processes = qs; managements = ms })) (sym (puts r.process r.is_process).2)
    (subst (λ (gs : List Management). OffersAt d lines below i number (Ok true) (record d { connections = record d.connections { flows = flows }; processes = slice_set d.processes i (puts r.process r.is_process).0; managements = gs })) (sym sent) (offers_at d i place number sdu conn made flows ps tell r is_conn offers puts lines below h open_end))
