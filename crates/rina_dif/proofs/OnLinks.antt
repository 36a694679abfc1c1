-- How a PDU is handled that came on a link for the management connection of that link.
use Rattle.std.proofs.Common.{◌≡◌, ◌≢◌, ◌∙◌, ℕ, ◌-◌, ◌<◌, ◌≤◌, true, List, [], ◌∷◌, ◌++◌, length, map, position, slice_get, slice_set, append-nil, append_assoc, Option, Some, None, Result, Ok, Err, refl, sym, ap, subst, arith, inl, inr}
use Rattle.std.specs.Prelude.{IsSome}
use Rattle.std.proofs.lemmas.Bool.{false≢true}
use Rattle.std.proofs.lemmas.List.{map-append}
use Rattle.std.proofs.lemmas.Option.{slice_get_within}
use Rattle.rina_account.specs.declared.ledger.Off.{Off}
use Rattle.rina_base.specs.declared.cause.Cause.{Cause}
use Rattle.rina_base.specs.declared.cause.Cause.TheVariants as causes
use Rattle.rina_base.specs.declared.memory.Memory.{Memory as NoMemory}
use Rattle.rina_base.specs.declared.number.Port.{Port}
use Rattle.rina_base.specs.declared.pdu.Pdu.{Pdu}
use Rattle.rina_base.specs.declared.pdu.PduKind.TheVariants.{Piece as APiece, Ack as AnAck}
use Rattle.rina_base.specs.declared.pdu.PduView.{PduView}
use Rattle.rina_base.specs.Pdus.{key_of}
use Rattle.rina_channel.specs.declared.channel.Attachment.{Attachment}
use Rattle.rina_channel.specs.declared.channel.Channel.{Channel}
use Rattle.rina_channel.specs.Changes.{IsAwaited, LeavesLinks}
use Rattle.rina_channel.specs.Channels.{ChannelsSeen, IsOnPort, has_port, is_at, is_on}
use Rattle.rina_channel.specs.Coming.{HasNoTaker, IsTaker, LeavesOff, TakesAck, TakesOnLink, TakesPiece}
use Rattle.rina_channel.specs.Ledgers.{unnamed_from, unnamed_line}
use Rattle.rina_channel.specs.Names.{link_config, named, names_at}
use Rattle.rina_channel.specs.Standing.{IsStanding}
use Rattle.rina_channel.proofs.Arriving.{calls_for_pieces_arrive}
use Rattle.rina_channel.proofs.Coming.{coming_is_awaited}
use Rattle.rina_channel.proofs.Putting.{leaves_same}
use Rattle.rina_channel.proofs.Received.{taking_on_links_is_lawful, taking_on_links_stands}
use Rattle.rina_conn.specs.declared.conn.Conn.{Conn}
use Rattle.rina_data.specs.declared.process.IpcProcess.{IpcProcess}
use Rattle.rina_data.specs.declared.step.Took.{Took}
use Rattle.rina_data.specs.declared.step.Took.TheVariants as took
use Rattle.rina_data.specs.Configs.{Config, config_of}
use Rattle.rina_data.specs.Deciding.{process_of, queue_settings}
use Rattle.rina_data.specs.Hops.{Hop}
use Rattle.rina_data.specs.Process.{Process, with_offs}
use Rattle.rina_data.specs.Queueing.{line_for}
use Rattle.rina_dif_law.specs.Dif.{DifSeen, constants, with_process}
use Rattle.rina_dif_law.specs.Ids.{Ids, IsFrom, flipped}
use Rattle.rina_dif_law.specs.Incoming.{cause_told, lines_for}
use Rattle.rina_flows.specs.declared.flows.Flows.{Flows}
use Rattle.rina_flows.specs.Calls.{AreTied, TellsOne}
use Rattle.rina_flows.specs.Rows.{ArrivesAt, TakesAt, ToldAt}
use Rattle.rina_flows.specs.Tied.{conns_of, ids_of}
use Rattle.rina_flows.proofs.Framed.{ids_at}
use Rattle.rina_flows.proofs.Taking.{taken_here}
use Rattle.rina_iface.specs.declared.ends.End.{End}
use Rattle.rina_iface.specs.Journal.{AreKept}
use Rattle.rina_iface.specs.Seen.{Seen}
use Rattle.rina_iface.proofs.Changed.{slice_set-same}
use Rattle.rina_law.specs.Direction.{Direction, has_room}
use Rattle.rina_law.specs.Line.{arrival_verdict}
use Rattle.rina_law.specs.Pdus.{piece_in}
use Rattle.rina_queue.proofs.Places.{first_passes}
use Rattle.rina_flows.proofs.Unused.{allocated_used}
use Rattle.rina_dif.specs.declared.connections.Connections.{Connections}
use Rattle.rina_dif.specs.declared.dif.Dif.{Dif}
use Rattle.rina_dif.specs.Connected.{channels_seen}
use Rattle.rina_dif.specs.Elsewhere.{ChangesProcess}
use Rattle.rina_dif.specs.Holding.{Holds, Stands}
use Rattle.rina_dif.specs.Shown.{seen_of}
use Rattle.rina_dif.specs.Taking.{ArrivesOnLink, HasTaken, IsForLink, IsLinkTaker, IsOldest, LinkTakenBy, NotesAt, OwnPieceTakenBy, SettlesFor, TakesFor, took_of}
use Rattle.rina_dif.proofs.Bare.{map_at}
use Rattle.rina_dif.proofs.Elsewhere.{by_process, none_process}
use Rattle.rina_dif.proofs.Keeping.{home_set, house_is}
use Rattle.rina_dif.proofs.Leaves.{has_process, shown_at, stepped}
use Rattle.rina_dif.proofs.Linked.{passes_some}
use Rattle.rina_dif.proofs.Owning.{OfReceiver, noted_err, of_verdict}
use Rattle.rina_dif.proofs.Settling.{off_house}
use Rattle.rina_dif.proofs.Flooding.{said_floods, taken_said}
use Rattle.rina_dif.proofs.LinkEnds.{live_floods}
use Rattle.rina_dif.proofs.NamedByPlace.{taken_named}

same_some : {X : Type 0} (o : Option X) (a b : X) → o ≡ Some a → o ≡ Some b → a ≡ b
same_some o a b h g = cc

some_of : (o : Option ℕ) → IsSome o → (k : ℕ) × (o ≡ Some k)
some_of None some = absurd (false≢true some)
some_of (Some k) some = (k, refl)

-- The end that takes it

attached_port : (port : Port) (a : Attachment) → is_at port a ≡ true → a.port ≡ port
unfolding is_at
attached_port port a h = grind arith

port_attached : (port : Port) (a : Attachment) → a.port ≡ port → is_at port a ≡ true
unfolding is_at
port_attached port a h = grind arith

pub channel_port : (port : Port) (c : Channel) → has_port port c ≡ true → IsOnPort c port
channel_port port c h = attached c.link refl
  where
    attached : (o : Option Attachment) → c.link ≡ o → IsOnPort c port
    attached None is = absurd (false≢true (sym (ap (is_on port) is) ∙ h))
    attached (Some a) is = record { link = a; link_is = is; port_is = attached_port port a (sym (ap (is_on port) is) ∙ h) }

pub has_its_port : (port : Port) (c : Channel) → IsOnPort c port → has_port port c ≡ true
has_its_port port c on = ap (is_on port) on.link_is ∙ port_attached port on.link on.port_is

module _ (g : Config) (now : ℕ) (c : Connections) (links : List Direction) (ps : List Process) (below : Seen) (st : IsStanding (channels_seen g now c) links ps below) (port : Port) (pdu : Pdu) where
  abbrev seen : ChannelsSeen
  seen = channels_seen g now c

  -- its names are those of its place
  names_of : (place : ℕ) (channel : Channel) (conn : Conn) → slice_get c.channels place ≡ Some channel → slice_get c.flows.conns place ≡ Some conn → ids_of conn ≡ names_at place channel.partner
  names_of place channel conn at is = same_some (slice_get (conns_of c.flows.conns) place) (ids_of conn) (names_at place channel.partner) (ids_at c.flows.conns place conn is) (st.channels.names place channel at)

  its_named : (place : ℕ) (channel : Channel) (conn : Conn) → slice_get c.channels place ≡ Some channel → slice_get c.flows.conns place ≡ Some conn → named conn.sending.form.peer.far conn.sending.form.peer.own pdu ≡ named channel.partner place pdu
  its_named place channel conn at is = ap (λ (z : Ids). named z.far z.own pdu) (names_of place channel conn at is)

  -- the channel of the port takes it
  pub taker_at : (place : ℕ) (its : Pdu) → IsLinkTaker c port pdu place its → (channel : Channel) × (its ≡ named channel.partner place pdu) × ((end : End) × (ids : Ids) × IsTaker seen port pdu place channel end ids × TakesAt c.flows.journal.ends (conns_of c.flows.conns) its place end ids)
  taker_at place its t =
      let x = first_passes (has_port port) c.channels place t.at in
      let is : its ≡ named x.0.partner place pdu = t.its_is ∙ its_named place x.0 t.conn x.1.stands t.is_conn in
      let h = taken_here c.flows.journal.ends c.flows.conns place its t.takes in
      (x.0, is, (h.0, h.1, record { stands = x.1.stands; on_port = channel_port port x.0 x.1.passes; takes = subst (λ (z : Pdu). TakesAt c.flows.journal.ends (conns_of c.flows.conns) z place h.0 h.1) is h.2 }, h.2))

  -- no channel does
  pub no_taker : ((place : ℕ) (its : Pdu) → IsLinkTaker c port pdu place its → ⊥) → HasNoTaker seen port pdu
  no_taker none k channel end ids t =
      let passes = has_its_port port channel t.on_port in
      let first = some_of (position (has_port port) c.channels) (passes_some (has_port port) c.channels k channel t.stands passes) in
      let x = first_passes (has_port port) c.channels first.0 first.1 in
      let same : first.0 ≡ k = st.channels.apart first.0 k x.0 channel port x.1.stands t.stands (channel_port port x.0 x.1.passes) t.on_port in
      let conn = map_at ids_of c.flows.conns k ids t.takes.is_conn.ids_are in
      let its : Pdu = named conn.0.sending.form.peer.far conn.0.sending.form.peer.own pdu in
      let is : its ≡ named channel.partner k pdu = its_named k channel conn.0 t.stands conn.1 in
      let names : IsFrom (flipped (ids_of conn.0)) its = subst (λ (z : Ids). IsFrom (flipped z) its) (sym conn.2) (subst (IsFrom (flipped ids)) (sym is) t.takes.names) in
      none k its (record {
        at = first.1 ∙ ap (λ (n : ℕ). Some n) same;
        conn = conn.0;
        is_conn = conn.1;
        its_is = refl;
        takes = record { end = end; conn = conn.0; is_at = record { end_is = t.takes.is_conn.end; conn_is = conn.1 }; takes = record { allocated = t.takes.allocated; names = names } };
      })

-- it is there
pub link_within : (c : Connections) (port : Port) (pdu : Pdu) (place : ℕ) (its : Pdu) → IsLinkTaker c port pdu place its → (place < length c.flows.journal.ends) × (place < length c.flows.conns)
link_within c port pdu place its t = (slice_get_within c.flows.journal.ends place t.takes.end t.takes.is_at.end_is, slice_get_within c.flows.conns place t.conn t.is_conn)

-- and the PDU is of the kind that it was
pub its_kind : (c : Connections) (port : Port) (pdu : Pdu) (place : ℕ) (its : Pdu) → IsLinkTaker c port pdu place its → pdu.kind ≡ its.kind
its_kind c port pdu place its t = ap (λ (z : Pdu). z.kind) (sym t.its_is)

-- where it is a piece of the link's own
pub own_taken : (d : Dif) (since : ℕ) (port : Port) (hop : Hop) (found : Option (ℕ × PduView)) → IsForLink d since hop → hop.pdu.kind ≡ APiece → LinkTakenBy d.connections port hop.pdu found → OwnPieceTakenBy d since port hop found
own_taken d since port hop None link kind none = λ place its t. none place its t.taker
own_taken d since port hop (Some taker) link kind takes = record { for_link = link; piece = kind; taker = takes }

-- What is written off

pub unnamed_more : (xs ys : List Off) → unnamed_from (length xs) (xs ++ ys) ≡ xs ++ map unnamed_line ys
unnamed_more [] ys = refl
unnamed_more (x ∷ xs) ys = ap (λ (zs : List Off). x ∷ zs) (unnamed_more xs ys)

own_unnamed : (from to : ℕ) (pdu : Pdu) (cause : Option Cause) → pdu.src ≡ 0 → map unnamed_line (lines_for (named from to pdu) cause) ≡ lines_for pdu cause
own_unnamed from to pdu None src = refl
own_unnamed from to pdu (Some why) src = ap (λ (n : ℕ). record { key = record (key_of pdu) { src = n }; cause = why } ∷ []) (sym src)

all_unnamed : (ledger ledger' offs : List Off) (from to : ℕ) (pdu : Pdu) (cause : Option Cause) → pdu.src ≡ 0 → ledger' ≡ ledger ++ offs ++ lines_for (named from to pdu) cause → unnamed_from (length ledger) ledger' ≡ ledger ++ (map unnamed_line offs ++ lines_for pdu cause)
all_unnamed ledger ledger' offs from to pdu cause src is =
    let own : List Off = lines_for (named from to pdu) cause in
    let whole : ledger' ≡ ledger ++ (offs ++ own) = is ∙ append_assoc ledger offs own in
    ap (unnamed_from (length ledger)) whole ∙ unnamed_more ledger (offs ++ own) ∙ ap (λ (zs : List Off). ledger ++ zs) (map-append unnamed_line offs own ∙ ap (λ (zs : List Off). map unnamed_line offs ++ zs) (own_unnamed from to pdu cause src))

-- The DIF after it

accepted_stays : took.Accepted ≢ took.Relayed
accepted_stays h = absurd cc

off_stays : (cause : Cause) → took.Off cause ≢ took.Relayed
off_stays cause h = absurd cc

told_stays : (cause : Option Cause) → took_of cause ≢ took.Relayed
told_stays None h = absurd cc
told_stays (Some why) h = absurd cc

told_cause : (cause : Option Cause) → cause_told (took_of cause) ≡ cause
told_cause None = refl
told_cause (Some why) = refl

module _ (d : Dif) (at since : ℕ) (port : Port) (hop : Hop) (lines : List Direction) (below : Seen) (h : Holds d lines below) (kept : AreKept below) (o : IsOldest (config_of d.settings) below port since hop) (link : IsForLink d since hop) where
  abbrev g : Config
  g = config_of d.settings

  abbrev links : List Direction
  links = h.connected.lines

  abbrev m : ChannelsSeen
  m = channels_seen g d.clock d.connections

  abbrev after : Flows → ChannelsSeen
  after flows = channels_seen g d.clock (record d.connections { flows = flows })

  in_time : d.clock - o.entry.tick ≤ hop.left
  in_time = subst (λ (t : ℕ). d.clock - t ≤ hop.left) (sym o.tick) link.0

  -- the IPC process and the connections change so
  finish : (end : Took) (dropped : List Off) (flows : Flows) (links' : List Direction) (p p' : IpcProcess) (ps : List IpcProcess) → slice_get d.processes at ≡ Some p → process_of p' ≡ with_offs (process_of p) (dropped ++ lines_for hop.pdu (cause_told end)) → queue_settings p' ≡ queue_settings p → ps ≡ slice_set d.processes at p' → end ≢ took.Relayed → TakesOnLink m links port hop.pdu end dropped (after flows) links' → AreTied (link_config g d.connections.manage) d.clock flows links' → HasTaken d lines links below at since port hop end (record d { processes = ps; connections = record d.connections { flows = flows } })
  finish end dropped flows links' p p' ps is new room set stays takes tied =
      let offs : List Off = dropped ++ lines_for hop.pdu (cause_told end) in
      let next : seen_of (record d { processes = ps }) ≡ with_process (seen_of d) at (with_offs (process_of p) offs) = stepped d at p' ps set ∙ ap (with_process (seen_of d) at) new in
      let house = home_set d lines below at p p' ps h is room (house_is (process_of p) (with_offs (process_of p) offs) (process_of p') new (off_house (process_of p) offs)) set in
      let leaves : LeavesLinks (seen_of d).processes (map process_of ps) = subst (λ (z : DifSeen). LeavesLinks (seen_of d).processes z.processes) (sym next) (leaves_same (seen_of d).processes at (process_of p) (with_offs (process_of p) offs) (shown_at d at p is) refl refl) in
      record {
        lines' = lines;
        settled = λ member process q.
            let same = same_some (slice_get (seen_of d).processes at) (process_of p) process (shown_at d at p is) q.is_process in
            inr (record {
              in_time = link.0;
              of_link = link.1;
              stays = stays;
              dropped = dropped;
              each = taking_on_links_is_lawful m links (seen_of d).processes below port hop.pdu end dropped (after flows) links' h.connected.standing link.1 takes;
              lines_are = refl;
              new_is = next ∙ ap (λ (z : Process). with_process (seen_of d) at (with_offs z offs)) same;
            });
        tied = h.tied;
        housed = house.housed;
        managed = house.managed;
        enrolled = h.enrolled;
        connected = record {
          may = h.connected.may;
          lines = links';
          tied = tied;
          standing = taking_on_links_stands m links (seen_of d).processes (map process_of ps) below port o.entry hop end dropped (after flows) links' kept h.connected.standing o.oldest o.opens link.1 in_time takes leaves;
          paired = h.connected.paired;
          named = taken_named m links port hop.pdu dropped (after flows) links' end takes h.connected.named;
          each = λ i n q live. h.connected.each i n q (leaves.live i n q live);
        };
        channels = inr (record { for_link = link; dropped = dropped; takes = takes });
        flooded = λ floods alive. live_floods (record d { connections = record d.connections { flows = flows } }) ps house.live (said_floods d flows (taken_said m links (seen_of d).processes below h.connected.standing port hop.pdu dropped (after flows) links' end takes) (floods alive));
      }

  -- no end takes it
  none_takes : (p p' : IpcProcess) (ps : List IpcProcess) → slice_get d.processes at ≡ Some p → process_of p' ≡ with_offs (process_of p) (line_for hop.pdu (causes.NoConnection hop.pdu.dcep) ∷ []) → queue_settings p' ≡ queue_settings p → ps ≡ slice_set d.processes at p' → LinkTakenBy d.connections port hop.pdu None → HasTaken d lines links below at since port hop (took.Off (causes.NoConnection hop.pdu.dcep)) (record d { processes = ps })
  none_takes p p' ps is new room set none =
      finish (took.Off (causes.NoConnection hop.pdu.dcep)) [] d.connections.flows links p p' ps is new room set (off_stays _)
      (link.1.dcep, no_taker g d.clock d.connections links (seen_of d).processes below h.connected.standing port hop.pdu none, refl, refl, refl) h.connected.tied

  -- an acknowledgement does its work
  ack_taken : (place : ℕ) (its : Pdu) (flows : Flows) (p : IpcProcess) → slice_get d.processes at ≡ Some p → hop.pdu.kind ≡ AnAck → IsLinkTaker d.connections port hop.pdu place its → TellsOne place its d.connections.flows flows → flows.journal.ends ≡ d.connections.flows.journal.ends → HasTaken d lines links below at since port hop took.Accepted (record d { connections = record d.connections { flows = flows } })
  ack_taken place its flows p is kind taker tells ends =
      let x = taker_at g d.clock d.connections links (seen_of d).processes below h.connected.standing port hop.pdu place its taker in
      let t = tells (link_config g d.connections.manage) d.clock links h.connected.tied (allocated_used d.clock d.connections.flows.journal.ends place x.2.0 h.connected.standing.journal x.2.2.takes.is_conn.end x.2.2.takes.allocated) in
      let told : ToldAt links place (named x.0.partner place hop.pdu) t.lines' = subst (λ (z : Pdu). ToldAt links place z t.lines') x.1 t.told in
      let same : after flows ≡ m = ap (λ (es : List End). record m { ends = es; ids = conns_of flows.conns }) ends ∙ ap (λ (ids : List Ids). record m { ids = ids }) t.ids in
      let ack : TakesAck m links port hop.pdu (after flows) t.lines' = record { ack = kind; place = place; channel = x.0; end = x.2.0; ids = x.2.1; taker = x.2.2; told = told; new_is = same } in
      let none : process_of p ≡ with_offs (process_of p) [] = ap (λ (zs : List Off). record (process_of p) { ledger = zs }) (sym (append-nil p.ledger)) in
      finish took.Accepted [] flows t.lines' p p d.processes is none refl (sym (slice_set-same d.processes at p is)) accepted_stays (inr (ack, refl)) t.tied

  -- a piece that arrived is not left for want of a connection
  leaves_off : (cause : Cause) (dropped : List Off) (m' : ChannelsSeen) (links' : List Direction) → OfReceiver cause → TakesPiece m links port hop.pdu (Some cause) dropped m' links' → LeavesOff m links port hop.pdu cause dropped m' links'
  unfolding OfReceiver
  leaves_off (causes.NoConnection cep) dropped m' links' of s = absurd of
  leaves_off (causes.Expired left charge) dropped m' links' of s = s
  leaves_off (causes.NoRoute dst) dropped m' links' of s = s
  leaves_off (causes.QueueFull cap) dropped m' links' of s = s
  leaves_off (causes.Duplicate num) dropped m' links' of s = s
  leaves_off (causes.Behind number) dropped m' links' of s = s
  leaves_off (causes.NoState drf) dropped m' links' of s = s
  leaves_off (causes.NoRoom cap) dropped m' links' of s = s
  leaves_off (causes.StateGone last_in) dropped m' links' of s = s
  leaves_off (causes.Broken missing) dropped m' links' of s = s
  leaves_off (causes.LinkDown down) dropped m' links' of s = s

  piece_by : (cause : Option Cause) (dropped : List Off) (m' : ChannelsSeen) (links' : List Direction) → TakesPiece m links port hop.pdu cause dropped m' links' → TakesOnLink m links port hop.pdu (took_of cause) dropped m' links'
  piece_by None dropped m' links' s = inl s
  piece_by (Some why) dropped m' links' s =
      let a = s.arrives in
      let c = constants (link_config g d.connections.manage) a.cube (flipped a.its_ids) in
      let p = piece_in (named s.channel.partner s.place hop.pdu) in
      leaves_off why dropped m' links' (of_verdict (arrival_verdict c a.line.line p (has_room c a.line)) c p a.line why a.arrived.0) s

  -- a piece arrives
  piece_taken : (place : ℕ) (its : Pdu) (cause : Option Cause) (flows : Flows) (ps : List IpcProcess) → at < length d.settings.members → hop.pdu.kind ≡ APiece → IsLinkTaker d.connections port hop.pdu place its → ArrivesOnLink d.clock place its at d.connections.flows d.processes (Ok cause) flows ps → HasTaken d lines links below at since port hop (took_of cause) (record d { processes = ps; connections = record d.connections { flows = flows } })
  piece_taken place its cause flows ps lt kind taker arrives =
      let st : Stands d below = (lines, h) in
      let p = has_process d below at st lt in
      let x = arrives p.0 p.1 in
      let t = taker_at g d.clock d.connections links (seen_of d).processes below h.connected.standing port hop.pdu place its taker in
      let real : Pdu = named t.0.partner place hop.pdu in
      let on = t.2.2 in
      let awaited : IsAwaited m (seen_of d).processes below real = coming_is_awaited m links (seen_of d).processes below place t.0 port o.entry hop kept h.connected.standing on.stands on.on_port o.oldest o.opens link.1 in_time in
      let come = calls_for_pieces_arrive g d.connections.manage d.clock d.connections.channels links (seen_of d).processes below d.connections.flows flows place t.2.0 t.2.1 its p.0.ledger x.0 cause h.connected.standing h.connected.tied (subst (IsAwaited m (seen_of d).processes below) (sym t.1) awaited) (ap (λ (z : Pdu). z.kind) t.1 ∙ kind) t.2.3 x.1 in
      let same : after flows ≡ record m { ends = flows.journal.ends } = ap (λ (ids : List Ids). record m { ends = flows.journal.ends; ids = ids }) come.ids in
      let dropped : List Off = map unnamed_line come.offs in
      let piece : TakesPiece m links port hop.pdu cause dropped (after flows) come.lines' = record { piece = kind; place = place; channel = t.0; end = t.2.0; ids = t.2.1; taker = on; held = come.offs; ends' = flows.journal.ends; arrives = subst (λ (z : Pdu). ArrivesAt (link_config g d.connections.manage) m.ends m.ids links place z cause come.offs flows.journal.ends come.lines') t.1 come.arrives; dropped_are = refl; new_is = same } in
      let ledger_is : x.0 ≡ p.0.ledger ++ come.offs ++ lines_for real cause = subst (λ (z : Pdu). x.0 ≡ p.0.ledger ++ come.offs ++ lines_for z cause) t.1 come.ledger_is in
      let ledger = all_unnamed p.0.ledger x.0 come.offs t.0.partner place hop.pdu cause link.1.src ledger_is in
      let p' : IpcProcess = record p.0 { ledger = unnamed_from (length p.0.ledger) x.0 } in
      let new : process_of p' ≡ with_offs (process_of p.0) (dropped ++ lines_for hop.pdu (cause_told (took_of cause))) = ap (λ (zs : List Off). record (process_of p.0) { ledger = zs }) ledger ∙ ap (λ (c : Option Cause). with_offs (process_of p.0) (dropped ++ lines_for hop.pdu c)) (sym (told_cause cause)) in
      finish (took_of cause) dropped flows come.lines' p.0 p' ps p.1 new refl x.2 (told_stays cause) (piece_by cause dropped (after flows) come.lines' piece) come.tied

-- By its answers

pub link_none : (d : Dif) (at since : ℕ) (port : Port) (hop : Hop) (ps : List IpcProcess) → at < length d.settings.members → IsForLink d since hop → LinkTakenBy d.connections port hop.pdu None → NotesAt hop.pdu (causes.NoConnection hop.pdu.dcep) (Ok tt) at d.processes ps → TakesFor d at since port hop (Ok (took.Off (causes.NoConnection hop.pdu.dcep))) (record d { processes = ps })
link_none d at since port hop ps lt link none notes lines below h kept there o =
    let p = has_process d below at (lines, h) lt in
    let x = notes p.0 p.1 in
    none_takes d at since port hop lines below h kept o link p.0 x.0 ps p.1 x.1 x.2 x.3 none

pub link_told : (d : Dif) (at since : ℕ) (port : Port) (hop : Hop) (place : ℕ) (its : Pdu) (flows : Flows) → at < length d.settings.members → IsForLink d since hop → hop.pdu.kind ≡ AnAck → IsLinkTaker d.connections port hop.pdu place its → TellsOne place its d.connections.flows flows → flows.journal.ends ≡ d.connections.flows.journal.ends → TakesFor d at since port hop (Ok took.Accepted) (record d { connections = record d.connections { flows = flows } })
link_told d at since port hop place its flows lt link kind taker tells ends lines below h kept there o =
    let p = has_process d below at (lines, h) lt in
    ack_taken d at since port hop lines below h kept o link place its flows p.0 p.1 kind taker tells ends

pub link_arrived : (d : Dif) (at since : ℕ) (port : Port) (hop : Hop) (place : ℕ) (its : Pdu) (cause : Option Cause) (flows : Flows) (ps : List IpcProcess) → at < length d.settings.members → IsForLink d since hop → hop.pdu.kind ≡ APiece → IsLinkTaker d.connections port hop.pdu place its → ArrivesOnLink d.clock place its at d.connections.flows d.processes (Ok cause) flows ps → TakesFor d at since port hop (Ok (took_of cause)) (record d { processes = ps; connections = record d.connections { flows = flows } })
link_arrived d at since port hop place its cause flows ps lt link kind taker arrives lines below h kept there o = piece_taken d at since port hop lines below h kept o link place its cause flows ps lt kind taker arrives

pub link_noted_err : (d : Dif) (at since : ℕ) (port : Port) (hop : Hop) (cause : Cause) (e : NoMemory) (ps : List IpcProcess) → at < length d.settings.members → NotesAt hop.pdu cause (Err e) at d.processes ps → TakesFor d at since port hop (Err e) (record d { processes = ps })
link_noted_err d at since port hop cause e ps lt notes lines below h kept there o = (let s = noted_err d at since hop cause e ps lt notes lines below h there in (s.0, s.1, refl))

pub link_arrived_err : (d : Dif) (at since : ℕ) (port : Port) (hop : Hop) (place : ℕ) (its : Pdu) (e : NoMemory) (flows : Flows) (ps : List IpcProcess) → ArrivesOnLink d.clock place its at d.connections.flows d.processes (Err e) flows ps → TakesFor d at since port hop (Err e) (record d { processes = ps; connections = record d.connections { flows = flows } })
link_arrived_err d at since port hop place its e flows ps arrives lines below h kept there o =
    let all : record d { processes = ps; connections = record d.connections { flows = flows } } ≡ d = ap (λ (z : Flows). record d { processes = ps; connections = record d.connections { flows = z } }) arrives.0 ∙ ap (λ (z : List IpcProcess). record d { processes = z }) arrives.1 in
    (ap seen_of all, subst (λ (z : Dif). Holds z lines below) (sym all) h, ap (λ (z : Dif). z.connections) all)

-- whatever the error is
pub takes_err : (d : Dif) (at since : ℕ) (port : Port) (hop : Hop) (e e' : NoMemory) (r : Result Took NoMemory) (d' : Dif) → TakesFor d at since port hop (Err e) d' → r ≡ Err e' → TakesFor d at since port hop r d'
takes_err d at since port hop e e' r d' s is = subst (λ (v : Result Took NoMemory). TakesFor d at since port hop v d') (sym is) s

-- A PDU of a flow

pub flow_taken : (d : Dif) (at since : ℕ) (port : Port) (hop : Hop) (r : Result Took NoMemory) (d' : Dif) → (IsForLink d since hop → ⊥) → d'.connections ≡ d.connections → SettlesFor d at since hop r d' → TakesFor d at since port hop r d'
flow_taken d at since port hop (Ok end) d' other same settles lines below h kept there o =
    let s = settles lines below h there in
    record {
      lines' = s.lines';
      settled = s.settled;
      tied = s.tied;
      housed = s.housed;
      managed = s.managed;
      enrolled = s.enrolled;
      connected = s.connected below h.connected;
      flooded = s.flooded;
      channels = inl (other, same);
    }
flow_taken d at since port hop (Err e) d' other same settles lines below h kept there o = (let s = settles lines below h there in (s.0, s.1, same))

-- What stays

pub link_leaves : (d : Dif) (below : Seen) (place : ℕ) (its : Pdu) (at : ℕ) (r : Result (Option Cause) NoMemory) (flows : Flows) (ps : List IpcProcess) → Stands d below → at < length d.settings.members → ArrivesOnLink d.clock place its at d.connections.flows d.processes r flows ps → ChangesProcess (Some at) d.processes ps
link_leaves d below place its at (Ok cause) flows ps st lt does =
    let p = has_process d below at st lt in
    let x = does p.0 p.1 in
    by_process d.processes ps at p.0 (record p.0 { ledger = unnamed_from (length p.0.ledger) x.0 }) p.1 refl x.2
link_leaves d below place its at (Err e) flows ps st lt does = none_process (Some at) d.processes ps does.1
