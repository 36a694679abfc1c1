-- What a piece of a link would make whole is told before it is taken: these are the SDUs that its end then has more.
use Rattle.std.proofs.Common.{◌≡◌, ◌∙◌, ℕ, ◌-◌, ◌^◌, ◌≤◌, Bool, true, false, List, [], ◌∷◌, ◌++◌, drop, length, ltb, map, min, slice_get, slice_set, Option, refl, sym, ap, subst, arith}
use Rattle.std.proofs.lemmas.Bool.{true≢false}
use Rattle.std.proofs.lemmas.List.{drop-append-le, drop-map, length-map, map-append}
use Rattle.std.proofs.lemmas.Option.{same_Some}
use Rattle.rina_account.specs.declared.ledger.Off.{Off}
use Rattle.rina_base.specs.declared.cause.Cause.{Cause}
use Rattle.rina_base.specs.declared.number.Port.{Port}
use Rattle.rina_base.specs.declared.pdu.Pdu.{Pdu}
use Rattle.rina_base.specs.declared.pdu.PduKind.TheVariants.{Piece as APiece}
use Rattle.rina_channel.specs.declared.channel.Channel.{Channel}
use Rattle.rina_channel.specs.Channels.{ChannelsSeen}
use Rattle.rina_channel.specs.Coming.{TakesPiece}
use Rattle.rina_channel.specs.LinkCloud.{LinkCloud}
use Rattle.rina_channel.specs.Names.{link_config, named}
use Rattle.rina_channel.proofs.Coming.{coming_is_awaited}
use Rattle.rina_channel.proofs.Config.{link_is_config}
use Rattle.rina_conn.specs.declared.conn.Conn.{Conn}
use Rattle.rina_cube.specs.declared.Cube.{Cube}
use Rattle.rina_cube.specs.declared.Kind.{Kind}
use Rattle.rina_data.specs.Configs.{Config, config_of, cube_by}
use Rattle.rina_data.specs.Hops.{Hop}
use Rattle.rina_dif_law.specs.Dif.{constants}
use Rattle.rina_dif_law.specs.Ids.{Ids, IsFrom, flipped}
use Rattle.rina_dif_law.specs.Incoming.{arrived, landed, whole_by}
use Rattle.rina_dif_law.specs.Standing.{IsConfig, IsJournal, IsOwn}
use Rattle.rina_dif_law.proofs.Forgot.{by_found}
use Rattle.rina_dtp.specs.Joins.{bytes_of}
use Rattle.rina_dtp.specs.Stands.{IsAhead, joined_by}
use Rattle.rina_flows.specs.Rows.{ArrivesAt}
use Rattle.rina_flows.specs.Tied.{IsAt, IsInboundAt, IsReceiving, IsTied, conns_of, ids_of, inward}
use Rattle.rina_flows.proofs.ArrivesAt.{is_coming, place_of, the_flow}
use Rattle.rina_flows.proofs.Coming.{room_is}
use Rattle.rina_flows.proofs.Framed.{ids_at}
use Rattle.rina_flows.proofs.Waiting.{counted, few_wait}
use Rattle.rina_flows.proofs.Welcome.{verdict_is, welcome}
use Rattle.rina_iface.specs.declared.ends.End.{End}
use Rattle.rina_iface.specs.declared.state.PortState.TheVariants.{Allocated}
use Rattle.rina_iface.specs.Journal.{At, AreKept}
use Rattle.rina_iface.specs.Seen.{Seen, unpassed}
use Rattle.rina_ids.specs.Members.{CepIds}
use Rattle.rina_law.specs.declared.entry.Entry.{Entry}
use Rattle.rina_law.specs.Constants.{Constants}
use Rattle.rina_law.specs.Direction.{Direction, entry_for, has_room}
use Rattle.rina_law.specs.Pdus.{piece_in}
use Rattle.rina_law.specs.Pieces.{Joiner, Sdu, empty_joiner}
use Rattle.rina_law.specs.Receiver.{Piece, Receiver, Verdict, Accepted, Held, Duplicate, Behind, NoState, NoRoom, absent_verdict, is_present, joined_after, verdict, with_room}
use Rattle.rina_dif.specs.declared.dif.Dif.{Dif}
use Rattle.rina_dif.specs.Connected.{channels_seen}
use Rattle.rina_dif.specs.Flooding.{texts_of}
use Rattle.rina_dif.specs.Handling.{IsToldAhead, unpassed_sdus}
use Rattle.rina_dif.specs.Holding.{Holds}
use Rattle.rina_dif.specs.Shown.{seen_of}
use Rattle.rina_dif.specs.Taking.{IsForLink, IsLinkTaker, IsOldest}
use Rattle.rina_dif.proofs.OnLinks.{taker_at}

-- The law's side: what the direction has more

-- where no state stands, what becomes whole is of the piece alone
absent_whole : (v : Verdict) (kind : Kind) (p : Piece) (held held' : List Piece) (j j' : Joiner) → (joined_after v kind false p held' j').whole ≡ (joined_after v kind false p held j).whole
absent_whole Accepted kind p held held' j j' = refl
absent_whole Held kind p held held' j j' = refl
absent_whole Duplicate kind p held held' j j' = refl
absent_whole Behind kind p held held' j j' = refl
absent_whole NoState kind p held held' j j' = refl
absent_whole NoRoom kind p held held' j j' = refl

gone_whole : (b room : Bool) (kind : Kind) (p : Piece) (rx rx' : Receiver) (j j' : Joiner) → b ≡ false → (joined_after (verdict kind b rx' p room) kind b p rx'.held j').whole ≡ (joined_after (verdict kind b rx p room) kind b p rx.held j).whole
gone_whole true room kind p rx rx' j j' gone = absurd (true≢false gone)
gone_whole false room kind p rx rx' j j' gone = absent_whole (with_room room (absent_verdict kind p.drf)) kind p rx.held rx'.held j j'

-- what is given up first leaves that as it is
arrived_got : (c : Constants) (p : Piece) (line : Direction) → (arrived c p line).inbox.got ≡ line.inbox.got ++ map (entry_for c line.line.clock) (whole_by c p line)
arrived_got c p line = by_found (λ l. (landed c p l).inbox.got ≡ line.inbox.got ++ map (entry_for c line.line.clock) (whole_by c p line)) c line refl
    (λ gone. ap (λ (ws : List Sdu). line.inbox.got ++ map (entry_for c line.line.clock) ws) (gone_whole (is_present c line.line.clock line.line.receiver) (has_room c line) c.cube.kind p line.line.receiver (record line.line.receiver { held = [] }) line.inbox.joiner empty_joiner gone))

entry_texts : (c : Constants) (now : ℕ) (ws : List Sdu) → texts_of (map (entry_for c now) ws) ≡ bytes_of ws
entry_texts c now [] = refl
entry_texts c now (w ∷ ws) = ap (λ (ts : List (List ℕ)). w.bytes ∷ ts) (entry_texts c now ws)

-- An end to which a piece comes

-- the end at a place has these SDUs more, and passed none
pub record HasMore (ends ends' : List End) (place : ℕ) (bodies : List (List ℕ)) (end : End) : Type 0 where
  pub got : List Entry
  pub is : ends' ≡ slice_set ends place (record end { got = got })
  pub texts : texts_of got ≡ texts_of end.got ++ bodies

-- so these wait to be passed as well
pub more_unpassed : (ends ends' : List End) (place : ℕ) (bodies : List (List ℕ)) (end : End) (h : HasMore ends ends' place bodies end) → end.taken ≤ length end.got → unpassed_sdus (record end { got = h.got }) ≡ unpassed_sdus end ++ bodies
more_unpassed ends ends' place bodies end h le =
    let long : length (texts_of end.got) ≡ length end.got = length-map end.got (λ (x : Entry). x.bytes) in
    sym (drop-map (λ (x : Entry). x.bytes) end.taken h.got) ∙ ap (λ (ts : List (List ℕ)). drop end.taken ts) h.texts ∙ drop-append-le end.taken (texts_of end.got) bodies (omega (arith, le, long)) ∙ ap (λ (ts : List (List ℕ)). ts ++ bodies) (drop-map (λ (x : Entry). x.bytes) end.taken end.got)

module _ (g : Config) (now : ℕ) (cloud : ℕ → Pdu → Type 0) (held : List CepIds) (ends : List End) (conns : List Conn) (lines : List Direction) (config : IsConfig g) (journal : IsJournal now ends) (own : IsOwn g now cloud held ends (conns_of conns) lines) (tied : IsTied g now ends conns lines) (at : ℕ) (end : End) (conn : Conn) (is_at : IsAt ends conns at end conn) (allocated : end.state ≡ Allocated) where
  -- what the receiver told ahead is what the law makes whole
  told_ahead : (pdu : Pdu) (death from : ℕ) (line : Direction) (unpassed : ℕ) (bodies : List (List ℕ)) → IsFrom (flipped (ids_of conn)) pdu → pdu.kind ≡ APiece → cloud death pdu → now ≤ death → IsInboundAt ends lines end from line → unpassed ≡ min (length end.got - end.taken) (2 ^ 32 - 1) → IsAhead now pdu unpassed conn.rx bodies → bodies ≡ bytes_of (whole_by (inward g conn) (piece_in pdu) line)
  told_ahead pdu death from line unpassed bodies names kind here alive inbound count ahead =
      let c : Constants = inward g conn in
      let coming = is_coming g now cloud held ends conns lines config journal own tied at end conn is_at allocated pdu death from line names kind here alive inbound in
      let receiving = tied.receives at from end conn line is_at allocated inbound in
      let flow = the_flow g now cloud held ends conns lines config journal own tied at end conn is_at allocated from line inbound in
      let few = few_wait c line conn.waiting receiving.waiting receiving.early in
      let all : unpassed ≡ length end.got - end.taken = (let a = flow.passed in let b = ap (λ (es : List Entry). length es) flow.got in let w = coming.limits.window in counted unpassed (length end.got - end.taken) (2 ^ 32 - 1) (omega arith) count) in
      let room = ap (λ n. ltb n conn.sending.form.cube.window) all ∙ room_is g now cloud end (ids_of conn) conn.sending.form.cube line flow in
      let A : ℕ → Type 0 = λ t. IsReceiving c t (ids_of conn) conn line → IsAhead t pdu unpassed conn.rx bodies → bodies ≡ bytes_of (whole_by c (piece_in pdu) line) in
      subst A flow.backed.clock
      (λ receives told. told c line.line.receiver line.inbox.joiner receives.stands receives.forward (welcome c (ids_of conn) line pdu unpassed coming room) ∙ ap (λ v. bytes_of (joined_by c (is_present c line.line.clock line.line.receiver) line.line.receiver line.inbox.joiner v (piece_in pdu)).whole) (verdict_is c line (piece_in pdu) unpassed room))
      receiving ahead

  pub ahead_came : (pdu : Pdu) (death unpassed : ℕ) (bodies : List (List ℕ)) (cause : Option Cause) (offs : List Off) (ends' : List End) (lines' : List Direction) → IsFrom (flipped (ids_of conn)) pdu → pdu.kind ≡ APiece → cloud death pdu → now ≤ death → unpassed ≡ min (length end.got - end.taken) (2 ^ 32 - 1) → IsAhead now pdu unpassed conn.rx bodies → ArrivesAt g ends (conns_of conns) lines at pdu cause offs ends' lines' → HasMore ends ends' at bodies end
  ahead_came pdu death unpassed bodies cause offs ends' lines' names kind here alive count ahead a =
      let same : a.end ≡ end = same_Some a.end end (sym a.place.is_conn.end ∙ is_at.end_is) in
      let inbound : IsInboundAt ends lines end a.from a.line = subst (λ (e : End). IsInboundAt ends lines e a.from a.line) same a.inbound in
      let ids : a.its_ids ≡ ids_of conn = same_Some a.its_ids (ids_of conn) (sym a.place.is_conn.ids_are ∙ ids_at conns at conn is_at.conn_is) in
      let cube : a.cube ≡ conn.sending.form.cube = same_Some a.cube conn.sending.form.cube (sym a.place.is_cube ∙ ap (λ (z : Ids). cube_by z.qos g.cubes) ids ∙ (place_of g now ends conns lines at end conn tied is_at).is_cube) in
      let c : Constants = constants g a.cube (flipped a.its_ids) in
      let law : c ≡ inward g conn = ap (λ (z : Cube). constants g z (flipped a.its_ids)) cube ∙ ap (λ (z : Ids). constants g conn.sending.form.cube (flipped z)) ids in
      let flow = the_flow g now cloud held ends conns lines config journal own tied at end conn is_at allocated a.from a.line inbound in
      let told = told_ahead pdu death a.from a.line unpassed bodies names kind here alive inbound count ahead in
      let whole : bytes_of (whole_by c (piece_in pdu) a.line) ≡ bodies = ap (λ (z : Constants). bytes_of (whole_by z (piece_in pdu) a.line)) law ∙ sym told in
      record {
        got = (arrived c (piece_in pdu) a.line).inbox.got;
        is = a.arrived.2 ∙ ap (λ (e : End). slice_set ends at (record e { got = (arrived c (piece_in pdu) a.line).inbox.got })) same;
        texts = ap texts_of (arrived_got c (piece_in pdu) a.line) ∙ map-append (λ (x : Entry). x.bytes) a.line.inbox.got (map (entry_for c a.line.line.clock) (whole_by c (piece_in pdu) a.line))
            ∙ ap (λ (ts : List (List ℕ)). texts_of a.line.inbox.got ++ ts) (entry_texts c a.line.line.clock (whole_by c (piece_in pdu) a.line) ∙ whole) ∙ ap (λ (es : List Entry). texts_of es ++ bodies) flow.got;
      }

-- A link's own piece

module _ (d : Dif) (at since : ℕ) (port : Port) (hop : Hop) (lines : List Direction) (below : Seen) (h : Holds d lines below) (kept : AreKept below) (o : IsOldest (config_of d.settings) below port since hop) (link : IsForLink d since hop) where
  abbrev m : ChannelsSeen
  m = channels_seen (config_of d.settings) d.clock d.connections

  -- is what that end has more, once the piece is taken
  pub piece_brings : (place : ℕ) (its : Pdu) (bodies : List (List ℕ)) (cause : Option Cause) (dropped : List Off) (m' : ChannelsSeen) (links' : List Direction) → hop.pdu.kind ≡ APiece → IsLinkTaker d.connections port hop.pdu place its → IsToldAhead d place its bodies
      → TakesPiece m h.connected.lines port hop.pdu cause dropped m' links' → (end : End) × At m.ends place end × HasMore m.ends m'.ends place bodies end
  piece_brings place its bodies cause dropped m' links' kind taker told s =
      let g = config_of d.settings in
      let st = h.connected.standing in
      let ps = (seen_of d).processes in
      let t = taker_at g d.clock d.connections h.connected.lines ps below st port hop.pdu place its taker in
      let on = t.2.2 in
      let real : Pdu = named t.0.partner place hop.pdu in
      let here : s.place ≡ place = st.channels.apart s.place place s.channel t.0 port s.taker.stands on.stands s.taker.on_port on.on_port in
      let channel : s.channel ≡ t.0 = same_Some s.channel t.0 (sym s.taker.stands ∙ ap (slice_get m.channels) here ∙ on.stands) in
      let in_time : d.clock - o.entry.tick ≤ hop.left = subst (λ (x : ℕ). d.clock - x ≤ hop.left) (sym o.tick) link.0 in
      let awaited = coming_is_awaited m h.connected.lines ps below place t.0 port o.entry hop kept st on.stands on.on_port o.oldest o.opens link.1 in_time in
      let is_at : IsAt d.connections.flows.journal.ends d.connections.flows.conns place t.2.0 taker.conn = record { end_is = on.takes.is_conn.end; conn_is = taker.is_conn } in
      let ids : t.2.1 ≡ ids_of taker.conn = same_Some t.2.1 (ids_of taker.conn) (sym on.takes.is_conn.ids_are ∙ ids_at d.connections.flows.conns place taker.conn taker.is_conn) in
      let names : IsFrom (flipped (ids_of taker.conn)) real = subst (λ (z : Ids). IsFrom (flipped z) real) ids on.takes.names in
      let arrives : ArrivesAt (link_config g d.connections.manage) m.ends m.ids h.connected.lines place real cause s.held s.ends' links' =
      subst (λ (k : ℕ). ArrivesAt (link_config g d.connections.manage) m.ends m.ids h.connected.lines k (named t.0.partner k hop.pdu) cause s.held s.ends' links') here
      (subst (λ (z : Channel). ArrivesAt (link_config g d.connections.manage) m.ends m.ids h.connected.lines s.place (named z.partner s.place hop.pdu) cause s.held s.ends' links') channel s.arrives) in
      let ahead : IsAhead d.clock real told.unpassed taker.conn.rx bodies = subst (λ (z : Pdu). IsAhead d.clock z told.unpassed taker.conn.rx bodies) t.1 (told.ahead taker.conn taker.is_conn) in
      let more = ahead_came (link_config g d.connections.manage) d.clock (LinkCloud m.config m.channels ps below) [] d.connections.flows.journal.ends d.connections.flows.conns h.connected.lines (link_is_config g d.connections.manage st.managed) st.journal st.own h.connected.tied place t.2.0 taker.conn is_at on.takes.allocated
      real awaited.death told.unpassed bodies cause s.held s.ends' links' names kind awaited.here awaited.alive (told.count t.2.0 on.takes.is_conn.end) ahead arrives in
      (t.2.0, on.takes.is_conn.end, record { got = more.got; is = ap (λ (z : ChannelsSeen). z.ends) s.new_is ∙ more.is; texts = more.texts })
