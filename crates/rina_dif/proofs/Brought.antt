-- What a member was told ahead of a piece is true of it once the piece was taken.
use Rattle.std.proofs.Common.{◌≡◌, ◌∙◌, ℕ, ◌<◌, List, ◌++◌, length, slice_get, slice_set, Option, Some, None, Ok, refl, sym, ap, subst, inl, inr}
use Rattle.std.specs.Prelude.{IfSome}
use Rattle.std.proofs.lemmas.Option.{same_Some}
use Rattle.rina_account.specs.declared.ledger.Off.{Off}
use Rattle.rina_base.specs.declared.cause.Cause.{Cause}
use Rattle.rina_base.specs.declared.cause.Cause.TheVariants as causes
use Rattle.rina_base.specs.declared.number.Port.{Port}
use Rattle.rina_base.specs.declared.pdu.PduKind.{PduKind}
use Rattle.rina_base.specs.declared.pdu.PduKind.TheVariants.{Piece as APiece, Ack as AnAck}
use Rattle.rina_channel.specs.declared.channel.Attachment.{Attachment}
use Rattle.rina_channel.specs.declared.channel.Channel.{Channel}
use Rattle.rina_channel.specs.Channels.{ChannelsSeen, HasLive}
use Rattle.rina_channel.specs.Coming.{IsTaker, LeavesOff, TakesOnLink, TakesPiece}
use Rattle.rina_channel.specs.Names.{named}
use Rattle.rina_data.specs.declared.process.IpcProcess.{IpcProcess}
use Rattle.rina_data.specs.declared.settings.Settings.{Settings}
use Rattle.rina_data.specs.declared.step.Took.{Took}
use Rattle.rina_data.specs.declared.step.Took.TheVariants as took
use Rattle.rina_data.specs.Configs.{config_of}
use Rattle.rina_data.specs.Deciding.{process_of}
use Rattle.rina_data.specs.Hops.{Hop}
use Rattle.rina_data.specs.Process.{Process, with_offs}
use Rattle.rina_dif_law.specs.Dif.{DifSeen, with_process}
use Rattle.rina_dif_law.specs.Ids.{Ids}
use Rattle.rina_dif_law.specs.Incoming.{cause_told, lines_for}
use Rattle.rina_flows.specs.declared.flows.Flows.{Flows}
use Rattle.rina_flows.specs.Rows.{TakesAt}
use Rattle.rina_flows.specs.Tied.{conns_of}
use Rattle.rina_iface.specs.declared.ends.End.{End}
use Rattle.rina_iface.specs.Journal.{At, AreKept}
use Rattle.rina_iface.specs.Seen.{Seen}
use Rattle.rina_iface.proofs.Changed.{slice_get-set_same}
use Rattle.rina_law.specs.Direction.{Direction}
use Rattle.rina_member.specs.declared.management.Management.{Management}
use Rattle.rina_member.specs.Knowing.{AreRoutesOf}
use Rattle.rina_dif.specs.declared.connections.Connections.{Connections}
use Rattle.rina_dif.specs.declared.dif.Dif.{Dif}
use Rattle.rina_dif.specs.declared.messages_in.Change.{Change}
use Rattle.rina_dif.specs.declared.messages_in.Handled.{Handled}
use Rattle.rina_dif.specs.Connected.{channels_seen}
use Rattle.rina_dif.specs.Handling.{HandlesInTurn, IsChange, IsHandled, IsToldAhead, TellsNodes, or_same, told_of, unpassed_sdus}
use Rattle.rina_dif.specs.Holding.{Holds}
use Rattle.rina_dif.specs.LinkDue.{IsLinkEnd}
use Rattle.rina_dif.specs.Shown.{seen_of}
use Rattle.rina_dif.specs.Managing.{enrolled_nodes, states_of}
use Rattle.rina_dif.specs.Taking.{BringsAhead, HasTaken, IsOldest, IsTakenOnLink, IsThere, MayBring, TakesFor}
use Rattle.rina_dif.proofs.Ahead.{HasMore, more_unpassed, piece_brings}
use Rattle.rina_dif.proofs.Leaves.{has_process}
use Rattle.rina_dif.proofs.OnLinks.{taker_at}
use Rattle.rina_dif.proofs.Taken.{is_here}
use Rattle.rina_dif.proofs.Unlinked.{has_agent}

no_piece : (k : PduKind) → k ≡ APiece → k ≡ AnAck → ⊥
no_piece k piece ack = absurd cc

-- who is enrolled is told of the same members
tells_on : (d mid : Dif) (at : ℕ) (after : Management) (o : Option (List ℕ)) → mid.settings ≡ d.settings → mid.managements ≡ d.managements → TellsNodes d at after o → TellsNodes mid at after o
tells_on d mid at after (Some nodes) settings managements h = h ∙ (λ j. enrolled_nodes (sym settings j).members (states_of (slice_set (sym managements j) at after)))
tells_on d mid at after None settings managements h = λ m is. h m (ap (λ (ms : List Management). slice_get ms at) (sym managements) ∙ is)

-- and so are the next hops
changes_on : (d mid : Dif) (at : ℕ) (change : Option Change) → mid.settings ≡ d.settings → mid.managements ≡ d.managements → IfSome change (IsChange d at) → IfSome change (IsChange mid at)
changes_on d mid at None settings managements h = tt
changes_on d mid at (Some c) settings managements h = record {
  routes = subst (λ (s : Settings). AreRoutesOf c.management.agent s.members c.routes) (sym settings) h.routes;
  enrolled = tells_on d mid at c.management c.enrolled settings managements h.enrolled;
}

module _ (d : Dif) (at number since : ℕ) (port : Port) (hop : Hop) (lines : List Direction) (below : Seen) (h : Holds d lines below) (kept : AreKept below) (o : IsOldest (config_of d.settings) below port since hop) (lt : at < length d.settings.members) (live : HasLive (seen_of d).processes at number port) (w : Handled) (ahead : BringsAhead d at number since port hop w) where
  abbrev m : ChannelsSeen
  m = channels_seen (config_of d.settings) d.clock d.connections

  abbrev links : List Direction
  links = h.connected.lines

  abbrev taken_by : (channel : Channel) × (ahead.its ≡ named channel.partner w.place hop.pdu) × ((end : End) × (ids : Ids) × IsTaker m port hop.pdu w.place channel end ids × TakesAt d.connections.flows.journal.ends (conns_of d.connections.flows.conns) ahead.its w.place end ids)
  taken_by = taker_at (config_of d.settings) d.clock d.connections links (seen_of d).processes below h.connected.standing port hop.pdu w.place ahead.its ahead.takes.taker

  abbrev channel : Channel
  channel = taken_by.0

  abbrev end : End
  end = taken_by.2.0

  on : IsTaker m port hop.pdu w.place channel end taken_by.2.1
  on = taken_by.2.2

  -- the end took it
  left_off : (cause : Cause) (dropped : List Off) (m' : ChannelsSeen) (links' : List Direction) → LeavesOff m links port hop.pdu cause dropped m' links' → TakesPiece m links port hop.pdu (Some cause) dropped m' links'
  left_off (causes.NoConnection cep) dropped m' links' s = absurd (s.1 w.place channel end taken_by.2.1 on)
  left_off (causes.Expired left charge) dropped m' links' s = s
  left_off (causes.NoRoute dst) dropped m' links' s = s
  left_off (causes.QueueFull cap) dropped m' links' s = s
  left_off (causes.Duplicate num) dropped m' links' s = s
  left_off (causes.Behind top) dropped m' links' s = s
  left_off (causes.NoState drf) dropped m' links' s = s
  left_off (causes.NoRoom cap) dropped m' links' s = s
  left_off (causes.StateGone last_in) dropped m' links' s = s
  left_off (causes.Broken missing) dropped m' links' s = s
  left_off (causes.LinkDown down) dropped m' links' s = s

  took_piece : (told : Took) (dropped : List Off) (m' : ChannelsSeen) (links' : List Direction) → TakesOnLink m links port hop.pdu told dropped m' links' → (cause : Option Cause) × TakesPiece m links port hop.pdu cause dropped m' links'
  took_piece took.Accepted dropped m' links' s = elim s [
    | inl piece ↦ (None, piece)
    | inr ack ↦ absurd (no_piece hop.pdu.kind ahead.takes.piece ack.0.ack)
  ]
  took_piece took.Relayed dropped m' links' s = absurd s
  took_piece (took.Off cause) dropped m' links' s = (Some cause, left_off cause dropped m' links' s)

  -- the link of its channel
  abbrev attached : Attachment
  attached = on.on_port.link

  live_there : HasLive (seen_of d).processes at number attached.port
  live_there = subst (λ (p : Port). HasLive (seen_of d).processes at number p) (sym on.on_port.port_is) live

  matched : (channel.member ≡ at) × (attached.number ≡ number)
  matched = h.connected.standing.channels.matched at number w.place channel attached on.stands on.on_port.link_is live_there

  module _ (told : Took) (ps : List IpcProcess) (fs : Flows) (cs : Connections) (t : HasTaken d lines links below at since port hop told (record d { processes = ps; flows = fs; connections = cs })) where
    abbrev mid : Dif
    mid = record d { processes = ps; flows = fs; connections = cs }

    abbrev m' : ChannelsSeen
    m' = channels_seen (config_of d.settings) d.clock cs

    taken_on : IsTakenOnLink d links since port hop told mid t.connected.lines
    taken_on = elim (t.channels) [
      | inl flow ↦ absurd (flow.0 ahead.takes.for_link)
      | inr own ↦ own
    ]

    abbrev piece : (cause : Option Cause) × TakesPiece m links port hop.pdu cause taken_on.dropped m' t.connected.lines
    piece = took_piece told taken_on.dropped m' t.connected.lines taken_on.takes

    -- the link is live still
    on_live : (process : Process) (offs : List Off) → slice_get (seen_of d).processes at ≡ Some process → HasLive (with_process (seen_of d) at (with_offs process offs)).processes at number attached.port
    on_live process offs is =
        let same : live_there.process ≡ process = same_Some live_there.process process (sym live_there.is_process ∙ is) in
        record {
          process = with_offs process offs;
          is_process = slice_get-set_same (seen_of d).processes at process (with_offs process offs) is;
          place = live_there.place;
          link = live_there.link;
          stands = ap (λ (p : Process). slice_get p.links live_there.place) (sym same) ∙ live_there.stands;
          live = live_there.live;
          number_is = live_there.number_is;
          port_is = live_there.port_is;
        }

    still_live : HasLive (seen_of mid).processes at number attached.port
    still_live =
        let p = has_process d below at (lines, h) lt in
        let here = is_here d at p.0 lt p.1 in
        elim (t.settled here.member (process_of p.0) here.process) [
          | inl flow ↦ absurd (flow.0 ahead.takes.for_link.0 ahead.takes.for_link.1)
          | inr own ↦ subst (λ (z : DifSeen). HasLive z.processes at number attached.port) (sym own.new_is) (on_live (process_of p.0) (own.dropped ++ lines_for hop.pdu (cause_told told)) here.process.is_process)
        ]

    -- what came is handled
    agent : (g : Management) × (slice_get d.managements at ≡ Some g)
    agent = has_agent d lines below at lt h

    told_bodies : (bodies : List (List ℕ)) × IsToldAhead d w.place ahead.its bodies × HandlesInTurn d.clock number (unpassed_sdus end ++ bodies) agent.0 (or_same agent.0 (told_of w.change))
    told_bodies = ahead.handles agent.0 end agent.1 on.takes.is_conn.end

    more : (e : End) × At m.ends w.place e × HasMore m.ends m'.ends w.place told_bodies.0 e
    more = piece_brings d at since port hop lines below h kept o ahead.takes.for_link w.place ahead.its told_bodies.0 piece.0 taken_on.dropped m' t.connected.lines ahead.takes.piece ahead.takes.taker told_bodies.1 piece.1

    has_more : HasMore m.ends m'.ends w.place told_bodies.0 end
    has_more = subst (λ (e : End). HasMore m.ends m'.ends w.place told_bodies.0 e) (same_Some more.0 end (sym more.1 ∙ on.takes.is_conn.end)) more.2

    abbrev its_end : End
    its_end = record end { got = has_more.got }

    end_there : At m'.ends w.place its_end
    end_there = ap (λ (es : List End). slice_get es w.place) has_more.is ∙ slice_get-set_same m.ends w.place end its_end on.takes.is_conn.end

    turns : HandlesInTurn d.clock number (unpassed_sdus its_end) agent.0 (or_same agent.0 (told_of w.change))
    turns =
        let passed = (h.connected.standing.journal.whole w.place end on.takes.is_conn.end).taken in
        subst (λ (sdus : List (List ℕ)). HandlesInTurn d.clock number sdus agent.0 (or_same agent.0 (told_of w.change))) (sym (more_unpassed m.ends m'.ends w.place told_bodies.0 end has_more passed)) told_bodies.2

    here : IsLinkEnd mid at w.place number
    here = record {
      channel = channel;
      stands = ap (λ (z : ChannelsSeen). slice_get z.channels w.place) piece.1.new_is ∙ on.stands;
      member = matched.0;
      live = record {
        link = attached;
        link_is = on.on_port.link_is;
        live = subst (λ (i : ℕ). HasLive (seen_of mid).processes i attached.number attached.port) (sym matched.0) (subst (λ (n : ℕ). HasLive (seen_of mid).processes at n attached.port) (sym matched.1) still_live);
      };
      number_is = sym matched.1;
      end = its_end;
      is_end = end_there;
      allocated = on.takes.allocated;
    }

    pub is_handled : IsHandled mid at number w
    is_handled = record {
      here = here;
      handles = λ g e is_g is_e.
          subst (λ (x : Management). HandlesInTurn d.clock number (unpassed_sdus e) x (or_same x (told_of w.change))) (same_Some agent.0 g (sym agent.1 ∙ is_g))
          (subst (λ (x : End). HandlesInTurn d.clock number (unpassed_sdus x) agent.0 (or_same agent.0 (told_of w.change))) (same_Some its_end e (sym end_there ∙ is_e)) turns);
      changes = changes_on d mid at w.change refl refl ahead.changes;
    }

-- where there was something to handle
brought_some : (d : Dif) (at number since : ℕ) (port : Port) (hop : Hop) (lines : List Direction) (below : Seen) → Holds d lines below → AreKept below → IsOldest (config_of d.settings) below port since hop → IsThere (seen_of d) below since hop → at < length d.settings.members → HasLive (seen_of d).processes at number port
    → (told : Took) (taken : Dif) → TakesFor d at since port hop (Ok told) taken → taken ≡ record d { processes = taken.processes; flows = taken.flows; connections = taken.connections } → (w : Handled) → BringsAhead d at number since port hop w → IsHandled taken at number w
brought_some d at number since port hop lines below h kept o there lt live told taken takes whole w ahead =
    let z : Dif = record d { processes = taken.processes; flows = taken.flows; connections = taken.connections } in
    let t : HasTaken d lines h.connected.lines below at since port hop told z = subst (λ (y : Dif). HasTaken d lines h.connected.lines below at since port hop told y) whole (takes lines below h kept there o) in
    subst (λ (y : Dif). IsHandled y at number w) (sym whole) (is_handled d at number since port hop lines below h kept o lt live w ahead told taken.processes taken.flows taken.connections t)

pub brought : (d : Dif) (at number since : ℕ) (port : Port) (hop : Hop) (lines : List Direction) (below : Seen) → Holds d lines below → AreKept below → IsOldest (config_of d.settings) below port since hop → IsThere (seen_of d) below since hop → at < length d.settings.members → HasLive (seen_of d).processes at number port
    → (told : Took) (taken : Dif) → TakesFor d at since port hop (Ok told) taken → taken ≡ record d { processes = taken.processes; flows = taken.flows; connections = taken.connections } → (found : Option Handled) → MayBring d at number since port hop found → IfSome found (IsHandled taken at number)
brought d at number since port hop lines below h kept o there lt live told taken takes whole (Some w) ahead = brought_some d at number since port hop lines below h kept o there lt live told taken takes whole w ahead
brought d at number since port hop lines below h kept o there lt live told taken takes whole None none = tt
