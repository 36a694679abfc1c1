-- A DIF holds as the end of a management connection closes, and whatever its management connections make.
use Rattle.std.proofs.Common.{◌≡◌, ◌≢◌, ◌∙◌, ℕ, ◌+◌, ◌<◌, ◌≤◌, List, [], ◌++◌, append-nil, length, map, slice_get, slice_set, Option, Some, None, refl, sym, ap, subst, arith, inl, inr, false}
use Rattle.std.specs.Prelude.{IfSome}
use Rattle.std.proofs.lemmas.List.{append_cancel_left}
use Rattle.std.proofs.lemmas.Option.{slice_get_within}
use Rattle.rina_account.specs.declared.ledger.Off.{Off}
use Rattle.rina_base.specs.declared.cause.Cause.{Cause}
use Rattle.rina_base.specs.declared.cause.Cause.TheVariants as causes
use Rattle.rina_base.specs.declared.number.Key.{Key}
use Rattle.rina_base.specs.declared.number.Port.{Port}
use Rattle.rina_conn.specs.declared.conn.Conn.{Conn}
use Rattle.rina_cube.specs.declared.Cube.{Cube}
use Rattle.rina_iface.specs.declared.ends.End.{End}
use Rattle.rina_iface.specs.declared.state.PortState.{PortState}
use Rattle.rina_iface.specs.declared.state.PortState.TheVariants.{Allocated, Closed}
use Rattle.rina_iface.specs.Later.{Moves}
use Rattle.rina_iface.specs.Seen.{Seen}
use Rattle.rina_iface.proofs.Changed.{slice_set-same}
use Rattle.rina_law.specs.Direction.{Direction}
use Rattle.rina_law.specs.Lists.{In}
use Rattle.rina_data.specs.declared.link.Link.{Link}
use Rattle.rina_data.specs.declared.process.IpcProcess.{IpcProcess}
use Rattle.rina_data.specs.Configs.{Config, config_of}
use Rattle.rina_data.specs.Deciding.{process_of, queue_settings}
use Rattle.rina_data.specs.Process.{Process, with_offs}
use Rattle.rina_data.proofs.Finding.{there}
use Rattle.rina_dif_law.specs.Dif.{DifSeen, with_process}
use Rattle.rina_dif_law.specs.Ids.{Ids}
use Rattle.rina_dif_law.specs.Written.{AreWrittenOff, WasLawful}
use Rattle.rina_dif_law.proofs.Finding.{beside}
use Rattle.rina_dif_law.proofs.Own.{partner_back}
use Rattle.rina_dif_law.proofs.Writing.{ports_same, process_noted, written_on}
use Rattle.rina_flows.specs.declared.flows.Flows.{Flows}
use Rattle.rina_dtp.specs.Receiving.{kept_numbers}
use Rattle.rina_flows.specs.Calls.{Tells}
use Rattle.rina_flows.specs.Ending.{EndsAt}
use Rattle.rina_flows.specs.Tied.{IsInboundAt, conns_of}
use Rattle.rina_channel.specs.Channels.{ChannelsSeen}
use Rattle.rina_channel.specs.FlowLaws.{AreLinesOfLinks, FlowsStand, NotesLinks, ServesLinks}
use Rattle.rina_channel.specs.Ledgers.{HasStoppedOn, unnamed_line}
use Rattle.rina_channel.specs.Names.{link_config}
use Rattle.rina_channel.proofs.Calls.{calls_change_ends}
use Rattle.rina_channel.proofs.Flows.{links_leave_flows}
use Rattle.rina_channel.proofs.Kept.{ended_stands}
use Rattle.rina_channel.proofs.Rows.{in_map}
use Rattle.rina_channel.specs.Standing.{IsStanding}
use Rattle.rina_channel.proofs.Noting.{ending_notes_links, noting_leaves_links}
use Rattle.rina_dif.specs.declared.connections.Connections.{Connections}
use Rattle.rina_dif.specs.declared.dif.Dif.{Dif}
use Rattle.rina_dif.specs.Closing.{ClosesIn, ClosesOn, FindsOpen, IsHeldThere, IsOpenOn, NoneOpenOn, held_at, kept_by}
use Rattle.rina_dif.specs.Connected.{AreConnected, channels_seen}
use Rattle.rina_dif.specs.Holding.{Holds}
use Rattle.rina_dif.specs.Shown.{seen_of}
use Rattle.rina_dif.proofs.Causing.{process_caused}
use Rattle.rina_dif.proofs.Keeping.{IsSameHouse, home_set, kept_house}
use Rattle.rina_dif.proofs.Leaves.{shown_at, stepped}
use Rattle.rina_dif.proofs.Flooding.{SameTexts, said_floods, set_said}
use Rattle.rina_dif.specs.Flooding.{AreFlooding}
use Rattle.rina_dif.proofs.LinkEnds.{live_floods}
use Rattle.rina_dif.proofs.NamedByPlace.{named_set}

-- Whatever an end of a link makes

-- the flows of a DIF stand
pub flows_stand : (d : Dif) (lines : List Direction) (below : Seen) → Holds d lines below → FlowsStand (seen_of d) lines below
flows_stand d lines below h = record { zero = h.connected.may.zero; stands = h.standing; numbered = h.numbered; carrying = h.carrying; accounted = h.accounted }

-- PDUs or lines of links are at an IPC process, and the management connections go on to stand
pub served_holds : (d : Dif) (lines : List Direction) (below : Seen) (i : ℕ) (p p' : IpcProcess) (c' : Connections) → c'.manage ≡ d.connections.manage → Holds d lines below → slice_get d.processes i ≡ Some p → queue_settings p' ≡ queue_settings p → IsSameHouse (process_of p) (process_of p') → ServesLinks (config_of d.settings) d.clock (seen_of d).processes (slice_set (seen_of d).processes i (process_of p'))
    → AreWrittenOff (with_process (seen_of d) i (process_of p')) → AreConnected (config_of d.settings) d.clock c' (slice_set (seen_of d).processes i (process_of p')) below → (d.failed ≡ false → AreFlooding (record d { connections = c' })) → Holds (record d { connections = c'; processes = slice_set d.processes i p' }) lines below
served_holds d lines below i p p' c' manage h is room same serves written connected floods =
    let ps : List IpcProcess = slice_set d.processes i p' in
    let e : Dif = record d { connections = c'; processes = ps } in
    let seen : seen_of e ≡ with_process (seen_of d) i (process_of p') = ap (λ (m : Cube). record (seen_of (record d { processes = ps })) { manage = m }) manage ∙ stepped d i p' ps refl in
    let stand : FlowsStand (with_process (seen_of d) i (process_of p')) lines below = links_leave_flows (seen_of d) lines below (slice_set (seen_of d).processes i (process_of p')) (flows_stand d lines below h) serves in
    let stand' : FlowsStand (seen_of e) lines below = subst (λ (z : DifSeen). FlowsStand z lines below) (sym seen) stand in
    let house = home_set d lines below i p p' ps h is room same refl in
    record {
      tied = h.tied;
      standing = stand'.stands;
      carrying = stand'.carrying;
      numbered = stand'.numbered;
      accounted = stand'.accounted;
      caused = process_caused (seen_of d) (seen_of e) below i (process_of p') seen h.caused;
      written_off = subst AreWrittenOff (sym seen) written;
      housed = house.housed;
      managed = house.managed;
      enrolled = h.enrolled;
      connected = subst (λ (z : DifSeen). AreConnected (config_of d.settings) d.clock c' z.processes below) (sym seen) connected;
      flooded = λ alive. live_floods (record d { connections = c' }) ps house.live (floods alive);
    }

-- How many pieces an end holds

pub held_is : (flows : Flows) (place n : ℕ) → place < length flows.conns → Tells (λ (k : Conn). n ≡ length (kept_numbers k.rx)) place flows.conns → n ≡ held_at (Some place) flows
held_is flows place n lt tells = (let k = there flows.conns place lt in tells k.0 k.1 ∙ sym (ap kept_by k.1))

-- The open end is there

pub open_end : (c : Connections) (port : Port) (end : Option ℕ) → FindsOpen c port end → IfSome end (λ place. place < length c.flows.journal.ends)
open_end c port (Some place) is_open = slice_get_within c.flows.journal.ends place is_open.end is_open.is_end
open_end c port None none = tt

pub open_conn : (c : Connections) (port : Port) (end : Option ℕ) → length c.flows.conns ≡ length c.flows.journal.ends → FindsOpen c port end → IfSome end (λ place. place < length c.flows.conns)
open_conn c port (Some place) alike is_open = (let lt = slice_get_within c.flows.journal.ends place is_open.end is_open.is_end in omega (arith, lt, alike))
open_conn c port None alike none = tt

-- The end of a link that is lost closes

-- the DIF once these are its management connections, and this is the ledger of an IPC process
abbrev pub with_closed : Dif → ℕ → IpcProcess → Flows → List Off → Dif
with_closed d i p flows ledger = record d { connections = record d.connections { flows = flows }; processes = slice_set d.processes i (record p { ledger = ledger }) }

pub record HasClosed (d : Dif) (lines : List Direction) (below : Seen) (i : ℕ) (p : IpcProcess) (port : Port) (flows : Flows) (ledger : List Off) (more : ℕ) : Type 0 where
  pub offs : List Off
  pub closes : (links : AreConnected (config_of d.settings) d.clock d.connections (seen_of d).processes below) → ClosesOn (config_of d.settings) d.clock links.lines port offs d.connections (record d.connections { flows = flows })
  pub ledger_is : ledger ≡ p.ledger ++ offs
  pub few : length ledger ≤ length p.ledger + more
  pub holds : Holds (with_closed d i p flows ledger) lines below

-- no end is open
none_closed : (d : Dif) (lines : List Direction) (below : Seen) (i : ℕ) (p : IpcProcess) (port : Port) (flows : Flows) (ledger : List Off) → Holds d lines below → slice_get d.processes i ≡ Some p → NoneOpenOn d.connections port → flows ≡ d.connections.flows → ledger ≡ p.ledger → HasClosed d lines below i p port flows ledger 0
none_closed d lines below i p port flows ledger h is none same kept =
    let processes : slice_set d.processes i (record p { ledger = ledger }) ≡ d.processes = ap (λ (z : List Off). slice_set d.processes i (record p { ledger = z })) kept ∙ slice_set-same d.processes i p is in
    let whole : with_closed d i p flows ledger ≡ d = ap (λ (qs : List IpcProcess). record d { connections = record d.connections { flows = flows }; processes = qs }) processes ∙ ap (λ (z : Flows). record d { connections = record d.connections { flows = z } }) same in
    let count : length ledger ≡ length p.ledger = ap (λ (xs : List Off). length xs) kept in
    record {
      offs = [];
      closes = λ links. inr (none, refl, ap (λ (z : Flows). record d.connections { flows = z }) same);
      ledger_is = kept ∙ sym (append-nil p.ledger);
      few = omega (arith, count);
      holds = subst (λ (z : Dif). Holds z lines below) (sym whole) h;
    }

closed_other : Closed ≢ Allocated
closed_other e = absurd cc

moves_closed : (state : PortState) → state ≡ Allocated → Moves state Closed
moves_closed state is = subst (λ (s : PortState). Moves s Closed) (sym is) tt

-- what its lines say: its connection held the pieces
pub lines_held : (g : Config) (now : ℕ) (c : Connections) (ps : List Process) (below : Seen) (a : AreConnected g now c ps below) (place : ℕ) (held : List Off) (ends' : List End) → EndsAt c.flows.journal.ends (conns_of c.flows.conns) a.lines place Closed held ends' → (off : Off) → In off (map unnamed_line held) → IsHeldThere c a.lines place off
lines_held g now c ps below a place held ends' e off one =
    let journal = a.standing.journal in
    let partner = journal.allocated place e.end e.is_conn.end e.allocated in
    let line = beside c.flows.journal.ends a.lines partner.place partner.other a.tied.lines_alike partner.stands in
    let inbound : IsInboundAt c.flows.journal.ends a.lines e.end partner.place line.0 = record { partner = partner.other; is_partner = partner.stands; partners = partner_back e.end partner.other partner.partner; is_line = line.1 } in
    let was = in_map unnamed_line held off one in
    record { end = e.end; ids = e.its_ids; is_conn = e.is_conn; from = partner.place; line = line.0; inbound = inbound; was = was.0; held = e.offs_are was.0 partner.place line.0 was.1 inbound; off_is = was.2 }

-- that there is no connection is true of any line
abbrev IsUnconnected : ℕ → Off → Type 0
IsUnconnected i off = (cep : ℕ) × (off.cause ≡ causes.NoConnection cep)

unconnected_lawful : (g : Config) (now : ℕ) (ends : List End) (conns : List Ids) (addr : ℕ) (links : List Link) (key : Key) (cause : Cause) (cep : ℕ) → cause ≡ causes.NoConnection cep → WasLawful g now ends conns addr links key cause
unconnected_lawful g now ends conns addr links key cause cep is = subst (WasLawful g now ends conns addr links key) (sym is) tt

lines_lawful : (d : DifSeen) (i : ℕ) (p : Process) (offs : List Off) → slice_get d.processes i ≡ Some p → ((off : Off) → In off offs → IsUnconnected i off) → AreWrittenOff d → AreWrittenOff (with_process d i (with_offs p offs))
lines_lawful d i p offs is each w =
    written_on IsUnconnected d (with_process d i (with_offs p offs)) (process_noted IsUnconnected d (with_process d i (with_offs p offs)) i p (with_offs p offs) offs refl is refl each (ports_same p.links p.links refl)) (λ j off u member process q. inl (unconnected_lawful d.config d.clock d.ends d.conns member.addr process.links off.key off.cause u.0 u.1)) w

-- one is
one_closed : (d : Dif) (lines : List Direction) (below : Seen) (i : ℕ) (p : IpcProcess) (port : Port) (place : ℕ) (flows : Flows) (ledger : List Off) (room : ℕ) → Holds d lines below → slice_get d.processes i ≡ Some p → IsOpenOn d.connections port place → length p.ledger + held_at (Some place) d.connections.flows ≤ room → ClosesIn d.clock (Some place) d.connections.flows p.ledger room flows ledger → HasClosed d lines below i p port flows ledger (held_at (Some place) d.connections.flows)
one_closed d lines below i p port place flows ledger room h is is_open fits closes =
    let g : Config = config_of d.settings in
    let c : Connections = d.connections in
    let c' : Connections = record c { flows = flows } in
    let m : ChannelsSeen = channels_seen g d.clock c in
    let had = h.connected in
    let within = slice_get_within c.flows.journal.ends place is_open.end is_open.is_end in
    let alike = had.tied.alike in
    let k = there c.flows.conns place (omega (arith, within, alike)) in
    let held : held_at (Some place) c.flows ≡ kept_by (Some k.0) = ap kept_by k.1 in
    let stop : (lines : List Direction) (a : AreConnected g d.clock c (seen_of d).processes below) → HasStoppedOn (link_config g c.manage) d.clock place Closed c.flows p.ledger a.lines flows ledger (kept_by (Some k.0)) = λ lines a.
    closes (link_config g c.manage) a.lines is_open.end k.0 a.standing.journal a.tied is_open.is_end is_open.allocated (moves_closed is_open.end.state is_open.allocated) closed_other k.1 (omega (arith, fits, held)) in
    let s = stop lines had in
    let few = s.few in
    let offs : List Off = map unnamed_line s.offs in
    let noted : process_of (record p { ledger = ledger }) ≡ with_offs (process_of p) offs = ap (λ (z : List Off). record (process_of p) { ledger = z }) s.ledger_is in
    let ps' : List Process = slice_set (seen_of d).processes i (process_of (record p { ledger = ledger })) in
    let notes : NotesLinks (seen_of d).processes i ps' = record { process = process_of p; is_process = shown_at d i p is; offs = offs; of_links = ending_notes_links m had.lines (seen_of d).processes below place Closed s.offs flows.journal.ends had.standing s.stops; new_is = ap (slice_set (seen_of d).processes i) noted } in
    let leaves = noting_leaves_links (seen_of d).processes i ps' notes in
    let ended = ended_stands m had.lines (seen_of d).processes ps' below place Closed s.offs flows.journal.ends had.standing s.stops leaves in
    let standing = subst (λ (z : ChannelsSeen). IsStanding z had.lines ps' below) (sym (calls_change_ends g c.manage d.clock c.channels c.flows flows s.ids)) ended in
    let connected : AreConnected g d.clock c' ps' below = record { may = had.may; lines = had.lines; tied = s.tied; standing = standing; paired = had.paired; named = named_set c.flows.journal.ends flows.journal.ends place s.stops.end (record s.stops.end { state = Closed }) s.stops.is_conn.end refl s.stops.ends_are had.named; each = λ j n q live. had.each j n q (leaves.live j n q live) } in
    let said : SameTexts c.flows.journal.ends flows.journal.ends = subst (SameTexts c.flows.journal.ends) (sym s.stops.ends_are) (set_said c.flows.journal.ends place s.stops.end (record s.stops.end { state = Closed }) s.stops.is_conn.end refl refl) in
    record {
      offs = offs;
      closes = λ links. (
          let x = stop lines links in
          let same : offs ≡ map unnamed_line x.offs = append_cancel_left p.ledger offs (map unnamed_line x.offs) (sym s.ledger_is ∙ x.ledger_is) in
          inl (place, is_open, record { held = x.offs; offs_are = same; ends = x.stops; ids = x.ids; tied = x.tied; same = refl }));
      ledger_is = s.ledger_is;
      few = omega (arith, few, held);
      holds = served_holds d lines below i p (record p { ledger = ledger }) c' refl h is refl (kept_house _ _ refl refl refl) (i, inr notes) (subst (λ (z : Process). AreWrittenOff (with_process (seen_of d) i z)) (sym noted) (lines_lawful (seen_of d) i (process_of p) offs (shown_at d i p is) (λ off one. (let x = lines_held g d.clock c (seen_of d).processes below had place s.offs flows.journal.ends s.stops off one in (x.ids.scep, ap (λ (z : Off). z.cause) x.off_is ∙ x.held.4))) h.written_off)) connected (λ alive. said_floods d flows said (h.flooded alive));
    }

pub link_closed : (d : Dif) (lines : List Direction) (below : Seen) (i : ℕ) (p : IpcProcess) (port : Port) (end : Option ℕ) (flows : Flows) (ledger : List Off) (room : ℕ) → Holds d lines below → slice_get d.processes i ≡ Some p → FindsOpen d.connections port end → length p.ledger + held_at end d.connections.flows ≤ room → ClosesIn d.clock end d.connections.flows p.ledger room flows ledger → HasClosed d lines below i p port flows ledger (held_at end d.connections.flows)
link_closed d lines below i p port (Some place) flows ledger room h is is_open fits closes = one_closed d lines below i p port place flows ledger room h is is_open fits closes
link_closed d lines below i p port None flows ledger room h is none fits closes = none_closed d lines below i p port flows ledger h is none closes.0 closes.1

-- What closing writes, whichever directions stand behind the connections

pub closes_lines : (g : Config) (now : ℕ) (c c' : Connections) (ps : List Process) (below : Seen) (a : AreConnected g now c ps below) (port : Port) (offs : List Off) → ClosesOn g now a.lines port offs c c' → AreLinesOfLinks offs
closes_lines g now c c' ps below a port offs (inl x) = subst AreLinesOfLinks (sym x.2.offs_are) (ending_notes_links (channels_seen g now c) a.lines ps below x.0 Closed x.2.held c'.flows.journal.ends a.standing x.2.ends)
closes_lines g now c c' ps below a port offs (inr none) = λ off one. absurd (subst (In off) none.1 one)

-- a piece that is written off was held by the connection of the open end
pub record WasHeld (c : Connections) (lines : List Direction) (port : Port) (off : Off) : Type 0 where
  pub place : ℕ
  pub is_open : IsOpenOn c port place
  pub held : IsHeldThere c lines place off

pub closes_held : (g : Config) (now : ℕ) (c c' : Connections) (ps : List Process) (below : Seen) (a : AreConnected g now c ps below) (port : Port) (offs : List Off) → ClosesOn g now a.lines port offs c c' → (off : Off) → In off offs → WasHeld c a.lines port off
closes_held g now c c' ps below a port offs (inl x) off one = record { place = x.0; is_open = x.1; held = lines_held g now c ps below a x.0 x.2.held c'.flows.journal.ends x.2.ends off (subst (In off) x.2.offs_are one) }
closes_held g now c c' ps below a port offs (inr none) off one = absurd (subst (In off) none.1 one)

-- the flows of a DIF stand after lines of links were written
pub noted_stand : (d : DifSeen) (lines : List Direction) (below : Seen) (i : ℕ) (p : Process) (offs : List Off) → slice_get d.processes i ≡ Some p → AreLinesOfLinks offs → FlowsStand d lines below → FlowsStand (with_process d i (with_offs p offs)) lines below
noted_stand d lines below i p offs is of h = links_leave_flows d lines below (slice_set d.processes i (with_offs p offs)) h (i, inr (record { process = p; is_process = is; offs = offs; of_links = of; new_is = refl }))
