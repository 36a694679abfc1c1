-- A management connection writes off what it holds of a state that has ended, and the DIF holds.
use Rattle.std.proofs.Common.{◌≡◌, ◌∙◌, ℕ, ◌+◌, ◌*◌, ◌<◌, ◌≤◌, Bool, true, false, cond, List, [], append-nil, length, map, slice_get, slice_set, Some, None, Ok, Err, refl, sym, ap, subst, arith, inr}
use Rattle.rina_account.specs.declared.ledger.Off.{Off}
use Rattle.rina_base.specs.declared.memory.Memory.{Memory}
use Rattle.rina_cube.specs.declared.Cube.{Cube}
use Rattle.rina_cube.specs.Cubes.{delta_of}
use Rattle.rina_iface.specs.Seen.{Seen}
use Rattle.rina_iface.proofs.Changed.{slice_set-same}
use Rattle.rina_law.specs.Constants.{Constants}
use Rattle.rina_law.specs.Direction.{Direction}
use Rattle.rina_law.specs.Lists.{In}
use Rattle.rina_law.proofs.Standing.{absent_after}
use Rattle.rina_data.specs.declared.process.IpcProcess.{IpcProcess}
use Rattle.rina_data.specs.Configs.{config_of}
use Rattle.rina_data.specs.Deciding.{process_of}
use Rattle.rina_data.specs.Process.{Process, with_offs}
use Rattle.rina_dif_law.specs.Dif.{DifSeen, constants, with_process}
use Rattle.rina_dif_law.specs.Ids.{flipped}
use Rattle.rina_dif_law.specs.OnLinks.{IsLinkCause, IsLinkLine}
use Rattle.rina_dif_law.specs.Written.{AreWrittenOff}
use Rattle.rina_dif_law.proofs.Own.{journals}
use Rattle.rina_dif_law.proofs.Writing.{ports_same, process_noted, written_on}
use Rattle.rina_flows.specs.declared.due.Item.TheVariants.{Gone}
use Rattle.rina_flows.specs.declared.flows.Flows.{Flows}
use Rattle.rina_flows.specs.Delivering.{HasGone}
use Rattle.rina_flows.specs.Delivering.{ForgetsIn as ForgetsThere}
use Rattle.rina_flows.specs.Ending.{ForgetsAt}
use Rattle.rina_channel.specs.Channels.{ChannelsSeen}
use Rattle.rina_channel.specs.FlowLaws.{NotesLinks}
use Rattle.rina_channel.specs.Ledgers.{unnamed_from, unnamed_line}
use Rattle.rina_channel.specs.Names.{link_config}
use Rattle.rina_channel.specs.Rows.{config_of as config_on}
use Rattle.rina_channel.specs.Standing.{IsStanding}
use Rattle.rina_channel.proofs.Kept.{forgotten_stands}
use Rattle.rina_channel.proofs.Noting.{far_zero, forgetting_notes_links, noting_leaves_links}
use Rattle.rina_channel.proofs.Rows.{in_map}
use Rattle.rina_dif.specs.declared.dif.Dif.{Dif}
use Rattle.rina_dif.specs.Connected.{AreConnected, channels_seen}
use Rattle.rina_dif.specs.Elsewhere.{ChangesProcess}
use Rattle.rina_dif.specs.Holding.{Holds, LinksStand, Stands}
use Rattle.rina_dif.specs.LinkDue.{IsLinkDue, IsLinkEnd}
use Rattle.rina_dif.specs.LinkSteps.{ForgetsIn as ForgetsOn, ForgetsLink}
use Rattle.rina_dif.specs.Shown.{seen_of}
use Rattle.rina_dif.specs.Timely.{WithLedger}
use Rattle.rina_dif.proofs.Flooding.{journal_floods}
use Rattle.rina_dif.proofs.Closing.{served_holds}
use Rattle.rina_dif.proofs.Elsewhere.{by_process}
use Rattle.rina_dif.proofs.Leaves.{has_process, shown_at, stepped}
use Rattle.rina_dif.proofs.OnLinks.{unnamed_more}
use Rattle.rina_dif.proofs.Keeping.{kept_house}
use Rattle.rina_dif.proofs.Served.{same_channels, with_served}
use Rattle.rina_dif.proofs.NamedByPlace.{named_journal}

-- The lines that it writes

cube_there : (b : Bool) (x y : Cube) → cond b (Some x) None ≡ Some y → y ≡ x
cube_there true x y h = cc
cube_there false x y h = absurd cc

-- they are lines of the link
pub gone_lines : (m : ChannelsSeen) (lines : List Direction) (ps : List Process) (below : Seen) (k : ℕ) (offs : List Off) (lines' : List Direction) → IsStanding m lines ps below → ForgetsAt (config_on m) m.ends m.ids lines k offs lines' → (off : Off) → In off (map unnamed_line offs) → IsLinkLine m.manage m.clock off
gone_lines m lines ps below k offs lines' st f off one =
    let x = in_map unnamed_line offs off one in
    let held = f.offs_are x.0 x.1 in
    let zero = far_zero m lines ps below k f.its_ids st f.place.is_conn.ids_are in
    let cube_is : f.cube ≡ m.manage = cube_there _ m.manage f.cube f.place.is_cube in
    let clock : f.line.line.clock ≡ m.clock = (journals (config_on m) m.clock _ [] m.ends m.ids lines st.own f.from k f.inbound.partner f.end f.line f.inbound.is_partner f.place.is_conn.end f.inbound.is_line f.inbound.partners).clock in
    let c : Constants = constants (config_on m) f.cube (flipped f.its_ids) in
    let last : ℕ = f.line.line.receiver.last_in in
    let gone : last + 2 * delta_of f.cube ≤ f.line.line.clock = absent_after c f.line.line.clock f.line.line.receiver f.gone (f.made x.0 x.1) in
    let now : last + 2 * delta_of m.manage ≤ m.clock = subst (λ (z : Cube). last + 2 * delta_of z ≤ m.clock) cube_is (omega (arith, gone, clock)) in
    let line : Off = unnamed_line x.0 in
    let why : IsLinkCause m.manage m.clock line.key line.cause = subst (IsLinkCause m.manage m.clock line.key) (sym held.4) (held.0, now) in
    subst (IsLinkLine m.manage m.clock) (sym x.2) (record { src = refl; scep = held.2 ∙ zero; why = why })

link_lines_lawful : (d : DifSeen) (i : ℕ) (p p' : Process) (offs : List Off) → slice_get d.processes i ≡ Some p → p' ≡ with_offs p offs → ((off : Off) → In off offs → IsLinkLine d.manage d.clock off) → AreWrittenOff d → AreWrittenOff (with_process d i p')
link_lines_lawful d i p p' offs is new each w =
    let Line : ℕ → Off → Type 0 = λ k off. IsLinkLine d.manage d.clock off in
    subst (λ (z : Process). AreWrittenOff (with_process d i z)) (sym new) (written_on Line d (with_process d i (with_offs p offs)) (process_noted Line d (with_process d i (with_offs p offs)) i p (with_offs p offs) offs refl is refl each (ports_same p.links p.links refl)) (λ j off line member process q. inr line) w)

-- What is done

module _ (d : Dif) (below : Seen) (i place number : ℕ) (flows : Flows) (p : IpcProcess) (between ledger : List Off) (here : IsLinkEnd d i place number) (is : slice_get d.processes i ≡ Some p) (does : ForgetsThere d.clock place d.connections.flows p.ledger (Ok true) flows between) (unnamed : ledger ≡ unnamed_from (length p.ledger) between) (links : LinksStand d below) where
  abbrev m : ChannelsSeen
  m = channels_seen (config_of d.settings) d.clock d.connections

  abbrev p' : IpcProcess
  p' = record p { ledger = ledger }

  abbrev ps' : List Process
  ps' = slice_set (seen_of d).processes i (process_of p')

  gone : HasGone (link_config (config_of d.settings) d.connections.manage) d.clock place d.connections.flows p.ledger links.lines flows between
  gone = does.1 (link_config (config_of d.settings) d.connections.manage) links.lines here.end links.standing.journal links.tied here.is_end here.allocated

  noted : process_of p' ≡ with_offs (process_of p) (map unnamed_line gone.offs)
  noted = ap (λ (zs : List Off). record (process_of p) { ledger = zs }) (unnamed ∙ ap (unnamed_from (length p.ledger)) gone.ledger_is ∙ unnamed_more p.ledger gone.offs)

  pub gone_notes : NotesLinks (seen_of d).processes i ps'
  gone_notes = record {
    process = process_of p;
    is_process = shown_at d i p is;
    offs = map unnamed_line gone.offs;
    of_links = forgetting_notes_links m links.lines (seen_of d).processes below place gone.offs gone.lines' links.standing gone.forgets;
    new_is = ap (slice_set (seen_of d).processes i) noted;
  }

  pub gone_connected : AreConnected (config_of d.settings) d.clock (record d.connections { flows = flows }) ps' below
  gone_connected = record {
    may = links.may;
    lines = gone.lines';
    tied = gone.tied;
    standing = subst (λ (z : ChannelsSeen). IsStanding z gone.lines' ps' below) (sym (same_channels (config_of d.settings) d.connections.manage d.clock d.connections.channels d.connections.flows flows gone.ids gone.same))
        (forgotten_stands m links.lines (seen_of d).processes ps' below place gone.offs gone.lines' links.standing gone.forgets (noting_leaves_links (seen_of d).processes i ps' gone_notes));
    paired = links.paired;
    named = named_journal d.connections.flows flows gone.same links.named;
    each = λ j n q live. links.each j n q ((noting_leaves_links (seen_of d).processes i ps' gone_notes).live j n q live);
  }

  pub gone_written : AreWrittenOff (seen_of d) → AreWrittenOff (with_process (seen_of d) i (process_of p'))
  gone_written = link_lines_lawful (seen_of d) i (process_of p) (process_of p') (map unnamed_line gone.offs) (shown_at d i p is) noted (gone_lines m links.lines (seen_of d).processes below place gone.offs gone.lines' links.standing gone.forgets)

  pub gone_does : ForgetsLink d links.lines i place (seen_of (with_served d flows (slice_set d.processes i p'))) flows
  gone_does = record {
    links' = gone.lines';
    held = gone.offs;
    forgets = gone.forgets;
    process = process_of p;
    is_process = shown_at d i p is;
    written = stepped d i p' (slice_set d.processes i p') refl ∙ ap (with_process (seen_of d) i) noted;
    behind = record { journal = gone.same; ids = gone.ids; tied = gone.tied };
  }

pub forgets_link : (d : Dif) (i place number : ℕ) (b : Bool) (flows : Flows) (ps : List IpcProcess) → i < length d.settings.members → ((below : Seen) (links : LinksStand d below) → IsLinkDue Gone d links.lines i place number) → WithLedger (λ f l f' l'. ForgetsOn d.clock place f l (Ok b) f' l') i d.connections.flows d.processes flows ps
    → (lines : List Direction) (below : Seen) → Holds d lines below → ((links : LinksStand d below) → ForgetsLink d links.lines i place (seen_of (with_served d flows ps)) flows) × Holds (with_served d flows ps) lines below
forgets_link d i place number true flows ps lt due does lines below h =
    let here = (due below h.connected).here in
    let p = has_process d below i (lines, h) lt in
    let x = does p.0 p.1 in
    let f = x.1 in
    let new : IpcProcess = record p.0 { ledger = x.0 } in
    let connected = gone_connected d below i place number flows p.0 f.between x.0 here p.1 f.forgets f.unnamed h.connected in
    let notes = gone_notes d below i place number flows p.0 f.between x.0 here p.1 f.forgets f.unnamed h.connected in
    let written = gone_written d below i place number flows p.0 f.between x.0 here p.1 f.forgets f.unnamed h.connected h.written_off in
    let holds : Holds (with_served d flows (slice_set d.processes i new)) lines below = served_holds d lines below i p.0 new (record d.connections { flows = flows }) refl h p.1 refl (kept_house _ _ refl refl refl) (i, inr notes) written connected (λ alive. journal_floods d flows (gone_does d below i place number flows p.0 f.between x.0 here p.1 f.forgets f.unnamed h.connected).behind.journal (h.flooded alive)) in (
      λ links. subst (λ (qs : List IpcProcess). ForgetsLink d links.lines i place (seen_of (with_served d flows qs)) flows) (sym x.2) (gone_does d below i place number flows p.0 f.between x.0 here p.1 f.forgets f.unnamed links),
      subst (λ (qs : List IpcProcess). Holds (with_served d flows qs) lines below) (sym x.2) holds,
    )
forgets_link d i place number false flows ps lt due does lines below h =
    let p = has_process d below i (lines, h) lt in
    let none = (does p.0 p.1).1.forgets.0 in
    let is_due = (due below h.connected).due in
    absurd (none is_due.conn is_due.is_conn is_due.gone)

-- an allocation failed
none_unnamed : (ledger : List Off) → unnamed_from (length ledger) ledger ≡ ledger
none_unnamed ledger = ap (unnamed_from (length ledger)) (sym (append-nil ledger)) ∙ unnamed_more ledger [] ∙ append-nil ledger

pub forgets_none : (d : Dif) (i place : ℕ) (e : Memory) (flows : Flows) (ps : List IpcProcess) → i < length d.settings.members → WithLedger (λ f l f' l'. ForgetsOn d.clock place f l (Err e) f' l') i d.connections.flows d.processes flows ps
    → (lines : List Direction) (below : Seen) → Holds d lines below → (record d.connections { flows = flows } ≡ d.connections) × (seen_of (with_served d flows ps) ≡ seen_of d) × Holds (with_served d flows ps) lines below
forgets_none d i place e flows ps lt does lines below h =
    let p = has_process d below i (lines, h) lt in
    let x = does p.0 p.1 in
    let f = x.1 in
    let ledger : x.0 ≡ p.0.ledger = f.unnamed ∙ ap (unnamed_from (length p.0.ledger)) f.forgets.1 ∙ none_unnamed p.0.ledger in
    let processes : ps ≡ d.processes = x.2 ∙ ap (λ (zs : List Off). slice_set d.processes i (record p.0 { ledger = zs })) ledger ∙ slice_set-same d.processes i p.0 p.1 in
    let whole : with_served d flows ps ≡ d = ap (λ (z : Flows). with_served d z ps) f.forgets.0 ∙ ap (λ (qs : List IpcProcess). with_served d d.connections.flows qs) processes in
    (ap (λ (z : Dif). z.connections) whole, ap seen_of whole, subst (λ (z : Dif). Holds z lines below) (sym whole) h)

-- no other IPC process changes
pub forgets_leave : (R : Flows → List Off → Flows → List Off → Type 0) (d : Dif) (below : Seen) (i : ℕ) (flows : Flows) (ps : List IpcProcess) → Stands d below → i < length d.settings.members → WithLedger R i d.connections.flows d.processes flows ps → ChangesProcess (Some i) d.processes ps
forgets_leave R d below i flows ps st lt does =
    let p = has_process d below i st lt in
    let x = does p.0 p.1 in
    by_process d.processes ps i p.0 (record p.0 { ledger = x.0 }) p.1 refl x.2
