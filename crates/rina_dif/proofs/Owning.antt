-- How a PDU for a connection is handled.
use Rattle.std.proofs.Common.{true, false, if◌then◌else◌, ◌≡◌, ◌∙◌, ℕ, ◌-◌, ◌<◌, ◌≤◌, List, [], ◌∷◌, ◌++◌, length, map, slice_get, slice_set, option_map, append_assoc, Option, Some, None, Result, Ok, Err, refl, sym, ap, subst, arith, inl, inr}
use Rattle.std.proofs.lemmas.List.{length-map, map-set}
use Rattle.std.proofs.lemmas.Option.{slice_get-map, slice_get_within}
use Rattle.rina_account.specs.declared.ledger.Off.{Off}
use Rattle.rina_base.specs.declared.cause.Cause.{Cause}
use Rattle.rina_base.specs.declared.cause.Cause.TheVariants as causes
use Rattle.rina_base.specs.declared.memory.Memory.{Memory as NoMemory}
use Rattle.rina_base.specs.declared.pdu.Pdu.{Pdu}
use Rattle.rina_base.specs.declared.pdu.PduKind.TheVariants.{Piece as APiece, Ack as AnAck}
use Rattle.rina_iface.specs.declared.ends.End.{End}
use Rattle.rina_iface.specs.declared.state.PortState.TheVariants.{Allocated}
use Rattle.rina_iface.specs.Seen.{Seen}
use Rattle.rina_iface.proofs.Changed.{slice_set-same}
use Rattle.rina_law.specs.Constants.{Constants}
use Rattle.rina_law.specs.Direction.{Direction, has_room}
use Rattle.rina_law.specs.Line.{arrival_verdict}
use Rattle.rina_law.specs.Lists.{highest}
use Rattle.rina_law.specs.Pieces.{Joiner, goes_on}
use Rattle.rina_law.specs.Pdus.{piece_in}
use Rattle.rina_law.specs.Receiver.{Piece, Verdict, Accepted, Held, Duplicate, Behind, NoState, NoRoom}
use Rattle.rina_conn.specs.declared.conn.Conn.{Conn}
use Rattle.rina_data.specs.declared.process.IpcProcess.{IpcProcess}
use Rattle.rina_data.specs.declared.settings.Member.{Member as Kept}
use Rattle.rina_data.specs.declared.step.Decision.TheVariants as decision
use Rattle.rina_data.specs.declared.step.Took.{Took}
use Rattle.rina_data.specs.declared.step.Took.TheVariants as took
use Rattle.rina_data.specs.Hops.{Hop}
use Rattle.rina_data.specs.Configs.{Member, config_of, member_of}
use Rattle.rina_data.specs.Deciding.{process_of}
use Rattle.rina_dif_law.specs.Dif.{DifSeen, constants, IsProcess, with_process}
use Rattle.rina_data.specs.Process.{Process, with_offs}
use Rattle.rina_dif_law.specs.Ids.{Ids, IsFrom, IsOfLink, flipped}
use Rattle.rina_dif_law.specs.Incoming.{IsArrived, Settles, SettlesFlow, SettlesOff, by_joiner, cause_by, joiner_found, lines_for, missing_for}
use Rattle.rina_data.specs.Queueing.{line_for}
use Rattle.rina_dif_law.proofs.Coming.{alive_arrival}
use Rattle.rina_flows.specs.declared.flows.Flows.{Flows}
use Rattle.rina_flows.specs.Calls.{TakenBy, TellsOne}
use Rattle.rina_flows.specs.Tied.{conns_of, ids_of}
use Rattle.rina_flows.proofs.ArrivesAt.{is_arrived}
use Rattle.rina_flows.proofs.Unused.{allocated_used}
use Rattle.rina_dif.specs.declared.dif.Dif.{Dif}
use Rattle.rina_dif.specs.Holding.{Holds, Stands}
use Rattle.rina_dif.specs.Shown.{seen_of}
use Rattle.rina_dif.specs.Taking.{ArrivesTo, Comes, DecidesAt, IsOwn, IsThere, NotesAt, SettlesFor, took_of}
use Rattle.rina_dif.proofs.Keeping.{AreHome, home_set, house_is, kept_house, same_house}
use Rattle.rina_dif.proofs.Leaves.{has_process, shown_at, stepped}
use Rattle.rina_dif.proofs.Passed.{seen_flows}
use Rattle.rina_dif.proofs.Settling.{decides_same, holds_unseen, off_house, unseen}
use Rattle.rina_channel.specs.Changes.{LeavesLinks}
use Rattle.rina_channel.proofs.Putting.{leaves_same}
use Rattle.rina_dif.specs.Connected.{AreConnected}
use Rattle.rina_dif.proofs.Connected.{kept_by, noted_leaves}
use Rattle.rina_dif.proofs.LinkEnds.{live_floods}

same_some : {X : Type 0} (o : Option X) (a b : X) → o ≡ Some a → o ≡ Some b → a ≡ b
same_some o a b h g = cc

at_place : {X : Type 0} (xs : List X) (at : ℕ) (x : X) → slice_get xs at ≡ Some x → at < length xs
at_place xs at x is = slice_get_within xs at x is

-- the connection that takes a PDU is there
pub taken_within : (ends : List End) (conns : List Conn) (pdu : Pdu) (place : ℕ) → TakenBy ends (conns_of conns) pdu (Some place) → (place < length ends) × (place < length conns)
taken_within ends conns pdu place t =
    let c = t.2.is_conn in
    let lt = at_place (conns_of conns) place t.1 c.ids_are in
    let same = length-map conns ids_of in
    (at_place ends place t.0 c.end, omega (arith, lt, same))

-- it is of no link, since no IPC process has the address 0
of_flow : (d : Dif) (lines : List Direction) (below : Seen) (at since : ℕ) (hop : Hop) (member : Member) → Holds d lines below → IsOwn d at since hop → slice_get (seen_of d).config.members at ≡ Some member → d.clock - since ≤ hop.left → IsOfLink hop.pdu → ⊥
of_flow d lines below at since hop member h own is time of =
    let least = h.numbered.members.least at member is in
    let here = own.1 member is in
    let zero = of.dst in
    omega (arith, least, here, zero)

-- No connection takes it

pub own_none : (d : Dif) (at since : ℕ) (hop : Hop) (ps : List IpcProcess) → at < length d.settings.members → IsOwn d at since hop → TakenBy d.flows.journal.ends (conns_of d.flows.conns) hop.pdu None → NotesAt hop.pdu (causes.NoConnection hop.pdu.dcep) (Ok tt) at d.processes ps → SettlesFor d at since hop (Ok (took.Off (causes.NoConnection hop.pdu.dcep))) (record d { processes = ps })
own_none d at since hop ps lt own none notes lines below h there =
    let st : Stands d below = (lines, h) in
    let p = has_process d below at st lt in
    let x = notes p.0 p.1 in
    let house = home_set d lines below at p.0 x.0 ps h p.1 x.2 (house_is (process_of p.0) _ (process_of x.0) x.1 (off_house (process_of p.0) _)) x.3 in
    record {
      lines' = lines;
      settled = λ member process q.
          let same = same_some (slice_get (seen_of d).processes at) (process_of p.0) process (shown_at d at p.0 p.1) q.is_process in
          let new : seen_of (record d { processes = ps }) ≡ with_process (seen_of d) at (with_offs (process_of p.0) (line_for hop.pdu (causes.NoConnection hop.pdu.dcep) ∷ [])) = stepped d at x.0 ps x.3 ∙ ap (with_process (seen_of d) at) x.1 in
          inl (of_flow d lines below at since hop member h own q.is_member, (own.0, own.1 member q.is_member, refl, (λ k end ids t. none k end ids (record { is_conn = t.is_conn; allocated = t.allocated; names = t.names })), new ∙ ap (λ (z : Process). with_process (seen_of d) at (with_offs z (line_for hop.pdu (causes.NoConnection hop.pdu.dcep) ∷ []))) same, refl));
      tied = h.tied;
      housed = house.housed;
      managed = house.managed;
      enrolled = h.enrolled;
      connected = λ down. kept_by (config_of d.settings) d.clock d.connections (seen_of d).processes (map process_of ps) down (λ may. subst (λ (z : DifSeen). LeavesLinks (seen_of d).processes z.processes) (sym (stepped d at x.0 ps x.3)) (noted_leaves (seen_of d).processes at (process_of p.0) hop (causes.NoConnection hop.pdu.dcep) (process_of x.0) (shown_at d at p.0 p.1) x.1));
      flooded = λ f alive. live_floods d ps house.live (f alive);
    }

-- without memory for its line nothing changes
pub noted_err : (d : Dif) (at since : ℕ) (hop : Hop) (cause : Cause) (e : NoMemory) (ps : List IpcProcess) → at < length d.settings.members → NotesAt hop.pdu cause (Err e) at d.processes ps → SettlesFor d at since hop (Err e) (record d { processes = ps })
noted_err d at since hop cause e ps lt notes lines below h there =
    let st : Stands d below = (lines, h) in
    let p = has_process d below at st lt in
    let x = notes p.0 p.1 in
    let same = unseen d at p.0 x.0 ps p.1 x.1 x.3 in
    let house = home_set d lines below at p.0 x.0 ps h p.1 x.2 (house_is (process_of p.0) (process_of p.0) (process_of x.0) x.1 (same_house (process_of p.0))) x.3 in
    (same, holds_unseen d ps lines below same house h)

-- An acknowledgement

pub own_told : (d : Dif) (at since : ℕ) (hop : Hop) (place : ℕ) (flows : Flows) → IsOwn d at since hop → hop.pdu.kind ≡ AnAck → TakenBy d.flows.journal.ends (conns_of d.flows.conns) hop.pdu (Some place) → TellsOne place hop.pdu d.flows flows → flows.journal.ends ≡ d.flows.journal.ends → SettlesFor d at since hop (Ok took.Accepted) (record d { flows = flows })
own_told d at since hop place flows own kind taken tells same lines below h there =
    let t = tells (config_of d.settings) d.clock lines h.tied (allocated_used d.clock d.flows.journal.ends place taken.0 h.standing.journal taken.2.is_conn.end taken.2.allocated) in
    let seen : seen_of (record d { flows = flows }) ≡ seen_of d = seen_flows d flows d.flows.journal.ends same t.ids in
    record {
      lines' = t.lines';
      settled = λ member process q. inl (
        of_flow d lines below at since hop member h own q.is_member,
        (
          own.0,
          own.1 member q.is_member,
          inr (record {
            ack = kind;
            place = place;
            end = taken.0;
            ids = taken.1;
            taker = record { is_conn = taken.2.is_conn; allocated = taken.2.allocated; names = taken.2.names };
            line = t.told.line;
            is_line = t.told.is_line;
            lines_are = t.told.lines_are;
            new_is = seen;
          }),
        ),
      );
      tied = t.tied;
      housed = h.housed;
      managed = h.managed;
      enrolled = h.enrolled;
      connected = λ down c. c;
      flooded = λ f. f;
    }

-- A piece

-- what a receiver says of a piece
unfoldable pub OfReceiver : Cause → Type 0
OfReceiver (causes.Duplicate num) = Unit {0}
OfReceiver (causes.Behind highest) = Unit {0}
OfReceiver (causes.NoState drf) = Unit {0}
OfReceiver (causes.NoRoom cap) = Unit {0}
OfReceiver (causes.Broken missing) = Unit {0}
OfReceiver cause = ⊥

of_some : (a b : Cause) → Some a ≡ Some b → OfReceiver b → OfReceiver a
of_some a b e h = (let same : b ≡ a = cc in subst OfReceiver same h)

of_joiner : (p : Piece) (j : Joiner) (cause : Cause) → Some cause ≡ by_joiner p j → OfReceiver cause
unfolding OfReceiver
of_joiner p j cause e =
    elim (p.part.begins) as (λ b. Some cause ≡ (if b then None else (if goes_on p.number j then None else Some (causes.Broken (missing_for p j)))) → OfReceiver cause) [
      | true ↦ λ h. absurd cc
      | false ↦ λ h.
          elim (goes_on p.number j) as (λ b. Some cause ≡ (if b then None else Some (causes.Broken (missing_for p j))) → OfReceiver cause) [
            | true ↦ λ g. absurd cc
            | false ↦ λ g. of_some cause (causes.Broken (missing_for p j)) g tt
          ] h
    ] e

pub of_verdict : (v : Verdict) (c : Constants) (p : Piece) (line : Direction) (cause : Cause) → Some cause ≡ cause_by v c p line → OfReceiver cause
unfolding OfReceiver
of_verdict Accepted c p line cause e = of_joiner p (joiner_found c line) cause e
of_verdict Held c p line cause e = absurd cc
of_verdict Duplicate c p line cause e = of_some cause (causes.Duplicate (record { cep = c.cep; seq = p.number })) e tt
of_verdict Behind c p line cause e = of_some cause (causes.Behind (highest line.line.receiver.accepted)) e tt
of_verdict NoState c p line cause e = of_some cause (causes.NoState p.drf) e tt
of_verdict NoRoom c p line cause e = of_some cause (causes.NoRoom c.cube.window) e tt

settles_by : (d : DifSeen) (lines : List Direction) (i : ℕ) (member : Member) (process : Process) (at : ℕ) (hop : Hop) (cause : Cause) (d' : DifSeen) (lines' : List Direction) → d.clock - at ≤ hop.left → hop.pdu.dst ≡ member.addr → OfReceiver cause → IsArrived d lines i process hop.pdu (Some cause) d' lines' → SettlesOff d lines i member process at hop cause d' lines'
unfolding OfReceiver
settles_by d lines i member process at hop (causes.Expired left charge) d' lines' time dst of a = absurd of
settles_by d lines i member process at hop (causes.NoRoute n) d' lines' time dst of a = absurd of
settles_by d lines i member process at hop (causes.QueueFull cap) d' lines' time dst of a = absurd of
settles_by d lines i member process at hop (causes.NoConnection cep) d' lines' time dst of a = absurd of
settles_by d lines i member process at hop (causes.Duplicate num) d' lines' time dst of a = (time, dst, a)
settles_by d lines i member process at hop (causes.Behind highest) d' lines' time dst of a = (time, dst, a)
settles_by d lines i member process at hop (causes.NoState drf) d' lines' time dst of a = (time, dst, a)
settles_by d lines i member process at hop (causes.NoRoom cap) d' lines' time dst of a = (time, dst, a)
settles_by d lines i member process at hop (causes.StateGone last_in) d' lines' time dst of a = absurd of
settles_by d lines i member process at hop (causes.Broken missing) d' lines' time dst of a = (time, dst, a)
settles_by d lines i member process at hop (causes.LinkDown port) d' lines' time dst of a = absurd of

flow_arrived : (d : DifSeen) (lines : List Direction) (i : ℕ) (member : Member) (process : Process) (at : ℕ) (hop : Hop) (cause : Option Cause) (d' : DifSeen) (lines' : List Direction) → d.clock - at ≤ hop.left → hop.pdu.dst ≡ member.addr → IsArrived d lines i process hop.pdu cause d' lines' → SettlesFlow d lines i member process at hop (took_of cause) d' lines'
flow_arrived d lines i member process at hop None d' lines' time dst a = (time, dst, inl a)
flow_arrived d lines i member process at hop (Some cause) d' lines' time dst a =
    let c : Constants = constants d.config a.cube (flipped a.ids) in
    settles_by d lines i member process at hop cause d' lines' time dst (of_verdict (arrival_verdict c a.line.line (piece_in hop.pdu) (has_room c a.line)) c (piece_in hop.pdu) a.line cause a.cause_is) a

same_ids : (o : Option Ids) (a b : Ids) → o ≡ Some a → o ≡ Some b → a ≡ b
same_ids o a b h g = cc

same_ends : (o : Option End) (a b : End) → o ≡ Some a → o ≡ Some b → a ≡ b
same_ends o a b h g = cc

-- the DIF after it
pub arrived_seen : (d : Dif) (at : ℕ) (p : IpcProcess) (offs : List Off) (ledger : List Off) (flows : Flows) (ps : List IpcProcess) → flows.journal.ends ≡ flows.journal.ends → conns_of flows.conns ≡ conns_of d.flows.conns → ledger ≡ p.ledger ++ offs → ps ≡ slice_set d.processes at (record p { ledger = ledger }) →
    seen_of (record d { flows = flows; processes = ps }) ≡ record (seen_of d) { ends = flows.journal.ends; processes = slice_set (seen_of d).processes at (with_offs (process_of p) offs) }
arrived_seen d at p offs ledger flows ps ends ids lines new =
    let processes : map process_of ps ≡ slice_set (map process_of d.processes) at (with_offs (process_of p) offs) =
    ap (map process_of) new ∙ map-set process_of d.processes at (record p { ledger = ledger }) ∙ ap (λ (z : List Off). slice_set (map process_of d.processes) at (record (process_of p) { ledger = z })) lines in
    ap (λ (qs : List Process). record (seen_of d) { ends = flows.journal.ends; conns = conns_of flows.conns; processes = qs }) processes ∙ ap (λ (ks : List Ids). record (seen_of d) { ends = flows.journal.ends; conns = ks; processes = slice_set (map process_of d.processes) at (with_offs (process_of p) offs) }) ids

pub own_arrived : (d : Dif) (at since : ℕ) (hop : Hop) (place : ℕ) (cause : Option Cause) (flows : Flows) (ps : List IpcProcess) → at < length d.settings.members → IsOwn d at since hop → hop.pdu.kind ≡ APiece → TakenBy d.flows.journal.ends (conns_of d.flows.conns) hop.pdu (Some place) → ArrivesTo d.clock place hop.pdu at d.flows d.processes (Ok cause) flows ps → SettlesFor d at since hop (Ok (took_of cause)) (record d { flows = flows; processes = ps })
own_arrived d at since hop place cause flows ps lt own kind taken arrives lines below h there =
    let st : Stands d below = (lines, h) in
    let p = has_process d below at st lt in
    let x = arrives p.0 p.1 in
    let s = h.standing in
    let alive = alive_arrival (seen_of d) since hop.left there.older own.0 there.past there.later in
    let in_ = x.1 (config_of d.settings) lines (map process_of d.processes) below (record { config = s.config; journal = s.journal; held = d.ids; own = s.own; tied = h.tied }) (record { end = taken.0; its_ids = taken.1; taker = taken.2; piece = kind; death = there.older; here = inr there.on_way; alive = alive }) in
    let a = in_.arrives in
    let end = same_ends (slice_get d.flows.journal.ends place) taken.0 a.end taken.2.is_conn.end a.place.is_conn.end in
    let ids = same_ids (slice_get (conns_of d.flows.conns) place) taken.1 a.its_ids taken.2.is_conn.ids_are a.place.is_conn.ids_are in
    let allocated : a.end.state ≡ Allocated = ap (λ (e : End). e.state) (sym end) ∙ taken.2.allocated in
    let names : IsFrom (flipped a.its_ids) hop.pdu = subst (λ (z : Ids). IsFrom (flipped z) hop.pdu) ids taken.2.names in
    let ledger : x.0 ≡ p.0.ledger ++ (in_.offs ++ lines_for hop.pdu cause) = in_.ledger_is ∙ append_assoc p.0.ledger in_.offs (lines_for hop.pdu cause) in
    let d' : Dif = record d { flows = flows; processes = ps } in
    let seen = arrived_seen d at p.0 (in_.offs ++ lines_for hop.pdu cause) x.0 flows ps refl in_.ids ledger x.2 in
    let whole : IsArrived (seen_of d) lines at (process_of p.0) hop.pdu cause (seen_of d') in_.lines' = is_arrived (seen_of d) lines at (process_of p.0) hop.pdu place cause in_.offs flows.journal.ends in_.lines' (seen_of d') kind a allocated names seen in
    let house = home_set d lines below at p.0 (record p.0 { ledger = x.0 }) ps h p.1 refl (kept_house _ _ refl refl refl) x.2 in
    record {
      lines' = in_.lines';
      settled = λ member process q.
          let same = same_some (slice_get (seen_of d).processes at) (process_of p.0) process (shown_at d at p.0 p.1) q.is_process in
          inl (of_flow d lines below at since hop member h own q.is_member, flow_arrived (seen_of d) lines at member process since hop cause (seen_of d') in_.lines' own.0 (own.1 member q.is_member) (subst (λ (z : Process). IsArrived (seen_of d) lines at z hop.pdu cause (seen_of d') in_.lines') same whole));
      tied = in_.tied;
      housed = house.housed;
      managed = house.managed;
      enrolled = h.enrolled;
      connected = λ down. kept_by (config_of d.settings) d.clock d.connections (seen_of d).processes (map process_of ps) down (λ may. subst (λ (z : DifSeen). LeavesLinks (seen_of d).processes z.processes) (sym (stepped d at (record p.0 { ledger = x.0 }) ps x.2)) (leaves_same (seen_of d).processes at (process_of p.0) (process_of (record p.0 { ledger = x.0 })) (shown_at d at p.0 p.1) refl refl));
      flooded = λ f alive. live_floods d ps house.live (f alive);
    }

pub arrived_err : (d : Dif) (at since : ℕ) (hop : Hop) (place : ℕ) (e : NoMemory) (flows : Flows) (ps : List IpcProcess) → at < length d.settings.members → ArrivesTo d.clock place hop.pdu at d.flows d.processes (Err e) flows ps → SettlesFor d at since hop (Err e) (record d { flows = flows; processes = ps })
arrived_err d at since hop place e flows ps lt arrives lines below h there =
    let st : Stands d below = (lines, h) in
    let p = has_process d below at st lt in
    let x = arrives p.0 p.1 in
    let same : ps ≡ d.processes = x.2 ∙ ap (λ (z : List Off). slice_set d.processes at (record p.0 { ledger = z })) x.1.1 ∙ slice_set-same d.processes at p.0 p.1 in
    let all : record d { flows = flows; processes = ps } ≡ d = ap (λ (z : Flows). record d { flows = z; processes = ps }) x.1.0 ∙ ap (λ (z : List IpcProcess). record d { processes = z }) same in
    (ap seen_of all, subst (λ (z : Dif). Holds z lines below) (sym all) h)

-- For the own IPC process

-- the decision changes nothing that is seen
pub record IsForMe (d : Dif) (at since : ℕ) (hop : Hop) (ps : List IpcProcess) : Type 0 where
  pub same : seen_of (record d { processes = ps }) ≡ seen_of d
  pub own : IsOwn (record d { processes = ps }) at since hop
  pub house : (lines : List Direction) (below : Seen) → Holds d lines below → AreHome d ps

pub decided_own : (d : Dif) (addr at since : ℕ) (hop : Hop) (ps : List IpcProcess) → Comes d since hop → at < length d.settings.members → ((member : Member) → slice_get (seen_of d).config.members at ≡ Some member → addr ≡ member.addr) → DecidesAt d.clock addr since hop (Ok decision.Here) at d.processes ps → IsForMe d at since hop ps
decided_own d addr at since hop ps comes lt is_addr decides =
    let st : Stands d comes.1 = (comes.0, comes.2) in
    let p = has_process d comes.1 at st lt in
    let x = decides p.0 p.1 in
    record {
      same = unseen d at p.0 x.0 ps p.1 x.1.2 x.3;
      own = (x.1.0, λ member is. x.1.1 ∙ is_addr member is);
      house = λ lines below h. home_set d lines below at p.0 x.0 ps h p.1 x.2 (decides_same p.0.queues.cap d.clock addr (process_of p.0) since hop (Ok decision.Here) (process_of x.0) x.1) x.3;
    }

pub comes_on : (d : Dif) (at since : ℕ) (hop : Hop) (ps : List IpcProcess) → IsForMe d at since hop ps → Comes d since hop → Comes (record d { processes = ps }) since hop
comes_on d at since hop ps me comes =
    (comes.0, comes.1, holds_unseen d ps comes.0 comes.1 me.same (me.house comes.0 comes.1 comes.2) comes.2, subst (λ (z : DifSeen). IsThere z comes.1 since hop) (sym me.same) comes.3)

pub settles_on : (d : Dif) (at since : ℕ) (hop : Hop) (ps : List IpcProcess) (r : Result Took NoMemory) (d' : Dif) → IsForMe d at since hop ps → SettlesFor (record d { processes = ps }) at since hop r d' → SettlesFor d at since hop r d'
settles_on d at since hop ps (Ok end) d' me settles lines below h there =
    let s = settles lines below (holds_unseen d ps lines below me.same (me.house lines below h) h) (subst (λ (z : DifSeen). IsThere z below since hop) (sym me.same) there) in
    record {
      lines' = s.lines';
      settled = subst (λ (z : DifSeen). (member : Member) (process : Process) → IsProcess z at member process → Settles z lines at member process since hop end (seen_of d') s.lines') me.same s.settled;
      tied = s.tied;
      housed = s.housed;
      managed = s.managed;
      enrolled = s.enrolled;
      connected = λ down c. s.connected down (subst (λ (z : DifSeen). AreConnected (config_of d.settings) d.clock d.connections z.processes down) (sym me.same) c);
      flooded = λ f. s.flooded (λ alive. live_floods d ps (me.house lines below h).live (f alive));
    }
settles_on d at since hop ps (Err e) d' me settles lines below h there =
    let s = settles lines below (holds_unseen d ps lines below me.same (me.house lines below h) h) (subst (λ (z : DifSeen). IsThere z below since hop) (sym me.same) there) in
    (s.0 ∙ me.same, s.1)

-- the address of the IPC process at a place
pub its_addr : (d : Dif) (at : ℕ) (m : Kept) → slice_get d.settings.members at ≡ Some m → (member : Member) → slice_get (seen_of d).config.members at ≡ Some member → m.addr ≡ member.addr
its_addr d at m is member there =
    let shown : slice_get (map member_of d.settings.members) at ≡ Some (member_of m) = slice_get-map member_of d.settings.members at ∙ ap (option_map member_of) is in
    ap (λ (z : Member). z.addr) (same_members (slice_get (map member_of d.settings.members) at) (member_of m) member shown there)
  where
    same_members : (o : Option Member) (a b : Member) → o ≡ Some a → o ≡ Some b → a ≡ b
    same_members o a b h g = cc
