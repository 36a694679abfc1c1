-- A PDU that is made beside a send: an acknowledgement, or a piece once more.
use Rattle.std.proofs.Common.{◌≡◌, ◌∙◌, ℕ, ◌-◌, ◌<◌, Bool, true, false, cond, List, [], ◌∷◌, length, option_map, get_or, slice_get, slice_set, Option, Some, None, Result, Ok, Err, refl, sym, ap, subst, inr, inl}
use Rattle.std.proofs.lemmas.Bool.{false≢true}
use Rattle.std.proofs.lemmas.Option.{slice_get_read}
use Rattle.rina_base.specs.declared.cause.Cause.{Cause}
use Rattle.rina_base.specs.declared.cause.Cause.TheVariants as causes
use Rattle.rina_base.specs.declared.memory.Memory.{Memory}
use Rattle.rina_base.specs.declared.number.Num.{Num}
use Rattle.rina_base.specs.declared.pdu.Pdu.{Pdu}
use Rattle.rina_conn.specs.declared.conn.Conn.{Conn}
use Rattle.rina_conn.specs.declared.conn.DueAck.{DueAck}
use Rattle.rina_conn.specs.Carrying.{carry}
use Rattle.rina_conn.specs.Clock.{TellsAck, ack_due, ack_of}
use Rattle.rina_conn.specs.Sending.{TellsAgain}
use Rattle.rina_iface.specs.declared.ends.Journal.{Journal}
use Rattle.rina_iface.specs.Seen.{Seen}
use Rattle.rina_law.specs.Constants.{Constants}
use Rattle.rina_law.specs.Direction.{Direction, after_again, is_ack_due, right_of}
use Rattle.rina_law.specs.Receiver.{next_of}
use Rattle.rina_law.specs.Sender.{Ack as AnAck, again_due, piece_again}
use Rattle.rina_data.specs.declared.process.IpcProcess.{IpcProcess}
use Rattle.rina_data.specs.declared.step.Decision.{Decision}
use Rattle.rina_data.specs.declared.step.Decision.TheVariants as decision
use Rattle.rina_data.specs.Hops.{Hop}
use Rattle.rina_data.specs.Configs.{Config, config_of}
use Rattle.rina_data.specs.Deciding.{Forwards, process_of, queue_settings}
use Rattle.rina_dif_law.specs.Dif.{DifSeen, with_process}
use Rattle.rina_data.specs.Process.{Process, next_hop}
use Rattle.rina_dif_law.specs.Ids.{Ids, pdu_of_ack, pdu_of_piece}
use Rattle.rina_data.specs.Queueing.{IsFull, IsPassedOn}
use Rattle.rina_data.specs.Fitting.{IsQos}
use Rattle.rina_dif_law.specs.Timely.{IsAcknowledged, IsAtHome, IsResent, Posts}
use Rattle.rina_dif_law.proofs.Accounting.{acknowledged_accounted, resent_accounted}
use Rattle.rina_dif_law.proofs.Carries.{acknowledged_carries, resent_carries}
use Rattle.rina_dif_law.proofs.Finding.{beside}
use Rattle.rina_dif_law.proofs.Numbering.{acknowledged_numbered, resent_numbered}
use Rattle.rina_dif_law.proofs.Rows.{acknowledged_stands, resent_stands}
use Rattle.rina_dif_law.proofs.Warranted.{acknowledged_written, resent_written}
use Rattle.rina_flows.specs.declared.flows.Flows.{Flows}
use Rattle.rina_flows.specs.Calls.{Tells}
use Rattle.rina_flows.specs.Tied.{IsAt, conns_of, ids_of, inward, outward}
use Rattle.rina_flows.specs.declared.due.Item.TheVariants.{Ack, Again}
use Rattle.rina_flows.specs.Timely.{AcknowledgesIn, IsDue, SendsAgainIn}
use Rattle.rina_flows.proofs.Framed.{ids_at}
use Rattle.rina_flows.proofs.Stopped.{clock_of}
use Rattle.rina_flows.proofs.Timed.{ack_is_due, again_is_due, receiver_of}
use Rattle.rina_flows.proofs.Unused.{allocated_used}
use Rattle.rina_dif.specs.declared.dif.Dif.{Dif}
use Rattle.rina_dif.specs.Holding.{Holds}
use Rattle.rina_dif.specs.Shown.{seen_of}
use Rattle.rina_dif.specs.Taking.{RoutesAt}
use Rattle.rina_dif.specs.Timely.{Acknowledges, AcknowledgesAs, ForwardsAt, IsHomeEnd, SendsAgain, SendsAgainAs}
use Rattle.rina_dif.proofs.Causing.{process_caused}
use Rattle.rina_dif.proofs.Keeping.{AreHome, IsSameHouse, home_set, house_is, put_house, same_house}
use Rattle.rina_dif.proofs.Leaves.{has_process, shown_at, stepped}
use Rattle.rina_dif.proofs.Putting.{is_there}
use Rattle.rina_dif.proofs.Settling.{holds_unseen, off_house, unseen}
use Rattle.rina_channel.proofs.Leaving.{acknowledging_leaves, resending_leaves}
use Rattle.rina_dif.proofs.Connected.{kept_by}
use Rattle.rina_dif.proofs.LinkEnds.{live_floods}

same_some : {X : Type 0} (o : Option X) (a b : X) → o ≡ Some a → o ≡ Some b → a ≡ b
same_some o a b h g = cc

-- One IPC process of those that are kept

pub forwards_one : (now : ℕ) (hop : Hop) (r : Result Decision Memory) (at : ℕ) (ps : List IpcProcess) (x x' : IpcProcess) → at < length ps → x ≡ get_or ps at x → Forwards x.queues.cap (process_of x) now hop r (process_of x') → queue_settings x' ≡ queue_settings x → ForwardsAt now hop r at ps (slice_set ps at x')
forwards_one now hop r at ps x x' lt read forwards room p is =
    let here : slice_get ps at ≡ Some x = slice_get_read ps (length ps) at x refl lt read in
    let same : x ≡ p = same_some (slice_get ps at) x p here is in
    (x', subst (λ (z : IpcProcess). Forwards z.queues.cap (process_of z) now hop r (process_of x')) same forwards, subst (λ (z : IpcProcess). queue_settings x' ≡ queue_settings z) same room, refl)

-- its queues keep their places
forwards_same : (cap : ℕ) (p : Process) (now : ℕ) (hop : Hop) (r : Result Decision Memory) (p' : Process) → Forwards cap p now hop r p' → IsSameHouse p p'
forwards_same cap p now hop (Ok decision.Here) p' s = absurd s
forwards_same cap p now hop (Ok decision.Relayed) p' s = house_is p _ p' s.new_is (put_house p hop.pdu.qos s.link s.place s.queue (record { pdu = hop.pdu; left = hop.left; since = now } ∷ []) s.is_queue (inl (hop.pdu.dst, s.next)))
forwards_same cap p now hop (Ok (decision.Off (causes.NoRoute dst))) p' s = house_is p _ p' s.2 (off_house p _)
forwards_same cap p now hop (Ok (decision.Off (causes.QueueFull n))) p' s = house_is p _ p' s.2 (off_house p _)
forwards_same cap p now hop (Ok (decision.Off (causes.Expired left charge))) p' s = absurd s
forwards_same cap p now hop (Ok (decision.Off (causes.NoConnection cep))) p' s = absurd s
forwards_same cap p now hop (Ok (decision.Off (causes.Duplicate num))) p' s = absurd s
forwards_same cap p now hop (Ok (decision.Off (causes.Behind highest))) p' s = absurd s
forwards_same cap p now hop (Ok (decision.Off (causes.NoState drf))) p' s = absurd s
forwards_same cap p now hop (Ok (decision.Off (causes.NoRoom n))) p' s = absurd s
forwards_same cap p now hop (Ok (decision.Off (causes.StateGone last_in))) p' s = absurd s
forwards_same cap p now hop (Ok (decision.Off (causes.Broken missing))) p' s = absurd s
forwards_same cap p now hop (Ok (decision.Off (causes.LinkDown port))) p' s = absurd s
forwards_same cap p now hop (Err e) p' s = house_is p p p' s (same_house p)

-- it is posted, or written off
posts_of : (g : Config) (cap now mpl : ℕ) (p : Process) (pdu : Pdu) (s : Decision) (p' : Process) → cap ≡ g.cap → Forwards cap p now (record { left = mpl; pdu = pdu }) (Ok s) p' → (cause : Option Cause) × Posts g now mpl p pdu cause p'
posts_of g cap now mpl p pdu decision.Here p' same f = absurd f
posts_of g cap now mpl p pdu decision.Relayed p' same f = (None, subst (λ (n : ℕ). IsPassedOn n p now (record { left = mpl; pdu = pdu }) p') same f)
posts_of g cap now mpl p pdu (decision.Off (causes.NoRoute dst)) p' same f = (Some (causes.NoRoute dst), (f.0, subst (λ (n : ℕ). next_hop n p.routes ≡ None) f.0 f.1, f.2))
posts_of g cap now mpl p pdu (decision.Off (causes.QueueFull n)) p' same f = (Some (causes.QueueFull n), (f.0 ∙ same, subst (λ (c : ℕ). IsFull c p pdu) same f.1, f.2))
posts_of g cap now mpl p pdu (decision.Off (causes.Expired left charge)) p' same f = absurd f
posts_of g cap now mpl p pdu (decision.Off (causes.NoConnection cep)) p' same f = absurd f
posts_of g cap now mpl p pdu (decision.Off (causes.Duplicate num)) p' same f = absurd f
posts_of g cap now mpl p pdu (decision.Off (causes.Behind highest)) p' same f = absurd f
posts_of g cap now mpl p pdu (decision.Off (causes.NoState drf)) p' same f = absurd f
posts_of g cap now mpl p pdu (decision.Off (causes.NoRoom n)) p' same f = absurd f
posts_of g cap now mpl p pdu (decision.Off (causes.StateGone last_in)) p' same f = absurd f
posts_of g cap now mpl p pdu (decision.Off (causes.Broken missing)) p' same f = absurd f
posts_of g cap now mpl p pdu (decision.Off (causes.LinkDown port)) p' same f = absurd f

-- The DIF after it

record HasPosted (d : Dif) (i mpl : ℕ) (pdu : Pdu) (ps : List IpcProcess) : Type 0 where
  process : Process
  is_process : slice_get (seen_of d).processes i ≡ Some process
  cause : Option Cause
  process' : Process
  posted : Posts (config_of d.settings) d.clock mpl process pdu cause process'
  seen : seen_of (record d { processes = ps }) ≡ with_process (seen_of d) i process'
  house : AreHome d ps

posted_at : (d : Dif) (lines : List Direction) (below : Seen) (i mpl : ℕ) (pdu : Pdu) (s : Decision) (ps : List IpcProcess) → i < length d.settings.members → Holds d lines below → ForwardsAt d.clock (record { left = mpl; pdu = pdu }) (Ok s) i d.processes ps → HasPosted d i mpl pdu ps
posted_at d lines below i mpl pdu s ps lt h forwards =
    let p = has_process d below i (lines, h) lt in
    let x = forwards p.0 p.1 in
    let cap = (h.housed i p.0 p.1).cap in
    let posts = posts_of (config_of d.settings) p.0.queues.cap d.clock mpl (process_of p.0) pdu s (process_of x.0) cap x.1 in
    record {
      process = process_of p.0;
      is_process = shown_at d i p.0 p.1;
      cause = posts.0;
      process' = process_of x.0;
      posted = posts.1;
      seen = stepped d i x.0 ps x.3;
      house = home_set d lines below i p.0 x.0 ps h p.1 x.2 (forwards_same p.0.queues.cap (process_of p.0) d.clock (record { left = mpl; pdu = pdu }) (Ok s) (process_of x.0) x.1) x.3;
    }

-- an allocation failed
pub forwarded_none : (d : Dif) (lines : List Direction) (below : Seen) (i : ℕ) (hop : Hop) (e : Memory) (ps : List IpcProcess) → i < length d.settings.members → Holds d lines below → ForwardsAt d.clock hop (Err e) i d.processes ps → (seen_of (record d { processes = ps }) ≡ seen_of d) × Holds (record d { processes = ps }) lines below
forwarded_none d lines below i hop e ps lt h forwards =
    let p = has_process d below i (lines, h) lt in
    let x = forwards p.0 p.1 in
    let same = unseen d i p.0 x.0 ps p.1 x.1 x.3 in
    let house = home_set d lines below i p.0 x.0 ps h p.1 x.2 (forwards_same p.0.queues.cap (process_of p.0) d.clock hop (Err e) (process_of x.0) x.1) x.3 in
    (same, holds_unseen d ps lines below same house h)

-- with flows whose ends and names are those that were there
seen_with : (d : Dif) (flows : Flows) (ps : List IpcProcess) (z : DifSeen) → flows.journal ≡ d.flows.journal → conns_of flows.conns ≡ conns_of d.flows.conns → seen_of (record d { processes = ps }) ≡ z → seen_of (record d { flows = flows; processes = ps }) ≡ z
seen_with d flows ps z same ids is =
    let s : DifSeen = seen_of (record d { processes = ps }) in
    ap (λ (j : Journal). record s { ends = j.ends; conns = conns_of flows.conns }) same ∙ ap (λ (cs : List Ids). record s { conns = cs }) ids ∙ is

-- there is a queue at the next hop of what a connection makes
pub routes_for : (d : Dif) (lines : List Direction) (below : Seen) (i at : ℕ) (conn : Conn) (hop : Hop) → Holds d lines below → slice_get d.flows.conns at ≡ Some conn → hop.pdu.qos ≡ conn.sending.form.cube.id → RoutesAt hop i d.processes
routes_for d lines below i at conn hop h is qos p is' link next =
    let e = beside d.flows.conns d.flows.journal.ends at conn (sym h.tied.alike) is in
    let l = beside d.flows.journal.ends lines at e.0 h.tied.lines_alike e.1 in
    let s = h.tied.sends at conn l.0 is l.1 in
    let known : IsQos (config_of d.settings) conn.sending.form.cube.id = inr (conn.sending.form.cube, s.cube) in
    is_there (config_of d.settings) p hop.pdu.dst link hop.pdu.qos (h.housed i p is') next (subst (IsQos (config_of d.settings)) (sym qos) known)

-- the end at home, with the cube of its connection
home_of : (d : Dif) (lines : List Direction) (below : Seen) (i at : ℕ) (conn : Conn) (process : Process) → Holds d lines below → (here : IsHomeEnd d i at) → slice_get d.flows.conns at ≡ Some conn → slice_get (seen_of d).processes i ≡ Some process → IsAtHome (seen_of d) at here.end (ids_of conn) i process conn.sending.form.cube
home_of d lines below i at conn process h here is is_process =
    let l = beside d.flows.journal.ends lines at here.end h.tied.lines_alike here.is_end in
    record {
      is_conn = record { end = here.is_end; ids_are = ids_at d.flows.conns at conn is };
      allocated = here.allocated;
      at_home = here.at_home;
      is_process = is_process;
      is_cube = (h.tied.sends at conn l.0 is l.1).cube;
    }

-- An acknowledgement

ack_parts : (b : Bool) (a k : AnAck) → Some k ≡ cond b (Some a) None → (b ≡ true) × (k ≡ a)
ack_parts true a k e = (refl, cc)
ack_parts false a k e = absurd cc

pub acknowledges : (d : Dif) (lines : List Direction) (below : Seen) (i at : ℕ) (conn : Conn) (due : DueAck) (s : Decision) (flows : Flows) (ps : List IpcProcess) → i < length d.settings.members → IsHomeEnd d i at → slice_get d.flows.conns at ≡ Some conn → Tells (λ k. TellsAck d.clock k (Some (ack_of due))) at d.flows.conns → ForwardsAt d.clock (record { left = conn.sending.form.cube.mpl; pdu = pdu_of_ack (ids_of conn) (ack_of due) }) (Ok s) i d.processes ps → AcknowledgesIn at d.flows flows → Holds d lines below → Acknowledges d lines below at (record d { flows = flows; processes = ps })
acknowledges d lines below i at conn due s flows ps lt here is tells forwards does h =
    let g : Config = config_of d.settings in
    let d' : Dif = record d { flows = flows; processes = ps } in
    let a = does g d.clock lines here.end h.standing.journal h.tied here.is_end here.allocated in
    let c : Constants = inward g a.conn in
    let conn_is : conn ≡ a.conn = same_some (slice_get d.flows.conns at) conn a.conn is a.is_conn in
    let is_at : IsAt d.flows.journal.ends d.flows.conns at here.end a.conn = record { end_is = here.is_end; conn_is = a.is_conn } in
    let r = h.tied.receives at a.from here.end a.conn a.line is_at here.allocated a.inbound in
    let st = receiver_of g d.clock at a.from d.flows.journal.ends d.flows.conns lines here.end a.conn a.line h.tied is_at a.inbound r in
    let clock = clock_of g d.clock d.flows.journal.ends d.flows.conns lines here.end a.from a.line h.tied a.inbound in
    let told : Some (ack_of due) ≡ ack_due c a.line = tells a.conn a.is_conn c a.line clock st r.whole in
    let made : AnAck = record { ack = next_of a.line.line.receiver - 1; right = right_of c a.line } in
    let parts = ack_parts (is_ack_due c a.line) made (ack_of due) told in
    let F : Conn → AnAck → Type 0 = λ x k. ForwardsAt d.clock (record { left = x.sending.form.cube.mpl; pdu = pdu_of_ack (ids_of x) k }) (Ok s) i d.processes ps in
    let forwards' : F a.conn made = subst (F a.conn) parts.1 (subst (λ (x : Conn). F x (ack_of due)) conn_is forwards) in
    let p = posted_at d lines below i a.conn.sending.form.cube.mpl (pdu_of_ack (ids_of a.conn) made) s ps lt h forwards' in
    let acknowledged : IsAcknowledged (seen_of d) lines at p.cause (seen_of d') a.lines' = record {
      end = here.end;
      ids = ids_of a.conn;
      i = i;
      process = p.process;
      cube = a.conn.sending.form.cube;
      is_home = home_of d lines below i at a.conn p.process h here a.is_conn p.is_process;
      from = a.from;
      line = a.line;
      inbound = record { partner = a.inbound.partner; is_partner = a.inbound.is_partner; partners = a.inbound.partners; is_line = a.inbound.is_line };
      due = parts.0;
      process' = p.process';
      posted = p.posted;
      lines_are = a.lines_are;
      new_is = seen_with d flows ps _ a.same a.ids p.seen;
    } in
    record {
      lines' = a.lines';
      cause = p.cause;
      acknowledged = acknowledged;
      holds = record {
        tied = a.tied;
        standing = acknowledged_stands (seen_of d) lines below at p.cause (seen_of d') a.lines' h.standing acknowledged;
        carrying = acknowledged_carries (seen_of d) lines below at p.cause (seen_of d') a.lines' h.carrying acknowledged;
        numbered = acknowledged_numbered (seen_of d) lines below at p.cause (seen_of d') a.lines' h.numbered acknowledged;
        accounted = acknowledged_accounted (seen_of d) lines below at p.cause (seen_of d') a.lines' h.numbered h.accounted acknowledged;
        caused = process_caused (seen_of d) (seen_of d') below acknowledged.i acknowledged.process' acknowledged.new_is h.caused;
        written_off = acknowledged_written (seen_of d) lines below at p.cause (seen_of d') a.lines' h.standing h.numbered h.accounted h.written_off acknowledged;
        housed = p.house.housed;
        managed = p.house.managed;
        enrolled = h.enrolled;
        connected = kept_by (config_of d.settings) d.clock d.connections (seen_of d).processes (seen_of d').processes below (λ may. acknowledging_leaves (seen_of d) lines at p.cause (seen_of d') a.lines' may.managed.only acknowledged) h.connected;
        flooded = λ alive. live_floods d ps p.house.live (h.flooded alive);
      };
    }

pub no_ack : (d : Dif) (lines : List Direction) (below : Seen) (i at : ℕ) → IsHomeEnd d i at → Tells (λ k. TellsAck d.clock k None) at d.flows.conns → Holds d lines below → IsDue Ack (config_of d.settings) d.clock d.flows lines at → ⊥
no_ack d lines below i at here tells h due =
    false≢true ((ack_is_due d.clock at d.flows.journal.ends d.flows.conns None tells (config_of d.settings) lines here.end h.standing.journal h.tied here.is_end here.allocated).1 due)

-- A number that is sent again

some_mapped : {X Y : Type 0} (f : X → Y) (o : Option X) (y : Y) → Some y ≡ option_map f o → (x : X) × (o ≡ Some x) × (y ≡ f x)
some_mapped f None y e = absurd cc
some_mapped f (Some x) y e = (x, refl, cc)

-- its PDU is of the cube of the connection
pub again_qos : (d : Dif) (lines : List Direction) (below : Seen) (at : ℕ) (conn : Conn) (pdu : Pdu) → Holds d lines below → slice_get d.flows.conns at ≡ Some conn → Tells (λ k. TellsAgain d.clock k.sending (Some pdu)) at d.flows.conns → pdu.qos ≡ conn.sending.form.cube.id
again_qos d lines below at conn pdu h is tells =
    let e = beside d.flows.conns d.flows.journal.ends at conn (sym h.tied.alike) is in
    let l = beside d.flows.journal.ends lines at e.0 h.tied.lines_alike e.1 in
    let line : Direction = l.0 in
    let c : Constants = outward (config_of d.settings) conn in
    let told = tells conn is c line.line.sender (h.tied.sends at conn line is l.1).sender in
    let f = some_mapped (λ n. carry conn.sending.form.peer conn.sending.form.cube.id (piece_again n line.line.sender)) (again_due c d.clock line.line.sender) pdu told in
    ap (λ (q : Pdu). q.qos) f.2

pub sends_again : (d : Dif) (lines : List Direction) (below : Seen) (i at : ℕ) (conn : Conn) (pdu : Pdu) (s : Decision) (flows : Flows) (ps : List IpcProcess) → i < length d.settings.members → IsHomeEnd d i at → slice_get d.flows.conns at ≡ Some conn → Tells (λ k. TellsAgain d.clock k.sending (Some pdu)) at d.flows.conns → ForwardsAt d.clock (record { left = conn.sending.form.cube.mpl; pdu = pdu }) (Ok s) i d.processes ps → SendsAgainIn d.clock at d.flows flows → Holds d lines below → SendsAgain d lines below at (record { cep = pdu.scep; seq = pdu.seq }) (record d { flows = flows; processes = ps })
sends_again d lines below i at conn pdu s flows ps lt here is tells forwards does h =
    let g : Config = config_of d.settings in
    let d' : Dif = record d { flows = flows; processes = ps } in
    let a = does g lines h.tied (allocated_used d.clock d.flows.journal.ends at here.end h.standing.journal here.is_end here.allocated) in
    let c : Constants = outward g a.conn in
    let conn_is : conn ≡ a.conn = same_some (slice_get d.flows.conns at) conn a.conn is a.is_conn in
    let x = h.tied.sends at a.conn a.line a.is_conn a.is_line in
    let told = tells a.conn a.is_conn c a.line.line.sender x.sender in
    let f = some_mapped (λ n. carry a.conn.sending.form.peer a.conn.sending.form.cube.id (piece_again n a.line.line.sender)) (again_due c d.clock a.line.line.sender) pdu told in
    let n : ℕ = f.0 in
    let piece : Pdu = pdu_of_piece (ids_of a.conn) (piece_again n a.line.line.sender) in
    let pdu_is : pdu ≡ piece = f.2 in
    let due : again_due c a.line.line.clock a.line.line.sender ≡ Some n = ap (λ k. again_due c k a.line.line.sender) x.clock ∙ f.1 in
    let F : Conn → Pdu → Type 0 = λ k q. ForwardsAt d.clock (record { left = k.sending.form.cube.mpl; pdu = q }) (Ok s) i d.processes ps in
    let forwards' : F a.conn piece = subst (F a.conn) pdu_is (subst (λ (k : Conn). F k pdu) conn_is forwards) in
    let p = posted_at d lines below i a.conn.sending.form.cube.mpl piece s ps lt h forwards' in
    let resent : IsResent (seen_of d) lines at p.cause (seen_of d') a.lines' = record {
      end = here.end;
      ids = ids_of a.conn;
      i = i;
      process = p.process;
      cube = a.conn.sending.form.cube;
      is_home = home_of d lines below i at a.conn p.process h here a.is_conn p.is_process;
      line = a.line;
      is_line = a.is_line;
      number = n;
      due = due;
      process' = p.process';
      posted = p.posted;
      lines_are = a.lines_are ∙ ap (λ (o : Option ℕ). slice_set lines at (after_again o c a.line)) due;
      new_is = seen_with d flows ps _ a.same a.ids p.seen;
    } in
    record {
      lines' = a.lines';
      cause = p.cause;
      resent = resent;
      cep = ap (λ (q : Pdu). q.scep) pdu_is;
      seq = ap (λ (q : Pdu). q.seq) pdu_is;
      holds = record {
        tied = a.tied;
        standing = resent_stands (seen_of d) lines below at p.cause (seen_of d') a.lines' h.standing resent;
        carrying = resent_carries (seen_of d) lines below at p.cause (seen_of d') a.lines' h.carrying resent;
        numbered = resent_numbered (seen_of d) lines below at p.cause (seen_of d') a.lines' h.numbered resent;
        accounted = resent_accounted (seen_of d) lines below at p.cause (seen_of d') a.lines' h.numbered h.accounted resent;
        caused = process_caused (seen_of d) (seen_of d') below resent.i resent.process' resent.new_is h.caused;
        written_off = resent_written (seen_of d) lines below at p.cause (seen_of d') a.lines' h.standing h.numbered h.accounted h.written_off resent;
        housed = p.house.housed;
        managed = p.house.managed;
        enrolled = h.enrolled;
        connected = kept_by (config_of d.settings) d.clock d.connections (seen_of d).processes (seen_of d').processes below (λ may. resending_leaves (seen_of d) lines at p.cause (seen_of d') a.lines' may.managed.only resent) h.connected;
        flooded = λ alive. live_floods d ps p.house.live (h.flooded alive);
      };
    }

pub none_again : (d : Dif) (lines : List Direction) (below : Seen) (i at : ℕ) → IsHomeEnd d i at → Tells (λ k. TellsAgain d.clock k.sending None) at d.flows.conns → Holds d lines below → IsDue Again (config_of d.settings) d.clock d.flows lines at → ⊥
none_again d lines below i at here tells h due =
    false≢true ((again_is_due d.clock at d.flows.journal.ends d.flows.conns None tells (config_of d.settings) lines here.end h.standing.journal h.tied here.is_end here.allocated).1 due)

-- `Memory`, whichever error it is

pub ack_err : (d : Dif) (lines : List Direction) (below : Seen) (at : ℕ) (r : Result Bool Memory) (e : Memory) (d' : Dif) → r ≡ Err e → (seen_of d' ≡ seen_of d) × Holds d' lines below → AcknowledgesAs d lines below at r d'
ack_err d lines below at r e d' is same = subst (λ (v : Result Bool Memory). AcknowledgesAs d lines below at v d') (sym is) same

pub again_err : (d : Dif) (lines : List Direction) (below : Seen) (at : ℕ) (r : Result (Option Num) Memory) (e : Memory) (d' : Dif) → r ≡ Err e → (seen_of d' ≡ seen_of d) × Holds d' lines below → SendsAgainAs d lines below at r d'
again_err d lines below at r e d' is same = subst (λ (v : Result (Option Num) Memory). SendsAgainAs d lines below at v d') (sym is) same
