-- Whatever a step writes off, it may write off; and what the ledgers say stays true after it.
use Rattle.std.proofs.Common.{◌≡◌, ◌≢◌, ℕ, zero, suc, ◌+◌, ◌-◌, ◌*◌, ◌≤◌, List, [], ◌∷◌, ◌++◌, cond, eqb, length, map, slice_get, slice_set, Bool, true, false, Option, Some, None, Result, Ok, Err, append-nil, refl, sym, ◌∙◌, ap, subst, arith, inl, inr}
use Rattle.std.specs.Prelude.{flat_map, position}
use Rattle.std.proofs.lemmas.Bool.{ltb-false}
use Rattle.std.proofs.lemmas.Bool.Decides.{eqb_tells}
use Rattle.std.proofs.lemmas.List.Concat.{flat_map-cons}
use Rattle.rina_account.specs.Causes.{IsUnrouted, missing_at}
use Rattle.rina_account.specs.declared.ledger.Off.{Off}
use Rattle.rina_base.specs.declared.cause.Cause.{Cause}
use Rattle.rina_base.specs.declared.cause.Cause.TheVariants as causes
use Rattle.rina_base.specs.declared.number.Key.{Key}
use Rattle.rina_base.specs.declared.number.Num.{Num}
use Rattle.rina_base.specs.declared.number.Port.{Port}
use Rattle.rina_base.specs.declared.pdu.Pdu.{Pdu}
use Rattle.rina_base.specs.declared.pdu.PduKind.{PduKind}
use Rattle.rina_base.specs.Pdus.{key_of, number_by}
use Rattle.rina_cube.specs.declared.Cube.{Cube}
use Rattle.rina_cube.specs.Cubes.{delta_of}
use Rattle.rina_iface.specs.declared.ask.Fixed.{Fixed}
use Rattle.rina_iface.specs.declared.ends.End.{End}
use Rattle.rina_iface.specs.declared.error.SendError.{SendError}
use Rattle.rina_iface.specs.declared.error.SendError.TheVariants as send
use Rattle.rina_iface.specs.declared.state.Fail.TheVariants.{Below}
use Rattle.rina_iface.specs.declared.state.PortState.{PortState}
use Rattle.rina_iface.specs.declared.state.PortState.TheVariants.{Allocated, Failed, Pending}
use Rattle.rina_iface.specs.Later.{Moves}
use Rattle.rina_iface.specs.Seen.{Seen, unpassed}
use Rattle.rina_iface.proofs.Changed.{slice_get-set_other}
use Rattle.rina_law.specs.declared.entry.Entry.{Entry}
use Rattle.rina_law.specs.Constants.{Constants}
use Rattle.rina_law.specs.Direction.{Direction, has_room, right_of}
use Rattle.rina_law.specs.Line.{arrival_verdict}
use Rattle.rina_law.specs.Lists.{In, highest}
use Rattle.rina_law.specs.Pdus.{piece_in}
use Rattle.rina_law.specs.Pieces.{Joiner, Part, empty_joiner, goes_on}
use Rattle.rina_law.specs.Receiver.{Accepted, Behind, Duplicate, Held, NoRoom, NoState, Piece, Verdict, is_present, next_of}
use Rattle.rina_law.specs.Sender.{piece_again}
use Rattle.rina_law.proofs.Standing.{absent_after}
use Rattle.rina_queue.specs.declared.queue.Queued.{Queued}
use Rattle.rina_data.specs.declared.link.Link.{Link}
use Rattle.rina_data.specs.declared.link.Route.{Route}
use Rattle.rina_data.specs.declared.step.InStep.{InStep}
use Rattle.rina_data.specs.declared.step.InStep.TheVariants as in_
use Rattle.rina_data.specs.declared.step.OutStep.{OutStep}
use Rattle.rina_data.specs.declared.step.OutStep.TheVariants as out
use Rattle.rina_data.specs.declared.step.StepError.{StepError}
use Rattle.rina_data.specs.declared.step.StepError.TheVariants.{CountSpent, Memory, NoIpc, NoLink}
use Rattle.rina_data.specs.declared.step.Took.{Took}
use Rattle.rina_data.specs.declared.step.Took.TheVariants as took
use Rattle.rina_data.specs.Configs.{Member, cube_by}
use Rattle.rina_data.specs.Hops.{Hop, opened}
use Rattle.rina_data.specs.Losing.{line_down, lines_down, without_link}
use Rattle.rina_data.specs.Outgoing.{Goes, sent_bytes}
use Rattle.rina_data.specs.Process.{Process, Queue, is_link, link_by, with_offs, with_put}
use Rattle.rina_data.specs.Queueing.{line_for}
use Rattle.rina_dif_law.specs.Accounted.{IsAccounted}
use Rattle.rina_dif_law.specs.Answering.{IsAnsweredTo, IsFarMade, IsTurnedDown}
use Rattle.rina_dif_law.specs.Asking.{Asking, IsAskedFor}
use Rattle.rina_dif_law.specs.Binding.{IsBound}
use Rattle.rina_ids.specs.Members.{CepIds}
use Rattle.rina_dif_law.specs.Dif.{DifSeen, IsProcess, constants, with_process}
use Rattle.rina_dif_law.specs.Ending.{IsEnded}
use Rattle.rina_dif_law.specs.Ids.{Ids, flipped, pdu_of_ack, pdu_of_piece}
use Rattle.rina_dif_law.specs.Incoming.{GivesUp, Ins, IsArrived, IsInbound, IsKeptNumber, Settles, SettlesFlow, SettlesOff, cause_by, cause_told, joiner_found, lines_for, missing_for}
use Rattle.rina_dif_law.specs.Losing.{FailAll, FailFirst, Loses}
use Rattle.rina_dif_law.specs.Numbered.{IsNumbered}
use Rattle.rina_dif_law.specs.Outgoing.{Outs}
use Rattle.rina_dif_law.specs.Passing.{IsPassed, IsTicked}
use Rattle.rina_dif_law.specs.Sending.{IsOffered, Offers}
use Rattle.rina_dif_law.specs.Standing.{IsConn, IsStanding}
use Rattle.rina_dif_law.specs.Timely.{IsAcknowledged, IsAtHome, IsForgotten, IsResent, Posts}
use Rattle.rina_dif_law.specs.WriteOffLaws.{MayFailOff, Nothing}
use Rattle.rina_dif_law.specs.WriteOffs.{HasFullQueue, IsKnown, IsOverNow, IsReceiver, IsTooOld, MayBy, MayWriteOff, NoPort, RefusesOver, Writes, last_joined}
use Rattle.rina_dif_law.specs.Written.{AreWrittenOff}
use Rattle.rina_dif_law.proofs.Accounting.{home_addr}
use Rattle.rina_dif_law.proofs.Finding.{at_place, beside}
use Rattle.rina_dif_law.proofs.Finishing.{ended_stands}
use Rattle.rina_dif_law.proofs.Linkless.{first_stay}
use Rattle.rina_dif_law.proofs.Numbering.{ended_numbered}
use Rattle.rina_dif_law.proofs.Own.{partner_back}
use Rattle.rina_dif_law.proofs.Receiving.{member_at}
use Rattle.rina_dif_law.specs.Cloud.{Cloud, Everywhere}
use Rattle.rina_dif_law.proofs.Own.{pair}
use Rattle.rina_dif_law.proofs.Placed.{qos_from}
use Rattle.rina_dif_law.specs.Places.{ids_from}
use Rattle.rina_dif_law.proofs.Verdicts.{behind_old, duplicate_known, missing_same, roomless, stateless, unrouted}
use Rattle.rina_dif_law.proofs.Ends.{same_some}
use Rattle.rina_dif_law.proofs.Writing.{IsNoted, in_append, in_one, kept_noted, known_more, known_same, known_set, line_noted, noted_as, noted_on, one_noted, ports_lost, ports_same, process_noted, quiet_noted, same_noted, was_lawful, writes, written_on}

-- ---- what leaves

-- a live link stands among the links
link_there : (links : List Link) (n : ℕ) (link : Link) → link_by n links ≡ Some link → (k : ℕ) × (slice_get links k ≡ Some link)
link_there links n link h = at_place links (position (is_link n) links) link h

goes_noted : (refuses : Port → ℕ → Option SendError) (d : DifSeen) (lines : List Direction) (below : Seen) (i n : ℕ) (member : Member) (process : Process) (r : Result OutStep StepError) (process' : Process) (d' : DifSeen) (below' : Seen) → IsProcess d i member process → d' ≡ with_process d i process' → Goes refuses d.config d.clock process below n r process' below' → IsNoted (MayWriteOff d lines below (RefusesOver refuses below)) d d'
goes_noted refuses d lines below i n member process (Ok out.Idle) process' d' below' is new s = kept_noted _ d d' i process process' new is.is_process (ap (λ (p : Process). p.ledger) s.2) (ap (λ (p : Process). p.links) s.2)
goes_noted refuses d lines below i n member process (Ok (out.Sent key)) process' d' below' is new s = kept_noted _ d d' i process process' new is.is_process (ap (λ (p : Process). p.ledger) s.new_is) (ap (λ (p : Process). p.links) s.new_is)
goes_noted refuses d lines below i n member process (Ok (out.Off key (causes.Expired left charge))) process' d' below' is new s =
    line_noted (MayWriteOff d lines below (RefusesOver refuses below)) d d' i process process' (record { key = key; cause = causes.Expired left charge }) new is.is_process (ap (λ (p : Process). p.ledger) s.new_is) (ap (λ (p : Process). p.links) s.new_is)
    (record {
      member = member;
      process = process;
      is_process = is;
      may = inl (s.why.2, inl (record { number = n; link = s.link; place = s.place; queue = s.queue; item = s.item; head = s.head; key_is = s.key_is; promise = s.promise; promised = s.promised; left_is = s.why.0; charge_is = s.why.1 }));
    })
goes_noted refuses d lines below i n member process (Ok (out.Off key (causes.LinkDown port))) process' d' below' is new s =
    let at = link_there process.links n s.link s.head.is_link in
    line_noted (MayWriteOff d lines below (RefusesOver refuses below)) d d' i process process' (record { key = key; cause = causes.LinkDown port }) new is.is_process (ap (λ (p : Process). p.ledger) s.new_is) (ap (λ (p : Process). p.links) s.new_is)
    (record {
      member = member;
      process = process;
      is_process = is;
      may = inl (record { place = at.0; link = s.link; stands = at.1; port_is = s.why.port_is; is_down = subst (RefusesOver refuses below) (sym s.why.port_is) (length (sent_bytes d.config d.clock s.item s.promise), s.why.error, s.why.refused, s.why.over) });
    })
goes_noted refuses d lines below i n member process (Ok (out.Off key cause)) process' d' below' is new s = absurd s
goes_noted refuses d lines below i n member process (Ok (out.Held why)) process' d' below' is new s = kept_noted _ d d' i process process' new is.is_process (ap (λ (p : Process). p.ledger) s.1) (ap (λ (p : Process). p.links) s.1)
goes_noted refuses d lines below i n member process (Err Memory) process' d' below' is new s = kept_noted _ d d' i process process' new is.is_process (ap (λ (p : Process). p.ledger) s.0) (ap (λ (p : Process). p.links) s.0)
goes_noted refuses d lines below i n member process (Err NoIpc) process' d' below' is new s = absurd s
goes_noted refuses d lines below i n member process (Err NoLink) process' d' below' is new s = kept_noted _ d d' i process process' new is.is_process (ap (λ (p : Process). p.ledger) s.1) (ap (λ (p : Process). p.links) s.1)
goes_noted refuses d lines below i n member process (Err (CountSpent need left)) process' d' below' is new s = absurd s

there : (d : DifSeen) (lines : List Direction) (below : Seen) (i : ℕ) (p : Process) → IsStanding d lines below → slice_get d.processes i ≡ Some p → (m : Member) × IsProcess d i m p
there d lines below i p st is = (let m = member_at d lines below i p st is in (m.0, record { is_member = m.1; is_process = is }))

pub outs_noted : (refuses : Port → ℕ → Option SendError) (d : DifSeen) (lines : List Direction) (below : Seen) (i n : ℕ) (r : Result OutStep StepError) (d' : DifSeen) (below' : Seen) → IsStanding d lines below → Outs refuses d below i n r d' below' → IsNoted (MayWriteOff d lines below (RefusesOver refuses below)) d d'
outs_noted refuses d lines below i n (Ok x) d' below' st s = (let m = there d lines below i s.process st s.is_process in goes_noted refuses d lines below i n m.0 s.process (Ok x) s.process' d' below' m.1 s.new_is s.done)
outs_noted refuses d lines below i n (Err Memory) d' below' st s = (let m = there d lines below i s.process st s.is_process in goes_noted refuses d lines below i n m.0 s.process (Err Memory) s.process' d' below' m.1 s.new_is s.done)
outs_noted refuses d lines below i n (Err NoIpc) d' below' st s = same_noted _ d d' s.1
outs_noted refuses d lines below i n (Err NoLink) d' below' st s = (let m = there d lines below i s.process st s.is_process in goes_noted refuses d lines below i n m.0 s.process (Err NoLink) s.process' d' below' m.1 s.new_is s.done)
outs_noted refuses d lines below i n (Err (CountSpent need left)) d' below' st s = (let m = there d lines below i s.process st s.is_process in goes_noted refuses d lines below i n m.0 s.process (Err (CountSpent need left)) s.process' d' below' m.1 s.new_is s.done)

pub outs_write : (refuses : Port → ℕ → Option SendError) (d : DifSeen) (lines : List Direction) (below : Seen) (i n : ℕ) (r : Result OutStep StepError) (d' : DifSeen) (below' : Seen) → IsStanding d lines below → Outs refuses d below i n r d' below' → Writes (MayWriteOff d lines below (RefusesOver refuses below)) d d'
outs_write refuses d lines below i n r d' below' st s = writes _ d d' (outs_noted refuses d lines below i n r d' below' st s)

pub outs_written : (refuses : Port → ℕ → Option SendError) (d : DifSeen) (lines : List Direction) (below : Seen) (i n : ℕ) (r : Result OutStep StepError) (d' : DifSeen) (below' : Seen) → IsStanding d lines below → AreWrittenOff d → Outs refuses d below i n r d' below' → AreWrittenOff d'
outs_written refuses d lines below i n r d' below' st w s = written_on (MayWriteOff d lines below (RefusesOver refuses below)) d d' (outs_noted refuses d lines below i n r d' below' st s) (was_lawful d lines below (RefusesOver refuses below)) w

-- ---- a connection here

abbrev num_at : ℕ → ℕ → Num
num_at cep seq = record { cep = cep; seq = seq }

num_same : (a b c e : ℕ) → a ≡ c → b ≡ e → num_at a b ≡ num_at c e
num_same a b c e h g = ap (λ (n : ℕ). num_at n b) h ∙ ap (num_at c) g

-- what is known of a direction in which an end receives
record IsReceiving (d : DifSeen) (ids : Ids) (line : Direction) : Type 0 where
  clock : line.line.clock ≡ d.clock
  cube : Cube
  is_cube : cube_by ids.qos d.config.cubes ≡ Some cube

receiving : (d : DifSeen) (lines : List Direction) (below : Seen) (at from : ℕ) (e : End) (ids : Ids) (line : Direction) → IsStanding d lines below → IsConn d.ends d.conns at e ids → IsInbound d lines e from line → IsReceiving d ids line
receiving d lines below at from e ids line st conn inbound =
    let partner = inbound.partner in
    let q = pair d.config d.clock (Cloud Everywhere d.config d.processes below) d.ids d.ends d.conns lines st.own from at partner e inbound.is_partner conn.end inbound.partners in
    let flow = (st.own.flows_are from at partner e q.x q.flow q.far line inbound.is_partner conn.end inbound.partners q.is_x q.stands q.known inbound.is_line).direction in
    let cube = (st.journal.named from at partner e inbound.is_partner conn.end inbound.partners).cube in
    let qos : (ids_from q.x.side q.flow q.far partner.cube).qos ≡ ids.qos = qos_from q.x.side q.flow q.far partner.cube ∙ sym cube ∙ sym (st.own.ids at e ids conn).qos in
    record { clock = flow.backed.clock; cube = flow.cube; is_cube = subst (λ (n : ℕ). cube_by n d.config.cubes ≡ Some flow.cube) qos flow.is_cube }

joiner_cause : (b g : Bool) (m : ℕ) (cause : Cause) → Some cause ≡ cond b None (cond g None (Some (causes.Broken m))) → (g ≡ false) × (cause ≡ causes.Broken m)
joiner_cause true g m cause h = absurd cc
joiner_cause false true m cause h = absurd cc
joiner_cause false false m cause h = (refl, cc)

some_is : (a b : Cause) → Some a ≡ Some b → a ≡ b
some_is a b h = cc

none_is : (a : Cause) → Some a ≡ None → ⊥
none_is a h = absurd cc

module _ (d : DifSeen) (lines : List Direction) (below : Seen) (down : Port → Type 0) (addr : ℕ) (process : Process) (key : Key) (ids : Ids) (cube : Cube) (line : Direction) (p : Piece) (r : IsReceiver d lines addr key ids cube line) (clock : line.line.clock ≡ d.clock) where
  -- the piece that came
  came_may : (v : Verdict) → key.seq ≡ p.number → arrival_verdict (constants d.config cube (flipped ids)) line.line p (has_room (constants d.config cube (flipped ids)) line) ≡ v → (cause : Cause) → Some cause ≡ cause_by v (constants d.config cube (flipped ids)) p line → MayBy d lines below down addr process key cause
  came_may Accepted seq is cause h =
      let c : Constants = constants d.config cube (flipped ids) in
      let j : Joiner = joiner_found c line in
      let x = joiner_cause p.part.begins (goes_on p.number j) (missing_for p j) cause h in
      subst (λ (z : Cause). MayBy d lines below down addr process key z) (sym x.1) (ids, cube, line, r, record { came = p.number; missing_is = missing_same p j; whose = inl (seq, x.0) })
  came_may Held seq is cause h = absurd (none_is cause h)
  came_may Duplicate seq is cause h =
      let c : Constants = constants d.config cube (flipped ids) in
      let k = duplicate_known cube.kind (is_present c line.line.clock line.line.receiver) line.line.receiver p (has_room c line) is in
      subst (λ (z : Cause). MayBy d lines below down addr process key z) (sym (some_is cause _ h)) (num_same c.cep p.number key.scep key.seq (sym r.cep) (sym seq), (ids, cube, line, r, subst (IsKnown cube.kind line.line.receiver) (sym seq) k))
  came_may Behind seq is cause h =
      let c : Constants = constants d.config cube (flipped ids) in
      let k = behind_old cube.kind (is_present c line.line.clock line.line.receiver) line.line.receiver p (has_room c line) is in
      subst (λ (z : Cause). MayBy d lines below down addr process key z) (sym (some_is cause _ h)) (ids, cube, line, r, (refl, subst (IsTooOld cube.kind (highest line.line.receiver.accepted)) (sym seq) k))
  came_may NoState seq is cause h =
      let c : Constants = constants d.config cube (flipped ids) in
      let k = stateless cube.kind (is_present c line.line.clock line.line.receiver) line.line.receiver p (has_room c line) is in
      subst (λ (z : Cause). MayBy d lines below down addr process key z) (sym (some_is cause _ h)) (ids, cube, line, r, (k.0, (ap (λ (n : ℕ). is_present c n line.line.receiver) (sym clock) ∙ k.1, k.2)))
  came_may NoRoom seq is cause h =
      let c : Constants = constants d.config cube (flipped ids) in
      let k = roomless cube.kind (is_present c line.line.clock line.line.receiver) line.line.receiver p (has_room c line) is in
      subst (λ (z : Cause). MayBy d lines below down addr process key z) (sym (some_is cause _ h)) (ids, cube, line, r, (refl, ltb-false (length line.inbox.got - line.passed) cube.window k))

  -- one that was held
  dropped_may : (b : Bool) → is_present (constants d.config cube (flipped ids)) line.line.clock line.line.receiver ≡ b → IsKeptNumber line key.seq → (cause : Cause) → GivesUp (constants d.config cube (flipped ids)) p line b cause → MayBy d lines below down addr process key cause
  dropped_may false is kept (causes.StateGone last_in) h =
      let c : Constants = constants d.config cube (flipped ids) in
      let gone : line.line.receiver.last_in + 2 * delta_of cube ≤ line.line.clock = absent_after c line.line.clock line.line.receiver is h.0 in
      let last = h.1 in
      (ids, cube, line, r, (h.1, omega (arith, gone, last, clock), kept))
  dropped_may true is kept (causes.Broken missing) h =
      let c : Constants = constants d.config cube (flipped ids) in
      let found : joiner_found c line ≡ line.inbox.joiner = ap (λ (b : Bool). cond b line.inbox.joiner empty_joiner) is in
      (ids, cube, line, r, record { came = p.number; missing_is = h ∙ missing_same p line.inbox.joiner ∙ ap (λ (j : Joiner). missing_at (last_joined j) p.number) (sym found); whose = inr kept })
  dropped_may b is kept cause h = absurd h

-- the own line of a PDU that came
own_line : (pdu : Pdu) (cause : Option Cause) (off : Off) → In off (lines_for pdu cause) → (why : Cause) × (cause ≡ Some why) × (off ≡ line_for pdu why)
own_line pdu None off one = absurd one
own_line pdu (Some why) off one = (why, refl, in_one off (line_for pdu why) one)

arrived_noted : (d : DifSeen) (lines : List Direction) (below : Seen) (i : ℕ) (member : Member) (process : Process) (pdu : Pdu) (cause : Option Cause) (d' : DifSeen) (lines' : List Direction) → IsStanding d lines below → IsProcess d i member process → pdu.dst ≡ member.addr → IsArrived d lines i process pdu cause d' lines' → IsNoted (MayWriteOff d lines below NoPort) d d'
arrived_noted d lines below i member process pdu cause d' lines' st is dst s =
    let c : Constants = constants d.config s.cube (flipped s.ids) in
    let p : Piece = piece_in pdu in
    let conn = s.taker.is_conn in
    let names = s.taker.names in
    let offs : List Off = s.dropped ++ lines_for pdu cause in
    let known = receiving d lines below s.place s.from s.end s.ids s.line st conn s.inbound in
    let own : s.ids.own ≡ member.addr = sym names.dst ∙ dst in
    let holds : ℕ → Off → Type 0 = MayWriteOff d lines below NoPort in
    let each : (off : Off) → In off offs → holds i off = λ off here. elim (in_append s.dropped (lines_for pdu cause) off here) [
      | inl old ↦
          (let x = s.all_dropped off old in
          let r : IsReceiver d lines member.addr off.key s.ids s.cube s.line = record { piece = x.kind; place = s.place; end = s.end; is_conn = conn; allocated = s.taker.allocated; own = own; far = x.src; cep = x.scep; is_cube = s.is_cube; from = s.from; inbound = s.inbound } in
          record { member = member; process = process; is_process = is; may = inl (dropped_may d lines below NoPort member.addr process off.key s.ids s.cube s.line p r known.clock (is_present c s.line.line.clock s.line.line.receiver) refl x.held off.cause x.why) })
      | inr new ↦
          (let w = own_line pdu cause off new in
          let key : Key = key_of pdu in
          let r : IsReceiver d lines member.addr key s.ids s.cube s.line = record { piece = s.piece; place = s.place; end = s.end; is_conn = conn; allocated = s.taker.allocated; own = own; far = names.src; cep = names.scep; is_cube = s.is_cube; from = s.from; inbound = s.inbound } in
          let seq : key.seq ≡ p.number = ap (λ (kind : PduKind). number_by kind pdu.seq pdu.ack) s.piece in
          let may = came_may d lines below NoPort member.addr process key s.ids s.cube s.line p r known.clock (arrival_verdict c s.line.line p (has_room c s.line)) seq refl w.0 (sym w.1 ∙ s.cause_is) in
          subst (holds i) (sym w.2) (record { member = member; process = process; is_process = is; may = inl may }))
    ] in
    subst (IsNoted holds d) (sym s.new_is) (one_noted holds d _ i process (with_offs process offs) offs is.is_process refl each (ports_same process.links process.links refl) (known_set d.ends d.conns s.place s.end _ conn.end (λ waits. waits)))

-- ---- what comes

module _ (d : DifSeen) (lines : List Direction) (below : Seen) (st : IsStanding d lines below) (i n : ℕ) (member : Member) (process : Process) (is : IsProcess d i member process) (link : Link) (is_link' : link_by n process.links ≡ Some link) (entry : Entry) (oldest : unpassed below link.port ≡ Some entry) (hop : Hop) (opens : opened d.config.widths entry.bytes ≡ Some hop) where
  one_off : (d' : DifSeen) (cause : Cause) → d' ≡ with_process d i (with_offs process (line_for hop.pdu cause ∷ [])) → MayBy d lines below NoPort member.addr process (key_of hop.pdu) cause → IsNoted (MayWriteOff d lines below NoPort) d d'
  one_off d' cause new may = line_noted (MayWriteOff d lines below NoPort) d d' i process (with_offs process (line_for hop.pdu cause ∷ [])) (line_for hop.pdu cause) new is.is_process refl refl (record { member = member; process = process; is_process = is; may = inl may })

  off_noted : (cause : Cause) (d' : DifSeen) (lines' : List Direction) → SettlesOff d lines i member process entry.tick hop cause d' lines' → IsNoted (MayWriteOff d lines below NoPort) d d'
  off_noted (causes.Expired left charge) d' lines' s = one_off d' (causes.Expired left charge) s.3 (s.2, inr (record { number = n; link = link; is_link = is_link'; entry = entry; oldest = oldest; hop = hop; opens = opens; key_is = refl; left_is = s.0; charge_is = s.1 }))
  off_noted (causes.NoRoute dst) d' lines' s = one_off d' (causes.NoRoute dst) s.4 (λ e. s.1 (sym s.2 ∙ e), unrouted process.routes dst s.3)
  off_noted (causes.QueueFull most) d' lines' s =
      let full : HasFullQueue d.config.cap process (key_of hop.pdu) = record { pdu = hop.pdu; key_is = refl; link = s.3.link; next = s.3.next; place = s.3.place; queue = s.3.queue; is_queue = s.3.is_queue; full = s.3.full } in
      one_off d' (causes.QueueFull most) s.4 (s.2, subst (λ (c : ℕ). HasFullQueue c process (key_of hop.pdu)) (sym s.2) full)
  off_noted (causes.NoConnection cep) d' lines' s = one_off d' (causes.NoConnection cep) s.4 (inl (record { pdu = hop.pdu; key_is = refl; cep_is = s.2; dst = s.1; none = s.3 }))
  off_noted (causes.LinkDown port) d' lines' s = absurd s
  off_noted (causes.Duplicate num) d' lines' s = arrived_noted d lines below i member process hop.pdu (Some (causes.Duplicate num)) d' lines' st is s.1 s.2
  off_noted (causes.Behind top) d' lines' s = arrived_noted d lines below i member process hop.pdu (Some (causes.Behind top)) d' lines' st is s.1 s.2
  off_noted (causes.NoState drf) d' lines' s = arrived_noted d lines below i member process hop.pdu (Some (causes.NoState drf)) d' lines' st is s.1 s.2
  off_noted (causes.NoRoom most) d' lines' s = arrived_noted d lines below i member process hop.pdu (Some (causes.NoRoom most)) d' lines' st is s.1 s.2
  off_noted (causes.StateGone last_in) d' lines' s = arrived_noted d lines below i member process hop.pdu (Some (causes.StateGone last_in)) d' lines' st is s.1 s.2
  off_noted (causes.Broken missing) d' lines' s = arrived_noted d lines below i member process hop.pdu (Some (causes.Broken missing)) d' lines' st is s.1 s.2

  flow_noted : (end : Took) (d' : DifSeen) (lines' : List Direction) → SettlesFlow d lines i member process entry.tick hop end d' lines' → IsNoted (MayWriteOff d lines below NoPort) d d'
  flow_noted took.Accepted d' lines' s = elim (s.2) [
    | inl x ↦ arrived_noted d lines below i member process hop.pdu None d' lines' st is s.1 x
    | inr x ↦ same_noted _ d d' x.new_is
  ]
  flow_noted took.Relayed d' lines' s =
      let put = s.2.passed in
      kept_noted _ d d' i process s.2.process' s.2.new_is is.is_process (ap (λ (p : Process). p.ledger) put.new_is) (ap (λ (p : Process). p.links) put.new_is)
  flow_noted (took.Off cause) d' lines' s = off_noted cause d' lines' s

  settles_noted : (end : Took) (d' : DifSeen) (lines' : List Direction) → Settles d lines i member process entry.tick hop end d' lines' → IsNoted (MayWriteOff d lines below NoPort) d d'
  settles_noted end d' lines' s = elim s [
    | inl flow ↦ flow_noted end d' lines' flow.1
    | inr link ↦
        let offs : List Off = link.dropped ++ lines_for hop.pdu (cause_told end) in
        process_noted (MayWriteOff d lines below NoPort) d d' i process (with_offs process offs) offs link.new_is is.is_process refl (λ off one. record { member = member; process = process; is_process = is; may = inr (link.each off one) }) (ports_same process.links process.links refl)
  ]

pub ins_noted : (d : DifSeen) (lines : List Direction) (below : Seen) (i n : ℕ) (r : Result InStep StepError) (d' : DifSeen) (lines' : List Direction) (below' : Seen) → IsStanding d lines below → Ins d lines below i n r d' lines' below' → IsNoted (MayWriteOff d lines below NoPort) d d'
ins_noted d lines below i n (Ok in_.Idle) d' lines' below' st s = same_noted _ d d' s.1
ins_noted d lines below i n (Ok (in_.Took key end)) d' lines' below' st s = settles_noted d lines below st i n s.member s.process s.is_process s.link s.is_link s.entry s.oldest s.hop s.opens end d' lines' s.settled
ins_noted d lines below i n (Err Memory) d' lines' below' st s = same_noted _ d d' s.0
ins_noted d lines below i n (Err NoIpc) d' lines' below' st s = same_noted _ d d' s.1
ins_noted d lines below i n (Err NoLink) d' lines' below' st s = same_noted _ d d' s.1
ins_noted d lines below i n (Err (CountSpent need left)) d' lines' below' st s = same_noted _ d d' s.0

pub ins_write : (d : DifSeen) (lines : List Direction) (below : Seen) (i n : ℕ) (r : Result InStep StepError) (d' : DifSeen) (lines' : List Direction) (below' : Seen) → IsStanding d lines below → Ins d lines below i n r d' lines' below' → Writes (MayWriteOff d lines below NoPort) d d'
ins_write d lines below i n r d' lines' below' st s = writes _ d d' (ins_noted d lines below i n r d' lines' below' st s)

pub ins_written : (d : DifSeen) (lines : List Direction) (below : Seen) (i n : ℕ) (r : Result InStep StepError) (d' : DifSeen) (lines' : List Direction) (below' : Seen) → IsStanding d lines below → AreWrittenOff d → Ins d lines below i n r d' lines' below' → AreWrittenOff d'
ins_written d lines below i n r d' lines' below' st w s = written_on (MayWriteOff d lines below NoPort) d d' (ins_noted d lines below i n r d' lines' below' st s) (was_lawful d lines below NoPort) w

-- ---- a PDU that is made beside a send

posts_noted : (d : DifSeen) (lines : List Direction) (below : Seen) (i mpl : ℕ) (member : Member) (process process' : Process) (pdu : Pdu) (cause : Option Cause) (d' : DifSeen) → IsProcess d i member process → pdu.dst ≢ member.addr → d' ≡ with_process d i process' → Posts d.config d.clock mpl process pdu cause process' → IsNoted (MayWriteOff d lines below NoPort) d d'
posts_noted d lines below i mpl member process process' pdu None d' is far new s = kept_noted _ d d' i process process' new is.is_process (ap (λ (p : Process). p.ledger) s.new_is) (ap (λ (p : Process). p.links) s.new_is)
posts_noted d lines below i mpl member process process' pdu (Some (causes.NoRoute dst)) d' is far new s =
    line_noted (MayWriteOff d lines below NoPort) d d' i process process' (line_for pdu (causes.NoRoute dst)) new is.is_process (ap (λ (p : Process). p.ledger) s.2) (ap (λ (p : Process). p.links) s.2)
    (record { member = member; process = process; is_process = is; may = inl (λ e. far (sym s.0 ∙ e), subst (IsUnrouted (map (λ (x : Route). x.dst) process.routes)) (sym s.0) (unrouted process.routes pdu.dst s.1)) })
posts_noted d lines below i mpl member process process' pdu (Some (causes.QueueFull most)) d' is far new s =
    let full : HasFullQueue d.config.cap process (key_of pdu) = record { pdu = pdu; key_is = refl; link = s.1.link; next = s.1.next; place = s.1.place; queue = s.1.queue; is_queue = s.1.is_queue; full = s.1.full } in
    line_noted (MayWriteOff d lines below NoPort) d d' i process process' (line_for pdu (causes.QueueFull most)) new is.is_process (ap (λ (p : Process). p.ledger) s.2) (ap (λ (p : Process). p.links) s.2)
    (record { member = member; process = process; is_process = is; may = inl (s.0, subst (λ (c : ℕ). HasFullQueue c process (key_of pdu)) (sym s.0) full) })
posts_noted d lines below i mpl member process process' pdu (Some cause) d' is far new s = absurd s

-- the far end of a connection is not at the address of its own IPC process
far_apart : (d : DifSeen) (lines : List Direction) (below : Seen) (at i : ℕ) (e : End) (ids : Ids) (process : Process) (cube : Cube) (m : Member) → IsNumbered d below → IsAccounted d lines below → IsAtHome d at e ids i process cube → slice_get d.config.members i ≡ Some m → ids.far ≢ m.addr
far_apart d lines below at i e ids process cube m numbered a home member same = a.apart at ids home.is_conn.ids_are (home_addr d below at e ids i m numbered home.is_conn home.at_home member ∙ sym same)

pub acknowledged_noted : (d : DifSeen) (lines : List Direction) (below : Seen) (at : ℕ) (cause : Option Cause) (d' : DifSeen) (lines' : List Direction) → IsStanding d lines below → IsNumbered d below → IsAccounted d lines below → IsAcknowledged d lines at cause d' lines' → IsNoted (MayWriteOff d lines below NoPort) d d'
acknowledged_noted d lines below at cause d' lines' st numbered a s =
    let m = there d lines below s.i s.process st s.is_home.is_process in
    posts_noted d lines below s.i s.cube.mpl m.0 s.process s.process' (pdu_of_ack s.ids (record { ack = next_of s.line.line.receiver - 1; right = right_of (constants d.config s.cube (flipped s.ids)) s.line })) cause d' m.1 (far_apart d lines below at s.i s.end s.ids s.process s.cube m.0 numbered a s.is_home m.1.is_member) s.new_is s.posted

pub acknowledged_write : (d : DifSeen) (lines : List Direction) (below : Seen) (at : ℕ) (cause : Option Cause) (d' : DifSeen) (lines' : List Direction) → IsStanding d lines below → IsNumbered d below → IsAccounted d lines below → IsAcknowledged d lines at cause d' lines' → Writes (MayWriteOff d lines below NoPort) d d'
acknowledged_write d lines below at cause d' lines' st numbered a s = writes _ d d' (acknowledged_noted d lines below at cause d' lines' st numbered a s)

pub acknowledged_written : (d : DifSeen) (lines : List Direction) (below : Seen) (at : ℕ) (cause : Option Cause) (d' : DifSeen) (lines' : List Direction) → IsStanding d lines below → IsNumbered d below → IsAccounted d lines below → AreWrittenOff d → IsAcknowledged d lines at cause d' lines' → AreWrittenOff d'
acknowledged_written d lines below at cause d' lines' st numbered a w s = written_on (MayWriteOff d lines below NoPort) d d' (acknowledged_noted d lines below at cause d' lines' st numbered a s) (was_lawful d lines below NoPort) w

pub resent_noted : (d : DifSeen) (lines : List Direction) (below : Seen) (at : ℕ) (cause : Option Cause) (d' : DifSeen) (lines' : List Direction) → IsStanding d lines below → IsNumbered d below → IsAccounted d lines below → IsResent d lines at cause d' lines' → IsNoted (MayWriteOff d lines below NoPort) d d'
resent_noted d lines below at cause d' lines' st numbered a s =
    let m = there d lines below s.i s.process st s.is_home.is_process in
    posts_noted d lines below s.i s.cube.mpl m.0 s.process s.process' (pdu_of_piece s.ids (piece_again s.number s.line.line.sender)) cause d' m.1 (far_apart d lines below at s.i s.end s.ids s.process s.cube m.0 numbered a s.is_home m.1.is_member) s.new_is s.posted

pub resent_write : (d : DifSeen) (lines : List Direction) (below : Seen) (at : ℕ) (cause : Option Cause) (d' : DifSeen) (lines' : List Direction) → IsStanding d lines below → IsNumbered d below → IsAccounted d lines below → IsResent d lines at cause d' lines' → Writes (MayWriteOff d lines below NoPort) d d'
resent_write d lines below at cause d' lines' st numbered a s = writes _ d d' (resent_noted d lines below at cause d' lines' st numbered a s)

pub resent_written : (d : DifSeen) (lines : List Direction) (below : Seen) (at : ℕ) (cause : Option Cause) (d' : DifSeen) (lines' : List Direction) → IsStanding d lines below → IsNumbered d below → IsAccounted d lines below → AreWrittenOff d → IsResent d lines at cause d' lines' → AreWrittenOff d'
resent_written d lines below at cause d' lines' st numbered a w s = written_on (MayWriteOff d lines below NoPort) d d' (resent_noted d lines below at cause d' lines' st numbered a s) (was_lawful d lines below NoPort) w

-- ---- what is held is given up

pub forgotten_noted : (d : DifSeen) (lines : List Direction) (below : Seen) (at : ℕ) (d' : DifSeen) (lines' : List Direction) → IsStanding d lines below → IsNumbered d below → IsForgotten d lines at d' lines' → IsNoted (MayWriteOff d lines below NoPort) d d'
forgotten_noted d lines below at d' lines' st numbered s =
    let m = there d lines below s.i s.process st s.is_home.is_process in
    let c : Constants = constants d.config s.cube (flipped s.ids) in
    let conn = s.is_home.is_conn in
    let known = receiving d lines below at s.from s.end s.ids s.line st conn s.inbound in
    let own = home_addr d below at s.end s.ids s.i m.0 numbered conn s.is_home.at_home m.1.is_member in
    let holds : ℕ → Off → Type 0 = MayWriteOff d lines below NoPort in
    let each : (off : Off) → In off s.dropped → holds s.i off = λ off here.
    let x = s.all_dropped off here in
    let r : IsReceiver d lines m.0.addr off.key s.ids s.cube s.line = record { piece = x.0; place = at; end = s.end; is_conn = conn; allocated = s.is_home.allocated; own = own; far = x.1; cep = x.2; is_cube = s.is_home.is_cube; from = s.from; inbound = s.inbound } in
    let gone : s.line.line.receiver.last_in + 2 * delta_of s.cube ≤ s.line.line.clock = absent_after c s.line.line.clock s.line.line.receiver s.gone (s.made off here) in
    let now = known.clock in
    let may : MayBy d lines below NoPort m.0.addr s.process off.key (causes.StateGone s.line.line.receiver.last_in) = (s.ids, s.cube, s.line, r, (refl, omega (arith, gone, now), x.3)) in
    record { member = m.0; process = s.process; is_process = m.1; may = inl (subst (λ (z : Cause). MayBy d lines below NoPort m.0.addr s.process off.key z) (sym x.4) may) } in
    process_noted holds d d' s.i s.process (with_offs s.process s.dropped) s.dropped s.new_is s.is_home.is_process refl each (ports_same s.process.links s.process.links refl)

pub forgotten_write : (d : DifSeen) (lines : List Direction) (below : Seen) (at : ℕ) (d' : DifSeen) (lines' : List Direction) → IsStanding d lines below → IsNumbered d below → IsForgotten d lines at d' lines' → Writes (MayWriteOff d lines below NoPort) d d'
forgotten_write d lines below at d' lines' st numbered s = writes _ d d' (forgotten_noted d lines below at d' lines' st numbered s)

pub forgotten_written : (d : DifSeen) (lines : List Direction) (below : Seen) (at : ℕ) (d' : DifSeen) (lines' : List Direction) → IsStanding d lines below → IsNumbered d below → AreWrittenOff d → IsForgotten d lines at d' lines' → AreWrittenOff d'
forgotten_written d lines below at d' lines' st numbered w s = written_on (MayWriteOff d lines below NoPort) d d' (forgotten_noted d lines below at d' lines' st numbered s) (was_lawful d lines below NoPort) w

-- whatever CEP-ids the members hold
reheld_noted : (holds : ℕ → Off → Type 0) (d d' : DifSeen) (held : List CepIds) → IsNoted holds d d' → IsNoted holds d (record d' { ids = held })
reheld_noted holds d d' held n = record { config = n.config; manage = n.manage; clock = n.clock; conns = n.conns; each = n.each }

-- an allocated end never waits again
no_wait : (old new : PortState) → old ≡ Allocated → Moves old new → new ≡ Pending → ⊥
no_wait old new is moves waits = let clash : Pending ≡ Allocated = subst (λ (s : PortState). Moves s Pending) is (subst (Moves old) waits moves) in cc

pub ended_noted : (d : DifSeen) (lines : List Direction) (below : Seen) (at : ℕ) (state : PortState) (d' : DifSeen) → IsStanding d lines below → IsNumbered d below → IsEnded d lines at state d' → IsNoted (MayWriteOff d lines below NoPort) d d'
ended_noted d lines below at state d' st numbered s =
    let m = there d lines below s.i s.process st s.is_process in
    let conn = s.is_conn in
    let p = st.journal.allocated at s.end conn.end s.allocated in
    let l = beside d.ends lines p.place p.other st.own.lines_alike p.stands in
    let inbound : IsInbound d lines s.end p.place l.0 = record { partner = p.other; is_partner = p.stands; partners = partner_back s.end p.other p.partner; is_line = l.1 } in
    let known = receiving d lines below at p.place s.end s.ids l.0 st conn inbound in
    let own = home_addr d below at s.end s.ids s.i m.0 numbered conn s.at_home m.1.is_member in
    let holds : ℕ → Off → Type 0 = MayWriteOff d lines below NoPort in
    let each : (off : Off) → In off s.dropped → holds s.i off = λ off here.
    let x = s.all_dropped off p.place l.0 here inbound in
    let r : IsReceiver d lines m.0.addr off.key s.ids known.cube l.0 = record { piece = x.0; place = at; end = s.end; is_conn = conn; allocated = s.allocated; own = own; far = x.1; cep = x.2; is_cube = known.is_cube; from = p.place; inbound = inbound } in
    let may : MayBy d lines below NoPort m.0.addr s.process off.key (causes.NoConnection s.ids.scep) = inr (s.ids, known.cube, l.0, r, (refl, x.3)) in
    record { member = m.0; process = s.process; is_process = m.1; may = inl (subst (λ (z : Cause). MayBy d lines below NoPort m.0.addr s.process off.key z) (sym x.4) may) } in
    subst (IsNoted holds d) (sym s.new_is) (reheld_noted holds d (record d { ends = slice_set d.ends at (record s.end { state = state }); processes = slice_set d.processes s.i (with_offs s.process s.dropped) }) s.held (one_noted holds d (slice_set d.ends at (record s.end { state = state })) s.i s.process (with_offs s.process s.dropped) s.dropped s.is_process refl each (ports_same s.process.links s.process.links refl) (known_set d.ends d.conns at s.end (record s.end { state = state }) conn.end (λ waits. absurd (no_wait s.end.state state s.allocated s.moves waits)))))

pub ended_write : (d : DifSeen) (lines : List Direction) (below : Seen) (at : ℕ) (state : PortState) (d' : DifSeen) → IsStanding d lines below → IsNumbered d below → IsEnded d lines at state d' → Writes (MayWriteOff d lines below NoPort) d d'
ended_write d lines below at state d' st numbered s = writes _ d d' (ended_noted d lines below at state d' st numbered s)

pub ended_written : (d : DifSeen) (lines : List Direction) (below : Seen) (at : ℕ) (state : PortState) (d' : DifSeen) → IsStanding d lines below → IsNumbered d below → AreWrittenOff d → IsEnded d lines at state d' → AreWrittenOff d'
ended_written d lines below at state d' st numbered w s = written_on (MayWriteOff d lines below NoPort) d d' (ended_noted d lines below at state d' st numbered s) (was_lawful d lines below NoPort) w

-- ---- a link is lost

down_items : (port : Port) (items : List Queued) (off : Off) → In off (map (line_down port) items) → off.cause ≡ causes.LinkDown port
down_items port [] off one = absurd one
down_items port (x ∷ xs) off (inl is) = ap (λ (o : Off). o.cause) is
down_items port (x ∷ xs) off (inr more) = down_items port xs off more

down_queue : (link : Link) (q : Queue) (b : Bool) (off : Off) → In off (cond b (map (line_down link.port) q.items) []) → off.cause ≡ causes.LinkDown link.port
down_queue link q true off one = down_items link.port q.items off one
down_queue link q false off one = absurd one

down_queues : (link : Link) (qs : List Queue) (off : Off) → In off (flat_map (lines_down link) qs) → off.cause ≡ causes.LinkDown link.port
down_queues link [] off one = absurd one
down_queues link (q ∷ qs) off one = elim (in_append (lines_down link q) (flat_map (lines_down link) qs) off (subst (In off) (flat_map-cons (lines_down link) q qs) one)) [
  | inl here ↦ down_queue link q (eqb q.link link.number) off here
  | inr more ↦ down_queues link qs off more
]

pub lost_noted : (d : DifSeen) (lines : List Direction) (below : Seen) (i number : ℕ) (routes : List Route) (d' : DifSeen) → IsStanding d lines below → Loses d below i number routes d' → IsNoted (MayWriteOff d lines below (IsOverNow below)) d d'
lost_noted d lines below i number routes d' st s =
    let m = there d lines below i s.process st s.is_process in
    let lost = s.first.lost in
    let holds : ℕ → Off → Type 0 = MayWriteOff d lines below (IsOverNow below) in
    let offs : List Off = flat_map (lines_down s.link) s.process.queues in
    let each : (off : Off) → In off offs → holds i off = λ off here.
    let may : MayBy d lines below (IsOverNow below) m.0.addr s.process off.key (causes.LinkDown s.link.port) = record { place = s.place; link = s.link; stands = lost.stands; port_is = refl; is_down = lost.no_more } in
    record { member = m.0; process = s.process; is_process = m.1; may = inl (subst (λ (z : Cause). MayBy d lines below (IsOverNow below) m.0.addr s.process off.key z) (sym (down_queues s.link s.process.queues off here)) may) } in
    process_noted holds d d' i s.process (without_link s.place s.link routes s.process) offs s.new_is s.is_process refl each (ports_lost s.process.links s.place s.link lost.stands)

pub lost_write : (d : DifSeen) (lines : List Direction) (below : Seen) (i number : ℕ) (routes : List Route) (d' : DifSeen) → IsStanding d lines below → Loses d below i number routes d' → Writes (MayWriteOff d lines below (IsOverNow below)) d d'
lost_write d lines below i number routes d' st s = writes _ d d' (lost_noted d lines below i number routes d' st s)

pub lost_written : (d : DifSeen) (lines : List Direction) (below : Seen) (i number : ℕ) (routes : List Route) (d' : DifSeen) → IsStanding d lines below → AreWrittenOff d → Loses d below i number routes d' → AreWrittenOff d'
lost_written d lines below i number routes d' st w s = written_on (MayWriteOff d lines below (IsOverNow below)) d d' (lost_noted d lines below i number routes d' st s) (was_lawful d lines below (IsOverNow below)) w

-- ---- all ends of a node fail

-- what the ending of an end needs, and keeps
record IsOn (lines : List Direction) (below : Seen) (d : DifSeen) : Type 0 where
  standing : IsStanding d lines below
  numbered : IsNumbered d below

on_ended : (lines : List Direction) (below : Seen) (at : ℕ) (port : Port) (a b : DifSeen) → IsOn lines below a → IsEnded a lines at (Failed (Below port)) b → IsOn lines below b
on_ended lines below at port a b s e = record { standing = ended_stands a lines below at (Failed (Below port)) b s.standing s.numbered e; numbered = ended_numbered a lines below at (Failed (Below port)) b s.numbered e }

-- and the ledgers with it
record IsOnWith (lines : List Direction) (below : Seen) (d : DifSeen) : Type 0 where
  on : IsOn lines below d
  written : AreWrittenOff d

pub failed_written : (d : DifSeen) (lines : List Direction) (below : Seen) (node : ℕ) (port : Port) (d' : DifSeen) → IsStanding d lines below → IsNumbered d below → AreWrittenOff d → FailAll lines node port d d' → AreWrittenOff d'
failed_written d lines below node port d' st numbered w f =
    let all : IsOnWith lines below d' = first_stay (IsOnWith lines below) lines node (Below port) (λ at a b s e. record {
      on = on_ended lines below at port a b s.on e;
      written = ended_written a lines below at (Failed (Below port)) b s.on.standing s.on.numbered s.written e;
    }) (length d.ends) d d' (record { on = record { standing = st; numbered = numbered }; written = w }) f in
    all.written

module _ (d : DifSeen) (lines : List Direction) (below : Seen) (node : ℕ) (port : Port) (st : IsStanding d lines below) (numbered : IsNumbered d below) where
  before_on : (n : ℕ) (z : DifSeen) → FailFirst lines node (Below port) n d z → IsOn lines below z
  before_on n z f = first_stay (IsOn lines below) lines node (Below port) (λ at a b s e. on_ended lines below at port a b s e) n d z (record { standing = st; numbered = numbered }) f

  first_noted : (n : ℕ) (z : DifSeen) → FailFirst lines node (Below port) n d z → IsNoted (MayFailOff d lines below node port) d z
  first_noted zero z f = same_noted _ d z f
  first_noted (suc n) z f =
      let holds : ℕ → Off → Type 0 = MayFailOff d lines below node port in
      let on = before_on n f.0 f.1 in
      noted_on holds d f.0 z (first_noted n f.0 f.1) (elim f.2 [
        | inl s ↦ noted_as (MayWriteOff f.0 lines below NoPort) holds f.0 z (λ i off m. record { count = n; between = f.0; before = f.1; may = m }) (ended_noted f.0 lines below n (Failed (Below port)) z on.standing on.numbered s.1)
        | inr k ↦ same_noted holds f.0 z k.1
      ])

pub failed_noted : (d : DifSeen) (lines : List Direction) (below : Seen) (node : ℕ) (port : Port) (d' : DifSeen) → IsStanding d lines below → IsNumbered d below → FailAll lines node port d d' → IsNoted (MayFailOff d lines below node port) d d'
failed_noted d lines below node port d' st numbered f = first_noted d lines below node port st numbered (length d.ends) d' f

pub failed_write : (d : DifSeen) (lines : List Direction) (below : Seen) (node : ℕ) (port : Port) (d' : DifSeen) → IsStanding d lines below → IsNumbered d below → FailAll lines node port d d' → Writes (MayFailOff d lines below node port) d d'
failed_write d lines below node port d' st numbered f = writes _ d d' (failed_noted d lines below node port d' st numbered f)

-- ---- calls that write nothing

offered_noted : (holds : ℕ → Off → Type 0) (d : DifSeen) (lines : List Direction) (at : ℕ) (parts : List Part) (num : Num) (d' : DifSeen) (lines' : List Direction) → IsOffered d lines at parts num d' lines' → IsNoted holds d d'
offered_noted holds d lines at parts num d' lines' s =
    subst (IsNoted holds d) (sym s.new_is) (one_noted holds d _ s.i s.process (with_put s.process s.place s.queue _) [] s.is_process (sym (append-nil s.process.ledger)) (λ off none. absurd none) (ports_same s.process.links s.process.links refl) (known_set d.ends d.conns at s.end _ s.is_conn.end (λ waits. waits)))

pub offers_noted : (holds : ℕ → Off → Type 0) (d : DifSeen) (lines : List Direction) (at : ℕ) (parts : List Part) (r : Result Num SendError) (d' : DifSeen) (lines' : List Direction) → Offers d lines at parts r d' lines' → IsNoted holds d d'
offers_noted holds d lines at parts (Ok num) d' lines' s = offered_noted holds d lines at parts num d' lines' s.2
offers_noted holds d lines at parts (Err send.Memory) d' lines' s = same_noted holds d d' s.0
offers_noted holds d lines at parts (Err why) d' lines' s = same_noted holds d d' s.1

pub passed_noted : (holds : ℕ → Off → Type 0) (d : DifSeen) (lines : List Direction) (at : ℕ) (d' : DifSeen) (lines' : List Direction) → IsPassed d lines at d' lines' → IsNoted holds d d'
passed_noted holds d lines at d' lines' s = subst (IsNoted holds d) (sym s.new_is) (quiet_noted holds d _ refl refl (omega arith) (known_set d.ends d.conns at s.end _ s.is_conn.end (λ waits. waits)) refl)

pub bound_noted : (holds : ℕ → Off → Type 0) (d : DifSeen) (lines : List Direction) (fixed : Fixed) (d' : DifSeen) (lines' : List Direction) → IsBound d lines fixed d' lines' → IsNoted holds d d'
bound_noted holds d lines fixed d' lines' s = subst (IsNoted holds d) (sym s.new_is) (quiet_noted holds d _ refl refl (omega arith) (known_more d.ends _ d.conns _) refl)

pub asked_noted : (holds : ℕ → Off → Type 0) (d : DifSeen) (lines : List Direction) (ask : Asking) (d' : DifSeen) (lines' : List Direction) → IsAskedFor d lines ask d' lines' → IsNoted holds d d'
asked_noted holds d lines ask d' lines' s = subst (IsNoted holds d) (sym s.new_is) (quiet_noted holds d _ refl refl (omega arith) (known_more d.ends _ d.conns _) refl)

pub made_noted : (holds : ℕ → Off → Type 0) (d : DifSeen) (lines : List Direction) (node at : ℕ) (d' : DifSeen) (lines' : List Direction) → IsFarMade d lines node at d' lines' → IsNoted holds d d'
made_noted holds d lines node at d' lines' s = subst (IsNoted holds d) (sym s.new_is) (quiet_noted holds d _ refl refl (omega arith) (known_more d.ends _ d.conns _) refl)

pub turned_down_noted : (holds : ℕ → Off → Type 0) (d : DifSeen) (at : ℕ) (state : PortState) (d' : DifSeen) → IsTurnedDown d at state d' → IsNoted holds d d'
turned_down_noted holds d at state d' s = subst (IsNoted holds d) (sym s.new_is) (quiet_noted holds d _ refl refl (omega arith) (known_set d.ends d.conns at s.end _ s.is_end (λ waits. s.waits)) refl)

pub ticked_noted : (holds : ℕ → Off → Type 0) (d : DifSeen) (lines : List Direction) (now : ℕ) (d' : DifSeen) (lines' : List Direction) → IsTicked d lines now d' lines' → IsNoted holds d d'
ticked_noted holds d lines now d' lines' s = subst (IsNoted holds d) (sym s.new_is) (quiet_noted holds d _ refl refl s.later (known_same d.ends d.conns) refl)

-- what the ledgers say stays true where nothing is written
quiet_written : (d d' : DifSeen) → IsNoted Nothing d d' → AreWrittenOff d → AreWrittenOff d'
quiet_written d d' n w = written_on Nothing d d' n (λ i off none. absurd none) w

pub offers_written : (d : DifSeen) (lines : List Direction) (at : ℕ) (parts : List Part) (r : Result Num SendError) (d' : DifSeen) (lines' : List Direction) → AreWrittenOff d → Offers d lines at parts r d' lines' → AreWrittenOff d'
offers_written d lines at parts r d' lines' w s = quiet_written d d' (offers_noted Nothing d lines at parts r d' lines' s) w

pub passed_written : (d : DifSeen) (lines : List Direction) (at : ℕ) (d' : DifSeen) (lines' : List Direction) → AreWrittenOff d → IsPassed d lines at d' lines' → AreWrittenOff d'
passed_written d lines at d' lines' w s = quiet_written d d' (passed_noted Nothing d lines at d' lines' s) w

pub bound_written : (d : DifSeen) (lines : List Direction) (fixed : Fixed) (d' : DifSeen) (lines' : List Direction) → AreWrittenOff d → IsBound d lines fixed d' lines' → AreWrittenOff d'
bound_written d lines fixed d' lines' w s = quiet_written d d' (bound_noted Nothing d lines fixed d' lines' s) w

pub asked_written : (d : DifSeen) (lines : List Direction) (ask : Asking) (d' : DifSeen) (lines' : List Direction) → AreWrittenOff d → IsAskedFor d lines ask d' lines' → AreWrittenOff d'
asked_written d lines ask d' lines' w s = quiet_written d d' (asked_noted Nothing d lines ask d' lines' s) w

pub ticked_written : (d : DifSeen) (lines : List Direction) (now : ℕ) (d' : DifSeen) (lines' : List Direction) → AreWrittenOff d → IsTicked d lines now d' lines' → AreWrittenOff d'
ticked_written d lines now d' lines' w s = quiet_written d d' (ticked_noted Nothing d lines now d' lines' s) w

-- an answer writes nothing: it changes the ids of a connection whose end waited
pub answered_noted : (holds : ℕ → Off → Type 0) (d : DifSeen) (at : ℕ) (d' : DifSeen) → IsAnsweredTo d at d' → IsNoted holds d d'
answered_noted holds d at d' s = subst (IsNoted holds d) (sym s.new_is) (quiet_noted holds d _ refl refl (omega arith) (λ k e ids is told here. elim (eqb_tells k at) [
  | inl t ↦
      (let same : e ≡ s.asker = same_some (slice_get d.ends at) e s.asker (ap (slice_get d.ends) (sym t.1) ∙ is) s.is_conn.end in
      absurd (told (ap (λ (z : End). z.state) same ∙ s.waits)))
  | inr f ↦ (e, slice_get-set_other d.ends at k _ f.1 ∙ is, told, slice_get-set_other d.conns at k _ f.1 ∙ here)
]) refl)

pub answered_quiet : (d : DifSeen) (at : ℕ) (d' : DifSeen) → IsAnsweredTo d at d' → Writes Nothing d d'
answered_quiet d at d' s = writes Nothing d d' (answered_noted Nothing d at d' s)

pub answered_written : (d : DifSeen) (at : ℕ) (d' : DifSeen) → AreWrittenOff d → IsAnsweredTo d at d' → AreWrittenOff d'
answered_written d at d' w s = quiet_written d d' (answered_noted Nothing d at d' s) w

pub made_written : (d : DifSeen) (lines : List Direction) (node at : ℕ) (d' : DifSeen) (lines' : List Direction) → AreWrittenOff d → IsFarMade d lines node at d' lines' → AreWrittenOff d'
made_written d lines node at d' lines' w s = quiet_written d d' (made_noted Nothing d lines node at d' lines' s) w

pub turned_down_written : (d : DifSeen) (at : ℕ) (state : PortState) (d' : DifSeen) → AreWrittenOff d → IsTurnedDown d at state d' → AreWrittenOff d'
turned_down_written d at state d' w s = quiet_written d d' (turned_down_noted Nothing d at state d' s) w

-- empty ledgers say nothing
pub blank_written : (d : DifSeen) → ((i : ℕ) (process : Process) → slice_get d.processes i ≡ Some process → process.ledger ≡ []) → AreWrittenOff d
blank_written d blank i member process off is stands = absurd (subst (In off) (blank i process is.is_process) stands)
