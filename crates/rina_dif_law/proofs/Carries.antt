-- Each call keeps that what the ends got has come.
use Rattle.std.proofs.Common.{◌⊎◌, ◌≡◌, ℕ, ◌-◌, List, [], ◌∷◌, length, map, slice_get, slice_set, Some, None, Ok, Err, Option, Result, Bool, true, false, refl, sym, ◌∙◌, ap, subst, arith, inl, inr}
use Rattle.rina_base.specs.declared.cause.Cause.{Cause}
use Rattle.rina_base.specs.declared.cause.Cause.TheVariants as causes
use Rattle.rina_base.specs.declared.number.Num.{Num}
use Rattle.rina_base.specs.declared.number.Port.{Port}
use Rattle.rina_iface.specs.declared.ends.End.{End}
use Rattle.rina_iface.specs.declared.error.SendError.{SendError}
use Rattle.rina_iface.specs.declared.error.SendError.TheVariants as errors
use Rattle.rina_iface.specs.Ends.{with_passed, with_sent}
use Rattle.rina_iface.specs.Journal.{AreKept}
use Rattle.rina_iface.specs.Pass.{IsPassed as PassesBelow}
use Rattle.rina_iface.specs.Seen.{Seen, end_of}
use Rattle.rina_iface.specs.Later.{IsLater}
use Rattle.rina_iface.specs.Send.{IsSent}
use Rattle.rina_iface.proofs.Found.{end_of_stands}
use Rattle.rina_iface.proofs.LaterCalls.{later_passes, later_sends}
use Rattle.rina_law.specs.declared.entry.Entry.{Entry}
use Rattle.rina_law.specs.Constants.{Constants}
use Rattle.rina_law.specs.Direction.{Direction, Forget, Pass, after_ack, happens}
use Rattle.rina_law.specs.Line.{again, Line, begun, offer, put, put_all, told}
use Rattle.rina_law.specs.Pdus.{ack_in, piece_in}
use Rattle.rina_law.specs.Pieces.{empty_joiner, Part}
use Rattle.rina_law.specs.Lists.{In}
use Rattle.rina_law.specs.Receiver.{Piece, Receiver}
use Rattle.rina_law.specs.Sender.{is_absent}
use Rattle.rina_data.specs.declared.step.InStep.{InStep}
use Rattle.rina_data.specs.declared.step.InStep.TheVariants as in_
use Rattle.rina_data.specs.declared.step.OutStep.{OutStep}
use Rattle.rina_data.specs.declared.step.OutStep.TheVariants as out
use Rattle.rina_data.specs.declared.step.StepError.{StepError}
use Rattle.rina_data.specs.declared.step.StepError.TheVariants.{CountSpent, Memory, NoIpc, NoLink}
use Rattle.rina_data.specs.declared.step.Took.{Took}
use Rattle.rina_data.specs.declared.step.Took.TheVariants as took
use Rattle.rina_dif_law.specs.Carried.{HasCome, IsCarrying}
use Rattle.rina_data.specs.Hops.{Hop, opened}
use Rattle.rina_dif_law.specs.Dif.{DifSeen, constants}
use Rattle.rina_data.specs.Configs.{Member}
use Rattle.rina_data.specs.Process.{Process, with_put, with_offs}
use Rattle.rina_dif_law.specs.Ids.{flipped}
use Rattle.rina_dif_law.specs.Incoming.{Ins, IsArrived, IsInTime, IsTold, Settles, SettlesFlow, SettlesOff}
use Rattle.rina_dif_law.specs.Lifting.{IsLifted, ticked}
use Rattle.rina_data.specs.Outgoing.{Goes, sent_bytes}
use Rattle.rina_dif_law.specs.Outgoing.{IsStep, Outs}
use Rattle.rina_dif_law.specs.Passing.{IsPassed, IsTicked}
use Rattle.rina_dif_law.specs.Sending.{IsOffered, Offers, made_items, offered, offered_entry, offered_pieces}
use Rattle.rina_dif_law.specs.Standing.{IsStanding}
use Rattle.rina_dif_law.specs.Timely.{IsAcknowledged, IsForgotten, IsResent}
use Rattle.rina_dif_law.specs.Start.{IsStart}
use Rattle.rina_dif_law.proofs.Starting.{no_end}
use Rattle.rina_dif_law.proofs.After.{IsAfter, Just, NoMore, after_lifted, after_none, after_passed, after_sent}
use Rattle.rina_dif_law.proofs.Arrivals.{IsArrival, arrival}
use Rattle.rina_dif_law.proofs.Carrying.{WasLine, arrived_carrying, carrying_same, end_set, end_was, line_set, line_was, passed_end}
use Rattle.rina_dif_law.proofs.Coming.{alive_arrival}
use Rattle.rina_dif_law.proofs.Ends.{same_some}
use Rattle.rina_dif_law.proofs.Own.{map_at}

none_in : {X : Type 0} (xs : List X) (i : ℕ) (x : X) → xs ≡ [] → slice_get xs i ≡ Some x → ⊥
none_in [] i x e h = cc
none_in (y ∷ ys) i x e h = cc

-- ---- the start

pub start_carries : (d : DifSeen) (lines : List Direction) (below : Seen) → IsStart d lines below → IsCarrying d lines below
start_carries d lines below s = record {
  entries = λ i j e ids x conn h. absurd (no_end d.ends i e s.no_ends conn.end);
  holding = λ i from e ids line conn h. absurd (no_end d.ends i e s.no_ends conn.end);
}

-- ---- the own state alone

-- neither the ends nor the directions change
still_carries : (d d' : DifSeen) (lines lines' : List Direction) (more : Port → Entry → Type 0) (below below' : Seen) (processes : List Process) → d' ≡ record d { processes = processes } → lines' ≡ lines → IsAfter d.config more below below' → IsCarrying d lines below → IsCarrying d' lines' below'
still_carries d d' lines lines' more below below' processes is same after c =
    subst (λ (z : DifSeen). IsCarrying z lines' below') (sym is) (subst (λ (ls : List Direction). IsCarrying (record d { processes = processes }) ls below') (sym same)
    (carrying_same d (record d { processes = processes }) lines lines more below below' c after refl refl (omega arith) (end_was d.ends) (line_was lines)))

put_all_receiver : (c : Constants) (parts : List Part) (line : Line) → (put_all c parts line).receiver ≡ line.receiver
put_all_receiver c [] line = refl
put_all_receiver c (part ∷ parts) line = put_all_receiver c parts (put c part line)

begun_receiver : (b : Bool) (c : Constants) (line : Line) → (begun b c line).receiver ≡ line.receiver
begun_receiver true c line = refl
begun_receiver false c line = refl

pub offered_held : (c : Constants) (parts : List Part) (line : Line) → (offer c parts line).receiver.held ≡ line.receiver.held
offered_held c parts line = ap (λ (r : Receiver). r.held) (put_all_receiver c parts (begun (is_absent c line.clock line.sender) c line) ∙ begun_receiver (is_absent c line.clock line.sender) c line)

offered_carries : (d : DifSeen) (lines : List Direction) (below : Seen) (at : ℕ) (parts : List Part) (num : Num) (d' : DifSeen) (lines' : List Direction) → IsCarrying d lines below → IsOffered d lines at parts num d' lines' → IsCarrying d' lines' below
offered_carries d lines below at parts num d' lines' c s =
    let k : Constants = constants d.config s.cube s.ids in
    let line' : Direction = offered k parts s.line in
    let end' : End = with_sent s.end (offered_entry k parts s.line) in
    let ends' : List End = slice_set d.ends at end' in
    let processes' : List Process = slice_set d.processes s.i (with_put s.process s.place s.queue (made_items s.ids s.cube.mpl d.clock (offered_pieces k parts s.line))) in
    subst (λ (z : DifSeen). IsCarrying z lines' below) (sym s.new_is) (subst (λ (ls : List Direction). IsCarrying (record d { ends = ends'; processes = processes' }) ls below) (sym s.lines_are)
    (carrying_same d (record d { ends = ends'; processes = processes' }) lines (slice_set lines at line') NoMore below below c (after_none d.config below) refl refl (omega arith)
    (end_set d.ends at s.end end' s.is_conn.end (record { flow = refl; role = refl; port = refl; app = refl; peer = refl; cube = refl }) refl)
    (line_set lines at s.line line' s.is_line (inl refl) (λ q x. subst (λ (ps : List Piece). In q ps) (offered_held k parts s.line.line) x))))

pub offers_carry : (d : DifSeen) (lines : List Direction) (below : Seen) (at : ℕ) (parts : List Part) (r : Result Num SendError) (d' : DifSeen) (lines' : List Direction) → IsCarrying d lines below → Offers d lines at parts r d' lines' → IsCarrying d' lines' below
offers_carry d lines below at parts (Ok num) d' lines' c s = offered_carries d lines below at parts num d' lines' c s.2
offers_carry d lines below at parts (Err errors.Memory) d' lines' c s = still_carries d d' lines lines' NoMore below below d.processes s.0 s.1 (after_none d.config below) c
offers_carry d lines below at parts (Err why) d' lines' c s = still_carries d d' lines lines' NoMore below below d.processes s.1 s.2 (after_none d.config below) c

pub passed_carries : (d : DifSeen) (lines : List Direction) (below : Seen) (at : ℕ) (d' : DifSeen) (lines' : List Direction) → IsCarrying d lines below → IsPassed d lines at d' lines' → IsCarrying d' lines' below
passed_carries d lines below at d' lines' c s =
    let line' : Direction = happens (constants d.config s.cube (flipped s.ids)) s.line Pass in
    let ends' : List End = slice_set d.ends at (with_passed s.end) in
    subst (λ (z : DifSeen). IsCarrying z lines' below) (sym s.new_is) (subst (λ (ls : List Direction). IsCarrying (record d { ends = ends' }) ls below) (sym s.lines_are)
    (carrying_same d (record d { ends = ends' }) lines (slice_set lines s.from line') NoMore below below c (after_none d.config below) refl refl (omega arith)
    (end_set d.ends at s.end (with_passed s.end) s.is_conn.end (record { flow = refl; role = refl; port = refl; app = refl; peer = refl; cube = refl }) refl)
    (line_set lines s.from s.line line' s.inbound.is_line (inl refl) (λ q x. x))))

-- ---- the rank below

pub time_carries : (d : DifSeen) (lines : List Direction) (below below' : Seen) (d' : DifSeen) (lines' : List Direction) → AreKept below' → IsCarrying d lines below → IsLifted d.config below below' → IsTicked d lines below'.now d' lines' → IsCarrying d' lines' below'
time_carries d lines below below' d' lines' kept c lifted s =
    let ticks : ℕ = below'.now - d.clock in
    subst (λ (z : DifSeen). IsCarrying z lines' below') (sym s.new_is) (subst (λ (ls : List Direction). IsCarrying (record d { clock = below'.now }) ls below') (sym s.lines_are)
    (carrying_same d (record d { clock = below'.now }) lines (map (ticked ticks) lines) NoMore below below' c (after_lifted d.config below below' kept lifted) refl refl s.later (end_was d.ends)
    (λ i l h. let m = map_at (ticked ticks) lines i l h in subst (WasLine lines i) (sym m.2) (record { line = m.0; stood = m.1; joiner = inl refl; held = λ q x. x }))))

pub beside_carries : (d : DifSeen) (lines : List Direction) (below below' : Seen) → AreKept below' → IsCarrying d lines below → IsLifted d.config below below' → IsCarrying d lines below'
beside_carries d lines below below' kept c lifted = still_carries d d lines lines NoMore below below' d.processes refl refl (after_lifted d.config below below' kept lifted) c

-- what anyone sends or takes below
pub after_carries : (d : DifSeen) (lines : List Direction) (more : Port → Entry → Type 0) (below below' : Seen) → IsCarrying d lines below → IsAfter d.config more below below' → IsCarrying d lines below'
after_carries d lines more below below' c after = still_carries d d lines lines more below below' d.processes refl refl after c

-- ---- out_step

same_carries : (d : DifSeen) (lines : List Direction) (below : Seen) (d' : DifSeen) (lines' : List Direction) (below' : Seen) → d' ≡ d → lines' ≡ lines → below' ≡ below → IsCarrying d lines below → IsCarrying d' lines' below'
same_carries d lines below d' lines' below' p q r c = subst (λ (z : DifSeen). IsCarrying z lines' below') (sym p) (subst (λ (ls : List Direction). IsCarrying d ls below') (sym q) (subst (IsCarrying d lines) (sym r) c))

-- what a step does below, as far as what came is concerned
goes_carry : (refuses : Port → ℕ → Option SendError) (d : DifSeen) (lines : List Direction) (below : Seen) (n : ℕ) (process : Process) (r : Result OutStep StepError) (process' : Process) (below' : Seen) → AreKept below → AreKept below' → IsCarrying d lines below → Goes refuses d.config d.clock process below n r process' below' → IsCarrying d lines below'
goes_carry refuses d lines below n process (Ok out.Idle) process' below' kept kept' c s = subst (IsCarrying d lines) (sym s.3) c
goes_carry refuses d lines below n process (Ok (out.Sent key)) process' below' kept kept' c s =
    let bytes = sent_bytes d.config d.clock s.item s.promise in
    let later = later_sends (refuses s.link.port (length bytes)) below s.link.port bytes (Ok s.num) below' s.sent in
    after_carries d lines (Just s.link.port (record { tick = below.now; num = s.num; bytes = bytes })) below below' c (after_sent d.config below s.link.port bytes s.num below' kept kept' later s.sent.1)
goes_carry refuses d lines below n process (Ok (out.Off key (causes.Expired left charge))) process' below' kept kept' c s = subst (IsCarrying d lines) (sym s.below_is) c
goes_carry refuses d lines below n process (Ok (out.Off key (causes.LinkDown port))) process' below' kept kept' c s = subst (IsCarrying d lines) (sym s.below_is) c
goes_carry refuses d lines below n process (Ok (out.Off key (causes.NoRoute dst))) process' below' kept kept' c s = absurd s
goes_carry refuses d lines below n process (Ok (out.Off key (causes.QueueFull cap))) process' below' kept kept' c s = absurd s
goes_carry refuses d lines below n process (Ok (out.Off key (causes.NoConnection cep))) process' below' kept kept' c s = absurd s
goes_carry refuses d lines below n process (Ok (out.Off key (causes.Duplicate num))) process' below' kept kept' c s = absurd s
goes_carry refuses d lines below n process (Ok (out.Off key (causes.Behind highest))) process' below' kept kept' c s = absurd s
goes_carry refuses d lines below n process (Ok (out.Off key (causes.NoState drf))) process' below' kept kept' c s = absurd s
goes_carry refuses d lines below n process (Ok (out.Off key (causes.NoRoom cap))) process' below' kept kept' c s = absurd s
goes_carry refuses d lines below n process (Ok (out.Off key (causes.StateGone last_in))) process' below' kept kept' c s = absurd s
goes_carry refuses d lines below n process (Ok (out.Off key (causes.Broken missing))) process' below' kept kept' c s = absurd s
goes_carry refuses d lines below n process (Ok (out.Held why)) process' below' kept kept' c s = subst (IsCarrying d lines) (sym s.2) c
goes_carry refuses d lines below n process (Err Memory) process' below' kept kept' c s = subst (IsCarrying d lines) (sym s.1) c
goes_carry refuses d lines below n process (Err NoIpc) process' below' kept kept' c s = absurd s
goes_carry refuses d lines below n process (Err NoLink) process' below' kept kept' c s = subst (IsCarrying d lines) (sym s.2) c
goes_carry refuses d lines below n process (Err (CountSpent need left)) process' below' kept kept' c s = absurd s

step_carries : (refuses : Port → ℕ → Option SendError) (d : DifSeen) (lines : List Direction) (below : Seen) (i n : ℕ) (r : Result OutStep StepError) (d' : DifSeen) (below' : Seen) → AreKept below → AreKept below' → IsCarrying d lines below → IsStep (λ p p'. Goes refuses d.config d.clock p below n r p' below') d i d' → IsCarrying d' lines below'
step_carries refuses d lines below i n r d' below' kept kept' c s =
    let c' = goes_carry refuses d lines below n s.process r s.process' below' kept kept' c s.done in
    still_carries d d' lines lines NoMore below' below' (slice_set d.processes i s.process') s.new_is refl (after_none d.config below') c'

pub outs_carry : (refuses : Port → ℕ → Option SendError) (d : DifSeen) (lines : List Direction) (below : Seen) (i n : ℕ) (r : Result OutStep StepError) (d' : DifSeen) (below' : Seen) → AreKept below → AreKept below' → IsCarrying d lines below → Outs refuses d below i n r d' below' → IsCarrying d' lines below'
outs_carry refuses d lines below i n (Ok x) d' below' kept kept' c s = step_carries refuses d lines below i n (Ok x) d' below' kept kept' c s
outs_carry refuses d lines below i n (Err Memory) d' below' kept kept' c s = step_carries refuses d lines below i n (Err Memory) d' below' kept kept' c s
outs_carry refuses d lines below i n (Err NoIpc) d' below' kept kept' c s = same_carries d lines below d' lines below' s.1 refl s.2 c
outs_carry refuses d lines below i n (Err NoLink) d' below' kept kept' c s = step_carries refuses d lines below i n (Err NoLink) d' below' kept kept' c s
outs_carry refuses d lines below i n (Err (CountSpent need left)) d' below' kept kept' c s = step_carries refuses d lines below i n (Err (CountSpent need left)) d' below' kept kept' c s

-- ---- in_step

-- the PDU that was taken has come to its address
taken_come : (d : DifSeen) (lines : List Direction) (below below' : Seen) (member : Member) (place : ℕ) (port : Port) (entry : Entry) (hop : Hop) → IsStanding d lines below → AreKept below' → slice_get d.config.members place ≡ Some member → IsArrival d below member port entry hop → PassesBelow below port below' → opened d.config.widths entry.bytes ≡ Some hop → hop.pdu.dst ≡ member.addr
    → (i : ℕ) (process : Process) (cause : Option Cause) (d' : DifSeen) (lines' : List Direction) → (s : IsArrived d lines i process hop.pdu cause d' lines') → HasCome d.config below' s.ids d.clock (piece_in hop.pdu).number (piece_in hop.pdu).part
taken_come d lines below below' member place port entry hop st kept' is_member a w opens dst i process cause d' lines' s =
    let w_here = end_of_stands below port w.facility w.place w.end w.stands in
    let same : w.end ≡ a.end = same_some (end_of below port) w.end a.end w_here a.here in
    let app : w.end.app ≡ member.name = ap (λ (e : End). e.app) same ∙ a.app in
    let oldest : slice_get w.end.got a.end.taken ≡ Some entry = subst (λ (e : End). slice_get e.got a.end.taken ≡ Some entry) (sym same) a.oldest in
    let taken : w.end.taken ≡ a.end.taken = ap (λ (e : End). e.taken) same in
    record {
      port = port;
      end = with_passed w.end;
      here = passed_end below port below' kept' w;
      member = record { place = place; member = member; stands = is_member; addr_is = sym dst ∙ s.taker.names.dst; name_is = sym app };
      at = a.end.taken;
      passed = omega arith;
      entry = entry;
      is_entry = oldest;
      before = a.past;
      hop = hop;
      opens = opens;
      kind = s.piece;
      names = s.taker.names;
      piece = refl;
    }

module _ (d : DifSeen) (lines : List Direction) (below below' : Seen) (st : IsStanding d lines below) (c : IsCarrying d lines below) (kept' : AreKept below') (after : IsAfter d.config NoMore below below') (i place : ℕ) (member : Member) (process : Process) (port : Port) (is_member : slice_get d.config.members place ≡ Some member) (entry : Entry) (hop : Hop) (a : IsArrival d below member port entry hop) (w : PassesBelow below port below') (opens : opened d.config.widths entry.bytes ≡ Some hop) where
  arrived_carries : (cause : Option Cause) (d' : DifSeen) (lines' : List Direction) → IsInTime d entry.tick hop → hop.pdu.dst ≡ member.addr → IsArrived d lines i process hop.pdu cause d' lines' → IsCarrying d' lines' below'
  arrived_carries cause d' lines' in_time dst s =
      let alive = alive_arrival d entry.tick hop.left a.older in_time a.past a.later in
      arrived_carrying d lines NoMore below below' a.older i process hop.pdu cause d' lines' st c after (inr a.on_way) alive s
      (taken_come d lines below below' member place port entry hop st kept' is_member a w opens dst i process cause d' lines' s)

  noted_carries : (d' : DifSeen) (lines' : List Direction) (processes : List Process) → d' ≡ record d { processes = processes } → lines' ≡ lines → IsCarrying d' lines' below'
  noted_carries d' lines' processes is same = still_carries d d' lines lines' NoMore below below' processes is same after c

  told_carries : (d' : DifSeen) (lines' : List Direction) → IsTold d lines hop.pdu d' lines' → IsCarrying d' lines' below'
  told_carries d' lines' s =
      let line' : Direction = record s.line { line = told (ack_in hop.pdu) s.line.line } in
      subst (λ (z : DifSeen). IsCarrying z lines' below') (sym s.new_is) (subst (λ (ls : List Direction). IsCarrying d ls below') (sym s.lines_are)
      (carrying_same d d lines (slice_set lines s.place line') NoMore below below' c after refl refl (omega arith) (end_was d.ends) (line_set lines s.place s.line line' s.is_line (inl refl) (λ q x. x))))

  settles_off_carries : (cause : Cause) (d' : DifSeen) (lines' : List Direction) → SettlesOff d lines i member process entry.tick hop cause d' lines' → IsCarrying d' lines' below'
  settles_off_carries (causes.Expired left charge) d' lines' s = noted_carries d' lines' _ s.3 s.4
  settles_off_carries (causes.NoRoute dst) d' lines' s = noted_carries d' lines' _ s.4 s.5
  settles_off_carries (causes.QueueFull cap) d' lines' s = noted_carries d' lines' _ s.4 s.5
  settles_off_carries (causes.NoConnection cep) d' lines' s = noted_carries d' lines' _ s.4 s.5
  settles_off_carries (causes.Duplicate num) d' lines' s = arrived_carries (Some (causes.Duplicate num)) d' lines' s.0 s.1 s.2
  settles_off_carries (causes.Behind highest) d' lines' s = arrived_carries (Some (causes.Behind highest)) d' lines' s.0 s.1 s.2
  settles_off_carries (causes.NoState drf) d' lines' s = arrived_carries (Some (causes.NoState drf)) d' lines' s.0 s.1 s.2
  settles_off_carries (causes.NoRoom cap) d' lines' s = arrived_carries (Some (causes.NoRoom cap)) d' lines' s.0 s.1 s.2
  settles_off_carries (causes.StateGone last_in) d' lines' s = arrived_carries (Some (causes.StateGone last_in)) d' lines' s.0 s.1 s.2
  settles_off_carries (causes.Broken missing) d' lines' s = arrived_carries (Some (causes.Broken missing)) d' lines' s.0 s.1 s.2
  settles_off_carries (causes.LinkDown down) d' lines' s = absurd s

  flow_carries : (end : Took) (d' : DifSeen) (lines' : List Direction) → SettlesFlow d lines i member process entry.tick hop end d' lines' → IsCarrying d' lines' below'
  flow_carries took.Accepted d' lines' s = elim (s.2) [
    | inl x ↦ arrived_carries None d' lines' s.0 s.1 x
    | inr x ↦ told_carries d' lines' x
  ]
  flow_carries took.Relayed d' lines' s = noted_carries d' lines' _ s.2.new_is s.3
  flow_carries (took.Off cause) d' lines' s = settles_off_carries cause d' lines' s

  settles_carry : (end : Took) (d' : DifSeen) (lines' : List Direction) → Settles d lines i member process entry.tick hop end d' lines' → IsCarrying d' lines' below'
  settles_carry end d' lines' s = elim s [
    | inl flow ↦ flow_carries end d' lines' flow.1
    | inr link ↦ noted_carries d' lines' _ link.new_is link.lines_are
  ]

pub ins_carry : (d : DifSeen) (lines : List Direction) (below : Seen) (i n : ℕ) (r : Result InStep StepError) (d' : DifSeen) (lines' : List Direction) (below' : Seen) → AreKept below → AreKept below' → IsStanding d lines below → IsCarrying d lines below → Ins d lines below i n r d' lines' below' → IsCarrying d' lines' below'
ins_carry d lines below i n (Ok in_.Idle) d' lines' below' kept kept' st c s = same_carries d lines below d' lines' below' s.1 s.2 s.3 c
ins_carry d lines below i n (Ok (in_.Took key end)) d' lines' below' kept kept' st c s =
    let a = arrival d lines below i n s.member s.process s.link s.entry s.hop st kept s.is_process s.is_link s.oldest s.opens in
    let after = after_passed d.config below s.link.port below' kept kept' (later_passes below s.link.port below' s.passed) s.passed in
    settles_carry d lines below below' st c kept' after i i s.member s.process s.link.port s.is_process.is_member s.entry s.hop a s.passed s.opens end d' lines' s.settled
ins_carry d lines below i n (Err Memory) d' lines' below' kept kept' st c s = same_carries d lines below d' lines' below' s.0 s.1 s.2 c
ins_carry d lines below i n (Err NoIpc) d' lines' below' kept kept' st c s = same_carries d lines below d' lines' below' s.1 s.2 s.3 c
ins_carry d lines below i n (Err NoLink) d' lines' below' kept kept' st c s = same_carries d lines below d' lines' below' s.1 s.2 s.3 c
ins_carry d lines below i n (Err (CountSpent need left)) d' lines' below' kept kept' st c s = same_carries d lines below d' lines' below' s.0 s.1 s.2 c

-- ---- others below

pub sends_of_others_carry : (d : DifSeen) (lines : List Direction) (below : Seen) (port : Port) (bytes : List ℕ) (num : Num) (below' : Seen) → AreKept below → AreKept below' → IsLater below below' → IsCarrying d lines below → IsSent below port bytes num below' → IsCarrying d lines below'
sends_of_others_carry d lines below port bytes num below' kept kept' later c s = after_carries d lines _ below below' c (after_sent d.config below port bytes num below' kept kept' later s)

pub passes_of_others_carry : (d : DifSeen) (lines : List Direction) (below : Seen) (port : Port) (below' : Seen) → AreKept below → AreKept below' → IsLater below below' → IsCarrying d lines below → PassesBelow below port below' → IsCarrying d lines below'
passes_of_others_carry d lines below port below' kept kept' later c s = after_carries d lines NoMore below below' c (after_passed d.config below port below' kept kept' later s)

-- ---- the rows that come with time

row_carries : (d d' : DifSeen) (lines lines' : List Direction) (below : Seen) (processes : List Process) (from : ℕ) (line line' : Direction) → IsCarrying d lines below → slice_get lines from ≡ Some line → d' ≡ record d { processes = processes } → lines' ≡ slice_set lines from line' → (line'.inbox.joiner ≡ line.inbox.joiner) ⊎ (line'.inbox.joiner ≡ empty_joiner) → ((q : Piece) → In q line'.line.receiver.held → In q line.line.receiver.held) → IsCarrying d' lines' below
row_carries d d' lines lines' below processes from line line' c is d_is lines_are joiner held =
    subst (λ (z : DifSeen). IsCarrying z lines' below) (sym d_is) (subst (λ (ls : List Direction). IsCarrying (record d { processes = processes }) ls below) (sym lines_are)
    (carrying_same d (record d { processes = processes }) lines (slice_set lines from line') NoMore below below c (after_none d.config below) refl refl (omega arith) (end_was d.ends) (line_set lines from line line' is joiner held)))

pub acknowledged_carries : (d : DifSeen) (lines : List Direction) (below : Seen) (at : ℕ) (cause : Option Cause) (d' : DifSeen) (lines' : List Direction) → IsCarrying d lines below → IsAcknowledged d lines at cause d' lines' → IsCarrying d' lines' below
acknowledged_carries d lines below at cause d' lines' c s = row_carries d d' lines lines' below (slice_set d.processes s.i s.process') s.from s.line (after_ack true (constants d.config s.cube (flipped s.ids)) s.line) c s.inbound.is_line s.new_is s.lines_are (inl refl) (λ q x. x)

pub resent_carries : (d : DifSeen) (lines : List Direction) (below : Seen) (at : ℕ) (cause : Option Cause) (d' : DifSeen) (lines' : List Direction) → IsCarrying d lines below → IsResent d lines at cause d' lines' → IsCarrying d' lines' below
resent_carries d lines below at cause d' lines' c s = row_carries d d' lines lines' below (slice_set d.processes s.i s.process') at s.line (record s.line { line = again (constants d.config s.cube s.ids) s.number s.line.line }) c s.is_line s.new_is s.lines_are (inl refl) (λ q x. x)

pub forgotten_carries : (d : DifSeen) (lines : List Direction) (below : Seen) (at : ℕ) (d' : DifSeen) (lines' : List Direction) → IsCarrying d lines below → IsForgotten d lines at d' lines' → IsCarrying d' lines' below
forgotten_carries d lines below at d' lines' c s = row_carries d d' lines lines' below (slice_set d.processes s.i (with_offs s.process s.dropped)) s.from s.line (happens (constants d.config s.cube (flipped s.ids)) s.line Forget) c s.inbound.is_line s.new_is s.lines_are (inr refl) (λ q x. absurd x)
