-- A step that takes keeps standing.
use Rattle.std.proofs.Common.{◌≡◌, ℕ, ◌+◌, ◌-◌, ◌≤◌, List, [], ◌∷◌, ◌++◌, length-set, length-append, append-nil, append_assoc, map, slice_get, slice_set, Some, None, Ok, Err, Option, Result, refl, sym, ◌∙◌, ap, subst, arith, inl, inr}
use Rattle.rina_account.specs.declared.ledger.Off.{Off}
use Rattle.rina_base.specs.declared.cause.Cause.{Cause}
use Rattle.rina_base.specs.declared.cause.Cause.TheVariants as causes
use Rattle.rina_base.specs.declared.number.Port.{Port}
use Rattle.rina_base.specs.declared.pdu.Pdu.{Pdu}
use Rattle.rina_iface.specs.declared.ends.End.{End}
use Rattle.rina_iface.specs.Journal.{AreKept, HasPartner, IsDated, IsWhole}
use Rattle.rina_iface.specs.Pass.{IsPassed}
use Rattle.rina_iface.specs.Seen.{Seen}
use Rattle.rina_iface.proofs.Grown.{dated_push}
use Rattle.rina_iface.proofs.LaterCalls.{later_passes}
use Rattle.rina_law.specs.declared.entry.Entry.{Entry}
use Rattle.rina_law.specs.Backed.{Covers}
use Rattle.rina_law.specs.Constants.{Constants}
use Rattle.rina_law.specs.Direction.{Direction, entry_for}
use Rattle.rina_law.specs.Line.{told}
use Rattle.rina_law.specs.Pdus.{ack_in, piece_in}
use Rattle.rina_law.specs.Pieces.{Sdu}
use Rattle.rina_law.specs.Receiver.{Piece}
use Rattle.rina_queue.specs.declared.queue.Queued.{Queued}
use Rattle.rina_data.specs.declared.step.InStep.{InStep}
use Rattle.rina_data.specs.declared.step.InStep.TheVariants as in_
use Rattle.rina_data.specs.declared.step.StepError.{StepError}
use Rattle.rina_data.specs.declared.step.StepError.TheVariants.{CountSpent, Memory, NoIpc, NoLink}
use Rattle.rina_data.specs.declared.step.Took.{Took}
use Rattle.rina_data.specs.declared.step.Took.TheVariants as took
use Rattle.rina_dif_law.specs.Cloud.{Cloud, Everywhere}
use Rattle.rina_data.specs.Hops.{Hop}
use Rattle.rina_dif_law.specs.Dif.{DifSeen, fac_of, constants, with_process}
use Rattle.rina_data.specs.Configs.{Member}
use Rattle.rina_data.specs.Process.{Process, with_offs, with_put}
use Rattle.rina_dif_law.specs.Ids.{flipped}
use Rattle.rina_dif_law.specs.Incoming.{Ins, IsArrived, IsInTime, IsRelayed, IsTold, Settles, SettlesFlow, SettlesOff, arrived, cause_told, found, joined_by, lines_for, written_off}
use Rattle.rina_data.specs.Queueing.{line_for}
use Rattle.rina_dif_law.specs.Standing.{IsItem, IsStanding}
use Rattle.rina_dif_law.proofs.After.{IsAfter, NoMore, after_passed}
use Rattle.rina_dif_law.proofs.Arrivals.{IsArrival, arrival}
use Rattle.rina_dif_law.proofs.Clouds.{NoItem, cloud_after, covers_less, requeued_none}
use Rattle.rina_dif_law.proofs.Finding.{cube_limits}
use Rattle.rina_dif_law.proofs.Forgot.{found_clock, found_got}
use Rattle.rina_dif_law.proofs.Frame.{stands_with}
use Rattle.rina_dif_law.proofs.Going.{lost_stands, same_stands}
use Rattle.rina_dif_law.proofs.Journals.{IsConst, journal_set, ports_set}
use Rattle.rina_dif_law.proofs.Own.{direction_in, direction_out, own_covered, partner_back}
use Rattle.rina_dif_law.proofs.OwnRows.{own_arrived, own_told}
use Rattle.rina_dif_law.proofs.Spelled.{IsHopOf}
use Rattle.rina_dif_law.proofs.Queues.{JustItems, requeued_put, requeued_same, same_links}

-- entries that come now are dated
dated_more : (c : Constants) (now : ℕ) (xs : List Entry) (whole : List Sdu) → IsDated now xs → IsDated now (xs ++ map (entry_for c now) whole)
dated_more c now xs [] d = subst (IsDated now) (sym (append-nil xs)) d
dated_more c now xs (s ∷ ss) d = subst (IsDated now) (append_assoc xs (entry_for c now s ∷ []) (map (entry_for c now) ss)) (dated_more c now (xs ++ entry_for c now s ∷ []) ss (dated_push now xs (entry_for c now s) d refl))

more_whole : (c : Constants) (now : ℕ) (end : End) (whole : List Sdu) → IsWhole now end → IsWhole now (record end { got = end.got ++ map (entry_for c now) whole })
more_whole c now end whole w = record {
  sent = w.sent;
  got = dated_more c now end.got whole w.got;
  taken = let taken = w.taken in omega (arith, length-append end.got (map (entry_for c now) whole));
}

arrived_whole : (k : Constants) (now : ℕ) (p : Piece) (line : Direction) (end : End) → line.line.clock ≡ now → line.inbox.got ≡ end.got → IsWhole now end → IsWhole now (record end { got = (arrived k p line).inbox.got })
arrived_whole k now p line end clock got w =
    let x : Direction = found k line in
    let whole = joined_by k p line in
    let P : ℕ → Type 0 = λ t. IsWhole now (record end { got = x.inbox.got ++ map (entry_for k t) whole }) in
    let Q : List Entry → Type 0 = λ xs. IsWhole now (record end { got = xs ++ map (entry_for k now) whole }) in
    subst P (sym (found_clock k line ∙ clock)) (subst Q (sym (found_got k line ∙ got)) (more_whole k now end whole w))

module _ (d : DifSeen) (lines : List Direction) (below below' : Seen) (st : IsStanding d lines below) (after : IsAfter d.config NoMore below below') (clock : below'.now ≡ below.now) (older : ℕ) (pdu : Pdu) (has : Cloud Everywhere d.config d.processes below older pdu) (alive : d.clock ≤ older) where
  -- what a piece of the cloud makes of its direction
  arrived_stands : (i : ℕ) (process : Process) (cause : Option Cause) (d' : DifSeen) (lines' : List Direction) → slice_get d.processes i ≡ Some process → IsArrived d lines i process pdu cause d' lines' → IsStanding d' lines' below'
  arrived_stands i process cause d' lines' is_process s =
      let k : Constants = constants d.config s.cube (flipped s.ids) in
      let line' : Direction = arrived k (piece_in pdu) s.line in
      let end' : End = record s.end { got = line'.inbox.got } in
      let process' : Process = with_offs process (s.dropped ++ lines_for pdu cause) in
      let processes' : List Process = slice_set d.processes i process' in
      let moved = requeued_same d.processes i process process' is_process refl in
      let covers = covers_less Everywhere d.config d.clock d.processes processes' below below' moved after in
      let at = s.taker.is_conn.end in
      let partner = s.inbound.partner in
      let named = st.journal.named s.from s.place partner s.end s.inbound.is_partner at s.inbound.partners in
      let flow = direction_in d.config d.clock (Cloud Everywhere d.config d.processes below) d.ids d.ends d.conns lines st.own s.from s.place partner s.end s.ids s.line s.inbound.is_partner s.taker.is_conn s.inbound.is_line s.inbound.partners s.taker.allocated named.cube in
      let has_partner : HasPartner d.ends s.end = record { place = s.from; other = partner; stands = s.inbound.is_partner; partner = partner_back partner s.end s.inbound.partners } in
      let const : IsConst s.end end' = record { flow = refl; role = refl; port = refl; app = refl; peer = refl; cube = refl } in
      let whole = arrived_whole k d.clock (piece_in pdu) s.line s.end flow.backed.clock flow.got (st.journal.whole s.place s.end at) in
      let own = own_arrived d.config d.clock (Cloud Everywhere d.config d.processes below) (Cloud Everywhere d.config processes' below') d.ids d.ends d.conns lines st.own st.journal s.place s.end s.ids s.cube s.taker.is_conn s.is_cube (cube_limits d.config s.ids.qos s.cube st.config s.is_cube) s.from partner s.inbound.is_partner s.inbound.partners s.line s.inbound.is_line
      s.taker.allocated older pdu has alive s.piece s.taker.names covers in
      subst (λ (z : DifSeen). IsStanding z lines' below') (sym s.new_is) (subst (λ (ls : List Direction). IsStanding (record d { ends = slice_set d.ends s.place end'; processes = processes' }) ls below') (sym s.lines_are)
      (stands_with d lines (slice_set lines s.from line') NoMore NoItem below below' d.clock processes' (slice_set d.ends s.place end') st after (st.clock ∙ sym clock) (omega arith) (length-set d.processes i process') moved (same_links d.processes i process process' is_process refl)
      (λ port y none. absurd none) (λ j m item none. absurd none)
      (journal_set d.ends s.place s.end end' at const d.clock st.journal whole (λ state. has_partner) (λ j x h. has_partner))
      (ports_set d.ends s.place s.end end' at const d.config.fac (fac_of d) (fac_of (record d { ends = slice_set d.ends s.place end'; processes = processes' })) refl refl st.ports)
      own))

  -- what an acknowledgement of the cloud makes of its direction
  told_stands : (d' : DifSeen) (lines' : List Direction) → IsTold d lines pdu d' lines' → IsStanding d' lines' below'
  told_stands d' lines' s =
      let cloud : ℕ → Pdu → Type 0 = Cloud Everywhere d.config d.processes below in
      let cloud' : ℕ → Pdu → Type 0 = Cloud Everywhere d.config d.processes below' in
      let line' : Direction = record s.line { line = told (ack_in pdu) s.line.line } in
      let covers = covers_less Everywhere d.config d.clock d.processes d.processes below below' (requeued_none d.processes) after in
      let conn = s.taker.is_conn in
      let partner = st.journal.allocated s.place s.end conn.end s.taker.allocated in
      let flow = direction_out d.config d.clock cloud d.ids d.ends d.conns lines st.own s.place partner.place s.end partner.other s.ids s.line conn partner.stands s.is_line partner.partner s.taker.allocated in
      let own = own_told d.config d.clock cloud cloud' d.ids d.ends d.conns lines st.own s.place s.end s.ids flow.cube conn s.taker.allocated flow.is_cube (cube_limits d.config s.ids.qos flow.cube st.config flow.is_cube) s.line s.is_line partner.place partner.other partner.stands partner.partner older pdu has alive s.ack s.taker.names covers in
      subst (λ (z : DifSeen). IsStanding z lines' below') (sym s.new_is) (subst (λ (ls : List Direction). IsStanding d ls below') (sym s.lines_are)
      (stands_with d lines (slice_set lines s.place line') NoMore NoItem below below' d.clock d.processes d.ends st after (st.clock ∙ sym clock) (omega arith) refl (requeued_none d.processes) (λ j l h. h)
      (λ port y none. absurd none) (λ j m item none. absurd none) st.journal st.ports own))

  -- a PDU of the cloud waits for its next hop
  relayed_stands : (i at : ℕ) (process : Process) (hop : Hop) (d' : DifSeen) → slice_get d.processes i ≡ Some process → hop.pdu ≡ pdu → at + hop.left ≤ older → at ≤ d.clock → IsHopOf d.config hop → IsRelayed d i process at hop d' → IsStanding d' lines below'
  relayed_stands i at process hop d' is_process same later past fit s =
      let p = s.passed in
      let item : Queued = record { pdu = hop.pdu; left = hop.left; since = at } in
      let process' : Process = with_put process p.place p.queue (item ∷ []) in
      let processes' : List Process = slice_set d.processes i process' in
      let moved = requeued_put d.processes i p.place process p.queue (item ∷ []) is_process p.is_queue.is_queue in
      let covers : Covers d.clock (Cloud Everywhere d.config d.processes below) (Cloud Everywhere d.config processes' below') = λ death pdu' x lives. elim (cloud_after Everywhere d.config (JustItems i p.queue.link (item ∷ [])) NoMore d.processes processes' below below' death pdu' moved after x) [
        | inl o ↦ (death, omega arith, o)
        | inr (inl put) ↦ elim (put.new.2) [
          | inl is ↦
              let since : put.item.since ≡ at = ap (λ (z : Queued). z.since) is in
              let left : put.item.left ≡ hop.left = ap (λ (z : Queued). z.left) is in
              let dies : death ≡ put.item.since + put.item.left = put.dies in
              (older, omega arith, subst (Cloud Everywhere d.config d.processes below older) (sym same ∙ ap (λ (z : Queued). z.pdu) (sym is) ∙ put.is) has)
          | inr none ↦ absurd none
        ]
        | inr (inr given) ↦ absurd given.new
      ] in
      let fits : IsItem d.config d.clock item = record { fit = fit.fit; past = past; left = fit.left } in
      subst (λ (z : DifSeen). IsStanding z lines below') (sym s.new_is) (subst (λ (z : Process). IsStanding (with_process d i z) lines below') (sym p.new_is)
      (stands_with d lines lines NoMore (JustItems i p.queue.link (item ∷ [])) below below' d.clock processes' d.ends st after (st.clock ∙ sym clock) (omega arith) (length-set d.processes i process') moved (same_links d.processes i process process' is_process refl)
      (λ port y none. absurd none)
      (λ j m x new. elim (new.2) [ inl is ↦ subst (IsItem d.config d.clock) (sym is) fits | inr none ↦ absurd none ])
      st.journal st.ports
      (own_covered d.config d.clock (Cloud Everywhere d.config d.processes below) (Cloud Everywhere d.config processes' below') d.ids d.ends d.conns lines st.own covers)))

-- the PDU of an arrival that is in time is in the cloud still
pub alive_arrival : (d : DifSeen) (at left older : ℕ) → d.clock - at ≤ left → at ≤ d.clock → at + left ≤ older → d.clock ≤ older
alive_arrival d at left older in_time past later = omega arith

now_passed : (below : Seen) (port : Port) (below' : Seen) → IsPassed below port below' → below'.now ≡ below.now
now_passed below port below' w = ap (λ (s : Seen). s.now) w.new_is

module _ (d : DifSeen) (lines : List Direction) (below below' : Seen) (st : IsStanding d lines below) (after : IsAfter d.config NoMore below below') (clock : below'.now ≡ below.now) (i : ℕ) (member : Member) (process : Process) (port : Port) (is_process : slice_get d.processes i ≡ Some process) (entry : Entry) (hop : Hop) (a : IsArrival d below member port entry hop) where
  alive_now : IsInTime d entry.tick hop → d.clock ≤ a.older
  alive_now in_time = alive_arrival d entry.tick hop.left a.older in_time a.past a.later

  off_arrived : (cause : Cause) (d' : DifSeen) (lines' : List Direction) → IsInTime d entry.tick hop → IsArrived d lines i process hop.pdu (Some cause) d' lines' → IsStanding d' lines' below'
  off_arrived cause d' lines' in_time s = arrived_stands d lines below below' st after clock a.older hop.pdu (inr a.on_way) (alive_now in_time) i process (Some cause) d' lines' is_process s

  offs_noted : (offs : List Off) (d' : DifSeen) (lines' : List Direction) → d' ≡ with_process d i (with_offs process offs) → lines' ≡ lines → IsStanding d' lines' below'
  offs_noted offs d' lines' d_is lines_are =
      let process' : Process = with_offs process offs in
      same_stands (with_process d i process') lines below' d' lines' below' d_is lines_are refl (lost_stands d lines below below' i process process' st after clock is_process refl (requeued_same d.processes i process process' is_process refl))

  off_noted : (cause : Cause) (d' : DifSeen) (lines' : List Direction) → d' ≡ written_off d i process hop.pdu cause → lines' ≡ lines → IsStanding d' lines' below'
  off_noted cause d' lines' d_is lines_are = offs_noted (line_for hop.pdu cause ∷ []) d' lines' d_is lines_are

  settles_off : (cause : Cause) (d' : DifSeen) (lines' : List Direction) → SettlesOff d lines i member process entry.tick hop cause d' lines' → IsStanding d' lines' below'
  settles_off (causes.Expired left charge) d' lines' s = off_noted (causes.Expired left charge) d' lines' s.3 s.4
  settles_off (causes.NoRoute dst) d' lines' s = off_noted (causes.NoRoute dst) d' lines' s.4 s.5
  settles_off (causes.QueueFull cap) d' lines' s = off_noted (causes.QueueFull cap) d' lines' s.4 s.5
  settles_off (causes.NoConnection cep) d' lines' s = off_noted (causes.NoConnection cep) d' lines' s.4 s.5
  settles_off (causes.Duplicate num) d' lines' s = off_arrived (causes.Duplicate num) d' lines' s.0 s.2
  settles_off (causes.Behind highest) d' lines' s = off_arrived (causes.Behind highest) d' lines' s.0 s.2
  settles_off (causes.NoState drf) d' lines' s = off_arrived (causes.NoState drf) d' lines' s.0 s.2
  settles_off (causes.NoRoom cap) d' lines' s = off_arrived (causes.NoRoom cap) d' lines' s.0 s.2
  settles_off (causes.StateGone last_in) d' lines' s = off_arrived (causes.StateGone last_in) d' lines' s.0 s.2
  settles_off (causes.Broken missing) d' lines' s = off_arrived (causes.Broken missing) d' lines' s.0 s.2
  settles_off (causes.LinkDown down) d' lines' s = absurd s

  flow_stands : (end : Took) (d' : DifSeen) (lines' : List Direction) → SettlesFlow d lines i member process entry.tick hop end d' lines' → IsStanding d' lines' below'
  flow_stands took.Accepted d' lines' s = elim (s.2) [
    | inl x ↦ arrived_stands d lines below below' st after clock a.older hop.pdu (inr a.on_way) (alive_now s.0) i process None d' lines' is_process x
    | inr x ↦ told_stands d lines below below' st after clock a.older hop.pdu (inr a.on_way) (alive_now s.0) d' lines' x
  ]
  flow_stands took.Relayed d' lines' s = subst (λ (ls : List Direction). IsStanding d' ls below') (sym s.3) (relayed_stands d lines below below' st after clock a.older hop.pdu (inr a.on_way) (alive_now s.0) i entry.tick process hop d' is_process refl a.later a.past a.fit s.2)
  flow_stands (took.Off cause) d' lines' s = settles_off cause d' lines' s

  settles_stand : (end : Took) (d' : DifSeen) (lines' : List Direction) → Settles d lines i member process entry.tick hop end d' lines' → IsStanding d' lines' below'
  settles_stand end d' lines' s = elim s [
    | inl flow ↦ flow_stands end d' lines' flow.1
    | inr link ↦ offs_noted (link.dropped ++ lines_for hop.pdu (cause_told end)) d' lines' link.new_is link.lines_are
  ]

-- `in_step`, whatever it answers
pub ins_stand : (d : DifSeen) (lines : List Direction) (below : Seen) (i n : ℕ) (r : Result InStep StepError) (d' : DifSeen) (lines' : List Direction) (below' : Seen) → AreKept below → AreKept below' → IsStanding d lines below → Ins d lines below i n r d' lines' below' → IsStanding d' lines' below'
ins_stand d lines below i n (Ok in_.Idle) d' lines' below' kept kept' st s = same_stands d lines below d' lines' below' s.1 s.2 s.3 st
ins_stand d lines below i n (Ok (in_.Took key end)) d' lines' below' kept kept' st s =
    let a = arrival d lines below i n s.member s.process s.link s.entry s.hop st kept s.is_process s.is_link s.oldest s.opens in
    let later = later_passes below s.link.port below' s.passed in
    let after = after_passed d.config below s.link.port below' kept kept' later s.passed in
    settles_stand d lines below below' st after (now_passed below s.link.port below' s.passed) i s.member s.process s.link.port s.is_process.is_process s.entry s.hop a end d' lines' s.settled
ins_stand d lines below i n (Err Memory) d' lines' below' kept kept' st s = same_stands d lines below d' lines' below' s.0 s.1 s.2 st
ins_stand d lines below i n (Err NoIpc) d' lines' below' kept kept' st s = same_stands d lines below d' lines' below' s.1 s.2 s.3 st
ins_stand d lines below i n (Err NoLink) d' lines' below' kept kept' st s = same_stands d lines below d' lines' below' s.1 s.2 s.3 st
ins_stand d lines below i n (Err (CountSpent need left)) d' lines' below' kept kept' st s = same_stands d lines below d' lines' below' s.0 s.1 s.2 st
