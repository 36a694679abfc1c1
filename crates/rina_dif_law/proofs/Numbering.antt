-- Each call keeps a DIF numbered.
use Rattle.std.proofs.Common.{◌≡◌, ℕ, suc, ◌+◌, List, [], ◌∷◌, ◌++◌, ◌&&◌, ◌*◌, cond, eqb, length, length-set, slice_get, slice_set, Some, None, Ok, Err, Option, Result, refl, sym, ◌∙◌, ap, subst, arith, inl, inr}
use Rattle.std.proofs.lemmas.List.Sums.{sum_by-cons}
use Rattle.std.proofs.lemmas.Option.{slice_get_within}
use Rattle.rina_account.specs.declared.ledger.Off.{Off}
use Rattle.rina_base.specs.declared.cause.Cause.{Cause}
use Rattle.rina_base.specs.declared.cause.Cause.TheVariants as causes
use Rattle.rina_base.specs.declared.number.Key.{Key}
use Rattle.rina_base.specs.declared.number.Num.{Num}
use Rattle.rina_base.specs.declared.number.Port.{Port}
use Rattle.rina_base.specs.declared.pdu.Pdu.{Pdu}
use Rattle.rina_iface.specs.declared.ends.End.{End}
use Rattle.rina_iface.specs.declared.error.SendError.{SendError}
use Rattle.rina_iface.specs.declared.error.SendError.TheVariants as errors
use Rattle.rina_iface.specs.declared.state.PortState.{PortState}
use Rattle.rina_iface.specs.declared.state.Role.{Role}
use Rattle.rina_iface.specs.Ends.{drawn_at, with_passed, with_sent}
use Rattle.rina_iface.specs.Journal.{AreKept, At}
use Rattle.rina_iface.specs.Later.{AreLater, IsLater, IsLaterEnd}
use Rattle.rina_iface.specs.Seen.{Seen, end_of}
use Rattle.rina_iface.specs.Send.{IsSent}
use Rattle.rina_iface.proofs.LaterCalls.{later_passes, later_sends}
use Rattle.rina_law.specs.declared.entry.Entry.{Entry}
use Rattle.rina_law.specs.Direction.{Direction}
use Rattle.rina_law.specs.Lists.{In}
use Rattle.rina_law.specs.Pieces.{Part}
use Rattle.rina_queue.specs.declared.queue.Queued.{Queued}
use Rattle.rina_ids.specs.Members.{CepIds}
use Rattle.rina_data.specs.declared.step.InStep.{InStep}
use Rattle.rina_data.specs.declared.step.InStep.TheVariants as in_
use Rattle.rina_data.specs.declared.step.OutStep.{OutStep}
use Rattle.rina_data.specs.declared.step.OutStep.TheVariants as out
use Rattle.rina_data.specs.declared.step.StepError.{StepError}
use Rattle.rina_data.specs.declared.step.StepError.TheVariants.{CountSpent, Memory, NoIpc, NoLink}
use Rattle.rina_data.specs.declared.step.Took.{Took}
use Rattle.rina_data.specs.declared.step.Took.TheVariants as took
use Rattle.rina_dif_law.specs.Cloud.{Cloud, Everywhere, IsMine}
use Rattle.rina_data.specs.Hops.{Hop}
use Rattle.rina_dif_law.specs.Dif.{DifSeen, constants, with_process}
use Rattle.rina_data.specs.Configs.{Member}
use Rattle.rina_data.specs.Process.{Process, with_offs, with_put}
use Rattle.rina_dif_law.specs.Ending.{GivesBack, IsEnded}
use Rattle.rina_dif_law.specs.Ids.{Ids}
use Rattle.rina_dif_law.specs.Incoming.{Ins, IsArrived, IsRelayed, Settles, SettlesFlow, SettlesOff, cause_told, lines_for}
use Rattle.rina_dif_law.specs.Lifting.{IsLifted}
use Rattle.rina_dif_law.specs.Numbered.{AreDrawn, AreMembers, IsAddressed, IsCounted, IsFromHere, IsNumbered, asked_at, is_asker}
use Rattle.rina_data.specs.Outgoing.{Goes, IsForwarded, IsWrittenOff, Offs, sent_bytes}
use Rattle.rina_dif_law.specs.Outgoing.{Outs}
use Rattle.rina_dif_law.specs.Passing.{IsPassed, IsTicked}
use Rattle.rina_data.specs.Queueing.{line_for}
use Rattle.rina_dif_law.specs.Sending.{IsOffered, Offers, home, made_items, offered_entry, offered_pieces}
use Rattle.rina_dif_law.specs.Standing.{IsConn, IsStanding}
use Rattle.rina_dif_law.specs.Start.{IsStart}
use Rattle.rina_dif_law.specs.Timely.{IsAcknowledged, IsForgotten, IsResent, Posts}
use Rattle.rina_dif_law.proofs.After.{IsAfter, Just, NoMore, after_lifted, after_none, after_passed, after_sent, no_more_of_others}
use Rattle.rina_dif_law.proofs.Arrivals.{arrival}
use Rattle.rina_dif_law.proofs.Clouds.{IsGiven, NoItem, Requeued, cloud_after, requeued_none}
use Rattle.rina_data.proofs.Finding.{there}
use Rattle.rina_cube.specs.Cubes.{delta_of}
use Rattle.rina_dif_law.proofs.Finishing.{ended_silent}
use Rattle.rina_dif_law.proofs.HeldIds.{rest_drawn}
use Rattle.rina_dif_law.proofs.Going.{given_dies, head_waits}
use Rattle.rina_dif_law.proofs.Queues.{JustItems, made_item, requeued_put, requeued_same, requeued_taken}
use Rattle.rina_dif_law.proofs.Starting.{no_cloud}
use Rattle.rina_dif_law.proofs.Upper.{acknowledged_silent, forgotten_silent, ins_silent, offers_later, outs_silent, passed_later, resent_silent, ticked_silent}

-- ---- the ends

abbrev pub counts : ℕ → End → ℕ
counts node e = cond (eqb e.port.node node && is_asker e.role) 1 0

counts_same : (node : ℕ) (a b : End) → b.port ≡ a.port → b.role ≡ a.role → counts node b ≡ counts node a
counts_same node a b port role = ap (λ (p : Port). cond (eqb p.node node && is_asker b.role) 1 0) port ∙ ap (λ (r : Role). cond (eqb a.port.node node && is_asker r) 1 0) role

asked_same : (before now node : ℕ) (old new : List End) → length new ≡ length old → AreLater before now old new → asked_at node new ≡ asked_at node old
asked_same before now node [] [] same later = refl
asked_same before now node [] (b ∷ bs) same later = absurd (omega arith)
asked_same before now node (a ∷ xs) [] same later = absurd (omega arith)
asked_same before now node (a ∷ xs) (b ∷ bs) same later =
    let h = later 0 a refl in
    let is : b ≡ h.0 = cc in
    let one : counts node b ≡ counts node a = counts_same node a b (ap (λ (z : End). z.port) is ∙ h.2.port) (ap (λ (z : End). z.role) is ∙ h.2.role) in
    let rest = asked_same before now node xs bs (omega (arith, same)) (λ i e x. later (suc i) e x) in
    let new_is : asked_at node (b ∷ bs) ≡ counts node b + asked_at node bs = sum_by-cons (counts node) b bs in
    let old_is : asked_at node (a ∷ xs) ≡ counts node a + asked_at node xs = sum_by-cons (counts node) a xs in
    new_is ∙ ap (λ (k : ℕ). k + asked_at node bs) one ∙ ap (λ (k : ℕ). counts node a + k) rest ∙ sym old_is

-- as many ports were drawn
drawn_same : (before now node : ℕ) (old new : List End) → length new ≡ length old → AreLater before now old new → drawn_at node new ≡ drawn_at node old
drawn_same before now node [] [] same later = refl
drawn_same before now node [] (b ∷ bs) same later = absurd (omega arith)
drawn_same before now node (a ∷ xs) [] same later = absurd (omega arith)
drawn_same before now node (a ∷ xs) (b ∷ bs) same later =
    let h = later 0 a refl in
    let is : b ≡ h.0 = cc in
    let counted : End → ℕ = λ e. cond (eqb e.port.node node) 1 0 in
    let one : counted b ≡ counted a = ap (λ (p : Port). cond (eqb p.node node) 1 0) (ap (λ (z : End). z.port) is ∙ h.2.port) in
    let rest = drawn_same before now node xs bs (omega (arith, same)) (λ i e x. later (suc i) e x) in
    let new_is : drawn_at node (b ∷ bs) ≡ counted b + drawn_at node bs = sum_by-cons counted b bs in
    let old_is : drawn_at node (a ∷ xs) ≡ counted a + drawn_at node xs = sum_by-cons counted a xs in
    new_is ∙ ap (λ (k : ℕ). k + drawn_at node bs) one ∙ ap (λ (k : ℕ). counted a + k) rest ∙ sym old_is

-- an end was there before
was_there : (before now : ℕ) (old new : List End) (i : ℕ) (e : End) → length new ≡ length old → AreLater before now old new → At new i e → (o : End) × At old i o × IsLaterEnd before now o e
was_there before now old new i e same later is =
    let lt = slice_get_within new i e is in
    let o = there old i (omega (arith, lt, same)) in
    let h = later i o.0 o.1 in
    let e_is : h.0 ≡ e = cc in
    (o.0, o.1, subst (IsLaterEnd before now o.0) e_is h.2)

pub numbered_with : (d : DifSeen) (clock : ℕ) (processes : List Process) (ends : List End) (below below' : Seen) → IsNumbered d below → AreLater d.clock clock d.ends ends → length ends ≡ length d.ends
    → ((death : ℕ) (pdu : Pdu) → Cloud Everywhere d.config processes below' death pdu → IsFromHere d.conns pdu) → IsNumbered (record d { clock = clock; processes = processes; ends = ends }) below'
numbered_with d clock processes ends below below' n later same cloud = record {
  members = n.members;
  addressed = λ i e ids conn.
      let o = was_there d.clock clock d.ends ends i e same later conn.end in
      let a = n.addressed i o.0 ids (record { end = o.1; ids_are = conn.ids_are }) in
      record {
        place = a.place;
        member = a.member;
        at_home = subst (λ (p : Port). home p.node d.config.members ≡ Some a.place) (sym o.2.port) a.at_home;
        stands = a.stands;
        addr = a.addr;
      };
  counted = λ i e is.
      let o = was_there d.clock clock d.ends ends i e same later is in
      let c = n.counted i o.0 o.1 in
      let count = c.count in
      let asked = asked_same d.clock clock c.member.node d.ends ends same later in
      let flow = ap (λ (f : _). f.count) o.2.flow in
      record {
        place = c.place;
        member = c.member;
        stands = c.stands;
        addr = c.addr ∙ ap (λ (f : _). f.src) (sym o.2.flow);
        count = omega (arith, count, asked, flow);
      };
  drawn = record {
    aligned = n.drawn.aligned;
    greatest = n.drawn.greatest;
    few = λ i m ids is_member are_ids. (let few = n.drawn.few i m ids is_member are_ids in let same = drawn_same d.clock clock m.node d.ends ends same later in omega (arith, few, same));
  };
  named = cloud;
}

-- as many ends stand there as in what it is
as_many : (d' new : DifSeen) → d' ≡ new → length d'.ends ≡ length new.ends
as_many d' new is = ap (λ (z : DifSeen). length z.ends) is

-- whatever a call is, by what it did to the ends and to the cloud
pub numbered_at : (d d' : DifSeen) (clock : ℕ) (processes : List Process) (ends : List End) (below below' : Seen) → d' ≡ record d { clock = clock; processes = processes; ends = ends } → AreLater d.clock d'.clock d.ends d'.ends → length d'.ends ≡ length d.ends → IsNumbered d below
    → ((death : ℕ) (pdu : Pdu) → Cloud Everywhere d.config processes below' death pdu → IsFromHere d.conns pdu) → IsNumbered d' below'
numbered_at d d' clock processes ends below below' is later same n cloud =
    let later' : AreLater d.clock clock d.ends ends = subst (λ (z : DifSeen). AreLater d.clock z.clock d.ends z.ends) is later in
    let same' : length ends ≡ length d.ends = subst (λ (z : DifSeen). length z.ends ≡ length d.ends) is same in
    subst (λ (z : DifSeen). IsNumbered z below') (sym is) (numbered_with d clock processes ends below below' n later' same' cloud)

-- ---- the cloud

from_here : (d : DifSeen) (items : ℕ → ℕ → Queued → Type 0) (entries : Port → Entry → Type 0) (processes : List Process) (below below' : Seen) → IsNumbered d below → Requeued items d.processes processes → IsAfter d.config entries below below'
    → ((j m : ℕ) (item : Queued) → items j m item → IsFromHere d.conns item.pdu) → ((death : ℕ) (pdu : Pdu) → IsGiven Everywhere d.config below entries death pdu → IsFromHere d.conns pdu)
    → (death : ℕ) (pdu : Pdu) → Cloud Everywhere d.config processes below' death pdu → IsFromHere d.conns pdu
from_here d items entries processes below below' n moved after put given death pdu x = elim (cloud_after Everywhere d.config items entries d.processes processes below below' death pdu moved after x) [
  | inl o ↦ n.named death pdu o
  | inr (inl p) ↦ subst (IsFromHere d.conns) p.is (put p.process p.link p.item p.new)
  | inr (inr g) ↦ given death pdu g
]

-- nothing is queued or sent
pub none_here : (d : DifSeen) (processes : List Process) (below below' : Seen) → IsNumbered d below → Requeued NoItem d.processes processes → IsAfter d.config NoMore below below'
    → (death : ℕ) (pdu : Pdu) → Cloud Everywhere d.config processes below' death pdu → IsFromHere d.conns pdu
none_here d processes below below' n moved after = from_here d NoItem NoMore processes below below' n moved after (λ j m item x. absurd x) (λ death pdu x. absurd x.new)

-- PDUs are queued
put_here : (d : DifSeen) (i link : ℕ) (items : List Queued) (processes : List Process) (below below' : Seen) → IsNumbered d below → Requeued (JustItems i link items) d.processes processes → IsAfter d.config NoMore below below' → ((item : Queued) → In item items → IsFromHere d.conns item.pdu)
    → (death : ℕ) (pdu : Pdu) → Cloud Everywhere d.config processes below' death pdu → IsFromHere d.conns pdu
put_here d i link items processes below below' n moved after new = from_here d (JustItems i link items) NoMore processes below below' n moved after (λ j m item x. new item x.2) (λ death pdu x. absurd x.new)

same_numbered : (d d' : DifSeen) (below below' : Seen) → d' ≡ d → below' ≡ below → IsNumbered d below → IsNumbered d' below'
same_numbered d d' below below' p q n = subst (λ (z : DifSeen). IsNumbered z below') (sym p) (subst (IsNumbered d) (sym q) n)

-- ---- a send

offered_numbered : (d : DifSeen) (lines : List Direction) (below : Seen) (at : ℕ) (parts : List Part) (num : Num) (d' : DifSeen) (lines' : List Direction) → AreLater d.clock d'.clock d.ends d'.ends → IsNumbered d below → IsOffered d lines at parts num d' lines' → IsNumbered d' below
offered_numbered d lines below at parts num d' lines' later n s =
    let k = constants d.config s.cube s.ids in
    let pieces = offered_pieces k parts s.line in
    let end' : End = with_sent s.end (offered_entry k parts s.line) in
    let items : List Queued = made_items s.ids s.cube.mpl d.clock pieces in
    let processes' : List Process = slice_set d.processes s.i (with_put s.process s.place s.queue items) in
    let number : length d'.ends ≡ length d.ends = ap (λ (z : DifSeen). length z.ends) s.new_is ∙ length-set d.ends at end' in
    numbered_at d d' d.clock processes' (slice_set d.ends at end') below below s.new_is later number n
    (put_here d s.i s.queue.link items processes' below below n (requeued_put d.processes s.i s.place s.process s.queue items s.is_process s.is_queue.is_queue) (after_none d.config below)
    (λ item x.
    let m = made_item s.ids s.cube.mpl d.clock pieces item x in
    inr (record { at = at; ids = s.ids; stands = s.is_conn.ids_are; src = ap (λ (z : Queued). z.pdu.src) m.is; scep = ap (λ (z : Queued). z.pdu.scep) m.is })))

pub offers_numbered : (d : DifSeen) (lines : List Direction) (below : Seen) (at : ℕ) (parts : List Part) (r : Result Num SendError) (d' : DifSeen) (lines' : List Direction) → IsStanding d lines below → IsNumbered d below → Offers d lines at parts r d' lines' → IsNumbered d' below
offers_numbered d lines below at parts (Ok num) d' lines' st n s = offered_numbered d lines below at parts num d' lines' ((offers_later d lines below at parts (Ok num) d' lines' st s).ends) n s.2
offers_numbered d lines below at parts (Err errors.Memory) d' lines' st n s = same_numbered d d' below below s.0 refl n
offers_numbered d lines below at parts (Err why) d' lines' st n s = same_numbered d d' below below s.1 refl n

-- ---- a pass

pub passed_numbered : (d : DifSeen) (lines : List Direction) (below : Seen) (at : ℕ) (d' : DifSeen) (lines' : List Direction) → IsNumbered d below → IsPassed d lines at d' lines' → IsNumbered d' below
passed_numbered d lines below at d' lines' n s =
    let end' : End = with_passed s.end in
    let number : length d'.ends ≡ length d.ends = ap (λ (z : DifSeen). length z.ends) s.new_is ∙ length-set d.ends at end' in
    numbered_at d d' d.clock d.processes (slice_set d.ends at end') below below s.new_is ((passed_later d lines at d' lines' s).ends) number n (none_here d d.processes below below n (requeued_none d.processes) (after_none d.config below))

-- ---- a step that sends

forwarded_here : (refuses : Port → ℕ → Option SendError) (d : DifSeen) (lines : List Direction) (below : Seen) (i m : ℕ) (process : Process) (key : Key) (process' : Process) (below' : Seen) → AreKept below → AreKept below' → IsStanding d lines below → IsNumbered d below → slice_get d.processes i ≡ Some process → IsForwarded refuses d.config d.clock process below m key process' below'
    → (death : ℕ) (pdu : Pdu) → Cloud Everywhere d.config (slice_set d.processes i process') below' death pdu → IsFromHere d.conns pdu
forwarded_here refuses d lines below i m process key process' below' kept kept' st n is_process s =
    let bytes = sent_bytes d.config d.clock s.item s.promise in
    let x : Entry = record { tick = below.now; num = s.num; bytes = bytes } in
    let later = later_sends (refuses s.link.port (length bytes)) below s.link.port bytes (Ok s.num) below' s.sent in
    let after = after_sent d.config below s.link.port bytes s.num below' kept kept' later s.sent.1 in
    let waits = head_waits d.processes i m process s.link s.place s.queue s.item is_process s.head in
    let fit = st.items i m s.item waits in
    from_here d NoItem (Just s.link.port x) (slice_set d.processes i process') below below' n (requeued_taken d.processes i s.place process process' s.queue is_process s.head.is_queue (ap (λ (z : Process). z.queues) s.new_is)) after (λ j k item none. absurd none)
    (λ death pdu given.
    let dies = given_dies d.config d.clock below s.link.port s.item s.promise death pdu s.num Everywhere st.config (sym st.clock) fit s.promised s.in_time given in
    n.named death pdu (inl (record { process = i; link = m; within = tt; item = s.item; waits = waits; dies = dies.0; is = dies.1 })))

written_off_here : (holds : _ → Queued → ℕ → Type 0) (cause : Cause) (d : DifSeen) (below : Seen) (i m : ℕ) (process : Process) (key : Key) (process' : Process) (below' : Seen) → IsNumbered d below → slice_get d.processes i ≡ Some process → IsWrittenOff holds cause process below m key process' below'
    → (death : ℕ) (pdu : Pdu) → Cloud Everywhere d.config (slice_set d.processes i process') below' death pdu → IsFromHere d.conns pdu
written_off_here holds cause d below i m process key process' below' n is_process s death pdu x =
    let moved = requeued_taken d.processes i s.place process process' s.queue is_process s.head.is_queue (ap (λ (z : Process). z.queues) s.new_is) in
    none_here d (slice_set d.processes i process') below below n moved (after_none d.config below) death pdu (subst (λ (z : Seen). Cloud Everywhere d.config (slice_set d.processes i process') z death pdu) s.below_is x)

offs_here : (refuses : Port → ℕ → Option SendError) (d : DifSeen) (below : Seen) (i m : ℕ) (process : Process) (key : Key) (cause : Cause) (process' : Process) (below' : Seen) → IsNumbered d below → slice_get d.processes i ≡ Some process → Offs refuses d.config d.clock process below m key cause process' below'
    → (death : ℕ) (pdu : Pdu) → Cloud Everywhere d.config (slice_set d.processes i process') below' death pdu → IsFromHere d.conns pdu
offs_here refuses d below i m process key (causes.Expired left charge) process' below' n is s = written_off_here _ (causes.Expired left charge) d below i m process key process' below' n is s
offs_here refuses d below i m process key (causes.LinkDown port) process' below' n is s = written_off_here _ (causes.LinkDown port) d below i m process key process' below' n is s
offs_here refuses d below i m process key (causes.NoRoute dst) process' below' n is s = absurd s
offs_here refuses d below i m process key (causes.QueueFull cap) process' below' n is s = absurd s
offs_here refuses d below i m process key (causes.NoConnection cep) process' below' n is s = absurd s
offs_here refuses d below i m process key (causes.Duplicate num) process' below' n is s = absurd s
offs_here refuses d below i m process key (causes.Behind highest) process' below' n is s = absurd s
offs_here refuses d below i m process key (causes.NoState drf) process' below' n is s = absurd s
offs_here refuses d below i m process key (causes.NoRoom cap) process' below' n is s = absurd s
offs_here refuses d below i m process key (causes.StateGone last_in) process' below' n is s = absurd s
offs_here refuses d below i m process key (causes.Broken missing) process' below' n is s = absurd s

idle_here : (d : DifSeen) (below : Seen) (i : ℕ) (process process' : Process) (below' : Seen) → IsNumbered d below → slice_get d.processes i ≡ Some process → process' ≡ process → below' ≡ below
    → (death : ℕ) (pdu : Pdu) → Cloud Everywhere d.config (slice_set d.processes i process') below' death pdu → IsFromHere d.conns pdu
idle_here d below i process process' below' n is same below_is death pdu x =
    none_here d (slice_set d.processes i process') below below n (requeued_same d.processes i process process' is (ap (λ (z : Process). z.queues) same)) (after_none d.config below) death pdu (subst (λ (z : Seen). Cloud Everywhere d.config (slice_set d.processes i process') z death pdu) below_is x)

goes_here : (refuses : Port → ℕ → Option SendError) (d : DifSeen) (lines : List Direction) (below : Seen) (i m : ℕ) (process : Process) (r : Result OutStep StepError) (process' : Process) (below' : Seen) → AreKept below → AreKept below' → IsStanding d lines below → IsNumbered d below → slice_get d.processes i ≡ Some process → Goes refuses d.config d.clock process below m r process' below'
    → (death : ℕ) (pdu : Pdu) → Cloud Everywhere d.config (slice_set d.processes i process') below' death pdu → IsFromHere d.conns pdu
goes_here refuses d lines below i m process (Ok out.Idle) process' below' kept kept' st n is s = idle_here d below i process process' below' n is s.2 s.3
goes_here refuses d lines below i m process (Ok (out.Sent key)) process' below' kept kept' st n is s = forwarded_here refuses d lines below i m process key process' below' kept kept' st n is s
goes_here refuses d lines below i m process (Ok (out.Off key cause)) process' below' kept kept' st n is s = offs_here refuses d below i m process key cause process' below' n is s
goes_here refuses d lines below i m process (Ok (out.Held why)) process' below' kept kept' st n is s = idle_here d below i process process' below' n is s.1 s.2
goes_here refuses d lines below i m process (Err Memory) process' below' kept kept' st n is s = idle_here d below i process process' below' n is s.0 s.1
goes_here refuses d lines below i m process (Err NoIpc) process' below' kept kept' st n is s = absurd s
goes_here refuses d lines below i m process (Err NoLink) process' below' kept kept' st n is s = idle_here d below i process process' below' n is s.1 s.2
goes_here refuses d lines below i m process (Err (CountSpent need left)) process' below' kept kept' st n is s = absurd s

pub outs_numbered : (refuses : Port → ℕ → Option SendError) (d : DifSeen) (lines : List Direction) (below : Seen) (i m : ℕ) (r : Result OutStep StepError) (d' : DifSeen) (below' : Seen) → AreKept below → AreKept below' → IsStanding d lines below → IsNumbered d below → Outs refuses d below i m r d' below' → IsNumbered d' below'
outs_numbered refuses d lines below i m (Ok o) d' below' kept kept' st n s =
    let silent = outs_silent refuses d below i m (Ok o) d' below' s in
    numbered_at d d' d.clock (slice_set d.processes i s.process') d.ends below below' s.new_is silent.later.ends (as_many d' _ s.new_is) n (goes_here refuses d lines below i m s.process (Ok o) s.process' below' kept kept' st n s.is_process s.done)
outs_numbered refuses d lines below i m (Err Memory) d' below' kept kept' st n s =
    let silent = outs_silent refuses d below i m (Err Memory) d' below' s in
    numbered_at d d' d.clock (slice_set d.processes i s.process') d.ends below below' s.new_is silent.later.ends (as_many d' _ s.new_is) n (goes_here refuses d lines below i m s.process (Err Memory) s.process' below' kept kept' st n s.is_process s.done)
outs_numbered refuses d lines below i m (Err NoIpc) d' below' kept kept' st n s = same_numbered d d' below below' s.1 s.2 n
outs_numbered refuses d lines below i m (Err NoLink) d' below' kept kept' st n s =
    let silent = outs_silent refuses d below i m (Err NoLink) d' below' s in
    numbered_at d d' d.clock (slice_set d.processes i s.process') d.ends below below' s.new_is silent.later.ends (as_many d' _ s.new_is) n (goes_here refuses d lines below i m s.process (Err NoLink) s.process' below' kept kept' st n s.is_process s.done)
outs_numbered refuses d lines below i m (Err (CountSpent need left)) d' below' kept kept' st n s =
    let silent = outs_silent refuses d below i m (Err (CountSpent need left)) d' below' s in
    numbered_at d d' d.clock (slice_set d.processes i s.process') d.ends below below' s.new_is silent.later.ends (as_many d' _ s.new_is) n (goes_here refuses d lines below i m s.process (Err (CountSpent need left)) s.process' below' kept kept' st n s.is_process s.done)

-- ---- a step that takes

module _ (d : DifSeen) (lines : List Direction) (below below' : Seen) (n : IsNumbered d below) (after : IsAfter d.config NoMore below below') (i : ℕ) (member : Member) (process : Process) (is_process : slice_get d.processes i ≡ Some process) (at older : ℕ) (hop : Hop) (has : Cloud Everywhere d.config d.processes below older hop.pdu) where
  arrived_numbered : (cause : Option Cause) (d' : DifSeen) (lines' : List Direction) → AreLater d.clock d'.clock d.ends d'.ends → IsArrived d lines i process hop.pdu cause d' lines' → IsNumbered d' below'
  arrived_numbered cause d' lines' later s =
      let process' : Process = with_offs process (s.dropped ++ lines_for hop.pdu cause) in
      numbered_at d d' d.clock (slice_set d.processes i process') _ below below' s.new_is later (as_many d' _ s.new_is ∙ length-set d.ends s.place _) n (none_here d (slice_set d.processes i process') below below' n (requeued_same d.processes i process process' is_process refl) after)

  offs_numbered : (offs : List Off) (d' : DifSeen) → AreLater d.clock d'.clock d.ends d'.ends → d' ≡ with_process d i (with_offs process offs) → IsNumbered d' below'
  offs_numbered offs d' later is =
      let process' : Process = with_offs process offs in
      numbered_at d d' d.clock (slice_set d.processes i process') d.ends below below' is later (as_many d' _ is) n (none_here d (slice_set d.processes i process') below below' n (requeued_same d.processes i process process' is_process refl) after)

  noted_numbered : (cause : Cause) (d' : DifSeen) → AreLater d.clock d'.clock d.ends d'.ends → d' ≡ with_process d i (with_offs process (line_for hop.pdu cause ∷ [])) → IsNumbered d' below'
  noted_numbered cause d' later is = offs_numbered (line_for hop.pdu cause ∷ []) d' later is

  relayed_numbered : (d' : DifSeen) → AreLater d.clock d'.clock d.ends d'.ends → IsRelayed d i process at hop d' → IsNumbered d' below'
  relayed_numbered d' later s =
      let p = s.passed in
      let item : Queued = record { pdu = hop.pdu; left = hop.left; since = at } in
      let put : Process = with_put process p.place p.queue (item ∷ []) in
      let is : d' ≡ with_process d i put = s.new_is ∙ ap (λ (z : Process). with_process d i z) p.new_is in
      numbered_at d d' d.clock (slice_set d.processes i put) d.ends below below' is later (as_many d' _ is) n
      (put_here d i p.queue.link (item ∷ []) (slice_set d.processes i put) below below' n (requeued_put d.processes i p.place process p.queue (item ∷ []) is_process p.is_queue.is_queue) after
      (λ x one. elim one [ inl e ↦ subst (IsFromHere d.conns) (ap (λ (z : Queued). z.pdu) (sym e)) (n.named older hop.pdu has) | inr none ↦ absurd none ]))

  settles_off_numbered : (cause : Cause) (d' : DifSeen) (lines' : List Direction) → AreLater d.clock d'.clock d.ends d'.ends → SettlesOff d lines i member process at hop cause d' lines' → IsNumbered d' below'
  settles_off_numbered (causes.Expired left charge) d' lines' later s = noted_numbered (causes.Expired left charge) d' later s.3
  settles_off_numbered (causes.NoRoute dst) d' lines' later s = noted_numbered (causes.NoRoute dst) d' later s.4
  settles_off_numbered (causes.QueueFull cap) d' lines' later s = noted_numbered (causes.QueueFull cap) d' later s.4
  settles_off_numbered (causes.NoConnection cep) d' lines' later s = noted_numbered (causes.NoConnection cep) d' later s.4
  settles_off_numbered (causes.Duplicate num) d' lines' later s = arrived_numbered (Some (causes.Duplicate num)) d' lines' later s.2
  settles_off_numbered (causes.Behind highest) d' lines' later s = arrived_numbered (Some (causes.Behind highest)) d' lines' later s.2
  settles_off_numbered (causes.NoState drf) d' lines' later s = arrived_numbered (Some (causes.NoState drf)) d' lines' later s.2
  settles_off_numbered (causes.NoRoom cap) d' lines' later s = arrived_numbered (Some (causes.NoRoom cap)) d' lines' later s.2
  settles_off_numbered (causes.StateGone last_in) d' lines' later s = arrived_numbered (Some (causes.StateGone last_in)) d' lines' later s.2
  settles_off_numbered (causes.Broken missing) d' lines' later s = arrived_numbered (Some (causes.Broken missing)) d' lines' later s.2
  settles_off_numbered (causes.LinkDown down) d' lines' later s = absurd s

  told_numbered : (d' : DifSeen) → d' ≡ d → IsNumbered d' below'
  told_numbered d' is = subst (λ (z : DifSeen). IsNumbered z below') (sym is) (record { members = n.members; addressed = n.addressed; counted = n.counted; drawn = n.drawn; named = none_here d d.processes below below' n (requeued_none d.processes) after })

  flow_numbered : (end : Took) (d' : DifSeen) (lines' : List Direction) → AreLater d.clock d'.clock d.ends d'.ends → SettlesFlow d lines i member process at hop end d' lines' → IsNumbered d' below'
  flow_numbered took.Accepted d' lines' later s = elim (s.2) [
    | inl x ↦ arrived_numbered None d' lines' later x
    | inr x ↦ told_numbered d' x.new_is
  ]
  flow_numbered took.Relayed d' lines' later s = relayed_numbered d' later s.2
  flow_numbered (took.Off cause) d' lines' later s = settles_off_numbered cause d' lines' later s

  settles_numbered : (end : Took) (d' : DifSeen) (lines' : List Direction) → AreLater d.clock d'.clock d.ends d'.ends → Settles d lines i member process at hop end d' lines' → IsNumbered d' below'
  settles_numbered end d' lines' later s = elim s [
    | inl flow ↦ flow_numbered end d' lines' later flow.1
    | inr link ↦ offs_numbered (link.dropped ++ lines_for hop.pdu (cause_told end)) d' later link.new_is
  ]

pub ins_numbered : (d : DifSeen) (lines : List Direction) (below : Seen) (i m : ℕ) (r : Result InStep StepError) (d' : DifSeen) (lines' : List Direction) (below' : Seen) → AreKept below → AreKept below' → IsStanding d lines below → IsNumbered d below → Ins d lines below i m r d' lines' below' → IsNumbered d' below'
ins_numbered d lines below i m (Ok in_.Idle) d' lines' below' kept kept' st n s = same_numbered d d' below below' s.1 s.3 n
ins_numbered d lines below i m (Ok (in_.Took key end)) d' lines' below' kept kept' st n s =
    let a = arrival d lines below i m s.member s.process s.link s.entry s.hop st kept s.is_process s.is_link s.oldest s.opens in
    let later = later_passes below s.link.port below' s.passed in
    let after = after_passed d.config below s.link.port below' kept kept' later s.passed in
    let silent = ins_silent d lines below i m (Ok (in_.Took key end)) d' lines' below' st s in
    settles_numbered d lines below below' n after i s.member s.process s.is_process.is_process s.entry.tick a.older s.hop (inr a.on_way) end d' lines' silent.later.ends s.settled
ins_numbered d lines below i m (Err Memory) d' lines' below' kept kept' st n s = same_numbered d d' below below' s.0 s.2 n
ins_numbered d lines below i m (Err NoIpc) d' lines' below' kept kept' st n s = same_numbered d d' below below' s.1 s.3 n
ins_numbered d lines below i m (Err NoLink) d' lines' below' kept kept' st n s = same_numbered d d' below below' s.1 s.3 n
ins_numbered d lines below i m (Err (CountSpent need left)) d' lines' below' kept kept' st n s = same_numbered d d' below below' s.0 s.2 n

-- ---- what comes with time

noted_here : (d : DifSeen) (below : Seen) (i : ℕ) (process : Process) (pdu : Pdu) (cause : Cause) (process' : Process) → IsNumbered d below → slice_get d.processes i ≡ Some process → process' ≡ with_offs process (line_for pdu cause ∷ [])
    → (death : ℕ) (p : Pdu) → Cloud Everywhere d.config (slice_set d.processes i process') below death p → IsFromHere d.conns p
noted_here d below i process pdu cause process' n is_process is = none_here d (slice_set d.processes i process') below below n (requeued_same d.processes i process process' is_process (ap (λ (p : Process). p.queues) is)) (after_none d.config below)

posted_here : (d : DifSeen) (below : Seen) (i mpl : ℕ) (process : Process) (pdu : Pdu) (cause : Option Cause) (process' : Process) → IsNumbered d below → slice_get d.processes i ≡ Some process → IsFromHere d.conns pdu → Posts d.config d.clock mpl process pdu cause process'
    → (death : ℕ) (p : Pdu) → Cloud Everywhere d.config (slice_set d.processes i process') below death p → IsFromHere d.conns p
posted_here d below i mpl process pdu None process' n is_process here s =
    let item : Queued = record { pdu = pdu; left = mpl; since = d.clock } in
    let put : Process = with_put process s.place s.queue (item ∷ []) in
    let P : Process → Type 0 = λ z. (death : ℕ) (p : Pdu) → Cloud Everywhere d.config (slice_set d.processes i z) below death p → IsFromHere d.conns p in
    subst P (sym s.new_is) (put_here d i s.queue.link (item ∷ []) (slice_set d.processes i put) below below n (requeued_put d.processes i s.place process s.queue (item ∷ []) is_process s.is_queue.is_queue) (after_none d.config below)
    (λ x one. elim one [ inl e ↦ subst (IsFromHere d.conns) (ap (λ (z : Queued). z.pdu) (sym e)) here | inr none ↦ absurd none ]))
posted_here d below i mpl process pdu (Some (causes.NoRoute dst)) process' n is here s = noted_here d below i process pdu (causes.NoRoute dst) process' n is s.2
posted_here d below i mpl process pdu (Some (causes.QueueFull cap)) process' n is here s = noted_here d below i process pdu (causes.QueueFull cap) process' n is s.2
posted_here d below i mpl process pdu (Some (causes.Expired left charge)) process' n is here s = absurd s
posted_here d below i mpl process pdu (Some (causes.NoConnection cep)) process' n is here s = absurd s
posted_here d below i mpl process pdu (Some (causes.Duplicate num)) process' n is here s = absurd s
posted_here d below i mpl process pdu (Some (causes.Behind highest)) process' n is here s = absurd s
posted_here d below i mpl process pdu (Some (causes.NoState drf)) process' n is here s = absurd s
posted_here d below i mpl process pdu (Some (causes.NoRoom cap)) process' n is here s = absurd s
posted_here d below i mpl process pdu (Some (causes.StateGone last_in)) process' n is here s = absurd s
posted_here d below i mpl process pdu (Some (causes.Broken missing)) process' n is here s = absurd s
posted_here d below i mpl process pdu (Some (causes.LinkDown port)) process' n is here s = absurd s

pub acknowledged_numbered : (d : DifSeen) (lines : List Direction) (below : Seen) (at : ℕ) (cause : Option Cause) (d' : DifSeen) (lines' : List Direction) → IsNumbered d below → IsAcknowledged d lines at cause d' lines' → IsNumbered d' below
acknowledged_numbered d lines below at cause d' lines' n s =
    let silent = acknowledged_silent d lines at cause d' lines' s in
    let here = inr (record { at = at; ids = s.ids; stands = s.is_home.is_conn.ids_are; src = refl; scep = refl }) in
    numbered_at d d' d.clock (slice_set d.processes s.i s.process') d.ends below below s.new_is silent.later.ends (as_many d' _ s.new_is) n (posted_here d below s.i s.cube.mpl s.process _ cause s.process' n s.is_home.is_process here s.posted)

pub resent_numbered : (d : DifSeen) (lines : List Direction) (below : Seen) (at : ℕ) (cause : Option Cause) (d' : DifSeen) (lines' : List Direction) → IsNumbered d below → IsResent d lines at cause d' lines' → IsNumbered d' below
resent_numbered d lines below at cause d' lines' n s =
    let silent = resent_silent d lines at cause d' lines' s in
    let here = inr (record { at = at; ids = s.ids; stands = s.is_home.is_conn.ids_are; src = refl; scep = refl }) in
    numbered_at d d' d.clock (slice_set d.processes s.i s.process') d.ends below below s.new_is silent.later.ends (as_many d' _ s.new_is) n (posted_here d below s.i s.cube.mpl s.process _ cause s.process' n s.is_home.is_process here s.posted)

pub forgotten_numbered : (d : DifSeen) (lines : List Direction) (below : Seen) (at : ℕ) (d' : DifSeen) (lines' : List Direction) → IsNumbered d below → IsForgotten d lines at d' lines' → IsNumbered d' below
forgotten_numbered d lines below at d' lines' n s =
    let silent = forgotten_silent d lines at d' lines' s in
    let process' : Process = with_offs s.process s.dropped in
    numbered_at d d' d.clock (slice_set d.processes s.i process') d.ends below below s.new_is silent.later.ends (as_many d' _ s.new_is) n (none_here d (slice_set d.processes s.i process') below below n (requeued_same d.processes s.i s.process process' s.is_home.is_process refl) (after_none d.config below))

-- a member gives an id back
pub rested_numbered : (d : DifSeen) (below : Seen) (at : ℕ) (e : End) (held : List CepIds) → IsNumbered d below → GivesBack d at e held → IsNumbered (record d { ids = held }) below
rested_numbered d below at e held n g = record {
  members = n.members;
  addressed = n.addressed;
  counted = n.counted;
  drawn = subst (AreDrawn d.config d.ends) (sym g.held_is) (rest_drawn d.config d.ends d.ids g.place g.old g.ids.scep (d.clock + 3 * delta_of g.cube) g.is_old n.drawn);
  named = n.named;
}

pub ended_numbered : (d : DifSeen) (lines : List Direction) (below : Seen) (at : ℕ) (state : PortState) (d' : DifSeen) → IsNumbered d below → IsEnded d lines at state d' → IsNumbered d' below
ended_numbered d lines below at state d' n s =
    let silent = ended_silent d lines at state d' s in
    let process' : Process = with_offs s.process s.dropped in
    let held : DifSeen = record d { ids = s.held } in
    let n' : IsNumbered held below = rested_numbered d below at s.end s.held n s.gives_back in
    numbered_at held d' d.clock (slice_set d.processes s.i process') _ below below s.new_is silent.later.ends (as_many d' _ s.new_is ∙ length-set d.ends at _) n' (none_here held (slice_set d.processes s.i process') below below n' (requeued_same d.processes s.i s.process process' s.is_process refl) (after_none d.config below))

-- ---- the start

pub start_numbered : (d : DifSeen) (lines : List Direction) (below : Seen) → IsStart d lines below → AreMembers d.config → ((i : ℕ) (e : End) (ids : Ids) → IsConn d.ends d.conns i e ids → IsAddressed d.config e ids) → ((i : ℕ) (e : End) → At d.ends i e → IsCounted d.config d.ends e) → AreDrawn d.config d.ends d.ids → IsNumbered d below
start_numbered d lines below s members addressed counted drawn = record { members = members; addressed = addressed; counted = counted; drawn = drawn; named = λ death pdu x. absurd (no_cloud d lines below death pdu s x) }

-- ---- the rank below goes on

pub beside_after : (d : DifSeen) (below below' : Seen) → IsNumbered d below → IsAfter d.config NoMore below below' → IsNumbered d below'
beside_after d below below' n after = record { members = n.members; addressed = n.addressed; counted = n.counted; drawn = n.drawn; named = none_here d d.processes below below' n (requeued_none d.processes) after }

pub beside_numbered : (d : DifSeen) (below below' : Seen) → AreKept below' → IsNumbered d below → IsLifted d.config below below' → IsNumbered d below'
beside_numbered d below below' kept n lifted = beside_after d below below' n (after_lifted d.config below below' kept lifted)

pub time_numbered : (d : DifSeen) (lines : List Direction) (below below' : Seen) (d' : DifSeen) (lines' : List Direction) → AreKept below' → IsNumbered d below → IsLifted d.config below below' → IsTicked d lines below'.now d' lines' → IsNumbered d' below'
time_numbered d lines below below' d' lines' kept n lifted s =
    let silent = ticked_silent d lines below'.now d' lines' s in
    numbered_at d d' below'.now d.processes d.ends below below' s.new_is silent.later.ends (as_many d' _ s.new_is) n (none_here d d.processes below below' n (requeued_none d.processes) (after_lifted d.config below below' kept lifted))

-- an application that is no member sent
pub send_of_others_numbered : (d : DifSeen) (below : Seen) (port : Port) (bytes : List ℕ) (num : Num) (below' : Seen) → AreKept below → AreKept below' → IsLater below below' → IsNumbered d below → ((e : End) → end_of below port ≡ Some e → IsMine d.config.members e.app → ⊥) → IsSent below port bytes num below' → IsNumbered d below'
send_of_others_numbered d below port bytes num below' kept kept' later n others s =
    let after = after_sent d.config below port bytes num below' kept kept' later s in
    beside_after d below below' n (no_more_of_others d.config port (record { tick = below.now; num = num; bytes = bytes }) below below' others after)
