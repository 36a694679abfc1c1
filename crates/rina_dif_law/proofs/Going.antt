-- A step that sends or writes off keeps standing.
use Rattle.std.proofs.Common.{◌≡◌, ℕ, ◌+◌, ◌-◌, ◌^◌, ◌<◌, ◌≤◌, List, [], ◌∷◌, length, length-set, slice_get, slice_set, Some, Ok, Err, Option, Result, refl, sym, ◌∙◌, ap, subst, arith, inl, inr}
use Rattle.rina_base.specs.declared.cause.Cause.{Cause}
use Rattle.rina_base.specs.declared.cause.Cause.TheVariants as causes
use Rattle.rina_base.specs.declared.number.Key.{Key}
use Rattle.rina_base.specs.declared.number.Num.{Num}
use Rattle.rina_base.specs.declared.number.Port.{Port}
use Rattle.rina_base.specs.declared.pdu.Pdu.{Pdu}
use Rattle.rina_iface.specs.declared.error.SendError.{SendError}
use Rattle.rina_iface.specs.Journal.{AreKept}
use Rattle.rina_iface.specs.Seen.{Seen, promise_at}
use Rattle.rina_iface.specs.Send.{IsSent}
use Rattle.rina_iface.proofs.Changed.{slice_set-same}
use Rattle.rina_iface.proofs.LaterCalls.{later_sends}
use Rattle.rina_law.specs.declared.entry.Entry.{Entry}
use Rattle.rina_law.specs.Backed.{Covers}
use Rattle.rina_law.specs.Direction.{Direction}
use Rattle.rina_pci.specs.Life.{protected}
use Rattle.rina_pci.specs.Spelling.{spelling}
use Rattle.rina_queue.specs.declared.queue.Queued.{Queued}
use Rattle.rina_data.specs.declared.step.OutStep.{OutStep}
use Rattle.rina_data.specs.declared.step.OutStep.TheVariants as out
use Rattle.rina_data.specs.declared.step.StepError.{StepError}
use Rattle.rina_data.specs.declared.step.StepError.TheVariants.{CountSpent, Memory, NoIpc, NoLink}
use Rattle.rina_dif_law.specs.Cloud.{Cloud, Everywhere, IsPortIn, IsQueueIn, Scope, Waits}
use Rattle.rina_data.specs.Hops.{Hop, opened}
use Rattle.rina_data.specs.declared.link.Link.{Link}
use Rattle.rina_data.specs.Configs.{Config}
use Rattle.rina_dif_law.specs.Dif.{DifSeen, with_process}
use Rattle.rina_data.specs.Process.{Process, Queue, with_offs, with_taken}
use Rattle.rina_data.specs.Outgoing.{Goes, IsForwarded, IsHead, IsWrittenOff, Offs, charge_of, sent_bytes}
use Rattle.rina_dif_law.specs.Outgoing.{IsStep, Outs}
use Rattle.rina_dif_law.specs.Standing.{IsConfig, IsItem, IsSpelled, IsStanding}
use Rattle.rina_dif_law.proofs.After.{IsAfter, Just, NoMore, after_none, after_sent}
use Rattle.rina_dif_law.proofs.Clouds.{IsGiven, NoItem, Requeued, cloud_after, covers_less}
use Rattle.rina_dif_law.proofs.Frame.{stands_with}
use Rattle.rina_dif_law.proofs.Own.{own_covered}
use Rattle.rina_dif_law.proofs.Queues.{requeued_taken, same_links}
use Rattle.rina_dif_law.proofs.Spelled.{item_spelled, opened_spelling}

-- the PDU at the head of a queue waits
pub head_waits : (processes : List Process) (i n : ℕ) (process : Process) (link : Link) (place : ℕ) (queue : Queue) (item : Queued) → slice_get processes i ≡ Some process → IsHead process n link place queue item → Waits processes i n item
head_waits processes i n process link place queue item is_process h = record { process = process; is_process = is_process; place = place; queue = queue; is_queue = h.is_queue; link = h.of_link; at = 0; is_item = h.first }

-- the tick of its death stays as a PDU is sent on
death_kept : (now since left promise : ℕ) → since ≤ now → (now - since) + promise ≤ left → (now + promise) + (left - ((now - since) + promise)) ≡ since + left
death_kept now since left promise past charge = omega arith

hop_same : (o : Option Hop) (a b : Hop) → o ≡ Some a → o ≡ Some b → a ≡ b
hop_same o a b h g = cc

promise_same : (o : Option ℕ) (a b : ℕ) → o ≡ Some a → o ≡ Some b → a ≡ b
promise_same o a b h g = cc

-- a PDU that was sent on dies when it would have died in its queue
pub given_dies : (g : Config) (now : ℕ) (below : Seen) (port : Port) (item : Queued) (promise death : ℕ) (pdu : Pdu) (num : Num) (scope : Scope) → IsConfig g → below.now ≡ now → IsItem g now item → promise_at below port ≡ Some promise → charge_of now item promise ≤ item.left
    → IsGiven scope g below (Just port (record { tick = below.now; num = num; bytes = protected (item.left - charge_of now item promise) (spelling g.widths item.pdu) })) death pdu → (death ≡ item.since + item.left) × (item.pdu ≡ pdu)
given_dies g now below port item promise death pdu num scope config clock fit promised in_time n =
    let left : ℕ = item.left - charge_of now item promise in
    let bound : item.left < 2 ^ 32 = fit.left in
    let past : item.since ≤ now = fit.past in
    let bytes : n.entry.bytes ≡ protected left (spelling g.widths item.pdu) = ap (λ (x : Entry). x.bytes) n.new.1 in
    let tick : n.entry.tick ≡ below.now = ap (λ (x : Entry). x.tick) n.new.1 in
    let opens : opened g.widths (protected left (spelling g.widths item.pdu)) ≡ Some n.hop = subst (λ (b : List ℕ). opened g.widths b ≡ Some n.hop) bytes n.opens in
    let again = opened_spelling g.widths left item.pdu config.widths fit.fit.fits (omega arith) in
    let hop = hop_same (opened g.widths (protected left (spelling g.widths item.pdu))) n.hop (record { left = left; pdu = item.pdu }) opens again in
    let hop_left : n.hop.left ≡ left = ap (λ (h : Hop). h.left) hop in
    let hop_pdu : n.hop.pdu ≡ item.pdu = ap (λ (h : Hop). h.pdu) hop in
    let there : promise_at below port ≡ Some n.promise = subst (λ (p : Port). promise_at below p ≡ Some n.promise) n.new.0 n.promised in
    let same = promise_same (promise_at below port) n.promise promise there promised in
    let dies : death ≡ n.entry.tick + n.promise + n.hop.left = n.dies in
    let kept = death_kept now item.since item.left promise past in_time in
    (omega arith, sym hop_pdu ∙ n.is)

-- the first PDU of a queue goes on
pub forwarded_covers : (scope : Scope) (d : DifSeen) (below below' : Seen) (i n : ℕ) (process process' : Process) (link : Link) (place : ℕ) (queue : Queue) (item : Queued) (promise : ℕ) (num : Num) → IsConfig d.config → below.now ≡ d.clock → IsItem d.config d.clock item → slice_get d.processes i ≡ Some process → IsHead process n link place queue item → process'.queues ≡ (with_taken process place queue).queues → (IsPortIn scope link.port → IsQueueIn scope i n) → promise_at below link.port ≡ Some promise → charge_of d.clock item promise ≤ item.left
    → IsAfter d.config (Just link.port (record { tick = below.now; num = num; bytes = sent_bytes d.config d.clock item promise })) below below' → Covers d.clock (Cloud scope d.config d.processes below) (Cloud scope d.config (slice_set d.processes i process') below')
forwarded_covers scope d below below' i n process process' link place queue item promise num config clock fit is_process head queues within promised in_time after death pdu has alive =
    elim (cloud_after scope d.config NoItem (Just link.port (record { tick = below.now; num = num; bytes = sent_bytes d.config d.clock item promise })) d.processes (slice_set d.processes i process') below below' death pdu (requeued_taken d.processes i place process process' queue is_process head.is_queue queues) after has) [
      | inl o ↦ (death, omega arith, o)
      | inr (inl put) ↦ absurd put.new
      | inr (inr given) ↦
          let dies = given_dies d.config d.clock below link.port item promise death pdu num scope config clock fit promised in_time given in
          (death, omega arith, inl (record { process = i; link = n; within = within (subst (IsPortIn scope) given.new.0 given.within); item = item; waits = head_waits d.processes i n process link place queue item is_process head; dies = dies.0; is = dies.1 }))
    ]

now_sent : (below : Seen) (port : Port) (bytes : List ℕ) (num : Num) (below' : Seen) → IsSent below port bytes num below' → below'.now ≡ below.now
now_sent below port bytes num below' w = ap (λ (s : Seen). s.now) w.new_is

forwarded_stands : (refuses : Port → ℕ → Option SendError) (d : DifSeen) (lines : List Direction) (below : Seen) (i n : ℕ) (process : Process) (key : Key) (process' : Process) (below' : Seen) → AreKept below → AreKept below' → IsStanding d lines below → slice_get d.processes i ≡ Some process → IsForwarded refuses d.config d.clock process below n key process' below' → IsStanding (with_process d i process') lines below'
forwarded_stands refuses d lines below i n process key process' below' kept kept' st is_process s =
    let taken : Process = with_taken process s.place s.queue in
    let bytes = sent_bytes d.config d.clock s.item s.promise in
    let x : Entry = record { tick = below.now; num = s.num; bytes = bytes } in
    let later = later_sends (refuses s.link.port (length bytes)) below s.link.port bytes (Ok s.num) below' s.sent in
    let after = after_sent d.config below s.link.port bytes s.num below' kept kept' later s.sent.1 in
    let fit = st.items i n s.item (head_waits d.processes i n process s.link s.place s.queue s.item is_process s.head) in
    let covers = forwarded_covers Everywhere d below below' i n process taken s.link s.place s.queue s.item s.promise s.num st.config (sym st.clock) fit is_process s.head refl (λ w. tt) s.promised s.in_time after in
    subst (λ (z : Process). IsStanding (with_process d i z) lines below') (sym s.new_is) (stands_with d lines lines (Just s.link.port x) NoItem below below' d.clock (slice_set d.processes i taken) d.ends st after
    (st.clock ∙ sym (now_sent below s.link.port bytes s.num below' s.sent.1)) (omega arith) (length-set d.processes i taken)
    (requeued_taken d.processes i s.place process taken s.queue is_process s.head.is_queue refl)
    (same_links d.processes i process taken is_process refl)
    (λ port y is. subst (IsSpelled d.config) (ap (λ (e : Entry). e.bytes) (sym is.1)) (item_spelled d.config d.clock (charge_of d.clock s.item s.promise) s.item fit))
    (λ j m item none. absurd none)
    st.journal st.ports
    (own_covered d.config d.clock (Cloud Everywhere d.config d.processes below) (Cloud Everywhere d.config (slice_set d.processes i taken) below') d.ids d.ends d.conns lines st.own covers))

-- an IPC process whose links stay, and whose queues at most lose PDUs, while nothing happens below but passes
pub lost_stands : (d : DifSeen) (lines : List Direction) (below below' : Seen) (i : ℕ) (process process' : Process) → IsStanding d lines below → IsAfter d.config NoMore below below' → below'.now ≡ below.now → slice_get d.processes i ≡ Some process → process'.links ≡ process.links → Requeued NoItem d.processes (slice_set d.processes i process') → IsStanding (with_process d i process') lines below'
lost_stands d lines below below' i process process' st after clock is links moved =
    stands_with d lines lines NoMore NoItem below below' d.clock (slice_set d.processes i process') d.ends st after (st.clock ∙ sym clock) (omega arith) (length-set d.processes i process') moved (same_links d.processes i process process' is links)
    (λ port y none. absurd none) (λ j m item none. absurd none) st.journal st.ports
    (own_covered d.config d.clock (Cloud Everywhere d.config d.processes below) (Cloud Everywhere d.config (slice_set d.processes i process') below') d.ids d.ends d.conns lines st.own (covers_less Everywhere d.config d.clock d.processes (slice_set d.processes i process') below below' moved after))

written_off_stands : (holds : Link → Queued → ℕ → Type 0) (cause : Cause) (d : DifSeen) (lines : List Direction) (below : Seen) (i n : ℕ) (process : Process) (key : Key) (process' : Process) (below' : Seen) → IsStanding d lines below → slice_get d.processes i ≡ Some process → IsWrittenOff holds cause process below n key process' below' → IsStanding (with_process d i process') lines below'
written_off_stands holds cause d lines below i n process key process' below' st is_process s =
    let off : Process = with_offs (with_taken process s.place s.queue) (record { key = key; cause = cause } ∷ []) in
    let stands = lost_stands d lines below below i process off st (after_none d.config below) refl is_process refl (requeued_taken d.processes i s.place process off s.queue is_process s.head.is_queue refl) in
    subst (λ (z : Process). IsStanding (with_process d i z) lines below') (sym s.new_is) (subst (IsStanding (with_process d i off) lines) (sym s.below_is) stands)

pub same_stands : (d : DifSeen) (lines : List Direction) (below : Seen) (d' : DifSeen) (lines' : List Direction) (below' : Seen) → d' ≡ d → lines' ≡ lines → below' ≡ below → IsStanding d lines below → IsStanding d' lines' below'
same_stands d lines below d' lines' below' p q r st = subst (λ (z : DifSeen). IsStanding z lines' below') (sym p) (subst (λ (ls : List Direction). IsStanding d ls below') (sym q) (subst (IsStanding d lines) (sym r) st))

-- an IPC process that does nothing
pub no_step : (d : DifSeen) (i : ℕ) (process process' : Process) → slice_get d.processes i ≡ Some process → process' ≡ process → with_process d i process' ≡ d
no_step d i process process' is same = ap (λ (z : Process). with_process d i z) same ∙ ap (λ (ps : List Process). record d { processes = ps }) (slice_set-same d.processes i process is)

idle_stands : (d : DifSeen) (lines : List Direction) (below : Seen) (i : ℕ) (process process' : Process) (below' : Seen) → IsStanding d lines below → slice_get d.processes i ≡ Some process → process' ≡ process → below' ≡ below → IsStanding (with_process d i process') lines below'
idle_stands d lines below i process process' below' st is same below_is = same_stands d lines below (with_process d i process') lines below' (no_step d i process process' is same) refl below_is st

offs_stand : (refuses : Port → ℕ → Option SendError) (d : DifSeen) (lines : List Direction) (below : Seen) (i n : ℕ) (process : Process) (key : Key) (cause : Cause) (process' : Process) (below' : Seen) → IsStanding d lines below → slice_get d.processes i ≡ Some process → Offs refuses d.config d.clock process below n key cause process' below' → IsStanding (with_process d i process') lines below'
offs_stand refuses d lines below i n process key (causes.Expired left charge) process' below' st is s = written_off_stands _ (causes.Expired left charge) d lines below i n process key process' below' st is s
offs_stand refuses d lines below i n process key (causes.LinkDown port) process' below' st is s = written_off_stands _ (causes.LinkDown port) d lines below i n process key process' below' st is s
offs_stand refuses d lines below i n process key (causes.NoRoute dst) process' below' st is s = absurd s
offs_stand refuses d lines below i n process key (causes.QueueFull cap) process' below' st is s = absurd s
offs_stand refuses d lines below i n process key (causes.NoConnection cep) process' below' st is s = absurd s
offs_stand refuses d lines below i n process key (causes.Duplicate num) process' below' st is s = absurd s
offs_stand refuses d lines below i n process key (causes.Behind highest) process' below' st is s = absurd s
offs_stand refuses d lines below i n process key (causes.NoState drf) process' below' st is s = absurd s
offs_stand refuses d lines below i n process key (causes.NoRoom cap) process' below' st is s = absurd s
offs_stand refuses d lines below i n process key (causes.StateGone last_in) process' below' st is s = absurd s
offs_stand refuses d lines below i n process key (causes.Broken missing) process' below' st is s = absurd s

goes_stand : (refuses : Port → ℕ → Option SendError) (d : DifSeen) (lines : List Direction) (below : Seen) (i n : ℕ) (process : Process) (r : Result OutStep StepError) (process' : Process) (below' : Seen) → AreKept below → AreKept below' → IsStanding d lines below → slice_get d.processes i ≡ Some process → Goes refuses d.config d.clock process below n r process' below' → IsStanding (with_process d i process') lines below'
goes_stand refuses d lines below i n process (Ok out.Idle) process' below' kept kept' st is s = idle_stands d lines below i process process' below' st is s.2 s.3
goes_stand refuses d lines below i n process (Ok (out.Sent key)) process' below' kept kept' st is s = forwarded_stands refuses d lines below i n process key process' below' kept kept' st is s
goes_stand refuses d lines below i n process (Ok (out.Off key cause)) process' below' kept kept' st is s = offs_stand refuses d lines below i n process key cause process' below' st is s
goes_stand refuses d lines below i n process (Ok (out.Held why)) process' below' kept kept' st is s = idle_stands d lines below i process process' below' st is s.1 s.2
goes_stand refuses d lines below i n process (Err Memory) process' below' kept kept' st is s = idle_stands d lines below i process process' below' st is s.0 s.1
goes_stand refuses d lines below i n process (Err NoIpc) process' below' kept kept' st is s = absurd s
goes_stand refuses d lines below i n process (Err NoLink) process' below' kept kept' st is s = idle_stands d lines below i process process' below' st is s.1 s.2
goes_stand refuses d lines below i n process (Err (CountSpent need left)) process' below' kept kept' st is s = absurd s

step_stands : (refuses : Port → ℕ → Option SendError) (d : DifSeen) (lines : List Direction) (below : Seen) (i n : ℕ) (r : Result OutStep StepError) (d' : DifSeen) (below' : Seen) → AreKept below → AreKept below' → IsStanding d lines below → IsStep (λ p p'. Goes refuses d.config d.clock p below n r p' below') d i d' → IsStanding d' lines below'
step_stands refuses d lines below i n r d' below' kept kept' st s = subst (λ (z : DifSeen). IsStanding z lines below') (sym s.new_is) (goes_stand refuses d lines below i n s.process r s.process' below' kept kept' st s.is_process s.done)

-- `out_step`, whatever it answers
pub outs_stand : (refuses : Port → ℕ → Option SendError) (d : DifSeen) (lines : List Direction) (below : Seen) (i n : ℕ) (r : Result OutStep StepError) (d' : DifSeen) (below' : Seen) → AreKept below → AreKept below' → IsStanding d lines below → Outs refuses d below i n r d' below' → IsStanding d' lines below'
outs_stand refuses d lines below i n (Ok o) d' below' kept kept' st s = step_stands refuses d lines below i n (Ok o) d' below' kept kept' st s
outs_stand refuses d lines below i n (Err Memory) d' below' kept kept' st s = step_stands refuses d lines below i n (Err Memory) d' below' kept kept' st s
outs_stand refuses d lines below i n (Err NoIpc) d' below' kept kept' st s = same_stands d lines below d' lines below' s.1 refl s.2 st
outs_stand refuses d lines below i n (Err NoLink) d' below' kept kept' st s = step_stands refuses d lines below i n (Err NoLink) d' below' kept kept' st s
outs_stand refuses d lines below i n (Err (CountSpent need left)) d' below' kept kept' st s = step_stands refuses d lines below i n (Err (CountSpent need left)) d' below' kept kept' st s
