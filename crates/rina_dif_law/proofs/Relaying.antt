-- The account goes on as an IPC process sends below, takes from there, and relays.
use Rattle.std.proofs.Common.{◌≡◌, ◌≢◌, ℕ, ◌+◌, ◌-◌, ◌<◌, ◌≤◌, Bool, cond, List, [], ◌∷◌, length, slice_get, Some, Option, Ok, Err, Result, refl, sym, ◌∙◌, ap, subst, arith}
use Rattle.rina_account.specs.declared.ledger.Off.{Off}
use Rattle.rina_base.specs.declared.cause.Cause.{Cause}
use Rattle.rina_base.specs.declared.cause.Cause.TheVariants as causes
use Rattle.rina_base.specs.declared.number.Key.{Key}
use Rattle.rina_base.specs.declared.number.Num.{Num}
use Rattle.rina_base.specs.declared.number.Port.{Port}
use Rattle.rina_iface.specs.declared.ends.End.{End}
use Rattle.rina_iface.specs.declared.error.SendError.{SendError}
use Rattle.rina_iface.specs.Ends.{with_passed, with_sent}
use Rattle.rina_iface.specs.Journal.{AreKept}
use Rattle.rina_iface.specs.Pass.{IsPassed as PassesBelow}
use Rattle.rina_iface.specs.Seen.{Seen, end_of}
use Rattle.rina_iface.specs.Send.{IsSent}
use Rattle.rina_iface.proofs.Changed.{slice_set-same}
use Rattle.rina_iface.proofs.Found.{end_of_stands, found}
use Rattle.rina_law.specs.declared.entry.Entry.{Entry}
use Rattle.rina_law.specs.Direction.{Direction}
use Rattle.rina_pci.specs.declared.widths.Widths.{Widths}
use Rattle.rina_queue.specs.declared.queue.Queued.{Queued}
use Rattle.rina_data.specs.declared.link.Link.{Link}
use Rattle.rina_data.specs.declared.step.OutStep.{OutStep}
use Rattle.rina_data.specs.declared.step.OutStep.TheVariants as out
use Rattle.rina_data.specs.declared.step.StepError.{StepError}
use Rattle.rina_data.specs.declared.step.StepError.TheVariants.{CountSpent, Memory, NoIpc, NoLink}
use Rattle.rina_dif_law.specs.Accounted.{IsAccounted, Resends, bears, bears_on, counts_of, over_ends, sent_with, taken_with}
use Rattle.rina_data.specs.Hops.{Hop, opened}
use Rattle.rina_dif_law.specs.Dif.{DifSeen, IsProcess, with_process}
use Rattle.rina_data.specs.Configs.{Member}
use Rattle.rina_data.specs.Process.{Process, link_by, with_offs, with_taken}
use Rattle.rina_dif_law.specs.Numbered.{IsNumbered}
use Rattle.rina_data.specs.Outgoing.{Goes, IsForwarded, IsWrittenOff, charge_of, sent_bytes}
use Rattle.rina_dif_law.specs.Outgoing.{IsStep, Outs}
use Rattle.rina_dif_law.specs.Standing.{IsStanding}
use Rattle.rina_dif_law.proofs.Accounting.{item_one, one_off, one_process, taken_less}
use Rattle.rina_dif_law.proofs.Balancing.{moved_same}
use Rattle.rina_dif_law.proofs.Ends.{same_some}
use Rattle.rina_dif_law.proofs.Finding.{beside, live_link}
use Rattle.rina_dif_law.proofs.Keys.{one}
use Rattle.rina_dif_law.proofs.Shares.{ends_other, ends_own, ends_same, passed_more, sent_more}
use Rattle.rina_dif_law.proofs.Spelled.{opened_spelling}

-- ---- the rank below

pub within_kept : (s : Seen) → AreKept s → (port : Port) (e : End) → end_of s port ≡ Some e → e.taken ≤ length e.got
within_kept s kept port e h = (let f = found s port e h in (let w = (kept.kept port.fac f.facility f.stands.facility).whole f.place e f.stands.is in w.taken))

-- an SDU was sent
pub record HasSent (w : Widths) (old new : Seen) (app : List ℕ) (bytes : List ℕ) : Type 0 where
  pub taken : (name : List ℕ) (test : Option Hop → Bool) → over_ends name (taken_with test w) new ≡ over_ends name (taken_with test w) old
  pub own : (name : List ℕ) (test : Option Hop → Bool) → app ≡ name → over_ends name (sent_with test w) new ≡ over_ends name (sent_with test w) old + cond (test (opened w bytes)) 1 0
  pub others : (name : List ℕ) (test : Option Hop → Bool) → (app ≡ name → ⊥) → over_ends name (sent_with test w) new ≡ over_ends name (sent_with test w) old

pub has_sent : (w : Widths) (old : Seen) (port : Port) (bytes : List ℕ) (num : Num) (new : Seen) → (s : IsSent old port bytes num new) → HasSent w old new s.end.app bytes
has_sent w old port bytes num new s =
    let x : Entry = record { tick = old.now; num = num; bytes = bytes } in
    let e' : End = with_sent s.end x in
    record {
      taken = λ name test. ap (over_ends name (taken_with test w)) s.new_is ∙ ends_same name (taken_with test w) old port s.facility s.place s.end e' s.stands refl refl;
      own = λ name test own.
          let is = ap (over_ends name (sent_with test w)) s.new_is in
          let all = ends_own name (sent_with test w) old port s.facility s.place s.end e' s.stands refl own in
          let more = sent_more test w s.end x in
          omega (arith, is, all, more);
      others = λ name test other. ap (over_ends name (sent_with test w)) s.new_is ∙ ends_other name (sent_with test w) old port s.facility s.place s.end e' s.stands refl other;
    }

-- an SDU was passed
pub record HasTaken (w : Widths) (old new : Seen) (app : List ℕ) (bytes : List ℕ) : Type 0 where
  pub sent : (name : List ℕ) (test : Option Hop → Bool) → over_ends name (sent_with test w) new ≡ over_ends name (sent_with test w) old
  pub own : (name : List ℕ) (test : Option Hop → Bool) → app ≡ name → over_ends name (taken_with test w) new ≡ over_ends name (taken_with test w) old + cond (test (opened w bytes)) 1 0
  pub others : (name : List ℕ) (test : Option Hop → Bool) → (app ≡ name → ⊥) → over_ends name (taken_with test w) new ≡ over_ends name (taken_with test w) old

pub has_taken : (w : Widths) (old : Seen) (port : Port) (x : Entry) (new : Seen) → (s : PassesBelow old port new) → slice_get s.end.got s.end.taken ≡ Some x → HasTaken w old new s.end.app x.bytes
has_taken w old port x new s at =
    let e' : End = with_passed s.end in
    record {
      sent = λ name test. ap (over_ends name (sent_with test w)) s.new_is ∙ ends_same name (sent_with test w) old port s.facility s.place s.end e' s.stands refl refl;
      own = λ name test own.
          let is = ap (over_ends name (taken_with test w)) s.new_is in
          let all = ends_own name (taken_with test w) old port s.facility s.place s.end e' s.stands refl own in
          let more = passed_more test w s.end x at in
          omega (arith, is, all, more);
      others = λ name test other. ap (over_ends name (taken_with test w)) s.new_is ∙ ends_other name (taken_with test w) old port s.facility s.place s.end e' s.stands refl other;
    }

-- the IPC process at a place, and how the names of the others differ from its own
pub record IsNamedAt (d : DifSeen) (i : ℕ) (process : Process) : Type 0 where
  pub member : Member
  pub is_process : IsProcess d i member process
  pub others : (j : ℕ) (m : Member) (q : Process) → j ≢ i → IsProcess d j m q → member.name ≡ m.name → ⊥

pub named_at : (d : DifSeen) (lines : List Direction) (below : Seen) (i : ℕ) (process : Process) → IsStanding d lines below → IsNumbered d below → slice_get d.processes i ≡ Some process → IsNamedAt d i process
named_at d lines below i process st numbered is =
    let m = beside d.processes d.config.members i process (sym st.aligned) is in
    record {
      member = m.0;
      is_process = record { is_member = m.1; is_process = is };
      others = λ j other q ne there same. ne (sym (numbered.members.names i j m.0 other m.1 there.is_member same));
    }

-- the end below of a link has the name of its IPC process
pub link_named : (d : DifSeen) (lines : List Direction) (below : Seen) (i n : ℕ) (m : Member) (process : Process) (link : Link) (e : End) → IsStanding d lines below → IsProcess d i m process → link_by n process.links ≡ Some link → end_of below link.port ≡ Some e → e.app ≡ m.name
link_named d lines below i n m process link e st is is_link here =
    let l = st.linked i m link is.is_member (live_link d.processes i n process link is.is_process is_link) in
    ap (λ (z : End). z.app) (same_some (end_of below link.port) e l.end here l.here) ∙ l.app

-- ---- out_step

pub accounted_same : (d : DifSeen) (lines : List Direction) (below : Seen) (d' : DifSeen) (lines' : List Direction) (below' : Seen) → d' ≡ d → lines' ≡ lines → below' ≡ below → IsAccounted d lines below → IsAccounted d' lines' below'
accounted_same d lines below d' lines' below' p q r a = subst (λ (z : DifSeen). IsAccounted z lines' below') (sym p) (subst (λ (ls : List Direction). IsAccounted d ls below') (sym q) (subst (IsAccounted d lines) (sym r) a))

pub same_process : (d : DifSeen) (i : ℕ) (p p' : Process) → slice_get d.processes i ≡ Some p → p' ≡ p → with_process d i p' ≡ d
same_process d i p p' is same = ap (with_process d i) same ∙ ap (λ (ps : List Process). record d { processes = ps }) (slice_set-same d.processes i p is)

-- an IPC process neither sends nor changes
idle : (d : DifSeen) (lines : List Direction) (below below' : Seen) (i : ℕ) (p p' : Process) → slice_get d.processes i ≡ Some p → p' ≡ p → below' ≡ below → IsAccounted d lines below → IsAccounted (with_process d i p') lines below'
idle d lines below below' i p p' is same below_is a = accounted_same d lines below (with_process d i p') lines below' (same_process d i p p' is same) refl below_is a

-- the first PDU of a queue is written off
off_accounted : (holds : Link → Queued → ℕ → Type 0) (cause : Cause) (d : DifSeen) (lines : List Direction) (below : Seen) (i n : ℕ) (process : Process) (key : Key) (process' : Process) (below' : Seen) → IsAccounted d lines below → slice_get d.processes i ≡ Some process → IsWrittenOff holds cause process below n key process' below' → IsAccounted (with_process d i process') lines below'
off_accounted holds cause d lines below i n process key process' below' a is s =
    let off : Off = record { key = key; cause = cause } in
    let new : Process = with_offs (with_taken process s.place s.queue) (off ∷ []) in
    subst (λ (z : Process). IsAccounted (with_process d i z) lines below') (sym s.new_is) (subst (IsAccounted (with_process d i new) lines) (sym s.below_is)
    (one_process d lines lines below below d.ends i process new a is a.passed
    (λ j m q k ne there. record { taken = refl; relayed = refl; gone = refl; made = refl; kept = refl })
    (λ m k there.
    let less = taken_less k process s.place s.queue s.item s.head.is_queue s.head.first in
    let more = one_off k (with_taken process s.place s.queue) off in
    let same : one k off.key ≡ item_one k s.item = ap (one k) s.key_is in
    moved_same m.addr k (Resends d m.addr k.scep) (counts_of d lines below m process k) (counts_of (with_process d i new) lines below m new k) (record { taken = refl; relayed = refl; gone = omega (arith, less, more, same); made = refl; kept = refl }))))

-- it is sent below
forwarded_accounted : (refuses : Port → ℕ → Option SendError) (d : DifSeen) (lines : List Direction) (below : Seen) (i n : ℕ) (process : Process) (key : Key) (process' : Process) (below' : Seen) → AreKept below' → IsStanding d lines below → IsNumbered d below → IsAccounted d lines below → slice_get d.processes i ≡ Some process → IsForwarded refuses d.config d.clock process below n key process' below' → IsAccounted (with_process d i process') lines below'
forwarded_accounted refuses d lines below i n process key process' below' kept st numbered a is s =
    let bytes = sent_bytes d.config d.clock s.item s.promise in
    let w = s.sent.1 in
    let sent = has_sent d.config.widths below s.link.port bytes s.num below' w in
    let at = named_at d lines below i process st numbered is in
    let app = link_named d lines below i n at.member process s.link w.end st at.is_process s.head.is_link (end_of_stands below s.link.port w.facility w.place w.end w.stands) in
    let item = st.items i n s.item (record { process = process; is_process = is; place = s.place; queue = s.queue; is_queue = s.head.is_queue; link = s.head.of_link; at = 0; is_item = s.head.first }) in
    let left : ℕ = s.item.left - charge_of d.clock s.item s.promise in
    let bound : s.item.left < 4294967296 = item.left in
    let opens : opened d.config.widths bytes ≡ Some (record { left = left; pdu = s.item.pdu }) = opened_spelling d.config.widths left s.item.pdu st.config.widths item.fit.fits (omega arith) in
    let new : Process = with_taken process s.place s.queue in
    subst (λ (z : Process). IsAccounted (with_process d i z) lines below') (sym s.new_is)
    (one_process d lines lines below below' d.ends i process new a is (λ port e h mine. within_kept below' kept port e h)
    (λ j m q k ne there.
    let other : w.end.app ≡ m.name → ⊥ = λ same. at.others j m q ne there (sym app ∙ same) in
    let more = sent.others m.name (bears k) other in
    record { taken = sent.taken m.name (bears k); relayed = sent.taken m.name (bears_on m.addr k); gone = omega (arith, more); made = refl; kept = refl })
    (λ m k there.
    let m_is : at.member ≡ m = same_some (slice_get d.config.members i) at.member m at.is_process.is_member there.is_member in
    let own : w.end.app ≡ m.name = app ∙ ap (λ (z : Member). z.name) m_is in
    let more = sent.own m.name (bears k) own in
    let one_is : cond (bears k (opened d.config.widths bytes)) 1 0 ≡ item_one k s.item = ap (λ (o : Option Hop). cond (bears k o) 1 0) opens in
    let less = taken_less k process s.place s.queue s.item s.head.is_queue s.head.first in
    moved_same m.addr k (Resends d m.addr k.scep) (counts_of d lines below m process k) (counts_of (with_process d i new) lines below' m new k) (record { taken = sent.taken m.name (bears k); relayed = sent.taken m.name (bears_on m.addr k); gone = omega (arith, more, one_is, less); made = refl; kept = refl })))

goes_accounted : (refuses : Port → ℕ → Option SendError) (d : DifSeen) (lines : List Direction) (below : Seen) (i n : ℕ) (process : Process) (r : Result OutStep StepError) (process' : Process) (below' : Seen) → AreKept below' → IsStanding d lines below → IsNumbered d below → IsAccounted d lines below → slice_get d.processes i ≡ Some process → Goes refuses d.config d.clock process below n r process' below' → IsAccounted (with_process d i process') lines below'
goes_accounted refuses d lines below i n process (Ok out.Idle) process' below' kept st numbered a is s = idle d lines below below' i process process' is s.2 s.3 a
goes_accounted refuses d lines below i n process (Ok (out.Sent key)) process' below' kept st numbered a is s = forwarded_accounted refuses d lines below i n process key process' below' kept st numbered a is s
goes_accounted refuses d lines below i n process (Ok (out.Off key (causes.Expired left charge))) process' below' kept st numbered a is s = off_accounted _ (causes.Expired left charge) d lines below i n process key process' below' a is s
goes_accounted refuses d lines below i n process (Ok (out.Off key (causes.LinkDown port))) process' below' kept st numbered a is s = off_accounted _ (causes.LinkDown port) d lines below i n process key process' below' a is s
goes_accounted refuses d lines below i n process (Ok (out.Off key (causes.NoRoute dst))) process' below' kept st numbered a is s = absurd s
goes_accounted refuses d lines below i n process (Ok (out.Off key (causes.QueueFull cap))) process' below' kept st numbered a is s = absurd s
goes_accounted refuses d lines below i n process (Ok (out.Off key (causes.NoConnection cep))) process' below' kept st numbered a is s = absurd s
goes_accounted refuses d lines below i n process (Ok (out.Off key (causes.Duplicate num))) process' below' kept st numbered a is s = absurd s
goes_accounted refuses d lines below i n process (Ok (out.Off key (causes.Behind highest))) process' below' kept st numbered a is s = absurd s
goes_accounted refuses d lines below i n process (Ok (out.Off key (causes.NoState drf))) process' below' kept st numbered a is s = absurd s
goes_accounted refuses d lines below i n process (Ok (out.Off key (causes.NoRoom cap))) process' below' kept st numbered a is s = absurd s
goes_accounted refuses d lines below i n process (Ok (out.Off key (causes.StateGone last_in))) process' below' kept st numbered a is s = absurd s
goes_accounted refuses d lines below i n process (Ok (out.Off key (causes.Broken missing))) process' below' kept st numbered a is s = absurd s
goes_accounted refuses d lines below i n process (Ok (out.Held why)) process' below' kept st numbered a is s = idle d lines below below' i process process' is s.1 s.2 a
goes_accounted refuses d lines below i n process (Err Memory) process' below' kept st numbered a is s = idle d lines below below' i process process' is s.0 s.1 a
goes_accounted refuses d lines below i n process (Err NoIpc) process' below' kept st numbered a is s = absurd s
goes_accounted refuses d lines below i n process (Err NoLink) process' below' kept st numbered a is s = idle d lines below below' i process process' is s.1 s.2 a
goes_accounted refuses d lines below i n process (Err (CountSpent need left)) process' below' kept st numbered a is s = absurd s

step_accounted : (refuses : Port → ℕ → Option SendError) (d : DifSeen) (lines : List Direction) (below : Seen) (i n : ℕ) (r : Result OutStep StepError) (d' : DifSeen) (below' : Seen) → AreKept below' → IsStanding d lines below → IsNumbered d below → IsAccounted d lines below → IsStep (λ p p'. Goes refuses d.config d.clock p below n r p' below') d i d' → IsAccounted d' lines below'
step_accounted refuses d lines below i n r d' below' kept st numbered a s = subst (λ (z : DifSeen). IsAccounted z lines below') (sym s.new_is) (goes_accounted refuses d lines below i n s.process r s.process' below' kept st numbered a s.is_process s.done)

pub outs_accounted : (refuses : Port → ℕ → Option SendError) (d : DifSeen) (lines : List Direction) (below : Seen) (i n : ℕ) (r : Result OutStep StepError) (d' : DifSeen) (below' : Seen) → AreKept below → AreKept below' → IsStanding d lines below → IsNumbered d below → IsAccounted d lines below → Outs refuses d below i n r d' below' → IsAccounted d' lines below'
outs_accounted refuses d lines below i n (Ok x) d' below' kept kept' st numbered a s = step_accounted refuses d lines below i n (Ok x) d' below' kept' st numbered a s
outs_accounted refuses d lines below i n (Err Memory) d' below' kept kept' st numbered a s = step_accounted refuses d lines below i n (Err Memory) d' below' kept' st numbered a s
outs_accounted refuses d lines below i n (Err NoIpc) d' below' kept kept' st numbered a s = accounted_same d lines below d' lines below' s.1 refl s.2 a
outs_accounted refuses d lines below i n (Err NoLink) d' below' kept kept' st numbered a s = step_accounted refuses d lines below i n (Err NoLink) d' below' kept' st numbered a s
outs_accounted refuses d lines below i n (Err (CountSpent need left)) d' below' kept kept' st numbered a s = step_accounted refuses d lines below i n (Err (CountSpent need left)) d' below' kept' st numbered a s
