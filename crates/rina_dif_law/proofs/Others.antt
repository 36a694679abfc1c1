-- A step of another DIF of the rank, or whatever else happens below without a DIF, keeps its standing.
use Rattle.std.proofs.Common.{◌≡◌, ℕ, List, length, slice_get, Some, Ok, Err, Option, Result, refl, sym, ◌∙◌, ap, subst}
use Rattle.rina_base.specs.declared.cause.Cause.{Cause}
use Rattle.rina_base.specs.declared.cause.Cause.TheVariants as causes
use Rattle.rina_base.specs.declared.number.Key.{Key}
use Rattle.rina_base.specs.declared.number.Num.{Num}
use Rattle.rina_base.specs.declared.number.Port.{Port}
use Rattle.rina_iface.specs.declared.ends.End.{End}
use Rattle.rina_iface.specs.declared.error.SendError.{SendError}
use Rattle.rina_iface.specs.Journal.{AreKept}
use Rattle.rina_iface.specs.Seen.{Seen, end_of}
use Rattle.rina_iface.specs.Send.{IsSent}
use Rattle.rina_iface.specs.Later.{IsLater}
use Rattle.rina_iface.proofs.LaterCalls.{later_passes, later_sends}
use Rattle.rina_law.specs.Direction.{Direction}
use Rattle.rina_data.specs.declared.step.InStep.{InStep}
use Rattle.rina_data.specs.declared.step.InStep.TheVariants as in_
use Rattle.rina_data.specs.declared.step.OutStep.{OutStep}
use Rattle.rina_data.specs.declared.step.OutStep.TheVariants as out
use Rattle.rina_data.specs.declared.step.StepError.{StepError}
use Rattle.rina_data.specs.declared.step.StepError.TheVariants.{CountSpent, Memory, NoIpc, NoLink}
use Rattle.rina_dif_law.specs.Cloud.{IsMine}
use Rattle.rina_dif_law.specs.Dif.{DifSeen}
use Rattle.rina_data.specs.Process.{Process}
use Rattle.rina_dif_law.specs.Incoming.{Ins}
use Rattle.rina_dif_law.specs.Lifting.{IsLifted}
use Rattle.rina_dif_law.specs.Others.{AreApart}
use Rattle.rina_data.specs.Outgoing.{Goes, IsForwarded, Offs, sent_bytes}
use Rattle.rina_dif_law.specs.Outgoing.{Outs}
use Rattle.rina_dif_law.specs.Standing.{IsStanding}
use Rattle.rina_dif_law.proofs.After.{after_lifted, after_passed, after_sent, no_more_of_others}
use Rattle.rina_dif_law.proofs.Ends.{same_some}
use Rattle.rina_dif_law.proofs.Finding.{beside, live_link}
use Rattle.rina_dif_law.proofs.Taking.{still_stands}

now_kept : (d : DifSeen) (lines : List Direction) (below below' : Seen) → below' ≡ below → IsStanding d lines below → IsStanding d lines below'
now_kept d lines below below' is st = subst (IsStanding d lines) (sym is) st

-- an application that is no member sent
pub send_of_others : (d : DifSeen) (lines : List Direction) (below : Seen) (port : Port) (bytes : List ℕ) (num : Num) (below' : Seen) → AreKept below → AreKept below' → IsLater below below' → IsStanding d lines below → ((e : End) → end_of below port ≡ Some e → IsMine d.config.members e.app → ⊥) → IsSent below port bytes num below' → IsStanding d lines below'
send_of_others d lines below port bytes num below' kept kept' later st others s =
    let after = after_sent d.config below port bytes num below' kept kept' later s in
    still_stands d lines below below' st (no_more_of_others d.config port (record { tick = below.now; num = num; bytes = bytes }) below below' others after) (ap (λ (x : Seen). x.now) s.new_is)

forwarded_other : (refuses : Port → ℕ → Option SendError) (d o : DifSeen) (lines olines : List Direction) (below : Seen) (i n : ℕ) (process : Process) (key : Key) (process' : Process) (below' : Seen) → AreKept below → AreKept below' → IsStanding d lines below → IsStanding o olines below → AreApart o d → slice_get o.processes i ≡ Some process → IsForwarded refuses o.config o.clock process below n key process' below' → IsStanding d lines below'
forwarded_other refuses d o lines olines below i n process key process' below' kept kept' st so apart is_process s =
    let bytes = sent_bytes o.config o.clock s.item s.promise in
    let later = later_sends (refuses s.link.port (length bytes)) below s.link.port bytes (Ok s.num) below' s.sent in
    let member = beside o.processes o.config.members i process (sym so.aligned) is_process in
    let link = so.linked i member.0 s.link member.1 (live_link o.processes i n process s.link is_process s.head.is_link) in
    let others : (e : End) → end_of below s.link.port ≡ Some e → IsMine d.config.members e.app → ⊥ = λ e h mine.
    (let is = same_some (end_of below s.link.port) e link.end h link.here in
    apart member.0.name (record { addr = member.0.addr; member = record { place = i; member = member.0; stands = member.1; addr_is = refl; name_is = refl } }) (subst (IsMine d.config.members) (ap (λ (x : End). x.app) is ∙ link.app) mine)) in
    send_of_others d lines below s.link.port bytes s.num below' kept kept' later st others s.sent.1

offs_other : (refuses : Port → ℕ → Option SendError) (d o : DifSeen) (lines : List Direction) (below : Seen) (n : ℕ) (process : Process) (key : Key) (cause : Cause) (process' : Process) (below' : Seen) → IsStanding d lines below → Offs refuses o.config o.clock process below n key cause process' below' → IsStanding d lines below'
offs_other refuses d o lines below n process key (causes.Expired left charge) process' below' st s = now_kept d lines below below' s.below_is st
offs_other refuses d o lines below n process key (causes.LinkDown port) process' below' st s = now_kept d lines below below' s.below_is st
offs_other refuses d o lines below n process key (causes.NoRoute dst) process' below' st s = absurd s
offs_other refuses d o lines below n process key (causes.QueueFull cap) process' below' st s = absurd s
offs_other refuses d o lines below n process key (causes.NoConnection cep) process' below' st s = absurd s
offs_other refuses d o lines below n process key (causes.Duplicate num) process' below' st s = absurd s
offs_other refuses d o lines below n process key (causes.Behind highest) process' below' st s = absurd s
offs_other refuses d o lines below n process key (causes.NoState drf) process' below' st s = absurd s
offs_other refuses d o lines below n process key (causes.NoRoom cap) process' below' st s = absurd s
offs_other refuses d o lines below n process key (causes.StateGone last_in) process' below' st s = absurd s
offs_other refuses d o lines below n process key (causes.Broken missing) process' below' st s = absurd s

goes_other : (refuses : Port → ℕ → Option SendError) (d o : DifSeen) (lines olines : List Direction) (below : Seen) (i n : ℕ) (process : Process) (r : Result OutStep StepError) (process' : Process) (below' : Seen) → AreKept below → AreKept below' → IsStanding d lines below → IsStanding o olines below → AreApart o d → slice_get o.processes i ≡ Some process → Goes refuses o.config o.clock process below n r process' below' → IsStanding d lines below'
goes_other refuses d o lines olines below i n process (Ok out.Idle) process' below' kept kept' st so apart is s = now_kept d lines below below' s.3 st
goes_other refuses d o lines olines below i n process (Ok (out.Sent key)) process' below' kept kept' st so apart is s = forwarded_other refuses d o lines olines below i n process key process' below' kept kept' st so apart is s
goes_other refuses d o lines olines below i n process (Ok (out.Off key cause)) process' below' kept kept' st so apart is s = offs_other refuses d o lines below n process key cause process' below' st s
goes_other refuses d o lines olines below i n process (Ok (out.Held why)) process' below' kept kept' st so apart is s = now_kept d lines below below' s.2 st
goes_other refuses d o lines olines below i n process (Err Memory) process' below' kept kept' st so apart is s = now_kept d lines below below' s.1 st
goes_other refuses d o lines olines below i n process (Err NoIpc) process' below' kept kept' st so apart is s = absurd s
goes_other refuses d o lines olines below i n process (Err NoLink) process' below' kept kept' st so apart is s = now_kept d lines below below' s.2 st
goes_other refuses d o lines olines below i n process (Err (CountSpent need left)) process' below' kept kept' st so apart is s = absurd s

pub outs_other : (refuses : Port → ℕ → Option SendError) (d o : DifSeen) (lines olines : List Direction) (below : Seen) (i n : ℕ) (r : Result OutStep StepError) (o' : DifSeen) (below' : Seen) → AreKept below → AreKept below' → IsStanding d lines below → IsStanding o olines below → AreApart o d → Outs refuses o below i n r o' below' → IsStanding d lines below'
outs_other refuses d o lines olines below i n (Ok x) o' below' kept kept' st so apart s = goes_other refuses d o lines olines below i n s.process (Ok x) s.process' below' kept kept' st so apart s.is_process s.done
outs_other refuses d o lines olines below i n (Err Memory) o' below' kept kept' st so apart s = goes_other refuses d o lines olines below i n s.process (Err Memory) s.process' below' kept kept' st so apart s.is_process s.done
outs_other refuses d o lines olines below i n (Err NoIpc) o' below' kept kept' st so apart s = now_kept d lines below below' s.2 st
outs_other refuses d o lines olines below i n (Err NoLink) o' below' kept kept' st so apart s = goes_other refuses d o lines olines below i n s.process (Err NoLink) s.process' below' kept kept' st so apart s.is_process s.done
outs_other refuses d o lines olines below i n (Err (CountSpent need left)) o' below' kept kept' st so apart s = goes_other refuses d o lines olines below i n s.process (Err (CountSpent need left)) s.process' below' kept kept' st so apart s.is_process s.done

-- what another DIF takes is passed below, and that is nothing to this one
pub ins_other : (d o : DifSeen) (lines olines : List Direction) (below : Seen) (i n : ℕ) (r : Result InStep StepError) (o' : DifSeen) (olines' : List Direction) (below' : Seen) → AreKept below → AreKept below' → IsStanding d lines below → Ins o olines below i n r o' olines' below' → IsStanding d lines below'
ins_other d o lines olines below i n (Ok in_.Idle) o' olines' below' kept kept' st s = now_kept d lines below below' s.3 st
ins_other d o lines olines below i n (Ok (in_.Took key end)) o' olines' below' kept kept' st s =
    still_stands d lines below below' st (after_passed d.config below s.link.port below' kept kept' (later_passes below s.link.port below' s.passed) s.passed) (ap (λ (x : Seen). x.now) s.passed.new_is)
ins_other d o lines olines below i n (Err Memory) o' olines' below' kept kept' st s = now_kept d lines below below' s.2 st
ins_other d o lines olines below i n (Err NoIpc) o' olines' below' kept kept' st s = now_kept d lines below below' s.3 st
ins_other d o lines olines below i n (Err NoLink) o' olines' below' kept kept' st s = now_kept d lines below below' s.3 st
ins_other d o lines olines below i n (Err (CountSpent need left)) o' olines' below' kept kept' st s = now_kept d lines below below' s.2 st

-- whatever leaves what the members' ends sent and passed, at one tick
pub stands_beside : (d : DifSeen) (lines : List Direction) (below below' : Seen) → AreKept below' → IsStanding d lines below → IsLifted d.config below below' → below'.now ≡ below.now → IsStanding d lines below'
stands_beside d lines below below' kept st lifted clock = still_stands d lines below below' st (after_lifted d.config below below' kept lifted) clock
