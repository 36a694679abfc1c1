-- A step of another DIF of the rank keeps the management connections of this one.
use Rattle.std.proofs.Common.{◌≡◌, ℕ, List, length, slice_get, Some, Ok, Err, Option, Result, refl, sym, ◌∙◌, ap, subst}
use Rattle.rina_base.specs.declared.cause.Cause.{Cause}
use Rattle.rina_base.specs.declared.cause.Cause.TheVariants as causes
use Rattle.rina_base.specs.declared.number.Key.{Key}
use Rattle.rina_base.specs.declared.number.Port.{Port}
use Rattle.rina_iface.specs.declared.ends.End.{End}
use Rattle.rina_iface.specs.declared.error.SendError.{SendError}
use Rattle.rina_iface.specs.Journal.{AreKept}
use Rattle.rina_iface.specs.Seen.{Seen, end_of}
use Rattle.rina_iface.proofs.LaterCalls.{later_sends}
use Rattle.rina_law.specs.Direction.{Direction}
use Rattle.rina_data.specs.declared.step.InStep.{InStep}
use Rattle.rina_data.specs.declared.step.InStep.TheVariants as in_
use Rattle.rina_data.specs.declared.step.OutStep.{OutStep}
use Rattle.rina_data.specs.declared.step.OutStep.TheVariants as out
use Rattle.rina_data.specs.declared.step.StepError.{StepError}
use Rattle.rina_data.specs.declared.step.StepError.TheVariants.{CountSpent, Memory, NoIpc, NoLink}
use Rattle.rina_data.specs.Outgoing.{Goes, IsForwarded, Offs, sent_bytes}
use Rattle.rina_data.specs.Process.{Process}
use Rattle.rina_dif_law.specs.Cloud.{IsMine}
use Rattle.rina_dif_law.specs.Dif.{DifSeen}
use Rattle.rina_dif_law.specs.Incoming.{Ins}
use Rattle.rina_dif_law.specs.Outgoing.{Outs}
use Rattle.rina_dif_law.specs.Standing.{IsStanding as DifStands}
use Rattle.rina_dif_law.proofs.Ends.{same_some}
use Rattle.rina_dif_law.proofs.Finding.{beside, live_link}
use Rattle.rina_channel.specs.Channels.{ChannelsSeen}
use Rattle.rina_channel.specs.Laws.{AreOthers}
use Rattle.rina_channel.specs.Standing.{IsStanding}
use Rattle.rina_channel.proofs.Frame.{sends_of_others_stand, taking_stands}

module _ (m : ChannelsSeen) (lines : List Direction) (ps : List Process) (o : DifSeen) (olines : List Direction) (below below' : Seen) (kept : AreKept below) (kept' : AreKept below') (st : IsStanding m lines ps below) where
  same_below : below' ≡ below → IsStanding m lines ps below'
  same_below is = subst (IsStanding m lines ps) (sym is) st

  -- what another DIF takes is passed below, and that is nothing to this one
  pub ins_other : (i n : ℕ) (r : Result InStep StepError) (o' : DifSeen) (olines' : List Direction) → Ins o olines below i n r o' olines' below' → IsStanding m lines ps below'
  ins_other i n (Ok in_.Idle) o' olines' s = same_below s.3
  ins_other i n (Ok (in_.Took key end)) o' olines' s = taking_stands m lines ps below s.link.port below' kept kept' st s.passed
  ins_other i n (Err Memory) o' olines' s = same_below s.2
  ins_other i n (Err NoIpc) o' olines' s = same_below s.3
  ins_other i n (Err NoLink) o' olines' s = same_below s.3
  ins_other i n (Err (CountSpent need left)) o' olines' s = same_below s.2

  module _ (refuses : Port → ℕ → Option SendError) (others : DifStands o olines below) (apart : AreOthers m o) where
    forwarded_other : (i n : ℕ) (process : Process) (key : Key) (process' : Process) → slice_get o.processes i ≡ Some process → IsForwarded refuses o.config o.clock process below n key process' below' → IsStanding m lines ps below'
    forwarded_other i n process key process' is_process s =
        let bytes = sent_bytes o.config o.clock s.item s.promise in
        let later = later_sends (refuses s.link.port (length bytes)) below s.link.port bytes (Ok s.num) below' s.sent in
        let member = beside o.processes o.config.members i process (sym others.aligned) is_process in
        let link = others.linked i member.0 s.link member.1 (live_link o.processes i n process s.link is_process s.head.is_link) in
        let theirs : (e : End) → end_of below s.link.port ≡ Some e → IsMine m.config.members e.app → ⊥ = λ e h mine.
        (let is = same_some (end_of below s.link.port) e link.end h link.here in
        apart member.0.name (record { addr = member.0.addr; member = record { place = i; member = member.0; stands = member.1; addr_is = refl; name_is = refl } }) (subst (IsMine m.config.members) (ap (λ (x : End). x.app) is ∙ link.app) mine)) in
        sends_of_others_stand m lines ps below s.link.port bytes s.num below' kept kept' later st theirs s.sent.1

    offs_other : (n : ℕ) (process : Process) (key : Key) (cause : Cause) (process' : Process) → Offs refuses o.config o.clock process below n key cause process' below' → IsStanding m lines ps below'
    offs_other n process key (causes.Expired left charge) process' s = same_below s.below_is
    offs_other n process key (causes.LinkDown port) process' s = same_below s.below_is
    offs_other n process key (causes.NoRoute dst) process' s = absurd s
    offs_other n process key (causes.QueueFull full) process' s = absurd s
    offs_other n process key (causes.NoConnection cep) process' s = absurd s
    offs_other n process key (causes.Duplicate num) process' s = absurd s
    offs_other n process key (causes.Behind highest) process' s = absurd s
    offs_other n process key (causes.NoState drf) process' s = absurd s
    offs_other n process key (causes.NoRoom room) process' s = absurd s
    offs_other n process key (causes.StateGone last_in) process' s = absurd s
    offs_other n process key (causes.Broken missing) process' s = absurd s

    goes_other : (i n : ℕ) (process : Process) (r : Result OutStep StepError) (process' : Process) → slice_get o.processes i ≡ Some process → Goes refuses o.config o.clock process below n r process' below' → IsStanding m lines ps below'
    goes_other i n process (Ok out.Idle) process' is s = same_below s.3
    goes_other i n process (Ok (out.Sent key)) process' is s = forwarded_other i n process key process' is s
    goes_other i n process (Ok (out.Off key cause)) process' is s = offs_other n process key cause process' s
    goes_other i n process (Ok (out.Held why)) process' is s = same_below s.2
    goes_other i n process (Err Memory) process' is s = same_below s.1
    goes_other i n process (Err NoIpc) process' is s = absurd s
    goes_other i n process (Err NoLink) process' is s = same_below s.2
    goes_other i n process (Err (CountSpent need left)) process' is s = absurd s

    pub outs_other : (i n : ℕ) (r : Result OutStep StepError) (o' : DifSeen) → Outs refuses o below i n r o' below' → IsStanding m lines ps below'
    outs_other i n (Ok x) o' s = goes_other i n s.process (Ok x) s.process' s.is_process s.done
    outs_other i n (Err Memory) o' s = goes_other i n s.process (Err Memory) s.process' s.is_process s.done
    outs_other i n (Err NoIpc) o' s = same_below s.2
    outs_other i n (Err NoLink) o' s = goes_other i n s.process (Err NoLink) s.process' s.is_process s.done
    outs_other i n (Err (CountSpent need left)) o' s = goes_other i n s.process (Err (CountSpent need left)) s.process' s.is_process s.done
