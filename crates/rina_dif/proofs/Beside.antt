-- What a step of a DIF is to its rank, and to the DIFs beside it.
use Rattle.std.proofs.Common.{◌≡◌, ◌∙◌, ℕ, ◌≤◌, Bool, List, slice_get, length, Option, Some, Result, Ok, Err, refl, sym, ap, subst, arith, inl, inr}
use Rattle.rina_base.specs.declared.cause.Cause.{Cause}
use Rattle.rina_base.specs.declared.cause.Cause.TheVariants as causes
use Rattle.rina_base.specs.declared.number.Key.{Key}
use Rattle.rina_base.specs.declared.number.Port.{Port}
use Rattle.rina_iface.specs.declared.ends.End.{End}
use Rattle.rina_iface.specs.declared.error.SendError.{SendError}
use Rattle.rina_iface.specs.Journal.{AreKept}
use Rattle.rina_iface.specs.Seen.{Seen, end_of}
use Rattle.rina_iface.proofs.Later.{fac_refl}
use Rattle.rina_iface.proofs.LaterCalls.{later_passes, later_sends}
use Rattle.rina_law.specs.declared.entry.Entry.{Entry}
use Rattle.rina_law.specs.Direction.{Direction}
use Rattle.rina_data.specs.declared.step.ClockStep.{ClockStep}
use Rattle.rina_data.specs.declared.step.ClockStep.TheVariants as step
use Rattle.rina_data.specs.declared.step.InStep.{InStep}
use Rattle.rina_data.specs.declared.step.InStep.TheVariants as in_
use Rattle.rina_data.specs.declared.step.OutStep.{OutStep}
use Rattle.rina_data.specs.declared.step.OutStep.TheVariants as out
use Rattle.rina_data.specs.declared.step.StepError.{StepError}
use Rattle.rina_data.specs.declared.step.StepError.TheVariants.{CountSpent, Memory, NoIpc, NoLink}
use Rattle.rina_dif_law.specs.Accounted.{IsAccounted}
use Rattle.rina_dif_law.specs.Cloud.{IsMine}
use Rattle.rina_data.specs.Configs.{Config, Member, config_of}
use Rattle.rina_dif_law.specs.Dif.{DifSeen, fac_of}
use Rattle.rina_data.specs.Process.{Process}
use Rattle.rina_dif_law.specs.Incoming.{Ins}
use Rattle.rina_dif_law.specs.Others.{AreApart}
use Rattle.rina_data.specs.Outgoing.{Goes, IsForwarded, Offs, sent_bytes}
use Rattle.rina_dif_law.specs.Outgoing.{Outs}
use Rattle.rina_dif_law.specs.Standing.{IsLinked, IsStanding}
use Rattle.rina_dif_law.specs.Upward.{IsSilent}
use Rattle.rina_dif_law.proofs.TurnedDown.{down_silent}
use Rattle.rina_dif_law.proofs.After.{IsAfter, NoMore, after_none, after_passed, after_sent, no_more_of_others}
use Rattle.rina_dif_law.proofs.Carries.{after_carries}
use Rattle.rina_dif_law.proofs.Ends.{same_some}
use Rattle.rina_dif_law.proofs.Finding.{beside, live_link}
use Rattle.rina_dif_law.proofs.FarEnds.{none_fresh, silent_on}
use Rattle.rina_dif_law.proofs.Finishing.{ended_silent}
use Rattle.rina_dif_law.proofs.Keepers.{facility}
use Rattle.rina_dif_law.proofs.Lifted.{passes_of_others_account, sends_of_others_account}
use Rattle.rina_dif_law.proofs.Numbering.{beside_after}
use Rattle.rina_dif_law.proofs.Taking.{still_stands}
use Rattle.rina_dif_law.proofs.Upper.{acknowledged_silent, forgotten_silent, ins_silent, outs_silent, resent_silent, silent_same}
use Rattle.rina_dif.specs.declared.dif.Dif.{Dif}
use Rattle.rina_dif.specs.Claiming.{ClaimsFirst, MayHaveClaimed, NoLinkComes}
use Rattle.rina_dif.specs.Clocking.{Serves, ServesAny, ServesThen, Steps, StepsFlow, StepsHere}
use Rattle.rina_dif.specs.Facade.{GoesOn, OthersStand}
use Rattle.rina_dif.specs.Holding.{Holds, LinksStand, Stands}
use Rattle.rina_dif.specs.LinkSteps.{DoesLink}
use Rattle.rina_dif.proofs.Enrolled.{stay_same}
use Rattle.rina_dif.proofs.ClaimedBelow.{holds_claimed}
use Rattle.rina_dif.proofs.ClaimedFirst.{no_link_kept, no_link_later}
use Rattle.rina_dif.proofs.FlowWalk.{clock_kept, flows_clock, flows_silent, silent_rerouted}
use Rattle.rina_dif.proofs.FreedBelow.{holds_freed}
use Rattle.rina_flows.specs.declared.flows.Flows.{Flows}
use Rattle.rina_iface.specs.Later.{IsLater}
use Rattle.rina_dif.specs.Shown.{seen_of}
use Rattle.rina_dif.specs.Managing.{StayEnrolled}
use Rattle.rina_dif.specs.Taking.{TakesIn}
use Rattle.rina_dif.specs.Whole.{IsDif}
use Rattle.rina_dif.proofs.Causing.{LowerStays, caused_on, lower_later, lower_same, none_is}
use Rattle.rina_dif.proofs.Cutting.{loses_silent}
use Rattle.rina_channel.proofs.Below.{EndsGoOn, ends_go_on, ends_stay}
use Rattle.rina_dif.proofs.Connected.{aside_connected}

-- What another DIF sends or takes below is nothing to a DIF

-- no member of it sent or took anything, the clock stayed, what has failed below has failed, and the flows below go on
record IsAside (g : Config) (below below' : Seen) : Type 0 where
  after : IsAfter g NoMore below below'
  clock : below'.now ≡ below.now
  accounts : (d : DifSeen) (lines : List Direction) → d.config ≡ g → IsAccounted d lines below → IsAccounted d lines below'
  lower : LowerStays g below below'
  goes : EndsGoOn below below'

aside_same : (g : Config) (below below' : Seen) → below' ≡ below → IsAside g below below'
aside_same g below below' is = subst (IsAside g below) (sym is) (record { after = after_none g below; clock = refl; accounts = λ d lines same a. a; lower = lower_same g below below refl; goes = ends_stay below })

-- the end of another DIF's link is that of no member
not_linked : (d o : DifSeen) (below : Seen) (i : ℕ) (member : Member) (port : Port) → AreApart o d → slice_get o.config.members i ≡ Some member → IsLinked below member.name port → (e : End) → end_of below port ≡ Some e → IsMine d.config.members e.app → ⊥
not_linked d o below i member port apart is link e h mine =
    let same = same_some (end_of below port) e link.end h link.here in
    apart member.name (record { addr = member.addr; member = record { place = i; member = member; stands = is; addr_is = refl; name_is = refl } }) (subst (IsMine d.config.members) (ap (λ (z : End). z.app) same ∙ link.app) mine)

not_mine : (z d : DifSeen) (below : Seen) (port : Port) → z.config ≡ d.config → ((e : End) → end_of below port ≡ Some e → IsMine d.config.members e.app → ⊥) → (e : End) → end_of below port ≡ Some e → IsMine z.config.members e.app → ⊥
not_mine z d below port same others e h mine = others e h (subst (λ (g : Config). IsMine g.members e.app) same mine)

forwarded_aside : (refuses : Port → ℕ → Option SendError) (d o : DifSeen) (olines : List Direction) (below : Seen) (i n : ℕ) (process : Process) (key : Key) (process' : Process) (below' : Seen) → AreKept below → AreKept below' → IsStanding o olines below → AreApart o d → slice_get o.processes i ≡ Some process → IsForwarded refuses o.config o.clock process below n key process' below' → IsAside d.config below below'
forwarded_aside refuses d o olines below i n process key process' below' kept kept' so apart is_process s =
    let bytes : List ℕ = sent_bytes o.config o.clock s.item s.promise in
    let x : Entry = record { tick = below.now; num = s.num; bytes = bytes } in
    let later = later_sends (refuses s.link.port (length bytes)) below s.link.port bytes (Ok s.num) below' s.sent in
    let member = beside o.processes o.config.members i process (sym so.aligned) is_process in
    let link = so.linked i member.0 s.link member.1 (live_link o.processes i n process s.link is_process s.head.is_link) in
    let others = not_linked d o below i member.0 s.link.port apart member.1 link in
    let after = after_sent d.config below s.link.port bytes s.num below' kept kept' later s.sent.1 in
    record {
      after = no_more_of_others d.config s.link.port x below below' others after;
      clock = ap (λ (z : Seen). z.now) s.sent.1.new_is;
      accounts = λ z lines same a. sends_of_others_account z lines below s.link.port bytes s.num below' kept' a (not_mine z d below s.link.port same others) s.sent.1;
      lower = lower_later d.config below below' kept' later;
      goes = ends_go_on below below' later kept';
    }

offs_aside : (refuses : Port → ℕ → Option SendError) (d o : DifSeen) (below : Seen) (n : ℕ) (process : Process) (key : Key) (cause : Cause) (process' : Process) (below' : Seen) → Offs refuses o.config o.clock process below n key cause process' below' → IsAside d.config below below'
offs_aside refuses d o below n process key (causes.Expired left charge) process' below' s = aside_same d.config below below' s.below_is
offs_aside refuses d o below n process key (causes.LinkDown port) process' below' s = aside_same d.config below below' s.below_is
offs_aside refuses d o below n process key (causes.NoRoute dst) process' below' s = absurd s
offs_aside refuses d o below n process key (causes.QueueFull cap) process' below' s = absurd s
offs_aside refuses d o below n process key (causes.NoConnection cep) process' below' s = absurd s
offs_aside refuses d o below n process key (causes.Duplicate num) process' below' s = absurd s
offs_aside refuses d o below n process key (causes.Behind highest) process' below' s = absurd s
offs_aside refuses d o below n process key (causes.NoState drf) process' below' s = absurd s
offs_aside refuses d o below n process key (causes.NoRoom cap) process' below' s = absurd s
offs_aside refuses d o below n process key (causes.StateGone last_in) process' below' s = absurd s
offs_aside refuses d o below n process key (causes.Broken missing) process' below' s = absurd s

goes_aside : (refuses : Port → ℕ → Option SendError) (d o : DifSeen) (olines : List Direction) (below : Seen) (i n : ℕ) (process : Process) (r : Result OutStep StepError) (process' : Process) (below' : Seen) → AreKept below → AreKept below' → IsStanding o olines below → AreApart o d → slice_get o.processes i ≡ Some process → Goes refuses o.config o.clock process below n r process' below' → IsAside d.config below below'
goes_aside refuses d o olines below i n process (Ok out.Idle) process' below' kept kept' so apart is s = aside_same d.config below below' s.3
goes_aside refuses d o olines below i n process (Ok (out.Sent key)) process' below' kept kept' so apart is s = forwarded_aside refuses d o olines below i n process key process' below' kept kept' so apart is s
goes_aside refuses d o olines below i n process (Ok (out.Off key cause)) process' below' kept kept' so apart is s = offs_aside refuses d o below n process key cause process' below' s
goes_aside refuses d o olines below i n process (Ok (out.Held why)) process' below' kept kept' so apart is s = aside_same d.config below below' s.2
goes_aside refuses d o olines below i n process (Err Memory) process' below' kept kept' so apart is s = aside_same d.config below below' s.1
goes_aside refuses d o olines below i n process (Err NoIpc) process' below' kept kept' so apart is s = absurd s
goes_aside refuses d o olines below i n process (Err NoLink) process' below' kept kept' so apart is s = aside_same d.config below below' s.2
goes_aside refuses d o olines below i n process (Err (CountSpent need left)) process' below' kept kept' so apart is s = absurd s

outs_aside : (refuses : Port → ℕ → Option SendError) (d o : DifSeen) (olines : List Direction) (below : Seen) (i n : ℕ) (r : Result OutStep StepError) (o' : DifSeen) (below' : Seen) → AreKept below → AreKept below' → IsStanding o olines below → AreApart o d → Outs refuses o below i n r o' below' → IsAside d.config below below'
outs_aside refuses d o olines below i n (Ok x) o' below' kept kept' so apart s = goes_aside refuses d o olines below i n s.process (Ok x) s.process' below' kept kept' so apart s.is_process s.done
outs_aside refuses d o olines below i n (Err Memory) o' below' kept kept' so apart s = goes_aside refuses d o olines below i n s.process (Err Memory) s.process' below' kept kept' so apart s.is_process s.done
outs_aside refuses d o olines below i n (Err NoIpc) o' below' kept kept' so apart s = aside_same d.config below below' s.2
outs_aside refuses d o olines below i n (Err NoLink) o' below' kept kept' so apart s = goes_aside refuses d o olines below i n s.process (Err NoLink) s.process' below' kept kept' so apart s.is_process s.done
outs_aside refuses d o olines below i n (Err (CountSpent need left)) o' below' kept kept' so apart s = goes_aside refuses d o olines below i n s.process (Err (CountSpent need left)) s.process' below' kept kept' so apart s.is_process s.done

ins_aside : (d o : DifSeen) (olines : List Direction) (below : Seen) (i n : ℕ) (r : Result InStep StepError) (o' : DifSeen) (olines' : List Direction) (below' : Seen) → AreKept below → AreKept below' → IsStanding o olines below → AreApart o d → Ins o olines below i n r o' olines' below' → IsAside d.config below below'
ins_aside d o olines below i n (Ok in_.Idle) o' olines' below' kept kept' so apart s = aside_same d.config below below' s.3
ins_aside d o olines below i n (Ok (in_.Took key end)) o' olines' below' kept kept' so apart s =
    let link = so.linked i s.member s.link s.is_process.is_member (live_link o.processes i n s.process s.link s.is_process.is_process s.is_link) in
    let others = not_linked d o below i s.member s.link.port apart s.is_process.is_member link in
    record {
      after = after_passed d.config below s.link.port below' kept kept' (later_passes below s.link.port below' s.passed) s.passed;
      clock = ap (λ (x : Seen). x.now) s.passed.new_is;
      accounts = λ z lines same a. passes_of_others_account z lines below s.link.port below' kept' a (not_mine z d below s.link.port same others) s.passed;
      lower = lower_later d.config below below' kept' (later_passes below s.link.port below' s.passed);
      goes = ends_go_on below below' (later_passes below s.link.port below' s.passed) kept';
    }
ins_aside d o olines below i n (Err Memory) o' olines' below' kept kept' so apart s = aside_same d.config below below' s.2
ins_aside d o olines below i n (Err NoIpc) o' olines' below' kept kept' so apart s = aside_same d.config below below' s.3
ins_aside d o olines below i n (Err NoLink) o' olines' below' kept kept' so apart s = aside_same d.config below below' s.3
ins_aside d o olines below i n (Err (CountSpent need left)) o' olines' below' kept kept' so apart s = aside_same d.config below below' s.2

ins_clock : (o : DifSeen) (olines : List Direction) (below : Seen) (i n : ℕ) (r : Result InStep StepError) (o' : DifSeen) (olines' : List Direction) (below' : Seen) → Ins o olines below i n r o' olines' below' → below'.now ≡ below.now
ins_clock o olines below i n (Ok in_.Idle) o' olines' below' s = ap (λ (x : Seen). x.now) s.3
ins_clock o olines below i n (Ok (in_.Took key end)) o' olines' below' s = ap (λ (x : Seen). x.now) s.passed.new_is
ins_clock o olines below i n (Err Memory) o' olines' below' s = ap (λ (x : Seen). x.now) s.2
ins_clock o olines below i n (Err NoIpc) o' olines' below' s = ap (λ (x : Seen). x.now) s.3
ins_clock o olines below i n (Err NoLink) o' olines' below' s = ap (λ (x : Seen). x.now) s.3
ins_clock o olines below i n (Err (CountSpent need left)) o' olines' below' s = ap (λ (x : Seen). x.now) s.2

-- so a DIF holds on
holds_aside : (d : Dif) (lines : List Direction) (below below' : Seen) → IsAside (config_of d.settings) below below' → Holds d lines below → Holds d lines below'
holds_aside d lines below below' a h = record {
  tied = h.tied;
  standing = still_stands (seen_of d) lines below below' h.standing a.after a.clock;
  carrying = after_carries (seen_of d) lines NoMore below below' h.carrying a.after;
  numbered = beside_after (seen_of d) below below' h.numbered a.after;
  accounted = a.accounts (seen_of d) lines refl h.accounted;
  caused = caused_on (seen_of d) (seen_of d) below below' (none_is (seen_of d) (seen_of d) refl) a.lower h.caused;
  written_off = h.written_off;
  housed = h.housed;
  managed = h.managed;
  enrolled = h.enrolled;
  connected = aside_connected (config_of d.settings) d.clock d.connections (seen_of d).processes below below' a.after a.goes a.clock h.connected;
  flooded = h.flooded;
}

-- What a step is to the rank

-- it is silent, the clock stays, and the DIFs beside it stand
pub record IsStep (d : Dif) (below : Seen) (d' : Dif) (below' : Seen) : Type 0 where
  pub goes_on : GoesOn d d'
  pub silent : IsSilent (seen_of d) (seen_of d')
  pub others : OthersStand d below below'

silent_refl : (d : DifSeen) → IsSilent d d
silent_refl d = record {
  later = fac_refl d.clock d.clock (fac_of d);
  fresh = none_fresh d.ends d.ends refl;
  same = λ i e e' h h'. (let is : e' ≡ e = cc in (ap (λ (z : End). z.sent) is, ap (λ (z : End). z.taken) is));
}

-- nothing was done
pub no_step : (d : Dif) (below : Seen) → Stands d below → IsStep d below d below
no_step d below st = record {
  goes_on = record { later = fac_refl d.clock d.clock (fac_of (seen_of d)); facility = facility (seen_of d) st.0 below st.1.standing; clock = refl; enrolled = stay_same d.enrolled d.enrolled refl };
  silent = silent_refl (seen_of d);
  others = λ other lines apart h. h;
}

-- whether an allocation failed is noted
pub step_noted : (d : Dif) (below : Seen) (d' : Dif) (failed : Bool) (below' : Seen) → IsStep d below d' below' → IsStep d below (record d' { failed = failed }) below'
step_noted d below d' failed below' s = record {
  goes_on = record { later = s.goes_on.later; facility = s.goes_on.facility; clock = s.goes_on.clock; enrolled = s.goes_on.enrolled };
  silent = s.silent;
  others = s.others;
}

step_clock : (d : DifSeen) (refuses : Port → ℕ → Option SendError) (below : Seen) (i n : ℕ) (r : Result OutStep StepError) (d' : DifSeen) (below' : Seen) → Outs refuses d below i n r d' below' → d'.clock ≡ d.clock
step_clock d refuses below i n (Ok x) d' below' s = ap (λ (y : DifSeen). y.clock) s.new_is
step_clock d refuses below i n (Err Memory) d' below' s = ap (λ (y : DifSeen). y.clock) s.new_is
step_clock d refuses below i n (Err NoIpc) d' below' s = ap (λ (y : DifSeen). y.clock) s.1
step_clock d refuses below i n (Err NoLink) d' below' s = ap (λ (y : DifSeen). y.clock) s.new_is
step_clock d refuses below i n (Err (CountSpent need left)) d' below' s = ap (λ (y : DifSeen). y.clock) s.new_is

pub out_is_step : (refuses : Port → ℕ → Option SendError) (d : Dif) (below : Seen) (i n : ℕ) (r : Result OutStep StepError) (d' : Dif) (below' : Seen) → d'.enrolled ≡ d.enrolled → AreKept below → AreKept below' → Stands d below → Outs refuses (seen_of d) below i n r (seen_of d') below' → ((lines : List Direction) → Holds d lines below → Holds d' lines below') → IsStep d below d' below'
out_is_step refuses d below i n r d' below' enrolled kept kept' st outs keeps =
    let silent = outs_silent refuses (seen_of d) below i n r (seen_of d') below' outs in
    record {
      goes_on = record { later = silent.later; facility = facility (seen_of d') st.0 below' (keeps st.0 st.1).standing; clock = step_clock (seen_of d) refuses below i n r (seen_of d') below' outs; enrolled = stay_same d.enrolled d'.enrolled enrolled };
      silent = silent;
      others = λ other lines apart h. holds_aside other lines below below' (outs_aside refuses (seen_of other) (seen_of d) st.0 below i n r (seen_of d') below' kept kept' st.1.standing apart outs) h;
    }

pub in_is_step : (d : Dif) (below : Seen) (i n : ℕ) (r : Result InStep StepError) (d' : Dif) (below' : Seen) → StayEnrolled d.enrolled d'.enrolled → AreKept below → AreKept below' → (st : Stands d below) → TakesIn d st.0 below i n r d' below' → IsStep d below d' below'
in_is_step d below i n r d' below' enrolled kept kept' st t =
    let clock = ins_clock (seen_of d) st.0 below i n t.answer (seen_of t.taken) t.between below' t.does in
    let handled = silent_rerouted (seen_of d) (seen_of t.taken) (seen_of t.handled) t.rerouted (ins_silent (seen_of d) st.0 below i n t.answer (seen_of t.taken) t.between below' st.1.standing t.does) in
    let before = t.stood.standing.clock ∙ clock ∙ sym st.1.standing.clock in
    let after = flows_clock t.handled t.between below' i t.told.messages t.told.stopped (record d' { failed = t.handled.failed }) t.lines' t.told.handles in
    let silent = silent_on (seen_of d) (seen_of t.handled) (seen_of d') (clock_kept d.clock t.handled.clock before) (clock_kept t.handled.clock d'.clock after) handled (flows_silent t.handled t.between below' i t.told.messages t.told.stopped (record d' { failed = t.handled.failed }) t.lines' t.told.handles) in
    record {
      goes_on = record { later = silent.later; facility = facility (seen_of d') t.lines' below' t.holds.standing; clock = t.holds.standing.clock ∙ clock ∙ sym st.1.standing.clock; enrolled = enrolled };
      silent = silent;
      others = λ other lines apart h. holds_aside other lines below below' (ins_aside (seen_of other) (seen_of d) st.0 below i n t.answer (seen_of t.taken) t.between below' kept kept' st.1.standing apart t.does) h;
    }

-- what comes with time
flow_silent : (d : Dif) (lines : List Direction) (node : ℕ) (done : ClockStep) (new : DifSeen) (lines' : List Direction) → StepsFlow d lines node done new lines' → IsSilent (seen_of d) new
flow_silent d lines node step.Idle new lines' s = subst (IsSilent (seen_of d)) (sym s.1) (silent_refl (seen_of d))
flow_silent d lines node (step.Gone cep) new lines' s = forgotten_silent (seen_of d) lines s.at new lines' s.forgotten
flow_silent d lines node (step.GaveUp num) new lines' s = ended_silent (seen_of d) lines s.at _ new s.given_up.ended
flow_silent d lines node (step.Ack cep) new lines' s = acknowledged_silent (seen_of d) lines s.at s.cause new lines' s.acknowledged
flow_silent d lines node (step.Again num) new lines' s = resent_silent (seen_of d) lines s.at s.cause new lines' s.resent
flow_silent d lines node (step.LinkLost link) new lines' s = absurd s
flow_silent d lines node (step.LinkNew link) new lines' s = absurd s
flow_silent d lines node (step.Timeout port) new lines' s = absurd s
flow_silent d lines node (step.Message link) new lines' s = absurd s

serves_silent : (d : Dif) (lines : List Direction) (below : Seen) (node : ℕ) (done : ClockStep) (d' : Dif) (lines' : List Direction) (below' : Seen) → Serves d lines below node done d' lines' below' → IsSilent (seen_of d) (seen_of d')
serves_silent d lines below node done d' lines' below' (inl flow) = flow_silent d lines node done (seen_of d') lines' flow.does
serves_silent d lines below node done d' lines' below' (inr (inr ask)) = (let t = ask.0.times_out.turns_down.turned in down_silent (seen_of d) _ _ (seen_of d') t)
serves_silent d lines below node done d' lines' below' (inr (inl link)) = silent_same (seen_of d) (seen_of d') (ap (λ (z : Dif). (seen_of z).ends) link.0.only) (ap (λ (z : Dif). (seen_of z).config) link.0.only) (ap (λ (z : Dif). (seen_of z).clock) link.0.only)

any_silent : (d : Dif) (lines : List Direction) (below : Seen) (node : ℕ) (done : ClockStep) (d' : Dif) (lines' : List Direction) (below' : Seen) → ServesAny d lines below node done d' lines' below' → IsSilent (seen_of d) (seen_of d')
any_silent d lines below node done d' lines' below' (inl served) = serves_silent d lines below node done d' lines' below' served.0
any_silent d lines below node done d' lines' below' (inr message) =
    let only = message.0.sends.only in
    silent_same (seen_of d) (seen_of d') (ap (λ (z : Dif). (seen_of z).ends) only) (ap (λ (z : Dif). (seen_of z).config) only) (ap (λ (z : Dif). (seen_of z).clock) only)

pub steps_silent : (d : Dif) (lines : List Direction) (below : Seen) (node : ℕ) (done : ClockStep) (d' : Dif) (lines' : List Direction) (below' : Seen) → Steps d lines below node done d' lines' below' → IsSilent (seen_of d) (seen_of d')
steps_silent d lines below node step.Idle d' lines' below' s = any_silent d lines s.1.mid node step.Idle d' lines' below' s.1.serves
steps_silent d lines below node (step.Gone cep) d' lines' below' s = any_silent d lines s.1.mid node (step.Gone cep) d' lines' below' s.1.serves
steps_silent d lines below node (step.GaveUp num) d' lines' below' s = any_silent d lines s.1.mid node (step.GaveUp num) d' lines' below' s.1.serves
steps_silent d lines below node (step.Ack cep) d' lines' below' s = any_silent d lines s.1.mid node (step.Ack cep) d' lines' below' s.1.serves
steps_silent d lines below node (step.Again num) d' lines' below' s = any_silent d lines s.1.mid node (step.Again num) d' lines' below' s.1.serves
steps_silent d lines below node (step.LinkLost link) d' lines' below' s = loses_silent d lines below s.0.i node link d' s.0.loses
steps_silent d lines below node (step.LinkNew link) d' lines' below' s = (let only = s.1.takes.only in silent_same (seen_of d) (seen_of d') (ap (λ (z : Dif). (seen_of z).ends) only) (ap (λ (z : Dif). (seen_of z).config) only) (ap (λ (z : Dif). (seen_of z).clock) only))
steps_silent d lines below node (step.Timeout port) d' lines' below' s = any_silent d lines s.1.mid node (step.Timeout port) d' lines' below' s.1.serves
steps_silent d lines below node (step.Message link) d' lines' below' s = any_silent d lines s.1.mid node (step.Message link) d' lines' below' s.1.serves

-- the rank below after a clock step: the clock stands, and each DIF over it stands on
pub record IsOver (below below' : Seen) : Type 0 where
  pub clock : below'.now ≡ below.now
  pub stands : (other : Dif) (lines : List Direction) → Holds other lines below → Holds other lines below'

over_same : (below below' : Seen) → below' ≡ below → IsOver below below'
over_same below below' same = record { clock = ap (λ (z : Seen). z.now) same; stands = λ other lines h. subst (Holds other lines) (sym same) h }

link_over : (d : Dif) (links : List Direction) (below : Seen) (i place : ℕ) (done : ClockStep) (new : DifSeen) (flows' : Flows) (below' : Seen) → AreKept below → AreKept below' → IsLater below below' → DoesLink d links below i place done new flows' below' → IsOver below below'
link_over d links below i place (step.Gone cep) new flows' below' kept kept' later s = over_same below below' s.2
link_over d links below i place (step.GaveUp num) new flows' below' kept kept' later s = record { clock = ap (λ (z : Seen). z.now) s.freed.new_is; stands = λ other lines h. holds_freed other lines s.both below below' s.attached.port kept kept' later s.freed h }
link_over d links below i place (step.Ack cep) new flows' below' kept kept' later s = over_same below below' s.2
link_over d links below i place (step.Again num) new flows' below' kept kept' later s = over_same below below' s.1
link_over d links below i place step.Idle new flows' below' kept kept' later s = absurd s
link_over d links below i place (step.LinkLost link) new flows' below' kept kept' later s = absurd s
link_over d links below i place (step.LinkNew link) new flows' below' kept kept' later s = absurd s
link_over d links below i place (step.Timeout port) new flows' below' kept kept' later s = absurd s
link_over d links below i place (step.Message link) new flows' below' kept kept' later s = absurd s

serves_over : (d : Dif) (lines : List Direction) (below : Seen) (node : ℕ) (done : ClockStep) (d' : Dif) (lines' : List Direction) (below' : Seen) → LinksStand d below → AreKept below → AreKept below' → IsLater below below' → Serves d lines below node done d' lines' below' → IsOver below below'
serves_over d lines below node done d' lines' below' links kept kept' later (inl flow) = over_same below below' flow.same_below
serves_over d lines below node done d' lines' below' links kept kept' later (inr (inr ask)) = over_same below below' ask.2
serves_over d lines below node done d' lines' below' links kept kept' later (inr (inl link)) = (let x = link.0.does links in link_over d links.lines below link.0.i x.place done (seen_of d') d'.connections.flows below' kept kept' later x.does)

any_over : (d : Dif) (lines : List Direction) (below : Seen) (node : ℕ) (done : ClockStep) (d' : Dif) (lines' : List Direction) (below' : Seen) → LinksStand d below → AreKept below → AreKept below' → IsLater below below' → ServesAny d lines below node done d' lines' below' → IsOver below below'
any_over d lines below node done d' lines' below' links kept kept' later (inl served) = serves_over d lines below node done d' lines' below' links kept kept' later served.0
any_over d lines below node done d' lines' below' links kept kept' later (inr message) = over_same below below' message.2

-- a flow that came in is claimed
claimed_over : (below : Seen) (node : ℕ) (app : List ℕ) (port : Port) (below' : Seen) → AreKept below' → ClaimsFirst below node app port below' → IsOver below below'
claimed_over below node app port below' kept' c = record { clock = ap (λ (z : Seen). z.now) c.claimed.new_is; stands = λ other lines h. holds_claimed other lines below below' node app port kept' c h }

no_link_over : (d : Dif) (below : Seen) (node : ℕ) (mid : Seen) → AreKept below → NoLinkComes d below node mid → IsOver below mid
no_link_over d below node mid kept (inl none) = over_same below mid none.1
no_link_over d below node mid kept (inr c) = claimed_over below node c.member.name c.port mid (no_link_kept d below node mid (inr c) kept) c.claims

over_on : (a b c : Seen) → IsOver a b → IsOver b c → IsOver a c
over_on a b c x y = record { clock = y.clock ∙ x.clock; stands = λ other lines h. y.stands other lines (x.stands other lines h) }

then_over : (d : Dif) (lines : List Direction) (below : Seen) (node : ℕ) (done : ClockStep) (d' : Dif) (lines' : List Direction) (below' : Seen) → AreKept below → AreKept below' → IsLater below below' → ServesThen d lines below node done d' lines' below' → IsOver below below'
then_over d lines below node done d' lines' below' kept kept' later s =
    over_on below s.mid below' (no_link_over d below node s.mid kept s.none)
    (any_over d lines s.mid node done d' lines' below' s.holds.connected (no_link_kept d below node s.mid s.none kept) kept' (no_link_later d below node s.mid below' s.none later) s.serves)

-- without memory it may be
may_over : (d : Dif) (below : Seen) (node : ℕ) (below' : Seen) → AreKept below' → MayHaveClaimed d below node below' → IsOver below below'
may_over d below node below' kept' (inl same) = over_same below below' same
may_over d below node below' kept' (inr (i, member, port, may, c)) = claimed_over below node member.name port below' kept' c

pub steps_over : (d : Dif) (lines : List Direction) (below : Seen) (node : ℕ) (done : ClockStep) (d' : Dif) (lines' : List Direction) (below' : Seen) → LinksStand d below → AreKept below → AreKept below' → IsLater below below' → Steps d lines below node done d' lines' below' → IsOver below below'
steps_over d lines below node step.Idle d' lines' below' links kept kept' later s = then_over d lines below node step.Idle d' lines' below' kept kept' later s.1
steps_over d lines below node (step.Gone cep) d' lines' below' links kept kept' later s = then_over d lines below node (step.Gone cep) d' lines' below' kept kept' later s.1
steps_over d lines below node (step.GaveUp num) d' lines' below' links kept kept' later s = then_over d lines below node (step.GaveUp num) d' lines' below' kept kept' later s.1
steps_over d lines below node (step.Ack cep) d' lines' below' links kept kept' later s = then_over d lines below node (step.Ack cep) d' lines' below' kept kept' later s.1
steps_over d lines below node (step.Again num) d' lines' below' links kept kept' later s = then_over d lines below node (step.Again num) d' lines' below' kept kept' later s.1
steps_over d lines below node (step.LinkLost link) d' lines' below' links kept kept' later s = over_same below below' s.2
steps_over d lines below node (step.LinkNew link) d' lines' below' links kept kept' later s = claimed_over below node s.1.member.name s.1.port below' kept' s.1.claims
steps_over d lines below node (step.Timeout port) d' lines' below' links kept kept' later s = then_over d lines below node (step.Timeout port) d' lines' below' kept kept' later s.1
steps_over d lines below node (step.Message link) d' lines' below' links kept kept' later s = then_over d lines below node (step.Message link) d' lines' below' kept kept' later s.1

clock_on : (d : Dif) (below : Seen) (d' : Dif) (lines' : List Direction) (below' : Seen) → d'.enrolled ≡ d.enrolled → Stands d below → IsSilent (seen_of d) (seen_of d') → Holds d' lines' below' → IsOver below below' → IsStep d below d' below'
clock_on d below d' lines' below' enrolled st silent h over = record {
  goes_on = record { later = silent.later; facility = facility (seen_of d') lines' below' h.standing; clock = h.standing.clock ∙ over.clock ∙ sym st.1.standing.clock; enrolled = stay_same d.enrolled d'.enrolled enrolled };
  silent = silent;
  others = λ other lines apart x. over.stands other lines x;
}

pub clock_is_step : (d : Dif) (below : Seen) (node : ℕ) (r : Result ClockStep StepError) (d' : Dif) (below' : Seen) → d'.enrolled ≡ d.enrolled → AreKept below → AreKept below' → IsLater below below' → (st : Stands d below) → StepsHere d st.0 below node r d' below' → IsStep d below d' below'
clock_is_step d below node (Ok done) d' below' enrolled kept kept' later st s = clock_on d below d' s.lines' below' enrolled st (steps_silent d st.0 below node done d' s.lines' below' s.does) s.holds (steps_over d st.0 below node done d' s.lines' below' st.1.connected kept kept' later s.does)
clock_is_step d below node (Err Memory) d' below' enrolled kept kept' later st s = clock_on d below d' st.0 below' enrolled st (subst (IsSilent (seen_of d)) (sym s.0) (silent_refl (seen_of d))) s.1 (may_over d below node below' kept' s.2)
clock_is_step d below node (Err NoIpc) d' below' enrolled kept kept' later st s = absurd s
clock_is_step d below node (Err NoLink) d' below' enrolled kept kept' later st s = absurd s
clock_is_step d below node (Err (CountSpent need left)) d' below' enrolled kept kept' later st s = clock_on d below d' st.0 below' enrolled st (subst (IsSilent (seen_of d)) (sym s.1) (silent_refl (seen_of d))) s.2 (over_same below below' s.3)

-- a DIF that stands is one at every moment
pub stands_whole : (d : Dif) (below : Seen) → below.now ≤ 10000000 → Stands d below → IsDif d
stands_whole d below ends st = record { below = below; stands = st; clock = (let c = st.1.standing.clock in omega (arith, c, ends)) }
