-- After a step of a DIF the far ends that waited to be claimed wait still, and behind them those that begin to.
use Rattle.std.proofs.Common.{◌≡◌, ◌∙◌, ℕ, List, Option, Some, None, Result, Ok, Err, ap, inl, inr, ◌⊎◌}
use Rattle.rina_base.specs.declared.cause.Cause.{Cause}
use Rattle.rina_base.specs.declared.cause.Cause.TheVariants as causes
use Rattle.rina_base.specs.declared.number.Port.{Port}
use Rattle.rina_iface.specs.declared.error.SendError.{SendError}
use Rattle.rina_iface.specs.Seen.{Seen}
use Rattle.rina_law.specs.Direction.{Direction}
use Rattle.rina_data.specs.declared.step.ClockStep.{ClockStep}
use Rattle.rina_data.specs.declared.step.ClockStep.TheVariants as clocks
use Rattle.rina_data.specs.declared.step.InStep.{InStep}
use Rattle.rina_data.specs.declared.step.InStep.TheVariants as ins
use Rattle.rina_data.specs.declared.step.OutStep.{OutStep}
use Rattle.rina_data.specs.declared.step.StepError.{StepError}
use Rattle.rina_data.specs.declared.step.StepError.TheVariants as errors
use Rattle.rina_data.specs.declared.step.Took.{Took}
use Rattle.rina_data.specs.declared.step.Took.TheVariants as took
use Rattle.rina_data.specs.Hops.{Hop}
use Rattle.rina_data.specs.Configs.{Member, config_of}
use Rattle.rina_dif_law.specs.Dif.{DifSeen}
use Rattle.rina_data.specs.Process.{Process}
use Rattle.rina_dif_law.specs.Incoming.{Ins, IsArrived, IsTold, Settles, SettlesFlow, SettlesOff}
use Rattle.rina_dif_law.specs.Outgoing.{Outs}
use Rattle.rina_dif_law.specs.Sending.{home}
use Rattle.rina_dif_law.specs.Standing.{IsStanding}
use Rattle.rina_dif_law.specs.Upward.{IsSilent}
use Rattle.rina_dif_law.proofs.Upper.{ins_silent, silent_same}
use Rattle.rina_dif.specs.declared.dif.Dif.{Dif}
use Rattle.rina_dif.specs.Clocking.{ClockStepsAt, Serves, ServesAny, Steps, StepsFlow, StepsOk}
use Rattle.rina_dif.specs.Holding.{Holds, Stands}
use Rattle.rina_dif.specs.Routing.{MayReroute}
use Rattle.rina_dif.specs.Shown.{seen_of}
use Rattle.rina_dif.specs.Steps.{AtHome, OutsAt}
use Rattle.rina_dif.specs.Taking.{InsAt, TakesHome, TellsFlows, TellsNothing}
use Rattle.rina_dif.specs.Waiting.{BeginToWait}
use Rattle.rina_dif.proofs.Cutting.{loses_waits}
use Rattle.rina_dif.proofs.FlowWalk.{flows_silent, flows_wait, silent_rerouted}
use Rattle.rina_dif.proofs.Waiting.{none_begin, waits_on}

-- the same far ends wait
abbrev SameWait : DifSeen → DifSeen → Type 0
SameWait d d' = d'.waiting ≡ d.waiting

-- What comes

off_waits : (d : DifSeen) (lines : List Direction) (i : ℕ) (member : Member) (process : Process) (at : ℕ) (hop : Hop) (cause : Cause) (d' : DifSeen) (lines' : List Direction) → SettlesOff d lines i member process at hop cause d' lines' → SameWait d d'
off_waits d lines i member process at hop (causes.Expired left charge) d' lines' s = ap (λ (x : DifSeen). x.waiting) s.3
off_waits d lines i member process at hop (causes.NoRoute dst) d' lines' s = ap (λ (x : DifSeen). x.waiting) s.4
off_waits d lines i member process at hop (causes.QueueFull cap) d' lines' s = ap (λ (x : DifSeen). x.waiting) s.4
off_waits d lines i member process at hop (causes.NoConnection cep) d' lines' s = ap (λ (x : DifSeen). x.waiting) s.4
off_waits d lines i member process at hop (causes.LinkDown port) d' lines' s = absurd s
off_waits d lines i member process at hop cause d' lines' s = ap (λ (x : DifSeen). x.waiting) s.2.new_is

own_waits : (d : DifSeen) (lines : List Direction) (i : ℕ) (process : Process) (hop : Hop) (d' : DifSeen) (lines' : List Direction) → IsArrived d lines i process hop.pdu None d' lines' ⊎ IsTold d lines hop.pdu d' lines' → SameWait d d'
own_waits d lines i process hop d' lines' (inl a) = ap (λ (x : DifSeen). x.waiting) a.new_is
own_waits d lines i process hop d' lines' (inr t) = ap (λ (x : DifSeen). x.waiting) t.new_is

flow_waits : (d : DifSeen) (lines : List Direction) (i : ℕ) (member : Member) (process : Process) (at : ℕ) (hop : Hop) (end : Took) (d' : DifSeen) (lines' : List Direction) → SettlesFlow d lines i member process at hop end d' lines' → SameWait d d'
flow_waits d lines i member process at hop took.Accepted d' lines' s = own_waits d lines i process hop d' lines' s.2
flow_waits d lines i member process at hop took.Relayed d' lines' s = ap (λ (x : DifSeen). x.waiting) s.2.new_is
flow_waits d lines i member process at hop (took.Off cause) d' lines' s = off_waits d lines i member process at hop cause d' lines' s

settles_waits : (d : DifSeen) (lines : List Direction) (i : ℕ) (member : Member) (process : Process) (at : ℕ) (hop : Hop) (end : Took) (d' : DifSeen) (lines' : List Direction) → Settles d lines i member process at hop end d' lines' → SameWait d d'
settles_waits d lines i member process at hop end d' lines' s = elim s [
  | inl flow ↦ flow_waits d lines i member process at hop end d' lines' flow.1
  | inr link ↦ ap (λ (x : DifSeen). x.waiting) link.new_is
]

ins_wait : (d : DifSeen) (lines : List Direction) (below : Seen) (i n : ℕ) (r : Result InStep StepError) (d' : DifSeen) (lines' : List Direction) (below' : Seen) → Ins d lines below i n r d' lines' below' → SameWait d d'
ins_wait d lines below i n (Ok ins.Idle) d' lines' below' h = ap (λ (x : DifSeen). x.waiting) h.1
ins_wait d lines below i n (Ok (ins.Took key end)) d' lines' below' h = settles_waits d lines i h.member h.process h.entry.tick h.hop end d' lines' h.settled
ins_wait d lines below i n (Err errors.Memory) d' lines' below' h = ap (λ (x : DifSeen). x.waiting) h.0
ins_wait d lines below i n (Err errors.NoIpc) d' lines' below' h = ap (λ (x : DifSeen). x.waiting) h.1
ins_wait d lines below i n (Err errors.NoLink) d' lines' below' h = ap (λ (x : DifSeen). x.waiting) h.1
ins_wait d lines below i n (Err (errors.CountSpent need left)) d' lines' below' h = ap (λ (x : DifSeen). x.waiting) h.0

ins_home : (d : DifSeen) (lines : List Direction) (below : Seen) (n : ℕ) (r : Result InStep StepError) (d' : DifSeen) (lines' : List Direction) (below' : Seen) (o : Option ℕ)
    → AtHome o (λ i. Ins d lines below i n r d' lines' below') ((r ≡ Err errors.NoIpc) × (d' ≡ d) × (lines' ≡ lines) × (below' ≡ below)) → SameWait d d'
ins_home d lines below n r d' lines' below' (Some i) h = ins_wait d lines below i n r d' lines' below' h
ins_home d lines below n r d' lines' below' None h = ap (λ (x : DifSeen). x.waiting) h.1

ins_at : (d : DifSeen) (lines : List Direction) (below : Seen) (node n : ℕ) (r : Result InStep StepError) (d' : DifSeen) (lines' : List Direction) (below' : Seen) → InsAt d lines below node n r d' lines' below' → SameWait d d'
ins_at d lines below node n (Ok done) d' lines' below' h = ins_home d lines below n (Ok done) d' lines' below' (home node d.config.members) h
ins_at d lines below node n (Err errors.Memory) d' lines' below' h = ap (λ (x : DifSeen). x.waiting) h.0
ins_at d lines below node n (Err errors.NoIpc) d' lines' below' h = ins_home d lines below n (Err errors.NoIpc) d' lines' below' (home node d.config.members) h
ins_at d lines below node n (Err errors.NoLink) d' lines' below' h = ins_home d lines below n (Err errors.NoLink) d' lines' below' (home node d.config.members) h
ins_at d lines below node n (Err (errors.CountSpent need left)) d' lines' below' h = ins_home d lines below n (Err (errors.CountSpent need left)) d' lines' below' (home node d.config.members) h

-- other next hops are nothing to them
rerouted_waits : (d d' : DifSeen) → MayReroute d d' → SameWait d d'
rerouted_waits d d' (inl same) = ap (λ (x : DifSeen). x.waiting) same
rerouted_waits d d' (inr r) = ap (λ (x : DifSeen). x.waiting) r.is

-- nothing is sent or passed
same_silent : (d d' : DifSeen) → d' ≡ d → IsSilent d d'
same_silent d d' same = silent_same d d' (ap (λ (x : DifSeen). x.ends) same) (ap (λ (x : DifSeen). x.config) same) (ap (λ (x : DifSeen). x.clock) same)

ins_home_silent : (d : DifSeen) (lines : List Direction) (below : Seen) (n : ℕ) (r : Result InStep StepError) (d' : DifSeen) (lines' : List Direction) (below' : Seen) (o : Option ℕ) → IsStanding d lines below
    → AtHome o (λ i. Ins d lines below i n r d' lines' below') ((r ≡ Err errors.NoIpc) × (d' ≡ d) × (lines' ≡ lines) × (below' ≡ below)) → IsSilent d d'
ins_home_silent d lines below n r d' lines' below' (Some i) st h = ins_silent d lines below i n r d' lines' below' st h
ins_home_silent d lines below n r d' lines' below' None st h = same_silent d d' h.1

ins_at_silent : (d : DifSeen) (lines : List Direction) (below : Seen) (node n : ℕ) (r : Result InStep StepError) (d' : DifSeen) (lines' : List Direction) (below' : Seen) → IsStanding d lines below → InsAt d lines below node n r d' lines' below' → IsSilent d d'
ins_at_silent d lines below node n (Ok done) d' lines' below' st h = ins_home_silent d lines below n (Ok done) d' lines' below' (home node d.config.members) st h
ins_at_silent d lines below node n (Err errors.Memory) d' lines' below' st h = same_silent d d' h.0
ins_at_silent d lines below node n (Err errors.NoIpc) d' lines' below' st h = ins_home_silent d lines below n (Err errors.NoIpc) d' lines' below' (home node d.config.members) st h
ins_at_silent d lines below node n (Err errors.NoLink) d' lines' below' st h = ins_home_silent d lines below n (Err errors.NoLink) d' lines' below' (home node d.config.members) st h
ins_at_silent d lines below node n (Err (errors.CountSpent need left)) d' lines' below' st h = ins_home_silent d lines below n (Err (errors.CountSpent need left)) d' lines' below' (home node d.config.members) st h

-- new far ends begin to wait as the messages about flows are handled, and no others
told_wait : (d : Dif) (below : Seen) (n : ℕ) (answer : Result InStep StepError) (handled : Dif) (between : List Direction) (below' : Seen) (r : Result InStep StepError) (d' : Dif) (lines' : List Direction) (home_is : Option ℕ)
    → AtHome home_is (λ i. TellsFlows d below i n answer handled between below' r d' lines') (TellsNothing answer handled between r d' lines') → IsSilent (seen_of handled) (seen_of d') × BeginToWait (seen_of handled) (seen_of d')
told_wait d below n answer handled between below' r d' lines' (Some i) t =
    let after : Dif = record d' { failed = handled.failed } in
    (flows_silent handled between below' i t.messages t.stopped after lines' t.handles, flows_wait handled between below' i t.messages t.stopped after lines' t.handles)
told_wait d below n answer handled between below' r d' lines' None t =
    let same : seen_of d' ≡ seen_of handled = ap seen_of t.1 in
    (same_silent (seen_of handled) (seen_of d') same, none_begin (seen_of handled) (seen_of d') (ap (λ (z : DifSeen). z.waiting) same))

pub takes_wait : (d d' : Dif) (below : Seen) (node n : ℕ) (r : Result InStep StepError) (below' : Seen) → Stands d below → ((lines : List Direction) → Holds d lines below → TakesHome d lines below node n r d' below') → BeginToWait (seen_of d) (seen_of d')
takes_wait d d' below node n r below' st does =
    let t = does st.0 st.1 in
    let told = told_wait d below n t.answer t.handled t.between below' r d' t.lines' (home node (config_of d.settings).members) t.told in
    let same = rerouted_waits (seen_of t.taken) (seen_of t.handled) t.rerouted ∙ ins_at (seen_of d) st.0 below node n t.answer (seen_of t.taken) t.between below' t.does in
    let silent = silent_rerouted (seen_of d) (seen_of t.taken) (seen_of t.handled) t.rerouted (ins_at_silent (seen_of d) st.0 below node n t.answer (seen_of t.taken) t.between below' st.1.standing t.does) in
    waits_on (seen_of d) (seen_of t.handled) (seen_of d') silent told.0 (none_begin (seen_of d) (seen_of t.handled) same) told.1

-- What leaves

outs_wait : (refuses : Port → ℕ → Option SendError) (d : DifSeen) (below : Seen) (i n : ℕ) (r : Result OutStep StepError) (d' : DifSeen) (below' : Seen) → Outs refuses d below i n r d' below' → SameWait d d'
outs_wait refuses d below i n (Ok done) d' below' h = ap (λ (x : DifSeen). x.waiting) h.new_is
outs_wait refuses d below i n (Err errors.Memory) d' below' h = ap (λ (x : DifSeen). x.waiting) h.new_is
outs_wait refuses d below i n (Err errors.NoIpc) d' below' h = ap (λ (x : DifSeen). x.waiting) h.1
outs_wait refuses d below i n (Err errors.NoLink) d' below' h = ap (λ (x : DifSeen). x.waiting) h.new_is
outs_wait refuses d below i n (Err (errors.CountSpent need left)) d' below' h = ap (λ (x : DifSeen). x.waiting) h.new_is

outs_home : (refuses : Port → ℕ → Option SendError) (d : DifSeen) (below : Seen) (n : ℕ) (r : Result OutStep StepError) (d' : DifSeen) (below' : Seen) (o : Option ℕ)
    → AtHome o (λ at. Outs refuses d below at n r d' below') ((r ≡ Err errors.NoIpc) × (d' ≡ d) × (below' ≡ below)) → SameWait d d'
outs_home refuses d below n r d' below' (Some i) h = outs_wait refuses d below i n r d' below' h
outs_home refuses d below n r d' below' None h = ap (λ (x : DifSeen). x.waiting) h.1

same_left : (refuses : Port → ℕ → Option SendError) (d d' : Dif) (below : Seen) (node n : ℕ) (r : Result OutStep StepError) (below' : Seen) → OutsAt refuses (seen_of d) below node n r (seen_of d') below' → SameWait (seen_of d) (seen_of d')
same_left refuses d d' below node n (Ok done) below' h = outs_home refuses (seen_of d) below n (Ok done) (seen_of d') below' (home node (seen_of d).config.members) h
same_left refuses d d' below node n (Err errors.Memory) below' h = ap (λ (x : DifSeen). x.waiting) h.0
same_left refuses d d' below node n (Err errors.NoIpc) below' h = outs_home refuses (seen_of d) below n (Err errors.NoIpc) (seen_of d') below' (home node (seen_of d).config.members) h
same_left refuses d d' below node n (Err errors.NoLink) below' h = outs_home refuses (seen_of d) below n (Err errors.NoLink) (seen_of d') below' (home node (seen_of d).config.members) h
same_left refuses d d' below node n (Err (errors.CountSpent need left)) below' h = outs_home refuses (seen_of d) below n (Err (errors.CountSpent need left)) (seen_of d') below' (home node (seen_of d).config.members) h

pub leaves_wait : (refuses : Port → ℕ → Option SendError) (d d' : Dif) (below : Seen) (node n : ℕ) (r : Result OutStep StepError) (below' : Seen) → OutsAt refuses (seen_of d) below node n r (seen_of d') below' → BeginToWait (seen_of d) (seen_of d')
leaves_wait refuses d d' below node n r below' h = none_begin (seen_of d) (seen_of d') (same_left refuses d d' below node n r below' h)

-- What comes with time

clock_flow : (d : Dif) (lines : List Direction) (node : ℕ) (done : ClockStep) (new : DifSeen) (lines' : List Direction) → StepsFlow d lines node done new lines' → SameWait (seen_of d) new
clock_flow d lines node clocks.Idle new lines' s = ap (λ (x : DifSeen). x.waiting) s.1
clock_flow d lines node (clocks.Gone cep) new lines' s = ap (λ (x : DifSeen). x.waiting) s.forgotten.new_is
clock_flow d lines node (clocks.GaveUp num) new lines' s = ap (λ (x : DifSeen). x.waiting) s.given_up.ended.new_is
clock_flow d lines node (clocks.Ack cep) new lines' s = ap (λ (x : DifSeen). x.waiting) s.acknowledged.new_is
clock_flow d lines node (clocks.Again num) new lines' s = ap (λ (x : DifSeen). x.waiting) s.resent.new_is
clock_flow d lines node (clocks.LinkLost link) new lines' s = absurd s
clock_flow d lines node (clocks.LinkNew link) new lines' s = absurd s
clock_flow d lines node (clocks.Timeout port) new lines' s = absurd s
clock_flow d lines node (clocks.Message link) new lines' s = absurd s

clock_served : (d : Dif) (lines : List Direction) (below : Seen) (node : ℕ) (done : ClockStep) (d' : Dif) (lines' : List Direction) (below' : Seen) → Serves d lines below node done d' lines' below' → SameWait (seen_of d) (seen_of d')
clock_served d lines below node done d' lines' below' (inl flow) = clock_flow d lines node done (seen_of d') lines' flow.does
clock_served d lines below node done d' lines' below' (inr (inr ask)) = ap (λ (z : Dif). (seen_of z).waiting) ask.0.only
clock_served d lines below node done d' lines' below' (inr (inl link)) = ap (λ (z : Dif). (seen_of z).waiting) link.0.only

clock_any : (d : Dif) (lines : List Direction) (below : Seen) (node : ℕ) (done : ClockStep) (d' : Dif) (lines' : List Direction) (below' : Seen) → ServesAny d lines below node done d' lines' below' → SameWait (seen_of d) (seen_of d')
clock_any d lines below node done d' lines' below' (inl served) = clock_served d lines below node done d' lines' below' served.0
clock_any d lines below node done d' lines' below' (inr message) = ap (λ (z : Dif). (seen_of z).waiting) message.0.sends.only

clock_done : (d : Dif) (lines : List Direction) (below : Seen) (node : ℕ) (done : ClockStep) (d' : Dif) (lines' : List Direction) (below' : Seen) → Steps d lines below node done d' lines' below' → SameWait (seen_of d) (seen_of d')
clock_done d lines below node (clocks.LinkLost link) d' lines' below' s = loses_waits d lines below s.0.i node link d' s.0.loses
clock_done d lines below node clocks.Idle d' lines' below' s = clock_any d lines s.1.mid node clocks.Idle d' lines' below' s.1.serves
clock_done d lines below node (clocks.Gone cep) d' lines' below' s = clock_any d lines s.1.mid node (clocks.Gone cep) d' lines' below' s.1.serves
clock_done d lines below node (clocks.GaveUp num) d' lines' below' s = clock_any d lines s.1.mid node (clocks.GaveUp num) d' lines' below' s.1.serves
clock_done d lines below node (clocks.Ack cep) d' lines' below' s = clock_any d lines s.1.mid node (clocks.Ack cep) d' lines' below' s.1.serves
clock_done d lines below node (clocks.Again num) d' lines' below' s = clock_any d lines s.1.mid node (clocks.Again num) d' lines' below' s.1.serves
clock_done d lines below node (clocks.LinkNew link) d' lines' below' s = ap (λ (z : Dif). (seen_of z).waiting) s.1.takes.only
clock_done d lines below node (clocks.Timeout port) d' lines' below' s = clock_any d lines s.1.mid node (clocks.Timeout port) d' lines' below' s.1.serves
clock_done d lines below node (clocks.Message link) d' lines' below' s = clock_any d lines s.1.mid node (clocks.Message link) d' lines' below' s.1.serves

clock_ok : (d : Dif) (lines : List Direction) (below : Seen) (node : ℕ) (r : Result ClockStep StepError) (d' : Dif) (lines' : List Direction) (below' : Seen) → StepsOk d lines below node r d' lines' below' → SameWait (seen_of d) (seen_of d')
clock_ok d lines below node (Ok done) d' lines' below' s = clock_done d lines below node done d' lines' below' s
clock_ok d lines below node (Err e) d' lines' below' s = absurd s

clock_at : (d : Dif) (lines : List Direction) (below : Seen) (node : ℕ) (r : Result ClockStep StepError) (d' : Dif) (lines' : List Direction) (below' : Seen) (o : Option ℕ) → AtHome o (λ i. StepsOk d lines below node r d' lines' below') ((r ≡ Err errors.NoIpc) × (seen_of d' ≡ seen_of d) × (lines' ≡ lines) × (below' ≡ below)) → SameWait (seen_of d) (seen_of d')
clock_at d lines below node r d' lines' below' (Some i) s = clock_ok d lines below node r d' lines' below' s
clock_at d lines below node r d' lines' below' None s = ap (λ (x : DifSeen). x.waiting) s.1

same_clocked : (d : Dif) (lines : List Direction) (below : Seen) (node : ℕ) (r : Result ClockStep StepError) (d' : Dif) (lines' : List Direction) (below' : Seen) → ClockStepsAt d lines below node r d' lines' below' → SameWait (seen_of d) (seen_of d')
same_clocked d lines below node (Ok done) d' lines' below' s = clock_at d lines below node (Ok done) d' lines' below' (home node (config_of d.settings).members) s
same_clocked d lines below node (Err errors.Memory) d' lines' below' s = ap (λ (x : DifSeen). x.waiting) s.0
same_clocked d lines below node (Err errors.NoIpc) d' lines' below' s = clock_at d lines below node (Err errors.NoIpc) d' lines' below' (home node (config_of d.settings).members) s
same_clocked d lines below node (Err errors.NoLink) d' lines' below' s = clock_at d lines below node (Err errors.NoLink) d' lines' below' (home node (config_of d.settings).members) s
same_clocked d lines below node (Err (errors.CountSpent need left)) d' lines' below' s = ap (λ (x : DifSeen). x.waiting) s.1

pub clock_waits : (d : Dif) (lines : List Direction) (below : Seen) (node : ℕ) (r : Result ClockStep StepError) (d' : Dif) (lines' : List Direction) (below' : Seen) → ClockStepsAt d lines below node r d' lines' below' → BeginToWait (seen_of d) (seen_of d')
clock_waits d lines below node r d' lines' below' s = none_begin (seen_of d) (seen_of d') (same_clocked d lines below node r d' lines' below' s)
