-- A step of a DIF uses the rank below only at a link of its own.
use Rattle.std.proofs.Common.{◌≡◌, ◌∙◌, ℕ, List, slice_get, Option, Some, None, option_map, Result, Ok, Err, refl, sym, ap, subst, inl, inr}
use Rattle.std.proofs.lemmas.Option.{same_Some, slice_get-map}
use Rattle.rina_base.specs.declared.cause.Cause.{Cause}
use Rattle.rina_base.specs.declared.cause.Cause.TheVariants as causes
use Rattle.rina_base.specs.declared.number.Key.{Key}
use Rattle.rina_base.specs.declared.number.Port.{Port}
use Rattle.rina_iface.specs.declared.ends.End.{End}
use Rattle.rina_iface.specs.declared.error.SendError.{SendError}
use Rattle.rina_iface.specs.Ends.{with_passed, with_sent}
use Rattle.rina_iface.specs.Pass.{IsPassed}
use Rattle.rina_iface.specs.Seen.{Fac, Seen, Stands as StandsThere, end_of}
use Rattle.rina_iface.specs.Send.{IsSent}
use Rattle.rina_iface.proofs.Found.{end_of_stands}
use Rattle.rina_law.specs.Direction.{Direction}
use Rattle.rina_data.specs.declared.link.Link.{Link}
use Rattle.rina_data.specs.declared.step.ClockStep.{ClockStep}
use Rattle.rina_data.specs.declared.step.ClockStep.TheVariants as clocks
use Rattle.rina_data.specs.declared.step.InStep.{InStep}
use Rattle.rina_data.specs.declared.step.InStep.TheVariants as ins
use Rattle.rina_data.specs.declared.step.OutStep.{OutStep}
use Rattle.rina_data.specs.declared.step.OutStep.TheVariants as outs
use Rattle.rina_data.specs.declared.step.StepError.{StepError}
use Rattle.rina_data.specs.declared.step.StepError.TheVariants as errors
use Rattle.rina_dif_law.specs.Cloud.{IsMine}
use Rattle.rina_data.specs.declared.settings.Member.{Member as Settled}
use Rattle.rina_data.specs.Configs.{Config, Member, config_of, member_of}
use Rattle.rina_dif_law.specs.Dif.{DifSeen}
use Rattle.rina_data.specs.Process.{Process, link_by}
use Rattle.rina_dif_law.specs.Incoming.{Ins}
use Rattle.rina_data.specs.Outgoing.{Goes, Offs}
use Rattle.rina_dif_law.specs.Outgoing.{Outs}
use Rattle.rina_dif_law.specs.Sending.{home}
use Rattle.rina_dif_law.specs.Standing.{IsStanding}
use Rattle.rina_dif_law.proofs.Finding.{beside, live_link}
use Rattle.rina_flows.specs.declared.flows.Flows.{Flows}
use Rattle.rina_channel.specs.declared.channel.Channel.{Channel}
use Rattle.rina_channel.specs.Channels.{IsOnPort}
use Rattle.rina_channel.proofs.Below.{on_link}
use Rattle.rina_dif.specs.declared.dif.Dif.{Dif}
use Rattle.rina_dif.specs.Claiming.{ClaimsFirst, MayHaveClaimed, MayLink, NoLinkComes}
use Rattle.rina_dif.specs.Clocking.{ClockStepsAt, Serves, ServesAny, ServesThen, Steps, StepsOk}
use Rattle.rina_dif.specs.Holding.{Holds, LinksStand, Stands}
use Rattle.rina_dif.specs.LinkSteps.{DoesLink}
use Rattle.rina_dif.specs.Shown.{seen_of}
use Rattle.rina_dif.specs.Steps.{AtHome, OutsAt}
use Rattle.rina_dif.specs.Taking.{InsAt, TakesHome}
use Rattle.rina_tower.specs.Bystanders.{IsIpc}
use Rattle.rina_tower.specs.LowerUse.{ClaimsEnd, MayClaim, MayUse, UsesOne}

-- all members are IPC processes by their names
abbrev AreIpc : List Member → Type 0
AreIpc members = (name : List ℕ) → IsMine members name → IsIpc name

-- the end that stands at a link is that of its IPC process
link_ipc : (d : DifSeen) (lines : List Direction) (below : Seen) (i n : ℕ) (process : Process) (link : Link) (f : Fac) (place : ℕ) (e : End) → AreIpc d.config.members → IsStanding d lines below
    → slice_get d.processes i ≡ Some process → link_by n process.links ≡ Some link → StandsThere below link.port f place e → IsIpc e.app
link_ipc d lines below i n process link f place e ipc st is is_link there =
    let member = beside d.processes d.config.members i process (sym st.aligned) is in
    let linked = st.linked i member.0 link member.1 (live_link d.processes i n process link is is_link) in
    let mine : IsMine d.config.members linked.end.app = record { addr = member.0.addr; member = record { place = i; member = member.0; stands = member.1; addr_is = refl; name_is = sym linked.app } } in
    let same : linked.end ≡ e = same_Some linked.end e (sym linked.here ∙ end_of_stands below link.port f place e there) in
    subst (λ (z : End). IsIpc z.app) same (ipc linked.end.app mine)

-- nothing was claimed
uses_one : (s s' : Seen) → UsesOne s s' → MayUse s s'
uses_one s s' u = record { mid = s; claims = inl refl; uses = u }

-- What comes

passes_use : (s : Seen) (port : Port) (s' : Seen) → (h : IsPassed s port s') → IsIpc h.end.app → UsesOne s s'
passes_use s port s' h ipc = inr (inl (record {
  port = port;
  facility = h.facility;
  place = h.place;
  end = h.end;
  end' = with_passed h.end;
  stands = h.stands;
  ipc = ipc;
  its_port = refl;
  its_app = refl;
  new_is = h.new_is;
}))

ins_use : (d : DifSeen) (lines : List Direction) (below : Seen) (i n : ℕ) (r : Result InStep StepError) (d' : DifSeen) (lines' : List Direction) (below' : Seen) → AreIpc d.config.members → IsStanding d lines below → Ins d lines below i n r d' lines' below' → UsesOne below below'
ins_use d lines below i n (Ok ins.Idle) d' lines' below' ipc st h = inl h.3
ins_use d lines below i n (Ok (ins.Took key end)) d' lines' below' ipc st h =
    passes_use below h.link.port below' h.passed (link_ipc d lines below i n h.process h.link h.passed.facility h.passed.place h.passed.end ipc st h.is_process.is_process h.is_link h.passed.stands)
ins_use d lines below i n (Err errors.Memory) d' lines' below' ipc st h = inl h.2
ins_use d lines below i n (Err errors.NoIpc) d' lines' below' ipc st h = inl h.3
ins_use d lines below i n (Err errors.NoLink) d' lines' below' ipc st h = inl h.3
ins_use d lines below i n (Err (errors.CountSpent need left)) d' lines' below' ipc st h = inl h.2

ins_home : (d : DifSeen) (lines : List Direction) (below : Seen) (n : ℕ) (r : Result InStep StepError) (d' : DifSeen) (lines' : List Direction) (below' : Seen) (o : Option ℕ) → AreIpc d.config.members → IsStanding d lines below
    → AtHome o (λ i. Ins d lines below i n r d' lines' below') ((r ≡ Err errors.NoIpc) × (d' ≡ d) × (lines' ≡ lines) × (below' ≡ below)) → UsesOne below below'
ins_home d lines below n r d' lines' below' (Some i) ipc st h = ins_use d lines below i n r d' lines' below' ipc st h
ins_home d lines below n r d' lines' below' None ipc st h = inl h.3

ins_at : (d : DifSeen) (lines : List Direction) (below : Seen) (node n : ℕ) (r : Result InStep StepError) (d' : DifSeen) (lines' : List Direction) (below' : Seen) → AreIpc d.config.members → IsStanding d lines below → InsAt d lines below node n r d' lines' below' → UsesOne below below'
ins_at d lines below node n (Ok done) d' lines' below' ipc st h = ins_home d lines below n (Ok done) d' lines' below' (home node d.config.members) ipc st h
ins_at d lines below node n (Err errors.Memory) d' lines' below' ipc st h = inl h.2
ins_at d lines below node n (Err errors.NoIpc) d' lines' below' ipc st h = ins_home d lines below n (Err errors.NoIpc) d' lines' below' (home node d.config.members) ipc st h
ins_at d lines below node n (Err errors.NoLink) d' lines' below' ipc st h = ins_home d lines below n (Err errors.NoLink) d' lines' below' (home node d.config.members) ipc st h
ins_at d lines below node n (Err (errors.CountSpent need left)) d' lines' below' ipc st h = ins_home d lines below n (Err (errors.CountSpent need left)) d' lines' below' (home node d.config.members) ipc st h

pub takes_use : (d d' : Dif) (below : Seen) (node n : ℕ) (r : Result InStep StepError) (below' : Seen) → AreIpc (config_of d.settings).members → Stands d below → ((lines : List Direction) → Holds d lines below → TakesHome d lines below node n r d' below') → MayUse below below'
takes_use d d' below node n r below' ipc st does =
    let t = does st.0 st.1 in
    uses_one below below' (ins_at (seen_of d) st.0 below node n t.answer (seen_of t.taken) t.between below' ipc st.1.standing t.does)

-- What leaves

sends_use : (s : Seen) (port : Port) (bytes : List ℕ) (num : _) (s' : Seen) → (h : IsSent s port bytes num s') → IsIpc h.end.app → UsesOne s s'
sends_use s port bytes num s' h ipc = inr (inl (record {
  port = port;
  facility = h.facility;
  place = h.place;
  end = h.end;
  end' = with_sent h.end (record { tick = s.now; num = num; bytes = bytes });
  stands = h.stands;
  ipc = ipc;
  its_port = refl;
  its_app = refl;
  new_is = h.new_is;
}))

offs_use : (refuses : Port → ℕ → Option SendError) (g : Config) (now : ℕ) (process : Process) (below : Seen) (n : ℕ) (key : Key) (cause : Cause) (process' : Process) (below' : Seen) → Offs refuses g now process below n key cause process' below' → UsesOne below below'
offs_use refuses g now process below n key (causes.Expired left charge) process' below' h = inl h.below_is
offs_use refuses g now process below n key (causes.LinkDown port) process' below' h = inl h.below_is
offs_use refuses g now process below n key cause process' below' h = absurd h

goes_use : (refuses : Port → ℕ → Option SendError) (d : DifSeen) (lines : List Direction) (below : Seen) (i n : ℕ) (process : Process) (r : Result OutStep StepError) (process' : Process) (below' : Seen) → AreIpc d.config.members → IsStanding d lines below
    → slice_get d.processes i ≡ Some process → Goes refuses d.config d.clock process below n r process' below' → UsesOne below below'
goes_use refuses d lines below i n process (Ok outs.Idle) process' below' ipc st is h = inl h.3
goes_use refuses d lines below i n process (Ok (outs.Sent key)) process' below' ipc st is h =
    let sent = h.sent.1 in
    sends_use below h.link.port _ h.num below' sent (link_ipc d lines below i n process h.link sent.facility sent.place sent.end ipc st is h.head.is_link sent.stands)
goes_use refuses d lines below i n process (Ok (outs.Off key cause)) process' below' ipc st is h = offs_use refuses d.config d.clock process below n key cause process' below' h
goes_use refuses d lines below i n process (Ok (outs.Held why)) process' below' ipc st is h = inl h.2
goes_use refuses d lines below i n process (Err errors.Memory) process' below' ipc st is h = inl h.1
goes_use refuses d lines below i n process (Err errors.NoIpc) process' below' ipc st is h = absurd h
goes_use refuses d lines below i n process (Err errors.NoLink) process' below' ipc st is h = inl h.2
goes_use refuses d lines below i n process (Err (errors.CountSpent need left)) process' below' ipc st is h = absurd h

outs_use : (refuses : Port → ℕ → Option SendError) (d : DifSeen) (lines : List Direction) (below : Seen) (i n : ℕ) (r : Result OutStep StepError) (d' : DifSeen) (below' : Seen) → AreIpc d.config.members → IsStanding d lines below → Outs refuses d below i n r d' below' → UsesOne below below'
outs_use refuses d lines below i n (Ok done) d' below' ipc st h = goes_use refuses d lines below i n h.process (Ok done) h.process' below' ipc st h.is_process h.done
outs_use refuses d lines below i n (Err errors.Memory) d' below' ipc st h = goes_use refuses d lines below i n h.process (Err errors.Memory) h.process' below' ipc st h.is_process h.done
outs_use refuses d lines below i n (Err errors.NoIpc) d' below' ipc st h = inl h.2
outs_use refuses d lines below i n (Err errors.NoLink) d' below' ipc st h = goes_use refuses d lines below i n h.process (Err errors.NoLink) h.process' below' ipc st h.is_process h.done
outs_use refuses d lines below i n (Err (errors.CountSpent need left)) d' below' ipc st h = goes_use refuses d lines below i n h.process (Err (errors.CountSpent need left)) h.process' below' ipc st h.is_process h.done

outs_home : (refuses : Port → ℕ → Option SendError) (d : DifSeen) (lines : List Direction) (below : Seen) (n : ℕ) (r : Result OutStep StepError) (d' : DifSeen) (below' : Seen) (o : Option ℕ) → AreIpc d.config.members → IsStanding d lines below
    → AtHome o (λ at. Outs refuses d below at n r d' below') ((r ≡ Err errors.NoIpc) × (d' ≡ d) × (below' ≡ below)) → UsesOne below below'
outs_home refuses d lines below n r d' below' (Some i) ipc st h = outs_use refuses d lines below i n r d' below' ipc st h
outs_home refuses d lines below n r d' below' None ipc st h = inl h.2

outs_at : (refuses : Port → ℕ → Option SendError) (d : DifSeen) (lines : List Direction) (below : Seen) (node n : ℕ) (r : Result OutStep StepError) (d' : DifSeen) (below' : Seen) → AreIpc d.config.members → IsStanding d lines below → OutsAt refuses d below node n r d' below' → UsesOne below below'
outs_at refuses d lines below node n (Ok done) d' below' ipc st h = outs_home refuses d lines below n (Ok done) d' below' (home node d.config.members) ipc st h
outs_at refuses d lines below node n (Err errors.Memory) d' below' ipc st h = inl h.1
outs_at refuses d lines below node n (Err errors.NoIpc) d' below' ipc st h = outs_home refuses d lines below n (Err errors.NoIpc) d' below' (home node d.config.members) ipc st h
outs_at refuses d lines below node n (Err errors.NoLink) d' below' ipc st h = outs_home refuses d lines below n (Err errors.NoLink) d' below' (home node d.config.members) ipc st h
outs_at refuses d lines below node n (Err (errors.CountSpent need left)) d' below' ipc st h = outs_home refuses d lines below n (Err (errors.CountSpent need left)) d' below' (home node d.config.members) ipc st h

pub leaves_use : (refuses : Port → ℕ → Option SendError) (d d' : Dif) (below : Seen) (node n : ℕ) (r : Result OutStep StepError) (below' : Seen) → AreIpc (config_of d.settings).members → Stands d below → OutsAt refuses (seen_of d) below node n r (seen_of d') below' → MayUse below below'
leaves_use refuses d d' below node n r below' ipc st does = uses_one below below' (outs_at refuses (seen_of d) st.0 below node n r (seen_of d') below' ipc st.1.standing does)

-- What comes with time

-- the end below of a channel's link is that of an IPC process
link_below : (d : Dif) (below : Seen) (place : ℕ) (channel : Channel) (port : Port) → AreIpc (config_of d.settings).members → LinksStand d below → slice_get d.connections.channels place ≡ Some channel → IsOnPort channel port → (end : End) × (end_of below port ≡ Some end) × IsIpc end.app
link_below d below place channel port ipc links is on =
    let j = links.standing.channels.joined place channel is in
    elim (j.partner.link) as (λ o. j.partner.link ≡ o → (end : End) × (end_of below port ≡ Some end) × IsIpc end.app) [
      | Some far ↦ λ e. (let f = j.flow port far.port on (on_link j.partner far e) in (f.near_end, f.is_near, ipc f.near_end.app f.mine))
      | None ↦ λ e. (let b = j.alone port on e in (b.end, b.here, ipc b.end.app b.mine))
    ] refl

-- so it is of the link that gives up
freed_ipc : (d : Dif) (below : Seen) (place : ℕ) (channel : Channel) (port : Port) (f : Fac) (at : ℕ) (e : End) → AreIpc (config_of d.settings).members → LinksStand d below → slice_get d.connections.channels place ≡ Some channel → IsOnPort channel port → StandsThere below port f at e → IsIpc e.app
freed_ipc d below place channel port f at e ipc links is on there =
    let l = link_below d below place channel port ipc links is on in
    subst (λ (z : End). IsIpc z.app) (same_Some l.0 e (sym l.1 ∙ end_of_stands below port f at e there)) l.2

links_use : (d : Dif) (below : Seen) (ipc : AreIpc (config_of d.settings).members) (links : LinksStand d below) (i place : ℕ) (done : ClockStep) (new : DifSeen) (flows' : Flows) (below' : Seen) → DoesLink d links.lines below i place done new flows' below' → UsesOne below below'
links_use d below ipc links i place (clocks.Gone cep) new flows' below' h = inl h.2
links_use d below ipc links i place (clocks.GaveUp num) new flows' below' h = inr (inr (record { port = h.attached.port; both = h.both; freed = h.freed; ipc = freed_ipc d below place h.channel h.attached.port h.freed.facility h.freed.place h.freed.end ipc links h.stands (on_link h.channel h.attached h.attached_is) h.freed.stands }))
links_use d below ipc links i place (clocks.Ack cep) new flows' below' h = inl h.2
links_use d below ipc links i place (clocks.Again num) new flows' below' h = inl h.1
links_use d below ipc links i place clocks.Idle new flows' below' h = absurd h
links_use d below ipc links i place (clocks.LinkLost link) new flows' below' h = absurd h
links_use d below ipc links i place (clocks.LinkNew link) new flows' below' h = absurd h
links_use d below ipc links i place (clocks.Timeout port) new flows' below' h = absurd h
links_use d below ipc links i place (clocks.Message link) new flows' below' h = absurd h

serves_use : (d : Dif) (lines : List Direction) (below : Seen) (node : ℕ) (done : ClockStep) (d' : Dif) (lines' : List Direction) (below' : Seen) → AreIpc (config_of d.settings).members → LinksStand d below → Serves d lines below node done d' lines' below' → UsesOne below below'
serves_use d lines below node done d' lines' below' ipc links (inl flow) = inl flow.same_below
serves_use d lines below node done d' lines' below' ipc links (inr (inr ask)) = inl ask.2
serves_use d lines below node done d' lines' below' ipc links (inr (inl link)) = (let x = link.0.does links in links_use d below ipc links link.0.i x.place done (seen_of d') d'.connections.flows below' x.does)

any_use : (d : Dif) (lines : List Direction) (below : Seen) (node : ℕ) (done : ClockStep) (d' : Dif) (lines' : List Direction) (below' : Seen) → AreIpc (config_of d.settings).members → LinksStand d below → ServesAny d lines below node done d' lines' below' → UsesOne below below'
any_use d lines below node done d' lines' below' ipc links (inl served) = serves_use d lines below node done d' lines' below' ipc links served.0
any_use d lines below node done d' lines' below' ipc links (inr message) = inl message.2

-- a flow is claimed for a member
module _ (d : Dif) (below : Seen) (node : ℕ) (ipc : AreIpc (config_of d.settings).members) where
  claims_end : (i : ℕ) (member : Settled) (port : Port) (below' : Seen) → MayLink d node i member → ClaimsFirst below node member.name port below' → ClaimsEnd below below'
  claims_end i member port below' may c =
      let mine : IsMine (config_of d.settings).members member.name = record { addr = member.addr; member = record { place = i; member = member_of member; stands = slice_get-map member_of d.settings.members i ∙ ap (option_map member_of) may.is_member; addr_is = refl; name_is = refl } } in
      record { fac = c.fac; node = node; app = member.name; port = port; claimed = c.claimed; ipc = ipc member.name mine }

  no_link_use : (mid : Seen) → NoLinkComes d below node mid → MayClaim below mid
  no_link_use mid (inl none) = inl none.1
  no_link_use mid (inr c) = inr (claims_end c.i c.member c.port mid c.may c.claims)

  may_use : (below' : Seen) → MayHaveClaimed d below node below' → MayUse below below'
  may_use below' (inl same) = uses_one below below' (inl same)
  may_use below' (inr (i, member, port, may, c)) = record { mid = below'; claims = inr (claims_end i member port below' may c); uses = inl refl }

  module _ (lines : List Direction) where
    then_use : (done : ClockStep) (d' : Dif) (lines' : List Direction) (below' : Seen) → ServesThen d lines below node done d' lines' below' → MayUse below below'
    then_use done d' lines' below' s = record { mid = s.mid; claims = no_link_use s.mid s.none; uses = any_use d lines s.mid node done d' lines' below' ipc s.holds.connected s.serves }

    steps_use : (done : ClockStep) (d' : Dif) (lines' : List Direction) (below' : Seen) → Steps d lines below node done d' lines' below' → MayUse below below'
    steps_use clocks.Idle d' lines' below' h = then_use clocks.Idle d' lines' below' h.1
    steps_use (clocks.Gone cep) d' lines' below' h = then_use (clocks.Gone cep) d' lines' below' h.1
    steps_use (clocks.GaveUp num) d' lines' below' h = then_use (clocks.GaveUp num) d' lines' below' h.1
    steps_use (clocks.Ack cep) d' lines' below' h = then_use (clocks.Ack cep) d' lines' below' h.1
    steps_use (clocks.Again num) d' lines' below' h = then_use (clocks.Again num) d' lines' below' h.1
    steps_use (clocks.LinkLost link) d' lines' below' h = uses_one below below' (inl h.2)
    steps_use (clocks.LinkNew link) d' lines' below' h = record { mid = below'; claims = inr (claims_end h.1.i h.1.member h.1.port below' h.1.may h.1.claims); uses = inl refl }
    steps_use (clocks.Timeout port) d' lines' below' h = then_use (clocks.Timeout port) d' lines' below' h.1
    steps_use (clocks.Message link) d' lines' below' h = then_use (clocks.Message link) d' lines' below' h.1

    clock_ok_use : (r : Result ClockStep StepError) (d' : Dif) (lines' : List Direction) (below' : Seen) → StepsOk d lines below node r d' lines' below' → MayUse below below'
    clock_ok_use (Ok done) d' lines' below' h = steps_use done d' lines' below' h
    clock_ok_use (Err e) d' lines' below' h = absurd h

    clock_home : (r : Result ClockStep StepError) (d' : Dif) (lines' : List Direction) (below' : Seen) (o : Option ℕ) → AtHome o (λ i. StepsOk d lines below node r d' lines' below') ((r ≡ Err errors.NoIpc) × (seen_of d' ≡ seen_of d) × (lines' ≡ lines) × (below' ≡ below)) → MayUse below below'
    clock_home r d' lines' below' (Some i) h = clock_ok_use r d' lines' below' h
    clock_home r d' lines' below' None h = uses_one below below' (inl h.3)

    pub clock_uses : (r : Result ClockStep StepError) (d' : Dif) (lines' : List Direction) (below' : Seen) → ClockStepsAt d lines below node r d' lines' below' → MayUse below below'
    clock_uses (Ok done) d' lines' below' h = clock_home (Ok done) d' lines' below' (home node (config_of d.settings).members) h
    clock_uses (Err errors.Memory) d' lines' below' h = may_use below' h.2
    clock_uses (Err errors.NoIpc) d' lines' below' h = clock_home (Err errors.NoIpc) d' lines' below' (home node (config_of d.settings).members) h
    clock_uses (Err errors.NoLink) d' lines' below' h = clock_home (Err errors.NoLink) d' lines' below' (home node (config_of d.settings).members) h
    clock_uses (Err (errors.CountSpent need left)) d' lines' below' h = uses_one below below' (inl h.3)
