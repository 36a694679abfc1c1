-- Whatever a call of a DIF writes off, it may write off.
use Rattle.std.proofs.Common.{◌≡◌, ◌∙◌, ℕ, List, [], append-nil, map, slice_get, slice_set, set-set, Option, Some, None, Result, Ok, Err, refl, sym, ap, subst, arith, inl, inr}
use Rattle.std.proofs.lemmas.List.{map-set}
use Rattle.rina_account.specs.declared.ledger.Off.{Off}
use Rattle.rina_base.specs.declared.cause.Cause.{Cause}
use Rattle.rina_base.specs.declared.cause.Cause.TheVariants as causes
use Rattle.rina_base.specs.declared.number.Key.{Key}
use Rattle.rina_base.specs.declared.number.Num.{Num}
use Rattle.rina_base.specs.declared.number.Port.{Port}
use Rattle.rina_iface.specs.declared.ends.End.{End}
use Rattle.rina_iface.specs.declared.error.FreeError.{FreeError}
use Rattle.rina_iface.specs.declared.error.FreeError.TheVariants as free
use Rattle.rina_iface.specs.declared.error.SendError.{SendError}
use Rattle.rina_iface.specs.declared.error.SendError.TheVariants as send
use Rattle.rina_iface.specs.declared.state.PortState.{PortState}
use Rattle.rina_iface.specs.declared.state.PortState.TheVariants.{Allocated, Closed, Failed, Pending, Refused}
use Rattle.rina_iface.specs.Journal.{At}
use Rattle.rina_iface.specs.Seen.{Seen}
use Rattle.rina_iface.specs.State.{freed, freed_state}
use Rattle.rina_iface.proofs.Grown.{still_at}
use Rattle.rina_law.specs.Direction.{Direction}
use Rattle.rina_data.specs.declared.step.ClockStep.{ClockStep}
use Rattle.rina_data.specs.declared.step.ClockStep.TheVariants as step
use Rattle.rina_data.specs.declared.step.InStep.{InStep}
use Rattle.rina_data.specs.declared.step.OutStep.{OutStep}
use Rattle.rina_data.specs.declared.step.StepError.{StepError}
use Rattle.rina_data.specs.declared.step.StepError.TheVariants.{CountSpent, Memory, NoIpc, NoLink}
use Rattle.rina_data.specs.Configs.{Config, config_of}
use Rattle.rina_data.specs.Losing.{without_link}
use Rattle.rina_data.specs.declared.link.Link.{Link}
use Rattle.rina_data.specs.Deciding.{process_of}
use Rattle.rina_data.specs.Process.{Process, with_offs}
use Rattle.rina_dif_law.specs.Dif.{DifSeen, with_process}
use Rattle.rina_dif_law.specs.Incoming.{Ins}
use Rattle.rina_dif_law.specs.Numbered.{IsNumbered}
use Rattle.rina_dif_law.specs.Outgoing.{Outs}
use Rattle.rina_dif_law.specs.Sending.{home}
use Rattle.rina_dif_law.specs.Standing.{IsStanding}
use Rattle.rina_dif_law.specs.WriteOffLaws.{MayFailOff, Nothing}
use Rattle.rina_dif_law.specs.WriteOffs.{IsOverNow, MayBy, MayWriteOff, NoPort, RefusesOver, Writes}
use Rattle.rina_iface.proofs.Changed.{slice_get-set_same}
use Rattle.rina_law.specs.Lists.{In}
use Rattle.rina_dif_law.proofs.Accounting.{lost_accounted}
use Rattle.rina_dif_law.proofs.Linkless.{lost_carries, lost_numbered, lost_stands}
use Rattle.rina_dif_law.proofs.Warranted.{acknowledged_noted, ended_noted, failed_noted, forgotten_noted, ins_noted, lost_noted, offers_noted, outs_noted, passed_noted, resent_noted, turned_down_noted}
use Rattle.rina_dif_law.proofs.Writing.{IsNoted, kept_noted, known_set, line_noted, noted_as, noted_on, ports_same, process_noted, quiet_noted, same_noted, writes}
use Rattle.rina_channel.specs.FlowLaws.{FlowsStand, HasNoZero}
use Rattle.rina_dif.proofs.Leaves.{shown_at}
use Rattle.rina_dif.proofs.Closing.{closes_held, closes_lines, noted_stand}
use Rattle.rina_dif.proofs.Cutting.{after_loss}
use Rattle.rina_ids.specs.Members.{CepIds}
use Rattle.rina_cube.specs.declared.Cube.{Cube}
use Rattle.rina_dif.specs.declared.connections.Connections.{Connections}
use Rattle.rina_dif.specs.declared.dif.Dif.{Dif}
use Rattle.rina_dif.specs.Claiming.{StepsNew}
use Rattle.rina_dif.specs.Clocking.{ClockSteps, ClockStepsAt, Serves, ServesAny, ServesMessage, Steps, StepsFlow, StepsLost, StepsOk}
use Rattle.rina_dif.specs.Facade.{PassesAt}
use Rattle.rina_dif.specs.Freeing.{FreesAt, FreesEnd}
use Rattle.rina_dif.specs.Holding.{Holds}
use Rattle.rina_dif.specs.Sending.{SendsAt}
use Rattle.rina_dif.specs.Shown.{seen_of}
use Rattle.rina_dif.specs.Steps.{AtHome, OutsAt}
use Rattle.rina_dif.specs.Routing.{MayReroute}
use Rattle.rina_dif.specs.Taking.{InsAt, TakesHome, TellsFlows, TellsNothing}
use Rattle.rina_dif.specs.WriteOffs.{MayByClock, MayByIn, MayFillOff}
use Rattle.rina_dif.proofs.FlowWalk.{flows_noted}
use Rattle.rina_dif.specs.Connected.{channels_seen}
use Rattle.rina_dif.specs.Holding.{LinksStand}
use Rattle.rina_dif.specs.LinkSteps.{DoesLink}
use Rattle.rina_dif.proofs.Forgotten.{gone_lines}
use Rattle.rina_base.specs.declared.pdu.Pdu.{Pdu}
use Rattle.rina_channel.specs.declared.channel.Channel.{Channel}
use Rattle.rina_channel.specs.Changes.{PostsOn}
use Rattle.rina_channel.specs.Ledgers.{unnamed_line}
use Rattle.rina_channel.specs.Names.{names_at}
use Rattle.rina_data.specs.Queueing.{line_for}
use Rattle.rina_dif_law.specs.Ids.{Ids}
use Rattle.rina_dif_law.proofs.Finding.{beside}
use Rattle.rina_flows.specs.declared.flows.Flows.{Flows}
use Rattle.rina_flows.specs.Tied.{conns_of}

same_some : {X : Type 0} (o : Option X) (a b : X) → o ≡ Some a → o ≡ Some b → a ≡ b
same_some o a b h g = cc

-- at the IPC process of a node, or nothing is done
by_home : (P : Type 0) (o : Option ℕ) (does : ℕ → Type 0) (refuses : Type 0) → ((i : ℕ) → does i → P) → (refuses → P) → AtHome o does refuses → P
by_home P (Some i) does refuses here none x = here i x
by_home P None does refuses here none x = none x

-- ---- what leaves, and what comes

outs_at_noted : (refuses : Port → ℕ → Option SendError) (d : DifSeen) (lines : List Direction) (below : Seen) (node n : ℕ) (r : Result OutStep StepError) (d' : DifSeen) (below' : Seen) → IsStanding d lines below → OutsAt refuses d below node n r d' below' → IsNoted (MayWriteOff d lines below (RefusesOver refuses below)) d d'
outs_at_noted refuses d lines below node n (Err Memory) d' below' st s = same_noted _ d d' s.0
outs_at_noted refuses d lines below node n (Ok x) d' below' st s = by_home _ (home node d.config.members) (λ i. Outs refuses d below i n (Ok x) d' below') _ (λ i o. outs_noted refuses d lines below i n (Ok x) d' below' st o) (λ o. same_noted _ d d' o.1) s
outs_at_noted refuses d lines below node n (Err NoIpc) d' below' st s = by_home _ (home node d.config.members) (λ i. Outs refuses d below i n (Err NoIpc) d' below') _ (λ i o. outs_noted refuses d lines below i n (Err NoIpc) d' below' st o) (λ o. same_noted _ d d' o.1) s
outs_at_noted refuses d lines below node n (Err NoLink) d' below' st s = by_home _ (home node d.config.members) (λ i. Outs refuses d below i n (Err NoLink) d' below') _ (λ i o. outs_noted refuses d lines below i n (Err NoLink) d' below' st o) (λ o. same_noted _ d d' o.1) s
outs_at_noted refuses d lines below node n (Err (CountSpent need left)) d' below' st s = by_home _ (home node d.config.members) (λ i. Outs refuses d below i n (Err (CountSpent need left)) d' below') _ (λ i o. outs_noted refuses d lines below i n (Err (CountSpent need left)) d' below' st o) (λ o. same_noted _ d d' o.1) s

pub outs_at_write : (refuses : Port → ℕ → Option SendError) (d : Dif) (lines : List Direction) (below : Seen) (node n : ℕ) (r : Result OutStep StepError) (d' : Dif) (below' : Seen) → Holds d lines below → OutsAt refuses (seen_of d) below node n r (seen_of d') below' → Writes (MayWriteOff (seen_of d) lines below (RefusesOver refuses below)) (seen_of d) (seen_of d')
outs_at_write refuses d lines below node n r d' below' h s = writes _ (seen_of d) (seen_of d') (outs_at_noted refuses (seen_of d) lines below node n r (seen_of d') below' h.standing s)

ins_at_noted : (d : DifSeen) (lines : List Direction) (below : Seen) (node n : ℕ) (r : Result InStep StepError) (d' : DifSeen) (lines' : List Direction) (below' : Seen) → IsStanding d lines below → InsAt d lines below node n r d' lines' below' → IsNoted (MayWriteOff d lines below NoPort) d d'
ins_at_noted d lines below node n (Err Memory) d' lines' below' st s = same_noted _ d d' s.0
ins_at_noted d lines below node n (Ok x) d' lines' below' st s = by_home _ (home node d.config.members) (λ i. Ins d lines below i n (Ok x) d' lines' below') _ (λ i o. ins_noted d lines below i n (Ok x) d' lines' below' st o) (λ o. same_noted _ d d' o.1) s
ins_at_noted d lines below node n (Err NoIpc) d' lines' below' st s = by_home _ (home node d.config.members) (λ i. Ins d lines below i n (Err NoIpc) d' lines' below') _ (λ i o. ins_noted d lines below i n (Err NoIpc) d' lines' below' st o) (λ o. same_noted _ d d' o.1) s
ins_at_noted d lines below node n (Err NoLink) d' lines' below' st s = by_home _ (home node d.config.members) (λ i. Ins d lines below i n (Err NoLink) d' lines' below') _ (λ i o. ins_noted d lines below i n (Err NoLink) d' lines' below' st o) (λ o. same_noted _ d d' o.1) s
ins_at_noted d lines below node n (Err (CountSpent need left)) d' lines' below' st s = by_home _ (home node d.config.members) (λ i. Ins d lines below i n (Err (CountSpent need left)) d' lines' below') _ (λ i o. ins_noted d lines below i n (Err (CountSpent need left)) d' lines' below' st o) (λ o. same_noted _ d d' o.1) s

-- other next hops write nothing, nor do other enrolled members
enrolled_noted : (holds : ℕ → Off → Type 0) (d new : DifSeen) (nodes : List ℕ) → IsNoted holds d new → IsNoted holds d (record new { enrolled = nodes })
enrolled_noted holds d new nodes n = record { config = n.config; manage = n.manage; clock = n.clock; conns = n.conns; each = n.each }

rerouted_noted : (holds : ℕ → Off → Type 0) (d d' : DifSeen) → MayReroute d d' → IsNoted holds d d'
rerouted_noted holds d d' (inl same) = same_noted holds d d' same
rerouted_noted holds d d' (inr r) =
    let after : Process = record r.process { routes = r.routes } in
    let new : DifSeen = with_process d r.place after in
    let noted = process_noted holds d new r.place r.process after [] refl r.is_process (sym (append-nil r.process.ledger)) (λ off none. absurd none) (ports_same r.process.links r.process.links refl) in
    subst (IsNoted holds d) (sym r.is) (enrolled_noted holds d new r.nodes noted)

-- the messages about flows, as they are handled, write off what they may then
told_noted : (d : Dif) (lines : List Direction) (below : Seen) (node n : ℕ) (r : Result InStep StepError) (d' : Dif) (below' : Seen) (s : TakesHome d lines below node n r d' below') (home_is : Option ℕ) → home node (config_of d.settings).members ≡ home_is
    → AtHome home_is (λ i. TellsFlows d below i n s.answer s.handled s.between below' r d' s.lines') (TellsNothing s.answer s.handled s.between r d' s.lines') → IsNoted (MayByIn d lines below node) (seen_of s.handled) (seen_of d')
told_noted d lines below node n r d' below' s (Some i) is told =
    flows_noted (MayByIn d lines below node) s.handled s.between below' i told.messages told.stopped (record d' { failed = s.handled.failed }) s.lines' s.stood
    (λ before mid between handles holds k off may. inr (record { n = n; result = r; d' = d'; below' = below'; takes = s; place = i; at_home = is; before = before; mid = mid; between = between; handles = handles; holds = holds; may = may })) told.handles
told_noted d lines below node n r d' below' s None is none = same_noted _ (seen_of s.handled) (seen_of d') (ap seen_of none.1)

pub ins_at_write : (d : Dif) (lines : List Direction) (below : Seen) (node n : ℕ) (r : Result InStep StepError) (d' : Dif) (below' : Seen) → Holds d lines below → TakesHome d lines below node n r d' below' → Writes (MayByIn d lines below node) (seen_of d) (seen_of d')
ins_at_write d lines below node n r d' below' h s =
    let first : ℕ → Off → Type 0 = MayWriteOff (seen_of d) lines below NoPort in
    let holds : ℕ → Off → Type 0 = MayByIn d lines below node in
    let taken = ins_at_noted (seen_of d) lines below node n s.answer (seen_of s.taken) s.between below' h.standing s.does in
    let handled = noted_as first holds (seen_of d) (seen_of s.handled) (λ i off may. inl may) (noted_on first (seen_of d) (seen_of s.taken) (seen_of s.handled) taken (rerouted_noted first (seen_of s.taken) (seen_of s.handled) s.rerouted)) in
    writes holds (seen_of d) (seen_of d') (noted_on holds (seen_of d) (seen_of s.handled) (seen_of d') handled (told_noted d lines below node n r d' below' s (home node (config_of d.settings).members) refl s.told))

-- ---- what comes with time

-- what needs no port needs none that is over
may_port : (d : DifSeen) (lines : List Direction) (below : Seen) (down : Port → Type 0) (addr : ℕ) (process : Process) (key : Key) (cause : Cause) → MayBy d lines below NoPort addr process key cause → MayBy d lines below down addr process key cause
may_port d lines below down addr process key (causes.LinkDown port) m = absurd m.is_down
may_port d lines below down addr process key (causes.Expired left charge) m = m
may_port d lines below down addr process key (causes.NoRoute dst) m = m
may_port d lines below down addr process key (causes.QueueFull most) m = m
may_port d lines below down addr process key (causes.NoConnection cep) m = m
may_port d lines below down addr process key (causes.Duplicate num) m = m
may_port d lines below down addr process key (causes.Behind top) m = m
may_port d lines below down addr process key (causes.NoState drf) m = m
may_port d lines below down addr process key (causes.NoRoom most) m = m
may_port d lines below down addr process key (causes.StateGone last_in) m = m
may_port d lines below down addr process key (causes.Broken missing) m = m

-- what a row writes, a clock step may write
by_row : (d : Dif) (lines : List Direction) (below : Seen) (node : ℕ) (new : DifSeen) → IsNoted (MayWriteOff (seen_of d) lines below NoPort) (seen_of d) new → IsNoted (MayByClock d lines below node) (seen_of d) new
by_row d lines below node new n = noted_as (MayWriteOff (seen_of d) lines below NoPort) (MayByClock d lines below node) (seen_of d) new (λ i off m. inl (record {
  member = m.member;
  process = m.process;
  is_process = m.is_process;
  may = elim (m.may) [
    | inl may ↦ inl (may_port (seen_of d) lines below (IsOverNow below) m.member.addr m.process off.key off.cause may)
    | inr link ↦ inr link
  ];
})) n

lost_with_noted : (d : Dif) (lines : List Direction) (below : Seen) (node number : ℕ) (d' : Dif) → Holds d lines below → StepsLost d lines below node number d' → IsNoted (MayByClock d lines below node) (seen_of d) (seen_of d')
lost_with_noted d lines below node number d' h s =
    let w = s.loses in
    let gone = w.loses.loses in
    let routes = w.loses.routes in
    let holds : ℕ → Off → Type 0 = MayByClock d lines below node in
    let port : Port = gone.link.port in
    let process : Process = without_link gone.place gone.link routes gone.process in
    let lost : DifSeen = after_loss d lines below s.i node number d' w in
    let st = lost_stands (seen_of d) lines below s.i number routes w.between h.standing gone in
    let numbered = lost_numbered (seen_of d) below s.i number routes w.between h.numbered gone in
    let first : IsNoted holds (seen_of d) w.between = noted_as (MayWriteOff (seen_of d) lines below (IsOverNow below)) holds (seen_of d) w.between (λ i off m. inl m) (lost_noted (seen_of d) lines below s.i number routes w.between h.standing gone) in
    let there : slice_get w.between.processes s.i ≡ Some process = ap (λ (z : DifSeen). slice_get z.processes s.i) gone.new_is ∙ slice_get-set_same (seen_of d).processes s.i gone.process process gone.is_process in
    let written : Process = with_offs process w.offs in
    let new : with_process w.between s.i written ≡ lost = ap (λ (z : DifSeen). with_process z s.i written) gone.new_is ∙ ap (λ (ps : List Process). record (seen_of d) { processes = ps }) (set-set (seen_of d).processes s.i process written) in
    let links = h.connected in
    let closes = w.closes links in
    let may : (off : Off) → In off w.offs → holds s.i off = λ off one. (
    let x = closes_held (config_of d.settings) d.clock d.connections d'.connections (seen_of d).processes below links port w.offs closes off one in
    inr (inl (record { number = number; between = w.between; loses = w.loses; place = x.place; is_open = x.is_open; links = links; held = x.held }))) in
    let closed : IsNoted holds w.between lost = process_noted holds w.between lost s.i process written w.offs (sym new) there refl may (ports_same process.links process.links refl) in
    let mid : FlowsStand w.between lines below = record { zero = subst (λ (g : Config). HasNoZero g) (ap (λ (z : DifSeen). z.config) (sym gone.new_is)) links.may.zero; stands = st; numbered = numbered; carrying = lost_carries (seen_of d) lines below s.i number routes w.between h.carrying gone; accounted = lost_accounted (seen_of d) lines below s.i number routes w.between h.accounted gone } in
    let n : FlowsStand lost lines below = subst (λ (z : DifSeen). FlowsStand z lines below) new (noted_stand w.between lines below s.i process w.offs there (closes_lines (config_of d.settings) d.clock d.connections d'.connections (seen_of d).processes below links port w.offs closes) mid) in
    noted_on holds (seen_of d) lost (seen_of d') (noted_on holds (seen_of d) w.between lost first closed) (elim w.fails [
      | inl f ↦ noted_as (MayFailOff lost lines below node port) holds lost (seen_of d') (λ i off m. inr (inr (inl (record { place = s.i; number = number; d' = d'; loses = w; may = m })))) (failed_noted lost lines below node port (seen_of d') n.stands n.numbered f.1)
      | inr k ↦ same_noted holds lost (seen_of d') k.1
    ])

flow_noted : (d : Dif) (lines : List Direction) (below : Seen) (node : ℕ) (done : ClockStep) (new : DifSeen) (lines' : List Direction) → Holds d lines below → StepsFlow d lines node done new lines' → IsNoted (MayByClock d lines below node) (seen_of d) new
flow_noted d lines below node step.Idle new lines' h s = same_noted _ (seen_of d) new s.1
flow_noted d lines below node (step.Gone cep) new lines' h s = by_row d lines below node new (forgotten_noted (seen_of d) lines below s.at new lines' h.standing h.numbered s.forgotten)
flow_noted d lines below node (step.GaveUp num) new lines' h s = by_row d lines below node new (ended_noted (seen_of d) lines below s.at _ new h.standing h.numbered s.given_up.ended)
flow_noted d lines below node (step.Ack cep) new lines' h s = by_row d lines below node new (acknowledged_noted (seen_of d) lines below s.at s.cause new lines' h.standing h.numbered h.accounted s.acknowledged)
flow_noted d lines below node (step.Again num) new lines' h s = by_row d lines below node new (resent_noted (seen_of d) lines below s.at s.cause new lines' h.standing h.numbered h.accounted s.resent)
flow_noted d lines below node (step.LinkLost link) new lines' h s = absurd s
flow_noted d lines below node (step.LinkNew link) new lines' h s = absurd s
flow_noted d lines below node (step.Timeout port) new lines' h s = absurd s
flow_noted d lines below node (step.Message link) new lines' h s = absurd s

-- a management connection puts a PDU into the queue of its link, or finds that full
posts_noted : (d : Dif) (lines : List Direction) (below : Seen) (node k : ℕ) (channel : Channel) (mpl : ℕ) (pdu : Pdu) (cause : Option Cause) (new : DifSeen) → slice_get d.connections.channels k ≡ Some channel → pdu.src ≡ 0 → pdu.scep ≡ 0 → new ≡ record (seen_of d) { processes = new.processes } → PostsOn (config_of d.settings).cap d.clock mpl (seen_of d).processes channel pdu cause new.processes → IsNoted (MayByClock d lines below node) (seen_of d) new
posts_noted d lines below node k channel mpl pdu None new stands src scep same s =
    kept_noted (MayByClock d lines below node) (seen_of d) new channel.member s.process _ (same ∙ ap (λ (ps : List Process). record (seen_of d) { processes = ps }) s.new_is) s.is_of.is_process refl refl
posts_noted d lines below node k channel mpl pdu (Some cause) new stands src scep same s =
    let f = s.1 in
    let may : MayFillOff d channel.member (line_for pdu cause) = record { place = k; channel = channel; stands = stands; member = refl; process = f.process; at = f.place; queue = f.queue; is_of = f.is_of; full = f.full; src = src; scep = scep; cause_is = s.0 } in
    line_noted (MayByClock d lines below node) (seen_of d) new channel.member f.process _ (line_for pdu cause) (same ∙ ap (λ (ps : List Process). record (seen_of d) { processes = ps }) f.new_is) f.is_of.is_process refl refl (inr (inr (inr may)))

link_ids : (d : Dif) (below : Seen) (k : ℕ) (ids : Ids) → LinksStand d below → slice_get (conns_of d.connections.flows.conns) k ≡ Some ids → ids.scep ≡ 0
link_ids d below k ids links is =
    let m = channels_seen (config_of d.settings) d.clock d.connections in
    let c = beside m.ids m.channels k ids (links.standing.channels.alike ∙ sym links.standing.own.alike) is in
    ap (λ (z : Ids). z.scep) (same_some (slice_get m.ids k) ids (names_at k c.0.partner) is (links.standing.channels.names k c.0 c.1))

-- it does what is due, and writes lines of its link
link_noted : (d : Dif) (lines : List Direction) (first below : Seen) (node i place : ℕ) (done : ClockStep) (new : DifSeen) (flows' : Flows) (below' : Seen) (h : Holds d lines below) → new ≡ record (seen_of d) { processes = new.processes } → DoesLink d h.connected.lines below i place done new flows' below' → IsNoted (MayByClock d lines first node) (seen_of d) new
link_noted d lines first below node i place (step.Gone cep) new flows' below' h same s =
    let f = s.1 in
    let m = channels_seen (config_of d.settings) d.clock d.connections in
    let member = beside (seen_of d).processes (seen_of d).config.members i f.process (sym h.standing.aligned) f.is_process in
    process_noted (MayByClock d lines first node) (seen_of d) new i f.process (with_offs f.process (map unnamed_line f.held)) (map unnamed_line f.held) f.written f.is_process refl
    (λ off one. inl (record { member = member.0; process = f.process; is_process = record { is_member = member.1; is_process = f.is_process }; may = inr (gone_lines m h.connected.lines (seen_of d).processes below place f.held f.links' h.connected.standing f.forgets off one) }))
    (ports_same f.process.links f.process.links refl)
link_noted d lines first below node i place (step.Ack cep) new flows' below' h same s =
    let a = s.1.acknowledged in
    posts_noted d lines first node place a.channel a.cube.mpl _ s.1.cause new a.is_end.stands refl (link_ids d below place a.ids h.connected a.is_end.is_conn.ids_are) same a.posted
link_noted d lines first below node i place (step.Again num) new flows' below' h same s =
    let a = s.0.resent in
    posts_noted d lines first node place a.channel a.cube.mpl _ s.0.cause new a.is_end.stands refl (link_ids d below place a.ids h.connected a.is_end.is_conn.ids_are) same a.posted
link_noted d lines first below node i place step.Idle new flows' below' h same s = absurd s
link_noted d lines first below node i place (step.GaveUp num) new flows' below' h same s = same_noted (MayByClock d lines first node) (seen_of d) new s.same.0
link_noted d lines first below node i place (step.LinkLost link) new flows' below' h same s = absurd s
link_noted d lines first below node i place (step.LinkNew link) new flows' below' h same s = absurd s
link_noted d lines first below node i place (step.Timeout port) new flows' below' h same s = absurd s
link_noted d lines first below node i place (step.Message link) new flows' below' h same s = absurd s

serves_noted : (d : Dif) (lines : List Direction) (first below : Seen) (node : ℕ) (done : ClockStep) (d' : Dif) (lines' : List Direction) (below' : Seen) → Holds d lines first → Holds d lines below → Serves d lines below node done d' lines' below' → IsNoted (MayByClock d lines first node) (seen_of d) (seen_of d')
serves_noted d lines first below node done d' lines' below' h now (inl flow) = flow_noted d lines first node done (seen_of d') lines' h flow.does
serves_noted d lines first below node done d' lines' below' h now (inr (inr ask)) = (let t = ask.0.times_out.turns_down.turned in turned_down_noted (MayByClock d lines first node) (seen_of d) _ _ (seen_of d') t)
serves_noted d lines first below node done d' lines' below' h now (inr (inl link)) =
    let x = link.0.does now.connected in
    link_noted d lines first below node link.0.i x.place done (seen_of d') d'.connections.flows below' now (ap seen_of link.0.only) x.does

-- the pieces of a message wait for its link, and nothing is written
message_noted : (d : Dif) (lines : List Direction) (first below : Seen) (node : ℕ) (done : ClockStep) (d' : Dif) → Holds d lines below → ServesMessage d lines below node done d' → IsNoted (MayByClock d lines first node) (seen_of d) (seen_of d')
message_noted d lines first below node done d' h m =
    let o = (m.sends.offers h.connected).offers.offered in
    let same : seen_of d' ≡ record (seen_of d) { processes = (seen_of d').processes } = ap seen_of m.sends.only in
    kept_noted (MayByClock d lines first node) (seen_of d) (seen_of d') o.channel.member o.put.process _ (same ∙ ap (λ (ps : List Process). record (seen_of d) { processes = ps }) o.put.new_is) o.put.is_of.is_process refl refl

any_noted : (d : Dif) (lines : List Direction) (first below : Seen) (node : ℕ) (done : ClockStep) (d' : Dif) (lines' : List Direction) (below' : Seen) → Holds d lines first → Holds d lines below → ServesAny d lines below node done d' lines' below' → IsNoted (MayByClock d lines first node) (seen_of d) (seen_of d')
any_noted d lines first below node done d' lines' below' h now (inl served) = serves_noted d lines first below node done d' lines' below' h now served.0
any_noted d lines first below node done d' lines' below' h now (inr message) = message_noted d lines first below node done d' now message.0

-- a new link writes nothing
new_noted : (d : Dif) (lines : List Direction) (below : Seen) (node number : ℕ) (d' : Dif) (below' : Seen) → StepsNew d below node number d' below' → IsNoted (MayByClock d lines below node) (seen_of d) (seen_of d')
new_noted d lines below node number d' below' s =
    let holds : ℕ → Off → Type 0 = MayByClock d lines below node in
    let links = s.takes.links in
    let after : Process = process_of links.after in
    let manage : d'.connections.manage ≡ d.connections.manage = ap (λ (c : Connections). c.manage) s.takes.connections in
    let same : seen_of d' ≡ record (seen_of d) { processes = (seen_of d').processes } = ap seen_of s.takes.only ∙ ap (λ (m : Cube). record (seen_of d) { manage = m; processes = (seen_of d').processes }) manage in
    let processes : (seen_of d').processes ≡ slice_set (seen_of d).processes s.i after = ap (map process_of) links.are ∙ map-set process_of d.processes s.i links.after in
    let is : seen_of d' ≡ with_process (seen_of d) s.i after = same ∙ ap (λ (ps : List Process). record (seen_of d) { processes = ps }) processes in
    process_noted holds (seen_of d) (seen_of d') s.i (process_of links.process) after [] is (shown_at d s.i links.process links.is_process) (links.takes.ledger ∙ sym (append-nil links.process.ledger)) (λ off none. absurd none)
    (λ place link at. (link, ap (λ (ls : List Link). slice_get ls place) links.takes.links ∙ still_at links.process.links _ place link at, refl))

steps_noted : (d : Dif) (lines : List Direction) (below : Seen) (node : ℕ) (done : ClockStep) (d' : Dif) (lines' : List Direction) (below' : Seen) → Holds d lines below → Steps d lines below node done d' lines' below' → IsNoted (MayByClock d lines below node) (seen_of d) (seen_of d')
steps_noted d lines below node step.Idle d' lines' below' h s = any_noted d lines below s.1.mid node step.Idle d' lines' below' h s.1.holds s.1.serves
steps_noted d lines below node (step.Gone cep) d' lines' below' h s = any_noted d lines below s.1.mid node (step.Gone cep) d' lines' below' h s.1.holds s.1.serves
steps_noted d lines below node (step.GaveUp num) d' lines' below' h s = any_noted d lines below s.1.mid node (step.GaveUp num) d' lines' below' h s.1.holds s.1.serves
steps_noted d lines below node (step.Ack cep) d' lines' below' h s = any_noted d lines below s.1.mid node (step.Ack cep) d' lines' below' h s.1.holds s.1.serves
steps_noted d lines below node (step.Again num) d' lines' below' h s = any_noted d lines below s.1.mid node (step.Again num) d' lines' below' h s.1.holds s.1.serves
steps_noted d lines below node (step.LinkLost link) d' lines' below' h s = lost_with_noted d lines below node link d' h s.0
steps_noted d lines below node (step.LinkNew link) d' lines' below' h s = new_noted d lines below node link d' below' s.1
steps_noted d lines below node (step.Timeout port) d' lines' below' h s = any_noted d lines below s.1.mid node (step.Timeout port) d' lines' below' h s.1.holds s.1.serves
steps_noted d lines below node (step.Message link) d' lines' below' h s = any_noted d lines below s.1.mid node (step.Message link) d' lines' below' h s.1.holds s.1.serves

clocks_noted : (d : Dif) (lines : List Direction) (below : Seen) (node : ℕ) (r : Result ClockStep StepError) (d' : Dif) (lines' : List Direction) (below' : Seen) → Holds d lines below → ClockStepsAt d lines below node r d' lines' below' → IsNoted (MayByClock d lines below node) (seen_of d) (seen_of d')
clocks_noted d lines below node (Err Memory) d' lines' below' h s = same_noted _ (seen_of d) (seen_of d') s.0
clocks_noted d lines below node (Ok done) d' lines' below' h s = by_home _ (home node (config_of d.settings).members) (λ i. StepsOk d lines below node (Ok done) d' lines' below') _ (λ i o. steps_noted d lines below node done d' lines' below' h o) (λ o. same_noted _ (seen_of d) (seen_of d') o.1) s
clocks_noted d lines below node (Err NoIpc) d' lines' below' h s = by_home _ (home node (config_of d.settings).members) (λ i. StepsOk d lines below node (Err NoIpc) d' lines' below') _ (λ i o. absurd o) (λ o. same_noted _ (seen_of d) (seen_of d') o.1) s
clocks_noted d lines below node (Err NoLink) d' lines' below' h s = by_home _ (home node (config_of d.settings).members) (λ i. StepsOk d lines below node (Err NoLink) d' lines' below') _ (λ i o. absurd o) (λ o. same_noted _ (seen_of d) (seen_of d') o.1) s
clocks_noted d lines below node (Err (CountSpent need left)) d' lines' below' h s = same_noted _ (seen_of d) (seen_of d') s.1

pub clocks_write : (d : Dif) (lines : List Direction) (below : Seen) (node : ℕ) (r : Result ClockStep StepError) (d' : Dif) (below' : Seen) → Holds d lines below → ClockSteps d lines below node r d' below' → Writes (MayByClock d lines below node) (seen_of d) (seen_of d')
clocks_write d lines below node r d' below' h s = writes _ (seen_of d) (seen_of d') (clocks_noted d lines below node r d' s.lines' below' h s.does)

-- ---- a flow is freed

never_waits : (state : PortState) → freed_state state ≡ Pending → ⊥
never_waits Pending e = cc
never_waits Allocated e = cc
never_waits (Refused why) e = cc
never_waits (Failed fail) e = cc
never_waits Closed e = cc

restated : (d d' : DifSeen) (lines : List Direction) (below : Seen) (at : ℕ) (end : End) (held : List CepIds) → At d.ends at end → d' ≡ record d { ends = slice_set d.ends at (freed end); ids = held } → IsNoted (MayWriteOff d lines below NoPort) d d'
restated d d' lines below at end held there is = subst (IsNoted (MayWriteOff d lines below NoPort) d) (sym is) (quiet_noted _ d (record d { ends = slice_set d.ends at (freed end); ids = held }) refl refl (omega arith) (known_set d.ends d.conns at end (freed end) there (λ waits. absurd (never_waits end.state waits))) refl)

frees_end : (state : PortState) (d : DifSeen) (lines : List Direction) (below : Seen) (at : ℕ) (end : End) (d' : DifSeen) → IsStanding d lines below → IsNumbered d below → At d.ends at end → FreesEnd state d lines at end d' → IsNoted (MayWriteOff d lines below NoPort) d d'
frees_end Allocated d lines below at end d' st numbered is s = ended_noted d lines below at Closed d' st numbered s
frees_end Pending d lines below at end d' st numbered is s = restated d d' lines below at end s.held is s.new_is
frees_end (Refused why) d lines below at end d' st numbered is s = restated d d' lines below at end d.ids is s
frees_end (Failed fail) d lines below at end d' st numbered is s = restated d d' lines below at end d.ids is s
frees_end Closed d lines below at end d' st numbered is s = restated d d' lines below at end d.ids is s

frees_noted : (d : Dif) (lines : List Direction) (below : Seen) (at : Option ℕ) (r : Result (Unit {0}) FreeError) (d' : Dif) → Holds d lines below → FreesAt at d lines below r d' → IsNoted (MayWriteOff (seen_of d) lines below NoPort) (seen_of d) (seen_of d')
frees_noted d lines below (Some at) (Ok done) d' h s = frees_end s.end.state (seen_of d) lines below at s.end (seen_of d') h.standing h.numbered s.is_end s.frees
frees_noted d lines below None (Ok done) d' h s = absurd s
frees_noted d lines below (Some at) (Err free.Memory) d' h s = same_noted _ (seen_of d) (seen_of d') s.same
frees_noted d lines below None (Err free.Memory) d' h s = same_noted _ (seen_of d) (seen_of d') s.same
frees_noted d lines below (Some at) (Err free.NoPort) d' h s = same_noted _ (seen_of d) (seen_of d') s.1.same
frees_noted d lines below None (Err free.NoPort) d' h s = same_noted _ (seen_of d) (seen_of d') s.1.same

pub frees_write : (d : Dif) (lines : List Direction) (below : Seen) (at : Option ℕ) (r : Result (Unit {0}) FreeError) (d' : Dif) → Holds d lines below → FreesAt at d lines below r d' → Writes (MayWriteOff (seen_of d) lines below NoPort) (seen_of d) (seen_of d')
frees_write d lines below at r d' h s = writes _ (seen_of d) (seen_of d') (frees_noted d lines below at r d' h s)

-- ---- calls that write nothing

nowhere_noted : (d : Dif) (lines : List Direction) (below : Seen) (r : Result Num SendError) (d' : Dif) → SendsAt None d lines below [] r d' → IsNoted Nothing (seen_of d) (seen_of d')
nowhere_noted d lines below (Ok num) d' s = same_noted Nothing (seen_of d) (seen_of d') s.1
nowhere_noted d lines below (Err send.Memory) d' s = same_noted Nothing (seen_of d) (seen_of d') s.0
nowhere_noted d lines below (Err why) d' s = same_noted Nothing (seen_of d) (seen_of d') s.1

pub sends_write : (d : Dif) (lines : List Direction) (below : Seen) (at : Option ℕ) (sdu : List ℕ) (r : Result Num SendError) (d' : Dif) → SendsAt at d lines below sdu r d' → Writes Nothing (seen_of d) (seen_of d')
sends_write d lines below (Some at) sdu r d' s = writes Nothing (seen_of d) (seen_of d') (offers_noted Nothing (seen_of d) lines at s.parts r (seen_of d') s.lines' s.offers)
sends_write d lines below None sdu r d' s = writes Nothing (seen_of d) (seen_of d') (nowhere_noted d lines below r d' s)

pub passes_write : (d : Dif) (lines : List Direction) (port : Port) (d' : Dif) (below : Seen) → PassesAt d lines port d' below → Writes Nothing (seen_of d) (seen_of d')
passes_write d lines port d' below s = writes Nothing (seen_of d) (seen_of d') (passed_noted Nothing (seen_of d) lines s.at (seen_of d') s.passes.lines' s.passes.passed)
