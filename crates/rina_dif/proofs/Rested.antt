-- What the steps of a DIF answer while it rests: nothing changes.
use Rattle.std.proofs.Common.{◌≡◌, ◌∙◌, ℕ, ◌+◌, ◌<◌, ◌≤◌, List, [], ◌∷◌, get_or, length, map, slice_get, Option, Some, None, Result, Ok, Err, option_map, refl, sym, ap, subst, arith, inl, inr}
use Rattle.std.proofs.lemmas.Bool.{cases_lt, false≢true}
use Rattle.std.proofs.lemmas.Option.{get_or_from_slice_get, same_Some, slice_get-map, slice_get_within}
use Rattle.rina_base.specs.declared.number.Port.{Port}
use Rattle.rina_iface.specs.declared.ends.End.{End}
use Rattle.rina_iface.specs.declared.error.SendError.{SendError}
use Rattle.rina_iface.specs.Seen.{Seen, unpassed}
use Rattle.rina_iface.proofs.Changed.{slice_set-same}
use Rattle.rina_law.specs.Direction.{Direction}
use Rattle.rina_policy.specs.declared.policy.Head.{Head}
use Rattle.rina_policy.specs.Slots.{Slot}
use Rattle.rina_queue.specs.declared.queue.Queued.{Queued}
use Rattle.rina_data.specs.declared.link.Link.{Link}
use Rattle.rina_data.specs.declared.process.IpcProcess.{IpcProcess}
use Rattle.rina_data.specs.declared.step.ClockStep.{ClockStep}
use Rattle.rina_data.specs.declared.step.ClockStep.TheVariants as clocks
use Rattle.rina_data.specs.declared.step.InStep.{InStep}
use Rattle.rina_data.specs.declared.step.InStep.TheVariants as ins
use Rattle.rina_data.specs.declared.step.OutStep.{OutStep}
use Rattle.rina_data.specs.declared.step.OutStep.TheVariants as outs
use Rattle.rina_data.specs.declared.step.StepError.{StepError}
use Rattle.rina_data.specs.declared.step.StepError.TheVariants.{NoIpc, NoLink}
use Rattle.rina_data.specs.Configs.{config_of}
use Rattle.rina_data.specs.Deciding.{plain, process_of}
use Rattle.rina_data.specs.Outgoing.{NoneWait}
use Rattle.rina_data.specs.Process.{Process, Queue, link_by}
use Rattle.rina_dif_law.specs.Dif.{with_process}
use Rattle.rina_dif_law.specs.Incoming.{Ins}
use Rattle.rina_dif_law.specs.Outgoing.{Outs}
use Rattle.rina_dif_law.proofs.Own.{map_at}
use Rattle.rina_channel.proofs.Going.{live_by}
use Rattle.rina_agent.specs.declared.message.Waiting.{Waiting}
use Rattle.rina_agent.specs.Agenda.{first_on}
use Rattle.rina_member.specs.declared.management.Management.{Management}
use Rattle.rina_flows.specs.declared.due.Item.{Item}
use Rattle.rina_flows.specs.declared.due.Item.TheVariants.{Ack, Again, GiveUp, Gone}
use Rattle.rina_dif.specs.declared.dif.Dif.{Dif}
use Rattle.rina_dif.specs.FlowEnds.{ManagesStep}
use Rattle.rina_dif.specs.Claiming.{NoneComesAt}
use Rattle.rina_dif.specs.Clocking.{ClockSteps, ClockStepsAt, FailsLate, IsIdle, NoneDue, NoneLostAt}
use Rattle.rina_dif.specs.Elsewhere.{home_of}
use Rattle.rina_dif.specs.Holding.{Holds, LinksStand}
use Rattle.rina_dif.specs.LinkDue.{NoLinkDue}
use Rattle.rina_dif.specs.MessageSteps.{NoMessageAt}
use Rattle.rina_channel.specs.Names.{link_config}
use Rattle.rina_dif.specs.Resting.{IsAtRest, RestsUntil}
use Rattle.rina_dif.specs.WaitingAsks.{KeepsStep, NoneLate}
use Rattle.rina_dif.specs.Shown.{seen_of}
use Rattle.rina_dif.specs.Steps.{AsksAt, AsksHome, AtHome, OutsAt}
use Rattle.rina_dif.specs.Taking.{AreBrought, Handles, InsAt, TakesHome, TakesLinks, TellsFlows, TellsNothing}

-- Answers that tell that nothing was done

abbrev pub TakesNone : Result InStep StepError → Type 0
TakesNone (Ok ins.Idle) = Unit {0}
TakesNone (Err NoLink) = Unit {0}
TakesNone (Err NoIpc) = Unit {0}
TakesNone answer = ⊥

abbrev pub DoesNone : Result ClockStep StepError → Type 0
DoesNone (Ok clocks.Idle) = Unit {0}
DoesNone (Err NoIpc) = Unit {0}
DoesNone answer = ⊥

abbrev pub SendsNone : Result OutStep StepError → Type 0
SendsNone (Ok outs.Idle) = Unit {0}
SendsNone (Err NoLink) = Unit {0}
SendsNone (Err NoIpc) = Unit {0}
SendsNone answer = ⊥

at_home : (h : Option ℕ) (i : ℕ) (does : ℕ → Type 0) (refuses : Type 0) → h ≡ Some i → does i → AtHome h does refuses
at_home h i does refuses is done = subst (λ o. AtHome o does refuses) (sym is) done

not_home : (h : Option ℕ) (does : ℕ → Type 0) (refuses : Type 0) → h ≡ None → refuses → AtHome h does refuses
not_home h does refuses is done = subst (λ o. AtHome o does refuses) (sym is) done

shown_at : (d : Dif) (i : ℕ) (o : Option IpcProcess) → slice_get d.processes i ≡ o → slice_get (seen_of d).processes i ≡ option_map process_of o
shown_at d i o is = slice_get-map process_of d.processes i ∙ ap (option_map process_of) is

-- One after the other

-- of the first of a list this holds
abbrev pub SoFar : {X : Type 0} → (X → Type 0) → List X → ℕ → Type 0
SoFar P xs n = (i : ℕ) (x : _) → i < n → slice_get xs i ≡ Some x → P x

pub so_far_next : {X : Type 0} (P : X → Type 0) (xs : List X) (n : ℕ) (here : X) → here ≡ get_or xs n here → P here → SoFar P xs n → SoFar P xs (n + 1)
so_far_next P xs n here is holds before i x lt at = elim (cases_lt i n) [
  | inl l ↦ before i x l at
  | inr ge ↦
      let e : i ≡ n = omega (arith, lt, ge) in
      subst P (is ∙ get_or_from_slice_get xs n x here (subst (λ k. slice_get xs k ≡ Some x) e at)) holds
]

pub all_so_far : {X : Type 0} (P : X → Type 0) (xs : List X) (n : ℕ) → length xs ≤ n → SoFar P xs n → (i : ℕ) (x : X) → slice_get xs i ≡ Some x → P x
all_so_far P xs n le all i x at = (let within = slice_get_within xs i x at in all i x (omega (arith, within, le)) at)

-- It rests on, whatever the clocks say

pub rests_later : (until clock now : ℕ) (d : Dif) (below : Seen) → RestsUntil until d below → RestsUntil until (record d { clock = clock }) (record below { now = now })
rests_later until clock now d below rest = record {
  alive = rest.alive;
  processes = λ i p is. (let r = rest.processes i p is in record { empty = r.empty; none_comes = r.none_comes; none_lost = λ place link lost. r.none_lost place link (record { stands = lost.stands; live = lost.live; no_more = lost.no_more }) });
  messages = rest.messages;
  flows = rest.flows;
  links = rest.links;
  asks = rest.asks;
}

-- What comes

-- nothing waits at the link that is found by its number
none_at : (p : IpcProcess) (below : Seen) (n : ℕ) (link : Link) → IsAtRest p below → link_by n p.links ≡ Some link → unpassed below link.port ≡ None
none_at p below n link rest is =
    let live = live_by (process_of p ∷ []) 0 n (process_of p) link refl is in
    let same : live.process ≡ process_of p = same_Some live.process (process_of p) (sym live.is_process) in
    subst (λ (port : Port). unpassed below port ≡ None) live.port_is (rest.none_comes live.place live.link (ap (λ (x : Process). slice_get x.links live.place) (sym same) ∙ live.stands) live.live)

module _ (until : ℕ) (d : Dif) (below : Seen) (node n : ℕ) (rest : RestsUntil until d below) where
  abbrev InAnswer : ℕ → Type 0
  InAnswer i = (a : Result InStep StepError) × TakesNone a × ((lines : List Direction) → Ins (seen_of d) lines below i n a (seen_of d) lines below)

  in_link : (i : ℕ) (p : IpcProcess) (l : Option Link) → slice_get d.processes i ≡ Some p → link_by n p.links ≡ l → InAnswer i
  in_link i p (Some link) is found = (Ok ins.Idle, tt, λ lines. (record { process = process_of p; link = link; is_process = shown_at d i (Some p) is; is_link = found; none = none_at p below n link (rest.processes i p is) found }, refl, refl, refl))
  in_link i p None is found = (Err NoLink, tt, λ lines. (record { process = process_of p; is_process = shown_at d i (Some p) is; none = found }, refl, refl, refl))

  in_process : (i : ℕ) (o : Option IpcProcess) → slice_get d.processes i ≡ o → InAnswer i
  in_process i (Some p) is = in_link i p (link_by n p.links) is refl
  in_process i None is = (Err NoIpc, tt, λ lines. (shown_at d i None is, refl, refl, refl))

  in_at : (i : ℕ) (lines : List Direction) (a : Result InStep StepError) → TakesNone a → home_of d node ≡ Some i → Ins (seen_of d) lines below i n a (seen_of d) lines below → InsAt (seen_of d) lines below node n a (seen_of d) lines below
  in_at i lines (Ok ins.Idle) none is done = at_home (home_of d node) i _ _ is done
  in_at i lines (Err NoLink) none is done = at_home (home_of d node) i _ _ is done
  in_at i lines (Err NoIpc) none is done = at_home (home_of d node) i _ _ is done
  in_at i lines a none is done = absurd none

  in_home : (h : Option ℕ) → home_of d node ≡ h → (a : Result InStep StepError) × TakesNone a × ((lines : List Direction) → InsAt (seen_of d) lines below node n a (seen_of d) lines below)
  in_home (Some i) is = (let a = in_process i (slice_get d.processes i) refl in (a.0, a.1, λ lines. in_at i lines a.0 a.1 is (a.2 lines)))
  in_home None is = (Err NoIpc, tt, λ lines. not_home (home_of d node) _ _ is (refl, refl, refl, refl))

  -- no management connection changed
  no_links : (h : Option ℕ) (links : List Direction) (a : Result InStep StepError) → TakesNone a → AtHome h (λ i. TakesLinks d links below i n a d) (d.connections ≡ d.connections)
  no_links (Some i) links (Ok ins.Idle) none = refl
  no_links (Some i) links (Err NoLink) none = refl
  no_links (Some i) links (Err NoIpc) none = refl
  no_links (Some i) links a none = absurd none
  no_links None links a none = refl

  -- nothing came that could be handled
  none_handled : (h : Option ℕ) (a : Result InStep StepError) → TakesNone a → AtHome h (λ i. Handles d below i n a d below d) (d ≡ d)
  none_handled (Some i) (Ok ins.Idle) none = refl
  none_handled (Some i) (Err NoLink) none = refl
  none_handled (Some i) (Err NoIpc) none = refl
  none_handled (Some i) a none = absurd none
  none_handled None a none = refl

  -- nor were messages about flows
  brought_none : (i : ℕ) (a : Result InStep StepError) → TakesNone a → AreBrought d below i n a []
  brought_none i (Ok ins.Idle) none = refl
  brought_none i (Err NoLink) none = refl
  brought_none i (Err NoIpc) none = refl
  brought_none i a none = absurd none

  none_told : (lines : List Direction) (h : Option ℕ) (a : Result InStep StepError) → TakesNone a → AtHome h (λ i. TellsFlows d below i n a d lines below a d lines) (TellsNothing a d lines a d lines)
  none_told lines (Some i) a none = record { messages = []; are = brought_none i a none; stopped = Ok tt; handles = (refl, refl, refl); ends = refl }
  none_told lines None a none = (refl, refl, refl)

  pub in_rests : (a : Result InStep StepError) × TakesNone a × ((lines : List Direction) → Holds d lines below → TakesHome d lines below node n a d below)
  in_rests = (let a = in_home (home_of d node) refl in (
    a.0,
    a.1,
    λ lines h. record {
      answer = a.0;
      between = lines;
      taken = d;
      does = a.2 lines;
      links = λ links. no_links (home_of d node) links.lines a.0 a.1;
      managed = refl;
      asks = refl;
      held = h;
      handled = d;
      handles = none_handled (home_of d node) a.0 a.1;
      rerouted = inl refl;
      stood = h;
      lines' = lines;
      told = none_told lines (home_of d node) a.0 a.1;
      holds = h;
    },
  ))

-- What leaves

none_wait : (p : IpcProcess) (below : Seen) (n : ℕ) → IsAtRest p below → NoneWait (process_of p) n
none_wait p below n rest k queue is of_link = (let m = map_at plain p.queues.queues.items k queue is in ap (λ (q : Queue). q.items) m.2 ∙ rest.empty k m.0 m.1)

no_process : (processes : List IpcProcess) (i : ℕ) (p : IpcProcess) → slice_get processes i ≡ None → slice_get processes i ≡ Some p → ⊥
no_process processes i p none is = cc

module _ (refuses : Port → ℕ → Option SendError) (may : ℕ → List Head → ℕ → Type 0) (held : Process → Queued → SendError → Type 0) (until : ℕ) (d : Dif) (below : Seen) (node n : ℕ) (rest : RestsUntil until d below) where
  -- nothing was sent, and the shelf was not asked
  abbrev OutAnswer : ℕ → Type 0
  OutAnswer i = (a : Result OutStep StepError) × SendsNone a × Outs refuses (seen_of d) below i n a (seen_of d) below × ((slots : List Slot) → AsksAt may held d.settings n i slots slots d.processes a d.processes)

  same_process : (i : ℕ) (p : IpcProcess) → slice_get d.processes i ≡ Some p → seen_of d ≡ with_process (seen_of d) i (process_of p)
  same_process i p is = ap (λ (ps : List Process). record (seen_of d) { processes = ps }) (sym (slice_set-same (map process_of d.processes) i (process_of p) (shown_at d i (Some p) is)))

  out_link : (i : ℕ) (p : IpcProcess) (l : Option Link) → slice_get d.processes i ≡ Some p → link_by n p.links ≡ l → OutAnswer i
  out_link i p (Some link) is found = (Ok outs.Idle, tt, record { process = process_of p; process' = process_of p; is_process = shown_at d i (Some p) is; done = ((link, found), none_wait p below n (rest.processes i p is), refl, refl); new_is = same_process i p is }, λ slots member q q' x y z. refl)
  out_link i p None is found = (Err NoLink, tt, record { process = process_of p; process' = process_of p; is_process = shown_at d i (Some p) is; done = (found, refl, refl); new_is = same_process i p is }, λ slots member q q' x y z. refl)

  out_process : (i : ℕ) (o : Option IpcProcess) → slice_get d.processes i ≡ o → OutAnswer i
  out_process i (Some p) is = out_link i p (link_by n p.links) is refl
  out_process i None is = (Err NoIpc, tt, (shown_at d i None is, refl, refl), λ slots member q q' x y z. absurd (no_process d.processes i q is y))

  out_at : (i : ℕ) (a : Result OutStep StepError) → SendsNone a → home_of d node ≡ Some i → Outs refuses (seen_of d) below i n a (seen_of d) below → OutsAt refuses (seen_of d) below node n a (seen_of d) below
  out_at i (Ok outs.Idle) none is done = at_home (home_of d node) i _ _ is done
  out_at i (Err NoLink) none is done = at_home (home_of d node) i _ _ is done
  out_at i (Err NoIpc) none is done = at_home (home_of d node) i _ _ is done
  out_at i a none is done = absurd none

  abbrev OutRests : Type 0
  OutRests = (a : Result OutStep StepError) × SendsNone a × OutsAt refuses (seen_of d) below node n a (seen_of d) below × ((slots : List Slot) → AsksHome may held d.settings node n slots slots d.processes a d.processes)

  out_home : (h : Option ℕ) → home_of d node ≡ h → OutRests
  out_home (Some i) is = (let a = out_process i (slice_get d.processes i) refl in (a.0, a.1, out_at i a.0 a.1 is a.2, λ slots. at_home (home_of d node) i _ _ is (a.3 slots)))
  out_home None is = (Err NoIpc, tt, not_home (home_of d node) _ _ is (refl, refl, refl), λ slots. not_home (home_of d node) _ _ is refl)

  pub out_rests : OutRests
  out_rests = out_home (home_of d node) refl

-- What comes with time

-- no message waits first where none waits
none_first : (number : ℕ) (g : Management) (waiting : Waiting) → g.agent.agenda ≡ [] → first_on number g.agent.agenda ≡ Some waiting → ⊥
none_first number g waiting none first = (let no : None ≡ Some waiting = ap (first_on number) (sym none) ∙ first in absurd cc)

module _ (until : ℕ) (d : Dif) (below : Seen) (node : ℕ) (before : d.clock < until) (rest : RestsUntil until d below) (none_comes : NoneComesAt d below node) where
  none_due : (item : Item) (lines : List Direction) → Holds d lines below → NoneDue item d lines node
  none_due item lines h = λ at due. false≢true ((rest.flows d.clock before at item (config_of d.settings) lines due.here.end h.standing.journal h.tied due.here.is_end due.here.allocated).1 due.due)

  is_idle : (lines : List Direction) → Holds d lines below → IsIdle d lines node
  is_idle lines h = record { gone = none_due Gone lines h; give_up = none_due GiveUp lines h; ack = none_due Ack lines h; again = none_due Again lines h }

  no_link_due : (item : Item) (i : ℕ) (links : LinksStand d below) → NoLinkDue item d links.lines i
  no_link_due item i links = λ place number due. false≢true ((rest.links d.clock before place item (link_config (config_of d.settings) d.connections.manage) links.lines due.here.end links.standing.journal links.tied due.here.is_end due.here.allocated).1 due.due)

  none_late : NoneLate d node
  none_late = rest.asks d.clock node before

  none_lost : NoneLostAt d below node
  none_lost = λ i p here is. (rest.processes i p is).none_lost

  no_message : NoMessageAt d below node
  no_message = λ i here links place number due. none_first number due.first.management due.first.waiting (rest.messages i due.first.management due.first.is_management) due.first.first

  abbrev ClockAnswer : Type 0
  ClockAnswer = (a : Result ClockStep StepError) × DoesNone a × ((lines : List Direction) → Holds d lines below → ClockStepsAt d lines below node a d lines below) × ManagesStep a (home_of d node) d below node d.managements × KeepsStep a d node d

  clock_home : (h : Option ℕ) → home_of d node ≡ h → ClockAnswer
  clock_home (Some i) is = (Ok clocks.Idle, tt, λ lines h. at_home (home_of d node) i _ _ is (none_lost, record { mid = below; none = inl (none_comes, refl); holds = h; serves = inl (inl (record { does = (is_idle lines h, refl, refl); same = refl; same_below = refl; first = λ k here links. ((no_link_due Gone k links, no_link_due GiveUp k links, no_link_due Ack k links), no_link_due Again k links); no_ask = none_late }), no_message) }), refl, refl)
  clock_home None is = (Err NoIpc, tt, λ lines h. not_home (home_of d node) _ _ is (refl, refl, refl, refl), refl, refl)

  pub clock_rests : (a : Result ClockStep StepError) × DoesNone a × ((lines : List Direction) → Holds d lines below → ClockSteps d lines below node a d below)
  clock_rests = (let a = clock_home (home_of d node) refl in (a.0, a.1, λ lines h. record { lines' = lines; does = a.2 lines h; managed = a.3; keeps = a.4; holds = h }))

-- no flow fails
pub none_fails : (d : Dif) (lines : List Direction) (below : Seen) → FailsLate d lines below d
none_fails d lines below = λ at end end' fail is is' state. inl (ap (λ (e : End). e.state) (same_Some end end' (sym is ∙ is')) ∙ state)
