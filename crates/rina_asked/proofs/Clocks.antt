-- What is due is done.
use Rattle.std.proofs.Common.{◌≡◌, ◌∙◌, ◌⊎◌, inl, inr, ⊎_elim, ℕ, zero, suc, List, length, Option, Some, None, Result, Ok, Err, refl, sym, ap, subst}
use Rattle.std.specs.Prelude.{OnErr}
use Rattle.rina_base.specs.declared.number.Port.{Port}
use Rattle.rina_agent.specs.Agenda.{waits_on}
use Rattle.rina_data.specs.declared.link.Link.{Link}
use Rattle.rina_data.specs.declared.step.ClockStep.{ClockStep}
use Rattle.rina_data.specs.declared.step.ClockStep.TheVariants as step
use Rattle.rina_data.specs.declared.step.StepError.{StepError}
use Rattle.rina_data.specs.declared.step.StepError.TheVariants as errors
use Rattle.rina_data.specs.Configs.{config_of}
use Rattle.rina_dif_law.specs.Dif.{DifSeen}
use Rattle.rina_dif_law.specs.Losing.{FailFirst, MayFail}
use Rattle.rina_dif_law.specs.Sending.{home}
use Rattle.rina_flows.specs.Tied.{conns_of}
use Rattle.rina_flows.specs.declared.flows.Flows.{Flows}
use Rattle.rina_iface.specs.declared.ends.Journal.{Journal}
use Rattle.rina_iface.specs.declared.state.Fail.{Fail}
use Rattle.rina_iface.specs.declared.state.Fail.TheVariants.{Below}
use Rattle.rina_iface.specs.Seen.{Seen}
use Rattle.rina_law.specs.Direction.{Direction}
use Rattle.rina_member.specs.declared.management.Management.{Management}
use Rattle.rina_member.specs.Managements.{IsSduOf, claimed, with_agent, with_sent, without_flows}
use Rattle.rina_member.proofs.Lists.{found}
use Rattle.rina_dif.specs.declared.dif.Dif.{Dif}
use Rattle.rina_dif.specs.Changing.{LosesManaged, ended_with}
use Rattle.rina_dif.specs.Clocking.{ClockStepsAt, Serves, ServesAny, Steps, StepsFlow}
use Rattle.rina_dif.specs.Closing.{ClosesOn}
use Rattle.rina_dif.specs.Elsewhere.{home_of}
use Rattle.rina_dif.specs.FlowEnds.{ManagesStep}
use Rattle.rina_dif.specs.Holding.{Holds, LinksStand}
use Rattle.rina_dif.specs.LinkSteps.{DoesLink}
use Rattle.rina_dif.specs.Messaging.{OffersDue}
use Rattle.rina_dif.specs.Shown.{seen_of}
use Rattle.rina_dif.specs.Steps.{AtHome}
use Rattle.rina_dif.specs.Unlinking.{FailsWith, links_without, with_lost}
use Rattle.rina_dif.proofs.Flooding.{SameTexts, set_said}
use Rattle.rina_asked.specs.Calls.{ClockKeeps}
use Rattle.rina_asked.specs.Messages.{IsOnLink, IsOnWay}
use Rattle.rina_asked.proofs.Agendas.{AddsNear, adds_same, lost_adds, sent_adds}
use Rattle.rina_asked.proofs.Askers.{askers_go_on, names_same}
use Rattle.rina_asked.proofs.Calls.{gives_up_adds}
use Rattle.rina_asked.proofs.Drawn.{ids_kept}
use Rattle.rina_asked.proofs.Fewer.{FewerOnWay, fewer_both}
use Rattle.rina_asked.proofs.Keeps.{stays}
use Rattle.rina_asked.proofs.Offered.{offered_fewer}
use Rattle.rina_asked.proofs.Quiet.{Lasts, as_long, ends_go_on}
use Rattle.rina_asked.proofs.Links.{NoMoreOnLinks, ends_links, links_same, offered_links, said_links}
use Rattle.rina_asked.proofs.Waiting.{Adds, IsOther, near_changed, near_set, same_added, without_agent}

-- The flows

abbrev pub SameConns : DifSeen → DifSeen → Type 0
SameConns d d' = d'.conns ≡ d.conns

conns_by : (d z : DifSeen) → z ≡ d → z.conns ≡ d.conns
conns_by d z same = ap (λ (x : DifSeen). x.conns) same

flow_conns : (d : Dif) (lines : List Direction) (node : ℕ) (done : ClockStep) (new : DifSeen) (lines' : List Direction) → StepsFlow d lines node done new lines' → SameConns (seen_of d) new
flow_conns d lines node step.Idle new lines' s = ap (λ (x : DifSeen). x.conns) s.1
flow_conns d lines node (step.Gone cep) new lines' s = ap (λ (x : DifSeen). x.conns) s.forgotten.new_is
flow_conns d lines node (step.GaveUp num) new lines' s = ap (λ (x : DifSeen). x.conns) s.given_up.ended.new_is
flow_conns d lines node (step.Ack cep) new lines' s = ap (λ (x : DifSeen). x.conns) s.acknowledged.new_is
flow_conns d lines node (step.Again num) new lines' s = ap (λ (x : DifSeen). x.conns) s.resent.new_is
flow_conns d lines node (step.LinkLost link) new lines' s = absurd s
flow_conns d lines node (step.LinkNew link) new lines' s = absurd s
flow_conns d lines node (step.Timeout port) new lines' s = absurd s
flow_conns d lines node (step.Message link) new lines' s = absurd s

may_conns : (lines : List Direction) (node : ℕ) (fail : Fail) (at : ℕ) (d d' : DifSeen) → MayFail lines node fail at d d' → SameConns d d'
may_conns lines node fail at d d' (inl f) = ap (λ (x : DifSeen). x.conns) f.1.new_is
may_conns lines node fail at d d' (inr same) = ap (λ (x : DifSeen). x.conns) same.1

first_conns : (lines : List Direction) (node : ℕ) (fail : Fail) (n : ℕ) (d d' : DifSeen) → FailFirst lines node fail n d d' → SameConns d d'
first_conns lines node fail zero d d' same = ap (λ (x : DifSeen). x.conns) same
first_conns lines node fail (suc n) d d' f = may_conns lines node fail n f.0 d' f.2 ∙ first_conns lines node fail n d f.0 f.1

fails_conns : (links : List Link) (below : Seen) (port : Port) (lines : List Direction) (node : ℕ) (d d' : DifSeen) → FailsWith links below port lines node d d' → SameConns d d'
fails_conns links below port lines node d d' (inl f) = first_conns lines node (Below port) (length d.ends) d d' f.1
fails_conns links below port lines node d d' (inr same) = ap (λ (x : DifSeen). x.conns) same.1

serves_conns : (d : Dif) (lines : List Direction) (below : Seen) (node : ℕ) (done : ClockStep) (d' : Dif) (lines' : List Direction) (below' : Seen) → ServesAny d lines below node done d' lines' below' → SameConns (seen_of d) (seen_of d')
serves_conns d lines below node done d' lines' below' (inl s) = by_kind s.0
  where
    by_kind : Serves d lines below node done d' lines' below' → SameConns (seen_of d) (seen_of d')
    by_kind (inl f) = flow_conns d lines node done (seen_of d') lines' f.does
    by_kind (inr (inl l)) = ap (λ (z : Dif). (seen_of z).conns) l.0.only
    by_kind (inr (inr a)) = ap (λ (x : DifSeen). x.conns) a.0.times_out.turns_down.turned.new_is
serves_conns d lines below node done d' lines' below' (inr s) = ap (λ (z : Dif). (seen_of z).conns) s.0.sends.only

steps_conns : (d : Dif) (lines : List Direction) (below : Seen) (node : ℕ) (done : ClockStep) (d' : Dif) (lines' : List Direction) (below' : Seen) → Steps d lines below node done d' lines' below' → SameConns (seen_of d) (seen_of d')
steps_conns d lines below node (step.LinkLost link) d' lines' below' s =
    let w = s.0.loses in
    let l = w.loses.loses in
    fails_conns (links_without l.process.links l.place l.link) below l.link.port lines node (with_lost (seen_of d) s.0.i l.place l.link w.loses.routes l.process w.offs) (seen_of d') w.fails
steps_conns d lines below node (step.LinkNew link) d' lines' below' s = ap (λ (z : Dif). (seen_of z).conns) s.1.takes.only
steps_conns d lines below node step.Idle d' lines' below' s = serves_conns d lines s.1.mid node step.Idle d' lines' below' s.1.serves
steps_conns d lines below node (step.Gone cep) d' lines' below' s = serves_conns d lines s.1.mid node (step.Gone cep) d' lines' below' s.1.serves
steps_conns d lines below node (step.GaveUp num) d' lines' below' s = serves_conns d lines s.1.mid node (step.GaveUp num) d' lines' below' s.1.serves
steps_conns d lines below node (step.Ack cep) d' lines' below' s = serves_conns d lines s.1.mid node (step.Ack cep) d' lines' below' s.1.serves
steps_conns d lines below node (step.Again num) d' lines' below' s = serves_conns d lines s.1.mid node (step.Again num) d' lines' below' s.1.serves
steps_conns d lines below node (step.Timeout port) d' lines' below' s = serves_conns d lines s.1.mid node (step.Timeout port) d' lines' below' s.1.serves
steps_conns d lines below node (step.Message link) d' lines' below' s = serves_conns d lines s.1.mid node (step.Message link) d' lines' below' s.1.serves

-- What waits at the members

lost_managed : (d : Dif) (below : Seen) (at node number : ℕ) (new : List Management) → LosesManaged d below at node number new → Adds IsOther d.managements new
lost_managed d below at node number new l =
    let ceps = ended_with l.last node d.flows in
    let near = subst (AddsNear l.management.agent) (sym (without_agent l.after ceps)) (lost_adds l.management.agent l.after.agent d.clock number l.loses.loses) in
    subst (Adds IsOther d.managements) (sym l.are) (near_set d.managements at l.management (without_flows l.after ceps) l.is_management near)

gave_up : (d : Dif) (below : Seen) (at node : ℕ) (new : List Management) (num : _) → ManagesStep (Ok (step.GaveUp num)) (Some at) d below node new → Adds IsOther d.managements new
gave_up d below at node new num (inl g) = gives_up_adds d at g.1.place new g.1.gives
gave_up d below at node new num (inr same) = same_added IsOther d.managements new same.1

step_adds : (result : Result ClockStep StepError) (o : Option ℕ) (d : Dif) (below : Seen) (node : ℕ) (new : List Management) → (result ≡ Err errors.Memory → ⊥) → ManagesStep result o d below node new → Adds IsOther d.managements new
step_adds (Ok (step.LinkLost number)) (Some at) d below node new some m = lost_managed d below at node number new m
step_adds (Ok (step.LinkNew number)) (Some at) d below node new some m = subst (Adds IsOther d.managements) (sym m) (near_changed at (λ x. with_agent x (claimed x.agent number)) d.managements (λ x. adds_same x.agent (claimed x.agent number) refl (ids_kept x.agent (claimed x.agent number) refl refl)))
step_adds (Ok (step.GaveUp num)) (Some at) d below node new some m = gave_up d below at node new num m
step_adds (Ok (step.Message number)) (Some at) d below node new some m = subst (Adds IsOther d.managements) (sym m) (near_changed at (λ x. with_sent x number) d.managements (λ x. sent_adds number x.agent))
step_adds (Ok step.Idle) (Some at) d below node new some m = same_added IsOther d.managements new m
step_adds (Ok (step.Gone cep)) (Some at) d below node new some m = same_added IsOther d.managements new m
step_adds (Ok (step.Ack cep)) (Some at) d below node new some m = same_added IsOther d.managements new m
step_adds (Ok (step.Again num)) (Some at) d below node new some m = same_added IsOther d.managements new m
step_adds (Ok (step.Timeout port)) (Some at) d below node new some m = same_added IsOther d.managements new m
step_adds (Err errors.Memory) (Some at) d below node new some m = absurd (some refl)
step_adds (Err (errors.CountSpent need left)) (Some at) d below node new some m = same_added IsOther d.managements new m
step_adds (Err errors.NoIpc) (Some at) d below node new some m = same_added IsOther d.managements new m
step_adds (Err errors.NoLink) (Some at) d below node new some m = same_added IsOther d.managements new m
step_adds (Ok (step.LinkLost number)) None d below node new some m = same_added IsOther d.managements new m
step_adds (Ok (step.LinkNew number)) None d below node new some m = same_added IsOther d.managements new m
step_adds (Ok (step.GaveUp num)) None d below node new some m = same_added IsOther d.managements new m
step_adds (Ok (step.Message number)) None d below node new some m = same_added IsOther d.managements new m
step_adds (Ok step.Idle) None d below node new some m = same_added IsOther d.managements new m
step_adds (Ok (step.Gone cep)) None d below node new some m = same_added IsOther d.managements new m
step_adds (Ok (step.Ack cep)) None d below node new some m = same_added IsOther d.managements new m
step_adds (Ok (step.Again num)) None d below node new some m = same_added IsOther d.managements new m
step_adds (Ok (step.Timeout port)) None d below node new some m = same_added IsOther d.managements new m
step_adds (Err errors.Memory) None d below node new some m = absurd (some refl)
step_adds (Err (errors.CountSpent need left)) None d below node new some m = same_added IsOther d.managements new m
step_adds (Err errors.NoIpc) None d below node new some m = same_added IsOther d.managements new m
step_adds (Err errors.NoLink) None d below node new some m = same_added IsOther d.managements new m

-- What is on the links

-- a message is offered
pub record OffersOne (d d' : Dif) : Type 0 where
  below : Seen
  links : List Direction
  i : ℕ
  place : ℕ
  number : ℕ
  offers : OffersDue d below links i place number d'

-- it is that of one message more, which waits no more, or there is no more of it
abbrev pub OnWay : Dif → Dif → Type 0
OnWay d d' = NoMoreOnLinks d d' ⊎ OffersOne d d'

by_links : (d d' : Dif) → NoMoreOnLinks d d' → OnWay d d'
by_links d d' links = inl links

-- the first message of a member is offered
offered_way : (d : Dif) (below : Seen) (links : List Direction) (i place number : ℕ) (d' : Dif) → OffersDue d below links i place number d' → (text : List ℕ) → IsOnLink d' text → IsOnWay d text
offered_way d below links i place number d' s text on =
    let o = s.offered.offers in
    let ends : d'.connections.flows.journal.ends ≡ s.offered.ends' = (λ j. (s.offered.new_is j).ends) in
    let first = s.due.first in
    ⊎_elim (λ old. inr old) (λ same. inl (record {
      place = i;
      management = first.management;
      is_management = first.is_management;
      waiting = first.waiting;
      waits = (found (waits_on number) first.management.agent.agenda first.waiting first.first).0;
      written = subst (IsSduOf first.waiting.message) (sym s.due.cut.1 ∙ same) first.is_sdu;
    })) (offered_links d d' place o.end _ o.place.is_conn.end (ends ∙ o.offered.3) text on)

on_way : (d d' : Dif) → OnWay d d' → (text : List ℕ) → IsOnLink d' text → IsOnWay d text
on_way d d' (inl links) text on = inr (links.more text on)
on_way d d' (inr o) text on = offered_way d o.below o.links o.i o.place o.number d' o.offers text on

way_fewer : (d d' : Dif) → Adds IsOther d.managements d'.managements → OnWay d d' → FewerOnWay d d'
way_fewer d d' adds (inl links) = fewer_both d d' adds links
way_fewer d d' adds (inr o) = offered_fewer d o.below o.links o.i o.place o.number d' o.offers

link_way : (d : Dif) (links : List Direction) (below : Seen) (i place : ℕ) (done : ClockStep) (new : DifSeen) (flows' : Flows) (below' : Seen) → DoesLink d links below i place done new flows' below' → flows'.journal ≡ d.connections.flows.journal
link_way d links below i place step.Idle new flows' below' s = absurd s
link_way d links below i place (step.Gone cep) new flows' below' s = s.1.behind.journal
link_way d links below i place (step.GaveUp num) new flows' below' s = ap (λ (f : Flows). f.journal) s.same.1
link_way d links below i place (step.Ack cep) new flows' below' s = s.1.behind.journal
link_way d links below i place (step.Again num) new flows' below' s = s.0.behind.journal
link_way d links below i place (step.LinkLost link) new flows' below' s = absurd s
link_way d links below i place (step.LinkNew link) new flows' below' s = absurd s
link_way d links below i place (step.Timeout port) new flows' below' s = absurd s
link_way d links below i place (step.Message link) new flows' below' s = absurd s

serves_way : (d : Dif) (lines : List Direction) (below : Seen) (node : ℕ) (done : ClockStep) (d' : Dif) (lines' : List Direction) (below' : Seen) → LinksStand d below → ServesAny d lines below node done d' lines' below' → OnWay d d'
serves_way d lines below node done d' lines' below' links (inl s) = by_kind s.0
  where
    by_kind : Serves d lines below node done d' lines' below' → OnWay d d'
    by_kind (inl f) = by_links d d' (links_same d d' f.same)
    by_kind (inr (inl l)) = (let one = l.0.does links in by_links d d' (ends_links d d' (ap (λ (j : Journal). j.ends) (link_way d links.lines below l.0.i one.place done (seen_of d') d'.connections.flows below' one.does))))
    by_kind (inr (inr a)) = by_links d d' (links_same d d' (ap (λ (z : Dif). z.connections) a.0.only))
serves_way d lines below node done d' lines' below' links (inr s) = (let o = s.0.sends.offers links in inr (record { below = below; links = links.lines; i = s.0.sends.i; place = o.place; number = s.0.number; offers = o.offers }))

closes_way : (d d' : Dif) (links : List Direction) (port : Port) (offs : _) → ClosesOn (config_of d.settings) d.clock links port offs d.connections d'.connections → OnWay d d'
closes_way d d' links port offs (inl c) = (let e = c.2.ends in by_links d d' (said_links d d' (subst (SameTexts d.connections.flows.journal.ends) (sym e.ends_are) (set_said d.connections.flows.journal.ends c.0 e.end _ e.is_conn.end refl refl))))
closes_way d d' links port offs (inr same) = by_links d d' (links_same d d' same.2)

steps_way : (d : Dif) (lines : List Direction) (below : Seen) (node : ℕ) (done : ClockStep) (d' : Dif) (lines' : List Direction) (below' : Seen) → Holds d lines below → Steps d lines below node done d' lines' below' → OnWay d d'
steps_way d lines below node (step.LinkLost link) d' lines' below' h s = closes_way d d' h.connected.lines s.0.loses.loses.loses.link.port s.0.loses.offs (s.0.loses.closes h.connected)
steps_way d lines below node (step.LinkNew link) d' lines' below' h s = by_links d d' (ends_links d d' (λ j. (s.1.takes.connections j).flows.journal.ends))
steps_way d lines below node step.Idle d' lines' below' h s = serves_way d lines s.1.mid node step.Idle d' lines' below' s.1.holds.connected s.1.serves
steps_way d lines below node (step.Gone cep) d' lines' below' h s = serves_way d lines s.1.mid node (step.Gone cep) d' lines' below' s.1.holds.connected s.1.serves
steps_way d lines below node (step.GaveUp num) d' lines' below' h s = serves_way d lines s.1.mid node (step.GaveUp num) d' lines' below' s.1.holds.connected s.1.serves
steps_way d lines below node (step.Ack cep) d' lines' below' h s = serves_way d lines s.1.mid node (step.Ack cep) d' lines' below' s.1.holds.connected s.1.serves
steps_way d lines below node (step.Again num) d' lines' below' h s = serves_way d lines s.1.mid node (step.Again num) d' lines' below' s.1.holds.connected s.1.serves
steps_way d lines below node (step.Timeout port) d' lines' below' h s = serves_way d lines s.1.mid node (step.Timeout port) d' lines' below' s.1.holds.connected s.1.serves
steps_way d lines below node (step.Message link) d' lines' below' h s = serves_way d lines s.1.mid node (step.Message link) d' lines' below' s.1.holds.connected s.1.serves

-- By the answer

abbrev Nowhere : Dif → List Direction → Seen → Result ClockStep StepError → Dif → List Direction → Seen → Type 0
Nowhere d lines below result d' lines' below' = (result ≡ Err errors.NoIpc) × (seen_of d' ≡ seen_of d) × (lines' ≡ lines) × (below' ≡ below)

either : (o : Option ℕ) (P Q : Type 0) → AtHome o (λ i. P) Q → P ⊎ Q
either (Some i) P Q p = inl p
either None P Q q = inr q

no_err : (done : ClockStep) (e : StepError) → Ok done ≡ Err e → ⊥
no_err done e same = absurd cc

-- where nothing is done
pub record IsDone (d d' : Dif) : Type 0 where
  pub conns : SameConns (seen_of d) (seen_of d')
  pub way : OnWay d d'

idle_done : (d d' : Dif) → seen_of d' ≡ seen_of d → d'.connections ≡ d.connections → IsDone d d'
idle_done d d' seen connections = record { conns = conns_by (seen_of d) (seen_of d') seen; way = by_links d d' (links_same d d' connections) }

pub answer_done : (d : Dif) (lines : List Direction) (below : Seen) (node : ℕ) (result : Result ClockStep StepError) (d' : Dif) (lines' : List Direction) (below' : Seen) → Holds d lines below → (result ≡ Err errors.Memory → ⊥) → OnErr result (d'.connections ≡ d.connections) → ClockStepsAt d lines below node result d' lines' below' → IsDone d d'
answer_done d lines below node (Ok done) d' lines' below' h some stays s = elim (either (home node (config_of d.settings).members) (Steps d lines below node done d' lines' below') (Nowhere d lines below (Ok done) d' lines' below') s) [
  | inl one ↦ record { conns = steps_conns d lines below node done d' lines' below' one; way = steps_way d lines below node done d' lines' below' h one }
  | inr none ↦ absurd (no_err done errors.NoIpc none.0)
]
answer_done d lines below node (Err errors.Memory) d' lines' below' h some stays s = absurd (some refl)
answer_done d lines below node (Err (errors.CountSpent need left)) d' lines' below' h some stays s = idle_done d d' s.1 stays
answer_done d lines below node (Err errors.NoIpc) d' lines' below' h some stays s = ⊎_elim (λ none. absurd none) (λ same. idle_done d d' same.1 stays) (either (home node (config_of d.settings).members) ⊥ (Nowhere d lines below (Err errors.NoIpc) d' lines' below') s)
answer_done d lines below node (Err errors.NoLink) d' lines' below' h some stays s = ⊎_elim (λ none. absurd none) (λ same. idle_done d d' same.1 stays) (either (home node (config_of d.settings).members) ⊥ (Nowhere d lines below (Err errors.NoLink) d' lines' below') s)

-- so what is on a link then was on its way before
pub clock_way : (d : Dif) (lines : List Direction) (below : Seen) (node : ℕ) (result : Result ClockStep StepError) (d' : Dif) (lines' : List Direction) (below' : Seen) → Holds d lines below → (result ≡ Err errors.Memory → ⊥) → OnErr result (d'.connections ≡ d.connections) → ClockStepsAt d lines below node result d' lines' below' → (text : List ℕ) → IsOnLink d' text → IsOnWay d text
clock_way d lines below node result d' lines' below' h some stays s = on_way d d' (answer_done d lines below node result d' lines' below' h some stays s).way

pub clock_keeps : (P : Dif → Type 0) → Lasts P → ClockKeeps P
clock_keeps P lasts d d' below below' node result st does ok goes notes = stays P d d' result (Err errors.Memory) notes (λ some.
    (let c = does st.0 st.1 in
    let done = answer_done d st.0 below node result d' c.lines' below' st.1 some ok c.does in
    let adds = step_adds result (home_of d node) d below node d'.managements some c.managed in
    lasts d d' (record {
      askers = askers_go_on d d' goes (names_same (conns_of d.flows.conns) (conns_of d'.flows.conns) done.conns);
      ends = ends_go_on d d' goes (as_long d d' st.0 c.lines' below below' st.1 c.holds done.conns);
      adds = adds;
      way = on_way d d' done.way;
      fewer = way_fewer d d' adds done.way;
    })))
