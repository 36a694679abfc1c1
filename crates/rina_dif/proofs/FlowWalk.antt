-- What the messages about flows that a DIF handles are to its rank, and to what it keeps of its members.
use Rattle.std.proofs.Common.{◌≡◌, ◌∙◌, ℕ, ◌≤◌, List, [], ◌∷◌, ◌++◌, append_assoc, length, Option, Some, Result, Ok, Err, refl, sym, ap, subst, arith, inl, inr}
use Rattle.std.specs.Prelude.{◌≢◌, ◌<◌, OnErr, OnOk, slice_get, slice_set}
use Rattle.std.proofs.lemmas.Bool.{cases_lt}
use Rattle.std.proofs.lemmas.List.{length-map}
use Rattle.std.proofs.lemmas.Option.{same_Some}
use Rattle.rina_account.specs.declared.ledger.Off.{Off}
use Rattle.rina_alloc.specs.declared.message.FlowMessage.{FlowMessage}
use Rattle.rina_alloc.specs.declared.message.FlowWord.{FlowWord}
use Rattle.rina_alloc.specs.declared.message.FlowWord.TheVariants as words
use Rattle.rina_base.specs.declared.memory.Memory.{Memory}
use Rattle.rina_base.specs.declared.number.Port.{Port}
use Rattle.rina_iface.specs.declared.ends.End.{End}
use Rattle.rina_iface.specs.declared.state.PortState.TheVariants.{Allocated, Closed}
use Rattle.rina_iface.specs.Journal.{At}
use Rattle.rina_iface.specs.Seen.{Seen}
use Rattle.rina_law.specs.Direction.{Direction}
use Rattle.rina_data.specs.Configs.{config_of}
use Rattle.rina_conn.specs.declared.conn.Conn.{Conn}
use Rattle.rina_data.specs.declared.process.IpcProcess.{IpcProcess}
use Rattle.rina_data.specs.declared.settings.Member.{Member}
use Rattle.rina_data.specs.declared.settings.Settings.{Settings}
use Rattle.rina_data.proofs.Finding.{there}
use Rattle.rina_dif_law.specs.Sending.{home}
use Rattle.rina_dif_law.specs.Dif.{DifSeen}
use Rattle.rina_dif_law.specs.Numbered.{IsNumbered}
use Rattle.rina_dif_law.specs.Standing.{IsStanding}
use Rattle.rina_dif_law.specs.Upward.{IsSilent}
use Rattle.rina_dif_law.specs.WriteOffs.{MayWriteOff, NoPort}
use Rattle.rina_dif_law.proofs.Answered.{told_silent}
use Rattle.rina_dif_law.proofs.FarEnds.{silent_on}
use Rattle.rina_dif_law.proofs.FarMade.{made_silent}
use Rattle.rina_dif_law.proofs.Finishing.{ended_silent}
use Rattle.rina_dif_law.proofs.TurnedDown.{down_silent}
use Rattle.rina_dif_law.proofs.Upper.{silent_same}
use Rattle.rina_dif_law.proofs.Warranted.{answered_noted, ended_noted, made_noted, turned_down_noted}
use Rattle.rina_dif_law.proofs.Writing.{IsNoted, noted_as, noted_on, same_noted}
use Rattle.rina_flows.specs.declared.flows.Flows.{Flows}
use Rattle.rina_flows.specs.Calls.{Becomes}
use Rattle.rina_flows.specs.Elsewhere.{ChangesAt, SameBut}
use Rattle.rina_flows.specs.Tied.{ids_of}
use Rattle.rina_flows.proofs.Elsewhere.{by_adding_one, by_becoming, by_both, by_more, by_set}
use Rattle.rina_dif.specs.declared.dif.Dif.{Dif}
use Rattle.rina_dif.specs.Elsewhere.{ChangesOnly, ChangesProcess, IsEndHere, home_of}
use Rattle.rina_dif.specs.FlowMessages.{AsksWaitOn, ChangesFlowParts, HandlesFlow, HandlesFlows, MayChangeFlow, PassesOn, TakesFlow, TakesFlows, TakesWord}
use Rattle.rina_dif.specs.Holding.{Holds}
use Rattle.rina_dif.specs.Posting.{posts}
use Rattle.rina_dif.specs.Routing.{MayReroute}
use Rattle.rina_dif.specs.Shown.{seen_of}
use Rattle.rina_dif.specs.Waiting.{BeginToWait}
use Rattle.rina_dif.specs.Whole.{IsDif}
use Rattle.rina_dif.proofs.Elsewhere.{flows_none, none_process, only_more}
use Rattle.rina_dif.proofs.Waiting.{made_waits, no_fewer, none_begin, waits_on}

-- other next hops are nothing to the rank
pub silent_rerouted : (d mid d' : DifSeen) → MayReroute mid d' → IsSilent d mid → IsSilent d d'
silent_rerouted d mid d' (inl same) s = subst (IsSilent d) (sym same) s
silent_rerouted d mid d' (inr r) s = subst (IsSilent d) (sym r.is) (record { later = record { ends = s.later.ends; cubes = s.later.cubes }; fresh = s.fresh; same = s.same })

-- One message

pub flow_clock : (d : DifSeen) (lines : List Direction) (i : ℕ) (d' : DifSeen) (lines' : List Direction) → MayChangeFlow d lines i d' lines' → d'.clock ≡ d.clock
flow_clock d lines i d' lines' (inl same) = ap (λ (z : DifSeen). z.clock) same.0
flow_clock d lines i d' lines' (inr (inl m)) = ap (λ (z : DifSeen). z.clock) m.makes.new_is
flow_clock d lines i d' lines' (inr (inr (inl b))) = ap (λ (z : DifSeen). z.clock) b.answered.new_is
flow_clock d lines i d' lines' (inr (inr (inr (inl r)))) = ap (λ (z : DifSeen). z.clock) r.turned.new_is
flow_clock d lines i d' lines' (inr (inr (inr (inr c)))) = ap (λ (z : DifSeen). z.clock) c.ended.new_is

pub flow_silent : (d : DifSeen) (lines : List Direction) (i : ℕ) (d' : DifSeen) (lines' : List Direction) → MayChangeFlow d lines i d' lines' → IsSilent d d'
flow_silent d lines i d' lines' (inl same) = silent_same d d' (ap (λ (z : DifSeen). z.ends) same.0) (ap (λ (z : DifSeen). z.config) same.0) (ap (λ (z : DifSeen). z.clock) same.0)
flow_silent d lines i d' lines' (inr (inl m)) = made_silent d lines m.node m.asker_at d' lines' m.makes
flow_silent d lines i d' lines' (inr (inr (inl b))) = told_silent d b.place d' b.answered
flow_silent d lines i d' lines' (inr (inr (inr (inl r)))) = down_silent d r.place r.state d' r.turned
flow_silent d lines i d' lines' (inr (inr (inr (inr c)))) = ended_silent d lines c.place Closed d' c.ended

pub flow_waits : (d : DifSeen) (lines : List Direction) (i : ℕ) (d' : DifSeen) (lines' : List Direction) → MayChangeFlow d lines i d' lines' → BeginToWait d d'
flow_waits d lines i d' lines' (inl same) = none_begin d d' (ap (λ (z : DifSeen). z.waiting) same.0)
flow_waits d lines i d' lines' (inr (inl m)) = made_waits d lines m.node m.asker_at d' lines' m.makes
flow_waits d lines i d' lines' (inr (inr (inl b))) = none_begin d d' (ap (λ (z : DifSeen). z.waiting) b.answered.new_is)
flow_waits d lines i d' lines' (inr (inr (inr (inl r)))) = none_begin d d' (ap (λ (z : DifSeen). z.waiting) r.turned.new_is)
flow_waits d lines i d' lines' (inr (inr (inr (inr c)))) = none_begin d d' (ap (λ (z : DifSeen). z.waiting) c.ended.new_is)

-- what it writes off, it may write off
pub flow_noted : (d : DifSeen) (lines : List Direction) (below : Seen) (i : ℕ) (d' : DifSeen) (lines' : List Direction) → IsStanding d lines below × IsNumbered d below → MayChangeFlow d lines i d' lines' → IsNoted (MayWriteOff d lines below NoPort) d d'
flow_noted d lines below i d' lines' st (inl same) = same_noted _ d d' same.0
flow_noted d lines below i d' lines' st (inr (inl m)) = made_noted _ d lines m.node m.asker_at d' lines' m.makes
flow_noted d lines below i d' lines' st (inr (inr (inl b))) = answered_noted _ d b.place d' b.answered
flow_noted d lines below i d' lines' st (inr (inr (inr (inl r)))) = turned_down_noted _ d r.place r.state d' r.turned
flow_noted d lines below i d' lines' st (inr (inr (inr (inr c)))) = ended_noted d lines below c.place Closed d' st.0 st.1 c.ended

-- Several

pub clock_kept : (a b : ℕ) → b ≡ a → a ≤ b
clock_kept a b same = omega (arith, same)

pub flows_clock : (d : Dif) (lines : List Direction) (below : Seen) (i : ℕ) (ms : List FlowMessage) (r : Result (Unit {0}) Memory) (d' : Dif) (lines' : List Direction) → HandlesFlows d lines below i ms r d' lines' → d'.clock ≡ d.clock
flows_clock d lines below i [] r d' lines' h = ap (λ (z : Dif). z.clock) h.1
flows_clock d lines below i (m ∷ ms) r d' lines' (inl stops) = flow_clock (seen_of d) lines i (seen_of d') lines' stops.1.flow
flows_clock d lines below i (m ∷ ms) r d' lines' (inr h) = flows_clock h.0 h.1 below i ms r d' lines' h.4 ∙ flow_clock (seen_of d) lines i (seen_of h.0) h.1 h.2.flow

pub flows_silent : (d : Dif) (lines : List Direction) (below : Seen) (i : ℕ) (ms : List FlowMessage) (r : Result (Unit {0}) Memory) (d' : Dif) (lines' : List Direction) → HandlesFlows d lines below i ms r d' lines' → IsSilent (seen_of d) (seen_of d')
flows_silent d lines below i [] r d' lines' h = silent_same (seen_of d) (seen_of d') (ap (λ (z : Dif). (seen_of z).ends) h.1) (ap (λ (z : Dif). (seen_of z).config) h.1) (ap (λ (z : Dif). (seen_of z).clock) h.1)
flows_silent d lines below i (m ∷ ms) r d' lines' (inl stops) = flow_silent (seen_of d) lines i (seen_of d') lines' stops.1.flow
flows_silent d lines below i (m ∷ ms) r d' lines' (inr h) =
    silent_on (seen_of d) (seen_of h.0) (seen_of d') (clock_kept d.clock h.0.clock (flow_clock (seen_of d) lines i (seen_of h.0) h.1 h.2.flow)) (clock_kept h.0.clock d'.clock (flows_clock h.0 h.1 below i ms r d' lines' h.4))
    (flow_silent (seen_of d) lines i (seen_of h.0) h.1 h.2.flow) (flows_silent h.0 h.1 below i ms r d' lines' h.4)

pub flows_wait : (d : Dif) (lines : List Direction) (below : Seen) (i : ℕ) (ms : List FlowMessage) (r : Result (Unit {0}) Memory) (d' : Dif) (lines' : List Direction) → HandlesFlows d lines below i ms r d' lines' → BeginToWait (seen_of d) (seen_of d')
flows_wait d lines below i [] r d' lines' h = none_begin (seen_of d) (seen_of d') (ap (λ (z : Dif). (seen_of z).waiting) h.1)
flows_wait d lines below i (m ∷ ms) r d' lines' (inl stops) = flow_waits (seen_of d) lines i (seen_of d') lines' stops.1.flow
flows_wait d lines below i (m ∷ ms) r d' lines' (inr h) =
    waits_on (seen_of d) (seen_of h.0) (seen_of d') (flow_silent (seen_of d) lines i (seen_of h.0) h.1 h.2.flow) (flows_silent h.0 h.1 below i ms r d' lines' h.4)
    (flow_waits (seen_of d) lines i (seen_of h.0) h.1 h.2.flow) (flows_wait h.0 h.1 below i ms r d' lines' h.4)

-- whatever is written off may be written off as the DIF is behind the messages before; and so it may be by whatever that is to a further observer
pub flows_noted : (holds : ℕ → Off → Type 0) (d : Dif) (lines : List Direction) (below : Seen) (i : ℕ) (ms : List FlowMessage) (r : Result (Unit {0}) Memory) (d' : Dif) (lines' : List Direction) → Holds d lines below
    → ((before : List FlowMessage) (mid : Dif) (between : List Direction) → HandlesFlows d lines below i before (Ok tt) mid between → Holds mid between below → (k : ℕ) (off : Off) → MayWriteOff (seen_of mid) between below NoPort k off → holds k off)
    → HandlesFlows d lines below i ms r d' lines' → IsNoted holds (seen_of d) (seen_of d')
flows_noted holds d lines below i [] r d' lines' h may f = same_noted holds (seen_of d) (seen_of d') (ap seen_of f.1)
flows_noted holds d lines below i (m ∷ ms) r d' lines' h may (inl stops) =
    noted_as _ holds (seen_of d) (seen_of d') (λ k off. may [] d lines (refl, refl, refl) h k off) (flow_noted (seen_of d) lines below i (seen_of d') lines' (h.standing, h.numbered) stops.1.flow)
flows_noted holds d lines below i (m ∷ ms) r d' lines' h may (inr f) =
    noted_on holds (seen_of d) (seen_of f.0) (seen_of d')
    (noted_as _ holds (seen_of d) (seen_of f.0) (λ k off. may [] d lines (refl, refl, refl) h k off) (flow_noted (seen_of d) lines below i (seen_of f.0) f.1 (h.standing, h.numbered) f.2.flow))
    (flows_noted holds f.0 f.1 below i ms r d' lines' f.3 (λ before mid between g. may (m ∷ before) mid between (inr (f.0, f.1, f.2, f.3, g))) f.4)

-- The walk

pub none_taken : (d : Dif) (lines : List Direction) (below : Seen) (i : ℕ) → Holds d lines below → TakesFlows d lines below i [] (Ok tt) d
none_taken d lines below i h = record { lines' = lines; handles = (refl, refl, refl); holds = h }

one_alone : (d : Dif) (lines : List Direction) (below : Seen) (i : ℕ) (m : FlowMessage) (r : Result (Unit {0}) Memory) (d' : Dif) (lines' : List Direction) → HandlesFlow d lines below i m r d' lines' → Holds d' lines' below → HandlesFlows d lines below i (m ∷ []) r d' lines'
one_alone d lines below i m (Ok done) d' lines' one h = inr (d', lines', one, h, (refl, refl, refl))
one_alone d lines below i m (Err e) d' lines' one h = inl (refl, one)

one_more : (d : Dif) (lines : List Direction) (below : Seen) (i : ℕ) (ms : List FlowMessage) (m : FlowMessage) (r : Result (Unit {0}) Memory) (mid d' : Dif) (between lines' : List Direction) → HandlesFlows d lines below i ms (Ok tt) mid between → HandlesFlow mid between below i m r d' lines' → Holds d' lines' below → HandlesFlows d lines below i (ms ++ m ∷ []) r d' lines'
one_more d lines below i [] m r mid d' between lines' g one h =
    one_alone d lines below i m r d' lines' (subst (λ (z : Dif). HandlesFlow z lines below i m r d' lines') g.1 (subst (λ (ls : List Direction). HandlesFlow mid ls below i m r d' lines') g.2 one)) h
one_more d lines below i (x ∷ xs) m r mid d' between lines' (inl stops) one h = absurd (let wrong = stops.0 in cc)
one_more d lines below i (x ∷ xs) m r mid d' between lines' (inr g) one h = inr (g.0, g.1, g.2, g.3, one_more g.0 g.1 below i xs m r mid d' between lines' g.4 one h)

stops_early : (d : Dif) (lines : List Direction) (below : Seen) (i : ℕ) (ms ns : List FlowMessage) (e : Memory) (d' : Dif) (lines' : List Direction) → HandlesFlows d lines below i ms (Err e) d' lines' → HandlesFlows d lines below i (ms ++ ns) (Err e) d' lines'
stops_early d lines below i [] ns e d' lines' h = absurd (let wrong = h.0 in cc)
stops_early d lines below i (m ∷ ms) ns e d' lines' (inl stops) = inl stops
stops_early d lines below i (m ∷ ms) ns e d' lines' (inr g) = inr (g.0, g.1, g.2, g.3, stops_early g.0 g.1 below i ms ns e d' lines' g.4)

-- what one message does wherever the DIF holds
abbrev TakesIt : Dif → ℕ → FlowMessage → Result (Unit {0}) Memory → Dif → Type 0
TakesIt d i m r d' = (lines : List Direction) (below : Seen) → Holds d lines below → TakesFlow d lines below i m r d'

pub next_taken : (d : Dif) (lines : List Direction) (below : Seen) (i : ℕ) (ms : List FlowMessage) (m : FlowMessage) (r : Result (Unit {0}) Memory) (mid d' : Dif) → TakesFlows d lines below i ms (Ok tt) mid → TakesIt mid i m r d' → TakesFlows d lines below i (ms ++ m ∷ []) r d'
next_taken d lines below i ms m r mid d' t one =
    let u = one t.lines' below t.holds in
    record { lines' = u.lines'; handles = one_more d lines below i ms m r mid d' t.lines' u.lines' t.handles u.handles u.holds; holds = u.holds }

-- it stopped at one, and the rest were left
pub taken_early : (d : Dif) (lines : List Direction) (below : Seen) (i : ℕ) (all ms rest : List FlowMessage) (e : Memory) (d' : Dif) → ms ++ rest ≡ all → TakesFlows d lines below i ms (Err e) d' → TakesFlows d lines below i all (Err e) d'
taken_early d lines below i all ms rest e d' is t =
    record { lines' = t.lines'; handles = subst (λ (xs : List FlowMessage). HandlesFlows d lines below i xs (Err e) d' t.lines') is (stops_early d lines below i ms rest e d' t.lines' t.handles); holds = t.holds }

pub rest_after : (all seen rest rest' : List FlowMessage) (m : FlowMessage) → seen ++ rest ≡ all → rest ≡ m ∷ rest' → (seen ++ m ∷ []) ++ rest' ≡ all
rest_after all seen rest rest' m whole is = append_assoc seen (m ∷ []) rest' ∙ ap (λ (xs : List FlowMessage). seen ++ xs) (sym is) ∙ whole

pub none_left : (rest : List FlowMessage) → length rest ≡ 0 → rest ≡ []
none_left [] none = refl
none_left (m ∷ ms) none = absurd (omega (arith, none))

-- What it changes

pub leaves_none : (o : Option ℕ) (d : Dif) → ChangesOnly (IsEndHere d o) o d d
leaves_none o d = (flows_none (IsEndHere d o) d.flows d.flows refl, none_process o d.processes d.processes refl)

pub parts_same : (d : Dif) → ChangesFlowParts d d
parts_same d = refl

pub parts_on : (d mid d' : Dif) → ChangesFlowParts d mid → ChangesFlowParts mid d' → ChangesFlowParts d d'
parts_on d mid d' h g = g ∙ ap (λ (z : Dif). record z { processes = d'.processes; managements = d'.managements; flows = d'.flows; ids = d'.ids; waiting = d'.waiting; asks = d'.asks }) h

pub still_dif : (d mid : Dif) → IsDif d → ((lines : List Direction) (below : Seen) → Holds d lines below → (lines' : List Direction) × Holds mid lines' below) → mid.clock ≡ d.clock → IsDif mid
still_dif d mid is holds clock =
    let m = holds is.stands.0 is.below is.stands.1 in
    record { below = is.below; stands = (m.0, m.1); clock = (let low = is.clock in omega (arith, clock, low)) }

-- an end of the member is one of it before, or new
here_before : (d mid : Dif) (o : Option ℕ) (k : ℕ) → IsSilent (seen_of d) (seen_of mid) → mid.settings ≡ d.settings → IsEndHere mid o k → IsEndHere d o k
here_before d mid o k silent settings (inr past) =
    let fewer = no_fewer d.clock mid.clock d.flows.journal.ends mid.flows.journal.ends silent.later.ends in
    inr (omega (arith, past, fewer))
here_before d mid o k silent settings (inl here) = elim (cases_lt k (length d.flows.journal.ends)) [
  | inl low ↦
      let e = there d.flows.journal.ends k low in
      let m = silent.later.ends k e.0 e.1 in
      let same : m.0 ≡ here.end = same_Some m.0 here.end (sym m.1 ∙ here.is_end) in
      let port = sym (m.2.port) ∙ ap (λ (z : End). z.port) same in
      inl (record {
        end = e.0;
        is_end = e.1;
        at_home = ap (λ (p : Port). home_of d p.node) port ∙ ap (λ (s : Settings). home here.end.port.node (config_of s).members) (sym settings) ∙ here.at_home;
      })
  | inr past ↦ inr past
]

pub leaves_on : (d mid d' : Dif) (o : Option ℕ) → IsSilent (seen_of d) (seen_of mid) → mid.settings ≡ d.settings → ChangesOnly (IsEndHere d o) o d mid → ChangesOnly (IsEndHere mid o) o mid d' → ChangesOnly (IsEndHere d o) o d d'
leaves_on d mid d' o silent settings h g =
    let all : (k : ℕ) → IsEndHere mid o k → IsEndHere d o k = λ k here. here_before d mid o k silent settings here in (
      (
        by_both (IsEndHere d o) d.flows.journal.ends mid.flows.journal.ends d'.flows.journal.ends h.0.0 (by_more (IsEndHere mid o) (IsEndHere d o) mid.flows.journal.ends d'.flows.journal.ends all g.0.0),
        by_both (IsEndHere d o) d.flows.conns mid.flows.conns d'.flows.conns h.0.1 (by_more (IsEndHere mid o) (IsEndHere d o) mid.flows.conns d'.flows.conns all g.0.1),
      ),
      (λ i other. g.1.0 i other ∙ h.1.0 i other, g.1.1 ∙ h.1.1),
    )

-- the asks stay as they are
asks_wait_on : (word : FlowWord) (d d' : Dif) → d'.asks ≡ d.asks → AsksWaitOn word d d'
asks_wait_on (words.Ask invoke ask) d d' same = same
asks_wait_on (words.Answer invoke answer) d d' same = tt
asks_wait_on (words.Delete dcep scep) d d' same = same

-- one that is for another member waits for its next hop, or is dropped
pub posted_on : (d : Dif) (lines : List Direction) (below : Seen) (i : ℕ) (m : FlowMessage) (r : Result (Unit {0}) Memory) (d' : Dif) → ((member : Member) → slice_get d.settings.members i ≡ Some member → m.to ≡ member.addr → ⊥) → Holds d' lines below → OnOk r (d' ≡ record d { managements = posts d i m d.managements }) → OnErr r (d' ≡ d) → TakesFlow d lines below i m r d'
posted_on d lines below i m (Ok done) d' other h ok err = record {
  lines' = lines;
  handles = record {
    flow = inl (ap seen_of ok, refl);
    rest = subst (ChangesFlowParts d) (sym ok) refl;
    on = λ member is other. ok;
    own = λ member is same. absurd (other member is same);
    asks = asks_wait_on m.word d d' (ap (λ (z : Dif). z.asks) ok);
  };
  holds = h;
}
posted_on d lines below i m (Err e) d' other h ok err = record {
  lines' = lines;
  handles = record {
    flow = inl (ap seen_of err, refl);
    rest = subst (ChangesFlowParts d) (sym err) (parts_same d);
    on = λ member is other. err;
    own = λ member is same. absurd (other member is same);
    asks = asks_wait_on m.word d d' (ap (λ (z : Dif). z.asks) err);
  };
  holds = h;
}

pub posted_leaves : (d : Dif) (o : Option ℕ) (i : ℕ) (m : FlowMessage) (r : Result (Unit {0}) Memory) (d' : Dif) → OnOk r (d' ≡ record d { managements = posts d i m d.managements }) → OnErr r (d' ≡ d) → ChangesOnly (IsEndHere d o) o d d'
posted_leaves d o i m (Ok done) d' ok err = (flows_none (IsEndHere d o) d.flows d'.flows (ap (λ (z : Dif). z.flows) ok), none_process o d.processes d'.processes (ap (λ (z : Dif). z.processes) ok))
posted_leaves d o i m (Err e) d' ok err = (flows_none (IsEndHere d o) d.flows d'.flows (ap (λ (z : Dif). z.flows) err), none_process o d.processes d'.processes (ap (λ (z : Dif). z.processes) err))

-- one that is for this member is handled by its word
-- one that is for the member itself is not passed on
never_on : (d : Dif) (i : ℕ) (m : FlowMessage) (r : Result (Unit {0}) Memory) (d' : Dif) → ((member : Member) → slice_get d.settings.members i ≡ Some member → m.to ≢ member.addr → ⊥) → PassesOn d i m r d'
never_on d i m (Ok done) d' own = λ member is other. absurd (own member is other)
never_on d i m (Err e) d' own = λ member is other. absurd (own member is other)

pub own_taken : (d : Dif) (lines : List Direction) (below : Seen) (i : ℕ) (m : FlowMessage) (r : Result (Unit {0}) Memory) (d' : Dif) → ((member : Member) → slice_get d.settings.members i ≡ Some member → m.to ≢ member.addr → ⊥) → ChangesFlowParts d d' → TakesWord d lines below i m.from m.word r d' → TakesFlow d lines below i m r d'
own_taken d lines below i m r d' own rest t = record {
  lines' = t.lines';
  handles = record { flow = t.flow; rest = rest; on = never_on d i m r d' own; own = λ member is same. t.does; asks = t.asks };
  holds = t.holds;
}

-- Where ends change

-- neither the flows nor the IPC processes changed
pub leaves_same : (o : Option ℕ) (d d' : Dif) → d'.flows ≡ d.flows → d'.processes ≡ d.processes → ChangesOnly (IsEndHere d o) o d d'
leaves_same o d d' flows processes = (flows_none (IsEndHere d o) d.flows d'.flows flows, none_process o d.processes d'.processes processes)

-- nor did they after the change
pub leaves_then : (o : Option ℕ) (d mid d' : Dif) → ChangesOnly (IsEndHere d o) o d mid → d'.flows ≡ mid.flows → d'.processes ≡ mid.processes → ChangesOnly (IsEndHere d o) o d d'
leaves_then o d mid d' h flows processes = (
  subst (λ (fs : Flows). ChangesAt (IsEndHere d o) d.flows fs) (sym flows) h.0,
  subst (λ (ps : List IpcProcess). ChangesProcess o d.processes ps) (sym processes) h.1,
)

-- the end at a place changed, which is one of the IPC process
pub leaves_one : (o : Option ℕ) (d d' : Dif) (place : ℕ) (end : End) → At d.flows.journal.ends place end → home_of d end.port.node ≡ o → ChangesOnly (λ i. i ≡ place) o d d' → ChangesOnly (IsEndHere d o) o d d'
leaves_one o d d' place end is_end at_home h =
    only_more (λ i. i ≡ place) (IsEndHere d o) o d d' (λ i same. inl (record { end = end; is_end = ap (slice_get d.flows.journal.ends) same ∙ is_end; at_home = at_home })) h

-- an end was added
pub leaves_added : (o : Option ℕ) (d d' : Dif) (end : End) → IsDif d → d'.flows.journal.ends ≡ d.flows.journal.ends ++ end ∷ [] → SameBut (λ i. length d.flows.conns ≤ i) d.flows.conns d'.flows.conns → d'.processes ≡ d.processes → ChangesOnly (IsEndHere d o) o d d'
leaves_added o d d' end valid ends conns processes =
    let alike = valid.stands.1.standing.own.alike in
    let many = length-map d.flows.conns ids_of in (
      (
        by_more (λ i. length d.flows.journal.ends ≤ i) (IsEndHere d o) d.flows.journal.ends d'.flows.journal.ends (λ i past. inr past) (by_adding_one d.flows.journal.ends d'.flows.journal.ends end ends),
        by_more (λ i. length d.flows.conns ≤ i) (IsEndHere d o) d.flows.conns d'.flows.conns (λ i past. inr (omega (arith, past, alike, many))) conns,
      ),
      none_process o d.processes d'.processes processes,
    )

-- an end that waited is answered, and its connection was told
pub leaves_bound : (o : Option ℕ) (d d' : Dif) (place : ℕ) (end : End) (R : Conn → Conn → Type 0) → At d.flows.journal.ends place end → home_of d end.port.node ≡ o → place < length d.flows.conns → Becomes R place d.flows.conns d'.flows.conns → ((e : End) → slice_get d.flows.journal.ends place ≡ Some e → d'.flows.journal.ends ≡ slice_set d.flows.journal.ends place (record e { state = Allocated })) → d'.processes ≡ d.processes → ChangesOnly (IsEndHere d o) o d d'
leaves_bound o d d' place end R is_end at_home lt conns ends processes =
    leaves_one o d d' place end is_end at_home (
      (by_set d.flows.journal.ends d'.flows.journal.ends place (record end { state = Allocated }) (ends end is_end), by_becoming R place d.flows.conns d'.flows.conns lt conns),
      none_process o d.processes d'.processes processes,
    )
