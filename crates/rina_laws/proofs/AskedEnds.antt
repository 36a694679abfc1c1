-- No call and no step of a DIF makes an end of an asker, but `allocate`.
use Rattle.std.proofs.Common.{◌≡◌, ◌∙◌, ℕ, List, [], ◌∷◌, ◌++◌, length, Option, Some, None, Result, Ok, Err, refl, sym, ap, subst, arith, inl, inr}
use Rattle.std.proofs.lemmas.Option.{slice_get_within}
use Rattle.rina_base.specs.declared.memory.Memory.{Memory as NoMemory}
use Rattle.rina_alloc.specs.declared.message.FlowMessage.{FlowMessage}
use Rattle.rina_iface.specs.declared.ask.Ask.{Ask}
use Rattle.rina_iface.specs.declared.ends.End.{End}
use Rattle.rina_iface.specs.declared.error.AllocateError.{AllocateError}
use Rattle.rina_iface.specs.declared.error.FreeError.TheVariants as free
use Rattle.rina_iface.specs.declared.error.SendError.TheVariants as send
use Rattle.rina_iface.specs.declared.error.UnregisterError.TheVariants as unregister
use Rattle.rina_iface.specs.declared.state.PortState.TheVariants.{Closed}
use Rattle.rina_iface.specs.declared.state.Role.TheVariants.{Asker, Far}
use Rattle.rina_iface.specs.Ends.{place_in}
use Rattle.rina_iface.specs.Journal.{At}
use Rattle.rina_iface.specs.Seen.{Seen}
use Rattle.rina_iface.proofs.Grown.{pushed_at}
use Rattle.rina_law.specs.Direction.{Direction}
use Rattle.rina_data.specs.declared.step.InStep.{InStep}
use Rattle.rina_data.specs.declared.step.StepError.{StepError}
use Rattle.rina_data.specs.declared.step.StepError.TheVariants as step
use Rattle.rina_data.specs.Configs.{config_of}
use Rattle.rina_data.proofs.Finding.{there}
use Rattle.rina_dif_law.specs.Answering.{far_end_of}
use Rattle.rina_dif_law.specs.Dif.{DifSeen}
use Rattle.rina_dif_law.specs.Sending.{home}
use Rattle.rina_dif.specs.declared.dif.Dif.{Dif}
use Rattle.rina_dif.specs.declared.enrol.EnrolError.{EnrolError}
use Rattle.rina_dif.specs.declared.enrol.EnrolError.TheVariants as enrol
use Rattle.rina_dif.specs.Enrolling.{EnrolsAs}
use Rattle.rina_dif.specs.Facade.{GoesOn}
use Rattle.rina_dif.specs.FlowMessages.{HandlesFlows, MayChangeFlow}
use Rattle.rina_dif.specs.Shown.{seen_of}
use Rattle.rina_dif.specs.Steps.{AtHome}
use Rattle.rina_dif.specs.Taking.{TakesHome, TellsFlows, TellsNothing}
use Rattle.rina_asked.specs.Calls.{CdapKeeps, ClockKeeps, EnrolKeeps, FreeKeeps, InKeeps, IncomingKeeps, OutKeeps, PassKeeps, SendKeeps, TimeKeeps, UnregisterKeeps}
use Rattle.rina_asked.proofs.Calls.{frees_calm, sends_calm}
use Rattle.rina_asked.proofs.Clocks.{answer_done}
use Rattle.rina_asked.proofs.Enrols.{lower_kept, same_kept}
use Rattle.rina_asked.proofs.Keeps.{alive, stays}
use Rattle.rina_asked.proofs.Quiet.{as_long}
use Rattle.rina_laws.proofs.NamedAsks.{answered, at_ends, dif_same, ended, rerouted_ends, row_same, turned}
use Rattle.rina_laws.proofs.NamedEnds.{HasEnd, HasIn, flows_same, in_later, in_same}

-- each asker's end that stands after it stood before
abbrev pub NoneAsks : Dif → Dif → Type 0
NoneAsks d d' = (e : End) (i : ℕ) → e.role ≡ Asker → HasEnd e i d' → HasEnd e i d

-- so did each end
abbrev pub NoneMade : Dif → Dif → Type 0
NoneMade d d' = (e : End) (i : ℕ) → HasEnd e i d' → HasEnd e i d

pub none_asks : (d d' : Dif) → NoneMade d d' → NoneAsks d d'
none_asks d d' none e i asks = none e i

pub none_by_flows : (d d' : Dif) → d'.flows ≡ d.flows → NoneMade d d'
none_by_flows d d' is e i = flows_same e i d d' is

pub none_by_seen : (d d' : Dif) → seen_of d' ≡ seen_of d → NoneMade d d'
none_by_seen d d' is e i = in_same e i d.flows.journal.ends d'.flows.journal.ends (ap (λ (z : DifSeen). z.ends) is)

-- as many ends stand, which went on
pub none_by_length : (d d' : Dif) → GoesOn d d' → length d'.flows.journal.ends ≡ length d.flows.journal.ends → NoneMade d d'
none_by_length d d' goes long e i h =
    let within = slice_get_within d'.flows.journal.ends i h.end h.stands in
    in_later e i d.clock d'.clock d.flows.journal.ends d'.flows.journal.ends goes.later.ends h (there d.flows.journal.ends i (omega (arith, within, long)))

-- ---- messages about flows

made_far : (d d' : DifSeen) (x e : End) (i : ℕ) → x.role ≡ Far → e.role ≡ Asker → d'.ends ≡ d.ends ++ x ∷ [] → HasIn e i d'.ends → HasIn e i d.ends
made_far d d' x e i far asks is h = elim (pushed_at d.ends x i h.end (subst (λ (es : List End). At es i h.end) is h.stands)) [
  | inl o ↦ record { end = h.end; stands = o; same = h.same }
  | inr t ↦ absurd (let no : Far ≡ Asker = sym far ∙ (sym (ap (λ (z : End). z.role) t.1) ∙ (sym h.same.role ∙ asks)) in cc)
]

pub flow_back : (d : DifSeen) (lines : List Direction) (place : ℕ) (d' : DifSeen) (lines' : List Direction) (e : End) (i : ℕ) → e.role ≡ Asker → MayChangeFlow d lines place d' lines' → HasIn e i d'.ends → HasIn e i d.ends
flow_back d lines place d' lines' e i asks (inl same) = row_same e i d d' same.0
flow_back d lines place d' lines' e i asks (inr (inl made)) = made_far d d' (far_end_of d made.node made.makes.asker) e i refl asks (ap (λ (z : DifSeen). z.ends) made.makes.new_is)
flow_back d lines place d' lines' e i asks (inr (inr (inl b))) = answered e i d b.place d' b.answered
flow_back d lines place d' lines' e i asks (inr (inr (inr (inl r)))) = turned e i d r.place r.state d' r.turned
flow_back d lines place d' lines' e i asks (inr (inr (inr (inr c)))) = ended e i d lines c.place Closed d' c.ended

pub flows_back : (d : Dif) (lines : List Direction) (below : Seen) (place : ℕ) (ms : List FlowMessage) (r : Result (Unit {0}) NoMemory) (d' : Dif) (lines' : List Direction) → HandlesFlows d lines below place ms r d' lines' → NoneAsks d d'
flows_back d lines below place [] r d' lines' f e i asks h = dif_same e i d d' f.1 h
flows_back d lines below place (m ∷ ms) r d' lines' (inl stops) e i asks h = flow_back (seen_of d) lines place (seen_of d') lines' e i asks stops.1.flow h
flows_back d lines below place (m ∷ ms) r d' lines' (inr f) e i asks h = flow_back (seen_of d) lines place (seen_of f.0) f.1 e i asks f.2.flow (flows_back f.0 f.1 below place ms r d' lines' f.4 e i asks h)

-- ---- an SDU comes

module _ (d : Dif) (lines : List Direction) (below : Seen) (node number : ℕ) (result : Result InStep StepError) (d' : Dif) (below' : Seen) (s : TakesHome d lines below node number result d' below') where
  told_back : (o : Option ℕ) → AtHome o (λ k. TellsFlows d below k number s.answer s.handled s.between below' result d' s.lines') (TellsNothing s.answer s.handled s.between result d' s.lines') → NoneAsks s.handled (record d' { failed = s.handled.failed })
  told_back None none e i asks = dif_same e i s.handled (record d' { failed = s.handled.failed }) none.1
  told_back (Some place) told e i asks = flows_back s.handled s.between below' place told.messages told.stopped (record d' { failed = s.handled.failed }) s.lines' told.handles e i asks

  pub taken_back : NoneAsks d d'
  taken_back e i asks h = at_ends e i (seen_of d) lines below node number s.answer (seen_of s.taken) s.between below' s.does (rerouted_ends e i (seen_of s.taken) (seen_of s.handled) s.rerouted (told_back (home node (config_of d.settings).members) s.told e i asks h))

-- ---- what is kept of a DIF by that it is kept of the askers' ends

module _ (Q : Dif → Type 0) (back : (d d' : Dif) → NoneMade d d' → Q d → Q d') where
  same : (d d' : Dif) → d'.flows ≡ d.flows → Q d → Q d'
  same d d' is = back d d' (none_by_flows d d' is)

  pub incoming_keeps : IncomingKeeps Q
  incoming_keeps d d' whole h still = same d d' (ap (λ (z : Dif). z.flows) whole) (h (sym (ap (λ (z : Dif). z.failed) whole) ∙ still))

  pub time_keeps : TimeKeeps Q
  time_keeps d d' now whole h still = same d d' (ap (λ (z : Dif). z.flows) whole) (h (sym (ap (λ (z : Dif). z.failed) whole) ∙ still))

  pub out_keeps : OutKeeps Q
  out_keeps d d' whole before h still = same d d' (ap (λ (z : Dif). z.flows) whole) (h (before still))

  pub cdap_keeps : CdapKeeps Q
  cdap_keeps d d' keeps h still = same d d' (ap (λ (z : Dif). z.flows) keeps.is) (h (keeps.alive still))

  pub unregister_keeps : UnregisterKeeps Q
  unregister_keeps d d' node app result manages whole notes = stays Q d d' result (Err unregister.Memory) notes (λ some. same d d' (ap (λ (z : Dif). z.flows) whole))

  pub send_keeps : SendKeeps Q
  send_keeps d d' port sdu result is does goes whole notes = stays Q d d' result (Err send.Memory) notes (λ some.
      (let calm = sends_calm (place_in port d.flows.journal.ends) d is.stands.0 is.below sdu result d' (does is.stands.0 is.below is.stands.1) in
      back d d' (none_by_length d d' goes (as_long d d' is.stands.0 calm.lines' is.below is.below is.stands.1 calm.holds calm.conns))))

  pub pass_keeps : PassKeeps Q
  pass_keeps d d' port is does goes whole h still =
      let s = does is.stands.0 is.below is.stands.1 in
      back d d' (none_by_length d d' goes (as_long d d' is.stands.0 s.passes.lines' is.below is.below is.stands.1 s.passes.holds (ap (λ (z : DifSeen). z.conns) s.passes.passed.new_is))) (h (sym (ap (λ (z : Dif). z.failed) whole) ∙ still))

  pub free_keeps : FreeKeeps Q
  free_keeps d d' port result is does manages goes whole notes = stays Q d d' result (Err free.Memory) notes (λ some.
      (let calm = frees_calm (place_in port d.flows.journal.ends) d is.stands.0 is.below result d' (does is.stands.0 is.below is.stands.1) in
      back d d' (none_by_length d d' goes (as_long d d' is.stands.0 calm.lines' is.below is.below is.stands.1 calm.holds calm.conns))))

  by_enrol : (result : Result (Unit {0}) EnrolError) (own : Ask → Option AllocateError) (d : Dif) (below : Seen) (node fac peer : ℕ) (d' : Dif) (below' : Seen) → (result ≡ Err enrol.Memory → ⊥) → EnrolsAs own d below node fac peer result d' below' → Q d → Q d'
  by_enrol (Ok done) own d below node fac peer d' below' some s = same d d' (ap (λ (z : Dif). z.flows) s.does.only)
  by_enrol (Err enrol.Memory) own d below node fac peer d' below' some s = absurd (some refl)
  by_enrol (Err enrol.NoIpc) own d below node fac peer d' below' some s = same_kept Q d d' s.1
  by_enrol (Err (enrol.Enrolling link)) own d below node fac peer d' below' some s = same_kept Q d d' s.1
  by_enrol (Err (enrol.LinksFull most)) own d below node fac peer d' below' some s = same_kept Q d d' s.1
  by_enrol (Err (enrol.CountSpent need left)) own d below node fac peer d' below' some s = same_kept Q d d' s.1
  by_enrol (Err (enrol.Lower e)) own d below node fac peer d' below' some s = lower_kept Q e own d below node fac peer d' below' s

  pub enrol_keeps : EnrolKeeps Q
  enrol_keeps d d' below below' own node fac peer result does notes h still =
      let a = alive d d' result (Err enrol.Memory) notes still in
      by_enrol result own d below node fac peer d' below' a.1 (does a.0) (h a.0)

  pub clock_keeps : ClockKeeps Q
  clock_keeps d d' below below' node result st does ok goes notes = stays Q d d' result (Err step.Memory) notes (λ some.
      (let c = does st.0 st.1 in
      let done = answer_done d st.0 below node result d' c.lines' below' st.1 some ok c.does in
      back d d' (none_by_length d d' goes (as_long d d' st.0 c.lines' below below' st.1 c.holds done.conns))))

-- what is kept by that it is kept of the askers' ends, as an SDU comes
pub in_keeps : (Q : Dif → Type 0) → ((d d' : Dif) → NoneAsks d d' → Q d → Q d') → InKeeps Q
in_keeps Q back d d' below below' node link result kept kept' st does notes = stays Q d d' result (Err step.Memory) notes (λ some. back d d' (taken_back d st.0 below node link result d' below' (does st.0 st.1)))
