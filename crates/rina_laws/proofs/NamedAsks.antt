-- A step that takes what came makes a far end as the answer of yes to an ask for it, while its application is registered and the asker's is allowed.
use Rattle.std.proofs.Common.{◌≡◌, ◌≢◌, ◌∙◌, ℕ, ◌+◌, ◌*◌, ◌<◌, Bool, true, false, List, [], ◌∷◌, ◌++◌, slice_get, slice_set, Option, Some, None, Result, Ok, Err, refl, sym, ap, subst, arith, inl, inr, ◌⊎◌}
use Rattle.std.proofs.lemmas.Bool.{false≢true}
use Rattle.std.proofs.lemmas.Bool.Decides.{eqb_tells}
use Rattle.std.proofs.lemmas.Option.{same_Some, slice_get_within}
use Rattle.rina_alloc.specs.declared.answer.FlowAnswer.{FlowAnswer}
use Rattle.rina_alloc.specs.declared.answer.FlowAnswer.TheVariants as answers
use Rattle.rina_alloc.specs.declared.message.FlowAsk.{FlowAsk}
use Rattle.rina_alloc.specs.declared.message.FlowMessage.{FlowMessage}
use Rattle.rina_alloc.specs.declared.message.FlowWord.{FlowWord}
use Rattle.rina_alloc.specs.declared.message.FlowWord.TheVariants as words
use Rattle.rina_alloc.specs.Machines.{answer_of}
use Rattle.rina_alloc.specs.Words.{answer_at, dcep_of}
use Rattle.rina_base.specs.declared.cause.Cause.{Cause}
use Rattle.rina_base.specs.declared.cause.Cause.TheVariants as causes
use Rattle.rina_base.specs.declared.memory.Memory.{Memory as NoMemory}
use Rattle.rina_base.specs.declared.number.FlowName.{FlowName}
use Rattle.rina_base.specs.declared.number.Port.{Port}
use Rattle.rina_cube.specs.declared.Cube.{Cube}
use Rattle.rina_cube.specs.Cubes.{delta_of}
use Rattle.rina_iface.specs.declared.ends.End.{End}
use Rattle.rina_iface.specs.declared.state.PortState.{PortState}
use Rattle.rina_iface.specs.declared.state.PortState.TheVariants.{Pending, Allocated, Refused, Failed, Closed}
use Rattle.rina_iface.specs.declared.state.Why.{Why}
use Rattle.rina_iface.specs.Journal.{At}
use Rattle.rina_iface.specs.Seen.{Seen, is_registered}
use Rattle.rina_iface.specs.State.{freed, freed_state}
use Rattle.rina_iface.proofs.Grown.{pushed_at}
use Rattle.rina_law.specs.Direction.{Direction}
use Rattle.rina_member.specs.declared.management.Management.{Management}
use Rattle.rina_data.specs.declared.settings.Member.{Member}
use Rattle.rina_data.specs.declared.step.InStep.{InStep}
use Rattle.rina_data.specs.declared.step.InStep.TheVariants as ins
use Rattle.rina_data.specs.declared.step.StepError.{StepError}
use Rattle.rina_data.specs.declared.step.StepError.TheVariants.{CountSpent, Memory, NoIpc, NoLink}
use Rattle.rina_data.specs.declared.step.Took.{Took}
use Rattle.rina_data.specs.declared.step.Took.TheVariants as took
use Rattle.rina_data.specs.Configs.{Member as Shown, config_of, cube_by, member_of}
use Rattle.rina_data.specs.Hops.{Hop}
use Rattle.rina_data.specs.Process.{Process}
use Rattle.rina_data.proofs.Finding.{there}
use Rattle.rina_dif_law.specs.Answering.{IsAnsweredTo, IsTurnedDown, far_end_of}
use Rattle.rina_dif_law.specs.Dif.{DifSeen}
use Rattle.rina_dif_law.specs.Ending.{IsEnded}
use Rattle.rina_dif_law.specs.Incoming.{Ins, IsArrived, IsTold, Settles, SettlesFlow, SettlesOff}
use Rattle.rina_dif_law.specs.Sending.{home}
use Rattle.rina_dif_law.proofs.Own.{map_at}
use Rattle.rina_dif.specs.declared.dif.Dif.{Dif}
use Rattle.rina_dif.specs.declared.far_ends.Grounds.{Grounds}
use Rattle.rina_dif.specs.AnswersIn.{RefusesAsk, SaysBack, TakesAnswer, TakesAt, given_back, why_of}
use Rattle.rina_dif.specs.DeletesIn.{TakesDelete}
use Rattle.rina_dif.specs.Elsewhere.{enrolled_home}
use Rattle.rina_dif.specs.FarMaking.{Accepts, AnswersBy, HandlesAsk, HasFar, IsGrounds, answer_by, answer_told, denied_by, is_here_by}
use Rattle.rina_dif.specs.FlowMessages.{HandlesFlow, HandlesFlows, HandlesWord, MakesFarHere, MayChangeFlow}
use Rattle.rina_dif.specs.Freeing.{FreesEnd}
use Rattle.rina_dif.specs.Holding.{Holds}
use Rattle.rina_dif.specs.Routing.{MayReroute}
use Rattle.rina_dif.specs.Shown.{seen_of as seen_of_dif}
use Rattle.rina_dif.specs.Steps.{AtHome}
use Rattle.rina_dif.specs.Taking.{EndsAs, InsAt, TakesHome, TellsFlows, TellsNothing}
use Rattle.rina_tower.specs.Ranks.{seen_of}
use Rattle.rina_laws.specs.Named.{IsAskFor, IsOneEnd, MayMakeFar, TakesAskFor}
use Rattle.rina_laws.proofs.NamedComes.{Reason}
use Rattle.rina_laws.proofs.NamedEnds.{HasEnd, HasIn, in_later, in_same, in_set, one_got, one_state}
use Rattle.rina_laws.proofs.NamedSteps.{TakesFor}

-- ---- what an answer of yes tells

yes_told : (here aged : Bool) (denied drawn : Option ℕ) (used scep cep its : ℕ) → answer_told (answer_of here aged denied drawn used scep) ≡ Some (answers.Yes cep its) → (here ≡ true) × (denied ≡ None)
unfolding answer_at
yes_told false aged denied drawn used scep cep its h = absurd cc
yes_told true true denied drawn used scep cep its h = absurd cc
yes_told true false (Some rule) drawn used scep cep its h = absurd cc
yes_told true false None None used scep cep its h = absurd cc
yes_told true false None (Some id) used scep cep its h = (refl, refl)

here_registered : (o : Option Cube) (registered : Bool) → is_here_by o registered ≡ true → registered ≡ true
here_registered None registered h = absurd (false≢true h)
here_registered (Some cube) registered h = h

-- ---- rows that make no end

module _ (e : End) (i : ℕ) where
  -- one end was changed
  row_set : (d d' : DifSeen) (place : ℕ) (x y : End) → At d.ends place x → IsOneEnd x y → d'.ends ≡ slice_set d.ends place y → HasIn e i d'.ends → HasIn e i d.ends
  row_set d d' place x y at keeps is h = in_set e i d.ends place x y at keeps (in_same e i (slice_set d.ends place y) d'.ends is h)

  pub row_same : (d d' : DifSeen) → d' ≡ d → HasIn e i d'.ends → HasIn e i d.ends
  row_same d d' is = in_same e i d.ends d'.ends (ap (λ (z : DifSeen). z.ends) is)

  pub turned : (d : DifSeen) (place : ℕ) (state : PortState) (d' : DifSeen) → IsTurnedDown d place state d' → HasIn e i d'.ends → HasIn e i d.ends
  turned d place state d' t = row_set d d' place t.end (record t.end { state = state }) t.is_end (one_state t.end state) (ap (λ (z : DifSeen). z.ends) t.new_is)

  pub answered : (d : DifSeen) (place : ℕ) (d' : DifSeen) → IsAnsweredTo d place d' → HasIn e i d'.ends → HasIn e i d.ends
  answered d place d' t = row_set d d' place t.asker (record t.asker { state = Allocated }) t.is_conn.end (one_state t.asker Allocated) (ap (λ (z : DifSeen). z.ends) t.new_is)

  pub ended : (d : DifSeen) (lines : List Direction) (place : ℕ) (state : PortState) (d' : DifSeen) → IsEnded d lines place state d' → HasIn e i d'.ends → HasIn e i d.ends
  ended d lines place state d' t = row_set d d' place t.end (record t.end { state = state }) t.is_conn.end (one_state t.end state) (ap (λ (z : DifSeen). z.ends) t.new_is)

  freed_end : (state : PortState) (d : DifSeen) (lines : List Direction) (place : ℕ) (end : End) (d' : DifSeen) → At d.ends place end → FreesEnd state d lines place end d' → HasIn e i d'.ends → HasIn e i d.ends
  freed_end Allocated d lines place end d' at f = ended d lines place Closed d' f
  freed_end Pending d lines place end d' at f = row_set d d' place end (freed end) at (one_state end (freed_state end.state)) (ap (λ (z : DifSeen). z.ends) f.new_is)
  freed_end (Refused why) d lines place end d' at f = row_set d d' place end (freed end) at (one_state end (freed_state end.state)) (ap (λ (z : DifSeen). z.ends) f)
  freed_end (Failed fail) d lines place end d' at f = row_set d d' place end (freed end) at (one_state end (freed_state end.state)) (ap (λ (z : DifSeen). z.ends) f)
  freed_end Closed d lines place end d' at f = row_set d d' place end (freed end) at (one_state end (freed_state end.state)) (ap (λ (z : DifSeen). z.ends) f)

  arrived : (d : DifSeen) (lines : List Direction) (k : ℕ) (process : Process) (hop : Hop) (cause : Option Cause) (d' : DifSeen) (lines' : List Direction) → IsArrived d lines k process hop.pdu cause d' lines' → HasIn e i d'.ends → HasIn e i d.ends
  arrived d lines k process hop cause d' lines' a = row_set d d' a.place a.end _ a.taker.is_conn.end (one_got a.end _) (ap (λ (z : DifSeen). z.ends) a.new_is)

  off_ends : (d : DifSeen) (lines : List Direction) (k : ℕ) (member : Shown) (process : Process) (at : ℕ) (hop : Hop) (cause : Cause) (d' : DifSeen) (lines' : List Direction) → SettlesOff d lines k member process at hop cause d' lines' → HasIn e i d'.ends → HasIn e i d.ends
  off_ends d lines k member process at hop (causes.Expired left charge) d' lines' s = in_same e i d.ends d'.ends (ap (λ (z : DifSeen). z.ends) s.3)
  off_ends d lines k member process at hop (causes.NoRoute dst) d' lines' s = in_same e i d.ends d'.ends (ap (λ (z : DifSeen). z.ends) s.4)
  off_ends d lines k member process at hop (causes.QueueFull cap) d' lines' s = in_same e i d.ends d'.ends (ap (λ (z : DifSeen). z.ends) s.4)
  off_ends d lines k member process at hop (causes.NoConnection cep) d' lines' s = in_same e i d.ends d'.ends (ap (λ (z : DifSeen). z.ends) s.4)
  off_ends d lines k member process at hop (causes.LinkDown port) d' lines' s = absurd s
  off_ends d lines k member process at hop cause d' lines' s = arrived d lines k process hop (Some cause) d' lines' s.2

  own_ends : (d : DifSeen) (lines : List Direction) (k : ℕ) (process : Process) (hop : Hop) (d' : DifSeen) (lines' : List Direction) → IsArrived d lines k process hop.pdu None d' lines' ⊎ IsTold d lines hop.pdu d' lines' → HasIn e i d'.ends → HasIn e i d.ends
  own_ends d lines k process hop d' lines' (inl a) = arrived d lines k process hop None d' lines' a
  own_ends d lines k process hop d' lines' (inr t) = row_same d d' t.new_is

  flow_ends : (d : DifSeen) (lines : List Direction) (k : ℕ) (member : Shown) (process : Process) (at : ℕ) (hop : Hop) (end : Took) (d' : DifSeen) (lines' : List Direction) → SettlesFlow d lines k member process at hop end d' lines' → HasIn e i d'.ends → HasIn e i d.ends
  flow_ends d lines k member process at hop took.Accepted d' lines' s = own_ends d lines k process hop d' lines' s.2
  flow_ends d lines k member process at hop took.Relayed d' lines' s = in_same e i d.ends d'.ends (ap (λ (z : DifSeen). z.ends) s.2.new_is)
  flow_ends d lines k member process at hop (took.Off cause) d' lines' s = off_ends d lines k member process at hop cause d' lines' s

  settles_ends : (d : DifSeen) (lines : List Direction) (k : ℕ) (member : Shown) (process : Process) (at : ℕ) (hop : Hop) (end : Took) (d' : DifSeen) (lines' : List Direction) → Settles d lines k member process at hop end d' lines' → HasIn e i d'.ends → HasIn e i d.ends
  settles_ends d lines k member process at hop end d' lines' (inl flow) = flow_ends d lines k member process at hop end d' lines' flow.1
  settles_ends d lines k member process at hop end d' lines' (inr link) = in_same e i d.ends d'.ends (ap (λ (z : DifSeen). z.ends) link.new_is)

  ins_ends : (d : DifSeen) (lines : List Direction) (below : Seen) (k n : ℕ) (r : Result InStep StepError) (d' : DifSeen) (lines' : List Direction) (below' : Seen) → Ins d lines below k n r d' lines' below' → HasIn e i d'.ends → HasIn e i d.ends
  ins_ends d lines below k n (Ok ins.Idle) d' lines' below' s = row_same d d' s.1
  ins_ends d lines below k n (Ok (ins.Took key end)) d' lines' below' s = settles_ends d lines k s.member s.process s.entry.tick s.hop end d' lines' s.settled
  ins_ends d lines below k n (Err Memory) d' lines' below' s = row_same d d' s.0
  ins_ends d lines below k n (Err NoIpc) d' lines' below' s = row_same d d' s.1
  ins_ends d lines below k n (Err NoLink) d' lines' below' s = row_same d d' s.1
  ins_ends d lines below k n (Err (CountSpent need left)) d' lines' below' s = row_same d d' s.0

  home_ends : (d : DifSeen) (lines : List Direction) (below : Seen) (n : ℕ) (r : Result InStep StepError) (d' : DifSeen) (lines' : List Direction) (below' : Seen) (o : Option ℕ)
      → AtHome o (λ k. Ins d lines below k n r d' lines' below') ((r ≡ Err NoIpc) × (d' ≡ d) × (lines' ≡ lines) × (below' ≡ below)) → HasIn e i d'.ends → HasIn e i d.ends
  home_ends d lines below n r d' lines' below' (Some k) s = ins_ends d lines below k n r d' lines' below' s
  home_ends d lines below n r d' lines' below' None s = row_same d d' s.1

  pub at_ends : (d : DifSeen) (lines : List Direction) (below : Seen) (node n : ℕ) (r : Result InStep StepError) (d' : DifSeen) (lines' : List Direction) (below' : Seen) → InsAt d lines below node n r d' lines' below' → HasIn e i d'.ends → HasIn e i d.ends
  at_ends d lines below node n (Ok done) d' lines' below' s = home_ends d lines below n (Ok done) d' lines' below' (home node d.config.members) s
  at_ends d lines below node n (Err Memory) d' lines' below' s = row_same d d' s.0
  at_ends d lines below node n (Err NoIpc) d' lines' below' s = home_ends d lines below n (Err NoIpc) d' lines' below' (home node d.config.members) s
  at_ends d lines below node n (Err NoLink) d' lines' below' s = home_ends d lines below n (Err NoLink) d' lines' below' (home node d.config.members) s
  at_ends d lines below node n (Err (CountSpent need left)) d' lines' below' s = home_ends d lines below n (Err (CountSpent need left)) d' lines' below' (home node d.config.members) s

  pub rerouted_ends : (d d' : DifSeen) → MayReroute d d' → HasIn e i d'.ends → HasIn e i d.ends
  rerouted_ends d d' (inl same) = row_same d d' same
  rerouted_ends d d' (inr r) = in_same e i d.ends d'.ends (ap (λ (z : DifSeen). z.ends) r.is)

  -- ---- answers and deletes

  pub dif_same : (d d' : Dif) → d' ≡ d → HasEnd e i d' → HasEnd e i d
  dif_same d d' is = in_same e i d.flows.journal.ends d'.flows.journal.ends (ap (λ (z : Dif). z.flows.journal.ends) is)

  managed_same : (d d' : Dif) (ms : List Management) → d' ≡ record d { managements = ms } → HasEnd e i d' → HasEnd e i d
  managed_same d d' ms is = in_same e i d.flows.journal.ends d'.flows.journal.ends (ap (λ (z : Dif). z.flows.journal.ends) is)

  refused : (d : Dif) (lines : List Direction) (below : Seen) (which place : ℕ) (cause : Why) (d' : Dif) → RefusesAsk d lines below which place cause d' → HasEnd e i d' → HasEnd e i d
  refused d lines below which place cause d' r = turned (seen_of_dif d) place (Refused cause) (seen_of_dif d') r.turns_down.turned

  taken_at : (o : Option Why) (cep : ℕ) (d : Dif) (lines : List Direction) (below : Seen) (at from which place : ℕ) (done : Unit {0}) (d' : Dif) → TakesAt o cep d lines below at from which place (Ok done) d' → HasEnd e i d' → HasEnd e i d
  taken_at (Some cause) cep d lines below at from which place done d' t = refused d lines below which place cause d' t
  taken_at None cep d lines below at from which place done d' (inl t) = refused d lines below which place _ d' t.1
  taken_at None cep d lines below at from which place done d' (inr t) = answered (seen_of_dif d) place (seen_of_dif d') t.2.binds.answered

  says_back : (o : Option FlowWord) (d : Dif) (at from : ℕ) (m : Member) (d' : Dif) → slice_get d.settings.members at ≡ Some m → SaysBack o d at from d' → HasEnd e i d' → HasEnd e i d
  says_back (Some word) d at from m d' here s = managed_same d d' _ (s m here)
  says_back None d at from m d' here s = dif_same d d' s

  takes_answer : (d : Dif) (lines : List Direction) (below : Seen) (at from invoke : ℕ) (answer : FlowAnswer) (done : Unit {0}) (m : Member) (d' : Dif) → slice_get d.settings.members at ≡ Some m → TakesAnswer d lines below at from invoke answer (Ok done) d' → HasEnd e i d' → HasEnd e i d
  takes_answer d lines below at from invoke answer done m d' here (inl t) = taken_at (why_of answer) (dcep_of answer) d lines below at from t.which t.first.is_ask.ask.place done d' t.takes
  takes_answer d lines below at from invoke answer done m d' here (inr t) = says_back (given_back answer) d at from m d' here t.1.ok

  takes_delete : (d : Dif) (lines : List Direction) (below : Seen) (at from dcep scep : ℕ) (done : Unit {0}) (m : Member) (d' : Dif) → slice_get d.settings.members at ≡ Some m → TakesDelete d lines below at from dcep scep (Ok done) d' → HasEnd e i d' → HasEnd e i d
  takes_delete d lines below at from dcep scep done m d' here t h = elim (t m here) [
    | inl c ↦ freed_end c.frees.end.state (seen_of_dif d) lines c.place c.frees.end (seen_of_dif d') c.frees.is_end c.frees.frees h
    | inr none ↦ dif_same d d' none.1 h
  ]

-- ---- an ask

-- the member at a place may make the far end, for which a message asks
abbrev IsGranted : End → FlowMessage → ℕ → Dif → Type 0
IsGranted e message at d = IsAskFor message e × MayMakeFar d at e

module _ (e : End) (i : ℕ) (d d' : Dif) (lines : List Direction) (below : Seen) (holds : Holds d lines below) (message : FlowMessage) (place : ℕ) (m : Member) (here : slice_get d.settings.members place ≡ Some m) where
  -- the management of the member
  its_management : (g : Management) × (slice_get d.managements place ≡ Some g)
  its_management = (let within = slice_get_within d.settings.members place m here in let aligned = holds.managed.aligned in there d.managements place (omega (arith, within, aligned)))

  accepted : (own node from invoke : ℕ) (ask : FlowAsk) (g : Grounds) (cep its : ℕ) → message.word ≡ words.Ask invoke ask → enrolled_home d node ≡ Some place → IsGrounds d place node ask g → answer_by g ask.scep ≡ Some (answers.Yes cep its) → Accepts d lines below place own node from invoke ask d' → HasEnd e i d' → HasEnd e i d ⊎ IsGranted e message place d
  accepted own node from invoke ask g cep its word enrolled grounds told x h =
      let asker : x.makes.asker ≡ x.asker.end = same_Some x.makes.asker x.asker.end (sym x.makes.is_conn.end ∙ x.asker.is_at.end_is) in
      let far : End = far_end_of (seen_of_dif d) node x.makes.asker in
      let ends : d'.flows.journal.ends ≡ d.flows.journal.ends ++ far ∷ [] = ap (λ (z : DifSeen). z.ends) x.makes.new_is in
      elim (pushed_at d.flows.journal.ends far i h.end (subst (λ (es : List End). At es i h.end) ends h.stands)) [
        | inl old ↦ inl (record { end = h.end; stands = old; same = h.same })
        | inr new ↦
            let yes = yes_told g.here g.aged g.denied g.drawn g.used ask.scep cep its told in
            let management = its_management in
            let asks = x.asker.asks in
            let flow_is : e.flow ≡ x.makes.asker.flow = h.same.flow ∙ ap (λ (z : End). z.flow) new.1 in
            let cube_is : e.cube ≡ x.makes.asker.cube = h.same.cube ∙ ap (λ (z : End). z.cube) new.1 in
            let app_is : e.app ≡ x.makes.asker.peer = h.same.app ∙ ap (λ (z : End). z.app) new.1 in
            let peer_is : e.peer ≡ x.makes.asker.app = h.same.peer ∙ ap (λ (z : End). z.peer) new.1 in
            let node_is : e.port.node ≡ node = ap (λ (p : Port). p.node) h.same.port ∙ ap (λ (z : End). z.port.node) new.1 in
            let flow : e.flow ≡ ask.flow = flow_is ∙ ap (λ (z : End). z.flow) asker ∙ asks.flow in
            let cube : e.cube ≡ ask.cube = cube_is ∙ ap (λ (z : End). z.cube) asker ∙ asks.cube in
            let app : e.app ≡ ask.destination = app_is ∙ ap (λ (z : End). z.peer) asker ∙ asks.peer in
            let peer : e.peer ≡ ask.source = peer_is ∙ ap (λ (z : End). z.app) asker ∙ asks.app in
            let registered : is_registered d.names node ask.destination ≡ true = here_registered (cube_by ask.cube d.settings.cubes) (is_registered d.names node ask.destination) (sym grounds.here ∙ yes.0) in
            let allowed : denied_by management.0 ask.source ≡ None = sym (grounds.denied management.0 management.1) ∙ yes.1 in
            inr (
              record { invoke = invoke; ask = ask; asks = word; flow = flow; cube = cube; app = app; peer = peer },
              record {
                registered = ap (λ (n : ℕ). is_registered d.names n e.app) node_is ∙ ap (λ (a : List ℕ). is_registered d.names node a) app ∙ registered;
                enrolled = ap (enrolled_home d) node_is ∙ enrolled;
                management = management.0;
                is_management = management.1;
                allowed = ap (λ (a : List ℕ). denied_by management.0 a) peer ∙ allowed;
                cube = x.makes.cube;
                is_cube = ap (λ (c : ℕ). cube_by c d.settings.cubes) cube_is ∙ x.makes.is_cube;
                young = subst (λ (f : FlowName). d.clock < f.tick + 3 * delta_of x.makes.cube) (sym flow_is) x.makes.young;
                asker = record {
                  place = x.place;
                  asker = x.asker.end;
                  stands = x.asker.is_at.end_is;
                  asks = asks.asks;
                  flow = asks.flow ∙ sym flow;
                  named = record { peer = peer ∙ sym asks.app; its_peer = asks.peer ∙ sym app; cube = asks.cube ∙ sym cube };
                };
                alone = λ f. x.asker.alone (subst (HasFar d.flows.journal.ends) flow f);
              },
            )
      ]

  answers_by : (answer : FlowAnswer) (own node from invoke : ℕ) (ask : FlowAsk) (g : Grounds) → message.word ≡ words.Ask invoke ask → enrolled_home d node ≡ Some place → IsGrounds d place node ask g → answer_by g ask.scep ≡ Some answer → AnswersBy answer d lines below place own node from invoke ask d' → HasEnd e i d' → HasEnd e i d ⊎ IsGranted e message place d
  answers_by (answers.Yes cep its) own node from invoke ask g word enrolled grounds told (inl x) h = accepted own node from invoke ask g cep its word enrolled grounds told x h
  answers_by (answers.Yes cep its) own node from invoke ask g word enrolled grounds told (inr x) h = inl (managed_same e i d d' _ x.1.only h)
  answers_by (answers.Denied rule) own node from invoke ask g word enrolled grounds told x h = inl (managed_same e i d d' _ x.only h)
  answers_by answers.NotHere own node from invoke ask g word enrolled grounds told x h = inl (managed_same e i d d' _ x.only h)
  answers_by (answers.NoIds used) own node from invoke ask g word enrolled grounds told x h = inl (managed_same e i d d' _ x.only h)

  handles_ask : (from invoke : ℕ) (ask : FlowAsk) (done : Unit {0}) → message.word ≡ words.Ask invoke ask → HandlesAsk d lines below place from invoke ask (Ok done) d' → HasEnd e i d' → HasEnd e i d ⊎ IsGranted e message place d
  handles_ask from invoke ask done word (inl a) h = (let k = a.decides in answers_by k.answer k.member.addr k.member.node from invoke ask k.grounds word k.enrolled k.are k.told a.does h)
  handles_ask from invoke ask done word (inr none) h = inl (dif_same e i d d' none.1 h)

  handles_word : (from : ℕ) (word : FlowWord) (done : Unit {0}) → message.word ≡ word → HandlesWord d lines below place from word (Ok done) d' → HasEnd e i d' → HasEnd e i d ⊎ IsGranted e message place d
  handles_word from (words.Ask invoke ask) done is w h = handles_ask from invoke ask done is w h
  handles_word from (words.Answer invoke answer) done is w h = inl (takes_answer e i d lines below place from invoke answer done m d' here w h)
  handles_word from (words.Delete dcep scep) done is w h = inl (takes_delete e i d lines below place from dcep scep done m d' here w h)

-- ---- one message

module _ (e : End) (i : ℕ) (below : Seen) (place : ℕ) where
  -- where a far end is made at the member of a place, it is for the ask of the message
  made_here : (d : Dif) (lines : List Direction) (message : FlowMessage) (done : Unit {0}) (d' : Dif) (lines' : List Direction) → Holds d lines below → HandlesFlow d lines below place message (Ok done) d' lines' → MakesFarHere (seen_of_dif d) lines place (seen_of_dif d') lines' → HasEnd e i d' → HasEnd e i d ⊎ IsGranted e message place d
  made_here d lines message done d' lines' holds f made h =
      let z = map_at member_of d.settings.members made.makes.place made.makes.member made.makes.stands in
      let here : slice_get d.settings.members place ≡ Some z.0 = subst (λ (k : ℕ). slice_get d.settings.members k ≡ Some z.0) made.here z.1 in
      elim (eqb_tells message.to z.0.addr) [
        | inl own ↦ handles_word e i d d' lines below holds message place z.0 here message.from message.word done refl (f.own z.0 here own.1) h
        | inr other ↦ inl (managed_same e i d d' _ (f.on z.0 here other.1) h)
      ]

  flow_made : (d : Dif) (lines : List Direction) (message : FlowMessage) (done : Unit {0}) (d' : Dif) (lines' : List Direction) → Holds d lines below → HandlesFlow d lines below place message (Ok done) d' lines' → MayChangeFlow (seen_of_dif d) lines place (seen_of_dif d') lines' → HasEnd e i d' → HasEnd e i d ⊎ IsGranted e message place d
  flow_made d lines message done d' lines' holds f (inl same) h = inl (row_same e i (seen_of_dif d) (seen_of_dif d') same.0 h)
  flow_made d lines message done d' lines' holds f (inr (inl made)) h = made_here d lines message done d' lines' holds f made h
  flow_made d lines message done d' lines' holds f (inr (inr (inl b))) h = inl (answered e i (seen_of_dif d) b.place (seen_of_dif d') b.answered h)
  flow_made d lines message done d' lines' holds f (inr (inr (inr (inl r)))) h = inl (turned e i (seen_of_dif d) r.place r.state (seen_of_dif d') r.turned h)
  flow_made d lines message done d' lines' holds f (inr (inr (inr (inr c)))) h = inl (ended e i (seen_of_dif d) lines c.place Closed (seen_of_dif d') c.ended h)

  -- ---- several, one after the other

  -- one of them asks for the far end, and the member may make it once those before were handled
  record AsksIn (d : Dif) (lines : List Direction) (ms : List FlowMessage) (d' : Dif) : Type 0 where
    before : List FlowMessage
    message : FlowMessage
    rest : List FlowMessage
    are : ms ≡ before ++ message ∷ rest
    mid : Dif
    between : List Direction
    handles : HandlesFlows d lines below place before (Ok tt) mid between
    stands : Holds mid between below
    asks : IsAskFor message e
    may : MayMakeFar mid place e
    names : d'.names ≡ mid.names

  flows_names : (d : Dif) (lines : List Direction) (ms : List FlowMessage) (r : Result (Unit {0}) NoMemory) (d' : Dif) (lines' : List Direction) → HandlesFlows d lines below place ms r d' lines' → d'.names ≡ d.names
  flows_names d lines [] r d' lines' f = ap (λ (z : Dif). z.names) f.1
  flows_names d lines (m ∷ ms) r d' lines' (inl stops) = ap (λ (z : Dif). z.names) stops.1.rest
  flows_names d lines (m ∷ ms) r d' lines' (inr f) = flows_names f.0 f.1 ms r d' lines' f.4 ∙ ap (λ (z : Dif). z.names) f.2.rest

  flows_made : (d : Dif) (lines : List Direction) (ms : List FlowMessage) (done : Unit {0}) (d' : Dif) (lines' : List Direction) → Holds d lines below → HandlesFlows d lines below place ms (Ok done) d' lines' → HasEnd e i d' → HasEnd e i d ⊎ AsksIn d lines ms d'
  flows_made d lines [] done d' lines' holds f h = inl (dif_same e i d d' f.1 h)
  flows_made d lines (m ∷ ms) done d' lines' holds (inl stops) h = absurd (false≢true stops.0)
  flows_made d lines (m ∷ ms) done d' lines' holds (inr f) h = elim (flows_made f.0 f.1 ms done d' lines' f.3 f.4 h) [
    | inl mid ↦ elim (flow_made d lines m tt f.0 f.1 holds f.2 f.2.flow mid) [
      | inl old ↦ inl old
      | inr g ↦ inr (record { before = []; message = m; rest = ms; are = refl; mid = d; between = lines; handles = (refl, refl, refl); stands = holds; asks = g.0; may = g.1; names = flows_names d lines (m ∷ ms) (Ok done) d' lines' (inr f) })
    ]
    | inr a ↦ inr (record {
      before = m ∷ a.before;
      message = a.message;
      rest = a.rest;
      are = ap (λ (xs : List FlowMessage). m ∷ xs) a.are;
      mid = a.mid;
      between = a.between;
      handles = inr (f.0, f.1, f.2, f.3, a.handles);
      stands = a.stands;
      asks = a.asks;
      may = a.may;
      names = a.names;
    })
  ]

-- ---- a step

ends_memory : (answer : Result InStep StepError) (memory : NoMemory) (result : Result InStep StepError) → EndsAs (Err memory) answer result → result ≡ Err Memory
ends_memory (Ok (ins.Took key end)) memory result h = h
ends_memory answer memory result h = absurd h

-- the step takes an ask for the far end, whose application was registered before
record TakesIt (d : Dif) (below : Seen) (e : End) : Type 0 where
  takes : TakesAskFor d below e
  registered : is_registered d.names e.port.node e.app ≡ true

module _ (e : End) (i : ℕ) (d : Dif) (lines : List Direction) (below : Seen) (node number : ℕ) (result : Result InStep StepError) (d' : Dif) (below' : Seen) (holds : Holds d lines below) (s : TakesHome d lines below node number result d' below') (memory : result ≢ Err Memory) (names : d'.names ≡ d.names) where
  -- as the flows before are handled no end is made
  before_flows : HasEnd e i s.handled → HasEnd e i d
  before_flows h = at_ends e i (seen_of_dif d) lines below node number s.answer (seen_of_dif s.taken) s.between below' s.does (rerouted_ends e i (seen_of_dif s.taken) (seen_of_dif s.handled) s.rerouted h)

  stopped_not : (place : ℕ) (told : TellsFlows d below place number s.answer s.handled s.between below' result d' s.lines') (stopped : Result (Unit {0}) NoMemory) → told.stopped ≡ stopped → HandlesFlows s.handled s.between below' place told.messages stopped (record d' { failed = s.handled.failed }) s.lines' → EndsAs stopped s.answer result → HasEnd e i d' → HasEnd e i d ⊎ AsksIn e i below' place s.handled s.between told.messages (record d' { failed = s.handled.failed })
  stopped_not place told (Ok done) is f ends h = elim (flows_made e i below' place s.handled s.between told.messages done (record d' { failed = s.handled.failed }) s.lines' s.stood f h) [ inl old ↦ inl (before_flows old) | inr a ↦ inr a ]
  stopped_not place told (Err lack) is f ends h = absurd (memory (ends_memory s.answer lack result ends))

  told_made : (o : Option ℕ) → home node (config_of d.settings).members ≡ o → AtHome o (λ k. TellsFlows d below k number s.answer s.handled s.between below' result d' s.lines') (TellsNothing s.answer s.handled s.between result d' s.lines') → HasEnd e i d' → HasEnd e i d ⊎ TakesIt d below e
  told_made None is none h = inl (before_flows (dif_same e i s.handled (record d' { failed = s.handled.failed }) none.1 h))
  told_made (Some place) is told h = elim (stopped_not place told told.stopped refl told.handles told.ends h) [
    | inl old ↦ inl old
    | inr a ↦ inr (record {
      takes = record {
        lines = lines;
        holds = holds;
        node = node;
        number = number;
        result = result;
        d' = d';
        below' = below';
        takes = s;
        place = place;
        at_home = is;
        told = told;
        before = a.before;
        message = a.message;
        rest = a.rest;
        are = a.are;
        mid = a.mid;
        between = a.between;
        handles = a.handles;
        stands = a.stands;
        asks = a.asks;
        may = a.may;
      };
      registered = ap (λ (ns : List _). is_registered ns e.port.node e.app) (sym names ∙ a.names) ∙ a.may.registered;
    })
  ]

  takes_made : HasEnd e i d' → HasEnd e i d ⊎ TakesIt d below e
  takes_made h = told_made (home node (config_of d.settings).members) refl s.told h

-- ---- at a rank

-- no end stood at the place, and the DIF takes an ask for the far end
pub record IsAskedFor (e : End) (i : ℕ) (d : Dif) (below : Seen) : Type 0 where
  pub none : slice_get d.flows.journal.ends i ≡ None
  pub takes : TakesAskFor d below e
  pub registered : is_registered d.names e.port.node e.app ≡ true

abbrev pub ByAsk : End → ℕ → Reason
ByAsk e i r n d below = IsAskedFor e i d (seen_of below)

pub takes_ends : (e : End) (i : ℕ) (x : Result InStep StepError) → x ≢ Err Memory → TakesFor (HasEnd e i) (ByAsk e i) x
takes_ends e i x memory r n node link d d' below below' st s h = elim (slice_get d.flows.journal.ends i) as (λ o. slice_get d.flows.journal.ends i ≡ o → HasEnd e i d ⊎ IsAskedFor e i d (seen_of below)) [
  | Some y ↦ λ is. inl (in_later e i d.clock d'.clock d.flows.journal.ends d'.flows.journal.ends s.after.goes_on.later.ends h (y, is))
  | None ↦ λ none. elim (takes_made e i d st.0 (seen_of below) node link x d' (seen_of below') st.1 (s.does st.0 st.1) memory (ap (λ (z : Dif). z.names) s.rest) h) [
    | inl old ↦ inl old
    | inr t ↦ inr (record { none = none; takes = t.takes; registered = t.registered })
  ]
] refl
