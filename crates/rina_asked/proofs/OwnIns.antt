-- An SDU comes on a link, what is due is done, and what a member looks up: of each yes for which an ask waits it finds the far end.
use Rattle.std.proofs.Common.{◌≡◌, ◌∙◌, inl, inr, ℕ, ◌<◌, List, [], ◌∷◌, Contains, length, slice_get, Option, Some, None, Result, Ok, Err, refl, sym, ap, subst}
use Rattle.rina_alloc.specs.declared.answer.FlowAnswer.TheVariants as answers
use Rattle.rina_alloc.specs.declared.message.FlowMessage.{FlowMessage}
use Rattle.rina_alloc.specs.declared.message.FlowWord.TheVariants as words
use Rattle.rina_base.specs.declared.memory.Memory.{Memory as NoMemory}
use Rattle.rina_base.specs.declared.number.Port.{Port}
use Rattle.rina_data.specs.declared.step.ClockStep.{ClockStep}
use Rattle.rina_data.specs.declared.step.ClockStep.TheVariants as clock
use Rattle.rina_data.specs.declared.step.InStep.{InStep}
use Rattle.rina_data.specs.declared.step.InStep.TheVariants as in_
use Rattle.rina_data.specs.declared.step.StepError.{StepError}
use Rattle.rina_data.specs.declared.step.StepError.TheVariants as step
use Rattle.rina_data.specs.Configs.{config_of}
use Rattle.rina_data.specs.Hops.{Hop}
use Rattle.rina_dif_law.specs.Sending.{home}
use Rattle.rina_iface.specs.Seen.{Seen}
use Rattle.rina_law.specs.Direction.{Direction}
use Rattle.rina_member.proofs.Tells.{from_without}
use Rattle.rina_dif.specs.declared.dif.Dif.{Dif}
use Rattle.rina_dif.specs.declared.waiting_asks.WaitingAsk.{WaitingAsk}
use Rattle.rina_dif.specs.FlowMessages.{HandlesFlows}
use Rattle.rina_dif.specs.Holding.{Holds, LinksStand}
use Rattle.rina_dif.specs.Shown.{seen_of}
use Rattle.rina_dif.specs.Taking.{Handles, HandlesPiece, TakesHome, TellsFlows, TellsNothing}
use Rattle.rina_dif.specs.WaitingAsks.{KeepsStep}
use Rattle.rina_asked.specs.Awaited.{AreAwaited, AreOwn, IsOfAsk}
use Rattle.rina_asked.specs.Calls.{ClockKeeps, InKeeps}
use Rattle.rina_asked.specs.Finding.{FindsFar, InFindsFar, InTurn}
use Rattle.rina_asked.specs.Messages.{IsMessage}
use Rattle.rina_asked.proofs.Askers.{KeepAskers}
use Rattle.rina_asked.proofs.Awaits.{WaitsNoMore, asks_same, awaited_by}
use Rattle.rina_asked.proofs.Brought.{at_contains}
use Rattle.rina_asked.proofs.Clocks.{clock_keeps}
use Rattle.rina_asked.proofs.Fewer.{Balanced}
use Rattle.rina_asked.proofs.Flows.{AllOf, all_so}
use Rattle.rina_asked.proofs.Ins.{IsHandled, Walks, as_many, at_none, at_some, by_answer, handled_askers, handled_ends, in_keeps, in_keeps_single, ins_at, member_within, not_stopped}
use Rattle.rina_asked.proofs.Keeps.{alive}
use Rattle.rina_asked.proofs.Once.{its_address}
use Rattle.rina_asked.proofs.Own.{IsOwnFlow, flow_own_on, message_own, own_fewer, own_lasts}
use Rattle.rina_asked.proofs.OwnWalk.{flow_asks, flows_asks, flows_own, hand_on, one_own}
use Rattle.rina_asked.proofs.Quiet.{quiet_by}

-- What is brought

-- as the DIF is behind all but the messages about flows
module _ (asks : List WaitingAsk) (d handled : Dif) (ms : List FlowMessage) (b : IsHandled d handled ms) (keeps : KeepAskers d handled) (balanced : Balanced d.flows.journal.ends handled.flows.journal.ends) (own : AreOwn asks d) where
  brought_own : AreOwn asks handled
  brought_own = own_lasts asks d handled (quiet_by d handled keeps balanced b.adds b.links) own

  brought_all : AllOf (IsOwnFlow asks handled) ms
  brought_all = all_so (IsMessage d) (IsOwnFlow asks handled) (λ m is. flow_own_on asks d handled keeps b.adds.ids own m (message_own asks d own m is)) ms b.among

own_walks : (asks : List WaitingAsk) → Walks (AreOwn asks)
own_walks asks d handled end lines' lines below i ms keeps balanced b stood lt walk own =
    flows_own asks handled lines below stood i ms end lines' lt (brought_all asks d handled ms b keeps balanced own) walk (brought_own asks d handled ms b keeps balanced own)

-- Which asks wait

piece_asks : (d : Dif) (i n since : ℕ) (port : Port) (hop : Hop) (taken : Dif) (below' : Seen) (handled : Dif) → LinksStand taken below' → HandlesPiece d i n since port hop taken below' handled → handled.asks ≡ taken.asks
piece_asks d i n since port hop taken below' handled stands (inl own) = ap (λ (z : Dif). z.asks) (own.3 stands).only
piece_asks d i n since port hop taken below' handled stands (inr none) = ap (λ (z : Dif). z.asks) none.1

handled_asks : (d : Dif) (below : Seen) (i n : ℕ) (answer : Result InStep StepError) (taken : Dif) (below' : Seen) (handled : Dif) → LinksStand taken below' → Handles d below i n answer taken below' handled → handled.asks ≡ taken.asks
handled_asks d below i n (Ok (in_.Took key end)) taken below' handled stands h = piece_asks d i n h.since h.link.port h.hop taken below' handled stands h.handles
handled_asks d below i n (Ok in_.Idle) taken below' handled stands h = ap (λ (z : Dif). z.asks) h
handled_asks d below i n (Err step.Memory) taken below' handled stands h = ap (λ (z : Dif). z.asks) h
handled_asks d below i n (Err (step.CountSpent need left)) taken below' handled stands h = ap (λ (z : Dif). z.asks) h.1
handled_asks d below i n (Err step.NoIpc) taken below' handled stands h = ap (λ (z : Dif). z.asks) h
handled_asks d below i n (Err step.NoLink) taken below' handled stands h = ap (λ (z : Dif). z.asks) h

told_asks : (d : Dif) (below : Seen) (i n : ℕ) (answer : Result InStep StepError) (handled : Dif) (between : List Direction) (below' : Seen) (result : Result InStep StepError) (d' : Dif) (lines' : List Direction) → TellsFlows d below i n answer handled between below' result d' lines' → i < length handled.settings.members → (result ≡ Err step.Memory → ⊥) → WaitsNoMore handled d'
told_asks d below i n answer handled between below' result d' lines' told lt some =
    flows_asks handled between below' i told.messages (record d' { failed = handled.failed }) lines' lt (subst (λ (r : Result (Unit {0}) NoMemory). HandlesFlows handled between below' i told.messages r (record d' { failed = handled.failed }) lines') (not_stopped told.stopped answer result told.ends some) told.handles)

home_asks : (o : Option ℕ) (d : Dif) (lines : List Direction) (below : Seen) (node n : ℕ) (result : Result InStep StepError) (d' : Dif) (below' : Seen) → home node (config_of d.settings).members ≡ o → TakesHome d lines below node n result d' below' → (result ≡ Err step.Memory → ⊥) → WaitsNoMore d d'
home_asks (Some i) d lines below node n result d' below' here t some =
    let o : Option ℕ = home node (config_of d.settings).members in
    let does = ins_at (seen_of d) lines below node n i t.answer (seen_of t.taken) t.between below' here t.does in
    let lt = member_within d lines below node n i t.answer t.taken t.between below' t.handled here does t.rerouted in
    let told = at_some o i (λ k. TellsFlows d below k n t.answer t.handled t.between below' result d' t.lines') (TellsNothing t.answer t.handled t.between result d' t.lines') here t.told in
    let handled = handled_asks d below i n t.answer t.taken below' t.handled t.held.connected (at_some o i (λ k. Handles d below k n t.answer t.taken below' t.handled) (t.handled ≡ t.taken) here t.handles) in
    λ w has. asks_same d t.handled (handled ∙ t.asks) w (told_asks d below i n t.answer t.handled t.between below' result d' t.lines' told lt some w has)
home_asks None d lines below node n result d' below' none t some =
    let o : Option ℕ = home node (config_of d.settings).members in
    let same : t.handled ≡ t.taken = at_none o (λ k. Handles d below k n t.answer t.taken below' t.handled) (t.handled ≡ t.taken) none t.handles in
    let told = at_none o (λ k. TellsFlows d below k n t.answer t.handled t.between below' result d' t.lines') (TellsNothing t.answer t.handled t.between result d' t.lines') none t.told in
    asks_same d d' (ap (λ (z : Dif). z.asks) told.1 ∙ ap (λ (z : Dif). z.asks) same ∙ t.asks)

pub in_awaited : InKeeps AreAwaited
in_awaited d d' below below' node link result kept kept' st does notes h still =
    let some = (alive d d' result (Err step.Memory) notes still).1 in
    let own = in_keeps (AreOwn d.asks.items) (own_lasts d.asks.items) (own_walks d.asks.items) d d' below below' node link result kept kept' st does notes (λ was. (h was).1) still in (
      in_keeps_single d d' below below' node link result kept kept' st does notes (λ was. (h was).0) still,
      own_fewer d.asks.items d'.asks.items d' (home_asks (home node (config_of d.settings).members) d st.0 below node link result d' below' refl (does st.0 st.1) some) own,
    )

-- What is due

step_asks : (result : Result ClockStep StepError) (d : Dif) (node : ℕ) (d' : Dif) → KeepsStep result d node d' → WaitsNoMore d d'
step_asks (Ok (clock.Timeout port)) d node d' k = λ w has. from_without (Some k.which) d.asks.items w (subst (λ (asks : List WaitingAsk). Contains asks w) k.asks has)
step_asks (Ok clock.Idle) d node d' k = asks_same d d' k
step_asks (Ok (clock.Gone cep)) d node d' k = asks_same d d' k
step_asks (Ok (clock.GaveUp num)) d node d' k = asks_same d d' k
step_asks (Ok (clock.Ack cep)) d node d' k = asks_same d d' k
step_asks (Ok (clock.Again num)) d node d' k = asks_same d d' k
step_asks (Ok (clock.LinkLost link)) d node d' k = asks_same d d' k
step_asks (Ok (clock.LinkNew link)) d node d' k = asks_same d d' k
step_asks (Ok (clock.Message link)) d node d' k = asks_same d d' k
step_asks (Err step.Memory) d node d' k = asks_same d d' k
step_asks (Err (step.CountSpent need left)) d node d' k = asks_same d d' (ap (λ (z : Dif). z.asks) k)
step_asks (Err step.NoIpc) d node d' k = asks_same d d' (ap (λ (z : Dif). z.asks) k)
step_asks (Err step.NoLink) d node d' k = asks_same d d' (ap (λ (z : Dif). z.asks) k)

pub clock_awaited : ClockKeeps AreAwaited
clock_awaited d d' below below' node result st does ok goes notes = awaited_by d d' (step_asks result d node d' (does st.0 st.1).keeps) (λ P lasts. clock_keeps P lasts d d' below below' node result st does ok goes notes)

-- What a member looks up

-- an ask of a member waits, among these, with the invoke id of a yes
finds_far : (asks : List WaitingAsk) (d : Dif) (lines : List Direction) (below : Seen) → Holds d lines below → (i : ℕ) (m : FlowMessage) → ((w : WaitingAsk) → Contains d.asks.items w → Contains asks w) → AreOwn asks d → IsOwnFlow asks d m → FindsFar d i m
finds_far asks d lines below h i m among kept own member invoke cep scep which is to word a =
    let w : WaitingAsk = a.ask in
    let has = among w (at_contains d.asks.items which w a.stands) in
    let s = kept.stand w has in
    let of : IsOfAsk d w m.to m.from (words.Answer invoke (answers.Yes cep scep)) = subst (IsOfAsk d w m.to m.from) word (own.own w has) in
    (of (record {
      management = s.management;
      is_management = s.is_management;
      address = its_address d lines below h w.member member s.management (ap (slice_get d.settings.members) a.is_of.member_is ∙ is) s.is_management ∙ sym to;
      invoke_is = a.is_of.invoke_is;
    })).0

all_find_far : (asks : List WaitingAsk) (d : Dif) (lines : List Direction) (below : Seen) → Holds d lines below → (i : ℕ) (ms : List FlowMessage) (result : Result (Unit {0}) NoMemory) (d' : Dif) (lines' : List Direction) (h : HandlesFlows d lines below i ms result d' lines') → i < length d.settings.members → ((w : WaitingAsk) → Contains d.asks.items w → Contains asks w) → AreOwn asks d → AllOf (IsOwnFlow asks d) ms → InTurn (λ z m. FindsFar z i m) d lines below i ms result d' lines' h
all_find_far asks d lines below holds i [] result d' lines' h lt among kept all = tt
all_find_far asks d lines below holds i (m ∷ ms) result d' lines' (inl stops) lt among kept all = finds_far asks d lines below holds i m among kept all.0
all_find_far asks d lines below holds i (m ∷ ms) result d' lines' (inr h) lt among kept all =
    let mid = h.0 in
    let settings : length mid.settings.members ≡ length d.settings.members = ap (λ (z : Dif). length z.settings.members) h.2.rest in
    let within : i < length mid.settings.members = subst (λ (n : ℕ). i < n) (sym settings) lt in (
      finds_far asks d lines below holds i m among kept all.0,
      all_find_far asks mid h.1 below h.3 i ms result d' lines' h.4 within (λ w has. among w (flow_asks d lines below i m mid h.1 lt h.2 w has))
          (one_own asks d lines below holds i m mid h.1 lt h.2 kept all.0) (hand_on asks d lines below holds i m mid h.1 lt h.2 kept ms all.1),
    )

pub in_finds_far : InFindsFar
in_finds_far d d' lines below below' i n result kept kept' h lt t awaited =
    let b = by_answer d lines below h kept i n t.answer t.taken t.between below' kept' t.handled t.told.messages t.does (t.links h.connected) t.managed t.handles t.told.are in
    let keeps = handled_askers d lines below i n t.answer t.taken t.between below' t.handled t.does t.rerouted h in
    let balanced = handled_ends d lines below i n t.answer t.taken t.between below' t.handled t.does t.rerouted h t.stood in
    let many = as_many d lines below i n t.answer t.taken t.between below' t.handled t.does t.rerouted in
    let same = handled_asks d below i n t.answer t.taken below' t.handled t.held.connected t.handles ∙ t.asks in
    all_find_far d.asks.items t.handled t.between below' t.stood i t.told.messages t.told.stopped (record d' { failed = t.handled.failed }) t.lines' t.told.handles (subst (λ (k : ℕ). i < k) (sym many) lt)
    (asks_same d t.handled same) (brought_own d.asks.items d t.handled t.told.messages b keeps balanced awaited.1) (brought_all d.asks.items d t.handled t.told.messages b keeps balanced awaited.1)
