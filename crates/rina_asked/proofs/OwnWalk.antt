-- A member that handles messages about flows: the answer that it posts is of the flow of the ask, and no ask begins to wait.
use Rattle.std.proofs.Common.{◌≡◌, ◌∙◌, inl, inr, ⊎_elim, ℕ, ◌<◌, ◌^◌, List, [], ◌∷◌, Contains, length, slice_get, Option, Some, None, Ok, sym, ap, subst}
use Rattle.std.proofs.lemmas.Bool.{true≢false}
use Rattle.std.proofs.lemmas.Bool.Decides.{eqb_tells}
use Rattle.std.proofs.lemmas.Option.{same_Some}
use Rattle.std.specs.List.{remove}
use Rattle.rina_agent.specs.declared.message.ManagementMessage.TheVariants.{ToMember}
use Rattle.rina_alloc.specs.declared.answer.FlowAnswer.{FlowAnswer}
use Rattle.rina_alloc.specs.declared.answer.FlowAnswer.TheVariants as answers
use Rattle.rina_alloc.specs.declared.message.FlowAsk.{FlowAsk}
use Rattle.rina_alloc.specs.declared.message.FlowMessage.{FlowMessage}
use Rattle.rina_alloc.specs.declared.message.FlowWord.{FlowWord}
use Rattle.rina_alloc.specs.declared.message.FlowWord.TheVariants as words
use Rattle.rina_alloc.specs.Words.{code_of, dcep_of}
use Rattle.rina_base.specs.declared.number.FlowName.{FlowName}
use Rattle.rina_data.specs.declared.settings.Member.{Member}
use Rattle.rina_data.proofs.Finding.{there}
use Rattle.rina_iface.specs.declared.state.Why.{Why}
use Rattle.rina_iface.specs.Seen.{Seen}
use Rattle.rina_law.specs.Direction.{Direction}
use Rattle.rina_member.specs.declared.management.Management.{Management}
use Rattle.rina_member.proofs.Tells.{from_without}
use Rattle.rina_dif.specs.declared.dif.Dif.{Dif}
use Rattle.rina_dif.specs.declared.waiting_asks.WaitingAsk.{WaitingAsk}
use Rattle.rina_dif.specs.Allocating.{way}
use Rattle.rina_dif.specs.AnswersIn.{SaysBack, TakesAnswer, TakesAt, given_back, why_of}
use Rattle.rina_dif.specs.Changing.{with_flow_at}
use Rattle.rina_dif.specs.FarMaking.{Accepts, AnswersBy}
use Rattle.rina_dif.specs.FlowAnswers.{IsFarEndAt}
use Rattle.rina_dif.specs.FlowMessages.{AsksWaitOn, HandlesFlow, HandlesFlows, HandlesWord}
use Rattle.rina_dif.specs.Holding.{Holds}
use Rattle.rina_dif.specs.Posting.{message_of, posts}
use Rattle.rina_asked.specs.Awaited.{AreOwn, HasFarOf, HasOwnCep, IsAskFrom}
use Rattle.rina_asked.proofs.Askers.{KeepAskers}
use Rattle.rina_asked.proofs.Awaits.{WaitsNoMore, asks_same}
use Rattle.rina_asked.proofs.Drawn.{KeepIds}
use Rattle.rina_asked.proofs.Flows.{AllOf, all_so, answer_adds, answered_adds, cep_fits, delete_adds, far_end_at, flow_adds, flow_askers, its_place, no_code}
use Rattle.rina_asked.proofs.Links.{links_same}
use Rattle.rina_asked.proofs.Own.{IsOwnFlow, SaysOwn, flow_own, flow_own_on, its_cep, its_flow, other_own, own_by, refusal_own, was_from}
use Rattle.rina_asked.proofs.Waiting.{Adds, IsOther, added_on, posted_adds, same_added, shows_flow, widened}

-- What the member posts

-- what says nothing of an ask
others : (asks : List WaitingAsk) (d : Dif) (old new : List Management) → Adds IsOther old new → Adds (SaysOwn asks d) old new
others asks d old new adds = widened IsOther (SaysOwn asks d) old new (other_own asks d) adds

-- an answer goes back that says so
tells_own : (asks : List WaitingAsk) (d d' : Dif) (at own from invoke : ℕ) (answer : FlowAnswer) (ms : List Management) → SaysOwn asks d' (ToMember (message_of from own (words.Answer invoke answer))) → Adds (SaysOwn asks d') ms (posts d at (message_of from own (words.Answer invoke answer)) ms)
tells_own asks d d' at own from invoke answer ms says = posted_adds (SaysOwn asks d') at (way d at from) (message_of from own (words.Answer invoke answer)) ms says

refuses_own : (asks : List WaitingAsk) (d d' : Dif) (at own from invoke : ℕ) (answer : FlowAnswer) → (code_of answer ≡ 0 → ⊥) → d' ≡ record d { managements = posts d at (message_of from own (words.Answer invoke answer)) d.managements } → Adds (SaysOwn asks d') d.managements d'.managements
refuses_own asks d d' at own from invoke answer refuses only = subst (Adds (SaysOwn asks d') d.managements) (sym (ap (λ (z : Dif). z.managements) only)) (tells_own asks d d' at own from invoke answer d.managements (refusal_own asks d' from own invoke answer refuses))

-- the answer to an ask that is of the flows that these wait for
module _ (asks : List WaitingAsk) (d : Dif) (lines : List Direction) (below : Seen) (h : Holds d lines below) (at own node from invoke : ℕ) (ask : FlowAsk) (d' : Dif) (keeps : KeepAskers d d') (kept : AreOwn asks d) (fits : own < 2 ^ 32) (to : ℕ) (hand : IsOwnFlow asks d (record { to = to; from = from; word = words.Ask invoke ask })) where
  -- a yes
  module _ (s : Accepts d lines below at own node from invoke ask d') (ids : KeepIds d.managements d'.managements) where
    abbrev answer : FlowAnswer
    answer = answers.Yes s.makes.cep ask.scep

    yes_of : (w : WaitingAsk) → Contains asks w → IsAskFrom d' w from invoke → HasFarOf d' w.place own s.makes.cep × HasOwnCep d' w.place ask.scep
    yes_of w has f =
        let stands = kept.stand w has in
        let of = hand.own w has (was_from d d' keeps ids w stands from invoke f) in
        let flow = of.0 stands.end stands.is_at.end_is in (
          (
            its_place d lines below h at own node from invoke ask d' s,
            λ end is.
                subst (λ (name : FlowName). IsFarEndAt d' (its_place d lines below h at own node from invoke ask d' s) name own s.makes.cep) (sym (its_flow d d' keeps ids w stands end is ∙ flow)) (far_end_at d lines below h at own node from invoke ask d' s),
          ),
          its_cep d d' keeps ids w stands ask.scep of.1,
        )

    yes_own : SaysOwn asks d' (ToMember (message_of from own (words.Answer invoke answer)))
    yes_own =
        let range = hand.in_range in
        flow_own asks d' (message_of from own (words.Answer invoke answer)) (record {
          in_range = record { to = range.from; from = fits; word = (range.word.0, cep_fits d lines below h at own node from invoke ask d' s, range.word.1.scep) };
          proper = tt;
          own = λ w has f. yes_of w has f;
        })

    accepts_own : Adds (SaysOwn asks d') d.managements d'.managements
    accepts_own =
        let shown : List Management = with_flow_at at s.makes.cep d.managements in
        subst (Adds (SaysOwn asks d') d.managements) (sym s.managed) (added_on (SaysOwn asks d') d.managements shown (posts d at (message_of from own (words.Answer invoke answer)) shown) (others asks d' d.managements shown (shows_flow at s.makes.cep d.managements)) (tells_own asks d d' at own from invoke answer shown yes_own))

  by_answer : (a : FlowAnswer) → AnswersBy a d lines below at own node from invoke ask d' → KeepIds d.managements d'.managements → Adds (SaysOwn asks d') d.managements d'.managements
  by_answer (answers.Yes cep scep) (inl s) ids = accepts_own s ids
  by_answer (answers.Yes cep scep) (inr s) ids = refuses_own asks d d' at own from invoke answers.NotHere (no_code 1) s.1.only
  by_answer (answers.Denied rule) s ids = refuses_own asks d d' at own from invoke (answers.Denied rule) (no_code 0) s.only
  by_answer answers.NotHere s ids = refuses_own asks d d' at own from invoke answers.NotHere (no_code 1) s.only
  by_answer (answers.NoIds used) s ids = refuses_own asks d d' at own from invoke (answers.NoIds used) (no_code 2) s.only

word_own : (asks : List WaitingAsk) (word : FlowWord) (d : Dif) (lines : List Direction) (below : Seen) → Holds d lines below → (at from : ℕ) (m : Member) (d' : Dif) → slice_get d.settings.members at ≡ Some m → KeepAskers d d' → AreOwn asks d → IsOwnFlow asks d (record { to = m.addr; from = from; word = word }) → HandlesWord d lines below at from word (Ok tt) d' → Adds (SaysOwn asks d') d.managements d'.managements
word_own asks (words.Ask invoke ask) d lines below h at from m d' is keeps kept hand (inl a) =
    let same : m ≡ a.decides.member = same_Some m a.decides.member (sym is ∙ a.decides.stands) in
    let fits = subst (λ (z : Member). z.addr < 2 ^ 32) same hand.in_range.to in
    by_answer asks d lines below h at a.decides.member.addr a.decides.member.node from invoke ask d' keeps kept fits m.addr hand a.decides.answer a.does (answered_adds a.decides.answer d lines below h at a.decides.member.addr a.decides.member.node from invoke ask d' a.does).ids
word_own asks (words.Ask invoke ask) d lines below h at from m d' is keeps kept hand (inr same) = same_added (SaysOwn asks d') d.managements d'.managements (ap (λ (z : Dif). z.managements) same.1)
word_own asks (words.Answer invoke answer) d lines below h at from m d' is keeps kept hand w = others asks d' d.managements d'.managements (answer_adds d lines below at from invoke answer m d' is w)
word_own asks (words.Delete dcep scep) d lines below h at from m d' is keeps kept hand w = others asks d' d.managements d'.managements (delete_adds d lines below at from dcep scep m d' is w)

-- One message

module _ (asks : List WaitingAsk) (d : Dif) (lines : List Direction) (below : Seen) (h : Holds d lines below) (i : ℕ) (message : FlowMessage) (d' : Dif) (lines' : List Direction) (lt : i < length d.settings.members) (f : HandlesFlow d lines below i message (Ok tt) d' lines') where
  keeps : KeepAskers d d'
  keeps = flow_askers d lines below i message (Ok tt) d' lines' f

  ids : KeepIds d.managements d'.managements
  ids = (flow_adds d lines below h i message d' lines' lt f).ids

  handled_own : AreOwn asks d → IsOwnFlow asks d message → Adds (SaysOwn asks d') d.managements d'.managements
  handled_own kept hand =
      let m = there d.settings.members i lt in
      ⊎_elim
      (λ own. word_own asks message.word d lines below h i message.from m.0 d' m.1 keeps kept (subst (λ (to : ℕ). IsOwnFlow asks d (record { to = to; from = message.from; word = message.word })) own.1 hand) (f.own m.0 m.1 own.1))
      (λ other. subst (Adds (SaysOwn asks d') d.managements) (sym (ap (λ (z : Dif). z.managements) (f.on m.0 m.1 other.1))) (posted_adds (SaysOwn asks d') i (way d i message.to) message d.managements (flow_own asks d' message (flow_own_on asks d d' keeps ids kept message hand))))
      (eqb_tells message.to m.0.addr)

  pub one_own : AreOwn asks d → IsOwnFlow asks d message → AreOwn asks d'
  one_own kept hand = own_by asks (SaysOwn asks d') d d' keeps (handled_own kept hand) (λ x has says. says) (λ text on. inr ((links_same d d' (ap (λ (z : Dif). z.connections) f.rest)).more text on)) kept

  -- what is in hand behind it goes on to say so
  pub hand_on : AreOwn asks d → (ms : List FlowMessage) → AllOf (IsOwnFlow asks d) ms → AllOf (IsOwnFlow asks d') ms
  hand_on kept ms all = all_so (IsOwnFlow asks d) (IsOwnFlow asks d') (flow_own_on asks d d' keeps ids kept) ms all

-- Which asks wait

taken_asks : (o : Option Why) (d : Dif) (lines : List Direction) (below : Seen) (at from cep which place : ℕ) (d' : Dif) → TakesAt o cep d lines below at from which place (Ok tt) d' → d'.asks.items ≡ remove d.asks.items which
taken_asks (Some cause) d lines below at from cep which place d' t = t.asks
taken_asks None d lines below at from cep which place d' (inl t) = t.1.asks
taken_asks None d lines below at from cep which place d' (inr t) = t.2.asks

back_asks : (a : FlowAnswer) (d : Dif) (at from : ℕ) (m : Member) (d' : Dif) → slice_get d.settings.members at ≡ Some m → SaysBack (given_back a) d at from d' → d'.asks ≡ d.asks
back_asks (answers.Yes cep scep) d at from m d' is s = ap (λ (z : Dif). z.asks) (s m is)
back_asks (answers.Denied rule) d at from m d' is s = ap (λ (z : Dif). z.asks) s
back_asks answers.NotHere d at from m d' is s = ap (λ (z : Dif). z.asks) s
back_asks (answers.NoIds used) d at from m d' is s = ap (λ (z : Dif). z.asks) s

answer_asks : (d : Dif) (lines : List Direction) (below : Seen) (at from invoke : ℕ) (answer : FlowAnswer) (m : Member) (d' : Dif) → slice_get d.settings.members at ≡ Some m → TakesAnswer d lines below at from invoke answer (Ok tt) d' → WaitsNoMore d d'
answer_asks d lines below at from invoke answer m d' is (inl t) w has = from_without (Some t.which) d.asks.items w (subst (λ (asks : List WaitingAsk). Contains asks w) (taken_asks (why_of answer) d lines below at from (dcep_of answer) t.which t.first.is_ask.ask.place d' t.takes) has)
answer_asks d lines below at from invoke answer m d' is (inr t) w has = asks_same d d' (back_asks answer d at from m d' is t.1.ok) w has

word_asks : (word : FlowWord) (d : Dif) (lines : List Direction) (below : Seen) (at from : ℕ) (m : Member) (d' : Dif) → slice_get d.settings.members at ≡ Some m → HandlesWord d lines below at from word (Ok tt) d' → AsksWaitOn word d d' → WaitsNoMore d d'
word_asks (words.Ask invoke ask) d lines below at from m d' is w same = asks_same d d' same
word_asks (words.Answer invoke answer) d lines below at from m d' is w same = answer_asks d lines below at from invoke answer m d' is w
word_asks (words.Delete dcep scep) d lines below at from m d' is w same = asks_same d d' same

pub flow_asks : (d : Dif) (lines : List Direction) (below : Seen) (i : ℕ) (message : FlowMessage) (d' : Dif) (lines' : List Direction) → i < length d.settings.members → HandlesFlow d lines below i message (Ok tt) d' lines' → WaitsNoMore d d'
flow_asks d lines below i message d' lines' lt f =
    let m = there d.settings.members i lt in
    ⊎_elim
    (λ own. word_asks message.word d lines below i message.from m.0 d' m.1 (f.own m.0 m.1 own.1) f.asks)
    (λ other. asks_same d d' (ap (λ (z : Dif). z.asks) (f.on m.0 m.1 other.1)))
    (eqb_tells message.to m.0.addr)

-- Several

pub flows_own : (asks : List WaitingAsk) (d : Dif) (lines : List Direction) (below : Seen) → Holds d lines below → (i : ℕ) (ms : List FlowMessage) (d' : Dif) (lines' : List Direction) → i < length d.settings.members → AllOf (IsOwnFlow asks d) ms → HandlesFlows d lines below i ms (Ok tt) d' lines' → AreOwn asks d → AreOwn asks d'
flows_own asks d lines below holds i [] d' lines' lt all h kept = subst (AreOwn asks) (sym h.1) kept
flows_own asks d lines below holds i (m ∷ ms) d' lines' lt all (inl stops) kept = absurd (true≢false (sym stops.0))
flows_own asks d lines below holds i (m ∷ ms) d' lines' lt all (inr h) kept =
    let mid = h.0 in
    let settings : length mid.settings.members ≡ length d.settings.members = ap (λ (z : Dif). length z.settings.members) h.2.rest in
    let within : i < length mid.settings.members = subst (λ (n : ℕ). i < n) (sym settings) lt in
    flows_own asks mid h.1 below h.3 i ms d' lines' within (hand_on asks d lines below holds i m mid h.1 lt h.2 kept ms all.1) h.4 (one_own asks d lines below holds i m mid h.1 lt h.2 kept all.0)

pub flows_asks : (d : Dif) (lines : List Direction) (below : Seen) (i : ℕ) (ms : List FlowMessage) (d' : Dif) (lines' : List Direction) → i < length d.settings.members → HandlesFlows d lines below i ms (Ok tt) d' lines' → WaitsNoMore d d'
flows_asks d lines below i [] d' lines' lt h = asks_same d d' (ap (λ (z : Dif). z.asks) h.1)
flows_asks d lines below i (m ∷ ms) d' lines' lt (inl stops) = absurd (true≢false (sym stops.0))
flows_asks d lines below i (m ∷ ms) d' lines' lt (inr h) =
    let mid = h.0 in
    let settings : length mid.settings.members ≡ length d.settings.members = ap (λ (z : Dif). length z.settings.members) h.2.rest in
    let within : i < length mid.settings.members = subst (λ (n : ℕ). i < n) (sym settings) lt in
    λ w has. flow_asks d lines below i m mid h.1 lt h.2 w (flows_asks mid h.1 below i ms d' lines' within h.4 w has)
