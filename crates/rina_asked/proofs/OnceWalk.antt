-- A member that handles messages about flows posts the answer in the place of an ask, and no message of an ask in that of an answer.
use Rattle.std.proofs.Common.{◌≡◌, inl, inr, ⊎_elim, ℕ, ◌+◌, ◌<◌, ◌≤◌, List, [], ◌∷◌, length, slice_get, sum_by, Some, Ok, sym, ap, subst, arith}
use Rattle.std.proofs.lemmas.Bool.{true≢false}
use Rattle.std.proofs.lemmas.Bool.Decides.{eqb_tells}
use Rattle.std.proofs.lemmas.List.Sums.{sum_by-cons}
use Rattle.rina_agent.specs.declared.message.ManagementMessage.TheVariants.{ToMember}
use Rattle.rina_alloc.specs.declared.answer.FlowAnswer.{FlowAnswer}
use Rattle.rina_alloc.specs.declared.answer.FlowAnswer.TheVariants as answers
use Rattle.rina_alloc.specs.declared.message.FlowAsk.{FlowAsk}
use Rattle.rina_alloc.specs.declared.message.FlowMessage.{FlowMessage}
use Rattle.rina_alloc.specs.declared.message.FlowWord.{FlowWord}
use Rattle.rina_alloc.specs.declared.message.FlowWord.TheVariants as words
use Rattle.rina_cdap.specs.Messages.{be4}
use Rattle.rina_data.specs.declared.settings.Member.{Member}
use Rattle.rina_data.proofs.Finding.{there}
use Rattle.rina_iface.specs.Seen.{Seen}
use Rattle.rina_law.specs.Direction.{Direction}
use Rattle.rina_member.specs.declared.management.Management.{Management}
use Rattle.rina_dif.specs.declared.dif.Dif.{Dif}
use Rattle.rina_dif.specs.Allocating.{way}
use Rattle.rina_dif.specs.Changing.{with_flow_at}
use Rattle.rina_dif.specs.FarMaking.{AnswersBy}
use Rattle.rina_dif.specs.FlowMessages.{HandlesFlow, HandlesFlows, HandlesWord}
use Rattle.rina_dif.specs.Holding.{Holds}
use Rattle.rina_dif.specs.Posting.{message_of, posts}
use Rattle.rina_asked.specs.Alone.{all_on_links, all_waiting, one}
use Rattle.rina_asked.specs.Single.{AreSingle, AskId, IsAskId, belongs, drawn_by, is_id, text_belongs, word_belongs}
use Rattle.rina_asked.proofs.Belonging.{other_weighs, text_weighs}
use Rattle.rina_asked.proofs.Drawn.{KeepIds}
use Rattle.rina_asked.proofs.Fewer.{FewerWith}
use Rattle.rina_asked.proofs.Flows.{answer_adds, delete_adds, word_adds}
use Rattle.rina_asked.proofs.Links.{links_same}
use Rattle.rina_asked.proofs.Once.{drawn_more}
use Rattle.rina_asked.proofs.Waiting.{posted_adds, posted_once, shows_flow}

-- What the member posts

-- those of one ask that wait at the members
abbrev waits : AskId → List Management → ℕ
waits k ms = all_waiting (λ x. one (belongs k x)) ms

-- an answer goes back, and it is as many as the ask that it answers
told_once : (k : AskId) (d : Dif) (at own from invoke : ℕ) (answer : FlowAnswer) (ms : List Management) → waits k (posts d at (message_of from own (words.Answer invoke answer)) ms) ≤ waits k ms + one (is_id k (be4 invoke) (be4 from))
told_once k d at own from invoke answer ms = posted_once (λ x. one (belongs k x)) at (way d at from) (message_of from own (words.Answer invoke answer)) ms

refused_once : (k : AskId) (d d' : Dif) (at own from invoke : ℕ) (answer : FlowAnswer) → d' ≡ record d { managements = posts d at (message_of from own (words.Answer invoke answer)) d.managements } → waits k d'.managements ≤ waits k d.managements + one (is_id k (be4 invoke) (be4 from))
refused_once k d d' at own from invoke answer only =
    let path = ap (λ (z : Dif). waits k z.managements) only in
    let told = told_once k d at own from invoke answer d.managements in
    omega (arith, path, told)

answered_once : (k : AskId) (a : FlowAnswer) (d : Dif) (lines : List Direction) (below : Seen) (at own node from invoke : ℕ) (ask : FlowAsk) (d' : Dif) → AnswersBy a d lines below at own node from invoke ask d' → waits k d'.managements ≤ waits k d.managements + one (is_id k (be4 invoke) (be4 from))
answered_once k (answers.Yes cep scep) d lines below at own node from invoke ask d' (inl s) =
    let shown : List Management = with_flow_at at s.makes.cep d.managements in
    let path = ap (waits k) s.managed in
    let told = told_once k d at own from invoke (answers.Yes s.makes.cep ask.scep) shown in
    let shows = (shows_flow at s.makes.cep d.managements).fewer (λ x. one (belongs k x)) (other_weighs k) in
    omega (arith, path, told, shows)
answered_once k (answers.Yes cep scep) d lines below at own node from invoke ask d' (inr s) = refused_once k d d' at own from invoke answers.NotHere s.1.only
answered_once k (answers.Denied rule) d lines below at own node from invoke ask d' s = refused_once k d d' at own from invoke (answers.Denied rule) s.only
answered_once k answers.NotHere d lines below at own node from invoke ask d' s = refused_once k d d' at own from invoke answers.NotHere s.only
answered_once k (answers.NoIds used) d lines below at own node from invoke ask d' s = refused_once k d d' at own from invoke (answers.NoIds used) s.only

word_once : (k : AskId) (word : FlowWord) (d : Dif) (lines : List Direction) (below : Seen) (at from : ℕ) (m : Member) (d' : Dif) → slice_get d.settings.members at ≡ Some m → HandlesWord d lines below at from word (Ok tt) d' → waits k d'.managements ≤ waits k d.managements + one (word_belongs k m.addr from word)
word_once k (words.Ask invoke ask) d lines below at from m d' is (inl a) = answered_once k a.decides.answer d lines below at a.decides.member.addr a.decides.member.node from invoke ask d' a.does
word_once k (words.Ask invoke ask) d lines below at from m d' is (inr same) = (let path = ap (λ (z : Dif). waits k z.managements) same.1 in omega (arith, path))
word_once k (words.Answer invoke answer) d lines below at from m d' is w = (let none = (answer_adds d lines below at from invoke answer m d' is w).fewer (λ x. one (belongs k x)) (other_weighs k) in omega (arith, none))
word_once k (words.Delete dcep scep) d lines below at from m d' is w = (let none = (delete_adds d lines below at from dcep scep m d' is w).fewer (λ x. one (belongs k x)) (other_weighs k) in omega (arith, none))

-- The messages in hand

-- so it is with those among the messages on their way
abbrev pub SingleWith : Dif → List FlowMessage → Type 0
SingleWith d ms = (k : AskId) (links : ℕ) → IsAskId k
    → waits k d.managements + all_on_links (λ t. one (text_belongs k t)) d links + sum_by (λ (m : FlowMessage). one (belongs k (ToMember m))) ms ≤ drawn_by k d.managements

-- where they were among those
pub single_with : (d d' : Dif) (ms : List FlowMessage) → FewerWith d d' ms → KeepIds d.managements d'.managements → AreSingle d → SingleWith d' ms
single_with d d' ms fewer keep single k links is =
    let way = fewer (λ x. one (belongs k x)) (λ t. one (text_belongs k t)) (other_weighs k) (text_weighs k) links in
    let now = way.1 in
    let before = single k way.0 is in
    let ids = drawn_more k d.managements d'.managements is.invoke keep in
    omega (arith, now, before, ids)

pub flow_single : (d : Dif) (lines : List Direction) (below : Seen) → Holds d lines below → (i : ℕ) (message : FlowMessage) (ms : List FlowMessage) (d' : Dif) (lines' : List Direction) → i < length d.settings.members → HandlesFlow d lines below i message (Ok tt) d' lines' → SingleWith d (message ∷ ms) → SingleWith d' ms
flow_single d lines below holds i message ms d' lines' lt h single k links is =
    let m = there d.settings.members i lt in
    let before = single k links is in
    let hand = sum_by-cons (λ (x : FlowMessage). one (belongs k (ToMember x))) message ms in
    let on = (links_same d d' (ap (λ (z : Dif). z.connections) h.rest)).fewer (λ t. one (text_belongs k t)) links in
    ⊎_elim
    (λ own.
    (let word = h.own m.0 m.1 own.1 in
    let put = word_once k message.word d lines below i message.from m.0 d' m.1 word in
    let here : one (word_belongs k m.0.addr message.from message.word) ≡ one (belongs k (ToMember message)) = ap (λ (to : ℕ). one (word_belongs k to message.from message.word)) (sym own.1) in
    let ids = drawn_more k d.managements d'.managements is.invoke (word_adds message.word d lines below holds i message.from m.0 d' m.1 word).ids in
    omega (arith, before, hand, on, put, here, ids)))
    (λ other.
    (let whole = h.on m.0 m.1 other.1 in
    let path = ap (λ (z : Dif). waits k z.managements) whole in
    let put = posted_once (λ x. one (belongs k x)) i (way d i message.to) message d.managements in
    let drew = ap (λ (z : Dif). drawn_by k z.managements) whole in
    let ids = drawn_more k d.managements _ is.invoke (posted_adds (λ x. Unit {0}) i (way d i message.to) message d.managements tt).ids in
    omega (arith, before, hand, on, path, put, drew, ids)))
    (eqb_tells message.to m.0.addr)

pub flows_single : (d : Dif) (lines : List Direction) (below : Seen) → Holds d lines below → (i : ℕ) (ms : List FlowMessage) (d' : Dif) (lines' : List Direction) → i < length d.settings.members → HandlesFlows d lines below i ms (Ok tt) d' lines' → SingleWith d ms → AreSingle d'
flows_single d lines below holds i [] d' lines' lt h single = subst AreSingle (sym h.1) (λ k links is. (let before = single k links is in omega (arith, before)))
flows_single d lines below holds i (m ∷ ms) d' lines' lt (inl stops) single = absurd (true≢false (sym stops.0))
flows_single d lines below holds i (m ∷ ms) d' lines' lt (inr h) single =
    let mid = h.0 in
    let settings : length mid.settings.members ≡ length d.settings.members = ap (λ (z : Dif). length z.settings.members) h.2.rest in
    let within : i < length mid.settings.members = subst (λ (n : ℕ). i < n) (sym settings) lt in
    flows_single mid h.1 below h.3 i ms d' lines' within h.4 (flow_single d lines below holds i m ms mid h.1 lt h.2 single)
