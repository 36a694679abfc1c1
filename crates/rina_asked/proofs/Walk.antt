-- A member that handles messages about flows makes a far end of an ask alone, which is on its way no more then.
use Rattle.std.proofs.Common.{◌≡◌, ◌∙◌, inl, inr, ⊎_elim, ℕ, ◌+◌, ◌<◌, ◌≤◌, List, [], ◌∷◌, length, slice_get, slice_set, sum_by, Option, Some, None, Ok, refl, sym, ap, subst, arith}
use Rattle.std.proofs.lemmas.Bool.{true≢false}
use Rattle.std.proofs.lemmas.Bool.Decides.{eqb_tells}
use Rattle.std.proofs.lemmas.List.Sums.{sum_by-cons}
use Rattle.std.proofs.lemmas.Option.{same_Some}
use Rattle.rina_base.specs.declared.number.FlowName.{FlowName}
use Rattle.rina_alloc.specs.declared.answer.FlowAnswer.{FlowAnswer}
use Rattle.rina_alloc.specs.declared.answer.FlowAnswer.TheVariants as answers
use Rattle.rina_alloc.specs.declared.message.FlowAsk.{FlowAsk}
use Rattle.rina_alloc.specs.declared.message.FlowMessage.{FlowMessage}
use Rattle.rina_alloc.specs.declared.message.FlowWord.{FlowWord}
use Rattle.rina_alloc.specs.declared.message.FlowWord.TheVariants as words
use Rattle.rina_alloc.specs.Words.{dcep_of}
use Rattle.rina_data.specs.declared.settings.Member.{Member}
use Rattle.rina_data.proofs.Finding.{there}
use Rattle.rina_dif_law.specs.Dif.{DifSeen}
use Rattle.rina_iface.specs.declared.ends.End.{End}
use Rattle.rina_iface.specs.declared.state.PortState.{PortState}
use Rattle.rina_iface.specs.declared.state.PortState.TheVariants.{Allocated, Closed, Failed, Pending, Refused}
use Rattle.rina_iface.specs.declared.state.Why.{Why}
use Rattle.rina_iface.specs.Journal.{At}
use Rattle.rina_iface.specs.Seen.{Seen}
use Rattle.rina_law.specs.Direction.{Direction}
use Rattle.rina_dif.specs.declared.dif.Dif.{Dif}
use Rattle.rina_dif.specs.Allocating.{way}
use Rattle.rina_dif.specs.AnswersIn.{SaysBack, TakesAt, given_back, why_of}
use Rattle.rina_dif.specs.FarMaking.{AnswersBy}
use Rattle.rina_dif.specs.FlowMessages.{HandlesFlow, HandlesFlows, HandlesWord}
use Rattle.rina_dif.specs.Freeing.{FreesEnd}
use Rattle.rina_dif.specs.Holding.{Holds}
use Rattle.rina_dif.specs.Shown.{seen_of}
use Rattle.rina_asked.specs.Alone.{AreAlone, IsName, all_on_links, all_waiting, askers, asks, far_ends, is_asker, is_far, is_of, one, text_asks, word_asks}
use Rattle.rina_asked.proofs.Counting.{sum_set}
use Rattle.rina_asked.proofs.Fewer.{Balanced, FewerWith, balanced_same, one_end}
use Rattle.rina_asked.proofs.Flows.{told_weighs, word_adds}
use Rattle.rina_asked.proofs.Links.{links_same}
use Rattle.rina_asked.proofs.Names.{name_bytes}
use Rattle.rina_asked.proofs.Waiting.{posted_once}
use Rattle.rina_asked.proofs.Weights.{other_weighs, text_weighs}

-- The ends

-- the far ends are no more against the askers' ends, but for one of this ask
abbrev pub Spends : FlowWord → List End → List End → Type 0
Spends word old new = (f : FlowName) → far_ends f new + askers f old ≤ askers f new + far_ends f old + one (word_asks f word)

spends_none : (word : FlowWord) (old new : List End) → Balanced old new → Spends word old new
spends_none word old new ends f = (let balance = ends f in omega (arith, balance))

spends_same : (word : FlowWord) (d d' : Dif) → d'.flows.journal.ends ≡ d.flows.journal.ends → Spends word d.flows.journal.ends d'.flows.journal.ends
spends_same word d d' same = spends_none word d.flows.journal.ends d'.flows.journal.ends (balanced_same d.flows.journal.ends d'.flows.journal.ends same)

balanced_set : (old new : List End) (at : ℕ) (e e' : End) → At old at e → new ≡ slice_set old at e' → e'.role ≡ e.role → e'.flow ≡ e.flow → Balanced old new
balanced_set old new at e e' is change role flow f =
    let fars = sum_set (λ (x : End). one (is_far f x.role x.flow)) old at e e' is in
    let its = sum_set (λ (x : End). one (is_asker f x.role x.flow)) old at e e' is in
    let far : one (is_far f e'.role e'.flow) ≡ one (is_far f e.role e.flow) = (λ k. one (is_far f (role k) (flow k))) in
    let asker : one (is_asker f e'.role e'.flow) ≡ one (is_asker f e.role e.flow) = (λ k. one (is_asker f (role k) (flow k))) in
    let all_far = ap (far_ends f) change in
    let all_asker = ap (askers f) change in
    omega (arith, fars, its, far, asker, all_far, all_asker)

set_spends : (word : FlowWord) (old new : List End) (at : ℕ) (e e' : End) → At old at e → new ≡ slice_set old at e' → e'.role ≡ e.role → e'.flow ≡ e.flow → Spends word old new
set_spends word old new at e e' is change role flow = spends_none word old new (balanced_set old new at e e' is change role flow)

answered_ends : (a : FlowAnswer) (d : Dif) (lines : List Direction) (below : Seen) (at own node from invoke : ℕ) (ask : FlowAsk) (d' : Dif) → AnswersBy a d lines below at own node from invoke ask d' → Spends (words.Ask invoke ask) d.flows.journal.ends d'.flows.journal.ends
answered_ends (answers.Yes cep scep) d lines below at own node from invoke ask d' (inl s) = λ f.
    let ends = ap (λ (z : DifSeen). z.ends) s.makes.new_is in
    let fars = one_end (λ (x : End). one (is_far f x.role x.flow)) d.flows.journal.ends d'.flows.journal.ends _ ends in
    let its = one_end (λ (x : End). one (is_asker f x.role x.flow)) d.flows.journal.ends d'.flows.journal.ends _ ends in
    let asker : s.makes.asker ≡ s.asker.end = same_Some s.makes.asker s.asker.end (sym s.makes.is_conn.end ∙ s.asker.is_at.end_is) in
    let name : s.makes.asker.flow ≡ ask.flow = ap (λ (e : End). e.flow) asker ∙ s.asker.asks.flow in
    let made : one (is_of f s.makes.asker.flow) ≡ one (is_of f ask.flow) = ap (λ (n : FlowName). one (is_of f n)) name in
    let bytes = name_bytes f ask.flow in
    omega (arith, fars, its, made, bytes)
answered_ends (answers.Yes cep scep) d lines below at own node from invoke ask d' (inr s) = spends_same (words.Ask invoke ask) d d' (ap (λ (z : Dif). z.flows.journal.ends) s.1.only)
answered_ends (answers.Denied rule) d lines below at own node from invoke ask d' s = spends_same (words.Ask invoke ask) d d' (ap (λ (z : Dif). z.flows.journal.ends) s.only)
answered_ends answers.NotHere d lines below at own node from invoke ask d' s = spends_same (words.Ask invoke ask) d d' (ap (λ (z : Dif). z.flows.journal.ends) s.only)
answered_ends (answers.NoIds used) d lines below at own node from invoke ask d' s = spends_same (words.Ask invoke ask) d d' (ap (λ (z : Dif). z.flows.journal.ends) s.only)

taken_ends : (word : FlowWord) (o : Option Why) (d : Dif) (lines : List Direction) (below : Seen) (at from cep which place : ℕ) (d' : Dif) → TakesAt o cep d lines below at from which place (Ok tt) d' → Spends word d.flows.journal.ends d'.flows.journal.ends
taken_ends word (Some cause) d lines below at from cep which place d' t = set_spends word d.flows.journal.ends d'.flows.journal.ends place t.turns_down.turned.end _ t.turns_down.turned.is_end (ap (λ (z : DifSeen). z.ends) t.turns_down.turned.new_is) refl refl
taken_ends word None d lines below at from cep which place d' (inl t) = set_spends word d.flows.journal.ends d'.flows.journal.ends place t.1.turns_down.turned.end _ t.1.turns_down.turned.is_end (ap (λ (z : DifSeen). z.ends) t.1.turns_down.turned.new_is) refl refl
taken_ends word None d lines below at from cep which place d' (inr t) = (let b = t.2.binds.answered in set_spends word d.flows.journal.ends d'.flows.journal.ends place b.asker _ b.is_conn.end (ap (λ (z : DifSeen). z.ends) b.new_is) refl refl)

back_ends : (word : FlowWord) (a : FlowAnswer) (d : Dif) (at from : ℕ) (m : Member) (d' : Dif) → slice_get d.settings.members at ≡ Some m → SaysBack (given_back a) d at from d' → Spends word d.flows.journal.ends d'.flows.journal.ends
back_ends word (answers.Yes cep scep) d at from m d' is s = spends_same word d d' (ap (λ (z : Dif). z.flows.journal.ends) (s m is))
back_ends word (answers.Denied rule) d at from m d' is s = spends_same word d d' (ap (λ (z : Dif). z.flows.journal.ends) s)
back_ends word answers.NotHere d at from m d' is s = spends_same word d d' (ap (λ (z : Dif). z.flows.journal.ends) s)
back_ends word (answers.NoIds used) d at from m d' is s = spends_same word d d' (ap (λ (z : Dif). z.flows.journal.ends) s)

freed_ends : (word : FlowWord) (state : PortState) (d d' : Dif) (lines : List Direction) (at : ℕ) (end : End) → At d.flows.journal.ends at end → FreesEnd state (seen_of d) lines at end (seen_of d') → Spends word d.flows.journal.ends d'.flows.journal.ends
freed_ends word Allocated d d' lines at end is f = set_spends word d.flows.journal.ends d'.flows.journal.ends at f.end _ f.is_conn.end (ap (λ (z : DifSeen). z.ends) f.new_is) refl refl
freed_ends word Pending d d' lines at end is f = set_spends word d.flows.journal.ends d'.flows.journal.ends at end _ is (ap (λ (z : DifSeen). z.ends) f.new_is) refl refl
freed_ends word (Refused why) d d' lines at end is f = set_spends word d.flows.journal.ends d'.flows.journal.ends at end _ is (ap (λ (z : DifSeen). z.ends) f) refl refl
freed_ends word (Failed fail) d d' lines at end is f = set_spends word d.flows.journal.ends d'.flows.journal.ends at end _ is (ap (λ (z : DifSeen). z.ends) f) refl refl
freed_ends word Closed d d' lines at end is f = set_spends word d.flows.journal.ends d'.flows.journal.ends at end _ is (ap (λ (z : DifSeen). z.ends) f) refl refl

word_ends : (word : FlowWord) (d : Dif) (lines : List Direction) (below : Seen) (at from : ℕ) (m : Member) (d' : Dif) → slice_get d.settings.members at ≡ Some m → HandlesWord d lines below at from word (Ok tt) d' → Spends word d.flows.journal.ends d'.flows.journal.ends
word_ends (words.Ask invoke ask) d lines below at from m d' is (inl a) = answered_ends a.decides.answer d lines below at a.decides.member.addr a.decides.member.node from invoke ask d' a.does
word_ends (words.Ask invoke ask) d lines below at from m d' is (inr same) = spends_same (words.Ask invoke ask) d d' (ap (λ (z : Dif). z.flows.journal.ends) same.1)
word_ends (words.Answer invoke answer) d lines below at from m d' is (inl t) = taken_ends (words.Answer invoke answer) (why_of answer) d lines below at from (dcep_of answer) t.which t.first.is_ask.ask.place d' t.takes
word_ends (words.Answer invoke answer) d lines below at from m d' is (inr t) = back_ends (words.Answer invoke answer) answer d at from m d' is t.1.ok
word_ends (words.Delete dcep scep) d lines below at from m d' is t = ⊎_elim
    (λ c. freed_ends (words.Delete dcep scep) c.frees.end.state d d' lines c.place c.frees.end c.frees.is_end c.frees.frees)
    (λ same. spends_same (words.Delete dcep scep) d d' (ap (λ (z : Dif). z.flows.journal.ends) same.1)) (t m is)

-- The messages in hand

abbrev pub in_hand : FlowName → List FlowMessage → ℕ
in_hand f ms = sum_by (λ (m : FlowMessage). one (word_asks f m.word)) ms

-- so it is with those among the messages on their way
abbrev pub AloneWith : Dif → List FlowMessage → Type 0
AloneWith d ms = (f : FlowName) (links : ℕ) → IsName f
    → all_waiting (λ x. one (asks f x)) d.managements + all_on_links (λ t. one (text_asks f t)) d links + in_hand f ms + far_ends f d.flows.journal.ends ≤ askers f d.flows.journal.ends

-- where they were among those on their way
pub alone_with : (d d' : Dif) (ms : List FlowMessage) → FewerWith d d' ms → Balanced d.flows.journal.ends d'.flows.journal.ends → AreAlone d → AloneWith d' ms
alone_with d d' ms fewer ends alone f links is =
    let w = fewer (λ x. one (asks f x)) (λ t. one (text_asks f t)) (other_weighs f) (text_weighs f) links in
    let way : all_waiting (λ x. one (asks f x)) d'.managements + all_on_links (λ t. one (text_asks f t)) d' links + in_hand f ms ≤ all_waiting (λ x. one (asks f x)) d.managements + all_on_links (λ t. one (text_asks f t)) d w.0 = w.1 in
    let before = alone f w.0 is in
    let balance = ends f in
    omega (arith, way, before, balance)

pub flow_alone : (d : Dif) (lines : List Direction) (below : Seen) → Holds d lines below → (i : ℕ) (message : FlowMessage) (ms : List FlowMessage) (d' : Dif) (lines' : List Direction) → i < length d.settings.members → HandlesFlow d lines below i message (Ok tt) d' lines' → AloneWith d (message ∷ ms) → AloneWith d' ms
flow_alone d lines below holds i message ms d' lines' lt h alone f links is =
    let m = there d.settings.members i lt in
    let before = alone f links is in
    let hand = sum_by-cons (λ (x : FlowMessage). one (word_asks f x.word)) message ms in
    let on = (links_same d d' (ap (λ (z : Dif). z.connections) h.rest)).fewer (λ t. one (text_asks f t)) links in
    ⊎_elim
    (λ own.
    (let word = h.own m.0 m.1 own.1 in
    let waits = (word_adds message.word d lines below holds i message.from m.0 d' m.1 word).fewer (λ x. one (asks f x)) (told_weighs f d') in
    let ends = word_ends message.word d lines below i message.from m.0 d' m.1 word f in
    omega (arith, before, hand, on, waits, ends)))
    (λ other.
    (let whole = h.on m.0 m.1 other.1 in
    let path = ap (λ (z : Dif). all_waiting (λ x. one (asks f x)) z.managements) whole in
    let waits = posted_once (λ x. one (asks f x)) i (way d i message.to) message d.managements in
    let ends = balanced_same d.flows.journal.ends d'.flows.journal.ends (ap (λ (z : Dif). z.flows.journal.ends) whole) f in
    omega (arith, before, hand, on, path, waits, ends)))
    (eqb_tells message.to m.0.addr)

pub flows_alone : (d : Dif) (lines : List Direction) (below : Seen) → Holds d lines below → (i : ℕ) (ms : List FlowMessage) (d' : Dif) (lines' : List Direction) → i < length d.settings.members → HandlesFlows d lines below i ms (Ok tt) d' lines' → AloneWith d ms → AreAlone d'
flows_alone d lines below holds i [] d' lines' lt h alone = subst AreAlone (sym h.1) (λ f links is. (let before = alone f links is in omega (arith, before)))
flows_alone d lines below holds i (m ∷ ms) d' lines' lt (inl stops) alone = absurd (true≢false (sym stops.0))
flows_alone d lines below holds i (m ∷ ms) d' lines' lt (inr h) alone =
    let mid = h.0 in
    let settings : length mid.settings.members ≡ length d.settings.members = ap (λ (z : Dif). length z.settings.members) h.2.rest in
    let within : i < length mid.settings.members = subst (λ (n : ℕ). i < n) (sym settings) lt in
    flows_alone mid h.1 below h.3 i ms d' lines' within h.4 (flow_alone d lines below holds i m ms mid h.1 lt h.2 alone)
