-- What is on its way is of its flow, and what follows for partners and for what is bound.
use Rattle.std.proofs.lemmas.Option.{none-some}
use Rattle.std.proofs.Common.{◌≡◌, ℕ, ◌⊎◌, Bool, true, false, slice_get, Option, Some, None, refl, sym, ◌∙◌, ap, subst, inl, inr}
use Rattle.rina_base.specs.declared.number.FlowName.{FlowName}
use Rattle.rina_law.specs.Line.{InFlight}
use Rattle.rina_law.specs.Lists.{In}
use Rattle.rina_alloc.specs.declared.answer.FlowAnswer.{FlowAnswer}
use Rattle.rina_alloc.specs.declared.answer.FlowAnswer.TheVariants as answers
use Rattle.rina_alloc.specs.declared.event.Pair.{Pair}
use Rattle.rina_alloc.specs.declared.event.AskDo.TheVariants as does
use Rattle.rina_alloc.specs.declared.message.FlowAsk.{FlowAsk}
use Rattle.rina_alloc.specs.declared.message.FlowWord.TheVariants as words
use Rattle.rina_alloc.specs.Machines.{asking_does}
use Rattle.rina_rest.specs.Flows.{Endpoint, Flow, IsInUse, IsSameFour, Four, Goes}
use Rattle.rina_rest.specs.Laws.{MayCome}
use Rattle.rina_rest.proofs.Fresh.{told_fresh, told_alone}
use Rattle.rina_rest.proofs.Holding.{unended}
use Rattle.rina_rest.proofs.Lists.{same_flow}
use Rattle.rina_asks.specs.Allocation.{FarSide, Request, Sent, sent, ask_of, Allocation, IsAt, Bind, GiveBack, heard, IsRefusal, May}
use Rattle.rina_asks.specs.Holding.{AskerIs, Tells, four_of_delete, OfDelete, AllHolds}
use Rattle.rina_asks.specs.Laws.{ArePartners}
use Rattle.rina_asks.proofs.Answering.{late_does}
use Rattle.rina_asks.proofs.Machines.{waits_is, bound_is, over_is, far_is, far_some, bound_while}
use Rattle.rina_asks.proofs.Messages.{get_in, at_most}
use Rattle.rina_asks.proofs.Requests as request_list

-- Messages

pub one_message : (s : Allocation) (i n k : ℕ) (m other : Sent) → AllHolds s → slice_get s.messages n ≡ Some m → slice_get s.messages k ≡ Some other → ask_of m ≡ Some i → ask_of other ≡ Some i → n ≡ k
one_message s i n k m other h e e' a a' = at_most s.messages i n k m other h.apart e e' a a'

pub ask_own : (s : Allocation) (i to from invoke : ℕ) (ask : FlowAsk) (f : Flow) (a : Request) → AllHolds s → In (sent i to from (words.Ask invoke ask)) s.messages → IsAt s i f a →
    (f.far ≡ None) × (to ≡ f.peer) × (from ≡ f.asker.addr) × (invoke ≡ a.invoke) × (ask ≡ a.ask) × (ask.scep ≡ f.asker.cep) × (ask.flow.tick ≡ f.asked)
ask_own s i to from invoke ask f a h is at =
    let w = h.ids (sent i to from (words.Ask invoke ask)) is in
    let v = h.names (sent i to from (words.Ask invoke ask)) is in
    let one : w.0 ≡ f = same_flow s.ledger.flows i i (w.0) f refl (w.1) at.0 in
    let two : v.0 ≡ a = request_list.same_request s.requests i i (v.0) a refl (v.1) at.1 in
    let is_ask : ask ≡ a.ask = v.3 ∙ ap (λ (z : Request). z.ask) two in
    let old = h.request i f a at.0 at.1 in (
      sym (ap (λ (z : Flow). z.far) one) ∙ (w.2).2,
      (w.2).0 ∙ ap (λ (z : Flow). z.peer) one,
      (w.2).1 ∙ ap (λ (z : Flow). z.asker.addr) one,
      v.2 ∙ ap (λ (z : Request). z.invoke) two,
      is_ask,
      ap (λ (z : FlowAsk). z.scep) is_ask ∙ (old.ask).2,
      ap (λ (z : FlowAsk). z.flow.tick) is_ask ∙ (old.ask).1,
    )

pub yes_own : (s : Allocation) (i to from invoke dcep scep : ℕ) (f : Flow) (a : Request) → AllHolds s → In (sent i to from (words.Answer invoke (answers.Yes dcep scep))) s.messages → IsAt s i f a →
    (to ≡ f.asker.addr) × (from ≡ f.peer) × (invoke ≡ a.invoke) × (scep ≡ f.asker.cep) × (far : Endpoint) × (f.far ≡ Some far) × (dcep ≡ far.cep)
yes_own s i to from invoke dcep scep f a h is at =
    let m = sent i to from (words.Answer invoke (answers.Yes dcep scep)) in
    let w = h.ids m is in
    let v = h.names m is in
    let y = (w.2).2 in
    let one : w.0 ≡ f = same_flow s.ledger.flows i i (w.0) f refl (w.1) at.0 in
    let two : v.0 ≡ a = request_list.same_request s.requests i i (v.0) a refl (v.1) at.1 in (
      (w.2).0 ∙ ap (λ (z : Flow). z.asker.addr) one,
      (w.2).1 ∙ ap (λ (z : Flow). z.peer) one,
      v.2 ∙ ap (λ (z : Request). z.invoke) two,
      y.1 ∙ ap (λ (z : Flow). z.asker.cep) one,
      y.2,
      sym (ap (λ (z : Flow). z.far) one) ∙ y.3,
      y.4,
    )

refusal_tells : (answer : FlowAnswer) (f : Flow) → IsRefusal answer → Tells answer f → f.far ≡ None
refusal_tells (answers.Yes dcep scep) f refuses is = absurd refuses
refusal_tells (answers.Denied rule) f refuses is = is
refusal_tells answers.NotHere f refuses is = is
refusal_tells (answers.NoIds used) f refuses is = is

pub refused_none : (s : Allocation) (i to from invoke : ℕ) (answer : FlowAnswer) (f : Flow) → AllHolds s → In (sent i to from (words.Answer invoke answer)) s.messages → IsRefusal answer → slice_get s.ledger.flows i ≡ Some f → f.far ≡ None
refused_none s i to from invoke answer f h is refuses at =
    let w = h.ids (sent i to from (words.Answer invoke answer)) is in
    sym (ap (λ (z : Flow). z.far) (same_flow s.ledger.flows i i (w.0) f refl (w.1) at)) ∙ refusal_tells answer (w.0) refuses ((w.2).2)

pub delete_of_flow : (s : Allocation) (i to from dcep scep : ℕ) (f : Flow) → AllHolds s → In (sent i to from (words.Delete dcep scep)) s.messages → slice_get s.ledger.flows i ≡ Some f → OfDelete (four_of_delete to from dcep scep) f
delete_of_flow s i to from dcep scep f h is at =
    let w = h.ids (sent i to from (words.Delete dcep scep)) is in
    let P : Flow → Type 0 = λ z. OfDelete (four_of_delete to from dcep scep) z in
    subst P (same_flow s.ledger.flows i i (w.0) f refl (w.1) at) (w.2)

pub answer_matched : (s : Allocation) (i k to from invoke : ℕ) (answer : FlowAnswer) (f : Flow) (a : Request) (g : Flow) (b : Request) → AllHolds s → In (sent i to from (words.Answer invoke answer)) s.messages → IsAt s i f a → IsAt s k g b →
    g.asker.addr ≡ to → b.invoke ≡ invoke → i ≡ k
answer_matched s i k to from invoke answer f a g b h is at at' addr same =
    let m = sent i to from (words.Answer invoke answer) in
    let w = h.ids m is in
    let v = h.names m is in
    let one : w.0 ≡ f = same_flow s.ledger.flows i i (w.0) f refl (w.1) at.0 in
    let two : v.0 ≡ a = request_list.same_request s.requests i i (v.0) a refl (v.1) at.1 in
    h.numbers i k f g a b at.0 at.1 at'.0 at'.1 (sym (addr ∙ (w.2).0 ∙ ap (λ (z : Flow). z.asker.addr) one), inl (sym (same ∙ v.2 ∙ ap (λ (z : Request). z.invoke) two)))

pub names_apart : (s : Allocation) (i k : ℕ) (f : Flow) (a : Request) (g : Flow) (b : Request) → AllHolds s → IsAt s i f a → IsAt s k g b → a.ask.flow ≡ b.ask.flow → i ≡ k
names_apart s i k f a g b h at at' same =
    let mine = h.request i f a at.0 at.1 in
    let other = h.request k g b at'.0 at'.1 in
    h.numbers i k f g a b at.0 at.1 at'.0 at'.1 (sym ((mine.ask).0) ∙ ap (λ (z : FlowName). z.src) same ∙ (other.ask).0, inr same)

-- Partners

pub far_named : (s : Allocation) (i : ℕ) (f : Flow) (a : Request) (far : Endpoint) → AllHolds s → IsAt s i f a → f.far ≡ Some far →
    (e : FarSide) × (a.far_side ≡ Some e) × (e.own ≡ a.ask.destination) × (e.peer ≡ a.ask.source) × (e.cube ≡ a.ask.cube) × (e.partner ≡ f.asker.addr)
far_named s i f a far h at known =
    let q = far_some a.ask f.asker.addr f.asker.cep f.far a.far_side far known (h.request i f a at.0 at.1).far in
    let is = q.2 in
    (q.0, q.1, is.0, is.1, is.2, is.3)

pub partners_named : (s : Allocation) (i k : ℕ) (f : Flow) (a : Request) (g : Flow) (b : Request) (far : Endpoint) (e : FarSide) → AllHolds s → IsAt s i f a → IsAt s k g b → g.far ≡ Some far → b.far_side ≡ Some e → ArePartners f a far e →
    (i ≡ k) × (e.own ≡ a.ask.destination) × (e.peer ≡ a.ask.source) × (e.cube ≡ a.ask.cube)
partners_named s i k f a g b far e h at at' known there p =
    let is = bound_is a.asking.waits a.asking.bound f p.asker p.asker_bound (h.request i f a at.0 at.1).asker in
    let end = is.3 in
    let end_known : f.far ≡ Some end = is.4 in
    let flow = h.ledger_holds.flow i f at.0 in
    let other = far_is b.ask g.asker.addr g.asker.cep g.far b.far_side far e known there (h.request k g b at'.0 at'.1).far in
    let q = bound_while far.ended (record { far = g.asker.cep; own = far.cep }) p.asked e.asked.bound (other.4) p.asked_bound in
    let stands : far.ended ≡ None = q.0 in
    let u : IsInUse s.ledger.now f = record { far = end; known = end_known; unrested = λ r o. unended f.rest s.ledger.now f.asker.ended (is.0) r } in
    let v : IsInUse s.ledger.now g = record { far = far; known = known; unrested = λ r o. unended g.rest s.ledger.now far.ended stands o } in
    let asker_cep : f.asker.cep ≡ g.asker.cep = sym (is.2) ∙ (p.ids).1 ∙ sym (ap (λ (z : Pair). z.far) q.1) in
    let far_cep : end.cep ≡ far.cep = sym (is.5) ∙ (p.ids).0 ∙ sym (ap (λ (z : Pair). z.own) q.1) in
    let one : i ≡ k = h.ledger_holds.fours i k f g u v at.0 at'.0 (inl ((sym ((p.addresses).1) ∙ other.3, asker_cep), (flow.there end end_known ∙ (p.addresses).0, far_cep))) in
    let two : a ≡ b = request_list.same_request s.requests i k a b one at.1 at'.1 in
    (one, other.0 ∙ sym (ap (λ (z : Request). z.ask.destination) two), other.1 ∙ sym (ap (λ (z : Request). z.ask.source) two), other.2 ∙ sym (ap (λ (z : Request). z.ask.cube) two))

-- What is bound

pub bound_fresh : (s : Allocation) (n i : ℕ) (f : Flow) (a : Request) (to from invoke dcep scep : ℕ) (far : Endpoint) (p : InFlight Four) → AllHolds s → May s (Bind n i f a to from invoke dcep scep) → f.far ≡ Some far → MayCome s.ledger p → Goes f.asker far p.pdu → ⊥
bound_fresh s n i f a to from invoke dcep scep far p h may known comes goes =
    let at = may.0 in
    let waiting = waits_is a.asking.waits a.asking.bound f (may.2) (h.request i f a at.0 at.1).asker in
    told_fresh s.ledger i f far p h.ledger_holds (at.0, waiting.0, waiting.1, λ none. none-some far (sym none ∙ known)) known comes goes

pub bound_alone : (s : Allocation) (n i k : ℕ) (f g : Flow) (a : Request) (to from invoke dcep scep : ℕ) (far : Endpoint) (v : IsInUse s.ledger.now g) → AllHolds s → May s (Bind n i f a to from invoke dcep scep) → f.far ≡ Some far → slice_get s.ledger.flows k ≡ Some g → IsSameFour f.asker far g.asker v.far → i ≡ k
bound_alone s n i k f g a to from invoke dcep scep far v h may known at' same =
    let at = may.0 in
    let waiting = waits_is a.asking.waits a.asking.bound f (may.2) (h.request i f a at.0 at.1).asker in
    told_alone s.ledger i k f g far v h.ledger_holds (at.0, waiting.0, waiting.1, λ none. none-some far (sym none ∙ known)) known at' same

-- What a yes finds

finds_by : (waits : Bool) (bound : Option Pair) (f : Flow) → f.told ≡ false → AskerIs waits bound f → (waits ≡ true) ⊎ ((waits ≡ false) × (t : ℕ) × (f.asker.ended ≡ Some t))
finds_by true bound f untold is = inl refl
finds_by false bound f untold is =
    let over = over_is false bound f refl untold is in
    inr (refl, over.0, over.1)

pub yes_finds : (s : Allocation) (i to from invoke dcep scep : ℕ) (f : Flow) (a : Request) → AllHolds s → In (sent i to from (words.Answer invoke (answers.Yes dcep scep))) s.messages → IsAt s i f a → (a.asking.waits ≡ true) ⊎ ((a.asking.waits ≡ false) × (t : ℕ) × (f.asker.ended ≡ Some t))
yes_finds s i to from invoke dcep scep f a h is at =
    let w = h.ids (sent i to from (words.Answer invoke (answers.Yes dcep scep))) is in
    let y = (w.2).2 in
    let one : w.0 ≡ f = same_flow s.ledger.flows i i (w.0) f refl (w.1) at.0 in
    finds_by a.asking.waits a.asking.bound f (sym (ap (λ (z : Flow). z.told) one) ∙ y.0) (h.request i f a at.0 at.1).asker

pub late_given_back : (s : Allocation) (n i : ℕ) (f : Flow) (a : Request) (to from invoke dcep scep : ℕ) → AllHolds s → slice_get s.messages n ≡ Some (sent i to from (words.Answer invoke (answers.Yes dcep scep))) → IsAt s i f a → a.asking.waits ≡ false →
    May s (GiveBack n i f a to from invoke dcep scep) × (asking_does a.asking (heard (answers.Yes dcep scep)) ≡ does.Delete dcep scep) × (far : Endpoint) × (f.far ≡ Some far) × Goes f.asker far (four_of_delete from to dcep scep)
late_given_back s n i f a to from invoke dcep scep h e at over =
    let q = yes_own s i to from invoke dcep scep f a h (get_in s.messages n (sent i to from (words.Answer invoke (answers.Yes dcep scep))) e) at in
    let flow = h.ledger_holds.flow i f at.0 in
    ((at, e, over), late_does a.asking.waits a.asking.bound dcep scep over, q.4, q.5, (q.0, q.3, q.1 ∙ sym (flow.there (q.4) (q.5)), q.6))
