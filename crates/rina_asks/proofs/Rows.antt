-- Each row keeps what holds of requests and messages.
use Rattle.std.proofs.Common.{◌≡◌, ℕ, zero, suc, ◌+◌, ◌<◌, ◌⊎◌, true, false, List, [], ◌∷◌, ◌++◌, length, slice_get, Some, None, refl, sym, ◌∙◌, ap, subst, inl, inr}
use Rattle.std.proofs.lemmas.Bool.{cases_eq}
use Rattle.std.proofs.lemmas.Option.{none-some, same_Some}
use Rattle.rina_law.specs.Lists.{In}
use Rattle.rina_alloc.specs.declared.answer.FlowAnswer.{FlowAnswer}
use Rattle.rina_alloc.specs.declared.answer.FlowAnswer.TheVariants as answers
use Rattle.rina_alloc.specs.declared.event.Pair.{Pair}
use Rattle.rina_alloc.specs.declared.event.AskEvent.{AskEvent}
use Rattle.rina_alloc.specs.declared.event.AskEvent.TheVariants as events
use Rattle.rina_alloc.specs.declared.message.FlowAsk.{FlowAsk}
use Rattle.rina_alloc.specs.declared.message.FlowWord.TheVariants as words
use Rattle.rina_rest.specs.Flows.{Endpoint, Asker, Far, Flow, IsFree}
use Rattle.rina_rest.specs.Ledger.{Ledger, Row, Time, Cloud, Ask, Make, Tell, EndAsker, EndFar, Send, put, asked_flow, made, told_flow, ended_asker, ended_far, entered, Holds}
use Rattle.rina_rest.proofs.Lists.{IsChanged, put_changed, push_changed, past_none, same_flow}
use Rattle.rina_rest.proofs.Rows.{row_holds, empty_holds}
use Rattle.rina_asks.specs.Allocation.{FarSide, Request, Sent, sent, ask_of, cut, Allocation, nothing, IsAt, AskRow, Wait, Data, Rules, Allocate, Accept, Deny, Bind, GiveBack, BeDenied, TimeOut, Withdraw, FreeAsker, FreeFar, CloseAsker, CloseFar, Forward, Drop, put_request, new_request, asker_heard, far_heard, new_far_side, with_far_side, heard, happened, IsRefusal, May, IsRun, after}
use Rattle.rina_asks.specs.Holding.{AskerIs, FarIs, RequestHolds, Tells, SaysIds, SaysNames, IsApart, HasSameNumber, AsksHold, AllHolds}
use Rattle.rina_asks.proofs.Machines.{waits_is, bound_is, over_is, after_clock, after_ended, after_delete, after_refusal, after_yes, asker_made, asker_far_ended, far_is, bound_while, far_made}
use Rattle.rina_asks.proofs.Messages.{cut_in, get_in, cut_gone, cut_apart, IsKept, IsIdle, ids_put, ids_push, ask_known, IsNamed, names_put, names_push}
use Rattle.rina_asks.proofs.Requests as request_list

-- A message comes or goes

cut_asks : (rests : ℕ → ℕ) (ledger : Ledger) (requests : List Request) (ms : List Sent) (n : ℕ) → AsksHold rests ledger requests ms → AsksHold rests ledger requests (cut n ms)
cut_asks rests ledger requests ms n h = record {
  ledger_holds = h.ledger_holds;
  long = h.long;
  request = h.request;
  numbers = h.numbers;
  apart = cut_apart ms n h.apart;
  ids = λ m is. h.ids m (cut_in ms n m is);
  names = λ m is. h.names m (cut_in ms n m is);
}

says_more : (P : Sent → Type 0) (m : Sent) (ms : List Sent) → P m → ((k : Sent) → In k ms → P k) → (k : Sent) → In k (m ∷ ms) → P k
says_more P m ms one rest k (inl e) = subst P (sym e) one
says_more P m ms one rest k (inr is) = rest k is

push_asks : (rests : ℕ → ℕ) (ledger : Ledger) (requests : List Request) (m : Sent) (ms : List Sent) → AsksHold rests ledger requests ms → IsApart m ms → SaysIds ledger.flows m → SaysNames requests m → AsksHold rests ledger requests (m ∷ ms)
push_asks rests ledger requests m ms h apart ids names = record {
  ledger_holds = h.ledger_holds;
  long = h.long;
  request = h.request;
  numbers = h.numbers;
  apart = (apart, h.apart);
  ids = says_more (λ k. SaysIds ledger.flows k) m ms ids h.ids;
  names = says_more (λ k. SaysNames requests k) m ms names h.names;
}

-- One flow and its request change

length_put : (flows : List Flow) (i : ℕ) (x : Flow) → length (put i x flows) ≡ length flows
length_put [] i x = refl
length_put (f ∷ flows) zero x = refl
length_put (f ∷ flows) (suc i) x = ap suc (length_put flows i x)

length_put_request : (requests : List Request) (i : ℕ) (x : Request) → length (put_request i x requests) ≡ length requests
length_put_request [] i x = refl
length_put_request (f ∷ requests) zero x = refl
length_put_request (f ∷ requests) (suc i) x = ap suc (length_put_request requests i x)

length_push : (flows : List Flow) (x : Flow) → length (flows ++ x ∷ []) ≡ suc (length flows)
length_push [] x = refl
length_push (f ∷ flows) x = ap suc (length_push flows x)

length_push_request : (requests : List Request) (x : Request) → length (requests ++ x ∷ []) ≡ suc (length requests)
length_push_request [] x = refl
length_push_request (f ∷ requests) x = ap suc (length_push_request requests x)

same_number_back : (f g : Flow) (a b : Request) → HasSameNumber f a g b → HasSameNumber g b f a
same_number_back f g a b e = (sym e.0, elim e.1 [ inl x ↦ inl (sym x) | inr x ↦ inr (sym x) ])

abbrev AreNumbered : List Flow → List Request → Type 0
AreNumbered flows requests = (i k : ℕ) (f g : Flow) (a b : Request) → slice_get flows i ≡ Some f → slice_get requests i ≡ Some a → slice_get flows k ≡ Some g → slice_get requests k ≡ Some b → HasSameNumber f a g b → i ≡ k

module _ (flows flows' : List Flow) (requests requests' : List Request) (i : ℕ) (x : Flow) (b : Request) (changed : IsChanged flows flows' i x) (changed' : request_list.IsChanged requests requests' i b) where
  -- a flow and its request are the new ones at i, or old ones elsewhere
  place_of : (j : ℕ) (g : Flow) (c : Request) → slice_get flows' j ≡ Some g → slice_get requests' j ≡ Some c → ((j ≡ i) × (x ≡ g) × (b ≡ c)) ⊎ ((j ≡ i → ⊥) × (slice_get flows j ≡ Some g) × (slice_get requests j ≡ Some c))
  place_of j g c e e' = elim (cases_eq j i) [
    | inl same ↦ inl (same, same_flow flows' i j x g (sym same) changed.at e, request_list.same_request requests' i j b c (sym same) changed'.at e')
    | inr ne ↦ inr (ne, sym (changed.others j ne) ∙ e, sym (changed'.others j ne) ∙ e')
  ]

  request_changed : (rests : ℕ → ℕ) → ((j : ℕ) (g : Flow) (c : Request) → slice_get flows j ≡ Some g → slice_get requests j ≡ Some c → RequestHolds rests g c) → RequestHolds rests x b → (j : ℕ) (g : Flow) (c : Request) → slice_get flows' j ≡ Some g → slice_get requests' j ≡ Some c → RequestHolds rests g c
  request_changed rests old new j g c e e' = elim (place_of j g c e e') [
    | inl at ↦
        (let P : Flow → Type 0 = λ z. RequestHolds rests z b in
        let Q : Request → Type 0 = λ z. RequestHolds rests g z in
        subst Q (at.2) (subst P (at.1) new))
    | inr at ↦ old j g c (at.1) (at.2)
  ]

  -- the new one has its own numbers
  numbers_changed : AreNumbered flows requests → ((k : ℕ) (h : Flow) (d : Request) → (k ≡ i → ⊥) → slice_get flows k ≡ Some h → slice_get requests k ≡ Some d → HasSameNumber x b h d → ⊥) → AreNumbered flows' requests'
  numbers_changed old new j k g h c d e e' r r' same = elim (place_of j g c e e') [
    | inl at ↦ elim (place_of k h d r r') [
      | inl at' ↦ at.0 ∙ sym (at'.0)
      | inr at' ↦
          (let P : Flow → Type 0 = λ z. HasSameNumber z c h d in
          let Q : Request → Type 0 = λ z. HasSameNumber x z h d in
          absurd (new k h d (at'.0) (at'.1) (at'.2) (subst Q (sym (at.2)) (subst P (sym (at.1)) same))))
    ]
    | inr at ↦ elim (place_of k h d r r') [
      | inl at' ↦
          (let P : Flow → Type 0 = λ z. HasSameNumber z d g c in
          let Q : Request → Type 0 = λ z. HasSameNumber x z g c in
          absurd (new j g c (at.0) (at.1) (at.2) (subst Q (sym (at'.2)) (subst P (sym (at'.1)) (same_number_back g h c d same)))))
      | inr at' ↦ old j k g h c d (at.1) (at.2) (at'.1) (at'.2) same
    ]
  ]

named_number : (f x g : Flow) (a b c : Request) → IsKept f x → IsNamed a b → HasSameNumber x b g c → HasSameNumber f a g c
named_number f x g a b c kept named e = ((kept.asker).0 ∙ e.0, elim e.1 [ inl y ↦ inl (named.invoke ∙ y) | inr y ↦ inr (ap (λ (z : FlowAsk). z.flow) named.ask ∙ y) ])

change_both : (rests : ℕ → ℕ) (ledger : Ledger) (requests : List Request) (ms : List Sent) (i : ℕ) (f x : Flow) (a b : Request) → AsksHold rests ledger requests ms → Holds (record ledger { flows = put i x ledger.flows }) → slice_get ledger.flows i ≡ Some f → slice_get requests i ≡ Some a → IsKept f x →
    ((m : Sent) → In m ms → ask_of m ≡ Some i → IsIdle f x) → IsNamed a b → RequestHolds rests x b → AsksHold rests (record ledger { flows = put i x ledger.flows }) (put_request i b requests) ms
change_both rests ledger requests ms i f x a b h holds at at' kept idle named new =
    let changed = put_changed ledger.flows i f x at in
    let changed' = request_list.put_changed requests i a b at' in
    record {
      ledger_holds = holds;
      long = length_put_request requests i b ∙ h.long ∙ sym (length_put ledger.flows i x);
      request = request_changed ledger.flows (put i x ledger.flows) requests (put_request i b requests) i x b changed changed' rests h.request new;
      numbers = numbers_changed ledger.flows (put i x ledger.flows) requests (put_request i b requests) i x b changed changed' h.numbers (λ k g d ne e e' same. ne (sym (h.numbers i k f g a d at at' e e' (named_number f x g a b d kept named same))));
      apart = h.apart;
      ids = λ m is. ids_put ledger.flows i f x m at kept (idle m is) (h.ids m is);
      names = λ m is. names_put requests i a b m at' named (h.names m is);
    }

-- The asker's end ends

end_asker_asks : (rests : ℕ → ℕ) (ledger : Ledger) (requests : List Request) (ms : List Sent) (i : ℕ) (f : Flow) (a : Request) (event : AskEvent) → AsksHold rests ledger requests ms → slice_get ledger.flows i ≡ Some f → slice_get requests i ≡ Some a → f.asker.ended ≡ None →
    AskerIs (asker_heard a event).asking.waits (asker_heard a event).asking.bound (ended_asker ledger.now f) → AsksHold rests (entered ledger (EndAsker i f)) (put_request i (asker_heard a event) requests) ms
end_asker_asks rests ledger requests ms i f a event h at at' stands is =
    let old = h.request i f a at at' in
    change_both rests ledger requests ms i f (ended_asker ledger.now f) a (asker_heard a event) h (row_holds ledger (EndAsker i f) h.ledger_holds (at, stands)) at at'
    (record { rest = refl; asked = refl; peer = refl; asker = (refl, refl); asker_ended = λ t e. absurd (none-some t (sym stands ∙ e)); far = λ k e. (k, e, (refl, refl), λ t e. e) })
    (λ m is e. ((λ z. z), (λ z. z)))
    (record { invoke = refl; ask = refl })
    (record { asker = is; ask = old.ask; far = old.far })

-- The far end ends

-- it stood, where its machine was bound
far_stood : (rests : ℕ → ℕ) (f : Flow) (a : Request) (far : Endpoint) (e : FarSide) (pair : Pair) → RequestHolds rests f a → f.far ≡ Some far → a.far_side ≡ Some e → e.asked.bound ≡ Some pair → (far.ended ≡ None) × (e.partner ≡ f.asker.addr) × (f.asker.cep ≡ pair.far) × (far.cep ≡ pair.own)
far_stood rests f a far e pair h known there bound =
    let is = far_is a.ask f.asker.addr f.asker.cep f.far a.far_side far e known there h.far in
    let b = bound_while far.ended (record { far = f.asker.cep; own = far.cep }) pair e.asked.bound (is.4) bound in
    (b.0, is.3, ap (λ (z : Pair). z.far) b.1, ap (λ (z : Pair). z.own) b.1)

end_far_asks : (rests : ℕ → ℕ) (ledger : Ledger) (requests : List Request) (ms : List Sent) (i : ℕ) (f : Flow) (a : Request) (far : Endpoint) (e : FarSide) (event : AskEvent) → AsksHold rests ledger requests ms → slice_get ledger.flows i ≡ Some f → slice_get requests i ≡ Some a → f.far ≡ Some far → a.far_side ≡ Some e → far.ended ≡ None →
    FarIs a.ask f.asker.addr f.asker.cep (Some (record far { ended = Some ledger.now })) (far_heard a e event).far_side → AsksHold rests (entered ledger (EndFar i f far)) (put_request i (far_heard a e event) requests) ms
end_far_asks rests ledger requests ms i f a far e event h at at' known there stands is =
    let gone : Endpoint = record far { ended = Some ledger.now } in
    let old = h.request i f a at at' in
    change_both rests ledger requests ms i f (ended_far ledger.now f far) a (far_heard a e event) h (row_holds ledger (EndFar i f far) h.ledger_holds (at, known, stands)) at at'
    (record {
      rest = refl;
      asked = refl;
      peer = refl;
      asker = (refl, refl);
      asker_ended = λ t e. e;
      far = λ k e. (let one = same_Some k far (sym e ∙ known) in (gone, refl, (ap (λ (z : Endpoint). z.addr) one, ap (λ (z : Endpoint). z.cep) one), λ t e. absurd (none-some t (sym stands ∙ sym (ap (λ (z : Endpoint). z.ended) one) ∙ e))));
    })
    (λ m is e. ((λ z. absurd (none-some far (sym z ∙ known))), (λ z. z)))
    (record { invoke = refl; ask = refl })
    (record { asker = asker_far_ended a.asking.waits a.asking.bound ledger.now f far known old.asker; ask = old.ask; far = is })

-- what is left of it
far_over : (a : Request) (f : Flow) (far : Endpoint) (e : FarSide) (now : ℕ) → f.far ≡ Some far → a.far_side ≡ Some e → FarIs a.ask f.asker.addr f.asker.cep f.far a.far_side → FarIs a.ask f.asker.addr f.asker.cep (Some (record far { ended = Some now })) (Some (record e { asked = record { bound = None } }))
far_over a f far e now known there h =
    let is = far_is a.ask f.asker.addr f.asker.cep f.far a.far_side far e known there h in
    (is.0, is.1, is.2, is.3, refl)

not_ask : (i to from dcep scep : ℕ) (ms : List Sent) → IsApart (sent i to from (words.Delete dcep scep)) ms
not_ask i to from dcep scep ms j e k is b = none-some j e

-- A flow is asked for

allocate_asks : (s : Allocation) (peer addr invoke : ℕ) (ask : FlowAsk) → AllHolds s → May s (Allocate peer addr invoke ask) → AllHolds (happened s (Allocate peer addr invoke ask))
allocate_asks s peer addr invoke ask h may =
    let flows = s.ledger.flows in
    let row : Row = Ask (s.rests ask.cube) peer addr ask.scep in
    let x = asked_flow s.ledger.now (s.rests ask.cube) peer addr ask.scep in
    let b = new_request invoke ask in
    let ledger' = entered s.ledger row in
    let m = sent (length flows) peer addr (words.Ask invoke ask) in
    let P : ℕ → Type 0 = λ k. request_list.IsChanged s.requests (s.requests ++ b ∷ []) k b in
    let changed = push_changed flows x in
    let changed' : request_list.IsChanged s.requests (s.requests ++ b ∷ []) (length flows) b = subst P h.long (request_list.push_changed s.requests b) in
    let more : AsksHold s.rests ledger' (s.requests ++ b ∷ []) s.messages = record {
      ledger_holds = row_holds s.ledger row h.ledger_holds may.0;
      long = length_push_request s.requests b ∙ ap suc h.long ∙ sym (length_push flows x);
      request = request_changed flows (flows ++ x ∷ []) s.requests (s.requests ++ b ∷ []) (length flows) x b changed changed' s.rests h.request (record { asker = (refl, refl); ask = (may.1, may.2, refl, refl); far = tt });
      numbers = numbers_changed flows (flows ++ x ∷ []) s.requests (s.requests ++ b ∷ []) (length flows) x b changed changed' h.numbers
          (λ k g d ne e e' same. may.3 k g d (e, e') (sym same.0) (elim same.1 [ inl z ↦ inl (sym z) | inr z ↦ inr (sym z) ]));
      apart = h.apart;
      ids = λ k is. ids_push flows x k (h.ids k is);
      names = λ k is. names_push s.requests b k (h.names k is);
    } in
    push_asks s.rests ledger' (s.requests ++ b ∷ []) m s.messages more
    (λ i e k is a.
    (let old = ask_known flows k i (h.ids k is) a in
    none-some (old.0) (sym (past_none flows) ∙ ap (λ (z : ℕ). slice_get flows z) (same_Some (length flows) i e) ∙ old.1)))
    (x, changed.at, (refl, refl, refl, refl))
    (b, changed'.at, refl, refl)

-- An ask comes

accept_asks : (s : Allocation) (n i : ℕ) (f : Flow) (a : Request) (to from invoke : ℕ) (ask : FlowAsk) (cep : ℕ) → AllHolds s → May s (Accept n i f a to from invoke ask cep) → AllHolds (happened s (Accept n i f a to from invoke ask cep))
accept_asks s n i f a to from invoke ask cep h may =
    let at = (may.0).0 in
    let at' = (may.0).1 in
    let ms = cut n s.messages in
    let m = sent i to from (words.Ask invoke ask) in
    let w = h.ids m (get_in s.messages n m (may.1)) in
    let v = h.names m (get_in s.messages n m (may.1)) in
    let one : w.0 ≡ f = same_flow s.ledger.flows i i (w.0) f refl (w.1) at in
    let two : v.0 ≡ a = request_list.same_request s.requests i i (v.0) a refl (v.1) at' in
    let is_ask : ask ≡ a.ask = v.3 ∙ ap (λ (z : Request). z.ask) two in
    let is_to : to ≡ f.peer = (w.2).0 ∙ ap (λ (z : Flow). z.peer) one in
    let is_from : from ≡ f.asker.addr = (w.2).1 ∙ ap (λ (z : Flow). z.asker.addr) one in
    let free : f.far ≡ None = sym (ap (λ (z : Flow). z.far) one) ∙ (w.2).2 in
    let old = h.request i f a at at' in
    let own : ask.scep ≡ f.asker.cep = ap (λ (z : FlowAsk). z.scep) is_ask ∙ (old.ask).2 in
    let Young : ℕ → Type 0 = λ z. s.ledger.now < z in
    let age : ask.flow.tick + s.rests ask.cube ≡ f.asked + f.rest =
    ap (λ (z : FlowAsk). z.flow.tick + s.rests z.cube) is_ask ∙ ap (λ (z : ℕ). z + s.rests a.ask.cube) ((old.ask).1) ∙ ap (λ (z : ℕ). f.asked + z) (sym ((old.ask).3)) in
    let P : ℕ → Type 0 = λ z. IsFree s.ledger.now s.ledger.flows z cep in
    let gone = cut_gone s.messages n m i h.apart (may.1) refl in
    let x = made f cep in
    let b = with_far_side a (new_far_side from ask cep) in
    let Q : FlowAsk → Type 0 = λ z. FarIs z f.asker.addr f.asker.cep x.far (Some (new_far_side from ask cep)) in
    let changed = change_both s.rests s.ledger s.requests ms i f x a b (cut_asks s.rests s.ledger s.requests s.messages n h) (row_holds s.ledger (Make i f cep) h.ledger_holds (at, free, subst Young age (may.3), subst P is_to (may.5))) at at'
    (record { rest = refl; asked = refl; peer = refl; asker = (refl, refl); asker_ended = λ t e. e; far = λ k e. absurd (none-some k (sym free ∙ e)) })
    (λ k is e. absurd (gone k is e))
    (record { invoke = refl; ask = refl })
    (record { asker = asker_made a.asking.waits a.asking.bound f cep free old.asker; ask = old.ask; far = subst Q is_ask (far_made ask f.asker.addr f.peer from cep f.asker.cep is_from own) }) in
    push_asks s.rests (entered s.ledger (Make i f cep)) (put_request i b s.requests) (sent i from to (words.Answer invoke (answers.Yes cep ask.scep))) ms changed
    (λ j e k is d. gone k is (d ∙ sym e))
    (x, (put_changed s.ledger.flows i f x at).at, (is_from, is_to, (sym (ap (λ (z : Flow). z.told) one) ∙ (w.2).3, own, record { addr = f.peer; cep = cep; ended = None }, refl, refl)))
    (b, (request_list.put_changed s.requests i a b at').at, v.2 ∙ ap (λ (z : Request). z.invoke) two)

tells_refusal : (answer : FlowAnswer) (f : Flow) → IsRefusal answer → f.far ≡ None → Tells answer f
tells_refusal (answers.Yes dcep scep) f refuses free = absurd refuses
tells_refusal (answers.Denied rule) f refuses free = free
tells_refusal answers.NotHere f refuses free = free
tells_refusal (answers.NoIds used) f refuses free = free

deny_asks : (s : Allocation) (n i to from invoke : ℕ) (ask : FlowAsk) (answer : FlowAnswer) → AllHolds s → May s (Deny n i to from invoke ask answer) → AllHolds (happened s (Deny n i to from invoke ask answer))
deny_asks s n i to from invoke ask answer h may =
    let m = sent i to from (words.Ask invoke ask) in
    let w = h.ids m (get_in s.messages n m may.0) in
    let v = h.names m (get_in s.messages n m may.0) in
    let gone = cut_gone s.messages n m i h.apart may.0 refl in
    push_asks s.rests s.ledger s.requests (sent i from to (words.Answer invoke answer)) (cut n s.messages) (cut_asks s.rests s.ledger s.requests s.messages n h) (λ j e k is d. gone k is (d ∙ sym e))
    (w.0, w.1, ((w.2).1, (w.2).0, tells_refusal answer (w.0) may.1 ((w.2).2)))
    (v.0, v.1, v.2)

-- An answer comes

bind_asks : (s : Allocation) (n i : ℕ) (f : Flow) (a : Request) (to from invoke dcep scep : ℕ) → AllHolds s → May s (Bind n i f a to from invoke dcep scep) → AllHolds (happened s (Bind n i f a to from invoke dcep scep))
bind_asks s n i f a to from invoke dcep scep h may =
    let at = (may.0).0 in
    let at' = (may.0).1 in
    let m = sent i to from (words.Answer invoke (answers.Yes dcep scep)) in
    let w = h.ids m (get_in s.messages n m (may.1)) in
    let y = (w.2).2 in
    let one : w.0 ≡ f = same_flow s.ledger.flows i i (w.0) f refl (w.1) at in
    let gone = cut_gone s.messages n m i h.apart (may.1) refl in
    let old = h.request i f a at at' in
    let waiting = waits_is a.asking.waits a.asking.bound f (may.2) old.asker in
    let made_far : f.far ≡ None → ⊥ = λ none. none-some _ (sym none ∙ sym (ap (λ (z : Flow). z.far) one) ∙ y.3) in
    change_both s.rests s.ledger s.requests (cut n s.messages) i f (told_flow f) a (asker_heard a (heard (answers.Yes dcep scep))) (cut_asks s.rests s.ledger s.requests s.messages n h) (row_holds s.ledger (Tell i f) h.ledger_holds (at, waiting.0, waiting.1, made_far)) at at'
    (record { rest = refl; asked = refl; peer = refl; asker = (refl, refl); asker_ended = λ t e. e; far = λ k e. (k, e, (refl, refl), λ t e. e) })
    (λ k is e. absurd (gone k is e))
    (record { invoke = refl; ask = refl })
    (record {
      asker = after_yes a.asking.waits a.asking.bound dcep scep f (y.2) (may.2) old.asker (y.1 ∙ ap (λ (z : Flow). z.asker.cep) one) (sym (ap (λ (z : Flow). z.far) one) ∙ y.3) (y.4);
      ask = old.ask;
      far = old.far;
    })

give_back_asks : (s : Allocation) (n i : ℕ) (f : Flow) (a : Request) (to from invoke dcep scep : ℕ) → AllHolds s → May s (GiveBack n i f a to from invoke dcep scep) → AllHolds (happened s (GiveBack n i f a to from invoke dcep scep))
give_back_asks s n i f a to from invoke dcep scep h may =
    let at = (may.0).0 in
    let m = sent i to from (words.Answer invoke (answers.Yes dcep scep)) in
    let w = h.ids m (get_in s.messages n m (may.1)) in
    let y = (w.2).2 in
    let one : w.0 ≡ f = same_flow s.ledger.flows i i (w.0) f refl (w.1) at in
    let known : f.far ≡ Some (y.2) = sym (ap (λ (z : Flow). z.far) one) ∙ y.3 in
    let flow = h.ledger_holds.flow i f at in
    let over = over_is a.asking.waits a.asking.bound f (may.2) (sym (ap (λ (z : Flow). z.told) one) ∙ y.0) (h.request i f a at ((may.0).1)).asker in
    push_asks s.rests s.ledger s.requests (sent i from to (words.Delete dcep scep)) (cut n s.messages) (cut_asks s.rests s.ledger s.requests s.messages n h) (not_ask i from to dcep scep (cut n s.messages))
    (f, at, (y.2, known, Asker, ((w.2).0 ∙ ap (λ (z : Flow). z.asker.addr) one, y.1 ∙ ap (λ (z : Flow). z.asker.cep) one, (w.2).1 ∙ ap (λ (z : Flow). z.peer) one ∙ sym (flow.there (y.2) known), y.4), over.0, over.1))
    tt

-- An end is freed

free_asker_asks : (s : Allocation) (i : ℕ) (f : Flow) (a : Request) (pair : Pair) → AllHolds s → May s (FreeAsker i f a pair) → AllHolds (happened s (FreeAsker i f a pair))
free_asker_asks s i f a pair h may =
    let at = (may.0).0 in
    let at' = (may.0).1 in
    let bound = bound_is a.asking.waits a.asking.bound f pair (may.1) (h.request i f a at at').asker in
    let flow = h.ledger_holds.flow i f at in
    let x = ended_asker s.ledger.now f in
    push_asks s.rests (entered s.ledger (EndAsker i f)) (put_request i (asker_heard a events.Ended) s.requests) (sent i f.peer f.asker.addr (words.Delete pair.far pair.own)) s.messages
    (end_asker_asks s.rests s.ledger s.requests s.messages i f a events.Ended h at at' (bound.0) (after_ended a.asking.waits a.asking.bound x s.ledger.now refl))
    (not_ask i f.peer f.asker.addr pair.far pair.own s.messages)
    (x, (put_changed s.ledger.flows i f x at).at, (bound.3, bound.4, Asker, (refl, bound.2, sym (flow.there (bound.3) (bound.4)), bound.5), s.ledger.now, refl))
    tt

free_far_asks : (s : Allocation) (i : ℕ) (f : Flow) (a : Request) (far : Endpoint) (e : FarSide) (pair : Pair) → AllHolds s → May s (FreeFar i f a far e pair) → AllHolds (happened s (FreeFar i f a far e pair))
free_far_asks s i f a far e pair h may =
    let at = (may.0).0 in
    let at' = (may.0).1 in
    let old = h.request i f a at at' in
    let stood = far_stood s.rests f a far e pair old (may.1) (may.2) (may.3) in
    let x = ended_far s.ledger.now f far in
    push_asks s.rests (entered s.ledger (EndFar i f far)) (put_request i (far_heard a e events.Ended) s.requests) (sent i e.partner far.addr (words.Delete pair.far pair.own)) s.messages
    (end_far_asks s.rests s.ledger s.requests s.messages i f a far e events.Ended h at at' (may.1) (may.2) (stood.0) (far_over a f far e s.ledger.now (may.1) (may.2) old.far))
    (not_ask i e.partner far.addr pair.far pair.own s.messages)
    (x, (put_changed s.ledger.flows i f x at).at, (record far { ended = Some s.ledger.now }, refl, Far, (refl, sym (stood.3), stood.1, sym (stood.2)), s.ledger.now, refl))
    tt

-- PDUs alone

data_asks : (s : Allocation) (row : Row) → AllHolds s → May s (Data row) → AllHolds (happened s (Data row))
data_asks s (Cloud pdus) h may = record { ledger_holds = row_holds s.ledger (Cloud pdus) h.ledger_holds may.1; long = h.long; request = h.request; numbers = h.numbers; apart = h.apart; ids = h.ids; names = h.names }
data_asks s (Send i f far side p) h may = record { ledger_holds = row_holds s.ledger (Send i f far side p) h.ledger_holds may.1; long = h.long; request = h.request; numbers = h.numbers; apart = h.apart; ids = h.ids; names = h.names }
data_asks s (Time ticks) h may = absurd may.0
data_asks s (Ask rest peer addr cep) h may = absurd may.0
data_asks s (Make i f cep) h may = absurd may.0
data_asks s (Tell i f) h may = absurd may.0
data_asks s (EndAsker i f) h may = absurd may.0
data_asks s (EndFar i f far) h may = absurd may.0

-- A wait is over

module _ (s : Allocation) (ms : List Sent) (i : ℕ) (f : Flow) (a : Request) (h : AsksHold s.rests s.ledger s.requests ms) (at : IsAt s i f a) (waits : a.asking.waits ≡ true) where
  waiting : (f.asker.ended ≡ None) × (f.told ≡ false)
  waiting = waits_is a.asking.waits a.asking.bound f waits (h.request i f a at.0 at.1).asker

  be_denied_asks : (answer : FlowAnswer) → IsRefusal answer → AsksHold s.rests (entered s.ledger (EndAsker i f)) (put_request i (asker_heard a (heard answer)) s.requests) ms
  be_denied_asks answer refuses = end_asker_asks s.rests s.ledger s.requests ms i f a (heard answer) h at.0 at.1 (waiting.0) (after_refusal a.asking.waits a.asking.bound answer (ended_asker s.ledger.now f) s.ledger.now waits refuses refl)

  time_out_asks : AsksHold s.rests (entered s.ledger (EndAsker i f)) (put_request i (asker_heard a (events.Clock true)) s.requests) ms
  time_out_asks = end_asker_asks s.rests s.ledger s.requests ms i f a (events.Clock true) h at.0 at.1 (waiting.0) (after_clock a.asking.waits a.asking.bound f (ended_asker s.ledger.now f) s.ledger.now waits (h.request i f a at.0 at.1).asker refl)

  withdraw_asks : AsksHold s.rests (entered s.ledger (EndAsker i f)) (put_request i (asker_heard a events.Ended) s.requests) ms
  withdraw_asks = end_asker_asks s.rests s.ledger s.requests ms i f a events.Ended h at.0 at.1 (waiting.0) (after_ended a.asking.waits a.asking.bound (ended_asker s.ledger.now f) s.ledger.now refl)

-- A delete comes

close_asker_asks : (s : Allocation) (n i j : ℕ) (g : Flow) (a : Request) (to from dcep scep : ℕ) → AllHolds s → May s (CloseAsker n i j g a to from dcep scep) → AllHolds (happened s (CloseAsker n i j g a to from dcep scep))
close_asker_asks s n i j g a to from dcep scep h may =
    let at = may.0 in
    let pair : Pair = record { far = scep; own = dcep } in
    let is = (h.request j g a at.0 at.1).asker in
    let bound = bound_is a.asking.waits a.asking.bound g pair (may.2) is in
    end_asker_asks s.rests s.ledger s.requests (cut n s.messages) j g a events.Delete (cut_asks s.rests s.ledger s.requests s.messages n h) at.0 at.1 (bound.0) (after_delete a.asking.waits a.asking.bound g (ended_asker s.ledger.now g) pair s.ledger.now (may.2) is refl)

close_far_asks : (s : Allocation) (n i j : ℕ) (g : Flow) (a : Request) (far : Endpoint) (e : FarSide) (to from dcep scep : ℕ) → AllHolds s → May s (CloseFar n i j g a far e to from dcep scep) → AllHolds (happened s (CloseFar n i j g a far e to from dcep scep))
close_far_asks s n i j g a far e to from dcep scep h may =
    let at = may.0 in
    let old = h.request j g a at.0 at.1 in
    let stood = far_stood s.rests g a far e (record { far = scep; own = dcep }) old (may.2) (may.3) (may.4) in
    end_far_asks s.rests s.ledger s.requests (cut n s.messages) j g a far e events.Delete (cut_asks s.rests s.ledger s.requests s.messages n h) at.0 at.1 (may.2) (may.3) (stood.0) (far_over a g far e s.ledger.now (may.2) (may.3) old.far)

forward_asks : (s : Allocation) (n : ℕ) (m : Sent) → AllHolds s → slice_get s.messages n ≡ Some m → AllHolds (record s { messages = m ∷ cut n s.messages })
forward_asks s n m h at = push_asks s.rests s.ledger s.requests m (cut n s.messages) (cut_asks s.rests s.ledger s.requests s.messages n h) (λ i e k is a. cut_gone s.messages n m i h.apart at e k is a) (h.ids m (get_in s.messages n m at)) (h.names m (get_in s.messages n m at))

-- Each row

pub rows_hold : (s : Allocation) (row : AskRow) → AllHolds s → May s row → AllHolds (happened s row)
rows_hold s (Wait ticks) h may = record { ledger_holds = row_holds s.ledger (Time ticks) h.ledger_holds tt; long = h.long; request = h.request; numbers = h.numbers; apart = h.apart; ids = h.ids; names = h.names }
rows_hold s (Data row) h may = data_asks s row h may
rows_hold s (Rules registered allowed) h may = h
rows_hold s (Allocate peer addr invoke ask) h may = allocate_asks s peer addr invoke ask h may
rows_hold s (Accept n i f a to from invoke ask cep) h may = accept_asks s n i f a to from invoke ask cep h may
rows_hold s (Deny n i to from invoke ask answer) h may = deny_asks s n i to from invoke ask answer h may
rows_hold s (Bind n i f a to from invoke dcep scep) h may = bind_asks s n i f a to from invoke dcep scep h may
rows_hold s (GiveBack n i f a to from invoke dcep scep) h may = give_back_asks s n i f a to from invoke dcep scep h may
rows_hold s (BeDenied n i f a to from invoke answer) h may = be_denied_asks s (cut n s.messages) i f a (cut_asks s.rests s.ledger s.requests s.messages n h) may.0 may.2 answer may.3
rows_hold s (TimeOut i f a) h may = time_out_asks s s.messages i f a h may.0 may.1
rows_hold s (Withdraw i f a) h may = withdraw_asks s s.messages i f a h may.0 may.1
rows_hold s (FreeAsker i f a pair) h may = free_asker_asks s i f a pair h may
rows_hold s (FreeFar i f a far e pair) h may = free_far_asks s i f a far e pair h may
rows_hold s (CloseAsker n i j g a to from dcep scep) h may = close_asker_asks s n i j g a to from dcep scep h may
rows_hold s (CloseFar n i j g a far e to from dcep scep) h may = close_far_asks s n i j g a far e to from dcep scep h may
rows_hold s (Forward n m) h may = forward_asks s n m h may
rows_hold s (Drop n) h may = cut_asks s.rests s.ledger s.requests s.messages n h

run_holds : (s : Allocation) (rows : List AskRow) → AllHolds s → IsRun s rows → AllHolds (after s rows)
run_holds s [] h run = h
run_holds s (row ∷ rows) h run = run_holds (happened s row) rows (rows_hold s row h run.0) run.1

nothing_holds : (rests : ℕ → ℕ) → AllHolds (nothing rests)
nothing_holds rests = record {
  ledger_holds = empty_holds;
  long = refl;
  request = λ i f a e e'. absurd (none-some f e);
  numbers = λ i k f g a b e e' r r' same. absurd (none-some f e);
  apart = tt;
  ids = λ m is. absurd is;
  names = λ m is. absurd is;
}

pub runs_hold : (rests : ℕ → ℕ) (rows : List AskRow) → IsRun (nothing rests) rows → AllHolds (after (nothing rests) rows)
runs_hold rests rows run = run_holds (nothing rests) rows (nothing_holds rests) run
