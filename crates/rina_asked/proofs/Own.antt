-- What keeps that the messages with the invoke id of an ask that waits are of its own flow.
use Rattle.std.proofs.Common.{◌≡◌, ◌∙◌, inl, inr, ⊎_elim, ℕ, List, Contains, sym, ap, subst}
use Rattle.std.proofs.lemmas.Option.{same_Some}
use Rattle.rina_agent.specs.declared.message.ManagementMessage.{ManagementMessage}
use Rattle.rina_agent.specs.declared.message.ManagementMessage.TheVariants.{ToMember, ToNeighbour}
use Rattle.rina_agent.specs.declared.message.Waiting.{Waiting}
use Rattle.rina_alloc.specs.declared.answer.FlowAnswer.{FlowAnswer}
use Rattle.rina_alloc.specs.declared.answer.FlowAnswer.TheVariants as answers
use Rattle.rina_alloc.specs.declared.message.FlowMessage.{FlowMessage}
use Rattle.rina_alloc.specs.declared.message.FlowWord.{FlowWord}
use Rattle.rina_alloc.specs.declared.message.FlowWord.TheVariants as words
use Rattle.rina_alloc.specs.Messages.{IsInRange, IsProper, IsSpelled, operation_of}
use Rattle.rina_alloc.specs.Words.{code_of}
use Rattle.rina_alloc.proofs.Guesses.{one_message}
use Rattle.rina_base.specs.declared.number.FlowName.{FlowName}
use Rattle.rina_conn.specs.declared.conn.Conn.{Conn}
use Rattle.rina_iface.specs.declared.ends.End.{End}
use Rattle.rina_iface.specs.Journal.{At}
use Rattle.rina_member.specs.declared.management.Management.{Management}
use Rattle.rina_member.specs.Managements.{IsSduOf}
use Rattle.rina_member.proofs.TextsApart.{texts_apart}
use Rattle.rina_dif.specs.declared.dif.Dif.{Dif}
use Rattle.rina_dif.specs.declared.waiting_asks.WaitingAsk.{WaitingAsk}
use Rattle.rina_dif.specs.FlowAnswers.{IsFarEndAt}
use Rattle.rina_dif.specs.FlowMessages.{IsTextOf}
use Rattle.rina_asked.specs.Awaited.{AreOwn, HasOwnCep, IsAskFrom, IsOfAsk, StandsWaiting}
use Rattle.rina_asked.specs.Messages.{IsMessage, IsOnLink, IsOnWay, Waits}
use Rattle.rina_asked.proofs.Askers.{KeepAskers}
use Rattle.rina_asked.proofs.Drawn.{KeepIds}
use Rattle.rina_asked.proofs.Quiet.{Lasts}
use Rattle.rina_asked.proofs.Texts.{same_code, same_operation}
use Rattle.rina_asked.proofs.Waiting.{Adds, HasWaiting, IsOther}

-- One ask that waits

module _ (d d' : Dif) (keeps : KeepAskers d d') (ids : KeepIds d.managements d'.managements) (w : WaitingAsk) (s : StandsWaiting d w) where
  pub waits_on : StandsWaiting d' w
  waits_on =
      let on = keeps w.place s.end s.conn s.is_at in
      let m = ids.each w.member s.management s.is_management in
      record { end = on.end; conn = on.conn; is_at = on.is_at; management = m.0; is_management = m.1; fits = s.fits; drawn = m.2.drawn w.invoke s.fits s.drawn }

  -- its end is the one that it was
  pub its_flow : (end : End) → At d'.flows.journal.ends w.place end → end.flow ≡ s.end.flow
  its_flow end is =
      let on = keeps w.place s.end s.conn s.is_at in
      ap (λ (e : End). e.flow) (same_Some end on.end (sym is ∙ on.is_at.end_is)) ∙ on.flow

  -- with the CEP-id that it had
  pub its_cep : (scep : ℕ) → HasOwnCep d w.place scep → HasOwnCep d' w.place scep
  its_cep scep had conn is =
      let on = keeps w.place s.end s.conn s.is_at in
      ap (λ (c : Conn). c.sending.form.peer.scep) (same_Some conn on.conn (sym is ∙ on.is_at.conn_is)) ∙ on.names.scep ∙ had s.conn s.is_at.conn_is

  -- and so is its member
  pub was_from : (addr invoke : ℕ) → IsAskFrom d' w addr invoke → IsAskFrom d w addr invoke
  was_from addr invoke f =
      let m = ids.each w.member s.management s.is_management in
      let same : f.management ≡ m.0 = same_Some f.management m.0 (sym f.is_management ∙ m.1) in
      record { management = s.management; is_management = s.is_management; address = sym m.2.address ∙ ap (λ (z : Management). z.agent.address) (sym same) ∙ f.address; invoke_is = f.invoke_is }

  far_on : (place from cep : ℕ) (flow : FlowName) → IsFarEndAt d place flow from cep → IsFarEndAt d' place flow from cep
  far_on place from cep flow far =
      let on = keeps place far.end far.conn far.is_at in
      record { end = on.end; conn = on.conn; is_at = on.is_at; is_far = on.role ∙ far.is_far; same = on.flow ∙ far.same; own_is = on.names.own ∙ far.own_is; cep_is = on.names.scep ∙ far.cep_is }

  pub of_ask_on : (to from : ℕ) (word : FlowWord) → IsOfAsk d w to from word → IsOfAsk d' w to from word
  of_ask_on to from (words.Ask invoke ask) of = λ f. (let was = of (was_from from invoke f) in (λ end is. its_flow end is ∙ was.0 s.end s.is_at.end_is, its_cep ask.scep was.1))
  of_ask_on to from (words.Answer invoke (answers.Yes cep scep)) of = λ f.
      (let was = of (was_from to invoke f) in
      let far = was.0 in
      ((far.0, λ end is. subst (λ (flow : FlowName). IsFarEndAt d' far.0 flow from cep) (sym (its_flow end is)) (far_on far.0 from cep s.end.flow (far.1 s.end s.is_at.end_is))), its_cep scep was.1))
  of_ask_on to from (words.Answer invoke (answers.Denied rule)) of = tt
  of_ask_on to from (words.Answer invoke answers.NotHere) of = tt
  of_ask_on to from (words.Answer invoke (answers.NoIds used)) of = tt
  of_ask_on to from (words.Delete dcep scep) of = tt

-- What begins to be on its way

-- each message that one that waits is spelled as is of the flows that these asks wait for
abbrev pub SaysOwn : List WaitingAsk → Dif → ManagementMessage → Type 0
SaysOwn asks d x = (text : List ℕ) → IsSduOf x text → (m : FlowMessage) → IsTextOf m text → (w : WaitingAsk) → Contains asks w → IsOfAsk d w m.to m.from m.word

of_none : (d : Dif) (w : WaitingAsk) (to from : ℕ) (word : FlowWord) → operation_of word ≡ 6 → IsOfAsk d w to from word
of_none d w to from (words.Ask invoke ask) other = absurd (let wrong = other in cc)
of_none d w to from (words.Answer invoke answer) other = absurd (let wrong = other in cc)
of_none d w to from (words.Delete dcep scep) other = tt

pub other_own : (asks : List WaitingAsk) (d : Dif) (x : ManagementMessage) → IsOther x → SaysOwn asks d x
other_own asks d (ToNeighbour word) other text sdu m is w has = absurd (texts_apart text word m sdu is.spelled)
other_own asks d (ToMember n) other text sdu m is w has = of_none d w m.to m.from m.word (sym (same_operation n m text sdu is.spelled) ∙ other)

-- a refusal is of none
pub refusal_own : (asks : List WaitingAsk) (d : Dif) (to from invoke : ℕ) (answer : FlowAnswer) → (code_of answer ≡ 0 → ⊥) → SaysOwn asks d (ToMember (record { to = to; from = from; word = words.Answer invoke answer }))
refusal_own asks d to from invoke answer refuses text spelled m of w has = by_word m.to m.from m.word of.spelled
  where
    by_word : (to' from' : ℕ) (word : FlowWord) → IsSpelled (record { to = to'; from = from'; word = word }) text → IsOfAsk d w to' from' word
    by_word to' from' (words.Ask number ask) is = absurd (let wrong = same_operation (record { to = to; from = from; word = words.Answer invoke answer }) (record { to = to'; from = from'; word = words.Ask number ask }) text spelled is in cc)
    by_word to' from' (words.Answer number (answers.Yes cep scep)) is = absurd (refuses (same_code to from invoke to' from' number answer (answers.Yes cep scep) text spelled is))
    by_word to' from' (words.Answer number (answers.Denied rule)) is = tt
    by_word to' from' (words.Answer number answers.NotHere) is = tt
    by_word to' from' (words.Answer number (answers.NoIds used)) is = tt
    by_word to' from' (words.Delete dcep scep) is = tt

-- a message whose numbers and names are those of their types says what it says
pub record IsOwnFlow (asks : List WaitingAsk) (d : Dif) (m : FlowMessage) : Type 0 where
  pub in_range : IsInRange m
  pub proper : IsProper m.word
  pub own : (w : WaitingAsk) → Contains asks w → IsOfAsk d w m.to m.from m.word

pub flow_own : (asks : List WaitingAsk) (d : Dif) (n : FlowMessage) → IsOwnFlow asks d n → SaysOwn asks d (ToMember n)
flow_own asks d n own text spelled m of w has =
    let same = one_message n m text own.in_range of.in_range own.proper of.proper spelled of.spelled in
    subst (λ (z : FlowMessage). IsOfAsk d w z.to z.from z.word) same (own.own w has)

-- so it is with what is among the messages
pub message_own : (asks : List WaitingAsk) (d : Dif) → AreOwn asks d → (m : FlowMessage) → IsMessage d m → IsOwnFlow asks d m
message_own asks d h m is = record { in_range = is.is.in_range; proper = is.is.proper; own = λ w has. h.own w has m is }

-- and while the DIF changes
pub flow_own_on : (asks : List WaitingAsk) (d d' : Dif) → KeepAskers d d' → KeepIds d.managements d'.managements → AreOwn asks d → (m : FlowMessage) → IsOwnFlow asks d m → IsOwnFlow asks d' m
flow_own_on asks d d' keeps ids h m own = record { in_range = own.in_range; proper = own.proper; own = λ w has. of_ask_on d d' keeps ids w (h.stand w has) m.to m.from m.word (own.own w has) }

-- All

pub waiting_at : (d : Dif) (text : List ℕ) (w : Waits d text) → HasWaiting d.managements w.waiting
waiting_at d text w = record { place = w.place; management = w.management; is_management = w.is_management; waits = w.waits }

-- what begins to wait says so, and what begins to be on a link was on its way
pub own_by : (asks : List WaitingAsk) (New : ManagementMessage → Type 0) (d d' : Dif) → KeepAskers d d' → Adds New d.managements d'.managements → ((x : Waiting) → HasWaiting d'.managements x → New x.message → SaysOwn asks d' x.message) → ((text : List ℕ) → IsOnLink d' text → IsOnWay d text) → AreOwn asks d → AreOwn asks d'
own_by asks New d d' keeps adds new links h = record {
  stand = λ w has. waits_on d d' keeps adds.ids w (h.stand w has);
  own = λ w has m is.
      (let on : IsMessage d m → IsOfAsk d' w m.to m.from m.word = λ was. of_ask_on d d' keeps adds.ids w (h.stand w has) m.to m.from m.word (h.own w has m was) in
      elim (is.on_way) [
        | inl x ↦ ⊎_elim
            (λ old. on (record { text = is.text; on_way = inl (record { place = old.place; management = old.management; is_management = old.is_management; waiting = x.waiting; waits = old.waits; written = x.written }); is = is.is }))
            (λ begins. new x.waiting (waiting_at d' is.text x) begins is.text x.written m is.is w has)
            (adds.more x.waiting (waiting_at d' is.text x))
        | inr l ↦ on (record { text = is.text; on_way = links is.text l; is = is.is })
      ]);
}

pub own_lasts : (asks : List WaitingAsk) → Lasts (AreOwn asks)
own_lasts asks d d' q h = own_by asks IsOther d d' q.askers q.adds (λ x has other. other_own asks d' x.message other) q.way h

-- fewer asks wait
pub own_fewer : (old new : List WaitingAsk) (d : Dif) → ((w : WaitingAsk) → Contains new w → Contains old w) → AreOwn old d → AreOwn new d
own_fewer old new d fewer h = record { stand = λ w has. h.stand w (fewer w has); own = λ w has. h.own w (fewer w has) }
