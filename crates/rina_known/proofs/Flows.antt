-- What a member does with the messages about flows that come to it: they carry no items.
use Rattle.std.proofs.Common.{◌≡◌, inl, inr, ⊎_elim, ℕ, ◌<◌, List, [], ◌∷◌, length, slice_get, Option, Some, None, Ok, sym, ap, subst}
use Rattle.std.proofs.lemmas.Bool.{true≢false}
use Rattle.std.proofs.lemmas.Bool.Decides.{eqb_tells}
use Rattle.rina_newest.specs.declared.item.Item.{Item}
use Rattle.rina_alloc.specs.declared.answer.FlowAnswer.{FlowAnswer}
use Rattle.rina_alloc.specs.declared.answer.FlowAnswer.TheVariants as answers
use Rattle.rina_alloc.specs.declared.message.FlowAsk.{FlowAsk}
use Rattle.rina_alloc.specs.declared.message.FlowMessage.{FlowMessage}
use Rattle.rina_alloc.specs.declared.message.FlowWord.{FlowWord}
use Rattle.rina_alloc.specs.declared.message.FlowWord.TheVariants as words
use Rattle.rina_alloc.specs.Words.{dcep_of}
use Rattle.rina_data.specs.declared.settings.Member.{Member}
use Rattle.rina_data.proofs.Finding.{there}
use Rattle.rina_iface.specs.declared.state.Why.{Why}
use Rattle.rina_iface.specs.Seen.{Seen}
use Rattle.rina_law.specs.Direction.{Direction}
use Rattle.rina_member.specs.declared.management.Management.{Management}
use Rattle.rina_dif.specs.declared.dif.Dif.{Dif}
use Rattle.rina_dif.specs.AnswersIn.{SaysBack, TakesAnswer, TakesAt, given_back, why_of}
use Rattle.rina_dif.specs.Changing.{with_flow_at}
use Rattle.rina_dif.specs.DeletesIn.{ClosesUp, TakesDelete}
use Rattle.rina_dif.specs.FarMaking.{Accepts, AnswersBy, HandlesAsk}
use Rattle.rina_dif.specs.FlowMessages.{HandlesFlow, HandlesFlows, HandlesWord}
use Rattle.rina_dif.specs.Posting.{message_of, posts}
use Rattle.rina_known.specs.Entries.{AllAre}
use Rattle.rina_known.proofs.Agents.{OwnAre}
use Rattle.rina_known.proofs.Calls.{all_good}
use Rattle.rina_known.proofs.Keeping.{moves, same_way}
use Rattle.rina_known.proofs.Managements.{good_hidden, good_posted, good_same, good_shown}

module _ (G : Item → Type 0) (own : OwnAre G) where
  -- what the managements of a DIF keep is kept
  abbrev Keeps : Dif → Dif → Type 0
  Keeps d d' = all_good G own d.managements → all_good G own d'.managements

  same : (d d' : Dif) → d'.managements ≡ d.managements → Keeps d d'
  same d d' = good_same G own d.managements d'.managements

  says : (d d' : Dif) (i : ℕ) (message : FlowMessage) → d'.managements ≡ posts d i message d.managements → Keeps d d'
  says d d' i message are good = subst (all_good G own) (sym are) (good_posted G own d i message d.managements good)

  shows : (d d' : Dif) (at cep : ℕ) → d'.managements ≡ with_flow_at at cep d.managements → Keeps d d'
  shows d d' at cep are good = subst (all_good G own) (sym are) (good_shown G own at cep d.managements good)

  -- An ask

  accepts_good : (d : Dif) (lines : List Direction) (below : Seen) (at here node from invoke : ℕ) (ask : FlowAsk) (d' : Dif) → Accepts d lines below at here node from invoke ask d' → Keeps d d'
  accepts_good d lines below at here node from invoke ask d' s good =
      let shown : List Management = with_flow_at at s.makes.cep d.managements in
      subst (all_good G own) (sym s.managed) (good_posted G own d at (message_of from here (words.Answer invoke (answers.Yes s.makes.cep ask.scep))) shown (good_shown G own at s.makes.cep d.managements good))

  answered_good : (a : FlowAnswer) (d : Dif) (lines : List Direction) (below : Seen) (at here node from invoke : ℕ) (ask : FlowAsk) (d' : Dif) → AnswersBy a d lines below at here node from invoke ask d' → Keeps d d'
  answered_good (answers.Yes cep scep) d lines below at here node from invoke ask d' (inl s) = accepts_good d lines below at here node from invoke ask d' s
  answered_good (answers.Yes cep scep) d lines below at here node from invoke ask d' (inr s) = says d d' at (message_of from here (words.Answer invoke answers.NotHere)) (ap (λ (z : Dif). z.managements) s.1.only)
  answered_good (answers.Denied rule) d lines below at here node from invoke ask d' s = says d d' at (message_of from here (words.Answer invoke (answers.Denied rule))) (ap (λ (z : Dif). z.managements) s.only)
  answered_good answers.NotHere d lines below at here node from invoke ask d' s = says d d' at (message_of from here (words.Answer invoke answers.NotHere)) (ap (λ (z : Dif). z.managements) s.only)
  answered_good (answers.NoIds used) d lines below at here node from invoke ask d' s = says d d' at (message_of from here (words.Answer invoke (answers.NoIds used))) (ap (λ (z : Dif). z.managements) s.only)

  ask_good : (d : Dif) (lines : List Direction) (below : Seen) (at from invoke : ℕ) (ask : FlowAsk) (d' : Dif) → HandlesAsk d lines below at from invoke ask (Ok tt) d' → Keeps d d'
  ask_good d lines below at from invoke ask d' (inl a) = answered_good a.decides.answer d lines below at a.decides.member.addr a.decides.member.node from invoke ask d' a.does
  ask_good d lines below at from invoke ask d' (inr none) = same d d' (ap (λ (z : Dif). z.managements) none.1)

  -- An answer

  taken_good : (o : Option Why) (d : Dif) (lines : List Direction) (below : Seen) (at from cep which place : ℕ) (d' : Dif) → TakesAt o cep d lines below at from which place (Ok tt) d' → Keeps d d'
  taken_good (Some cause) d lines below at from cep which place d' t = same d d' t.turns_down.managed
  taken_good None d lines below at from cep which place d' (inl t) = same d d' t.1.turns_down.managed
  taken_good None d lines below at from cep which place d' (inr t) = shows d d' at t.2.binds.answered.ids.scep t.2.binds.managed

  back_good : (a : FlowAnswer) (d : Dif) (at from : ℕ) (m : Member) (d' : Dif) → slice_get d.settings.members at ≡ Some m → SaysBack (given_back a) d at from d' → Keeps d d'
  back_good (answers.Yes cep scep) d at from m d' is s = says d d' at (message_of from m.addr (words.Delete cep scep)) (ap (λ (z : Dif). z.managements) (s m is))
  back_good (answers.Denied rule) d at from m d' is s = same d d' (ap (λ (z : Dif). z.managements) s)
  back_good answers.NotHere d at from m d' is s = same d d' (ap (λ (z : Dif). z.managements) s)
  back_good (answers.NoIds used) d at from m d' is s = same d d' (ap (λ (z : Dif). z.managements) s)

  answer_good : (d : Dif) (lines : List Direction) (below : Seen) (at from invoke : ℕ) (answer : FlowAnswer) (m : Member) (d' : Dif) → slice_get d.settings.members at ≡ Some m → TakesAnswer d lines below at from invoke answer (Ok tt) d' → Keeps d d'
  answer_good d lines below at from invoke answer m d' is (inl t) = taken_good (why_of answer) d lines below at from (dcep_of answer) t.which t.first.is_ask.ask.place d' t.takes
  answer_good d lines below at from invoke answer m d' is (inr t) = back_good answer d at from m d' is t.1.ok

  -- A flow is given up

  closes_good : (d : Dif) (lines : List Direction) (below : Seen) (here from dcep scep : ℕ) (d' : Dif) → ClosesUp d lines below here from dcep scep (Ok tt) d' → Keeps d d'
  closes_good d lines below here from dcep scep d' c good =
      let up = c.first.is_up in
      let s = c.manages in
      subst (all_good G own) (sym (s.2 up.conn up.is_at.conn_is)) (good_hidden G own s.0 up.conn.sending.form.peer.scep d.managements good)

  delete_good : (d : Dif) (lines : List Direction) (below : Seen) (at from dcep scep : ℕ) (m : Member) (d' : Dif) → slice_get d.settings.members at ≡ Some m → TakesDelete d lines below at from dcep scep (Ok tt) d' → Keeps d d'
  delete_good d lines below at from dcep scep m d' is t = ⊎_elim (λ c. closes_good d lines below m.addr from dcep scep d' c) (λ none. same d d' (ap (λ (z : Dif). z.managements) none.1)) (t m is)

  -- One message

  word_good : (word : FlowWord) (d : Dif) (lines : List Direction) (below : Seen) (at from : ℕ) (m : Member) (d' : Dif) → slice_get d.settings.members at ≡ Some m → HandlesWord d lines below at from word (Ok tt) d' → Keeps d d'
  word_good (words.Ask invoke ask) d lines below at from m d' is w = ask_good d lines below at from invoke ask d' w
  word_good (words.Answer invoke answer) d lines below at from m d' is w = answer_good d lines below at from invoke answer m d' is w
  word_good (words.Delete dcep scep) d lines below at from m d' is w = delete_good d lines below at from dcep scep m d' is w

  flow_good : (d : Dif) (lines : List Direction) (below : Seen) (i : ℕ) (message : FlowMessage) (d' : Dif) (lines' : List Direction) → i < length d.settings.members → HandlesFlow d lines below i message (Ok tt) d' lines' → Keeps d d'
  flow_good d lines below i message d' lines' lt f =
      let m = there d.settings.members i lt in
      ⊎_elim
      (λ own. word_good message.word d lines below i message.from m.0 d' m.1 (f.own m.0 m.1 own.1))
      (λ other. says d d' i message (ap (λ (z : Dif). z.managements) (f.on m.0 m.1 other.1)))
      (eqb_tells message.to m.0.addr)

  -- Several

  pub flows_known : (d : Dif) (lines : List Direction) (below : Seen) (i : ℕ) (ms : List FlowMessage) (d' : Dif) (lines' : List Direction) → i < length d.settings.members → HandlesFlows d lines below i ms (Ok tt) d' lines' → AllAre G d → AllAre G d'
  flows_known d lines below i [] d' lines' lt h known = subst (AllAre G) (sym h.1) known
  flows_known d lines below i (m ∷ ms) d' lines' lt (inl stops) known = absurd (true≢false (sym stops.0))
  flows_known d lines below i (m ∷ ms) d' lines' lt (inr h) known =
      let mid = h.0 in
      let settings : length mid.settings.members ≡ length d.settings.members = ap (λ (z : Dif). length z.settings.members) h.2.rest in
      let within : i < length mid.settings.members = subst (λ (n : ℕ). i < n) (sym settings) lt in
      flows_known mid h.1 below i ms d' lines' within h.4 (moves G own d mid (flow_good d lines below i m mid h.1 lt h.2) (same_way d mid (ap (λ (z : Dif). z.connections) h.2.rest)) known)
