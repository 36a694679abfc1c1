-- What a member does with the messages about flows that come to it: it hands on those of others, and posts no ask of its own.
use Rattle.std.proofs.Common.{◌++◌, ◌∙◌, suc, arith, ◌≡◌, ◌⊎◌, inl, inr, ⊎_elim, ℕ, ◌<◌, List, [], ◌∷◌, length, slice_get, Option, Some, None, Result, Ok, refl, sym, ap, subst}
use Rattle.std.proofs.lemmas.Bool.{true≢false}
use Rattle.std.proofs.lemmas.Bool.Decides.{eqb_tells}
use Rattle.std.proofs.lemmas.Option.{same_Some}
use Rattle.rina_base.specs.declared.number.FlowName.{FlowName}
use Rattle.rina_base.specs.declared.memory.Memory.{Memory}
use Rattle.rina_alloc.specs.declared.answer.FlowAnswer.{FlowAnswer}
use Rattle.rina_alloc.specs.declared.answer.FlowAnswer.TheVariants as answers
use Rattle.rina_alloc.specs.declared.message.FlowAsk.{FlowAsk}
use Rattle.rina_alloc.specs.declared.message.FlowMessage.{FlowMessage}
use Rattle.rina_alloc.specs.declared.message.FlowWord.{FlowWord}
use Rattle.rina_alloc.specs.declared.message.FlowWord.TheVariants as words
use Rattle.rina_alloc.specs.Messages.{operation_of}
use Rattle.rina_alloc.specs.Words.{code_of, dcep_of}
use Rattle.rina_agent.specs.declared.message.ManagementMessage.{ManagementMessage}
use Rattle.rina_agent.specs.declared.message.ManagementMessage.TheVariants.{ToMember}
use Rattle.rina_agent.specs.declared.message.Waiting.{Waiting}
use Rattle.rina_data.specs.declared.settings.Member.{Member}
use Rattle.rina_data.proofs.Finding.{there}
use Rattle.rina_conn.specs.declared.conn.Conn.{Conn}
use Rattle.rina_dif_law.specs.Answering.{far_end_of, with_far_cep}
use Rattle.rina_dif_law.specs.Dif.{DifSeen}
use Rattle.rina_dif_law.specs.Ids.{Ids, flipped}
use Rattle.rina_dif_law.specs.Standing.{AreIds}
use Rattle.rina_flows.specs.Tied.{conns_of, ids_of}
use Rattle.rina_flows.proofs.Framed.{ids_at}
use Rattle.rina_iface.proofs.Grown.{last_at}
use Rattle.rina_dif.proofs.Bare.{map_at}
use Rattle.rina_iface.specs.declared.ends.End.{End}
use Rattle.rina_iface.specs.Seen.{Seen}
use Rattle.rina_iface.specs.declared.state.Why.{Why}
use Rattle.rina_law.specs.Direction.{Direction}
use Rattle.rina_member.specs.declared.management.Management.{Management}
use Rattle.rina_member.specs.Managements.{IsSduOf}
use Rattle.rina_dif.specs.declared.dif.Dif.{Dif}
use Rattle.rina_dif.specs.Allocating.{way}
use Rattle.rina_dif.specs.AnswersIn.{SaysBack, TakesAnswer, TakesAt, given_back, why_of}
use Rattle.rina_dif.specs.Changing.{with_flow_at}
use Rattle.rina_dif.specs.DeletesIn.{ClosesUp, TakesDelete}
use Rattle.rina_dif.specs.Holding.{Holds}
use Rattle.rina_dif.specs.FarMaking.{Accepts, AnswersBy, HandlesAsk}
use Rattle.rina_dif.specs.FlowAnswers.{IsFarEndAt}
use Rattle.rina_dif.specs.FlowMessages.{HandlesFlow, HandlesFlows, HandlesWord, MayChangeFlow}
use Rattle.rina_dif.specs.Posting.{message_of, posts}
use Rattle.rina_dif.specs.Shown.{seen_of}
use Rattle.rina_dif.proofs.FlowWalk.{flow_silent}
use Rattle.rina_asked.specs.Alone.{asks, one}
use Rattle.rina_asked.specs.Ends.{HaveEnds, IsFarEnd}
use Rattle.rina_asked.proofs.Askers.{KeepAskers, KeepNames, askers_keep, names_more, names_same, names_set}
use Rattle.rina_asked.proofs.Calls.{told_adds}
use Rattle.rina_asked.proofs.Allocates.{fits_four}
use Rattle.rina_asked.proofs.Weights.{no_word, other_weighs}
use Rattle.rina_asked.proofs.Keeps.{asked_by, text_on}
use Rattle.rina_asked.proofs.Links.{links_same}
use Rattle.rina_asked.proofs.Texts.{IsAskedFlow, IsAskedText, other_asked, refusal_asked, yes_asked}
use Rattle.rina_asked.proofs.Waiting.{Adds, HasWaiting, IsOther, added_on, hides_flow, posted_adds, same_added, shows_flow, widened}

-- The flows

pub flow_names : (d : DifSeen) (lines : List Direction) (i : ℕ) (d' : DifSeen) (lines' : List Direction) → MayChangeFlow d lines i d' lines' → KeepNames d.conns d'.conns
flow_names d lines i d' lines' (inl same) = names_same d.conns d'.conns (ap (λ (z : DifSeen). z.conns) same.0)
flow_names d lines i d' lines' (inr (inl m)) = names_more d.conns d'.conns _ (ap (λ (z : DifSeen). z.conns) m.makes.new_is)
flow_names d lines i d' lines' (inr (inr (inl b))) = names_set d.conns d'.conns b.place b.answered.ids _ b.answered.is_conn.ids_are (record { own = refl; far = refl; scep = refl }) (ap (λ (z : DifSeen). z.conns) b.answered.new_is)
flow_names d lines i d' lines' (inr (inr (inr (inl r)))) = names_same d.conns d'.conns (ap (λ (z : DifSeen). z.conns) r.turned.new_is)
flow_names d lines i d' lines' (inr (inr (inr (inr c)))) = names_same d.conns d'.conns (ap (λ (z : DifSeen). z.conns) c.ended.new_is)

-- What the member posts

-- an answer whose far end stands
pub record IsToldAnswer (d : Dif) (x : ManagementMessage) : Type 0 where
  pub message : FlowMessage
  pub is : x ≡ ToMember message
  pub answers : operation_of message.word ≡ 5
  pub asked : IsAskedFlow d message

abbrev pub IsTold : Dif → ManagementMessage → Type 0
IsTold d x = IsOther x ⊎ IsToldAnswer d x

five_four : ◌≡◌ {A = ℕ} 5 4 → ⊥
five_four e = absurd cc

pub told_weighs : (f : FlowName) (d : Dif) (x : ManagementMessage) → IsTold d x → one (asks f x) ≡ 0
told_weighs f d x (inl other) = other_weighs f x other
told_weighs f d x (inr t) = ap (λ (z : ManagementMessage). one (asks f z)) t.is ∙ no_word f t.message.word (λ ask. five_four (sym t.answers ∙ ask))

wide : (d : Dif) (old new : List Management) → Adds IsOther old new → Adds (IsTold d) old new
wide d old new adds = widened IsOther (IsTold d) old new (λ x other. inl other) adds

-- an answer is posted
tells_adds : (d d' : Dif) (i to from invoke : ℕ) (answer : FlowAnswer) (ms : List Management) → IsAskedFlow d' (record { to = to; from = from; word = words.Answer invoke answer }) → Adds (IsTold d') ms (posts d i (message_of to from (words.Answer invoke answer)) ms)
tells_adds d d' i to from invoke answer ms asked = posted_adds (IsTold d') i (way d i to) (message_of to from (words.Answer invoke answer)) ms (inr (record { message = message_of to from (words.Answer invoke answer); is = refl; answers = refl; asked = asked }))

-- a refusal
refuses_adds : (d d' : Dif) (i to from invoke : ℕ) (answer : FlowAnswer) → (code_of answer ≡ 0 → ⊥) → d' ≡ record d { managements = posts d i (message_of to from (words.Answer invoke answer)) d.managements } → Adds (IsTold d') d.managements d'.managements
refuses_adds d d' i to from invoke answer refuses only = subst (Adds (IsTold d') d.managements) (sym (ap (λ (z : Dif). z.managements) only)) (tells_adds d d' i to from invoke answer d.managements (refusal_asked d' to from invoke answer refuses))

-- the far end of a yes
module _ (d : Dif) (lines : List Direction) (below : Seen) (h : Holds d lines below) (at own node from invoke : ℕ) (ask : FlowAsk) (d' : Dif) (s : Accepts d lines below at own node from invoke ask d') where
  abbrev pub its_place : ℕ
  its_place = length d.flows.journal.ends

  ids_is : s.makes.ids ≡ ids_of s.asker.conn
  ids_is = same_Some s.makes.ids (ids_of s.asker.conn) (sym s.makes.is_conn.ids_are ∙ ids_at d.flows.conns s.place s.asker.conn s.asker.is_at.conn_is)

  far_there : slice_get d'.flows.journal.ends its_place ≡ Some (far_end_of (seen_of d) node s.makes.asker)
  far_there = ap (λ (z : DifSeen). slice_get z.ends its_place) s.makes.new_is ∙ last_at d.flows.journal.ends (far_end_of (seen_of d) node s.makes.asker)

  abbrev its_ids : Ids
  its_ids = flipped (with_far_cep s.makes.ids s.makes.cep)

  ids_there : slice_get (conns_of d'.flows.conns) its_place ≡ Some its_ids
  ids_there = ap (λ (z : DifSeen). slice_get z.conns its_place) s.makes.new_is ∙ ap (λ (k : ℕ). slice_get ((seen_of d).conns ++ its_ids ∷ []) k) (sym h.standing.own.alike) ∙ last_at (seen_of d).conns its_ids

  abbrev its_conn : (conn : Conn) × (slice_get d'.flows.conns its_place ≡ Some conn) × (ids_of conn ≡ its_ids)
  its_conn = map_at ids_of d'.flows.conns its_place its_ids ids_there

  own_is : its_ids.own ≡ own
  own_is = ap (λ (z : Ids). z.far) ids_is ∙ s.asker.leads.asked

  far_is : its_ids.far ≡ from
  far_is = ap (λ (z : Ids). z.own) ids_is ∙ s.asker.leads.asker

  far_end : IsFarEnd d' its_place from own s.makes.cep
  far_end = record {
    end = far_end_of (seen_of d) node s.makes.asker;
    conn = its_conn.0;
    is_at = record { end_is = far_there; conn_is = its_conn.1 };
    is_far = refl;
    leads = record { asker = ap (λ (z : Ids). z.own) its_conn.2 ∙ own_is; asked = ap (λ (z : Ids). z.far) its_conn.2 ∙ far_is; its_cep = ap (λ (z : Ids). z.scep) its_conn.2 };
  }

  -- it is that of the flow of the ask
  pub far_end_at : IsFarEndAt d' its_place ask.flow own s.makes.cep
  far_end_at = record {
    end = far_end_of (seen_of d) node s.makes.asker;
    conn = its_conn.0;
    is_at = record { end_is = far_there; conn_is = its_conn.1 };
    is_far = refl;
    same = ap (λ (e : End). e.flow) (same_Some s.makes.asker s.asker.end (sym s.makes.is_conn.end ∙ s.asker.is_at.end_is)) ∙ s.asker.asks.flow;
    own_is = ap (λ (z : Ids). z.own) its_conn.2 ∙ own_is;
    cep_is = ap (λ (z : Ids). z.scep) its_conn.2;
  }

  fit : AreIds (seen_of d').config (far_end_of (seen_of d) node s.makes.asker) its_ids
  fit = s.holds.standing.own.ids its_place (far_end_of (seen_of d) node s.makes.asker) its_ids (record { end = far_there; ids_are = ids_there })

  pub cep_fits : s.makes.cep < 4294967296
  cep_fits = fits_four d'.settings.widths.cep its_ids.scep s.holds.standing.config.widths.cep fit.scep

  yes_told : IsAskedFlow d' (record { to = from; from = own; word = words.Answer invoke (answers.Yes s.makes.cep ask.scep) })
  yes_told = yes_asked d' its_place from own invoke s.makes.cep ask.scep
      (subst (λ (x : ℕ). x < 4294967296) far_is (fits_four d'.settings.widths.addr its_ids.far s.holds.standing.config.widths.addr fit.far))
      (subst (λ (x : ℕ). x < 4294967296) own_is (fits_four d'.settings.widths.addr its_ids.own s.holds.standing.config.widths.addr fit.own))
      cep_fits far_end

  accepts_adds : Adds (IsTold d') d.managements d'.managements
  accepts_adds =
      let shown : List Management = with_flow_at at s.makes.cep d.managements in
      subst (Adds (IsTold d') d.managements) (sym s.managed) (added_on (IsTold d') d.managements shown (posts d at (message_of from own (words.Answer invoke (answers.Yes s.makes.cep ask.scep))) shown) (wide d' d.managements shown (shows_flow at s.makes.cep d.managements)) (tells_adds d d' at from own invoke (answers.Yes s.makes.cep ask.scep) shown yes_told))

pub no_code : (k : ℕ) → suc k ≡ 0 → ⊥
no_code k e = omega (arith, e)

pub answered_adds : (a : FlowAnswer) (d : Dif) (lines : List Direction) (below : Seen) → Holds d lines below → (at own node from invoke : ℕ) (ask : FlowAsk) (d' : Dif) → AnswersBy a d lines below at own node from invoke ask d' → Adds (IsTold d') d.managements d'.managements
answered_adds (answers.Yes cep scep) d lines below h at own node from invoke ask d' (inl s) = accepts_adds d lines below h at own node from invoke ask d' s
answered_adds (answers.Yes cep scep) d lines below h at own node from invoke ask d' (inr s) = refuses_adds d d' at from own invoke answers.NotHere (no_code 1) s.1.only
answered_adds (answers.Denied rule) d lines below h at own node from invoke ask d' s = refuses_adds d d' at from own invoke (answers.Denied rule) (no_code 0) s.only
answered_adds answers.NotHere d lines below h at own node from invoke ask d' s = refuses_adds d d' at from own invoke answers.NotHere (no_code 1) s.only
answered_adds (answers.NoIds used) d lines below h at own node from invoke ask d' s = refuses_adds d d' at from own invoke (answers.NoIds used) (no_code 2) s.only

ask_adds : (d : Dif) (lines : List Direction) (below : Seen) → Holds d lines below → (at from invoke : ℕ) (ask : FlowAsk) (d' : Dif) → HandlesAsk d lines below at from invoke ask (Ok tt) d' → Adds (IsTold d') d.managements d'.managements
ask_adds d lines below h at from invoke ask d' (inl a) = answered_adds a.decides.answer d lines below h at a.decides.member.addr a.decides.member.node from invoke ask d' a.does
ask_adds d lines below h at from invoke ask d' (inr same) = same_added (IsTold d') d.managements d'.managements (ap (λ (z : Dif). z.managements) same.1)

taken_adds : (o : Option Why) (d : Dif) (lines : List Direction) (below : Seen) (at from cep which place : ℕ) (d' : Dif) → TakesAt o cep d lines below at from which place (Ok tt) d' → Adds IsOther d.managements d'.managements
taken_adds (Some cause) d lines below at from cep which place d' t = same_added IsOther d.managements d'.managements t.turns_down.managed
taken_adds None d lines below at from cep which place d' (inl t) = same_added IsOther d.managements d'.managements t.1.turns_down.managed
taken_adds None d lines below at from cep which place d' (inr t) = subst (Adds IsOther d.managements) (sym t.2.binds.managed) (shows_flow at t.2.binds.answered.ids.scep d.managements)

back_adds : (a : FlowAnswer) (d : Dif) (at from : ℕ) (m : Member) (d' : Dif) → slice_get d.settings.members at ≡ Some m → SaysBack (given_back a) d at from d' → Adds IsOther d.managements d'.managements
back_adds (answers.Yes cep scep) d at from m d' is s = subst (λ (z : Dif). Adds IsOther d.managements z.managements) (sym (s m is)) (told_adds d at (message_of from m.addr (words.Delete cep scep)) d.managements refl)
back_adds (answers.Denied rule) d at from m d' is s = same_added IsOther d.managements d'.managements (ap (λ (z : Dif). z.managements) s)
back_adds answers.NotHere d at from m d' is s = same_added IsOther d.managements d'.managements (ap (λ (z : Dif). z.managements) s)
back_adds (answers.NoIds used) d at from m d' is s = same_added IsOther d.managements d'.managements (ap (λ (z : Dif). z.managements) s)

pub answer_adds : (d : Dif) (lines : List Direction) (below : Seen) (at from invoke : ℕ) (answer : FlowAnswer) (m : Member) (d' : Dif) → slice_get d.settings.members at ≡ Some m → TakesAnswer d lines below at from invoke answer (Ok tt) d' → Adds IsOther d.managements d'.managements
answer_adds d lines below at from invoke answer m d' is (inl t) = taken_adds (why_of answer) d lines below at from (dcep_of answer) t.which t.first.is_ask.ask.place d' t.takes
answer_adds d lines below at from invoke answer m d' is (inr t) = back_adds answer d at from m d' is t.1.ok

pub delete_adds : (d : Dif) (lines : List Direction) (below : Seen) (at from dcep scep : ℕ) (m : Member) (d' : Dif) → slice_get d.settings.members at ≡ Some m → TakesDelete d lines below at from dcep scep (Ok tt) d' → Adds IsOther d.managements d'.managements
delete_adds d lines below at from dcep scep m d' is t = ⊎_elim (λ c. closes c) (λ same. same_added IsOther d.managements d'.managements (ap (λ (z : Dif). z.managements) same.1)) (t m is)
  where
    closes : ClosesUp d lines below m.addr from dcep scep (Ok tt) d' → Adds IsOther d.managements d'.managements
    closes c =
        let up = c.first.is_up in
        let s = c.manages in
        subst (Adds IsOther d.managements) (sym (s.2 up.conn up.is_at.conn_is)) (hides_flow s.0 up.conn.sending.form.peer.scep d.managements)

pub word_adds : (word : FlowWord) (d : Dif) (lines : List Direction) (below : Seen) → Holds d lines below → (at from : ℕ) (m : Member) (d' : Dif) → slice_get d.settings.members at ≡ Some m → HandlesWord d lines below at from word (Ok tt) d' → Adds (IsTold d') d.managements d'.managements
word_adds (words.Ask invoke ask) d lines below h at from m d' is w = ask_adds d lines below h at from invoke ask d' w
word_adds (words.Answer invoke answer) d lines below h at from m d' is w = wide d' d.managements d'.managements (answer_adds d lines below at from invoke answer m d' is w)
word_adds (words.Delete dcep scep) d lines below h at from m d' is w = wide d' d.managements d'.managements (delete_adds d lines below at from dcep scep m d' is w)

-- One message

pub flow_on : (d d' : Dif) (message : FlowMessage) → KeepAskers d d' → IsAskedFlow d message → IsAskedFlow d' message
flow_on d d' message keeps asked text spelled = text_on d d' text keeps (asked text spelled)

pub flow_askers : (d : Dif) (lines : List Direction) (below : Seen) (i : ℕ) (message : FlowMessage) (r : Result (Unit {0}) Memory) (d' : Dif) (lines' : List Direction) → HandlesFlow d lines below i message r d' lines' → KeepAskers d d'
flow_askers d lines below i message r d' lines' f = askers_keep d d' d.clock d'.clock (flow_silent (seen_of d) lines i (seen_of d') lines' f.flow).later.ends (flow_names (seen_of d) lines i (seen_of d') lines' f.flow)

abbrev IsNew : FlowMessage → Dif → ManagementMessage → Type 0
IsNew message d x = IsTold d x ⊎ (x ≡ ToMember message)

weaker : (message : FlowMessage) (d : Dif) (ms ms' : List Management) → Adds (IsTold d) ms ms' → Adds (IsNew message d) ms ms'
weaker message d ms ms' adds = widened (IsTold d) (IsNew message d) ms ms' (λ x told. inl told) adds

pub flow_adds : (d : Dif) (lines : List Direction) (below : Seen) → Holds d lines below → (i : ℕ) (message : FlowMessage) (d' : Dif) (lines' : List Direction) → i < length d.settings.members → HandlesFlow d lines below i message (Ok tt) d' lines' → Adds (IsNew message d') d.managements d'.managements
flow_adds d lines below h i message d' lines' lt f =
    let m = there d.settings.members i lt in
    ⊎_elim
    (λ own. weaker message d' d.managements d'.managements (word_adds message.word d lines below h i message.from m.0 d' m.1 (f.own m.0 m.1 own.1)))
    (λ other. subst (Adds (IsNew message d') d.managements) (sym (ap (λ (z : Dif). z.managements) (f.on m.0 m.1 other.1))) (posted_adds (IsNew message d') i (way d i message.to) message d.managements (inr refl)))
    (eqb_tells message.to m.0.addr)

new_asked : (d' : Dif) (message : FlowMessage) → IsAskedFlow d' message → (w : Waiting) (text : List ℕ) → HasWaiting d'.managements w → IsNew message d' w.message → IsSduOf w.message text → IsAskedText d' text
new_asked d' message asked w text has (inl (inl other)) sdu = other_asked d' w.message text other sdu
new_asked d' message asked w text has (inl (inr t)) sdu = t.asked text (subst (λ (x : ManagementMessage). IsSduOf x text) t.is sdu)
new_asked d' message asked w text has (inr same) sdu = asked text (subst (λ (x : ManagementMessage). IsSduOf x text) same sdu)

flow_asked : (d : Dif) (lines : List Direction) (below : Seen) → Holds d lines below → (i : ℕ) (message : FlowMessage) (d' : Dif) (lines' : List Direction) → i < length d.settings.members → IsAskedFlow d message → HandlesFlow d lines below i message (Ok tt) d' lines' → HaveEnds d → HaveEnds d'
flow_asked d lines below h i message d' lines' lt asked f =
    let keeps = flow_askers d lines below i message (Ok tt) d' lines' f in
    asked_by (IsNew message d') d d' keeps (flow_adds d lines below h i message d' lines' lt f) (new_asked d' message (flow_on d d' message keeps asked)) (λ text on. inr ((links_same d d' (ap (λ (z : Dif). z.connections) f.rest)).more text on))

-- Several

abbrev pub AllOf : (FlowMessage → Type 0) → List FlowMessage → Type 0
AllOf T [] = Unit {0}
AllOf T (m ∷ ms) = T m × AllOf T ms

pub all_so : (S T : FlowMessage → Type 0) → ((m : FlowMessage) → S m → T m) → (ms : List FlowMessage) → AllOf S ms → AllOf T ms
all_so S T so [] all = tt
all_so S T so (m ∷ ms) all = (so m all.0, all_so S T so ms all.1)

abbrev pub AllAsked : Dif → List FlowMessage → Type 0
AllAsked d ms = AllOf (IsAskedFlow d) ms

pub all_on : (d d' : Dif) (ms : List FlowMessage) → KeepAskers d d' → AllAsked d ms → AllAsked d' ms
all_on d d' ms keeps all = all_so (IsAskedFlow d) (IsAskedFlow d') (λ m asked. flow_on d d' m keeps asked) ms all

pub flows_asked : (d : Dif) (lines : List Direction) (below : Seen) → Holds d lines below → (i : ℕ) (ms : List FlowMessage) (d' : Dif) (lines' : List Direction) → i < length d.settings.members → AllAsked d ms → HandlesFlows d lines below i ms (Ok tt) d' lines' → HaveEnds d → HaveEnds d'
flows_asked d lines below holds i [] d' lines' lt all h asked = subst HaveEnds (sym h.1) asked
flows_asked d lines below holds i (m ∷ ms) d' lines' lt all (inl stops) asked = absurd (true≢false (sym stops.0))
flows_asked d lines below holds i (m ∷ ms) d' lines' lt all (inr h) asked =
    let mid = h.0 in
    let settings : length mid.settings.members ≡ length d.settings.members = ap (λ (z : Dif). length z.settings.members) h.2.rest in
    let within : i < length mid.settings.members = subst (λ (n : ℕ). i < n) (sym settings) lt in
    flows_asked mid h.1 below h.3 i ms d' lines' within (all_on d mid ms (flow_askers d lines below i m (Ok tt) mid h.1 h.2) all.1) h.4 (flow_asked d lines below holds i m mid h.1 lt all.0 h.2 asked)
