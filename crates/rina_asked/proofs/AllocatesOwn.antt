-- A flow is asked for: the request alone has its invoke id, and is for the flow whose end waits.
use Rattle.std.proofs.Common.{◌≡◌, ◌∙◌, inl, inr, ⊎_elim, ℕ, ◌+◌, true, List, [], ◌∷◌, ◌++◌, Contains, length, slice_get, Some, None, sym, ap, subst, arith}
use Rattle.std.proofs.lemmas.Bool.{cases_Bool}
use Rattle.std.proofs.lemmas.List.Elements.{Contains-push_cases}
use Rattle.std.proofs.lemmas.Option.{same_Some}
use Rattle.rina_agent.specs.declared.message.ManagementMessage.{ManagementMessage}
use Rattle.rina_agent.specs.declared.message.ManagementMessage.TheVariants.{ToMember}
use Rattle.rina_agent.specs.declared.message.Waiting.{Waiting}
use Rattle.rina_alloc.specs.declared.answer.FlowAnswer.TheVariants as answers
use Rattle.rina_alloc.specs.declared.message.FlowMessage.{FlowMessage}
use Rattle.rina_alloc.specs.declared.message.FlowWord.{FlowWord}
use Rattle.rina_alloc.specs.declared.message.FlowWord.TheVariants as words
use Rattle.rina_base.specs.declared.number.Port.{Port}
use Rattle.rina_conn.specs.declared.conn.Conn.{Conn}
use Rattle.rina_dif_law.specs.Ids.{Ids}
use Rattle.rina_iface.specs.declared.ask.Ask.{Ask}
use Rattle.rina_iface.specs.declared.ends.End.{End}
use Rattle.rina_iface.specs.Journal.{At}
use Rattle.rina_iface.specs.Seen.{Seen}
use Rattle.rina_law.specs.Direction.{Direction}
use Rattle.rina_member.specs.declared.management.Management.{Management}
use Rattle.rina_member.specs.Managements.{IsSduOf}
use Rattle.rina_route.proofs.Lists.{head, in_none}
use Rattle.rina_dif.specs.declared.dif.Dif.{Dif}
use Rattle.rina_dif.specs.declared.waiting_asks.WaitingAsk.{WaitingAsk}
use Rattle.rina_dif.specs.Allocating.{allocate_refusal}
use Rattle.rina_dif.specs.Facade.{GoesOn}
use Rattle.rina_dif.specs.Holding.{Holds}
use Rattle.rina_dif.specs.Requesting.{AsksAt, Requests, request_of}
use Rattle.rina_dif.specs.Whole.{IsDif}
use Rattle.rina_dif.proofs.Requested.{one_left}
use Rattle.rina_asked.specs.Alone.{one}
use Rattle.rina_asked.specs.Awaited.{AreAwaited, AreOwn, HasOwnCep, IsAskFrom, IsOfAsk, StandsWaiting}
use Rattle.rina_asked.specs.Calls.{AllocateKeeps}
use Rattle.rina_asked.specs.Messages.{IsMessage}
use Rattle.rina_asked.specs.Single.{AreSingle, AskId, IsAskId, belongs, drawn_by, has_drawn, text_belongs, word_belongs}
use Rattle.rina_asked.proofs.Allocates.{IsNew, adds, addr_fits, allocate_keeps, cep_is, conn, end, end_there, ends_keep, is_proper, is_request, name_is}
use Rattle.rina_asked.proofs.AllocatesOnce.{drew_now, its_addr, single_for}
use Rattle.rina_asked.proofs.Awaits.{awaited_lasts}
use Rattle.rina_asked.proofs.Belonging.{is_its_id, text_weighs}
use Rattle.rina_asked.proofs.Counting.{sum_each}
use Rattle.rina_asked.proofs.Found.{way_counts}
use Rattle.rina_asked.proofs.Links.{links_same}
use Rattle.rina_asked.proofs.Once.{drawn_true, members_apart}
use Rattle.rina_asked.proofs.Own.{SaysOwn, other_own, own_by, waiting_at, was_from}
use Rattle.rina_asked.proofs.Waiting.{HasWaiting}

module _ (d d' : Dif) (ask : Ask) (port : Port) (is : IsDif d) (lines : List Direction) (below : Seen) (h : Holds d lines below) (a : AsksAt d lines below ask port d') (r : Requests d ask port d') (free : allocate_refusal d ask ≡ None) (goes : GoesOn d d') (same_links : d'.connections ≡ d.connections) where
  abbrev at : ℕ
  at = r.flow.near.place

  abbrev addr : ℕ
  addr = r.flow.near.addr

  abbrev last : ℕ
  last = r.wanted.management.agent.last_invoke

  abbrev k : AskId
  k = record { addr = addr; invoke = last + 1 }

  abbrev message : FlowMessage
  message = request_of r.flow ask (last + 1)

  abbrev Begins : ManagementMessage → Type 0
  Begins x = IsNew d d' ask port is lines below h a r free x

  small : IsAskId k
  small = record { addr = addr_fits d d' ask port is lines below h a r free; invoke = one_left last r.wanted.left }

  -- the member of its address is the one that asks
  its_member : (i : ℕ) (m : Management) → slice_get d.managements i ≡ Some m → m.agent.address ≡ addr → m.agent.last_invoke ≡ last
  its_member i m there address =
      let place : i ≡ at = members_apart d lines below h i at m r.wanted.management there r.wanted.is_management (address ∙ sym (its_addr d d' ask port is lines below h a r free)) in
      ap (λ (z : Management). z.agent.last_invoke) (same_Some m r.wanted.management (sym there ∙ ap (slice_get d.managements) place ∙ r.wanted.is_management))

  -- no member drew its invoke id before
  none_drew : drawn_by k d.managements ≡ 0
  none_drew = sum_each (λ (m : Management). one (has_drawn k m)) d.managements (λ i m there. ⊎_elim
      (λ drew. absurd (let was = drawn_true k m drew in let le = was.1 in let same = its_member i m there was.0 in omega (arith, le, same)))
      (λ none. ap one none) (cases_Bool (has_drawn k m)))

  -- so no message had it
  never : AreSingle d → (m : FlowMessage) → IsMessage d m → belongs k (ToMember m) ≡ true → ⊥
  never single m among its =
      let way = way_counts (λ x. one (belongs k x)) (λ t. one (text_belongs k t)) (text_weighs k) d among.text among.on_way in
      let counts = way.1 in
      let weighs : one (text_belongs k among.text) ≡ 1 = text_weighs k (ToMember m) among.text among.is.spelled ∙ ap one its in
      let before = single k way.0 small in
      let none = none_drew in
      omega (arith, counts, weighs, before, none)

  -- Asks that waited

  -- none of them has it
  no_old : (w : WaitingAsk) → StandsWaiting d w → IsAskFrom d' w addr (last + 1) → ⊥
  no_old w s f =
      let was = was_from d d' (ends_keep d d' ask port is lines below h a r free goes) (adds d d' ask port is lines below h a r free).ids w s addr (last + 1) f in
      let same : was.management ≡ s.management = same_Some was.management s.management (sym was.is_management ∙ s.is_management) in
      let address : s.management.agent.address ≡ addr = ap (λ (z : Management). z.agent.address) (sym same) ∙ was.address in
      let drawn = s.drawn in
      let its = its_member w.member s.management s.is_management address in
      let invoke = was.invoke_is in
      omega (arith, drawn, its, invoke)

  -- what a message says that begins to wait: the request is of an ask, if it is of this one
  says_for : (asks : List WaitingAsk) → ((w : WaitingAsk) → Contains asks w → IsOfAsk d' w message.to message.from message.word) → (x : Waiting) → HasWaiting d'.managements x → Begins x.message → SaysOwn asks d' x.message
  says_for asks of x has (inl other) = other_own asks d' x.message other
  says_for asks of x has (inr same) = λ text sdu m is_text w among.
      (let request = is_request d d' ask port is lines below h a r free m text is_text (subst (λ (z : ManagementMessage). IsSduOf z text) same sdu) (is_proper d d' ask port is lines below h a r free x has same) in
      subst (λ (z : FlowMessage). IsOfAsk d' w z.to z.from z.word) request (of w among))

  old_own : AreOwn d.asks.items d → AreOwn d.asks.items d'
  old_own own = own_by d.asks.items (λ x. Begins x) d d' (ends_keep d d' ask port is lines below h a r free goes) (adds d d' ask port is lines below h a r free)
      (says_for d.asks.items (λ w has f. absurd (no_old w (own.stand w has) f)))
      (λ text on. inr ((links_same d d' same_links).more text on)) own

  -- The ask that begins to wait

  abbrev fresh : WaitingAsk
  fresh = record { member = at; invoke = last + 1; place = length d.flows.journal.ends }

  fresh_stands : StandsWaiting d' fresh
  fresh_stands =
      let now = drew_now d d' ask port is lines below h a r free in
      let its = conn d d' ask port is lines below h a r free in
      let drawn = now.last_is in
      record {
        end = end d d' ask port is lines below h a r free;
        conn = its.0;
        is_at = record { end_is = end_there d d' ask port is lines below h a r free; conn_is = its.1 };
        management = now.management;
        is_management = now.is_management;
        fits = one_left last r.wanted.left;
        drawn = omega (arith, drawn);
      }

  -- a message with its invoke id is one of this ask
  its_from : (to invoke : ℕ) → IsAskFrom d' fresh to invoke → (to ≡ addr) × (invoke ≡ last + 1)
  its_from to invoke f =
      let now = drew_now d d' ask port is lines below h a r free in
      let same : f.management ≡ now.management = same_Some f.management now.management (sym f.is_management ∙ now.is_management) in
      (sym f.address ∙ ap (λ (z : Management). z.agent.address) same ∙ now.address, sym f.invoke_is)

  not_its : (to from : ℕ) (word : FlowWord) → (word_belongs k to from word ≡ true → ⊥) → IsOfAsk d' fresh to from word
  not_its to from (words.Ask invoke its) none = λ f. absurd (let e = its_from from invoke f in none (is_its_id k invoke from e.0 e.1))
  not_its to from (words.Answer invoke (answers.Yes cep scep)) none = λ f. absurd (let e = its_from to invoke f in none (is_its_id k invoke to e.0 e.1))
  not_its to from (words.Answer invoke (answers.Denied rule)) none = tt
  not_its to from (words.Answer invoke answers.NotHere) none = tt
  not_its to from (words.Answer invoke (answers.NoIds used)) none = tt
  not_its to from (words.Delete dcep scep) none = tt

  its_flow : (e : End) → At d'.flows.journal.ends fresh.place e → e.flow ≡ r.flow.flow
  its_flow e there = ap (λ (z : End). z.flow) (same_Some e (end d d' ask port is lines below h a r free) (sym there ∙ end_there d d' ask port is lines below h a r free)) ∙ name_is d d' ask port is lines below h a r free

  its_cep : HasOwnCep d' fresh.place r.flow.near.cep
  its_cep c there =
      let its = conn d d' ask port is lines below h a r free in
      ap (λ (z : Conn). z.sending.form.peer.scep) (same_Some c its.0 (sym there ∙ its.1)) ∙ ap (λ (z : Ids). z.scep) its.2 ∙ cep_is d d' ask port is lines below h a r free

  just_one : (w : WaitingAsk) → Contains (fresh ∷ []) w → fresh ≡ w
  just_one w has = ⊎_elim (λ none. absurd (in_none w none)) (λ same. same) (Contains-push_cases [] fresh w has)

  fresh_own : AreSingle d → (m : FlowMessage) → IsMessage d' m → IsOfAsk d' fresh m.to m.from m.word
  fresh_own single m among =
      let was : IsMessage d m → IsOfAsk d' fresh m.to m.from m.word = λ before. not_its m.to m.from m.word (never single m before) in
      elim (among.on_way) [
        | inl x ↦ ⊎_elim
            (λ old. was (record { text = among.text; on_way = inl (record { place = old.place; management = old.management; is_management = old.is_management; waiting = x.waiting; waits = old.waits; written = x.written }); is = among.is }))
            (λ begins. says_for (fresh ∷ []) (λ w has. subst (λ (z : WaitingAsk). IsOfAsk d' z message.to message.from message.word) (just_one w has) (λ f. (its_flow, its_cep)))
            x.waiting (waiting_at d' among.text x) begins among.text x.written m among.is fresh (head fresh []))
            ((adds d d' ask port is lines below h a r free).more x.waiting (waiting_at d' among.text x))
        | inr l ↦ was (record { text = among.text; on_way = inr ((links_same d d' same_links).more among.text l); is = among.is })
      ]

  pub awaited_for : AreAwaited d → AreAwaited d'
  awaited_for kept =
      let single = kept.0 in
      let old = old_own kept.1 in
      let all : AreOwn (d.asks.items ++ fresh ∷ []) d' = record {
        stand = λ w has. ⊎_elim (λ was. old.stand w was) (λ same. subst (StandsWaiting d') same fresh_stands) (Contains-push_cases d.asks.items fresh w has);
        own = λ w has m among. ⊎_elim (λ was. old.own w was m among) (λ same. subst (λ (z : WaitingAsk). IsOfAsk d' z m.to m.from m.word) same (fresh_own single m among)) (Contains-push_cases d.asks.items fresh w has);
      } in
      (single_for d d' ask port is lines below h a r free goes same_links single, subst (λ (asks : List WaitingAsk). AreOwn asks d') (sym r.waits) all)

pub allocate_keeps_awaited : AllocateKeeps AreAwaited
allocate_keeps_awaited = allocate_keeps AreAwaited awaited_lasts awaited_for
