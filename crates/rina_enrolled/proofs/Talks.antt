-- An end that called and has no answer yet: its session, and what a message makes of it.
use Rattle.std.proofs.Common.{◌≡◌, ℕ, ◌≤◌, Bool, true, false, ◌==◌, cond, List, [], ◌∷◌, slice_set, slice_get, Option, Some, None, Result, Ok, Err, refl, sym, ◌∙◌, ap, subst, inl, inr, arith}
use Rattle.std.specs.Prelude.{find, option_map, option_and_then}
use Rattle.std.specs.Result.{result_ok}
use Rattle.std.proofs.lemmas.Bool.{cases_Bool, both_ways, eq-eqb, eqb-true}
use Rattle.std.proofs.lemmas.Option.{none-some, same_Some}
use Rattle.rina_cdap.specs.declared.message.Message.{Message}
use Rattle.rina_session.specs.declared.session.State.{State}
use Rattle.rina_session.specs.declared.session.State.TheVariants.{Idle, Calling, Called, Connected}
use Rattle.rina_session.specs.Sessions.{Talk, is_idle, is_calling, is_called, is_connected, may_send, may_get, answered, state_after, is_unknown, sent, got}
use Rattle.rina_enrol.specs.declared.event.EnrolEvent.{EnrolEvent}
use Rattle.rina_enrol.specs.declared.message.LinkMessage.{LinkMessage}
use Rattle.rina_enrol.specs.Messages.{message_of, operation_of}
use Rattle.rina_agent.specs.declared.enrolment.Enrolment.{Enrolment}
use Rattle.rina_agent.specs.declared.link.Link.{Link}
use Rattle.rina_agent.specs.Enrolments.{all_spoken, exchanged, heard, heard_as, heard_by, heard_on, heard_at, hears, is_numbered, place_of, spoken}
use Rattle.rina_flood.proofs.Heard.{is_heard, placed, found_number, set_link, set_other, set_same}

abbrev pub calls_by : State → ℕ
calls_by Calling = 1
calls_by other = 0

abbrev pub calls_in : Option Enrolment → ℕ
calls_in None = 0
calls_in (Some e) = calls_by e.session.state

-- how many calls without an answer there are on a link: one or none
abbrev pub calls_of : Option Link → ℕ
calls_of None = 0
calls_of (Some l) = calls_in l.enrolment

one_by : (s : State) → calls_by s ≤ 1
one_by Idle = omega arith
one_by Calling = omega arith
one_by Called = omega arith
one_by Connected = omega arith

one_in : (e : Option Enrolment) → calls_in e ≤ 1
one_in None = omega arith
one_in (Some e) = one_by e.session.state

pub one_call : (o : Option Link) → calls_of o ≤ 1
one_call None = omega arith
one_call (Some l) = one_in l.enrolment

-- Sessions

ok_is : {A E : Type 0} (r : Result A E) (u : A) → result_ok r ≡ Some u → r ≡ Ok u
ok_is (Ok v) u e = ap Ok (same_Some v u e)
ok_is (Err r) u e = absurd (none-some u e)

let_through : {A E : Type 0} (b : Bool) (x t : A) (e : E) → ◌≡◌ {A = Result A E} (cond b (Ok x) (Err e)) (Ok t) → (b ≡ true) × (x ≡ t)
let_through true x t e h = (refl, cc)
let_through false x t e h = cc

let_through_known : {A E : Type 0} (b k : Bool) (x t : A) (d e : E) → ◌≡◌ {A = Result A E} (cond b (cond k (Err d) (Ok x)) (Err e)) (Ok t) → (b ≡ true) × (x ≡ t)
let_through_known true false x t d e h = (refl, cc)
let_through_known true true x t d e h = cc
let_through_known false k x t d e h = cc

answered_quiet : (o : Option ℕ) → calls_by (answered o) ≡ 0
answered_quiet None = refl
answered_quiet (Some n) = elim (cases_Bool (n == 0)) [ inl e ↦ rw e refl | inr e ↦ rw e refl ]

connected_quiet : (s : State) → is_connected s ≡ true → calls_by s ≡ 0
connected_quiet Idle e = refl
connected_quiet Calling e = absurd (cc)
connected_quiet Called e = refl
connected_quiet Connected e = refl

-- no message that is got leaves a call
after_got : (zero one two : Bool) (s : State) (o : Option ℕ) → cond zero (is_idle s) (cond one (is_calling s) (is_connected s)) ≡ true → calls_by (cond zero Called (cond one (answered o) (cond two Idle s))) ≡ 0
after_got true one two s o may = refl
after_got false true two s o may = answered_quiet o
after_got false false true s o may = refl
after_got false false false s o may = connected_quiet s may

got_quiet : (t u : Talk) (m : Message) → got t m ≡ Ok u → calls_by u.state ≡ 0
unfolding got may_get state_after
got_quiet t u m e =
    let r = let_through_known _ (is_unknown t.waiting m.operation m.invoke) _ u _ _ e in
    ap (λ (v : Talk). calls_by v.state) (sym r.1) ∙ after_got (m.operation == 0) (m.operation == 1) (m.operation == 2) t.state m.result r.0

-- nor does one that is sent make one, but CONNECT
after_sent : (one two : Bool) (s : State) (o : Option ℕ) → cond one (is_called s) (is_connected s) ≡ true → calls_by (cond one (answered o) (cond two Idle s)) ≡ 0
after_sent true two s o may = answered_quiet o
after_sent false true s o may = refl
after_sent false false s o may = connected_quiet s may

sent_quiet : (t u : Talk) (m : Message) → (m.operation == 0) ≡ false → sent t m ≡ Ok u → calls_by u.state ≡ 0
unfolding sent may_send state_after
sent_quiet t u m zero e =
    let r = let_through _ _ u _ e in
    ap (λ (v : Talk). calls_by v.state) (sym r.1) ∙ rw zero (after_sent (m.operation == 1) (m.operation == 2) t.state m.result (rw zero at r.0))

-- the answer to CONNECT is got only by an end that called
answer_called : (t u : Talk) (m : Message) → m.operation ≡ 1 → got t m ≡ Ok u → is_calling t.state ≡ true
unfolding got may_get
answer_called t u m one e =
    let r = let_through_known _ (is_unknown t.waiting m.operation m.invoke) _ u _ _ e in
    let P : ℕ → Type 0 = λ op. cond (op == 0) (is_idle t.state) (cond (op == 1) (is_calling t.state) (is_connected t.state)) ≡ true in
    subst P one r.0

called_calls : (s : State) → is_calling s ≡ true → calls_by s ≡ 1
called_calls Idle e = absurd (cc)
called_calls Calling e = refl
called_calls Called e = absurd (cc)
called_calls Connected e = absurd (cc)

-- Messages of an enrolment

operation_is : (m : LinkMessage) → (let w = message_of m in w.operation) ≡ operation_of m
unfolding message_of
operation_is m = refl

-- none of the replies is CONNECT
abbrev pub NoneCalls : List LinkMessage → Type 0
NoneCalls [] = Unit {0}
NoneCalls (m ∷ ms) = ((operation_of m == 0) ≡ false) × NoneCalls ms

spoken_quiet : (m : LinkMessage) (ms : List LinkMessage) (t u : Talk) (o : Option Talk) → (operation_of m == 0) ≡ false → spoken t m ≡ o → option_and_then (λ (v : Talk). all_spoken v ms) o ≡ Some u → ((v : Talk) → calls_by v.state ≡ 0 → all_spoken v ms ≡ Some u → calls_by u.state ≡ 0) → calls_by u.state ≡ 0
spoken_quiet m ms t u None none is e rest = absurd (none-some u e)
spoken_quiet m ms t u (Some v) none is e rest =
    let zero : ((message_of m).operation == 0) ≡ false = ap (λ (op : ℕ). op == 0) (operation_is m) ∙ none in
    rest v (sent_quiet t v (message_of m) zero (ok_is (sent t (message_of m)) v is)) e

all_quiet : (ms : List LinkMessage) (t u : Talk) → NoneCalls ms → calls_by t.state ≡ 0 → all_spoken t ms ≡ Some u → calls_by u.state ≡ 0
all_quiet [] t u none quiet e = ap (λ (v : Talk). calls_by v.state) (sym (same_Some t u e)) ∙ quiet
all_quiet (m ∷ ms) t u none quiet e = spoken_quiet m ms t u (spoken t m) none.0 refl e (λ v still rest. all_quiet ms v u none.1 still rest)

exchange_quiet : (t u : Talk) (m : LinkMessage) (replies : List LinkMessage) (o : Option Talk) → NoneCalls replies → heard t m ≡ o → option_and_then (λ (v : Talk). all_spoken v replies) o ≡ Some u → calls_by u.state ≡ 0
exchange_quiet t u m replies None none is e = absurd (none-some u e)
exchange_quiet t u m replies (Some v) none is e = all_quiet replies v u none (got_quiet t v (message_of m) (ok_is (got t (message_of m)) v is)) e

exchange_called : (t u : Talk) (m : LinkMessage) (replies : List LinkMessage) (o : Option Talk) → operation_of m ≡ 1 → heard t m ≡ o → option_and_then (λ (v : Talk). all_spoken v replies) o ≡ Some u → calls_by t.state ≡ 1
exchange_called t u m replies None one is e = absurd (none-some u e)
exchange_called t u m replies (Some v) one is e = called_calls t.state (answer_called t v (message_of m) (operation_is m ∙ one) (ok_is (got t (message_of m)) v is))

-- The link that heard a message

pub record HasTalked (links : List Link) (m : LinkMessage) (place : Option ℕ) (becomes : Link) : Type 0 where
  pub at : ℕ
  pub here : place ≡ Some at
  pub link : Link
  pub there : slice_get links at ≡ Some link
  pub quiet : calls_in becomes.enrolment ≡ 0
  pub called : operation_of m ≡ 1 → calls_in link.enrolment ≡ 1

module _ (links : List Link) (m : LinkMessage) (replies : List LinkMessage) (event : EnrolEvent) (none : NoneCalls replies) where
  talk_talked : (at : ℕ) (l : Link) (e : Enrolment) (o : Option Talk) (h : _) → l.enrolment ≡ Some e → slice_get links at ≡ Some l → exchanged e.session m replies ≡ o → option_map (heard_as at l e event) o ≡ Some h → HasTalked links m (Some at) h.link
  talk_talked at l e None h has there is same = absurd (none-some h same)
  talk_talked at l e (Some t) h has there is same =
      let becomes : heard_as at l e event t ≡ h = same_Some (heard_as at l e event t) h same in
      record {
        at = at;
        here = refl;
        link = l;
        there = there;
        quiet = ap (λ g. calls_in g.link.enrolment) (sym becomes) ∙ exchange_quiet e.session t m replies (heard e.session m) none refl is;
        called = λ one. ap calls_in has ∙ exchange_called e.session t m replies (heard e.session m) one refl is;
      }

  link_talked : (at : ℕ) (l : Link) (o : Option Enrolment) (h : _) → l.enrolment ≡ o → slice_get links at ≡ Some l → heard_by at l m replies event o ≡ Some h → HasTalked links m (Some at) h.link
  link_talked at l None h has there is = absurd (none-some h is)
  link_talked at l (Some e) h has there is = talk_talked at l e (exchanged e.session m replies) h has there refl is

  slot_talked : (at : ℕ) (o : Option Link) (h : _) → slice_get links at ≡ o → option_and_then (heard_on at m replies event) o ≡ Some h → HasTalked links m (Some at) h.link
  slot_talked at None h there is = absurd (none-some h is)
  slot_talked at (Some l) h there is = link_talked at l l.enrolment h refl there is

  place_talked : (place : Option ℕ) (h : _) → heard_at links m replies event place ≡ Some h → HasTalked links m place h.link
  place_talked None h is = absurd (none-some h is)
  place_talked (Some at) h is = slot_talked at (slice_get links at) h refl is

-- What is set at its place

-- calls on the link of another number stay, and there is none on that of this number
abbrev pub others_call : ℕ → ℕ → List Link → ℕ
others_call k j links = cond (j == k) 0 (calls_of (find (is_numbered j) links))

pub record IsSet (links : List Link) (k : ℕ) (m : LinkMessage) (at : ℕ) (becomes : Link) : Type 0 where
  pub number : becomes.number ≡ k
  pub calls : (with : Link) → with.number ≡ becomes.number → with.enrolment ≡ becomes.enrolment → (j : ℕ) → calls_of (find (is_numbered j) (slice_set links at with)) ≡ others_call k j links
  pub called : operation_of m ≡ 1 → calls_of (find (is_numbered k) links) ≡ 1

set_calls : (k j : ℕ) (links : List Link) (with l : Link) → with.number ≡ k → find (is_numbered k) links ≡ Some l → calls_in with.enrolment ≡ 0 → calls_of (find (is_numbered j) (set_link k with links)) ≡ others_call k j links
set_calls k j links with l number there quiet = elim (cases_Bool (j == k)) [
  | inl is ↦
      (let same = eqb-true j k is in
      let now : calls_of (find (is_numbered j) (set_link k with links)) ≡ 0 = ap (λ (i : ℕ). calls_of (find (is_numbered i) (set_link k with links))) same ∙ ap calls_of (set_same k with l links number there) ∙ quiet in
      now ∙ sym (rw is refl))
  | inr isnt ↦ ap calls_of (set_other j k with links number (λ is. both_ways (j == k) isnt (eq-eqb j k is))) ∙ sym (rw isnt refl)
]

pub is_set : (links : List Link) (k : ℕ) (m : LinkMessage) (replies : List LinkMessage) (event : EnrolEvent) (h : _) → NoneCalls replies → hears links k m replies event ≡ Some h → IsSet links k m h.at h.link
is_set links k m replies event h none is =
    let q = is_heard links k m replies event h is in
    let t = place_talked links m replies event none (place_of k links) h is in
    let p = placed k links h.at q.link q.here q.there in
    let o = placed k links t.at t.link t.here t.there in
    let number : h.link.number ≡ k = q.number ∙ found_number k links q.link p.found in
    record {
      number = number;
      calls = λ with named enrols j. ap (λ (ls : List Link). calls_of (find (is_numbered j) ls)) (p.set with) ∙ set_calls k j links with q.link (named ∙ number) p.found (ap calls_in enrols ∙ t.quiet);
      called = λ one. ap calls_of o.found ∙ t.called one;
    }
