-- The messages of a session tell its state, and the ids that wait.
use Rattle.std.proofs.Common.{◌≡◌, ◌==◌, ◌||◌, ◌&&◌, ◌⊎◌, inl, inr, ◌++◌, ℕ, Bool, true, false, not, cond, List, [], ◌∷◌, Option, Some, None, Result, Ok, Err, refl, sym, ap, ◌∙◌, subst, arith}
use Rattle.std.specs.Prelude.{nat_eq, ◌↔◌}
use Rattle.std.specs.List.{list_any}
use Rattle.std.proofs.lemmas.Bool.{or_parts, and_parts}
use Rattle.std.proofs.lemmas.Bool.Decides.{nat_tests}
use Rattle.indexmap.specs.IndexSet.{insert_key, remove_key}
use Rattle.rina_cdap.specs.declared.message.Message.{Message}
use Rattle.rina_cdap.specs.Messages.{is_response}
use Rattle.rina_session.specs.declared.session.State.{State}
use Rattle.rina_session.specs.declared.session.State.TheVariants.{Idle, Calling, Called, Connected}
use Rattle.rina_session.specs.declared.session.SessionError.TheVariants.{WrongState, UnknownInvoke}
use Rattle.rina_session.specs.Sessions.{Talk, is_idle, is_calling, is_called, is_connected, may_send, may_get, answered, state_after, sent_waiting, got_waiting, is_unknown, sent, got}
use Rattle.rina_session.specs.Histories.{Step, stepped, IsAfter, Since, IsNewest, is_zero, calls, is_call, opens, closes, asks, answers}
use Rattle.rina_session.proofs.Waiting.{AreOnce, any_inserted, once_inserted, any_removed, once_removed}

-- ---- one message since another

head : (p q : Step → Bool) (s : Step) (h : List Step) → p s ≡ true → Since p q (s ∷ h)
head p q s h e = record { newer = []; one = s; older = h; parts = refl; passes = e; none = refl }

tail : (p q : Step → Bool) (s : Step) (h : List Step) → q s ≡ false → Since p q h → Since p q (s ∷ h)
tail p q s h e x = record {
  newer = s ∷ x.newer;
  one = x.one;
  older = x.older;
  parts = ap (λ (l : List Step). s ∷ l) x.parts;
  passes = x.passes;
  none = ap (λ (b : Bool). b || list_any q x.newer) e ∙ x.none;
}

split_by : (p q : Step → Bool) (s : Step) (h newer : List Step) (one : Step) (older : List Step) → s ∷ h ≡ newer ++ one ∷ older → p one ≡ true → list_any q newer ≡ false → (p s ≡ true) ⊎ ((q s ≡ false) × Since p q h)
split_by p q s h [] one older parts passes none =
    let same : one ≡ s = cc in
    inl (subst (λ (z : Step). p z ≡ true) same passes)
split_by p q s h (y ∷ ys) one older parts passes none =
    let same : y ≡ s = cc in
    let rest : h ≡ ys ++ one ∷ older = cc in
    let (here, later) = or_parts (q y) (list_any q ys) none in
    inr (subst (λ (z : Step). q z ≡ false) same here, record { newer = ys; one = one; older = older; parts = rest; passes = passes; none = later })

split : (p q : Step → Bool) (s : Step) (h : List Step) → Since p q (s ∷ h) → (p s ≡ true) ⊎ ((q s ≡ false) × Since p q h)
split p q s h x = split_by p q s h x.newer x.one x.older x.parts x.passes x.none

never_by : (newer : List Step) (one : Step) (older : List Step) → [] ≡ newer ++ one ∷ older → ⊥
never_by [] one older parts = cc
never_by (y ∷ ys) one older parts = cc

never : (p q : Step → Bool) → Since p q [] → ⊥
never p q x = never_by x.newer x.one x.older x.parts

-- where a fact holds after a message exactly where the message passes, or it held before and the message does not pass the second test
since_next : (p q : Step → Bool) (s : Step) (h : List Step) (before after : Type 0) → before ↔ Since p q h → (after → (p s ≡ true) ⊎ ((q s ≡ false) × before)) → ((p s ≡ true) ⊎ ((q s ≡ false) × before) → after) → after ↔ Since p q (s ∷ h)
since_next p q s h before after so forth back = (
  λ a. elim (forth a) as (λ _. Since p q (s ∷ h)) [ inl e ↦ head p q s h e | inr e ↦ tail p q s h e.0 (so.0 e.1) ],
  λ x. back (elim (split p q s h x) as (λ _. (p s ≡ true) ⊎ ((q s ≡ false) × before)) [ inl e ↦ inl e | inr e ↦ inr (e.0, so.1 e.1) ]),
)

-- ---- one message

-- what one message did
record Moved (is_sent : Bool) (m : Message) (u t : Talk) : Type 0 where
  there : State
  sent_there : is_sent ≡ true → there ≡ Calling
  got_there : is_sent ≡ false → there ≡ Called
  state : state_after there u.state m.operation m.result ≡ t.state
  inside : u.state ≡ Connected → ((m.operation == 0) ≡ false) × ((m.operation == 1) ≡ false)
  others : (m.operation == 0) ≡ false → (m.operation == 1) ≡ false → is_connected u.state ≡ true
  waiting : cond is_sent (sent_waiting u.waiting m.operation m.invoke) (got_waiting u.waiting m.operation m.invoke) ≡ t.waiting

let_through : {A E : Type 0} (b : Bool) (x t : A) (e : E) → ◌≡◌ {A = Result A E} (cond b (Ok x) (Err e)) (Ok t) → (b ≡ true) × (x ≡ t)
let_through true x t e h = (refl, cc)
let_through false x t e h = cc

let_through_known : {A E : Type 0} (b k : Bool) (x t : A) (d e : E) → ◌≡◌ {A = Result A E} (cond b (cond k (Err d) (Ok x)) (Err e)) (Ok t) → (b ≡ true) × (x ≡ t)
let_through_known true false x t d e h = (refl, cc)
let_through_known true true x t d e h = cc
let_through_known false k x t d e h = cc

not_inside : (z o i c : Bool) → cond z false (cond o false i) ≡ c → c ≡ true → (z ≡ false) × (o ≡ false)
not_inside true o i c h is = cc
not_inside false true i c h is = cc
not_inside false false i c h is = (refl, refl)

is_inside : (z o i j k : Bool) → cond z j (cond o k i) ≡ true → z ≡ false → o ≡ false → i ≡ true
is_inside true o i j k h zero one = cc
is_inside false true i j k h zero one = cc
is_inside false false i j k h zero one = h

sendable : (state : State) (op : ℕ) → may_send state op ≡ true → state ≡ Connected → ((op == 0) ≡ false) × ((op == 1) ≡ false)
unfolding may_send
sendable state op h is = not_inside (op == 0) (op == 1) true (may_send Connected op) refl (subst (λ (s : State). may_send s op ≡ true) is h)

sent_inside : (state : State) (op : ℕ) → may_send state op ≡ true → (op == 0) ≡ false → (op == 1) ≡ false → is_connected state ≡ true
unfolding may_send
sent_inside state op h zero one = is_inside (op == 0) (op == 1) (is_connected state) (is_idle state) (is_called state) h zero one

gettable : (state : State) (op : ℕ) → may_get state op ≡ true → state ≡ Connected → ((op == 0) ≡ false) × ((op == 1) ≡ false)
unfolding may_get
gettable state op h is = not_inside (op == 0) (op == 1) true (may_get Connected op) refl (subst (λ (s : State). may_get s op ≡ true) is h)

got_inside : (state : State) (op : ℕ) → may_get state op ≡ true → (op == 0) ≡ false → (op == 1) ≡ false → is_connected state ≡ true
unfolding may_get
got_inside state op h zero one = is_inside (op == 0) (op == 1) (is_connected state) (is_idle state) (is_calling state) h zero one

sent_moved : (m : Message) (u t : Talk) → sent u m ≡ Ok t → Moved true m u t
unfolding sent
sent_moved m u t h =
    let next : Talk = record { state = state_after Calling u.state m.operation m.result; waiting = sent_waiting u.waiting m.operation m.invoke } in
    let (may, same) = let_through (may_send u.state m.operation) next t (WrongState u.state) h in
    record {
      there = Calling;
      sent_there = λ _. refl;
      got_there = λ e. cc;
      state = ap (λ (x : Talk). x.state) same;
      inside = sendable u.state m.operation may;
      others = sent_inside u.state m.operation may;
      waiting = ap (λ (x : Talk). x.waiting) same;
    }

got_moved : (m : Message) (u t : Talk) → got u m ≡ Ok t → Moved false m u t
unfolding got
got_moved m u t h =
    let next : Talk = record { state = state_after Called u.state m.operation m.result; waiting = got_waiting u.waiting m.operation m.invoke } in
    let (may, same) = let_through_known (may_get u.state m.operation) (is_unknown u.waiting m.operation m.invoke) next t (UnknownInvoke m.invoke) (WrongState u.state) h in
    record {
      there = Called;
      sent_there = λ e. cc;
      got_there = λ _. refl;
      state = ap (λ (x : Talk). x.state) same;
      inside = gettable u.state m.operation may;
      others = got_inside u.state m.operation may;
      waiting = ap (λ (x : Talk). x.waiting) same;
    }

moved : (is_sent : Bool) (m : Message) (u t : Talk) → stepped u is_sent m ≡ Ok t → Moved is_sent m u t
moved true m u t h = sent_moved m u t h
moved false m u t h = got_moved m u t h

-- ---- connected

idle_not : Idle ≡ Connected → ⊥
idle_not h = cc

zero_answer : (b : Bool) → cond b Connected Idle ≡ Connected → b ≡ true
zero_answer true h = refl
zero_answer false h = cc

answer_opens : (r : Option ℕ) → answered r ≡ Connected → is_zero r ≡ true
answer_opens None h = cc
answer_opens (Some n) h = zero_answer (n == 0) h

opens_answer : (r : Option ℕ) → is_zero r ≡ true → answered r ≡ Connected
opens_answer None h = cc
opens_answer (Some n) h = ap (λ (b : Bool). cond b Connected Idle) h

forth_by : (z o c : Bool) (there u : State) (r : Option ℕ) → (there ≡ Connected → ⊥) → cond z there (cond o (answered r) (cond c Idle u)) ≡ Connected → ((o && is_zero r) ≡ true) ⊎ ((c ≡ false) × (u ≡ Connected))
forth_by true o c there u r unlike h = absurd (unlike h)
forth_by false true c there u r unlike h = inl (answer_opens r h)
forth_by false false true there u r unlike h = absurd (idle_not h)
forth_by false false false there u r unlike h = inr (refl, h)

back_by : (z o c : Bool) (there u : State) (r : Option ℕ) → (u ≡ Connected → (z ≡ false) × (o ≡ false)) → (o ≡ true → z ≡ false) → ((o && is_zero r) ≡ true) ⊎ ((c ≡ false) × (u ≡ Connected)) → cond z there (cond o (answered r) (cond c Idle u)) ≡ Connected
back_by true true c there u r inside apart h = (let wrong : true ≡ false = apart refl in cc)
back_by true false c there u r inside apart (inl h) = cc
back_by true false c there u r inside apart (inr h) = (let wrong : true ≡ false = (inside h.1).0 in cc)
back_by false true c there u r inside apart (inl h) = opens_answer r h
back_by false true c there u r inside apart (inr h) = (let wrong : true ≡ false = (inside h.1).1 in cc)
back_by false false c there u r inside apart (inl h) = cc
back_by false false true there u r inside apart (inr h) = (let wrong : true ≡ false = h.0 in cc)
back_by false false false there u r inside apart (inr h) = h.1

apart_ops : (op : ℕ) → (op == 1) ≡ true → (op == 0) ≡ false
apart_ops op h = grind (arith, nat_tests)

no_call : (is_sent : Bool) (there : State) → (is_sent ≡ true → there ≡ Calling) → (is_sent ≡ false → there ≡ Called) → there ≡ Connected → ⊥
no_call true there a b h = (let same : there ≡ Calling = a refl in cc)
no_call false there a b h = (let same : there ≡ Called = b refl in cc)

after_unfolds : (there u : State) (op : ℕ) (r : Option ℕ) → state_after there u op r ≡ cond (op == 0) there (cond (op == 1) (answered r) (cond (op == 2) Idle u))
unfolding state_after
after_unfolds there u op r = refl

pub connected : (steps : List Step) (t : Talk) → IsAfter steps t → (t.state ≡ Connected) ↔ Since opens closes steps
connected [] t is = (
  λ h. absurd (idle_not (sym (ap (λ (x : Talk). x.state) is) ∙ h)),
  λ x. absurd (never opens closes x),
)
connected (s ∷ before) t is =
    let u = is.0 in
    let m = s.message in
    let x = moved s.is_sent m u t is.2 in
    let unlike = no_call s.is_sent x.there x.sent_there x.got_there in
    let next = sym (after_unfolds x.there u.state m.operation m.result) ∙ x.state in
    since_next opens closes s before (u.state ≡ Connected) (t.state ≡ Connected) (connected before u is.1)
    (λ h. forth_by (m.operation == 0) (m.operation == 1) (m.operation == 2) x.there u.state m.result unlike (next ∙ h))
    (λ h. sym next ∙ back_by (m.operation == 0) (m.operation == 1) (m.operation == 2) x.there u.state m.result x.inside (apart_ops m.operation) h)

-- ---- calling and called

answered_not : (x : State) (r : Option ℕ) → (Idle ≡ x → ⊥) → (Connected ≡ x → ⊥) → answered r ≡ x → ⊥
answered_not x None idle conn h = idle h
answered_not x (Some n) idle conn h = by_test (n == 0) h
  where
    by_test : (b : Bool) → cond b Connected Idle ≡ x → ⊥
    by_test true h = conn h
    by_test false h = idle h

newest_by : (x : State) (z o c : Bool) (there u : State) (r : Option ℕ) → (Idle ≡ x → ⊥) → (Connected ≡ x → ⊥) → is_connected x ≡ false → (z ≡ false → o ≡ false → is_connected u ≡ true) → cond z there (cond o (answered r) (cond c Idle u)) ≡ x → (z ≡ true) × (there ≡ x)
newest_by x true o c there u r idle conn out others h = (refl, h)
newest_by x false true c there u r idle conn out others h = absurd (answered_not x r idle conn h)
newest_by x false false true there u r idle conn out others h = absurd (idle h)
newest_by x false false false there u r idle conn out others h =
    let inside : is_connected u ≡ true = others refl refl in
    let outside : is_connected u ≡ false = ap is_connected h ∙ out in
    absurd (let wrong : true ≡ false = sym inside ∙ outside in cc)

called_back : (z : Bool) (there x rest : State) → z ≡ true → there ≡ x → cond z there rest ≡ x
called_back true there x rest is h = h
called_back false there x rest is h = cc

was_sent : (is_sent : Bool) (there : State) → (is_sent ≡ false → there ≡ Called) → there ≡ Calling → is_sent ≡ true
was_sent true there b h = refl
was_sent false there b h = (let same : there ≡ Called = b refl in cc)

was_got : (is_sent : Bool) (there : State) → (is_sent ≡ true → there ≡ Calling) → there ≡ Called → not is_sent ≡ true
was_got false there a h = refl
was_got true there a h = (let same : there ≡ Calling = a refl in cc)

both : (a b : Bool) → a ≡ true → b ≡ true → (a && b) ≡ true
both true b h g = g
both false b h g = cc

not_true : (b : Bool) → not b ≡ true → b ≡ false
not_true true h = cc
not_true false h = refl

first_is : (p : Step → Bool) (s : Step) (h : List Step) → IsNewest p (s ∷ h) → p s ≡ true
first_is p s h x =
    let parts = x.parts in
    let same : x.one ≡ s = cc in
    subst (λ (z : Step). p z ≡ true) same x.passes

none_first : (p : Step → Bool) → IsNewest p [] → ⊥
none_first p x = (let parts = x.parts in cc)

pub calling : (steps : List Step) (t : Talk) → IsAfter steps t → (t.state ≡ Calling) ↔ IsNewest calls steps
calling [] t is = (
  λ h. absurd (let wrong : Idle ≡ Calling = sym (ap (λ (x : Talk). x.state) is) ∙ h in cc),
  λ x. absurd (none_first calls x),
)
calling (s ∷ before) t is =
    let u = is.0 in
    let m = s.message in
    let x = moved s.is_sent m u t is.2 in
    let next = sym (after_unfolds x.there u.state m.operation m.result) ∙ x.state in (
      λ h.
          let (zero, there) = newest_by Calling (m.operation == 0) (m.operation == 1) (m.operation == 2) x.there u.state m.result (λ e. cc) (λ e. cc) refl x.others (next ∙ h) in
          record { one = s; older = before; parts = refl; passes = both s.is_sent (m.operation == 0) (was_sent s.is_sent x.there x.got_there there) zero },
      λ y.
          let (way, zero) = and_parts s.is_sent (m.operation == 0) (first_is calls s before y) in
          sym next ∙ called_back (m.operation == 0) x.there Calling _ zero (x.sent_there way),
    )

pub called : (steps : List Step) (t : Talk) → IsAfter steps t → (t.state ≡ Called) ↔ IsNewest is_call steps
called [] t is = (
  λ h. absurd (let wrong : Idle ≡ Called = sym (ap (λ (x : Talk). x.state) is) ∙ h in cc),
  λ x. absurd (none_first is_call x),
)
called (s ∷ before) t is =
    let u = is.0 in
    let m = s.message in
    let x = moved s.is_sent m u t is.2 in
    let next = sym (after_unfolds x.there u.state m.operation m.result) ∙ x.state in (
      λ h.
          let (zero, there) = newest_by Called (m.operation == 0) (m.operation == 1) (m.operation == 2) x.there u.state m.result (λ e. cc) (λ e. cc) refl x.others (next ∙ h) in
          record { one = s; older = before; parts = refl; passes = both (not s.is_sent) (m.operation == 0) (was_got s.is_sent x.there x.sent_there there) zero },
      λ y.
          let (way, zero) = and_parts (not s.is_sent) (m.operation == 0) (first_is is_call s before y) in
          sym next ∙ called_back (m.operation == 0) x.there Called _ zero (x.got_there (not_true s.is_sent way)),
    )

-- ---- the ids that wait

asked_by : (resp noid : Bool) (id i : ℕ) (w : List ℕ) → (i == 0) ≡ noid → list_any (nat_eq id) (cond (resp || noid) w (insert_key nat_eq w i)) ≡ ((not resp && (i == id) && not (id == 0)) || list_any (nat_eq id) w)
asked_by true noid id i w is = refl
asked_by false true id i w is = sym (ap (λ (b : Bool). b || list_any (nat_eq id) w) none)
  where
    none : ((i == id) && not (id == 0)) ≡ false
    none = grind (arith, nat_tests)
asked_by false false id i w is = any_inserted id i w ∙ ap (λ (b : Bool). b || list_any (nat_eq id) w) same
  where
    same : nat_eq id i ≡ ((i == id) && not (id == 0))
    same = grind (arith, nat_tests)

answered_by : (resp : Bool) (id i : ℕ) (w : List ℕ) → AreOnce w → list_any (nat_eq id) (cond resp (remove_key (nat_eq i) w) w) ≡ (not (resp && (i == id)) && list_any (nat_eq id) w)
answered_by false id i w once = refl
answered_by true id i w once = any_removed id i w once ∙ turned (list_any (nat_eq id) w) (nat_eq i id)
  where
    turned : (a b : Bool) → (a && not b) ≡ (not b && a)
    turned true true = refl
    turned true false = refl
    turned false true = refl
    turned false false = refl

-- which ids wait after a message
wait_after : (is_sent : Bool) (op i id : ℕ) (w : List ℕ) → AreOnce w → list_any (nat_eq id) (cond is_sent (sent_waiting w op i) (got_waiting w op i)) ≡ ((is_sent && not (is_response op) && (i == id) && not (id == 0)) || (not (not is_sent && is_response op && (i == id)) && list_any (nat_eq id) w))
unfolding sent_waiting got_waiting
wait_after true op i id w once = asked_by (is_response op) (i == 0) id i w refl
wait_after false op i id w once = answered_by (is_response op) id i w once

once_sent : (b : Bool) (i : ℕ) (w : List ℕ) → AreOnce w → AreOnce (cond b w (insert_key nat_eq w i))
once_sent true i w h = h
once_sent false i w h = once_inserted i w h

once_got : (b : Bool) (i : ℕ) (w : List ℕ) → AreOnce w → AreOnce (cond b (remove_key (nat_eq i) w) w)
once_got true i w h = once_removed i w h
once_got false i w h = h

once_after : (is_sent : Bool) (op i : ℕ) (w : List ℕ) → AreOnce w → AreOnce (cond is_sent (sent_waiting w op i) (got_waiting w op i))
unfolding sent_waiting got_waiting
once_after true op i w h = once_sent (is_response op || (i == 0)) i w h
once_after false op i w h = once_got (is_response op) i w h

once : (steps : List Step) (t : Talk) → IsAfter steps t → AreOnce t.waiting
once [] t is = subst AreOnce (sym (ap (λ (x : Talk). x.waiting) is)) tt
once (s ∷ before) t is =
    let u = is.0 in
    let x = moved s.is_sent s.message u t is.2 in
    subst AreOnce x.waiting (once_after s.is_sent s.message.operation s.message.invoke u.waiting (once before u is.1))

test_forth : (a q b : Bool) → (a || (not q && b)) ≡ true → (a ≡ true) ⊎ ((q ≡ false) × (b ≡ true))
test_forth true q b h = inl refl
test_forth false false b h = inr (refl, h)
test_forth false true b h = cc

test_back : (a q b : Bool) → (a ≡ true) ⊎ ((q ≡ false) × (b ≡ true)) → (a || (not q && b)) ≡ true
test_back true q b h = refl
test_back false q b (inl h) = cc
test_back false true b (inr h) = (let wrong : true ≡ false = h.0 in cc)
test_back false false b (inr h) = h.1

pub waits : (steps : List Step) (t : Talk) (id : ℕ) → IsAfter steps t → (list_any (nat_eq id) t.waiting ≡ true) ↔ Since (asks id) (answers id) steps
waits [] t id is = (
  λ h. absurd (let wrong : false ≡ true = sym (ap (λ (x : Talk). list_any (nat_eq id) x.waiting) is) ∙ h in cc),
  λ x. absurd (never (asks id) (answers id) x),
)
waits (s ∷ before) t id is =
    let u = is.0 in
    let m = s.message in
    let x = moved s.is_sent m u t is.2 in
    let next = wait_after s.is_sent m.operation m.invoke id u.waiting (once before u is.1) in
    let same : list_any (nat_eq id) t.waiting ≡ (asks id s || (not (answers id s) && list_any (nat_eq id) u.waiting)) = sym (ap (λ (w : List ℕ). list_any (nat_eq id) w) x.waiting) ∙ next in
    since_next (asks id) (answers id) s before (list_any (nat_eq id) u.waiting ≡ true) (list_any (nat_eq id) t.waiting ≡ true) (waits before u id is.1)
    (λ h. test_forth (asks id s) (answers id s) (list_any (nat_eq id) u.waiting) (sym same ∙ h))
    (λ h. same ∙ test_back (asks id s) (answers id s) (list_any (nat_eq id) u.waiting) h)
