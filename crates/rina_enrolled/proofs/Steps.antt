-- What a call of a member makes of its calls without an answer, and of START and STOP among its messages that wait: START is put only where
-- a call was answered, STOP only where START is handled, and every item that the member keeps is put before it.
use Rattle.std.proofs.Common.{◌≡◌, ℕ, ◌+◌, ◌≤◌, Bool, true, false, ◌==◌, cond, List, [], ◌∷◌, ◌++◌, slice_set, Option, Some, None, refl, sym, ◌∙◌, ap, subst, inl, inr, arith, append_assoc}
use Rattle.std.specs.Prelude.{find}
use Rattle.std.proofs.lemmas.Bool.{cases_Bool, both_ways, eq-eqb, eqb-true}
use Rattle.std.proofs.lemmas.List.{append-nil}
use Rattle.rina_enrol.specs.declared.event.EnrolDo.{EnrolDo}
use Rattle.rina_enrol.specs.declared.event.EnrolDo.TheVariants as does
use Rattle.rina_enrol.specs.declared.event.EnrolEvent.{EnrolEvent}
use Rattle.rina_enrol.specs.declared.event.EnrolEvent.TheVariants as events
use Rattle.rina_enrol.specs.declared.message.LinkMessage.{LinkMessage}
use Rattle.rina_enrol.specs.declared.message.LinkMessage.TheVariants as messages
use Rattle.rina_newest.specs.declared.item.Item.{Item}
use Rattle.rina_newest.specs.Newest.{is_newer, kept_at, taken}
use Rattle.rina_agent.specs.declared.agent.Agent.{Agent}
use Rattle.rina_agent.specs.declared.link.Link.{Link}
use Rattle.rina_agent.specs.declared.message.ManagementMessage.{ManagementMessage}
use Rattle.rina_agent.specs.declared.message.Waiting.{Waiting}
use Rattle.rina_agent.specs.declared.state.AgentError.{AgentError}
use Rattle.rina_agent.specs.declared.state.MemberState.{MemberState}
use Rattle.rina_agent.specs.declared.state.MemberState.TheVariants.{Outside, Joining, Enrolled, Denied}
use Rattle.rina_agent.specs.Agenda.{floods, near, waiting_on}
use Rattle.rina_agent.specs.Counts.{next_of, spent, unless}
use Rattle.rina_agent.specs.Enrolled.{IsAtLeast, done}
use Rattle.rina_agent.specs.Enrolments.{hears, is_numbered}
use Rattle.rina_agent.specs.Items.{made, own_item, stated}
use Rattle.rina_agent.specs.Neighbours.{link_key, link_state, member_key}
use Rattle.rina_agent.specs.Rows.{allowed_as, allowed_by, connected_as, connected_by, denial, denied_by, either, entered, handled, introduced_in, need_in, noted_by, peer_by, start_batch, started, started_as, started_by, stop_batch, stopped_as, stopped_by, up_link}
use Rattle.rina_agent.proofs.Lists.{put_waits_last}
use Rattle.rina_agent.proofs.Taking.{taken_keeps}
use Rattle.rina_enrolled.proofs.Marks.{start_near, starts, stops, starts_more, stops_more, starts_wait, stops_wait, Leads, leads_both, none_leads, IsCalm, none_calm, more_calm, floods_calm, stop_batch_calm, start_batch_starts, start_batch_stops, start_batch_leads}
use Rattle.rina_enrolled.proofs.Talks.{calls_of, others_call, IsSet, is_set}

-- A call may put STOP on the link of one number
pub record IsStep (a b : Agent) (k s : ℕ) : Type 0 where
  pub calls : (j : ℕ) → calls_of (find (is_numbered j) b.links) + starts (waiting_on j b.agenda) ≤ calls_of (find (is_numbered j) a.links) + starts (waiting_on j a.agenda)
  pub stops : (j : ℕ) → stops (waiting_on j b.agenda) ≤ stops (waiting_on j a.agenda) + cond (k == j) s 0
  pub leads : (x : Item) → IsAtLeast a.items x → (j : ℕ) (front : List ManagementMessage) → Leads x (front ++ waiting_on j a.agenda) → Leads x (front ++ waiting_on j b.agenda)

pub same_step : (a : Agent) (k s : ℕ) → IsStep a a k s
same_step a k s = record { calls = λ j. omega arith; stops = λ j. omega arith; leads = λ x h j front e. e }

pub put_leads : (x : Item) (j : ℕ) (front : List ManagementMessage) (agenda puts : List Waiting) → Leads x (waiting_on j puts) → Leads x (front ++ waiting_on j agenda) → Leads x (front ++ waiting_on j (agenda ++ puts))
put_leads x j front agenda puts new old =
    let P : List ManagementMessage → Type 0 = λ ms. Leads x ms in
    let Q : List ManagementMessage → Type 0 = λ ms. Leads x (front ++ ms) in
    subst Q (sym (put_waits_last j agenda puts)) (subst P (append_assoc front (waiting_on j agenda) (waiting_on j puts)) (leads_both x (front ++ waiting_on j agenda) (waiting_on j puts) old new))

-- messages are put behind those that wait
pub put_step : (a b : Agent) (k s : ℕ) (puts : List Waiting) → b.agenda ≡ a.agenda ++ puts → ((j : ℕ) → calls_of (find (is_numbered j) b.links) + starts (waiting_on j puts) ≤ calls_of (find (is_numbered j) a.links)) → ((j : ℕ) → stops (waiting_on j puts) ≤ cond (k == j) s 0)
    → ((x : Item) → IsAtLeast a.items x → (j : ℕ) → Leads x (waiting_on j puts)) → IsStep a b k s
put_step a b k s puts agenda calls none leads = record {
  calls = λ j. (let e = ap (λ (ws : List Waiting). starts (waiting_on j ws)) agenda in let f = starts_more j a.agenda puts in let g = calls j in omega (arith, e, f, g));
  stops = λ j. (let e = ap (λ (ws : List Waiting). stops (waiting_on j ws)) agenda in let f = stops_more j a.agenda puts in let g = none j in omega (arith, e, f, g));
  leads = λ x h j front e. (let P : List Waiting → Type 0 = λ ws. Leads x (front ++ waiting_on j ws) in subst P (sym agenda) (put_leads x j front a.agenda puts (leads x h j) e));
}

pub calm_step : (a b : Agent) (k s : ℕ) (puts : List Waiting) → b.agenda ≡ a.agenda ++ puts → IsCalm puts → ((j : ℕ) → calls_of (find (is_numbered j) b.links) ≤ calls_of (find (is_numbered j) a.links)) → IsStep a b k s
calm_step a b k s puts agenda calm calls = put_step a b k s puts agenda
    (λ j. (let e = calm.starts j in let f = calls j in omega (arith, e, f)))
    (λ j. (let e = calm.stops j in omega (arith, e)))
    (λ x h j. none_leads x (waiting_on j puts) (calm.stops j))

pub zero_at : (b : Bool) → ◌≡◌ {A = ℕ} (cond b 0 0) 0
zero_at true = refl
zero_at false = refl

pub next_step : (a b c : Agent) (k s : ℕ) → IsStep a b k 0 → ((x : Item) → IsAtLeast a.items x → IsAtLeast b.items x) → IsStep b c k s → IsStep a c k s
next_step a b c k s f keeps g = record {
  calls = λ j. (let p = f.calls j in let q = g.calls j in omega (arith, p, q));
  stops = λ j. (let p = f.stops j in let q = g.stops j in let z = zero_at (k == j) in omega (arith, p, q, z));
  leads = λ x h j front e. g.leads x (keeps x h) j front (f.leads x h j front e);
}

pub last_step : (a b c : Agent) (k s : ℕ) → IsStep a b k s → ((x : Item) → IsAtLeast a.items x → IsAtLeast b.items x) → IsStep b c k 0 → IsStep a c k s
last_step a b c k s f keeps g = record {
  calls = λ j. (let p = f.calls j in let q = g.calls j in omega (arith, p, q));
  stops = λ j. (let p = f.stops j in let q = g.stops j in let z = zero_at (k == j) in omega (arith, p, q, z));
  leads = λ x h j front e. g.leads x (keeps x h) j front (f.leads x h j front e);
}

-- Items are made or come

pub unless_step : (o : Option AgentError) (a b : Agent) (k s : ℕ) → IsStep a b k s → IsStep a (done a (unless o b)) k s
unless_step None a b k s f = f
unless_step (Some e) a b k s f = same_step a k s

pub made_step : (out : Option ℕ) (a : Agent) (now : ℕ) (key : List ℕ) (value : Option (List ℕ)) (k s : ℕ) → IsStep a (made out a now key value) k s
made_step out a now key value k s = calm_step a (made out a now key value) k s (floods out (own_item a now key value) a.links) refl (floods_calm out (own_item a now key value) a.links) (λ j. omega arith)

pub stated_step : (out : Option ℕ) (a : Agent) (now k s : ℕ) → IsStep a (stated out a now) k s
stated_step out a now k s = made_step out a now (link_key a.address) (Some (link_state out a.links)) k s

took_step : (newer : Bool) (a : Agent) (k s : ℕ) (x : Item) (items : List Item) → IsStep a (cond newer (record a { items = items; agenda = a.agenda ++ floods (Some k) x a.links }) a) k s
took_step true a k s x items = calm_step a (record a { items = items; agenda = a.agenda ++ floods (Some k) x a.links }) k s (floods (Some k) x a.links) refl (floods_calm (Some k) x a.links) (λ j. omega arith)
took_step false a k s x items = same_step a k s

-- A message of an enrolment

others_less : (k j : ℕ) (links : List Link) → others_call k j links ≤ calls_of (find (is_numbered j) links)
others_less k j links = elim (cases_Bool (j == k)) [ inl e ↦ rw e (omega arith) | inr e ↦ rw e (omega arith) ]

module _ (links : List Link) (k : ℕ) (m : LinkMessage) (at : ℕ) (becomes : Link) (q : IsSet links k m at becomes) where
  set_less : (with : Link) → with.number ≡ becomes.number → with.enrolment ≡ becomes.enrolment → (j : ℕ) → calls_of (find (is_numbered j) (slice_set links at with)) ≤ calls_of (find (is_numbered j) links)
  set_less with number enrols j = (let e = q.calls with number enrols j in let f = others_less k j links in omega (arith, e, f))

noted_step : (a : Agent) (k s : ℕ) (m : LinkMessage) (event : EnrolEvent) (o : _) → hears a.links k m [] event ≡ o → IsStep a (noted_by a o) k s
noted_step a k s m event None is = same_step a k s
noted_step a k s m event (Some h) is = calm_step a (record a { links = slice_set a.links h.at h.link }) k s [] (sym (append-nil a.agenda)) none_calm (set_less a.links k m h.at h.link (is_set a.links k m [] event h tt is) h.link refl refl)

-- CONNECT: its answer is put

connect_as_step : (d : EnrolDo) (a : Agent) (k s invoke : ℕ) (denied : Option ℕ) (m : LinkMessage) (event : EnrolEvent) (h : _) → hears a.links k m (messages.ConnectR invoke denied ∷ []) event ≡ Some h → IsStep a (connected_as d a h (messages.ConnectR invoke denied)) k s
connect_as_step does.Nothing a k s invoke denied m event h is = same_step a k s
connect_as_step (does.ConnectR answer) a k s invoke denied m event h is =
    let reply = messages.ConnectR invoke denied in
    let q = is_set a.links k m (reply ∷ []) event h (refl, tt) is in
    calm_step a (connected_as (does.ConnectR answer) a h reply) k s (near h.link.number reply ∷ []) refl (more_calm (near h.link.number reply) [] refl refl none_calm) (set_less a.links k m h.at h.link q h.link refl refl)
connect_as_step does.Start a k s invoke denied m event h is = same_step a k s
connect_as_step does.StartR a k s invoke denied m event h is = same_step a k s
connect_as_step does.StopR a k s invoke denied m event h is = same_step a k s

connect_step : (a : Agent) (k s invoke : ℕ) (denied : Option ℕ) (m : LinkMessage) (event : EnrolEvent) (o : _) → hears a.links k m (messages.ConnectR invoke denied ∷ []) event ≡ o → IsStep a (connected_by a (messages.ConnectR invoke denied) o) k s
connect_step a k s invoke denied m event None is = same_step a k s
connect_step a k s invoke denied m event (Some h) is = connect_as_step h.does a k s invoke denied m event h is

-- The answer to CONNECT: START is put in place of the call

flip : (a b : ℕ) → (a == b) ≡ false → (b == a) ≡ false
flip a b e = elim (cases_Bool (b == a)) [
  | inl is ↦ absurd (both_ways (a == b) e (eq-eqb a b (sym (eqb-true b a is))))
  | inr isnt ↦ isnt
]

in_its_place : (k j number : ℕ) (links : List Link) → number ≡ k → calls_of (find (is_numbered k) links) ≡ 1 → others_call k j links + cond (number == j) 1 0 ≤ calls_of (find (is_numbered j) links)
in_its_place k j number links named called = elim (cases_Bool (j == k)) [
  | inl is ↦
      (let same : number ≡ j = named ∙ sym (eqb-true j k is) in
      let there = eq-eqb number j same in
      let one : calls_of (find (is_numbered j) links) ≡ 1 = ap (λ (i : ℕ). calls_of (find (is_numbered i) links)) (eqb-true j k is) ∙ called in
      rw (is, there) (omega (arith, one)))
  | inr isnt ↦
      (let apart : (number == j) ≡ false = ap (λ (i : ℕ). i == j) named ∙ flip j k isnt in
      rw (isnt, apart) (omega arith))
]

allow_as_step : (d : EnrolDo) (a : Agent) (k s invoke stop address : ℕ) (event : EnrolEvent) (h : _) → hears a.links k (messages.ConnectR invoke None) (messages.Start stop address ∷ []) event ≡ Some h → IsStep a (done a (allowed_as d a h (messages.Start stop address))) k s
allow_as_step does.Nothing a k s invoke stop address event h is = same_step a k s
allow_as_step (does.ConnectR denied) a k s invoke stop address event h is = same_step a k s
allow_as_step does.Start a k s invoke stop address event h is =
    let m = messages.ConnectR invoke None in
    let start = messages.Start stop address in
    let q = is_set a.links k m (start ∷ []) event h (refl, tt) is in
    let w = near h.link.number start in
    let b : Agent = record a { last_invoke = next_of a.last_invoke; links = slice_set a.links h.at h.link; agenda = a.agenda ++ w ∷ [] } in
    let none : (j : ℕ) → stops (waiting_on j (w ∷ [])) ≡ 0 = λ j. (let e = stops_wait j w [] in let z = zero_at (h.link.number == j) in omega (arith, e, z)) in
    unless_step (spent 1 a.last_invoke) a b k s (put_step a b k s (w ∷ []) refl
    (λ j. (let e = q.calls h.link refl refl j in let f = starts_wait j w [] in let g = in_its_place k j h.link.number a.links q.number (q.called refl) in omega (arith, e, f, g)))
    (λ j. (let e = none j in omega (arith, e)))
    (λ x l j. none_leads x (waiting_on j (w ∷ [])) (none j)))
allow_as_step does.StartR a k s invoke stop address event h is = same_step a k s
allow_as_step does.StopR a k s invoke stop address event h is = same_step a k s

allow_step : (a : Agent) (k s invoke stop address : ℕ) (event : EnrolEvent) (o : _) → hears a.links k (messages.ConnectR invoke None) (messages.Start stop address ∷ []) event ≡ o → IsStep a (done a (allowed_by a (messages.Start stop address) o)) k s
allow_step a k s invoke stop address event None is = same_step a k s
allow_step a k s invoke stop address event (Some h) is = allow_as_step h.does a k s invoke stop address event h is

deny_step : (a : Agent) (k s rule : ℕ) (m : LinkMessage) (event : EnrolEvent) (o : _) → hears a.links k m [] event ≡ o → IsStep a (denied_by a k rule o) k s
deny_step a k s rule m event None is = same_step a k s
deny_step a k s rule m event (Some h) is = calm_step a (denied_by a k rule (Some h)) k s [] (sym (append-nil a.agenda)) none_calm (set_less a.links k m h.at h.link (is_set a.links k m [] event h tt is) h.link refl refl)

-- START: the items and STOP are put

start_as_step : (d : EnrolDo) (a : Agent) (now k : ℕ) (m : LinkMessage) (invoke address : ℕ) (h : _) → hears a.links k m (messages.StartR invoke ∷ messages.Stop (next_of a.last_invoke) ∷ []) events.Start ≡ Some h → IsStep a (done a (started_as d a now h invoke address)) k 1
start_as_step does.Nothing a now k m invoke address h is = same_step a k 1
start_as_step (does.ConnectR denied) a now k m invoke address h is = same_step a k 1
start_as_step does.Start a now k m invoke address h is = same_step a k 1
start_as_step does.StartR a now k m invoke address h is =
    let stop = next_of a.last_invoke in
    let q = is_set a.links k m (messages.StartR invoke ∷ messages.Stop stop ∷ []) events.Start h (refl, (refl, tt)) is in
    let number = h.link.number in
    let up = up_link (Some address) h.link in
    let batch = start_batch number invoke a.items stop in
    let c : Agent = record a { last_invoke = stop; links = slice_set a.links h.at up; agenda = a.agenda ++ batch } in
    let less = set_less a.links k m h.at h.link q up refl refl in
    let put : IsStep a c k 1 = put_step a c k 1 batch refl
    (λ j. (let e = less j in let f = start_batch_starts j number invoke stop a.items in omega (arith, e, f)))
    (λ j. (let f = start_batch_stops j number invoke stop a.items in let g : ◌≡◌ {A = ℕ} (cond (number == j) 1 0) (cond (k == j) 1 0) = ap (λ (i : ℕ). cond (i == j) 1 0) q.number in omega (arith, f, g)))
    (λ x l j. start_batch_leads j number invoke stop a.items x l) in
    unless_step (either (spent 1 a.last_count) (spent 1 a.last_invoke)) a (started a now h invoke address) k 1 (last_step a c (stated None c now) k 1 put (λ x l. l) (stated_step None c now k 0))
start_as_step does.StopR a now k m invoke address h is = same_step a k 1

start_step : (a : Agent) (now k : ℕ) (m : LinkMessage) (invoke address : ℕ) (o : _) → hears a.links k m (messages.StartR invoke ∷ messages.Stop (next_of a.last_invoke) ∷ []) events.Start ≡ o → IsStep a (done a (started_by a now invoke address o)) k 1
start_step a now k m invoke address None is = same_step a k 1
start_step a now k m invoke address (Some h) is = start_as_step h.does a now k m invoke address h is

-- STOP

entered_step : (a : Agent) (now k s : ℕ) (m : LinkMessage) (invoke : ℕ) (h : _) → hears a.links k m (messages.StopR invoke ∷ []) events.Stop ≡ Some h → IsStep a (entered a now h invoke) k s
entered_step a now k s m invoke h is =
    let q = is_set a.links k m (messages.StopR invoke ∷ []) events.Stop h (refl, tt) is in
    let up = up_link (peer_by h.link.enrolment a.items) h.link in
    let batch = stop_batch h.link.number invoke a.items in
    let c : Agent = record a { state = Enrolled; links = slice_set a.links h.at up; agenda = a.agenda ++ batch } in
    let put : IsStep a c k 0 = calm_step a c k 0 batch refl (stop_batch_calm h.link.number invoke a.items) (set_less a.links k m h.at h.link q up refl refl) in
    next_step a c (stated None c now) k s put (λ x l. l) (stated_step None c now k s)

made_entered_step : (a : Agent) (now k z : ℕ) (m : LinkMessage) (invoke : ℕ) (h : _) → hears a.links k m (messages.StopR invoke ∷ []) events.Stop ≡ Some h → IsStep a (entered (made None a now (member_key a.address) (Some a.node)) now h invoke) k z
made_entered_step a now k z m invoke h is =
    let key = member_key a.address in
    let b = made None a now key (Some a.node) in
    next_step a b (entered b now h invoke) k z (made_step None a now key (Some a.node) k 0) (λ x l. taken_keeps a.items (own_item a now key (Some a.node)) x l) (entered_step b now k z m invoke h is)

introduced_step : (s : MemberState) (a : Agent) (now k z : ℕ) (m : LinkMessage) (invoke : ℕ) (h : _) → hears a.links k m (messages.StopR invoke ∷ []) events.Stop ≡ Some h → IsStep a (entered (introduced_in s a now) now h invoke) k z
introduced_step Outside a now k z m invoke h is = made_entered_step a now k z m invoke h is
introduced_step (Joining link) a now k z m invoke h is = made_entered_step a now k z m invoke h is
introduced_step Enrolled a now k z m invoke h is = entered_step a now k z m invoke h is
introduced_step (Denied rule) a now k z m invoke h is = made_entered_step a now k z m invoke h is

stop_as_step : (d : EnrolDo) (a : Agent) (now k s : ℕ) (m : LinkMessage) (invoke : ℕ) (h : _) → hears a.links k m (messages.StopR invoke ∷ []) events.Stop ≡ Some h → IsStep a (done a (stopped_as d a now h invoke)) k s
stop_as_step does.Nothing a now k s m invoke h is = same_step a k s
stop_as_step (does.ConnectR denied) a now k s m invoke h is = same_step a k s
stop_as_step does.Start a now k s m invoke h is = same_step a k s
stop_as_step does.StartR a now k s m invoke h is = same_step a k s
stop_as_step does.StopR a now k s m invoke h is = unless_step (spent (need_in a.state) a.last_count) a (entered (introduced_in a.state a now) now h invoke) k s (introduced_step a.state a now k s m invoke h is)

stop_step : (a : Agent) (now k s : ℕ) (m : LinkMessage) (invoke : ℕ) (o : _) → hears a.links k m (messages.StopR invoke ∷ []) events.Stop ≡ o → IsStep a (done a (stopped_by a now invoke o)) k s
stop_step a now k s m invoke None is = same_step a k s
stop_step a now k s m invoke (Some h) is = stop_as_step h.does a now k s m invoke h is

-- Every message of a neighbour

pub handled_step : (a : Agent) (now k : ℕ) (m : LinkMessage) → IsStep a (done a (handled a now k m)) k (start_near m)
handled_step a now k (messages.Connect invoke joiner member) =
    let m = messages.Connect invoke joiner member in
    let reply = messages.ConnectR invoke (denial a joiner) in
    connect_step a k 0 invoke (denial a joiner) m (events.Connect (denial a joiner)) (hears a.links k m (reply ∷ []) (events.Connect (denial a joiner))) refl
handled_step a now k (messages.ConnectR invoke None) =
    let start = messages.Start (next_of a.last_invoke) a.address in
    allow_step a k 0 invoke (next_of a.last_invoke) a.address (events.ConnectR None) (hears a.links k (messages.ConnectR invoke None) (start ∷ []) (events.ConnectR None)) refl
handled_step a now k (messages.ConnectR invoke (Some rule)) =
    let m = messages.ConnectR invoke (Some rule) in
    deny_step a k 0 rule m (events.ConnectR (Some rule)) (hears a.links k m [] (events.ConnectR (Some rule))) refl
handled_step a now k (messages.Start invoke address) =
    let m = messages.Start invoke address in
    start_step a now k m invoke address (hears a.links k m (messages.StartR invoke ∷ messages.Stop (next_of a.last_invoke) ∷ []) events.Start) refl
handled_step a now k (messages.StartR invoke) = noted_step a k 0 (messages.StartR invoke) events.StartR (hears a.links k (messages.StartR invoke) [] events.StartR) refl
handled_step a now k (messages.Item x) = took_step (is_newer x.version (kept_at a.items x.key)) a k 0 x (taken a.items x)
handled_step a now k (messages.Stop invoke) =
    let m = messages.Stop invoke in
    stop_step a now k 0 m invoke (hears a.links k m (messages.StopR invoke ∷ []) events.Stop) refl
handled_step a now k (messages.StopR invoke) = noted_step a k 0 (messages.StopR invoke) events.StopR (hears a.links k (messages.StopR invoke) [] events.StopR) refl
handled_step a now k (messages.Flood x) = took_step (is_newer x.version (kept_at a.items x.key)) a k 0 x (taken a.items x)
