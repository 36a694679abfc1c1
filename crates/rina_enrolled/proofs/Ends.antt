-- The other calls of a member, and what a call makes of the messages at an end of a link.
use Rattle.std.proofs.Common.{◌≡◌, ℕ, ◌+◌, ◌≤◌, Bool, true, false, ◌==◌, cond, List, [], ◌∷◌, ◌++◌, Option, Some, None, Ok, refl, sym, ap, subst, inl, inr, arith}
use Rattle.std.specs.Prelude.{find}
use Rattle.std.proofs.lemmas.Bool.{cases_Bool, both_ways, eq-eqb, eqb-true}
use Rattle.std.proofs.lemmas.List.{append-nil}
use Rattle.rina_alloc.specs.declared.message.FlowMessage.{FlowMessage}
use Rattle.rina_enrol.specs.declared.message.LinkMessage.TheVariants as messages
use Rattle.rina_newest.specs.declared.item.Item.{Item}
use Rattle.rina_agent.specs.declared.agent.Agent.{Agent}
use Rattle.rina_agent.specs.declared.link.Link.{Link}
use Rattle.rina_agent.specs.declared.message.ManagementMessage.{ManagementMessage}
use Rattle.rina_agent.specs.declared.message.ManagementMessage.TheVariants.{ToMember}
use Rattle.rina_agent.specs.declared.message.Waiting.{Waiting}
use Rattle.rina_agent.specs.declared.state.AgentError.{AgentError}
use Rattle.rina_agent.specs.Agenda.{near, waiting_on, without_link}
use Rattle.rina_agent.specs.Counts.{next_of, unless}
use Rattle.rina_agent.specs.Enrolled.{IsAtLeast, done}
use Rattle.rina_agent.specs.Enrolments.{is_numbered}
use Rattle.rina_agent.specs.Items.{own_item, stated}
use Rattle.rina_agent.specs.Neighbours.{link_key, link_state}
use Rattle.rina_agent.specs.Rows.{dropped, joined_link, joining, joining_link}
use Rattle.rina_agent.proofs.Taking.{taken_keeps}
use Rattle.rina_flood.specs.Network.{EndState, Unmade, There, Gone, link_at, waiting_at, AreApart, with_invoke, with_message}
use Rattle.rina_flood.proofs.Messages.{lost_link, lost_waits, spared_link, spared_wait, without_number}
use Rattle.rina_enrolled.proofs.Marks.{starts, stops, starts_more, stops_more, Leads, leads_front, none_leads, none_calm, more_calm, IsCalm}
use Rattle.rina_enrolled.proofs.Steps.{IsStep, calm_step, put_leads, next_step, same_step, stated_step, zero_at}
use Rattle.rina_enrolled.proofs.Talks.{calls_of}

-- A message about a flow is put

pub message_step : (a : Agent) (number : ℕ) (m : FlowMessage) (k s : ℕ) → IsStep a (with_message a number m) k s
message_step a number m k s =
    let w : Waiting = record { link = number; message = ToMember m } in
    calm_step a (with_message a number m) k s (w ∷ []) refl (more_calm w [] refl refl none_calm) (λ j. omega arith)

-- An invoke id is drawn

-- no message waits more
none_more : (agenda : List Waiting) → agenda ≡ agenda ++ []
none_more agenda = sym (append-nil agenda)

pub invoke_step : (a : Agent) (k s : ℕ) → IsStep a (with_invoke a) k s
invoke_step a k s = calm_step a (with_invoke a) k s [] (none_more a.agenda) none_calm (λ j. omega arith)

-- A link is lost

module _ (a : Agent) (number : ℕ) (apart : AreApart a.links) where
  lost_calls : (j : ℕ) → calls_of (find (is_numbered j) (without_number number a.links)) + starts (waiting_on j (without_link number a.agenda)) ≤ calls_of (find (is_numbered j) a.links) + starts (waiting_on j a.agenda)
  lost_calls j = elim (cases_Bool (j == number)) [
    | inl is ↦
        (let P : ℕ → Type 0 = λ i. calls_of (find (is_numbered i) (without_number number a.links)) + starts (waiting_on i (without_link number a.agenda)) ≤ calls_of (find (is_numbered i) a.links) + starts (waiting_on i a.agenda) in
        let none = lost_link number a.links apart in
        let silent = lost_waits number a.agenda in
        let c : calls_of (find (is_numbered number) (without_number number a.links)) ≡ 0 = ap calls_of none in
        let w : starts (waiting_on number (without_link number a.agenda)) ≡ 0 = ap starts silent in
        subst P (sym (eqb-true j number is)) (omega (arith, c, w)))
    | inr isnt ↦
        (let off : j ≡ number → ⊥ = λ is. both_ways (j == number) isnt (eq-eqb j number is) in
        let c = ap calls_of (spared_link j number a.links off) in
        let w = ap starts (spared_wait j number a.agenda off) in
        omega (arith, c, w))
  ]

  lost_stops : (j : ℕ) → stops (waiting_on j (without_link number a.agenda)) ≤ stops (waiting_on j a.agenda)
  lost_stops j = elim (cases_Bool (j == number)) [
    | inl is ↦
        (let P : ℕ → Type 0 = λ i. stops (waiting_on i (without_link number a.agenda)) ≤ stops (waiting_on i a.agenda) in
        let w : stops (waiting_on number (without_link number a.agenda)) ≡ 0 = ap stops (lost_waits number a.agenda) in
        subst P (sym (eqb-true j number is)) (omega (arith, w)))
    | inr isnt ↦ (let w = ap stops (spared_wait j number a.agenda (λ is. both_ways (j == number) isnt (eq-eqb j number is))) in omega (arith, w))
  ]

  lost_leads : (x : Item) (j : ℕ) (front : List ManagementMessage) → Leads x (front ++ waiting_on j a.agenda) → Leads x (front ++ waiting_on j (without_link number a.agenda))
  lost_leads x j front e =
      let Q : List ManagementMessage → Type 0 = λ ms. Leads x (front ++ ms) in
      elim (cases_Bool (j == number)) [
        | inl is ↦
            (let P : ℕ → Type 0 = λ i. Leads x (front ++ waiting_on i (without_link number a.agenda)) in
            let R : List ManagementMessage → Type 0 = λ ms. Leads x ms in
            subst P (sym (eqb-true j number is)) (subst Q (sym (lost_waits number a.agenda)) (subst R (sym (append-nil front)) (leads_front x front (waiting_on j a.agenda) e))))
        | inr isnt ↦ subst Q (sym (spared_wait j number a.agenda (λ is. both_ways (j == number) isnt (eq-eqb j number is)))) e
      ]

  drop_step : (k s : ℕ) → IsStep a (dropped a number) k s
  drop_step k s = record {
    calls = lost_calls;
    stops = λ j. (let e = lost_stops j in omega (arith, e));
    leads = λ x h j front e. lost_leads x j front e;
  }

pub lose_step : (up : Bool) (o : Option AgentError) (a : Agent) (now number k s : ℕ) → AreApart a.links → IsStep a (done a (cond up (unless o (dropped (stated (Some number) a now) number)) (Ok (dropped a number)))) k s
lose_step true None a now number k s apart =
    let b = stated (Some number) a now in
    next_step a b (dropped b number) k s (stated_step (Some number) a now k 0) (λ x l. taken_keeps a.items (own_item a now (link_key a.address) (Some (link_state (Some number) a.links))) x l) (drop_step b number apart k s)
lose_step true (Some e) a now number k s apart = same_step a k s
lose_step false o a now number k s apart = drop_step a number apart k s

-- A link more

more_calls : (j : ℕ) (links : List Link) (new : Link) → calls_of (find (is_numbered j) (links ++ new ∷ [])) ≤ calls_of (find (is_numbered j) links) + cond (new.number == j) (calls_of (Some new)) 0
more_calls j [] new = elim (cases_Bool (new.number == j)) [ inl is ↦ rw is (omega arith) | inr isnt ↦ rw isnt (omega arith) ]
more_calls j (x ∷ links) new = elim (cases_Bool (x.number == j)) [
  | inl is ↦ rw is (omega arith)
  | inr isnt ↦ rw isnt (more_calls j links new)
]

-- at the end that is joined nothing was called
pub claim_step : (a : Agent) (number k s : ℕ) → IsStep a (record a { links = a.links ++ joined_link number ∷ [] }) k s
claim_step a number k s =
    let new = joined_link number in
    calm_step a (record a { links = a.links ++ new ∷ [] }) k s [] (sym (append-nil a.agenda)) none_calm
    (λ j. (let e = more_calls j a.links new in let z = zero_at (number == j) in omega (arith, e, z)))

-- CONNECT is put: one call more on the new link
module _ (a : Agent) (number : ℕ) (member node : List ℕ) where
  abbrev puts : List Waiting
  puts = near number (messages.Connect (next_of a.last_invoke) a.name member) ∷ []

  connect_calm : IsCalm puts
  connect_calm = more_calm (near number (messages.Connect (next_of a.last_invoke) a.name member)) [] refl refl none_calm

  pub connect_starts : (j : ℕ) → starts (waiting_on j (joining a number member node).agenda) ≡ starts (waiting_on j a.agenda)
  connect_starts j = (let e = starts_more j a.agenda puts in let c = connect_calm in let f = c.starts j in omega (arith, e, f))

  pub connect_stops : (j : ℕ) → stops (waiting_on j (joining a number member node).agenda) ≡ stops (waiting_on j a.agenda)
  connect_stops j = (let e = stops_more j a.agenda puts in let c = connect_calm in let f = c.stops j in omega (arith, e, f))

  pub connect_leads : (x : Item) (j : ℕ) (front : List ManagementMessage) → Leads x (front ++ waiting_on j a.agenda) → Leads x (front ++ waiting_on j (joining a number member node).agenda)
  connect_leads x j front e = (let c = connect_calm in put_leads x j front a.agenda puts (none_leads x (waiting_on j puts) (c.stops j)) e)

  pub connect_calls : (j : ℕ) → (number ≡ j → ⊥) → calls_of (find (is_numbered j) (joining a number member node).links) ≤ calls_of (find (is_numbered j) a.links)
  connect_calls j apart = elim (cases_Bool (number == j)) [
    | inl is ↦ absurd (apart (eqb-true number j is))
    | inr isnt ↦ (let new = joining_link number (next_of a.last_invoke) node in let e : calls_of (find (is_numbered j) (a.links ++ new ∷ [])) ≤ calls_of (find (is_numbered j) a.links) + 0 = (rw isnt at (more_calls j a.links new)) in omega (arith, e))
  ]

-- At an end

pub calls_at : (a b : Agent) (k s : ℕ) → IsStep a b k s → (st : EndState) → calls_of (link_at st b.links) + starts (waiting_at st b.agenda) ≤ calls_of (link_at st a.links) + starts (waiting_at st a.agenda)
calls_at a b k s f Unmade = omega arith
calls_at a b k s f (There j) = f.calls j
calls_at a b k s f Gone = omega arith

-- STOP may be put at the end of the number
pub stops_at : (a b : Agent) (k s g : ℕ) → IsStep a b k s → (st : EndState) → (st ≡ There k → s ≤ g) → stops (waiting_at st b.agenda) ≤ stops (waiting_at st a.agenda) + g
stops_at a b k s g f Unmade gain = omega arith
stops_at a b k s g f (There j) gain = elim (cases_Bool (k == j)) [
  | inl is ↦ (let e : stops (waiting_on j b.agenda) ≤ stops (waiting_on j a.agenda) + s = (rw is at (f.stops j)) in let le = gain (ap There (sym (eqb-true k j is))) in omega (arith, e, le))
  | inr isnt ↦ (let e : stops (waiting_on j b.agenda) ≤ stops (waiting_on j a.agenda) + 0 = (rw isnt at (f.stops j)) in omega (arith, e))
]
stops_at a b k s g f Gone gain = omega arith

pub leads_at : (a b : Agent) (k s : ℕ) → IsStep a b k s → (x : Item) → IsAtLeast a.items x → (st : EndState) (front : List ManagementMessage) → Leads x (front ++ waiting_at st a.agenda) → Leads x (front ++ waiting_at st b.agenda)
leads_at a b k s f x h Unmade front e = e
leads_at a b k s f x h (There j) front e = f.leads x h j front e
leads_at a b k s f x h Gone front e = e
