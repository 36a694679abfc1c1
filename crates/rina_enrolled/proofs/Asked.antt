-- A joiner asks once: of the calls without an answer at its end, START on its way to the member, and STOP on its way back there is one at most.
use Rattle.std.proofs.Common.{◌≡◌, ℕ, ◌+◌, ◌≤◌, ◌==◌, List, [], ◌∷◌, ◌++◌, Option, None, refl, sym, ◌∙◌, ap, subst, inl, inr, arith}
use Rattle.std.specs.Prelude.{find}
use Rattle.std.proofs.lemmas.Bool.{cases_Bool, both_ways, eq-eqb, eqb-true}
use Rattle.rina_enrol.specs.declared.message.LinkMessage.{LinkMessage}
use Rattle.rina_newest.specs.declared.item.Item.{Item}
use Rattle.rina_agent.specs.declared.agent.Agent.{Agent}
use Rattle.rina_agent.specs.declared.link.Link.{Link}
use Rattle.rina_agent.specs.declared.message.ManagementMessage.{ManagementMessage}
use Rattle.rina_agent.specs.declared.message.ManagementMessage.TheVariants.{ToNeighbour, ToMember}
use Rattle.rina_agent.specs.declared.message.Waiting.{Waiting}
use Rattle.rina_agent.specs.declared.state.AgentError.{AgentError}
use Rattle.rina_agent.specs.Agenda.{waiting_on, without_first}
use Rattle.rina_agent.specs.Counts.{spent, unless}
use Rattle.rina_agent.specs.Enrolled.{done}
use Rattle.rina_agent.specs.Enrolments.{is_numbered}
use Rattle.rina_agent.specs.Items.{made}
use Rattle.rina_agent.specs.Rows.{handled, joined_link, joining, was_up}
use Rattle.rina_flood.specs.Network.{Side, other, EndState, Unmade, There, Gone, Network, link_at, waiting_at, put_agent, put_ends, put_sent, put_state, unhandled, with_invoke, with_message, with_state, IsFree, IsNewNumber, Row, Make, Put, Draw, Take, Handle, Lose, Leave, Drop, Enrol, Claim, Know, Pass, happens, May, IsRun, after_rows, IsStart, is_enrolled}
use Rattle.rina_flood.proofs.All.{no_messages, row_holds}
use Rattle.rina_flood.proofs.Calls.{at_itself, at_place}
use Rattle.rina_flood.proofs.Holds.{Holds}
use Rattle.rina_flood.proofs.Known.{knower, knower_agenda, knower_links}
use Rattle.rina_flood.proofs.Places.{direction_case, other_back, put_case, same_direction}
use Rattle.rina_flood.proofs.States.{ends_here, ends_other, put_here, put_other}
use Rattle.rina_enrolled.specs.Enrolled.{LosesNone, AllLoseNone}
use Rattle.rina_enrolled.proofs.Ends.{calls_at, claim_step, connect_calls, connect_starts, connect_stops, lose_step, invoke_step, message_step, stops_at}
use Rattle.rina_enrolled.proofs.Marks.{start_near, starts, stops, starts_both, stops_both}
use Rattle.rina_enrolled.proofs.Steps.{IsStep, handled_step, made_step, unless_step}
use Rattle.rina_enrolled.proofs.Taken.{take_unhandled}
use Rattle.rina_enrolled.proofs.Talks.{calls_of, one_call}

module _ (l : ℕ) (d : Side) where
  abbrev pub calling : Network → ℕ
  calling n = calls_of (link_at (n.states l d) (n.agents (n.ends l d)).links)

  abbrev pub AsksOnce : Network → Type 0
  AsksOnce n = calling n + starts (unhandled n l d) + stops (unhandled n l (other d)) ≤ 1

  -- of the messages that wait at the two ends, and those that were sent
  abbrev waits_near : Network → ℕ
  waits_near n = calling n + starts (waiting_at (n.states l d) (n.agents (n.ends l d)).agenda)

  abbrev waits_far : Network → ℕ
  waits_far n = stops (waiting_at (n.states l (other d)) (n.agents (n.ends l (other d))).agenda)

  asks_by : (n n' : Network) (g : ℕ) → waits_near n' ≤ waits_near n → waits_far n' ≤ waits_far n + g → starts (n'.sent l d) + g ≤ starts (n.sent l d) → stops (n'.sent l (other d)) ≤ stops (n.sent l (other d)) → AsksOnce n → AsksOnce n'
  asks_by n n' g near far flies back once =
      let a = starts_both (n.sent l d) (waiting_at (n.states l d) (n.agents (n.ends l d)).agenda) in
      let b = starts_both (n'.sent l d) (waiting_at (n'.states l d) (n'.agents (n'.ends l d)).agenda) in
      let p = stops_both (n.sent l (other d)) (waiting_at (n.states l (other d)) (n.agents (n.ends l (other d))).agenda) in
      let q = stops_both (n'.sent l (other d)) (waiting_at (n'.states l (other d)) (n'.agents (n'.ends l (other d))).agenda) in
      omega (arith, near, far, flies, back, once, a, b, p, q)

  -- a call of one member
  called_asks : (n : Network) (i : ℕ) (b : Agent) (k s g : ℕ) (sent : ℕ → Side → List ManagementMessage) → IsStep (n.agents i) b k s → (n.ends l (other d) ≡ i → n.states l (other d) ≡ There k → s ≤ g)
      → starts (sent l d) + g ≤ starts (n.sent l d) → stops (sent l (other d)) ≤ stops (n.sent l (other d)) → AsksOnce n → AsksOnce (record n { agents = put_agent i b n.agents; sent = sent })
  called_asks n i b k s g sent step gain flies back once =
      let near = n.states l d in
      let far = n.states l (other d) in
      asks_by n (record n { agents = put_agent i b n.agents; sent = sent }) g
      (at_place (λ a c. calls_of (link_at near c.links) + starts (waiting_at near c.agenda) ≤ calls_of (link_at near a.links) + starts (waiting_at near a.agenda)) i b n.agents (n.ends l d) (calls_at (n.agents i) b k s step near) (λ a. omega arith))
      (put_case (λ (c : Agent). stops (waiting_at far c.agenda) ≤ waits_far n + g) (n.ends l (other d)) i b (n.agents (n.ends l (other d)))
      (λ is. (let P : ℕ → Type 0 = λ j. stops (waiting_at far b.agenda) ≤ stops (waiting_at far (n.agents j).agenda) + g in subst P (sym is) (stops_at (n.agents i) b k s g step far (λ there. gain is there))))
      (λ apart. omega arith))
      flies back once

  alone_asks : (n : Network) (i : ℕ) (b : Agent) → IsStep (n.agents i) b 0 0 → AsksOnce n → AsksOnce (record n { agents = put_agent i b n.agents })
  alone_asks n i b step once = called_asks n i b 0 0 0 n.sent step (λ is there. omega arith) (omega arith) (omega arith) once

  -- A message is handled

  rest_less : (n : Network) (link : ℕ) (side : Side) (m : ManagementMessage) (rest : List ManagementMessage) → n.sent link side ≡ m ∷ rest → (t : Side) → stops (put_sent link side rest n.sent l t) ≤ stops (n.sent l t)
  rest_less n link side m rest first t = direction_case (λ ms. stops ms ≤ stops (n.sent l t)) link side l t rest (n.sent l t)
      (λ a b. (let e : stops (n.sent l t) ≡ stops (m ∷ rest) = ap (λ (j : ℕ). stops (n.sent j t)) a ∙ ap (λ (u : Side). stops (n.sent link u)) b ∙ ap stops first in omega (arith, e)))
      (λ apart. omega arith)

  opposite : (side : Side) → other d ≡ other side → d ≡ side
  opposite side e = sym (other_back d) ∙ ap other e ∙ other_back side

  handle_asks : (n : Network) (link : ℕ) (side : Side) (k : ℕ) (m : LinkMessage) (rest : List ManagementMessage) → Holds n → n.states link (other side) ≡ There k → n.sent link side ≡ ToNeighbour m ∷ rest → AsksOnce n → AsksOnce (happens n (Handle link side k (ToNeighbour m) rest))
  handle_asks n link side k m rest h there first once =
      let i = n.ends link (other side) in
      let b = done (n.agents i) (handled (n.agents i) n.now k m) in
      let sent = put_sent link side rest n.sent in
      let step = handled_step (n.agents i) n.now k m in
      let back = rest_less n link side (ToNeighbour m) rest first (other d) in
      elim (same_direction link side l d) [
        | inl on ↦
            (let now : sent l d ≡ rest = direction_case (λ ms. ms ≡ rest) link side l d rest (n.sent l d) (λ x y. refl) (λ apart. absurd (apart on)) in
            let was : n.sent l d ≡ ToNeighbour m ∷ rest = ap (λ (j : ℕ). n.sent j d) on.0 ∙ ap (λ (u : Side). n.sent link u) on.1 ∙ first in
            let x = ap starts now in
            let y : starts (n.sent l d) ≡ start_near m + starts rest = ap starts was in
            called_asks n i b k (start_near m) (start_near m) sent step (λ is at. omega arith) (omega (arith, x, y)) back once)
        | inr off ↦
            (let now : sent l d ≡ n.sent l d = direction_case (λ ms. ms ≡ n.sent l d) link side l d rest (n.sent l d) (λ x y. absurd (off (x, y))) (λ apart. refl) in
            let x = ap starts now in
            called_asks n i b k (start_near m) 0 sent step
            (λ is at. (let same = h.laid.laid l (other d) link (other side) k is at there in absurd (off (same.0, opposite side same.1))))
            (omega (arith, x)) back once)
      ]

  -- one about a flow
  pop_asks : (n : Network) (link : ℕ) (side : Side) (m : ManagementMessage) (rest : List ManagementMessage) → n.sent link side ≡ m ∷ rest → AsksOnce n → AsksOnce (record n { sent = put_sent link side rest n.sent })
  pop_asks n link side m rest first once =
      let fewer : starts (put_sent link side rest n.sent l d) ≤ starts (n.sent l d) = direction_case (λ ms. starts ms ≤ starts (n.sent l d)) link side l d rest (n.sent l d)
      (λ a b. (let e : starts (n.sent l d) ≡ starts (m ∷ rest) = ap (λ (j : ℕ). starts (n.sent j d)) a ∙ ap (λ (u : Side). starts (n.sent link u)) b ∙ ap starts first in omega (arith, e)))
      (λ apart. omega arith) in
      asks_by n (record n { sent = put_sent link side rest n.sent }) 0 (omega arith) (omega arith) (omega (arith, fewer)) (rest_less n link side m rest first (other d)) once

  -- Messages that were sent on another link are lost

  drop_asks : (n : Network) (link : ℕ) (side : Side) (left : List ManagementMessage) → (link ≡ l → ⊥) → AsksOnce n → AsksOnce (record n { sent = put_sent link side left n.sent })
  drop_asks n link side left apart once =
      let same : (t : Side) → put_sent link side left n.sent l t ≡ n.sent l t = λ t. direction_case (λ ms. ms ≡ n.sent l t) link side l t left (n.sent l t) (λ a b. absurd (apart (sym a))) (λ off. refl) in
      let x = ap starts (same d) in
      let y = ap stops (same (other d)) in
      asks_by n (record n { sent = put_sent link side left n.sent }) 0 (omega arith) (omega arith) (omega (arith, x)) (omega (arith, y)) once

  -- A message is taken

  take_asks : (n : Network) (link : ℕ) (side : Side) (k : ℕ) (m : ManagementMessage) → Holds n → May n (Take link side k m) → AsksOnce n → AsksOnce (happens n (Take link side k m))
  take_asks n link side k m h may once =
      let i = n.ends link side in
      let same = take_unhandled n link side k m h.laid.laid may.0 may.1 in
      let x = ap starts (same l d) in
      let y = ap stops (same l (other d)) in
      let c : calling (happens n (Take link side k m)) ≡ calling n = at_place (λ a c. calls_of (link_at (n.states l d) c.links) ≡ calls_of (link_at (n.states l d) a.links)) i (record (n.agents i) { agenda = without_first k (n.agents i).agenda }) n.agents (n.ends l d) refl (λ a. refl) in
      omega (arith, x, y, c, once)

  -- An end is gone, or made

  leave_asks : (n : Network) (link : ℕ) (side : Side) → AsksOnce n → AsksOnce (with_state n link side Gone)
  leave_asks n link side once =
      let a = n.agents (n.ends l d) in
      let b = n.agents (n.ends l (other d)) in
      asks_by n (with_state n link side Gone) 0
      (direction_case (λ (st : EndState). calls_of (link_at st a.links) + starts (waiting_at st a.agenda) ≤ waits_near n) link side l d Gone (n.states l d) (λ x y. omega arith) (λ off. omega arith))
      (direction_case (λ (st : EndState). stops (waiting_at st b.agenda) ≤ waits_far n + 0) link side l (other d) Gone (n.states l (other d)) (λ x y. omega arith) (λ off. omega arith))
      (omega arith) (omega arith) once

  -- at a new number nothing waits, and no link is
  claim_asks : (n : Network) (link : ℕ) (side : Side) (k : ℕ) → May n (Claim link side k) → AsksOnce n → AsksOnce (happens n (Claim link side k))
  claim_asks n link side k may once =
      let new = may.1 in
      let i = n.ends link side in
      let fresh : (t : Side) → l ≡ link → t ≡ side → n.ends l t ≡ i = λ t x y. ap (λ (j : ℕ). n.ends j t) x ∙ ap (λ (u : Side). n.ends link u) y in
      let calls : (t : Side) → l ≡ link → t ≡ side → calls_of (find (is_numbered k) (n.agents (n.ends l t)).links) ≡ 0 = λ t x y. ap (λ (j : ℕ). calls_of (find (is_numbered k) (n.agents j).links)) (fresh t x y) ∙ ap calls_of new.links in
      let silent : (t : Side) → l ≡ link → t ≡ side → waiting_on k (n.agents (n.ends l t)).agenda ≡ [] = λ t x y. ap (λ (j : ℕ). waiting_on k (n.agents j).agenda) (fresh t x y) ∙ new.agenda in
      let a = n.agents (n.ends l d) in
      let b = n.agents (n.ends l (other d)) in
      let laid : AsksOnce (with_state n link side (There k)) = asks_by n (with_state n link side (There k)) 0
      (direction_case (λ (st : EndState). calls_of (link_at st a.links) + starts (waiting_at st a.agenda) ≤ waits_near n) link side l d (There k) (n.states l d) (λ x y. (let c = calls d x y in let w = ap starts (silent d x y) in omega (arith, c, w))) (λ off. omega arith))
      (direction_case (λ (st : EndState). stops (waiting_at st b.agenda) ≤ waits_far n + 0) link side l (other d) (There k) (n.states l (other d)) (λ x y. (let w = ap stops (silent (other d) x y) in omega (arith, w))) (λ off. omega arith))
      (omega arith) (omega arith) once in
      alone_asks (with_state n link side (There k)) i (record (n.agents i) { links = (n.agents i).links ++ joined_link k ∷ [] }) (claim_step (n.agents i) k 0 0) laid

  -- A member asks for an enrolment on a new link

  module _ (n : Network) (link : ℕ) (side : Side) (k i j : ℕ) (member node : List ℕ) (free : IsFree n link) (new : IsNewNumber n i k) where
    abbrev joins : Agent
    joins = joining (n.agents i) k member node

    abbrev grown : Network
    grown = record n { ends = put_ends link side i j n.ends; states = put_state link side (There k) n.states; agents = put_agent i joins n.agents }

    -- on the new link nothing waits but CONNECT
    fresh_starts : (t : Side) → l ≡ link → starts (waiting_at (grown.states l t) (grown.agents (grown.ends l t)).agenda) ≡ 0
    fresh_starts t on = elim (same_direction link side l t) [
      | inl here ↦
          ap (λ (st : EndState). starts (waiting_at st (grown.agents (grown.ends l t)).agenda)) (put_here link side (There k) n.states l t here.0 here.1)
          ∙ ap (λ (e : ℕ). starts (waiting_on k (grown.agents e).agenda)) (ends_here link side i j n.ends l t here.0 here.1)
          ∙ ap (λ (c : Agent). starts (waiting_on k c.agenda)) (at_itself i joins n.agents)
          ∙ connect_starts (n.agents i) k member node k ∙ ap starts new.agenda
      | inr off ↦ ap (λ (st : EndState). starts (waiting_at st (grown.agents (grown.ends l t)).agenda)) (put_other link side (There k) n.states l t off ∙ ap (λ (m : ℕ). n.states m t) on ∙ (free t).0)
    ]

    fresh_stops : (t : Side) → l ≡ link → stops (waiting_at (grown.states l t) (grown.agents (grown.ends l t)).agenda) ≡ 0
    fresh_stops t on = elim (same_direction link side l t) [
      | inl here ↦
          ap (λ (st : EndState). stops (waiting_at st (grown.agents (grown.ends l t)).agenda)) (put_here link side (There k) n.states l t here.0 here.1)
          ∙ ap (λ (e : ℕ). stops (waiting_on k (grown.agents e).agenda)) (ends_here link side i j n.ends l t here.0 here.1)
          ∙ ap (λ (c : Agent). stops (waiting_on k c.agenda)) (at_itself i joins n.agents)
          ∙ connect_stops (n.agents i) k member node k ∙ ap stops new.agenda
      | inr off ↦ ap (λ (st : EndState). stops (waiting_at st (grown.agents (grown.ends l t)).agenda)) (put_other link side (There k) n.states l t off ∙ ap (λ (m : ℕ). n.states m t) on ∙ (free t).0)
    ]

    fresh_asks : l ≡ link → AsksOnce grown
    fresh_asks on =
        let sent : (t : Side) → n.sent l t ≡ [] = λ t. ap (λ (m : ℕ). n.sent m t) on ∙ (free t).1 in
        let a = starts_both (n.sent l d) (waiting_at (grown.states l d) (grown.agents (grown.ends l d)).agenda) in
        let b = stops_both (n.sent l (other d)) (waiting_at (grown.states l (other d)) (grown.agents (grown.ends l (other d))).agenda) in
        let p = ap starts (sent d) in
        let q = ap stops (sent (other d)) in
        let v = fresh_starts d on in
        let w = fresh_stops (other d) on in
        let one = one_call (link_at (grown.states l d) (grown.agents (grown.ends l d)).links) in
        omega (arith, a, b, p, q, v, w, one)

    -- on others nothing changes
    near_still : (st : EndState) → n.states l d ≡ st → n.ends l d ≡ i → calls_of (link_at st joins.links) + starts (waiting_at st joins.agenda) ≤ calls_of (link_at st (n.agents i).links) + starts (waiting_at st (n.agents i).agenda)
    near_still Unmade there is = omega arith
    near_still (There m) there is =
        let c = connect_calls (n.agents i) k member node m (λ same. new.ends l d is (there ∙ ap There (sym same))) in
        let w = connect_starts (n.agents i) k member node m in
        omega (arith, c, w)
    near_still Gone there is = omega arith

    far_still : (st : EndState) → stops (waiting_at st joins.agenda) ≤ stops (waiting_at st (n.agents i).agenda)
    far_still Unmade = omega arith
    far_still (There m) = (let w = connect_stops (n.agents i) k member node m in omega (arith, w))
    far_still Gone = omega arith

    others_ask : (l ≡ link → ⊥) → AsksOnce n → AsksOnce grown
    others_ask off once =
        let states : (t : Side) → grown.states l t ≡ n.states l t = λ t. put_other link side (There k) n.states l t (λ on. off on.0) in
        let ends : (t : Side) → grown.ends l t ≡ n.ends l t = λ t. ends_other link side i j n.ends l t off in
        let near : EndState → ℕ → ℕ = λ st e. calls_of (link_at st (grown.agents e).links) + starts (waiting_at st (grown.agents e).agenda) in
        let far : EndState → ℕ → ℕ = λ st e. stops (waiting_at st (grown.agents e).agenda) in
        let near_same : waits_near grown ≡ near (n.states l d) (n.ends l d) = ap (λ (st : EndState). near st (grown.ends l d)) (states d) ∙ ap (λ (e : ℕ). near (n.states l d) e) (ends d) in
        let far_same : waits_far grown ≡ far (n.states l (other d)) (n.ends l (other d)) = ap (λ (st : EndState). far st (grown.ends l (other d))) (states (other d)) ∙ ap (λ (e : ℕ). far (n.states l (other d)) e) (ends (other d)) in
        let near_less : near (n.states l d) (n.ends l d) ≤ waits_near n = put_case (λ (c : Agent). calls_of (link_at (n.states l d) c.links) + starts (waiting_at (n.states l d) c.agenda) ≤ waits_near n) (n.ends l d) i joins (n.agents (n.ends l d))
        (λ is. (let P : ℕ → Type 0 = λ e. calls_of (link_at (n.states l d) joins.links) + starts (waiting_at (n.states l d) joins.agenda) ≤ calls_of (link_at (n.states l d) (n.agents e).links) + starts (waiting_at (n.states l d) (n.agents e).agenda) in
        subst P (sym is) (near_still (n.states l d) refl is)))
        (λ apart. omega arith) in
        let far_less : far (n.states l (other d)) (n.ends l (other d)) ≤ waits_far n = put_case (λ (c : Agent). stops (waiting_at (n.states l (other d)) c.agenda) ≤ waits_far n) (n.ends l (other d)) i joins (n.agents (n.ends l (other d)))
        (λ is. (let P : ℕ → Type 0 = λ e. stops (waiting_at (n.states l (other d)) joins.agenda) ≤ stops (waiting_at (n.states l (other d)) (n.agents e).agenda) in
        subst P (sym is) (far_still (n.states l (other d)))))
        (λ apart. omega arith) in
        asks_by n grown 0 (omega (arith, near_same, near_less)) (omega (arith, far_same, far_less)) (omega arith) (omega arith) once

    grown_asks : AsksOnce n → AsksOnce grown
    grown_asks once = elim (cases_Bool (l == link)) [
      | inl is ↦ fresh_asks (eqb-true l link is)
      | inr isnt ↦ others_ask (λ on. both_ways (l == link) isnt (eq-eqb l link on)) once
    ]

  enrol_asks : (n : Network) (link : ℕ) (side : Side) (k i j : ℕ) (member node : List ℕ) → May n (Enrol link side k i j member node) → AsksOnce n → AsksOnce (happens n (Enrol link side k i j member node))
  enrol_asks n link side k i j member node may once =
      let P : Option AgentError → Type 0 = λ o. AsksOnce (record n { ends = put_ends link side i j n.ends; states = put_state link side (There k) n.states; agents = put_agent i (done (n.agents i) (unless o (joining (n.agents i) k member node))) n.agents }) in
      subst P (sym may.4) (grown_asks n link side k i j member node may.0 may.1 once)

  -- All rows

  know_asks : (n : Network) (x : Item) → AsksOnce n → AsksOnce (happens n (Know x))
  know_asks n x once =
      let near : (i : ℕ) → (knower (is_enrolled (n.agents i)) x (n.agents i)).links ≡ (n.agents i).links = λ i. knower_links (is_enrolled (n.agents i)) x (n.agents i) in
      let waits : (i : ℕ) → (knower (is_enrolled (n.agents i)) x (n.agents i)).agenda ≡ (n.agents i).agenda = λ i. knower_agenda (is_enrolled (n.agents i)) x (n.agents i) in
      let c = ap (λ (ls : List Link). calls_of (link_at (n.states l d) ls)) (near (n.ends l d)) in
      let a = ap (λ (ws : List Waiting). starts (waiting_at (n.states l d) ws)) (waits (n.ends l d)) in
      let b = ap (λ (ws : List Waiting). stops (waiting_at (n.states l (other d)) ws)) (waits (n.ends l (other d))) in
      asks_by n (happens n (Know x)) 0 (omega (arith, a, c)) (omega (arith, b)) (omega arith) (omega arith) once

  row_asks : (n : Network) (row : Row) → Holds n → May n row → LosesNone l row → AsksOnce n → AsksOnce (happens n row)
  row_asks n (Make i key value) h may none once = alone_asks n i _ (unless_step (spent 1 (n.agents i).last_count) (n.agents i) (made None (n.agents i) n.now key value) 0 0 (made_step None (n.agents i) n.now key value 0 0)) once
  row_asks n (Put i number m) h may none once = alone_asks n i (with_message (n.agents i) number m) (message_step (n.agents i) number m 0 0) once
  row_asks n (Draw i) h may none once = alone_asks n i (with_invoke (n.agents i)) (invoke_step (n.agents i) 0 0) once
  row_asks n (Take link side number m) h may none once = take_asks n link side number m h may once
  row_asks n (Handle link side number (ToNeighbour m) rest) h may none once = handle_asks n link side number m rest h may.0 may.1 once
  row_asks n (Handle link side number (ToMember m) rest) h may none once = pop_asks n link side (ToMember m) rest may.1 once
  row_asks n (Lose link side number) h may none once =
      let i = n.ends link side in
      let a = n.agents i in
      alone_asks n i _ (lose_step (was_up (find (is_numbered number) a.links)) (spent 1 a.last_count) a n.now number 0 0 (h.laid.apart i)) once
  row_asks n (Leave link side number) h may none once = leave_asks n link side once
  row_asks n (Drop link side left) h may none once = drop_asks n link side left none once
  row_asks n (Enrol link side number i j member node) h may none once = enrol_asks n link side number i j member node may once
  row_asks n (Claim link side number) h may none once = claim_asks n link side number may once
  row_asks n (Know x) h may none once = know_asks n x once
  row_asks n Pass h may none once = once

  pub rows_ask : (n : Network) (rows : List Row) → Holds n → IsRun n rows → AllLoseNone l rows → AsksOnce n → AsksOnce (after_rows n rows)
  rows_ask n [] h run none once = once
  rows_ask n (row ∷ rows) h run none once = rows_ask (happens n row) rows (row_holds n row h run.0) run.1 none.1 (row_asks n row h run.0 none.0 once)

  pub start_asks : (n : Network) (told : List Item) → IsStart n told → AsksOnce n
  start_asks n told s =
      let a = ap starts (no_messages n told s l d) in
      let b = ap stops (no_messages n told s l (other d)) in
      let one = one_call (link_at (n.states l d) (n.agents (n.ends l d)).links) in
      omega (arith, a, b, one)
