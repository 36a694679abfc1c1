-- An item that a member keeps while no STOP is on its way to the joiner: from then on it comes before STOP, or the joiner keeps it.
use Rattle.std.proofs.Common.{◌≡◌, ℕ, ◌⊎◌, true, false, List, [], ◌∷◌, ◌++◌, Option, Some, None, refl, sym, ◌∙◌, ap, subst, inl, inr}
use Rattle.std.specs.Prelude.{find}
use Rattle.std.proofs.lemmas.List.{append-nil}
use Rattle.rina_enrol.specs.declared.message.LinkMessage.{LinkMessage}
use Rattle.rina_enrol.specs.declared.message.LinkMessage.TheVariants as messages
use Rattle.rina_newest.specs.declared.item.Item.{Item}
use Rattle.rina_newest.specs.Newest.{is_below, kept_at}
use Rattle.rina_agent.specs.declared.agent.Agent.{Agent}
use Rattle.rina_agent.specs.declared.message.ManagementMessage.{ManagementMessage}
use Rattle.rina_agent.specs.declared.message.ManagementMessage.TheVariants.{ToNeighbour, ToMember}
use Rattle.rina_agent.specs.declared.message.Waiting.{Waiting}
use Rattle.rina_agent.specs.declared.state.AgentError.{AgentError}
use Rattle.rina_agent.specs.Counts.{spent, unless}
use Rattle.rina_agent.specs.Enrolled.{IsAtLeast, Event, Handles, Makes, Enrols, Claims, Loses, Takes, after, done}
use Rattle.rina_agent.specs.Enrolments.{is_numbered}
use Rattle.rina_agent.specs.Items.{made}
use Rattle.rina_agent.specs.Rows.{handled, joined_link, joining, was_up}
use Rattle.rina_agent.proofs.Keeping.{events_keep, handled_is_kept}
use Rattle.rina_agent.proofs.Taking.{taken_keeps}
use Rattle.rina_flood.specs.Network.{Side, other, EndState, Unmade, There, Gone, Network, waiting_at, put_agent, put_ends, put_sent, put_state, unhandled, carried, item_in, with_invoke, with_message, IsFree, Row, Make, Put, Draw, Take, Handle, Lose, Leave, Drop, Enrol, Claim, Know, Pass, happens, May, IsRun, after_rows, is_enrolled}
use Rattle.rina_flood.specs.Laws.{IsComing}
use Rattle.rina_flood.proofs.All.{row_holds}
use Rattle.rina_flood.proofs.Calls.{at_place}
use Rattle.rina_flood.proofs.Flow.{least_on}
use Rattle.rina_flood.proofs.Holds.{Holds}
use Rattle.rina_flood.proofs.Known.{knower, knower_agenda}
use Rattle.rina_flood.proofs.Places.{direction_case, in_one, nothing_in, other_back, put_case, same_direction}
use Rattle.rina_flood.proofs.States.{ends_other, put_other}
use Rattle.rina_enrolled.specs.Enrolled.{LosesNone, AllLoseNone}
use Rattle.rina_enrolled.proofs.Ends.{claim_step, connect_leads, leads_at, lose_step, invoke_step, message_step}
use Rattle.rina_enrolled.proofs.Marks.{start_near, Leads, leads_front}
use Rattle.rina_enrolled.proofs.Steps.{IsStep, handled_step, made_step, unless_step}
use Rattle.rina_enrolled.proofs.Taken.{take_unhandled}

-- What is kept stays, or gets newer

event_keeps : (x : Item) (n : Network) (i : ℕ) (e : Event) (j : ℕ) → IsAtLeast (n.agents j).items x → IsAtLeast (put_agent i (after (n.agents i) e) n.agents j).items x
event_keeps x n i e j = at_place (λ a c. IsAtLeast a.items x → IsAtLeast c.items x) i (after (n.agents i) e) n.agents j (events_keep (n.agents i) (e ∷ []) x) (λ a h. h)

known_keeps : (taking : _) (y : Item) (a : Agent) (x : Item) → IsAtLeast a.items x → IsAtLeast (knower taking y a).items x
known_keeps true y a x h = taken_keeps a.items y x h
known_keeps false y a x h = h

pub row_keeps : (x : Item) (n : Network) (row : Row) (j : ℕ) → IsAtLeast (n.agents j).items x → IsAtLeast ((happens n row).agents j).items x
row_keeps x n (Make i key value) j h = event_keeps x n i (Makes n.now key value) j h
row_keeps x n (Put i number m) j h = at_place (λ a c. IsAtLeast a.items x → IsAtLeast c.items x) i (with_message (n.agents i) number m) n.agents j (λ e. e) (λ a e. e) h
row_keeps x n (Draw i) j h = at_place (λ a c. IsAtLeast a.items x → IsAtLeast c.items x) i (with_invoke (n.agents i)) n.agents j (λ e. e) (λ a e. e) h
row_keeps x n (Take link side number m) j h = event_keeps x n (n.ends link side) (Takes number) j h
row_keeps x n (Handle link side number (ToNeighbour m) rest) j h = event_keeps x n (n.ends link (other side)) (Handles n.now number m) j h
row_keeps x n (Handle link side number (ToMember m) rest) j h = h
row_keeps x n (Lose link side number) j h = event_keeps x n (n.ends link side) (Loses n.now number) j h
row_keeps x n (Leave link side number) j h = h
row_keeps x n (Drop link side left) j h = h
row_keeps x n (Enrol link side number i other_end member node) j h = event_keeps x n i (Enrols number member node) j h
row_keeps x n (Claim link side number) j h = event_keeps x n (n.ends link side) (Claims number) j h
row_keeps x n (Know y) j h = known_keeps (is_enrolled (n.agents j)) y (n.agents j) x h
row_keeps x n Pass j h = h

-- An item that comes is kept

came_item : (a : Agent) (now k : ℕ) (x y : Item) → IsComing (y ∷ []) x → IsAtLeast (after a (Handles now k (messages.Item y))).items x
came_item a now k x y comes =
    let got = handled_is_kept a (Handles now k (messages.Item y) ∷ []) y (record { before = []; now = now; link = k; behind = []; is = refl }) in
    let items = (after a (Handles now k (messages.Item y))).items in
    let is = in_one y comes.item comes.among in
    let key : y.key ≡ x.key = ap (λ (z : Item). z.key) is ∙ comes.same in
    let least : is_below y.version x.version ≡ false = ap (λ (z : Item). is_below z.version x.version) is ∙ comes.least in
    record { item = got.item; kept = ap (λ (q : List ℕ). kept_at items q) (sym key) ∙ got.kept; least = least_on x.version y.version got.item.version least got.least }

no_item : (x : Item) (P : Type 0) → IsComing [] x → P
no_item x P comes = absurd (nothing_in comes.item comes.among)

came : (a : Agent) (now k : ℕ) (m : LinkMessage) (x : Item) → IsComing (item_in m) x → IsAtLeast (after a (Handles now k m)).items x
came a now k (messages.Connect invoke joiner member) x comes = no_item x _ comes
came a now k (messages.ConnectR invoke denied) x comes = no_item x _ comes
came a now k (messages.Start invoke address) x comes = no_item x _ comes
came a now k (messages.StartR invoke) x comes = no_item x _ comes
came a now k (messages.Item y) x comes = came_item a now k x y comes
came a now k (messages.Stop invoke) x comes = no_item x _ comes
came a now k (messages.StopR invoke) x comes = no_item x _ comes
came a now k (messages.Flood y) x comes = came_item a now k x y comes

pub unmade_not : (st : EndState) (k : ℕ) → st ≡ There k → st ≡ Unmade → ⊥
unmade_not st k a b = (let clash : There k ≡ Unmade = sym a ∙ b in absurd (cc))

gone_not : (st : EndState) → st ≡ Gone → st ≡ Unmade → ⊥
gone_not st a b = (let clash : Gone ≡ Unmade = sym a ∙ b in absurd (cc))

-- The joiner is at the end d

module _ (l : ℕ) (d : Side) (x : Item) where
  pub record IsLed (n : Network) : Type 0 where
    pub made : n.states l (other d) ≡ Unmade → ⊥
    pub kept : IsAtLeast (n.agents (n.ends l (other d))).items x
    pub ahead : IsAtLeast (n.agents (n.ends l d)).items x ⊎ Leads x (unhandled n l (other d))

  led_by : (n : Network) (row : Row) → ((t : Side) → (happens n row).ends l t ≡ n.ends l t) → ((happens n row).states l (other d) ≡ Unmade → ⊥)
      → (Leads x (unhandled n l (other d)) → IsAtLeast ((happens n row).agents (n.ends l d)).items x ⊎ Leads x (unhandled (happens n row) l (other d))) → IsLed n → IsLed (happens n row)
  led_by n row ends made leads s =
      let P : ℕ → Type 0 = λ i. IsAtLeast ((happens n row).agents i).items x in
      record {
        made = made;
        kept = subst P (sym (ends (other d))) (row_keeps x n row (n.ends l (other d)) s.kept);
        ahead = elim s.ahead [
          | inl has ↦ inl (subst P (sym (ends d)) (row_keeps x n row (n.ends l d) has))
          | inr e ↦ elim (leads e) [
            | inl has ↦ inl (subst P (sym (ends d)) has)
            | inr still ↦ inr still
          ]
        ];
      }

  -- a call of one member, after which these messages are in front of those that wait
  called_leads : (n : Network) (i : ℕ) (b : Agent) (k s : ℕ) (front : List ManagementMessage) → IsStep (n.agents i) b k s → IsLed n → Leads x (front ++ waiting_at (n.states l (other d)) (n.agents (n.ends l (other d))).agenda)
      → Leads x (front ++ waiting_at (n.states l (other d)) (put_agent i b n.agents (n.ends l (other d))).agenda)
  called_leads n i b k s front step led = at_place (λ a c. IsAtLeast a.items x → Leads x (front ++ waiting_at (n.states l (other d)) a.agenda) → Leads x (front ++ waiting_at (n.states l (other d)) c.agenda)) i b n.agents (n.ends l (other d))
      (λ h e. leads_at (n.agents i) b k s step x h (n.states l (other d)) front e) (λ a h e. e) led.kept

  -- A message is handled

  handle_leads : (n : Network) (link : ℕ) (side : Side) (k : ℕ) (m : LinkMessage) (rest : List ManagementMessage) → n.sent link side ≡ ToNeighbour m ∷ rest → IsLed n → Leads x (unhandled n l (other d))
      → IsAtLeast ((happens n (Handle link side k (ToNeighbour m) rest)).agents (n.ends l d)).items x ⊎ Leads x (unhandled (happens n (Handle link side k (ToNeighbour m) rest)) l (other d))
  handle_leads n link side k m rest first led e =
      let i = n.ends link (other side) in
      let b = done (n.agents i) (handled (n.agents i) n.now k m) in
      let step = handled_step (n.agents i) n.now k m in
      let sent = put_sent link side rest n.sent in
      let behind = waiting_at (n.states l (other d)) (n.agents (n.ends l (other d))).agenda in
      let P : List ManagementMessage → Type 0 = λ ms. Leads x (ms ++ behind) in
      elim (same_direction link side l (other d)) [
        | inl on ↦
            (let now : sent l (other d) ≡ rest = direction_case (λ ms. ms ≡ rest) link side l (other d) rest (n.sent l (other d)) (λ y z. refl) (λ apart. absurd (apart on)) in
            let was : n.sent l (other d) ≡ ToNeighbour m ∷ rest = ap (λ (j : ℕ). n.sent j (other d)) on.0 ∙ ap (λ (u : Side). n.sent link u) on.1 ∙ first in
            let there : n.ends l d ≡ i = ap (λ (j : ℕ). n.ends j d) on.0 ∙ ap (λ (u : Side). n.ends link u) (sym (other_back d) ∙ ap other on.1) in
            elim (subst P was e) [
              | inl comes ↦ inl (put_case (λ (c : Agent). IsAtLeast c.items x) (n.ends l d) i b (n.agents (n.ends l d)) (λ is. came (n.agents i) n.now k m x comes) (λ apart. absurd (apart there)))
              | inr more ↦ inr (called_leads n i b k (start_near m) (sent l (other d)) step led (subst P (sym now) more.1))
            ])
        | inr off ↦
            (let now : sent l (other d) ≡ n.sent l (other d) = direction_case (λ ms. ms ≡ n.sent l (other d)) link side l (other d) rest (n.sent l (other d)) (λ y z. absurd (off (y, z))) (λ apart. refl) in
            inr (called_leads n i b k (start_near m) (sent l (other d)) step led (subst P (sym now) e)))
      ]

  pop_leads : (n : Network) (link : ℕ) (side : Side) (m : ManagementMessage) (rest : List ManagementMessage) → carried m ≡ [] → n.sent link side ≡ m ∷ rest → Leads x (unhandled n l (other d)) → Leads x (unhandled (record n { sent = put_sent link side rest n.sent }) l (other d))
  pop_leads n link side m rest empty first =
      let behind = waiting_at (n.states l (other d)) (n.agents (n.ends l (other d))).agenda in
      direction_case (λ ms. Leads x (n.sent l (other d) ++ behind) → Leads x (ms ++ behind)) link side l (other d) rest (n.sent l (other d))
      (λ y z e.
      let P : List ManagementMessage → Type 0 = λ ms. Leads x (ms ++ behind) in
      let Q : List Item → Type 0 = λ items. IsComing items x in
      let was : n.sent l (other d) ≡ m ∷ rest = ap (λ (j : ℕ). n.sent j (other d)) y ∙ ap (λ (u : Side). n.sent link u) z ∙ first in
      elim (subst P was e) [
        | inl comes ↦ no_item x _ (subst Q empty comes)
        | inr more ↦ more.1
      ])
      (λ apart e. e)

  -- The end of the member is no new one

  leave_led : (n : Network) (link : ℕ) (side : Side) (k : ℕ) → IsLed n → IsLed (happens n (Leave link side k))
  leave_led n link side k s =
      let agenda = (n.agents (n.ends l (other d))).agenda in
      let sent = n.sent l (other d) in
      led_by n (Leave link side k) (λ t. refl)
      (direction_case (λ (st : EndState). st ≡ Unmade → ⊥) link side l (other d) Gone (n.states l (other d)) (λ y z e. gone_not Gone refl e) (λ apart. s.made))
      (λ e. inr (direction_case (λ (st : EndState). Leads x (sent ++ waiting_at st agenda)) link side l (other d) Gone (n.states l (other d))
      (λ y z. (let P : List ManagementMessage → Type 0 = λ ms. Leads x ms in subst P (sym (append-nil sent)) (leads_front x sent (waiting_at (n.states l (other d)) agenda) e)))
      (λ apart. e))) s

  claim_led : (n : Network) (link : ℕ) (side : Side) (k : ℕ) → May n (Claim link side k) → IsLed n → IsLed (happens n (Claim link side k))
  claim_led n link side k may s =
      let i = n.ends link side in
      let off : (l ≡ link) × (other d ≡ side) → ⊥ = λ on. s.made (ap (λ (j : ℕ). n.states j (other d)) on.0 ∙ ap (λ (u : Side). n.states link u) on.1 ∙ may.0) in
      let same : put_state link side (There k) n.states l (other d) ≡ n.states l (other d) = put_other link side (There k) n.states l (other d) off in
      let sent = n.sent l (other d) in
      let b : Agent = record (n.agents i) { links = (n.agents i).links ++ joined_link k ∷ [] } in
      led_by n (Claim link side k) (λ t. refl)
      (λ e. s.made (sym same ∙ e))
      (λ e. (let P : EndState → Type 0 = λ st. Leads x (sent ++ waiting_at st (put_agent i b n.agents (n.ends l (other d))).agenda) in
      inr (subst P (sym same) (called_leads n i b k 0 sent (claim_step (n.agents i) k k 0) s e)))) s

  connect_leads_at : (a : Agent) (k : ℕ) (member node : List ℕ) (st : EndState) (front : List ManagementMessage) → Leads x (front ++ waiting_at st a.agenda) → Leads x (front ++ waiting_at st (joining a k member node).agenda)
  connect_leads_at a k member node Unmade front e = e
  connect_leads_at a k member node (There j) front e = connect_leads a k member node x j front e
  connect_leads_at a k member node Gone front e = e

  asked_leads_at : (o : Option AgentError) (a : Agent) (k : ℕ) (member node : List ℕ) (st : EndState) (front : List ManagementMessage) → Leads x (front ++ waiting_at st a.agenda) → Leads x (front ++ waiting_at st (done a (unless o (joining a k member node))).agenda)
  asked_leads_at None a k member node st front e = connect_leads_at a k member node st front e
  asked_leads_at (Some r) a k member node st front e = e

  enrol_led : (n : Network) (link : ℕ) (side : Side) (k i j : ℕ) (member node : List ℕ) → IsFree n link → IsLed n → IsLed (happens n (Enrol link side k i j member node))
  enrol_led n link side k i j member node free s =
      let off : l ≡ link → ⊥ = λ on. s.made (ap (λ (m : ℕ). n.states m (other d)) on ∙ (free (other d)).0) in
      let states : put_state link side (There k) n.states l (other d) ≡ n.states l (other d) = put_other link side (There k) n.states l (other d) (λ on. off on.0) in
      let ends : (t : Side) → put_ends link side i j n.ends l t ≡ n.ends l t = λ t. ends_other link side i j n.ends l t off in
      let sent = n.sent l (other d) in
      let b = done (n.agents i) (unless (spent 1 (n.agents i).last_invoke) (joining (n.agents i) k member node)) in
      let agents = put_agent i b n.agents in
      led_by n (Enrol link side k i j member node) ends
      (λ e. s.made (sym states ∙ e))
      (λ e.
      let P : EndState → Type 0 = λ st. Leads x (sent ++ waiting_at st (agents (put_ends link side i j n.ends l (other d))).agenda) in
      let Q : ℕ → Type 0 = λ m. Leads x (sent ++ waiting_at (n.states l (other d)) (agents m).agenda) in
      inr (subst P (sym states) (subst Q (sym (ends (other d)))
      (at_place (λ a c. Leads x (sent ++ waiting_at (n.states l (other d)) a.agenda) → Leads x (sent ++ waiting_at (n.states l (other d)) c.agenda)) i b n.agents (n.ends l (other d))
      (asked_leads_at (spent 1 (n.agents i).last_invoke) (n.agents i) k member node (n.states l (other d)) sent) (λ a w. w) e)))) s

  -- All rows

  row_led : (n : Network) (row : Row) → Holds n → May n row → LosesNone l row → IsLed n → IsLed (happens n row)
  row_led n (Make i key value) h may none s = led_by n (Make i key value) (λ t. refl) s.made
      (λ e. inr (called_leads n i _ 0 0 (n.sent l (other d)) (unless_step (spent 1 (n.agents i).last_count) (n.agents i) (made None (n.agents i) n.now key value) 0 0 (made_step None (n.agents i) n.now key value 0 0)) s e)) s
  row_led n (Put i number m) h may none s = led_by n (Put i number m) (λ t. refl) s.made
      (λ e. inr (called_leads n i (with_message (n.agents i) number m) 0 0 (n.sent l (other d)) (message_step (n.agents i) number m 0 0) s e)) s
  row_led n (Draw i) h may none s = led_by n (Draw i) (λ t. refl) s.made (λ e. inr (called_leads n i (with_invoke (n.agents i)) 0 0 (n.sent l (other d)) (invoke_step (n.agents i) 0 0) s e)) s
  row_led n (Take link side number m) h may none s = led_by n (Take link side number m) (λ t. refl) s.made
      (λ e. (let P : List ManagementMessage → Type 0 = λ ms. Leads x ms in inr (subst P (sym (take_unhandled n link side number m h.laid.laid may.0 may.1 l (other d))) e))) s
  row_led n (Handle link side number (ToNeighbour m) rest) h may none s = led_by n (Handle link side number (ToNeighbour m) rest) (λ t. refl) s.made (handle_leads n link side number m rest may.1 s) s
  row_led n (Handle link side number (ToMember m) rest) h may none s = led_by n (Handle link side number (ToMember m) rest) (λ t. refl) s.made (λ e. inr (pop_leads n link side (ToMember m) rest refl may.1 e)) s
  row_led n (Lose link side number) h may none s =
      let i = n.ends link side in
      let a = n.agents i in
      led_by n (Lose link side number) (λ t. refl) s.made
      (λ e. inr (called_leads n i _ 0 0 (n.sent l (other d)) (lose_step (was_up (find (is_numbered number) a.links)) (spent 1 a.last_count) a n.now number 0 0 (h.laid.apart i)) s e)) s
  row_led n (Leave link side number) h may none s = leave_led n link side number s
  row_led n (Drop link side left) h may none s = led_by n (Drop link side left) (λ t. refl) s.made
      (λ e. inr (direction_case (λ ms. Leads x (ms ++ waiting_at (n.states l (other d)) (n.agents (n.ends l (other d))).agenda)) link side l (other d) left (n.sent l (other d)) (λ a b. absurd (none (sym a))) (λ apart. e))) s
  row_led n (Enrol link side number i j member node) h may none s = enrol_led n link side number i j member node may.0 s
  row_led n (Claim link side number) h may none s = claim_led n link side number may s
  row_led n (Know y) h may none s = led_by n (Know y) (λ t. refl) s.made
      (λ e.
      let i = n.ends l (other d) in
      let P : List Waiting → Type 0 = λ ws. Leads x (n.sent l (other d) ++ waiting_at (n.states l (other d)) ws) in
      inr (subst P (sym (knower_agenda (is_enrolled (n.agents i)) y (n.agents i))) e)) s
  row_led n Pass h may none s = led_by n Pass (λ t. refl) s.made (λ e. inr e) s

  pub rows_led : (n : Network) (rows : List Row) → Holds n → IsRun n rows → AllLoseNone l rows → IsLed n → IsLed (after_rows n rows)
  rows_led n [] h run none s = s
  rows_led n (row ∷ rows) h run none s = rows_led (happens n row) rows (row_holds n row h run.0) run.1 none.1 (row_led n row h run.0 none.0 s)
