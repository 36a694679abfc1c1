-- On links that were made before a run, which other links it may make, there is no message of an enrolment.
use Rattle.std.proofs.Common.{◌≡◌, ℕ, ◌<◌, ◌⊎◌, Bool, true, false, ◌==◌, List, ◌∷◌, ◌++◌, Contains, Option, Some, None, refl, sym, ◌∙◌, ap, subst, inl, inr, arith, []}
use Rattle.std.specs.Prelude.{find}
use Rattle.std.proofs.lemmas.Bool.{both_ways, cases_Bool, eq-eqb, eqb-true}
use Rattle.std.proofs.lemmas.List.Elements.{Contains-append_cases, Contains-append_left, Contains-append_right}
use Rattle.std.proofs.lemmas.Option.{none-some}
use Rattle.rina_enrol.specs.declared.message.LinkMessage.{LinkMessage}
use Rattle.rina_enrol.specs.declared.message.LinkMessage.TheVariants as messages
use Rattle.rina_newest.specs.declared.item.Item.{Item}
use Rattle.rina_newest.specs.Newest.{is_newer, kept_at}
use Rattle.rina_agent.specs.declared.agent.Agent.{Agent}
use Rattle.rina_agent.specs.declared.message.ManagementMessage.{ManagementMessage}
use Rattle.rina_agent.specs.declared.message.ManagementMessage.TheVariants.{ToNeighbour, ToMember}
use Rattle.rina_agent.specs.declared.message.Waiting.{Waiting}
use Rattle.rina_agent.specs.declared.state.AgentError.{AgentError}
use Rattle.rina_agent.specs.Counts.{spent, unless}
use Rattle.rina_agent.specs.Enrolled.{done}
use Rattle.rina_agent.specs.Enrolments.{is_numbered}
use Rattle.rina_agent.specs.Items.{made, stated, took, own_item}
use Rattle.rina_agent.specs.Neighbours.{link_key, link_state}
use Rattle.rina_agent.specs.Rows.{dropped, handled, joined_link, joining, was_up}
use Rattle.rina_flood.specs.Network.{Side, other, EndState, Unmade, There, Gone, Network, waiting_at, put_agent, put_ends, put_offers, put_sent, carried, Row, Make, Put, Draw, Take, Handle, Lose, Leave, Drop, Know, Pass, happens, May, IsRun, after_rows, IsStart, Enrol, Claim}
use Rattle.rina_flood.proofs.Holds.{is_plain, IsPlain, Holds}
use Rattle.rina_flood.proofs.Known.{know_plain}
use Rattle.rina_flood.proofs.Places.{nothing_in, in_first, put_case}
use Rattle.rina_flood.proofs.Rows.{sound_plain}
use Rattle.rina_flood.proofs.States.{ends_other, lost_follows, put_other}
use Rattle.rina_flood.proofs.Steps.{made_sound, taker_sound, lost_sound, popped_before}
use Rattle.rina_flood.proofs.Adding.{AddsNews, handled_news, joins_news, unless_news, waits_news}
use Rattle.rina_flood.proofs.Ahead.{gone_unmade, was_unmade}
use Rattle.rina_flood.proofs.All.{row_holds, no_messages}
use Rattle.rina_flood.proofs.Calls.{at_place}
use Rattle.rina_flood.proofs.Runs.{draw_is_plain, draw_moving, drop_is_plain, put_is_plain, take_is_plain, left_is_plain, passed_is_plain, moving_plain, lost_to, drop_moving, put_moving, take_moving, left_moving, passed_moving}

pub first_plain : (n : Network) (link : ℕ) (side : Side) (m : ManagementMessage) (rest : List ManagementMessage) → IsPlain n link side → n.sent link side ≡ m ∷ rest → is_plain m ≡ true
first_plain n link side m rest p first =
    let S : List ManagementMessage → Type 0 = λ s. Contains (s ++ waiting_at (n.states link side) (n.agents (n.ends link side)).agenda) m in
    p m (subst S (sym first) (in_first m (rest ++ waiting_at (n.states link side) (n.agents (n.ends link side)).agenda)))

-- Rows of links on which no enrolment runs

make_plain : (n : Network) (i : ℕ) (key : List ℕ) (value : Option (List ℕ)) (l : ℕ) (d : Side) → IsPlain n l d → spent 1 (n.agents i).last_count ≡ None → IsPlain (happens n (Make i key value)) l d
make_plain n i key value l d p may =
    let a = n.agents i in
    let x = own_item a n.now key value in
    let P : Option AgentError → Type 0 = λ o. IsPlain (record n { agents = put_agent i (done a (unless o (made None a n.now key value))) n.agents; made = n.made ++ x ∷ []; offered = put_offers i (x ∷ []) n.offered }) l d in
    subst P (sym may) (sound_plain n i (made None a n.now key value) n.sent x (λ k. ⊥) (made_sound n i key value) l d p)

lose_plain : (n : Network) (i k : ℕ) (up : Bool) (o : Option AgentError) (l : ℕ) (d : Side) → Holds n → IsPlain n l d → (up ≡ true → o ≡ None) → IsPlain (lost_to n i k up o) l d
lose_plain n i k true None l d h p is = sound_plain n i (dropped (stated (Some k) (n.agents i) n.now) k) n.sent (own_item (n.agents i) n.now (link_key (n.agents i).address) (Some (link_state (Some k) (n.agents i).links))) (λ j. ⊥) (lost_sound n i k h) l d p
lose_plain n i k true (Some e) l d h p is = absurd (none-some e (sym (is refl)))
lose_plain n i k false o l d h p is = moving_plain n (put_agent i (dropped (n.agents i) k) n.agents) n.sent (drop_moving n i k h) (drop_is_plain n i k h) l d p

came_plain : (n : Network) (link : ℕ) (side : Side) (number : ℕ) (m : ManagementMessage) (rest : List ManagementMessage) (x : Item) (l : ℕ) (d : Side) → Holds n → IsPlain n l d → n.states link (other side) ≡ There number → n.sent link side ≡ m ∷ rest → carried m ≡ x ∷ []
    → IsPlain (record n { agents = put_agent (n.ends link (other side)) (took number (n.agents (n.ends link (other side))) x) n.agents; sent = put_sent link side rest n.sent; made = n.made ++ []; offered = put_offers (n.ends link (other side)) (x ∷ []) n.offered }) l d
came_plain n link side number m rest x l d h p there first carries =
    let to = n.ends link (other side) in
    sound_plain n to (took number (n.agents to) x) (put_sent link side rest n.sent) x (λ k. number ≡ k) (taker_sound n link side m rest first x carries h number there (is_newer x.version (kept_at (n.agents to).items x.key)) refl) l d p

near_plain : (n : Network) (link : ℕ) (side : Side) (number : ℕ) (m : LinkMessage) (rest : List ManagementMessage) (l : ℕ) (d : Side) → Holds n → IsPlain n l d → n.states link (other side) ≡ There number → n.sent link side ≡ ToNeighbour m ∷ rest → is_plain (ToNeighbour m) ≡ true
    → IsPlain (happens n (Handle link side number (ToNeighbour m) rest)) l d
near_plain n link side number (messages.Connect invoke joiner member) rest l d h p there first plain = absurd (both_ways true (sym plain) refl)
near_plain n link side number (messages.ConnectR invoke denied) rest l d h p there first plain = absurd (both_ways true (sym plain) refl)
near_plain n link side number (messages.Start invoke address) rest l d h p there first plain = absurd (both_ways true (sym plain) refl)
near_plain n link side number (messages.StartR invoke) rest l d h p there first plain = absurd (both_ways true (sym plain) refl)
near_plain n link side number (messages.Item x) rest l d h p there first plain = came_plain n link side number (ToNeighbour (messages.Item x)) rest x l d h p there first refl
near_plain n link side number (messages.Stop invoke) rest l d h p there first plain = absurd (both_ways true (sym plain) refl)
near_plain n link side number (messages.StopR invoke) rest l d h p there first plain = absurd (both_ways true (sym plain) refl)
near_plain n link side number (messages.Flood x) rest l d h p there first plain = came_plain n link side number (ToNeighbour (messages.Flood x)) rest x l d h p there first refl

-- Rows of other links: enrolments may run there

news_at : (k : ℕ) (old new : List Waiting) → AddsNews k old new → (s : EndState) → (s ≡ There k → ⊥) → (m : ManagementMessage) → Contains (waiting_at s new) m → Contains (waiting_at s old) m ⊎ (is_plain m ≡ true)
news_at k old new adds Unmade apart m e = absurd (nothing_in m e)
news_at k old new adds (There j) apart m e = waits_news k j old new adds (λ is. apart (ap There is)) m e
news_at k old new adds Gone apart m e = absurd (nothing_in m e)

-- a member puts messages on its agenda for one of its links: an end that has another number gets none of these
put_plain : (n : Network) (i k : ℕ) (b : Agent) (l : ℕ) (d : Side) → AddsNews k (n.agents i).agenda b.agenda → (n.ends l d ≡ i → n.states l d ≡ There k → ⊥) → IsPlain n l d → (m : ManagementMessage) → Contains (waiting_at (n.states l d) (put_agent i b n.agents (n.ends l d)).agenda) m → is_plain m ≡ true
put_plain n i k b l d adds apart p m =
    let s = n.states l d in
    let old = λ (c : Agent) (is : c ≡ n.agents (n.ends l d)) (e : Contains (waiting_at s c.agenda) m). p m (Contains-append_right (n.sent l d) (waiting_at s (n.agents (n.ends l d)).agenda) m (subst (λ (a : Agent). Contains (waiting_at s a.agenda) m) is e)) in
    put_case (λ (c : Agent). Contains (waiting_at s c.agenda) m → is_plain m ≡ true) (n.ends l d) i b (n.agents (n.ends l d))
    (λ same e. elim (news_at k (n.agents i).agenda b.agenda adds s (apart same) m e) [
      | inl was ↦ old (n.agents i) (ap (λ (j : ℕ). n.agents j) (sym same)) was
      | inr plain ↦ plain
    ])
    (λ off e. old (n.agents (n.ends l d)) refl e)

handled_plain : (n : Network) (link : ℕ) (side : Side) (number : ℕ) (m : LinkMessage) (rest : List ManagementMessage) (l : ℕ) (d : Side) → Holds n → n.states link (other side) ≡ There number → n.sent link side ≡ ToNeighbour m ∷ rest → (l ≡ link → ⊥) → IsPlain n l d
    → IsPlain (happens n (Handle link side number (ToNeighbour m) rest)) l d
handled_plain n link side number m rest l d h there first off p z e =
    let i = n.ends link (other side) in
    let a = n.agents i in
    let b : Agent = done a (handled a n.now number m) in
    elim (Contains-append_cases (put_sent link side rest n.sent l d) (waiting_at (n.states l d) (put_agent i b n.agents (n.ends l d)).agenda) z e) [
      | inl flies ↦ p z (Contains-append_left (n.sent l d) (waiting_at (n.states l d) (n.agents (n.ends l d)).agenda) z (popped_before n link side (ToNeighbour m) rest first l d z flies))
      | inr waits ↦ put_plain n i number b l d (handled_news a n.now number m) (λ same has. off (h.laid.laid l d link (other side) number same has there).0) p z waits
    ]

-- a message is handled on the same link, which has none of an enrolment, or on another
near_handled : (n : Network) (link : ℕ) (side : Side) (number : ℕ) (m : LinkMessage) (rest : List ManagementMessage) (l : ℕ) (d : Side) → Holds n → n.states link (other side) ≡ There number → n.sent link side ≡ ToNeighbour m ∷ rest → (l ≡ link → IsPlain n link side) → IsPlain n l d
    → IsPlain (happens n (Handle link side number (ToNeighbour m) rest)) l d
near_handled n link side number m rest l d h there first same p = elim (cases_Bool (l == link)) [
  | inl is ↦ near_plain n link side number m rest l d h p there first (first_plain n link side (ToNeighbour m) rest (same (eqb-true l link is)) first)
  | inr isnt ↦ handled_plain n link side number m rest l d h there first (λ is. both_ways (l == link) isnt (eq-eqb l link is)) p
]

-- a link is made: it is none that was made before
enrol_plain : (n : Network) (link : ℕ) (side : Side) (k i j : ℕ) (member node : List ℕ) (l : ℕ) (d : Side) → May n (Enrol link side k i j member node) → (l ≡ link → ⊥) → IsPlain n l d → IsPlain (happens n (Enrol link side k i j member node)) l d
enrol_plain n link side k i j member node l d may off p z e =
    let a = n.agents i in
    let joins = joining a k member node in
    let b : Agent = done a (unless (spent 1 a.last_invoke) joins) in
    let S : EndState → Type 0 = λ s. Contains (n.sent l d ++ waiting_at s (put_agent i b n.agents (put_ends link side i j n.ends l d)).agenda) z in
    let E : ℕ → Type 0 = λ at. Contains (n.sent l d ++ waiting_at (n.states l d) (put_agent i b n.agents at).agenda) z in
    elim (Contains-append_cases (n.sent l d) (waiting_at (n.states l d) (put_agent i b n.agents (n.ends l d)).agenda) z (subst E (ends_other link side i j n.ends l d off) (subst S (put_other link side (There k) n.states l d (λ on. off on.0)) e))) [
      | inl flies ↦ p z (Contains-append_left (n.sent l d) (waiting_at (n.states l d) (n.agents (n.ends l d)).agenda) z flies)
      | inr waits ↦ put_plain n i k b l d (unless_news k (spent 1 a.last_invoke) a joins (joins_news k a member node)) (may.1.ends l d) p z waits
    ]

claim_plain : (n : Network) (link : ℕ) (side : Side) (k : ℕ) (l : ℕ) (d : Side) → ((l ≡ link) × (d ≡ side) → ⊥) → IsPlain n l d → IsPlain (happens n (Claim link side k)) l d
claim_plain n link side k l d off p z e =
    let i = n.ends link side in
    let a = n.agents i in
    let b : Agent = record a { links = a.links ++ joined_link k ∷ [] } in
    let S : EndState → Type 0 = λ s. Contains (n.sent l d ++ waiting_at s (put_agent i b n.agents (n.ends l d)).agenda) z in
    elim (Contains-append_cases (n.sent l d) (waiting_at (n.states l d) (put_agent i b n.agents (n.ends l d)).agenda) z (subst S (put_other link side (There k) n.states l d off) e)) [
      | inl flies ↦ p z (Contains-append_left (n.sent l d) (waiting_at (n.states l d) (n.agents (n.ends l d)).agenda) z flies)
      | inr waits ↦ p z (Contains-append_right (n.sent l d) (waiting_at (n.states l d) (n.agents (n.ends l d)).agenda) z
          (at_place (λ x c. Contains (waiting_at (n.states l d) c.agenda) z → Contains (waiting_at (n.states l d) x.agenda) z) i b n.agents (n.ends l d) (λ w. w) (λ x w. w) waits))
    ]

-- All rows

-- the first links, so many, were made at both ends, and no message of an enrolment waits or is on its way there
pub record ArePlain (count : ℕ) (n : Network) : Type 0 where
  pub made : (l : ℕ) (d : Side) → l < count → n.states l d ≡ Unmade → ⊥
  pub plain : (l : ℕ) (d : Side) → l < count → IsPlain n l d

-- an end that is not made was not before
row_unmade : (n : Network) (row : Row) (l : ℕ) (d : Side) → (happens n row).states l d ≡ Unmade → n.states l d ≡ Unmade
row_unmade n (Make i key value) l d e = e
row_unmade n (Put i number m) l d e = e
row_unmade n (Draw i) l d e = e
row_unmade n (Take link side number m) l d e = e
row_unmade n (Handle link side number (ToNeighbour m) rest) l d e = e
row_unmade n (Handle link side number (ToMember m) rest) l d e = e
row_unmade n (Lose link side number) l d e = e
row_unmade n (Leave link side number) l d e = gone_unmade n link side l d e
row_unmade n (Drop link side left) l d e = e
row_unmade n (Enrol link side number i j member node) l d e = was_unmade n link side number l d e
row_unmade n (Claim link side number) l d e = was_unmade n link side number l d e
row_unmade n (Know x) l d e = e
row_unmade n Pass l d e = e

-- a direction whose ends were made is another than one whose end is not
made_apart : (n : Network) (link : ℕ) (side : Side) (l : ℕ) (d : Side) → (n.states l d ≡ Unmade → ⊥) → n.states link side ≡ Unmade → (l ≡ link) × (d ≡ side) → ⊥
made_apart n link side l d made unmade on = made (ap (λ (k : ℕ). n.states k d) on.0 ∙ ap (λ (t : Side). n.states link t) on.1 ∙ unmade)

row_plain : (n : Network) (row : Row) (count : ℕ) → Holds n → ArePlain count n → May n row → (l : ℕ) (d : Side) → l < count → IsPlain (happens n row) l d
row_plain n (Make i key value) count h p may l d lt = make_plain n i key value l d (p.plain l d lt) may
row_plain n (Put i number m) count h p may l d lt = moving_plain n _ n.sent (put_moving n i number m) (put_is_plain n i number m) l d (p.plain l d lt)
row_plain n (Draw i) count h p may l d lt = moving_plain n _ n.sent (draw_moving n i) (draw_is_plain n i) l d (p.plain l d lt)
row_plain n (Take link side number m) count h p may l d lt = moving_plain n _ _ (take_moving n link side number m h may.0 may.1) (take_is_plain n link side number m h may.0 may.1) l d (p.plain l d lt)
row_plain n (Handle link side number (ToNeighbour m) rest) count h p may l d lt = near_handled n link side number m rest l d h may.0 may.1 (λ is. p.plain link side (omega (arith, lt, is))) (p.plain l d lt)
row_plain n (Handle link side number (ToMember m) rest) count h p may l d lt = moving_plain n n.agents _ (passed_moving n link side (ToMember m) rest refl may.1) (passed_is_plain n link side (ToMember m) rest refl may.1) l d (p.plain l d lt)
row_plain n (Lose link side number) count h p may l d lt =
    lose_plain n (n.ends link side) number (was_up (find (is_numbered number) (n.agents (n.ends link side)).links)) (spent 1 (n.agents (n.ends link side)).last_count) l d h (p.plain l d lt) may.1
row_plain n (Leave link side number) count h p may l d lt = λ m e. p.plain l d lt m (lost_follows n link side l d m e)
row_plain n (Drop link side left) count h p may l d lt = moving_plain n n.agents _ (left_moving n link side left may.0 may.1) (left_is_plain n link side left may.0 may.1) l d (p.plain l d lt)
row_plain n (Enrol link side number i j member node) count h p may l d lt = enrol_plain n link side number i j member node l d may (λ is. p.made l d lt (ap (λ (k : ℕ). n.states k d) is ∙ (may.0 d).0)) (p.plain l d lt)
row_plain n (Claim link side number) count h p may l d lt = claim_plain n link side number l d (made_apart n link side l d (p.made l d lt) may.0) (p.plain l d lt)
row_plain n (Know x) count h p may l d lt = know_plain n x l d (p.plain l d lt)
row_plain n Pass count h p may l d lt = p.plain l d lt

pub rows_plain : (n : Network) (rows : List Row) (count : ℕ) → Holds n → ArePlain count n → IsRun n rows → ArePlain count (after_rows n rows)
rows_plain n [] count h p run = p
rows_plain n (row ∷ rows) count h p run =
    let next : ArePlain count (happens n row) = record { made = λ l d lt e. p.made l d lt (row_unmade n row l d e); plain = row_plain n row count h p run.0 } in
    rows_plain (happens n row) rows count (row_holds n row h run.0) next run.1

pub start_plain : (n : Network) (told : List Item) → IsStart n told → (l : ℕ) (d : Side) → IsPlain n l d
start_plain n told s l d m e = (let P : List ManagementMessage → Type 0 = λ ms. Contains ms m in absurd (nothing_in m (subst P (no_messages n told s l d) e)))
