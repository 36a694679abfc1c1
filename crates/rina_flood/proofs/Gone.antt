-- A lost link is no link of its member from then on.
use Rattle.std.proofs.Common.{◌≡◌, ℕ, ◌⊎◌, Bool, true, false, ◌==◌, cond, List, [], ◌∷◌, ◌++◌, Option, Some, None, Ok, refl, sym, ◌∙◌, ap, subst, inl, inr}
use Rattle.std.specs.Prelude.{find, is_some}
use Rattle.std.proofs.lemmas.Bool.{both_ways, cases_Bool, eqb-true}
use Rattle.std.proofs.lemmas.Option.{none-some}
use Rattle.rina_enrol.specs.declared.message.LinkMessage.{LinkMessage}
use Rattle.rina_enrol.specs.declared.message.LinkMessage.TheVariants as messages
use Rattle.rina_newest.specs.declared.item.Item.{Item}
use Rattle.rina_newest.specs.Newest.{is_newer, kept_at, taken}
use Rattle.rina_agent.specs.declared.agent.Agent.{Agent}
use Rattle.rina_agent.specs.declared.link.Link.{Link}
use Rattle.rina_agent.specs.declared.message.ManagementMessage.{ManagementMessage}
use Rattle.rina_agent.specs.declared.message.ManagementMessage.TheVariants.{ToNeighbour, ToMember}
use Rattle.rina_agent.specs.declared.state.AgentError.{AgentError}
use Rattle.rina_agent.specs.Agenda.{floods}
use Rattle.rina_agent.specs.Counts.{next_of, spent, unless}
use Rattle.rina_agent.specs.Enrolled.{done}
use Rattle.rina_agent.specs.Enrolments.{is_numbered}
use Rattle.rina_agent.specs.Items.{made, stated}
use Rattle.rina_agent.specs.Rows.{dropped, joined_link, joining, joining_link, was_up}
use Rattle.rina_flood.specs.Network.{Side, other, EndState, Unmade, There, Gone, Network, has_link, item_in, link_at, with_state, put_agent, put_sent, AreApart, Row, Make, Put, Draw, Take, Handle, Lose, Leave, Drop, Enrol, Claim, Know, Pass, happens, May, IsRun, after_rows, is_enrolled}
use Rattle.rina_flood.specs.Laws.{LostIsGone}
use Rattle.rina_flood.proofs.All.{near_keeps, row_holds, run_holds}
use Rattle.rina_flood.proofs.Calls.{at_itself, at_place}
use Rattle.rina_flood.proofs.Holds.{Holds}
use Rattle.rina_flood.proofs.Keeping.{IsKept}
use Rattle.rina_flood.proofs.Known.{knower_links}
use Rattle.rina_flood.proofs.Messages.{lost_link, none_kept}
use Rattle.rina_flood.proofs.NewLinks.{none_more}
use Rattle.rina_flood.proofs.Places.{same_direction}
use Rattle.rina_flood.proofs.States.{ends_other, put_here, put_other}

-- The end

unmade_lost : (s : EndState) → s ≡ Unmade → s ≡ Gone → ⊥
unmade_lost s a b = (let clash : Unmade ≡ Gone = sym a ∙ b in absurd (cc))

unmade_there : (s : EndState) (k : ℕ) → s ≡ Unmade → s ≡ There k → ⊥
unmade_there s k a b = (let clash : Unmade ≡ There k = sym a ∙ b in absurd (cc))

-- a link that is not made at an end is not one that is lost or there at an end
on_unmade : (n : Network) (link : ℕ) (side : Side) (l : ℕ) (d : Side) → n.states link side ≡ Unmade → l ≡ link → d ≡ side → n.states l d ≡ Unmade
on_unmade n link side l d unmade a b =
    let Q : ℕ → Type 0 = λ k. n.states k d ≡ Unmade in
    let R : Side → Type 0 = λ t. n.states link t ≡ Unmade in
    subst Q (sym a) (subst R (sym b) unmade)

-- The number

none_from : (a b : Option Link) → (is_some b ≡ true → is_some a ≡ true) → a ≡ None → b ≡ None
none_from a None has e = refl
none_from a (Some l) has e = absurd (both_ways true (sym (ap is_some (sym e) ∙ has refl)) refl)

made_has : (o : Option AgentError) (a b : Agent) (k : ℕ) → b.links ≡ a.links → is_some (find (is_numbered k) (done a (unless o b)).links) ≡ true → is_some (find (is_numbered k) a.links) ≡ true
made_has None a b k same e = ap (λ (ls : List Link). is_some (find (is_numbered k) ls)) (sym same) ∙ e
made_has (Some r) a b k same e = e

lose_gone : (up : Bool) (o : Option AgentError) (a : Agent) (now link k : ℕ) → find (is_numbered k) a.links ≡ None → find (is_numbered k) (done a (cond up (unless o (dropped (stated (Some link) a now) link)) (Ok (dropped a link)))).links ≡ None
lose_gone true None a now link k e = none_kept k link a.links e
lose_gone true (Some r) a now link k e = e
lose_gone false o a now link k e = none_kept k link a.links e

just_lost : (up : Bool) (o : Option AgentError) (a : Agent) (now link : ℕ) → AreApart a.links → (up ≡ true → o ≡ None) → find (is_numbered link) (done a (cond up (unless o (dropped (stated (Some link) a now) link)) (Ok (dropped a link)))).links ≡ None
just_lost true None a now link apart is = lost_link link a.links apart
just_lost true (Some r) a now link apart is = absurd (none-some r (sym (is refl)))
just_lost false o a now link apart is = lost_link link a.links apart

cond_links : (newer : Bool) (a : Agent) (items : List Item) (x : Item) (link : ℕ) → (cond newer (record a { items = items; agenda = a.agenda ++ floods (Some link) x a.links }) a).links ≡ a.links
cond_links true a items x link = refl
cond_links false a items x link = refl

module _ (at number : ℕ) where
  abbrev HasNone : Network → Type 0
  HasNone n = find (is_numbered number) (n.agents at).links ≡ None

  -- one agent is another, with no more links
  one_none : (agents : ℕ → Agent) (i : ℕ) (b : Agent) → (is_some (find (is_numbered number) b.links) ≡ true → is_some (find (is_numbered number) (agents i).links) ≡ true) → find (is_numbered number) (agents at).links ≡ None → find (is_numbered number) (put_agent i b agents at).links ≡ None
  one_none agents i b has e = at_place (λ a c. find (is_numbered number) a.links ≡ None → find (is_numbered number) c.links ≡ None) i b agents at (none_from (find (is_numbered number) (agents i).links) (find (is_numbered number) b.links) has) (λ a w. w) e

  none_still : IsKept HasNone
  none_still = record {
    quiet = λ n i b q g. one_none n.agents i b (q.same.fewer.has number) g;
    introduces = λ n i fits may g. one_none n.agents i _ (λ e. e) g;
    raises = λ n i k a batch fits r may g. one_none n.agents i (stated None a n.now) (r.has number) g;
  }

  near_none : (n : Network) (link : ℕ) (side : Side) (k : ℕ) (m : LinkMessage) (rest : List ManagementMessage) → Holds n → item_in m ≡ [] → HasNone n → HasNone (happens n (Handle link side k (ToNeighbour m) rest))
  near_none n link side k m rest h empty g = near_keeps HasNone none_still (record n { sent = put_sent link side rest n.sent }) (n.ends link (other side)) k m empty (h.laid.fit link (other side)) g

  came_none : (n : Network) (i k : ℕ) (x : Item) → HasNone n → find (is_numbered number) (put_agent i (cond (is_newer x.version (kept_at (n.agents i).items x.key)) (record (n.agents i) { items = taken (n.agents i).items x; agenda = (n.agents i).agenda ++ floods (Some k) x (n.agents i).links }) (n.agents i)) n.agents at).links ≡ None
  came_none n i k x g = one_none n.agents i _ (λ e. ap (λ (ls : List Link). is_some (find (is_numbered number) ls)) (sym (cond_links (is_newer x.version (kept_at (n.agents i).items x.key)) (n.agents i) (taken (n.agents i).items x) x k)) ∙ e) g

  handle_none : (n : Network) (link : ℕ) (side : Side) (k : ℕ) (m : LinkMessage) (rest : List ManagementMessage) → Holds n → HasNone n → HasNone (happens n (Handle link side k (ToNeighbour m) rest))
  handle_none n link side k (messages.Connect invoke joiner member) rest h g = near_none n link side k (messages.Connect invoke joiner member) rest h refl g
  handle_none n link side k (messages.ConnectR invoke denied) rest h g = near_none n link side k (messages.ConnectR invoke denied) rest h refl g
  handle_none n link side k (messages.Start invoke from) rest h g = near_none n link side k (messages.Start invoke from) rest h refl g
  handle_none n link side k (messages.StartR invoke) rest h g = near_none n link side k (messages.StartR invoke) rest h refl g
  handle_none n link side k (messages.Item x) rest h g = came_none n (n.ends link (other side)) k x g
  handle_none n link side k (messages.Stop invoke) rest h g = near_none n link side k (messages.Stop invoke) rest h refl g
  handle_none n link side k (messages.StopR invoke) rest h g = near_none n link side k (messages.StopR invoke) rest h refl g
  handle_none n link side k (messages.Flood x) rest h g = came_none n (n.ends link (other side)) k x g

  -- a member gets a link more, of another number
  linked_none : (agents : ℕ → Agent) (i : ℕ) (b : Agent) (new : Link) → b.links ≡ (agents i).links ++ new ∷ [] → (at ≡ i → new.number ≡ number → ⊥) → find (is_numbered number) (agents at).links ≡ None → find (is_numbered number) (put_agent i b agents at).links ≡ None
  linked_none agents i b new links apart e = elim (cases_Bool (new.number == number)) [
    | inl is ↦ elim (cases_Bool (at == i)) [
      | inl here ↦ absurd (apart (eqb-true at i here) (eqb-true new.number number is))
      | inr off ↦ rw off e
    ]
    | inr isnt ↦ at_place (λ a c. find (is_numbered number) a.links ≡ None → find (is_numbered number) c.links ≡ None) i b agents at (λ w. ap (λ (ls : List Link). find (is_numbered number) ls) links ∙ none_more number (agents i).links new w isnt) (λ a w. w) e
  ]

  -- the end of a lost link: it has its number still, and there is no such link; or it is gone
  module _ (l : ℕ) (d : Side) where
    pub record IsLostAt (n : Network) : Type 0 where
      pub here : n.ends l d ≡ at
      pub lost : ((n.states l d ≡ There number) × HasNone n) ⊎ (n.states l d ≡ Gone)

    not_unmade : (n : Network) → IsLostAt n → n.states l d ≡ Unmade → ⊥
    not_unmade n s e = elim s.lost [
      | inl t ↦ unmade_there (n.states l d) number e t.0
      | inr g ↦ unmade_lost (n.states l d) e g
    ]

    -- its state and its members stay, where the member gets no link of the number
    still_lost : (n n' : Network) → n'.ends l d ≡ n.ends l d → n'.states l d ≡ n.states l d → (n.states l d ≡ There number → HasNone n → HasNone n') → IsLostAt n → IsLostAt n'
    still_lost n n' ends states none s = record {
      here = ends ∙ s.here;
      lost = elim s.lost [
        | inl t ↦ inl (states ∙ t.0, none t.0 t.1)
        | inr g ↦ inr (states ∙ g)
      ];
    }

    left_lost : (n : Network) (link : ℕ) (side : Side) → IsLostAt n → IsLostAt (with_state n link side Gone)
    left_lost n link side s = elim (same_direction link side l d) [
      | inl on ↦ record { here = s.here; lost = inr (put_here link side Gone n.states l d on.0 on.1) }
      | inr off ↦ still_lost n (with_state n link side Gone) refl (put_other link side Gone n.states l d off) (λ t g. g) s
    ]

    enrolled_lost : (n : Network) (link : ℕ) (side : Side) (k i j : ℕ) (member node : List ℕ) → May n (Enrol link side k i j member node) → IsLostAt n → IsLostAt (happens n (Enrol link side k i j member node))
    enrolled_lost n link side k i j member node may s =
        let a = n.agents i in
        let b = joining a k member node in
        let free = may.0 in
        let new = may.1 in
        let off : l ≡ link → ⊥ = λ on. not_unmade n s (on_unmade n link d l d (free d).0 on refl) in
        let P : Option AgentError → Type 0 = λ o. find (is_numbered number) (put_agent i (done a (unless o b)) n.agents at).links ≡ None in
        still_lost n (happens n (Enrol link side k i j member node)) (ends_other link side i j n.ends l d off) (put_other link side (There k) n.states l d (λ on. off on.0))
        (λ t g. subst P (sym may.4) (linked_none n.agents i b (joining_link k (next_of a.last_invoke) node) refl (λ is same. new.ends l d (s.here ∙ is) (t ∙ ap There (sym same))) g)) s

    claimed_lost : (n : Network) (link : ℕ) (side : Side) (k : ℕ) → May n (Claim link side k) → IsLostAt n → IsLostAt (happens n (Claim link side k))
    claimed_lost n link side k may s =
        let new = may.1 in
        still_lost n (happens n (Claim link side k)) refl (put_other link side (There k) n.states l d (λ on. not_unmade n s (on_unmade n link side l d may.0 on.0 on.1)))
        (λ t g. linked_none n.agents (n.ends link side) (record (n.agents (n.ends link side)) { links = (n.agents (n.ends link side)).links ++ joined_link k ∷ [] }) (joined_link k) refl (λ is same. new.ends l d (s.here ∙ is) (t ∙ ap There (sym same))) g) s

    row_lost : (n : Network) (row : Row) → Holds n → May n row → IsLostAt n → IsLostAt (happens n row)
    row_lost n (Make i key value) h may s = still_lost n (happens n (Make i key value)) refl refl (λ t g. one_none n.agents i _ (made_has (spent 1 (n.agents i).last_count) (n.agents i) (made None (n.agents i) n.now key value) number refl) g) s
    row_lost n (Put i k m) h may s = still_lost n (happens n (Put i k m)) refl refl (λ t g. one_none n.agents i _ (λ e. e) g) s
    row_lost n (Draw i) h may s = still_lost n (happens n (Draw i)) refl refl (λ t g. one_none n.agents i _ (λ e. e) g) s
    row_lost n (Take link side k m) h may s = still_lost n (happens n (Take link side k m)) refl refl (λ t g. one_none n.agents (n.ends link side) _ (λ e. e) g) s
    row_lost n (Handle link side k (ToNeighbour m) rest) h may s = still_lost n (happens n (Handle link side k (ToNeighbour m) rest)) refl refl (λ t g. handle_none n link side k m rest h g) s
    row_lost n (Handle link side k (ToMember m) rest) h may s = still_lost n (happens n (Handle link side k (ToMember m) rest)) refl refl (λ t g. g) s
    row_lost n (Lose link side k) h may s = still_lost n (happens n (Lose link side k)) refl refl
        (λ t g. at_place (λ a c. find (is_numbered number) a.links ≡ None → find (is_numbered number) c.links ≡ None) (n.ends link side) _ n.agents at
        (lose_gone (was_up (find (is_numbered k) (n.agents (n.ends link side)).links)) (spent 1 (n.agents (n.ends link side)).last_count) (n.agents (n.ends link side)) n.now k number) (λ a w. w) g) s
    row_lost n (Leave link side k) h may s = left_lost n link side s
    row_lost n (Drop link side left) h may s = still_lost n (happens n (Drop link side left)) refl refl (λ t g. g) s
    row_lost n (Enrol link side k i j member node) h may s = enrolled_lost n link side k i j member node may s
    row_lost n (Claim link side k) h may s = claimed_lost n link side k may s
    row_lost n (Know x) h may s = still_lost n (happens n (Know x)) refl refl (λ t g. ap (λ (ls : List Link). find (is_numbered number) ls) (knower_links (is_enrolled (n.agents at)) x (n.agents at)) ∙ g) s
    row_lost n Pass h may s = still_lost n (happens n Pass) refl refl (λ t g. g) s

    rows_lost : (n : Network) (rows : List Row) → Holds n → IsRun n rows → IsLostAt n → IsLostAt (after_rows n rows)
    rows_lost n [] h run s = s
    rows_lost n (row ∷ rows) h run s = rows_lost (happens n row) rows (row_holds n row h run.0) run.1 (row_lost n row h run.0 s)

    no_link : (n : Network) → IsLostAt n → has_link n l d ≡ false
    no_link n s = elim s.lost [
      | inl t ↦
          ap (λ (x : EndState). is_some (link_at x (n.agents (n.ends l d)).links)) t.0
          ∙ ap (λ (i : ℕ). is_some (find (is_numbered number) (n.agents i).links)) s.here
          ∙ ap is_some t.1
      | inr g ↦ ap (λ (x : EndState). is_some (link_at x (n.agents (n.ends l d)).links)) g
    ]

gone_from : (n : Network) (rows : List Row) (l : ℕ) (d : Side) (number : ℕ) → Holds n → May n (Lose l d number) → IsRun (happens n (Lose l d number)) rows → has_link (after_rows (happens n (Lose l d number)) rows) l d ≡ false
gone_from n rows l d number h may run =
    let i = n.ends l d in
    let a = n.agents i in
    let next = happens n (Lose l d number) in
    let none : find (is_numbered number) (next.agents i).links ≡ None = ap (λ (c : Agent). find (is_numbered number) c.links) (at_itself i _ n.agents) ∙ just_lost (was_up (find (is_numbered number) a.links)) (spent 1 a.last_count) a n.now number (h.laid.apart i) may.1 in
    no_link i number l d (after_rows next rows) (rows_lost i number l d next rows (row_holds n (Lose l d number) h may) run (record { here = refl; lost = inl (may.0, none) }))

pub lost_is_gone : LostIsGone
lost_is_gone n told before rows l d number s run may more = gone_from (after_rows n before) rows l d number (run_holds n told before s run) may more
