-- A link that is lost at an end is so from then on, so where both ends have a link no message that was sent on it was lost.
use Rattle.std.proofs.Common.{◌≡◌, ℕ, ◌⊎◌, Bool, true, false, ◌==◌, ◌||◌, not, cond, List, [], ◌∷◌, ◌++◌, Option, Some, None, Ok, refl, sym, ◌∙◌, ap, subst, inl, inr}
use Rattle.std.specs.Prelude.{find, is_some}
use Rattle.std.proofs.lemmas.Bool.{both_ways, cases_Bool, eqb-true}
use Rattle.rina_enrol.specs.declared.message.LinkMessage.{LinkMessage}
use Rattle.rina_enrol.specs.declared.message.LinkMessage.TheVariants as messages
use Rattle.rina_newest.specs.declared.item.Item.{Item}
use Rattle.rina_newest.specs.Newest.{is_newer, kept_at, taken}
use Rattle.rina_agent.specs.declared.agent.Agent.{Agent}
use Rattle.rina_agent.specs.declared.link.Link.{Link}
use Rattle.rina_agent.specs.declared.message.ManagementMessage.{ManagementMessage}
use Rattle.rina_agent.specs.declared.message.ManagementMessage.TheVariants.{ToNeighbour, ToMember}
use Rattle.rina_agent.specs.declared.state.AgentError.{AgentError}
use Rattle.rina_agent.specs.Agenda.{floods}
use Rattle.rina_agent.specs.Counts.{next_of, spent, unless}
use Rattle.rina_agent.specs.Enrolled.{done}
use Rattle.rina_agent.specs.Enrolments.{is_numbered}
use Rattle.rina_agent.specs.Items.{made, stated}
use Rattle.rina_agent.specs.Rows.{dropped, joined_link, joining, joining_link, was_up}
use Rattle.rina_flood.specs.Network.{Side, Near, Far, other, EndState, Unmade, There, Gone, Network, has_link, has_lost, is_lost, item_in, link_at, with_state, put_agent, put_sent, Row, Make, Put, Draw, Take, Handle, Lose, Leave, Drop, Enrol, Claim, Know, Pass, happens, May, IsRun, after_rows, is_enrolled}
use Rattle.rina_flood.proofs.All.{near_keeps, row_holds}
use Rattle.rina_flood.proofs.Calls.{at_place}
use Rattle.rina_flood.proofs.Holds.{Holds}
use Rattle.rina_flood.proofs.Keeping.{IsKept}
use Rattle.rina_flood.proofs.Known.{knower_links}
use Rattle.rina_flood.proofs.Messages.{none_kept}
use Rattle.rina_flood.proofs.NewLinks.{none_more}
use Rattle.rina_flood.proofs.Places.{same_direction}
use Rattle.rina_flood.proofs.States.{ends_other, put_here, put_other}
use Rattle.rina_enrolled.specs.Enrolled.{LosesNone, AllLoseNone}

none_from : (a b : Option Link) → (is_some b ≡ true → is_some a ≡ true) → a ≡ None → b ≡ None
none_from a None has e = refl
none_from a (Some l) has e = absurd (both_ways true (sym (ap is_some (sym e) ∙ has refl)) refl)

made_none : (o : Option AgentError) (a b : Agent) (k : ℕ) → b.links ≡ a.links → find (is_numbered k) a.links ≡ None → find (is_numbered k) (done a (unless o b)).links ≡ None
made_none None a b k same e = ap (λ (ls : List Link). find (is_numbered k) ls) same ∙ e
made_none (Some r) a b k same e = e

lose_none : (up : Bool) (o : Option AgentError) (a : Agent) (now link k : ℕ) → find (is_numbered k) a.links ≡ None → find (is_numbered k) (done a (cond up (unless o (dropped (stated (Some link) a now) link)) (Ok (dropped a link)))).links ≡ None
lose_none true None a now link k e = none_kept k link a.links e
lose_none true (Some r) a now link k e = e
lose_none false o a now link k e = none_kept k link a.links e

took_none : (newer : Bool) (a : Agent) (items : List Item) (x : Item) (link k : ℕ) → find (is_numbered k) a.links ≡ None → find (is_numbered k) (cond newer (record a { items = items; agenda = a.agenda ++ floods (Some link) x a.links }) a).links ≡ None
took_none true a items x link k e = e
took_none false a items x link k e = e

-- No link of a member has a number

module _ (at number : ℕ) where
  abbrev HasNone : Network → Type 0
  HasNone n = find (is_numbered number) (n.agents at).links ≡ None

  one_none : (agents : ℕ → Agent) (i : ℕ) (b : Agent) → (find (is_numbered number) (agents i).links ≡ None → find (is_numbered number) b.links ≡ None) → find (is_numbered number) (agents at).links ≡ None → find (is_numbered number) (put_agent i b agents at).links ≡ None
  one_none agents i b none = at_place (λ a c. find (is_numbered number) a.links ≡ None → find (is_numbered number) c.links ≡ None) i b agents at none (λ a w. w)

  none_still : IsKept HasNone
  none_still = record {
    quiet = λ n i b q. one_none n.agents i b (none_from (find (is_numbered number) (n.agents i).links) (find (is_numbered number) b.links) (q.same.fewer.has number));
    introduces = λ n i fits may. one_none n.agents i _ (λ e. e);
    raises = λ n i k a batch fits r may. one_none n.agents i (stated None a n.now) (none_from (find (is_numbered number) (n.agents i).links) (find (is_numbered number) a.links) (r.has number));
  }

  near_none : (n : Network) (link : ℕ) (side : Side) (k : ℕ) (m : LinkMessage) (rest : List ManagementMessage) → Holds n → item_in m ≡ [] → HasNone n → HasNone (happens n (Handle link side k (ToNeighbour m) rest))
  near_none n link side k m rest h empty none = near_keeps HasNone none_still (record n { sent = put_sent link side rest n.sent }) (n.ends link (other side)) k m empty (h.laid.fit link (other side)) none

  item_none : (n : Network) (i k : ℕ) (x : Item) → HasNone n → find (is_numbered number) (put_agent i (cond (is_newer x.version (kept_at (n.agents i).items x.key)) (record (n.agents i) { items = taken (n.agents i).items x; agenda = (n.agents i).agenda ++ floods (Some k) x (n.agents i).links }) (n.agents i)) n.agents at).links ≡ None
  item_none n i k x = one_none n.agents i _ (took_none (is_newer x.version (kept_at (n.agents i).items x.key)) (n.agents i) (taken (n.agents i).items x) x k number)

  handle_none : (n : Network) (link : ℕ) (side : Side) (k : ℕ) (m : LinkMessage) (rest : List ManagementMessage) → Holds n → HasNone n → HasNone (happens n (Handle link side k (ToNeighbour m) rest))
  handle_none n link side k (messages.Connect invoke joiner member) rest h none = near_none n link side k (messages.Connect invoke joiner member) rest h refl none
  handle_none n link side k (messages.ConnectR invoke denied) rest h none = near_none n link side k (messages.ConnectR invoke denied) rest h refl none
  handle_none n link side k (messages.Start invoke from) rest h none = near_none n link side k (messages.Start invoke from) rest h refl none
  handle_none n link side k (messages.StartR invoke) rest h none = near_none n link side k (messages.StartR invoke) rest h refl none
  handle_none n link side k (messages.Item x) rest h none = item_none n (n.ends link (other side)) k x none
  handle_none n link side k (messages.Stop invoke) rest h none = near_none n link side k (messages.Stop invoke) rest h refl none
  handle_none n link side k (messages.StopR invoke) rest h none = near_none n link side k (messages.StopR invoke) rest h refl none
  handle_none n link side k (messages.Flood x) rest h none = item_none n (n.ends link (other side)) k x none

  -- a member gets a link more, of another number
  linked_none : (agents : ℕ → Agent) (i : ℕ) (b : Agent) (new : Link) → b.links ≡ (agents i).links ++ new ∷ [] → (at ≡ i → new.number ≡ number → ⊥) → find (is_numbered number) (agents at).links ≡ None → find (is_numbered number) (put_agent i b agents at).links ≡ None
  linked_none agents i b new links apart e = elim (cases_Bool (new.number == number)) [
    | inl is ↦ elim (cases_Bool (at == i)) [
      | inl here ↦ absurd (apart (eqb-true at i here) (eqb-true new.number number is))
      | inr off ↦ rw off e
    ]
    | inr isnt ↦ one_none agents i b (λ w. ap (λ (ls : List Link). find (is_numbered number) ls) links ∙ none_more number (agents i).links new w isnt) e
  ]

-- An end that was made, and has no link

module _ (l : ℕ) (d : Side) where
  pub record IsLost (n : Network) : Type 0 where
    pub made : n.states l d ≡ Unmade → ⊥
    pub none : (number : ℕ) → n.states l d ≡ There number → find (is_numbered number) (n.agents (n.ends l d)).links ≡ None

  still_lost : (n n' : Network) → n'.ends l d ≡ n.ends l d → n'.states l d ≡ n.states l d → ((number : ℕ) → n.states l d ≡ There number → HasNone (n.ends l d) number n → HasNone (n.ends l d) number n') → IsLost n → IsLost n'
  still_lost n n' ends states none s = record {
    made = λ e. s.made (sym states ∙ e);
    none = λ number there. ap (λ (i : ℕ). find (is_numbered number) (n'.agents i).links) ends ∙ none number (sym states ∙ there) (s.none number (sym states ∙ there));
  }

  leave_lost : (n : Network) (link : ℕ) (side : Side) → IsLost n → IsLost (with_state n link side Gone)
  leave_lost n link side s = elim (same_direction link side l d) [
    | inl on ↦
        (let gone = put_here link side Gone n.states l d on.0 on.1 in
        record {
          made = λ e. (let clash : Gone ≡ Unmade = sym gone ∙ e in absurd (cc));
          none = λ number there. (let clash : Gone ≡ There number = sym gone ∙ there in absurd (cc));
        })
    | inr off ↦ still_lost n (with_state n link side Gone) refl (put_other link side Gone n.states l d off) (λ number t g. g) s
  ]

  enrol_lost : (n : Network) (link : ℕ) (side : Side) (k i j : ℕ) (member node : List ℕ) → May n (Enrol link side k i j member node) → IsLost n → IsLost (happens n (Enrol link side k i j member node))
  enrol_lost n link side k i j member node may s =
      let a = n.agents i in
      let b = joining a k member node in
      let free = may.0 in
      let new = may.1 in
      let off : l ≡ link → ⊥ = λ on. s.made (ap (λ (m : ℕ). n.states m d) on ∙ (free d).0) in
      still_lost n (happens n (Enrol link side k i j member node)) (ends_other link side i j n.ends l d off) (put_other link side (There k) n.states l d (λ on. off on.0))
      (λ number t g.
      let P : Option AgentError → Type 0 = λ o. find (is_numbered number) (put_agent i (done a (unless o b)) n.agents (n.ends l d)).links ≡ None in
      subst P (sym may.4) (linked_none (n.ends l d) number n.agents i b (joining_link k (next_of a.last_invoke) node) refl (λ is same. new.ends l d is (t ∙ ap There (sym same))) g)) s

  claim_lost : (n : Network) (link : ℕ) (side : Side) (k : ℕ) → May n (Claim link side k) → IsLost n → IsLost (happens n (Claim link side k))
  claim_lost n link side k may s =
      let i = n.ends link side in
      let new = may.1 in
      let off : (l ≡ link) × (d ≡ side) → ⊥ = λ on. s.made (ap (λ (j : ℕ). n.states j d) on.0 ∙ ap (λ (u : Side). n.states link u) on.1 ∙ may.0) in
      still_lost n (happens n (Claim link side k)) refl (put_other link side (There k) n.states l d off)
      (λ number t g. linked_none (n.ends l d) number n.agents i (record (n.agents i) { links = (n.agents i).links ++ joined_link k ∷ [] }) (joined_link k) refl (λ is same. new.ends l d is (t ∙ ap There (sym same))) g) s

  row_lost : (n : Network) (row : Row) → Holds n → May n row → IsLost n → IsLost (happens n row)
  row_lost n (Make i key value) h may s = still_lost n (happens n (Make i key value)) refl refl (λ number t. one_none (n.ends l d) number n.agents i _ (made_none (spent 1 (n.agents i).last_count) (n.agents i) (made None (n.agents i) n.now key value) number refl)) s
  row_lost n (Put i k m) h may s = still_lost n (happens n (Put i k m)) refl refl (λ number t. one_none (n.ends l d) number n.agents i _ (λ e. e)) s
  row_lost n (Draw i) h may s = still_lost n (happens n (Draw i)) refl refl (λ number t. one_none (n.ends l d) number n.agents i _ (λ e. e)) s
  row_lost n (Take link side k m) h may s = still_lost n (happens n (Take link side k m)) refl refl (λ number t. one_none (n.ends l d) number n.agents (n.ends link side) _ (λ e. e)) s
  row_lost n (Handle link side k (ToNeighbour m) rest) h may s = still_lost n (happens n (Handle link side k (ToNeighbour m) rest)) refl refl (λ number t. handle_none (n.ends l d) number n link side k m rest h) s
  row_lost n (Handle link side k (ToMember m) rest) h may s = still_lost n (happens n (Handle link side k (ToMember m) rest)) refl refl (λ number t g. g) s
  row_lost n (Lose link side k) h may s =
      let i = n.ends link side in
      let a = n.agents i in
      still_lost n (happens n (Lose link side k)) refl refl (λ number t. one_none (n.ends l d) number n.agents i _ (lose_none (was_up (find (is_numbered k) a.links)) (spent 1 a.last_count) a n.now k number)) s
  row_lost n (Leave link side k) h may s = leave_lost n link side s
  row_lost n (Drop link side left) h may s = still_lost n (happens n (Drop link side left)) refl refl (λ number t g. g) s
  row_lost n (Enrol link side k i j member node) h may s = enrol_lost n link side k i j member node may s
  row_lost n (Claim link side k) h may s = claim_lost n link side k may s
  row_lost n (Know x) h may s =
      let a = n.agents (n.ends l d) in
      still_lost n (happens n (Know x)) refl refl (λ number t g. ap (λ (ls : List Link). find (is_numbered number) ls) (knower_links (is_enrolled a) x a) ∙ g) s
  row_lost n Pass h may s = still_lost n (happens n Pass) refl refl (λ number t g. g) s

  rows_lost : (n : Network) (rows : List Row) → Holds n → IsRun n rows → IsLost n → IsLost (after_rows n rows)
  rows_lost n [] h run s = s
  rows_lost n (row ∷ rows) h run s = rows_lost (happens n row) rows (row_holds n row h run.0) run.1 (row_lost n row h run.0 s)

  -- so the member has no link there
  no_link : (st : EndState) (n : Network) → n.states l d ≡ st → IsLost n → is_some (link_at st (n.agents (n.ends l d)).links) ≡ false
  no_link Unmade n is s = refl
  no_link (There k) n is s = ap is_some (s.none k is)
  no_link Gone n is s = refl

  not_some : (o : Option Link) → not (is_some o) ≡ true → o ≡ None
  not_some None e = refl
  not_some (Some x) e = absurd (both_ways true (sym e) refl)

  lost_at : (st : EndState) (n : Network) → n.states l d ≡ st → has_lost st (n.agents (n.ends l d)).links ≡ true → IsLost n
  lost_at Unmade n is e = absurd (both_ways true (sym e) refl)
  lost_at (There k) n is e = record {
    made = λ u. (let clash : There k ≡ Unmade = sym is ∙ u in absurd (cc));
    none = λ number there. (let same : k ≡ number = (let p : There k ≡ There number = sym is ∙ there in cc) in ap (λ (i : ℕ). find (is_numbered i) (n.agents (n.ends l d)).links) (sym same) ∙ not_some (find (is_numbered k) (n.agents (n.ends l d)).links) e);
  }
  lost_at Gone n is e = record {
    made = λ u. (let clash : Gone ≡ Unmade = sym is ∙ u in absurd (cc));
    none = λ number there. (let clash : Gone ≡ There number = sym is ∙ there in absurd (cc));
  }

  lost_for_good : (n : Network) (rows : List Row) → Holds n → IsRun n rows → is_lost n l d ≡ true → has_link (after_rows n rows) l d ≡ true → ⊥
  lost_for_good n rows h run lost has =
      let end = after_rows n rows in
      both_ways (has_link end l d) (no_link (end.states l d) end refl (rows_lost n rows h run (lost_at (n.states l d) n refl lost))) has

-- Both ends have the link at last

lost_where : (n : Network) (l : ℕ) → (is_lost n l Near || is_lost n l Far) ≡ true → (is_lost n l Near ≡ true) ⊎ (is_lost n l Far ≡ true)
lost_where n l e = elim (cases_Bool (is_lost n l Near)) [
  | inl near ↦ inl near
  | inr isnt ↦ inr (rw isnt at e)
]

row_loses_none : (n : Network) (row : Row) (rows : List Row) (l : ℕ) → Holds n → May n row → IsRun (happens n row) rows → has_link (after_rows (happens n row) rows) l Near ≡ true → has_link (after_rows (happens n row) rows) l Far ≡ true → LosesNone l row
row_loses_none n (Make i key value) rows l h may run near far = tt
row_loses_none n (Put i k m) rows l h may run near far = tt
row_loses_none n (Draw i) rows l h may run near far = tt
row_loses_none n (Take link side k m) rows l h may run near far = tt
row_loses_none n (Handle link side k m rest) rows l h may run near far = tt
row_loses_none n (Lose link side k) rows l h may run near far = tt
row_loses_none n (Leave link side k) rows l h may run near far = tt
row_loses_none n (Drop link side left) rows l h may run near far = λ is.
    let P : ℕ → Type 0 = λ m. (is_lost n m Near || is_lost n m Far) ≡ true in
    elim (lost_where n l (subst P is may.0)) [
      | inl lost ↦ lost_for_good l Near n (Drop link side left ∷ rows) h (may, run) lost near
      | inr lost ↦ lost_for_good l Far n (Drop link side left ∷ rows) h (may, run) lost far
    ]
row_loses_none n (Enrol link side k i j member node) rows l h may run near far = tt
row_loses_none n (Claim link side k) rows l h may run near far = tt
row_loses_none n (Know x) rows l h may run near far = tt
row_loses_none n Pass rows l h may run near far = tt

pub both_lose_none : (n : Network) (rows : List Row) (l : ℕ) → Holds n → IsRun n rows → has_link (after_rows n rows) l Near ≡ true → has_link (after_rows n rows) l Far ≡ true → AllLoseNone l rows
both_lose_none n [] l h run near far = tt
both_lose_none n (row ∷ rows) l h run near far = (row_loses_none n row rows l h run.0 run.1 near far, both_lose_none (happens n row) rows l (row_holds n row h run.0) run.1 near far)
