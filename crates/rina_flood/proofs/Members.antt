-- The members of a DIF are a network after a run.
use Rattle.std.proofs.Common.{◌≡◌, ℕ, zero, suc, ◌+◌, ◌≤◌, ◌⊎◌, Bool, true, false, ◌==◌, cond, List, ◌∷◌, ◌++◌, Option, Some, None, Ok, Result, drop, length, map, slice_get, slice_set, refl, sym, ◌∙◌, ap, subst, inl, inr, arith, [], Contains, ◌-◌, ◌<◌, ◌*◌}
use Rattle.std.specs.Prelude.{find, is_some, option_map, option_and_then}
use Rattle.std.proofs.lemmas.Bool.{and_parts, both_ways, cases_Bool, cases_lt, eq-eqb, eqb-true}
use Rattle.std.proofs.lemmas.List.{drop-append-le, length-map, length-set, length_push}
use Rattle.std.proofs.lemmas.List.Elements.{Contains-push_cases}
use Rattle.std.proofs.lemmas.Option.{none-some, same_Some, slice_get-map, slice_get_within}
use Rattle.rina_access.specs.declared.rules.Rules.{Rules}
use Rattle.rina_enrol.specs.declared.message.LinkMessage.{LinkMessage}
use Rattle.rina_enrol.proofs.Guesses.{one_message}
use Rattle.rina_iface.proofs.Changed.{set_at, slice_get-set_other, slice_get-set_same}
use Rattle.rina_newest.specs.declared.item.Item.{Item}
use Rattle.rina_route.proofs.Lists.{in_none}
use Rattle.rina_agent.specs.declared.agent.Agent.{Agent}
use Rattle.rina_agent.specs.declared.link.Link.{Link}
use Rattle.rina_agent.specs.declared.message.ManagementMessage.{ManagementMessage}
use Rattle.rina_agent.specs.declared.message.ManagementMessage.TheVariants.{ToNeighbour, ToMember}
use Rattle.rina_agent.specs.declared.message.Waiting.{Waiting}
use Rattle.rina_agent.specs.declared.state.MemberState.TheVariants.{Enrolled}
use Rattle.rina_agent.specs.Agenda.{first_on, waiting_on, without_first}
use Rattle.rina_agent.specs.Counts.{spent, unless}
use Rattle.rina_agent.specs.Enrolled.{Claims, Enrols, Event, Loses, Makes, Takes, after, done}
use Rattle.rina_agent.specs.Items.{made, stated}
use Rattle.rina_agent.specs.declared.state.AgentError.{AgentError}
use Rattle.rina_dir.specs.Directory.{key_of}
use Rattle.rina_agent.specs.Enrolments.{is_numbered}
use Rattle.rina_agent.specs.Rows.{dropped, joined_link, joining, lost, was_up}
use Rattle.rina_plan.specs.declared.dif.LinkPlan.{LinkPlan}
use Rattle.rina_data.specs.declared.settings.Member.{Member}
use Rattle.rina_data.proofs.Finding.{there}
use Rattle.rina_member.specs.Knowing.{IsLaidOut}
use Rattle.rina_member.specs.Managements.{IsSdu, IsSduOf, entry_of, takes_item}
use Rattle.rina_member.specs.Start.{HasLinksIfStatic, start_items}
use Rattle.rina_member.proofs.Laying.{small_address}
use Rattle.rina_member.proofs.Lists.{is_there}
use Rattle.rina_member.proofs.TextsApart.{texts_apart}
use Rattle.rina_flood.specs.Network.{Side, Near, Far, other, EndState, Unmade, There, Gone, Network, AreApart, IsFree, IsNewNumber, Row, Make, Take, Lose, Leave, Enrol, Claim, Know, Pass, happens, laid, link_at, put_ends, put_state, with_state, put_agent, put_sent, is_enrolled, is_in, known, with_item, MayBeKnown, MayLose, May, IsRun, after_rows, IsStart, has_link}
use Rattle.rina_flood.specs.Static.{LinkEnd, IsOfDif, AreOfDif, agent_at, end_address, end_state, end_place, AreFirst, first_network, or_nobody, place_at}
use Rattle.rina_flood.specs.Laws.{TellsLinks, TellsNone}
use Rattle.rina_flood.specs.Members.{Adds, AreSame, AreShortTexts, AreTexts, ClaimsLink, IsAgentAt, IsUnused, JoinsLink, HasFirstLinks, HasNoMember, IsNetworkOf, IsRunOf, IsShortText, LosesLinkAt, MakesEntryAt, MembersSeen, OffersMessage, StartsWith, TakesEntry, GoesOn, first_links}
use Rattle.rina_flood.proofs.Ahead.{IsAhead, rows_ahead}
use Rattle.rina_flood.proofs.All.{begin_holds, run_holds}
use Rattle.rina_flood.proofs.Calls.{at_itself, at_others}
use Rattle.rina_flood.proofs.Entries.{entries_are_one}
use Rattle.rina_flood.proofs.Known.{knower_links}
use Rattle.rina_flood.proofs.Messages.{lost_link}
use Rattle.rina_flood.proofs.Places.{past_all, direction_case}
use Rattle.rina_flood.proofs.Settles.{Greatest}
use Rattle.rina_flood.proofs.Static.{address_is, found_at, found_place, no_link_at, none_at, place_is, network_starts, places_apart}
use Rattle.rina_flood.proofs.Stating.{others_tell_none, static_tells}
use Rattle.rina_flood.proofs.Strays.{IsLinked, no_strays, rows_linked}
use Rattle.rina_flood.proofs.States.{ends_here, ends_other, put_here, put_other, sides_apart}

-- Rows at the end of a run

run_more : (n : Network) (rows : List Row) (row : Row) → IsRun n rows → May (after_rows n rows) row → IsRun n (rows ++ row ∷ [])
run_more n [] row run may = (may, tt)
run_more n (first ∷ rows) row run may = (run.0, run_more (happens n first) rows row run.1 may)

after_more : (n : Network) (rows : List Row) (row : Row) → after_rows n (rows ++ row ∷ []) ≡ happens (after_rows n rows) row
after_more n [] row = refl
after_more n (first ∷ rows) row = after_more (happens n first) rows row

of_more : (rows : List Row) (row : Row) → AreOfDif rows → IsOfDif row → AreOfDif (rows ++ row ∷ [])
of_more [] row are is = (is, tt)
of_more (first ∷ rows) row are is = (are.0, of_more rows row are.1 is)

-- Texts

texts_last : (ms : List ManagementMessage) (texts : List (List ℕ)) (m : ManagementMessage) (text : List ℕ) → AreTexts ms texts → IsSduOf m text → AreTexts (ms ++ m ∷ []) (texts ++ text ∷ [])
texts_last [] [] m text are is = (is, tt)
texts_last [] (t ∷ texts) m text are is = absurd are
texts_last (first ∷ ms) [] m text are is = absurd are
texts_last (first ∷ ms) (t ∷ texts) m text are is = (are.0, texts_last ms texts m text are.1 is)

pub texts_first : (ms : List ManagementMessage) (text : List ℕ) (texts : List (List ℕ)) → AreTexts ms (text ∷ texts) → (m : ManagementMessage) × (rest : List ManagementMessage) × (ms ≡ m ∷ rest) × IsSduOf m text × AreTexts rest texts
texts_first [] text texts are = absurd are
texts_first (m ∷ ms) text texts are = (m, ms, refl, are.0, are.1)

pub no_texts : (ms : List ManagementMessage) → AreTexts ms [] → ms ≡ []
no_texts [] are = refl
no_texts (m ∷ ms) are = absurd are

-- a text of a neighbour is of one message
pub text_is : (m : LinkMessage) (n : ManagementMessage) (text : List ℕ) → IsSdu m text → IsSduOf n text → n ≡ ToNeighbour m
text_is m (ToNeighbour k) text is other = ap ToNeighbour (one_message k m text other.in_range is.in_range other.spelled is.spelled)
text_is m (ToMember f) text is other = absurd (texts_apart text m f is other)

grows : (place : ℕ) (text : List ℕ) (old new : ℕ → List (List ℕ)) → Adds place text old new → (k : ℕ) → length (old k) ≤ length (new k)
grows place text old new adds k = elim (cases_Bool (k == place)) [
  | inl e ↦
      (let is = eqb-true k place e in
      let more : length (new k) ≡ length (old k) + 1 = ap (λ (j : ℕ). length (new j)) is ∙ ap (λ (ts : List (List ℕ)). length ts) adds.here ∙ length_push (old place) text ∙ ap (λ (j : ℕ). length (old j) + 1) (sym is) in
      omega (arith, more))
  | inr e ↦
      (let same : length (new k) ≡ length (old k) = ap (λ (ts : List (List ℕ)). length ts) (adds.elsewhere k (λ is. both_ways (k == place) e (eq-eqb k place is))) in
      omega (arith, same))
]

-- What stands, and one row more

module _ (is_static : Bool) (plans : List LinkPlan) (s : MembersSeen) (r : IsRunOf is_static plans s) where
  abbrev pub net : Network
  net = after_rows r.start r.rows

  pub more_rows : (s' : MembersSeen) (row : Row) → s'.members ≡ s.members → AreShortTexts s'.sent → May net row → IsOfDif row → IsNetworkOf s' (happens net row) → IsRunOf is_static plans s'
  more_rows s' row same short may of is =
      let P : List Member → Type 0 = λ ms. IsLaidOut ms plans in
      let Q : List Member → Type 0 = λ ms. IsStart r.start (start_items is_static ms plans) in
      let R : Network → Type 0 = λ n. IsNetworkOf s' n in
      let T : Member → List Member → Type 0 = λ m ms. Contains ms m in
      record {
        laid_out = subst P (sym same) r.laid_out;
        start = r.start;
        rows = r.rows ++ row ∷ [];
        starts = subst Q (sym same) r.starts;
        tells = λ still m among. r.tells still m (subst (T m) same among);
        linked = r.linked;
        tells_none = λ dynamic m among. r.tells_none dynamic m (subst (T m) same among);
        run = run_more r.start r.rows row r.run may;
        of = of_more r.rows row r.of of;
        is = subst R (sym (after_more r.start r.rows row)) is;
        short = short;
      }

  -- the member at an end of a link in the network
  pub at_end : (l : ℕ) (d : Side) (e : LinkEnd) (a : Agent) → IsAgentAt s l d e a → (m : Member) × (slice_get s.members e.member ≡ Some m) × (net.ends l d ≡ m.addr) × (net.states l d ≡ e.state) × (net.agents m.addr ≡ a)
  at_end l d e a at =
      let within = slice_get_within s.agents e.member a at.is_agent in
      let aligned = r.is.aligned in
      let m = there s.members e.member (omega (arith, within, aligned)) in
      let ends = r.is.ends l d e m.0 at.is_end m.1 in
      (m.0, m.1, ends.0, ends.1, r.is.agents e.member m.0 a m.1 at.is_agent)

  -- the agent of one member changes
  module _ (place : ℕ) (m : Member) (a b : Agent) (is_m : slice_get s.members place ≡ Some m) (is_a : slice_get s.agents place ≡ Some a) where
    put_agents : (k : ℕ) (x : Member) (c : Agent) → slice_get s.members k ≡ Some x → slice_get (slice_set s.agents place b) k ≡ Some c → put_agent m.addr b net.agents x.addr ≡ c
    put_agents k x c is_x is_c = elim (set_at s.agents place k a b c is_a is_c) [
      | inl same ↦
          (let who : x ≡ m = same_Some x m (sym is_x ∙ ap (λ (j : ℕ). slice_get s.members j) same.0 ∙ is_m) in
          ap (λ (y : Member). put_agent m.addr b net.agents y.addr) who ∙ at_itself m.addr b net.agents ∙ sym same.1)
      | inr other ↦ at_others m.addr b net.agents x.addr (λ e. other.0 (place_is s.members plans r.laid_out k place x m is_x is_m e)) ∙ r.is.agents k x c is_x other.1
    ]

    put_others : (address : ℕ) → HasNoMember s.members address → (put_agent m.addr b net.agents address).links ≡ []
    put_others address none = ap (λ (c : Agent). c.links) (at_others m.addr b net.agents address (λ e. none place m is_m (sym e))) ∙ r.is.others address none

    pub changed : (agents : ℕ → Agent) (flying : ℕ → Side → List ManagementMessage) (made : List Item) (offered : ℕ → List Item) (sent got : ℕ → List (List ℕ)) → ((i : ℕ) → agents i ≡ put_agent m.addr b net.agents i)
        → ((l : ℕ) (d : Side) → length (got (end_place l (other d))) ≤ length (sent (end_place l d)))
        → ((l : ℕ) (d : Side) → AreTexts (flying l d) (drop (length (got (end_place l (other d)))) (sent (end_place l d))))
        → IsNetworkOf (record s { agents = slice_set s.agents place b; sent = sent; got = got }) (record net { agents = agents; sent = flying; made = made; offered = offered })
    changed agents flying made offered sent got are fewer texts = record {
      now = r.is.now;
      aligned = length-set s.agents place b ∙ r.is.aligned;
      agents = λ k x c is_x is_c. are x.addr ∙ put_agents k x c is_x is_c;
      others = λ address none. ap (λ (c : Agent). c.links) (are address) ∙ put_others address none;
      within = r.is.within;
      ends = r.is.ends;
      unmade = r.is.unmade;
      fewer = fewer;
      sent = texts;
    }

-- The same members, ticks and texts

same_texts : (is_static : Bool) (plans : List LinkPlan) (s : MembersSeen) (sent got : ℕ → List (List ℕ)) → IsRunOf is_static plans s → AreSame s.sent sent → AreSame s.got got → IsRunOf is_static plans (record s { sent = sent; got = got })
same_texts is_static plans s sent got r same_sent same_got = record {
  laid_out = r.laid_out;
  start = r.start;
  rows = r.rows;
  starts = r.starts;
  tells = r.tells;
  linked = r.linked;
  tells_none = r.tells_none;
  run = r.run;
  of = r.of;
  is = record {
    now = r.is.now;
    aligned = r.is.aligned;
    agents = r.is.agents;
    others = r.is.others;
    within = r.is.within;
    ends = r.is.ends;
    unmade = r.is.unmade;
    fewer = λ l d.
        (let was = r.is.fewer l d in
        let offers = ap (λ (ts : List (List ℕ)). length ts) (same_sent (end_place l d)) in
        let handled = ap (λ (ts : List (List ℕ)). length ts) (same_got (end_place l (other d))) in
        omega (arith, was, offers, handled));
    sent = λ l d.
        (let K : List (List ℕ) → Type 0 = λ ts. AreTexts ((after_rows r.start r.rows).sent l d) (drop (length ts) (sent (end_place l d))) in
        let P : List (List ℕ) → Type 0 = λ ts. AreTexts ((after_rows r.start r.rows).sent l d) (drop (length (s.got (end_place l (other d)))) ts) in
        subst K (sym (same_got (end_place l (other d)))) (subst P (sym (same_sent (end_place l d))) (r.is.sent l d)));
  };
  short = λ place text has. r.short place text (let P : List (List ℕ) → Type 0 = λ ts. Contains ts text in subst P (same_sent place) has);
}

pub alike_run : (is_static : Bool) (plans : List LinkPlan) (s new : MembersSeen) → IsRunOf is_static plans s → new.members ≡ s.members → new.ends ≡ s.ends → new.now ≡ s.now → new.agents ≡ s.agents → AreSame s.sent new.sent → AreSame s.got new.got → IsRunOf is_static plans new
alike_run is_static plans s new r members ends now agents sent got =
    let M : List Member → Type 0 = λ ms. IsRunOf is_static plans (record s { members = ms }) in
    let E : List LinkEnd → Type 0 = λ es. IsRunOf is_static plans (record s { members = new.members; ends = es }) in
    let T : ℕ → Type 0 = λ t. IsRunOf is_static plans (record s { members = new.members; ends = new.ends; now = t }) in
    let A : List Agent → Type 0 = λ as'. IsRunOf is_static plans (record s { members = new.members; ends = new.ends; now = new.now; agents = as' }) in
    let moved = subst A (sym agents) (subst T (sym now) (subst E (sym ends) (subst M (sym members) r))) in
    same_texts is_static plans (record s { members = new.members; ends = new.ends; now = new.now; agents = new.agents }) new.sent new.got moved sent got

-- what a call makes of the agents, where the address, the agent and the event are known
pub called_at : (agents : ℕ → Agent) (i address : ℕ) (a b : Agent) (e f : Event) → i ≡ address → agents address ≡ a → e ≡ f → after a f ≡ b → (j : ℕ) → put_agent i (after (agents i) e) agents j ≡ put_agent address b agents j
called_at agents i address a b e f is_i is_a is_e is_b j =
    ap (λ (k : ℕ). put_agent k (after (agents k) e) agents j) is_i
    ∙ ap (λ (c : Agent). put_agent address (after c e) agents j) is_a
    ∙ ap (λ (g : Event). put_agent address (after a g) agents j) is_e
    ∙ ap (λ (c : Agent). put_agent address c agents j) is_b

-- An end of a link is made or lost

set_none : {X : Type 0} (xs : List X) (at : ℕ) (x y : X) (k : ℕ) → slice_get xs at ≡ Some x → slice_get (slice_set xs at y) k ≡ None → (slice_get xs k ≡ None) × (k ≡ at → ⊥)
set_none xs at x y k is none = elim (cases_Bool (k == at)) [
  | inl e ↦ absurd (none-some y (sym none ∙ ap (λ (j : ℕ). slice_get (slice_set xs at y) j) (eqb-true k at e) ∙ slice_get-set_same xs at x y is))
  | inr e ↦
      (let apart : k ≡ at → ⊥ = λ is. both_ways (k == at) e (eq-eqb k at is) in
      (sym (slice_get-set_other xs at k y apart) ∙ none, apart))
]

module _ (s : MembersSeen) (n : Network) (l : ℕ) (d : Side) (end : LinkEnd) (state : EndState) (is_end : slice_get s.ends (end_place l d) ≡ Some end) (is : IsNetworkOf s n) where
  abbrev new_end : LinkEnd
  new_end = record end { state = state }

  abbrev restated_seen : MembersSeen
  restated_seen = record s { ends = slice_set s.ends (end_place l d) new_end }

  end_within : (place : ℕ) (e : LinkEnd) → slice_get (slice_set s.ends (end_place l d) new_end) place ≡ Some e → e.member < length s.members
  end_within place e is_e = elim (set_at s.ends (end_place l d) place end new_end e is_end is_e) [
    | inl same ↦ (let old = is.within (end_place l d) end is_end in let who : e.member ≡ end.member = ap (λ (x : LinkEnd). x.member) same.1 in omega (arith, old, who))
    | inr other ↦ is.within place e other.1
  ]

  end_stands : (k : ℕ) (t : Side) (e : LinkEnd) (m : Member) → slice_get (slice_set s.ends (end_place l d) new_end) (end_place k t) ≡ Some e → slice_get s.members e.member ≡ Some m → (n.ends k t ≡ m.addr) × (put_state l d state n.states k t ≡ e.state)
  end_stands k t e m is_e is_m = elim (set_at s.ends (end_place l d) (end_place k t) end new_end e is_end is_e) [
    | inl same ↦
        (let on = places_apart k t l d same.0 in
        let old = is.ends k t end m (ap (slice_get s.ends) same.0 ∙ is_end) (ap (λ (x : LinkEnd). slice_get s.members x.member) (sym same.1) ∙ is_m) in
        (old.0, put_here l d state n.states k t on.0 on.1 ∙ ap (λ (x : LinkEnd). x.state) (sym same.1)))
    | inr other ↦
        (let old = is.ends k t e m other.1 is_m in
        (old.0, put_other l d state n.states k t (λ on. other.0 (ap (λ (j : ℕ). end_place j t) on.0 ∙ ap (λ (u : Side). end_place l u) on.1)) ∙ old.1))
  ]

  restated : IsNetworkOf restated_seen (with_state n l d state)
  restated = record {
    now = is.now;
    aligned = is.aligned;
    agents = is.agents;
    others = is.others;
    within = end_within;
    ends = end_stands;
    unmade = λ k t none.
        (let old = set_none s.ends (end_place l d) end new_end (end_place k t) is_end none in
        put_other l d state n.states k t (λ on. old.1 (ap (λ (j : ℕ). end_place j t) on.0 ∙ ap (λ (u : Side). end_place l u) on.1)) ∙ is.unmade k t old.0);
    fewer = is.fewer;
    sent = is.sent;
  }

-- The clock goes on

one_tick : (is_static : Bool) (plans : List LinkPlan) (s : MembersSeen) → IsRunOf is_static plans s → IsRunOf is_static plans (record s { now = s.now + 1 })
one_tick is_static plans s r = more_rows is_static plans s r (record s { now = s.now + 1 }) Pass refl r.short tt tt (record {
  now = ap (λ (t : ℕ). t + 1) r.is.now;
  aligned = r.is.aligned;
  agents = r.is.agents;
  others = r.is.others;
  within = r.is.within;
  ends = r.is.ends;
  unmade = r.is.unmade;
  fewer = r.is.fewer;
  sent = r.is.sent;
})

more_ticks : (is_static : Bool) (plans : List LinkPlan) (s : MembersSeen) (count : ℕ) → IsRunOf is_static plans s → IsRunOf is_static plans (record s { now = s.now + count })
more_ticks is_static plans s zero r = (let P : ℕ → Type 0 = λ t. IsRunOf is_static plans (record s { now = t }) in let none : s.now ≡ s.now + zero = omega arith in subst P none r)
more_ticks is_static plans s (suc count) r =
    let P : ℕ → Type 0 = λ t. IsRunOf is_static plans (record s { now = t }) in
    let one : (s.now + count) + 1 ≡ s.now + suc count = omega arith in
    subst P one (one_tick is_static plans (record s { now = s.now + count }) (more_ticks is_static plans s count r))

pub goes_on_run : (is_static : Bool) (plans : List LinkPlan) (old new : MembersSeen) → IsRunOf is_static plans old → GoesOn old new → IsRunOf is_static plans new
goes_on_run is_static plans old new r h =
    let Q : ℕ → Type 0 = λ t. IsRunOf is_static plans (record old { now = t }) in
    let later = h.now in
    let all : old.now + (new.now - old.now) ≡ new.now = omega (arith, later) in
    alike_run is_static plans (record old { now = new.now }) new (subst Q all (more_ticks is_static plans old (new.now - old.now) r)) h.stays.members h.stays.ends refl h.agents h.sent h.got

-- A link is lost

-- a member that lost a link has none of its number
lost_by : (up : Bool) (o : Option AgentError) (a b : Agent) (now number : ℕ) → AreApart a.links → cond up (unless o (dropped (stated (Some number) a now) number)) (Ok (dropped a number)) ≡ Ok b → find (is_numbered number) b.links ≡ None
lost_by true None a b now number apart is = sym (ap (λ (t : Result Agent AgentError). find (is_numbered number) (done a t).links) is) ∙ lost_link number a.links apart
lost_by true (Some e) a b now number apart is = absurd (cc)
lost_by false o a b now number apart is = sym (ap (λ (t : Result Agent AgentError). find (is_numbered number) (done a t).links) is) ∙ lost_link number a.links apart

module _ (is_static : Bool) (plans : List LinkPlan) (old : MembersSeen) (r : IsRunOf is_static plans old) (l : ℕ) (d : Side) (end : LinkEnd) (agent after : Agent) (number : ℕ) (is_at : IsAgentAt old l d end agent) (has : end.state ≡ There number) (may_lose : MayLose agent number) (loses : lost agent old.now number ≡ Ok after) where
  abbrev lost_seen : MembersSeen
  lost_seen = record old { agents = slice_set old.agents end.member after }

  lost_run : IsRunOf is_static plans lost_seen
  lost_run =
      let n = net is_static plans old r in
      let at = at_end is_static plans old r l d end agent is_at in
      let event : Loses n.now number ≡ Loses old.now number = ap (λ (t : ℕ). Loses t number) r.is.now in
      let may : MayLose (n.agents (n.ends l d)) number = subst (λ (i : ℕ). MayLose (n.agents i) number) (sym at.2) (subst (λ (c : Agent). MayLose c number) (sym at.4) may_lose) in
      let are = called_at n.agents (n.ends l d) at.0.addr agent after (Loses n.now number) (Loses old.now number) at.2 at.4 event (ap (λ o. done agent o) loses) in
      more_rows is_static plans old r lost_seen (Lose l d number) refl r.short (at.3 ∙ has, may) tt
      (changed is_static plans old r end.member at.0 agent after at.1 is_at.is_agent _ n.sent _ _ old.sent old.got are r.is.fewer r.is.sent)

  -- and then the end is gone
  left_run : IsRunOf is_static plans (record lost_seen { ends = slice_set old.ends (end_place l d) (record end { state = Gone }) })
  left_run =
      let before = net is_static plans old r in
      let was = at_end is_static plans old r l d end agent is_at in
      let holds = run_holds r.start (start_items is_static old.members plans) r.rows r.starts r.run in
      let apart : AreApart agent.links = subst (λ (c : Agent). AreApart c.links) was.4 (holds.laid.apart was.0.addr) in
      let none : find (is_numbered number) after.links ≡ None = lost_by (was_up (find (is_numbered number) agent.links)) (spent 1 agent.last_count) agent after old.now number apart loses in
      let n = net is_static plans lost_seen lost_run in
      let at = at_end is_static plans lost_seen lost_run l d end after (record { is_end = is_at.is_end; is_agent = slice_get-set_same old.agents end.member agent after is_at.is_agent }) in
      let may : find (is_numbered number) (n.agents (n.ends l d)).links ≡ None = ap (λ (i : ℕ). find (is_numbered number) (n.agents i).links) at.2 ∙ ap (λ (c : Agent). find (is_numbered number) c.links) at.4 ∙ none in
      more_rows is_static plans lost_seen lost_run (record lost_seen { ends = slice_set old.ends (end_place l d) (record end { state = Gone }) }) (Leave l d number) refl lost_run.short (at.3 ∙ has, may) tt
      (restated lost_seen n l d end Gone is_at.is_end lost_run.is)

pub loses_run : (is_static : Bool) (plans : List LinkPlan) (old new : MembersSeen) → IsRunOf is_static plans old → LosesLinkAt old new → IsRunOf is_static plans new
loses_run is_static plans old new r h = elim h.ends [
  | inl stay ↦ alike_run is_static plans (record old { agents = slice_set old.agents h.end.member h.after }) new (lost_run is_static plans old r h.link h.side h.end h.agent h.after h.number h.at h.there h.may h.loses) h.members stay h.now h.agents h.sent h.got
  | inr left ↦ alike_run is_static plans (record old { agents = slice_set old.agents h.end.member h.after; ends = slice_set old.ends (end_place h.link h.side) (record h.end { state = Gone }) }) new (left_run is_static plans old r h.link h.side h.end h.agent h.after h.number h.at h.there h.may h.loses) h.members left h.now h.agents h.sent h.got
]

-- A directory entry is made

-- what a member is after it made an item
after_made : (a : Agent) (now : ℕ) (key : List ℕ) (value : Option (List ℕ)) → spent 1 a.last_count ≡ None → after a (Makes now key value) ≡ made None a now key value
after_made a now key value may = ap (λ (o : Option AgentError). done a (unless o (made None a now key value))) may

pub makes_run : (is_static : Bool) (plans : List LinkPlan) (old new : MembersSeen) → IsRunOf is_static plans old → MakesEntryAt old new → IsRunOf is_static plans new
makes_run is_static plans old new r h =
    let n = net is_static plans old r in
    let within = slice_get_within old.agents h.place h.agent h.is_agent in
    let aligned = r.is.aligned in
    let m = there old.members h.place (omega (arith, within, aligned)) in
    let is_net : n.agents m.0.addr ≡ h.agent = r.is.agents h.place m.0 h.agent m.1 h.is_agent in
    let key : List ℕ = key_of h.app in
    let b : Agent = made None h.agent old.now key h.value in
    let event : Makes n.now key h.value ≡ Makes old.now key h.value = ap (λ (t : ℕ). Makes t key h.value) r.is.now in
    let may : spent 1 (n.agents m.0.addr).last_count ≡ None = ap (λ (c : Agent). spent 1 c.last_count) is_net ∙ h.room in
    let are = called_at n.agents m.0.addr m.0.addr h.agent b (Makes n.now key h.value) (Makes old.now key h.value) refl is_net event (after_made h.agent old.now key h.value h.room) in
    let small = small_address old.members plans r.laid_out m.0 (is_there old.members h.place m.0 m.1) in
    alike_run is_static plans (record old { agents = slice_set old.agents h.place b }) new (more_rows is_static plans old r (record old { agents = slice_set old.agents h.place b }) (Make m.0.addr key h.value) refl r.short may ((h.app, refl), small)
    (changed is_static plans old r h.place m.0 h.agent b m.1 h.is_agent _ n.sent _ _ old.sent old.got are r.is.fewer r.is.sent)) h.stays.members h.stays.ends h.now h.agents h.sent h.got

-- A message is offered

offered_short : (place : ℕ) (text : List ℕ) (old new : ℕ → List (List ℕ)) → Adds place text old new → IsShortText text → AreShortTexts old → AreShortTexts new
offered_short place text old new adds short were k t has = elim (cases_Bool (k == place)) [
  | inl e ↦
      (let P : List (List ℕ) → Type 0 = λ ts. Contains ts t in
      let is = eqb-true k place e in
      elim (Contains-push_cases (old place) text t (subst P (ap new is ∙ adds.here) has)) [
        | inl was ↦ were place t was
        | inr same ↦ subst IsShortText same short
      ])
  | inr e ↦ (let P : List (List ℕ) → Type 0 = λ ts. Contains ts t in were k t (subst P (adds.elsewhere k (λ is. both_ways (k == place) e (eq-eqb k place is))) has))
]

pub offers_run : (is_static : Bool) (plans : List LinkPlan) (old new : MembersSeen) → IsRunOf is_static plans old → OffersMessage old new → IsRunOf is_static plans new
offers_run is_static plans old new r h =
    let n = net is_static plans old r in
    let l = h.link in
    let d = h.side in
    let message = h.message in
    let at = at_end is_static plans old r l d h.end h.agent h.at in
    let after_it : Agent = record h.agent { agenda = without_first h.number h.agent.agenda } in
    let there : n.states l d ≡ There h.number = at.3 ∙ h.there in
    let may : first_on h.number (n.agents (n.ends l d)).agenda ≡ Some (record { link = h.number; message = message }) =
    ap (λ (i : ℕ). first_on h.number (n.agents i).agenda) at.2 ∙ ap (λ (c : Agent). first_on h.number c.agenda) at.4 ∙ h.first in
    let short : AreShortTexts new.sent = offered_short (end_place l d) h.text old.sent new.sent h.sent (record { message = message; is_sdu = h.written; short = h.short }) r.short in
    let are = called_at n.agents (n.ends l d) at.0.addr h.agent after_it (Takes h.number) (Takes h.number) at.2 at.4 refl refl in
    let fewer : (k : ℕ) (e : Side) → length (old.got (end_place k (other e))) ≤ length (new.sent (end_place k e)) = λ k e. (let was = r.is.fewer k e in let more = grows (end_place l d) h.text old.sent new.sent h.sent (end_place k e) in omega (arith, was, more)) in
    let handled_there : ℕ = length (old.got (end_place l (other d))) in
    let longer : drop handled_there (new.sent (end_place l d)) ≡ drop handled_there (old.sent (end_place l d)) ++ h.text ∷ [] = ap (λ (ts : List (List ℕ)). drop handled_there ts) h.sent.here ∙ drop-append-le handled_there (old.sent (end_place l d)) (h.text ∷ []) (r.is.fewer l d) in
    let T : List (List ℕ) → Type 0 = λ ts. AreTexts (n.sent l d ++ message ∷ []) ts in
    let here : AreTexts (n.sent l d ++ message ∷ []) (drop handled_there (new.sent (end_place l d))) = subst T (sym longer) (texts_last (n.sent l d) (drop handled_there (old.sent (end_place l d))) message h.text (r.is.sent l d) h.written) in
    let texts : (k : ℕ) (e : Side) → AreTexts (put_sent l d (n.sent l d ++ message ∷ []) n.sent k e) (drop (length (old.got (end_place k (other e)))) (new.sent (end_place k e))) = λ k e.
    direction_case (λ (ms : List ManagementMessage). AreTexts ms (drop (length (old.got (end_place k (other e)))) (new.sent (end_place k e)))) l d k e (n.sent l d ++ message ∷ []) (n.sent k e)
    (λ a b. (let Q : ℕ → Type 0 = λ j. AreTexts (n.sent l d ++ message ∷ []) (drop (length (old.got (end_place j (other e)))) (new.sent (end_place j e))) in
    let R : Side → Type 0 = λ t. AreTexts (n.sent l d ++ message ∷ []) (drop (length (old.got (end_place l (other t)))) (new.sent (end_place l t))) in
    subst Q (sym a) (subst R (sym b) here)))
    (λ apart. (let U : List (List ℕ) → Type 0 = λ ts. AreTexts (n.sent k e) (drop (length (old.got (end_place k (other e)))) ts) in
    subst U (sym (h.sent.elsewhere (end_place k e) (λ same. apart (places_apart k e l d same)))) (r.is.sent k e))) in
    alike_run is_static plans (record old { agents = slice_set old.agents h.end.member after_it; sent = new.sent }) new (more_rows is_static plans old r (record old { agents = slice_set old.agents h.end.member after_it; sent = new.sent }) (Take l d h.number message) refl short (there, may) tt
    (changed is_static plans old r h.end.member at.0 h.agent after_it at.1 h.at.is_agent _ (put_sent l d (n.sent l d ++ message ∷ []) n.sent) _ _ new.sent old.got are fewer texts)) h.stays.members h.stays.ends h.now h.agents (λ k. refl) h.got

-- A directory entry is taken by all

enrolled_is : (a : Agent) → a.state ≡ Enrolled → is_enrolled a ≡ true
enrolled_is a is = ap is_in is

with_taken : (a : Agent) (x : Item) → a.state ≡ Enrolled → with_item x a ≡ takes_item a x
with_taken a x is = ap (λ (b : Bool). cond b (takes_item a x) a) (enrolled_is a is)

module _ (is_static : Bool) (plans : List LinkPlan) (old new : MembersSeen) (r : IsRunOf is_static plans old) (h : TakesEntry old new) where
  abbrev before : Network
  before = net is_static plans old r

  abbrev entry : Item
  entry = entry_of h.app h.at.addr

  taken_agents : (k : ℕ) (m : Member) (c : Agent) → slice_get old.members k ≡ Some m → slice_get (map (λ a. takes_item a entry) old.agents) k ≡ Some c → (known before entry).agents m.addr ≡ c
  taken_agents k m c is_m is_c =
      let aligned = r.is.aligned in
      let within = slice_get_within old.members k m is_m in
      let a = there old.agents k (omega (arith, aligned, within)) in
      let same : takes_item a.0 entry ≡ c = same_Some (takes_item a.0 entry) c (ap (λ (o : Option Agent). option_map (λ a. takes_item a entry) o) (sym a.1) ∙ sym (slice_get-map (λ a. takes_item a entry) old.agents k) ∙ is_c) in
      ap (λ (b : Agent). with_item entry b) (r.is.agents k m a.0 is_m a.1) ∙ with_taken a.0 entry (h.enrolled k a.0 a.1) ∙ same

  -- an agent with links is a member's
  by_place : (i : ℕ) (o : Option ℕ) → place_at old.members i ≡ o → (before.agents i).links ≡ [] ⊎ (is_enrolled (before.agents i) ≡ true)
  by_place i None place = inl (r.is.others i (none_at old.members i place))
  by_place i (Some k) place =
      let m = found_at (λ (x : Member). x.addr == i) old.members k place in
      let aligned = r.is.aligned in
      let within = slice_get_within old.members k m.0 m.1 in
      let a = there old.agents k (omega (arith, aligned, within)) in
      inr (ap (λ (j : ℕ). is_enrolled (before.agents j)) (sym (eqb-true m.0.addr i m.2)) ∙ ap is_enrolled (r.is.agents k m.0 a.0 m.1 a.1) ∙ enrolled_is a.0 (h.enrolled k a.0 a.1))

  linked_enrolled : (l : ℕ) (d : Side) → has_link before l d ≡ true → is_enrolled (before.agents (before.ends l d)) ≡ true
  linked_enrolled l d has = elim (by_place (before.ends l d) (place_at old.members (before.ends l d)) refl) [
    | inl none ↦ absurd (no_link_at (before.states l d) (ap (λ (ls : List Link). is_some (link_at (before.states l d) ls)) (sym none) ∙ has))
    | inr is ↦ is
  ]

  may_know : MayBeKnown before entry
  may_know = record {
    both = λ l d up first. (let parts = and_parts _ _ up in linked_enrolled l (other d) parts.1);
    one = λ y e k v. entries_are_one is_static r.start old.members plans r.rows y h.app h.at.addr r.starts r.run r.of e k v;
    past = omega arith;
    counted = omega arith;
  }

  pub takes_run : IsRunOf is_static plans new
  takes_run =
      alike_run is_static plans (record old { agents = map (λ a. takes_item a entry) old.agents }) new (more_rows is_static plans old r (record old { agents = map (λ a. takes_item a entry) old.agents }) (Know entry) refl r.short may_know (h.app, h.at.addr, refl, small_address old.members plans r.laid_out h.at h.among) (record {
        now = r.is.now;
        aligned = length-map old.agents (λ a. takes_item a entry) ∙ r.is.aligned;
        agents = taken_agents;
        others = λ address none. knower_links (is_enrolled (before.agents address)) entry (before.agents address) ∙ r.is.others address none;
        within = r.is.within;
        ends = r.is.ends;
        unmade = r.is.unmade;
        fewer = r.is.fewer;
        sent = r.is.sent;
      })) h.stays.members h.stays.ends h.now h.agents h.sent h.got

-- A link is made

-- two more behind a list
get_more : {X : Type 0} (xs : List X) (a b : X) (k : ℕ) (x : X) → slice_get (xs ++ a ∷ b ∷ []) k ≡ Some x → (slice_get xs k ≡ Some x) ⊎ (((k ≡ length xs) × (x ≡ a)) ⊎ ((k ≡ length xs + 1) × (x ≡ b)))
get_more [] a b zero x is = inr (inl (refl, sym (same_Some a x is)))
get_more [] a b (suc zero) x is = inr (inr (omega arith, sym (same_Some b x is)))
get_more [] a b (suc (suc k)) x is = absurd (none-some x is)
get_more (y ∷ xs) a b zero x is = inl is
get_more (y ∷ xs) a b (suc k) x is = elim (get_more xs a b k x is) [
  | inl old ↦ inl old
  | inr new ↦ inr (elim new [
    | inl first ↦ (let at = first.0 in inl (omega (arith, at), first.1))
    | inr second ↦ (let at = second.0 in inr (omega (arith, at), second.1))
  ])
]

none_behind : {X : Type 0} (xs : List X) (a b : X) (k : ℕ) → slice_get (xs ++ a ∷ b ∷ []) k ≡ None → (slice_get xs k ≡ None) × (length xs + 1 < k)
none_behind [] a b zero none = absurd (none-some a (sym none))
none_behind [] a b (suc zero) none = absurd (none-some b (sym none))
none_behind [] a b (suc (suc k)) none = (refl, omega arith)
none_behind (y ∷ xs) a b zero none = absurd (none-some y (sym none))
none_behind (y ∷ xs) a b (suc k) none = (let r = none_behind xs a b k none in let lt = r.1 in (r.0, omega (arith, lt)))

get_past : {X : Type 0} (xs : List X) (k : ℕ) → length xs ≤ k → slice_get xs k ≡ None
get_past [] k le = refl
get_past (x ∷ xs) zero le = absurd (omega (arith, le))
get_past (x ∷ xs) (suc k) le = get_past xs k (omega (arith, le))

-- which links the places behind all ends are
place_before : (l link : ℕ) (d : Side) → end_place l d < end_place link Near → l ≡ link → ⊥
place_before l link Near lt is = omega (arith, lt, is)
place_before l link Far lt is = omega (arith, lt, is)

place_near : (l link : ℕ) (d : Side) → end_place l d ≡ end_place link Near → (l ≡ link) × (d ≡ Near)
place_near l link d is = places_apart l d link Near is

place_far : (l link : ℕ) (d : Side) → end_place l d ≡ end_place link Near + 1 → (l ≡ link) × (d ≡ Far)
place_far l link d is = places_apart l d link Far is

place_behind : (l link : ℕ) (d : Side) → end_place link Near + 1 < end_place l d → l ≡ link → ⊥
place_behind l link Near lt is = omega (arith, lt, is)
place_behind l link Far lt is = omega (arith, lt, is)

ends_far : (link i j : ℕ) (ends : ℕ → Side → ℕ) (l : ℕ) (d : Side) → l ≡ link → d ≡ Far → put_ends link Near i j ends l d ≡ j
ends_far link i j ends l d a b =
    let P : Side → Type 0 = λ t. put_ends link Near i j ends l t ≡ j in
    let e = eq-eqb l link a in
    subst P (sym b) (rw e refl)

-- a link between two members stands behind those that stood
module _ (s : MembersSeen) (n : Network) (link number place far : ℕ) (m f : Member) (is_m : slice_get s.members place ≡ Some m) (is_f : slice_get s.members far ≡ Some f) (behind : length s.ends ≡ end_place link Near) (is : IsNetworkOf s n) where
  abbrev near_end : LinkEnd
  near_end = record { member = place; state = There number }

  abbrev far_end : LinkEnd
  far_end = record { member = far; state = Unmade }

  laid_within : (at : ℕ) (e : LinkEnd) → slice_get (s.ends ++ near_end ∷ far_end ∷ []) at ≡ Some e → e.member < length s.members
  laid_within at e is_e = elim (get_more s.ends near_end far_end at e is_e) [
    | inl old ↦ is.within at e old
    | inr new ↦ elim new [
      | inl first ↦ (let lt = slice_get_within s.members place m is_m in let who : e.member ≡ place = ap (λ (x : LinkEnd). x.member) first.1 in omega (arith, lt, who))
      | inr second ↦ (let lt = slice_get_within s.members far f is_f in let who : e.member ≡ far = ap (λ (x : LinkEnd). x.member) second.1 in omega (arith, lt, who))
    ]
  ]

  old_link : (l : ℕ) (d : Side) (e : LinkEnd) → slice_get s.ends (end_place l d) ≡ Some e → l ≡ link → ⊥
  old_link l d e is_e = (let lt = slice_get_within s.ends (end_place l d) e is_e in place_before l link d (omega (arith, lt, behind)))

  laid_stands : (l : ℕ) (d : Side) (e : LinkEnd) (x : Member) → slice_get (s.ends ++ near_end ∷ far_end ∷ []) (end_place l d) ≡ Some e → slice_get s.members e.member ≡ Some x → (put_ends link Near m.addr f.addr n.ends l d ≡ x.addr) × (put_state link Near (There number) n.states l d ≡ e.state)
  laid_stands l d e x is_e is_x = elim (get_more s.ends near_end far_end (end_place l d) e is_e) [
    | inl old ↦
        (let off = old_link l d e old in
        let was = is.ends l d e x old is_x in
        (ends_other link Near m.addr f.addr n.ends l d off ∙ was.0, put_other link Near (There number) n.states l d (λ on. off on.0) ∙ was.1))
    | inr new ↦ elim new [
      | inl first ↦
          (let on = place_near l link d (first.0 ∙ behind) in
          let who : m ≡ x = same_Some m x (sym is_m ∙ ap (λ (y : LinkEnd). slice_get s.members y.member) (sym first.1) ∙ is_x) in
          (ends_here link Near m.addr f.addr n.ends l d on.0 on.1 ∙ ap (λ (y : Member). y.addr) who, put_here link Near (There number) n.states l d on.0 on.1 ∙ ap (λ (y : LinkEnd). y.state) (sym first.1)))
      | inr second ↦
          (let on = place_far l link d (second.0 ∙ ap (λ (k : ℕ). k + 1) behind) in
          let who : f ≡ x = same_Some f x (sym is_f ∙ ap (λ (y : LinkEnd). slice_get s.members y.member) (sym second.1) ∙ is_x) in
          let off : d ≡ Near → ⊥ = λ is_near. sides_apart Near (sym on.1 ∙ is_near) in
          let at = second.0 in
          let none = is.unmade l d (get_past s.ends (end_place l d) (omega (arith, at))) in
          (ends_far link m.addr f.addr n.ends l d on.0 on.1 ∙ ap (λ (y : Member). y.addr) who, put_other link Near (There number) n.states l d (λ both. off both.1) ∙ none ∙ ap (λ (y : LinkEnd). y.state) (sym second.1)))
    ]
  ]

  laid_unmade : (l : ℕ) (d : Side) → slice_get (s.ends ++ near_end ∷ far_end ∷ []) (end_place l d) ≡ None → put_state link Near (There number) n.states l d ≡ Unmade
  laid_unmade l d none =
      let r = none_behind s.ends near_end far_end (end_place l d) none in
      let lt = r.1 in
      let off = place_behind l link d (omega (arith, lt, behind)) in
      put_other link Near (There number) n.states l d (λ on. off on.0) ∙ is.unmade l d r.0

  laid_network : IsNetworkOf (record s { ends = s.ends ++ near_end ∷ far_end ∷ [] }) (laid n link Near number m.addr f.addr)
  laid_network = record {
    now = is.now;
    aligned = is.aligned;
    agents = is.agents;
    others = is.others;
    within = laid_within;
    ends = laid_stands;
    unmade = laid_unmade;
    fewer = is.fewer;
    sent = is.sent;
  }

-- a number that no end of a member has, in the network
module _ (is_static : Bool) (plans : List LinkPlan) (s : MembersSeen) (r : IsRunOf is_static plans s) where
  end_number : (place number : ℕ) (m : Member) (a : Agent) → slice_get s.members place ≡ Some m → IsUnused s place a number → (l : ℕ) (d : Side) (o : Option LinkEnd) → slice_get s.ends (end_place l d) ≡ o → (net is_static plans s r).ends l d ≡ m.addr → (net is_static plans s r).states l d ≡ There number → ⊥
  end_number place number m a is_m u l d None is_o at has = (let clash : Unmade ≡ There number = sym (r.is.unmade l d is_o) ∙ has in absurd (cc))
  end_number place number m a is_m u l d (Some e) is_o at has =
      let x = there s.members e.member (r.is.within (end_place l d) e is_o) in
      let stands = r.is.ends l d e x.0 is_o x.1 in
      u.ends (end_place l d) e is_o (place_is s.members plans r.laid_out e.member place x.0 m x.1 is_m (sym stands.0 ∙ at)) (sym stands.1 ∙ has)

  -- at the start no message waits
  first_linked : (i : ℕ) → IsLinked (r.start.agents i)
  first_linked i w e = (let P : List Waiting → Type 0 = λ ws. Contains ws w in absurd (in_none w (subst P (r.starts.agendas i) e)))

  new_number : (place number : ℕ) (m : Member) (a : Agent) → slice_get s.members place ≡ Some m → IsUnused s place a number → IsNewNumber (net is_static plans s r) m.addr number
  new_number place number m a is_m u =
      let is_net = r.is.agents place m a is_m u.is_agent in
      record {
        ends = λ l d at has. end_number place number m a is_m u l d (slice_get s.ends (end_place l d)) refl at has;
        links = ap (λ (c : Agent). find (is_numbered number) c.links) is_net ∙ u.links;
        agenda = ap (λ (c : Agent). waiting_on number c.agenda) is_net ∙ no_strays a number (subst IsLinked is_net (rows_linked r.start r.rows r.run first_linked m.addr)) u.links;
      }

  -- a link behind all is free
  is_free : (link : ℕ) → length s.ends ≡ end_place link Near → ((d : Side) → s.sent (end_place link d) ≡ []) → IsFree (net is_static plans s r) link
  is_free link behind unsent Near =
      let T : List (List ℕ) → Type 0 = λ ts. AreTexts ((net is_static plans s r).sent link Near) (drop (length (s.got (end_place link Far))) ts) in
      let K : List (List ℕ) → Type 0 = λ ts. AreTexts ((net is_static plans s r).sent link Near) ts in
      (r.is.unmade link Near (get_past s.ends (end_place link Near) (omega (arith, behind))), no_texts ((net is_static plans s r).sent link Near) (subst K (past_all [] (length (s.got (end_place link Far))) (omega arith)) (subst T (unsent Near) (r.is.sent link Near))))
  is_free link behind unsent Far =
      let T : List (List ℕ) → Type 0 = λ ts. AreTexts ((net is_static plans s r).sent link Far) (drop (length (s.got (end_place link Near))) ts) in
      let K : List (List ℕ) → Type 0 = λ ts. AreTexts ((net is_static plans s r).sent link Far) ts in
      (r.is.unmade link Far (get_past s.ends (end_place link Far) (omega (arith, behind))), no_texts ((net is_static plans s r).sent link Far) (subst K (past_all [] (length (s.got (end_place link Near))) (omega arith)) (subst T (unsent Far) (r.is.sent link Far))))

-- what a member is after it asked for an enrolment
after_joined : (a : Agent) (number : ℕ) (member node : List ℕ) → spent 1 a.last_invoke ≡ None → after a (Enrols number member node) ≡ joining a number member node
after_joined a number member node may = ap (λ (o : Option AgentError). done a (unless o (joining a number member node))) may

pub joins_run : (is_static : Bool) (plans : List LinkPlan) (old new : MembersSeen) → IsRunOf is_static plans old → JoinsLink old new → IsRunOf is_static plans new
joins_run is_static plans old new r h =
    let n = net is_static plans old r in
    let aligned = r.is.aligned in
    let place_within = slice_get_within old.agents h.place h.agent h.unused.is_agent in
    let m = there old.members h.place (omega (arith, place_within, aligned)) in
    let f = there old.members h.far h.within in
    let is_net : n.agents m.0.addr ≡ h.agent = r.is.agents h.place m.0 h.agent m.1 h.unused.is_agent in
    let b : Agent = joining h.agent h.number h.member h.node in
    let near_small = small_address old.members plans r.laid_out m.0 (is_there old.members h.place m.0 m.1) in
    let far_small = small_address old.members plans r.laid_out f.0 (is_there old.members h.far f.0 f.1) in
    let room : spent 1 (n.agents m.0.addr).last_invoke ≡ None = ap (λ (c : Agent). spent 1 c.last_invoke) is_net ∙ h.room in
    let may : May n (Enrol h.link Near h.number m.0.addr f.0.addr h.member h.node) = (is_free is_static plans old r h.link h.behind h.unsent, new_number is_static plans old r h.place h.number m.0 h.agent m.1 h.unused, near_small, far_small, room) in
    let are = called_at n.agents m.0.addr m.0.addr h.agent b (Enrols h.number h.member h.node) (Enrols h.number h.member h.node) refl is_net refl (after_joined h.agent h.number h.member h.node h.room) in
    let joined = changed is_static plans old r h.place m.0 h.agent b m.1 h.unused.is_agent _ n.sent _ _ old.sent old.got are r.is.fewer r.is.sent in
    let s' : MembersSeen = record old { agents = slice_set old.agents h.place b; ends = old.ends ++ record { member = h.place; state = There h.number } ∷ record { member = h.far; state = Unmade } ∷ [] } in
    alike_run is_static plans s' new (more_rows is_static plans old r s' (Enrol h.link Near h.number m.0.addr f.0.addr h.member h.node) refl r.short may tt
    (laid_network (record old { agents = slice_set old.agents h.place b }) _ h.link h.number h.place h.far m.0 f.0 m.1 f.1 h.behind joined)) h.members h.ends h.now h.agents h.sent h.got

-- at the start a link that is not made at an end is not made at the other
other_unmade : (n : Network) (count : ℕ) → HasFirstLinks n count → (l : ℕ) (d : Side) → n.states l d ≡ Unmade → n.states l (other d) ≡ Unmade
other_unmade n count has l d unmade = elim (cases_lt l count) [
  | inl lt ↦ absurd ((has l d).0 lt unmade)
  | inr le ↦ (has l (other d)).1 le
]

-- the other end of a link that is not made at an end is not up
ahead_of : (is_static : Bool) (plans : List LinkPlan) (s : MembersSeen) (r : IsRunOf is_static plans s) → IsAhead (net is_static plans s r)
ahead_of is_static plans s r =
    let told = start_items is_static s.members plans in
    rows_ahead r.start r.rows (begin_holds r.start told r.starts) r.run (record {
      unsent = λ l d e. r.starts.sent l d;
      down = λ l d e. ap (λ (x : EndState). was_up (link_at x (r.start.agents (r.start.ends l (other d))).links)) (other_unmade r.start (first_links is_static plans) r.linked l d e);
    })

pub claims_link_run : (is_static : Bool) (plans : List LinkPlan) (old new : MembersSeen) → IsRunOf is_static plans old → ClaimsLink old new → IsRunOf is_static plans new
claims_link_run is_static plans old new r h =
    let n = net is_static plans old r in
    let l = h.link in
    let d = h.side in
    let at = at_end is_static plans old r l d h.end h.agent (record { is_end = h.at; is_agent = h.unused.is_agent }) in
    let b : Agent = record h.agent { links = h.agent.links ++ joined_link h.number ∷ [] } in
    let new_there : IsNewNumber n (n.ends l d) h.number = subst (λ (i : ℕ). IsNewNumber n i h.number) (sym at.2) (new_number is_static plans old r h.end.member h.number at.0 h.agent at.1 h.unused) in
    let may : May n (Claim l d h.number) = (at.3 ∙ h.unmade, new_there, (ahead_of is_static plans old r).down l d (at.3 ∙ h.unmade)) in
    let are = called_at n.agents (n.ends l d) at.0.addr h.agent b (Claims h.number) (Claims h.number) at.2 at.4 refl refl in
    let claimed = changed is_static plans old r h.end.member at.0 h.agent b at.1 h.unused.is_agent _ n.sent _ _ old.sent old.got are r.is.fewer r.is.sent in
    let s' : MembersSeen = record old { agents = slice_set old.agents h.end.member b; ends = slice_set old.ends (end_place l d) (record h.end { state = There h.number }) } in
    alike_run is_static plans s' new (more_rows is_static plans old r s' (Claim l d h.number) refl r.short may tt
    (restated (record old { agents = slice_set old.agents h.end.member b }) _ l d h.end (There h.number) h.at claimed)) h.members h.ends h.now h.agents h.sent h.got

-- The start

some_rules : Rules
some_rules = record { rules = []; default = false; few = omega arith }

no_links : (members : List Member) (agents : List Agent) (address : ℕ) (o : Option ℕ) → place_at members address ≡ o → HasNoMember members address → (agent_at some_rules members agents address).links ≡ []
no_links members agents address None place none = ap (λ (o : Option ℕ). (or_nobody some_rules address (option_and_then (slice_get agents) o)).links) place
no_links members agents address (Some k) place none =
    let m = found_at (λ (x : Member). x.addr == address) members k place in
    absurd (none k m.0 m.1 (eqb-true m.0.addr address m.2))

first_tells : Greatest → (is_static : Bool) (members : List Member) (plans : List LinkPlan) (agents : List Agent) (ends : List LinkEnd) (now : ℕ) (m : Member) → is_static ≡ true → IsLaidOut members plans → AreFirst is_static members plans agents → Contains members m
    → TellsLinks (first_network is_static some_rules members plans agents ends now) m.addr
first_tells greatest true members plans agents ends now m still laid first among = static_tells greatest some_rules members plans agents ends now m laid first among
first_tells greatest false members plans agents ends now m still laid first among = absurd (both_ways true (sym still) refl)

first_tells_none : (is_static : Bool) (members : List Member) (plans : List LinkPlan) (agents : List Agent) (ends : List LinkEnd) (now : ℕ) (m : Member) → is_static ≡ false → IsLaidOut members plans → AreFirst is_static members plans agents → Contains members m
    → TellsNone (first_network is_static some_rules members plans agents ends now) m.addr
first_tells_none true members plans agents ends now m dynamic laid first among = absurd (both_ways true dynamic refl)
first_tells_none false members plans agents ends now m dynamic laid first among = others_tell_none some_rules members plans agents ends now m laid first among

-- two ends for each link of the start
first_ends : (is_static : Bool) (plans : List LinkPlan) (ends : List LinkEnd) → HasLinksIfStatic is_static ends → (is_static ≡ true → length ends ≡ 2 * length plans) → length ends ≡ 2 * first_links is_static plans
first_ends true plans ends bare planned = planned refl
first_ends false plans ends bare planned = ap (λ (es : List LinkEnd). length es) (bare refl)

place_within : (l count : ℕ) (d : Side) → l < count → end_place l d < 2 * count
place_within l count Near lt = omega (arith, lt)
place_within l count Far lt = omega (arith, lt)

place_past : (l count : ℕ) (d : Side) → count ≤ l → 2 * count ≤ end_place l d
place_past l count Near le = omega (arith, le)
place_past l count Far le = omega (arith, le)

state_made : (ends : List LinkEnd) (place : ℕ) → place < length ends → ((k : ℕ) (e : LinkEnd) → slice_get ends k ≡ Some e → e.state ≡ Unmade → ⊥) → end_state (slice_get ends place) ≡ Unmade → ⊥
state_made ends place lt made unmade = (let e = there ends place lt in made place e.0 e.1 (ap end_state (sym e.1) ∙ unmade))

first_made : (ends : List LinkEnd) (count : ℕ) → length ends ≡ 2 * count → ((k : ℕ) (e : LinkEnd) → slice_get ends k ≡ Some e → e.state ≡ Unmade → ⊥) → (l : ℕ) (d : Side)
    → (l < count → end_state (slice_get ends (end_place l d)) ≡ Unmade → ⊥) × (count ≤ l → end_state (slice_get ends (end_place l d)) ≡ Unmade)
first_made ends count are made l d = (
  λ lt. (let within = place_within l count d lt in state_made ends (end_place l d) (omega (arith, within, are)) made),
  λ le. (let past = place_past l count d le in ap end_state (get_past ends (end_place l d) (omega (arith, past, are)))),
)

pub start_run : Greatest → (is_static : Bool) (plans : List LinkPlan) (s : MembersSeen) → StartsWith is_static plans s → IsRunOf is_static plans s
start_run greatest is_static plans s h =
    let n = first_network is_static some_rules s.members plans s.agents s.ends s.now in
    let agent : (k : ℕ) (m : Member) (a : Agent) → slice_get s.members k ≡ Some m → slice_get s.agents k ≡ Some a → n.agents m.addr ≡ a = λ k m a is_m is_a.
    ap (λ (o : Option ℕ). or_nobody some_rules m.addr (option_and_then (slice_get s.agents) o)) (found_place s.members plans h.laid_out k m (place_at s.members m.addr) is_m refl) ∙ ap (λ (o : Option Agent). or_nobody some_rules m.addr o) is_a in
    let nothing : (l : ℕ) (d : Side) → (length (s.got (end_place l (other d))) ≡ 0) × (s.sent (end_place l d) ≡ []) = λ l d. (ap (λ (ts : List (List ℕ)). length ts) (h.got (end_place l (other d))), h.sent (end_place l d)) in
    record {
      laid_out = h.laid_out;
      start = n;
      rows = [];
      starts = network_starts is_static some_rules s.members plans s.agents s.ends s.now h.laid_out h.first h.ends;
      tells = λ still m among. first_tells greatest is_static s.members plans s.agents s.ends s.now m still h.laid_out h.first among;
      linked = first_made s.ends (first_links is_static plans) (first_ends is_static plans s.ends h.bare h.planned) h.made;
      tells_none = λ dynamic m among. first_tells_none is_static s.members plans s.agents s.ends s.now m dynamic h.laid_out h.first among;
      run = tt;
      of = tt;
      is = record {
        now = refl;
        aligned = h.first.aligned;
        agents = agent;
        others = λ address none. no_links s.members s.agents address (place_at s.members address) refl none;
        within = h.ends.within;
        ends = λ l d e m is_e is_m. (
          ap (λ (o : Option LinkEnd). end_address s.members o) is_e ∙ address_is s.members e.member m is_m,
          ap end_state is_e,
        );
        unmade = λ l d none. ap end_state none;
        fewer = λ l d. (let none = nothing l d in let got = none.0 in omega (arith, got));
        sent = λ l d.
            (let none = nothing l d in
            let Q : ℕ → Type 0 = λ k. AreTexts [] (drop k (s.sent (end_place l d))) in
            let R : List (List ℕ) → Type 0 = λ ts. AreTexts [] (drop 0 ts) in
            subst Q (sym none.0) (subst R (sym none.1) tt));
      };
      short = λ place text has. (let P : List (List ℕ) → Type 0 = λ ts. Contains ts text in absurd (in_none text (subst P (h.sent place) has)));
    }
