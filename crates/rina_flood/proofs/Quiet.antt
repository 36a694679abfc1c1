-- Where all is quiet on a walk of links, the members at its ends agree.
use Rattle.std.proofs.Common.{◌≡◌, ℕ, ◌⊎◌, Bool, true, false, List, Contains, inl, inr, ◌∷◌, ◌++◌, None, Some, length, map, slice_get, refl, sym, ◌∙◌, ap, subst, arith, []}
use Rattle.std.specs.Prelude.{flat_map}
use Rattle.std.proofs.lemmas.Bool.{and_from, both_ways}
use Rattle.std.proofs.lemmas.Option.{slice_get_within}
use Rattle.rina_newest.specs.Newest.{kept_at, value_at}
use Rattle.rina_agent.specs.declared.agent.Agent.{Agent}
use Rattle.rina_agent.specs.declared.message.ManagementMessage.{ManagementMessage}
use Rattle.rina_agent.specs.Neighbours.{link_key, link_state}
use Rattle.rina_agent.specs.Rows.{was_up}
use Rattle.rina_plan.specs.declared.dif.LinkPlan.{LinkPlan}
use Rattle.rina_data.specs.declared.settings.Member.{Member}
use Rattle.rina_data.proofs.Finding.{there}
use Rattle.rina_member.specs.Start.{start_items}
use Rattle.rina_member.proofs.Laying.{small_address}
use Rattle.rina_member.proofs.Lists.{is_there}
use Rattle.rina_flood.specs.Network.{Side, Near, Far, other, EndState, Network, carried, is_up, link_at, on_way, waiting_at}
use Rattle.rina_flood.specs.Laws.{IsQuietWalk, TellsLinks, TellsNone}
use Rattle.rina_flood.specs.Members.{AreTexts, IsQuietAt, IsQuietPath, IsRunOf, MembersSeen, QuietMembersAgree}
use Rattle.rina_flood.specs.Static.{address_in, end_place}
use Rattle.rina_flood.proofs.Entries.{rows_leave}
use Rattle.rina_flood.proofs.Members.{net, at_end, no_texts}
use Rattle.rina_flood.proofs.Places.{past_all}
use Rattle.rina_flood.proofs.Settles.{Greatest, quiet_equal}
use Rattle.rina_flood.proofs.Static.{address_is}
use Rattle.rina_flood.proofs.Told.{quiet_tells}

-- what holds at an end and at the other holds at both
both_sides : (P : Side → Type 0) (d : Side) → P d → P (other d) → P Near × P Far
both_sides P Near a b = (a, b)
both_sides P Far a b = (b, a)

module _ (is_static : Bool) (plans : List LinkPlan) (s : MembersSeen) (r : IsRunOf is_static plans s) where
  abbrev n : Network
  n = net is_static plans s r

  ends_at : (l : ℕ) (d : Side) (place : ℕ) → IsQuietAt s l d place → n.ends l d ≡ address_in s.members place
  ends_at l d place q =
      let at = at_end is_static plans s r l d q.end q.agent q.at in
      at.2 ∙ sym (address_is s.members q.end.member at.0 at.1) ∙ ap (λ (k : ℕ). address_in s.members k) q.member

  up_at : (l : ℕ) (d : Side) (place : ℕ) → IsQuietAt s l d place → is_up n l d ≡ true
  up_at l d place q =
      let at = at_end is_static plans s r l d q.end q.agent q.at in
      ap (λ (k : EndState). was_up (link_at k (n.agents (n.ends l d)).links)) at.3
      ∙ ap (λ (i : ℕ). was_up (link_at q.end.state (n.agents i).links)) at.2
      ∙ ap (λ (c : Agent). was_up (link_at q.end.state c.links)) at.4
      ∙ q.up

  quiet_at : (l : ℕ) (d : Side) (place : ℕ) → IsQuietAt s l d place → on_way n l d ≡ []
  quiet_at l d place q =
      let at = at_end is_static plans s r l d q.end q.agent q.at in
      let handled = q.handled in
      let waits : waiting_at (n.states l d) (n.agents (n.ends l d)).agenda ≡ [] =
      ap (λ (k : EndState). waiting_at k (n.agents (n.ends l d)).agenda) at.3
      ∙ ap (λ (i : ℕ). waiting_at q.end.state (n.agents i).agenda) at.2
      ∙ ap (λ (c : Agent). waiting_at q.end.state c.agenda) at.4
      ∙ q.waits in
      let T : List (List ℕ) → Type 0 = λ ts. AreTexts (n.sent l d) ts in
      let sent : n.sent l d ≡ [] = no_texts (n.sent l d) (subst T (past_all (s.sent (end_place l d)) (length (s.got (end_place l (other d)))) (omega (arith, handled))) (r.is.sent l d)) in
      ap (λ (ms : List ManagementMessage). flat_map carried (ms ++ waiting_at (n.states l d) (n.agents (n.ends l d)).agenda)) sent ∙ ap (λ (ms : List ManagementMessage). flat_map carried ms) waits

  walk : (i j : ℕ) (steps : List (ℕ × Side × ℕ)) → IsQuietPath s i steps j → IsQuietWalk n (address_in s.members i) (map (λ (t : ℕ × Side × ℕ). (t.0, t.1)) steps) (address_in s.members j)
  walk i j [] path = ap (λ (k : ℕ). address_in s.members k) path
  walk i j (step ∷ steps) path =
      let up = both_sides (λ d. is_up n step.0 d ≡ true) step.1 (up_at step.0 step.1 i path.0) (up_at step.0 (other step.1) step.2 path.1) in
      let quiet = both_sides (λ d. on_way n step.0 d ≡ []) step.1 (quiet_at step.0 step.1 i path.0) (quiet_at step.0 (other step.1) step.2 path.1) in
      let W : ℕ → Type 0 = λ k. IsQuietWalk n k (map (λ (t : ℕ × Side × ℕ). (t.0, t.1)) steps) (address_in s.members j) in (
        ends_at step.0 step.1 i path.0,
        and_from (is_up n step.0 Near) (is_up n step.0 Far) up.0 up.1,
        quiet.0,
        quiet.1,
        subst W (sym (ends_at step.0 (other step.1) step.2 path.1)) (walk step.2 j steps path.2),
      )

  agent_is : (k : ℕ) (m : Member) (a : Agent) → slice_get s.members k ≡ Some m → slice_get s.agents k ≡ Some a → n.agents (address_in s.members k) ≡ a
  agent_is k m a is_m is_a = ap (λ (i : ℕ). n.agents i) (address_is s.members k m is_m) ∙ r.is.agents k m a is_m is_a

-- a member that told its links from the start, or else has a walk to another
pub has_told : (is_static : Bool) (plans : List LinkPlan) (s : MembersSeen) (r : IsRunOf is_static plans s) (m : Member) (b : Bool) (steps : List (ℕ × Side)) → Contains s.members m → is_static ≡ b → (is_static ≡ true) ⊎ (steps ≡ [] → ⊥) → TellsLinks r.start m.addr ⊎ (TellsNone r.start m.addr × (steps ≡ [] → ⊥))
has_told is_static plans s r m true steps among is some = inl (r.tells is m among)
has_told is_static plans s r m false steps among is (inl still) = absurd (both_ways is_static is still)
has_told is_static plans s r m false steps among is (inr some) = inr (r.tells_none is m among, some)

mapped_none : (steps : List (ℕ × Side × ℕ)) → map {B = ℕ × Side} (λ (t : ℕ × Side × ℕ). (t.0, t.1)) steps ≡ [] → steps ≡ []
mapped_none [] none = refl
mapped_none (step ∷ steps) none = absurd (cc)

some_steps : {A : Type 0} (steps : List (ℕ × Side × ℕ)) → A ⊎ (steps ≡ [] → ⊥) → A ⊎ (map {B = ℕ × Side} (λ (t : ℕ × Side × ℕ). (t.0, t.1)) steps ≡ [] → ⊥)
some_steps steps (inl a) = inl a
some_steps steps (inr some) = inr (λ none. some (mapped_none steps none))

pub quiet_agree : Greatest → QuietMembersAgree
quiet_agree greatest is_static plans s i j steps m a b r path is_m is_a is_b =
    let aligned = r.is.aligned in
    let within = slice_get_within s.agents j b is_b in
    let far = there s.members j (omega (arith, aligned, within)) in
    let near_is = agent_is is_static plans s r i m a is_m is_a in
    let far_is = agent_is is_static plans s r j far.0 b far.1 is_b in
    let told = start_items is_static s.members plans in
    let path_is = walk is_static plans s r i j steps path in
    let among = is_there s.members i m is_m in
    let walked : List (ℕ × Side) = map (λ (t : ℕ × Side × ℕ). (t.0, t.1)) steps in
    let W : ℕ → Type 0 = λ k. IsQuietWalk (n is_static plans s r) k walked (address_in s.members j) in
    let tells = λ (some : (is_static ≡ true) ⊎ (steps ≡ [] → ⊥)). quiet_tells greatest r.start told r.rows m.addr (address_in s.members j) walked r.starts r.run (small_address s.members plans r.laid_out m among)
    (has_told is_static plans s r m is_static walked among refl (some_steps steps some)) (rows_leave r.rows m.addr r.of) (subst W (address_is s.members i m is_m) path_is) in (
      λ key. ap (λ (c : Agent). kept_at c.items key) (sym near_is)
          ∙ quiet_equal greatest r.start told r.rows (address_in s.members i) (address_in s.members j) walked key r.starts r.run path_is
          ∙ ap (λ (c : Agent). kept_at c.items key) far_is,
      λ some. ap (λ (c : Agent). value_at c.items (link_key m.addr)) (sym far_is) ∙ tells some ∙ ap (λ (c : Agent). Some (link_state None c.links)) (r.is.agents i m a is_m is_a),
    )
