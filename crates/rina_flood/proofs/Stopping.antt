-- STOP: the joiner enters, and the link comes up at its end.
use Rattle.std.proofs.Common.{◌≡◌, ℕ, ◌-◌, ◌^◌, ◌<◌, false, ◌==◌, nat_lt, List, [], ◌∷◌, ◌++◌, slice_set, Option, Some, None, Result, Ok, refl, sym, ◌∙◌, ap, subst, inl, inr, arith, append_assoc}
use Rattle.std.proofs.lemmas.Bool.{cases_Bool}
use Rattle.rina_enrol.specs.declared.event.EnrolDo.{EnrolDo}
use Rattle.rina_enrol.specs.declared.event.EnrolDo.TheVariants as does
use Rattle.rina_enrol.specs.declared.event.EnrolEvent.TheVariants as events
use Rattle.rina_enrol.specs.declared.message.LinkMessage.{LinkMessage}
use Rattle.rina_enrol.specs.declared.message.LinkMessage.TheVariants as messages
use Rattle.rina_newest.specs.declared.item.Item.{Item}
use Rattle.rina_agent.specs.declared.agent.Agent.{Agent}
use Rattle.rina_agent.specs.declared.state.AgentError.{AgentError}
use Rattle.rina_agent.specs.declared.state.MemberState.{MemberState}
use Rattle.rina_agent.specs.declared.state.MemberState.TheVariants.{Outside, Joining, Enrolled, Denied}
use Rattle.rina_agent.specs.Counts.{next_of, spent, unless}
use Rattle.rina_agent.specs.Enrolled.{Handles, done}
use Rattle.rina_agent.specs.Enrolments.{hears}
use Rattle.rina_agent.specs.Items.{made, stated, own_item}
use Rattle.rina_agent.specs.Neighbours.{member_key}
use Rattle.rina_agent.specs.Rows.{entered, introduced_in, need_in, peer_by, stop_batch, stopped_as, stopped_by, up_link}
use Rattle.rina_member.proofs.Counting.{counts_on}
use Rattle.rina_flood.specs.Network.{Network, put_agent, put_offers, called, entering, if_counted, last_state}
use Rattle.rina_flood.proofs.Calls.{at_itself}
use Rattle.rina_flood.proofs.Heard.{is_heard}
use Rattle.rina_flood.proofs.Raise.{IsRaised}
use Rattle.rina_flood.proofs.Entering.{is_raised, stop_all, stop_only}
use Rattle.rina_flood.proofs.Keeping.{IsKept, made_network, put_twice, same_everywhere, same_network, with_items}

abbrev stop_network : Network → ℕ → MemberState → Result Agent AgentError → Network
stop_network n i s r = with_items n i (done (n.agents i) r) (if_counted (n.agents i) (done (n.agents i) r) (entering s (n.agents i) n.now ++ last_state (done (n.agents i) r) n.now ∷ []))

-- two counts are left
two_left : (last : ℕ) → spent 2 last ≡ None → (spent 1 last ≡ None) × (spent 1 (next_of last) ≡ None) × (last < next_of (next_of last))
two_left last e = elim (cases_Bool (nat_lt (2 ^ 32 - 1 - last) 2)) [
  | inl is ↦ absurd (cc)
  | inr isnt ↦
      (let one : nat_lt (2 ^ 32 - 1 - last) 1 ≡ false = grind (arith, isnt) in
      let two : nat_lt (2 ^ 32 - 1 - next_of last) 1 ≡ false = grind (arith, isnt) in
      let lt : last < next_of (next_of last) = grind (arith, isnt) in
      (rw one refl, rw two refl, lt))
]

offers_twice : (i : ℕ) (x y : Item) (offered : ℕ → List Item) (j : ℕ) → put_offers i (x ∷ y ∷ []) offered j ≡ put_offers i (y ∷ []) (put_offers i (x ∷ []) offered) j
offers_twice i x y offered j = elim (cases_Bool (j == i)) [
  | inl e ↦ rw e (sym (append_assoc (offered j) (x ∷ []) (y ∷ [])))
  | inr e ↦ rw e refl
]

module _ (P : Network → Type 0) (kept : IsKept P) where
  -- an enrolled member that runs one more enrolment
  enrolled_enters : (n : Network) (i k invoke : ℕ) (m : LinkMessage) (replies : List LinkMessage) (h : _) → hears (n.agents i).links k m replies events.Stop ≡ Some h → spent 1 (n.agents i).last_count ≡ None → i < 2 ^ 32 → P n
      → P (stop_network n i Enrolled (Ok (entered (n.agents i) n.now h invoke)))
  enrolled_enters n i k invoke m replies h is may fits holds =
      let a = n.agents i in
      let q = is_heard a.links k m replies events.Stop h is in
      let peer = peer_by h.link.enrolment a.items in
      let batch = stop_batch h.link.number invoke a.items in
      let b : Agent = record a { state = Enrolled; links = slice_set a.links h.at (up_link peer h.link); agenda = a.agenda ++ batch } in
      let r = is_raised a k h.at h.link peer batch q b refl refl refl refl refl (stop_all h.link.number invoke a.items) (λ j m y. stop_only j h.link.number invoke a.items m y) in
      made_network P n i (stated None b n.now) (last_state (stated None b n.now) n.now ∷ []) (counts_on a.last_count may) (kept.raises n i h.link.number b batch fits r may holds)

  -- a member that was not enrolled makes its member item before
  joiner_enters : (n : Network) (i k invoke : ℕ) (m : LinkMessage) (replies : List LinkMessage) (h : _) → hears (n.agents i).links k m replies events.Stop ≡ Some h → spent 2 (n.agents i).last_count ≡ None → i < 2 ^ 32 → P n
      → P (with_items n i (entered (made None (n.agents i) n.now (member_key (n.agents i).address) (Some (n.agents i).node)) n.now h invoke)
      (own_item (n.agents i) n.now (member_key (n.agents i).address) (Some (n.agents i).node) ∷ last_state (entered (made None (n.agents i) n.now (member_key (n.agents i).address) (Some (n.agents i).node)) n.now h invoke) n.now ∷ []))
  joiner_enters n i k invoke m replies h is may fits holds =
      let a = n.agents i in
      let left = two_left a.last_count may in
      let key = member_key a.address in
      let value = Some a.node in
      let x = own_item a n.now key value in
      let c = made None a n.now key value in
      let g = kept.introduces n i fits left.0 holds in
      let mid : Network = with_items n i c (x ∷ []) in
      let q = is_heard a.links k m replies events.Stop h is in
      let peer = peer_by h.link.enrolment c.items in
      let batch = stop_batch h.link.number invoke c.items in
      let b : Agent = record c { state = Enrolled; links = slice_set a.links h.at (up_link peer h.link); agenda = c.agenda ++ batch } in
      let r = is_raised c k h.at h.link peer batch q b refl refl refl refl refl (stop_all h.link.number invoke c.items) (λ j m y. stop_only j h.link.number invoke c.items m y) in
      let mine = at_itself i c n.agents in
      let Q : Agent → Type 0 = λ e. IsRaised e b h.link.number batch in
      let may_still : spent 1 (put_agent i c n.agents i).last_count ≡ None = ap (λ (e : Agent). spent 1 e.last_count) mine ∙ left.1 in
      let d = stated None b n.now in
      let y = last_state d n.now in
      let end = kept.raises mid i h.link.number b batch fits (subst Q (sym mine) r) may_still g in
      same_everywhere P (with_items mid i d (y ∷ [])) (put_agent i d n.agents) (n.made ++ x ∷ y ∷ []) (put_offers i (x ∷ y ∷ []) n.offered) (put_twice i d c n.agents) (sym (append_assoc n.made (x ∷ []) (y ∷ []))) (offers_twice i x y n.offered) end

  joiner_counts : (n : Network) (i k invoke : ℕ) (m : LinkMessage) (replies : List LinkMessage) (h : _) → hears (n.agents i).links k m replies events.Stop ≡ Some h → spent 2 (n.agents i).last_count ≡ None → i < 2 ^ 32 → P n
      → P (with_items n i (entered (made None (n.agents i) n.now (member_key (n.agents i).address) (Some (n.agents i).node)) n.now h invoke)
      (if_counted (n.agents i) (entered (made None (n.agents i) n.now (member_key (n.agents i).address) (Some (n.agents i).node)) n.now h invoke)
      (own_item (n.agents i) n.now (member_key (n.agents i).address) (Some (n.agents i).node) ∷ last_state (entered (made None (n.agents i) n.now (member_key (n.agents i).address) (Some (n.agents i).node)) n.now h invoke) n.now ∷ [])))
  joiner_counts n i k invoke m replies h is may fits holds =
      let left = two_left (n.agents i).last_count may in
      made_network P n i (entered (made None (n.agents i) n.now (member_key (n.agents i).address) (Some (n.agents i).node)) n.now h invoke) _ left.2 (joiner_enters n i k invoke m replies h is may fits holds)

  stop_unless : (s : MemberState) (n : Network) (i k invoke : ℕ) (m : LinkMessage) (replies : List LinkMessage) (h : _) → hears (n.agents i).links k m replies events.Stop ≡ Some h → (o : Option AgentError) → spent (need_in s) (n.agents i).last_count ≡ o → i < 2 ^ 32 → P n
      → P (stop_network n i s (unless o (entered (introduced_in s (n.agents i) n.now) n.now h invoke)))
  stop_unless s n i k invoke m replies h is (Some e) may fits holds = same_network P kept n i _ holds
  stop_unless Outside n i k invoke m replies h is None may fits holds = joiner_counts n i k invoke m replies h is may fits holds
  stop_unless (Joining link) n i k invoke m replies h is None may fits holds = joiner_counts n i k invoke m replies h is may fits holds
  stop_unless Enrolled n i k invoke m replies h is None may fits holds = enrolled_enters n i k invoke m replies h is may fits holds
  stop_unless (Denied rule) n i k invoke m replies h is None may fits holds = joiner_counts n i k invoke m replies h is may fits holds

  stop_as : (d : EnrolDo) (n : Network) (i k invoke : ℕ) (m : LinkMessage) (replies : List LinkMessage) (h : _) → hears (n.agents i).links k m replies events.Stop ≡ Some h → i < 2 ^ 32 → P n → P (stop_network n i (n.agents i).state (stopped_as d (n.agents i) n.now h invoke))
  stop_as does.Nothing n i k invoke m replies h is fits holds = same_network P kept n i _ holds
  stop_as (does.ConnectR denied) n i k invoke m replies h is fits holds = same_network P kept n i _ holds
  stop_as does.Start n i k invoke m replies h is fits holds = same_network P kept n i _ holds
  stop_as does.StartR n i k invoke m replies h is fits holds = same_network P kept n i _ holds
  stop_as does.StopR n i k invoke m replies h is fits holds = stop_unless (n.agents i).state n i k invoke m replies h is (spent (need_in (n.agents i).state) (n.agents i).last_count) refl fits holds

  stop_by : (n : Network) (i k invoke : ℕ) (m : LinkMessage) (replies : List LinkMessage) (o : _) → hears (n.agents i).links k m replies events.Stop ≡ o → i < 2 ^ 32 → P n → P (stop_network n i (n.agents i).state (stopped_by (n.agents i) n.now invoke o))
  stop_by n i k invoke m replies None is fits holds = same_network P kept n i _ holds
  stop_by n i k invoke m replies (Some h) is fits holds = stop_as h.does n i k invoke m replies h is fits holds

  pub stop_keeps : (n : Network) (i k invoke : ℕ) → i < 2 ^ 32 → P n → P (called n i (Handles n.now k (messages.Stop invoke)))
  stop_keeps n i k invoke fits h =
      let a = n.agents i in
      let replies = messages.StopR invoke ∷ [] in
      stop_by n i k invoke (messages.Stop invoke) replies (hears a.links k (messages.Stop invoke) replies events.Stop) refl fits h
