-- START and STOP: a link comes up, and its member makes its link state.
use Rattle.std.proofs.Common.{◌≡◌, ℕ, ◌<◌, ◌^◌, ◌⊎◌, true, ◌==◌, List, [], ◌∷◌, ◌++◌, map, Contains, slice_set, Option, Some, None, Result, refl, sym, ◌∙◌, ap, subst, inl, inr}
use Rattle.std.specs.Prelude.{find, is_some}
use Rattle.std.proofs.lemmas.Bool.{cases_Bool, both_ways, eqb-true, eq-eqb}
use Rattle.rina_enrol.specs.declared.event.EnrolDo.{EnrolDo}
use Rattle.rina_enrol.specs.declared.event.EnrolDo.TheVariants as does
use Rattle.rina_enrol.specs.declared.event.EnrolEvent.TheVariants as events
use Rattle.rina_enrol.specs.declared.message.LinkMessage.{LinkMessage}
use Rattle.rina_enrol.specs.declared.message.LinkMessage.TheVariants as messages
use Rattle.rina_newest.specs.declared.item.Item.{Item}
use Rattle.rina_agent.specs.declared.agent.Agent.{Agent}
use Rattle.rina_agent.specs.declared.link.Link.{Link}
use Rattle.rina_agent.specs.declared.message.ManagementMessage.{ManagementMessage}
use Rattle.rina_agent.specs.declared.message.ManagementMessage.TheVariants.{ToNeighbour}
use Rattle.rina_agent.specs.declared.message.Waiting.{Waiting}
use Rattle.rina_agent.specs.declared.state.AgentError.{AgentError}
use Rattle.rina_agent.specs.Agenda.{near, item_on, waiting_on}
use Rattle.rina_agent.specs.Counts.{next_of, spent, unless}
use Rattle.rina_agent.specs.Enrolled.{Handles, done}
use Rattle.rina_agent.specs.Enrolments.{hears, is_numbered, place_of}
use Rattle.rina_agent.specs.Items.{made, own_item, stated}
use Rattle.rina_agent.specs.Neighbours.{link_key, link_state, member_key}
use Rattle.rina_agent.specs.Rows.{either, start_batch, started, started_as, started_by, stop_batch, up_link, was_up}
use Rattle.rina_member.proofs.Counting.{counts_on}
use Rattle.rina_flood.specs.Network.{Network, put_agent, put_offers, carried, called, AreApart, if_counted, last_state}
use Rattle.rina_flood.proofs.Calls.{at_itself}
use Rattle.rina_flood.proofs.Enrolling.{quiet_called}
use Rattle.rina_flood.proofs.Heard.{IsHeard, is_heard, placed, found_number, set_link, set_up, set_has, set_apart}
use Rattle.rina_flood.proofs.Holds.{Holds}
use Rattle.rina_flood.proofs.Keeping.{IsKept, made_network, put_twice, same_network, with_items}
use Rattle.rina_flood.proofs.Messages.{front_is, first_waits_there, rest_waits, waits_from, waits_old}
use Rattle.rina_flood.proofs.Places.{nothing_in, in_cons, in_one, in_first, in_rest}
use Rattle.rina_flood.proofs.Raise.{IsRaised, raise_holds}
use Rattle.rina_flood.proofs.Rows.{IsSound, IsOwn, own_holds}
use Rattle.rina_flood.proofs.Runs.{alike_holds}
use Rattle.rina_flood.proofs.Steps.{made_sound, made_own}

-- A batch of items

items_wait : (k : ℕ) (items : List Item) (x : Item) → Contains items x → Contains (waiting_on k (map (item_on k) items)) (ToNeighbour (messages.Item x))
items_wait k [] x e = absurd (nothing_in x e)
items_wait k (y ∷ items) x e = elim (in_cons y items x e) [
  | inl is ↦
      (let P : Item → Type 0 = λ z. Contains (waiting_on k (map (item_on k) (y ∷ items))) (ToNeighbour (messages.Item z)) in
      subst P is (first_waits_there k (item_on k y) (map (item_on k) items) (eq-eqb k k refl)))
  | inr later ↦ rest_waits k (item_on k y) (map (item_on k) items) (ToNeighbour (messages.Item x)) (items_wait k items x later)
]

-- messages of a batch carry items of it
batch_item : (j k : ℕ) (items : List Item) (m : ManagementMessage) (y : Item) → Contains (waiting_on j (map (item_on k) items)) m → Contains (carried m) y → Contains items y
batch_item j k [] m y e has = absurd (nothing_in m e)
batch_item j k (x ∷ items) m y e has = elim (front_is j (item_on k x) (map (item_on k) items) m e) [
  | inl is ↦
      (let P : ManagementMessage → Type 0 = λ z. Contains (carried z) y in
      let Q : Item → Type 0 = λ z. Contains (x ∷ items) z in
      subst Q (in_one x y (subst P (sym is) has)) (in_first x items))
  | inr later ↦ in_rest x items y (batch_item j k items m y later has)
]

-- a message without an item carries none
carries_none : (m w : ManagementMessage) (y : Item) → w ≡ m → carried w ≡ [] → Contains (carried m) y → ⊥
carries_none m w y is empty has =
    let P : ManagementMessage → Type 0 = λ z. Contains (carried z) y in
    let Q : List Item → Type 0 = λ items. Contains items y in
    nothing_in y (subst Q empty (subst P (sym is) has))

start_all : (k invoke stop : ℕ) (items : List Item) (x : Item) → Contains items x → Contains (waiting_on k (start_batch k invoke items stop)) (ToNeighbour (messages.Item x))
start_all k invoke stop items x e = rest_waits k (near k (messages.StartR invoke)) (map (item_on k) items ++ near k (messages.Stop stop) ∷ []) (ToNeighbour (messages.Item x)) (waits_old k (map (item_on k) items) (near k (messages.Stop stop) ∷ []) (ToNeighbour (messages.Item x)) (items_wait k items x e))

start_only : (j k invoke stop : ℕ) (items : List Item) (m : ManagementMessage) (y : Item) → Contains (waiting_on j (start_batch k invoke items stop)) m → Contains (carried m) y → Contains items y
start_only j k invoke stop items m y e has = elim (front_is j (near k (messages.StartR invoke)) (map (item_on k) items ++ near k (messages.Stop stop) ∷ []) m e) [
  | inl is ↦ absurd (carries_none m (ToNeighbour (messages.StartR invoke)) y is refl has)
  | inr later ↦ elim (waits_from j (map (item_on k) items) (near k (messages.Stop stop) ∷ []) m later) [
    | inl item ↦ batch_item j k items m y item has
    | inr last ↦ elim (front_is j (near k (messages.Stop stop)) [] m last) [
      | inl is ↦ absurd (carries_none m (ToNeighbour (messages.Stop stop)) y is refl has)
      | inr none ↦ absurd (nothing_in m none)
    ]
  ]
]

pub stop_all : (k invoke : ℕ) (items : List Item) (x : Item) → Contains items x → Contains (waiting_on k (stop_batch k invoke items)) (ToNeighbour (messages.Item x))
stop_all k invoke items x e = rest_waits k (near k (messages.StopR invoke)) (map (item_on k) items) (ToNeighbour (messages.Item x)) (items_wait k items x e)

pub stop_only : (j k invoke : ℕ) (items : List Item) (m : ManagementMessage) (y : Item) → Contains (waiting_on j (stop_batch k invoke items)) m → Contains (carried m) y → Contains items y
stop_only j k invoke items m y e has = elim (front_is j (near k (messages.StopR invoke)) (map (item_on k) items) m e) [
  | inl is ↦ absurd (carries_none m (ToNeighbour (messages.StopR invoke)) y is refl has)
  | inr later ↦ batch_item j k items m y later has
]

-- The link that heard the message is set up

module _ (a : Agent) (k : ℕ) (at : ℕ) (link : Link) (peer : Option ℕ) (batch : List Waiting) (q : IsHeard a.links (place_of k a.links) at link) where
  abbrev links_up : List Link
  links_up = slice_set a.links at (up_link peer link)

  number : link.number ≡ k
  number = (let p = placed k a.links at q.link q.here q.there in q.number ∙ found_number k a.links q.link p.found)

  links_set : links_up ≡ set_link k (up_link peer link) a.links
  links_set = (let p = placed k a.links at q.link q.here q.there in p.set (up_link peer link))

  up_was : (j : ℕ) → was_up (find (is_numbered j) links_up) ≡ true → (was_up (find (is_numbered j) a.links) ≡ true) ⊎ (j ≡ link.number)
  up_was j e = elim (cases_Bool (j == k)) [
    | inl is ↦ inr (eqb-true j k is ∙ sym number)
    | inr isnt ↦ (let P : List Link → Type 0 = λ ls. was_up (find (is_numbered j) ls) ≡ true in inl (set_up j k (up_link peer link) a.links number (subst P links_set e) (λ is. both_ways (j == k) isnt (eq-eqb j k is))))
  ]

  has_was : (j : ℕ) → is_some (find (is_numbered j) links_up) ≡ true → is_some (find (is_numbered j) a.links) ≡ true
  has_was j e =
      let p = placed k a.links at q.link q.here q.there in
      let P : List Link → Type 0 = λ ls. is_some (find (is_numbered j) ls) ≡ true in
      set_has j k (up_link peer link) q.link a.links number p.found (subst P links_set e)

  apart_still : AreApart a.links → AreApart links_up
  apart_still e = (let P : List Link → Type 0 = λ ls. AreApart ls in subst P (sym links_set) (set_apart k (up_link peer link) a.links number e))

  -- an agent with that link and the batch
  pub is_raised : (b : Agent) → b.items ≡ a.items → b.address ≡ a.address → b.last_count ≡ a.last_count → b.links ≡ links_up → b.agenda ≡ a.agenda ++ batch
      → ((x : Item) → Contains a.items x → Contains (waiting_on link.number batch) (ToNeighbour (messages.Item x)))
      → ((j : ℕ) (m : ManagementMessage) (y : Item) → Contains (waiting_on j batch) m → Contains (carried m) y → Contains a.items y) → IsRaised a b link.number batch
  is_raised b items address count links agenda all only = record {
    items = items;
    address = address;
    count = count;
    up = λ j e. up_was j (ap (λ (ls : List Link). was_up (find (is_numbered j) ls)) (sym links) ∙ e);
    has = λ j e. has_was j (ap (λ (ls : List Link). is_some (find (is_numbered j) ls)) (sym links) ∙ e);
    apart = λ e. (let P : List Link → Type 0 = λ ls. AreApart ls in subst P (sym links) (apart_still e));
    agenda = agenda;
    all = all;
    only = only;
  }

-- The member makes its link state

state_sound : (n : Network) (i : ℕ) (a : Agent) → n.agents i ≡ a → IsSound n i (stated None a n.now) n.sent (last_state (stated None a n.now) n.now) (λ k. ⊥)
state_sound n i a is =
    let P : Agent → Type 0 = λ c. IsSound n i (stated None c n.now) n.sent (last_state (stated None c n.now) n.now) (λ k. ⊥) in
    subst P is (made_sound n i (link_key (n.agents i).address) (Some (link_state None (n.agents i).links)))

state_own : (n : Network) (i : ℕ) (a : Agent) → n.agents i ≡ a → (n.agents i).address ≡ i → spent 1 (n.agents i).last_count ≡ None → IsOwn n i (stated None a n.now) n.sent (last_state (stated None a n.now) n.now) (λ k. ⊥)
state_own n i a is address may =
    let P : Agent → Type 0 = λ c. IsOwn n i (stated None c n.now) n.sent (last_state (stated None c n.now) n.now) (λ k. ⊥) in
    subst P is (made_own n i (link_key (n.agents i).address) (Some (link_state None (n.agents i).links)) address may)

pub raised_states : (n : Network) (i : ℕ) (a : Agent) (k : ℕ) (batch : List Waiting) → IsRaised (n.agents i) a k batch → spent 1 (n.agents i).last_count ≡ None → Holds n → Holds (with_items n i (stated None a n.now) (last_state (stated None a n.now) n.now ∷ []))
raised_states n i a k batch r may h =
    let g = raise_holds n i a k batch r h in
    let up : Network = record n { agents = put_agent i a n.agents } in
    let b = stated None a n.now in
    let x = last_state b n.now in
    let mine = at_itself i a n.agents in
    let may_still : spent 1 (put_agent i a n.agents i).last_count ≡ None = ap (λ (c : Agent). spent 1 c.last_count) mine ∙ ap (spent 1) r.count ∙ may in
    let end = own_holds up i b n.sent x (λ j. ⊥) (state_sound up i a mine) (state_own up i a mine (g.laid.addresses i) may_still) g in
    alike_holds (record up { agents = put_agent i b up.agents; made = n.made ++ x ∷ []; offered = put_offers i (x ∷ []) n.offered }) (put_agent i b n.agents) (n.made ++ x ∷ []) (put_offers i (x ∷ []) n.offered) (put_twice i b a n.agents) refl (λ j. refl) end

-- What holds of networks all

pub holds_kept : IsKept Holds
holds_kept = record {
  quiet = quiet_called;
  introduces = λ n i fits may h.
      (let key = member_key (n.agents i).address in
      let value = Some (n.agents i).node in
      own_holds n i (made None (n.agents i) n.now key value) n.sent (own_item (n.agents i) n.now key value) (λ j. ⊥) (made_sound n i key value) (made_own n i key value (h.laid.addresses i) may) h);
  raises = λ n i k a batch fits r may h. raised_states n i a k batch r may h;
}

-- START

abbrev start_network : Network → ℕ → Result Agent AgentError → Network
start_network n i r = with_items n i (done (n.agents i) r) (if_counted (n.agents i) (done (n.agents i) r) (last_state (done (n.agents i) r) n.now ∷ []))

either_none : (x y : Option AgentError) → either x y ≡ None → x ≡ None
either_none None y e = refl
either_none (Some r) y e = e

module _ (P : Network → Type 0) (kept : IsKept P) where
  start_unless : (n : Network) (i k invoke address : ℕ) (m : LinkMessage) (replies : List LinkMessage) (h : _) → hears (n.agents i).links k m replies events.Start ≡ Some h → (o : Option AgentError) → either (spent 1 (n.agents i).last_count) (spent 1 (n.agents i).last_invoke) ≡ o → i < 2 ^ 32 → P n
      → P (start_network n i (unless o (started (n.agents i) n.now h invoke address)))
  start_unless n i k invoke address m replies h is (Some e) o fits holds = same_network P kept n i _ holds
  start_unless n i k invoke address m replies h is None o fits holds =
      let a = n.agents i in
      let q = is_heard a.links k m replies events.Start h is in
      let stop = next_of a.last_invoke in
      let batch = start_batch h.link.number invoke a.items stop in
      let b : Agent = record a { last_invoke = stop; links = slice_set a.links h.at (up_link (Some address) h.link); agenda = a.agenda ++ batch } in
      let may = either_none (spent 1 a.last_count) (spent 1 a.last_invoke) o in
      let r = is_raised a k h.at h.link (Some address) batch q b refl refl refl refl refl (start_all h.link.number invoke stop a.items) (λ j m y. start_only j h.link.number invoke stop a.items m y) in
      made_network P n i (stated None b n.now) (last_state (stated None b n.now) n.now ∷ []) (counts_on a.last_count may) (kept.raises n i h.link.number b batch fits r may holds)

  start_as : (d : EnrolDo) (n : Network) (i k invoke address : ℕ) (m : LinkMessage) (replies : List LinkMessage) (h : _) → hears (n.agents i).links k m replies events.Start ≡ Some h → i < 2 ^ 32 → P n → P (start_network n i (started_as d (n.agents i) n.now h invoke address))
  start_as does.Nothing n i k invoke address m replies h is fits holds = same_network P kept n i _ holds
  start_as (does.ConnectR denied) n i k invoke address m replies h is fits holds = same_network P kept n i _ holds
  start_as does.Start n i k invoke address m replies h is fits holds = same_network P kept n i _ holds
  start_as does.StartR n i k invoke address m replies h is fits holds = start_unless n i k invoke address m replies h is (either (spent 1 (n.agents i).last_count) (spent 1 (n.agents i).last_invoke)) refl fits holds
  start_as does.StopR n i k invoke address m replies h is fits holds = same_network P kept n i _ holds

  start_by : (n : Network) (i k invoke address : ℕ) (m : LinkMessage) (replies : List LinkMessage) (o : _) → hears (n.agents i).links k m replies events.Start ≡ o → i < 2 ^ 32 → P n → P (start_network n i (started_by (n.agents i) n.now invoke address o))
  start_by n i k invoke address m replies None is fits holds = same_network P kept n i _ holds
  start_by n i k invoke address m replies (Some h) is fits holds = start_as h.does n i k invoke address m replies h is fits holds

  pub start_keeps : (n : Network) (i k invoke address : ℕ) → i < 2 ^ 32 → P n → P (called n i (Handles n.now k (messages.Start invoke address)))
  start_keeps n i k invoke address fits h =
      let a = n.agents i in
      let replies = messages.StartR invoke ∷ messages.Stop (next_of a.last_invoke) ∷ [] in
      start_by n i k invoke address (messages.Start invoke address) replies (hears a.links k (messages.Start invoke address) replies events.Start) refl fits h
