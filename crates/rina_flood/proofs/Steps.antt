-- The rows, one by one.
use Rattle.std.proofs.Common.{◌≡◌, ℕ, ◌⊎◌, Bool, true, false, cond, List, ◌∷◌, ◌++◌, Contains, Option, Some, None, refl, sym, ◌∙◌, ap, subst, inl, inr, []}
use Rattle.rina_newest.specs.declared.item.Item.{Item}
use Rattle.rina_newest.specs.Newest.{is_newer, kept_at, taken}
use Rattle.rina_agent.specs.declared.agent.Agent.{Agent}
use Rattle.rina_agent.specs.declared.message.ManagementMessage.{ManagementMessage}
use Rattle.rina_agent.specs.declared.state.AgentError.{AgentError}
use Rattle.rina_agent.specs.Agenda.{floods}
use Rattle.rina_agent.specs.Counts.{spent, unless}
use Rattle.rina_agent.specs.Enrolled.{IsAtLeast, done}
use Rattle.rina_agent.specs.Items.{made, stated, took, own_item}
use Rattle.rina_agent.specs.Neighbours.{link_key, link_state}
use Rattle.rina_agent.specs.Rows.{dropped}
use Rattle.rina_agent.proofs.Taking.{taken_same, taken_least}
use Rattle.rina_member.proofs.Counting.{counts_on}
use Rattle.rina_flood.specs.Network.{Side, other, There, Network, waiting_at, put_agent, put_offers, put_sent, unhandled, carried, on_way, Make, happens}
use Rattle.rina_flood.proofs.Agendas.{AreFlooded, made_floods, took_floods, left_alone, lost_fewer, lost_floods}
use Rattle.rina_flood.proofs.Calls.{AreFewer, same_links, at_itself}
use Rattle.rina_flood.proofs.Holds.{Holds}
use Rattle.rina_flood.proofs.Places.{in_one, in_cons, in_rest, in_first, direction_case, other_back, flat_in}
use Rattle.rina_flood.proofs.Rows.{IsSound, IsOwn, own_holds, come_holds, put_least}

-- An item is made

pub made_sound : (n : Network) (i : ℕ) (key : List ℕ) (value : Option (List ℕ)) → IsSound n i (made None (n.agents i) n.now key value) n.sent (own_item (n.agents i) n.now key value) (λ k. ⊥)
made_sound n i key value =
    let a = n.agents i in
    let x = own_item a n.now key value in
    record {
      items = refl;
      fewer = same_links a.links;
      floods = made_floods (is_newer x.version (kept_at a.items x.key)) x a.agenda a.links;
      before = λ l d m e. e;
      gone = λ l d m e. inl e;
      backed = λ l d k e has none. absurd none;
    }

pub made_own : (n : Network) (i : ℕ) (key : List ℕ) (value : Option (List ℕ)) → (n.agents i).address ≡ i → spent 1 (n.agents i).last_count ≡ None → IsOwn n i (made None (n.agents i) n.now key value) n.sent (own_item (n.agents i) n.now key value) (λ k. ⊥)
made_own n i key value address may = record { address = refl; origin = address; tick = refl; count = refl; more = counts_on (n.agents i).last_count may }

pub make_holds : (n : Network) (i : ℕ) (key : List ℕ) (value : Option (List ℕ)) → Holds n → spent 1 (n.agents i).last_count ≡ None → Holds (happens n (Make i key value))
make_holds n i key value h may =
    let a = n.agents i in
    let x = own_item a n.now key value in
    let P : Option AgentError → Type 0 = λ o. Holds (record n { agents = put_agent i (done a (unless o (made None a n.now key value))) n.agents; made = n.made ++ x ∷ []; offered = put_offers i (x ∷ []) n.offered }) in
    subst P (sym may) (own_holds n i (made None a n.now key value) n.sent x (λ k. ⊥) (made_sound n i key value) (made_own n i key value (h.laid.addresses i) may) h)

-- A message that carries an item is handled

module _ (n : Network) (link : ℕ) (side : Side) (m : ManagementMessage) (rest : List ManagementMessage) (first : n.sent link side ≡ m ∷ rest) where
  abbrev pub popped : ℕ → Side → List ManagementMessage
  popped = put_sent link side rest n.sent

  pub popped_before : (l : ℕ) (d : Side) (z : ManagementMessage) → Contains (popped l d) z → Contains (n.sent l d) z
  popped_before l d z =
      let P : List ManagementMessage → Type 0 = λ s. Contains s z → Contains (n.sent l d) z in
      direction_case P link side l d rest (n.sent l d)
      (λ a b e.
      let Q : ℕ → Type 0 = λ k. Contains (n.sent k d) z in
      let R : Side → Type 0 = λ t. Contains (n.sent link t) z in
      let S : List ManagementMessage → Type 0 = λ s. Contains s z in
      subst Q (sym a) (subst R (sym b) (subst S (sym first) (in_rest m rest z e))))
      (λ apart e. e)

  pub popped_gone : (l : ℕ) (d : Side) (z : ManagementMessage) → Contains (n.sent l d) z → Contains (popped l d) z ⊎ ((l ≡ link) × (d ≡ side) × (m ≡ z))
  popped_gone l d z =
      let P : List ManagementMessage → Type 0 = λ s. Contains (n.sent l d) z → Contains s z ⊎ ((l ≡ link) × (d ≡ side) × (m ≡ z)) in
      direction_case P link side l d rest (n.sent l d)
      (λ a b e.
      let Q : ℕ → Type 0 = λ k. Contains (n.sent k d) z in
      let R : Side → Type 0 = λ t. Contains (n.sent link t) z in
      let S : List ManagementMessage → Type 0 = λ s. Contains s z in
      elim (in_cons m rest z (subst S first (subst R b (subst Q a e)))) [
        | inl is ↦ inr (a, b, is)
        | inr later ↦ inl later
      ])
      (λ apart e. inl e)

  pub first_way : (y : Item) → Contains (carried m) y → Contains (on_way n link side) y
  first_way y e =
      let S : List ManagementMessage → Type 0 = λ s. Contains (s ++ waiting_at (n.states link side) (n.agents (n.ends link side)).agenda) m in
      flat_in carried (unhandled n link side) m y (subst S (sym first) (in_first m (rest ++ waiting_at (n.states link side) (n.agents (n.ends link side)).agenda))) e

  module _ (x : Item) (carries : carried m ≡ x ∷ []) (h : Holds n) where
    abbrev pub to : ℕ
    to = n.ends link (other side)

    pub first_item : Contains (on_way n link side) x
    first_item = (let P : List Item → Type 0 = λ items. Contains items x in first_way x (subst P (sym carries) (in_first x [])))

    module _ (number : ℕ) (there : n.states link (other side) ≡ There number) where
      abbrev pub taker : Bool → Agent
      taker newer = cond newer (record (n.agents to) { items = taken (n.agents to).items x; agenda = (n.agents to).agenda ++ floods (Some number) x (n.agents to).links }) (n.agents to)

      taker_items : (newer : Bool) → is_newer x.version (kept_at (n.agents to).items x.key) ≡ newer → (taker newer).items ≡ taken (n.agents to).items x
      taker_items true e = refl
      taker_items false e = sym (taken_same (n.agents to).items x e)

      taker_fewer : (newer : Bool) → AreFewer (n.agents to).links (taker newer).links
      taker_fewer true = same_links (n.agents to).links
      taker_fewer false = same_links (n.agents to).links

      taker_floods : (newer : Bool) → is_newer x.version (kept_at (n.agents to).items x.key) ≡ newer → AreFlooded (is_newer x.version (kept_at (n.agents to).items x.key)) x (λ k. number ≡ k) (n.agents to).agenda (taker newer).agenda (taker newer).links
      taker_floods true e = took_floods number (is_newer x.version (kept_at (n.agents to).items x.key)) x (n.agents to).agenda (n.agents to).links
      taker_floods false e =
          let P : Bool → Type 0 = λ newer. AreFlooded newer x (λ k. number ≡ k) (n.agents to).agenda (n.agents to).agenda (n.agents to).links in
          subst P (sym e) (left_alone (λ k. number ≡ k) x (n.agents to).agenda (n.agents to).links)

      -- the other end of the direction has it, or a newer one
      taker_has : (newer : Bool) → is_newer x.version (kept_at (n.agents to).items x.key) ≡ newer → (l : ℕ) (d : Side) (y : Item) → l ≡ link → d ≡ side → x ≡ y → IsAtLeast (put_agent to (taker newer) n.agents (n.ends l (other d))).items y
      taker_has newer e l d y a b is =
          let P : List Item → Type 0 = λ items. IsAtLeast items x in
          let Q : ℕ → Type 0 = λ k. IsAtLeast (put_agent to (taker newer) n.agents (n.ends k (other d))).items y in
          let R : Side → Type 0 = λ t. IsAtLeast (put_agent to (taker newer) n.agents (n.ends link (other t))).items y in
          let S : Item → Type 0 = λ z. IsAtLeast (put_agent to (taker newer) n.agents to).items z in
          subst Q (sym a) (subst R (sym b) (subst S is (subst P (sym (ap (λ (c : Agent). c.items) (at_itself to (taker newer) n.agents) ∙ taker_items newer e)) (taken_least (n.agents to).items x))))

      taker_gone : (newer : Bool) → is_newer x.version (kept_at (n.agents to).items x.key) ≡ newer → (l : ℕ) (d : Side) (z : ManagementMessage) → Contains (n.sent l d) z → Contains (popped l d) z ⊎ ((y : Item) → Contains (carried z) y → IsAtLeast (put_agent to (taker newer) n.agents (n.ends l (other d))).items y)
      taker_gone newer e l d z c = elim (popped_gone l d z c) [
        | inl stays ↦ inl stays
        | inr gone ↦ inr (λ y has.
            let P : ManagementMessage → Type 0 = λ w. Contains (carried w) y in
            let R : List Item → Type 0 = λ items. Contains items y in
            taker_has newer e l d y gone.0 gone.1 (in_one x y (subst R carries (subst P (sym gone.2) has))))
      ]

      taker_backed : (newer : Bool) → is_newer x.version (kept_at (n.agents to).items x.key) ≡ newer → (l : ℕ) (d : Side) (k : ℕ) → n.ends l d ≡ to → n.states l d ≡ There k → number ≡ k → IsAtLeast (put_agent to (taker newer) n.agents (n.ends l (other d))).items x
      taker_backed newer e l d k at_end has is_k =
          let is = h.laid.laid l d link (other side) number at_end (has ∙ ap There (sym is_k)) there in
          let Q : ℕ → Type 0 = λ j. IsAtLeast (put_agent to (taker newer) n.agents (n.ends j (other d))).items x in
          let R : Side → Type 0 = λ t. IsAtLeast (put_agent to (taker newer) n.agents (n.ends link (other t))).items x in
          let S : Side → Type 0 = λ t. IsAtLeast (put_agent to (taker newer) n.agents (n.ends link t)).items x in
          subst Q (sym is.0) (subst R (sym is.1) (subst S (sym (other_back side)) (put_least n to (taker newer) popped x (λ j. number ≡ j) (taker_items newer e) (n.ends link side) x (h.flooded.kept link side x first_item))))

      pub taker_sound : (newer : Bool) → is_newer x.version (kept_at (n.agents to).items x.key) ≡ newer → IsSound n to (taker newer) popped x (λ k. number ≡ k)
      taker_sound newer e = record {
        items = taker_items newer e;
        fewer = taker_fewer newer;
        floods = taker_floods newer e;
        before = popped_before;
        gone = taker_gone newer e;
        backed = taker_backed newer e;
      }

      taker_address : (newer : Bool) → (taker newer).address ≡ (n.agents to).address
      taker_address true = refl
      taker_address false = refl

      taker_count : (newer : Bool) → (taker newer).last_count ≡ (n.agents to).last_count
      taker_count true = refl
      taker_count false = refl

      pub took_holds : Holds (record n { agents = put_agent to (took number (n.agents to) x) n.agents; sent = popped; made = n.made ++ []; offered = put_offers to (x ∷ []) n.offered })
      took_holds =
          let newer = is_newer x.version (kept_at (n.agents to).items x.key) in
          come_holds n to (taker newer) popped x (λ k. number ≡ k) (taker_sound newer refl) (taker_address newer) (taker_count newer) (h.noted.sent link side x first_item) h

-- A link is lost that was up

pub lost_sound : (n : Network) (i k : ℕ) → Holds n → IsSound n i (dropped (stated (Some k) (n.agents i) n.now) k) n.sent (own_item (n.agents i) n.now (link_key (n.agents i).address) (Some (link_state (Some k) (n.agents i).links))) (λ j. ⊥)
lost_sound n i k h =
    let a = n.agents i in
    let x = own_item a n.now (link_key a.address) (Some (link_state (Some k) a.links)) in
    record {
      items = refl;
      fewer = lost_fewer k a.links (h.laid.apart i);
      floods = lost_floods k (is_newer x.version (kept_at a.items x.key)) x a.agenda a.links (h.laid.apart i);
      before = λ l d m e. e;
      gone = λ l d m e. inl e;
      backed = λ l d k e has none. absurd none;
    }

pub lost_own : (n : Network) (i k : ℕ) → Holds n → spent 1 (n.agents i).last_count ≡ None
    → IsOwn n i (dropped (stated (Some k) (n.agents i) n.now) k) n.sent (own_item (n.agents i) n.now (link_key (n.agents i).address) (Some (link_state (Some k) (n.agents i).links))) (λ j. ⊥)
lost_own n i k h may = record { address = refl; origin = h.laid.addresses i; tick = refl; count = refl; more = counts_on (n.agents i).last_count may }
