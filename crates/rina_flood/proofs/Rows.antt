-- A member takes an item in a call.
use Rattle.std.proofs.Common.{◌≡◌, ℕ, ◌≤◌, ◌<◌, ◌⊎◌, true, List, ◌∷◌, ◌++◌, Contains, refl, sym, ◌∙◌, ap, subst, inl, inr, arith, []}
use Rattle.std.specs.Prelude.{flat_map}
use Rattle.std.proofs.lemmas.Bool.{and_parts}
use Rattle.std.proofs.lemmas.List.{append-nil}
use Rattle.std.proofs.lemmas.List.Elements.{Contains-append_left, Contains-append_right, Contains-append_cases, Contains-push, Contains-push_cases}
use Rattle.rina_enrol.specs.declared.message.LinkMessage.TheVariants as messages
use Rattle.rina_newest.specs.declared.item.Item.{Item}
use Rattle.rina_newest.specs.Newest.{is_newer, kept_at, taken}
use Rattle.rina_agent.specs.declared.agent.Agent.{Agent}
use Rattle.rina_agent.specs.declared.message.ManagementMessage.{ManagementMessage}
use Rattle.rina_agent.specs.declared.message.ManagementMessage.TheVariants.{ToNeighbour}
use Rattle.rina_agent.specs.Enrolled.{IsAtLeast}
use Rattle.rina_agent.specs.Items.{made}
use Rattle.rina_agent.specs.Rows.{was_up}
use Rattle.rina_agent.proofs.Taking.{taken_keeps}
use Rattle.rina_flood.specs.Network.{Side, other, There, Network, link_at, waiting_at, put_agent, put_offers, stands, unhandled, carried, on_way}
use Rattle.rina_flood.proofs.Agendas.{AreFlooded, follows_at, remains_at, reaches_at}
use Rattle.rina_flood.proofs.Calls.{AreFewer, at_itself, at_others, at_place, fewer_stand, laid_on, knows_more, offers_from, new_by_count, told_more}
use Rattle.rina_flood.proofs.Flow.{IsTaken, taken_flooded}
use Rattle.rina_flood.proofs.Holds.{is_plain, IsPlain, IsNoted, Holds}
use Rattle.rina_flood.proofs.Places.{in_one, put_case, flat_from, flat_in}

-- An item is taken by a call of one member

abbrev Kept : Network → (ℕ → Side → List ManagementMessage) → Type 0
Kept n sent = (l : ℕ) (d : Side) (m : ManagementMessage) → Contains (sent l d) m → Contains (n.sent l d) m

module _ (n : Network) (i : ℕ) (b : Agent) (sent : ℕ → Side → List ManagementMessage) (x : Item) (back : ℕ → Type 0) where
  abbrev at_end : ℕ → Side → Agent
  at_end l d = put_agent i b n.agents (n.ends l d)

  -- what came before is handled, and what is on its way on the link that the item came on is known at its other end
  pub record IsSound : Type 0 where
    pub items : b.items ≡ taken (n.agents i).items x
    pub fewer : AreFewer (n.agents i).links b.links
    pub floods : AreFlooded (is_newer x.version (kept_at (n.agents i).items x.key)) x back (n.agents i).agenda b.agenda b.links
    pub before : Kept n sent
    pub gone : (l : ℕ) (d : Side) (m : ManagementMessage) → Contains (n.sent l d) m → Contains (sent l d) m ⊎ ((y : Item) → Contains (carried m) y → IsAtLeast (at_end l (other d)).items y)
    pub backed : (l : ℕ) (d : Side) (k : ℕ) → n.ends l d ≡ i → n.states l d ≡ There k → back k → IsAtLeast (at_end l (other d)).items x

  waits_follow : IsSound → (l : ℕ) (d : Side) (m : ManagementMessage) → Contains (waiting_at (n.states l d) (at_end l d).agenda) m → Contains (waiting_at (n.states l d) (n.agents (n.ends l d)).agenda) m ⊎ ((n.ends l d ≡ i) × (ToNeighbour (messages.Flood x) ≡ m))
  waits_follow s l d m =
      let k = n.states l d in
      let P : Agent → Type 0 = λ c. Contains (waiting_at k c.agenda) m → Contains (waiting_at k (n.agents (n.ends l d)).agenda) m ⊎ ((n.ends l d ≡ i) × (ToNeighbour (messages.Flood x) ≡ m)) in
      put_case P (n.ends l d) i b (n.agents (n.ends l d))
      (λ is e. elim (follows_at (is_newer x.version (kept_at (n.agents i).items x.key)) x back (n.agents i).agenda b.agenda b.links s.floods k m e) [
        | inl old ↦ (let Q : ℕ → Type 0 = λ j. Contains (waiting_at k (n.agents j).agenda) m in inl (subst Q (sym is) old))
        | inr new ↦ inr (is, new)
      ])
      (λ apart e. inl e)

  sound_follows : IsSound → (l : ℕ) (d : Side) (m : ManagementMessage) → Contains (sent l d ++ waiting_at (n.states l d) (at_end l d).agenda) m → Contains (unhandled n l d) m ⊎ ((n.ends l d ≡ i) × (ToNeighbour (messages.Flood x) ≡ m))
  sound_follows s l d m e = elim (Contains-append_cases (sent l d) (waiting_at (n.states l d) (at_end l d).agenda) m e) [
    | inl flies ↦ inl (Contains-append_left (n.sent l d) (waiting_at (n.states l d) (n.agents (n.ends l d)).agenda) m (s.before l d m flies))
    | inr waits ↦ elim (waits_follow s l d m waits) [
      | inl old ↦ inl (Contains-append_right (n.sent l d) (waiting_at (n.states l d) (n.agents (n.ends l d)).agenda) m old)
      | inr new ↦ inr new
    ]
  ]

  waits_remain : IsSound → (l : ℕ) (d : Side) (m : ManagementMessage) → was_up (link_at (n.states l d) (at_end l d).links) ≡ true → Contains (waiting_at (n.states l d) (n.agents (n.ends l d)).agenda) m → Contains (waiting_at (n.states l d) (at_end l d).agenda) m
  waits_remain s l d m =
      let k = n.states l d in
      at_place (λ a c. was_up (link_at k c.links) ≡ true → Contains (waiting_at k a.agenda) m → Contains (waiting_at k c.agenda) m) i b n.agents (n.ends l d) (λ up e. remains_at (is_newer x.version (kept_at (n.agents i).items x.key)) x back (n.agents i).agenda b.agenda b.links s.floods k m up e) (λ a up e. e)

  sound_remains : IsSound → (l : ℕ) (d : Side) (m : ManagementMessage) → stands (record n { agents = put_agent i b n.agents; sent = sent }) l d ≡ true → Contains (unhandled n l d) m
      → Contains (sent l d ++ waiting_at (n.states l d) (at_end l d).agenda) m ⊎ ((y : Item) → Contains (carried m) y → IsAtLeast (at_end l (other d)).items y)
  sound_remains s l d m up e = elim (Contains-append_cases (n.sent l d) (waiting_at (n.states l d) (n.agents (n.ends l d)).agenda) m e) [
    | inl flies ↦ elim (s.gone l d m flies) [
      | inl stays ↦ inl (Contains-append_left (sent l d) (waiting_at (n.states l d) (at_end l d).agenda) m stays)
      | inr came ↦ inr came
    ]
    | inr waits ↦ (let both = and_parts _ _ up in inl (Contains-append_right (sent l d) (waiting_at (n.states l d) (at_end l d).agenda) m (waits_remain s l d m both.0 waits)))
  ]

  sound_reaches : IsSound → (l : ℕ) (d : Side) → is_newer x.version (kept_at (n.agents i).items x.key) ≡ true → stands (record n { agents = put_agent i b n.agents; sent = sent }) l d ≡ true → n.ends l d ≡ i
      → IsAtLeast (at_end l (other d)).items x ⊎ Contains (sent l d ++ waiting_at (n.states l d) (at_end l d).agenda) (ToNeighbour (messages.Flood x))
  sound_reaches s l d newer up is =
      let k = n.states l d in
      let both = and_parts _ _ up in
      let mine : at_end l d ≡ b = ap (λ (j : ℕ). put_agent i b n.agents j) is ∙ at_itself i b n.agents in
      let is_up : was_up (link_at k b.links) ≡ true = ap (λ (c : Agent). was_up (link_at k c.links)) (sym mine) ∙ both.0 in
      let P : Agent → Type 0 = λ c. Contains (waiting_at k c.agenda) (ToNeighbour (messages.Flood x)) in
      elim (reaches_at (is_newer x.version (kept_at (n.agents i).items x.key)) x back (n.agents i).agenda b.agenda b.links s.floods k newer is_up) [
        | inl came ↦ inl (s.backed l d came.0 is came.1 came.2)
        | inr flooded ↦ inr (Contains-append_right (sent l d) (waiting_at k (at_end l d).agenda) (ToNeighbour (messages.Flood x)) (subst P (sym mine) flooded))
      ]

  pub sound_taken : IsSound → IsTaken n (put_agent i b n.agents) sent i x
  sound_taken s = record {
    items = ap (λ (c : Agent). c.items) (at_itself i b n.agents) ∙ s.items;
    others = at_others i b n.agents;
    opens = fewer_stand n i b sent s.fewer;
    follows = sound_follows s;
    remains = sound_remains s;
    reaches = sound_reaches s;
  }

  pub sound_plain : IsSound → (l : ℕ) (d : Side) → IsPlain n l d → (m : ManagementMessage) → Contains (sent l d ++ waiting_at (n.states l d) (at_end l d).agenda) m → is_plain m ≡ true
  sound_plain s l d h m e = elim (sound_follows s l d m e) [
    | inl old ↦ h m old
    | inr new ↦ (let P : ManagementMessage → Type 0 = λ z. is_plain z ≡ true in subst P new.1 refl)
  ]

  one_is : (y : Item) → Contains (carried (ToNeighbour (messages.Flood x))) y → x ≡ y
  one_is y e = in_one x y e

  -- what is on its way was so before, or is the item
  pub sound_way : IsSound → (l : ℕ) (d : Side) (y : Item) → Contains (flat_map carried (sent l d ++ waiting_at (n.states l d) (at_end l d).agenda)) y → Contains (on_way n l d) y ⊎ (x ≡ y)
  sound_way s l d y e =
      let r = flat_from carried (sent l d ++ waiting_at (n.states l d) (at_end l d).agenda) y e in
      elim (sound_follows s l d r.0 r.1) [
        | inl old ↦ inl (flat_in carried (unhandled n l d) r.0 y old r.2)
        | inr new ↦ (let P : ManagementMessage → Type 0 = λ m. Contains (carried m) y in inr (one_is y (subst P (sym new.1) r.2)))
      ]

  pub put_least : b.items ≡ taken (n.agents i).items x → (j : ℕ) (y : Item) → IsAtLeast (n.agents j).items y → IsAtLeast (put_agent i b n.agents j).items y
  put_least items j y =
      let P : List Item → Type 0 = λ known. IsAtLeast known y in
      at_place (λ a c. IsAtLeast a.items y → IsAtLeast c.items y) i b n.agents j (λ e. subst P (sym items) (taken_keeps (n.agents i).items x y e)) (λ a e. e)

  -- an item of its own: the next of its counter, at the tick
  pub record IsOwn : Type 0 where
    pub address : b.address ≡ (n.agents i).address
    pub origin : x.version.origin ≡ i
    pub tick : x.version.tick ≡ n.now
    pub count : b.last_count ≡ x.version.count
    pub more : (n.agents i).last_count < x.version.count

  abbrev pub own : Network
  own = record n { agents = put_agent i b n.agents; sent = sent; made = n.made ++ x ∷ []; offered = put_offers i (x ∷ []) n.offered }

  own_counted : IsNoted n → IsOwn → (y : Item) → Contains (n.made ++ x ∷ []) y → y.version.count ≤ (put_agent i b n.agents y.version.origin).last_count
  own_counted h o y e = elim (Contains-push_cases n.made x y e) [
    | inl old ↦
        (let le = h.counted y old in
        let more = o.more in
        let count = o.count in
        let grown : (n.agents y.version.origin).last_count ≤ (put_agent i b n.agents y.version.origin).last_count = at_place (λ a c. a.last_count ≤ c.last_count) i b n.agents y.version.origin (omega (arith, more, count)) (λ a. omega arith) in
        omega (arith, le, grown))
    | inr is ↦
        (let mine : put_agent i b n.agents y.version.origin ≡ b = ap (λ (z : Item). put_agent i b n.agents z.version.origin) (sym is) ∙ ap (λ (j : ℕ). put_agent i b n.agents j) o.origin ∙ at_itself i b n.agents in
        let same : y.version.count ≡ (put_agent i b n.agents y.version.origin).last_count = ap (λ (z : Item). z.version.count) (sym is) ∙ sym o.count ∙ ap (λ (c : Agent). c.last_count) (sym mine) in
        omega (arith, same))
  ]

  own_noted : IsSound → IsNoted n → IsOwn → IsNoted own
  own_noted s h o = record {
    knows = knows_more n i b x h.knows s.items;
    offered = λ j y e. elim (offers_from i (x ∷ []) n.offered j y e) [
      | inl old ↦ Contains-append_left n.made (x ∷ []) y (h.offered j y old)
      | inr new ↦ Contains-append_right n.made (x ∷ []) y new
    ];
    sent = λ l d y e. elim (sound_way s l d y e) [
      | inl old ↦ Contains-append_left n.made (x ∷ []) y (h.sent l d y old)
      | inr is ↦ (let P : Item → Type 0 = λ z. Contains (n.made ++ x ∷ []) z in subst P is (Contains-push n.made x))
    ];
    one = told_more n.made x h.one (new_by_count n.made x (n.agents i).last_count (λ y e origin. (let le = h.counted y e in
        let same : (n.agents y.version.origin).last_count ≡ (n.agents i).last_count = ap (λ (j : ℕ). (n.agents j).last_count) (origin ∙ o.origin) in
        omega (arith, le, same))) o.more);
    past = λ y e. elim (Contains-push_cases n.made x y e) [
      | inl old ↦ h.past y old
      | inr is ↦ (let same : y.version.tick ≡ n.now = ap (λ (z : Item). z.version.tick) (sym is) ∙ o.tick in omega (arith, same))
    ];
    counted = own_counted h o;
  }

  pub own_holds : IsSound → IsOwn → Holds n → Holds own
  own_holds s o h =
      let g = taken_flooded n (put_agent i b n.agents) sent i x (sound_taken s) h.flooded in
      let q = laid_on n i b sent h.laid o.address s.fewer in
      record {
        laid = record { addresses = q.addresses; laid = q.laid; fit = q.fit; apart = q.apart };
        flooded = record { kept = g.kept; owes = g.owes };
        noted = own_noted s h.noted o;
      }

  -- an item that came
  abbrev pub come : List Item → Network
  come made = record n { agents = put_agent i b n.agents; sent = sent; made = made; offered = put_offers i (x ∷ []) n.offered }

  come_noted : IsSound → IsNoted n → b.last_count ≡ (n.agents i).last_count → Contains n.made x → IsNoted (come n.made)
  come_noted s h count was_made = record {
    knows = knows_more n i b x h.knows s.items;
    offered = λ j y e. elim (offers_from i (x ∷ []) n.offered j y e) [
      | inl old ↦ h.offered j y old
      | inr new ↦ (let P : Item → Type 0 = λ z. Contains n.made z in subst P (in_one x y new) was_made)
    ];
    sent = λ l d y e. elim (sound_way s l d y e) [
      | inl old ↦ h.sent l d y old
      | inr is ↦ (let P : Item → Type 0 = λ z. Contains n.made z in subst P is was_made)
    ];
    one = h.one;
    past = h.past;
    counted = λ y e. (let le = h.counted y e in
        let same : (put_agent i b n.agents y.version.origin).last_count ≡ (n.agents y.version.origin).last_count = at_place (λ a c. c.last_count ≡ a.last_count) i b n.agents y.version.origin count (λ a. refl) in
        omega (arith, le, same));
  }

  come_flat : IsSound → b.address ≡ (n.agents i).address → b.last_count ≡ (n.agents i).last_count → Contains n.made x → Holds n → Holds (come n.made)
  come_flat s address count was_made h =
      let g = taken_flooded n (put_agent i b n.agents) sent i x (sound_taken s) h.flooded in
      let q = laid_on n i b sent h.laid address s.fewer in
      record {
        laid = record { addresses = q.addresses; laid = q.laid; fit = q.fit; apart = q.apart };
        flooded = record { kept = g.kept; owes = g.owes };
        noted = come_noted s h.noted count was_made;
      }

  pub come_holds : IsSound → b.address ≡ (n.agents i).address → b.last_count ≡ (n.agents i).last_count → Contains n.made x → Holds n → Holds (come (n.made ++ []))
  come_holds s address count was_made h =
      let P : List Item → Type 0 = λ made. Holds (come made) in
      subst P (sym (append-nil n.made)) (come_flat s address count was_made h)
