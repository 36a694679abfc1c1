-- A link comes up at one end, where all items that its member keeps are put on it.
use Rattle.std.proofs.Common.{◌≡◌, ℕ, ◌⊎◌, true, false, List, [], ◌∷◌, ◌++◌, Contains, Some, refl, sym, ◌∙◌, ap, subst, inl, inr, arith}
use Rattle.std.specs.Prelude.{find, is_some}
use Rattle.std.proofs.lemmas.Bool.{cases_Bool, and_parts, and_from, both_ways}
use Rattle.std.proofs.lemmas.List.Elements.{Contains-append_left, Contains-append_right, Contains-append_cases}
use Rattle.std.proofs.lemmas.Option.{none-some, same_Some}
use Rattle.rina_enrol.specs.declared.message.LinkMessage.TheVariants as messages
use Rattle.rina_newest.specs.declared.item.Item.{Item}
use Rattle.rina_newest.specs.Newest.{is_newer, has_key, kept_at, without, taken, taken_all}
use Rattle.rina_agent.specs.declared.agent.Agent.{Agent}
use Rattle.rina_agent.specs.declared.message.ManagementMessage.{ManagementMessage}
use Rattle.rina_agent.specs.declared.message.ManagementMessage.TheVariants.{ToNeighbour}
use Rattle.rina_agent.specs.declared.message.Waiting.{Waiting}
use Rattle.rina_agent.specs.Agenda.{waiting_on}
use Rattle.rina_agent.specs.Enrolled.{IsAtLeast}
use Rattle.rina_agent.specs.Enrolments.{is_numbered}
use Rattle.rina_agent.specs.Rows.{was_up}
use Rattle.rina_agent.proofs.Taking.{taken_same}
use Rattle.rina_flood.specs.Network.{Side, other, EndState, Unmade, There, Gone, Network, link_at, waiting_at, put_agent, stands, is_up, has_link, unhandled, carried, on_way, AreApart}
use Rattle.rina_flood.specs.Laws.{Owes, IsComing}
use Rattle.rina_flood.proofs.Calls.{at_itself, at_place, at_state}
use Rattle.rina_flood.proofs.Flow.{key_same, key_itself, not_below_itself, kept_new, kept_other, itself_least}
use Rattle.rina_flood.proofs.Holds.{Holds}
use Rattle.rina_flood.proofs.Messages.{from_at, old_at, waits_new}
use Rattle.rina_flood.proofs.Places.{nothing_in, in_cons, in_one, in_first, in_rest, put_case, flat_from, flat_in}

-- What stands in a list that items were taken into

pub found_in : (items : List Item) (key : List ℕ) (x : Item) → kept_at items key ≡ Some x → Contains items x
found_in [] key x e = absurd (none-some x e)
found_in (i ∷ items) key x e = elim (cases_Bool (has_key key i)) [
  | inl is ↦ (let P : Item → Type 0 = λ y. Contains (i ∷ items) y in subst P (same_Some i x (rw is at e)) (in_first i items))
  | inr isnt ↦ in_rest i items x (found_in items key x (rw isnt at e))
]

without_front : (key : List ℕ) (i : Item) (items : List Item) (y : Item) → has_key key i ≡ false → (Contains (without key items) y → Contains items y × (has_key key y ≡ false)) → Contains (i ∷ without key items) y → Contains (i ∷ items) y × (has_key key y ≡ false)
without_front key i items y isnt rest e = elim (in_cons i (without key items) y e) [
  | inl is ↦
      (let P : Item → Type 0 = λ z. Contains (i ∷ items) z × (has_key key z ≡ false) in
      subst P is (in_first i items, isnt))
  | inr later ↦ (let r = rest later in (in_rest i items y r.0, r.1))
]

without_in : (key : List ℕ) (items : List Item) (y : Item) → Contains (without key items) y → Contains items y × (has_key key y ≡ false)
without_in key [] y e = absurd (nothing_in y e)
without_in key (i ∷ items) y e = elim (cases_Bool (has_key key i)) [
  | inl is ↦ (let r = without_in key items y (rw is at e) in (in_rest i items y r.0, r.1))
  | inr isnt ↦ without_front key i items y isnt (without_in key items y) (rw isnt at e)
]

-- an item of the list after one was taken stood there before, under another key, or is that one
taken_in : (items : List Item) (x y : Item) → is_newer x.version (kept_at items x.key) ≡ true → Contains (taken items x) y → (Contains items y × (has_key x.key y ≡ false)) ⊎ (x ≡ y)
unfolding taken
taken_in items x y newer e = elim (Contains-append_cases (without x.key items) (x ∷ []) y (rw newer at e)) [
  | inl old ↦ inl (without_in x.key items y old)
  | inr new ↦ inr (in_one x y new)
]

stays_in : (items : List Item) (x y : Item) → is_newer x.version (kept_at items x.key) ≡ false → Contains (taken items x) y → Contains items y
unfolding taken
stays_in items x y old e = rw old at e

-- each item of the list is the one that is kept under its key
abbrev pub IsEach : List Item → Type 0
IsEach items = (y : Item) → Contains items y → kept_at items y.key ≡ Some y

new_kept : (items : List Item) (x : Item) → is_newer x.version (kept_at items x.key) ≡ true → kept_at (taken items x) x.key ≡ Some x
new_kept items x newer = kept_new x.key x items (key_itself x.key x.key refl) newer

other_key : (x y : Item) → has_key x.key y ≡ false → has_key y.key x ≡ false
other_key x y apart = elim (cases_Bool (has_key y.key x)) [
  | inl same ↦ absurd (both_ways (has_key x.key y) apart (key_itself x.key y.key (sym (key_same y.key x.key same))))
  | inr n ↦ n
]

each_taken : (items : List Item) (x : Item) → IsEach items → IsEach (taken items x)
each_taken items x each y e = elim (cases_Bool (is_newer x.version (kept_at items x.key))) [
  | inl newer ↦ elim (taken_in items x y newer e) [
    | inl old ↦ kept_other y.key x items (other_key x y old.1) ∙ each y old.0
    | inr is ↦ (let P : Item → Type 0 = λ z. kept_at (taken items x) z.key ≡ Some z in subst P is (new_kept items x newer))
  ]
  | inr old ↦ ap (λ (known : List Item). kept_at known y.key) (taken_same items x old) ∙ each y (stays_in items x y old e)
]

each_all : (items xs : List Item) → IsEach items → IsEach (taken_all items xs)
each_all items [] each = each
each_all items (x ∷ xs) each = each_all (taken items x) xs (each_taken items x each)

pub each_known : (xs : List Item) → IsEach (taken_all [] xs)
each_known xs = each_all [] xs (λ y e. absurd (nothing_in y e))

taken_from : (items : List Item) (x y : Item) → Contains (taken items x) y → Contains items y ⊎ (x ≡ y)
taken_from items x y e = elim (cases_Bool (is_newer x.version (kept_at items x.key))) [
  | inl newer ↦ elim (taken_in items x y newer e) [ inl old ↦ inl old.0 | inr is ↦ inr is ]
  | inr old ↦ inl (stays_in items x y old e)
]

pub all_from : (items xs : List Item) (y : Item) → Contains (taken_all items xs) y → Contains items y ⊎ Contains xs y
all_from items [] y e = inl e
all_from items (x ∷ xs) y e = elim (all_from (taken items x) xs y e) [
  | inl a ↦ elim (taken_from items x y a) [
    | inl old ↦ inl old
    | inr is ↦ (let P : Item → Type 0 = λ z. Contains (x ∷ xs) z in inr (subst P is (in_first x xs)))
  ]
  | inr b ↦ inr (in_rest x xs y b)
]

module _ (n : Network) (h : Holds n) where
  -- an item that a member has in its list is kept, and was made
  pub listed_least : (i : ℕ) (y : Item) → Contains (n.agents i).items y → IsAtLeast (n.agents i).items y
  listed_least i y e =
      let P : List Item → Type 0 = λ items. Contains items y in
      let kept : kept_at (n.agents i).items y.key ≡ Some y = ap (λ (items : List Item). kept_at items y.key) (h.noted.knows i) ∙ each_known (n.offered i) y (subst P (h.noted.knows i) e) in
      itself_least (n.agents i).items y.key y kept refl

  pub listed_made : (i : ℕ) (y : Item) → Contains (n.agents i).items y → Contains n.made y
  listed_made i y e =
      let P : List Item → Type 0 = λ items. Contains items y in
      elim (all_from [] (n.offered i) y (subst P (h.noted.knows i) e)) [
        | inl none ↦ absurd (nothing_in y none)
        | inr offered ↦ h.noted.offered i y offered
      ]

-- A link is up from now on, and a batch with each item is behind what waits
pub record IsRaised (a b : Agent) (k : ℕ) (batch : List Waiting) : Type 0 where
  pub items : b.items ≡ a.items
  pub address : b.address ≡ a.address
  pub count : b.last_count ≡ a.last_count
  pub up : (j : ℕ) → was_up (find (is_numbered j) b.links) ≡ true → (was_up (find (is_numbered j) a.links) ≡ true) ⊎ (j ≡ k)
  pub has : (j : ℕ) → is_some (find (is_numbered j) b.links) ≡ true → is_some (find (is_numbered j) a.links) ≡ true
  pub apart : AreApart a.links → AreApart b.links
  pub agenda : b.agenda ≡ a.agenda ++ batch
  pub all : (x : Item) → Contains a.items x → Contains (waiting_on k batch) (ToNeighbour (messages.Item x))
  pub only : (j : ℕ) (m : ManagementMessage) (y : Item) → Contains (waiting_on j batch) m → Contains (carried m) y → Contains a.items y

module _ (n : Network) (i : ℕ) (b : Agent) (k : ℕ) (batch : List Waiting) (r : IsRaised (n.agents i) b k batch) (h : Holds n) where
  abbrev pub raised : Network
  raised = record n { agents = put_agent i b n.agents }

  same_items : (j : ℕ) → (put_agent i b n.agents j).items ≡ (n.agents j).items
  same_items j = at_place (λ a c. c.items ≡ a.items) i b n.agents j r.items (λ a. refl)

  still_least : (j : ℕ) (y : Item) → IsAtLeast (n.agents j).items y → IsAtLeast (put_agent i b n.agents j).items y
  still_least j y e = (let P : List Item → Type 0 = λ items. IsAtLeast items y in subst P (sym (same_items j)) e)

  agenda_from : (j : EndState) (m : ManagementMessage) → Contains (waiting_at j b.agenda) m → Contains (waiting_at j (n.agents i).agenda) m ⊎ Contains (waiting_at j batch) m
  agenda_from j m e = (let P : List Waiting → Type 0 = λ ws. Contains (waiting_at j ws) m in from_at j (n.agents i).agenda batch m (subst P r.agenda e))

  agenda_old : (j : EndState) (m : ManagementMessage) → Contains (waiting_at j (n.agents i).agenda) m → Contains (waiting_at j b.agenda) m
  agenda_old j m e = (let P : List Waiting → Type 0 = λ ws. Contains (waiting_at j ws) m in subst P (sym r.agenda) (old_at j (n.agents i).agenda batch m e))

  agenda_new : (j : ℕ) (m : ManagementMessage) → Contains (waiting_on j batch) m → Contains (waiting_on j b.agenda) m
  agenda_new j m e = (let P : List Waiting → Type 0 = λ ws. Contains (waiting_on j ws) m in subst P (sym r.agenda) (waits_new j (n.agents i).agenda batch m e))

  only_at : (j : EndState) (m : ManagementMessage) (y : Item) → Contains (waiting_at j batch) m → Contains (carried m) y → Contains (n.agents i).items y
  only_at Unmade m y e has = absurd (nothing_in m e)
  only_at (There j) m y e has = r.only j m y e has
  only_at Gone m y e has = absurd (nothing_in m e)

  up_at : (j : EndState) → was_up (link_at j b.links) ≡ true → (was_up (link_at j (n.agents i).links) ≡ true) ⊎ (j ≡ There k)
  up_at Unmade e = inl e
  up_at (There j) e = elim (r.up j e) [ inl old ↦ inl old | inr is ↦ inr (ap There is) ]
  up_at Gone e = inl e

  has_at : (j : EndState) → is_some (link_at j b.links) ≡ true → is_some (link_at j (n.agents i).links) ≡ true
  has_at = at_state (λ o c. is_some c ≡ true → is_some o ≡ true) (n.agents i).links b.links r.has (λ e. e)

  -- what is on its way was so before, or is an item of the member
  raised_way : (l : ℕ) (d : Side) (y : Item) → Contains (on_way raised l d) y → Contains (on_way n l d) y ⊎ ((n.ends l d ≡ i) × Contains (n.agents i).items y)
  raised_way l d y e =
      let q = flat_from carried (unhandled raised l d) y e in
      let m = q.0 in
      elim (Contains-append_cases (n.sent l d) (waiting_at (n.states l d) (put_agent i b n.agents (n.ends l d)).agenda) m q.1) [
        | inl flies ↦ inl (flat_in carried (unhandled n l d) m y (Contains-append_left (n.sent l d) (waiting_at (n.states l d) (n.agents (n.ends l d)).agenda) m flies) q.2)
        | inr waits ↦ elim (put_case (λ (c : Agent). Contains (waiting_at (n.states l d) c.agenda) m → Contains (waiting_at (n.states l d) (n.agents (n.ends l d)).agenda) m ⊎ ((n.ends l d ≡ i) × Contains (waiting_at (n.states l d) batch) m)) (n.ends l d) i b (n.agents (n.ends l d))
            (λ is w. elim (agenda_from (n.states l d) m w) [
              | inl old ↦ (let P : ℕ → Type 0 = λ j. Contains (waiting_at (n.states l d) (n.agents j).agenda) m in inl (subst P (sym is) old))
              | inr new ↦ inr (is, new)
            ])
            (λ apart w. inl w) waits) [
              | inl old ↦ inl (flat_in carried (unhandled n l d) m y (Contains-append_right (n.sent l d) (waiting_at (n.states l d) (n.agents (n.ends l d)).agenda) m old) q.2)
              | inr new ↦ inr (new.0, only_at (n.states l d) m y new.1 q.2)
            ]
      ]

  old_way : (l : ℕ) (d : Side) (y : Item) → Contains (on_way n l d) y → Contains (on_way raised l d) y
  old_way l d y e =
      let q = flat_from carried (unhandled n l d) y e in
      let m = q.0 in
      elim (Contains-append_cases (n.sent l d) (waiting_at (n.states l d) (n.agents (n.ends l d)).agenda) m q.1) [
        | inl flies ↦ flat_in carried (unhandled raised l d) m y (Contains-append_left (n.sent l d) (waiting_at (n.states l d) (put_agent i b n.agents (n.ends l d)).agenda) m flies) q.2
        | inr waits ↦ flat_in carried (unhandled raised l d) m y (Contains-append_right (n.sent l d) (waiting_at (n.states l d) (put_agent i b n.agents (n.ends l d)).agenda) m
            (at_place (λ a c. Contains (waiting_at (n.states l d) a.agenda) m → Contains (waiting_at (n.states l d) c.agenda) m) i b n.agents (n.ends l d) (λ w. agenda_old (n.states l d) m w) (λ a w. w) waits)) q.2
      ]

  raised_stands : (l : ℕ) (d : Side) → stands raised l d ≡ true → (stands n l d ≡ true) ⊎ ((n.ends l d ≡ i) × (n.states l d ≡ There k))
  raised_stands l d e =
      let both = and_parts _ _ e in
      let has : has_link n l (other d) ≡ true = at_place (λ a c. is_some (link_at (n.states l (other d)) c.links) ≡ true → is_some (link_at (n.states l (other d)) a.links) ≡ true) i b n.agents (n.ends l (other d)) (has_at (n.states l (other d))) (λ a u. u) both.1 in
      elim (put_case (λ (c : Agent). was_up (link_at (n.states l d) c.links) ≡ true → (is_up n l d ≡ true) ⊎ ((n.ends l d ≡ i) × (n.states l d ≡ There k))) (n.ends l d) i b (n.agents (n.ends l d))
      (λ is u. elim (up_at (n.states l d) u) [
        | inl old ↦ (let P : ℕ → Type 0 = λ j. was_up (link_at (n.states l d) (n.agents j).links) ≡ true in inl (subst P (sym is) old))
        | inr new ↦ inr (is, new)
      ])
      (λ apart u. inl u) both.0) [
        | inl up ↦ inl (and_from (is_up n l d) (has_link n l (other d)) up has)
        | inr new ↦ inr new
      ]

  new_coming : (l : ℕ) (d : Side) (key : List ℕ) (x : Item) → n.ends l d ≡ i → n.states l d ≡ There k → kept_at (n.agents (n.ends l d)).items key ≡ Some x → IsComing (on_way raised l d) x
  new_coming l d key x is number e =
      let P : ℕ → Type 0 = λ j. Contains (n.agents j).items x in
      let Q : EndState → Type 0 = λ j. Contains (waiting_at j b.agenda) (ToNeighbour (messages.Item x)) in
      let R : Agent → Type 0 = λ c. Contains (waiting_at (n.states l d) c.agenda) (ToNeighbour (messages.Item x)) in
      let listed = subst P is (found_in (n.agents (n.ends l d)).items key x e) in
      let waits : Contains (waiting_at (n.states l d) b.agenda) (ToNeighbour (messages.Item x)) = subst Q (sym number) (agenda_new k (ToNeighbour (messages.Item x)) (r.all x listed)) in
      let mine : put_agent i b n.agents (n.ends l d) ≡ b = ap (λ (j : ℕ). put_agent i b n.agents j) is ∙ at_itself i b n.agents in
      let there = Contains-append_right (n.sent l d) (waiting_at (n.states l d) (put_agent i b n.agents (n.ends l d)).agenda) (ToNeighbour (messages.Item x)) (subst R (sym mine) waits) in
      record { item = x; among = flat_in carried (unhandled raised l d) (ToNeighbour (messages.Item x)) x there (in_first x []); same = refl; least = not_below_itself x.version }

  raised_owes : (l : ℕ) (d : Side) → stands raised l d ≡ true → Owes raised l d
  raised_owes l d up key x e =
      let old : kept_at (n.agents (n.ends l d)).items key ≡ Some x = ap (λ (items : List Item). kept_at items key) (sym (same_items (n.ends l d))) ∙ e in
      elim (raised_stands l d up) [
        | inl was ↦ elim (h.flooded.owes l d was key x old) [
          | inl a ↦ inl (still_least (n.ends l (other d)) x a)
          | inr c ↦ inr (record { item = c.item; among = old_way l d c.item c.among; same = c.same; least = c.least })
        ]
        | inr new ↦ inr (new_coming l d key x new.0 new.1 old)
      ]

  pub raise_holds : Holds raised
  raise_holds = record {
    laid = record {
      addresses = λ j. at_place (λ a c. c.address ≡ a.address) i b n.agents j r.address (λ a. refl) ∙ h.laid.addresses j;
      laid = h.laid.laid;
      fit = h.laid.fit;
      apart = λ j. at_place (λ a c. AreApart a.links → AreApart c.links) i b n.agents j r.apart (λ a e. e) (h.laid.apart j);
    };
    flooded = record {
      kept = λ l d y e. elim (raised_way l d y e) [
        | inl old ↦ still_least (n.ends l d) y (h.flooded.kept l d y old)
        | inr new ↦ (let P : ℕ → Type 0 = λ j. IsAtLeast (put_agent i b n.agents j).items y in subst P (sym new.0) (still_least i y (listed_least n h i y new.1)))
      ];
      owes = raised_owes;
    };
    noted = record {
      knows = λ j. same_items j ∙ h.noted.knows j;
      offered = h.noted.offered;
      sent = λ l d y e. elim (raised_way l d y e) [
        | inl old ↦ h.noted.sent l d y old
        | inr new ↦ listed_made n h i y new.1
      ];
      one = h.noted.one;
      past = h.noted.past;
      counted = λ y e.
          (let le = h.noted.counted y e in
          let same : (put_agent i b n.agents y.version.origin).last_count ≡ (n.agents y.version.origin).last_count = at_place (λ a c. c.last_count ≡ a.last_count) i b n.agents y.version.origin r.count (λ a. refl) in
          omega (arith, le, same));
    };
  }
