-- Each enrolled member takes an item at once.
use Rattle.std.proofs.Common.{◌≡◌, ℕ, ◌≤◌, ◌⊎◌, Bool, true, false, ◌&&◌, cond, List, ◌∷◌, ◌++◌, Contains, Some, refl, sym, ◌∙◌, ap, subst, inl, inr, arith, []}
use Rattle.std.specs.Prelude.{flat_map, is_some}
use Rattle.std.proofs.lemmas.List.{append-nil}
use Rattle.std.proofs.lemmas.List.Elements.{Contains-append_left, Contains-push, Contains-push_cases}
use Rattle.rina_newest.specs.declared.item.Item.{Item}
use Rattle.rina_newest.specs.Newest.{kept_at, taken, taken_all, AreTold}
use Rattle.rina_agent.specs.declared.agent.Agent.{Agent}
use Rattle.rina_agent.specs.declared.link.Link.{Link}
use Rattle.rina_agent.specs.declared.message.ManagementMessage.{ManagementMessage}
use Rattle.rina_agent.specs.declared.message.Waiting.{Waiting}
use Rattle.rina_agent.specs.Enrolled.{IsAtLeast}
use Rattle.rina_agent.specs.Rows.{was_up}
use Rattle.rina_agent.proofs.Taking.{taken_least, taken_keeps}
use Rattle.rina_flood.specs.Network.{Side, other, Network, link_at, waiting_at, stands, is_up, has_link, unhandled, carried, on_way, AreApart, is_enrolled, known, MayBeKnown}
use Rattle.rina_flood.specs.Laws.{Owes}
use Rattle.rina_flood.proofs.Calls.{taken_last}
use Rattle.rina_flood.proofs.Flow.{kept_was}
use Rattle.rina_flood.proofs.Holds.{IsPlain, IsNoted, Holds}

-- What stays at a member, whether it takes the item or not

abbrev pub knower : Bool → Item → Agent → Agent
knower taking x a = cond taking (record a { items = taken a.items x }) a

pub knower_address : (taking : Bool) (x : Item) (a : Agent) → (knower taking x a).address ≡ a.address
knower_address true x a = refl
knower_address false x a = refl

pub knower_count : (taking : Bool) (x : Item) (a : Agent) → (knower taking x a).last_count ≡ a.last_count
knower_count true x a = refl
knower_count false x a = refl

pub knower_links : (taking : Bool) (x : Item) (a : Agent) → (knower taking x a).links ≡ a.links
knower_links true x a = refl
knower_links false x a = refl

pub knower_agenda : (taking : Bool) (x : Item) (a : Agent) → (knower taking x a).agenda ≡ a.agenda
knower_agenda true x a = refl
knower_agenda false x a = refl

knower_keeps : (taking : Bool) (x : Item) (a : Agent) (y : Item) → IsAtLeast a.items y → IsAtLeast (knower taking x a).items y
knower_keeps true x a y h = taken_keeps a.items x y h
knower_keeps false x a y h = h

knower_has : (taking : Bool) (x : Item) (a : Agent) → taking ≡ true → IsAtLeast (knower taking x a).items x
knower_has taking x a is = (let P : Bool → Type 0 = λ b. IsAtLeast (knower b x a).items x in subst P (sym is) (taken_least a.items x))

-- what it keeps it kept before, or it is the item
knower_was : (taking : Bool) (x : Item) (a : Agent) (key : List ℕ) (y : Item) → kept_at (knower taking x a).items key ≡ Some y → ((x ≡ y) × (taking ≡ true)) ⊎ (kept_at a.items key ≡ Some y)
knower_was true x a key y e = elim (kept_was key x a.items y e) [
  | inl is ↦ inl (is.0, refl)
  | inr old ↦ inr old
]
knower_was false x a key y e = inr e

knower_knows : (taking : Bool) (x : Item) (a : Agent) (offered : List Item) → a.items ≡ taken_all [] offered → (knower taking x a).items ≡ taken_all [] (offered ++ cond taking (x ∷ []) [])
knower_knows true x a offered e = ap (λ (items : List Item). taken items x) e ∙ sym (taken_last [] offered x)
knower_knows false x a offered e = e ∙ ap (λ (items : List Item). taken_all [] items) (sym (append-nil offered))

offer_is : (taking : Bool) (x y : Item) (offered : List Item) → Contains (offered ++ cond taking (x ∷ []) []) y → Contains offered y ⊎ (x ≡ y)
offer_is true x y offered e = Contains-push_cases offered x y e
offer_is false x y offered e = inl (let P : List Item → Type 0 = λ items. Contains items y in subst P (append-nil offered) e)

module _ (n : Network) (x : Item) where
  abbrev taker : ℕ → Agent
  taker i = knower (is_enrolled (n.agents i)) x (n.agents i)

  pub same_unhandled : (l : ℕ) (d : Side) → unhandled (known n x) l d ≡ unhandled n l d
  same_unhandled l d = ap (λ (ws : List Waiting). n.sent l d ++ waiting_at (n.states l d) ws) (knower_agenda (is_enrolled (n.agents (n.ends l d))) x (n.agents (n.ends l d)))

  same_way : (l : ℕ) (d : Side) → on_way (known n x) l d ≡ on_way n l d
  same_way l d = ap (λ (ms : List ManagementMessage). flat_map carried ms) (same_unhandled l d)

  pub same_up : (l : ℕ) (d : Side) → is_up (known n x) l d ≡ is_up n l d
  same_up l d = ap (λ (ls : List Link). was_up (link_at (n.states l d) ls)) (knower_links (is_enrolled (n.agents (n.ends l d))) x (n.agents (n.ends l d)))

  same_has : (l : ℕ) (d : Side) → has_link (known n x) l d ≡ has_link n l d
  same_has l d = ap (λ (ls : List Link). is_some (link_at (n.states l d) ls)) (knower_links (is_enrolled (n.agents (n.ends l d))) x (n.agents (n.ends l d)))

  stood : (l : ℕ) (d : Side) → stands (known n x) l d ≡ true → stands n l d ≡ true
  stood l d e =
      let up = same_up l d in
      let has = same_has l (other d) in
      ap (λ (b : Bool). b && has_link n l (other d)) (sym up) ∙ ap (λ (b : Bool). is_up (known n x) l d && b) (sym has) ∙ e

  known_owes : Holds n → MayBeKnown n x → (l : ℕ) (d : Side) → stands (known n x) l d ≡ true → Owes (known n x) l d
  known_owes h may l d up key y e =
      let from = n.ends l d in
      let to = n.ends l (other d) in
      elim (knower_was (is_enrolled (n.agents from)) x (n.agents from) key y e) [
        | inl is ↦
            (let P : Item → Type 0 = λ z. IsAtLeast (taker to).items z in
            inl (subst P is.0 (knower_has (is_enrolled (n.agents to)) x (n.agents to) (may.both l d (stood l d up) is.1))))
        | inr old ↦ elim (h.flooded.owes l d (stood l d up) key y old) [
          | inl a ↦ inl (knower_keeps (is_enrolled (n.agents to)) x (n.agents to) y a)
          | inr c ↦
              (let P : List Item → Type 0 = λ items. Contains items c.item in
              inr (record { item = c.item; among = subst P (sym (same_way l d)) c.among; same = c.same; least = c.least }))
        ]
      ]

  known_told : IsNoted n → MayBeKnown n x → AreTold (n.made ++ x ∷ [])
  known_told h may y z a b k v = elim (Contains-push_cases n.made x y a) [
    | inl old_y ↦ elim (Contains-push_cases n.made x z b) [
      | inl old_z ↦ h.one y z old_y old_z k v
      | inr is_z ↦ may.one y old_y (k ∙ ap (λ (w : Item). w.key) (sym is_z)) (v ∙ ap (λ (w : Item). w.version) (sym is_z)) ∙ is_z
    ]
    | inr is_y ↦ elim (Contains-push_cases n.made x z b) [
      | inl old_z ↦ sym is_y ∙ sym (may.one z old_z (sym k ∙ ap (λ (w : Item). w.key) (sym is_y)) (sym v ∙ ap (λ (w : Item). w.version) (sym is_y)))
      | inr is_z ↦ sym is_y ∙ is_z
    ]
  ]

  known_noted : IsNoted n → MayBeKnown n x → IsNoted (known n x)
  known_noted h may = record {
    knows = λ i. knower_knows (is_enrolled (n.agents i)) x (n.agents i) (n.offered i) (h.knows i);
    offered = λ i y e. elim (offer_is (is_enrolled (n.agents i)) x y (n.offered i) e) [
      | inl old ↦ Contains-append_left n.made (x ∷ []) y (h.offered i y old)
      | inr is ↦ (let P : Item → Type 0 = λ z. Contains (n.made ++ x ∷ []) z in subst P is (Contains-push n.made x))
    ];
    sent = λ l d y e. (let P : List Item → Type 0 = λ items. Contains items y in Contains-append_left n.made (x ∷ []) y (h.sent l d y (subst P (same_way l d) e)));
    one = known_told h may;
    past = λ y e. elim (Contains-push_cases n.made x y e) [
      | inl old ↦ h.past y old
      | inr is ↦ (let P : Item → Type 0 = λ z. z.version.tick ≤ n.now in subst P is may.past)
    ];
    counted = λ y e.
        (let same = knower_count (is_enrolled (n.agents y.version.origin)) x (n.agents y.version.origin) in
        let le : y.version.count ≤ (n.agents y.version.origin).last_count = elim (Contains-push_cases n.made x y e) [
          | inl old ↦ h.counted y old
          | inr is ↦ (let P : Item → Type 0 = λ z. z.version.count ≤ (n.agents z.version.origin).last_count in subst P is may.counted)
        ] in
        omega (arith, le, same));
  }

  pub know_holds : Holds n → MayBeKnown n x → Holds (known n x)
  know_holds h may =
      let noted = known_noted h.noted may in
      record {
        laid = record {
          addresses = λ i. knower_address (is_enrolled (n.agents i)) x (n.agents i) ∙ h.laid.addresses i;
          laid = h.laid.laid;
          fit = h.laid.fit;
          apart = λ i. (let P : List Link → Type 0 = λ ls. AreApart ls in subst P (sym (knower_links (is_enrolled (n.agents i)) x (n.agents i))) (h.laid.apart i));
        };
        flooded = record {
          kept = λ l d y e.
              (let P : List Item → Type 0 = λ items. Contains items y in
              knower_keeps (is_enrolled (n.agents (n.ends l d))) x (n.agents (n.ends l d)) y (h.flooded.kept l d y (subst P (same_way l d) e)));
          owes = known_owes h may;
        };
        noted = record { knows = noted.knows; offered = noted.offered; sent = noted.sent; one = noted.one; past = noted.past; counted = noted.counted };
      }

  pub know_plain : (l : ℕ) (d : Side) → IsPlain n l d → IsPlain (known n x) l d
  know_plain l d p m e = (let P : List ManagementMessage → Type 0 = λ ms. Contains ms m in p m (subst P (same_unhandled l d) e))
