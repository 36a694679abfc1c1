-- An item is taken at one member, or none is: what that keeps of the items and where they are.
use Rattle.std.proofs.Common.{◌≡◌, ℕ, ◌⊎◌, true, false, ◌==◌, cond, List, ◌∷◌, ◌++◌, Contains, Option, Some, refl, sym, ◌∙◌, ap, subst, inl, inr, arith, []}
use Rattle.std.specs.Str.{bytes_eq}
use Rattle.std.proofs.lemmas.Bool.{cases_Bool, both_ways, eqb-true, eq-eqb}
use Rattle.std.proofs.lemmas.Option.{same_Some}
use Rattle.std.proofs.lemmas.Grind.{common_steps}
use Rattle.std.proofs.lemmas.Slice.Eq.{bytes_eq-Decides}
use Rattle.rina_enrol.specs.declared.message.LinkMessage.TheVariants as messages
use Rattle.rina_newest.specs.declared.item.Version.{Version}
use Rattle.rina_newest.specs.declared.item.Item.{Item}
use Rattle.rina_newest.specs.Newest.{is_below, is_newer, has_key, kept_at, without, taken}
use Rattle.rina_agent.specs.declared.agent.Agent.{Agent}
use Rattle.rina_agent.specs.declared.message.ManagementMessage.{ManagementMessage}
use Rattle.rina_agent.specs.declared.message.ManagementMessage.TheVariants.{ToNeighbour}
use Rattle.rina_agent.specs.Enrolled.{IsAtLeast}
use Rattle.rina_agent.proofs.Taking.{taken_same, taken_least, taken_keeps}
use Rattle.rina_flood.specs.Network.{Side, other, Network, stands, unhandled, carried, on_way}
use Rattle.rina_flood.specs.Laws.{IsComing, Owes}
use Rattle.rina_flood.proofs.Holds.{IsFlooded}
use Rattle.rina_flood.proofs.Places.{in_one, in_first, flat_in, flat_from}

-- Keys and versions

pub key_same : (p q : List ℕ) → bytes_eq p q ≡ true → p ≡ q
key_same p q e = (let d = bytes_eq-Decides p q in grind (arith, d, e))

pub key_itself : (p q : List ℕ) → p ≡ q → bytes_eq p q ≡ true
key_itself p q e = (let d = bytes_eq-Decides p q in grind (arith, d, e))

pub not_below_itself : (v : Version) → is_below v v ≡ false
unfolding is_below
not_below_itself v = grind (arith, common_steps)

pub least_on : (a b c : Version) → is_below b a ≡ false → is_below c b ≡ false → is_below c a ≡ false
unfolding is_below
least_on a b c h k = grind (arith, common_steps, h, k)

pub same_version : (a b : Version) → is_below a b ≡ false → is_below b a ≡ false → a ≡ b
unfolding is_below
same_version a b h k = grind (arith, common_steps, h, k)

-- What is kept after an item was taken

kept_without : (key : List ℕ) (x : Item) (items : List Item) → has_key key x ≡ false → kept_at (without x.key items ++ x ∷ []) key ≡ kept_at items key
kept_without key x [] lacks = rw lacks refl
kept_without key x (i ∷ items) lacks = elim (cases_Bool (has_key x.key i)) [
  | inl is ↦
      (let also : has_key key i ≡ false = elim (cases_Bool (has_key key i)) [
        | inl too ↦ absurd (both_ways (has_key key x) lacks (key_itself key x.key (key_same key i.key too ∙ sym (key_same x.key i.key is))))
        | inr n ↦ n
      ] in
      rw (is, also) (kept_without key x items lacks))
  | inr apart ↦ rw apart (ap (λ (o : Option Item). cond (has_key key i) (Some i) o) (kept_without key x items lacks))
]

kept_with : (key : List ℕ) (x : Item) (items : List Item) → has_key key x ≡ true → kept_at (without x.key items ++ x ∷ []) key ≡ Some x
kept_with key x [] has = rw has refl
kept_with key x (i ∷ items) has = elim (cases_Bool (has_key x.key i)) [
  | inl too ↦ rw too (kept_with key x items has)
  | inr apart ↦
      (let also : has_key key i ≡ false = elim (cases_Bool (has_key key i)) [
        | inl too ↦ absurd (both_ways (has_key x.key i) apart (key_itself x.key i.key (sym (key_same key x.key has) ∙ key_same key i.key too)))
        | inr n ↦ n
      ] in
      rw (apart, also) (kept_with key x items has))
]

pub kept_other : (key : List ℕ) (x : Item) (items : List Item) → has_key key x ≡ false → kept_at (taken items x) key ≡ kept_at items key
unfolding taken
kept_other key x items lacks = elim (cases_Bool (is_newer x.version (kept_at items x.key))) [
  | inl newer ↦ rw newer (kept_without key x items lacks)
  | inr old ↦ rw old refl
]

pub kept_new : (key : List ℕ) (x : Item) (items : List Item) → has_key key x ≡ true → is_newer x.version (kept_at items x.key) ≡ true → kept_at (taken items x) key ≡ Some x
unfolding taken
kept_new key x items has newer = rw newer (kept_with key x items has)

-- what is kept was kept before, or is the item that was taken
pub kept_was : (key : List ℕ) (x : Item) (items : List Item) (y : Item) → kept_at (taken items x) key ≡ Some y → ((x ≡ y) × (is_newer x.version (kept_at items x.key) ≡ true)) ⊎ (kept_at items key ≡ Some y)
kept_was key x items y e = elim (cases_Bool (is_newer x.version (kept_at items x.key))) [
  | inl newer ↦ elim (cases_Bool (has_key key x)) [
    | inl is ↦ inl (same_Some x y (sym (kept_new key x items is newer) ∙ e), newer)
    | inr isnt ↦ inr (sym (kept_other key x items isnt) ∙ e)
  ]
  | inr old ↦ inr (ap (λ (is : List Item). kept_at is key) (sym (taken_same items x old)) ∙ e)
]

pub itself_least : (items : List Item) (key : List ℕ) (x : Item) → kept_at items key ≡ Some x → x.key ≡ key → IsAtLeast items x
itself_least items key x e k = record { item = x; kept = ap (λ (q : List ℕ). kept_at items q) k ∙ e; least = not_below_itself x.version }

-- An item is taken at one member. Old messages stay, or what they carried is at the other end; new messages are floods of the item

module _ (n : Network) (agents : ℕ → Agent) (sent : ℕ → Side → List ManagementMessage) where
  abbrev pub to : Network
  to = record n { agents = agents; sent = sent }

  -- what is carried by the messages of a direction
  pub way_in : (l : ℕ) (d : Side) (m : ManagementMessage) (y : Item) → Contains (unhandled to l d) m → Contains (carried m) y → Contains (on_way to l d) y
  way_in l d m y e has = flat_in carried (unhandled to l d) m y e has

  abbrev pub Follows : ℕ → Item → Type 0
  Follows i x = (l : ℕ) (d : Side) (m : ManagementMessage) → Contains (unhandled to l d) m → Contains (unhandled n l d) m ⊎ ((n.ends l d ≡ i) × (ToNeighbour (messages.Flood x) ≡ m))

  abbrev pub Remains : Type 0
  Remains = (l : ℕ) (d : Side) (m : ManagementMessage) → stands to l d ≡ true → Contains (unhandled n l d) m → Contains (unhandled to l d) m ⊎ ((y : Item) → Contains (carried m) y → IsAtLeast (agents (n.ends l (other d))).items y)

  abbrev pub Reaches : ℕ → Item → Type 0
  Reaches i x = (l : ℕ) (d : Side) → is_newer x.version (kept_at (n.agents i).items x.key) ≡ true → stands to l d ≡ true → n.ends l d ≡ i → IsAtLeast (agents (n.ends l (other d))).items x ⊎ Contains (unhandled to l d) (ToNeighbour (messages.Flood x))

  pub record IsTaken (i : ℕ) (x : Item) : Type 0 where
    pub items : (agents i).items ≡ taken (n.agents i).items x
    pub others : (j : ℕ) → (j ≡ i → ⊥) → agents j ≡ n.agents j
    pub opens : (l : ℕ) (d : Side) → stands to l d ≡ true → stands n l d ≡ true
    pub follows : Follows i x
    pub remains : Remains
    pub reaches : Reaches i x

  -- the item comes to be kept, or a newer one
  grows : (i : ℕ) (x : Item) → IsTaken i x → (j : ℕ) (y : Item) → IsAtLeast (n.agents j).items y → IsAtLeast (agents j).items y
  grows i x t j y a = elim (cases_Bool (j == i)) [
    | inl e ↦
        (let is : j ≡ i = eqb-true j i e in
        let P : List Item → Type 0 = λ is. IsAtLeast is y in
        let Q : ℕ → Type 0 = λ k. IsAtLeast (n.agents k).items y in
        let R : ℕ → Type 0 = λ k. IsAtLeast (agents k).items y in
        subst R (sym is) (subst P (sym t.items) (taken_keeps (n.agents i).items x y (subst Q is a))))
    | inr e ↦
        (let R : Agent → Type 0 = λ b. IsAtLeast b.items y in
        subst R (sym (t.others j (λ is. both_ways (j == i) e (eq-eqb j i is)))) a)
  ]

  has : (i : ℕ) (x : Item) → IsTaken i x → (j : ℕ) → j ≡ i → IsAtLeast (agents j).items x
  has i x t j is =
      let P : List Item → Type 0 = λ is. IsAtLeast is x in
      let R : ℕ → Type 0 = λ k. IsAtLeast (agents k).items x in
      subst R (sym is) (subst P (sym t.items) (taken_least (n.agents i).items x))

  -- what a member keeps it kept before, or it is the item
  was : (i : ℕ) (x : Item) → IsTaken i x → (j : ℕ) (key : List ℕ) (y : Item) → kept_at (agents j).items key ≡ Some y
      → ((j ≡ i) × (x ≡ y) × (is_newer x.version (kept_at (n.agents i).items x.key) ≡ true)) ⊎ (kept_at (n.agents j).items key ≡ Some y)
  was i x t j key y e = elim (cases_Bool (j == i)) [
    | inl same ↦
        (let is : j ≡ i = eqb-true j i same in
        let now : kept_at (taken (n.agents i).items x) key ≡ Some y = ap (λ (items : List Item). kept_at items key) (sym t.items) ∙ ap (λ (k : ℕ). kept_at (agents k).items key) (sym is) ∙ e in
        elim (kept_was key x (n.agents i).items y now) [
          | inl c ↦ inl (is, c.0, c.1)
          | inr old ↦ inr (ap (λ (k : ℕ). kept_at (n.agents k).items key) is ∙ old)
        ])
    | inr apart ↦ inr (ap (λ (b : Agent). kept_at b.items key) (sym (t.others j (λ is. both_ways (j == i) apart (eq-eqb j i is)))) ∙ e)
  ]

  one_is : (x y : Item) → Contains (carried (ToNeighbour (messages.Flood x))) y → x ≡ y
  one_is x y e = in_one x y e

  taken_kept : (i : ℕ) (x : Item) → IsTaken i x → IsFlooded n → (l : ℕ) (d : Side) (y : Item) → Contains (on_way to l d) y → IsAtLeast (agents (n.ends l d)).items y
  taken_kept i x t f l d y e =
      let r = flat_from carried (unhandled to l d) y e in
      elim (t.follows l d r.0 r.1) [
        | inl old ↦ grows i x t (n.ends l d) y (f.kept l d y (flat_in carried (unhandled n l d) r.0 y old r.2))
        | inr new ↦
            (let P : ManagementMessage → Type 0 = λ m. Contains (carried m) y in
            let Q : Item → Type 0 = λ z. IsAtLeast (agents (n.ends l d)).items z in
            subst Q (one_is x y (subst P (sym new.1) r.2)) (has i x t (n.ends l d) new.0))
      ]

  still_coming : (i : ℕ) (x : Item) → IsTaken i x → (l : ℕ) (d : Side) (y : Item) → stands to l d ≡ true → IsComing (on_way n l d) y → IsAtLeast (agents (n.ends l (other d))).items y ⊎ IsComing (on_way to l d) y
  still_coming i x t l d y up c =
      let r = flat_from carried (unhandled n l d) c.item c.among in
      elim (t.remains l d r.0 up r.1) [
        | inl stays ↦ inr (record { item = c.item; among = flat_in carried (unhandled to l d) r.0 c.item stays r.2; same = c.same; least = c.least })
        | inr came ↦
            (let a = came c.item r.2 in
            let v = c.least in
            let w = a.least in
            inl (record { item = a.item; kept = ap (λ (k : List ℕ). kept_at (agents (n.ends l (other d))).items k) (sym c.same) ∙ a.kept; least = least_on y.version c.item.version a.item.version v w }))
      ]

  taken_owes : (i : ℕ) (x : Item) → IsTaken i x → IsFlooded n → (l : ℕ) (d : Side) → stands to l d ≡ true → Owes to l d
  taken_owes i x t f l d up key y e = elim (was i x t (n.ends l d) key y e) [
    | inl c ↦
        (let P : Item → Type 0 = λ z. IsAtLeast (agents (n.ends l (other d))).items z ⊎ IsComing (on_way to l d) z in
        let reached : IsAtLeast (agents (n.ends l (other d))).items x ⊎ IsComing (on_way to l d) x = elim (t.reaches l d c.2 up c.0) [
          | inl a ↦ inl a
          | inr m ↦ inr (record { item = x; among = flat_in carried (unhandled to l d) (ToNeighbour (messages.Flood x)) x m (in_first x []); same = refl; least = not_below_itself x.version })
        ] in
        subst P c.1 reached)
    | inr old ↦ elim (f.owes l d (t.opens l d up) key y old) [
      | inl a ↦ inl (grows i x t (n.ends l (other d)) y a)
      | inr c ↦ still_coming i x t l d y up c
    ]
  ]

  pub taken_flooded : (i : ℕ) (x : Item) → IsTaken i x → IsFlooded n → IsFlooded to
  taken_flooded i x t f = record { kept = taken_kept i x t f; owes = taken_owes i x t f }

  -- No item is taken: messages move, or are lost with their link
  pub record IsMoved : Type 0 where
    pub items : (j : ℕ) → (agents j).items ≡ (n.agents j).items
    pub opens : (l : ℕ) (d : Side) → stands to l d ≡ true → stands n l d ≡ true
    pub follows : (l : ℕ) (d : Side) (y : Item) → Contains (on_way to l d) y → Contains (on_way n l d) y
    pub remains : (l : ℕ) (d : Side) (y : Item) → stands to l d ≡ true → Contains (on_way n l d) y → Contains (on_way to l d) y

  same_least : IsMoved → (j : ℕ) (y : Item) → IsAtLeast (n.agents j).items y → IsAtLeast (agents j).items y
  same_least t j y a = (let P : List Item → Type 0 = λ is. IsAtLeast is y in subst P (sym (t.items j)) a)

  moved_owes : IsMoved → IsFlooded n → (l : ℕ) (d : Side) → stands to l d ≡ true → Owes to l d
  moved_owes t f l d up key y e =
      let old : kept_at (n.agents (n.ends l d)).items key ≡ Some y = ap (λ (items : List Item). kept_at items key) (sym (t.items (n.ends l d))) ∙ e in
      elim (f.owes l d (t.opens l d up) key y old) [
        | inl a ↦ inl (same_least t (n.ends l (other d)) y a)
        | inr c ↦ inr (record { item = c.item; among = t.remains l d c.item up c.among; same = c.same; least = c.least })
      ]

  pub moved_flooded : IsMoved → IsFlooded n → IsFlooded to
  moved_flooded t f = record { kept = λ l d y e. same_least t (n.ends l d) y (f.kept l d y (t.follows l d y e)); owes = moved_owes t f }
