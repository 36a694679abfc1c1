-- What a member keeps of its own link state, and what the others keep of it once all is quiet; and lost links.
use Rattle.std.proofs.Common.{◌≡◌, ℕ, ◌≤◌, ◌<◌, ◌^◌, ◌⊎◌, Bool, true, false, cond, List, ◌∷◌, ◌++◌, Contains, Option, Some, None, refl, sym, ◌∙◌, ap, subst, inl, inr, arith, []}
use Rattle.std.specs.Prelude.{find}
use Rattle.std.proofs.lemmas.Bool.{cases_Bool, both_ways}
use Rattle.std.proofs.lemmas.Fmt.{decimal_injective}
use Rattle.std.proofs.lemmas.Grind.{common_steps}
use Rattle.std.proofs.lemmas.List.Elements.{Contains-push_cases}
use Rattle.rina_newest.specs.declared.item.Version.{Version}
use Rattle.rina_newest.specs.declared.item.Item.{Item}
use Rattle.rina_newest.specs.Newest.{is_below, is_newer, has_key, kept_at, taken}
use Rattle.rina_agent.specs.declared.agent.Agent.{Agent}
use Rattle.rina_agent.specs.declared.link.Link.{Link}
use Rattle.rina_agent.specs.Agenda.{floods}
use Rattle.rina_agent.specs.Counts.{next_of, spent}
use Rattle.rina_agent.specs.Enrolments.{is_numbered}
use Rattle.rina_agent.specs.Items.{own_item}
use Rattle.rina_agent.specs.Neighbours.{link_key, link_state}
use Rattle.rina_agent.specs.Rows.{was_up, dropped}
use Rattle.rina_flood.specs.Network.{Network}
use Rattle.rina_flood.proofs.Flow.{key_same, key_itself, not_below_itself, kept_other, kept_new}
use Rattle.rina_flood.proofs.Holds.{Holds}
use Rattle.rina_flood.proofs.Known.{knower}
use Rattle.rina_flood.proofs.LinkStates.{state_same}
use Rattle.rina_flood.proofs.All.{found_key}
use Rattle.rina_flood.proofs.Settles.{Greatest, kept_made}
use Rattle.rina_member.proofs.Counting.{counts_on}

-- Of an address: a member keeps its link state as the member's links are, and none newer was made
pub record Tells (address : ℕ) (a : Agent) (made : List Item) : Type 0 where
  pub item : Item
  pub kept : kept_at a.items (link_key address) ≡ Some item
  pub value : item.value ≡ Some (link_state None a.links)
  pub newest : (y : Item) → Contains made y → y.key ≡ link_key address → is_below item.version y.version ≡ false

abbrev pub ByItself : ℕ → List Item → Type 0
ByItself address made = (y : Item) → Contains made y → y.key ≡ link_key address → y.version.origin ≡ address

pub same_address : (i j : ℕ) → i < 2 ^ 32 → j < 2 ^ 32 → link_key i ≡ link_key j → i ≡ j
same_address i j a b e = decimal_injective i j (omega (arith, a)) (omega (arith, b)) (cc)

-- what else was made changes nothing
pub tells_more : (address : ℕ) (a : Agent) (made made' : List Item) → ((y : Item) → Contains made' y → y.key ≡ link_key address → Contains made y) → Tells address a made → Tells address a made'
tells_more address a made made' fewer t = record { item = t.item; kept = t.kept; value = t.value; newest = λ y e k. t.newest y (fewer y e k) k }

-- an item of another key is taken
pub tells_other : (address : ℕ) (a b : Agent) (made : List Item) (x : Item) → b.items ≡ taken a.items x → b.links ≡ a.links → has_key (link_key address) x ≡ false → Tells address a made → Tells address b made
tells_other address a b made x items links lacks t = record {
  item = t.item;
  kept = ap (λ (known : List Item). kept_at known (link_key address)) items ∙ kept_other (link_key address) x a.items lacks ∙ t.kept;
  value = t.value ∙ ap (λ (ls : List Link). Some (link_state None ls)) (sym links);
  newest = t.newest;
}

-- an item that came, of any key
pub not_newer : (address : ℕ) (a : Agent) (made : List Item) (x : Item) → Contains made x → x.key ≡ link_key address → Tells address a made → is_newer x.version (kept_at a.items x.key) ≡ false
not_newer address a made x was k t =
    let is : kept_at a.items x.key ≡ Some t.item = ap (λ (q : List ℕ). kept_at a.items q) k ∙ t.kept in
    ap (λ (o : Option Item). is_newer x.version o) is ∙ t.newest x was k

pub took_tells : (address : ℕ) (a : Agent) (link : ℕ) (made : List Item) (x : Item) (newer : Bool) → is_newer x.version (kept_at a.items x.key) ≡ newer → Contains made x → Tells address a made
    → Tells address (cond newer (record a { items = taken a.items x; agenda = a.agenda ++ floods (Some link) x a.links }) a) made
took_tells address a link made x true e was t = elim (cases_Bool (has_key (link_key address) x)) [
  | inl has ↦ absurd (both_ways (is_newer x.version (kept_at a.items x.key)) (not_newer address a made x was (sym (key_same (link_key address) x.key has)) t) e)
  | inr lacks ↦ tells_other address a (record a { items = taken a.items x; agenda = a.agenda ++ floods (Some link) x a.links }) made x refl refl lacks t
]
took_tells address a link made x false e was t = t

pub lacks_key : (address : ℕ) (x : Item) → (x.key ≡ link_key address → ⊥) → has_key (link_key address) x ≡ false
lacks_key address x apart = elim (cases_Bool (has_key (link_key address) x)) [
  | inl has ↦ absurd (apart (sym (key_same (link_key address) x.key has)))
  | inr lacks ↦ lacks
]

-- An item of another key is made
pub made_fewer : (made : List Item) (x : Item) (address : ℕ) → (x.key ≡ link_key address → ⊥) → (y : Item) → Contains (made ++ x ∷ []) y → y.key ≡ link_key address → Contains made y
made_fewer made x address apart y e k = elim (Contains-push_cases made x y e) [
  | inl old ↦ old
  | inr is ↦ absurd (apart (ap (λ (z : Item). z.key) is ∙ k))
]

-- The member makes its link state itself

older : (a b : Version) → a.tick ≤ b.tick → a.count < b.count → is_below a b ≡ true
unfolding is_below
older a b tick count = grind (arith, common_steps, tick, count)

not_after : (a b : Version) → is_below a b ≡ true → is_below b a ≡ false
unfolding is_below
not_after a b h = grind (arith, common_steps, h)

module _ (n : Network) (address : ℕ) (out : Option ℕ) (h : Holds n) (greatest : Greatest) (alone : ByItself address n.made) (may : spent 1 (n.agents address).last_count ≡ None) where
  abbrev mine : Agent
  mine = n.agents address

  abbrev told : Item
  told = own_item mine n.now (link_key mine.address) (Some (link_state out mine.links))

  told_key : told.key ≡ link_key address
  told_key = ap link_key (h.laid.addresses address)

  after_all : (y : Item) → Contains n.made y → y.key ≡ link_key address → is_below y.version told.version ≡ true
  after_all y e key =
      let origin = alone y e key in
      let past = h.noted.past y e in
      let counted = h.noted.counted y e in
      let same : (n.agents y.version.origin).last_count ≡ mine.last_count = ap (λ (j : ℕ). (n.agents j).last_count) origin in
      let more = counts_on mine.last_count may in
      let lt : y.version.count < next_of mine.last_count = omega (arith, counted, same, more) in
      older y.version told.version past lt

  told_newer : (o : Option Item) → kept_at mine.items told.key ≡ o → is_newer told.version o ≡ true
  told_newer None e = refl
  told_newer (Some y) e = after_all y (kept_made greatest n h address told.key y e) (found_key mine.items told.key y e ∙ told_key)

  told_newest : (y : Item) → Contains (n.made ++ told ∷ []) y → y.key ≡ link_key address → is_below told.version y.version ≡ false
  told_newest y e key = elim (Contains-push_cases n.made told y e) [
    | inl old ↦ not_after y.version told.version (after_all y old key)
    | inr is ↦ (let P : Item → Type 0 = λ z. is_below told.version z.version ≡ false in subst P is (not_below_itself told.version))
  ]

  pub stated_tells : (b : Agent) → b.items ≡ taken mine.items told → link_state None b.links ≡ link_state out mine.links → Tells address b (n.made ++ told ∷ [])
  stated_tells b items text = record {
    item = told;
    kept = ap (λ (known : List Item). kept_at known (link_key address)) items ∙ kept_new (link_key address) told mine.items (key_itself (link_key address) told.key (sym told_key)) (told_newer (kept_at mine.items told.key) refl);
    value = ap Some (sym text);
    newest = told_newest;
  }

pub down_tells : (address k : ℕ) (a : Agent) (made : List Item) → was_up (find (is_numbered k) a.links) ≡ false → Tells address a made → Tells address (dropped a k) made
down_tells address k a made down t = record { item = t.item; kept = t.kept; value = t.value ∙ ap Some (sym (state_same k a.links down)); newest = t.newest }

-- Or no link of the member is up, and nobody made its link state
pub record TellsNot (address : ℕ) (a : Agent) (made : List Item) : Type 0 where
  pub down : (k : ℕ) → was_up (find (is_numbered k) a.links) ≡ false
  pub unmade : (y : Item) → Contains made y → y.key ≡ link_key address → ⊥

abbrev pub HasTold : ℕ → Agent → List Item → Type 0
HasTold address a made = Tells address a made ⊎ TellsNot address a made

pub not_on : (address : ℕ) (a b : Agent) (made made' : List Item) → ((k : ℕ) → was_up (find (is_numbered k) b.links) ≡ true → was_up (find (is_numbered k) a.links) ≡ true) → ((y : Item) → Contains made' y → y.key ≡ link_key address → Contains made y) → TellsNot address a made → TellsNot address b made'
not_on address a b made made' up fewer t = record {
  down = λ k. elim (cases_Bool (was_up (find (is_numbered k) b.links))) [
    | inl on ↦ absurd (both_ways (was_up (find (is_numbered k) a.links)) (t.down k) (up k on))
    | inr off ↦ off
  ];
  unmade = λ y e key. t.unmade y (fewer y e key) key;
}

-- what else was made changes nothing
pub told_more : (address : ℕ) (a : Agent) (made made' : List Item) → ((y : Item) → Contains made' y → y.key ≡ link_key address → Contains made y) → HasTold address a made → HasTold address a made'
told_more address a made made' fewer (inl t) = inl (tells_more address a made made' fewer t)
told_more address a made made' fewer (inr t) = inr (not_on address a a made made' (λ k e. e) fewer t)

-- nor do other links that are not up, or other messages
pub told_same : (address : ℕ) (a b : Agent) (made : List Item) → b.items ≡ a.items → link_state None b.links ≡ link_state None a.links → ((k : ℕ) → was_up (find (is_numbered k) b.links) ≡ true → was_up (find (is_numbered k) a.links) ≡ true) → HasTold address a made → HasTold address b made
told_same address a b made items text up (inl t) = inl (record {
  item = t.item;
  kept = ap (λ (known : List Item). kept_at known (link_key address)) items ∙ t.kept;
  value = t.value ∙ ap Some (sym text);
  newest = t.newest;
})
told_same address a b made items text up (inr t) = inr (not_on address a b made made up (λ y e key. e) t)

-- an item of another key is taken
pub told_other : (address : ℕ) (a b : Agent) (made : List Item) (x : Item) → b.items ≡ taken a.items x → b.links ≡ a.links → (x.key ≡ link_key address → ⊥) → HasTold address a made → HasTold address b made
told_other address a b made x items links apart (inl t) = inl (tells_other address a b made x items links (lacks_key address x apart) t)
told_other address a b made x items links apart (inr t) = inr (not_on address a b made made (λ k e. ap (λ (ls : List Link). was_up (find (is_numbered k) ls)) (sym links) ∙ e) (λ y e key. e) t)

-- an item came
pub told_took : (address : ℕ) (a : Agent) (link : ℕ) (made : List Item) (x : Item) (newer : Bool) → is_newer x.version (kept_at a.items x.key) ≡ newer → Contains made x → HasTold address a made
    → HasTold address (cond newer (record a { items = taken a.items x; agenda = a.agenda ++ floods (Some link) x a.links }) a) made
told_took address a link made x newer e was (inl t) = inl (took_tells address a link made x newer e was t)
told_took address a link made x true e was (inr t) = inr (not_on address a (record a { items = taken a.items x; agenda = a.agenda ++ floods (Some link) x a.links }) made made (λ k u. u) (λ y e key. e) t)
told_took address a link made x false e was (inr t) = inr t

-- an item is known at once
pub told_known : (address : ℕ) (taking : Bool) (a : Agent) (made : List Item) (x : Item) → (x.key ≡ link_key address → ⊥) → HasTold address a made → HasTold address (knower taking x a) (made ++ x ∷ [])
told_known address true a made x apart t = told_more address (knower true x a) made (made ++ x ∷ []) (made_fewer made x address apart) (told_other address a (knower true x a) made x refl refl apart t)
told_known address false a made x apart t = told_more address a made (made ++ x ∷ []) (made_fewer made x address apart) t
