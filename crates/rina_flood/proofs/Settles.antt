-- What follows for the members.
use Rattle.std.proofs.Common.{◌≡◌, ℕ, Bool, true, false, cond, List, ◌∷◌, ◌++◌, Contains, Option, Some, None, refl, sym, ◌∙◌, ap, subst, inl, inr, []}
use Rattle.std.specs.Prelude.{MatchOption}
use Rattle.std.proofs.lemmas.Bool.{and_parts, and_from}
use Rattle.std.proofs.lemmas.List.{append-nil}
use Rattle.std.proofs.lemmas.Option.{none-some, same_Some}
use Rattle.rina_newest.specs.declared.item.Item.{Item}
use Rattle.rina_newest.specs.Newest.{is_below, is_newer, kept_at, taken_all, IsNewest, AreTold}
use Rattle.rina_agent.specs.declared.agent.Agent.{Agent}
use Rattle.rina_agent.specs.Agenda.{waiting_on, floods}
use Rattle.rina_agent.specs.Items.{took}
use Rattle.rina_agent.proofs.Lists.{put_waits_last, not_back}
use Rattle.rina_flood.specs.Network.{Side, Near, Far, other, Network, link_at, joins, stands, is_up, has_link, on_way, Row, IsRun, after_rows, IsStart}
use Rattle.rina_flood.specs.Laws.{IsComing, IsTold, Owes, IsQuietWalk}
use Rattle.rina_flood.proofs.Flow.{same_version}
use Rattle.rina_flood.proofs.Holds.{Holds}
use Rattle.rina_flood.proofs.Places.{nothing_in, other_back}
use Rattle.rina_flood.proofs.All.{run_holds, found_key}
use Rattle.rina_flood.proofs.Runs.{up_is_some}

pub directions_owe : (n : Network) (told : List Item) (rows : List Row) (l : ℕ) (d : Side) → IsStart n told → IsRun n rows → stands (after_rows n rows) l d ≡ true → Owes (after_rows n rows) l d
directions_owe n told rows l d s run up = (let h = run_holds n told rows s run in h.flooded.owes l d up)

pub only_made : (n : Network) (told : List Item) (rows : List Row) (l : ℕ) (d : Side) (x : Item) → IsStart n told → IsRun n rows → Contains (on_way (after_rows n rows) l d) x → IsTold (after_rows n rows) l d x
only_made n told rows l d x s run e = (let h = run_holds n told rows s run in record { made = h.noted.sent l d x e; kept = h.flooded.kept l d x e })

-- The law of takes: what is kept after any takes is the newest
abbrev pub Greatest : Type 0
Greatest = (items : List Item) (key : List ℕ) → MatchOption (kept_at (taken_all [] items) key) ((item : Item) → Contains items item → item.key ≡ key → ⊥) (IsNewest items key)

abbrev pub AnyOrder : Type 0
AnyOrder = (xs ys : List Item) → AreTold xs → ((item : Item) → Contains xs item → Contains ys item) → ((item : Item) → Contains ys item → Contains xs item) → (key : List ℕ) → kept_at (taken_all [] xs) key ≡ kept_at (taken_all [] ys) key

module _ (greatest : Greatest) where
  pub newest_kept : (n : Network) (told : List Item) (rows : List Row) (i : ℕ) (key : List ℕ) → IsStart n told → IsRun n rows
      → MatchOption (kept_at ((after_rows n rows).agents i).items key) ((x : Item) → Contains ((after_rows n rows).offered i) x → x.key ≡ key → ⊥) (IsNewest ((after_rows n rows).offered i) key)
  newest_kept n told rows i key s run =
      let h = run_holds n told rows s run in
      let P : List Item → Type 0 = λ items. MatchOption (kept_at items key) ((x : Item) → Contains ((after_rows n rows).offered i) x → x.key ≡ key → ⊥) (IsNewest ((after_rows n rows).offered i) key) in
      subst P (sym (h.noted.knows i)) (greatest ((after_rows n rows).offered i) key)

  among : (items : List Item) (key : List ℕ) (o : Option Item) (x : Item) → o ≡ Some x → MatchOption o ((y : Item) → Contains items y → y.key ≡ key → ⊥) (IsNewest items key) → Contains items x
  among items key None x e m = absurd (none-some x e)
  among items key (Some y) x e m = (let P : Item → Type 0 = λ z. Contains items z in subst P (same_Some y x e) m.among)

  -- what a member keeps was made
  pub kept_made : (n : Network) → Holds n → (i : ℕ) (key : List ℕ) (x : Item) → kept_at (n.agents i).items key ≡ Some x → Contains n.made x
  kept_made n h i key x e =
      let P : List Item → Type 0 = λ items. kept_at items key ≡ Some x in
      h.noted.offered i x (among (n.offered i) key (kept_at (taken_all [] (n.offered i)) key) x (subst P (h.noted.knows i) e) (greatest (n.offered i) key))

  -- two of which each is at least as new as the other
  same_kept : (made : List Item) → AreTold made → (key : List ℕ) (a b : Option Item) → ((x : Item) → a ≡ Some x → Contains made x) → ((x : Item) → b ≡ Some x → Contains made x) → ((x : Item) → a ≡ Some x → x.key ≡ key) → ((x : Item) → b ≡ Some x → x.key ≡ key)
      → ((x : Item) → a ≡ Some x → (y : Item) × (b ≡ Some y) × (is_below y.version x.version ≡ false)) → ((x : Item) → b ≡ Some x → (y : Item) × (a ≡ Some y) × (is_below y.version x.version ≡ false)) → a ≡ b
  same_kept made told key None None a_made b_made a_key b_key to back = refl
  same_kept made told key None (Some y) a_made b_made a_key b_key to back = (let c = back y refl in absurd (none-some c.0 c.1))
  same_kept made told key (Some x) None a_made b_made a_key b_key to back = (let c = to x refl in absurd (none-some c.0 c.1))
  same_kept made told key (Some x) (Some y) a_made b_made a_key b_key to back =
      let c = to x refl in
      let e = back y refl in
      let P : Item → Type 0 = λ z. is_below z.version x.version ≡ false in
      let Q : Item → Type 0 = λ z. is_below z.version y.version ≡ false in
      let le : is_below y.version x.version ≡ false = subst P (sym (same_Some y c.0 c.1)) c.2 in
      let ge : is_below x.version y.version ≡ false = subst Q (sym (same_Some x e.0 e.1)) e.2 in
      ap Some (told x y (a_made x refl) (b_made y refl) (a_key x refl ∙ sym (b_key y refl)) (same_version x.version y.version ge le))

  none_comes : (items : List Item) (x : Item) → items ≡ [] → IsComing items x → ⊥
  none_comes items x quiet c = (let P : List Item → Type 0 = λ z. Contains z c.item in nothing_in c.item (subst P quiet c.among))

  across : (n : Network) (l : ℕ) (d : Side) (key : List ℕ) (x : Item) → Holds n → stands n l d ≡ true → on_way n l d ≡ [] → kept_at (n.agents (n.ends l d)).items key ≡ Some x → (y : Item) × (kept_at (n.agents (n.ends l (other d))).items key ≡ Some y) × (is_below y.version x.version ≡ false)
  across n l d key x h up quiet e = elim (h.flooded.owes l d up key x e) [
    | inl a ↦ (let k = found_key (n.agents (n.ends l d)).items key x e in (a.item, ap (λ (q : List ℕ). kept_at (n.agents (n.ends l (other d))).items q) (sym k) ∙ a.kept, a.least))
    | inr c ↦ absurd (none_comes (on_way n l d) x quiet c)
  ]

  back_across : (n : Network) (l : ℕ) (d : Side) (key : List ℕ) (x : Item) → Holds n → stands n l (other d) ≡ true → on_way n l (other d) ≡ [] → kept_at (n.agents (n.ends l (other d))).items key ≡ Some x → (y : Item) × (kept_at (n.agents (n.ends l d)).items key ≡ Some y) × (is_below y.version x.version ≡ false)
  back_across n l d key x h up quiet e =
      let P : Side → Type 0 = λ t. (y : Item) × (kept_at (n.agents (n.ends l t)).items key ≡ Some y) × (is_below y.version x.version ≡ false) in
      subst P (other_back d) (across n l (other d) key x h up quiet e)

  joined_stands : (n : Network) (l : ℕ) (d : Side) → joins n l ≡ true → stands n l d ≡ true
  joined_stands n l Near e = (let both = and_parts _ _ e in and_from (is_up n l Near) (has_link n l Far) both.0 (up_is_some (link_at (n.states l Far) (n.agents (n.ends l Far)).links) both.1))
  joined_stands n l Far e = (let both = and_parts _ _ e in and_from (is_up n l Far) (has_link n l Near) both.1 (up_is_some (link_at (n.states l Near) (n.agents (n.ends l Near)).links) both.0))

  quiet_side : (n : Network) (l : ℕ) (d : Side) → on_way n l Near ≡ [] → on_way n l Far ≡ [] → on_way n l d ≡ []
  quiet_side n l Near a b = a
  quiet_side n l Far a b = b

  link_equal : (n : Network) (l : ℕ) (d : Side) (key : List ℕ) → Holds n → joins n l ≡ true → on_way n l Near ≡ [] → on_way n l Far ≡ [] → kept_at (n.agents (n.ends l d)).items key ≡ kept_at (n.agents (n.ends l (other d))).items key
  link_equal n l d key h up near far =
      let a = (n.agents (n.ends l d)).items in
      let b = (n.agents (n.ends l (other d))).items in
      same_kept n.made h.noted.one key (kept_at a key) (kept_at b key) (kept_made n h (n.ends l d) key) (kept_made n h (n.ends l (other d)) key) (found_key a key) (found_key b key)
      (λ x e. across n l d key x h (joined_stands n l d up) (quiet_side n l d near far) e)
      (λ x e. back_across n l d key x h (joined_stands n l (other d) up) (quiet_side n l (other d) near far) e)

  pub walk_equal : (n : Network) (i j : ℕ) (steps : List (ℕ × Side)) (key : List ℕ) → Holds n → IsQuietWalk n i steps j → kept_at (n.agents i).items key ≡ kept_at (n.agents j).items key
  walk_equal n i j [] key h walk = ap (λ (k : ℕ). kept_at (n.agents k).items key) walk
  walk_equal n i j (step ∷ steps) key h walk =
      ap (λ (k : ℕ). kept_at (n.agents k).items key) (sym walk.0) ∙ link_equal n step.0 step.1 key h walk.1 walk.2 walk.3 ∙ walk_equal n (n.ends step.0 (other step.1)) j steps key h walk.4

  pub quiet_equal : (n : Network) (told : List Item) (rows : List Row) (i j : ℕ) (steps : List (ℕ × Side)) (key : List ℕ) → IsStart n told → IsRun n rows → IsQuietWalk (after_rows n rows) i steps j
      → kept_at ((after_rows n rows).agents i).items key ≡ kept_at ((after_rows n rows).agents j).items key
  quiet_equal n told rows i j steps key s run walk = walk_equal (after_rows n rows) i j steps key (run_holds n told rows s run) walk

-- the order of what was offered is nothing
pub order_is_nothing : AnyOrder → (n : Network) (told : List Item) (rows : List Row) (i j : ℕ) (key : List ℕ) → IsStart n told → IsRun n rows
    → ((x : Item) → Contains ((after_rows n rows).offered i) x → Contains ((after_rows n rows).offered j) x)
    → ((x : Item) → Contains ((after_rows n rows).offered j) x → Contains ((after_rows n rows).offered i) x)
    → kept_at ((after_rows n rows).agents i).items key ≡ kept_at ((after_rows n rows).agents j).items key
order_is_nothing any n told rows i j key s run to back =
    let h = run_holds n told rows s run in
    let end = after_rows n rows in
    ap (λ (items : List Item). kept_at items key) (h.noted.knows i)
    ∙ any (end.offered i) (end.offered j) (λ x y a b k v. h.noted.one x y (h.noted.offered i x a) (h.noted.offered i y b) k v) to back key
    ∙ ap (λ (items : List Item). kept_at items key) (sym (h.noted.knows j))

-- a flood does not go back
not_back_by : (newer : Bool) (a : Agent) (link : ℕ) (x : Item) (known : List Item) → waiting_on link (cond newer (record a { items = known; agenda = a.agenda ++ floods (Some link) x a.links }) a).agenda ≡ waiting_on link a.agenda
not_back_by true a link x known = put_waits_last link a.agenda (floods (Some link) x a.links) ∙ ap (λ ms. waiting_on link a.agenda ++ ms) (not_back link x a.links) ∙ append-nil (waiting_on link a.agenda)
not_back_by false a link x known = refl

pub flood_not_back : (a : Agent) (link : ℕ) (x : Item) → waiting_on link (took link a x).agenda ≡ waiting_on link a.agenda
flood_not_back a link x = not_back_by (is_newer x.version (kept_at a.items x.key)) a link x _
