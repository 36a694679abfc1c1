-- What items claim by their keys, and which items are kept after some were taken.
use Rattle.std.proofs.Common.{◌≡◌, ◌∙◌, ◌⊎◌, inl, inr, ⊎_elim, ℕ, ◌+◌, ◌-◌, ◌^◌, ◌<◌, ◌==◌, Bool, true, false, cond, not, nat_eq, List, [], ◌∷◌, ◌++◌, Option, Some, None, Contains, drop, filter, get_or, length, map, take, refl, sym, ap, subst, arith}
use Rattle.std.specs.Prelude.{codes, option_and_then, option_map}
use Rattle.std.specs.Fmt.{decimal}
use Rattle.std.specs.List.{after_first, before_first, flat_map, slice_split, starts_with}
use Rattle.std.specs.Str.{bytes_eq}
use Rattle.std.proofs.lemmas.Bool.{both_ways, cases_Bool, false≢true, ne_eqb, not-true, true≢false}
use Rattle.std.proofs.lemmas.List.{map_more}
use Rattle.std.proofs.lemmas.List.Elements.{Contains-append_cases, Contains-append_left, Contains-append_right, Contains-push, Contains-push_cases}
use Rattle.std.proofs.lemmas.Option.{same_Some}
use Rattle.std.proofs.lemmas.Slice.Eq.{bytes_eq-Decides}
use Rattle.rina_base.specs.Decimals.{number_of}
use Rattle.rina_base.proofs.Decimals.{decimal_back}
use Rattle.rina_dir.specs.Directory.{key_of}
use Rattle.rina_graph.specs.declared.graph.Edge.{Edge}
use Rattle.rina_newest.specs.declared.item.Item.{Item}
use Rattle.rina_newest.specs.Newest.{has_key, is_newer, kept_at, taken, taken_all, without}
use Rattle.rina_route.specs.Routes.{claim_at, claims_by, claims_of, edge, weight_at}
use Rattle.rina_route.proofs.Lists.{cases, contains_filter, head, in_none, tail}
use Rattle.rina_agent.specs.Neighbours.{link_key, member_key}
use Rattle.rina_member.specs.Knowing.{IsItemKey}
use Rattle.rina_member.proofs.Hops.{Within}
use Rattle.rina_member.proofs.Lists.{found, from_flat, into_flat, kept, made_of}

-- Keys

pub key_same : (p q : List ℕ) → bytes_eq p q ≡ true → p ≡ q
key_same p q = (bytes_eq-Decides p q).0

pub key_itself : (p q : List ℕ) → p ≡ q → bytes_eq p q ≡ true
key_itself p q = (bytes_eq-Decides p q).1

written_number : (a : ℕ) → a < 2 ^ 32 → number_of (decimal a) ≡ Some a
written_number a small = decimal_back (2 ^ 32 - 1) a (omega arith) (omega arith)

-- two addresses have two link states
pub same_address : (a b : ℕ) → a < 2 ^ 32 → b < 2 ^ 32 → link_key a ≡ link_key b → a ≡ b
same_address a b small small' h =
    let texts : decimal a ≡ decimal b = ap (λ (k : List ℕ). drop 6 k) h in
    same_Some a b (sym (written_number a small) ∙ ap number_of texts ∙ written_number b small')

-- no member item is a link state
pub not_link : (a b : ℕ) → member_key a ≡ link_key b → ⊥
not_link a b h = false≢true (ap (λ (k : List ℕ). starts_with nat_eq k (codes "/link/")) h)

pub member_claims : (it : Item) (a : ℕ) → it.key ≡ member_key a → claims_of it ≡ []
unfolding claims_of
member_claims it a is = ap (λ (k : List ℕ). cond (starts_with nat_eq k (codes "/link/")) (claims_by (number_of (drop 6 k)) it.value) []) is

-- no directory entry is a link state
pub entry_not_link : (app : List ℕ) (b : ℕ) → key_of app ≡ link_key b → ⊥
unfolding key_of
entry_not_link app b h = false≢true (ap (λ (k : List ℕ). starts_with nat_eq k (codes "/link/")) h)

pub entry_claims : (it : Item) (app : List ℕ) → it.key ≡ key_of app → claims_of it ≡ []
unfolding claims_of key_of
entry_claims it app is = ap (λ (k : List ℕ). cond (starts_with nat_eq k (codes "/link/")) (claims_by (number_of (drop 6 k)) it.value) []) is

link_claims : (it : Item) (a : ℕ) → a < 2 ^ 32 → it.key ≡ link_key a → claims_of it ≡ claims_by (Some a) it.value
unfolding claims_of
link_claims it a small is =
    ap (λ (k : List ℕ). cond (starts_with nat_eq k (codes "/link/")) (claims_by (number_of (drop 6 k)) it.value) []) is
    ∙ ap (λ (o : Option ℕ). claims_by o it.value) (written_number a small)

weighed_from : (a there : ℕ) (w : Option ℕ) (e : Edge) → option_map (λ v. edge a there v) w ≡ Some e → e.from ≡ a
weighed_from a there None e h = absurd cc
weighed_from a there (Some v) e h = sym (ap (λ (x : Edge). x.from) (same_Some (edge a there v) e h))

read_from : (a : ℕ) (t w : Option ℕ) (e : Edge) → option_and_then (λ there. option_map (λ v. edge a there v) w) t ≡ Some e → e.from ≡ a
read_from a None w e h = absurd cc
read_from a (Some there) w e h = weighed_from a there w e h

part_from : (a : ℕ) (part : List ℕ) (e : Edge) → claim_at a part ≡ Some e → e.from ≡ a
unfolding claim_at
part_from a part e h = read_from a (number_of (before_first (λ b. b == 58) part)) (weight_at (after_first (λ b. b == 58) part)) e h

value_from : (a : ℕ) (value : Option (List ℕ)) (e : Edge) → Contains (claims_by (Some a) value) e → e.from ≡ a
value_from a None e h = absurd (in_none e h)
value_from a (Some text) e h = (let r = made_of (claim_at a) (slice_split (λ b. b == 44) text) e h in part_from a r.0 e r.2)

-- only the link state of an address claims edges from it
pub claimed_from : (it : Item) (e : Edge) → IsItemKey it.key → Contains (claims_of it) e → (it.key ≡ link_key e.from) × (e.from < 2 ^ 32)
claimed_from it e (inl h) has = ⊎_elim
    (λ member. absurd (in_none e (subst (λ (es : List Edge). Contains es e) (member_claims it h.0 member) has)))
    (λ link. (
    let from : e.from ≡ h.0 = value_from h.0 it.value e (subst (λ (es : List Edge). Contains es e) (link_claims it h.0 h.1 link) has) in
    (link ∙ ap (λ (a : ℕ). link_key a) (sym from), subst (λ (a : ℕ). a < 2 ^ 32) (sym from) h.1)))
    h.2
claimed_from it e (inr h) has = absurd (in_none e (subst (λ (es : List Edge). Contains es e) (entry_claims it h.0 h.1) has))

-- Items that were taken

taken_cases : (b : Bool) (items : List Item) (x y : Item) → Contains (cond b (without x.key items ++ x ∷ []) items) y → Contains items y ⊎ (x ≡ y)
taken_cases true items x y h = ⊎_elim (λ old. inl ((contains_filter (λ item. not (has_key x.key item)) items y old).0)) (λ same. inr same) (Contains-push_cases (without x.key items) x y h)
taken_cases false items x y h = inl h

pub from_taken : (items : List Item) (x y : Item) → Contains (taken items x) y → Contains items y ⊎ (x ≡ y)
unfolding taken
from_taken items x y h = taken_cases (is_newer x.version (kept_at items x.key)) items x y h

pub from_all : (items new : List Item) (y : Item) → Contains (taken_all items new) y → Contains items y ⊎ Contains new y
from_all items [] y h = inl h
from_all items (x ∷ new) y h =
    ⊎_elim (λ one. ⊎_elim (λ old. inl old) (λ same. inr (subst (λ (z : Item). Contains (x ∷ new) z) same (head x new))) (from_taken items x y one)) (λ rest. inr (tail x new y rest)) (from_all (taken items x) new y h)

pub taken_both : (items xs ys : List Item) → taken_all items (xs ++ ys) ≡ taken_all (taken_all items xs) ys
taken_both items [] ys = refl
taken_both items (x ∷ xs) ys = taken_both (taken items x) xs ys

-- one more was taken
pub taken_more : {A : Type 0} (f : A → Item) (items : List Item) (xs : List A) (k : ℕ) (d : A) → k < length xs → taken_all items (map f (take (k + 1) xs)) ≡ taken (taken_all items (map f (take k xs))) (f (get_or xs k d))
taken_more f items xs k d within = ap (λ (is : List Item). taken_all items is) (map_more f xs k d within) ∙ taken_both items (map f (take k xs)) (f (get_or xs k d) ∷ [])

-- no other item has the key of this one
abbrev pub IsAlone : List Item → Item → Type 0
IsAlone items x = (z : Item) → Contains items z → z.key ≡ x.key → z ≡ x

older : (items : List Item) (y x : Item) (o : Option Item) → kept_at items y.key ≡ o → is_newer y.version o ≡ false → IsAlone items x → y ≡ x → Contains items x
older items y x None is old alone same = absurd (true≢false old)
older items y x (Some z) is old alone same =
    let r = found (has_key y.key) items z is in
    let key : z.key ≡ x.key = sym (key_same y.key z.key r.1) ∙ ap (λ (w : Item). w.key) same in
    subst (λ (w : Item). Contains items w) (alone z r.0 key) r.0

put_step : (b : Bool) (items : List Item) (y x : Item) → is_newer y.version (kept_at items y.key) ≡ b → IsAlone items x → (y.key ≡ x.key → y ≡ x) → Contains items x ⊎ (y ≡ x)
    → Contains (cond b (without y.key items ++ y ∷ []) items) x
put_step true items y x is alone own h =
    let others : List Item = without y.key items in
    let last : y ≡ x → Contains (others ++ y ∷ []) x = λ same. subst (λ (w : Item). Contains (others ++ y ∷ []) w) same (Contains-push others y) in
    ⊎_elim (λ old. ⊎_elim
    (λ same. last (own (key_same y.key x.key same)))
    (λ other. Contains-append_left others (y ∷ []) x (kept (λ item. not (has_key y.key item)) items x old (ap not other)))
    (cases_Bool (has_key y.key x))) last h
put_step false items y x is alone own h = ⊎_elim (λ old. old) (λ same. older items y x (kept_at items y.key) refl is alone same) h

takes : (items : List Item) (y x : Item) → IsAlone items x → (y.key ≡ x.key → y ≡ x) → Contains items x ⊎ (y ≡ x) → Contains (taken items y) x
unfolding taken
takes items y x alone own h = put_step (is_newer y.version (kept_at items y.key)) items y x refl alone own h

-- an item whose key no other has is kept
pub holds : (items new : List Item) (x : Item) → IsAlone items x → IsAlone new x → Contains items x ⊎ Contains new x → Contains (taken_all items new) x
holds items [] x alone own h = ⊎_elim (λ old. old) (λ none. absurd (in_none x none)) h
holds items (y ∷ new) x alone own h =
    let first : Contains items x ⊎ (y ≡ x) → Contains (taken items y) x = takes items y x alone (own y (head y new)) in
    holds (taken items y) new x
    (λ z among same. ⊎_elim (λ old. alone z old same) (λ is. own z (subst (λ (w : Item). Contains (y ∷ new) w) is (head y new)) same) (from_taken items y z among))
    (λ z among same. own z (tail y new z among) same)
    (⊎_elim (λ old. inl (first (inl old))) (λ rest. ⊎_elim (λ is. inl (first (inr is))) (λ later. inr later) (cases y new x rest)) h)

-- One newer item

pub taken_new : (items : List Item) (x : Item) → is_newer x.version (kept_at items x.key) ≡ true → taken items x ≡ without x.key items ++ x ∷ []
unfolding taken
taken_new items x newer = rw newer refl

-- an edge is from another address
abbrev pub is_foreign : ℕ → Edge → Bool
is_foreign own e = not (e.from == own)

pub not_foreign : (own : ℕ) (e : Edge) → e.from ≡ own → is_foreign own e ≡ true → ⊥
not_foreign own e is test = both_ways (e.from == own) (not-true (e.from == own) test) (subst (λ (n : ℕ). (n == own) ≡ true) (sym is) (same_number own))
  where
    same_number : (n : ℕ) → (n == n) ≡ true
    same_number n = grind arith

module _ (own : ℕ) (items : List Item) (it : Item) (small : own < 2 ^ 32) (keys : (z : Item) → Contains items z → IsItemKey z.key) (key : it.key ≡ link_key own) (newer : is_newer it.version (kept_at items it.key) ≡ true) where
  abbrev claimed : List Edge
  claimed = filter (is_foreign own) (flat_map claims_of items) ++ claims_of it

  abbrev others : List Item
  others = without it.key items

  from_others : (z : Item) (e : Edge) → Contains others z → Contains (claims_of z) e → Contains claimed e
  from_others z e among has =
      let r = contains_filter (λ item. not (has_key it.key item)) items z among in
      let named = claimed_from z e (keys z r.0) has in
      let apart : e.from ≡ own → ⊥ = λ same. both_ways (has_key it.key z) (not-true (has_key it.key z) r.1) (key_itself it.key z.key (key ∙ ap (λ (a : ℕ). link_key a) (sym same) ∙ sym named.0)) in
      Contains-append_left (filter (is_foreign own) (flat_map claims_of items)) (claims_of it) e
      (kept (is_foreign own) (flat_map claims_of items) e (into_flat claims_of items z e r.0 has) (ap not (ne_eqb e.from own apart)))

  -- once a newer link state is kept, the items claim what it claims, and from other addresses what they claimed
  pub restated_within : Within (flat_map claims_of (taken items it)) claimed
  restated_within e h =
      let r = from_flat claims_of (taken items it) e h in
      let place : Contains (others ++ it ∷ []) r.0 = subst (λ (is : List Item). Contains is r.0) (taken_new items it newer) r.1 in
      ⊎_elim (λ old. from_others r.0 e old r.2)
      (λ same. Contains-append_right (filter (is_foreign own) (flat_map claims_of items)) (claims_of it) e (subst (λ (w : Item). Contains (claims_of w) e) (sym same) r.2))
      (Contains-push_cases others it r.0 place)

  into_taken : (z : Item) (e : Edge) → Contains (others ++ it ∷ []) z → Contains (claims_of z) e → Contains (flat_map claims_of (taken items it)) e
  into_taken z e among has = into_flat claims_of (taken items it) z e (subst (λ (is : List Item). Contains is z) (sym (taken_new items it newer)) among) has

  into_others : (z : Item) (e : Edge) → Contains items z → Contains (claims_of z) e → is_foreign own e ≡ true → Contains others z
  into_others z e among has foreign =
      let named = claimed_from z e (keys z among) has in
      let other : has_key it.key z ≡ true → ⊥ = λ same. not_foreign own e (sym (same_address own e.from small named.1 (sym key ∙ key_same it.key z.key same ∙ named.0))) foreign in
      ⊎_elim (λ same. absurd (other same)) (λ apart. kept (λ item. not (has_key it.key item)) items z among (ap not apart)) (cases_Bool (has_key it.key z))

  pub within_restated : Within claimed (flat_map claims_of (taken items it))
  within_restated e h = ⊎_elim
      (λ old. (
      let r = contains_filter (is_foreign own) (flat_map claims_of items) e old in
      let z = from_flat claims_of items e r.0 in
      into_taken z.0 e (Contains-append_left others (it ∷ []) z.0 (into_others z.0 e z.1 z.2 r.1)) z.2))
      (λ new. into_taken it e (Contains-push others it) new)
      (Contains-append_cases (filter (is_foreign own) (flat_map claims_of items)) (claims_of it) e h)
