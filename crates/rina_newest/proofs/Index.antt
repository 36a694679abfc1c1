-- The index of the items: what it finds, and what stays of it when an item is put or taken out.
use Rattle.std.proofs.Common.{◌≡◌, ℕ, ◌<◌, Bool, true, false, List, [], ◌∷◌, Option, Some, None, MatchOption, refl, sym, ap, ◌∙◌, subst, arith}
use Rattle.std.specs.Str.{bytes_eq}
use Rattle.std.specs.List.{AllByRecursion}
use Rattle.std.specs.Map.{lookup, remove_entry, values_of, keys_of}
use Rattle.std.specs.Ordering.{nat_cmp}
use Rattle.std.specs.declared.cmp.Ordering.TheVariants.{Less}
use Rattle.std.specs.BTreeMap.{is_at}
use Rattle.std.specs.List.Sorted.{IsStrictlySortedBy}
use Rattle.std.proofs.lemmas.Bool.{both_ways}
use Rattle.std.proofs.lemmas.Slice.Eq.{bytes_eq-Decides}
use Rattle.std.proofs.lemmas.Map.Keys.{sorted_head, sorted_tail}
use Rattle.std.proofs.lemmas.Grind.{common_steps}
use Rattle.rina_newest.specs.declared.item.Item.{Item}
use Rattle.rina_newest.specs.Newest.{has_key, kept_at, without, IsIndexed}

abbrev pub Numbered : Type 0
Numbered = ℕ × Item

abbrev pub at : ℕ → ℕ → Bool
at s k = is_at (nat_cmp s) k

pub split : {G : Type 0} (b : Bool) → (b ≡ true → G) → (b ≡ false → G) → G
split true pass fail = pass refl
split false pass fail = fail refl

pub at_same : (s k : ℕ) → at s k ≡ true → s ≡ k
at_same s k h = grind (arith, common_steps, h)

pub at_itself : (s k : ℕ) → s ≡ k → at s k ≡ true
at_itself s k h = grind (arith, common_steps, h)

pub key_same : (p q : List ℕ) → bytes_eq p q ≡ true → p ≡ q
key_same p q = (bytes_eq-Decides p q).0

pub key_itself : (p q : List ℕ) → p ≡ q → bytes_eq p q ≡ true
key_itself p q = (bytes_eq-Decides p q).1

pub Some_same : {X : Type 0} (x y : X) → Some x ≡ Some y → x ≡ y
Some_same x y h = grind (arith, h)

-- a list in order stays so without its second
pub skips : (s k : ℕ) (ks : List ℕ) → IsStrictlySortedBy nat_cmp (s ∷ k ∷ ks) → IsStrictlySortedBy nat_cmp (s ∷ ks)
unfolding IsStrictlySortedBy
skips s k ks h = (h.0.1, h.1.1)

module _ (place : List ℕ → Option ℕ) where
  abbrev pub Placed : List Numbered → Type 0
  Placed es = AllByRecursion (λ (e : Numbered). place e.1.key ≡ Some e.0) es

  -- a key without a place is on no item
  pub finds_none : (q : List ℕ) (es : List Numbered) → Placed es → place q ≡ None → kept_at (values_of es) q ≡ None
  finds_none q [] h none = refl
  finds_none q (e ∷ es) h none =
      split (has_key q e.1) (λ yes. absurd (grind (arith, h.0, ap place (key_same q e.1.key yes), none))) (λ no. rw no (finds_none q es h.1 none))

  -- the item of a key is the one at its place
  pub finds_some : (q : List ℕ) (s : ℕ) (item : Item) (es : List Numbered) → Placed es → place q ≡ Some s → lookup (at s) es ≡ Some item → has_key q item ≡ true → kept_at (values_of es) q ≡ Some item
  finds_some q s item [] h here found has = absurd (grind (arith, found))
  finds_some q s item (e ∷ es) h here found has =
      let same : at s e.0 ≡ true → e.1 ≡ item = λ yes. Some_same e.1 item (grind (arith, found, yes)) in
      split (has_key q e.1) (λ yes.
      let s_is : s ≡ e.0 = Some_same s e.0 (sym here ∙ ap place (key_same q e.1.key yes) ∙ h.0) in
      rw yes (ap Some (same (at_itself s e.0 s_is)))) (λ no.
      split (at s e.0) (λ yes. absurd (both_ways (has_key q e.1) no (rw (same yes) has))) (λ apart.
      let later : lookup (at s) es ≡ Some item = grind (arith, found, apart) in
      rw no (finds_some q s item es h.1 here later has)))

  -- without the item at a key's place no item has the key
  others : (q : List ℕ) (s : ℕ) (x : Item) (es : List Numbered) → Placed es → place q ≡ Some s → IsStrictlySortedBy nat_cmp (keys_of ((s, x) ∷ es)) → without q (values_of es) ≡ values_of es
  others q s x [] h here sorted = refl
  others q s x (e ∷ es) h here sorted =
      let above : nat_cmp s e.0 ≡ Less = (sorted_head nat_cmp s (keys_of (e ∷ es)) sorted).0 in
      let rest : IsStrictlySortedBy nat_cmp (keys_of ((s, x) ∷ es)) = skips s e.0 (keys_of es) sorted in
      split (has_key q e.1) (λ yes.
      let s_is : s ≡ e.0 = Some_same s e.0 (sym here ∙ ap place (key_same q e.1.key yes) ∙ h.0) in
      absurd (grind (arith, common_steps, above, s_is))) (λ no. rw no (ap (λ ys. e.1 ∷ ys) (others q s x es h.1 here rest)))

  -- taking out the item at a key's place leaves the items without that key
  pub removes : (q : List ℕ) (s : ℕ) (item : Item) (es : List Numbered) → Placed es → place q ≡ Some s → lookup (at s) es ≡ Some item → has_key q item ≡ true → IsStrictlySortedBy nat_cmp (keys_of es)
      → values_of (remove_entry (at s) es) ≡ without q (values_of es)
  removes q s item [] h here found has sorted = absurd (grind (arith, found))
  removes q s item (e ∷ es) h here found has sorted =
      let same : at s e.0 ≡ true → e.1 ≡ item = λ yes. Some_same e.1 item (grind (arith, found, yes)) in
      split (at s e.0) (λ yes.
      let s_is : s ≡ e.0 = at_same s e.0 yes in
      let sorted' : IsStrictlySortedBy nat_cmp (keys_of ((s, e.1) ∷ es)) = subst (λ (k : ℕ). IsStrictlySortedBy nat_cmp (keys_of ((k, e.1) ∷ es))) (sym s_is) sorted in
      let has' : has_key q e.1 ≡ true = rw (same yes) has in
      rw (yes, has') (sym (others q s e.1 es h.1 here sorted'))) (λ apart.
      let later : lookup (at s) es ≡ Some item = grind (arith, found, apart) in
      let lacks : has_key q e.1 ≡ true → ⊥ = λ yes. both_ways (at s e.0) apart (at_itself s e.0 (Some_same s e.0 (sym here ∙ ap place (key_same q e.1.key yes) ∙ h.0))) in
      split (has_key q e.1) (λ yes. absurd (lacks yes)) (λ no.
      rw (apart, no) (ap (λ ys. e.1 ∷ ys) (removes q s item es h.1 here later has (sorted_tail nat_cmp e.0 (keys_of es) sorted)))))

  -- a key without a place leaves all items
  pub removes_none : (q : List ℕ) (es : List Numbered) → Placed es → place q ≡ None → without q (values_of es) ≡ values_of es
  removes_none q [] h none = refl
  removes_none q (e ∷ es) h none =
      split (has_key q e.1) (λ yes. absurd (grind (arith, h.0, ap place (key_same q e.1.key yes), none))) (λ no. rw no (ap (λ ys. e.1 ∷ ys) (removes_none q es h.1 none)))

abbrev pub Below : ℕ → List Numbered → Type 0
Below next es = AllByRecursion (λ (e : Numbered). e.0 < next) es

finds_by : (place : List ℕ → Option ℕ) (es : List Numbered) (q : List ℕ) (s : ℕ) → Placed place es → place q ≡ Some s → (found : Option Item) → lookup (at s) es ≡ found → MatchOption found ⊥ (λ item. has_key q item ≡ true) → lookup (at s) es ≡ kept_at (values_of es) q
finds_by place es q s placed here None is none = absurd none
finds_by place es q s placed here (Some item) is has = is ∙ sym (finds_some place q s item es placed here is has)

-- what the entries have at a key's place is the kept item
pub place_finds : (place : List ℕ → Option ℕ) (es : List Numbered) (next : ℕ) → IsIndexed place es next → (q : List ℕ) (s : ℕ) → place q ≡ Some s → lookup (at s) es ≡ kept_at (values_of es) q
place_finds place es next ix q s here = finds_by place es q s (ix.placed) here (lookup (at s) es) refl (ix.found q s here)

-- no items
pub empty_index : (place : List ℕ → Option ℕ) (es : List Numbered) (next : ℕ) → ((q : List ℕ) → place q ≡ None) → es ≡ [] → IsIndexed place es next
unfolding IsStrictlySortedBy
empty_index place es next none is = rw is record {
  placed = tt;
  found = λ q s here. absurd (grind (arith, none q, here));
  below = tt;
  rising = tt;
}
