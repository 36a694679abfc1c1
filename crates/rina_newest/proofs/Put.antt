-- An item that is put in the place of the one of its key: the index afterwards.
use Rattle.std.proofs.Common.{◌≡◌, ℕ, ◌+◌, ◌<◌, Bool, true, false, cond, List, [], ◌∷◌, ◌++◌, Option, Some, None, MatchOption, refl, sym, ap, ◌∙◌, subst, arith}
use Rattle.std.specs.Str.{bytes_eq}
use Rattle.std.specs.List.{AllByRecursion}
use Rattle.std.specs.Map.{lookup, remove_entry, values_of, keys_of}
use Rattle.std.specs.Ordering.{nat_cmp}
use Rattle.std.specs.declared.cmp.Ordering.TheVariants.{Less}
use Rattle.std.specs.List.Sorted.{IsStrictlySortedBy}
use Rattle.std.proofs.lemmas.Bool.{both_ways}
use Rattle.std.proofs.lemmas.Map.Keys.{sorted_head, sorted_tail}
use Rattle.std.proofs.lemmas.Grind.{common_steps}
use Rattle.rina_newest.specs.declared.item.Item.{Item}
use Rattle.rina_newest.specs.Newest.{has_key, without, IsIndexed}
use Rattle.rina_newest.proofs.Index.{Numbered, at, split, at_same, at_itself, key_same, key_itself, Some_same, skips, Placed, Below, removes, removes_none}

has_by : (key : List ℕ) (old : Item) (found : Option Item) → MatchOption found ⊥ (λ item. has_key key item ≡ true) → found ≡ Some old → has_key key old ≡ true
has_by key old None none is = absurd none
has_by key old (Some item) has is = rw (sym (Some_same item old is)) has

has_at : (key : List ℕ) (s : ℕ) (es : List Numbered) (old : Item) → MatchOption (lookup (at s) es) ⊥ (λ item. has_key key item ≡ true) → lookup (at s) es ≡ Some old → has_key key old ≡ true
has_at key s es old has is = has_by key old (lookup (at s) es) has is

removes_found : (place : List ℕ → Option ℕ) (es : List Numbered) (key : List ℕ) (s : ℕ) (found : Option Item) → Placed place es → place key ≡ Some s → lookup (at s) es ≡ found → MatchOption found ⊥ (λ item. has_key key item ≡ true) → IsStrictlySortedBy nat_cmp (keys_of es)
    → values_of (remove_entry (at s) es) ≡ without key (values_of es)
removes_found place es key s None placed here is none sorted = absurd none
removes_found place es key s (Some item) placed here is has sorted = removes place key s item es placed here is has sorted

-- ---- lists of entries
all_push : (P : Numbered → Type 0) (es : List Numbered) (e : Numbered) → AllByRecursion P es → P e → AllByRecursion P (es ++ e ∷ [])
all_push P [] e h p = (p, tt)
all_push P (x ∷ es) e h p = (h.0, all_push P es e h.1 p)

all_more : (P Q : Numbered → Type 0) → ((e : Numbered) → P e → Q e) → (es : List Numbered) → AllByRecursion P es → AllByRecursion Q es
all_more P Q f [] h = tt
all_more P Q f (x ∷ es) h = (f x h.0, all_more P Q f es h.1)

all_removed : (P : Numbered → Type 0) (test : ℕ → Bool) (es : List Numbered) → AllByRecursion P es → AllByRecursion P (remove_entry test es)
all_removed P test [] h = tt
all_removed P test (e ∷ es) h = split (test e.0) (λ yes. rw yes h.1) (λ no. rw no (h.0, all_removed P test es h.1))

all_less_push : (s next : ℕ) (item : Item) (es : List Numbered) → s < next → AllByRecursion (λ y. nat_cmp s y ≡ Less) (keys_of es) → AllByRecursion (λ y. nat_cmp s y ≡ Less) (keys_of (es ++ (next, item) ∷ []))
all_less_push s next item [] below h = (grind (arith, common_steps, below), tt)
all_less_push s next item (e ∷ es) below h = (h.0, all_less_push s next item es below h.1)

-- the numbers rise with a greater one at the end
pub rising_push : (next : ℕ) (item : Item) (es : List Numbered) → Below next es → IsStrictlySortedBy nat_cmp (keys_of es) → IsStrictlySortedBy nat_cmp (keys_of (es ++ (next, item) ∷ []))
unfolding IsStrictlySortedBy
rising_push next item [] below h = (tt, tt)
rising_push next item (e ∷ es) below h = (all_less_push e.0 next item es below.0 h.0, rising_push next item es below.1 h.1)

all_less_removed : (s : ℕ) (test : ℕ → Bool) (es : List Numbered) → AllByRecursion (λ y. nat_cmp s y ≡ Less) (keys_of es) → AllByRecursion (λ y. nat_cmp s y ≡ Less) (keys_of (remove_entry test es))
all_less_removed s test [] h = tt
all_less_removed s test (e ∷ es) h = split (test e.0) (λ yes. rw yes h.1) (λ no. rw no (h.0, all_less_removed s test es h.1))

-- and without one of them
rising_removed : (test : ℕ → Bool) (es : List Numbered) → IsStrictlySortedBy nat_cmp (keys_of es) → IsStrictlySortedBy nat_cmp (keys_of (remove_entry test es))
unfolding IsStrictlySortedBy
rising_removed test [] h = h
rising_removed test (e ∷ es) h = split (test e.0) (λ yes. rw yes h.1) (λ no. rw no (all_less_removed e.0 test es h.0, rising_removed test es h.1))

lookup_front : (test : ℕ → Bool) (es ys : List Numbered) (item : Item) → lookup test es ≡ Some item → lookup test (es ++ ys) ≡ Some item
lookup_front test [] ys item h = absurd (grind (arith, h))
lookup_front test (e ∷ es) ys item h = split (test e.0) (λ yes. rw yes (grind (arith, h, yes))) (λ no. rw no (lookup_front test es ys item (grind (arith, h, no))))

lookup_last : (next : ℕ) (item : Item) (es : List Numbered) → Below next es → lookup (at next) (es ++ (next, item) ∷ []) ≡ Some item
lookup_last next item [] h = rw (at_itself next next refl) refl
lookup_last next item (e ∷ es) h = split (at next e.0) (λ yes. absurd (omega (arith, at_same next e.0 yes, h.0))) (λ no. rw no (lookup_last next item es h.1))

lookup_removed : (s t : ℕ) (es : List Numbered) → (s ≡ t → ⊥) → lookup (at t) (remove_entry (at s) es) ≡ lookup (at t) es
lookup_removed s t [] apart = refl
lookup_removed s t (e ∷ es) apart =
    split (at s e.0) (λ yes.
    split (at t e.0) (λ too. absurd (apart (at_same s e.0 yes ∙ sym (at_same t e.0 too)))) (λ no. rw (yes, no) refl)) (λ no.
    rw no (ap (λ (o : Option Item). cond (at t e.0) (Some e.1) o) (lookup_removed s t es apart)))

removed_front : (test : ℕ → Bool) (es ys : List Numbered) (item : Item) → lookup test es ≡ Some item → remove_entry test (es ++ ys) ≡ remove_entry test es ++ ys
removed_front test [] ys item h = absurd (grind (arith, h))
removed_front test (e ∷ es) ys item h = split (test e.0) (λ yes. rw yes refl) (λ no. rw no (ap (λ zs. e ∷ zs) (removed_front test es ys item (grind (arith, h, no)))))

values_push : (es : List Numbered) (next : ℕ) (item : Item) → values_of (es ++ (next, item) ∷ []) ≡ values_of es ++ item ∷ []
values_push [] next item = refl
values_push (e ∷ es) next item = ap (λ zs. e.1 ∷ zs) (values_push es next item)

abbrev Lacks : List ℕ → List Numbered → Type 0
Lacks q es = AllByRecursion (λ (e : Numbered). has_key q e.1 ≡ false) es

module _ (place : List ℕ → Option ℕ) where
  lacks_none : (q : List ℕ) (es : List Numbered) → Placed place es → place q ≡ None → Lacks q es
  lacks_none q [] h none = tt
  lacks_none q (e ∷ es) h none =
      (split (has_key q e.1) (λ yes. absurd (grind (arith, h.0, ap place (key_same q e.1.key yes), none))) (λ no. no), lacks_none q es h.1 none)

  lacks_past : (q : List ℕ) (s : ℕ) (x : Item) (es : List Numbered) → Placed place es → place q ≡ Some s → IsStrictlySortedBy nat_cmp (keys_of ((s, x) ∷ es)) → Lacks q es
  lacks_past q s x [] h here sorted = tt
  lacks_past q s x (e ∷ es) h here sorted =
      let above : nat_cmp s e.0 ≡ Less = (sorted_head nat_cmp s (keys_of (e ∷ es)) sorted).0 in (
        split (has_key q e.1) (λ yes.
            let s_is : s ≡ e.0 = Some_same s e.0 (sym here ∙ ap place (key_same q e.1.key yes) ∙ h.0) in
            absurd (grind (arith, common_steps, above, s_is))) (λ no. no),
        lacks_past q s x es h.1 here (skips s e.0 (keys_of es) sorted),
      )

  -- without the entry at a key's place no entry has the key
  lacks_removed : (q : List ℕ) (s : ℕ) (es : List Numbered) → Placed place es → place q ≡ Some s → IsStrictlySortedBy nat_cmp (keys_of es) → Lacks q (remove_entry (at s) es)
  lacks_removed q s [] h here sorted = tt
  lacks_removed q s (e ∷ es) h here sorted =
      split (at s e.0) (λ yes.
      let s_is : s ≡ e.0 = at_same s e.0 yes in
      let sorted' : IsStrictlySortedBy nat_cmp (keys_of ((s, e.1) ∷ es)) = subst (λ (k : ℕ). IsStrictlySortedBy nat_cmp (keys_of ((k, e.1) ∷ es))) (sym s_is) sorted in
      rw yes (lacks_past q s e.1 es h.1 here sorted')) (λ no.
      let lacks : has_key q e.1 ≡ false = split (has_key q e.1) (λ yes. absurd (both_ways (at s e.0) no (at_itself s e.0 (Some_same s e.0 (sym here ∙ ap place (key_same q e.1.key yes) ∙ h.0))))) (λ lack. lack) in
      rw no (lacks, lacks_removed q s es h.1 here (sorted_tail nat_cmp e.0 (keys_of es) sorted)))

-- the places after a key was given a new one
abbrev pub Moves : (List ℕ → Option ℕ) → (List ℕ → Option ℕ) → List ℕ → ℕ → Type 0
Moves place place' key next = (q : List ℕ) → place' q ≡ cond (bytes_eq key q) (Some next) (place q)

removed_by : (es : List Numbered) (next : ℕ) (item : Item) (s : ℕ) (key : List ℕ) (found : Option Item) → lookup (at s) es ≡ found → MatchOption found ⊥ (λ item. has_key key item ≡ true) → remove_entry (at s) (es ++ (next, item) ∷ []) ≡ remove_entry (at s) es ++ (next, item) ∷ []
removed_by es next item s key None is none = absurd none
removed_by es next item s key (Some old) is has = removed_front (at s) es ((next, item) ∷ []) old is

-- entries keep the items of the other keys
abbrev Keeps : (List ℕ → Option ℕ) → List ℕ → List Numbered → List Numbered → Type 0
Keeps place key es kept = (q : List ℕ) (t : ℕ) (old : Item) → bytes_eq key q ≡ false → place q ≡ Some t → lookup (at t) es ≡ Some old → has_key q old ≡ true → lookup (at t) kept ≡ Some old

later : (q : List ℕ) (t next : ℕ) (item : Item) (kept : List Numbered) (found : Option Item) → MatchOption found ⊥ (λ old. has_key q old ≡ true) → ((old : Item) → found ≡ Some old → has_key q old ≡ true → lookup (at t) kept ≡ Some old)
    → MatchOption (lookup (at t) (kept ++ (next, item) ∷ [])) ⊥ (λ old. has_key q old ≡ true)
later q t next item kept None none keeps = absurd none
later q t next item kept (Some old) has keeps = rw (lookup_front (at t) kept ((next, item) ∷ []) old (keeps old refl has)) has

module _ (place place' : List ℕ → Option ℕ) (key : List ℕ) (next : ℕ) (moves : Moves place place' key next) where
  placed_moved : (es : List Numbered) → Placed place es → Lacks key es → Placed place' es
  placed_moved [] h lacks = tt
  placed_moved (e ∷ es) h lacks = (moves e.1.key ∙ rw lacks.0 h.0, placed_moved es h.1 lacks.1)

  found_last : (es kept : List Numbered) (item : Item) → item.key ≡ key → IsIndexed place es next → Below next kept → Keeps place key es kept
      → (q : List ℕ) (t : ℕ) → place' q ≡ Some t → MatchOption (lookup (at t) (kept ++ (next, item) ∷ [])) ⊥ (λ old. has_key q old ≡ true)
  found_last es kept item key_is ix below keeps q t here =
      split (bytes_eq key q) (λ yes.
      let t_is : t ≡ next = Some_same t next (sym here ∙ moves q ∙ rw yes refl) in
      let finds : lookup (at t) (kept ++ (next, item) ∷ []) ≡ Some item = rw t_is (lookup_last next item kept below) in
      rw finds (key_itself q item.key (sym (key_same key q yes) ∙ sym key_is))) (λ no.
      let before : place q ≡ Some t = sym (sym here ∙ moves q ∙ rw no refl) in
      later q t next item kept (lookup (at t) es) (ix.found q t before) (λ old is has. keeps q t old no before is has))

  -- the index with the item at the end of entries that lack its key
  put_last : (es kept : List Numbered) (item : Item) → item.key ≡ key → IsIndexed place es next → Placed place kept → Below next kept → IsStrictlySortedBy nat_cmp (keys_of kept) → Lacks key kept → Keeps place key es kept
      → IsIndexed place' (kept ++ (next, item) ∷ []) (next + 1)
  put_last es kept item key_is ix placed below rising lacks keeps =
      let is_placed : Placed place' (kept ++ (next, item) ∷ []) = all_push (λ (e : Numbered). place' e.1.key ≡ Some e.0) kept (next, item) (placed_moved kept placed lacks) (moves item.key ∙ rw (key_itself key item.key (sym key_is)) refl) in
      let is_below : Below (next + 1) (kept ++ (next, item) ∷ []) = all_push (λ (e : Numbered). e.0 < next + 1) kept (next, item) (all_more (λ (e : Numbered). e.0 < next) (λ (e : Numbered). e.0 < next + 1) (λ e h. omega (arith, h)) kept below) (omega arith) in
      record { placed = is_placed; found = found_last es kept item key_is ix below keeps; below = is_below; rising = rising_push next item kept below rising }

  -- a key that has no item yet
  pub put_new : (es : List Numbered) (item : Item) → item.key ≡ key → IsIndexed place es next → place key ≡ None → IsIndexed place' (es ++ (next, item) ∷ []) (next + 1)
  put_new es item key_is ix none = put_last es es item key_is ix ix.placed ix.below ix.rising (lacks_none place key es ix.placed none) (λ q t old no before is has. is)

  -- a key that has an item: its entry is taken out
  pub put_again : (es : List Numbered) (item : Item) (s : ℕ) → item.key ≡ key → IsIndexed place es next → place key ≡ Some s → IsIndexed place' (remove_entry (at s) es ++ (next, item) ∷ []) (next + 1)
  put_again es item s key_is ix here =
      put_last es (remove_entry (at s) es) item key_is ix (all_removed (λ (e : Numbered). place e.1.key ≡ Some e.0) (at s) es ix.placed) (all_removed (λ (e : Numbered). e.0 < next) (at s) es ix.below) (rising_removed (at s) es ix.rising) (lacks_removed place key s es ix.placed here ix.rising)
      (λ q t old no before is has.
      let apart : s ≡ t → ⊥ = λ same.
      let has' : has_key key old ≡ true = has_at key s es old (ix.found key s here) (rw same is) in
      both_ways (bytes_eq key q) no (key_itself key q (key_same key old.key has' ∙ sym (key_same q old.key has))) in
      lookup_removed s t es apart ∙ is)

-- the items after one was put at the end, where its key has none
pub values_new : (place : List ℕ → Option ℕ) (es : List Numbered) (next : ℕ) (key : List ℕ) (item : Item) → Placed place es → place key ≡ None → values_of (es ++ (next, item) ∷ []) ≡ without key (values_of es) ++ item ∷ []
values_new place es next key item placed none = values_push es next item ∙ ap (λ xs. xs ++ item ∷ []) (sym (removes_none place key es placed none))

-- and where it has one
pub values_again : (place : List ℕ → Option ℕ) (es : List Numbered) (next : ℕ) (key : List ℕ) (item : Item) (s : ℕ) → IsIndexed place es next → place key ≡ Some s
    → values_of (remove_entry (at s) es ++ (next, item) ∷ []) ≡ without key (values_of es) ++ item ∷ []
values_again place es next key item s ix here =
    let gone : values_of (remove_entry (at s) es) ≡ without key (values_of es) = removes_found place es key s (lookup (at s) es) ix.placed here refl (ix.found key s here) ix.rising in
    values_push (remove_entry (at s) es) next item ∙ ap (λ xs. xs ++ item ∷ []) gone

-- taking out the entry at a key's place, before or after one was put at the end
pub removed_behind : (place : List ℕ → Option ℕ) (es : List Numbered) (next : ℕ) (key : List ℕ) (item : Item) (s : ℕ) → IsIndexed place es next → place key ≡ Some s → remove_entry (at s) (es ++ (next, item) ∷ []) ≡ remove_entry (at s) es ++ (next, item) ∷ []
removed_behind place es next key item s ix here = removed_by es next item s key (lookup (at s) es) refl (ix.found key s here)
