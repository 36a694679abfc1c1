-- Which names lie under another.
use Rattle.std.proofs.Common.{◌≡◌, ℕ, ◌<◌, inl, inr, ⊎_elim, Bool, true, false, ◌&&◌, List, [], ◌∷◌, ◌++◌, length, drop, codes, filter, Contains, ◌↔◌, refl, sym, ap, subst, ◌∙◌, arith, length-append}
use Rattle.std.specs.Prelude.{nat_eq, nat_lt, nat_le, ◌==◌, slice_index}
use Rattle.std.specs.Str.{bytes_eq}
use Rattle.std.specs.List.{AllByRecursion, starts_with}
use Rattle.std.specs.Map.{keys_of}
use Rattle.std.proofs.lemmas.Bool.{both_ways, and_parts, and_from, or_cases, or_left, or_right, ltb-true, lt-ltb, lt-leb, eqb-true, eq-eqb, not-false}
use Rattle.std.proofs.lemmas.Bool.Decides.{Decides-eqb}
use Rattle.std.proofs.lemmas.Slice.Eq.{bytes_eq-Decides, starts_is}
use Rattle.std.proofs.lemmas.List.Elements.{Contains-append_left, Contains-append_right, Contains-push, Contains-push_cases, Contains-append_cases}
use Rattle.std.proofs.lemmas.Grind.{common_steps}
use Rattle.rina_base.specs.ObjectNames.{IsObjectName, is_object_name}
use Rattle.rina_rib.specs.declared.caller.Caller.TheVariants.{Cdap}
use Rattle.rina_rib.specs.Names.{is_below, is_within}
use Rattle.rina_rib.specs.Objects.{Named}
use Rattle.rina_rib.specs.Walks.{within}
use Rattle.rina_rib.specs.Rows.{is_foreign, is_outside}
use Rattle.rina_rib.specs.Laws.{LiesBelow, LiesAt}
use Rattle.rina_rib.proofs.Lookups.{split}

-- the byte behind a front
behind_front : (front : List ℕ) (b : ℕ) (rest : List ℕ) → slice_index (front ++ b ∷ rest) (length front) ≡ b
behind_front front b rest = grind (arith, common_steps)

by_rest : (folder name rest : List ℕ) → name ≡ folder ++ rest → length folder < length name → slice_index name (length folder) ≡ 47 → LiesBelow folder name
by_rest folder name [] is long at = absurd (omega (arith, ap (λ (xs : List ℕ). length xs) is, length-append folder [], long))
by_rest folder name (b ∷ rest) is long at =
    let slash : b ≡ 47 = sym (behind_front folder b rest) ∙ sym (ap (λ (xs : List ℕ). slice_index xs (length folder)) is) ∙ at in
    (rest, is ∙ ap (λ (x : ℕ). folder ++ x ∷ rest) slash)

pub below_lies : (folder name : List ℕ) → 1 < length folder → is_below folder name ≡ true → LiesBelow folder name
unfolding is_below
below_lies folder name long h =
    let none : nat_le (length folder) 1 ≡ false = lt-leb (length folder) 1 long in
    let all : (nat_lt (length folder) (length name) && starts_with nat_eq name folder && (slice_index name (length folder) == 47)) ≡ true = rw none at h in
    let p = and_parts (nat_lt (length folder) (length name) && starts_with nat_eq name folder) (slice_index name (length folder) == 47) all in
    let q = and_parts (nat_lt (length folder) (length name)) (starts_with nat_eq name folder) p.0 in
    let is : name ≡ folder ++ drop (length folder) name = (starts_is Decides-eqb name folder (starts_with nat_eq name folder) refl).0 q.1 in
    by_rest folder name (drop (length folder) name) is (ltb-true (length folder) (length name) q.0) (eqb-true (slice_index name (length folder)) 47 p.1)

pub lies_below : (folder name : List ℕ) → 1 < length folder → LiesBelow folder name → is_below folder name ≡ true
unfolding is_below
lies_below folder name long h =
    let none : nat_le (length folder) 1 ≡ false = lt-leb (length folder) 1 long in
    let far : length folder < length name = omega (arith, ap (λ (xs : List ℕ). length xs) h.1, length-append folder (47 ∷ h.0)) in
    let longer : nat_lt (length folder) (length name) ≡ true = lt-ltb (length folder) (length name) far in
    let begins : starts_with nat_eq name folder ≡ true = (starts_is Decides-eqb name folder (starts_with nat_eq name folder) refl).1 (47 ∷ h.0) h.1 in
    let slash : (slice_index name (length folder) == 47) ≡ true = eq-eqb (slice_index name (length folder)) 47 (ap (λ (xs : List ℕ). slice_index xs (length folder)) h.1 ∙ behind_front folder 47 h.0) in
    rw none (and_from (nat_lt (length folder) (length name) && starts_with nat_eq name folder) (slice_index name (length folder) == 47) (and_from (nat_lt (length folder) (length name)) (starts_with nat_eq name folder) longer begins) slash)

pub within_lies : (under name : List ℕ) → 1 < length under → is_within under name ≡ true → LiesAt under name
unfolding is_within
within_lies under name long h = ⊎_elim (λ same. inl ((bytes_eq-Decides name under).0 same)) (λ below. inr (below_lies under name long below)) (or_cases (bytes_eq name under) (is_below under name) h)

pub lies_within : (under name : List ℕ) → 1 < length under → LiesAt under name → is_within under name ≡ true
unfolding is_within
lies_within under name long h = ⊎_elim (λ same. or_left (bytes_eq name under) (is_below under name) ((bytes_eq-Decides name under).1 same)) (λ below. or_right (bytes_eq name under) (is_below under name) (lies_below under name long below)) h

-- ---- what CDAP may do
user_long : 1 < length (codes "/user")
user_long = omega arith

pub made_below_user : (name : List ℕ) → is_foreign Cdap name ≡ false → LiesBelow (codes "/user") name
unfolding is_foreign
made_below_user name h = below_lies (codes "/user") name user_long (not-false (is_below (codes "/user") name) h)

pub changed_at_user : (name : List ℕ) → is_outside Cdap name ≡ false → LiesAt (codes "/user") name
unfolding is_outside
changed_at_user name h = within_lies (codes "/user") name user_long (not-false (is_within (codes "/user") name) h)

-- ---- what a walk passes
kept_among : (p : Named → Bool) (xs : List Named) (x : Named) → Contains (filter p xs) x → Contains xs x × (p x ≡ true)
kept_among p [] x h = absurd (omega (arith, h.1))
kept_among p (y ∷ xs) x h =
    let later : Contains (filter p xs) x → Contains (y ∷ xs) x × (p x ≡ true) = λ among.
    let rest : Contains xs x × (p x ≡ true) = kept_among p xs x among in
    (Contains-append_right (y ∷ []) xs x rest.0, rest.1) in
    split (p y) (λ yes.
    let h' : Contains (y ∷ filter p xs) x = rw yes at h in
    ⊎_elim (λ one. ⊎_elim (λ none. absurd (omega (arith, none.1))) (λ same.
    (subst (λ (z : Named). Contains (y ∷ xs) z) same (Contains-append_left (y ∷ []) xs y (Contains-push [] y)), subst (λ (z : Named). p z ≡ true) same yes)) (Contains-push_cases [] y x one)) later (Contains-append_cases (y ∷ []) (filter p xs) x h')) (λ no. later (rw no at h))

among_kept : (p : Named → Bool) (xs : List Named) (x : Named) → p x ≡ true → Contains xs x → Contains (filter p xs) x
among_kept p [] x has h = absurd (omega (arith, h.1))
among_kept p (y ∷ xs) x has h =
    ⊎_elim (λ one. ⊎_elim (λ none. absurd (omega (arith, none.1))) (λ same.
    let yes : p y ≡ true = subst (λ (z : Named). p z ≡ true) (sym same) has in
    rw yes (subst (λ (z : Named). Contains (y ∷ filter p xs) z) same (Contains-append_left (y ∷ []) (filter p xs) y (Contains-push [] y)))) (Contains-push_cases [] y x one)) (λ rest.
    let among : Contains (filter p xs) x = among_kept p xs x has rest in
    split (p y) (λ yes. rw yes (Contains-append_right (y ∷ []) (filter p xs) x among)) (λ no. rw no among)) (Contains-append_cases (y ∷ []) xs x h)

abbrev under_test : List ℕ → Named → Bool
under_test under e = is_within under e.0

pub walk_under : (under : List ℕ) (objects : List Named) (x : Named) → 1 < length under → Contains (within under objects) x ↔ (Contains objects x × LiesAt under x.0)
walk_under under objects x long = (
  λ h. let k : Contains objects x × (under_test under x ≡ true) = kept_among (under_test under) objects x h in (k.0, within_lies under x.0 long k.1),
  λ h. among_kept (under_test under) objects x (lies_within under x.0 long h.1) h.0,
)

-- all names lie at or under the root
pub root_within : (name : List ℕ) → IsObjectName name → is_within (codes "/") name ≡ true
unfolding is_within is_below is_object_name
root_within [] h = absurd (both_ways false refl h)
root_within (b ∷ []) h =
    let p = and_parts (b == 47) true h in
    let root : b ∷ [] ≡ codes "/" = ap (λ (x : ℕ). x ∷ []) (eqb-true b 47 p.0) in
    or_left (bytes_eq (b ∷ []) (codes "/")) (nat_lt 1 (length (b ∷ []))) ((bytes_eq-Decides (b ∷ []) (codes "/")).1 root)
root_within (b ∷ d ∷ name) h = or_right (bytes_eq (b ∷ d ∷ name) (codes "/")) (nat_lt 1 (length (b ∷ d ∷ name))) (lt-ltb 1 (length (b ∷ d ∷ name)) (omega arith))

pub walk_root : (objects : List Named) → AllByRecursion (λ (name : List ℕ). IsObjectName name) (keys_of objects) → within (codes "/") objects ≡ objects
walk_root [] h = refl
walk_root (e ∷ objects) h = rw (root_within e.0 h.0) (ap (λ (xs : List Named). e ∷ xs) (walk_root objects h.1))
