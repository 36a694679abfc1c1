-- What a change of one object leaves of each name.
use Rattle.std.proofs.Common.{◌≡◌, ℕ, Bool, true, false, cond, List, [], ◌∷◌, Option, Some, None, refl, sym, ap, subst, ◌∙◌, arith}
use Rattle.std.specs.declared.cmp.Ordering.{Ordering}
use Rattle.std.specs.declared.cmp.Ordering.TheVariants.{Less, Equal, Greater}
use Rattle.std.specs.Ordering.{is_eq}
use Rattle.std.specs.BTreeMap.{is_at}
use Rattle.std.specs.List.{AllByRecursion}
use Rattle.std.specs.List.Sorted.{IsStrictlySortedBy}
use Rattle.std.specs.Map.{keys_of}
use Rattle.std.proofs.lemmas.Bool.{both_ways, false_from_ne_true}
use Rattle.std.proofs.lemmas.Cmp.{nat_list_cmp_total, tied_itself}
use Rattle.std.proofs.lemmas.Map.Lookups.{exact_bytes}
use Rattle.rina_rib.specs.Things.{Thing}
use Rattle.rina_rib.specs.Objects.{Named, name_cmp, object_at, with_object, without_object, changed_object, AreInOrder}

pub split : {G : Type 0} (b : Bool) → (b ≡ true → G) → (b ≡ false → G) → G
split true pass fail = pass refl
split false pass fail = fail refl

pub by_order : {G : Type 0} (o : Ordering) → (o ≡ Less → G) → (o ≡ Equal → G) → (o ≡ Greater → G) → G
by_order Less less same more = less refl
by_order Equal less same more = same refl
by_order Greater less same more = more refl

abbrev pub at : List ℕ → List ℕ → Bool
at name k = is_at (name_cmp name) k

abbrev pub there : Thing → Option Thing
there o = Some o

abbrev pub absent : Option Thing
absent = None

is_equal : (o : Ordering) → is_eq o ≡ true → o ≡ Equal
is_equal Less h = absurd (both_ways false refl h)
is_equal Equal h = refl
is_equal Greater h = absurd (both_ways false refl h)

pub at_same : (name k : List ℕ) → at name k ≡ true → name ≡ k
at_same name k h = exact_bytes name k (is_equal (name_cmp name k) h)

pub at_itself : (name : List ℕ) → at name name ≡ true
at_itself name = ap (λ (o : Ordering). is_eq o) (tied_itself nat_list_cmp_total name)

pub at_other : (name k : List ℕ) → (name ≡ k → ⊥) → at name k ≡ false
at_other name k apart = false_from_ne_true (at name k) (λ h. apart (at_same name k h))

pub nothing : {G : Type 0} (o : Thing) → absent ≡ there o → G
nothing o h = absurd (grind (arith, h))

pub same_thing : (o p : Thing) → there o ≡ there p → o ≡ p
same_thing o p h = grind (arith, h)

-- ---- one more object
pub with_other : (es : List Named) (k q : List ℕ) (t : Thing) → (q ≡ k → ⊥) → object_at (with_object es k t) q ≡ object_at es q
with_other [] k q t apart = rw (at_other q k apart) refl
with_other (e ∷ es) k q t apart =
    by_order (name_cmp k e.0) (λ less. rw (less, at_other q k apart) refl) (λ same.
    let k_is : k ≡ e.0 = exact_bytes k e.0 same in
    rw (same, at_other q e.0 (λ is. apart (is ∙ sym k_is))) refl) (λ more.
    rw more (ap (λ (o : Option Thing). cond (at q e.0) (Some e.1) o) (with_other es k q t apart)))

pub with_same : (es : List Named) (k : List ℕ) (t : Thing) → object_at (with_object es k t) k ≡ Some t
with_same [] k t = rw (at_itself k) refl
with_same (e ∷ es) k t =
    by_order (name_cmp k e.0) (λ less. rw (less, at_itself k) refl) (λ same.
    let yes : at k e.0 ≡ true = ap (λ (o : Ordering). is_eq o) same in
    rw (same, yes) refl) (λ more.
    let no : at k e.0 ≡ false = ap (λ (o : Ordering). is_eq o) more in
    rw (more, no) (with_same es k t))

-- ---- one less
pub without_other : (es : List Named) (k q : List ℕ) → (q ≡ k → ⊥) → object_at (without_object es k) q ≡ object_at es q
without_other [] k q apart = refl
without_other (e ∷ es) k q apart =
    split (at k e.0) (λ yes. rw (yes, at_other q e.0 (λ is. apart (is ∙ sym (at_same k e.0 yes)))) refl) (λ no.
    rw no (ap (λ (o : Option Thing). cond (at q e.0) (Some e.1) o) (without_other es k q apart)))

none_later : (es : List Named) (k : List ℕ) → AllByRecursion (λ (y : List ℕ). name_cmp k y ≡ Less) (keys_of es) → object_at es k ≡ None
none_later [] k h = refl
none_later (e ∷ es) k h = rw h.0 (none_later es k h.1)

pub without_same : (es : List Named) (k : List ℕ) → AreInOrder es → object_at (without_object es k) k ≡ None
unfolding IsStrictlySortedBy
without_same [] k h = refl
without_same (e ∷ es) k h =
    split (at k e.0) (λ yes.
    rw yes (none_later es k (subst (λ (n : List ℕ). AllByRecursion (λ (y : List ℕ). name_cmp n y ≡ Less) (keys_of es)) (sym (at_same k e.0 yes)) h.0))) (λ no.
    rw (no, no) (without_same es k h.1))

-- ---- another one of a name
pub changed_other : (es : List Named) (k q : List ℕ) (t : Thing) → (q ≡ k → ⊥) → object_at (changed_object es k t) q ≡ object_at es q
changed_other [] k q t apart = refl
changed_other (e ∷ es) k q t apart =
    split (at k e.0) (λ yes. rw (yes, at_other q e.0 (λ is. apart (is ∙ sym (at_same k e.0 yes)))) refl) (λ no.
    rw no (ap (λ (o : Option Thing). cond (at q e.0) (Some e.1) o) (changed_other es k q t apart)))

pub changed_same : (es : List Named) (k : List ℕ) (t o : Thing) → object_at es k ≡ Some o → object_at (changed_object es k t) k ≡ Some t
changed_same [] k t o h = nothing o h
changed_same (e ∷ es) k t o h =
    split (at k e.0) (λ yes. rw (yes, yes) refl) (λ no. rw (no, no) (changed_same es k t o (rw no at h)))
