-- What a map shows: each change of it is the same change of what it shows.
use Rattle.std.proofs.Common.{◌≡◌, ℕ, Bool, true, false, cond, List, [], ◌∷◌, Option, Some, None, Result, Ok, Err, ◌||◌, refl, sym, ap, ◌∙◌}
use Rattle.std.specs.List.{AllZip, list_any}
use Rattle.std.specs.Vec.{vec_len}
use Rattle.std.specs.Prelude.{IfOk, MatchResult}
use Rattle.std.specs.Global.{Vec}
use Rattle.std.specs.declared.cmp.Ordering.{Ordering}
use Rattle.std.specs.declared.cmp.Ordering.TheVariants.{Less, Equal, Greater}
use Rattle.std.specs.Ordering.{match_ordering, nat_cmp}
use Rattle.std.specs.Cmp.Lexicographic.{slice_cmp}
use Rattle.std.specs.Map.{lookup, remove_entry, set_value, keys_of}
use Rattle.std.specs.BTreeMap.{BTreeMap, is_at, insert_entry}
use Rattle.rina_rib.specs.Things.{Thing}
use Rattle.rina_rib.specs.Objects.{Named, seen, object_at, with_object, without_object, changed_object, has_child}
use Rattle.rina_rib.specs.Names.{is_child}

abbrev pub Entries : Type 0
Entries = List (Vec ℕ × Thing)

abbrev pub by : List ℕ → Vec ℕ → Ordering
by name k = slice_cmp nat_cmp name k.items

abbrev pub vec_cmp : Vec ℕ → Vec ℕ → Ordering
vec_cmp a b = slice_cmp nat_cmp a.items b.items

pub lookup-seen : (es : Entries) (name : List ℕ) → lookup (is_at (by name)) es ≡ object_at (seen es) name
lookup-seen [] name = refl
lookup-seen (e ∷ es) name = ap (λ (o : Option Thing). cond (is_at (by name) e.0) (Some e.1) o) (lookup-seen es name)

pub remove-seen : (es : Entries) (name : List ℕ) → seen (remove_entry (is_at (by name)) es) ≡ without_object (seen es) name
remove-seen [] name = refl
remove-seen (e ∷ es) name = by_test (remove-seen es name) (is_at (by name) e.0)
  where
    by_test : seen (remove_entry (is_at (by name)) es) ≡ without_object (seen es) name → (b : Bool) → seen (cond b es (e ∷ remove_entry (is_at (by name)) es)) ≡ cond b (seen es) ((e.0.items, e.1) ∷ without_object (seen es) name)
    by_test rest true = refl
    by_test rest false = ap (λ (xs : List Named). (e.0.items, e.1) ∷ xs) rest

pub set-seen : (es : Entries) (name : List ℕ) (t : Thing) → seen (set_value (is_at (by name)) es t) ≡ changed_object (seen es) name t
set-seen [] name t = refl
set-seen (e ∷ es) name t = by_test (set-seen es name t) (is_at (by name) e.0)
  where
    by_test : seen (set_value (is_at (by name)) es t) ≡ changed_object (seen es) name t → (b : Bool) → seen (cond b ((e.0, t) ∷ es) (e ∷ set_value (is_at (by name)) es t)) ≡ cond b ((e.0.items, t) ∷ seen es) ((e.0.items, e.1) ∷ changed_object (seen es) name t)
    by_test rest true = refl
    by_test rest false = ap (λ (xs : List Named). (e.0.items, e.1) ∷ xs) rest

pub insert-seen : (es : Entries) (k : Vec ℕ) (t : Thing) → seen (insert_entry vec_cmp es k t) ≡ with_object (seen es) k.items t
insert-seen [] k t = refl
insert-seen (e ∷ es) k t = by_order (insert-seen es k t) (vec_cmp k e.0)
  where
    by_order : seen (insert_entry vec_cmp es k t) ≡ with_object (seen es) k.items t → (o : Ordering) → seen (match_ordering o ((k, t) ∷ e ∷ es) ((e.0, t) ∷ es) (e ∷ insert_entry vec_cmp es k t)) ≡ match_ordering o ((k.items, t) ∷ (e.0.items, e.1) ∷ seen es) ((e.0.items, t) ∷ seen es) ((e.0.items, e.1) ∷ with_object (seen es) k.items t)
    by_order rest Less = refl
    by_order rest Equal = refl
    by_order rest Greater = ap (λ (xs : List Named). (e.0.items, e.1) ∷ xs) rest

pub child-seen : (es : Entries) (name : List ℕ) → list_any (λ (k : Vec ℕ). is_child name k.items) (keys_of es) ≡ has_child (seen es) name
child-seen [] name = refl
child-seen (e ∷ es) name = ap (λ (b : Bool). is_child name e.0.items || b) (child-seen es name)

abbrev there : Thing → Option Thing
there t = Some t

-- the object of a name was changed through a loan
pub lent_seen : (es after : Entries) (name : List ℕ) (t w : Thing) (f : Option Thing → List Named) → after ≡ set_value (is_at (by name)) es w → there t ≡ lookup (is_at (by name)) es → f (there t) ≡ changed_object (seen es) name w → seen after ≡ f (object_at (seen es) name)
lent_seen es after name t w f put found is =
    let at : object_at (seen es) name ≡ there t = sym (lookup-seen es name) ∙ sym found in
    ap (λ (xs : Entries). seen xs) put ∙ set-seen es name w ∙ sym is ∙ sym (ap f at)

-- nothing has the name, and nothing was changed
pub absent_seen : (es after : Entries) (name : List ℕ) (f : Option Thing → List Named) → after ≡ es → None ≡ lookup (is_at (by name)) es → f None ≡ seen es → seen after ≡ f (object_at (seen es) name)
absent_seen es after name f same none is =
    let at : object_at (seen es) name ≡ None = sym (lookup-seen es name) ∙ sym none in
    ap (λ (xs : Entries). seen xs) same ∙ sym is ∙ sym (ap f at)

-- Copies

same_bytes : (xs ys : List ℕ) → AllZip (λ x y. y ≡ x) xs ys → ys ≡ xs
same_bytes [] [] h = refl
same_bytes [] (y ∷ ys) h = absurd h
same_bytes (x ∷ xs) [] h = absurd h
same_bytes (x ∷ xs) (y ∷ ys) h = ap (λ (b : ℕ). b ∷ ys) h.0 ∙ ap (λ (bs : List ℕ). x ∷ bs) (same_bytes xs ys h.1)

-- an entry and its copy
abbrev pub IsCopy : Vec ℕ × Thing → Vec ℕ × Thing → Type 0
IsCopy p q = (AllZip (λ x y. y ≡ x) p.0.items q.0.items × (vec_len q.0 ≡ vec_len p.0)) × (q.1 ≡ p.1)

-- copies of the entries show the same
pub copied : (es fs : Entries) → AllZip IsCopy es fs → seen fs ≡ seen es
copied [] [] h = refl
copied [] (f ∷ fs) h = absurd h
copied (e ∷ es) [] h = absurd h
copied (e ∷ es) (f ∷ fs) h =
    ap (λ (n : List ℕ). (n, f.1) ∷ seen fs) (same_bytes e.0.items f.0.items h.0.0.0)
    ∙ ap (λ (t : Thing). (e.0.items, t) ∷ seen fs) h.0.1
    ∙ ap (λ (xs : List Named). (e.0.items, e.1) ∷ xs) (copied es fs h.1)

pub if_copied : {E : Type 0} (r : Result (BTreeMap (Vec ℕ) Thing) E) (es : Entries) (Q : E → Type 0) → MatchResult r (λ n. AllZip IsCopy es n.entries) Q → IfOk r (λ n. seen n.entries ≡ seen es)
if_copied (Ok n) es Q h = copied es n.entries h
if_copied (Err e) es Q h = tt
