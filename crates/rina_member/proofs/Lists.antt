-- What a list contains after a filter, a map, a test of its elements, an insert or a removal.
use Rattle.std.proofs.Common.{◌≡◌, ◌∙◌, ◌⊎◌, inl, inr, ⊎_elim, ℕ, ◌+◌, ◌<◌, ◌≤◌, suc, Bool, true, false, cond, not, List, [], ◌∷◌, ◌++◌, Option, Some, None, Contains, length, filter, take, drop, slice_get, refl, sym, ap, subst, arith}
use Rattle.std.specs.Prelude.{All, find, insert}
use Rattle.std.specs.List.{cons_option, filter_map, flat_map, list_any, position_or_len}
use Rattle.std.proofs.lemmas.Bool.{both_ways, or_left, or_right}
use Rattle.std.proofs.lemmas.List.{take-append-drop}
use Rattle.std.proofs.lemmas.List.Concat.{flat_map-cons}
use Rattle.std.proofs.lemmas.List.Elements.{All-contains_itself, All-weaker, Contains-append_cases, Contains-append_left, Contains-append_right}
use Rattle.std.proofs.lemmas.Option.{get_or_from_slice_get, same_Some, slice_get-get_or, slice_get_within}
use Rattle.rina_route.proofs.Lists.{cases, head, in_none, tail}

-- two tests that pass together are equal
pub both_true : (a b : Bool) → (a ≡ true → b ≡ true) → (b ≡ true → a ≡ true) → a ≡ b
both_true true true f g = refl
both_true true false f g = sym (f refl)
both_true false true f g = g refl
both_true false false f g = refl

-- between a place and an element

pub at_place : {X : Type 0} (xs : List X) (x : X) (has : Contains xs x) → slice_get xs has.0 ≡ Some x
at_place {X = X} xs x has = slice_get-get_or xs has.0 x has.1 ∙ ap (λ (y : X). Some y) has.2

pub is_there : {X : Type 0} (xs : List X) (k : ℕ) (x : X) → slice_get xs k ≡ Some x → Contains xs x
is_there xs k x is = (k, slice_get_within xs k x is, get_or_from_slice_get xs k x x is)

-- what is said of each element by its name
pub all_of : {X : Type 0} (P : X → Type 0) (xs : List X) → ((x : X) → Contains xs x → P x) → All P xs
all_of P xs h = All-weaker (Contains xs) P h xs (All-contains_itself xs)

-- a filter

kept_step : {A : Type 0} (p : A → Bool) (y : A) (ys : List A) (x : A) (b : Bool) → p y ≡ b → p x ≡ true → (Contains ys x → Contains (filter p ys) x) → Contains (y ∷ ys) x → Contains (cond b (y ∷ filter p ys) (filter p ys)) x
kept_step p y ys x true is passes more h = ⊎_elim (λ same. subst (λ z. Contains (y ∷ filter p ys) z) same (head y (filter p ys))) (λ rest. tail y (filter p ys) x (more rest)) (cases y ys x h)
kept_step p y ys x false is passes more h = ⊎_elim (λ same. absurd (both_ways (p y) is (subst (λ z. p z ≡ true) (sym same) passes))) more (cases y ys x h)

pub kept : {A : Type 0} (p : A → Bool) (xs : List A) (x : A) → Contains xs x → p x ≡ true → Contains (filter p xs) x
kept p [] x h passes = absurd (in_none x h)
kept p (y ∷ ys) x h passes = kept_step p y ys x (p y) refl passes (λ rest. kept p ys x rest passes) h

all_step : {A : Type 0} (p : A → Bool) (y : A) (ys : List A) (b : Bool) → b ≡ true → filter p ys ≡ ys → cond b (y ∷ filter p ys) (filter p ys) ≡ y ∷ ys
all_step p y ys true is rest = ap (λ zs. y ∷ zs) rest
all_step p y ys false is rest = absurd (both_ways false refl is)

-- a test that each element passes keeps all
pub keeps_all : {A : Type 0} (p : A → Bool) (xs : List A) → ((x : A) → Contains xs x → p x ≡ true) → filter p xs ≡ xs
keeps_all p [] h = refl
keeps_all p (y ∷ ys) h = all_step p y ys (p y) (h y (head y ys)) (keeps_all p ys (λ x among. h x (tail y ys x among)))

few_step : {A : Type 0} (p : A → Bool) (y : A) (ys : List A) (b : Bool) → length (filter p ys) ≤ length ys → length (cond b (y ∷ filter p ys) (filter p ys)) ≤ length (y ∷ ys)
few_step p y ys true h = omega (arith, h)
few_step p y ys false h = omega (arith, h)

pub keeps_few : {A : Type 0} (p : A → Bool) (xs : List A) → length (filter p xs) ≤ length xs
keeps_few p [] = omega arith
keeps_few p (y ∷ ys) = few_step p y ys (p y) (keeps_few p ys)

shorter_step : {A : Type 0} (p : A → Bool) (y : A) (ys : List A) (x : A) (b : Bool) → p y ≡ b → p x ≡ false → length (filter p ys) ≤ length ys → (Contains ys x → length (filter p ys) < length ys) → Contains (y ∷ ys) x → length (cond b (y ∷ filter p ys) (filter p ys)) < length (y ∷ ys)
shorter_step p y ys x true is fails few more h =
    ⊎_elim (λ same. absurd (both_ways (p x) fails (subst (λ z. p z ≡ true) same is))) (λ rest. (let lt = more rest in omega (arith, lt))) (cases y ys x h)
shorter_step p y ys x false is fails few more h = omega (arith, few)

-- a test that an element fails keeps fewer
pub shorter : {A : Type 0} (p : A → Bool) (xs : List A) (x : A) → Contains xs x → p x ≡ false → length (filter p xs) < length xs
shorter p [] x h fails = absurd (in_none x h)
shorter p (y ∷ ys) x h fails = shorter_step p y ys x (p y) refl fails (keeps_few p ys) (λ rest. shorter p ys x rest fails) h

-- a test of some element

pub any_true : {A : Type 0} (p : A → Bool) (xs : List A) (x : A) → Contains xs x → p x ≡ true → list_any p xs ≡ true
any_true p [] x h is = absurd (in_none x h)
any_true p (y ∷ ys) x h is = ⊎_elim (λ same. or_left (p y) (list_any p ys) (subst (λ z. p z ≡ true) (sym same) is)) (λ rest. or_right (p y) (list_any p ys) (any_true p ys x rest is)) (cases y ys x h)

-- the first element that passes

found_step : {A : Type 0} (p : A → Bool) (y : A) (ys : List A) (x : A) (b : Bool) → p y ≡ b → (find p ys ≡ Some x → Contains ys x × (p x ≡ true)) → cond b (Some y) (find p ys) ≡ Some x → Contains (y ∷ ys) x × (p x ≡ true)
found_step p y ys x true is more h = (let same = same_Some y x h in (subst (λ z. Contains (y ∷ ys) z) same (head y ys), subst (λ z. p z ≡ true) same is))
found_step p y ys x false is more h = (let r = more h in (tail y ys x r.0, r.1))

pub found : {A : Type 0} (p : A → Bool) (xs : List A) (x : A) → find p xs ≡ Some x → Contains xs x × (p x ≡ true)
found p [] x h = absurd cc
found p (y ∷ ys) x h = found_step p y ys x (p y) refl (λ rest. found p ys x rest) h

not_found_step : {A : Type 0} (p : A → Bool) (y : A) (ys : List A) (x : A) (b : Bool) → p y ≡ b → (find p ys ≡ None → Contains ys x → p x ≡ false) → cond b (Some y) (find p ys) ≡ None → Contains (y ∷ ys) x → p x ≡ false
not_found_step p y ys x true is more h among = absurd cc
not_found_step p y ys x false is more h among = ⊎_elim (λ same. subst (λ z. p z ≡ false) same is) (λ rest. more h rest) (cases y ys x among)

pub not_found : {A : Type 0} (p : A → Bool) (xs : List A) (x : A) → find p xs ≡ None → Contains xs x → p x ≡ false
not_found p [] x h among = absurd (in_none x among)
not_found p (y ∷ ys) x h among = not_found_step p y ys x (p y) refl (λ rest there. not_found p ys x rest there) h among

first_step : {A : Type 0} (p : A → Bool) (y : A) (ys : List A) (b : Bool) → slice_get ys (position_or_len p ys) ≡ find p ys → slice_get (y ∷ ys) (cond (not b) (1 + position_or_len p ys) 0) ≡ cond b (Some y) (find p ys)
first_step p y ys true h = refl
first_step p y ys false h =
    let one : 1 + position_or_len p ys ≡ suc (position_or_len p ys) = omega arith in
    ap (λ (n : ℕ). slice_get (y ∷ ys) n) one ∙ h

-- it stands at the first place that passes
pub first_at : {A : Type 0} (p : A → Bool) (xs : List A) → slice_get xs (position_or_len p xs) ≡ find p xs
first_at p [] = refl
first_at p (y ∷ ys) = first_step p y ys (p y) (first_at p ys)

-- a filter that maps

made_step : {A B : Type 0} (f : A → Option B) (y : A) (ys : List A) (x : B) (o : Option B) → f y ≡ o → (Contains (filter_map f ys) x → (z : A) × Contains ys z × (f z ≡ Some x)) → Contains (cons_option o (filter_map f ys)) x → (z : A) × Contains (y ∷ ys) z × (f z ≡ Some x)
made_step f y ys x None is more h = (let r = more h in (r.0, tail y ys r.0 r.1, r.2))
made_step f y ys x (Some v) is more h = ⊎_elim (λ same. (y, head y ys, is ∙ ap Some same)) (λ rest. (let r = more rest in (r.0, tail y ys r.0 r.1, r.2))) (cases v (filter_map f ys) x h)

-- of which element it was made
pub made_of : {A B : Type 0} (f : A → Option B) (xs : List A) (x : B) → Contains (filter_map f xs) x → (z : A) × Contains xs z × (f z ≡ Some x)
made_of f [] x h = absurd (in_none x h)
made_of f (y ∷ ys) x h = made_step f y ys x (f y) refl (λ rest. made_of f ys x rest) h

makes_step : {A B : Type 0} (f : A → Option B) (y : A) (ys : List A) (z : A) (x : B) (o : Option B) → f y ≡ o → f z ≡ Some x → (Contains ys z → Contains (filter_map f ys) x) → Contains (y ∷ ys) z → Contains (cons_option o (filter_map f ys)) x
makes_step f y ys z x None is gives more h = ⊎_elim (λ same. absurd (let e : None ≡ Some x = sym is ∙ ap f same ∙ gives in cc)) more (cases y ys z h)
makes_step f y ys z x (Some v) is gives more h =
    ⊎_elim (λ same. (let e : v ≡ x = same_Some v x (sym is ∙ ap f same ∙ gives) in subst (λ w. Contains (v ∷ filter_map f ys) w) e (head v (filter_map f ys)))) (λ rest. tail v (filter_map f ys) x (more rest)) (cases y ys z h)

pub makes : {A B : Type 0} (f : A → Option B) (xs : List A) (z : A) (x : B) → Contains xs z → f z ≡ Some x → Contains (filter_map f xs) x
makes f [] z x h gives = absurd (in_none z h)
makes f (y ∷ ys) z x h gives = makes_step f y ys z x (f y) refl gives (λ rest. makes f ys z x rest gives) h

few_made : {B : Type 0} (xs : List B) (n : ℕ) (o : Option B) → length xs ≤ n → length (cons_option o xs) ≤ n + 1
few_made xs n None h = omega (arith, h)
few_made xs n (Some x) h = omega (arith, h)

-- no more is made than there is
pub makes_few : {A B : Type 0} (f : A → Option B) (xs : List A) → length (filter_map f xs) ≤ length xs
makes_few f [] = omega arith
makes_few f (y ∷ ys) = (let more = few_made (filter_map f ys) (length ys) (f y) (makes_few f ys) in omega (arith, more))

-- lists joined

pub from_flat : {A B : Type 0} (f : A → List B) (xs : List A) (x : B) → Contains (flat_map f xs) x → (z : A) × Contains xs z × Contains (f z) x
from_flat f [] x h = absurd (in_none x h)
from_flat f (y ∷ ys) x h =
    ⊎_elim (λ one. (y, head y ys, one)) (λ rest. (let r = from_flat f ys x rest in (r.0, tail y ys r.0 r.1, r.2))) (Contains-append_cases (f y) (flat_map f ys) x (subst (λ zs. Contains zs x) (flat_map-cons f y ys) h))

pub into_flat : {A B : Type 0} (f : A → List B) (xs : List A) (z : A) (x : B) → Contains xs z → Contains (f z) x → Contains (flat_map f xs) x
into_flat f [] z x h has = absurd (in_none z h)
into_flat f (y ∷ ys) z x h has = subst (λ zs. Contains zs x) (sym (flat_map-cons f y ys))
    (⊎_elim (λ same. Contains-append_left (f y) (flat_map f ys) x (subst (λ w. Contains (f w) x) (sym same) has)) (λ rest. Contains-append_right (f y) (flat_map f ys) x (into_flat f ys z x rest has)) (cases y ys z h))

-- an insert

pub insert_cases : {A : Type 0} (xs : List A) (i : ℕ) (y x : A) → Contains (insert xs i y) x → (y ≡ x) ⊎ Contains xs x
insert_cases xs i y x h =
    let whole : Contains (take i xs ++ drop i xs) x → Contains xs x = λ c. subst (λ zs. Contains zs x) (take-append-drop i xs) c in
    ⊎_elim (λ front. inr (whole (Contains-append_left (take i xs) (drop i xs) x front)))
    (λ back. ⊎_elim (λ same. inl same) (λ rest. inr (whole (Contains-append_right (take i xs) (drop i xs) x rest))) (cases y (drop i xs) x back))
    (Contains-append_cases (take i xs) (y ∷ drop i xs) x h)

pub insert_new : {A : Type 0} (xs : List A) (i : ℕ) (y : A) → Contains (insert xs i y) y
insert_new xs i y = Contains-append_right (take i xs) (y ∷ drop i xs) y (head y (drop i xs))

pub insert_old : {A : Type 0} (xs : List A) (i : ℕ) (y x : A) → Contains xs x → Contains (insert xs i y) x
insert_old xs i y x h =
    let parts : Contains (take i xs ++ drop i xs) x = subst (λ zs. Contains zs x) (sym (take-append-drop i xs)) h in
    ⊎_elim (λ front. Contains-append_left (take i xs) (y ∷ drop i xs) x front)
    (λ back. Contains-append_right (take i xs) (y ∷ drop i xs) x (tail y (drop i xs) x back))
    (Contains-append_cases (take i xs) (drop i xs) x parts)
