-- What a list contains after a map, a filter or a test of its elements.
use Rattle.std.proofs.Common.{◌≡◌, ◌∙◌, ◌⊎◌, inl, inr, ⊎_elim, Bool, true, false, cond, List, [], ◌∷◌, Option, Some, None, Contains, map, filter, refl, ap, subst, arith}
use Rattle.std.specs.List.{filter_map, cons_option, flat_map, list_any}
use Rattle.std.proofs.lemmas.List.Elements.{Contains-append_left, Contains-append_right, Contains-push, Contains-push_cases, Contains-append_cases}
use Rattle.std.proofs.lemmas.List.Concat.{flat_map-cons}

pub in_none : {A : Type 0} (x : A) → Contains [] x → ⊥
in_none x h = omega (arith, h.1)

pub head : {A : Type 0} (x : A) (xs : List A) → Contains (x ∷ xs) x
head x xs = Contains-append_left (x ∷ []) xs x (Contains-push [] x)

pub tail : {A : Type 0} (x : A) (xs : List A) (y : A) → Contains xs y → Contains (x ∷ xs) y
tail x xs y h = Contains-append_right (x ∷ []) xs y h

pub cases : {A : Type 0} (x : A) (xs : List A) (y : A) → Contains (x ∷ xs) y → (x ≡ y) ⊎ Contains xs y
cases x xs y h = ⊎_elim (λ one. ⊎_elim (λ none. absurd (in_none y none)) (λ same. inl same) (Contains-push_cases [] x y one)) (λ rest. inr rest) (Contains-append_cases (x ∷ []) xs y h)

pub contains_map : {A B : Type 0} (f : A → B) (xs : List A) (x : A) → Contains xs x → Contains (map f xs) (f x)
contains_map f [] x h = absurd (in_none x h)
contains_map f (y ∷ ys) x h = ⊎_elim (λ same. subst (λ z. Contains (f y ∷ map f ys) (f z)) same (head (f y) (map f ys))) (λ rest. tail (f y) (map f ys) (f x) (contains_map f ys x rest)) (cases y ys x h)

pub contains_unmap : {A B : Type 0} (f : A → B) (xs : List A) (y : B) → Contains (map f xs) y → (x : A) × Contains xs x × (f x ≡ y)
contains_unmap f [] y h = absurd (in_none y h)
contains_unmap f (x ∷ xs) y h = ⊎_elim (λ same. (x, head x xs, same)) (λ rest. let r = contains_unmap f xs y rest in (r.0, tail x xs r.0 r.1, r.2)) (cases (f x) (map f xs) y h)

filter_step : {A : Type 0} (p : A → Bool) (y : A) (ys : List A) (x : A) (b : Bool) → p y ≡ b → (Contains (filter p ys) x → Contains ys x × (p x ≡ true)) → Contains (cond b (y ∷ filter p ys) (filter p ys)) x → Contains (y ∷ ys) x × (p x ≡ true)
filter_step p y ys x true is more h = ⊎_elim (λ same. (subst (λ z. Contains (y ∷ ys) z) same (head y ys), subst (λ z. p z ≡ true) same is)) (λ rest. let r = more rest in (tail y ys x r.0, r.1)) (cases y (filter p ys) x h)
filter_step p y ys x false is more h = let r = more h in (tail y ys x r.0, r.1)

pub contains_filter : {A : Type 0} (p : A → Bool) (xs : List A) (x : A) → Contains (filter p xs) x → Contains xs x × (p x ≡ true)
contains_filter p [] x h = absurd (in_none x h)
contains_filter p (y ∷ ys) x h = filter_step p y ys x (p y) refl (λ rest. contains_filter p ys x rest) h

filter_map_step : {A B : Type 0} (f : A → Option B) (y : A) (ys : List A) (x : B) (o : Option B) → f y ≡ o → (Contains (filter_map f ys) x → (z : A) × (f z ≡ Some x)) → Contains (cons_option o (filter_map f ys)) x → (z : A) × (f z ≡ Some x)
filter_map_step f y ys x None is more h = more h
filter_map_step f y ys x (Some v) is more h = ⊎_elim (λ same. (y, is ∙ ap Some same)) more (cases v (filter_map f ys) x h)

pub contains_filter_map : {A B : Type 0} (f : A → Option B) (xs : List A) (x : B) → Contains (filter_map f xs) x → (z : A) × (f z ≡ Some x)
contains_filter_map f [] x h = absurd (in_none x h)
contains_filter_map f (y ∷ ys) x h = filter_map_step f y ys x (f y) refl (λ rest. contains_filter_map f ys x rest) h

pub contains_flat_map : {A B : Type 0} (f : A → List B) (xs : List A) (x : B) → Contains (flat_map f xs) x → (z : A) × Contains (f z) x
contains_flat_map f [] x h = absurd (in_none x h)
contains_flat_map f (y ∷ ys) x h = ⊎_elim (λ one. (y, one)) (λ rest. contains_flat_map f ys x rest) (Contains-append_cases (f y) (flat_map f ys) x (subst (λ zs. Contains zs x) (flat_map-cons f y ys) h))

any_step : {A : Type 0} (p : A → Bool) (x : A) (xs : List A) (b : Bool) → p x ≡ b → list_any p (x ∷ xs) ≡ true → (list_any p xs ≡ true → (y : A) × Contains xs y × (p y ≡ true)) → (y : A) × Contains (x ∷ xs) y × (p y ≡ true)
any_step p x xs true is h more = (x, head x xs, is)
any_step p x xs false is h more =
    let rest : list_any p xs ≡ true = rw is at h in
    let r = more rest in (r.0, tail x xs r.0 r.1, r.2)

pub contains_any : {A : Type 0} (p : A → Bool) (xs : List A) → list_any p xs ≡ true → (y : A) × Contains xs y × (p y ≡ true)
contains_any p [] h = absurd cc
contains_any p (x ∷ xs) h = any_step p x xs (p x) refl h (λ rest. contains_any p xs rest)
