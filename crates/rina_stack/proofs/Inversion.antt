-- What was read where reading succeeded.
use Rattle.std.proofs.Common.{◌≡◌, ℕ, ◌+◌, ◌<◌, ◌≤◌, Bool, true, false, cond, ℤ, pos, negsuc, ◌≤ℤ◌, List, [], ◌∷◌, length, Option, Some, None, Result, Ok, Err, refl, ap, arith, subst}
use Rattle.std.specs.Prelude.{All, codes, int_le, unsigned_abs}
use Rattle.std.proofs.lemmas.Bool.{and_parts}
use Rattle.std.proofs.lemmas.Int.{ints}
use Rattle.std.proofs.lemmas.List.Elements.{All-cons}
use Rattle.std.proofs.lemmas.List.Quantifiers.{position-Some}
use Rattle.toml.specs.Data.{Data, get}
use Rattle.rina_base.specs.Traverse.{◌>>=◌, traverse}
use Rattle.rina_base.specs.declared.name.NameError.{NameError}
use Rattle.rina_base.specs.Names.{length_at, bytes_at, name_at}
use Rattle.rina_table.specs.declared.error.StackError.{StackError}
use Rattle.rina_table.specs.declared.sketch.Sketch.{Sketch}
use Rattle.rina_table.specs.Faults.{required, required_by, unless}
use Rattle.rina_table.specs.Names.{place_in, as_name}
use Rattle.std.specs.Result.{result_ok}
use Rattle.rina_table.specs.Values.{integer_in, integer_or, text_in}
use Rattle.rina_table.specs.Fields.{is_between, as_number, ranged, number_in, number_or, named, name_in, node_named, node_in}
use Rattle.rina_stack.specs.Scopes.{unresolved_scope, resolved_scope}

pub bind_ok : {A B : Type 0} (a : Result A StackError) (f : A → Result B StackError) (y : B) → (a >>= f) ≡ Ok y → (x : A) × (a ≡ Ok x) × (f x ≡ Ok y)
bind_ok (Ok x) f y h = (x, refl, h)
bind_ok (Err e) f y h = cc

pub ok_is : {A : Type 0} (x y : A) → ◌≡◌ {A = Result A StackError} (Ok x) (Ok y) → x ≡ y
ok_is x y h = cc

pub unbroken : (n : ℕ) (o : Option ℕ) (t : Unit {0}) → unless n o ≡ Ok t → o ≡ None
unbroken n None t h = refl
unbroken n (Some i) t h = cc

-- what each row is, all are
pub all_read : {A B : Type 0} (P : B → Type 0) (f : ℕ → A → Result B StackError) (k : ℕ) (xs : List A) (ys : List B) → ((n : ℕ) (x : A) (y : B) → f n x ≡ Ok y → P y) → traverse f k xs ≡ Ok ys → All P ys
unfolding traverse
all_read P f k [] ys each h =
    let same : ys ≡ [] = cc in
    λ i d within. absurd (omega (arith, ap length same))
all_read P f k (x ∷ xs) ys each h =
    let (y, one, more) = bind_ok (f k x) _ ys h in
    let (zs, others, whole) = bind_ok (traverse f (k + 1) xs) _ ys more in
    let same : y ∷ zs ≡ ys = cc in
    rw (← same) (All-cons P y zs (each k x y one) (all_read P f (k + 1) xs zs each others))

-- a step that gives the same gives the same rows
pub same_rows : {A B : Type 0} (f g : ℕ → A → Result B StackError) (k : ℕ) (xs : List A) → ((n : ℕ) (x : A) → f n x ≡ g n x) → traverse f k xs ≡ traverse g k xs
unfolding traverse
same_rows f g k [] each = refl
same_rows f g k (x ∷ xs) each = rw (each k x, same_rows f g (k + 1) xs each) refl

pub found_7 : {A : Type 0} (n : ℕ) (instead : A) (o : Option A) (x : A) → required_by 7 7 n instead o ≡ Ok x → o ≡ Some x
found_7 n instead None x h = cc
found_7 n instead (Some y) x h = cc

pub found_6 : {A : Type 0} (n : ℕ) (instead : A) (o : Option A) (x : A) → required_by 7 6 n instead o ≡ Ok x → o ≡ Some x
found_6 n instead None x h = cc
found_6 n instead (Some y) x h = cc

pub if_some : {A : Type 0} (b : Bool) (x y : A) → cond b (Some x) None ≡ Some y → (b ≡ true) × (x ≡ y)
if_some true x y h = (refl, cc)
if_some false x y h = cc

ordered : (y z : ℤ) → int_le y z ≡ true → y ≤ℤ z
ordered y z h = grind (arith, ints)

size_between : (least most : ℕ) (z : ℤ) → pos least ≤ℤ z → z ≤ℤ pos most → (least ≤ unsigned_abs z) × (unsigned_abs z ≤ most)
size_between least most (pos n) low high = (omega (arith, ints), omega (arith, ints))
size_between least most (negsuc n) low high = absurd (omega (arith, ints))

between : (least most : ℕ) (z : ℤ) (m : ℕ) → as_number least most z ≡ Some m → (least ≤ m) × (m ≤ most)
unfolding as_number
between least most z m h =
    let (test, same) = if_some (is_between (pos least) (pos most) z) (unsigned_abs z) m h in
    let (low, high) = and_parts (int_le (pos least) z) (int_le z (pos most)) test in
    let (a, b) = size_between least most z (ordered (pos least) z low) (ordered z (pos most) high) in
    (omega (arith, a, same), omega (arith, b, same))

ranged_7 : (named : Sketch) (u : Option ℕ) (n least most : ℕ) (z : ℤ) (m : ℕ) → ranged (resolved_scope named u) n least most z ≡ Ok m → (least ≤ m) × (m ≤ most)
unfolding ranged
ranged_7 named u n least most z m h = between least most z m (found_6 n least (as_number least most z) m h)

pub number_7 : (named : Sketch) (u : Option ℕ) (n : ℕ) (k : List ℕ) (d : Data) (least most m : ℕ) → number_in (resolved_scope named u) n k d least most ≡ Ok m → (least ≤ m) × (m ≤ most)
unfolding number_in
number_7 named u n k d least most m h =
    let (z, _, range) = bind_ok (integer_in n k d) _ m h in
    ranged_7 named u n least most z m range

pub number_or_7 : (named : Sketch) (u : Option ℕ) (n : ℕ) (k : List ℕ) (d : Data) (least most m : ℕ) → number_or (resolved_scope named u) n k d least most ≡ Ok m → (least ≤ m) × (m ≤ most)
unfolding number_or
number_or_7 named u n k d least most m h =
    let (z, _, range) = bind_ok (integer_or n (pos least) (get k d)) _ m h in
    ranged_7 named u n least most z m range

pub node_7 : (known : Sketch) (u : Option ℕ) (n : ℕ) (t : List ℕ) (i : ℕ) → node_named (resolved_scope known u) n t ≡ Ok i → i < length known.nodes
unfolding node_named
node_7 known u n t i h =
    let (name, _, required) = bind_ok (named (resolved_scope known u) n t) _ i h in
    let found = found_7 n 0 (place_in known.nodes name) i required in
    (position-Some _ known.nodes i [] found).0

pub node_in_7 : (known : Sketch) (u : Option ℕ) (n : ℕ) (k : List ℕ) (d : Data) (i : ℕ) → node_in (resolved_scope known u) n k d ≡ Ok i → i < length known.nodes
unfolding node_in
node_in_7 known u n k d i h =
    let (t, _, found) = bind_ok (text_in n k d) _ i h in
    node_7 known u n t i found

-- a name is read alike whether references are resolved or not
pub same_name : (known : Sketch) (u : Option ℕ) (n : ℕ) (t : List ℕ) → named (unresolved_scope 4) n t ≡ named (resolved_scope known u) n t
unfolding named
same_name known u n t = refl

-- ---- names

result_of : {A : Type 0} (r : Result A NameError) (x : A) → result_ok r ≡ Some x → r ≡ Ok x
result_of (Ok y) x h = cc
result_of (Err e) x h = cc

last_of : (a b : Result (Unit {0}) NameError) (t name : List ℕ) → (a >>= λ _. b >>= λ _. Ok t) ≡ Ok name → t ≡ name
last_of (Ok x) (Ok y) t name h = cc
last_of (Ok x) (Err e) t name h = cc
last_of (Err e) b t name h = cc

-- the name that a text is, is the text
same_text : (t name : List ℕ) → name_at t ≡ Ok name → t ≡ name
unfolding name_at
same_text t name h = last_of (length_at t) (bytes_at 0 t) t name h

found_4 : {A : Type 0} (n : ℕ) (instead : A) (o : Option A) (x : A) → required_by 7 4 n instead o ≡ Ok x → o ≡ Some x
found_4 n instead None x h = cc
found_4 n instead (Some y) x h = cc

-- what was read as a name is one
pub name_7 : (known : Sketch) (u : Option ℕ) (n : ℕ) (k : List ℕ) (d : Data) (name : List ℕ) → name_in (resolved_scope known u) n k d ≡ Ok name → name_at name ≡ Ok name
unfolding name_in named
name_7 known u n k d name h =
    let (t, _, found) = bind_ok (text_in n k d) _ name h in
    let is = result_of (name_at t) name (found_4 n (codes "-") (as_name t) name found) in
    subst (λ x. name_at x ≡ Ok name) (same_text t name is) is
