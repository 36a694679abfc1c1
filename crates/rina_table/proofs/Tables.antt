-- What a loop or a chain over a table says of its members.
use Rattle.std.proofs.Common.{◌≡◌, ℕ, zero, suc, ◌+◌, Bool, not, cond, ◌&&◌, ◌||◌, List, [], ◌∷◌, get_or, map, String, Global, string_bytes, Result, Ok, Err, refl, sym, ap}
use Rattle.std.specs.Map.{keys_of}
use Rattle.std.specs.List.{list_all, list_any, prefix_len, position}
use Rattle.std.proofs.lemmas.List.{length-map}
use Rattle.rina_base.specs.Traverse.{◌>>=◌, traverse}
use Rattle.toml.specs.declared.value.Value.{Value}
use Rattle.toml.specs.View.{view, members_view, items_view}
use Rattle.rina_table.specs.declared.error.StackError.{StackError}
use Rattle.rina_table.specs.declared.error.StackError.TheVariants.{Memory, NotToml, StackRule}
use Rattle.rina_table.specs.Faults.{Gives}
use Rattle.rina_table.specs.Keys.{all_keys, list_of}

pub keys_all : (p : List ℕ → Bool) (es : List (String Global × Value)) → list_all (λ k. p (string_bytes k)) (keys_of es) ≡ all_keys p (members_view es)
keys_all p [] = refl
keys_all p (e ∷ es) = ap (λ b. p (string_bytes e.0) && b) (keys_all p es)

pub list_of_view : (vs : List Value) → list_of (items_view vs) ≡ map view vs
list_of_view [] = refl
list_of_view (v ∷ vs) = ap (λ ds. view v ∷ ds) (list_of_view vs)

-- the data of the value at a place
pub item_seen : (vs : List Value) (i : ℕ) (v w : Value) → v ≡ get_or vs i w → get_or (map view vs) i (view w) ≡ view v
item_seen [] i v w h = ap view (sym h)
item_seen (u ∷ vs) zero v w h = ap view (sym h)
item_seen (u ∷ vs) (suc i) v w h = item_seen vs i v w h

-- an error that a part gave is that of the whole, where the whole fails with the part
pub err_passes : {X Y A B : Type 0} (f : X → Y) (g : A → B) (e : StackError) (part : Result Y StackError) (whole : Result B StackError) → ((d : StackError) → part ≡ Err d → whole ≡ Err d) → Gives f (Err e) part → Gives g (Err e) whole
err_passes f g Memory part whole h given = tt
err_passes f g NotToml part whole h given = absurd given
err_passes f g (StackRule n k) part whole h given = h (StackRule n k) given

-- a step that does not ask for its number
pub number_unused : {A B E : Type 0} (f : A → Result B E) (k m : ℕ) (xs : List A) → traverse (λ _. f) k xs ≡ traverse (λ _. f) m xs
unfolding traverse
number_unused f k m [] = refl
number_unused f k m (x ∷ xs) = ap (λ r. f x >>= λ y. r >>= λ ys. Ok (y ∷ ys)) (number_unused f (k + 1) (m + 1) xs)

prefix_len_map : {A B : Type 0} (p : B → Bool) (f : A → B) (xs : List A) → prefix_len p (map f xs) ≡ prefix_len (λ x. p (f x)) xs
prefix_len_map p f [] = refl
prefix_len_map p f (x ∷ xs) = ap (λ n. cond (p (f x)) (1 + n) 0) (prefix_len_map p f xs)

pub position_map : {A B : Type 0} (p : B → Bool) (f : A → B) (xs : List A) → position p (map f xs) ≡ position (λ x. p (f x)) xs
position_map p f xs = rw (prefix_len_map (λ y. not (p y)) f xs, length-map xs f) refl

pub list_any_map : {A B : Type 0} (p : B → Bool) (f : A → B) (xs : List A) → list_any p (map f xs) ≡ list_any (λ x. p (f x)) xs
list_any_map p f [] = refl
list_any_map p f (x ∷ xs) = ap (λ b. p (f x) || b) (list_any_map p f xs)
