-- Names are read alike whether references are resolved or not.
use Rattle.std.proofs.Common.{◌≡◌, ℕ, ◌+◌, List, [], ◌∷◌, length, map, Option, Result, Ok, Err, refl, sym, ◌∙◌, arith}
use Rattle.std.specs.Prelude.{codes}
use Rattle.toml.specs.Data.{Data}
use Rattle.rina_base.specs.Traverse.{◌>>=◌, traverse}
use Rattle.rina_table.specs.declared.scope.Scope.{Scope}
use Rattle.rina_table.specs.declared.sketch.Sketch.{Sketch}
use Rattle.rina_table.specs.declared.error.StackError.{StackError}
use Rattle.rina_table.specs.Faults.{required}
use Rattle.rina_table.specs.Keys.{items_in}
use Rattle.rina_table.specs.Values.{rows, rows_in, tables_in}
use Rattle.rina_table.specs.Fields.{named, name_in}
use Rattle.rina_table.specs.Items.{node_row}
use Rattle.rina_stack.specs.Scopes.{unresolved_scope, resolved_scope}
use Rattle.rina_stack.proofs.Inversion.{bind_ok, same_rows}

-- a name at a key
same_name_in : (known : Sketch) (u : Option ℕ) (n : ℕ) (k : List ℕ) (d : Data) → name_in (unresolved_scope 4) n k d ≡ name_in (resolved_scope known u) n k d
unfolding name_in named
same_name_in known u n k d = refl

same_node_row : (known : Sketch) (u : Option ℕ) (n : ℕ) (d : Data) → node_row (unresolved_scope 4) n d ≡ node_row (resolved_scope known u) n d
unfolding node_row named
same_node_row known u n d = refl

same_after : {A B : Type 0} (a : Result A StackError) (f g : A → Result B StackError) → ((x : A) → f x ≡ g x) → (a >>= f) ≡ (a >>= g)
same_after (Ok x) f g h = h x
same_after (Err e) f g h = refl

pub same_node_rows : (known : Sketch) (u : Option ℕ) (n : ℕ) (k : List ℕ) (d : Data) → rows_in (node_row (unresolved_scope 4) 0) n k d ≡ rows_in (node_row (resolved_scope known u) 0) n k d
unfolding rows_in
same_node_rows known u n k d = same_after (required n (items_in k d)) (rows (node_row (unresolved_scope 4) 0)) (rows (node_row (resolved_scope known u) 0)) (λ ds. same_rows (λ _. node_row (unresolved_scope 4) 0) (λ _. node_row (resolved_scope known u) 0) 0 ds (λ _ x. same_node_row known u 0 x))

-- items whose name is read first have the same names in both readings
pub same_names : {A : Type 0} (name : A → List ℕ) (at : Scope → ℕ → Data → Result A StackError) → ((s : Scope) (n : ℕ) (d : Data) (x : A) → at s n d ≡ Ok x → name_in s n (codes "name") d ≡ Ok (name x))
    → (known : Sketch) (u : Option ℕ) (k : ℕ) (ts : List Data) (vs ws : List A) → traverse (at (unresolved_scope 4)) k ts ≡ Ok vs → traverse (at (resolved_scope known u)) k ts ≡ Ok ws → map name vs ≡ map name ws
unfolding traverse
same_names name at each known u k [] vs ws hv hw =
    let one : vs ≡ [] = cc in
    let two : ws ≡ [] = cc in
    rw (one, two) refl
same_names name at each known u k (t ∷ ts) vs ws hv hw =
    let (v, is_v, more_v) = bind_ok (at (unresolved_scope 4) k t) _ vs hv in
    let (vs', are_v, whole_v) = bind_ok (traverse (at (unresolved_scope 4)) (k + 1) ts) _ vs more_v in
    let (w, is_w, more_w) = bind_ok (at (resolved_scope known u) k t) _ ws hw in
    let (ws', are_w, whole_w) = bind_ok (traverse (at (resolved_scope known u)) (k + 1) ts) _ ws more_w in
    let names = sym (each (unresolved_scope 4) k t v is_v) ∙ same_name_in known u k (codes "name") t ∙ each (resolved_scope known u) k t w is_w in
    let same : name v ≡ name w = cc names in
    let rest = same_names name at each known u (k + 1) ts vs' ws' are_v are_w in
    let one : v ∷ vs' ≡ vs = cc in
    let two : w ∷ ws' ≡ ws = cc in
    rw (← one, ← two, same, rest) refl

pub same_tables : (a b : List Data) (d : Data) → tables_in 0 (codes "wire") d ≡ Ok a → tables_in 0 (codes "wire") d ≡ Ok b → a ≡ b
same_tables a b d one two = cc (sym one ∙ two)

pub same_dif_tables : (a b : List Data) (d : Data) → tables_in 0 (codes "dif") d ≡ Ok a → tables_in 0 (codes "dif") d ≡ Ok b → a ≡ b
same_dif_tables a b d one two = cc (sym one ∙ two)

-- as many are read in both
pub same_count : {A B C : Type 0} (f : ℕ → A → Result B StackError) (g : ℕ → A → Result C StackError) (k m : ℕ) (xs : List A) (ys : List B) (zs : List C) → traverse f k xs ≡ Ok ys → traverse g m xs ≡ Ok zs → length ys ≡ length zs
unfolding traverse
same_count f g k m [] ys zs hy hz =
    let one : ys ≡ [] = cc in
    let two : zs ≡ [] = cc in
    rw (one, two) refl
same_count f g k m (x ∷ xs) ys zs hy hz =
    let (y, _, more_y) = bind_ok (f k x) _ ys hy in
    let (ys', are_y, _) = bind_ok (traverse f (k + 1) xs) _ ys more_y in
    let (z, _, more_z) = bind_ok (g m x) _ zs hz in
    let (zs', are_z, _) = bind_ok (traverse g (m + 1) xs) _ zs more_z in
    let one : y ∷ ys' ≡ ys = cc in
    let two : z ∷ zs' ≡ zs = cc in
    let rest = same_count f g (k + 1) (m + 1) xs ys' zs' are_y are_z in
    rw (← one, ← two) (grind (arith, rest))
