-- The values at the keys of a table: rule 3 requires keys, and values of their types.
use Rattle.std.specs.Prelude.{ℕ, Bool, ℤ, List, [], Option, Some, None, Result, Ok, is_some, if◌then◌else◌, option_map, option_and_then}
use Rattle.std.specs.List.{list_all}
use Rattle.toml.specs.Data.{Data, get, at, as_str, as_integer, as_bool, as_array, as_table}
use Rattle.rina_base.specs.Traverse.{◌>>=◌, traverse}
use Rattle.rina_table.specs.declared.error.StackError.{StackError}
use Rattle.rina_table.specs.Faults.{required}
use Rattle.rina_table.specs.Keys.{list_of, items_in}

abbrev pub text_at : List ℕ → Data → Option (List ℕ)
text_at k d = option_and_then as_str (get k d)

-- the text at a key of the item n
abbrev pub text_in : ℕ → List ℕ → Data → Result (List ℕ) StackError
text_in n k d = required n (text_at k d)

abbrev pub integer_at : List ℕ → Data → Option ℤ
integer_at k d = option_and_then as_integer (get k d)

-- the integer at a key of the item n
abbrev pub integer_in : ℕ → List ℕ → Data → Result ℤ StackError
integer_in n k d = required n (integer_at k d)

abbrev pub integer_or : ℕ → ℤ → Option Data → Result ℤ StackError
integer_or n default None = Ok default
integer_or n default (Some d) = required n (as_integer d)

abbrev pub truth_or : ℕ → Bool → Option Data → Result Bool StackError
truth_or n default None = Ok default
truth_or n default (Some d) = required n (as_bool d)

abbrev pub truth_in : ℕ → List ℕ → Data → Result Bool StackError
truth_in n k d = required n (option_and_then as_bool (get k d))

abbrev pub items_or : ℕ → Option Data → Result (List Data) StackError
items_or n None = Ok []
items_or n (Some d) = required n (option_map list_of (as_array d))

-- what the rows of a list are read as
abbrev pub rows : {A : Type 0} → (Data → Result A StackError) → List Data → Result (List A) StackError
rows f ds = traverse (λ _. f) 0 ds

-- a list that rule 3 requires
unfoldable pub rows_in : {A : Type 0} → (Data → Result A StackError) → ℕ → List ℕ → Data → Result (List A) StackError
rows_in f n k d = required n (items_in k d) >>= rows f

-- a list that is empty where there is no such key
unfoldable pub rows_or : {A : Type 0} → (Data → Result A StackError) → ℕ → List ℕ → Data → Result (List A) StackError
rows_or f n k d = items_or n (get k d) >>= rows f

abbrev pub is_table : Data → Bool
is_table d = is_some (as_table d)

abbrev pub if_tables : Option (List Data) → Option (List Data)
if_tables None = None
if_tables (Some ds) = if list_all is_table ds then Some ds else None

abbrev pub tables_of : Data → Option (List Data)
tables_of d = if_tables (option_map list_of (as_array d))

abbrev pub tables_or_none : ℕ → Option Data → Result (List Data) StackError
tables_or_none n None = Ok []
tables_or_none n (Some d) = required n (tables_of d)

-- the list of tables at a key of the item n, empty where there is no such key
abbrev pub tables_in : ℕ → List ℕ → Data → Result (List Data) StackError
tables_in n k d = tables_or_none n (get k d)

-- the text that stands in a list, at a key, at a place
abbrev pub element : ℕ → List ℕ → Data → Option (List ℕ)
element i k d = option_and_then as_str (option_and_then (at i) (get k d))

abbrev pub has_third : List ℕ → Data → Bool
has_third k d = is_some (option_and_then (at 2) (get k d))
