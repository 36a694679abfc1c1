-- Names, numbers and references at the keys of a table.
-- A scope says which rules are tried: those up to `upto`. What breaks a later rule is read as a value that breaks none.
use Rattle.std.specs.Prelude.{ℕ, ◌==◌, ◌||◌, Bool, ℤ, pos, int_le, ◌&&◌, unsigned_abs, List, codes, Option, Some, None, Result, if◌then◌else◌}
use Rattle.toml.specs.Data.{Data, get}
use Rattle.rina_base.specs.Traverse.{◌>>=◌}
use Rattle.rina_plan.specs.declared.dif.Lower.{Lower}
use Rattle.rina_plan.specs.declared.dif.Lower.TheVariants.{Wire}
use Rattle.rina_access.specs.declared.rules.Subject.{Subject}
use Rattle.rina_access.specs.declared.rules.Subject.TheVariants.{All}
use Rattle.rina_table.specs.declared.error.StackError.{StackError}
use Rattle.rina_table.specs.declared.scope.Scope.{Scope}
use Rattle.rina_table.specs.Faults.{required_by}
use Rattle.rina_table.specs.Names.{place_in, as_name, as_subject, lower_named}
use Rattle.rina_table.specs.Values.{text_in, integer_in, integer_or}

-- ---- names: rule 4

-- a text as a name
unfoldable pub named : Scope → ℕ → List ℕ → Result (List ℕ) StackError
named s n t = required_by s.upto 4 n (codes "-") (as_name t)

unfoldable pub name_in : Scope → ℕ → List ℕ → Data → Result (List ℕ) StackError
name_in s n k d = text_in n k d >>= named s n

unfoldable pub subject_in : Scope → ℕ → List ℕ → Data → Result Subject StackError
subject_in s n k d = text_in n k d >>= λ t. required_by s.upto 4 n All (as_subject t)

-- ---- numbers: rule 6

abbrev pub is_between : ℤ → ℤ → ℤ → Bool
is_between least most z = int_le least z && int_le z most

unfoldable pub as_number : ℕ → ℕ → ℤ → Option ℕ
as_number least most z = if is_between (pos least) (pos most) z then Some (unsigned_abs z) else None

-- a number from a range; where rule 6 is not tried, the least one is read in place of one outside
unfoldable pub ranged : Scope → ℕ → ℕ → ℕ → ℤ → Result ℕ StackError
ranged s n least most z = required_by s.upto 6 n least (as_number least most z)

unfoldable pub number_in : Scope → ℕ → List ℕ → Data → ℕ → ℕ → Result ℕ StackError
number_in s n k d least most = integer_in n k d >>= ranged s n least most

-- the least number where there is no such key
unfoldable pub number_or : Scope → ℕ → List ℕ → Data → ℕ → ℕ → Result ℕ StackError
number_or s n k d least most = integer_or n (pos least) (get k d) >>= ranged s n least most

-- how many bytes a field has: 1, 2 or 4
abbrev pub is_width : ℕ → Bool
is_width w = (w == 1) || (w == 2) || (w == 4)

abbrev pub as_width : ℕ → Option ℕ
as_width w = if is_width w then Some w else None

unfoldable pub width_in : Scope → ℕ → List ℕ → Data → Result ℕ StackError
width_in s n k d = number_in s n k d 1 4 >>= λ w. required_by s.upto 6 n 1 (as_width w)

-- ---- references: rule 7

unfoldable pub node_named : Scope → ℕ → List ℕ → Result ℕ StackError
node_named s n t = named s n t >>= λ name. required_by s.upto 7 n 0 (place_in s.nodes name)

unfoldable pub node_in : Scope → ℕ → List ℕ → Data → Result ℕ StackError
node_in s n k d = text_in n k d >>= node_named s n

unfoldable pub lower_in : Scope → ℕ → List ℕ → Data → Result Lower StackError
lower_in s n k d = name_in s n k d >>= λ name. required_by s.upto 7 n (Wire 0) (lower_named s.wires s.difs name)
