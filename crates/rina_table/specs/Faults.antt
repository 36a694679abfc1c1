-- The error for a rule that is broken, and what a call returns where memory runs out.
use Rattle.std.specs.Prelude.{◌≡◌, ℕ, min, nat_lt, Option, Some, None, Result, Ok, Err, if◌then◌else◌}
use Rattle.rina_table.specs.declared.error.StackError.{StackError}
use Rattle.rina_table.specs.declared.error.StackError.TheVariants.{Memory, NotToml, StackRule}

-- the error of rule n at an item; a place above the greatest number of 32 bits is told as that number
abbrev pub rule_error : ℕ → ℕ → StackError
rule_error n place = StackRule n (min place 4294967295)

-- the error of rule n, where an item breaks it
abbrev pub unless : ℕ → Option ℕ → Result (Unit {0}) StackError
unless n None = Ok tt
unless n (Some place) = Err (rule_error n place)

-- what rule 3 requires of an item
abbrev pub required : {A : Type 0} → ℕ → Option A → Result A StackError
required place (Some x) = Ok x
required place None = Err (rule_error 3 place)

-- what rule n requires of an item; where only rules below n are tried, `instead` is read in its place
abbrev pub required_by : {A : Type 0} → ℕ → ℕ → ℕ → A → Option A → Result A StackError
required_by upto n place instead (Some x) = Ok x
required_by upto n place instead None = if nat_lt upto n then Ok instead else Err (rule_error n place)

-- what a call returned, seen by view, is what the definition gives, unless memory ran out
abbrev pub Gives : {X Y : Type 0} → (X → Y) → Result X StackError → Result Y StackError → Type 0
Gives view (Ok x) read = read ≡ Ok (view x)
Gives view (Err Memory) read = Unit {0}
Gives view (Err NotToml) read = ⊥
Gives view (Err (StackRule n k)) read = read ≡ Err (StackRule n k)
