-- The plan of a table, or the first rule that it breaks.
use Rattle.std.specs.Prelude.{◌≡◌, ℕ, ◌+◌, Bool, List, length, map, Option, Some, Result, Ok, Err, option_map, IsUtf8}
use Rattle.toml.specs.Data.{Data, table, Members}
use Rattle.toml.specs.Parse.{parse_document}
use Rattle.rina_base.specs.Traverse.{◌>>=◌}
use Rattle.rina_stack.specs.declared.plan.WirePlan.{WirePlan}
use Rattle.rina_stack.specs.declared.plan.Plan.{Plan}
use Rattle.rina_table.specs.declared.error.StackError.{StackError}
use Rattle.rina_table.specs.declared.error.StackError.TheVariants.{Memory, NotToml, StackRule}
use Rattle.rina_table.specs.declared.sketch.WireSketch.{WireSketch}
use Rattle.rina_table.specs.declared.sketch.Sketch.{Sketch}
use Rattle.rina_table.specs.Faults.{unless}
use Rattle.rina_table.specs.Keys.{keys_fault}
use Rattle.rina_table.specs.Items.{sketch_at}
use Rattle.rina_stack.specs.Policies.{unknown_policy}
use Rattle.rina_stack.specs.Rules.{duplicate_fault}
use Rattle.rina_stack.specs.Order.{rules_at}
use Rattle.rina_stack.specs.Scopes.{unresolved_scope, resolved_scope}

-- the item of the first DIF whose policy is not known
abbrev pub unknown_item : (List ℕ → Bool) → Sketch → Option ℕ
unknown_item known named = option_map (λ i. 1 + length named.wires + i) (unknown_policy known named.difs)

-- the stack with its references, by the names that it has
unfoldable pub resolved_at : (List ℕ → Bool) → Sketch → Data → Result Sketch StackError
resolved_at known named d = sketch_at (resolved_scope named (unknown_item known named)) d

abbrev pub narrow : WireSketch → WirePlan
narrow w = record { name = w.name; a = w.a; b = w.b; delay = w.delay; life = w.life; largest = w.largest; storm = w.storm }

abbrev pub plan_of : Sketch → Plan
plan_of s = record { nodes = s.nodes; rounds = s.rounds; wires = map narrow s.wires; difs = s.difs }

-- The plan of a table, or the first rule that it breaks. Rule by rule over the whole stack: the keys (2), the types (3), the names (4), names that stand
-- twice (5), the numbers (6), what names refer to (7), and the rules on the stack as a whole. `known` are the policies.
unfoldable pub stack_at : (List ℕ → Bool) → Data → Result Plan StackError
stack_at known d = do
  _ ← unless 2 (keys_fault d)
  _ ← sketch_at (unresolved_scope 3) d
  named ← sketch_at (unresolved_scope 4) d
  _ ← unless 5 (duplicate_fault named)
  _ ← sketch_at (unresolved_scope 6) d
  s ← resolved_at known named d
  _ ← rules_at s
  Ok (plan_of s)

-- the text is TOML, and this is its table
abbrev pub IsTable : List ℕ → Members → Type 0
IsTable text ms = IsUtf8 text × (parse_document text ≡ Some ms)

-- What reading a text gives, where `f` is what a table gives. NotToml is exact: what has a table has a plan or breaks a rule.
abbrev pub ReadsBy : (Data → Result Plan StackError) → Result Plan StackError → List ℕ → Type 0
ReadsBy f (Ok plan) text = (ms : Members) × IsTable text ms × (f (table ms) ≡ Ok plan)
ReadsBy f (Err Memory) text = Unit {0}
ReadsBy f (Err NotToml) text = (ms : Members) → IsTable text ms → ⊥
ReadsBy f (Err (StackRule n k)) text = (ms : Members) × IsTable text ms × (f (table ms) ≡ Err (StackRule n k))

-- what reading a text gives, where these policies are known
abbrev pub Reads : (List ℕ → Bool) → Result Plan StackError → List ℕ → Type 0
Reads known = ReadsBy (stack_at known)
