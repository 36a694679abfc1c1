-- Keys of a table that are read together, as they stand one after the other.
use Rattle.std.specs.Prelude.{ℕ, ◌+◌, Bool, true, false, List, codes, length, Result, Ok}
use Rattle.toml.specs.Data.{Data, get}
use Rattle.rina_base.specs.Traverse.{◌>>=◌, traverse}
use Rattle.rina_access.specs.declared.rules.Rule.{Rule}
use Rattle.rina_cube.specs.declared.Cube.{Cube}
use Rattle.rina_plan.specs.declared.dif.DifPlan.{DifPlan}
use Rattle.rina_table.specs.declared.error.StackError.{StackError}
use Rattle.rina_table.specs.declared.scope.Scope.{Scope}
use Rattle.rina_table.specs.declared.sketch.WireSketch.{WireSketch}
use Rattle.rina_table.specs.declared.dif.Numbers.{Numbers}
use Rattle.rina_table.specs.declared.dif.Head.{Head}
use Rattle.rina_table.specs.declared.dif.Lists.{Lists}
use Rattle.rina_table.specs.Faults.{unless}
use Rattle.rina_table.specs.Values.{truth_or, rows_in, rows_or, tables_in}
use Rattle.rina_table.specs.Fields.{name_in, number_in}
use Rattle.rina_table.specs.Rows.{cube_at, member_at, rule_at, link_at, flow_at, wire_at}
use Rattle.rina_table.specs.Items.{unknown_at, widths_in, manage_in, dif_at}

-- the numbers of a DIF
unfoldable pub numbers_at : Scope → ℕ → Data → Result Numbers StackError
numbers_at s n d = do
  rank ← number_in s n (codes "rank") d 1 8
  is_static ← truth_or n false (get (codes "static") d)
  pdu ← number_in s n (codes "pdu") d 18 4096
  widths ← widths_in s n d
  queue ← number_in s n (codes "queue") d 1 256
  Ok (record { rank = rank; is_static = is_static; pdu = pdu; widths = widths; queue = queue })

-- the policy of a DIF, which has to exist
unfoldable pub policy_at : Scope → ℕ → Data → Result (List ℕ) StackError
policy_at s n d = do
  policy ← name_in s n (codes "policy") d
  _ ← unless 7 (unknown_at s.unknown n)
  Ok policy

-- what a DIF is called, its numbers and its policy
unfoldable pub head_at : Scope → ℕ → Data → Result Head StackError
head_at s n d = do
  name ← name_in s n (codes "name") d
  numbers ← numbers_at s n d
  policy ← policy_at s n d
  Ok (record { name = name; numbers = numbers; policy = policy })

-- how long an asker waits, and the cube of management
unfoldable pub asking_at : Scope → ℕ → Data → Result (ℕ × Cube) StackError
asking_at s n d = do
  wait ← number_in s n (codes "wait") d 1 1000000
  manage ← manage_in s n d
  Ok (wait, manage)

-- whether an act is allowed where no rule matches, and the rules
unfoldable pub access_at : Scope → ℕ → Data → Result (Bool × List Rule) StackError
access_at s n d = do
  allow ← truth_or n true (get (codes "default") d)
  rules ← rows_or (rule_at s n) n (codes "rule") d
  Ok (allow, rules)

-- what stands in the lists of a DIF
unfoldable pub lists_at : Scope → ℕ → Data → Result Lists StackError
lists_at s n d = do
  cubes ← rows_in (cube_at s n) n (codes "cube") d
  members ← rows_in (member_at s n) n (codes "member") d
  access ← access_at s n d
  links ← rows_or (link_at s n) n (codes "link") d
  flows ← rows_or (flow_at s n) n (codes "flow") d
  Ok (record { cubes = cubes; members = members; allow = access.0; rules = access.1; links = links; flows = flows })

-- the wires and the DIFs of a stack
unfoldable pub items_of : Scope → Data → Result (List WireSketch × List DifPlan) StackError
items_of s d = do
  wire_tables ← tables_in 0 (codes "wire") d
  dif_tables ← tables_in 0 (codes "dif") d
  wires ← traverse (wire_at s) 1 wire_tables
  difs ← traverse (dif_at s) (1 + length wire_tables) dif_tables
  Ok (wires, difs)
