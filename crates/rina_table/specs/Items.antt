-- The table of a DIF, and the whole stack.
use Rattle.std.specs.Prelude.{ℕ, ◌+◌, ◌<◌, ◌==◌, IsSome, true, false, List, codes, length, Option, Some, None, Result, Ok, if◌then◌else◌, option_and_then}
use Rattle.std.specs.Str.{bytes_eq}
use Rattle.toml.specs.Data.{Data, get, as_str}
use Rattle.rina_base.specs.Traverse.{◌>>=◌, traverse}
use Rattle.rina_cube.specs.declared.Cube.{Cube}
use Rattle.rina_pci.specs.declared.widths.Widths.{Widths}
use Rattle.rina_plan.specs.declared.dif.DifPlan.{DifPlan}
use Rattle.rina_table.specs.declared.error.StackError.{StackError}
use Rattle.rina_table.specs.declared.sketch.Rounds.{Rounds}
use Rattle.rina_table.specs.declared.sketch.Rounds.TheVariants.{Auto, Manual}
use Rattle.rina_table.specs.declared.scope.Scope.{Scope}
use Rattle.rina_table.specs.declared.sketch.Sketch.{Sketch}
use Rattle.rina_table.specs.Faults.{required, unless}
use Rattle.rina_table.specs.Keys.{items_in, items_at}
use Rattle.rina_table.specs.Values.{truth_or, rows_in, rows_or, tables_in}
use Rattle.rina_table.specs.Fields.{named, name_in, number_in}
use Rattle.rina_table.specs.Rows.{widths_at, manage_at, cube_at, member_at, rule_at, link_at, flow_at, wire_at}

-- the item has the first policy that does not exist
abbrev pub unknown_at : Option ℕ → ℕ → Option ℕ
unknown_at None n = None
unknown_at (Some m) n = if m == n then Some n else None

unfoldable pub widths_in : Scope → ℕ → Data → Result Widths StackError
widths_in s n d = required n (get (codes "widths") d) >>= widths_at s n

unfoldable pub manage_in : Scope → ℕ → Data → Result Cube StackError
manage_in s n d = required n (get (codes "manage") d) >>= manage_at s n

unfoldable pub dif_at : Scope → ℕ → Data → Result DifPlan StackError
dif_at s n d = do
  name ← name_in s n (codes "name") d
  rank ← number_in s n (codes "rank") d 1 8
  is_static ← truth_or n false (get (codes "static") d)
  pdu ← number_in s n (codes "pdu") d 18 4096
  widths ← widths_in s n d
  queue ← number_in s n (codes "queue") d 1 256
  policy ← name_in s n (codes "policy") d
  _ ← unless 7 (unknown_at s.unknown n)
  wait ← number_in s n (codes "wait") d 1 1000000
  manage ← manage_in s n d
  cubes ← rows_in (cube_at s n) n (codes "cube") d
  members ← rows_in (member_at s n) n (codes "member") d
  allow ← truth_or n true (get (codes "default") d)
  rules ← rows_or (rule_at s n) n (codes "rule") d
  links ← rows_or (link_at s n) n (codes "link") d
  flows ← rows_or (flow_at s n) n (codes "flow") d
  Ok (record { name = name; rank = rank; is_static = is_static; pdu = pdu; widths = widths; queue = queue; policy = policy; wait = wait; manage = manage; cubes = cubes; members = members; allow = allow; rules = rules; links = links; flows = flows })

-- ---- the top

abbrev pub rounds_of : List ℕ → Option Rounds
rounds_of t = if bytes_eq t (codes "auto") then Some Auto else (if bytes_eq t (codes "manual") then Some Manual else None)

abbrev pub rounds_or : Option Data → Result Rounds StackError
rounds_or None = Ok Auto
rounds_or (Some d) = required 0 (option_and_then rounds_of (as_str d))

-- the name of a node
unfoldable pub node_row : Scope → ℕ → Data → Result (List ℕ) StackError
node_row s n d = required n (as_str d) >>= named s n

-- a stack has a list of nodes, and a row: a node, a wire or a DIF
pub record HasRows (d : Data) : Type 0 where
  pub nodes : IsSome (items_in (codes "nodes") d)
  pub some : 0 < length (items_at (codes "nodes") d) + length (items_at (codes "wire") d) + length (items_at (codes "dif") d)

-- the stack, read with the rules of the scope; wires are the items from 1 on, and DIFs follow them
unfoldable pub sketch_at : Scope → Data → Result Sketch StackError
sketch_at s d = do
  nodes ← rows_in (node_row s 0) 0 (codes "nodes") d
  rounds ← rounds_or (get (codes "rounds") d)
  wire_tables ← tables_in 0 (codes "wire") d
  dif_tables ← tables_in 0 (codes "dif") d
  wires ← traverse (wire_at s) 1 wire_tables
  difs ← traverse (dif_at s) (1 + length wire_tables) dif_tables
  Ok (record { nodes = nodes; rounds = rounds; wires = wires; difs = difs })
