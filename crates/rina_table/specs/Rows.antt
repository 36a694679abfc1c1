-- The tables of a stack, each with all its keys. The item n is the one that they belong to.
use Rattle.std.specs.Prelude.{ℕ, List, codes, Option, Some, None, Result, Ok, if◌then◌else◌, option_and_then}
use Rattle.std.specs.Str.{bytes_eq}
use Rattle.toml.specs.Data.{Data, get}
use Rattle.rina_base.specs.declared.storm.Storm.{Storm}
use Rattle.rina_base.specs.Traverse.{◌>>=◌}
use Rattle.rina_access.specs.declared.rules.Act.{Act}
use Rattle.rina_access.specs.declared.rules.Act.TheVariants.{Allocate, Enrol}
use Rattle.rina_access.specs.declared.rules.Rule.{Rule}
use Rattle.rina_cube.specs.declared.Cube.{Cube}
use Rattle.rina_cube.specs.declared.Kind.{Kind}
use Rattle.rina_cube.specs.declared.Kind.TheVariants.{Datagram, Loose, Reliable}
use Rattle.rina_pci.specs.declared.widths.Widths.{Widths}
use Rattle.rina_plan.specs.declared.dif.MemberPlan.{MemberPlan}
use Rattle.rina_plan.specs.declared.dif.LinkPlan.{LinkPlan}
use Rattle.rina_plan.specs.declared.dif.EndPlan.{EndPlan}
use Rattle.rina_plan.specs.declared.dif.FlowPlan.{FlowPlan}
use Rattle.rina_table.specs.declared.error.StackError.{StackError}
use Rattle.rina_table.specs.declared.scope.Scope.{Scope}
use Rattle.rina_table.specs.declared.sketch.WireSketch.{WireSketch}
use Rattle.rina_table.specs.Faults.{required, unless}
use Rattle.rina_table.specs.Values.{text_at, truth_in, element, has_third}
use Rattle.rina_table.specs.Fields.{name_in, subject_in, number_in, number_or, width_in, node_named, node_in, lower_in}

-- ---- the words of a key: rule 3

unfoldable pub kind_of : List ℕ → Option Kind
kind_of t = if bytes_eq t (codes "datagram") then Some Datagram else (if bytes_eq t (codes "loose") then Some Loose else (if bytes_eq t (codes "reliable") then Some Reliable else None))

unfoldable pub act_of : List ℕ → Option Act
act_of t = if bytes_eq t (codes "allocate") then Some Allocate else (if bytes_eq t (codes "enrol") then Some Enrol else None)

unfoldable pub kind_in : ℕ → Data → Result Kind StackError
kind_in n d = required n (option_and_then kind_of (text_at (codes "kind") d))

unfoldable pub act_in : ℕ → Data → Result Act StackError
act_in n d = required n (option_and_then act_of (text_at (codes "act") d))

-- ---- parts of a DIF

unfoldable pub widths_at : Scope → ℕ → Data → Result Widths StackError
widths_at s n d = do
  addr ← width_in s n (codes "addr") d
  cep ← width_in s n (codes "cep") d
  len ← width_in s n (codes "len") d
  seq ← width_in s n (codes "seq") d
  Ok (record { addr = addr; cep = cep; len = len; seq = seq })

-- the cube of management: reliable, with id 0, for messages of up to 325 bytes
unfoldable pub manage_at : Scope → ℕ → Data → Result Cube StackError
manage_at s n d = do
  mpl ← number_in s n (codes "mpl") d 1 1000000
  r ← number_in s n (codes "r") d 0 1000000
  a ← number_in s n (codes "a") d 0 1000000
  retry ← number_in s n (codes "retry") d 0 1000000
  window ← number_in s n (codes "window") d 1 256
  Ok (record { id = 0; kind = Reliable; mpl = mpl; r = r; a = a; retry = retry; window = window; largest = 325 })

unfoldable pub cube_at : Scope → ℕ → Data → Result Cube StackError
cube_at s n d = do
  id ← number_in s n (codes "id") d 1 255
  kind ← kind_in n d
  mpl ← number_in s n (codes "mpl") d 1 1000000
  r ← number_or s n (codes "r") d 0 1000000
  a ← number_or s n (codes "a") d 0 1000000
  retry ← number_or s n (codes "retry") d 0 1000000
  window ← number_in s n (codes "window") d 1 256
  largest ← number_in s n (codes "largest") d 1 65535
  Ok (record { id = id; kind = kind; mpl = mpl; r = r; a = a; retry = retry; window = window; largest = largest })

unfoldable pub member_at : Scope → ℕ → Data → Result MemberPlan StackError
member_at s n d = do
  node ← node_in s n (codes "node") d
  addr ← number_in s n (codes "addr") d 0 4294967295
  Ok (record { node = node; addr = addr })

unfoldable pub rule_at : Scope → ℕ → Data → Result Rule StackError
rule_at s n d = do
  subject ← subject_in s n (codes "subject") d
  act ← act_in n d
  allow ← truth_in n (codes "allow") d
  Ok (record { subject = subject; act = act; allow = allow })

unfoldable pub link_at : Scope → ℕ → Data → Result LinkPlan StackError
link_at s n d = do
  on ← lower_in s n (codes "on") d
  a ← node_in s n (codes "a") d
  b ← node_in s n (codes "b") d
  weight ← number_or s n (codes "weight") d 1 65535
  cube ← number_or s n (codes "cube") d 0 255
  Ok (record { on = on; a = a; b = b; weight = weight; cube = cube })

-- an end of a flow, at the key `from` or `to`
unfoldable pub end_at : Scope → ℕ → Data → Result EndPlan StackError
end_at s n d = do
  node ← node_in s n (codes "node") d
  app ← name_in s n (codes "app") d
  label ← name_in s n (codes "label") d
  Ok (record { node = node; app = app; label = label })

unfoldable pub flow_at : Scope → ℕ → Data → Result FlowPlan StackError
flow_at s n d = do
  cube ← number_in s n (codes "cube") d 0 255
  from ← required n (get (codes "from") d)
  to ← required n (get (codes "to") d)
  asker ← end_at s n from
  other ← end_at s n to
  Ok (record { cube = cube; from = asker; to = other })

-- ---- wires and DIFs, the items

unfoldable pub storm_at : Scope → ℕ → Data → Result Storm StackError
storm_at s n d = do
  seed ← number_in s n (codes "seed") d 0 9007199254740991
  lose ← number_in s n (codes "lose") d 0 1000
  repeat ← number_in s n (codes "repeat") d 0 1000
  spread ← number_in s n (codes "spread") d 0 100000
  Ok (record { seed = seed; lose = lose; repeat = repeat; spread = spread })

abbrev pub storm_or : Scope → ℕ → Option Data → Result (Option Storm) StackError
storm_or s n None = Ok None
storm_or s n (Some d) = storm_at s n d >>= λ storm. Ok (Some storm)

-- the node at an end of a wire
unfoldable pub wire_end : Scope → ℕ → Data → ℕ → Result ℕ StackError
wire_end s n d i = required n (element i (codes "ends") d) >>= node_named s n

unfoldable pub wire_at : Scope → ℕ → Data → Result WireSketch StackError
wire_at s n d = do
  name ← name_in s n (codes "name") d
  a ← wire_end s n d 0
  b ← wire_end s n d 1
  _ ← unless 3 (if has_third (codes "ends") d then Some n else None)
  delay ← number_in s n (codes "delay") d 1 100000
  life ← number_in s n (codes "life") d 1 100000
  largest ← number_in s n (codes "largest") d 1 65535
  storm ← storm_or s n (get (codes "storm") d)
  Ok (record { name = name; a = a; b = b; delay = delay; life = life; largest = largest; storm = storm })
