-- What holds of the wires and DIFs of a stack that was read with its references.
use Rattle.std.specs.Prelude.{◌≡◌, ℕ, ◌^◌, ◌<◌, ◌≤◌, All, length, Option, Some, None, Ok}
use Rattle.rina_base.specs.declared.storm.Storm.{Storm}
use Rattle.rina_base.specs.Names.{name_at}
use Rattle.rina_cube.specs.declared.Cube.{Cube}
use Rattle.rina_cube.specs.declared.Kind.TheVariants.{Reliable}
use Rattle.rina_pci.specs.Spelling.{AreWidths}
use Rattle.rina_plan.specs.declared.dif.MemberPlan.{MemberPlan}
use Rattle.rina_plan.specs.declared.dif.LinkPlan.{LinkPlan}
use Rattle.rina_plan.specs.declared.dif.FlowPlan.{FlowPlan}
use Rattle.rina_plan.specs.declared.dif.DifPlan.{DifPlan}
use Rattle.rina_plan.specs.Numbers.{IsLower}
use Rattle.rina_table.specs.declared.sketch.WireSketch.{WireSketch}
use Rattle.rina_table.specs.declared.sketch.Sketch.{Sketch}

-- the numbers of a storm are in range: its seed has 53 bits, and it loses and repeats so many of 1,000 frames
abbrev pub IsRangedStorm : Option Storm → Type 0
IsRangedStorm None = Unit {0}
IsRangedStorm (Some s) = (s.seed < 2 ^ 53) × (s.lose ≤ 1000) × (s.repeat ≤ 1000) × (s.spread ≤ 100000)

-- a wire among so many nodes: its ends are there, and its numbers are in range
pub record IsRangedWire (nodes : ℕ) (w : WireSketch) : Type 0 where
  pub a : w.a < nodes
  pub b : w.b < nodes
  pub least_delay : 1 ≤ w.delay
  pub life : w.life ≤ 100000
  pub least_largest : 1 ≤ w.largest
  pub largest : w.largest ≤ 65535
  pub storm : IsRangedStorm w.storm

-- a link among so many nodes, wires and DIFs
pub record IsSoundLink (nodes wires difs : ℕ) (l : LinkPlan) : Type 0 where
  pub on : IsLower wires difs l.on
  pub a : l.a < nodes
  pub b : l.b < nodes
  pub least_weight : 1 ≤ l.weight
  pub weight : l.weight ≤ 65535

-- the numbers of a cube are in range; whether its times fit its kind is another question
pub record IsRangedCube (c : Cube) : Type 0 where
  pub least_mpl : 1 ≤ c.mpl
  pub mpl : c.mpl ≤ 1000000
  pub r : c.r ≤ 1000000
  pub a : c.a ≤ 1000000
  pub retry : c.retry ≤ 1000000
  pub least_window : 1 ≤ c.window
  pub window : c.window ≤ 256
  pub least_largest : 1 ≤ c.largest
  pub largest : c.largest ≤ 65535

-- the cube of management connections is reliable, has id 0, and is in range
pub record IsManageCube (c : Cube) : Type 0 where
  pub ranged : IsRangedCube c
  pub id : c.id ≡ 0
  pub kind : c.kind ≡ Reliable

-- a cube of flows has an id of its own, which is not that of management, and is in range
pub record IsFlowCube (c : Cube) : Type 0 where
  pub ranged : IsRangedCube c
  pub id : 1 ≤ c.id

-- a DIF among so many nodes, wires and DIFs: its numbers are in range, and what it refers to is there
pub record IsRangedDif (nodes wires difs : ℕ) (d : DifPlan) : Type 0 where
  pub least_rank : 1 ≤ d.rank
  pub rank : d.rank ≤ 8
  pub least_pdu : 18 ≤ d.pdu
  pub pdu : d.pdu ≤ 4096
  pub widths : AreWidths d.widths
  pub least_queue : 1 ≤ d.queue
  pub queue : d.queue ≤ 256
  pub least_wait : 1 ≤ d.wait
  pub wait : d.wait ≤ 1000000
  pub manage : IsManageCube d.manage
  pub cubes : All IsFlowCube d.cubes
  pub members : All (λ (m : MemberPlan). m.node < nodes) d.members
  pub links : All (IsSoundLink nodes wires difs) d.links
  pub flows : All (λ (f : FlowPlan). (f.from.node < nodes) × (f.to.node < nodes)) d.flows

-- the applications of a flow are names
abbrev pub HasNames : FlowPlan → Type 0
HasNames f = (name_at f.from.app ≡ Ok f.from.app) × (name_at f.to.app ≡ Ok f.to.app)

-- the names in a DIF are names
pub record IsNamed (d : DifPlan) : Type 0 where
  pub name : name_at d.name ≡ Ok d.name
  pub flows : All HasNames d.flows

-- a stack whose references were looked up among the names of another: its wires and DIFs are in range, refer to what is there, and have names
pub record IsSoundSketch (named s : Sketch) : Type 0 where
  pub wires : All (IsRangedWire (length named.nodes)) s.wires
  pub difs : All (IsRangedDif (length named.nodes) (length named.wires) (length named.difs)) s.difs
  pub are_named : All IsNamed s.difs
