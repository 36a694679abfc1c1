-- Drawing a stack and its schedule, in this order.
use Rattle.std.specs.Prelude.{ℕ, ◌+◌, ◌-◌, ◌%◌, nat_le, if◌then◌else◌}
use Rattle.rand_pcg.specs.Lcg.{Lcg}
use Rattle.rina_gen.specs.declared.input.Wire.{Wire}
use Rattle.rina_gen.specs.declared.input.Link.{Link}
use Rattle.rina_gen.specs.declared.input.Flow.{Flow}
use Rattle.rina_gen.specs.declared.input.Line.{Line}
use Rattle.rina_gen.specs.declared.input.Line.TheVariants as lines
use Rattle.rina_gen.specs.declared.input.Input.{Input}
use Rattle.rina_draws.specs.Draws.{drawn, seeded}
use Rattle.rina_gen.specs.Several.{several}

-- the next node of a ring of this many nodes
abbrev pub next_node : ℕ → ℕ → ℕ
next_node nodes i = (i + 1) % nodes

-- a wire from a node to the next one: its delay, and how many of 1,000 frames its storm loses and repeats
unfoldable pub wire_drawn : ℕ → ℕ → ℕ → Lcg → Wire × Lcg
wire_drawn seed nodes i g =
    let delay = drawn 3 g in
    let lose = drawn 60 delay.1 in
    let repeat = drawn 60 lose.1 in
    (record { number = i; to = next_node nodes i; delay = 1 + delay.0; seed = seed + i; lose = lose.0; repeat = repeat.0 }, repeat.1)

-- a link of the upper DIF from a node to the next one: the lower cube that carries it
unfoldable pub link_drawn : ℕ → ℕ → Lcg → Link × Lcg
link_drawn nodes i g =
    let cube = drawn 2 g in
    (record { from = i; to = next_node nodes i; cube = 1 + cube.0 }, cube.1)

-- a flow of the upper DIF: its cube, and two nodes that differ
unfoldable pub flow_drawn : ℕ → ℕ → Lcg → Flow × Lcg
flow_drawn nodes i g =
    let cube = drawn 2 g in
    let from = drawn nodes cube.1 in
    let step = drawn (nodes - 1) from.1 in
    (record { number = i; cube = 1 + cube.0; from = from.0; to = (from.0 + 1 + step.0) % nodes }, step.1)

-- the flow on which zero bytes are sent, and their number
unfoldable pub send_drawn : Lcg → Line × Lcg
send_drawn g =
    let flow = drawn 6 g in
    let zeros = drawn 1001 flow.1 in
    (lines.Send flow.0 zeros.0, zeros.1)

unfoldable pub read_drawn : Lcg → Line × Lcg
read_drawn g =
    let flow = drawn 6 g in
    (lines.Read flow.0, flow.1)

unfoldable pub tick_drawn : Lcg → Line × Lcg
tick_drawn g =
    let ticks = drawn 40 g in
    (lines.Tick (1 + ticks.0), ticks.1)

-- a line of the schedule: of ten, six send, two read and two let ticks pass
unfoldable pub line_drawn : Lcg → Line × Lcg
line_drawn g =
    let die = drawn 10 g in
    if nat_le die.0 5 then send_drawn die.1 else (if nat_le die.0 7 then read_drawn die.1 else tick_drawn die.1)

-- the number of lines of the schedule that are drawn
unfoldable pub line_count : ℕ
line_count = 300

-- a stack and its schedule, for a number of nodes that was drawn before
unfoldable pub input_of : ℕ → ℕ → Lcg → Input
input_of seed nodes g =
    let wires = several (wire_drawn seed nodes) nodes g in
    let links = several (link_drawn nodes) nodes wires.1 in
    let flows = several (flow_drawn nodes) 6 links.1 in
    let lines = several (λ i. line_drawn) line_count flows.1 in
    record { wires = wires.0; links = links.0; flows = flows.0; lines = lines.0 }

-- a stack and its schedule
abbrev pub input : ℕ → Input
input seed =
    let nodes = drawn 4 (seeded seed) in
    input_of seed (3 + nodes.0) nodes.1
