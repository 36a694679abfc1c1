-- The wires of a plan.
use Rattle.std.specs.Prelude.{All, false, [], length, map}
use Rattle.rina_stack.specs.declared.plan.Plan.{Plan}
use Rattle.rina_stack.specs.declared.plan.WirePlan.{WirePlan}
use Rattle.rina_stack.specs.Plan.{IsSoundWire}
use Rattle.rina_wire.specs.Air.{Air, Line}
use Rattle.rina_wire.specs.Storm.{draws_at}

-- all wires of the plan are sound
abbrev pub IsSoundPlan : Plan → Type 0
IsSoundPlan plan = All (IsSoundWire (length plan.nodes)) plan.wires

-- a wire that was not used yet
abbrev pub line_of : WirePlan → Line
line_of w = record { a = w.a; b = w.b; delay = w.delay; life = w.life; largest = w.largest; ends = []; waiting = []; names = []; flows = 0; frames = 0; flights = []; cut = false; storm = w.storm; draws = draws_at w.storm 0 }

-- the wires of a plan at the start
abbrev pub air_of : Plan → Air
air_of plan = record { now = 0; wires = map line_of plan.wires; failed = false }
