use Rattle.std.proofs.Common.{◌≡◌}
use Rattle.rina_gen.specs.Several.{several}
use Rattle.rina_gen.specs.Input.{flow_drawn}
use Rattle.rina_gen.proofs.input.draw_flows.Given as goal

abbrev pub invariant-loop-i : goal.invariant-loop-i
invariant-loop-i l = (l.flows ≡ (several (flow_drawn l.nodes) l.i l.fn.generator).0) × (l.generator ≡ (several (flow_drawn l.nodes) l.i l.fn.generator).1)
