use Rattle.std.proofs.Common.{◌≡◌}
use Rattle.rina_gen.specs.Several.{several}
use Rattle.rina_gen.specs.Input.{wire_drawn}
use Rattle.rina_gen.proofs.input.draw_wires.Given as goal

abbrev pub invariant-loop-i : goal.invariant-loop-i
invariant-loop-i l = (l.wires ≡ (several (wire_drawn l.seed l.nodes) l.i l.fn.generator).0) × (l.generator ≡ (several (wire_drawn l.seed l.nodes) l.i l.fn.generator).1)
