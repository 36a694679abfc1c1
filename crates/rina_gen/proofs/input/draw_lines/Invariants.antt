use Rattle.std.proofs.Common.{◌≡◌}
use Rattle.rina_gen.specs.Several.{several}
use Rattle.rina_gen.specs.Input.{line_drawn}
use Rattle.rina_gen.proofs.input.draw_lines.Given as goal

abbrev pub invariant-loop : goal.invariant-loop
invariant-loop l = (l.lines ≡ (several (λ i. line_drawn) l.counter l.fn.generator).0) × (l.generator ≡ (several (λ i. line_drawn) l.counter l.fn.generator).1)
