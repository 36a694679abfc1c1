use Rattle.std.proofs.Common.{◌≡◌}
use Rattle.rina_gen.specs.Several.{several}
use Rattle.rina_gen.specs.Input.{link_drawn}
use Rattle.rina_gen.proofs.input.draw_links.Given as goal

abbrev pub invariant-loop-i : goal.invariant-loop-i
invariant-loop-i l = (l.links ≡ (several (link_drawn l.nodes) l.i l.fn.generator).0) × (l.generator ≡ (several (link_drawn l.nodes) l.i l.fn.generator).1)
