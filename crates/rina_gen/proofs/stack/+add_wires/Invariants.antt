use Rattle.std.proofs.Common.{length}
use Rattle.rina_gen.proofs.stack.+add_wires.Given as goal

abbrev pub decreases-add_wires : goal.decreases-add_wires
decreases-add_wires l = length l.wires.now
