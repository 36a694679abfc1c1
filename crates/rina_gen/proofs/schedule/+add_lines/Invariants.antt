use Rattle.std.proofs.Common.{length}
use Rattle.rina_gen.proofs.schedule.+add_lines.Given as goal

abbrev pub decreases-add_lines : goal.decreases-add_lines
decreases-add_lines l = length l.lines.now
