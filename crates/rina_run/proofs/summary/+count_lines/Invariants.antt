use Rattle.std.proofs.Common.{length}
use Rattle.rina_run.proofs.summary.+count_lines.Given as goal

abbrev pub decreases-count_lines : goal.decreases-count_lines
decreases-count_lines l = length l.processes.now
