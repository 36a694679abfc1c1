use Rattle.std.proofs.Common.{length}
use Rattle.rina_run.proofs.summary.+count_offs_of.Given as goal

abbrev pub decreases-count_offs_of : goal.decreases-count_offs_of
decreases-count_offs_of l = length l.difs.now
