use Rattle.std.proofs.Common.{length}
use Rattle.rina_gen.proofs.listed.+add_others.Given as goal

abbrev pub decreases-add_others : goal.decreases-add_others
decreases-add_others g l = length l.parts.now
