-- So far each management is as it starts.
use Rattle.std.proofs.Common.{◌≤◌, length}
use Rattle.rina_dif.specs.Managing.{AreStarted}
use Rattle.rina_dif.proofs.managements.start_all.Given as goal

abbrev pub invariant-loop-at : goal.invariant-loop-at
invariant-loop-at l = (l.at ≤ length l.members) × AreStarted l.is_static l.cubes l.members l.plans l.rules l.allow l.at l.processes l.managements
