use Rattle.std.proofs.Common.{drop}
use Rattle.rina_flows.specs.Quiet.{AreQuietBeside}
use Rattle.rina_flows.proofs.watch.Watch.quiet_until.Given as goal

-- nothing is due before beside the places that are left
abbrev pub invariant-loop-place : goal.invariant-loop-place
invariant-loop-place l = AreQuietBeside (drop l.place l.self.places.items) l.until l.conns
