use Rattle.std.proofs.Common.{◌≡◌, []}
use Rattle.rina_member.specs.declared.management.Management.{Management}
use Rattle.rina_dif.proofs.Rested.{SoFar}
use Rattle.rina_dif.proofs.rest.none_waits.Given as goal

abbrev pub invariant-loop-at : goal.invariant-loop-at
invariant-loop-at l = SoFar (λ (g : Management). g.agent.agenda ≡ []) l.managements l.at
