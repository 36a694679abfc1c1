use Rattle.rina_data.specs.declared.process.IpcProcess.{IpcProcess}
use Rattle.rina_dif.specs.Resting.{IsAtRest}
use Rattle.rina_dif.proofs.Rested.{SoFar}
use Rattle.rina_dif.proofs.rest.are_at_rest.Given as goal

abbrev pub invariant-loop-at : goal.invariant-loop-at
invariant-loop-at g l = SoFar (λ (p : IpcProcess). IsAtRest p (g.F.Facility.seen l.below)) l.processes l.at
