use Rattle.std.proofs.Common.{◌≡◌, []}
use Rattle.rina_dif.specs.declared.dif.Dif.{Dif}
use Rattle.rina_dif.specs.Shown.{seen_of}
use Rattle.rina_dif.proofs.Rested.{SoFar}
use Rattle.rina_tower.proofs.difs.rest.none_waits.Given as goal

abbrev pub invariant-loop-at : goal.invariant-loop-at
invariant-loop-at l = SoFar (λ (d : Dif). (seen_of d).waiting ≡ []) l.difs l.at
