-- So far these flows were told.
use Rattle.std.proofs.Common.{◌≡◌, take}
use Rattle.std.specs.List.{fold}
use Rattle.rina_dif.specs.Objects.{told_open}
use Rattle.rina_dif.proofs.rib.tell_open.Given as goal

abbrev pub invariant-loop-flow : goal.invariant-loop-flow
invariant-loop-flow l = l.rib ≡ fold told_open l.fn.rib (take l.flow-index l.flows)
