-- So far the id of each cube is there.
use Rattle.std.proofs.Common.{◌≡◌, take}
use Rattle.rina_dif.specs.Building.{queue_ids}
use Rattle.rina_dif.proofs.start.queue_ids.Given as goal

abbrev pub invariant-loop-cube : goal.invariant-loop-cube
invariant-loop-cube l = l.ids.items ≡ queue_ids (take l.cube-index l.cubes)
