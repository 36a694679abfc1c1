-- So far these cubes were told.
use Rattle.std.proofs.Common.{◌≡◌, take}
use Rattle.std.specs.List.{fold}
use Rattle.rina_member.specs.Objects.{cube_told}
use Rattle.rina_member.proofs.objects.tell_cubes.Given as goal

abbrev pub invariant-loop-cube : goal.invariant-loop-cube
invariant-loop-cube l = l.rib ≡ fold cube_told l.fn.rib (take l.cube-index l.cubes)
