use Rattle.std.proofs.Common.{◌≡◌, drop, slice_get}
use Rattle.rina_notes.specs.Sites.{names_at}
use Rattle.rina_notes.proofs.facility.name_at.Given as goal

abbrev pub invariant-difs : goal.invariant-difs
invariant-difs l = slice_get (names_at l.rank (drop l.dif-index l.difs)) l.left ≡ slice_get (names_at l.rank l.difs) l.fac
