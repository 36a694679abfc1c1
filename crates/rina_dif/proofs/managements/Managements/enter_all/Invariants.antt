-- So far the first members took the entry, and the others are as before.
use Rattle.std.proofs.Common.{◌≡◌, ◌++◌, drop, length, map, take}
use Rattle.rina_member.specs.Managements.{entered}
use Rattle.rina_dif.proofs.managements.Managements.enter_all.Given as goal

abbrev pub invariant-loop-at : goal.invariant-loop-at
invariant-loop-at l = record {
  took : l.self-inside.items.items ≡ map (entered l.app l.address) (take l.at l.fn.self) ++ drop l.at l.fn.self;
  size : length l.self-inside.items.items ≡ length l.fn.self;
}
