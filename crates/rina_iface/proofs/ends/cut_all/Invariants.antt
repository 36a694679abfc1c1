use Rattle.std.proofs.Common.{◌≡◌, ◌++◌, length, map, take, drop}
use Rattle.rina_iface.specs.State.{cut_off}
use Rattle.rina_iface.proofs.ends.cut_all.Given as goal

-- the ends so far are cut off, and the others as they were
abbrev pub invariant-loop-place : goal.invariant-loop-place
invariant-loop-place l = record {
  ends : l.ends.items ≡ map (cut_off l.tick) (take l.place l.fn.ends.items) ++ drop l.place l.fn.ends.items;
  size : length l.ends.items ≡ length l.fn.ends.items;
}
