use Rattle.std.proofs.Common.{◌≡◌, ◌≤◌, ◌+◌, ◌-◌, ◌^◌, min, drop}
use Rattle.std.specs.List.{sum_by}
use Rattle.rina_view.specs.Sums.{delay}
use Rattle.rina_view.proofs.sum.total.Given as goal

abbrev pub invariant-rows : goal.invariant-rows
invariant-rows l = record {
  small : l.total ≤ 2 ^ 64 - 1;
  sum : min (l.total + sum_by delay (drop l.row-index l.rows)) (2 ^ 64 - 1) ≡ min (sum_by delay l.rows) (2 ^ 64 - 1);
}
