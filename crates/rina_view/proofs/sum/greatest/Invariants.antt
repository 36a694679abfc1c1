use Rattle.std.proofs.Common.{◌≡◌, max, drop}
use Rattle.rina_view.specs.Sums.{greatest}
use Rattle.rina_view.proofs.sum.greatest.Given as goal

abbrev pub invariant-rows : goal.invariant-rows
invariant-rows l = max l.most (greatest (drop l.row-index l.rows)) ≡ greatest l.rows
