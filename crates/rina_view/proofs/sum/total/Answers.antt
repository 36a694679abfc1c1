use Rattle.std.proofs.Common.{◌≡◌, ap, drop, arith}
use Rattle.std.specs.List.{sum_by}
use Rattle.std.proofs.lemmas.List.{drop_all}
use Rattle.rina_view.specs.Sums.{delay}
use Rattle.rina_view.proofs.sum.total.Goals as goal

pub returns : goal.returns
returns c =
    let none : sum_by delay (drop c.rows.row-index c.args.rows.now) ≡ 0 = ap (sum_by delay) (drop_all c.rows.row-index c.args.rows.now c.rows-test.false) in
    omega (arith, none, c.rows.invariant.sum, c.rows.invariant.small)
