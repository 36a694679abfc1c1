use Rattle.std.proofs.Common.{◌≡◌, ap, drop, arith}
use Rattle.std.proofs.lemmas.List.{drop_all}
use Rattle.rina_way.specs.Ways.{charges}
use Rattle.rina_way.proofs.slack.charges.Goals as goal

pub returns : goal.returns
returns c =
    let none : charges (drop c.hops.hop-index c.args.hops.now) ≡ 0 = ap charges (drop_all c.hops.hop-index c.args.hops.now c.hops-test.false) in
    omega (arith, none, c.hops.invariant.sum, c.hops.invariant.small)
