use Rattle.std.proofs.Common.{◌==◌, arith}
use Rattle.rina_iface.specs.declared.ask.Fixed.{Fixed}
use Rattle.rina_run.proofs.Opens.{links_beyond, links_counted}
use Rattle.rina_run.proofs.opening.links_at.Goals as goal

pub difs-preserved : goal.difs-preserved
difs-preserved c = links_counted (λ (f : Fixed). f.fac == c.args.fac) c.args.plan.now c.args.rank c.difs.at c.difs.count c.links_there.result c.in_ok-count.count c.difs.invariant c.links_there.ensures c.in_ok-count.ensures.1

pub returns-in_err-count-clause-none : goal.returns-in_err-count-clause-none
returns-in_err-count-clause-none c = λ none.
    let within = c.difs-test.true in
    let all = c.len-at-end.ensures in
    let no = c.in_err-count.ensures in
    links_beyond (λ (f : Fixed). f.fac == c.args.fac) c.args.plan.now c.args.rank c.difs.at c.difs.count c.links_there.result (omega (arith, within, all)) c.difs.invariant c.links_there.ensures (grind (arith, no))
