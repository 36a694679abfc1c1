use Rattle.std.proofs.Common.{◌∙◌, ◌*◌, arith, refl, ap}
use Rattle.rina_plan.specs.Numbers.{number_in_rank}
use Rattle.rina_run.proofs.Opens.{first_is}
use Rattle.rina_run.proofs.opening.first_end.Goals as goal

pub returns-clause-some : goal.returns-clause-some
returns-clause-some c = first_is c.args.plan.now c.args.at c.args.dif.now c.number_in_rank-fac.result c.in_ok-links.links c.in_ok-ends.ends (c.number_in_rank-fac.ensures ∙ ap (λ ds. number_in_rank ds c.args.at) c.as_slice.ensures) c.in_ok-links.ensures.some c.in_ok-ends.ensures.1

pub returns-in_err-ends-clause-none : goal.returns-in_err-ends-clause-none
returns-in_err-ends-clause-none c = λ none.
    let twice = first_is c.args.plan.now c.args.at c.args.dif.now c.number_in_rank-fac.result c.in_ok-links.links (c.in_ok-links.links * 2) (c.number_in_rank-fac.ensures ∙ ap (λ ds. number_in_rank ds c.args.at) c.as_slice.ensures) c.in_ok-links.ensures.some refl in
    let no = c.in_err-ends.ensures in
    grind (arith, twice, no)
