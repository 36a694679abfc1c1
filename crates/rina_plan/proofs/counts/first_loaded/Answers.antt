use Rattle.std.proofs.Common.{◌∙◌}
use Rattle.rina_plan.proofs.Counting.{first_is, within_wires}
use Rattle.rina_plan.proofs.counts.first_loaded.Goals as goal

pub returns-clause-place : goal.returns-clause-place
returns-clause-place c =
    c.first_double.ensures.place
    ∙ first_is c.args.wires c.args.difs.now c.as_slice.result.now c.as_slice-2.result.now (c.as_slice.ensures.value ∙ c.in_ok-links.ensures) (c.as_slice-2.ensures.value ∙ c.in_ok-loads.ensures)

pub returns-clause-within : goal.returns-clause-within
returns-clause-within c = within_wires c.first_double.result c.args.wires c.as_slice.result.now c.as_slice-2.result.now (c.as_slice-2.ensures.value ∙ c.in_ok-loads.ensures) c.first_double.ensures.within
