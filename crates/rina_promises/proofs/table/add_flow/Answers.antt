use Rattle.std.proofs.Common.{◌∙◌, ap}
use Rattle.rina_plan.specs.Numbers.{number_in_rank}
use Rattle.rina_promises.proofs.There.{has_its_cube_by, is_there_by, nodes_fit}
use Rattle.rina_promises.proofs.Texts.{flow_added}
use Rattle.rina_promises.proofs.table.add_flow.Goals as goal

pub unreachable-requires : goal.unreachable-requires
unreachable-requires c = is_there_by c.args.plan.now c.args.tower.now c.args.at c.args.dif.now c.from.result c.number_in_rank-fac.result c.requires.tower c.requires.flow.dif c.from.ensures (c.number_in_rank-fac.ensures ∙ ap (λ ds. number_in_rank ds c.args.at) c.as_slice.ensures) c.in_default.ensures.stands

pub rows_of-requires-clause-from : goal.rows_of-requires-clause-from
rows_of-requires-clause-from c = (nodes_fit c.args.plan.now c.args.tower.now c.args.at c.args.dif.now c.args.flow.now c.requires.tower c.requires.flow).0

pub rows_of-requires-clause-to : goal.rows_of-requires-clause-to
rows_of-requires-clause-to c = (nodes_fit c.args.plan.now c.args.tower.now c.args.at c.args.dif.now c.args.flow.now c.requires.tower c.requires.flow).1

pub rows_of-requires-clause-cube : goal.rows_of-requires-clause-cube
rows_of-requires-clause-cube c = has_its_cube_by c.args.plan.now c.args.tower.now c.args.at c.args.dif.now c.args.flow.now c.from.result c.number_in_rank-fac.result c.in-Some.there.dif.now c.in-Some.there.below.now c.requires.tower c.requires.flow c.from.ensures (c.number_in_rank-fac.ensures ∙ ap (λ ds. number_in_rank ds c.args.at) c.as_slice.ensures) c.in-Some.ensures.stands

pub returns : goal.returns
returns c = flow_added c.args.plan.now c.args.tower.now c.args.at c.args.dif.now c.args.flow.now c.from.result c.number_in_rank-fac.result c.in-Some.there.dif.now c.in-Some.there.below.now c.in_ok-rows.rows c.as_slice-2.result.now c.add_rows.result c.args.text.now c.add_rows.new.text
    c.from.ensures (c.number_in_rank-fac.ensures ∙ ap (λ ds. number_in_rank ds c.args.at) c.as_slice.ensures) c.as_slice-2.ensures c.in-Some.ensures.stands c.in_ok-rows.ensures c.add_rows.ensures
