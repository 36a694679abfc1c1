use Rattle.std.proofs.Common.{◌∙◌, ap, ◌++◌, List, ℕ}
use Rattle.rina_plan.specs.Numbers.{number_in_rank}
use Rattle.rina_promises.specs.Promises.{columns}
use Rattle.rina_promises.proofs.Pairing.{pairs_shown}
use Rattle.rina_promises.proofs.There.{is_there_by}
use Rattle.rina_promises.proofs.pairs.pairs_in.Goals as goal

pub unreachable-requires : goal.unreachable-requires
unreachable-requires c = is_there_by c.args.plan.now c.args.tower.now c.args.at c.args.dif.now c.from.result c.number_in_rank-fac.result c.requires.tower c.requires.dif c.from.ensures (c.number_in_rank-fac.ensures ∙ ap (λ ds. number_in_rank ds c.args.at) c.as_slice.ensures) c.in_default.ensures.stands

pub returns : goal.returns
returns c =
    let is_head = c.in_ok-add_columns.ensures ∙ ap (λ (t : List ℕ). t ++ columns) c.new-text.ensures in
    rw c.into_vec.ensures (pairs_shown c.args.plan.now c.args.at c.args.tower.now c.args.dif.now c.from.result c.number_in_rank-fac.result c.as_slice-2.result.now c.in-Some.there.dif.now c.in-Some.there.below.now c.add_columns.new.text c.add_pairs.new.text
    c.requires.tower c.requires.dif c.from.ensures (c.number_in_rank-fac.ensures ∙ ap (λ ds. number_in_rank ds c.args.at) c.as_slice.ensures) c.as_slice-2.ensures c.in-Some.ensures.stands is_head c.in_ok-add_pairs.ensures)
