use Rattle.std.proofs.Common.{arith}
use Rattle.rina_view.proofs.RowsLaw.{each_once}
use Rattle.rina_view.proofs.sum.sum_of.Goals as goal

pub returns-clause-each : goal.returns-clause-each
returns-clause-each c = omega (arith, each_once c.args.rows.now, c.count_got-got.ensures, c.count_off-off.ensures, c.count_unseen-unseen.ensures)
