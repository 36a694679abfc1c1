use Rattle.rina_run.proofs.Opens.{labels_more}
use Rattle.rina_run.proofs.opening.open_labels.Goals as goal

pub difs-preserved : goal.difs-preserved
difs-preserved c = labels_more c.args.plan.now c.args.tower.now c.difs.at c.difs.labels c.open_dif.new.labels c.difs.invariant c.in_ok-open_dif.ensures
