use Rattle.rina_promises.specs.Promises.{IsDifText}
use Rattle.rina_promises.proofs.Texts.{places_more, places_none}
use Rattle.rina_promises.proofs.table.add_difs.Goals as goal

pub difs-init : goal.difs-init
difs-init c = places_none (IsDifText c.args.plan.now c.args.tower.now) c.args.text.now

pub difs-preserved : goal.difs-preserved
difs-preserved c = places_more (IsDifText c.args.plan.now c.args.tower.now) c.difs.at c.args.text.now c.difs.text c.add_dif.new.text c.difs.invariant c.in_ok-add_dif.ensures
