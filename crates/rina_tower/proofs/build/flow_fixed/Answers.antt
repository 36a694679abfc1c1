use Rattle.rina_tower.proofs.FitBound.{plain_as}
use Rattle.rina_tower.proofs.build.flow_fixed.Goals as goal

pub returns-clause-plain : goal.returns-clause-plain
returns-clause-plain c = record {
  a = plain_as c.args.flow.now.from.app c.in_ok-app_of.field-0 c.requires.names.0 c.in_ok-app_of.ensures;
  b = plain_as c.args.flow.now.to.app c.in_ok-app_of-2.field-0 c.requires.names.1 c.in_ok-app_of-2.ensures;
}
