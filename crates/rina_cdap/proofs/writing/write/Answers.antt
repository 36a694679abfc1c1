use Rattle.rina_cdap.proofs.Written.{spelled, only}
use Rattle.rina_cdap.proofs.writing.write.Goals as goal

pub returns-clause-spelled : goal.returns-clause-spelled
returns-clause-spelled c = spelled c.write_whole.result c.args.m.now c.write_whole.ensures

pub returns-clause-only : goal.returns-clause-only
returns-clause-only c = only c.write_whole.result c.args.m.now c.write_whole.ensures
