use Rattle.rina_cdap.proofs.Forms.{name_same}
use Rattle.rina_cdap.proofs.reading.name_of.Goals as goal

pub returns-in-Ok-clause-ok : goal.returns-in-Ok-clause-ok
returns-in-Ok-clause-ok c = name_same c.args.content.now _ c.in-Ok.ensures
