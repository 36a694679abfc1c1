use Rattle.rina_cdap.proofs.Forms.{app_same}
use Rattle.rina_cdap.proofs.reading.app_name_of.Goals as goal

pub returns-in-Ok-clause-ok : goal.returns-in-Ok-clause-ok
returns-in-Ok-clause-ok c = app_same c.args.content.now _ c.in-Ok.ensures
