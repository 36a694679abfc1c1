use Rattle.rina_cdap.proofs.Forms.{name_same}
use Rattle.rina_enrol.proofs.message.class_name.Goals as goal

pub returns-in-Ok : goal.returns-in-Ok
returns-in-Ok c = name_same c.args.text.now c.in-Ok.name c.in-Ok.ensures
