use Rattle.std.proofs.Common.{◌∙◌}
use Rattle.rina_answer.proofs.Names.{name_same}
use Rattle.rina_answer.proofs.reply.class_name.Goals as goal

pub returns-in-Ok : goal.returns-in-Ok
returns-in-Ok c = name_same _ _ c.in-Ok.ensures ∙ c.name.ensures
