use Rattle.rina_law.proofs.Suffices.{line_lawful}
use Rattle.rina_law.proofs.laws.line_is_lawful.Goals as goal

pub returns : goal.returns
returns c = line_lawful
