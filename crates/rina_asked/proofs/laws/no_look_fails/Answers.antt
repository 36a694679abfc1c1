use Rattle.rina_asked.proofs.Doing.{in_does}
use Rattle.rina_asked.proofs.laws.no_look_fails.Goals as goal

pub returns : goal.returns
returns c = in_does
