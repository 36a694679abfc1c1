use Rattle.rina_law.proofs.Suffices.{given_up_late}
use Rattle.rina_law.proofs.laws.given_up_is_late.Goals as goal

pub returns : goal.returns
returns c = given_up_late
