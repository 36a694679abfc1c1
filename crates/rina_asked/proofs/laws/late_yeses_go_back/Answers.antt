use Rattle.rina_asked.proofs.Late.{late_yeses_go_back}
use Rattle.rina_asked.proofs.laws.late_yeses_go_back.Goals as goal

pub returns : goal.returns
returns c = late_yeses_go_back
