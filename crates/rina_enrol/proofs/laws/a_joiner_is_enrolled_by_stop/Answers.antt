use Rattle.rina_enrol.proofs.Runs.{enrolled_by}
use Rattle.rina_enrol.proofs.laws.a_joiner_is_enrolled_by_stop.Goals as goal

pub returns : goal.returns
returns c = enrolled_by
