use Rattle.rina_schedule.proofs.Faults.{faults_are_true}
use Rattle.rina_schedule.proofs.laws.what_is_told_of_a_line_is_so.Goals as goal

pub returns : goal.returns
returns c = faults_are_true
