use Rattle.rina_report.proofs.Firsts.{errors_are_true}
use Rattle.rina_report.proofs.laws.what_is_told_of_a_note_is_so.Goals as goal

pub returns : goal.returns
returns c = errors_are_true
