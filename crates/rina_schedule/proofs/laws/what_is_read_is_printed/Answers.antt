use Rattle.rina_schedule.proofs.InRange.{line_in, line_again}
use Rattle.rina_schedule.proofs.laws.what_is_read_is_printed.Goals as goal

pub returns-clause-ranges : goal.returns-clause-ranges
returns-clause-ranges c = line_in

pub returns-clause-again : goal.returns-clause-again
returns-clause-again c = line_again
