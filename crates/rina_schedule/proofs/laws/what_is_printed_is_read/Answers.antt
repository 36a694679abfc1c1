use Rattle.rina_schedule.proofs.Printed.{line_back, line_one}
use Rattle.rina_schedule.proofs.laws.what_is_printed_is_read.Goals as goal

pub returns-clause-read : goal.returns-clause-read
returns-clause-read c = line_back

pub returns-clause-one : goal.returns-clause-one
returns-clause-one c = line_one
