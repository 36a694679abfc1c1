use Rattle.rina_report.proofs.Whole.{text_back, text_one}
use Rattle.rina_report.proofs.laws.what_is_printed_is_read.Goals as goal

pub returns-clause-read : goal.returns-clause-read
returns-clause-read c = text_back

pub returns-clause-one : goal.returns-clause-one
returns-clause-one c = text_one
