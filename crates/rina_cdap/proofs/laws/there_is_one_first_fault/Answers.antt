use Rattle.rina_cdap.proofs.Spelled.{one_fault, no_fault}
use Rattle.rina_cdap.proofs.laws.there_is_one_first_fault.Goals as goal

pub returns-clause-one : goal.returns-clause-one
returns-clause-one c = one_fault

pub returns-clause-none : goal.returns-clause-none
returns-clause-none c = no_fault
