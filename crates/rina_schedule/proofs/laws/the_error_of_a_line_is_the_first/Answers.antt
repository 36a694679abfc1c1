use Rattle.rina_schedule.proofs.Firsts.{line_settled, none_in_front, one_error}
use Rattle.rina_schedule.proofs.laws.the_error_of_a_line_is_the_first.Goals as goal

pub returns-clause-settled : goal.returns-clause-settled
returns-clause-settled c = line_settled

pub returns-clause-in_front : goal.returns-clause-in_front
returns-clause-in_front c = none_in_front

pub returns-clause-one : goal.returns-clause-one
returns-clause-one c = one_error
