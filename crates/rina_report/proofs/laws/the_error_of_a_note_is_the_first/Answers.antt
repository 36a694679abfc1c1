use Rattle.rina_report.proofs.Firsts.{note_settled, none_in_front, some_begins, one_error}
use Rattle.rina_report.proofs.laws.the_error_of_a_note_is_the_first.Goals as goal

pub returns-clause-settled : goal.returns-clause-settled
returns-clause-settled c = note_settled

pub returns-clause-in_front : goal.returns-clause-in_front
returns-clause-in_front c = none_in_front

pub returns-clause-begins : goal.returns-clause-begins
returns-clause-begins c = some_begins

pub returns-clause-one : goal.returns-clause-one
returns-clause-one c = one_error
