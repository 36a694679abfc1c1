use Rattle.rina_answer.proofs.Told.{told_answer, told_refused, told_done, told_tree, told_user}
use Rattle.rina_answer.proofs.laws.an_answer_shows_what_a_read_gives.Goals as goal

pub returns-clause-answer : goal.returns-clause-answer
returns-clause-answer c = told_answer

pub returns-clause-refused : goal.returns-clause-refused
returns-clause-refused c = told_refused

pub returns-clause-done : goal.returns-clause-done
returns-clause-done c = told_done

pub returns-clause-tree : goal.returns-clause-tree
returns-clause-tree c = told_tree

pub returns-clause-user : goal.returns-clause-user
returns-clause-user c = told_user
