use Rattle.rina_alloc.proofs.Guesses.{numbers_again}
use Rattle.rina_alloc.proofs.Telling.{told}
use Rattle.rina_alloc.proofs.laws.an_answer_can_be_told.Goals as goal

pub returns-clause-told : goal.returns-clause-told
returns-clause-told c = told

pub returns-clause-again : goal.returns-clause-again
returns-clause-again c = numbers_again
