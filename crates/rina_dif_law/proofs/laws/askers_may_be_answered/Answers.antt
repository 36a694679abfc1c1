use Rattle.rina_dif_law.proofs.Answered.{told_carries, told_numbers, told_silent, told_stands}
use Rattle.rina_dif_law.proofs.laws.askers_may_be_answered.Goals as goal

pub returns-clause-stands : goal.returns-clause-stands
returns-clause-stands c = λ d lines below at d' st n s. told_stands d lines below st n at d' s

pub returns-clause-carries : goal.returns-clause-carries
returns-clause-carries c = λ d lines below at d' st n carries s. told_carries d lines below st n at d' s carries

pub returns-clause-numbers : goal.returns-clause-numbers
returns-clause-numbers c = λ d lines below at d' st n s. told_numbers d lines below st n at d' s

pub returns-clause-silent : goal.returns-clause-silent
returns-clause-silent c = told_silent
