use Rattle.rina_dif_law.proofs.Asked.{asked_carries, asked_later, asked_numbers, asked_stands}
use Rattle.rina_dif_law.proofs.laws.flows_may_be_asked_for.Goals as goal

pub returns-clause-stands : goal.returns-clause-stands
returns-clause-stands c = λ d lines below ask d' lines' st n s. asked_stands d lines below st n ask d' lines' s

pub returns-clause-carries : goal.returns-clause-carries
returns-clause-carries c = λ d lines below ask d' lines' st n carries s. asked_carries d lines below st n ask d' lines' s carries

pub returns-clause-numbers : goal.returns-clause-numbers
returns-clause-numbers c = λ d lines below ask d' lines' st n s. asked_numbers d lines below st n ask d' lines' s

pub returns-clause-later : goal.returns-clause-later
returns-clause-later c = λ d lines below ask d' lines' st n s. asked_later d lines below st n ask d' lines' s
