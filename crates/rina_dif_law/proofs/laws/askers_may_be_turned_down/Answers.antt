use Rattle.rina_dif_law.proofs.TurnedDown.{down_carries, down_numbers, down_silent, down_stands}
use Rattle.rina_dif_law.proofs.laws.askers_may_be_turned_down.Goals as goal

pub returns-clause-stands : goal.returns-clause-stands
returns-clause-stands c = λ d lines below at state d' st n s. down_stands d lines below st n at state d' s

pub returns-clause-carries : goal.returns-clause-carries
returns-clause-carries c = λ d lines below at state d' st n carries s. down_carries d lines below st n at state d' s carries

pub returns-clause-numbers : goal.returns-clause-numbers
returns-clause-numbers c = λ d lines below at state d' st n s. down_numbers d below at state d' n s

pub returns-clause-silent : goal.returns-clause-silent
returns-clause-silent c = down_silent
