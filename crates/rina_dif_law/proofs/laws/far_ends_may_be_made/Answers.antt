use Rattle.rina_dif_law.proofs.FarMade.{made_carries, made_later, made_numbers, made_silent, made_stands}
use Rattle.rina_dif_law.proofs.laws.far_ends_may_be_made.Goals as goal

pub returns-clause-stands : goal.returns-clause-stands
returns-clause-stands c = λ d lines below node at d' lines' st n s. made_stands d lines below st n node at d' lines' s

pub returns-clause-carries : goal.returns-clause-carries
returns-clause-carries c = λ d lines below node at d' lines' st n carries s. made_carries d lines below st n node at d' lines' s carries

pub returns-clause-numbers : goal.returns-clause-numbers
returns-clause-numbers c = λ d lines below node at d' lines' st n s. made_numbers d lines below st n node at d' lines' s

pub returns-clause-later : goal.returns-clause-later
returns-clause-later c = λ d lines node at d' lines' s. made_later d lines node at d' lines' s

pub returns-clause-silent : goal.returns-clause-silent
returns-clause-silent c = made_silent
