use Rattle.rina_dif_law.proofs.Binding.{bound_carries, bound_later, bound_numbers, bound_stands}
use Rattle.rina_dif_law.proofs.laws.fixed_flows_may_be_made.Goals as goal

pub returns-clause-stands : goal.returns-clause-stands
returns-clause-stands c = bound_stands

pub returns-clause-carries : goal.returns-clause-carries
returns-clause-carries c = bound_carries

pub returns-clause-numbers : goal.returns-clause-numbers
returns-clause-numbers c = bound_numbers

pub returns-clause-later : goal.returns-clause-later
returns-clause-later c = bound_later
