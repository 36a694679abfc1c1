use Rattle.rina_rib.proofs.Numbers.{first_numbered, created_numbers, deleted_numbers, written_numbers, turned_numbers}
use Rattle.rina_rib.proofs.laws.numbers_are_drawn_once.Goals as goal

pub returns-clause-first : goal.returns-clause-first
returns-clause-first c = first_numbered

pub returns-clause-created : goal.returns-clause-created
returns-clause-created c = created_numbers

pub returns-clause-deleted : goal.returns-clause-deleted
returns-clause-deleted c = deleted_numbers

pub returns-clause-written : goal.returns-clause-written
returns-clause-written c = written_numbers

pub returns-clause-turned : goal.returns-clause-turned
returns-clause-turned c = turned_numbers
