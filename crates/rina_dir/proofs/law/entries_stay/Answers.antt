-- The law of the directory's form.
use Rattle.rina_dir.proofs.Stay.{no_items, taken_form}
use Rattle.rina_dir.proofs.law.entries_stay.Goals as goal

pub returns-clause-empty : goal.returns-clause-empty
returns-clause-empty c = no_items

pub returns-clause-taken : goal.returns-clause-taken
returns-clause-taken c = taken_form
