use Rattle.rina_rib.proofs.Changes.{created_changes, deleted_changes, written_changes, turned_changes}
use Rattle.rina_rib.proofs.laws.an_operation_changes_one_object.Goals as goal

pub returns-clause-created : goal.returns-clause-created
returns-clause-created c = created_changes

pub returns-clause-deleted : goal.returns-clause-deleted
returns-clause-deleted c = deleted_changes

pub returns-clause-written : goal.returns-clause-written
returns-clause-written c = written_changes

pub returns-clause-turned : goal.returns-clause-turned
returns-clause-turned c = turned_changes
