use Rattle.rina_rib.proofs.User.{user_created, user_deleted, user_written, user_turned}
use Rattle.rina_rib.proofs.laws.cdap_changes_user_alone.Goals as goal

pub returns-clause-created : goal.returns-clause-created
returns-clause-created c = user_created

pub returns-clause-deleted : goal.returns-clause-deleted
returns-clause-deleted c = user_deleted

pub returns-clause-written : goal.returns-clause-written
returns-clause-written c = user_written

pub returns-clause-turned : goal.returns-clause-turned
returns-clause-turned c = user_turned
