use Rattle.rina_member.proofs.Handled.{handles_others, handles_outside, handles_same}
use Rattle.rina_member.proofs.laws.a_message_changes_the_objects_of_its_items.Goals as goal

pub returns-clause-same : goal.returns-clause-same
returns-clause-same c = handles_same

pub returns-clause-others : goal.returns-clause-others
returns-clause-others c = handles_others

pub returns-clause-outside : goal.returns-clause-outside
returns-clause-outside c = handles_outside
