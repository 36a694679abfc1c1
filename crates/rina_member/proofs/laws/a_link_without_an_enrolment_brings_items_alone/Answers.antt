use Rattle.rina_member.proofs.Handled.{handles_none, none_counts}
use Rattle.rina_member.proofs.laws.a_link_without_an_enrolment_brings_items_alone.Goals as goal

pub returns-clause-same : goal.returns-clause-same
returns-clause-same c = handles_none

pub returns-clause-counts : goal.returns-clause-counts
returns-clause-counts c = none_counts
