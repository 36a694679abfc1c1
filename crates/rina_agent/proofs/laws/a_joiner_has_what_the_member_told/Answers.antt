use Rattle.rina_agent.proofs.Keeping.{events_keep, has_all_handled}
use Rattle.rina_agent.proofs.laws.a_joiner_has_what_the_member_told.Goals as goal

pub returns-clause-keeps : goal.returns-clause-keeps
returns-clause-keeps c = events_keep

pub returns-clause-has_all : goal.returns-clause-has_all
returns-clause-has_all c = has_all_handled
