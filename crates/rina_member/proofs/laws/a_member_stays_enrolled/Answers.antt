use Rattle.std.proofs.Common.{ap}
use Rattle.rina_agent.specs.declared.state.MemberState.{MemberState}
use Rattle.rina_agent.specs.Rows.{joining_state}
use Rattle.rina_member.proofs.Enrolled.{handles_enrolled}
use Rattle.rina_member.proofs.Losing.{loses_enrolled}
use Rattle.rina_member.proofs.laws.a_member_stays_enrolled.Goals as goal

pub returns-clause-handles : goal.returns-clause-handles
returns-clause-handles c = handles_enrolled

pub returns-clause-joins : goal.returns-clause-joins
returns-clause-joins c = λ number member node g is. ap (λ (s : MemberState). joining_state number s) is

pub returns-clause-loses : goal.returns-clause-loses
returns-clause-loses c = loses_enrolled
