use Rattle.std.proofs.Common.{sym, subst}
use Rattle.rina_agent.specs.declared.agent.Agent.{Agent}
use Rattle.rina_member.specs.Managements.{entered}
use Rattle.rina_member.specs.Short.{TellsShort}
use Rattle.rina_member.proofs.Tells.{enters_short, lost_short, makes_short, sent_short}
use Rattle.rina_member.proofs.TellsEnrolled.{handles_short}
use Rattle.rina_member.proofs.TellsMore.{claims_short, draws_short, joins_short, posts_short}
use Rattle.rina_member.proofs.TellsStarting.{starts_short}
use Rattle.rina_member.proofs.laws.a_member_tells_short_messages.Goals as goal

pub returns-clause-starts : goal.returns-clause-starts
returns-clause-starts c = λ is_static members plans rules m links laid named few among fits. starts_short members plans laid named few is_static rules m links among fits

pub returns-clause-enters : goal.returns-clause-enters
unfolding entered
returns-clause-enters c = λ app address m name small h. enters_short m.agent app address h name small

pub returns-clause-makes : goal.returns-clause-makes
returns-clause-makes c = λ now app value m m' name is makes h. subst (λ (g : Agent). TellsShort g) (sym makes.makes) (makes_short m.agent now app value h name is)

pub returns-clause-joins : goal.returns-clause-joins
returns-clause-joins c = joins_short

pub returns-clause-claims : goal.returns-clause-claims
returns-clause-claims c = claims_short

pub returns-clause-loses : goal.returns-clause-loses
returns-clause-loses c = λ now link m m' loses h. lost_short m.agent m'.agent now link h loses.loses

pub returns-clause-sends : goal.returns-clause-sends
returns-clause-sends c = λ link m h. sent_short m.agent link h

pub returns-clause-handles : goal.returns-clause-handles
returns-clause-handles c = λ now link message m m' range short handles h. handles_short now link message m m' h range short handles

pub returns-clause-posts : goal.returns-clause-posts
returns-clause-posts c = posts_short

pub returns-clause-draws : goal.returns-clause-draws
returns-clause-draws c = draws_short
