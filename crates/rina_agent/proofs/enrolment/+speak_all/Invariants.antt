use Rattle.std.proofs.Common.{length}
use Rattle.rina_agent.proofs.enrolment.+speak_all.Given as goal

abbrev pub decreases-speak_all : goal.decreases-speak_all
decreases-speak_all l = length l.messages.now
