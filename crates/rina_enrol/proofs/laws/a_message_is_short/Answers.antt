use Rattle.rina_enrol.proofs.Sizes.{messages_short}
use Rattle.rina_enrol.proofs.laws.a_message_is_short.Goals as goal

pub returns : goal.returns
returns c = messages_short
