use Rattle.rina_alloc.proofs.Proper.{messages_short}
use Rattle.rina_alloc.proofs.laws.a_message_is_short.Goals as goal

pub returns : goal.returns
returns c = messages_short
