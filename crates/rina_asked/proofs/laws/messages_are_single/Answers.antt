use Rattle.rina_asked.proofs.Once.{messages_are_counted, messages_are_single}
use Rattle.rina_asked.proofs.Starts.{new_single}
use Rattle.rina_asked.proofs.laws.messages_are_single.Goals as goal

pub returns : goal.returns
returns c = record { start = new_single; counted = messages_are_counted; single = messages_are_single }
