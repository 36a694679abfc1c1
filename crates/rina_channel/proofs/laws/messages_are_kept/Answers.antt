use Rattle.rina_channel.proofs.Kept.{messages_are_kept, messages_are_lawful}
use Rattle.rina_channel.proofs.laws.messages_are_kept.Goals as goal

pub returns-clause-kept : goal.returns-clause-kept
returns-clause-kept c = messages_are_kept

pub returns-clause-lawful : goal.returns-clause-lawful
returns-clause-lawful c = messages_are_lawful
