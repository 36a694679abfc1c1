use Rattle.rina_dif_law.proofs.Partnered.{met}
use Rattle.rina_dif_law.proofs.laws.each_entry_has_a_sender.Goals as goal

pub returns : goal.returns
returns c = met
