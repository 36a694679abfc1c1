use Rattle.rina_dtp.proofs.Lasting.{stands_later, stands_forgotten}
use Rattle.rina_dtp.proofs.laws.receiver_stands_on.Goals as goal

pub returns : goal.returns
returns c = record { later = stands_later; forgotten = stands_forgotten }
