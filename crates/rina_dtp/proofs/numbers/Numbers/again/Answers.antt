use Rattle.std.proofs.Common.{refl}
use Rattle.rina_dtp.proofs.Senders.{notes_again}
use Rattle.rina_dtp.proofs.numbers.Numbers.again.Goals as goal

pub returns : goal.returns
returns c = notes_again c.args.now c.args.self.now _ refl refl refl
