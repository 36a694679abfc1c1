use Rattle.rina_dif.proofs.Absent.{receivers_end, senders_end}
use Rattle.rina_dif.proofs.absence.state_ends_by_the_clock.Goals as goal

pub returns : goal.returns
returns c = record { senders = senders_end; receivers = receivers_end }
