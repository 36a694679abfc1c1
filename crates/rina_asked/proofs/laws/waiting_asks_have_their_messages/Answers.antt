use Rattle.rina_asked.proofs.Starts.{new_awaited}
use Rattle.rina_asked.proofs.laws.waiting_asks_have_their_messages.Goals as goal

pub returns : goal.returns
returns c = record { start = new_awaited }
