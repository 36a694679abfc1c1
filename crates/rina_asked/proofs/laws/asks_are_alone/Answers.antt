use Rattle.rina_asked.proofs.Found.{asks_are_counted, asks_are_one, asks_find}
use Rattle.rina_asked.proofs.Starts.{new_alone}
use Rattle.rina_asked.proofs.laws.asks_are_alone.Goals as goal

pub returns : goal.returns
returns c = record { start = new_alone; counted = asks_are_counted; one = asks_are_one; find = asks_find }
