use Rattle.rina_laws.proofs.KeptAsks.{asks_are_awaited}
use Rattle.rina_laws.proofs.each_answer_is_that_of_its_ask.Goals as goal

pub returns : goal.returns
returns c = asks_are_awaited
