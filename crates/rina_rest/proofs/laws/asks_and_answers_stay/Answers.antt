use Rattle.rina_rest.proofs.Messages.{asks_stay, answers_stay}
use Rattle.rina_rest.proofs.laws.asks_and_answers_stay.Goals as goal

pub returns : goal.returns
returns c = record { asks = asks_stay; answers = answers_stay }
