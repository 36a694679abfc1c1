use Rattle.rina_asks.proofs.Owning.{yes_finds, late_given_back}
use Rattle.rina_asks.proofs.laws.late_answers_are_given_back.Goals as goal

pub returns : goal.returns
returns c = record { finds = yes_finds; back = late_given_back }
