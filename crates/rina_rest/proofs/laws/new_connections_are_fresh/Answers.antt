use Rattle.rina_rest.proofs.Fresh.{made_alone, made_fresh, told_fresh, told_alone}
use Rattle.rina_rest.proofs.laws.new_connections_are_fresh.Goals as goal

pub returns : goal.returns
returns c = record { made = made_fresh; made_alone = made_alone; told = told_fresh; told_alone = told_alone }
