use Rattle.rina_enrolled.proofs.Sample.{enrols, everyone}
use Rattle.rina_enrolled.proofs.a_run_enrols_a_joiner.Goals as goal

pub returns : goal.returns
returns c = (everyone, enrols)
