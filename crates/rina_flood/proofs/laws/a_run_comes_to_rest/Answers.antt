use Rattle.rina_flood.proofs.Sample.{settles}
use Rattle.rina_flood.proofs.laws.a_run_comes_to_rest.Goals as goal

pub returns : goal.returns
returns c = settles
