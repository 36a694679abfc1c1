use Rattle.rina_flows.proofs.Lasting.{tied_later}
use Rattle.rina_flows.proofs.laws.flows_stay_tied.Goals as goal

pub returns : goal.returns
returns c = tied_later
