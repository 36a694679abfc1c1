use Rattle.rina_alloc.proofs.Runs.{bound_by_yes, own_yes}
use Rattle.rina_alloc.proofs.laws.an_ask_is_bound_only_by_yes.Goals as goal

pub returns : goal.returns
returns c = record { asking = bound_by_yes; asked = own_yes }
