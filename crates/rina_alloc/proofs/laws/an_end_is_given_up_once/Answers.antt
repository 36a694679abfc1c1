use Rattle.rina_alloc.proofs.Runs.{once, once_an_ask}
use Rattle.rina_alloc.proofs.laws.an_end_is_given_up_once.Goals as goal

pub returns : goal.returns
returns c = record { asking = once; asked = once_an_ask }
