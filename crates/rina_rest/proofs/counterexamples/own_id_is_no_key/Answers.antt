use Rattle.rina_rest.proofs.Broken.{own_id_is_no_key}
use Rattle.rina_rest.proofs.counterexamples.own_id_is_no_key.Goals as goal

pub returns : goal.returns
returns c = own_id_is_no_key
