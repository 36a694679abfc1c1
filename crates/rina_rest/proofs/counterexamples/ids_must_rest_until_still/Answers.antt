use Rattle.rina_rest.proofs.Broken.{short_rest, short_rest_last, state_stands}
use Rattle.rina_rest.proofs.counterexamples.ids_must_rest_until_still.Goals as goal

pub returns : goal.returns
returns c = record { two = short_rest; last = short_rest_last; state = state_stands }
