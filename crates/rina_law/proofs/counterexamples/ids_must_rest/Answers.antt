use Rattle.rina_law.proofs.Broken.{short_rest, short_rest_last}
use Rattle.rina_law.proofs.Reusing.{reused_holds, rested_over, rest_suffices, least_rest_suffices}
use Rattle.rina_law.proofs.counterexamples.ids_must_rest.Goals as goal

pub returns : goal.returns
returns c = record { holds = reused_holds; over = rested_over; three = rest_suffices; least = least_rest_suffices; two = short_rest; last = short_rest_last }
