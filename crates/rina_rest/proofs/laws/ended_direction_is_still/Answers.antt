use Rattle.rina_rest.proofs.Still.{ended_still, rest_still, unused_still, drawn_still, least_still, ended_dies, standing_dies, dies_in_use, untaken_stays}
use Rattle.rina_rest.proofs.laws.ended_direction_is_still.Goals as goal

pub returns : goal.returns
returns c = record { ended = ended_still; run = rest_still; unused = unused_still; drawn = drawn_still; least = least_still; dies = ended_dies; standing = standing_dies; in_use = dies_in_use; untaken = untaken_stays }
