use Rattle.rina_asked.proofs.OwnIns.{in_finds_far}
use Rattle.rina_asked.proofs.laws.looks_find_far_ends.Goals as goal

pub returns : goal.returns
returns c = in_finds_far
