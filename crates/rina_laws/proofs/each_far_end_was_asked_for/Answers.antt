-- Far ends were asked for.
use Rattle.rina_laws.proofs.NamedFar.{far_ends_are_asked_for}
use Rattle.rina_laws.proofs.each_far_end_was_asked_for.Goals as goal

pub returns : goal.returns
returns c = far_ends_are_asked_for
