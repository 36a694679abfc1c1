use Rattle.rina_enrol.proofs.Runs.{allowed_by}
use Rattle.rina_enrol.proofs.laws.a_member_tells_its_items_to_whom_it_allowed.Goals as goal

pub returns : goal.returns
returns c = allowed_by
