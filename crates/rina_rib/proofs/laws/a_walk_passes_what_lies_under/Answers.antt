use Rattle.rina_rib.proofs.Under.{walk_root, walk_under}
use Rattle.rina_rib.proofs.laws.a_walk_passes_what_lies_under.Goals as goal

pub returns-clause-root : goal.returns-clause-root
returns-clause-root c = λ t tree. walk_root t.objects tree.named

pub returns-clause-under : goal.returns-clause-under
returns-clause-under c = walk_under
