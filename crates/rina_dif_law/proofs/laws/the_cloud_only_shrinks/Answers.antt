use Rattle.rina_dif_law.proofs.Arrivals.{closed}
use Rattle.rina_dif_law.proofs.Clouds.{whole_covered}
use Rattle.rina_dif_law.proofs.Taking.{cloud_lifted}
use Rattle.rina_dif_law.proofs.laws.the_cloud_only_shrinks.Goals as goal

pub returns-clause-covered : goal.returns-clause-covered
returns-clause-covered c = λ d lines below kept st. whole_covered d.config d.clock d.processes below kept (closed d lines below st)

pub returns-clause-later : goal.returns-clause-later
returns-clause-later c = cloud_lifted
