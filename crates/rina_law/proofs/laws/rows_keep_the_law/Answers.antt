use Rattle.rina_law.proofs.Suffices.{start_holds, row_holds, cloud_law}
use Rattle.rina_law.proofs.laws.rows_keep_the_law.Goals as goal

pub returns : goal.returns
returns c = record { start = start_holds; rows = row_holds; cloud = cloud_law }
