-- The settings and links of each DIF stay.
use Rattle.rina_laws.proofs.PlannedRun.{stays_as_planned}
use Rattle.rina_laws.proofs.each_dif_stays_as_planned.Goals as goal

pub returns : goal.returns
returns c = stays_as_planned
