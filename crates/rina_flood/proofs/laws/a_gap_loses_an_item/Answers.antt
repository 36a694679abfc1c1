use Rattle.rina_flood.proofs.Gap.{gap_breaks}
use Rattle.rina_flood.proofs.laws.a_gap_loses_an_item.Goals as goal

pub returns : goal.returns
returns c = gap_breaks
