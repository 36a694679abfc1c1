use Rattle.rina_view.proofs.Shows.{each_has_its_row}
use Rattle.rina_view.proofs.laws.each_sdu_sent_has_its_row.Goals as goal

pub returns : goal.returns
returns c = each_has_its_row
