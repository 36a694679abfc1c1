-- Lines of ledgers have causes.
use Rattle.rina_laws.proofs.WrittenRun.{lines_have_causes}
use Rattle.rina_laws.proofs.each_line_has_its_cause.Goals as goal

pub returns : goal.returns
returns c = lines_have_causes
