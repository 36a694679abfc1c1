use Rattle.rina_run.proofs.Checks.{broke_checked, told_reads}
use Rattle.rina_run.proofs.check.check_input.Goals as goal

pub returns-clause-read : goal.returns-clause-read
returns-clause-read g c = told_reads _ c.in-Ok.note _ _ _ _ _ _ c.tell.ensures.closed c.in-Ok.ensures.faults (broke_checked _ _ _ c.in-Ok.note _ _ c.in-Ok.ensures.told c.tell.ensures.closed)
