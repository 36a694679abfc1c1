use Rattle.rina_asked.proofs.Late.{time_outs_come_late}
use Rattle.rina_asked.proofs.laws.time_outs_come_late.Goals as goal

pub returns : goal.returns
returns c = time_outs_come_late
