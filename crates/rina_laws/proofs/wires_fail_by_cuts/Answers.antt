-- Wires fail by cuts.
use Rattle.rina_laws.proofs.CutsRun.{failures_are_cuts}
use Rattle.rina_laws.proofs.wires_fail_by_cuts.Goals as goal

pub returns : goal.returns
returns c = failures_are_cuts
