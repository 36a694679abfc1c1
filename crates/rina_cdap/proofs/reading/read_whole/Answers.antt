use Rattle.rina_cdap.proofs.Drafts.{finished}
use Rattle.rina_cdap.proofs.reading.read_whole.Goals as goal

pub returns-clause-exact : goal.returns-clause-exact
returns-clause-exact c = finished c.finish.result c.in_ok-draft.draft c.args.bytes.now c.in_ok-draft.ensures c.finish.ensures.finished
