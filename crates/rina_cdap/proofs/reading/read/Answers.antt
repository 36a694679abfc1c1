use Rattle.rina_cdap.proofs.Spelled.{only, ranged, first_fault, told_early}
use Rattle.rina_cdap.proofs.reading.read.Goals as goal

pub returns-clause-only : goal.returns-clause-only
returns-clause-only c = only c.read_whole.result c.args.bytes.now (ranged c.read_whole.result c.read_whole.ensures.range) c.read_whole.ensures.exact

pub returns-clause-fault : goal.returns-clause-fault
returns-clause-fault c = first_fault c.read_whole.result c.args.bytes.now c.read_whole.ensures.exact

pub returns-clause-early : goal.returns-clause-early
returns-clause-early c = told_early c.read_whole.result c.args.bytes.now c.read_whole.ensures.exact
