use Rattle.std.proofs.Common.{arith}
use Rattle.rina_plan.proofs.Counting.{all_counted}
use Rattle.rina_plan.proofs.counts.loads_of.Goals as goal

pub returns : goal.returns
returns c = all_counted c.args.links.now c.links.loads.items c.args.wires c.links.link-index (omega arith) c.links.invariant.size c.links.invariant.counted
