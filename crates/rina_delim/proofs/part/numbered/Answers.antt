use Rattle.std.proofs.Common.{arith}
use Rattle.rina_delim.proofs.Parts.{begins_within}
use Rattle.rina_delim.proofs.part.numbered.Goals as goal

pub overflow_mul-at : goal.overflow_mul-at
overflow_mul-at c = omega (arith, begins_within c.args.len c.args.size c.args.number c.args.count c.requires.count c.requires.number)

pub overflow_sub-len : goal.overflow_sub-len
overflow_sub-len c = begins_within c.args.len c.args.size c.args.number c.args.count c.requires.count c.requires.number
