use Rattle.std.proofs.Common.{length, ap, ◌∙◌, arith}
use Rattle.rina_delim.proofs.Parts.{length-first_parts, get-first_parts}
use Rattle.rina_delim.proofs.part.cut.Goals as goal

pub returns-clause-count : goal.returns-clause-count
returns-clause-count c = ap length c.loop-number.invariant ∙ length-first_parts c.args.len c.args.size c.loop-number.number ∙ omega arith

pub returns-clause-each : goal.returns-clause-each
returns-clause-each c = λ i within. rw c.loop-number.invariant (get-first_parts c.args.len c.args.size c.loop-number.number i (omega arith))
