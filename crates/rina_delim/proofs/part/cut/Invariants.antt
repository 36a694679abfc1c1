use Rattle.std.proofs.Common.{◌≡◌}
use Rattle.rina_delim.specs.Parts.{first_parts}
use Rattle.rina_delim.proofs.part.cut.Given as goal

abbrev pub invariant-loop-number : goal.invariant-loop-number
invariant-loop-number l = l.parts.items ≡ first_parts l.len l.size l.number
