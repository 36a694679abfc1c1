use Rattle.std.proofs.Common.{arith, get_or}
use Rattle.std.proofs.lemmas.List.{get_or_default}
use Rattle.std.proofs.lemmas.List.Edits.{map_over_more}
use Rattle.rina_plan.specs.Parts.{merged}
use Rattle.rina_plan.proofs.nets.merge.Goals as goal

pub loop-part-preserved : goal.loop-part-preserved
loop-part-preserved c =
    let part = get_or c.loop-part.parts c.loop-part.part-index 0 in
    rw c.merged.ensures
    (map_over_more (merged c.args.from c.args.to) c.args.parts.now c.loop-part.parts c.loop-part.part-index part (omega arith) c.loop-part.invariant (get_or_default c.loop-part.parts c.loop-part.part-index 0 part (omega (arith, c.loop-part.auto.parts))))
