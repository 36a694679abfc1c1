use Rattle.std.proofs.Common.{sym, ◌∙◌}
use Rattle.rina_plan.proofs.Merging.{merges_is}
use Rattle.rina_plan.proofs.nets.merge_ends.Goals as goal

pub returns : goal.returns
returns c = merges_is c.args.nodes.now c.args.parts.now c.merge.new.parts c.args.link.now c.in-Some.from c.in-Some-part_of.to c.requires.size (sym c.part_of.ensures ∙ c.in-Some.is) (sym c.part_of-2.ensures ∙ c.in-Some-part_of.is) c.merge.ensures
