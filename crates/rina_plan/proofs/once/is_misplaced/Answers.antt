use Rattle.std.proofs.Common.{◌∙◌}
use Rattle.rina_plan.proofs.Places.{misplaced_is}
use Rattle.rina_plan.proofs.once.is_misplaced.Goals as goal

pub returns : goal.returns
returns c =
    c.any_of.ensures ∙ misplaced_is c.args.dif.now c.as_slice-members.result.now c.len.result c.in_ok-node.node c.in_ok-address.address c.any_misaddressed-misaddressed.result c.as_slice-members.ensures c.len.ensures c.in_ok-node.ensures c.in_ok-address.ensures c.any_misaddressed-misaddressed.ensures
