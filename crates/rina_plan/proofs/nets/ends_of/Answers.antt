use Rattle.std.proofs.Common.{arith}
use Rattle.rina_plan.proofs.Merging.{ends_step}
use Rattle.rina_plan.proofs.nets.ends_of.Goals as goal

pub links-preserved : goal.links-preserved
links-preserved c =
    rw (c.in_ok-push-2.ensures.items, c.in_ok-push.ensures.items, c.links.invariant) (ends_step c.args.links.now c.links.link-index _ (omega arith))
