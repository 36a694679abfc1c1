use Rattle.rina_stack.proofs.Sound.{resolved, narrows, same_fault}
use Rattle.rina_stack.proofs.read.stack_of.Goals as goal

pub plan-requires : goal.plan-requires
plan-requires g c =
    narrows _ (resolved _ _ c.in_ok-named.named c.in_ok-sketch.sketch _ _ c.in_ok-named.ensures (same_fault 5 _ _ _ c.in_ok-duplicate.ensures c.in_ok-check-2.ensures.read) c.in_ok-sketch.ensures c.in_ok-check_rules.ensures.read)
