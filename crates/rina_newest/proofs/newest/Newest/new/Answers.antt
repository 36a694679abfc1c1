-- An index of no items.
use Rattle.std.proofs.Common.{arith}
use Rattle.std.proofs.lemmas.Grind.{common_steps}
use Rattle.rina_newest.proofs.Index.{empty_index}
use Rattle.rina_newest.proofs.Places.{place_in}
use Rattle.rina_newest.proofs.newest.Newest.new.Goals as goal

pub invariant_of-result : goal.invariant_of-result
invariant_of-result c = empty_index (place_in c.new.result) c.new-2.result.items 0 (λ q. grind (arith, common_steps, c.new.ensures.empty)) c.new-2.ensures.items
