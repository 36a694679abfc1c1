-- The copies of the places and of the items are an index as these are.
use Rattle.std.proofs.Common.{◌∙◌}
use Rattle.rina_newest.proofs.Places.{place_in}
use Rattle.rina_newest.proofs.Copies.{indexed_again}
use Rattle.rina_newest.proofs.newest.Newest.copy.Goals as goal

pub invariant_of-result : goal.invariant_of-result
invariant_of-result c =
    let n = c.self.inside in
    indexed_again (place_in n.places) (place_in c.in_ok-places.places) n.items.items c.in_ok-items.items.items n.next c.in_ok-places.ensures (c.in_ok-items.ensures ∙ c.deref.ensures.value) c.self.invariant
