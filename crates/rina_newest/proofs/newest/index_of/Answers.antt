-- The closure gives an entry's number, and a search among numbers that rise ends at the entry.
use Rattle.std.proofs.Common.{rules}
use Rattle.std.proofs.lemmas.List.Sorted.{answers_always}
use Rattle.rina_newest.proofs.Numbers.{searched}
use Rattle.rina_newest.proofs.newest.index_of.Goals as goal

pub returns : goal.returns
returns c =
    let facts = c.binary_search_by_key.ensures in
    let by_number = facts.position (λ e. e.0) (answers_always _ _ _ (λ f a r g called. search rules)) in
    rw c.ok.ensures.value (searched c.args.items.now c.requires c.args.at c.binary_search_by_key.result facts.bound by_number)
