-- The policy at the place of the name is given up.
use Rattle.rina_policy.proofs.Places.{retired_is, live_is}
use Rattle.rina_policy.proofs.shelf.Shelf.retire.Goals as goal

pub returns-clause-ok : goal.returns-clause-ok
returns-clause-ok g c = retired_is _ _ _ c.args.self.now.places.items c.args.name.now c.in-Some.at c.index_mut.result.now c.retire_place.new.place
    c.in-Some.ensures.place c.in-Some.ensures.found c.index_mut.ensures.value c.retire_place.ensures.name c.retire_place.ensures.gone

pub returns-clause-none : goal.returns-clause-none
returns-clause-none g c = (
  (λ e. absurd cc),
  live_is _ _ _ c.args.self.now.places.items c.args.name.now c.in-Some.at c.index.result.now
      c.in-Some.ensures.place c.in-Some.ensures.found c.index.ensures c.if-is_none.ensures,
)
