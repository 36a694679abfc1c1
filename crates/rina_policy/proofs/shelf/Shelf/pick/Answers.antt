-- The policy at the place of the name is asked.
use Rattle.rina_policy.proofs.Places.{asked_is, dead_is}
use Rattle.rina_policy.proofs.shelf.Shelf.pick.Goals as goal

pub returns-in-Some-clause-asked : goal.returns-in-Some-clause-asked
returns-in-Some-clause-asked g c = asked_is _ _ _ c.args.self.now.places.items c.args.name.now c.in-Some.at c.index_mut.result.now c.ask_place.new.place c.ask_place.result
    c.in-Some.ensures.place c.in-Some.ensures.found c.index_mut.ensures.value c.ask_place.ensures.name c.ask_place.ensures.asked

pub returns-in-Some-clause-dead : goal.returns-in-Some-clause-dead
returns-in-Some-clause-dead g c none = c.ask_place.ensures.dead (dead_is _ _ _ c.args.self.now.places.items c.args.name.now c.in-Some.at c.index_mut.result.now
    c.in-Some.ensures.place c.in-Some.ensures.found c.index_mut.ensures.value none)
