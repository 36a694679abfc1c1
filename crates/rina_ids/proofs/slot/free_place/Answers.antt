-- The first free id stands at the position of the test.
use Rattle.rina_ids.proofs.Places.{place_is, place_within}
use Rattle.rina_ids.proofs.slot.free_place.Goals as goal

pub returns-clause-place : goal.returns-clause-place
returns-clause-place c = place_is c.args.tick c.args.slots.now c.free_of_all.result c.free_of_all.ensures.found c.free_of_all.ensures.least

pub returns-clause-within : goal.returns-clause-within
returns-clause-within c = place_within c.args.tick c.args.slots.now c.free_of_all.result c.free_of_all.ensures.found
