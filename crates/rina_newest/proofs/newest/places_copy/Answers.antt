-- Under each key the copy has the same number.
use Rattle.rina_newest.proofs.Copies.{if_copied}
use Rattle.rina_newest.proofs.newest.places_copy.Goals as goal

pub returns : goal.returns
returns c = if_copied c.clone.result c.args.places.now _ c.clone.ensures.cases
