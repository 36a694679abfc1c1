use Rattle.rina_dtp.proofs.Fetched.{none_held, takes_held}
use Rattle.rina_dtp.proofs.shelf.Shelf.next_held.Goals as goal

pub returns-in-None-clause-taken : goal.returns-in-None-clause-taken
returns-in-None-clause-taken c = (let e = none_held c.args.self.now c.in-None.ensures.held in (e, e))

pub returns-in-Some-clause-taken : goal.returns-in-Some-clause-taken
returns-in-Some-clause-taken c = takes_held c.args.self.now c.free.new.self c.in-Some.number c.in-Some.ensures.some c.in-Some.ensures.held c.free.ensures
