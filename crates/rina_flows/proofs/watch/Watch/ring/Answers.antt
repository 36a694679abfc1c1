use Rattle.std.proofs.Common.{rules, ◌≡◌, ◌++◌, ◌∷◌, [], refl}
use Rattle.rina_flows.proofs.Watched.{ring_pushed}
use Rattle.rina_flows.proofs.watch.Watch.ring.Goals as goal

pub returns-clause-shifts : goal.returns-clause-shifts
returns-clause-shifts c =
    let old = c.args.self.now in
    let places : c.push.new.self.items ≡ old.places.items ++ c.in-Some.at ∷ [] = search rules in
    ring_pushed c.in-Some.at old (record old { places = c.push.new.self; alarms = c.due.new.self }) places refl c.in-Some.ensures.1
