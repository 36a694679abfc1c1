use Rattle.std.proofs.Common.{None, Some, rules}
use Rattle.rina_dif.specs.Elsewhere.{IsEndOf, WhenOk}
use Rattle.rina_dif.proofs.Elsewhere.{lost_alone}
use Rattle.rina_dif.proofs.Unlinked.{end_read, left_read, place_read}
use Rattle.rina_dif.proofs.dif.Dif.lose_at.Goals as goal

pub bounds-links-place : goal.bounds-links-place
bounds-links-place g c = place_read c.args.self.now (g.F.Facility.seen c.args.below.now) c.args.at c.args.loss.lost c.in-Some.process.now c.as_slice-links.result.now c.in-Some.ensures c.as_slice-links.ensures c.requires.found

pub offset_bounds-links-place : goal.offset_bounds-links-place
offset_bounds-links-place g c = (let lt = place_read c.args.self.now (g.F.Facility.seen c.args.below.now) c.args.at c.args.loss.lost c.in-Some.process.now c.as_slice-links.result.now c.in-Some.ensures c.as_slice-links.ensures c.requires.found in search rules)

pub last_failed-requires-clause-lost : goal.last_failed-requires-clause-lost
last_failed-requires-clause-lost g c = place_read c.args.self.now (g.F.Facility.seen c.args.below.now) c.args.at c.args.loss.lost c.in-Some.process.now c.as_slice-links.result.now c.in-Some.ensures c.as_slice-links.ensures c.requires.found

pub lose_last_link-requires-clause-end : goal.lose_last_link-requires-clause-end
lose_last_link-requires-clause-end g c = end_read c.args.self.now c.args.at c.args.loss.lost.place c.in-Some.process.now c.as_slice-links.result.now _ c.open_on-end.result c.in-Some.ensures c.as_slice-links.ensures (place_read c.args.self.now (g.F.Facility.seen c.args.below.now) c.args.at c.args.loss.lost c.in-Some.process.now c.as_slice-links.result.now c.in-Some.ensures c.as_slice-links.ensures c.requires.found) c.open_on-end.ensures

pub lose_link-requires-clause-end : goal.lose_link-requires-clause-end
lose_link-requires-clause-end g c = end_read c.args.self.now c.args.at c.args.loss.lost.place c.in-Some.process.now c.as_slice-links.result.now _ c.open_on-end.result c.in-Some.ensures c.as_slice-links.ensures (place_read c.args.self.now (g.F.Facility.seen c.args.below.now) c.args.at c.args.loss.lost c.in-Some.process.now c.as_slice-links.result.now c.in-Some.ensures c.as_slice-links.ensures c.requires.found) c.open_on-end.ensures

pub returns-in-Some-last_failed-clause-manages : goal.returns-in-Some-last_failed-clause-manages
returns-in-Some-last_failed-clause-manages g c =
    let below = g.F.Facility.seen c.args.below.now in
    c.lose_last_link.ensures.manages below c.requires.found (left_read c.args.self.now below c.args.at c.args.loss.lost.place c.in-Some.process.now c.as_slice-links.result.now (Some c.in-Some-last_failed.port) c.in-Some.ensures c.as_slice-links.ensures c.in-Some-last_failed.ensures)

pub returns-in-None-clause-does : goal.returns-in-None-clause-does
returns-in-None-clause-does g c = λ lines h.
    let below = g.F.Facility.seen c.args.below.now in
    c.lose_link.ensures.does c.args.node lines below h c.requires.found (left_read c.args.self.now below c.args.at c.args.loss.lost.place c.in-Some.process.now c.as_slice-links.result.now None c.in-Some.ensures c.as_slice-links.ensures c.in-None.ensures)

pub returns-in-None-clause-manages : goal.returns-in-None-clause-manages
returns-in-None-clause-manages g c =
    let below = g.F.Facility.seen c.args.below.now in
    c.lose_link.ensures.manages c.args.node below c.requires.found (left_read c.args.self.now below c.args.at c.args.loss.lost.place c.in-Some.process.now c.as_slice-links.result.now None c.in-Some.ensures c.as_slice-links.ensures c.in-None.ensures)

pub returns-in-None-clause-leaves : goal.returns-in-None-clause-leaves
returns-in-None-clause-leaves g c = lost_alone c.args.self.now c.lose_link.new.self (Some c.args.at) (λ i. WhenOk c.lose_link.result (IsEndOf c.args.self.now (Some c.args.at) i)) c.lose_link.ensures.leaves c.lose_link.ensures.flows
