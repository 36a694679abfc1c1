use Rattle.std.proofs.Common.{ap, arith}
use Rattle.std.proofs.lemmas.Option.{slice_get_within}
use Rattle.rina_wire.specs.declared.flight.Flight.{Flight}
use Rattle.rina_wire.proofs.Rested.{next_copy, last_copy}
use Rattle.rina_wire.proofs.wire.rest.first_arrival.Goals as goal

pub loop-place-init : goal.loop-place-init
loop-place-init c = record {
  quiet = λ at f lt stands. absurd (omega (arith, lt));
  last = λ later small quiet. omega (arith, small);
}

pub loop-place-preserved : goal.loop-place-preserved
loop-place-preserved c =
    let least = c.min-until.ensures in
    let due = ap (λ (f : Flight). f.due) c.index-flights-place.is in
    record {
      quiet = next_copy c.args.flights.now c.loop-place.place c.loop-place.until c.min-until.result c.index-flights-place.result c.index-flights-place.is (omega (arith, least)) (omega (arith, least, due)) c.loop-place.invariant.quiet;
      last = last_copy c.args.flights.now c.loop-place.place c.loop-place.until c.min-until.result c.index-flights-place.result (omega arith) c.index-flights-place.is (λ later a b. omega (arith, least, due, a, b)) c.loop-place.invariant.last;
    }

pub returns-clause-quiet : goal.returns-clause-quiet
returns-clause-quiet c = λ at f stands.
    let within = slice_get_within c.args.flights.now at f stands in
    let after = c.loop-place-test.false in
    let end = c.loop-place.auto.place-end in
    c.loop-place.invariant.quiet at f (omega (arith, within, after)) stands

pub returns-clause-last : goal.returns-clause-last
returns-clause-last c = c.loop-place.invariant.last
