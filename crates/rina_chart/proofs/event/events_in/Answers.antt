use Rattle.rina_chart.proofs.Happening.{events_begin, events_on}
use Rattle.rina_chart.proofs.event.events_in.Goals as goal

pub ticks-init : goal.ticks-init
ticks-init c = record {
  within = c.next_of-at.ensures.within;
  made = rw c.new-events.ensures (events_begin c.args.marks.now c.args.sdus.now c.next_of-at.result _ c.next_of-at.ensures.within c.next_of-at.ensures.silent);
}

pub ticks-preserved : goal.ticks-preserved
ticks-preserved c = record {
  within = c.next_of-at-in-ticks.ensures.within;
  made = rw c.in_ok-add_events.ensures (events_on c.args.marks.now c.args.sdus.now c.ticks.at c.next_of-at-in-ticks.result _ c.ticks.events _ c.ticks-test.true c.next_of-at-in-ticks.ensures.later c.next_of-at-in-ticks.ensures.within c.next_of-at-in-ticks.ensures.silent c.ticks.invariant.made);
}
