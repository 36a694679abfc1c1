use Rattle.rina_timers.proofs.Walking.{Walk}
use Rattle.rina_timers.proofs.chains.Chains.earliest.Given as goal

abbrev pub invariant-loop : goal.invariant-loop
invariant-loop l = Walk l.self-inside.chain.items l.self-inside.next.items l.self-inside.prev.items l.self-inside.first.items l.times l.chain l.id l.best l.counter
