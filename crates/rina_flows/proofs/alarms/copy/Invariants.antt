use Rattle.rina_flows.proofs.Alarmed.{Copied}
use Rattle.rina_flows.proofs.alarms.copy.Given as goal

abbrev pub invariant-loop-id : goal.invariant-loop-id
invariant-loop-id l = Copied l.from l.initial.timers l.timers l.id
