use Rattle.rina_timers.proofs.wheel.+slot.Given as goal

abbrev pub decreases-slot : goal.decreases-slot
decreases-slot l = l.levels
