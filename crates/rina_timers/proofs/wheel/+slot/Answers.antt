use Rattle.std.proofs.Common.{sym, ◌∙◌, ap, ◌+◌}
use Rattle.rina_timers.proofs.Slots.{slot_zero, slot_equal, slot_apart}
use Rattle.rina_timers.proofs.wheel.+slot.Goals as goal

pub returns-then-levels-eq0-clause-slot : goal.returns-then-levels-eq0-clause-slot
returns-then-levels-eq0-clause-slot t c = sym (slot_zero c.args.levels c.args.clock c.args.at c.if-levels-eq0.true)

pub returns-then-clock-at-clause-slot : goal.returns-then-clock-at-clause-slot
returns-then-clock-at-clause-slot t c = sym (slot_equal c.args.levels c.args.clock c.args.at c.if-levels-eq0.false c.if-clock-at.true)

pub returns-else-clock-at-clause-slot : goal.returns-else-clock-at-clause-slot
returns-else-clock-at-clause-slot t c = ap (λ k. 64 + k) c.slot.ensures.slot ∙ sym (slot_apart c.args.levels c.args.clock c.args.at c.if-levels-eq0.false c.if-clock-at.false)
