use Rattle.std.proofs.Common.{sym, ◌∙◌, ap, ◌*◌}
use Rattle.rina_timers.proofs.Slots.{start_zero, start_equal, start_apart}
use Rattle.rina_timers.proofs.wheel.+slot_start.Goals as goal

pub returns-then-levels-eq0-clause-start : goal.returns-then-levels-eq0-clause-start
returns-then-levels-eq0-clause-start t c = sym (start_zero c.args.levels c.args.clock c.args.at c.if-levels-eq0.true)

pub returns-then-clock-at-clause-start : goal.returns-then-clock-at-clause-start
returns-then-clock-at-clause-start t c = sym (start_equal c.args.levels c.args.clock c.args.at c.if-levels-eq0.false c.if-clock-at.true)

pub returns-else-clock-at-clause-start : goal.returns-else-clock-at-clause-start
returns-else-clock-at-clause-start t c = ap (λ k. 64 * k) c.slot_start.ensures.start ∙ sym (start_apart c.args.levels c.args.clock c.args.at c.if-levels-eq0.false c.if-clock-at.false)
