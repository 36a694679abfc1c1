use Rattle.std.proofs.Common.{◌≡◌, ◌++◌, ◌-◌, map}
use Rattle.rina_chart.specs.Shapes.{tick_shape, ticks_from}
use Rattle.rina_chart.proofs.shape.add_ticks.Given as goal

abbrev pub invariant-ticks : goal.invariant-ticks
invariant-ticks l = l.shapes ++ map (tick_shape l.frame) (ticks_from l.step l.tick (l.count - l._place)) ≡ l.initial.shapes ++ map (tick_shape l.frame) (ticks_from l.step l.frame.window.from l.count)
