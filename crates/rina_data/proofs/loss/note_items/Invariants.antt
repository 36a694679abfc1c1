use Rattle.std.proofs.Common.{◌≡◌, ◌++◌, map, take}
use Rattle.rina_data.specs.Losing.{line_down}
use Rattle.rina_data.proofs.loss.note_items.Given as goal

abbrev pub invariant-loop-at : goal.invariant-loop-at
invariant-loop-at l = l.lines.items ≡ l.initial.lines.items ++ map (line_down l.fn.port) (take l.at l.queue.ring.items)
