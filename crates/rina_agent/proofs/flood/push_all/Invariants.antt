-- The items so far were added.
use Rattle.std.proofs.Common.{◌≡◌, ◌++◌, map}
use Rattle.rina_agent.specs.Agenda.{item_on}
use Rattle.rina_agent.proofs.flood.push_all.Given as goal

abbrev pub invariant-loop-item : goal.invariant-loop-item
invariant-loop-item l = l.added.items ≡ l.initial.added.items ++ map (item_on l.link) l.yielded
