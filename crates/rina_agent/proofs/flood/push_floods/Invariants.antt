-- The floods on the links so far were added.
use Rattle.std.proofs.Common.{◌≡◌, ◌++◌, take}
use Rattle.rina_agent.specs.Agenda.{floods}
use Rattle.rina_agent.proofs.flood.push_floods.Given as goal

abbrev pub invariant-loop-link : goal.invariant-loop-link
invariant-loop-link l = l.added.items ≡ l.initial.added.items ++ floods l.out l.item (take l.link-index l.links)
