-- The links so far have their connections.
use Rattle.rina_dif.proofs.Joining.{AreMadeOf}
use Rattle.rina_dif.proofs.connections.Connections.of_links.Given as goal

abbrev pub invariant-loop-pair : goal.invariant-loop-pair
invariant-loop-pair l = AreMadeOf l.settings l.fn.manage l.clock l.ports l.processes l.pair-index l.made
