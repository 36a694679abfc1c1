use Rattle.std.proofs.Common.{length}
use Rattle.rina_agent.proofs.peer.+address_among.Given as goal

abbrev pub decreases-address_among : goal.decreases-address_among
decreases-address_among l = length l.items.now
