use Rattle.std.proofs.Common.{None, Some, ap, option_map, sym}
use Rattle.rina_iface.specs.Seen.{Offer}
use Rattle.rina_dif.proofs.Facing.{offer_is}
use Rattle.rina_dif.proofs.dif.Dif.largest.Goals as goal

pub returns-in-Some : goal.returns-in-Some
returns-in-Some c = sym (ap (option_map (λ (o : Offer). o.largest)) (offer_is c.args.self.now c.args.port (Some c.in-Some.cube.now) (sym (rw c.in-Some.is at c.cube.ensures))))

pub returns-in-None : goal.returns-in-None
returns-in-None c = sym (ap (option_map (λ (o : Offer). o.largest)) (offer_is c.args.self.now c.args.port None (sym (rw c.in-None.is at c.cube.ensures))))
