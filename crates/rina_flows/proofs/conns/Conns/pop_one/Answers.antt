use Rattle.std.proofs.Common.{◌≡◌, length, arith}
use Rattle.rina_flows.proofs.Watched.{fewer}
use Rattle.rina_flows.proofs.conns.Conns.pop_one.Goals as goal

pub invariant_of-self : goal.invariant_of-self
invariant_of-self c =
    let n = c.len.ensures in
    let at : c.len.result ≡ length c.pop.new.self.items = omega (arith, n) in
    fewer c.self.inside.watch c.clear.new.self c.len.result c.self.inside.items.items c.pop.new.self.items _ c.pop.ensures.items at c.clear.ensures c.self.invariant
