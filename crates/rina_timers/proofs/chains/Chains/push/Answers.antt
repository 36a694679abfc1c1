use Rattle.std.proofs.Common.{rules, ◌≡◌, ◌<◌, length, arith}
use Rattle.rina_timers.specs.Chains.{chain_of}
use Rattle.rina_timers.proofs.Written.{link_read, pushed_chained, pushed_low, first_within}
use Rattle.rina_timers.proofs.chains.Chains.push.Goals as goal

pub write_link-requires : goal.write_link-requires
write_link-requires c =
    let l = c.self.invariant.links in
    first_within _ _ _ _ l c.args.chain c.index-next.result.now (link_read c.self.inside.first.items c.args.chain c.index-next.result.now (omega (arith, c.requires.chain, l.first_long)) c.index-next.ensures)

pub invariant_of-self : goal.invariant_of-self
invariant_of-self c =
    let l = c.self.invariant.links in
    let there : c.args.id < length c.self.inside.chain.items = rw c.self.view_is c.requires.within in
    let none : chain_of c.self.inside.chain.items c.args.id ≡ 0 = rw c.self.view_is c.requires.none in
    let nx = link_read c.self.inside.first.items c.args.chain c.index-next.result.now (omega (arith, c.requires.chain, l.first_long)) c.index-next.ensures in
    rw c.write_link.ensures (record {
      links = pushed_chained _ _ _ _ l c.args.id c.args.chain there none c.requires.some c.requires.chain c.index-next.result.now nx;
      least = pushed_low _ _ c.self.invariant.least c.args.id c.args.chain there _ (search rules) (search rules);
    })
