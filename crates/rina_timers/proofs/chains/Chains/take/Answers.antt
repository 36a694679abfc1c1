use Rattle.std.proofs.Common.{◌≡◌, ◌≢◌, ◌<◌, length, ap, ◌∙◌, arith}
use Rattle.rina_timers.specs.Chains.{chain_of, led_by}
use Rattle.rina_timers.proofs.Written.{link_read, chain_read, taken_chained, taken_low, prev_within, next_within}
use Rattle.rina_timers.proofs.chains.Chains.take.Goals as goal

pub write_link-requires-2 : goal.write_link-requires-2
write_link-requires-2 c =
    let l = c.self.invariant.links in
    let there : c.args.id < length c.self.inside.chain.items = rw c.self.view_is c.requires.within in
    let some : chain_of c.self.inside.chain.items c.args.id ≢ 0 = rw c.self.view_is c.requires.some in
    prev_within _ _ _ _ l c.args.id some c.index-prev.result.now (link_read c.self.inside.prev.items c.args.id c.index-prev.result.now (omega (arith, there, l.prev_long)) c.index-prev.ensures)

pub write_link-requires-3 : goal.write_link-requires-3
write_link-requires-3 c =
    let l = c.self.invariant.links in
    let there : c.args.id < length c.self.inside.chain.items = rw c.self.view_is c.requires.within in
    let some : chain_of c.self.inside.chain.items c.args.id ≢ 0 = rw c.self.view_is c.requires.some in
    next_within _ _ _ _ l c.args.id some c.index-next.result.now (link_read c.self.inside.next.items c.args.id c.index-next.result.now (omega (arith, there, l.next_long)) c.index-next.ensures)

pub invariant_of-self : goal.invariant_of-self
invariant_of-self c =
    let l = c.self.invariant.links in
    let there : c.args.id < length c.self.inside.chain.items = rw c.self.view_is c.requires.within in
    let some : chain_of c.self.inside.chain.items c.args.id ≢ 0 = rw c.self.view_is c.requires.some in
    let nx = link_read c.self.inside.next.items c.args.id c.index-next.result.now (omega (arith, there, l.next_long)) c.index-next.ensures in
    let pv = link_read c.self.inside.prev.items c.args.id c.index-prev.result.now (omega (arith, there, l.prev_long)) c.index-prev.ensures in
    let led : c.led_by.result ≡ led_by (chain_of c.self.inside.chain.items c.args.id) c.index-prev.result.now = c.led_by.ensures ∙ ap (λ k. led_by k c.index-prev.result.now) (chain_read c.self.inside.chain.items c.args.id c.index.result.now there c.index.ensures) in
    rw (c.write_link.ensures, c.write_link-2.ensures, c.write_link-3.ensures) (rw led (record {
      links = taken_chained _ _ _ _ l c.args.id there some c.index-next.result.now c.index-prev.result.now nx pv;
      least = taken_low _ _ c.self.invariant.least c.args.id there;
    }))
