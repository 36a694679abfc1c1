use Rattle.std.proofs.Common.{◌≡◌, length, true, false, sym, ap, ◌∙◌, arith}
use Rattle.rina_timers.specs.Chains.{is_before}
use Rattle.rina_timers.proofs.Written.{link_read}
use Rattle.rina_timers.proofs.Walking.{walk_begins, walk_goes, walk_within, walk_at}
use Rattle.rina_timers.proofs.chains.Chains.earliest.Goals as goal
use Rattle.rina_timers.proofs.chains.Chains.earliest.Goals.{then-is_before, else-is_before}

pub loop-init : goal.loop-init
loop-init c =
    let l = c.self.invariant.links in
    let read = link_read c.self.inside.first.items c.args.chain c.index.result.now (omega (arith, c.requires.within, l.first_long)) c.index.ensures in
    walk_begins _ _ _ _ c.args.times.now l c.args.chain c.in_ok-id.id c.requires.some (sym read ∙ c.in_ok-id.was)

pub is_before-requires-clause-id : goal.is_before-requires-clause-id
is_before-requires-clause-id c =
    let w = c.loop.invariant in
    let at = walk_at _ _ _ _ _ _ _ _ _ w c.requires.some in
    let read = link_read c.self.inside.next.items c.loop.id c.index-in-loop.result.now (omega (arith, at, w.links.next_long)) c.index-in-loop.ensures in
    let within = walk_within _ _ _ _ _ _ _ _ _ w c.requires.some c.in-Some.next (sym read ∙ c.in-Some.is) in
    omega (arith, within, c.requires.times, ap length c.self.view_is)

pub loop-preserved : goal.loop-preserved
loop-preserved c =
    let w = c.loop.invariant in
    let at = walk_at _ _ _ _ _ _ _ _ _ w c.requires.some in
    let read = link_read c.self.inside.next.items c.loop.id c.index-in-loop.result.now (omega (arith, at, w.links.next_long)) c.index-in-loop.ensures in
    let goes = walk_goes _ _ _ _ _ _ _ _ _ w c.requires.some c.in-Some.next (sym read ∙ c.in-Some.is) in
    elim c.if-is_before.branch [
      | then-is_before b ↦ (let is : is_before c.args.times.now c.in-Some.next c.loop.best ≡ true = sym c.is_before.ensures ∙ b.if-is_before.true in let goes' = rw is at goes in rw b.best-is goes')
      | else-is_before b ↦ (let is : is_before c.args.times.now c.in-Some.next c.loop.best ≡ false = sym c.is_before.ensures ∙ b.if-is_before.false in let goes' = rw is at goes in rw b.best-is goes')
    ]
