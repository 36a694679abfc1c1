use Rattle.std.proofs.Common.{◌≡◌, ◌∙◌, ap, arith}
use Rattle.rina_timers.specs.Chains.{tick_of}
use Rattle.rina_timers.specs.Wheel.{slot_start}
use Rattle.rina_timers.proofs.Placing.{none_reached, later_reached, slot_opens}
use Rattle.rina_timers.proofs.wheel.next_slot.Goals as goal

pub returns-in_err-chain-clause-slot : goal.returns-in_err-chain-clause-slot
returns-in_err-chain-clause-slot c = rw c.from_residual.ensures (none_reached _ _ _ _ c.requires c.in_err-chain.ensures.chain)

pub returns-then-start-now-clause-slot : goal.returns-then-start-now-clause-slot
returns-then-start-now-clause-slot c =
    let first = c.in_ok-chain.ensures.chain in
    let at = rw c.in_ok-chain.ensures.same at c.in_ok-id.ensures in
    let start : c.slot_start-start.result ≡ slot_start 4 c.args.clock (tick_of c.args.times.now c.in_ok-id.id) = c.slot_start-start.ensures.start ∙ ap (slot_start 4 c.args.clock) c.tick_of.ensures in
    rw start (slot_opens _ _ _ c.args.now c.in_ok-chain.chain c.in_ok-id.id c.requires first.3 first.0 c.if-chain-eq-DUE.false first.1 at (omega (arith, start, c.if-start-now.true)))

pub returns-else-start-now-clause-slot : goal.returns-else-start-now-clause-slot
returns-else-start-now-clause-slot c =
    let first = c.in_ok-chain.ensures.chain in
    let at = rw c.in_ok-chain.ensures.same at c.in_ok-id.ensures in
    let start : c.slot_start-start.result ≡ slot_start 4 c.args.clock (tick_of c.args.times.now c.in_ok-id.id) = c.slot_start-start.ensures.start ∙ ap (slot_start 4 c.args.clock) c.tick_of.ensures in
    later_reached _ _ _ c.args.now c.in_ok-chain.chain c.in_ok-id.id c.requires first.3 first.0 c.if-chain-eq-DUE.false at (omega (arith, start, c.if-start-now.false))
