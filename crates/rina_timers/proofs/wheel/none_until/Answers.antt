use Rattle.std.proofs.Common.{◌≡◌, ◌∙◌, ap}
use Rattle.rina_timers.specs.Chains.{tick_of}
use Rattle.rina_timers.specs.Wheel.{slot_start}
use Rattle.rina_timers.proofs.Placing.{none_before}
use Rattle.rina_timers.proofs.wheel.none_until.Goals as goal

pub returns-clause-none : goal.returns-clause-none
returns-clause-none c =
    let first = c.in-Some.ensures.chain in
    let at = rw c.in-Some.ensures.same at c.in-Some-first.ensures in
    let start : c.slot_start.result ≡ slot_start 4 c.args.clock (tick_of c.args.times.now c.in-Some-first.id) = c.slot_start.ensures.start ∙ ap (slot_start 4 c.args.clock) c.tick_of-at.ensures in
    none_before _ _ c.args.clock c.in-Some.chain c.in-Some-first.id c.slot_start.result c.requires first.3 first.0 c.if-chain-eq-DUE.false at start c.slot_start.ensures.after
