use Rattle.std.proofs.Common.{arith}
use Rattle.rina_dtcp.proofs.Rising.{tick_before, tick_from}
use Rattle.rina_dtcp.proofs.sent.due_tick.Goals.{then-again-latest, else-again-latest}
use Rattle.rina_dtcp.proofs.sent.due_tick.Goals as goal

pub returns-clause-before : goal.returns-clause-before
returns-clause-before c = elim c.if-again-latest.branch [
  | then-again-latest w ↦ (let is = w.tick-is in let le = w.if-again-latest.true in let least = c.min.ensures in λ s first last. tick_before c.args.cube.now c.min.result s (λ low. omega (arith, is, least, first, last)) (λ lt. omega (arith, is, le, least, first, last, lt)))
  | else-again-latest w ↦ (let is = w.tick-is in let gt = w.if-again-latest.false in let least = c.min.ensures in λ s first last. tick_before c.args.cube.now c.min.result s (λ low. omega (arith, is, gt, least, first, last, low)) (λ lt. omega (arith, is, least, first, last)))
]

pub returns-clause-from : goal.returns-clause-from
returns-clause-from c = elim c.if-again-latest.branch [
  | then-again-latest w ↦ (let is = w.tick-is in let le = w.if-again-latest.true in let least = c.min.ensures in λ s first last. tick_from c.args.cube.now c.min.result s (λ most low. omega (arith, is, least, first, last, most)) (λ most lt. omega (arith, is, le, least, first, last, lt)))
  | else-again-latest w ↦ (let is = w.tick-is in let gt = w.if-again-latest.false in let least = c.min.ensures in λ s first last. tick_from c.args.cube.now c.min.result s (λ most low. omega (arith, is, gt, least, first, last, low)) (λ most lt. omega (arith, is, least, first, last, most)))
]
