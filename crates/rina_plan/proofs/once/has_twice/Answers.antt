use Rattle.std.proofs.Common.{◌-◌, get_or, length, refl, ap, ◌∙◌, arith}
use Rattle.std.specs.Prelude.{is_some}
use Rattle.rina_plan.proofs.Known.{known_none, known_step, twice_found, twice_not, none_twice}
use Rattle.rina_plan.proofs.once.has_twice.Goals as goal

pub loop-at-init : goal.loop-at-init
loop-at-init c = record {
  place = omega arith;
  known = λ q. known_none c.args.numbers.now (length c.args.numbers.now) q c.new-seen.result (omega arith) c.new-seen.ensures.empty;
  read = none_twice c.args.numbers.now (length c.args.numbers.now) (omega arith);
}

pub loop-at-preserved-then-again : goal.loop-at-preserved-then-again
loop-at-preserved-then-again c =
    let xs = c.args.numbers.now in
    let i = c.loop-at.at - 1 in
    let x = get_or xs i 0 in
    record {
      place = omega arith;
      known = λ q. known_step xs i c.loop-at.at x q _ _ _ (omega arith) (omega arith) refl (c.loop-at.invariant.known q) (c.in_ok-insert.ensures.updates.0 q);
      read = twice_found xs i c.loop-at.at x c.is_some-again.result (omega arith) (omega arith) refl (c.is_some-again.ensures ∙ ap is_some c.in_ok-insert.ensures.old ∙ c.loop-at.invariant.known x) c.if-again.true;
    }

pub loop-at-preserved : goal.loop-at-preserved
loop-at-preserved c =
    let xs = c.args.numbers.now in
    let i = c.loop-at.at - 1 in
    let x = get_or xs i 0 in
    record {
      place = omega arith;
      known = λ q. known_step xs i c.loop-at.at x q _ _ _ (omega arith) (omega arith) refl (c.loop-at.invariant.known q) (c.in_ok-insert.ensures.updates.0 q);
      read = twice_not xs i c.loop-at.at x c.is_some-again.result c.loop-at.twice (omega arith) (omega arith) refl (c.is_some-again.ensures ∙ ap is_some c.in_ok-insert.ensures.old ∙ c.loop-at.invariant.known x) c.if-again.false c.loop-at.invariant.read;
    }
