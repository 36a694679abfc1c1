use Rattle.std.proofs.Common.{◌≡◌, ◌≤◌, length, Some}
use Rattle.rina_dtp.proofs.join.push_empty_up_to.Given as goal

abbrev pub invariant-loop-number : goal.invariant-loop-number
invariant-loop-number l = record {
  is : l.joiner ≡ record l.fn.joiner { held = Some (record { from = l.fn.run.from; last = l.number }) };
  within : length l.joiner.bytes ≤ l.joiner.largest;
  largest : l.joiner.largest ≡ l.fn.joiner.largest;
}
