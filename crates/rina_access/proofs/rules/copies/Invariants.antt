-- The rules so far are copied.
use Rattle.std.proofs.Common.{◌≡◌, take}
use Rattle.rina_access.proofs.rules.copies.Given as goal

abbrev pub invariant-loop-rule : goal.invariant-loop-rule
invariant-loop-rule l = l.copied ≡ take l.rule-index l.rules
