-- The best so far is the earliest of the heads that were looked at.
use Rattle.rina_policy.specs.Heads.{IsEarliestOf}
use Rattle.rina_policy.proofs.built_in.earliest.Given as goal

abbrev pub invariant-loop-at : goal.invariant-loop-at
invariant-loop-at l = IsEarliestOf l.at l.heads l.best
