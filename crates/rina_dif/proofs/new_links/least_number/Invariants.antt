use Rattle.std.proofs.Common.{◌<◌, ℕ}
use Rattle.rina_dif.specs.Enrolling.{HasNumber}
use Rattle.rina_dif.proofs.new_links.least_number.Given as goal

-- each number before this one has a live link
abbrev pub invariant-loop-number : goal.invariant-loop-number
invariant-loop-number l = (n : ℕ) → n < l.number → HasNumber l.links n
