use Rattle.std.proofs.Common.{◌≡◌, drop}
use Rattle.std.specs.List.{list_any}
use Rattle.rina_plan.specs.Counts.{is_overloaded}
use Rattle.rina_plan.proofs.counts.any_overloaded.Given as goal

abbrev pub invariant-members : goal.invariant-members
invariant-members l = list_any (is_overloaded l.links l.at l.dif) (drop l.member-index l.members) ≡ list_any (is_overloaded l.links l.at l.dif) l.members
