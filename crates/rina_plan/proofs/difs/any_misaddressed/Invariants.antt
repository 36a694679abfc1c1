use Rattle.std.proofs.Common.{◌≡◌, drop}
use Rattle.std.specs.List.{list_any}
use Rattle.rina_plan.specs.Difs.{is_misaddressed}
use Rattle.rina_plan.proofs.difs.any_misaddressed.Given as goal

abbrev pub invariant-members : goal.invariant-members
invariant-members l = list_any (is_misaddressed l.width) (drop l.member-index l.members) ≡ list_any (is_misaddressed l.width) l.members
