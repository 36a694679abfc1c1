use Rattle.std.proofs.Common.{◌≡◌, drop}
use Rattle.std.specs.List.{list_any}
use Rattle.rina_plan.specs.Links.{is_unfit_link}
use Rattle.rina_plan.proofs.links.any_unfit_link.Given as goal

abbrev pub invariant-links : goal.invariant-links
invariant-links l = list_any (is_unfit_link l.wires l.difs l.dif) (drop l.link-index l.links) ≡ list_any (is_unfit_link l.wires l.difs l.dif) l.links
