use Rattle.std.proofs.Common.{◌≡◌, drop}
use Rattle.std.specs.List.{list_any}
use Rattle.rina_plan.specs.Nets.{difs_of}
use Rattle.rina_plan.specs.Walks.{is_unjoined_link}
use Rattle.rina_plan.proofs.joined.any_unjoined_link.Given as goal

abbrev pub invariant-links : goal.invariant-links
invariant-links l = list_any (is_unjoined_link (difs_of l.nets)) (drop l.link-index l.links) ≡ list_any (is_unjoined_link (difs_of l.nets)) l.links
