use Rattle.std.proofs.Common.{◌≡◌, take}
use Rattle.rina_plan.specs.Parts.{ends_of}
use Rattle.rina_plan.proofs.nets.ends_of.Given as goal

abbrev pub invariant-links : goal.invariant-links
invariant-links l = l.ends.items ≡ ends_of (take l.link-index l.links)
