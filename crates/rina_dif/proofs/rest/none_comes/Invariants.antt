use Rattle.std.proofs.Common.{◌≡◌, true, None}
use Rattle.rina_data.specs.declared.link.Link.{Link}
use Rattle.rina_iface.specs.Seen.{unpassed}
use Rattle.rina_dif.proofs.Rested.{SoFar}
use Rattle.rina_dif.proofs.rest.none_comes.Given as goal

abbrev pub invariant-loop-place : goal.invariant-loop-place
invariant-loop-place g l = SoFar (λ (link : Link). link.live ≡ true → unpassed (g.F.Facility.seen l.below) link.port ≡ None) l.links l.place
