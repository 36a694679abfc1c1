use Rattle.std.proofs.Common.{◌≡◌, ◌≤◌, ◌+◌, ◌-◌, ◌^◌, min, drop}
use Rattle.rina_way.specs.Ways.{charges}
use Rattle.rina_way.proofs.slack.charges.Given as goal

abbrev pub invariant-hops : goal.invariant-hops
invariant-hops l = record {
  small : l.total ≤ 2 ^ 64 - 1;
  sum : min (l.total + charges (drop l.hop-index l.hops)) (2 ^ 64 - 1) ≡ min (charges l.hops) (2 ^ 64 - 1);
}
