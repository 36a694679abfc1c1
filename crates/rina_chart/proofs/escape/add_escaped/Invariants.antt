use Rattle.std.proofs.Common.{◌≡◌, ◌++◌, drop}
use Rattle.std.specs.List.{flat_map}
use Rattle.rina_chart.specs.Escapes.{spelled}
use Rattle.rina_chart.proofs.escape.add_escaped.Given as goal

abbrev pub invariant-bytes : goal.invariant-bytes
invariant-bytes l = l.text ++ flat_map spelled (drop l.byte-index l.bytes) ≡ l.initial.text ++ flat_map spelled l.bytes
