use Rattle.std.proofs.Common.{◌≡◌, ◌++◌, drop, map}
use Rattle.rina_chart.specs.Columns.{printable}
use Rattle.rina_chart.proofs.columns.add_printable.Given as goal

abbrev pub invariant-bytes : goal.invariant-bytes
invariant-bytes l = l.text ++ map printable (drop l.byte-index l.bytes) ≡ l.initial.text ++ map printable l.bytes
