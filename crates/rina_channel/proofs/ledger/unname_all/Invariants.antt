use Rattle.std.proofs.Common.{◌≡◌, ◌++◌, map, take, drop}
use Rattle.rina_channel.specs.Ledgers.{unnamed_line}
use Rattle.rina_channel.proofs.ledger.unname_all.Given as goal

abbrev pub invariant-loop-line : goal.invariant-loop-line
invariant-loop-line l = l.lines ≡ map unnamed_line (take l.line-index l.initial.lines) ++ drop l.line-index l.initial.lines
