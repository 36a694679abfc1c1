-- So far these lines are inside the grammar, and so many of them hold an event.
use Rattle.std.proofs.Common.{◌+◌, ◌≤◌}
use Rattle.rina_io.specs.NextLine.{IsSound}
use Rattle.rina_io.specs.Reader.{size}
use Rattle.rina_run.specs.Faults.{IsNoneMore}
use Rattle.rina_run.proofs.Checks.{CheckedSoFar}
use Rattle.rina_run.proofs.check.read_lines.Given as goal

abbrev pub invariant-lines : goal.invariant-lines
invariant-lines g l = record {
  so_far : CheckedSoFar (g.S.Source.left l.fn.source) (g.S.Source.left l.source) l.fn.reader l.reader l.number l.events;
  reader : IsSound (g.S.Source.left l.source) l.reader;
  fewer : l.number + size l.reader ≤ size l.fn.reader;
  few : l.events ≤ l.number;
  steady : IsNoneMore (g.S.Source.faults l.fn.source) (g.S.Source.faults l.source) (g.S.Source.odd l.fn.source) (g.S.Source.odd l.source);
}

abbrev pub decreases-lines : goal.decreases-lines
decreases-lines g l = size l.reader
