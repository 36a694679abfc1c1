use Rattle.rina_io.specs.Reader.{size}
use Rattle.rina_run.specs.Faults.{IsNoneMore}
use Rattle.rina_run.proofs.ReadOn.{HeadSoFar}
use Rattle.rina_run.proofs.reading.read_stack.Given as goal

abbrev pub invariant-lines : goal.invariant-lines
invariant-lines g l = record {
  so_far : HeadSoFar (g.S.Source.left l.fn.source) (g.S.Source.left l.source) l.reader l.text.items;
  fine : IsNoneMore (g.S.Source.faults l.fn.source) (g.S.Source.faults l.source) (g.S.Source.odd l.fn.source) (g.S.Source.odd l.source);
}

abbrev pub decreases-lines : goal.decreases-lines
decreases-lines g l = size l.reader
