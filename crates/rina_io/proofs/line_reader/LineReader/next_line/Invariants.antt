use Rattle.std.proofs.Common.{◌≡◌}
use Rattle.rina_io.proofs.Chunks.{SoFar}
use Rattle.rina_io.proofs.line_reader.LineReader.next_line.Given as goal

abbrev pub invariant-chunks : goal.invariant-chunks
invariant-chunks g l = record {
  so_far : SoFar (g.S.Source.left l.fn.source) (g.S.Source.left l.source) l.fn.self l.self l.line.items;
  fine : g.S.Source.faults l.source ≡ g.S.Source.faults l.fn.source;
  steady : g.S.Source.odd l.source ≡ g.S.Source.odd l.fn.source;
}

abbrev pub decreases-chunks : goal.decreases-chunks
decreases-chunks g l = l.self.room
