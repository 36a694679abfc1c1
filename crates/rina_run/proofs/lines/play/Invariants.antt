use Rattle.std.proofs.Common.{◌+◌, ◌≤◌}
use Rattle.std.specs.Io.KnownBytes.{Appends}
use Rattle.rina_io.specs.NextLine.{IsSound}
use Rattle.rina_io.specs.Reader.{size}
use Rattle.rina_report.specs.Notes.{text_of}
use Rattle.rina_tower.specs.Stands.{IsTower}
use Rattle.rina_run.specs.Faults.{IsNoneMore}
use Rattle.rina_words.specs.Step.{HasNames, stage}
use Rattle.rina_run.proofs.Playing.{PlayedSoFar}
use Rattle.rina_run.proofs.lines.play.Given as goal

abbrev pub invariant-lines : goal.invariant-lines
invariant-lines g l = record {
  so_far : PlayedSoFar (g.S.Source.left l.fn.source) (g.S.Source.left l.source) l.fn.reader l.reader l.schedule.plan.now (stage l.fn.run (g.P.Picks.slots l.fn.shelf)) l.trace (stage l.run (g.P.Picks.slots l.shelf)) l.number;
  reader : IsSound (g.S.Source.left l.source) l.reader;
  fewer : l.number + size l.reader ≤ size l.fn.reader;
  sound : IsTower l.run.tower;
  names : HasNames (g.P.Picks.slots l.fn.shelf) (g.P.Picks.slots l.shelf);
  wrote : Appends (g.K.Sink.took l.fn.out) (g.K.Sink.took l.out) (text_of l.trace);
  fine : IsNoneMore (g.K.Sink.faults l.fn.out) (g.K.Sink.faults l.out) (g.K.Sink.odd l.fn.out) (g.K.Sink.odd l.out);
  steady : IsNoneMore (g.S.Source.faults l.fn.source) (g.S.Source.faults l.source) (g.S.Source.odd l.fn.source) (g.S.Source.odd l.source);
}

abbrev pub decreases-lines : goal.decreases-lines
decreases-lines g l = size l.reader
