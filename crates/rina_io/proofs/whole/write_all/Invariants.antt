use Rattle.std.proofs.Common.{◌≡◌, ◌≤◌, ◌-◌, length, take}
use Rattle.std.specs.Io.KnownBytes.{Appends}
use Rattle.rina_io.proofs.whole.write_all.Given as goal

abbrev pub invariant-pieces : goal.invariant-pieces
invariant-pieces g l = record {
  within : l.done ≤ length l.piece;
  wrote : Appends (g.K.Sink.took l.fn.out) (g.K.Sink.took l.out) (take l.done l.piece);
  fine : g.K.Sink.faults l.out ≡ g.K.Sink.faults l.fn.out;
  steady : g.K.Sink.odd l.out ≡ g.K.Sink.odd l.fn.out;
}

abbrev pub decreases-pieces : goal.decreases-pieces
decreases-pieces g l = length l.piece - l.done
