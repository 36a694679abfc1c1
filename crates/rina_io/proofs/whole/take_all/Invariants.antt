use Rattle.std.proofs.Common.{◌≡◌, ◌≤◌, length}
use Rattle.std.specs.Io.KnownBytes.{Consumes}
use Rattle.rina_io.proofs.whole.take_all.Given as goal

abbrev pub invariant-turns : goal.invariant-turns
invariant-turns g l = record {
  read : Consumes (g.S.Source.left l.fn.source) (g.S.Source.left l.source) l.bytes.items;
  small : length l.bytes.items ≤ 16777216;
  turns : l.counter ≤ length l.bytes.items;
  fine : g.S.Source.faults l.source ≡ g.S.Source.faults l.fn.source;
  steady : g.S.Source.odd l.source ≡ g.S.Source.odd l.fn.source;
}
