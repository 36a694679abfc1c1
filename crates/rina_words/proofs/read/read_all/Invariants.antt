use Rattle.std.proofs.Common.{◌≡◌, ◌-◌, ◌^◌, length}
use Rattle.rina_tower.specs.Stands.{IsTower}
use Rattle.rina_words.proofs.Reading.{Partly}
use Rattle.rina_words.proofs.read.read_all.Given as goal

abbrev pub invariant-entries : goal.invariant-entries
invariant-entries l = record {
  sound : IsTower l.run.tower;
  read : Partly l.line l.rank l.port l.fn.run l.fn.trace l.run l.trace;
  told : l.told ≡ length l.trace;
}

abbrev pub decreases-entries : goal.decreases-entries
decreases-entries l = 2 ^ 64 - l.told
