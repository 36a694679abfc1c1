use Rattle.std.proofs.Common.{◌≡◌, ◌+◌, ◌-◌, ◌≤◌}
use Rattle.rina_tower.specs.Ranks.{now_of}
use Rattle.rina_tower.specs.Stands.{IsTower}
use Rattle.rina_notes.specs.Look.{Leads}
use Rattle.rina_words.specs.Step.{HasNames, Ticks, stage}
use Rattle.rina_words.proofs.line.tick_all.Given as goal

abbrev pub invariant-ticks : goal.invariant-ticks
invariant-ticks g l = record {
  tower : IsTower l.run.tower;
  within : l.left ≤ l.count;
  clock : now_of l.run.tower + l.left ≡ now_of l.fn.run.tower + l.count;
  ticks : Leads (λ ns. Ticks l.line.plan.now l.line.number (l.count - l.left) (stage l.fn.run (g.P.Picks.slots l.fn.shelf)) ns (stage l.run (g.P.Picks.slots l.shelf))) l.fn.trace l.trace;
  names : HasNames (g.P.Picks.slots l.fn.shelf) (g.P.Picks.slots l.shelf);
}

abbrev pub decreases-ticks : goal.decreases-ticks
decreases-ticks g l = l.left
