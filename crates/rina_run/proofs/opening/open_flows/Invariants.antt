-- So far the ends of these flows have their labels.
use Rattle.std.proofs.Common.{◌≡◌, ◌+◌, ◌*◌, ℕ, take}
use Rattle.rina_tower.specs.declared.tower.Tower.{Tower}
use Rattle.rina_notes.specs.Look.{ends_at}
use Rattle.rina_run.specs.Opening.{Adds, AreFlowLabels}
use Rattle.rina_run.proofs.opening.open_flows.Given as goal

abbrev pub invariant-flows : goal.invariant-flows
invariant-flows l = record {
  place : l.place ≡ l.first + 2 * l.flow-index;
  labels : (t : Tower) (fac : ℕ) → ends_at t l.rank fac ≡ l.ends → Adds (AreFlowLabels t l.rank fac l.first (take l.flow-index l.flows)) l.fn.labels l.labels;
}
