use Rattle.std.proofs.Common.{◌≡◌, ℕ, ◌<◌, length, take, get_or}
use Rattle.rina_plan.specs.Counts.{load_of}
use Rattle.rina_plan.proofs.counts.loads_of.Given as goal

abbrev pub invariant-links : goal.invariant-links
invariant-links l = record {
  size : length l.loads.items ≡ l.wires;
  counted : (i : ℕ) → i < l.wires → get_or l.loads.items i 0 ≡ load_of (take l.link-index l.links) i;
}
