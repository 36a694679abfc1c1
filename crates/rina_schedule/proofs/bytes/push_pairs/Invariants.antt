use Rattle.std.proofs.Common.{◌≡◌, ◌≤◌, ◌-◌, ◌++◌, drop, length}
use Rattle.std.specs.Option.{option_map}
use Rattle.rina_schedule.specs.Bytes.{hex_of}
use Rattle.rina_schedule.proofs.bytes.push_pairs.Given as goal

abbrev pub invariant-pairs : goal.invariant-pairs
invariant-pairs l = record {
  within : l.at ≤ length l.text;
  read : option_map (λ ys. l.bytes ++ ys) (hex_of (drop l.at l.text)) ≡ hex_of l.text;
}

abbrev pub decreases-pairs : goal.decreases-pairs
decreases-pairs l = length l.text - l.at
