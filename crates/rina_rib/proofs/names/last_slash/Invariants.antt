-- What is left decides, behind the last slash so far.
use Rattle.std.proofs.Common.{◌≡◌, ◌≤◌, drop}
use Rattle.rina_rib.specs.Names.{last_slash}
use Rattle.rina_rib.proofs.names.last_slash.Given as goal

abbrev pub invariant-loop-i : goal.invariant-loop-i
invariant-loop-i l = (last_slash l.last l.i (drop l.i l.name) ≡ last_slash 0 0 l.name) × (l.last ≤ l.i)
