use Rattle.std.proofs.Common.{◌≡◌, ◌≤◌, drop}
use Rattle.rina_base.specs.ObjectNames.{are_parts}
use Rattle.rina_base.proofs.object_name.has_parts.Given as goal

abbrev pub invariant-bytes : goal.invariant-bytes
invariant-bytes l = record {
  short : l.before ≤ 130;
  read : are_parts l.before (drop l.b-index l.text) ≡ are_parts 0 l.text;
}
