use Rattle.std.proofs.Common.{◌≡◌, drop}
use Rattle.std.specs.List.{position_from}
use Rattle.toml.specs.View.{view}
use Rattle.toml.specs.declared.value.Value.{Value}
use Rattle.rina_table.specs.Keys.{wire_has_unlisted}
use Rattle.rina_table.proofs.keys.first_value_of_unlisted_wire.Given as goal

abbrev pub invariant-values : goal.invariant-values
invariant-values l = record {
  place : l.at ≡ l.value-index;
  read : position_from (λ (v : Value). wire_has_unlisted (view v)) l.at (drop l.value-index l.values) ≡ position_from (λ (v : Value). wire_has_unlisted (view v)) 0 l.values;
}
