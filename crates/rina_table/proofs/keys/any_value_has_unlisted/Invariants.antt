use Rattle.std.proofs.Common.{◌≡◌, drop}
use Rattle.std.specs.List.{list_any}
use Rattle.toml.specs.View.{view}
use Rattle.toml.specs.declared.value.Value.{Value}
use Rattle.rina_table.specs.Keys.{has_unlisted}
use Rattle.rina_table.proofs.keys.any_value_has_unlisted.Given as goal

abbrev pub invariant-values : goal.invariant-values
invariant-values l = list_any (λ (v : Value). has_unlisted l.of (view v)) (drop l.value-index l.values) ≡ list_any (λ (v : Value). has_unlisted l.of (view v)) l.values
