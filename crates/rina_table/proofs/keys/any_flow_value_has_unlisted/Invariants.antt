use Rattle.std.proofs.Common.{◌≡◌, drop}
use Rattle.std.specs.List.{list_any}
use Rattle.toml.specs.View.{view}
use Rattle.toml.specs.declared.value.Value.{Value}
use Rattle.rina_table.specs.Keys.{flow_has_unlisted}
use Rattle.rina_table.proofs.keys.any_flow_value_has_unlisted.Given as goal

abbrev pub invariant-values : goal.invariant-values
invariant-values l = list_any (λ (v : Value). flow_has_unlisted (view v)) (drop l.value-index l.values) ≡ list_any (λ (v : Value). flow_has_unlisted (view v)) l.values
