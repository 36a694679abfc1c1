use Rattle.std.proofs.Common.{◌≡◌, drop}
use Rattle.std.specs.List.{list_all}
use Rattle.toml.specs.View.{view}
use Rattle.toml.specs.declared.value.Value.{Value}
use Rattle.rina_table.specs.Values.{is_table}
use Rattle.rina_table.proofs.value.are_tables_here.Given as goal

abbrev pub invariant-values : goal.invariant-values
invariant-values l = list_all (λ (v : Value). is_table (view v)) (drop l.value-index l.values) ≡ list_all (λ (v : Value). is_table (view v)) l.values
