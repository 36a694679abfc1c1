use Rattle.std.proofs.Common.{arith}
use Rattle.toml.specs.View.{view}
use Rattle.toml.specs.declared.value.Value.{Value}
use Rattle.rina_table.specs.Keys.{dif_has_unlisted}
use Rattle.rina_plan.proofs.Places.{place_found, place_later, no_place}
use Rattle.rina_table.proofs.keys.first_value_of_unlisted_dif.Goals as goal

pub returns-then-dif_has_unlisted-clause-place : goal.returns-then-dif_has_unlisted-clause-place
returns-then-dif_has_unlisted-clause-place c = place_found (λ (v : Value). dif_has_unlisted (view v)) c.args.values.now c.values.value-index c.values.at c.value-item.result c.dif_has_unlisted.result (omega arith) c.value-item.is c.dif_has_unlisted.ensures c.if-dif_has_unlisted.true c.values.invariant.read

pub values-preserved : goal.values-preserved
values-preserved c = record {
  place = omega arith;
  read = place_later (λ (v : Value). dif_has_unlisted (view v)) c.args.values.now c.values.value-index c.values.at c.value-item.result c.dif_has_unlisted.result (omega arith) c.value-item.is c.dif_has_unlisted.ensures c.if-dif_has_unlisted.false c.values.invariant.read;
}

pub returns-clause-place : goal.returns-clause-place
returns-clause-place c = no_place (λ (v : Value). dif_has_unlisted (view v)) c.args.values.now c.values.value-index c.values.at (omega arith) c.values.invariant.read
