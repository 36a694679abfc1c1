use Rattle.std.proofs.Common.{◌<◌, ◌≤◌, map, length, ap, ◌∙◌, arith}
use Rattle.std.proofs.lemmas.Result.{err_from_is_err_and}
use Rattle.std.proofs.lemmas.List.{length-map}
use Rattle.rina_base.specs.Traverse.{traverse}
use Rattle.rina_base.proofs.Loop.{goes_on, stops, is_done}
use Rattle.toml.specs.View.{view}
use Rattle.rina_table.proofs.Tables.{item_seen, err_passes}
use Rattle.rina_table.proofs.rows.items_from.Goals as goal

pub returns-in_err-row-clause-read : goal.returns-in_err-row-clause-read
returns-in_err-row-clause-read g c =
    let p = err_from_is_err_and c.from_residual.result c.from_residual.ensures.1 in
    let vs = c.args.values.now in
    let f = g.T.Row.reads_as c.args.scope.now in
    let v = c.value-item.result in
    let i = c.values.value-index in
    let within : i < length (map view vs) = omega (arith, length-map vs view) in
    let seen = item_seen vs i v v c.value-item.is in
    rw (p.1, p.2) (err_passes (λ t. t) (λ t. t) c.in_err-row.field-0.0 (f c.values.at (view v)) (traverse f c.args.first (map view vs))
    (λ d h. stops f i c.values.at (map view vs) (view v) c.values.read d _ within (ap (f c.values.at) seen ∙ h) c.values.invariant.read) c.in_err-row.ensures.read)

pub values-preserved : goal.values-preserved
values-preserved g c =
    let vs = c.args.values.now in
    let f = g.T.Row.reads_as c.args.scope.now in
    let v = c.value-item.result in
    let i = c.values.value-index in
    let within : i < length (map view vs) = omega (arith, length-map vs view) in
    let seen = item_seen vs i v v c.value-item.is in
    record {
      place = omega arith;
      read = rw c.in_ok-push.ensures.ok (goes_on f i c.values.at (map view vs) (view v) c.values.read c.in_ok-row.row _ within (ap (f c.values.at) seen ∙ c.in_ok-row.ensures.read) c.values.invariant.read);
    }

pub returns-clause-read : goal.returns-clause-read
returns-clause-read g c =
    let f = g.T.Row.reads_as c.args.scope.now in
    let past : length (map view c.args.values.now) ≤ c.values.value-index = omega (arith, length-map c.args.values.now view) in
    is_done f c.values.value-index c.values.at (map view c.args.values.now) c.values.read _ past c.values.invariant.read
