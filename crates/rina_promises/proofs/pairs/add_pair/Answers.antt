use Rattle.std.proofs.Common.{◌∙◌, ap}
use Rattle.rina_data.specs.declared.settings.Settings.{Settings}
use Rattle.rina_promises.specs.Pairs.{IsWayText}
use Rattle.rina_promises.proofs.Pairing.{copied_at}
use Rattle.rina_promises.proofs.Texts.{texts_more}
use Rattle.rina_promises.proofs.There.{cube_found}
use Rattle.rina_promises.proofs.pairs.add_pair.Goals as goal

pub add_way-requires-clause-cube : goal.add_way-requires-clause-cube
add_way-requires-clause-cube c =
    let at = copied_at c.as_slice-cube-items.result.now c.args.there.now.dif.now.settings.cubes c.cubes.cube-index _ (c.as_slice-cube-items.ensures ∙ ap (λ (s : Settings). s.cubes) c.settings.ensures) c.cubes-test.true in
    cube_found c.args.there.now.dif.now.settings.cubes c.cubes.cube-index _ at

pub cubes-preserved : goal.cubes-preserved
cubes-preserved c =
    let at = copied_at c.as_slice-cube-items.result.now c.args.there.now.dif.now.settings.cubes c.cubes.cube-index _ (c.as_slice-cube-items.ensures ∙ ap (λ (s : Settings). s.cubes) c.settings.ensures) c.cubes-test.true in
    texts_more (IsWayText c.args.nodes.now c.args.fac.now c.args.there.now.below.now c.args.there.now.dif.now c.args.from.now c.args.to.now) c.args.there.now.dif.now.settings.cubes c.cubes.cube-index _ c.args.text.now c.cubes.text c.add_way.new.text at c.cubes.invariant c.in_ok-add_way.ensures
