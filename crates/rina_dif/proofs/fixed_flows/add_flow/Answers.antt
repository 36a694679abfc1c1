use Rattle.std.proofs.Common.{◌∙◌, ap, sym}
use Rattle.rina_data.specs.Configs.{config_of, cube_by}
use Rattle.rina_dif_law.proofs.Finding.{cube_limits}
use Rattle.rina_dif.proofs.Bound.{adds_flow}
use Rattle.rina_dif.proofs.fixed_flows.add_flow.Goals as goal

pub add-requires-clause-cube : goal.add-requires-clause-cube
add-requires-clause-cube c = cube_limits (config_of c.args.settings.now) c.args.asker.cube c.in-Some.cube.now c.requires.valid (sym (c.in-Some.ensures ∙ ap (cube_by c.args.asker.cube) c.as_slice.ensures))

pub returns-clause-ok : goal.returns-clause-ok
returns-clause-ok c = adds_flow c.args.settings.now c.args.asker.cube c.piece-piece.result c.greatest-max.result c.in-Some.cube.now c.args.peer c.args.asker c.args.far c.args.flows.now c.add.new.self c.add.result (sym (c.in-Some.ensures ∙ ap (cube_by c.args.asker.cube) c.as_slice.ensures)) c.piece-piece.ensures c.greatest-max.ensures c.add.ensures.ends c.add.ensures.adds
