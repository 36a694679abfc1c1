use Rattle.std.proofs.Common.{◌∙◌, ap, sym}
use Rattle.rina_data.specs.Configs.{config_of, cube_by}
use Rattle.rina_dif_law.proofs.Finding.{cube_limits}
use Rattle.rina_dif.proofs.FarAdded.{adds_far}
use Rattle.rina_dif.proofs.far_ends.add_far.Goals as goal

pub add_end-requires-clause-cube : goal.add_end-requires-clause-cube
add_end-requires-clause-cube c = cube_limits (config_of c.args.settings.now) c.args.end.cube c.in-Some.cube.now c.requires.valid (sym (c.in-Some.ensures ∙ ap (cube_by c.args.end.cube) c.as_slice.ensures))

pub returns-clause-ok : goal.returns-clause-ok
returns-clause-ok c = adds_far c.args.settings.now c.piece-piece.result c.greatest-max.result c.in-Some.cube.now c.args.peer c.args.end c.args.flows.now c.add_end.new.self c.add_end.result (sym (c.in-Some.ensures ∙ ap (cube_by c.args.end.cube) c.as_slice.ensures)) c.piece-piece.ensures c.greatest-max.ensures c.add_end.ensures.ends c.add_end.ensures.answers c.add_end.ensures.keeps
