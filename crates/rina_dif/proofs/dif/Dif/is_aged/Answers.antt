use Rattle.std.proofs.Common.{◌∙◌, ap, sym}
use Rattle.rina_data.specs.Configs.{config_of, cube_by}
use Rattle.rina_dif_law.proofs.Finding.{cube_limits}
use Rattle.rina_dif.proofs.dif.Dif.is_aged.Goals as goal

pub is_over-requires : goal.is_over-requires
is_over-requires c = cube_limits (config_of c.args.self.now.settings) c.args.ask.now.cube c.in-Some.cube.now c.requires (sym (c.in-Some.ensures ∙ ap (cube_by c.args.ask.now.cube) c.as_slice.ensures))
