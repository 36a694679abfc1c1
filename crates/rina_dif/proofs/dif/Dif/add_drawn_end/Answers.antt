use Rattle.rina_data.specs.Configs.{config_of}
use Rattle.rina_dif.specs.Requesting.{HasDrawnOne}
use Rattle.rina_dif_law.proofs.Finding.{cube_limits}
use Rattle.rina_dif.proofs.Requested.{adds_end, drawn_one, whenever}
use Rattle.rina_dif.proofs.dif.Dif.add_drawn_end.Goals as goal

pub add_end-added-requires-clause-cube : goal.add_end-added-requires-clause-cube
add_end-added-requires-clause-cube c = cube_limits (config_of c.args.self.now.settings) c.args.cube.now.id c.args.cube.now c.requires.valid c.requires.cube

pub returns-else-is_err-clause-ok : goal.returns-else-is_err-clause-ok
returns-else-is_err-clause-ok c =
    let added = c.add_end-added.ensures in
    adds_end c.args.self.now c.args.cube.now c.piece-piece.result c.greatest-max.result c.args.peer c.args.end c.add_end-added.new.self c.add_end-added.result c.piece-piece.ensures c.greatest-max.ensures added.ends added.asks added.answers

pub returns-else-is_err-clause-ids : goal.returns-else-is_err-clause-ids
returns-else-is_err-clause-ids c =
    let d = c.args.self.now in
    whenever c.add_end-added.result (HasDrawnOne d.ids d.clock c.args.at c.args.peer.scep c.draw.new.self) (drawn_one d.ids c.draw.new.self d.clock c.args.at c.args.peer.scep c.in_ok-draw.draw c.requires.draws c.in_ok-draw.ensures.ok)
