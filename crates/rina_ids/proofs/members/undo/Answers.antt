use Rattle.std.proofs.Common.{◌∙◌}
use Rattle.rina_ids.proofs.Drawing.{has_drawn, undone_one}
use Rattle.rina_ids.proofs.members.undo.Goals as goal

pub undo_draw-requires : goal.undo_draw-requires
undo_draw-requires c = (c.requires.0.1, has_drawn c.requires.1 c.requires.0 c.args.draw c.args.ids.now c.requires.2)

pub returns : goal.returns
returns c = λ before now h. c.undo_draw.ensures before.1 (has_drawn now before c.args.draw c.args.ids.now h) ∙ undone_one now before c.args.draw c.args.ids.now h
