use Rattle.rina_ids.proofs.Drawing.{undo_at, undo_may}
use Rattle.rina_ids.proofs.members.MemberIds.undo_draw.Goals as goal

pub undo-requires : goal.undo-requires
undo-requires c = undo_may c.self.inside.items.items c.args.at c.args.draw c.index_mut-ids.result.now (rw (← c.self.view_is) at c.requires) c.index_mut-ids.ensures.value

pub returns : goal.returns
returns c = rw (← c.self.view_is) (undo_at c.self.inside.items.items c.args.at c.args.draw c.index_mut-ids.result.now c.undo.new.ids c.index_mut-ids.ensures.value c.undo.ensures)
