use Rattle.rina_ids.proofs.Drawing.{draw_at}
use Rattle.rina_ids.proofs.members.MemberIds.draw.Goals as goal

pub returns-clause-ok : goal.returns-clause-ok
returns-clause-ok c = rw (← c.self.view_is) (draw_at c.self.inside.items.items c.args.now c.args.at c.index_mut-ids.result.now c.draw_next.result c.draw_next.new.ids (rw (← c.self.view_is) at c.requires) c.index_mut-ids.ensures.value c.draw_next.ensures.ok)
