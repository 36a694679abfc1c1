use Rattle.std.proofs.Common.{◌+◌}
use Rattle.rina_ids.proofs.Drawing.{gave_at, read_at}
use Rattle.rina_ids.proofs.members.MemberIds.give_back.Goals as goal

pub give_back-requires-clause-used : goal.give_back-requires-clause-used
give_back-requires-clause-used c = c.requires.used c.index_mut-ids.result.now (rw c.self.view_is at (read_at c.self.inside.items.items c.args.at c.index_mut-ids.result.now (rw (← c.self.view_is) at c.requires.at) c.index_mut-ids.ensures.value))

pub returns : goal.returns
returns c = rw (← c.self.view_is) (gave_at c.self.inside.items.items c.args.at c.args.id (c.args.now + c.args.rest) c.index_mut-ids.result.now c.give_back.new.self (rw (← c.self.view_is) at c.requires.at) c.index_mut-ids.ensures.value c.give_back.ensures.rests)
