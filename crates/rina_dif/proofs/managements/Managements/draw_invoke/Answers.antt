use Rattle.std.proofs.Common.{arith}
use Rattle.rina_dif.proofs.Requested.{draws_at_place, entry_there, one_left}
use Rattle.rina_dif.proofs.managements.Managements.draw_invoke.Goals as goal

pub overflow_add-index_mut : goal.overflow_add-index_mut
overflow_add-index_mut c =
    let m = c.index_mut.result.now in
    let left = one_left m.agent.last_invoke (c.requires.left m (entry_there c.args.self.now c.self.inside.items.items c.args.at m c.self.view_is c.requires.at c.index_mut.ensures.value)) in
    omega (arith, left)

pub returns : goal.returns
returns c =
    let m = c.index_mut.result.now in
    draws_at_place c.args.self.now c.self.inside.items.items c.args.at m c.self.view_is (entry_there c.args.self.now c.self.inside.items.items c.args.at m c.self.view_is c.requires.at c.index_mut.ensures.value)
