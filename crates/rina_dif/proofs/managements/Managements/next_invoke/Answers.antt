use Rattle.std.proofs.Common.{◌∙◌, ◌+◌, ap, arith, sym}
use Rattle.std.proofs.lemmas.Option.{same_Some}
use Rattle.rina_member.specs.declared.management.Management.{Management}
use Rattle.rina_dif.proofs.Requested.{entry_there, one_left}
use Rattle.rina_dif.proofs.managements.Managements.next_invoke.Goals as goal

pub overflow_add-result : goal.overflow_add-result
overflow_add-result c =
    let m = c.index.result.now in
    let left = one_left m.agent.last_invoke (c.requires.left m (entry_there c.args.self.now c.self.inside.items.items c.args.at m c.self.view_is c.requires.at c.index.ensures)) in
    omega (arith, left)

pub returns : goal.returns
returns c = λ m is.
    let found = entry_there c.args.self.now c.self.inside.items.items c.args.at c.index.result.now c.self.view_is c.requires.at c.index.ensures in
    ap (λ (z : Management). z.agent.last_invoke + 1) (same_Some c.index.result.now m (sym found ∙ is))
