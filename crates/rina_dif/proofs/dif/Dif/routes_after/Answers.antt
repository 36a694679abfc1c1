-- The next hops that it has are over what the items claim still.
use Rattle.std.proofs.Common.{◌∙◌, List, subst, sym}
use Rattle.rina_data.specs.declared.link.Route.{Route}
use Rattle.rina_member.specs.Knowing.{AreRoutesOf}
use Rattle.rina_dif.proofs.Unlinked.{has_member}
use Rattle.rina_dif.proofs.dif.Dif.routes_after.Goals as goal

pub returns-then-branch : goal.returns-then-branch
returns-then-branch c =
    let d = c.args.self.now in
    let member = has_member d c.args.at c.requires.at in
    let process = c.in-Some-Some.process.now in
    let own = c.requires.stands.1.1.managed.each c.args.at member.0 process c.in-Some-Some.before.now member.1 c.in-Some-Some.ensures c.in-Some-Some.ensures' in
    subst (λ (routes : List Route). AreRoutesOf c.args.after.now.agent d.settings.members routes) (sym (c.from_vec.ensures ∙ c.in_ok-routes.ensures.items ∙ c.as_slice.ensures))
    (c.in_ok-routes_stay.ensures c.if-branch.true d.settings.members process.routes own.routes)
