use Rattle.std.proofs.lemmas.Result.{err_from_is_err_and}
use Rattle.rina_flows.specs.declared.due.Item.TheVariants.{Gone}
use Rattle.rina_dif.specs.LinkSteps.{ForgetsIn}
use Rattle.rina_dif.proofs.Forgotten.{forgets_leave, forgets_link, forgets_none}
use Rattle.rina_dif.proofs.LinkFirst.{due_within}
use Rattle.rina_dif.proofs.Served.{serves_err}
use Rattle.rina_dif.proofs.dif.Dif.forget_link.Goals as goal

pub forget_link-requires-clause-conn : goal.forget_link-requires-clause-conn
forget_link-requires-clause-conn c =
    let st = c.requires.stands in
    let links = st.1.1.connected in
    due_within Gone c.args.self.now st.0 links c.args.at c.args.turn.place c.args.turn.number (c.requires.due st.0 links)

pub returns-in_err-forget_link-clause-does : goal.returns-in_err-forget_link-clause-does
returns-in_err-forget_link-clause-does c = λ lines below h.
    let err = err_from_is_err_and c.from_residual.result c.from_residual.ensures.1 in
    serves_err _ c.args.self.now lines below c.from_residual.result err.0 _ err.1 (forgets_none c.args.self.now c.args.at c.args.turn.place c.in_err-forget_link.field-0.0 c.forget_link.new.links c.forget_link.new.self c.requires.at c.in_err-forget_link.ensures lines below h)

pub returns-clause-does : goal.returns-clause-does
returns-clause-does c = λ lines below h. forgets_link c.args.self.now c.args.at c.args.turn.place c.args.turn.number c.in_ok-forget_link.field-0 c.forget_link.new.links c.forget_link.new.self c.requires.at c.requires.due c.in_ok-forget_link.ensures lines below h

pub returns-in_err-forget_link-clause-leaves : goal.returns-in_err-forget_link-clause-leaves
returns-in_err-forget_link-clause-leaves c = forgets_leave (λ f l f' l'. ForgetsIn c.args.self.now.clock c.args.turn.place f l c.forget_link.result f' l') c.args.self.now c.requires.stands.0 c.args.at c.forget_link.new.links c.forget_link.new.self c.requires.stands.1 c.requires.at c.forget_link.ensures

pub returns-clause-leaves : goal.returns-clause-leaves
returns-clause-leaves c = forgets_leave (λ f l f' l'. ForgetsIn c.args.self.now.clock c.args.turn.place f l c.forget_link.result f' l') c.args.self.now c.requires.stands.0 c.args.at c.forget_link.new.links c.forget_link.new.self c.requires.stands.1 c.requires.at c.forget_link.ensures
