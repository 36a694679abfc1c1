use Rattle.std.proofs.Common.{Ok, ap, Some, refl}
use Rattle.std.proofs.lemmas.Result.{err_from_is_err_and}
use Rattle.rina_dif.specs.declared.dif.Dif.{Dif}
use Rattle.rina_dif.proofs.AnswersIn.{bind_whole, kept_whole, stands_far, takes_bound, takes_err, takes_none}
use Rattle.rina_dif.proofs.FlowWalk.{leaves_then}
use Rattle.rina_dif.proofs.dif.Dif.take_yes.Goals as goal

pub bind_at-requires-clause-far : goal.bind_at-requires-clause-far
bind_at-requires-clause-far c = stands_far c.args.self.now c.args.place c.args.from c.args.dcep c.in-Some.end.now c.in-Some.ensures c.in-Some-far_end_of.far_at c.in-Some-far_end_of.ensures

pub returns-in_default-far_end_of-clause-does : goal.returns-in_default-far_end_of-clause-does
returns-in_default-far_end_of-clause-does c = λ lines below h. takes_none c.args.self.now c.args.place c.args.from c.args.dcep c.in-Some.end.now c.in-Some.ensures c.refuse_ask.new.self lines below c.args.at c.args.which (Ok tt) c.in_default-far_end_of.ensures (c.refuse_ask.ensures.does lines below h)

pub returns-clause-does : goal.returns-clause-does
returns-clause-does c = λ lines below h.
    takes_bound c.args.self.now c.args.place c.args.from c.args.dcep c.in-Some.end.now c.in-Some.ensures c.bind_at.new.self lines below c.args.at c.args.which c.in-Some-far_end_of.far_at _ c.remove-ask.new.self c.in-Some-far_end_of.ensures (c.in_ok-bind_at.ensures.does lines below h) (ap (λ (z : Dif). z.asks) c.bind_at.ensures.whole) c.remove-ask.ensures.items

pub returns-clause-whole : goal.returns-clause-whole
returns-clause-whole c = bind_whole c.args.self.now c.bind_at.new.self c.remove-ask.new.self c.bind_at.ensures.whole

pub returns-in_err-bind_at-clause-does : goal.returns-in_err-bind_at-clause-does
returns-in_err-bind_at-clause-does c = λ lines below h.
    let err = err_from_is_err_and c.from_residual.result c.from_residual.ensures.1 in
    takes_err c.args.self.now c.args.place c.args.from c.args.dcep c.in-Some.end.now c.in-Some.ensures c.bind_at.new.self lines below c.args.at c.args.which c.in-Some-far_end_of.far_at c.from_residual.result err.0 c.in-Some-far_end_of.ensures err.1 (c.in_err-bind_at.ensures.does lines below h) (ap (λ (z : Dif). z.asks) c.bind_at.ensures.whole)

pub returns-in_err-bind_at-clause-whole : goal.returns-in_err-bind_at-clause-whole
returns-in_err-bind_at-clause-whole c = kept_whole c.args.self.now c.bind_at.new.self c.bind_at.ensures.whole

pub returns-clause-leaves : goal.returns-clause-leaves
returns-clause-leaves c = leaves_then (Some c.args.at) c.args.self.now c.bind_at.new.self (record c.bind_at.new.self { asks = c.remove-ask.new.self }) c.bind_at.ensures.leaves refl refl
