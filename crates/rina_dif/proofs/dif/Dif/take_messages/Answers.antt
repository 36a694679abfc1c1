-- One message more is handled.
use Rattle.std.proofs.Common.{rules, ◌≡◌, ◌∙◌, ◌<◌, [], ◌∷◌, ◌++◌, List, append-nil, Err, Ok, Result, Some, ap, length, subst, sym}
use Rattle.std.proofs.lemmas.Result.{err_from_is_err_and}
use Rattle.rina_alloc.specs.declared.message.FlowMessage.{FlowMessage}
use Rattle.rina_base.specs.declared.memory.Memory.{Memory}
use Rattle.rina_data.specs.declared.settings.Settings.{Settings}
use Rattle.rina_dif.specs.declared.dif.Dif.{Dif}
use Rattle.rina_dif.specs.FlowMessages.{TakesFlows}
use Rattle.rina_dif.proofs.FlowWalk.{flows_silent, leaves_none, leaves_on, next_taken, none_left, none_taken, parts_on, parts_same, rest_after, still_dif, taken_early}
use Rattle.rina_dif.proofs.dif.Dif.take_messages.Goals as goal

pub loop-message-init : goal.loop-message-init
loop-message-init c = record {
  all = search rules;
  does = λ lines below h. none_taken c.args.self.now lines below c.args.at h;
  whole = parts_same c.args.self.now;
  leaves = leaves_none (Some c.args.at) c.args.self.now;
}

pub take_message-requires-clause-valid : goal.take_message-requires-clause-valid
take_message-requires-clause-valid c =
    still_dif c.args.self.now c.loop-message.self c.requires.valid (λ lines below h. (let t = c.loop-message.invariant.does lines below h in (t.lines', t.holds))) (ap (λ (z : Dif). z.clock) c.loop-message.invariant.whole)

pub take_message-requires-clause-at : goal.take_message-requires-clause-at
take_message-requires-clause-at c = subst (λ (s : Settings). c.args.at < length s.members) (sym (ap (λ (z : Dif). z.settings) c.loop-message.invariant.whole)) c.requires.at

pub loop-message-preserved : goal.loop-message-preserved
loop-message-preserved c =
    let d = c.args.self.now in
    let mid = c.loop-message.self in
    let valid = c.requires.valid in
    let t = c.loop-message.invariant.does valid.stands.0 valid.below valid.stands.1 in
    record {
      all = rest_after c.args.messages.items c.loop-message.yielded c.loop-message.message-iterator.rest.items c.next.new.self.rest.items c.in-Some.message c.loop-message.invariant.all c.in-Some.ensures.steps.0;
      does = λ lines below h. next_taken d lines below c.args.at c.loop-message.yielded c.in-Some.message (Ok tt) mid c.take_message.new.self (c.loop-message.invariant.does lines below h) c.in_ok-take_message.ensures.does;
      whole = parts_on d mid c.take_message.new.self c.loop-message.invariant.whole c.in_ok-take_message.ensures.whole;
      leaves = leaves_on d mid c.take_message.new.self (Some c.args.at) (flows_silent d valid.stands.0 valid.below c.args.at c.loop-message.yielded (Ok tt) mid t.lines' t.handles) (ap (λ (z : Dif). z.settings) c.loop-message.invariant.whole) c.loop-message.invariant.leaves c.in_ok-take_message.ensures.leaves;
    }

pub returns-in_err-take_message-clause-does : goal.returns-in_err-take_message-clause-does
returns-in_err-take_message-clause-does c = λ lines below h.
    let d = c.args.self.now in
    let mid = c.loop-message.self in
    let after = c.take_message.new.self in
    let m = c.in-Some.message in
    let err = err_from_is_err_and c.from_residual.result c.from_residual.ensures.1 in
    let all = rest_after c.args.messages.items c.loop-message.yielded c.loop-message.message-iterator.rest.items c.next.new.self.rest.items m c.loop-message.invariant.all c.in-Some.ensures.steps.0 in
    let stops = next_taken d lines below c.args.at c.loop-message.yielded m (Err c.in_err-take_message.field-0.0) mid after (c.loop-message.invariant.does lines below h) c.in_err-take_message.ensures.does in
    subst (λ (r : Result (Unit {0}) Memory). TakesFlows d lines below c.args.at c.args.messages.items r after) (sym (err.1 ∙ ap (λ (e : Memory). Err e) err.2))
    (taken_early d lines below c.args.at c.args.messages.items (c.loop-message.yielded ++ m ∷ []) c.next.new.self.rest.items c.in_err-take_message.field-0.0 after all stops)

pub returns-in_err-take_message-clause-leaves : goal.returns-in_err-take_message-clause-leaves
returns-in_err-take_message-clause-leaves c =
    let d = c.args.self.now in
    let mid = c.loop-message.self in
    let valid = c.requires.valid in
    let t = c.loop-message.invariant.does valid.stands.0 valid.below valid.stands.1 in
    leaves_on d mid c.take_message.new.self (Some c.args.at) (flows_silent d valid.stands.0 valid.below c.args.at c.loop-message.yielded (Ok tt) mid t.lines' t.handles) (ap (λ (z : Dif). z.settings) c.loop-message.invariant.whole) c.loop-message.invariant.leaves c.in_err-take_message.ensures.leaves

pub returns-clause-does : goal.returns-clause-does
returns-clause-does c = λ lines below h.
    let d = c.args.self.now in
    let short : length c.loop-message.message-iterator.rest.items ≡ 0 = search rules in
    let all = ap (λ (xs : List FlowMessage). c.loop-message.yielded ++ xs) (sym (none_left c.loop-message.message-iterator.rest.items short)) ∙ c.loop-message.invariant.all in
    subst (λ (xs : List FlowMessage). TakesFlows d lines below c.args.at xs (Ok tt) c.loop-message.self) (sym (append-nil c.loop-message.yielded) ∙ all) (c.loop-message.invariant.does lines below h)
