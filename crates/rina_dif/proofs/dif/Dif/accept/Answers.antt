use Rattle.std.proofs.Common.{◌<◌, ap, length, subst, sym, Some}
use Rattle.std.proofs.lemmas.Option.{slice_get_within}
use Rattle.std.proofs.lemmas.Result.{err_from_is_err_and}
use Rattle.rina_alloc.specs.declared.answer.FlowAnswer.TheVariants.{NotHere}
use Rattle.rina_data.specs.declared.settings.Settings.{Settings}
use Rattle.rina_dif.specs.declared.dif.Dif.{Dif}
use Rattle.rina_dif.proofs.Accepting.{accept_err, accepted, at_ids, can_make, its_asker, sent_whole, told_not, whole_after, whole_same}
use Rattle.rina_dif.proofs.FlowWalk.{leaves_same, leaves_then}
use Rattle.rina_dif.proofs.dif.Dif.accept.Goals as goal

pub address_at-own-requires : goal.address_at-own-requires
address_at-own-requires c = slice_get_within c.args.self.now.settings.members c.args.at c.requires.may.member c.requires.may.stands

pub asker_to_join-requires-clause-at : goal.asker_to_join-requires-clause-at
asker_to_join-requires-clause-at c = at_ids c.args.self.now c.requires.valid c.args.at (slice_get_within c.args.self.now.settings.members c.args.at c.requires.may.member c.requires.may.stands)

pub make_far-requires-clause-can : goal.make_far-requires-clause-can
make_far-requires-clause-can c = can_make c.args.self.now c.args.at c.args.from c.args.ask.now c.args.answer c.requires.may c.address_at-own.result (c.address_at-own.ensures c.requires.may.member c.requires.may.stands) c.in-Some.place c.in-Some.ensures

pub send_answer-requires-clause-at : goal.send_answer-requires-clause-at
send_answer-requires-clause-at c = slice_get_within c.args.self.now.settings.members c.args.at c.requires.may.member c.requires.may.stands

pub send_answer-requires-2-clause-at : goal.send_answer-requires-2-clause-at
send_answer-requires-2-clause-at c = subst (λ (z : Settings). c.args.at < length z.members) (sym (ap (λ (z : Dif). z.settings) c.make_far.ensures.whole)) (slice_get_within c.args.self.now.settings.members c.args.at c.requires.may.member c.requires.may.stands)

pub returns-in_default-clause-does : goal.returns-in_default-clause-does
returns-in_default-clause-does c = λ lines below h. told_not c.args.self.now c.args.at c.args.from c.args.ask.now c.args.answer c.requires.may c.address_at-own.result (c.address_at-own.ensures c.requires.may.member c.requires.may.stands) c.send_answer.new.self lines below c.args.invoke c.send_answer.result c.in_default.ensures c.send_answer.ensures.ok c.send_answer.ensures.err (c.send_answer.ensures.holds lines below h)

pub returns-in_default-clause-whole : goal.returns-in_default-clause-whole
returns-in_default-clause-whole c =
    let lt = slice_get_within c.args.self.now.settings.members c.args.at c.requires.may.member c.requires.may.stands in
    whole_same c.args.self.now c.send_answer.new.self (sent_whole c.args.self.now c.send_answer.new.self c.args.at c.args.from c.args.invoke NotHere c.send_answer.result lt c.send_answer.ensures.ok c.send_answer.ensures.err)

pub returns-in_default-clause-leaves : goal.returns-in_default-clause-leaves
returns-in_default-clause-leaves c =
    let lt = slice_get_within c.args.self.now.settings.members c.args.at c.requires.may.member c.requires.may.stands in
    let sent = sent_whole c.args.self.now c.send_answer.new.self c.args.at c.args.from c.args.invoke NotHere c.send_answer.result lt c.send_answer.ensures.ok c.send_answer.ensures.err in
    leaves_same (Some c.args.at) c.args.self.now c.send_answer.new.self (ap (λ (z : Dif). z.flows) sent) (ap (λ (z : Dif). z.processes) sent)

pub returns-in_err-make_far-clause-does : goal.returns-in_err-make_far-clause-does
returns-in_err-make_far-clause-does c = λ lines below h.
    let err = err_from_is_err_and c.from_residual.result c.from_residual.ensures.1 in
    accept_err c.args.self.now c.make_far.new.self lines below c.args.at c.args.from c.args.invoke c.args.ask.now c.from_residual.result err.0 err.1 (c.in_err-make_far.ensures.does lines below h)

pub returns-clause-does : goal.returns-clause-does
returns-clause-does c = λ lines below h.
    let d = c.args.self.now in
    let whole = c.make_far.ensures.whole in
    accepted d c.make_far.new.self c.send_answer-2.new.self lines below c.args.at c.in-Some.place c.args.from c.args.invoke c.args.ask.now c.args.answer c.requires.may c.send_answer-2.result
    (its_asker d c.args.at c.args.from c.args.ask.now c.args.answer c.requires.may c.address_at-own.result (c.address_at-own.ensures c.requires.may.member c.requires.may.stands) c.in-Some.place c.in-Some.ensures.0)
    (c.in_ok-make_far.ensures.does lines below h) (ap (λ (z : Dif). z.processes) whole) (ap (λ (z : Dif). z.settings) whole) c.send_answer-2.ensures.ok c.send_answer-2.ensures.err (λ ls held. c.send_answer-2.ensures.holds ls below held)

pub returns-clause-whole : goal.returns-clause-whole
returns-clause-whole c = whole_after c.args.self.now c.make_far.new.self c.send_answer-2.new.self c.make_far.ensures.whole (sent_whole c.make_far.new.self c.send_answer-2.new.self c.args.at c.args.from c.args.invoke c.args.answer c.send_answer-2.result (subst (λ (z : Settings). c.args.at < length z.members) (sym (ap (λ (z : Dif). z.settings) c.make_far.ensures.whole)) (slice_get_within c.args.self.now.settings.members c.args.at c.requires.may.member c.requires.may.stands)) c.send_answer-2.ensures.ok c.send_answer-2.ensures.err)

pub returns-clause-leaves : goal.returns-clause-leaves
returns-clause-leaves c =
    let lt = slice_get_within c.args.self.now.settings.members c.args.at c.requires.may.member c.requires.may.stands in
    let sent = sent_whole c.make_far.new.self c.send_answer-2.new.self c.args.at c.args.from c.args.invoke c.args.answer c.send_answer-2.result (subst (λ (z : Settings). c.args.at < length z.members) (sym (ap (λ (z : Dif). z.settings) c.make_far.ensures.whole)) lt) c.send_answer-2.ensures.ok c.send_answer-2.ensures.err in
    leaves_then (Some c.args.at) c.args.self.now c.make_far.new.self c.send_answer-2.new.self c.make_far.ensures.leaves (ap (λ (z : Dif). z.flows) sent) (ap (λ (z : Dif). z.processes) sent)
