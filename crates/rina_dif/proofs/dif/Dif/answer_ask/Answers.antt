use Rattle.std.proofs.Common.{◌∙◌, refl, sym, inr, Ok, Some, ap}
use Rattle.std.proofs.lemmas.Bool.{false≢true}
use Rattle.rina_alloc.specs.Machines.{asked_does}
use Rattle.rina_data.proofs.Finding.{there}
use Rattle.rina_dif.proofs.Accepting.{always_told, handles_no, handles_yes, may_so, same_Ok, sent_whole, told_by, whole_same}
use Rattle.rina_dif.specs.declared.dif.Dif.{Dif}
use Rattle.rina_dif.proofs.FlowWalk.{leaves_none, leaves_same}
use Rattle.rina_dif.proofs.dif.Dif.answer_ask.Goals as goal

pub returns-then-not-is_enrolled_at-clause-does : goal.returns-then-not-is_enrolled_at-clause-does
returns-then-not-is_enrolled_at-clause-does c = λ lines below h. inr ((λ m is home. false≢true (sym c.if-not-is_enrolled_at.true ∙ (c.is_enrolled_at.ensures m is).1 home)), refl)

pub unreachable-requires : goal.unreachable-requires
unreachable-requires c =
    let g = c.grounds-grounds.result in
    always_told g.here g.aged g.denied g.drawn g.used c.args.ask.now.scep (told_by c.new.result c.event-event.result c.in_ok-does.does c.answer_of.result g c.args.ask.now.scep c.event-event.ensures (same_Ok c.in_ok-does.does (asked_does c.new.result c.event-event.result) (Ok c.in_ok-does.does) c.in_ok-does.ensures.does refl) c.answer_of.ensures ∙ c.in_default.is)

pub accept-requires-clause-may : goal.accept-requires-clause-may
accept-requires-clause-may c =
    let d = c.args.self.now in
    let g = c.grounds-grounds.result in
    let m = there d.settings.members c.args.at c.requires.at in
    may_so d c.args.at c.args.ask.now g m.0 c.in-Some.answer (sym c.is_yes.ensures ∙ c.if-is_yes.true) m.1 ((c.is_enrolled_at.ensures m.0 m.1).0 c.if-not-is_enrolled_at.false) (c.grounds-grounds.ensures m.0 m.1)
    (told_by c.new.result c.event-event.result c.in_ok-does.does c.answer_of.result g c.args.ask.now.scep c.event-event.ensures (same_Ok c.in_ok-does.does (asked_does c.new.result c.event-event.result) (Ok c.in_ok-does.does) c.in_ok-does.ensures.does refl) c.answer_of.ensures ∙ c.in-Some.is)

pub returns-then-is_yes-clause-does : goal.returns-then-is_yes-clause-does
returns-then-is_yes-clause-does c = λ lines below h.
    let d = c.args.self.now in
    let g = c.grounds-grounds.result in
    let m = there d.settings.members c.args.at c.requires.at in
    handles_yes d c.accept.new.self lines below c.args.at c.args.from c.args.invoke c.args.ask.now g m.0 m.1 ((c.is_enrolled_at.ensures m.0 m.1).0 c.if-not-is_enrolled_at.false) (c.grounds-grounds.ensures m.0 m.1) c.in-Some.answer c.accept.result (sym c.is_yes.ensures ∙ c.if-is_yes.true)
    (told_by c.new.result c.event-event.result c.in_ok-does.does c.answer_of.result g c.args.ask.now.scep c.event-event.ensures (same_Ok c.in_ok-does.does (asked_does c.new.result c.event-event.result) (Ok c.in_ok-does.does) c.in_ok-does.ensures.does refl) c.answer_of.ensures ∙ c.in-Some.is) (c.accept.ensures.does lines below h)

pub returns-clause-does : goal.returns-clause-does
returns-clause-does c = λ lines below h.
    let d = c.args.self.now in
    let g = c.grounds-grounds.result in
    let m = there d.settings.members c.args.at c.requires.at in
    handles_no d c.send_answer.new.self lines below c.args.at c.args.from c.args.invoke c.args.ask.now g m.0 m.1 ((c.is_enrolled_at.ensures m.0 m.1).0 c.if-not-is_enrolled_at.false) (c.grounds-grounds.ensures m.0 m.1) c.in-Some.answer c.send_answer.result (sym c.is_yes.ensures ∙ c.if-is_yes.false)
    (told_by c.new.result c.event-event.result c.in_ok-does.does c.answer_of.result g c.args.ask.now.scep c.event-event.ensures (same_Ok c.in_ok-does.does (asked_does c.new.result c.event-event.result) (Ok c.in_ok-does.does) c.in_ok-does.ensures.does refl) c.answer_of.ensures ∙ c.in-Some.is) c.send_answer.ensures.ok c.send_answer.ensures.err h (c.send_answer.ensures.holds lines below h)

pub returns-clause-whole : goal.returns-clause-whole
returns-clause-whole c = whole_same c.args.self.now c.send_answer.new.self (sent_whole c.args.self.now c.send_answer.new.self c.args.at c.args.from c.args.invoke c.in-Some.answer c.send_answer.result c.requires.at c.send_answer.ensures.ok c.send_answer.ensures.err)

pub returns-then-not-is_enrolled_at-clause-leaves : goal.returns-then-not-is_enrolled_at-clause-leaves
returns-then-not-is_enrolled_at-clause-leaves c = leaves_none (Some c.args.at) c.args.self.now

pub returns-in_err-does-clause-leaves : goal.returns-in_err-does-clause-leaves
returns-in_err-does-clause-leaves c = leaves_none (Some c.args.at) c.args.self.now

pub returns-clause-leaves : goal.returns-clause-leaves
returns-clause-leaves c =
    let sent = sent_whole c.args.self.now c.send_answer.new.self c.args.at c.args.from c.args.invoke c.in-Some.answer c.send_answer.result c.requires.at c.send_answer.ensures.ok c.send_answer.ensures.err in
    leaves_same (Some c.args.at) c.args.self.now c.send_answer.new.self (ap (λ (z : Dif). z.flows) sent) (ap (λ (z : Dif). z.processes) sent)
