use Rattle.std.proofs.Common.{Ok, ap, refl, subst, ◌∙◌, Err}
use Rattle.std.proofs.lemmas.Result.{err_from_is_err_and}
use Rattle.rina_base.specs.declared.pdu.Pdu.{Pdu}
use Rattle.rina_base.specs.Pdus.{pdu_of}
use Rattle.rina_dif.specs.Timely.{ForwardsAt}
use Rattle.rina_dif.proofs.Lapsed.{conn_there}
use Rattle.rina_dif.proofs.Posted.{again_err, again_qos, forwarded_none, none_again, routes_for, sends_again}
use Rattle.rina_dif.proofs.Elsewhere.{forwards_leave}
use Rattle.rina_dif.proofs.dif.Dif.again_at.Goals as goal

pub returns-in_default-clause-does : goal.returns-in_default-clause-does
returns-in_default-clause-does c = λ lines below h. (none_again c.args.self.now lines below c.args.at c.args.place c.requires.here c.in_default.ensures h, refl)

pub sent_again-requires-clause-at : goal.sent_again-requires-clause-at
sent_again-requires-clause-at c = conn_there c.args.self.now c.requires.stands.0 c.args.at c.args.place c.requires.stands.1 c.requires.here

pub forward-requires-clause-routed : goal.forward-requires-clause-routed
forward-requires-clause-routed c =
    let d = c.args.self.now in
    let qos = again_qos d c.requires.stands.1.0 c.requires.stands.0 c.args.place c.at.result.now c.in-Some.pdu.now c.requires.stands.1.1 c.at.ensures c.in-Some.ensures in
    routes_for d c.requires.stands.1.0 c.requires.stands.0 c.args.at c.args.place c.at.result.now (record { left = c.at.result.now.sending.form.cube.mpl; pdu = pdu_of c.lend.result }) c.requires.stands.1.1 c.at.ensures (ap (λ (p : Pdu). p.qos) c.lend.ensures ∙ qos)

pub returns-in_err-forward-clause-does : goal.returns-in_err-forward-clause-does
returns-in_err-forward-clause-does c = λ lines below h.
    let err = err_from_is_err_and c.from_residual.result c.from_residual.ensures.1 in
    again_err c.args.self.now lines below c.args.place c.from_residual.result err.0 _ err.1 (forwarded_none c.args.self.now lines below c.args.at (record { left = c.at.result.now.sending.form.cube.mpl; pdu = pdu_of c.lend.result }) c.in_err-forward.field-0.0 c.forward.new.self c.requires.at h c.in_err-forward.ensures)

pub returns-clause-does : goal.returns-clause-does
returns-clause-does c = rw c.from.ensures (λ lines below h.
    let d = c.args.self.now in
    let conn = c.at.result.now in
    let forwards = subst (λ (q : Pdu). ForwardsAt d.clock (record { left = conn.sending.form.cube.mpl; pdu = q }) (Ok c.in_ok-forward.field-0) c.args.at d.processes c.forward.new.self) c.lend.ensures c.in_ok-forward.ensures in
    sends_again d lines below c.args.at c.args.place conn c.in-Some.pdu.now c.in_ok-forward.field-0 c.sent_again.new.self c.forward.new.self c.requires.at c.requires.here c.at.ensures c.in-Some.ensures forwards c.sent_again.ensures.sends h)

pub returns-in_err-forward-clause-leaves : goal.returns-in_err-forward-clause-leaves
returns-in_err-forward-clause-leaves c = ((λ i other. refl, λ i other. refl), forwards_leave c.args.self.now c.requires.stands.0 (record { left = c.at.result.now.sending.form.cube.mpl; pdu = pdu_of c.lend.result }) (Err c.in_err-forward.field-0.0) c.args.at c.forward.new.self c.requires.stands.1 c.requires.at c.in_err-forward.ensures)

pub returns-clause-leaves : goal.returns-clause-leaves
returns-clause-leaves c = (c.sent_again.ensures.leaves, forwards_leave c.args.self.now c.requires.stands.0 (record { left = c.at.result.now.sending.form.cube.mpl; pdu = pdu_of c.lend.result }) (Ok c.in_ok-forward.field-0) c.args.at c.forward.new.self c.requires.stands.1 c.requires.at c.in_ok-forward.ensures)
