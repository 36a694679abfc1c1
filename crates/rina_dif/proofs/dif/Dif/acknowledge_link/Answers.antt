use Rattle.std.proofs.Common.{◌∙◌, Err, Ok, ap, subst}
use Rattle.std.proofs.lemmas.Result.{err_from_is_err_and}
use Rattle.rina_base.specs.declared.pdu.Pdu.{Pdu}
use Rattle.rina_base.specs.Pdus.{pdu_of}
use Rattle.rina_channel.specs.Names.{unnamed}
use Rattle.rina_flows.specs.declared.due.Item.TheVariants.{Ack}
use Rattle.rina_dif.specs.LinkSteps.{PostsAt}
use Rattle.rina_dif.proofs.LinkFirst.{due_within}
use Rattle.rina_dif.proofs.Served.{acknowledges_link, link_qos, link_queue, no_link_ack, posts_leave, posts_none, serves_err}
use Rattle.rina_dif.proofs.dif.Dif.acknowledge_link.Goals as goal

pub ack_due-requires : goal.ack_due-requires
ack_due-requires c =
    let st = c.requires.stands in
    let links = st.1.1.connected in
    due_within Ack c.args.self.now st.0 links c.args.at c.args.turn.place c.args.turn.number (c.requires.due st.0 links)

pub at-requires : goal.at-requires
at-requires c =
    let st = c.requires.stands in
    let links = st.1.1.connected in
    due_within Ack c.args.self.now st.0 links c.args.at c.args.turn.place c.args.turn.number (c.requires.due st.0 links)

pub acknowledged-requires : goal.acknowledged-requires
acknowledged-requires c =
    let st = c.requires.stands in
    let links = st.1.1.connected in
    due_within Ack c.args.self.now st.0 links c.args.at c.args.turn.place c.args.turn.number (c.requires.due st.0 links)

pub unreachable-requires : goal.unreachable-requires
unreachable-requires c =
    let st = c.requires.stands in
    let links = st.1.1.connected in
    no_link_ack c.args.self.now st.0 c.args.at c.args.turn.place c.args.turn.number links (c.requires.due st.0 links) c.in_default.ensures

pub post-requires-clause-qos : goal.post-requires-clause-qos
post-requires-clause-qos c =
    let st = c.requires.stands in
    let links = st.1.1.connected in
    let here = (c.requires.due st.0 links).here in
    ap (λ (p : Pdu). p.qos) c.named.ensures ∙ ap (λ (p : Pdu). p.qos) c.ack_pdu.ensures ∙ link_qos c.args.self.now st.0 c.args.at c.args.turn.place c.args.turn.number c.at.result.now links here c.at.ensures

pub post-requires-clause-there : goal.post-requires-clause-there
post-requires-clause-there c =
    let st = c.requires.stands in
    let here = (c.requires.due st.0 st.1.1.connected).here in
    link_queue c.args.self.now st.1.0 st.0 c.args.at c.args.turn.place c.args.turn.number st.1.1 here

pub returns-in_err-post-clause-does : goal.returns-in_err-post-clause-does
returns-in_err-post-clause-does c = λ lines below h.
    let err = err_from_is_err_and c.from_residual.result c.from_residual.ensures.1 in
    serves_err _ c.args.self.now lines below c.from_residual.result err.0 _ err.1 (posts_none c.args.self.now c.args.at c.args.turn.number (record { left = c.at.result.now.sending.form.cube.mpl; pdu = pdu_of c.named.result }) c.in_err-post.field-0.0 c.post.new.self c.requires.at c.in_err-post.ensures lines below h)

pub returns-in_err-post-clause-leaves : goal.returns-in_err-post-clause-leaves
returns-in_err-post-clause-leaves c = posts_leave c.args.self.now c.requires.stands.0 c.args.at c.args.turn.number (record { left = c.at.result.now.sending.form.cube.mpl; pdu = pdu_of c.named.result }) (Err c.in_err-post.field-0.0) c.post.new.self c.requires.stands.1 c.requires.at c.in_err-post.ensures

pub returns-clause-does : goal.returns-clause-does
returns-clause-does c = λ lines below h.
    let d = c.args.self.now in
    let conn = c.at.result.now in
    let here = (c.requires.due below h.connected).here in
    let made = c.named.ensures ∙ ap unnamed c.ack_pdu.ensures in
    let posts = subst (λ (q : Pdu). PostsAt d.clock c.args.turn.number (record { left = conn.sending.form.cube.mpl; pdu = q }) (Ok c.in_ok-post.field-0) c.args.at d.processes c.post.new.self) made c.in_ok-post.ensures in
    acknowledges_link d c.args.at c.args.turn.place c.args.turn.number conn c.in-Some.due c.in_ok-post.field-0 c.acknowledged.new.self c.post.new.self c.requires.at here c.at.ensures c.in-Some.ensures posts c.acknowledged.ensures.acknowledges lines below h

pub returns-clause-leaves : goal.returns-clause-leaves
returns-clause-leaves c = posts_leave c.args.self.now c.requires.stands.0 c.args.at c.args.turn.number (record { left = c.at.result.now.sending.form.cube.mpl; pdu = pdu_of c.named.result }) (Ok c.in_ok-post.field-0) c.post.new.self c.requires.stands.1 c.requires.at c.in_ok-post.ensures
