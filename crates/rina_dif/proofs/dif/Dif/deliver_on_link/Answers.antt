use Rattle.std.proofs.Common.{◌∙◌, Ok, Err}
use Rattle.std.proofs.lemmas.Result.{err_from_is_err_and}
use Rattle.rina_base.specs.declared.cause.Cause.TheVariants.{NoConnection}
use Rattle.rina_base.specs.Pdus.{pdu_of}
use Rattle.rina_data.specs.Hops.{hop_of}
use Rattle.rina_dif.specs.Holding.{Stands}
use Rattle.rina_dif.proofs.Elsewhere.{notes_leave}
use Rattle.rina_dif.proofs.OnLinks.{its_kind, link_arrived, link_arrived_err, link_leaves, link_none, link_noted_err, link_told, link_within, takes_err}
use Rattle.rina_dif.proofs.dif.Dif.deliver_on_link.Goals as goal

pub returns-in_err-write_off-clause-does : goal.returns-in_err-write_off-clause-does
returns-in_err-write_off-clause-does c =
    let d = c.args.self.now in
    let at = c.args.at in
    let since = c.args.came.now.since in
    let port = c.args.port in
    let hop = hop_of c.args.came.now.hop in
    let err = err_from_is_err_and c.from_residual.result c.from_residual.ensures.1 in
    let e = c.in_err-write_off.field-0.0 in
    takes_err d at since port hop e err.0 c.from_residual.result _ (link_noted_err d at since port hop (NoConnection hop.pdu.dcep) e c.write_off.new.self c.requires.at c.in_err-write_off.ensures) err.1

pub returns-in_default-clause-does : goal.returns-in_default-clause-does
returns-in_default-clause-does c =
    let d = c.args.self.now in
    let at = c.args.at in
    let since = c.args.came.now.since in
    let port = c.args.port in
    let hop = hop_of c.args.came.now.hop in
    link_none d at since port hop c.write_off.new.self c.requires.at c.requires.link c.in_default.ensures c.in_ok-write_off.ensures

pub on_link_data-requires-clause-end : goal.on_link_data-requires-clause-end
on_link_data-requires-clause-end c =
    let d = c.args.self.now in
    let at = c.args.at in
    let since = c.args.came.now.since in
    let port = c.args.port in
    let hop = hop_of c.args.came.now.hop in
    (link_within d.connections port hop.pdu c.in-Some.place (pdu_of c.in-Some.pdu) c.in-Some.ensures).0

pub on_link_data-requires-clause-conn : goal.on_link_data-requires-clause-conn
on_link_data-requires-clause-conn c =
    let d = c.args.self.now in
    let at = c.args.at in
    let since = c.args.came.now.since in
    let port = c.args.port in
    let hop = hop_of c.args.came.now.hop in
    (link_within d.connections port hop.pdu c.in-Some.place (pdu_of c.in-Some.pdu) c.in-Some.ensures).1

pub on_ack-requires : goal.on_ack-requires
on_ack-requires c =
    let d = c.args.self.now in
    let at = c.args.at in
    let since = c.args.came.now.since in
    let port = c.args.port in
    let hop = hop_of c.args.came.now.hop in
    (link_within d.connections port hop.pdu c.in-Some.place (pdu_of c.in-Some.pdu) c.in-Some.ensures).1

pub returns-in_err-cause-in-Piece-clause-does : goal.returns-in_err-cause-in-Piece-clause-does
returns-in_err-cause-in-Piece-clause-does c =
    let d = c.args.self.now in
    let at = c.args.at in
    let since = c.args.came.now.since in
    let port = c.args.port in
    let hop = hop_of c.args.came.now.hop in
    let r = c.from_residual-in_err-cause-in-Piece in
    let err = err_from_is_err_and r.result r.ensures.1 in
    let e = c.in_err-cause-in-Piece.field-0.0 in
    takes_err d at since port hop e err.0 r.result _ (link_arrived_err d at since port hop c.in-Some.place (pdu_of c.in-Some.pdu) e c.on_link_data.new.flows c.on_link_data.new.self c.in_err-cause-in-Piece.ensures) err.1

pub returns-in-Some-2-clause-does : goal.returns-in-Some-2-clause-does
returns-in-Some-2-clause-does c =
    let d = c.args.self.now in
    let at = c.args.at in
    let since = c.args.came.now.since in
    let port = c.args.port in
    let hop = hop_of c.args.came.now.hop in
    rw c.in-Some-2.is at (link_arrived d at since port hop c.in-Some.place (pdu_of c.in-Some.pdu) c.in_ok-cause-in-Piece.field-0 c.on_link_data.new.flows c.on_link_data.new.self c.requires.at c.requires.link (its_kind d.connections port hop.pdu c.in-Some.place (pdu_of c.in-Some.pdu) c.in-Some.ensures ∙ c.in-Piece.is) c.in-Some.ensures c.in_ok-cause-in-Piece.ensures)

pub returns-in-None-clause-does : goal.returns-in-None-clause-does
returns-in-None-clause-does c =
    let d = c.args.self.now in
    let at = c.args.at in
    let since = c.args.came.now.since in
    let port = c.args.port in
    let hop = hop_of c.args.came.now.hop in
    rw c.in-None.is at (link_arrived d at since port hop c.in-Some.place (pdu_of c.in-Some.pdu) c.in_ok-cause-in-Piece.field-0 c.on_link_data.new.flows c.on_link_data.new.self c.requires.at c.requires.link (its_kind d.connections port hop.pdu c.in-Some.place (pdu_of c.in-Some.pdu) c.in-Some.ensures ∙ c.in-Piece.is) c.in-Some.ensures c.in_ok-cause-in-Piece.ensures)

pub returns-in-Ack-clause-does : goal.returns-in-Ack-clause-does
returns-in-Ack-clause-does c =
    let d = c.args.self.now in
    let at = c.args.at in
    let since = c.args.came.now.since in
    let port = c.args.port in
    let hop = hop_of c.args.came.now.hop in
    link_told d at since port hop c.in-Some.place (pdu_of c.in-Some.pdu) c.on_ack.new.self c.requires.at c.requires.link (its_kind d.connections port hop.pdu c.in-Some.place (pdu_of c.in-Some.pdu) c.in-Some.ensures ∙ c.in-Ack.is) c.in-Some.ensures c.on_ack.ensures.told c.on_ack.ensures.ends

pub returns-in_err-write_off-clause-leaves : goal.returns-in_err-write_off-clause-leaves
returns-in_err-write_off-clause-leaves c =
    let d = c.args.self.now in
    let st : Stands d c.requires.comes.1 = (c.requires.comes.0, c.requires.comes.2) in
    let pdu = (hop_of c.args.came.now.hop).pdu in
    notes_leave d c.requires.comes.1 pdu (NoConnection pdu.dcep) (Err c.in_err-write_off.field-0.0) c.args.at c.write_off.new.self st c.requires.at c.in_err-write_off.ensures

pub returns-in_default-clause-leaves : goal.returns-in_default-clause-leaves
returns-in_default-clause-leaves c =
    let d = c.args.self.now in
    let st : Stands d c.requires.comes.1 = (c.requires.comes.0, c.requires.comes.2) in
    let pdu = (hop_of c.args.came.now.hop).pdu in
    notes_leave d c.requires.comes.1 pdu (NoConnection pdu.dcep) (Ok tt) c.args.at c.write_off.new.self st c.requires.at c.in_ok-write_off.ensures

pub returns-in-Some-2-clause-leaves : goal.returns-in-Some-2-clause-leaves
returns-in-Some-2-clause-leaves c =
    let d = c.args.self.now in
    let st : Stands d c.requires.comes.1 = (c.requires.comes.0, c.requires.comes.2) in
    link_leaves d c.requires.comes.1 c.in-Some.place (pdu_of c.in-Some.pdu) c.args.at (Ok c.in_ok-cause-in-Piece.field-0) c.on_link_data.new.flows c.on_link_data.new.self st c.requires.at c.in_ok-cause-in-Piece.ensures

pub returns-in-None-clause-leaves : goal.returns-in-None-clause-leaves
returns-in-None-clause-leaves c =
    let d = c.args.self.now in
    let st : Stands d c.requires.comes.1 = (c.requires.comes.0, c.requires.comes.2) in
    link_leaves d c.requires.comes.1 c.in-Some.place (pdu_of c.in-Some.pdu) c.args.at (Ok c.in_ok-cause-in-Piece.field-0) c.on_link_data.new.flows c.on_link_data.new.self st c.requires.at c.in_ok-cause-in-Piece.ensures
