use Rattle.std.proofs.Common.{Ok, Err, Some, refl}
use Rattle.std.proofs.lemmas.Result.{err_from_is_err_and}
use Rattle.rina_base.specs.declared.cause.Cause.TheVariants.{NoConnection}
use Rattle.rina_base.specs.Pdus.{key_of}
use Rattle.rina_data.specs.Hops.{hop_of}
use Rattle.rina_data.specs.declared.step.Took.TheVariants.{Accepted}
use Rattle.rina_dif.proofs.Owning.{noted_err, own_none, own_told, taken_within}
use Rattle.rina_dif.proofs.Settling.{settles_err}
use Rattle.rina_dif.specs.Holding.{Stands}
use Rattle.rina_dif.proofs.Elsewhere.{none_process, notes_leave, taken_alone, taker_of}
use Rattle.rina_dif.proofs.dif.Dif.deliver_here.Goals as goal

pub returns-in_err-write_off-clause-does : goal.returns-in_err-write_off-clause-does
returns-in_err-write_off-clause-does c =
    let d = c.args.self.now in
    let at = c.args.at in
    let since = c.args.came.now.since in
    let hop = hop_of c.args.came.now.hop in
    let err = err_from_is_err_and c.from_residual.result c.from_residual.ensures.1 in
    let e = c.in_err-write_off.field-0.0 in
    settles_err d at since hop e err.0 c.from_residual.result _ (noted_err d at since hop (NoConnection hop.pdu.dcep) e c.write_off.new.self c.requires.at c.in_err-write_off.ensures) err.1

pub returns-in_default-clause-does : goal.returns-in_default-clause-does
returns-in_default-clause-does c =
    let d = c.args.self.now in
    let at = c.args.at in
    let since = c.args.came.now.since in
    let hop = hop_of c.args.came.now.hop in
    own_none d at since hop c.write_off.new.self c.requires.at c.requires.own c.in_default.ensures c.in_ok-write_off.ensures

pub on_ack-requires : goal.on_ack-requires
on_ack-requires c =
    let d = c.args.self.now in
    let at = c.args.at in
    let since = c.args.came.now.since in
    let hop = hop_of c.args.came.now.hop in
    (taken_within d.flows.journal.ends d.flows.conns hop.pdu c.in-Some.place c.in-Some.ensures).1

pub returns-in-Ack-clause-does : goal.returns-in-Ack-clause-does
returns-in-Ack-clause-does c =
    let d = c.args.self.now in
    let at = c.args.at in
    let since = c.args.came.now.since in
    let hop = hop_of c.args.came.now.hop in
    own_told d at since hop c.in-Some.place c.on_ack.new.self c.requires.own c.in-Ack.is c.in-Some.ensures c.on_ack.ensures.told c.on_ack.ensures.ends

pub returns-in_err-write_off-clause-leaves : goal.returns-in_err-write_off-clause-leaves
returns-in_err-write_off-clause-leaves c =
    let d = c.args.self.now in
    let st : Stands d c.requires.comes.1 = (c.requires.comes.0, c.requires.comes.2) in
    let pdu = (hop_of c.args.came.now.hop).pdu in
    ((λ i other. refl, λ i other. refl), notes_leave d c.requires.comes.1 pdu (NoConnection pdu.dcep) (Err c.in_err-write_off.field-0.0) c.args.at c.write_off.new.self st c.requires.at c.in_err-write_off.ensures)

pub returns-in_default-clause-leaves : goal.returns-in_default-clause-leaves
returns-in_default-clause-leaves c =
    let d = c.args.self.now in
    let st : Stands d c.requires.comes.1 = (c.requires.comes.0, c.requires.comes.2) in
    let pdu = (hop_of c.args.came.now.hop).pdu in
    ((λ i other. refl, λ i other. refl), notes_leave d c.requires.comes.1 pdu (NoConnection pdu.dcep) (Ok tt) c.args.at c.write_off.new.self st c.requires.at c.in_ok-write_off.ensures)

pub returns-in-Piece-clause-leaves : goal.returns-in-Piece-clause-leaves
returns-in-Piece-clause-leaves c =
    let d = c.args.self.now in
    let hop = hop_of c.args.came.now.hop in
    taken_alone c.on_data.result d c.on_data.new.self c.args.at (key_of hop.pdu) c.in-Some.place (taker_of d c.args.at c.args.came.now.since hop c.in-Some.place c.requires.comes c.requires.at c.requires.own c.in-Some.ensures) c.on_data.ensures.leaves

pub returns-in-Ack-clause-leaves : goal.returns-in-Ack-clause-leaves
returns-in-Ack-clause-leaves c =
    let d = c.args.self.now in
    let hop = hop_of c.args.came.now.hop in
    taken_alone (Ok Accepted) d (record d { flows = c.on_ack.new.self }) c.args.at (key_of hop.pdu) c.in-Some.place (taker_of d c.args.at c.args.came.now.since hop c.in-Some.place c.requires.comes c.requires.at c.requires.own c.in-Some.ensures) (c.on_ack.ensures.leaves, none_process (Some c.args.at) d.processes d.processes refl)
