use Rattle.std.proofs.Common.{Err, Ok, Some, ◌≡◌}
use Rattle.std.proofs.lemmas.Result.{err_from_is_err_and}
use Rattle.rina_data.specs.Hops.{hop_of}
use Rattle.rina_dif.proofs.Owning.{arrived_err, own_arrived}
use Rattle.rina_dif.proofs.Settling.{settles_err}
use Rattle.rina_dif.specs.Elsewhere.{WhenOk}
use Rattle.rina_dif.specs.Holding.{Stands}
use Rattle.rina_dif.proofs.Elsewhere.{arrived_none, arrived_when, arrives_leave, lost_alone}
use Rattle.rina_dif.proofs.dif.Dif.on_data.Goals as goal

pub returns-in_err-cause-clause-does : goal.returns-in_err-cause-clause-does
returns-in_err-cause-clause-does c =
    let d = c.args.self.now in
    let at = c.args.at in
    let since = c.args.came.now.since in
    let hop = hop_of c.args.came.now.hop in
    let err = err_from_is_err_and c.from_residual.result c.from_residual.ensures.1 in
    let e = c.in_err-cause.field-0.0 in
    settles_err d at since hop e err.0 c.from_residual.result _ (arrived_err d at since hop c.args.place e c.on_data.new.flows c.on_data.new.self c.requires.at c.in_err-cause.ensures.arrives) err.1

pub returns-in-Some-clause-does : goal.returns-in-Some-clause-does
returns-in-Some-clause-does c =
    let d = c.args.self.now in
    let at = c.args.at in
    let since = c.args.came.now.since in
    let hop = hop_of c.args.came.now.hop in
    rw c.in-Some.is at (own_arrived d at since hop c.args.place c.in_ok-cause.field-0 c.on_data.new.flows c.on_data.new.self c.requires.at c.requires.own c.requires.piece c.requires.taken c.in_ok-cause.ensures.arrives)

pub returns-in-None-clause-does : goal.returns-in-None-clause-does
returns-in-None-clause-does c =
    let d = c.args.self.now in
    let at = c.args.at in
    let since = c.args.came.now.since in
    let hop = hop_of c.args.came.now.hop in
    rw c.in-None.is at (own_arrived d at since hop c.args.place c.in_ok-cause.field-0 c.on_data.new.flows c.on_data.new.self c.requires.at c.requires.own c.requires.piece c.requires.taken c.in_ok-cause.ensures.arrives)

pub returns-in-Some-clause-leaves : goal.returns-in-Some-clause-leaves
returns-in-Some-clause-leaves c =
    let d = c.args.self.now in
    let st : Stands d c.requires.comes.1 = (c.requires.comes.0, c.requires.comes.2) in
    let pdu = (hop_of c.args.came.now.hop).pdu in
    let e = c.in_ok-cause.ensures in
    (arrived_when d c.requires.comes.1 c.args.place pdu c.args.at (Ok c.in_ok-cause.field-0) c.on_data.new.flows c.on_data.new.self st c.requires.at e.arrives e.leaves, arrives_leave d c.requires.comes.1 c.args.place pdu c.args.at (Ok c.in_ok-cause.field-0) c.on_data.new.flows c.on_data.new.self st c.requires.at e.arrives)

pub returns-in-None-clause-leaves : goal.returns-in-None-clause-leaves
returns-in-None-clause-leaves c =
    let d = c.args.self.now in
    let st : Stands d c.requires.comes.1 = (c.requires.comes.0, c.requires.comes.2) in
    let pdu = (hop_of c.args.came.now.hop).pdu in
    let e = c.in_ok-cause.ensures in
    (arrived_when d c.requires.comes.1 c.args.place pdu c.args.at (Ok c.in_ok-cause.field-0) c.on_data.new.flows c.on_data.new.self st c.requires.at e.arrives e.leaves, arrives_leave d c.requires.comes.1 c.args.place pdu c.args.at (Ok c.in_ok-cause.field-0) c.on_data.new.flows c.on_data.new.self st c.requires.at e.arrives)

pub returns-in_err-cause-clause-leaves : goal.returns-in_err-cause-clause-leaves
returns-in_err-cause-clause-leaves c =
    let d = c.args.self.now in
    let st : Stands d c.requires.comes.1 = (c.requires.comes.0, c.requires.comes.2) in
    let pdu = (hop_of c.args.came.now.hop).pdu in
    let e = c.in_err-cause.field-0.0 in
    let does = c.in_err-cause.ensures.arrives in
    lost_alone d (record d { flows = c.on_data.new.flows; processes = c.on_data.new.self }) (Some c.args.at) (λ i. WhenOk c.from_residual.result (i ≡ c.args.place)) (arrives_leave d c.requires.comes.1 c.args.place pdu c.args.at (Err e) c.on_data.new.flows c.on_data.new.self st c.requires.at does) (arrived_none d c.requires.comes.1 c.args.place pdu c.args.at e c.on_data.new.flows c.on_data.new.self st c.requires.at does)
