use Rattle.std.proofs.Common.{arith, Some, refl}
use Rattle.std.proofs.lemmas.Option.{slice_get_within}
use Rattle.std.proofs.lemmas.Result.{err_from_is_err_and}
use Rattle.rina_dif.proofs.Answering.{binds_end, binds_err, within_conns}
use Rattle.rina_flows.specs.Calls.{IsToldPeer}
use Rattle.rina_dif.proofs.FlowWalk.{leaves_bound, leaves_same}
use Rattle.rina_dif.proofs.dif.Dif.bind_at.Goals as goal

pub at-requires : goal.at-requires
at-requires c = within_conns c.args.self.now c.requires.valid c.args.place c.requires.waits.end c.requires.waits.is_end

pub at-requires-2 : goal.at-requires-2
at-requires-2 c = (let x = c.requires.far.far c.requires.waits.end c.requires.waits.is_end in slice_get_within c.args.self.now.flows.conns c.args.far_at x.conn x.is_at.conn_is)

pub show_flow-requires : goal.show_flow-requires
show_flow-requires c = (let lt = c.requires.at in let many = c.requires.valid.stands.1.managed.aligned in omega (arith, lt, many))

pub bind-requires-clause-at : goal.bind-requires-clause-at
bind-requires-clause-at c = within_conns c.args.self.now c.requires.valid c.args.place c.requires.waits.end c.requires.waits.is_end

pub bind-requires-clause-end : goal.bind-requires-clause-end
bind-requires-clause-end c = slice_get_within c.args.self.now.flows.journal.ends c.args.place c.requires.waits.end c.requires.waits.is_end

pub returns-in_err-show_flow-clause-does : goal.returns-in_err-show_flow-clause-does
returns-in_err-show_flow-clause-does c = λ lines below h.
    let err = err_from_is_err_and c.from_residual.result c.from_residual.ensures.1 in
    binds_err c.args.self.now c.args.at c.args.place c.show_flow.new.self c.from_residual.result err.0 err.1 c.in_err-show_flow.ensures.err lines below h

pub returns-clause-does : goal.returns-clause-does
returns-clause-does c = λ lines below h. binds_end c.args.self.now c.args.at c.args.place c.args.far_at c.requires.waits c.requires.far c.bind.new.self c.show_flow.new.self c.at.result.now c.at-2.result.now c.at.ensures c.at-2.ensures c.in_ok-show_flow.ensures.ok c.bind.ensures.binds lines below h

pub returns-in_err-show_flow-clause-leaves : goal.returns-in_err-show_flow-clause-leaves
returns-in_err-show_flow-clause-leaves c = leaves_same (Some c.args.at) c.args.self.now (record c.args.self.now { managements = c.show_flow.new.self }) refl refl

pub returns-clause-leaves : goal.returns-clause-leaves
returns-clause-leaves c =
    let d = c.args.self.now in
    let w = c.requires.waits in
    leaves_bound (Some c.args.at) d (record d { managements = c.show_flow.new.self; flows = c.bind.new.self }) c.args.place w.end (IsToldPeer c.at-2.result.now.sending.form.peer.scep) w.is_end w.at_home (within_conns d c.requires.valid c.args.place w.end w.is_end) c.bind.ensures.conns c.bind.ensures.ends refl
