use Rattle.std.proofs.lemmas.Result.{err_from_is_err_and}
use Rattle.rina_dif.proofs.Barred.{admits_by_way, bars_by_way, barred_by_end, barred_by_window, is_ready}
use Rattle.rina_dif.proofs.dif.Dif.admit.Goals as goal

pub returns-in_err-check_end-clause-err : goal.returns-in_err-check_end-clause-err
returns-in_err-check_end-clause-err c =
    let p = err_from_is_err_and c.from_residual.result c.from_residual.ensures.1 in
    rw (p.1, p.2) (barred_by_end c.args.self.now c.args.at c.args.sdu.now c.in-Some-Some.end.now c.in-Some-Some.conn.now c.in_err-check_end.field-0.0 (record { end_is = c.in-Some-Some.ensures; conn_is = c.in-Some-Some.ensures' }) c.in_err-check_end.ensures.err)

pub returns-in_err-check_window-clause-err : goal.returns-in_err-check_window-clause-err
returns-in_err-check_window-clause-err c =
    let conn = c.in-Some-Some.conn.now in
    let p = err_from_is_err_and c.from_residual-in_err-check_window.result c.from_residual-in_err-check_window.ensures.1 in
    rw (p.1, p.2) (barred_by_window c.args.self.now c.args.at c.args.sdu.now c.in-Some-Some.end.now conn c.need-need.result c.room.result c.in_err-check_window.field-0.0 (record { end_is = c.in-Some-Some.ensures; conn_is = c.in-Some-Some.ensures' }) c.in_ok-check_end.ensures.ok.0 c.in_ok-check_end.ensures.ok.1 (c.need-need.ensures conn c.in-Some-Some.ensures') (c.room.ensures conn c.in-Some-Some.ensures') c.need-need.type_inv c.in_err-check_window.ensures.err.0 c.in_err-check_window.ensures.err.1)

pub first_hop-requires-clause-qos : goal.first_hop-requires-clause-qos
first_hop-requires-clause-qos c = (is_ready c.args.self.now c.requires.valid.below c.args.at c.args.sdu.now c.in-Some-Some.end.now c.in-Some-Some.conn.now c.requires.valid.stands (record { end_is = c.in-Some-Some.ensures; conn_is = c.in-Some-Some.ensures' })).qos

pub first_hop-requires-clause-some : goal.first_hop-requires-clause-some
first_hop-requires-clause-some c =
    let conn = c.in-Some-Some.conn.now in
    (is_ready c.args.self.now c.requires.valid.below c.args.at c.args.sdu.now c.in-Some-Some.end.now conn c.requires.valid.stands (record { end_is = c.in-Some-Some.ensures; conn_is = c.in-Some-Some.ensures' })).some c.need-need.result (c.need-need.ensures conn c.in-Some-Some.ensures')

pub returns-clause-ok : goal.returns-clause-ok
returns-clause-ok c =
    let conn = c.in-Some-Some.conn.now in
    admits_by_way c.args.self.now c.args.at c.args.sdu.now c.in-Some-Some.end.now conn c.need-need.result c.room.result c.first_hop.result (record { end_is = c.in-Some-Some.ensures; conn_is = c.in-Some-Some.ensures' }) c.in_ok-check_end.ensures.ok.0 c.in_ok-check_end.ensures.ok.1 (c.need-need.ensures conn c.in-Some-Some.ensures') (c.room.ensures conn c.in-Some-Some.ensures') c.in_ok-check_window.ensures.ok c.first_hop.ensures.ok c.first_hop.ensures.form

pub returns-clause-err : goal.returns-clause-err
returns-clause-err c =
    let conn = c.in-Some-Some.conn.now in
    bars_by_way c.args.self.now c.args.at c.args.sdu.now c.in-Some-Some.end.now conn c.need-need.result c.room.result c.first_hop.result (record { end_is = c.in-Some-Some.ensures; conn_is = c.in-Some-Some.ensures' }) c.in_ok-check_end.ensures.ok.0 c.in_ok-check_end.ensures.ok.1 (c.need-need.ensures conn c.in-Some-Some.ensures') (c.room.ensures conn c.in-Some-Some.ensures') c.in_ok-check_window.ensures.ok c.first_hop.ensures.err
