use Rattle.std.proofs.Common.{◌≡◌, rules, arith, length}
use Rattle.std.proofs.lemmas.Result.{err_from_is_err_and}
use Rattle.rina_conn.proofs.Offering.{long_refused, shut_refused, spent_refused, admitted}
use Rattle.rina_conn.proofs.sending.Sending.admit.Goals as goal

pub returns-in_err-check_length-clause-admits : goal.returns-in_err-check_length-clause-admits
returns-in_err-check_length-clause-admits c =
    let p = err_from_is_err_and c.from_residual.result c.from_residual.ensures.1 in
    rw (p.1, p.2) (long_refused c.args.now c.args.sdu.now c.args.self.now c.in_err-check_length.field-0.0 c.args.self.now.form.least_piece c.in_err-check_length.ensures)

pub overflow_cast-count : goal.overflow_cast-count
overflow_cast-count c =
    let len : c.len-count.result ≡ length c.in_ok-parts.parts.items = search rules in
    let few = c.in_ok-parts.ensures.ok.few in
    search (rules, len, few)

pub take_numbers-requires-clause-count : goal.take_numbers-requires-clause-count
take_numbers-requires-clause-count c =
    let len : c.len-count.result ≡ length c.in_ok-parts.parts.items = search rules in
    let some = c.in_ok-parts.ensures.ok.some in
    omega arith

pub returns-in_err-check_window-clause-admits : goal.returns-in_err-check_window-clause-admits
returns-in_err-check_window-clause-admits c =
    let len : c.len-count.result ≡ length c.in_ok-parts.parts.items = search rules in
    let p = err_from_is_err_and c.from_residual-in_err-check_window.result c.from_residual-in_err-check_window.ensures.1 in
    let parts = c.in_ok-parts.ensures.ok in
    rw (p.1, p.2) (shut_refused c.args.now c.args.sdu.now c.args.self.now c.in_ok-parts.parts.items c.in_err-check_window.field-0.0 c.args.self.now.form.least_piece parts.are c.in_ok-check_length.ensures (rw len at c.in_err-check_window.ensures))

pub returns-in_err-first-clause-admits : goal.returns-in_err-first-clause-admits
returns-in_err-first-clause-admits c =
    let len : c.len-count.result ≡ length c.in_ok-parts.parts.items = search rules in
    let p = err_from_is_err_and c.from_residual-in_err-first.result c.from_residual-in_err-first.ensures.1 in
    let parts = c.in_ok-parts.ensures.ok in
    rw (p.1, p.2) (spent_refused c.args.now c.args.sdu.now c.args.self.now c.in_ok-parts.parts.items c.in_err-first.field-0.0 c.args.self.now.form.least_piece parts.are parts.some c.in_ok-check_length.ensures (rw len at c.in_ok-check_window.ensures) (rw len at c.in_err-first.ensures.numbers))

pub returns-clause-admits : goal.returns-clause-admits
returns-clause-admits c =
    let len : c.len-count.result ≡ length c.in_ok-parts.parts.items = search rules in
    let parts = c.in_ok-parts.ensures.ok in
    admitted c.args.now c.args.sdu.now c.args.self.now (record { parts = c.in_ok-parts.parts; first = c.in_ok-first.first; numbers = c.in_ok-first.numbers }) c.args.self.now.form.least_piece parts.are parts.some c.in_ok-check_length.ensures (rw len at c.in_ok-check_window.ensures) (rw len at c.in_ok-first.ensures.numbers)
