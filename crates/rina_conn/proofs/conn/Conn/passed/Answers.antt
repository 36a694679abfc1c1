use Rattle.rina_conn.specs.Waiting.{after_pass}
use Rattle.rina_conn.proofs.Marking.{marks_passed}
use Rattle.rina_conn.proofs.Passing.{passes_row}
use Rattle.rina_conn.proofs.conn.Conn.passed.Goals as goal

pub returns-clause-marks : goal.returns-clause-marks
returns-clause-marks c = marks_passed c.args.now c.last_in-last_in.result c.args.self.now (record c.args.self.now { plan = c.note_passed.new.self; waiting = c.pass.new.self }) c.last_in-last_in.ensures.machine c.note_passed.ensures

pub returns-clause-receives : goal.returns-clause-receives
returns-clause-receives c = rw c.pass.ensures (passes_row c.args.now c.args.self.now c.note_passed.new.self (marks_passed c.args.now c.last_in-last_in.result c.args.self.now (record c.args.self.now { plan = c.note_passed.new.self; waiting = after_pass c.args.self.now.waiting }) c.last_in-last_in.ensures.machine c.note_passed.ensures))
