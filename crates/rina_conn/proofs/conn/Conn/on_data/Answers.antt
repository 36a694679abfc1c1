use Rattle.std.proofs.Common.{refl}
use Rattle.rina_base.specs.Pdus.{pdu_of}
use Rattle.rina_conn.proofs.Marking.{marks_row}
use Rattle.rina_conn.proofs.Arriving.{arrives_row}
use Rattle.rina_conn.proofs.conn.Conn.on_data.Goals as goal

pub returns-clause-marks : goal.returns-clause-marks
returns-clause-marks c = rw c.note_state_begun.ensures (marks_row c.args.now c.args.unpassed (pdu_of c.args.pdu.now) c.last_in-last_in.result c.args.self.now c.on_data-verdict.result c.plan_ack.new.self c.last_in-last_in.ensures.machine (rw c.plan_ack.ensures.same.0 c.on_data-verdict.ensures) c.plan_ack.ensures.marks)

pub returns-clause-receives : goal.returns-clause-receives
returns-clause-receives c = arrives_row c.args.now c.args.unpassed (pdu_of c.args.pdu.now) c.present-present.result c.args.self.now c.on_data-verdict.result c.note_state_begun.new.self c.present-present.ensures.machine (rw (c.note_state_begun.ensures, c.plan_ack.ensures.same.0) c.on_data-verdict.ensures) (returns-clause-marks c) (rw c.note_state_begun.ensures c.plan_ack.ensures.same.1) (rw (c.note_state_begun.ensures, c.plan_ack.ensures.same.2) refl)
