use Rattle.rina_dtcp.specs.Senders.{flag_of}
use Rattle.rina_conn.specs.Carrying.{carry, part_in}
use Rattle.rina_conn.proofs.Making.{made_next}
use Rattle.rina_conn.proofs.sending.Sending.make_pdus.Goals as goal

pub loop-place-preserved : goal.loop-place-preserved
loop-place-preserved c =
    let s = c.args.self.now in
    made_next (λ n. flag_of c.args.now n s.tx) (carry s.form.peer s.form.cube.id) (part_in c.args.sdu.now) c.args.first c.loop-place.place c.args.parts.now c.loop-place.pdus _ c.push.new.self c.in_ok-pdu_of_part.field-0 c.loop-place-test.true c.in_ok-pdu_of_part.ensures c.loop-place.invariant c.in_ok-push.ensures.ok
