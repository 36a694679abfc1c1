use Rattle.rina_dtcp.proofs.Rising.{made_one, rise_added}
use Rattle.rina_dtcp.proofs.tx.Tx.keep_copy.Goals as goal

pub invariant_of-self : goal.invariant_of-self
invariant_of-self c = rw c.in_err-append.ensures.err c.self.invariant

pub invariant_of-self-2 : goal.invariant_of-self-2
invariant_of-self-2 c = rw c.in_ok-append.ensures.ok (rise_added c.self.inside.cube c.args.now c.mixed_with-mixed.result c.self.inside.unacked.items _ c.mixed_with-mixed.ensures.among c.mixed_with-mixed.ensures.then (made_one c.args.now c.in_ok-copy_of.field-0))
