use Rattle.std.proofs.Common.{arith, length, refl}
use Rattle.std.proofs.lemmas.Option.{slice_get_read}
use Rattle.rina_dif.proofs.FarLooks.{far_nowhere, none_before, one_more_none}
use Rattle.rina_dif.proofs.far_ends.has_far.Goals as goal

pub loop-end-init : goal.loop-end-init
loop-end-init c = none_before c.args.ends.now c.args.flow

pub loop-end-preserved : goal.loop-end-preserved
loop-end-preserved c = one_more_none c.args.ends.now c.args.flow c.loop-end.end-index c.end-item.result c.is_far_of.result (slice_get_read c.args.ends.now (length c.args.ends.now) c.loop-end.end-index c.end-item.result refl c.loop-end-test.true c.end-item.is) c.loop-end.invariant c.is_far_of.ensures c.if-is_far_of.false

pub returns : goal.returns
returns c = far_nowhere c.args.ends.now c.args.flow c.loop-end.end-index (omega arith) c.loop-end.invariant
