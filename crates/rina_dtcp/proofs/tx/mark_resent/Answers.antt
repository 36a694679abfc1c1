use Rattle.rina_dtcp.proofs.Touching.{touched_set}
use Rattle.rina_dtcp.proofs.tx.mark_resent.Goals as goal

pub returns : goal.returns
returns c = touched_set c.args.unacked.now.items c.args.place c.args.now c.index_mut.result.now c.requires c.index_mut.ensures.value
