-- The value that stood there is put back.
use Rattle.std.proofs.Common.{slice_set, refl}
use Rattle.rina_agent.proofs.Links.{put_back}
use Rattle.rina_agent.proofs.vectors.swap.Goals as goal

pub returns-clause-back : goal.returns-clause-back
returns-clause-back g c = put_back c.args.values.now.items (slice_set c.args.values.now.items c.args.at c.swap.new.x) c.args.at c.swap.new.y c.swap.new.x refl (cc)
