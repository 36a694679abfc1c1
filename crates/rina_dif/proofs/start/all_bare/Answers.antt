use Rattle.rina_dif.proofs.Bare.{one_more}
use Rattle.rina_dif.proofs.start.all_bare.Goals as goal

pub loop-member-preserved : goal.loop-member-preserved
loop-member-preserved c = one_more c.args.settings.now c.loop-member._member-index c.loop-member.processes c.push.new.self c.in_ok-bare.field-0 c.loop-member.invariant c.in_ok-bare.ensures c.in_ok-push.ensures.ok
