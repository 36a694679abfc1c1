-- One more management is as it starts.
use Rattle.std.proofs.Common.{arith}
use Rattle.rina_dif.proofs.Started.{shown_begun, turn_started}
use Rattle.rina_dif.proofs.managements.start_all.Goals as goal

pub loop-at-preserved : goal.loop-at-preserved
loop-at-preserved c =
    let lt = c.loop-at-test.true in (
      omega (arith, lt),
      turn_started c.args.is_static c.args.cubes.now c.args.members.now c.args.plans.now c.args.rules.now c.args.allow c.loop-at.at c.args.processes.now c.loop-at.managements c.push.new.self c.index-members-at.result c.in-Some.process.now c.as_slice-links.result.now c.in_ok-access.access _ c.loop-at.invariant.1 lt c.index-members-at.is c.in-Some.ensures c.as_slice-links.ensures c.in_ok-access.ensures.listed c.in_ok-access.ensures.otherwise c.in_ok-agent.ensures (shown_begun c.args.cubes.now _ _ _ _ _ _ _ c.starts_enrolled-enrolled.ensures c.in_ok-objects.ensures c.in_ok-shown.ensures.enrolled c.in_ok-shown.ensures.outside c.in_ok-items.ensures) c.in_ok-push.ensures.ok,
    )
