use Rattle.std.proofs.Common.{arith}
use Rattle.rina_dif.proofs.Named.{next_member}
use Rattle.rina_dif.proofs.plan.members_of.Goals as goal

pub loop-member-preserved : goal.loop-member-preserved
loop-member-preserved c =
    let next = c.loop-member.invariant.next in
    record {
      next = omega (arith, next);
      made = next_member c.args.plan.now c.args.dif.now c.args.number c.loop-member.next c.args.dif.now.members c.as_slice-member-items.result.now c.loop-member.member-index c.loop-member.members c.push.new.self c.in_ok-member_of.field-0 _ c.as_slice-member-items.ensures c.loop-member-test.true next c.in_ok-push.ensures.ok c.in_ok-member_of.ensures c.loop-member.invariant.made;
    }
