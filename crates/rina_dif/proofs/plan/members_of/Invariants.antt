use Rattle.std.proofs.Common.{◌≡◌, ◌+◌, take}
use Rattle.rina_dif.specs.Planned.{members_from}
use Rattle.rina_dif.proofs.plan.members_of.Given as goal

abbrev pub invariant-loop-member : goal.invariant-loop-member
invariant-loop-member l = record {
  next : l.next ≡ l.number + l.member-index;
  made : l.members ≡ members_from l.plan l.dif l.number (take l.member-index l.dif.members);
}
