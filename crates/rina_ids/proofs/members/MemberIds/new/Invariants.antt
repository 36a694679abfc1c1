use Rattle.std.proofs.Common.{◌≡◌, ◌⊎◌}
use Rattle.rina_ids.specs.Members.{AreUndrawn}
use Rattle.rina_ids.proofs.members.MemberIds.new.Given as goal

abbrev pub invariant-loop : goal.invariant-loop
invariant-loop l = ((l.width ≡ 1) ⊎ ((l.width ≡ 2) ⊎ (l.width ≡ 4))) × AreUndrawn l.width l.counter l.items.items
