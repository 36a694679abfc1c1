-- The member items of the members so far were taken.
use Rattle.std.proofs.Common.{◌≡◌, map, take}
use Rattle.rina_newest.specs.Newest.{taken_all}
use Rattle.rina_member.specs.Start.{member_item}
use Rattle.rina_member.proofs.texts.take_members.Given as goal

abbrev pub invariant-loop-member : goal.invariant-loop-member
invariant-loop-member l = l.items ≡ taken_all l.fn.items (map member_item (take l.member-index l.members))
