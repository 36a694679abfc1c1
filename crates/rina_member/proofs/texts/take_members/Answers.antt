-- One more was taken.
use Rattle.std.proofs.Common.{◌∙◌, List, ap, map, sym, take}
use Rattle.rina_newest.specs.declared.item.Item.{Item}
use Rattle.rina_newest.specs.Newest.{taken, taken_all}
use Rattle.rina_data.specs.declared.settings.Member.{Member}
use Rattle.rina_member.specs.Start.{member_item}
use Rattle.rina_member.proofs.Items.{taken_more}
use Rattle.rina_member.proofs.texts.take_members.Goals as goal

pub loop-member-preserved : goal.loop-member-preserved
loop-member-preserved c =
    c.in_ok-take_member.ensures
    ∙ ap (λ (items : List Item). taken items (member_item c.member-item.result)) c.loop-member.invariant
    ∙ ap (λ (m : Member). taken (taken_all c.args.items.now (map member_item (take c.loop-member.member-index c.args.members.now))) (member_item m)) c.member-item.is
    ∙ sym (taken_more member_item c.args.items.now c.args.members.now c.loop-member.member-index c.member-item.result c.loop-member-test.true)
