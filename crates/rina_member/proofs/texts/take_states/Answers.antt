-- One more was taken.
use Rattle.std.proofs.Common.{◌∙◌, List, ap, map, sym, take}
use Rattle.rina_newest.specs.declared.item.Item.{Item}
use Rattle.rina_newest.specs.Newest.{taken, taken_all}
use Rattle.rina_data.specs.declared.settings.Member.{Member}
use Rattle.rina_member.specs.Start.{state_item}
use Rattle.rina_member.proofs.Items.{taken_more}
use Rattle.rina_member.proofs.texts.take_states.Goals as goal

pub loop-member-preserved : goal.loop-member-preserved
loop-member-preserved c =
    c.in_ok-take_state.ensures
    ∙ ap (λ (items : List Item). taken items ((state_item c.args.members.now c.args.plans.now) c.member-item.result)) c.loop-member.invariant
    ∙ ap (λ (m : Member). taken (taken_all c.args.items.now (map (state_item c.args.members.now c.args.plans.now) (take c.loop-member.member-index c.args.members.now))) ((state_item c.args.members.now c.args.plans.now) m)) c.member-item.is
    ∙ sym (taken_more (state_item c.args.members.now c.args.plans.now) c.args.items.now c.args.members.now c.loop-member.member-index c.member-item.result c.loop-member-test.true)
