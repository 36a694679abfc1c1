use Rattle.std.proofs.Common.{◌∙◌, arith, sym}
use Rattle.rina_dif.proofs.Enrolled.{state_is}
use Rattle.rina_dif.proofs.Unlinked.{agent_within}
use Rattle.rina_dif.proofs.dif.Dif.member.Goals as goal

pub unreachable-requires : goal.unreachable-requires
unreachable-requires c = (let within = agent_within c.args.self.now c.requires.below c.in_ok-home.home c.in_ok-home.ensures.within c.requires.stands in let none = c.in_default.ensures in absurd (omega (arith, within, none)))

pub returns : goal.returns
returns c = state_is c.args.self.now c.args.node c.in_ok-home.home c.in-Some.management.now (sym c.place_at_node.ensures.place ∙ c.in_ok-home.was) c.in-Some.ensures
