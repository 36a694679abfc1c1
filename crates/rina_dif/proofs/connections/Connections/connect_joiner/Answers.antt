use Rattle.std.proofs.Common.{◌∙◌, ap, suc}
use Rattle.rina_dif.proofs.TakenLinks.{connects_joiner}
use Rattle.rina_dif.proofs.connections.Connections.connect_joiner.Goals as goal

pub returns-clause-ok : goal.returns-clause-ok
returns-clause-ok c =
    let places = c.in-Some.ensures in
    connects_joiner c.args.settings.now c.args.clock c.args.members.0 c.args.members.1 c.in-Some-Some.joiner.now c.in-Some-Some.member.now c.args.link c.args.self.now c.add_both.new.self c.in-Some.place c.in-Some.partner c.no_port-its_port.result c.in_ok-asker.asker c.in_ok-end.end c.add_both.result
    (places.0 ∙ c.len.ensures) (places.1 ∙ ap suc c.len.ensures) places.2 c.in-Some-Some.ensures c.in-Some-Some.ensures' c.no_port-its_port.ensures c.in_ok-asker.ensures c.in_ok-end.ensures c.add_both.ensures.manage c.add_both.ensures.channels c.add_both.ensures.ends c.add_both.ensures.adds
