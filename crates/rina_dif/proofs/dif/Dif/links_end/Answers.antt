use Rattle.rina_dif.proofs.Serving.{links_end}
use Rattle.rina_dif.proofs.dif.Dif.links_end.Goals as goal

pub returns-in-Some : goal.returns-in-Some
returns-in-Some c = λ below links.
    let turn = c.in-Some.link.turn in
    links_end c.in-Some.link.item c.args.self.now links.lines c.args.at turn.place turn.number c.rank.result c.rank-in-Some.result (c.in-Some.ensures below links) c.rank.ensures c.rank-in-Some.ensures

pub returns-in-None : goal.returns-in-None
returns-in-None c = λ below links. (let none = c.in-None.ensures below links in (none.0.0, none.0.1))
