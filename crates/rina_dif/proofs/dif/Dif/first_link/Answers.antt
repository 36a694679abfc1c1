use Rattle.std.proofs.Common.{arith}
use Rattle.rina_dif.proofs.LinkFirst.{flow_before, flows_alone, link_alone, link_before}
use Rattle.rina_dif.proofs.dif.Dif.first_link.Goals as goal

pub returns-in_err-link-clause-first : goal.returns-in_err-link-clause-first
returns-in_err-link-clause-first c = rw c.from_residual.ensures (λ lines below h links. flows_alone c.args.self.now lines links.lines c.args.at c.args.node (c.in_err-link.ensures below links))

pub returns-in-Some-clause-first : goal.returns-in-Some-clause-first
returns-in-Some-clause-first c = λ lines below h links.
    let flow = c.in-Some.flow in
    let link = c.in_ok-link.link in
    let near = c.rank.ensures in
    let lt = c.if-rank.true in
    flow_before flow.item link.item c.args.self.now lines links.lines c.args.at c.args.node flow.turn.place flow.turn.cep (c.in-Some.ensures lines below h) (c.in_ok-link.ensures below links).before (omega (arith, near, lt))

pub returns-in_default-clause-first : goal.returns-in_default-clause-first
returns-in_default-clause-first c = λ lines below h links.
    let flow = c.in-Some.flow in
    let link = c.in_ok-link.link in
    let near = c.rank.ensures in
    let ge = c.if-rank.false in
    link_before flow.item link.item c.args.self.now lines links.lines c.args.at c.args.node flow.turn.place flow.turn.cep link.turn.place link.turn.number (c.in-Some.ensures lines below h) (c.in_ok-link.ensures below links) (omega (arith, near, ge))

pub returns-in_default-2-clause-first : goal.returns-in_default-2-clause-first
returns-in_default-2-clause-first c = λ lines below h links.
    let link = c.in_ok-link.link in
    link_alone link.item c.args.self.now lines links.lines c.args.at c.args.node link.turn.place link.turn.number (c.in_default.ensures lines below h) (c.in_ok-link.ensures below links)
