use Rattle.rina_dif.proofs.LinkFirst.{no_link}
use Rattle.rina_dif.proofs.dif.Dif.next_link_due.Goals as goal

pub returns-then-are_links_quiet : goal.returns-then-are_links_quiet
returns-then-are_links_quiet c = c.are_links_quiet.ensures c.if-are_links_quiet.true c.args.at

pub returns-in-Some-first_link_due-3 : goal.returns-in-Some-first_link_due-3
returns-in-Some-first_link_due-3 c = λ below links. record {
  before = (c.in_default.ensures below links, c.in_default-first_link_due.ensures below links, c.in_default-first_link_due-2.ensures below links);
  first = c.in-Some-first_link_due-3.ensures below links;
}

pub returns : goal.returns
returns c = λ below links. no_link c.args.self.now _ c.args.at (c.in_default.ensures below links) (c.in_default-first_link_due.ensures below links) (c.in_default-first_link_due-2.ensures below links) (c.in_default-first_link_due-3.ensures below links)
