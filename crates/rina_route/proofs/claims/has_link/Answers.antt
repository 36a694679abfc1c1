-- A search finds a neighbour and a weight exactly if a link is there.
use Rattle.std.proofs.Common.{◌∙◌}
use Rattle.rina_route.proofs.Keys.{linked_found}
use Rattle.rina_route.proofs.claims.has_link.Goals as goal

pub returns : goal.returns
returns c links are = c.is_ok.ensures.value ∙ linked_found links c.args.ends.now (c.args.peer, c.args.weight) c.binary_search.result c.binary_search.ensures.bound c.binary_search.ensures.position are
