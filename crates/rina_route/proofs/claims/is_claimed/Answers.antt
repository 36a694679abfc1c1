-- A search finds an edge exactly if it is there.
use Rattle.std.proofs.Common.{◌∙◌}
use Rattle.rina_route.proofs.Keys.{searched_is}
use Rattle.rina_route.proofs.claims.is_claimed.Goals as goal

pub returns : goal.returns
returns c claimed are = c.is_ok.ensures.value ∙ searched_is claimed c.args.keys.now c.args.edge c.key_of-key.result c.binary_search.result c.key_of-key.ensures c.binary_search.ensures.bound c.binary_search.ensures.position are
