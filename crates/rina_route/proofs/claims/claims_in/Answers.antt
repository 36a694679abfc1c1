-- The parts between commas, each with the edge that it claims.
use Rattle.std.proofs.Common.{◌==◌, rules}
use Rattle.std.proofs.lemmas.Iterator.{items_from_collect}
use Rattle.std.proofs.lemmas.Iterator.Consumers.{YieldsList-from_filter_map}
use Rattle.std.proofs.lemmas.Iterator.Splits.{YieldsList-from_slice_split}
use Rattle.rina_route.specs.Routes.{claim_at}
use Rattle.rina_route.proofs.claims.claims_in.Goals as goal

pub returns : goal.returns
returns c = items_from_collect _ c.collect.ensures.ran (YieldsList-from_filter_map _ (claim_at c.args.from) (YieldsList-from_slice_split _ (λ b. b == 44) c.args.text.now (cc) (cc) (cc) (λ x b q h. search rules)) c.filter_map.ensures.closure (λ x r q h. search rules))
