-- Before and behind the first colon.
use Rattle.std.proofs.Common.{sym, arith}
use Rattle.std.proofs.lemmas.Grind.{common_steps}
use Rattle.rina_route.proofs.Texts.{at_colon, no_colon}
use Rattle.rina_route.proofs.claims.claim.Goals as goal

pub returns-in-Some : goal.returns-in-Some
returns-in-Some c = let e = at_colon c.args.from c.args.part.now c.in-Some.colon c.in-Some.ensures.is in grind (arith, common_steps, e)

pub returns-in-None : goal.returns-in-None
returns-in-None c = sym (no_colon c.args.from c.args.part.now c.in-None.ensures.is)
