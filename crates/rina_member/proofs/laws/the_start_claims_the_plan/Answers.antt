use Rattle.rina_member.proofs.Knowing.{starts_routed}
use Rattle.rina_member.proofs.Starting.{start_claims}
use Rattle.rina_member.proofs.laws.the_start_claims_the_plan.Goals as goal

pub returns-clause-claims : goal.returns-clause-claims
returns-clause-claims c = λ is_static members plans m laid bare among. start_claims members plans laid is_static m bare among

pub returns-clause-routes : goal.returns-clause-routes
returns-clause-routes c = starts_routed
