-- The first place that has the name is its position among the slots.
use Rattle.rina_policy.proofs.Places.{find_is, policy_is, no_policy_is}
use Rattle.rina_policy.proofs.shelf.Shelf.find.Goals as goal

pub returns-clause-place : goal.returns-clause-place
returns-clause-place g c = find_is (λ p. p.name) (λ p. p.policy) _ c.args.self.now.places.items c.as_slice.result.now c.args.name.now c.first_of.result
    c.as_slice.ensures.value c.first_of.ensures.found c.first_of.ensures.first c.first_of.ensures.none

pub returns-clause-policy : goal.returns-clause-policy
returns-clause-policy g c = policy_is (λ p. p.name) (λ p. p.policy) c.args.self.now.places.items c.as_slice.result.now c.args.name.now c.first_of.result
    c.as_slice.ensures.value c.first_of.ensures.found c.first_of.ensures.first

pub returns-clause-none : goal.returns-clause-none
returns-clause-none g c = no_policy_is (λ p. p.name) (λ p. p.policy) c.args.self.now.places.items c.as_slice.result.now c.args.name.now c.first_of.result
    c.as_slice.ensures.value c.first_of.ensures.none
