-- What one more item claims comes behind; what is no link state claims nothing.
use Rattle.std.proofs.Common.{◌∙◌, ap, map}
use Rattle.rina_route.specs.Routes.{claims_of}
use Rattle.rina_route.proofs.Texts.{claims_more, claims_all}
use Rattle.rina_route.proofs.claims.claimed.Goals as goal

pub loop-item-preserved : goal.loop-item-preserved
loop-item-preserved c = claims_more claims_of (λ x. x.now) c.deref-item-items.result.now c.loop-item.item-index c.item-item.result c.loop-item.edges.items c.in_ok-claims_of.field-0.items c.append.new.self.items c.loop-item-test.true c.item-item.is c.in_ok-claims_of.ensures c.in_ok-append.ensures.items c.loop-item.invariant

pub returns : goal.returns
returns c = claims_all (λ x. x.now) c.deref-item-items.result.now c.loop-item.item-index c.args.states.now c.loop-item.edges.items c.loop-item-test.false (ap (map (λ x. x.now)) c.deref-item-items.ensures.value ∙ c.in_ok-found.ensures) c.loop-item.invariant
