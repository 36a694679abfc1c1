-- One more link may be less than those before it of its neighbour and weight.
use Rattle.std.proofs.Common.{◌≡◌, ◌∙◌, ℕ, Option, MatchOption, min, get_or, subst}
use Rattle.rina_route.specs.declared.link.Link.{Link}
use Rattle.rina_route.proofs.Weights.{links_put}
use Rattle.rina_route.proofs.hop.least_links.Goals as goal

pub loop-link-preserved : goal.loop-link-preserved
loop-link-preserved c =
    let d : Link = record { number = 0; peer = 0; weight = 0 } in
    let number : ℕ = (get_or c.args.links.now c.loop-link.link-index d).number in
    let m : ℕ = c.lesser-number.result in
    links_put c.args.links.now c.loop-link.link-index d c.loop-link.least.entries c.insert.new.self.entries m c.loop-link-test.true
    (subst (λ (o : Option ℕ). MatchOption o (m ≡ number) (λ n. m ≡ min n number)) (c.copied.ensures ∙ c.get.ensures.value) c.lesser-number.ensures)
    c.in-Ok.ensures.updates.1
    c.in-Ok.ensures.updates.2
    c.loop-link.invariant
