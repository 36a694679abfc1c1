-- The edges have weights, and those at the own address are over links.
use Rattle.std.proofs.Common.{◌≡◌, ◌∙◌, Contains, map, slice_index, subst}
use Rattle.rina_route.specs.Nodes.{lifted}
use Rattle.rina_route.specs.Routes.{counted}
use Rattle.rina_route.proofs.Texts.{counted_weights, have_links}
use Rattle.rina_route.proofs.routes.Routes.rebuild_of.Goals as goal

pub graph_of-requires-clause-weights : goal.graph_of-requires-clause-weights
graph_of-requires-clause-weights c = λ e among. counted_weights c.args.own c.args.links.now c.args.claimed.now c.requires.weights e (subst (λ es. Contains es e) (c.deref-3.ensures.value ∙ c.in_ok-edges.ensures) among)

pub rows_of-requires-clause-links : goal.rows_of-requires-clause-links
rows_of-requires-clause-links c =
    let same : map (lifted c.deref-5.result.now) c.in_ok-graph.graph.1 ≡ counted c.args.own c.args.links.now c.args.claimed.now = cc (c.in_ok-edges.ensures, c.in_ok-graph.ensures.edges) in
    let own : slice_index c.deref-5.result.now c.number_of-start.result ≡ c.args.own = cc c.number_of-start.ensures.is in
    λ e among from. have_links c.args.own c.args.links.now c.args.claimed.now e (subst (λ es. Contains es e) same among) (from ∙ own)
