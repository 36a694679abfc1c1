-- The first step of a least walk, and its link.
use Rattle.std.proofs.Common.{◌<◌, ◌∙◌, get_or, length, sym, subst, arith}
use Rattle.rina_graph.specs.declared.graph.Edge.{Edge}
use Rattle.rina_route.specs.declared.link.Link.{Link}
use Rattle.rina_route.specs.Routes.{joins, leads_to, IsLeastIfAny}
use Rattle.rina_route.proofs.Hops.{hop_none, some_weight, hop_some}
use Rattle.rina_route.proofs.hop.hop.Goals as goal

pub bounds : goal.bounds
bounds c = let lt = c.requires.steps c.in-Some.first (sym c.in-Some.ensures) in omega (arith, lt, c.requires.weighed)

pub returns-in-None : goal.returns-in-None
returns-in-None c start edges own links s = hop_none c.args.nodes.now edges own start c.args.at c.args.tree.now s.rise s.sound s.inside c.requires.at s.walked c.in-None.ensures

pub returns-in-None-weights : goal.returns-in-None-weights
returns-in-None-weights c start edges own links s =
    let lt : c.in-Some.first < length c.args.nodes.now = c.requires.steps c.in-Some.first (sym c.in-Some.ensures) in
    absurd (some_weight c.args.nodes.now edges own start c.args.at c.args.tree.now s.rise s.sound s.inside c.requires.at s.walked c.in-Some.first c.in-Some.ensures
    (subst (IsLeastIfAny (joins start c.in-Some.first) (λ (e : Edge). e.weight) edges) c.in-None-weights.is (s.weighed.least c.in-Some.first lt)))

pub returns-in-Some-weights : goal.returns-in-Some-weights
returns-in-Some-weights c start edges own links s =
    let lt : c.in-Some.first < length c.args.nodes.now = c.requires.steps c.in-Some.first (sym c.in-Some.ensures) in
    hop_some c.args.nodes.now edges own start c.args.at c.args.tree.now s.rise s.sound s.inside c.requires.at s.walked c.in-Some.first c.in-Some-weights.weight c.copied.result c.in-Some.ensures s.linked
    (subst (IsLeastIfAny (joins start c.in-Some.first) (λ (e : Edge). e.weight) edges) c.in-Some-weights.is (s.weighed.least c.in-Some.first lt))
    (subst (IsLeastIfAny (leads_to (get_or c.args.nodes.now c.in-Some.first 0) c.in-Some-weights.weight) (λ (l : Link). l.number) own) (sym (c.copied.ensures ∙ c.get.ensures.value)) (links (get_or c.args.nodes.now c.in-Some.first 0, c.in-Some-weights.weight)))
