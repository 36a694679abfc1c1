-- A node has the row of its link, if it has one.
use Rattle.std.proofs.Common.{◌+◌, ℕ, Option, length, map, slice_index, sym, ap, subst}
use Rattle.rina_graph.specs.Walks.{AreEdges}
use Rattle.rina_route.specs.Nodes.{lifted}
use Rattle.rina_route.specs.Routes.{IsHop}
use Rattle.rina_route.specs.Weights.{IsSearched}
use Rattle.rina_route.proofs.Hops.{first_in, sound_is}
use Rattle.rina_route.proofs.Rows.{AreRows, rows_same, rows_put, rows_all, no_hop}
use Rattle.rina_route.proofs.Weights.{weights_of}
use Rattle.rina_route.proofs.routes.rows_of.Goals.{in-Some+in-Ok, in-None}
use Rattle.rina_route.proofs.routes.rows_of.Goals as goal

pub hop-requires-clause-steps : goal.hop-requires-clause-steps
hop-requires-clause-steps c first is =
    let sound : AreEdges (length c.args.nodes.now) c.args.graph.now.1 = sound_is _ _ _ _ c.edges.ensures.all c.requires.nodes c.edges.ensures.sound in
    first_in c.args.nodes.now c.args.graph.now.1 c.args.links.now c.args.start c.loop-at.at c.args.tree.now c.requires.rise sound c.requires.start c.loop-at-test.true c.requires.tree first (sym is)

pub loop-at-preserved : goal.loop-at-preserved
loop-at-preserved c =
    let P : ℕ → Option ℕ → Type 0 = IsHop (map (lifted c.args.nodes.now) c.args.graph.now.1) c.args.links.now (slice_index c.args.nodes.now c.args.start) in
    let searched : IsSearched c.args.start c.args.graph.now.1 c.args.nodes.now c.args.links.now c.deref.result.now c.args.tree.now = record {
      rise = c.requires.rise;
      sound = sound_is _ _ _ _ c.edges.ensures.all c.requires.nodes c.edges.ensures.sound;
      inside = c.requires.start;
      weighed = weights_of c.args.start (length c.args.nodes.now) c.edges.result.now c.args.graph.now.1 c.deref.result.now c.in_ok-weights.weights.items c.edges.ensures.all c.deref.ensures.value c.in_ok-weights.ensures;
      walked = c.requires.tree;
      linked = c.requires.links;
    } in
    elim c.match-hop.branch [
      | in-Some+in-Ok w ↦ subst (λ m. AreRows P c.args.nodes.now m.entries (c.loop-at.at + 1)) (sym w.rows-is) (rows_put P c.args.nodes.now c.loop-at.rows.entries w.insert.new.self.entries c.loop-at.at w.in-Some.number c.requires.rise c.loop-at-test.true (w.in-Some.ensures c.args.start c.args.graph.now.1 c.args.links.now c.in_ok-least.ensures searched) w.in-Ok.ensures.updates.1 w.in-Ok.ensures.updates.2 c.loop-at.invariant)
      | in-None w ↦ rows_same P c.args.nodes.now c.loop-at.rows.entries c.match-hop.rows.entries c.loop-at.at c.requires.rise c.loop-at-test.true (w.in-None.ensures c.args.start c.args.graph.now.1 c.args.links.now c.in_ok-least.ensures searched) (ap (λ m. m.entries) w.rows-is) c.loop-at.invariant
    ]

pub returns : goal.returns
returns c =
    let edges = map (lifted c.args.nodes.now) c.args.graph.now.1 in
    let own = slice_index c.args.nodes.now c.args.start in
    rows_all (IsHop edges c.args.links.now own) c.args.nodes.now c.loop-at.rows.entries c.loop-at.at c.loop-at-test.false c.loop-at.auto.at-end c.loop-at.invariant (λ q none. no_hop own q edges c.args.links.now c.args.nodes.now c.requires.ends none)
