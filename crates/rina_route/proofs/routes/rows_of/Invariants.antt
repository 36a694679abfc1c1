-- The nodes so far have their rows.
use Rattle.std.proofs.Common.{map, slice_index}
use Rattle.rina_route.specs.Nodes.{lifted}
use Rattle.rina_route.specs.Routes.{IsHop}
use Rattle.rina_route.proofs.Rows.{AreRows}
use Rattle.rina_route.proofs.routes.rows_of.Given as goal

abbrev pub invariant-loop-at : goal.invariant-loop-at
invariant-loop-at l = AreRows (IsHop (map (lifted l.nodes) l.graph.1) l.links (slice_index l.nodes l.start)) l.nodes l.rows.entries l.at
