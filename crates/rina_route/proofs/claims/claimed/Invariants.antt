-- What the items so far claim.
use Rattle.std.proofs.Common.{◌≡◌, map, take}
use Rattle.std.specs.List.{flat_map}
use Rattle.rina_route.specs.Routes.{claims_of}
use Rattle.rina_route.proofs.claims.claimed.Given as goal

abbrev pub invariant-loop-item : goal.invariant-loop-item
invariant-loop-item l = l.edges.items ≡ flat_map claims_of (take l.item-index (map (λ x. x.now) l.item-items))
