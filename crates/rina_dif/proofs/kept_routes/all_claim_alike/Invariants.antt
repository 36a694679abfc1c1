-- Those so far claim alike.
use Rattle.std.proofs.Common.{◌≡◌, take}
use Rattle.std.specs.List.{flat_map}
use Rattle.rina_route.specs.Routes.{claims_of}
use Rattle.rina_dif.proofs.kept_routes.all_claim_alike.Given as goal

abbrev pub invariant-loop-at : goal.invariant-loop-at
invariant-loop-at l = flat_map (λ x. claims_of x.now) (take l.at l.items) ≡ flat_map (λ x. claims_of x.now) (take l.at l.others)
