-- The copies of a frame that are put in flight.
use Rattle.std.specs.Prelude.{List, [], ◌∷◌}
use Rattle.rina_wire.specs.declared.flight.Flight.{Flight}
use Rattle.rina_wire.specs.declared.wire.frame.Copies.{Copies}
use Rattle.rina_wire.specs.declared.wire.frame.Copies.TheVariants.{Lost, Once, Twice}

-- in the order in which they are made
unfoldable pub listed : Copies → List Flight
listed Lost = []
listed (Once flight) = flight ∷ []
listed (Twice flight copy) = flight ∷ copy ∷ []
