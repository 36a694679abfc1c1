-- The bounds of a direction of a connection: how long what it knows lasts, in ticks.
use Rattle.std.specs.Prelude.{ℕ, ◌*◌}
use Rattle.rina_law.specs.Constants.{Constants, delta}

-- the receiver's state stands so long after the last piece that counted, and so long after it acknowledgements may be
-- made; a sender that is idle has none from so long after it last made a piece on, and begins again; and a number may
-- be sent again until so long after it was first sent
pub record Bounds : Type 0 where
  pub stands : ℕ
  pub acks : ℕ
  pub begins : ℕ
  pub again : ℕ

-- those of Watson's delta-t. What the machine does by a bound has a name that ends in `_by` and takes the bounds; the
-- name without it is what it does by these
abbrev pub bounds_of : Constants → Bounds
bounds_of c = record { stands = 2 * delta c; acks = delta c; begins = 3 * delta c; again = c.cube.r }
