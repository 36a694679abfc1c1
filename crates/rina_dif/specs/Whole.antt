-- What holds of a DIF at every moment, whatever it stands on.
use Rattle.std.specs.Prelude.{◌≤◌}
use Rattle.rina_iface.specs.Seen.{Seen}
use Rattle.rina_dif.specs.declared.dif.Dif.{Dif}
use Rattle.rina_dif.specs.Holding.{Stands}

-- it stands on some rank below, and its clock has an end
pub record IsDif (d : Dif) : Type 0 where
  pub below : Seen
  pub stands : Stands d below
  pub clock : d.clock ≤ 10000000
