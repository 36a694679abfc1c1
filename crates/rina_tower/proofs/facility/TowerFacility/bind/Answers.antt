use Rattle.rina_iface.proofs.Later.{later_refl}
use Rattle.rina_tower.specs.Levels.{same_refl}
use Rattle.rina_tower.proofs.facility.TowerFacility.bind.Goals as goal

pub returns-then-has_failed-clause-below : goal.returns-then-has_failed-clause-below
returns-then-has_failed-clause-below c = same_refl _

pub returns-then-has_failed-clause-later : goal.returns-then-has_failed-clause-later
returns-then-has_failed-clause-later c = later_refl _
