use Rattle.rina_wire.proofs.Later.{claims_later}
use Rattle.rina_wire.proofs.Sound.{sound_claims}
use Rattle.rina_wire.proofs.wires.facility.WiresFacility.incoming.Goals as goal

pub returns-clause-valid : goal.returns-clause-valid
returns-clause-valid c = sound_claims _ _ _ _ _ _ c.requires c.claim.ensures

pub returns-clause-later : goal.returns-clause-later
returns-clause-later c = claims_later _ _ _ _ _ _ c.claim.ensures
